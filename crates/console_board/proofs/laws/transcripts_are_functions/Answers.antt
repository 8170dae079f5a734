-- By induction on what the lines ask for.
use Rattle.console_board.proofs.TranscriptLaws.{transcript-once}
use Rattle.console_board.proofs.laws.transcripts_are_functions.Goals as goal

pub returns : goal.returns
returns c = transcript-once
