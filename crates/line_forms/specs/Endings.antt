-- How a dialogue ends, by how the reading of its input has ended and whether its console was stopped.
use Rattle.std.specs.Prelude.{Option, None, Some}
use Rattle.board_share.specs.edit_core.Runs.{Run}
use Rattle.input_lines.specs.declared.reading_end.ReadingEnd.{ReadingEnd}
use Rattle.input_lines.specs.declared.reading_end.ReadingEnd.TheVariants.{Finished, NoMemory}
use Rattle.desk_console.specs.declared.stop.Stop.{Stop}

-- a console that was stopped has met want of memory, whatever of its input was read
abbrev pub reading_end_with_stop : ReadingEnd → Option Stop → ReadingEnd
reading_end_with_stop Finished (Some why) = NoMemory
reading_end_with_stop ended stopped = ended

abbrev pub history_of : ReadingEnd → Option Stop → Run → Option Run
history_of Finished None history = Some history
history_of ended stopped history = None
