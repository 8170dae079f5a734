-- What a load makes of a console.
use Rattle.std.proofs.Common.{◌≡◌, ◌∙◌, refl, ap, ◌+◌, List}
use Rattle.std.proofs.Common.{[], ◌∷◌, map}
use Rattle.console_lang.specs.declared.reply.Reply.TheVariants.{Dict}
use Rattle.mark_types.specs.spell_types.declared.Lexicon.{Lexicon}
use Rattle.edit_core.specs.Events.{ALoad}
use Rattle.edit_core.specs.Seen.{Seen}
use Rattle.edit_core.specs.Steps.{Step, reloaded}
use Rattle.edit_core.specs.declared.state.Standing.{Standing}
use Rattle.edit_core.specs.declared.state.Standing.TheVariants as standing
use Rattle.console_board.specs.Boards.{console_of, state_of}
use Rattle.console_board.specs.Consoles.{console_after_load, state_reloaded}
use Rattle.console_board.specs.Transcripts.{HasOutcome}

stands-reloaded : (standings : List Standing)
    → map state_of (map reloaded standings) ≡ map state_reloaded (map state_of standings)
stands-reloaded [] = refl
stands-reloaded (standing.Parked ∷ standings) = cc (stands-reloaded standings)
stands-reloaded (_ ∷ standings) = cc (stands-reloaded standings)

pub load-is : {board after : Seen} {lexicon : Lexicon} → Step board (ALoad lexicon) after
    → HasOutcome (console_after_load (console_of board) lexicon) (Dict after.dict_version) (console_of after)
load-is {board} {after} {lexicon} step = (
  ap (λ (b : Seen). Dict b.dict_version) step.makes,
  ap console_of step.makes
      ∙ ap (λ stands. record (console_of board)
      { dict_version = board.dict_version + 1; lexicon = lexicon; states = stands })
      (stands-reloaded board.standings),
)
