-- The claim's board stands before the worker's own entry.
use Rattle.std.proofs.Common.{◌≡◌, ◌++◌, sym, ap}
use mathlib.Core.List.{IsPrefix}
use Rattle.board_share.specs.edit_core.Runs.{last_board}
use Rattle.board_share.specs.edit_core.Seen.{Seen}
use Rattle.check_workers.specs.Knowing.{KnowsBoard}
use Rattle.check_workers.proofs.Known.{claim-known, front-valid}
use Rattle.check_workers.proofs.laws.claims_are_known.Goals as goal

pub returns : goal.returns
returns g c worker old new claim is later claimed =
    let front = old.run.entries ++ claimed.between in
    let board = last_board old.run.opening front in
    let begins : IsPrefix front new.run.entries = (_, sym claimed.entries) in
    let same : last_board new.run.opening front ≡ board =
    ap (λ (opening : Seen). last_board opening front) later.opening in
    let knows : KnowsBoard new.run board =
    record { front = front; begins = begins; board_is = same } in
    let first = claimed.first in
    claim-known g.J.Judge.lexicon c.ids_name_paragraphs.ensures.own new.run board first.place
    first.paragraph claim knows
    (rw (← same)
    (front-valid c.fronts_are_runs.ensures.front c.fronts_are_runs.ensures.valid new.run front is
    begins))
    first.at
    (record {
      id = first.id;
      rev = first.rev;
      dict = first.dict;
      text = first.text;
      lexicon = first.lexicon;
    })
