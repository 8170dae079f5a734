-- What an eye may publish, and what it has published.
use Rattle.std.proofs.Common.{◌≡◌, subst, sym}
use Rattle.edit_core.specs.Events.{SeenEvent, AnEdit, ALoad, AClaim, AFinish, APark, AnAsk}
use Rattle.edit_core.specs.Runs.{IsCheckOf, last_board}
use Rattle.edit_core.specs.Seen.{Seen}
use Rattle.board_share.specs.Events.{MayPublish}
use Rattle.board_share.specs.Eyes.{EyeSeen, IsLater}
use Rattle.board_share.proofs.Prefixes.{prefix_trans}

-- an eye that knows more may publish all that it might before
pub may-later : (old new : EyeSeen) (event : SeenEvent) → IsLater old new
    → MayPublish old.run event → MayPublish new.run event
may-later old new (AnEdit session edit) later may = tt
may-later old new (ALoad lexicon) later may = tt
may-later old new (AClaim worker id rev) later may = tt
may-later old new (AFinish worker id rev dict text lexicon) later may = record {
  front = may.front;
  begins = prefix_trans may.front old.run.entries new.run.entries may.begins later.begins;
  dict_is = subst (λ (opening : Seen). (last_board opening may.front).dict_version ≡ dict)
      (sym later.opening) may.dict_is;
  check = subst (λ (opening : Seen). IsCheckOf (last_board opening may.front) id rev text lexicon)
      (sym later.opening) may.check;
}
may-later old new (APark session id) later may = tt
may-later old new (AnAsk session id) later may = tt
