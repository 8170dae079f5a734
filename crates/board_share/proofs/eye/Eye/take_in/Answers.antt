-- The front has one entry more than the eye knew, and it came through the eye.
use Rattle.std.proofs.Common.{◌≡◌, ◌∙◌, sym, ap, subst, [], ◌∷◌, ◌++◌, length, arith}
use Rattle.std.proofs.Common.{length-append}
use Rattle.edit_core.specs.Events.{kind_of}
use Rattle.board_share.specs.Eyes.{IsCounted, counted}
use Rattle.board_share.proofs.Counting.{counted-one}
use Rattle.board_share.proofs.eye.Eye.take_in.Goals as goal

pub counted-self-inside-requires : goal.counted-self-inside-requires
counted-self-inside-requires g c =
    let inside = c.self.inside in
    let most = c.counts_stay_true.ensures.few inside.number inside.front inside.counts
    c.self.invariant.counted in
    let front : c.args.front ≡ inside.front ++ c.args.note.now ∷ [] =
    c.requires.next ∙ ap (λ e. e.run.entries ++ c.args.note.now ∷ []) (sym c.self.view_is) in
    let long = ap length front ∙ length-append inside.front (c.args.note.now ∷ []) in
    omega (arith, most, long, c.count-most.ensures, c.count-most.type_inv)

pub invariant_of-self : goal.invariant_of-self
invariant_of-self g c =
    let inside = c.self.inside in
    let note = c.args.note.now in
    let front : c.args.front ≡ inside.front ++ note ∷ [] =
    c.requires.next ∙ ap (λ e. e.run.entries ++ note ∷ []) (sym c.self.view_is) in
    let own : note.by ≡ inside.number =
    c.requires.own ∙ ap (λ e. e.number) (sym c.self.view_is) in
    let more = c.counts_stay_true.ensures.more inside.number inside.front note.event note.board
    inside.counts c.self.invariant.counted in
    record {
      counted = rw (front, c.counted-self-inside.ensures, c.requires.kind)
          (subst (λ n. IsCounted inside.number
          (inside.front ++ record { by = n; event = note.event; board = note.board } ∷ [])
          (counted (kind_of note.event) inside.counts)) (sym own) more);
      part = c.add.ensures.parts ∙ c.self.invariant.part;
      amount_is = rw (
        c.counted-self-inside.ensures,
        c.add.ensures.amount,
        c.self.invariant.amount_is,
      ) (sym (counted-one c.args.kind inside.counts));
    }
