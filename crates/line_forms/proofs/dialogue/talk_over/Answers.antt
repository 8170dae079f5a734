-- The history of the desk is that of the console.
use Rattle.std.proofs.Common.{◌∙◌, map, subst, sym}
use Rattle.std.specs.List.{range_with_len}
use Rattle.std.specs.List.Sorted.{IsPermutation}
use Rattle.board_share.specs.Eyes.{EyeSeen}
use Rattle.line_forms.proofs.Closings.{all-numbered, closed-at, failed-more, is-over, never-spent}
use Rattle.line_forms.proofs.Closings.{same-folder}
use Rattle.line_forms.proofs.dialogue.talk_over.Goals as goal

pub close-closed-requires : goal.close-closed-requires
close-closed-requires g c =
    let all = all-numbered c.args.workers (g.O.Dictionary.seen c.args.dictionary) _
    c.told_consoles_keep_their_eyes.ensures c.in_ok-talked.ensures.behind in
    subst (λ n. IsPermutation (range_with_len 0 n)
    (map (λ (eye : EyeSeen). eye.number) c.in_ok-talked.talked.eyes.items)) (all.count ∙ sym c.requires.parts) all.permuted

pub concluded-requires : goal.concluded-requires
concluded-requires g c =
    never-spent c.args.workers (g.O.Dictionary.seen c.args.dictionary) _
    c.told_consoles_keep_their_eyes.ensures c.in_ok-talked.ensures.behind c.close-closed.ensures
    c.closed_consoles_are_not_spent.ensures

pub returns-clause-over : goal.returns-clause-over
returns-clause-over g c =
    is-over c.args.workers (g.O.Dictionary.seen c.args.dictionary) _
    c.told_consoles_keep_their_eyes.ensures c.in_ok-talked.ensures.behind c.close-closed.ensures
    c.closed_consoles_are_followed.ensures c.concluded.ensures.ended c.concluded.ensures.closed

pub returns-clause-closed : goal.returns-clause-closed
returns-clause-closed g c =
    closed-at c.in_ok-talked.talked.ended c.in_ok-talked.talked.stopped c.close-closed.result
    c.concluded.ensures.ended c.concluded.ensures.closed

pub returns-clause-same : goal.returns-clause-same
returns-clause-same g c =
    same-folder c.args.workers (g.O.Dictionary.seen c.args.dictionary) _
    c.told_consoles_keep_their_eyes.ensures c.in_ok-talked.ensures.behind

pub returns-clause-files_count : goal.returns-clause-files_count
returns-clause-files_count g c =
    failed-more c.args.workers (g.O.Dictionary.seen c.args.dictionary) _
    c.told_consoles_keep_their_eyes.ensures c.in_ok-talked.ensures.behind
