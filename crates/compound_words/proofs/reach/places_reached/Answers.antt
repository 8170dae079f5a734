-- Each place is told.
use Rattle.std.proofs.Common.{◌∙◌, ap, true, false, length}
use Rattle.std.proofs.lemmas.List.{get_or-replicate}
use Rattle.affix_strip.specs.Reaching.{is_reached}
use Rattle.compound_words.proofs.ReachLemmas.{all-reached}
use Rattle.compound_words.proofs.reach.places_reached.Goals as goal

pub returns-then-has_joints : goal.returns-then-has_joints
returns-then-has_joints c =
    all-reached c.args.word.now c.in_ok-vec.field-0.items (λ place within.
    ap (λ reached. is_reached reached place)
    (c.in_ok-vec.ensures.items_if_clones_equal (λ y is. is))
    ∙ get_or-replicate (length c.args.word.now) place true false within)
