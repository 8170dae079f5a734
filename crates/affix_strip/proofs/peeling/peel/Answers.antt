-- The affixes of so many characters more are peeled off.
use Rattle.std.proofs.Common.{rules, subst, arith, sym, ◌≤◌, length}
use Rattle.affix_strip.proofs.PeelLemmas.{ArePeeledBelow, peeled-none, peeled-more, peeled-all}
use Rattle.affix_strip.proofs.peeling.peel.Goals as goal

pub loop-count-init : goal.loop-count-init
loop-count-init c =
    λ rs holds. subst (ArePeeledBelow rs c.args.side c.args.word.now 0)
    (sym c.new-found.ensures.items) (peeled-none rs c.args.side c.args.word.now)

pub loop-count-preserved : goal.loop-count-preserved
loop-count-preserved c = λ rs holds.
    let within : c.loop-count.count ≤ length c.args.word.now = search (rules) in
    subst (ArePeeledBelow rs c.args.side c.args.word.now _) (sym c.in_ok-add_groups.ensures)
    (peeled-more rs c.args.side c.args.word.now c.loop-count.count within _ _ c.cut.ensures
    c.groups.result (c.groups.ensures rs holds) c.loop-count.found.items
    (c.loop-count.invariant rs holds))

pub returns : goal.returns
returns c = λ rs holds.
    peeled-all rs c.args.side c.args.word.now c.reach-count-end.result c.loop-count.count
    c.loop-count.found.items
    (λ place rule on has. c.reach-count-end.ensures.rules rs holds place rule on has)
    (omega arith) (c.loop-count.invariant rs holds)
