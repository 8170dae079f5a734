-- Each place, or those that words without a prefix lead to and those behind prefixes.
use Rattle.std.proofs.Common.{◌∙◌, sym}
use Rattle.affix_strip.proofs.ReachingLemmas.{parts-each, parts-both}
use Rattle.affix_strip.proofs.inside.Inside.reach_parts.Goals as goal

pub returns : goal.returns
returns c = parts-both c.if-fronts.false c.reach_words.ensures c.reach_behind.ensures

pub returns-then-fronts : goal.returns-then-fronts
returns-then-fronts c =
    parts-each c.args.self.now.known c.args.fronts.now c.args.self.now.ends c.args.text.now
    c.args.at (c.requires ∙ sym c.reach_all.ensures.kept.long) c.reach_all.ensures
