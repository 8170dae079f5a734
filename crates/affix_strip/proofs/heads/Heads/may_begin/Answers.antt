-- The word begins with no head, and with nothing that a prefix adds.
use Rattle.affix_strip.specs.Heads.{Unheaded}
use Rattle.affix_strip.proofs.heads.Heads.may_begin.Goals as goal

pub returns-else-has_head : goal.returns-else-has_head
returns-else-has_head c = λ none.
    Unheaded c.in-Some.heads c.in-Some.is (c.has_head.ensures c.if-has_head.false)
    (c.may_begin.ensures none)
