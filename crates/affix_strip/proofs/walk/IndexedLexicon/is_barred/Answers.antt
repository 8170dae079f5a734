-- Nothing is forbidden, or forbidden words are those of entries, or all derivations are asked.
use Rattle.std.proofs.Common.{subst}
use Rattle.affix_strip.specs.Tables.{IsBarring}
use Rattle.affix_strip.proofs.QuestionLemmas.{if_answered, none-forbidden, none-from, barred-bare}
use Rattle.affix_strip.proofs.HeadLemmas.{none-barred}
use Rattle.affix_strip.proofs.walk.IndexedLexicon.is_barred.Goals as goal

pub returns-in-Nowhere : goal.returns-in-Nowhere
returns-in-Nowhere c =
    none-forbidden c.args.self.now.lexicon c.args.word.now
    (subst (IsBarring c.args.self.now.lexicon) c.in-Nowhere.is c.requires.barring)

pub returns-in-AtEntries : goal.returns-in-AtEntries
returns-in-AtEntries c =
    if_answered c.visit_without_suffix.result c.visit_without_suffix.ensures (λ b shown.
    barred-bare c.args.self.now.lexicon c.args.word.now _ b
    (subst (IsBarring c.args.self.now.lexicon) c.in-AtEntries.is c.requires.barring) shown)

pub returns-then-not-may_begin : goal.returns-then-not-may_begin
returns-then-not-may_begin c =
    none-from c.args.self.now.lexicon c.args.word.now
    (none-barred c.sets_have_their_flags.ensures.told c.args.self.now.lexicon
    c.args.self.now.tables.heads c.requires.heads c.args.word.now
    (c.may_begin.ensures c.if-not-may_begin.true))
