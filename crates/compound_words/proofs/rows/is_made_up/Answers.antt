-- The first row tells whether parts make up the word.
use Rattle.std.proofs.Common.{◌∙◌, ◌≤◌, sym, subst, ap, refl, [], length}
use Rattle.std.proofs.Common.{vec_len, eqb-true, arith}
use Rattle.std.specs.List.{AllByRecursion, list_any}
use Rattle.spell_types.specs.declared.parts.Place.TheVariants.{First}
use Rattle.compound_words.specs.Reach.{AreReached}
use Rattle.compound_words.specs.Rests.{asked_by, patterns_of, IsRight, has_few}
use Rattle.compound_words.proofs.AddLemmas.{grows-same}
use Rattle.compound_words.proofs.MadeLemmas.{firsts-answer}
use Rattle.compound_words.proofs.RowLemmas.{rows-all}
use Rattle.compound_words.proofs.rows.is_made_up.Goals as goal

pub returns : goal.returns
returns c =
    let a = asked_by c.args.search.now in
    let rules = patterns_of c.args.search.now in
    let row = c.in_ok-add_before_rows.ensures in
    let start =
    subst (AllByRecursion (IsRight a rules First c.args.word.now))
    (sym c.new-firsts.ensures) tt in
    c.one_has_few.ensures ∙ ap (list_any (has_few a)) c.deref-4.ensures
    ∙ firsts-answer a rules c.args.word.now c.add_before_rows.new.row c.requires
    (row.grows.right start) row.all
    (c.compounds_have_parts.ensures.made_up a c.args.word.now)

-- where no place inside the word has a row there is nothing
pub returns-then-is_empty : goal.returns-then-is_empty
returns-then-is_empty c =
    let a = asked_by c.args.search.now in
    let rules = patterns_of c.args.search.now in
    let word = c.args.word.now in
    let reached = c.deref.result.now in
    let firsts = c.in_ok-rows.rows.items in
    let told : AreReached a rules word reached =
    subst (AreReached a rules word) (sym c.deref.ensures.value) c.in_ok-reached.ensures in
    let past : length firsts ≤ 0 =
    omega (
      arith,
      eqb-true (vec_len c.in_ok-rows.rows) 0 (sym c.if-is_empty.ensures),
      c.in_ok-rows.rows.ok,
    ) in
    firsts-answer a rules word [] c.requires tt
    (rows-all c.patterns_match.ensures.one_by_one {rows = firsts} {index = 0} (omega arith) past told
    (λ some. told.start some) refl c.in_ok-rows.ensures.rows
    (record {
      grows = grows-same a rules First word [];
      has = λ part next more way begins rest so one. absurd one;
    }))
    (c.compounds_have_parts.ensures.made_up a word)
