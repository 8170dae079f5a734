-- Letters behind which a separator stands are the first word.
use Rattle.std.proofs.Common.{◌∙◌, refl, rules, sym, arith}
use Rattle.std.proofs.lemmas.Bool.Decides.{nat_tests}
use Rattle.word_cutter.proofs.CutLemmas.{IsFirst}
use Rattle.word_cutter.proofs.LetterLemmas.{IsLed, letters-found}
use Rattle.word_cutter.proofs.word_of_letters.Goals as goal

is-led : (c : goal.After-behind-in-Some-1)
    → IsLed c.args.rest c.take_letters.new.word.items c.in_ok-left.left.now
is-led c =
    record {
      some = grind (arith, nat_tests);
      are = c.in_ok-left.ensures.letters;
      whole = c.in_ok-left.ensures.left;
      utf8 = search rules;
    }

is-first : (c : goal.After-behind-in-Some-1)
    → IsFirst c.in_ok-left.left.now c.in-Some.c c.in-Some.behind.now
is-first c =
    record { characters = c.in-Some.ensures.some.0; whole = c.in-Some.ensures.some.1 }

pub returns-in-Some-clause-words : goal.returns-in-Some-clause-words
returns-in-Some-clause-words c =
    let width = c.len_utf8.ensures.value in
    (letters-found c.args.wordchars.now c.args.rest c.take_letters.new.word.items
    c.in_ok-left.left.now c.in-Some.behind.now c.in-Some.c _ (is-led c) (is-first c)
    (sym c.is_separator.ensures ∙ c.if-is_separator.true)
    (record {
      from_is = refl;
      to_is = omega arith;
      text_is = refl;
      at_is = omega arith;
      before_is = refl;
    })).0

pub returns-in-Some-clause-less : goal.returns-in-Some-clause-less
returns-in-Some-clause-less c =
    let width = c.len_utf8.ensures.value in
    (letters-found c.args.wordchars.now c.args.rest c.take_letters.new.word.items
    c.in_ok-left.left.now c.in-Some.behind.now c.in-Some.c _ (is-led c) (is-first c)
    (sym c.is_separator.ensures ∙ c.if-is_separator.true)
    (record {
      from_is = refl;
      to_is = omega arith;
      text_is = refl;
      at_is = omega arith;
      before_is = refl;
    })).1
