-- Of an ASCII character its class says whether it may be a separator.
use Rattle.std.proofs.Common.{◌≡◌, ◌∙◌, ◌<◌, ◌==◌, false, not, sym, ap, refl, arith}
use Rattle.std.proofs.lemmas.Bool.{ltb-true}
use Rattle.std.proofs.lemmas.Bool.Decides.{nat_tests}
use Rattle.word_cutter.proofs.CharacterLemmas.{separator-ascii}
use Rattle.word_cutter.proofs.characters.is_separator.Goals as goal

pub returns-then-is_joining_byte : goal.returns-then-is_joining_byte
returns-then-is_joining_byte c =
    let below : c.args.c < 128 = ltb-true _ _ (sym c.is_ascii.ensures ∙ c.if-not-is_ascii.false) in
    rw (
      separator-ascii c.args.wordchars.now c.args.c below,
      sym c.is_joining_byte.ensures ∙ c.if-is_joining_byte.true,
    ) refl

pub returns-then-c-eq10 : goal.returns-then-c-eq10
returns-then-c-eq10 c =
    let below : c.args.c < 128 = ltb-true _ _ (sym c.is_ascii.ensures ∙ c.if-not-is_ascii.false) in
    rw (separator-ascii c.args.wordchars.now c.args.c below, c.if-c-eq10.true) refl

pub returns-else-c-eq10 : goal.returns-else-c-eq10
returns-else-c-eq10 c =
    let below : c.args.c < 128 = ltb-true _ _ (sym c.is_ascii.ensures ∙ c.if-not-is_ascii.false) in
    let other : (c.args.c == 10) ≡ false = grind (arith, nat_tests) in
    ap not c.contains.ensures.value
    ∙ sym (separator-ascii c.args.wordchars.now c.args.c below ∙ rw (
      sym c.is_joining_byte.ensures ∙ c.if-is_joining_byte.false,
      other,
    ) refl)
