-- The text is cut at its first comma.
use Rattle.std.proofs.Common.{sym, subst, None, arith}
use Rattle.std.proofs.lemmas.Bool.Decides.{nat_tests}
use Rattle.flag_sets.specs.FlagTexts.{FlagTextGoesOn, number_flags}
use Rattle.flag_sets.proofs.TextLemmas.{goes_last, goes_more, goes_nowhere, shorter_rest, cut_at}
use Rattle.flag_sets.proofs.TextLemmas.{no_cut}
use Rattle.flag_sets.proofs.first.first_number.Goals as goal

pub returns-in_err-flag_of_number-clause-goes_on : goal.returns-in_err-flag_of_number-clause-goes_on
returns-in_err-flag_of_number-clause-goes_on c =
    subst (FlagTextGoesOn number_flags c.args.text.now) (sym c.from_residual.ensures)
    (goes_last c.args.text.now None c.requires
    (no_cut c.args.text.now c.split_once.result c.split_once.ensures.cases c.in_default.is)
    c.in_err-flag_of_number.ensures.flag)

pub returns-in_default-clause-goes_on : goal.returns-in_default-clause-goes_on
returns-in_default-clause-goes_on c = (
  goes_last c.args.text.now _ c.requires
      (no_cut c.args.text.now c.split_once.result c.split_once.ensures.cases c.in_default.is)
      c.in_ok-flag_of_number.ensures.flag,
  c.requires,
)

pub returns-then-is_empty-clause-goes_on : goal.returns-then-is_empty-clause-goes_on
returns-then-is_empty-clause-goes_on c =
    let cut = cut_at c.args.text.now c.split_once.result c.in-Some.item c.in-Some.rest
    c.split_once.ensures.cases c.in-Some.is in
    goes_nowhere c.args.text.now c.in-Some.item.now c.in-Some.rest.now cut
    (grind (arith, nat_tests))

pub returns-in_err-flag_of_number-2-clause-goes_on :
    goal.returns-in_err-flag_of_number-2-clause-goes_on
returns-in_err-flag_of_number-2-clause-goes_on c =
    let cut = cut_at c.args.text.now c.split_once.result c.in-Some.item c.in-Some.rest
    c.split_once.ensures.cases c.in-Some.is in
    subst (FlagTextGoesOn number_flags c.args.text.now)
    (sym c.from_residual-in_err-flag_of_number-2.ensures)
    (goes_more c.args.text.now c.in-Some.item.now c.in-Some.rest.now None cut
    (grind (arith, nat_tests)) c.in_err-flag_of_number-2.ensures.flag)

pub returns-clause-goes_on : goal.returns-clause-goes_on
returns-clause-goes_on c =
    let cut = cut_at c.args.text.now c.split_once.result c.in-Some.item c.in-Some.rest
    c.split_once.ensures.cases c.in-Some.is in (
      goes_more c.args.text.now c.in-Some.item.now c.in-Some.rest.now _ cut
          (grind (arith, nat_tests)) c.in_ok-flag_of_number-2.ensures.flag,
      shorter_rest c.args.text.now c.in-Some.item.now c.in-Some.rest.now cut,
    )
