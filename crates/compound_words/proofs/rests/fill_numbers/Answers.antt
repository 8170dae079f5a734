-- The numbers are found from the last step to the first.
use Rattle.std.proofs.Common.{◌≡◌, ◌∙◌, ◌+◌, ◌-◌, ◌<◌, refl, sym, ap, arith, Bool, [], None, cond}
use Rattle.std.proofs.Common.{get_or, ◌&&◌, length, drop, option_and_then}
use Rattle.std.proofs.lemmas.List.{length-set}
use Rattle.spell_types.specs.declared.patterns.PatternStep.{PatternStep}
use Rattle.spell_types.specs.declared.patterns.Times.TheVariants.{Once}
use Rattle.spell_types.specs.Patterns.{matches, is_left_out, fits_step}
use Rattle.compound_words.specs.Counting.{least_of_two, one_more, number_at}
use Rattle.compound_words.specs.Rests.{matches_from, number_behind, number_by_steps, ByRule}
use Rattle.compound_words.proofs.StepLemmas.{numbers-past, numbers-turn, nothing-past, nothing-turn}
use Rattle.compound_words.proofs.StepLemmas.{nothing-behind}
use Rattle.compound_words.proofs.rests.fill_numbers.Goals as goal

pub loop-place-init : goal.loop-place-init
loop-place-init c = record {
  within = omega arith;
  long = c.requires;
  nothing = nothing-past c.args.steps.now;
  numbers =
      λ rules found place past. numbers-past c.args.numbers.now c.args.flags.now
      (λ j. number_behind rules c.args.behind.now (ByRule c.args.rule j))
      c.args.steps.now place c.requires past;
}

pub loop-place-preserved : goal.loop-place-preserved
loop-place-preserved c =
    let place = c.loop-place.place - 1 in
    let steps = c.args.steps.now in
    let here : c.loop-place.place ≡ place + 1 = omega (arith, c.loop-place-test.true) in
    let within : place < length steps =
    omega (arith, c.loop-place-test.true, c.loop-place.invariant.within) in
    let nothing : c.loop-place.matches_nothing ≡ matches (drop (place + 1) steps) [] =
    c.loop-place.invariant.nothing ∙ ap (λ p. matches (drop p steps) []) here in
    let one = c.patterns_match.ensures.one_by_one in
    let d : PatternStep = record { flag = record { 0 = 0 }; times = Once } in
    let step : PatternStep = get_or steps place d in
    let left : Bool = is_left_out step in
    let fits : Bool = fits_step step c.args.flags.now in
    record {
      within = omega (arith, within);
      long =
          length-set c.loop-place.numbers place c.number_from.result ∙ c.loop-place.invariant.long;
      nothing =
          ap (λ b. c.loop-place.matches_nothing && b) c.is_left_out-matches_nothing.ensures
          ∙ nothing-turn one steps place step d c.loop-place.matches_nothing within refl nothing;
      numbers = λ rules found.
          numbers-turn c.loop-place.numbers c.args.flags.now
          (λ j. number_behind rules c.args.behind.now (ByRule c.args.rule j))
          steps place step d c.number_from.result
          c.loop-place.invariant.long within refl
          (λ later after. c.loop-place.invariant.numbers rules found later
          (omega (arith, after, here)))
          (c.number_from.ensures
          ∙ ap (λ n. least_of_two (cond left n None) (cond fits (one_more c.by_step-number.result) None))
          c.number_at.ensures
          ∙ ap (λ n. least_of_two (cond left (number_at c.loop-place.numbers (place + 1)) None)
          (cond fits (one_more n) None))
          (c.by_step-number.ensures rules
          (nothing-behind one rules c.args.rule steps place step d c.loop-place.matches_nothing
          within refl found nothing
          ∙ ap (λ p. matches_from rules c.args.rule p []) (sym c.step_after.ensures))
          ∙ ap (λ p. number_behind rules c.args.behind.now (ByRule c.args.rule p))
          c.step_after.ensures));
    }

pub returns-clause-filled : goal.returns-clause-filled
returns-clause-filled c rules found step =
    c.loop-place.invariant.numbers rules found step (omega (arith, c.loop-place-test.false))
    ∙ sym (ap (option_and_then
    (λ pattern. number_by_steps c.args.flags.now
    (λ j. number_behind rules c.args.behind.now (ByRule c.args.rule j))
    (drop step pattern) step)) found)
