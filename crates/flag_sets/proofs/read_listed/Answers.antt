-- Nothing is left at the end.
use Rattle.std.proofs.Common.{◌≡◌, ◌∙◌, [], Ok, arith, rules, sym, subst, ap}
use Rattle.std.specs.Option.{option_map}
use Rattle.std.proofs.lemmas.Bool.Decides.{nat_tests}
use Rattle.spell_types.specs.Flags.{AreOrdinary, put, put_all}
use Rattle.flag_sets.specs.FlagTexts.{listed_flags}
use Rattle.flag_sets.proofs.TextLemmas.{at_end, put-next, put-ordinary}
use Rattle.flag_sets.proofs.read_listed.Goals as goal

pub returns-clause-set : goal.returns-clause-set
returns-clause-set c =
    at_end c.args.kind (put_all [] c.loop-rest.flags.items) c.args.text.now c.loop-rest.rest.now
    (grind (arith, nat_tests)) c.loop-rest.invariant.1
    ∙ ap Ok (sym c.in_ok-from_list.ensures)

pub returns-clause-ordinary : goal.returns-clause-ordinary
returns-clause-ordinary c =
    subst AreOrdinary (sym c.in_ok-from_list.ensures) c.loop-rest.invariant.2

pushed : (c : goal.In-Ok) → put_all [] c.push.new.self.items
    ≡ put c.in-Some.flag (put_all [] c.loop-rest.flags.items)
pushed c =
    ap (put_all []) c.in-Ok.ensures.items
    ∙ c.sets_have_their_flags.ensures.put_last [] c.loop-rest.flags.items c.in-Some.flag

pub loop-rest-preserved : goal.loop-rest-preserved
loop-rest-preserved c = (
  search rules,
  ap (λ set. option_map (put_all set) (listed_flags c.args.kind c.in-Some.more.now)) (pushed c)
      ∙ put-next (put_all [] c.loop-rest.flags.items) c.in-Some.flag _ _ _
      c.in-Some.ensures.goes_on.0 c.loop-rest.invariant.1,
  subst AreOrdinary (sym (pushed c))
      (put-ordinary c.in-Some.flag (put_all [] c.loop-rest.flags.items)
      c.in-Some.ensures.ordinary c.loop-rest.invariant.2),
)
