-- The pattern of one row more; and sorting moves patterns.
use Rattle.std.proofs.Common.{rules, ◌≡◌, ◌∙◌, ◌<◌, refl, sym, ap, subst, [], ◌∷◌, ◌++◌, map}
use Rattle.std.proofs.Common.{length, Contains, Some, arith}
use Rattle.std.specs.Option.{option_map}
use Rattle.std.proofs.lemmas.List.{map-append}
use Rattle.std.proofs.lemmas.List.Elements.{All-push, All-same}
use Rattle.std.proofs.lemmas.List.Sorted.{All-permutation, Contains-permutation, IsPermutation-map}
use Rattle.std.proofs.lemmas.Option.{slice_get_read}
use Rattle.spell_types.specs.lists.Laws.{range_more, contains-range}
use Rattle.spell_types.specs.declared.conversions.Conversion.{Conversion}
use Rattle.conversions.specs.Patterns.{ConversionPattern, IsPatternOf}
use Rattle.conversions.proofs.table.patterns_of.Goals as goal

pub loop-place-preserved : goal.loop-place-preserved
loop-place-preserved c =
    let table = c.args.table.now in
    let place = c.loop-place.place in
    let patterns = c.loop-place.patterns.items in
    let row = c.index-table-place.result in
    let pattern : ConversionPattern = (c.in_ok-pattern.pattern, place) in
    let within : place < length table = omega arith in
    let is : c.in_ok-pattern.pattern.items ≡ row.from = search rules in
    let right : IsPatternOf table pattern =
    ap (option_map (λ (r : Conversion). r.from))
    (slice_get_read table (length table) place row refl within c.index-table-place.is)
    ∙ ap (λ text. let some = Some text in some) (sym is) in
    record {
      right = All-same (IsPatternOf table) c.push.new.self.items (patterns ++ pattern ∷ [])
          c.in_ok-push.ensures.items
          (All-push (IsPatternOf table) patterns pattern c.loop-place.invariant.right right);
      places = ap (map (λ (p : ConversionPattern). p.1)) c.in_ok-push.ensures.items
          ∙ map-append (λ (p : ConversionPattern). p.1) patterns (pattern ∷ [])
          ∙ ap (λ places. places ++ place ∷ []) c.loop-place.invariant.places
          ∙ sym (range_more place);
    }

pub returns : goal.returns
returns c =
    let table = c.args.table.now in
    let before = c.loop-place.patterns.items in
    let after = c.sort_unstable.new.self.items in
    let moved = c.sort_unstable.ensures.permutation in
    record {
      sorted = c.sort_unstable.ensures.sorted;
      right = All-permutation (IsPatternOf table) before after moved c.loop-place.invariant.right;
      whole = λ place within.
          Contains-permutation (map (λ (p : ConversionPattern). p.1) before)
          (map (λ (p : ConversionPattern). p.1) after) place
          (IsPermutation-map (λ (p : ConversionPattern). p.1) before after moved)
          (subst (λ places. Contains places place) (sym c.loop-place.invariant.places)
          (contains-range c.loop-place.place place (omega (arith, within))));
    }
