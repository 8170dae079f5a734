-- The place goes to the places of the text, or is the first of a new text.
use Rattle.std.proofs.Common.{rules, ◌≡◌, ◌∙◌, sym, ap, subst, IsPermutation, [], ◌∷◌, ◌++◌, nat_eq}
use Rattle.std.proofs.Common.{None}
use Rattle.std.specs.Cmp.Lexicographic.{pointwise}
use Rattle.std.specs.Map.{lookup}
use Rattle.std.proofs.lemmas.List.Sorted.{IsPermutation-refl}
use Rattle.indexmap.proofs.CallerLemmas.{insert_entry-new}
use Rattle.affix_tables.specs.Tables.{places_at, all_places}
use Rattle.affix_tables.proofs.EntryLemmas.{places_at-set, places_at-new, all_places-set}
use Rattle.affix_tables.proofs.EntryLemmas.{all_places-new}
use Rattle.affix_tables.proofs.put_at.Goals as goal

pub returns-in_ok-push-in-Some-clause-at_text : goal.returns-in_ok-push-in-Some-clause-at_text
returns-in_ok-push-in-Some-clause-at_text c = λ other.
    ap (λ entries. places_at entries other) (c.get_mut.follows.holds c.push.new.self).0
    ∙ places_at-set c.args.text.now other c.in-Some.places.now c.push.new.self c.args.place
    c.in_ok-push-in-Some.ensures.items c.args.by_text.now.entries (sym c.in-Some.ensures.value)

pub returns-in_ok-insert-in-None-clause-at_text : goal.returns-in_ok-insert-in-None-clause-at_text
returns-in_ok-insert-in-None-clause-at_text c = λ other.
    let key = c.in_ok-to_vec-in-None.field-0 in
    let places = c.push-in-None.new.self in
    let is : key.items ≡ c.args.text.now = search rules in
    let none : lookup (λ k. pointwise nat_eq c.args.text.now k.items) c.args.by_text.now.entries
    ≡ None = sym c.in-None.ensures.value in
    ap (λ entries. places_at entries other)
    ((rw c.get_mut.follows.holds-at-none at c.in_ok-insert-in-None.ensures.entries)
    ∙ insert_entry-new (λ k q. pointwise nat_eq k.items q.items) c.args.by_text.now key places
    (ap (λ items. lookup (λ k. pointwise nat_eq items k.items) c.args.by_text.now.entries) is
    ∙ none))
    ∙ places_at-new c.args.text.now other key places c.args.place is
    (c.in_ok-push-in-None.ensures.items
    ∙ ap (λ items. items ++ c.args.place ∷ []) c.new-first.ensures.items)
    c.args.by_text.now.entries none

pub returns-in_ok-push-in-Some-clause-all : goal.returns-in_ok-push-in-Some-clause-all
returns-in_ok-push-in-Some-clause-all c =
    subst (λ entries. IsPermutation (all_places entries)
    (all_places c.args.by_text.now.entries ++ c.args.place ∷ []))
    (sym (c.get_mut.follows.holds c.push.new.self).0)
    (all_places-set c.args.text.now c.in-Some.places.now c.push.new.self c.args.place
    c.in_ok-push-in-Some.ensures.items c.args.by_text.now.entries (sym c.in-Some.ensures.value))

pub returns-in_ok-insert-in-None-clause-all : goal.returns-in_ok-insert-in-None-clause-all
returns-in_ok-insert-in-None-clause-all c =
    let key = c.in_ok-to_vec-in-None.field-0 in
    let places = c.push-in-None.new.self in
    let is : key.items ≡ c.args.text.now = search rules in
    let none : lookup (λ k. pointwise nat_eq c.args.text.now k.items) c.args.by_text.now.entries
    ≡ None = sym c.in-None.ensures.value in
    subst (λ items.
    IsPermutation items (all_places c.args.by_text.now.entries ++ c.args.place ∷ []))
    (sym (ap all_places
    ((rw c.get_mut.follows.holds-at-none at c.in_ok-insert-in-None.ensures.entries)
    ∙ insert_entry-new (λ k q. pointwise nat_eq k.items q.items) c.args.by_text.now key places
    (ap (λ items. lookup (λ k. pointwise nat_eq items k.items) c.args.by_text.now.entries) is
    ∙ none))
    ∙ all_places-new key places c.args.place
    (c.in_ok-push-in-None.ensures.items
    ∙ ap (λ items. items ++ c.args.place ∷ []) c.new-first.ensures.items)
    c.args.by_text.now.entries))
    (IsPermutation-refl (all_places c.args.by_text.now.entries ++ c.args.place ∷ []))
