-- The place goes into its group among those of the text, or into the first group of a new text.
use Rattle.std.proofs.Common.{rules, ◌≡◌, ◌∙◌, sym, ap, subst, [], ◌∷◌, ◌++◌, nat_eq, None}
use Rattle.std.proofs.Common.{IsPermutation, if◌then◌else◌}
use Rattle.std.specs.Cmp.Lexicographic.{pointwise}
use Rattle.std.specs.Map.{lookup}
use Rattle.indexmap.proofs.CallerLemmas.{insert_entry-new}
use Rattle.affix_tables.specs.Tables.{places_at, all_places, Puts}
use Rattle.affix_tables.proofs.GroupLemmas.{Longer, puts-there, puts-first}
use Rattle.affix_tables.proofs.put_in_group.Goals as goal

pub returns-in_ok-put_at-in-Some : goal.returns-in_ok-put_at-in-Some
returns-in_ok-put_at-in-Some c =
    subst (λ now. Puts c.args.by_text.now.entries now c.args.added.now c.args.stripped.now
    c.args.place) (sym (c.get_mut.follows.holds c.put_at.new.by_text).0)
    (puts-there c.args.by_text.now.entries c.args.added.now c.args.stripped.now c.args.place
    c.in-Some.groups.now c.put_at.new.by_text (sym c.in-Some.ensures.value)
    (record {
      at_strip = c.in_ok-put_at-in-Some.ensures.at_text;
      all = c.in_ok-put_at-in-Some.ensures.all;
    }))

pub returns-in_ok-insert-in-None : goal.returns-in_ok-insert-in-None
returns-in_ok-insert-in-None c =
    let key = c.in_ok-to_vec-in-None.field-0 in
    let made = c.put_at-in-None.new.by_text in
    let groups = c.shrink_to_fit.new.self in
    let before = c.args.by_text.now.entries in
    let is : key.items ≡ c.args.added.now = search rules in
    let none : lookup (λ k. pointwise nat_eq c.args.added.now k.items) before ≡ None =
    sym c.in-None.ensures.value in
    subst (λ now. Puts before now c.args.added.now c.args.stripped.now c.args.place)
    (sym ((rw c.get_mut.follows.holds-at-none at c.in_ok-insert-in-None.ensures.entries)
    ∙ insert_entry-new (λ k q. pointwise nat_eq k.items q.items) c.args.by_text.now key groups
    (ap (λ items. lookup (λ k. pointwise nat_eq items k.items) before) is ∙ none)))
    (puts-first before c.args.added.now c.args.stripped.now c.args.place key groups is none
    (subst (λ entries. Longer [] entries c.args.stripped.now c.args.place)
    (sym c.shrink_to_fit.ensures.entries) (record {
      at_strip = λ strip.
          c.in_ok-put_at-in-None.ensures.at_text strip
          ∙ ap (λ entries. places_at entries strip
          ++ (if pointwise nat_eq strip c.args.stripped.now then c.args.place ∷ [] else []))
          c.new-groups.ensures.empty;
      all = subst
          (λ entries. IsPermutation (all_places made.entries)
          (all_places entries ++ c.args.place ∷ [])) c.new-groups.ensures.empty
          c.in_ok-put_at-in-None.ensures.all;
    })))
