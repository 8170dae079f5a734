-- How the flags of a text go on after the first.
use Rattle.std.proofs.Common.{is_some, nat_lt, ◌≡◌, ◌≢◌, ◌∙◌, refl, sym, ap, subst, ℕ, ◌+◌, ◌*◌}
use Rattle.std.proofs.Common.{◌^◌, ◌<◌, Ok, List, [], ◌∷◌, length, map, Option, Some, None, Bool}
use Rattle.std.proofs.Common.{true, false, cond, option_and_then, Bor, ◌==◌, IsTrue, true≢false}
use Rattle.std.proofs.Common.{Contains, IsSomeAnd, ◌↔◌, arith, lit<}
use Rattle.std.specs.List.{AllByRecursion, slice_split, position_or_len, before_first, after_first}
use Rattle.std.specs.Option.{option_map, ok_or}
use Rattle.std.specs.Bool.{then_some}
use Rattle.std.specs.Str.{chars, IsUtf8}
use Rattle.std.proofs.lemmas.Str.{encodes-chars}
use Rattle.std.proofs.lemmas.Str.Pattern.{IsSplitOnceResult, split_once_first}
use Rattle.std.proofs.lemmas.Option.{MatchOption-at_some, MatchOption-at_none}
use Rattle.std.proofs.lemmas.List.{length-drop}
use Rattle.std.proofs.lemmas.List.Elements.{All-from_recursion, recursion_from_All}
use lib.Utf8.{encodes}
use Rattle.std.proofs.lemmas.List.Splits.{slice_split_first, slice_split_none, length-slice_split}
use Rattle.std.proofs.lemmas.List.Sums.{fails_before_first}
use Rattle.std.proofs.lemmas.Bool.Decides.{nat_tests}
use Rattle.text_lines.specs.Fields.{decimal_of}
use Rattle.spell_types.specs.declared.flags.Flag.{Flag}
use Rattle.spell_types.specs.Flags.{put, put_all, IsRising, IsOrdinary, AreOrdinary}
use Rattle.spell_types.specs.declared.flags.FlagKind.{FlagKind}
use Rattle.spell_types.specs.declared.flags.FlagKind.TheVariants.{Single, Utf8, Long, Num}
use Rattle.flag_sets.specs.FlagTexts.{with_first, flag_of, flag_of_item, flags_of_items}
use Rattle.flag_sets.specs.FlagTexts.{paired_flags, is_comma, listed_flags, number_flags}
use Rattle.flag_sets.specs.FlagTexts.{flag_field, only_of, one_flag}
use Rattle.flag_sets.specs.declared.FlagFault.TheVariants.{BadFlag}

-- ---- numbers between commas
nonempty : (text : List ℕ) → 0 < length text
    → number_flags text ≡ flags_of_items (slice_split is_comma text)
nonempty [] some = absurd (omega arith)
nonempty (b ∷ bs) some = grind (arith, nat_tests)

no_item : flags_of_items (slice_split is_comma []) ≡ None
unfolding decimal_of
no_item = refl

pub number_last : (text : List ℕ) → 0 < length text → position_or_len is_comma text ≡ length text
    → number_flags text ≡ option_and_then (λ flag. with_first flag (number_flags []))
    (flag_of_item text)
number_last text some none =
    nonempty text some
    ∙ ap flags_of_items
    (slice_split_none is_comma text
    (λ k d within. fails_before_first is_comma text k d (omega arith)))

pub number_more : (text : List ℕ) → position_or_len is_comma text < length text
    → 0 < length (after_first is_comma text)
    → number_flags text ≡ option_and_then
    (λ flag. with_first flag (number_flags (after_first is_comma text)))
    (flag_of_item (before_first is_comma text))
number_more text found some =
    nonempty text (omega arith)
    ∙ ap flags_of_items (slice_split_first is_comma text 0 found)
    ∙ ap (λ rest. option_and_then (λ flag. with_first flag rest)
    (flag_of_item (before_first is_comma text)))
    (sym (nonempty (after_first is_comma text) some))

pub number_cut : (text : List ℕ) → position_or_len is_comma text < length text
    → length (after_first is_comma text) ≡ 0 → number_flags text ≡ None
number_cut text found none =
    nonempty text (omega arith)
    ∙ ap flags_of_items (slice_split_first is_comma text 0 found)
    ∙ ap (λ rest. option_and_then (λ flag. with_first flag rest)
    (flag_of_item (before_first is_comma text)))
    (ap (λ rest. flags_of_items (slice_split is_comma rest)) (is_nil _ none) ∙ no_item)
    ∙ lost (flag_of_item (before_first is_comma text))
  where
    is_nil : (xs : List ℕ) → length xs ≡ 0 → xs ≡ []
    is_nil [] h = refl
    is_nil (x ∷ xs) h = absurd (omega arith)

    lost : (o : Option Flag) → option_and_then (λ flag. with_first flag None) o ≡ None
    lost None = refl
    lost (Some flag) = refl

-- what a reader of numbers answers where a text has no comma, and where it has one
abbrev then_number : List ℕ → Option Flag → Option (List Flag)
then_number rest flag = option_and_then (λ f. with_first f (number_flags rest)) flag

pub goes_last : (text : List ℕ) (flag : Option Flag) → 0 < length text
    → position_or_len is_comma text ≡ length text
    → flag ≡ flag_of_item text
    → number_flags text ≡ option_and_then (λ f. with_first f (number_flags [])) flag
goes_last text flag some none is = number_last text some none ∙ ap (then_number []) (sym is)

-- the parts of a text round its first comma
pub record IsCut (text item rest : List ℕ) : Type 0 where
  pub found : position_or_len is_comma text < length text
  pub item_is : item ≡ before_first is_comma text
  pub rest_is : rest ≡ after_first is_comma text

pub goes_more : (text item rest : List ℕ) (flag : Option Flag) → IsCut text item rest
    → 0 < length rest
    → flag ≡ flag_of_item item
    → number_flags text ≡ option_and_then (λ f. with_first f (number_flags rest)) flag
goes_more text item rest flag cut some is =
    number_more text cut.found (subst (λ r. 0 < length r) cut.rest_is some)
    ∙ ap (λ r. option_and_then (λ f. with_first f (number_flags r))
    (flag_of_item (before_first is_comma text))) (sym cut.rest_is)
    ∙ ap (λ i. then_number rest (flag_of_item i)) (sym cut.item_is)
    ∙ ap (then_number rest) (sym is)

pub goes_nowhere : (text item rest : List ℕ) → IsCut text item rest → length rest ≡ 0
    → number_flags text ≡ None
goes_nowhere text item rest cut none =
    number_cut text cut.found (subst (λ r. length r ≡ 0) cut.rest_is none)

pub shorter_rest : (text item rest : List ℕ) → IsCut text item rest → length rest < length text
shorter_rest text item rest cut =
    omega (
      arith,
      ap length cut.rest_is,
      length-drop (position_or_len is_comma text + 1) text,
      cut.found,
    )

-- what `split_once` tells
pub cut_at : (text : List ℕ) (r : Option (Bor (List ℕ) × Bor (List ℕ))) (item rest : Bor (List ℕ))
    → IsSplitOnceResult 44 text r → r ≡ Some (item, rest) → IsCut text item.now rest.now
cut_at text r item rest is at =
    let parts = MatchOption-at_some (position_or_len is_comma text ≡ length text)
    (λ x. (position_or_len is_comma text < length text) × (x.0.now ≡ before_first is_comma text)
    × (x.1.now ≡ after_first is_comma text))
    (item, rest) at (split_once_first 44 text r is (lit< tt)) in
    record { found = parts.0; item_is = parts.1; rest_is = parts.2 }

pub no_cut : (text : List ℕ) (r : Option (Bor (List ℕ) × Bor (List ℕ)))
    → IsSplitOnceResult 44 text r → r ≡ None → position_or_len is_comma text ≡ length text
no_cut text r is at =
    MatchOption-at_none (position_or_len is_comma text ≡ length text)
    (λ x. (position_or_len is_comma text < length text) × (x.0.now ≡ before_first is_comma text)
    × (x.1.now ≡ after_first is_comma text))
    at (split_once_first 44 text r is (lit< tt))

-- ---- going through a text
-- a flag put into the set first, or listed first
pub put_first : (set : List Flag) (flag : Flag) (listed : Option (List Flag))
    → option_map (put_all set) (with_first flag listed) ≡ option_map (put_all (put flag set)) listed
put_first set flag None = refl
put_first set flag (Some flags) = refl

some_characters : (text : List ℕ) → IsUtf8 text → 0 < length text → chars text ≡ [] → ⊥
some_characters text utf8 some none =
    let e : [] ≡ text = ap encodes (sym none) ∙ encodes-chars text utf8 in
    omega (arith, ap length e)

nothing_listed : (kind : FlagKind) → listed_flags kind [] ≡ Some []
unfolding chars
nothing_listed Single = refl
nothing_listed Utf8 = refl
nothing_listed Long = refl
nothing_listed Num = refl

-- where a reader has come to the end
pub at_end : (kind : FlagKind) (set : List Flag) (text rest : List ℕ) → length rest ≡ 0
    → option_map (put_all set) (listed_flags kind rest) ≡ option_map (put_all [])
    (listed_flags kind text) → flag_field kind None text ≡ Ok set
at_end kind set text [] none kept =
    ap (λ o. ok_or o BadFlag) (sym kept ∙ ap (option_map (put_all set)) (nothing_listed kind))
at_end kind set text (b ∷ bs) none kept = absurd (omega arith)

pub lists_at_end : (kind : FlagKind) (text rest : List ℕ) → length rest ≡ 0
    → is_some (listed_flags kind rest) ≡ is_some (listed_flags kind text)
    → true ≡ is_some (listed_flags kind text)
lists_at_end kind text [] none kept = sym (ap is_some (nothing_listed kind)) ∙ kept
lists_at_end kind text (b ∷ bs) none kept = absurd (omega arith)

-- ---- one flag
first_listed : (flag : Flag) (o : Option (List Flag)) → with_first flag o ≢ Some []
first_listed flag None is = cc
first_listed flag (Some flags) is = cc

no_character : (cs : List ℕ) → (cs ≡ [] → ⊥) → Some (map flag_of cs) ≢ Some []
no_character [] some none = some refl
no_character (c ∷ cs) some none = cc

no_pair : (cs : List ℕ) → (cs ≡ [] → ⊥) → paired_flags cs ≢ Some []
no_pair [] some none = some refl
no_pair (c ∷ []) some none = cc
no_pair (first ∷ second ∷ more) some none =
    first_listed (flag_of (first * 2 ^ 32 + second)) (paired_flags more) none

no_number : (items : List (List ℕ)) → 0 < length items → flags_of_items items ≢ Some []
no_number [] some none = absurd (omega arith)
no_number (item ∷ more) some none = begun (flag_of_item item) none
  where
    begun : (o : Option Flag) → option_and_then (λ flag. with_first flag (flags_of_items more)) o ≢
        Some []
    begun None is = cc
    begun (Some flag) is = first_listed flag (flags_of_items more) is

-- a text that isn't empty lists a flag, if it lists any
pub lists_some : (kind : FlagKind) (text : List ℕ) → IsUtf8 text → 0 < length text
    → listed_flags kind text ≢ Some []
lists_some Single text utf8 some none =
    no_character (chars text) (some_characters text utf8 some) none
lists_some Utf8 text utf8 some none =
    no_character (chars text) (some_characters text utf8 some) none
lists_some Long text utf8 some none = no_pair (chars text) (some_characters text utf8 some) none
lists_some Num text utf8 some none =
    no_number (slice_split is_comma text) (omega (arith, length-slice_split is_comma text))
    (sym (nonempty text some) ∙ none)

-- what is left after the first flag decides
pub one_left : (kind : FlagKind) (text rest : List ℕ) (flag : Flag) (nothing : Bool)
    → listed_flags kind text ≡ with_first flag (listed_flags kind rest)
    → IsTrue nothing ↔ (listed_flags kind rest ≡ Some [])
    → then_some nothing flag ≡ one_flag kind text
one_left kind text rest flag true goes tells =
    sym (ap (option_and_then only_of) (goes ∙ ap (with_first flag) (tells.0 refl)))
one_left kind text rest flag false goes tells =
    sym (ap (option_and_then only_of) goes
    ∙ not_only (listed_flags kind rest) (λ is. true≢false (sym (tells.1 is))))
  where
    not_only : (listed : Option (List Flag)) → listed ≢ Some []
        → option_and_then only_of (with_first flag listed) ≡ None
    not_only None isnt = refl
    not_only (Some []) isnt = absurd (isnt refl)
    not_only (Some (next ∷ more)) isnt = refl

-- only the empty text lists nothing
pub tells_nothing : (kind : FlagKind) (text : List ℕ) (empty : Bool) → IsUtf8 text
    → empty ≡ (length text == 0) → IsTrue empty ↔ (listed_flags kind text ≡ Some [])
tells_nothing kind [] empty utf8 is = (λ h. nothing_listed kind, λ h. grind (arith, nat_tests))
tells_nothing kind (b ∷ bs) empty utf8 is =
    (λ h. absurd (some_false h), λ h. absurd (lists_some kind (b ∷ bs) utf8 (omega arith) h))
  where
    some_false : empty ≡ true → ⊥
    some_false h = grind (arith, nat_tests)

pub empty_is_not_one : (kind : FlagKind) (text : List ℕ) → length text ≡ 0
    → None ≡ one_flag kind text
empty_is_not_one kind [] none = sym (ap (option_and_then only_of) (nothing_listed kind))
empty_is_not_one kind (b ∷ bs) none = absurd (omega arith)

-- ---- the set of a field has the flags that its text lists
pub field_has : (listed : Option (List Flag)) (set : List Flag)
    → ok_or (option_map (put_all []) listed) BadFlag ≡ Ok set
    → ((flags : List Flag) → IsRising (put_all [] flags))
    → ((flags : List Flag) (flag : Flag) → Contains (put_all [] flags) flag ↔ Contains flags flag)
    → IsRising set
    × IsSomeAnd listed (λ flags. (flag : Flag) → Contains set flag ↔ Contains flags flag)
field_has None set is rising members = absurd (cc)
field_has (Some flags) set is rising members =
    let same : put_all [] flags ≡ set = cc in (
      subst IsRising same (rising flags),
      λ flag. subst (λ xs. Contains xs flag ↔ Contains flags flag) same (members flags flag),
    )

-- ---- an ordinary flag that is put into a set of them leaves one
put-each : (flag : Flag) (set : List Flag) → IsOrdinary flag → AllByRecursion IsOrdinary set
    → AllByRecursion IsOrdinary (put flag set)
put-each flag [] one each = (one, tt)
put-each flag (first ∷ more) one each =
    elim (nat_lt flag.0 first.0) as
    (λ low. AllByRecursion IsOrdinary
    (cond low (flag ∷ first ∷ more)
    (cond (flag.0 == first.0) (first ∷ more) (first ∷ put flag more)))) [
      | true ↦ (one, each)
      | false ↦ elim (flag.0 == first.0) as
          (λ same. AllByRecursion IsOrdinary (cond same (first ∷ more) (first ∷ put flag more))) [
            | true ↦ each
            | false ↦ (each.0, put-each flag more one each.1)
          ]
    ]

pub put-ordinary : (flag : Flag) (set : List Flag) → IsOrdinary flag → AreOrdinary set
    → AreOrdinary (put flag set)
put-ordinary flag set one all =
    All-from_recursion IsOrdinary (put flag set)
    (put-each flag set one (recursion_from_All IsOrdinary set all))

-- the rest lists the same where its first flag is put in
pub put-next : (set : List Flag) (flag : Flag) (more rest total : Option (List Flag))
    → rest ≡ with_first flag more → option_map (put_all set) rest ≡ total
    → option_map (put_all (put flag set)) more ≡ total
put-next set flag None rest total is whole = ap (option_map (put_all set)) (sym is) ∙ whole
put-next set flag (Some flags) rest total is whole =
    ap (option_map (put_all set)) (sym is) ∙ whole
