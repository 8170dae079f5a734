-- What the front of a word tells of the forbidden words that it may be a form of.
use Rattle.std.proofs.Common.{◌≡◌, ◌∙◌, ◌⊎◌, inl, inr, refl, sym, ap, subst, ℕ, ◌+◌, ◌-◌, ◌<◌}
use Rattle.std.proofs.Common.{◌≤◌, min, true, false, true≢false, Bool, ◌&&◌, List, ◌++◌, length}
use Rattle.std.proofs.Common.{take, drop, slice_get, Option, None, Some}
use Rattle.std.proofs.Common.{option_and_then, if◌then◌else◌, length-append, length-take, arith}
use Rattle.std.proofs.Common.{IsTrue, ◌↔◌, Contains}
use Rattle.std.proofs.Math.Seq.{take-append_seam}
use Rattle.std.proofs.lemmas.Bool.{and_parts, cases_lt}
use Rattle.std.proofs.lemmas.List.{take-take, take-append-le}
use Rattle.std.proofs.lemmas.Option.{option_and_then_some, same_Some}
use Rattle.key_filter.specs.declared.KeyFilter.{KeyFilter}
use Rattle.key_filter.specs.Filter.{may_have}
use Rattle.spell_types.specs.lists.Laws.{any-contains}
use Rattle.spell_types.specs.declared.Entry.{Entry}
use Rattle.spell_types.specs.declared.Lexicon.{Lexicon}
use Rattle.spell_types.specs.declared.derivations.Derivation.{Derivation}
use Rattle.spell_types.specs.declared.flags.Flag.{Flag}
use Rattle.spell_types.specs.declared.rules.Rule.{Rule}
use Rattle.spell_types.specs.declared.rules.Side.TheVariants.{Prefix, Suffix}
use Rattle.spell_types.specs.Attaching.{attached, takes_prefix, takes_suffix}
use Rattle.spell_types.specs.Derivations.{Named, affix_on, form_of, rule_on, with_affix}
use Rattle.spell_types.specs.Flags.{has, has_flag_of}
use Rattle.spell_types.specs.Licences.{allows, carried_by, is_first_allowed}
use Rattle.spell_types.specs.Licences.{is_second_allowed, is_prefix_allowed, is_crossing_right}
use Rattle.spell_types.specs.Licences.{is_licensed}
use Rattle.affix_strip.specs.declared.heads.Heads.{Heads}
use Rattle.affix_strip.specs.declared.edges.Edge.{Edge}
use Rattle.affix_strip.specs.declared.edges.Those.TheVariants.{All}
use Rattle.affix_strip.specs.Edges.{IsEdge, IsSilent, NoneBegin}
use Rattle.entry_table.specs.Hashes.{hash_of}
use Rattle.affix_strip.specs.Heads.{cut_of, shortest_head, AreHeadsOf, IsHeaded, IsUnheaded}
use Rattle.affix_strip.specs.Heads.{Unheaded}
use Rattle.affix_strip.specs.Heads.{MayHeads, NoneHeads}
use Rattle.affix_strip.proofs.EdgeLemmas.{none-there, some-there, up-to}
use Rattle.affix_strip.proofs.InsideLemmas.{Names, names-of, own, own-form, noted, sided, on-side}
use Rattle.affix_strip.proofs.InsideLemmas.{if-some}
use Rattle.affix_strip.proofs.TableLemmas.{on-rule}

-- ---- fronts that rules add
pub record NoneFronts (edge : Edge) (text : List ℕ) (count : ℕ) : Type 0 where
  pub plain : (n : ℕ) → 0 < n → n ≤ count
      → may_have edge.plain (hash_of (take n text)) ≡ false
  pub exchanged : (n : ℕ) → 0 < n → n ≤ count
      → may_have edge.exchanged (hash_of (take n text)) ≡ false

pub no-fronts : (edge : Edge) (text : List ℕ) → NoneFronts edge text 0
no-fronts edge text = record {
  plain = λ n some within. absurd (omega (arith, some, within));
  exchanged = λ n some within. absurd (omega (arith, some, within));
}

pub one-front-noted : (edge : Edge) (text : List ℕ) (count : ℕ)
    → may_have edge.plain (hash_of (take (count + 1) text)) ≡ false
    → may_have edge.exchanged (hash_of (take (count + 1) text)) ≡ false
    → NoneFronts edge text count → NoneFronts edge text (count + 1)
one-front-noted edge text count plain exchanged none = record {
  plain = up-to (λ n. may_have edge.plain (hash_of (take n text)) ≡ false) count none.plain plain;
  exchanged =
      up-to (λ n. may_have edge.exchanged (hash_of (take n text)) ≡ false) count none.exchanged
      exchanged;
}

pub fronts-silent : (edge : Edge) (text : List ℕ) (count : ℕ) → edge.shortens ≡ false
    → NoneFronts edge text count → min edge.longest (length text) ≤ count → NoneBegin edge text
fronts-silent edge text count long none all rule rest noted begins =
    by (some-there (length rule.add)) (some-there (length rule.strip))
  where
    front : take (length rule.add) text ≡ rule.add
    front = ap (take (length rule.add)) begins ∙ take-append_seam rule.add rest

    within : length rule.add ≤ count
    within = omega (arith, all, noted.within, ap length begins, length-append rule.add rest)

    by : (length rule.add ≡ 0) ⊎ (0 < length rule.add)
        → (length rule.strip ≡ 0) ⊎ (0 < length rule.strip) → IsSilent rule
    by (inl nothing) (inl whole) = (none-there rule.add nothing, none-there rule.strip whole)
    by (inl nothing) (inr strips) =
        absurd (true≢false (sym (noted.shortens nothing strips) ∙ long))
    by (inr some) (inl whole) =
        absurd (true≢false
        (sym (noted.plain some whole) ∙ ap (λ t. may_have edge.plain (hash_of t)) (sym front)
        ∙ none.plain (length rule.add) some within))
    by (inr some) (inr strips) =
        absurd (true≢false
        (sym (noted.exchanged some strips)
        ∙ ap (λ t. may_have edge.exchanged (hash_of t)) (sym front)
        ∙ none.exchanged (length rule.add) some within))

-- ---- fronts that are heads
pub none-first : (heads : KeyFilter) (word : List ℕ)
    → may_have heads (hash_of (take 0 word)) ≡ false → NoneHeads heads word 0
none-first heads word none n within =
    let same : n ≡ 0 = omega (arith, within) in
    ap (λ k. may_have heads (hash_of (take k word))) same ∙ none

pub one-head-more : (heads : KeyFilter) (word : List ℕ) (count : ℕ)
    → may_have heads (hash_of (take (count + 1) word)) ≡ false → NoneHeads heads word count
    → NoneHeads heads word (count + 1)
one-head-more heads word count last none n within = by (cases_lt count n)
  where
    by : (count < n) ⊎ (n ≤ count) → may_have heads (hash_of (take n word)) ≡ false
    by (inl past) =
        let same : n ≡ count + 1 = omega (arith, past, within) in
        ap (λ k. may_have heads (hash_of (take k word))) same ∙ last
    by (inr below) = none n below

-- ---- what suffixes leave
-- a suffix leaves the front of a word
record Keeps (strip add : ℕ) (word made : List ℕ) : Type 0 where
  same : (n : ℕ) → n + strip ≤ length word → take n made ≡ take n word
  long : length word + add ≤ length made + strip

none-kept : (word : List ℕ) → Keeps 0 0 word word
none-kept word = record { same = λ n within. refl; long = omega arith }

suffix-keeps : (full_strip : Bool) (rule : Rule) (word made : List ℕ) → rule.side ≡ Suffix
    → attached full_strip rule word ≡ Some made
    → Keeps (length rule.strip) (length rule.add) word made
suffix-keeps full_strip rule word made side is = record {
  same = λ n within.
      ap (take n) made-is
      ∙ take-append-le n kept rule.add
      (omega (arith, within, length-take (length word - length rule.strip) word))
      ∙ take-take n (length word - length rule.strip) word (omega (arith, within));
  long =
      omega (
        arith,
        ap length made-is,
        length-append kept rule.add,
        length-take (length word - length rule.strip) word,
      );
}
  where
    kept : List ℕ
    kept = take (length word - length rule.strip) word

    made-is : made ≡ kept ++ rule.add
    made-is =
        if-some (takes_suffix full_strip rule word) (kept ++ rule.add) made
        (on-side full_strip Suffix rule word made side is)

-- an affix, if there is one
abbrev strip_of : Option Rule → ℕ
strip_of None = 0
strip_of (Some rule) = length rule.strip

abbrev add_of : Option Rule → ℕ
add_of None = 0
add_of (Some rule) = length rule.add

affix-keeps : (full_strip : Bool) (affix : Option Rule)
    → ((rule : Rule) → affix ≡ Some rule → rule.side ≡ Suffix)
    → (word made : List ℕ) → with_affix full_strip affix word ≡ Some made
    → Keeps (strip_of affix) (add_of affix) word made
affix-keeps full_strip None side word made is =
    subst (Keeps 0 0 word) (same_Some word made is) (none-kept word)
affix-keeps full_strip (Some rule) side word made is =
    suffix-keeps full_strip rule word made (side rule refl) is

-- two suffixes take off no more than is reckoned with
record FewCut (most : ℕ) (first second : Option Rule) : Type 0 where
  one : strip_of first ≤ most
  both : strip_of first + strip_of second ≤ most + add_of first

suffixes-keep : (full_strip : Bool) (n : Named) (most : ℕ) (stem longer : List ℕ)
    → FewCut most n.first n.second
    → ((rule : Rule) → n.first ≡ Some rule → rule.side ≡ Suffix)
    → ((rule : Rule) → n.second ≡ Some rule → rule.side ≡ Suffix)
    → with_affix full_strip n.first n.entry.word ≡ Some stem
    → with_affix full_strip n.second stem ≡ Some longer
    → take (length n.entry.word - most) longer ≡ shortest_head most n.entry.word
suffixes-keep full_strip n most stem longer few first second inner outer =
    by (some-there (length word - most))
  where
    word : List ℕ
    word = n.entry.word

    one : Keeps (strip_of n.first) (add_of n.first) word stem
    one = affix-keeps full_strip n.first first word stem inner

    two : Keeps (strip_of n.second) (add_of n.second) stem longer
    two = affix-keeps full_strip n.second second stem longer outer

    by : (length word - most ≡ 0) ⊎ (0 < length word - most)
        → take (length word - most) longer ≡ take (length word - most) word
    by (inl none) = ap (λ k. take k longer) none ∙ ap (λ k. take k word) (sym none)
    by (inr some) =
        two.same (length word - most) (omega (arith, some, few.one, few.both, one.long))
        ∙ one.same (length word - most) (omega (arith, some, few.one))

-- ---- a form of a forbidden word
module _ (lexicon : Lexicon) (heads : KeyFilter) (are : AreHeadsOf lexicon heads)
    (told : (set : List Flag) (flag : Flag) → IsTrue (has set (Some flag)) ↔ Contains set flag)
    (d : Derivation) (names : Names lexicon d) where
  abbrev n : Named
  n = own lexicon d names

  second-allowed : allows (carried_by n.first) n.second ≡ true
  second-allowed =
      (and_parts (is_second_allowed n) (is_prefix_allowed n && is_crossing_right n)
      (and_parts (is_first_allowed n)
      (is_second_allowed n && (is_prefix_allowed n && is_crossing_right n)) names.allowed).1).0

  -- the rule that is named as a suffix, at its place
  record At (rule : Rule) : Type 0 where
    place : ℕ
    at : slice_get lexicon.affixes.rules place ≡ Some rule

  at-rule : (named : Option ℕ) (rule : Rule)
      → affix_on lexicon.affixes.rules Suffix named ≡ Some rule → At rule
  at-rule named rule is =
      option_and_then_some (rule_on lexicon.affixes.rules Suffix) named rule is
      (λ place there on. record {
        place = place;
        at = on-rule lexicon.affixes.rules Suffix place rule on;
      })

  few : FewCut are.most n.first n.second
  few = by n.first n.second refl refl second-allowed
    where
      flagged : (first second : Rule) → At second → has first.carried (Some second.flag) ≡ true
          → has_flag_of are.classes first.carried ≡ true
      flagged first second at carries =
          any-contains (λ f. has are.classes (Some f)) first.carried second.flag
          ((told first.carried second.flag).0 carries)
          (are.has.flags at.place second at.at)

      cut : (rule : Rule) → At rule → cut_of are.classes are.longest rule ≤ are.most
      cut rule at = are.cuts at.place rule at.at

      with-second : (rule : Rule) (b : Bool) → has_flag_of are.classes rule.carried ≡ b
          → b ≡ true → cut_of are.classes are.longest rule ≤ are.most
          → length rule.strip + (are.longest - length rule.add) ≤ are.most
      with-second rule b is holds within =
          subst (λ c. length rule.strip + (if c then are.longest - length rule.add else 0)
          ≤ are.most) (is ∙ holds) within

      by : (first second : Option Rule) → n.first ≡ first → n.second ≡ second
          → allows (carried_by first) second ≡ true → FewCut are.most first second
      by None None one two allowed = record { one = omega arith; both = omega arith }
      by None (Some rule) one two allowed = absurd (true≢false (sym allowed))
      by (Some rule) None one two allowed =
          let own_cut = cut rule (at-rule d.first rule one) in
          record { one = omega (arith, own_cut); both = omega (arith, own_cut) }
      by (Some rule) (Some other) one two allowed =
          let behind = at-rule d.second other two in
          let own_cut = cut rule (at-rule d.first rule one) in
          let both =
          with-second rule (has_flag_of are.classes rule.carried) refl
          (flagged rule other behind allowed) own_cut in
          record {
            one = omega (arith, both);
            both = omega (arith, both, are.strips behind.place other behind.at);
          }

  suffix-side : (named : Option ℕ) (rule : Rule)
      → affix_on lexicon.affixes.rules Suffix named ≡ Some rule → rule.side ≡ Suffix
  suffix-side named rule is = sided lexicon.affixes.rules Suffix named rule is

  -- the word behind a prefix is the whole word, where no prefix may begin it
  behind-none : (edge : Edge) → IsEdge lexicon.affixes.rules Prefix All edge → (text : List ℕ)
      → NoneBegin edge text → (longer : List ℕ) → with_affix lexicon.affixes.options.full_strip
      n.prefix longer ≡ Some text → text ≡ longer
  behind-none edge is text none longer made = by n.prefix refl made
    where
      by : (affix : Option Rule) → n.prefix ≡ affix
          → with_affix lexicon.affixes.options.full_strip affix longer ≡ Some text
          → text ≡ longer
      by None at made = sym (same_Some longer text made)
      by (Some rule) at made =
          let text-is : text ≡ rule.add ++ drop (length rule.strip) longer =
          if-some (takes_prefix lexicon.affixes.options.full_strip rule longer)
          (rule.add ++ drop (length rule.strip) longer) text
          (on-side lexicon.affixes.options.full_strip Prefix rule longer text
          (sided lexicon.affixes.rules Prefix d.prefix rule at) made) in
          let quiet : IsSilent rule =
          none rule (drop (length rule.strip) longer)
          (noted lexicon.affixes.rules Prefix All edge is d.prefix rule at refl) text-is in
          text-is ∙ ap (λ a. a ++ drop (length rule.strip) longer) quiet.0
          ∙ ap (λ s. drop (length s) longer) quiet.1

  headed : (edge : Edge) → IsEdge lexicon.affixes.rules Prefix All edge → (text : List ℕ)
      → NoneBegin edge text → form_of lexicon d ≡ Some text
      → take (length names.entry.word - are.most) text ≡ shortest_head are.most names.entry.word
  headed edge is text none form =
      one (with_affix full n.first names.entry.word) refl
      (sym (own-form lexicon d names) ∙ form)
    where
      full : Bool
      full = lexicon.affixes.options.full_strip

      two : (stem : List ℕ) → with_affix full n.first names.entry.word ≡ Some stem
          → (found : Option (List ℕ)) → with_affix full n.second stem ≡ found
          → option_and_then (with_affix full n.prefix) found ≡ Some text
          → take (length names.entry.word - are.most) text ≡ shortest_head are.most names.entry.word
      two stem inner None at made = absurd (cc)
      two stem inner (Some longer) at made =
          ap (take (length names.entry.word - are.most))
          (behind-none edge is text none longer made)
          ∙ suffixes-keep full n are.most stem longer few
          (λ rule at. suffix-side d.first rule at) (λ rule at. suffix-side d.second rule at)
          inner at

      one : (found : Option (List ℕ)) → with_affix full n.first names.entry.word ≡ found
          → option_and_then (with_affix full n.prefix)
          (option_and_then (with_affix full n.second) found) ≡ Some text
          → take (length names.entry.word - are.most) text ≡ shortest_head are.most names.entry.word
      one None at made = absurd (cc)
      one (Some stem) at made = two stem at (with_affix full n.second stem) refl made

-- no derivation of a word without one of the heads is that of a forbidden word
pub none-barred : ((set : List Flag) (flag : Flag) → IsTrue (has set (Some flag))
    ↔ Contains set flag) → (lexicon : Lexicon) (heads : Heads) → IsHeaded lexicon heads
    → (word : List ℕ) → IsUnheaded heads word
    → (d : Derivation) → is_licensed lexicon d ≡ true → form_of lexicon d ≡ Some word
    → (entry : Entry) → slice_get lexicon.entries d.entry ≡ Some entry
    → has entry.flags lexicon.affixes.signs.forbidden ≡ true → ⊥
none-barred told lexicon heads is word (Unheaded filter at none begin) d licensed form entry there
    forbidden =
    true≢false (sym (are.are d.entry entry there forbidden)
    ∙ ap (λ t. may_have filter (hash_of t))
    (sym (ap (λ (e : Entry). shortest_head are.most e.word) same)
    ∙ sym front ∙ ap (λ k. take k word) (omega (arith, within)))
    ∙ none (min (length names.entry.word - are.most) (length word)) (omega arith))
  where
    are : AreHeadsOf lexicon filter
    are = subst (MayHeads lexicon) at is.heads

    names : Names lexicon d
    names = names-of lexicon d licensed

    same : names.entry ≡ entry
    same = same_Some names.entry entry (sym names.at ∙ there)

    front : take (length names.entry.word - are.most) word ≡ shortest_head are.most names.entry.word
    front = headed lexicon filter are told d names heads.prefixes is.prefixes word begin form

    within : length names.entry.word - are.most ≤ length word
    within =
        omega (
          arith,
          ap length front,
          length-take (length names.entry.word - are.most) word,
          length-take (length names.entry.word - are.most) names.entry.word,
        )
