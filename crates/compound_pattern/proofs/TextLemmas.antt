-- Items in the bytes of a text.
use Rattle.std.proofs.Common.{◌≡◌, ℕ, ◌+◌, ◌<◌, true, false, not, cond, ◌&&◌, List, [], ◌∷◌, ◌++◌}
use Rattle.std.proofs.Common.{length, take, drop, get_or, nat_lt, Option, Some, None, Bor, refl}
use Rattle.std.proofs.Common.{sym, ap, subst, ◌∙◌, append_assoc, append-nil, arith, lit<}
use Rattle.std.proofs.lemmas.Bool.{le-ltb}
use Rattle.std.proofs.lemmas.List.{take_at, drop_at, get_or_at, length-append}
use Rattle.std.proofs.lemmas.Str.{chars-append, chars_from_encodes, encodes-chars, IsUtf8-take}
use Rattle.std.proofs.lemmas.Str.{IsCharBoundary-before_ascii, IsCharBoundary-at_seam}
use Rattle.std.proofs.lemmas.Str.Pattern.{IsSplitOnceResult, split_parts}
use Rattle.std.specs.List.{list_all, position, position_or_len}
use Rattle.std.specs.Option.{option_map}
use Rattle.std.specs.Str.{chars, IsUtf8, IsCharBoundary, NonePass, encode_utf8_all}
use Rattle.std.specs.Char.{encode_utf8}
use Rattle.flag_sets.specs.FlagTexts.{one_flag}
use Rattle.spell_types.specs.declared.flags.FlagKind.{FlagKind}
use Rattle.spell_types.specs.declared.patterns.PatternStep.{PatternStep}
use Rattle.spell_types.specs.declared.patterns.Times.{Times}
use Rattle.compound_pattern.specs.PatternTexts.{opens_flag, closes_flag, WrittenFlag, enclosed}
use Rattle.compound_pattern.specs.PatternTexts.{bare}
use Rattle.compound_pattern.specs.PatternTexts.{flag_text, written_flag, is_bare_flag}
use Rattle.compound_pattern.specs.PatternTexts.{is_right_form, sign, Item, step_of, enclosed_flag}
use Rattle.compound_pattern.specs.PatternTexts.{times_before, followed_by, pattern_items_of}
use Rattle.compound_pattern.specs.PatternTexts.{BeginsWithFlag}
use Rattle.compound_pattern.proofs.ItemLemmas.{item_of, items_of-none, items_of-item}

-- ---- a flag in parentheses
none-closes : (text : List ℕ) → NonePass closes_flag text
    → list_all (λ c. not (closes_flag c)) text ≡ true
none-closes [] none = refl
none-closes (c ∷ text) none =
    ap (λ b. not b && list_all (λ c. not (closes_flag c)) text) none.0 ∙ none-closes text none.1

never_closed : (text : List ℕ) → NonePass closes_flag text
    → position_or_len closes_flag text ≡ length text
never_closed [] none = refl
never_closed (c ∷ text) none =
    ap (λ b. cond (not b) (1 + position_or_len closes_flag text) 0) none.0
    ∙ omega (arith, never_closed text none.1)

position-unclosed : (text : List ℕ) → NonePass closes_flag text → position closes_flag text ≡ None
position-unclosed text none =
    let no_shorter : nat_lt (length text) (length text) ≡ false = le-ltb _ _ (omega arith) in
    ap (λ n. cond (nat_lt n (length text)) (Some n) None) (never_closed text none)
    ∙ ap (λ b. cond b (Some (length text)) None) no_shorter

chars-close : (rest : List ℕ) → chars (41 ∷ rest) ≡ 41 ∷ chars rest
unfolding chars
chars-close [] = refl
chars-close (b ∷ rest) = refl

-- what `split_once` tells of a text behind an opening parenthesis
pub begins_enclosed : (kind : FlagKind) (text behind : List ℕ)
    (r : Option (Bor (List ℕ) × Bor (List ℕ))) → IsUtf8 behind → chars text ≡ 40 ∷ chars behind
    → IsSplitOnceResult 41 behind r → BeginsWithFlag kind text r
begins_enclosed kind text behind None utf8 begins (cs, encoded, none) =
    let same : cs ≡ chars behind = chars_from_encodes cs behind utf8 encoded in
    ap (pattern_items_of kind) begins
    ∙ items_of-none kind 40 (chars behind)
    (ap (option_map (λ place. (enclosed (take place (chars behind)), place + 1)))
    (position-unclosed (chars behind) (subst (NonePass closes_flag) same none)))
begins_enclosed kind text behind (Some (own, rest)) utf8 begins split =
    let i = split.0 in
    let found = split.2.0 in
    let parts = (split_parts 41 behind (Some (own, rest)) split (lit< tt)).0 in
    let at : get_or behind (length own.now) 0 ≡ 41 = ap (λ xs. get_or xs (length own.now) 0) parts
    ∙ get_or_at own.now 41 rest.now 0 (length own.now) refl in
    let within : length own.now < length behind =
    omega (arith, ap length parts, length-append own.now (41 ∷ rest.now)) in
    let own_is : take (length own.now) behind ≡ own.now =
    ap (take (length own.now)) parts
    ∙ take_at own.now (41 ∷ rest.now) (length own.now) refl in
    let own_utf8 : IsUtf8 own.now =
    subst IsUtf8 own_is
    (IsUtf8-take behind (length own.now) utf8
    (IsCharBoundary-before_ascii behind (length own.now) within (omega (arith, at)))) in
    let same : found.0 ≡ chars own.now =
    chars_from_encodes found.0 own.now own_utf8 (found.1 ∙ sym split.3) in (
      enclosed (chars own.now),
      sym (encodes-chars own.now own_utf8),
      none-closes (chars own.now) (subst (NonePass closes_flag) same found.2),
      begins
          ∙ ap (λ xs. 40 ∷ chars xs) parts
          ∙ ap (λ xs. 40 ∷ xs)
          (chars-append own.now (41 ∷ rest.now) own_utf8
          ∙ ap (λ xs. chars own.now ++ xs) (chars-close rest.now)
          ∙ sym (append_assoc (chars own.now) (41 ∷ []) (chars rest.now))),
    )

-- ---- a flag without parentheses
pub begins_bare : (kind : FlagKind) (text own rest behind : List ℕ) (c count : ℕ)
    → opens_flag c ≡ false
    → is_bare_flag kind c ≡ true → chars text ≡ c ∷ chars behind
    → text ≡ encode_utf8 c ++ behind → count ≡ length (encode_utf8 c) → own ≡ take count text
    → rest ≡ drop count text
    → (flag : WrittenFlag) × (own ≡ encode_utf8_all (flag_text flag))
    × (is_right_form kind flag ≡ true) × (chars text ≡ written_flag flag ++ chars rest)
begins_bare kind text own rest behind c count no_mark is begins parts count_is own_is rest_is =
    let front : own ≡ encode_utf8 c =
    own_is ∙ ap (take count) parts ∙ take_at (encode_utf8 c) behind count (sym count_is) in
    let back : rest ≡ behind =
    rest_is ∙ ap (drop count) parts ∙ drop_at (encode_utf8 c) behind count (sym count_is) in (
      bare c,
      front ∙ sym (append-nil (encode_utf8 c)),
      is,
      begins
          ∙ ap (λ xs. c ∷ chars xs) (sym back),
    )

pub begins_none : (kind : FlagKind) (text behind : List ℕ) (c : ℕ) → opens_flag c ≡ false
    → is_bare_flag kind c ≡ false → chars text ≡ c ∷ chars behind
    → pattern_items_of kind (chars text) ≡ None
begins_none kind text behind c no_mark isnt begins =
    ap (pattern_items_of kind) begins
    ∙ items_of-none kind c (chars behind)
    (ap (λ b. cond b (enclosed_flag (chars behind))
    (cond {A = Option (WrittenFlag × ℕ)} (is_bare_flag kind c) (Some (bare c, 0)) None)) no_mark
    ∙ ap (λ b. cond {A = Option (WrittenFlag × ℕ)} b (Some (bare c, 0)) None) isnt)

pub boundary : (text behind : List ℕ) (c count : ℕ) → IsUtf8 behind → text ≡ encode_utf8 c ++ behind
    → count ≡ length (encode_utf8 c) → IsCharBoundary text count
boundary text behind c count utf8 parts count_is =
    subst (IsCharBoundary text) (sym count_is)
    (IsCharBoundary-at_seam text (encode_utf8 c) behind parts utf8)

-- ---- an item
pub goes_on : (kind : FlagKind) (text own behind rest : List ℕ) (times : Times)
    (step : Option PatternStep)
    → (flag : WrittenFlag) × (own ≡ encode_utf8_all (flag_text flag))
    × (is_right_form kind flag ≡ true) × (chars text ≡ written_flag flag ++ chars behind)
    → times ≡ times_before (chars behind) → chars behind ≡ sign times ++ chars rest
    → step ≡ option_map (λ f. record { flag = f; times = times }) (one_flag kind own)
    → (item : Item) × (step ≡ step_of kind item)
    × (pattern_items_of kind (chars text) ≡ followed_by item (pattern_items_of kind (chars rest)))
goes_on kind text own behind rest times step (flag, own_is, right, parts) times_is behind_is
    step_is = (
      item_of flag times,
      step_is ∙ ap (λ xs. option_map (λ f. record { flag = f; times = times }) (one_flag kind xs))
          own_is,
      ap (pattern_items_of kind) (parts ∙ ap (λ xs. written_flag flag ++ xs) behind_is)
          ∙ items_of-item kind flag times (chars rest) right
          (ap times_before (sym behind_is) ∙ sym times_is),
    )
