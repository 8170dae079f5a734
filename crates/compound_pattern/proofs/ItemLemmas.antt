-- Items, written and read.
use Rattle.std.proofs.Common.{◌≡◌, ℕ, zero, suc, ◌+◌, ◌<◌, Bool, true, false, not, cond, ◌||◌, List}
use Rattle.std.proofs.Common.{[], ◌∷◌, ◌++◌, length, take, drop, get_or, nat_lt, Option, Some, None}
use Rattle.std.proofs.Common.{option_and_then, refl, sym, ap, ◌∙◌, append_assoc, arith}
use Rattle.std.proofs.lemmas.Bool.{and_parts, or_parts, not-true, not_from_false, eqb-true, lt-ltb}
use Rattle.std.proofs.lemmas.List.{take-append-drop, drop_more, drop-drop, length-append}
use Rattle.std.proofs.lemmas.List.{length-take-le, get_or-take}
use Rattle.std.proofs.lemmas.List.Quantifiers.{position-Some}
use Rattle.std.proofs.lemmas.List.Sums.{list_all-from_AllPass}
use Rattle.std.proofs.Math.Seq.{take-append_seam, drop-append-add}
use Rattle.std.specs.List.{AllByRecursion, flat_map, list_all, position, position_or_len}
use Rattle.std.specs.Option.{option_map}
use Rattle.spell_types.specs.declared.flags.FlagKind.{FlagKind}
use Rattle.spell_types.specs.declared.patterns.Times.{Times}
use Rattle.spell_types.specs.declared.patterns.Times.TheVariants.{Once, Maybe, Many}
use Rattle.compound_pattern.specs.PatternTexts.{opens_flag, closes_flag, is_star, is_question_mark}
use Rattle.compound_pattern.specs.PatternTexts.{WrittenFlag, enclosed, bare, written_flag}
use Rattle.compound_pattern.specs.PatternTexts.{may_be_bare, is_bare_flag, is_right_form, sign}
use Rattle.compound_pattern.specs.PatternTexts.{Item, written_item, enclosed_flag, first_flag}
use Rattle.compound_pattern.specs.PatternTexts.{times_before, with_sign, followed_by, items_behind}
use Rattle.compound_pattern.specs.PatternTexts.{pattern_items_of}

abbrev pub item_of : WrittenFlag → Times → Item
item_of flag times = record { flag = flag; times = times }

abbrev pub Right : FlagKind → Item → Type 0
Right kind item = is_right_form kind item.flag ≡ true

-- what stands behind the sign at the front of a text
abbrev pub behind_sign : List ℕ → List ℕ
behind_sign behind = drop (length (sign (times_before behind))) behind

-- ---- one item
items_behind-drop : (kind : FlagKind) (read : ℕ) (text : List ℕ)
    → items_behind kind read text ≡ pattern_items_of kind (drop read text)
unfolding pattern_items_of
items_behind-drop kind zero text = refl
items_behind-drop kind (suc read) [] = refl
items_behind-drop kind (suc read) (c ∷ text) = items_behind-drop kind read text

pub items_of-nil : (kind : FlagKind) → pattern_items_of kind [] ≡ Some []
unfolding pattern_items_of
items_of-nil kind = refl

-- a text that begins with a flag is its item, followed by those that the rest behind the sign is
items_of-some : (kind : FlagKind) (c : ℕ) (text : List ℕ) (flag : WrittenFlag) (read : ℕ)
    → first_flag kind c text ≡ Some (flag, read)
    → pattern_items_of kind (c ∷ text) ≡ followed_by (item_of flag (times_before (drop read text)))
    (pattern_items_of kind (behind_sign (drop read text)))
unfolding pattern_items_of
items_of-some kind c text flag read found =
    ap (λ o. option_and_then (λ found. followed_by found.0 (items_behind kind found.1 text))
    (option_map (with_sign text) o)) found
    ∙ ap (followed_by (item_of flag (times_before (drop read text))))
    (items_behind-drop kind (read + length (sign (times_before (drop read text)))) text
    ∙ ap (pattern_items_of kind)
    (sym (drop-drop (length (sign (times_before (drop read text)))) read text)))

-- and a text that begins with none is no items
pub items_of-none : (kind : FlagKind) (c : ℕ) (text : List ℕ) → first_flag kind c text ≡ None
    → pattern_items_of kind (c ∷ text) ≡ None
unfolding pattern_items_of
items_of-none kind c text none =
    ap (λ o. option_and_then (λ found. followed_by found.0 (items_behind kind found.1 text))
    (option_map (with_sign text) o)) none

-- ---- where a flag begins a text
closed_at : (text behind : List ℕ) → list_all (λ c. not (closes_flag c)) text ≡ true
    → position_or_len closes_flag (text ++ 41 ∷ behind) ≡ length text
closed_at [] behind each = refl
closed_at (c ∷ text) behind each =
    let parts = and_parts (not (closes_flag c)) (list_all (λ c. not (closes_flag c)) text) each in
    ap (λ b. cond b (1 + position_or_len closes_flag (text ++ 41 ∷ behind)) 0) parts.0
    ∙ omega (arith, closed_at text behind parts.1)

position-closed : (text behind : List ℕ) → list_all (λ c. not (closes_flag c)) text ≡ true
    → position closes_flag (text ++ 41 ∷ behind) ≡ Some (length text)
position-closed text behind each =
    let whole = text ++ 41 ∷ behind in
    let shorter : nat_lt (length text) (length whole) ≡ true =
    lt-ltb _ _ (omega (arith, length-append text (41 ∷ behind))) in
    ap (λ n. cond (nat_lt n (length whole)) (Some n) None) (closed_at text behind each)
    ∙ ap (λ b. cond b (Some (length text)) None) shorter

-- a character that is a flag is none of the marks
pub record IsNoMark (c : ℕ) : Type 0 where
  pub not_opens : opens_flag c ≡ false
  pub not_closes : closes_flag c ≡ false
  pub not_star : is_star c ≡ false
  pub not_question : is_question_mark c ≡ false

pub bare-IsNoMark : (kind : FlagKind) (c : ℕ) → is_bare_flag kind c ≡ true → IsNoMark c
bare-IsNoMark kind c is =
    let no = not-true (opens_flag c || (closes_flag c || (is_star c || is_question_mark c)))
    (and_parts (may_be_bare kind)
    (not (opens_flag c || (closes_flag c || (is_star c || is_question_mark c)))) is).1 in
    let one = or_parts (opens_flag c) (closes_flag c || (is_star c || is_question_mark c)) no in
    let two = or_parts (closes_flag c) (is_star c || is_question_mark c) one.1 in
    let three = or_parts (is_star c) (is_question_mark c) two.1 in
    record { not_opens = one.0; not_closes = two.0; not_star = three.0; not_question = three.1 }

-- a text that a flag in a right form begins
pub items_of-flag : (kind : FlagKind) (flag : WrittenFlag) (behind : List ℕ)
    → is_right_form kind flag ≡ true
    → pattern_items_of kind (written_flag flag ++ behind) ≡ followed_by (item_of flag (times_before behind))
    (pattern_items_of kind (behind_sign behind))
items_of-flag kind (enclosed text) behind right =
    let whole = text ++ 41 ∷ behind in
    let found : first_flag kind 40 whole ≡ Some (enclosed text, length text + 1) =
    ap (option_map (λ place. (enclosed (take place whole), place + 1)))
    (position-closed text behind right)
    ∙ ap (λ xs. Some (enclosed xs, length text + 1)) (take-append_seam text (41 ∷ behind)) in
    ap (λ xs. pattern_items_of kind (40 ∷ xs)) (append_assoc text (41 ∷ []) behind)
    ∙ items_of-some kind 40 whole (enclosed text) (length text + 1) found
    ∙ ap (λ rest. followed_by (item_of (enclosed text) (times_before rest))
    (pattern_items_of kind (behind_sign rest))) (drop-append-add text (41 ∷ behind) 1)
items_of-flag kind (bare c) behind right =
    items_of-some kind c behind (bare c) 0
    (ap (λ b. cond b (enclosed_flag behind) (cond (is_bare_flag kind c) (Some (bare c, 0)) None))
    (bare-IsNoMark kind c right).not_opens
    ∙ ap (λ b. cond b (Some (bare c, 0)) None) right)

-- ---- items that are written are read
-- no sign stands at the front of items
no_sign : (kind : FlagKind) (items : List Item) → AllByRecursion (Right kind) items
    → times_before (flat_map written_item items) ≡ Once
no_sign kind [] right = refl
no_sign kind (item ∷ more) right = by item.flag right.0
  where
    by : (flag : WrittenFlag) → is_right_form kind flag ≡ true
        → times_before ((written_flag flag ++ sign item.times) ++ flat_map written_item more) ≡ Once
    by (enclosed text) own = refl
    by (bare c) own =
        let no = bare-IsNoMark kind c own in
        ap (λ b. cond b Many (cond (is_question_mark c) Maybe Once)) no.not_star
        ∙ ap (λ b. cond b Maybe Once) no.not_question

-- the sign that is written there is the one that is read
sign-read : (times : Times) (rest : List ℕ) → times_before rest ≡ Once
    → times_before (sign times ++ rest) ≡ times
sign-read Once rest none = none
sign-read Maybe rest none = refl
sign-read Many rest none = refl

pub behind_sign-sign : (times : Times) (rest : List ℕ) → times_before (sign times ++ rest) ≡ times
    → behind_sign (sign times ++ rest) ≡ rest
behind_sign-sign Once rest same = ap (λ t. drop (length (sign t)) rest) same
behind_sign-sign Maybe rest same = refl
behind_sign-sign Many rest same = refl

-- a flag and its sign at the front of a text
pub items_of-item : (kind : FlagKind) (flag : WrittenFlag) (times : Times) (rest : List ℕ)
    → is_right_form kind flag ≡ true → times_before (sign times ++ rest) ≡ times
    → pattern_items_of kind (written_flag flag ++ (sign times ++ rest)) ≡ followed_by (item_of flag times)
    (pattern_items_of kind rest)
items_of-item kind flag times rest right same =
    items_of-flag kind flag (sign times ++ rest) right
    ∙ ap (λ t. followed_by (item_of flag t) (pattern_items_of kind (behind_sign (sign times ++ rest)))) same
    ∙ ap (λ xs. followed_by (item_of flag times) (pattern_items_of kind xs))
    (behind_sign-sign times rest same)

pub items_of-written : (kind : FlagKind) (items : List Item) → AllByRecursion (Right kind) items
    → pattern_items_of kind (flat_map written_item items) ≡ Some items
items_of-written kind [] right = items_of-nil kind
items_of-written kind (item ∷ more) right =
    ap (pattern_items_of kind)
    (append_assoc (written_flag item.flag) (sign item.times) (flat_map written_item more))
    ∙ items_of-item kind item.flag item.times (flat_map written_item more) right.0
    (sign-read item.times (flat_map written_item more) (no_sign kind more right.1))
    ∙ ap (followed_by item) (items_of-written kind more right.1)

-- ---- items that are read are written
-- a flag that is read is written there, in a right form
record IsRead (kind : FlagKind) (c : ℕ) (text : List ℕ) (flag : WrittenFlag) (read : ℕ) : Type
    0 where
  joined : c ∷ text ≡ written_flag flag ++ drop read text
  right : is_right_form kind flag ≡ true

given : (x y : WrittenFlag × ℕ) → Some x ≡ Some y → x ≡ y
given x y is = cc

first_flag-IsRead : (kind : FlagKind) (c : ℕ) (text : List ℕ) (flag : WrittenFlag) (read : ℕ)
    → first_flag kind c text ≡ Some (flag, read) → IsRead kind c text flag read
first_flag-IsRead kind c text flag read found = by_mark (opens_flag c) refl found
  where
    by_place : (o : Option ℕ) → position closes_flag text ≡ o → c ≡ 40
        → option_map {U = WrittenFlag × ℕ} (λ place. (enclosed (take place text), place + 1)) o
        ≡ Some (flag, read) → IsRead kind c text flag read
    by_place None at same is = absurd (cc)
    by_place (Some place) at same is =
        let own : flag ≡ enclosed (take place text) =
        ap (λ p. p.0) (sym (given (enclosed (take place text), place + 1) (flag, read) is))
        in
        let count : read ≡ place + 1 =
        ap (λ p. p.1) (sym (given (enclosed (take place text), place + 1) (flag, read) is))
        in
        let first = position-Some closes_flag text place 0 at in
        let close : get_or text place 0 ≡ 41 = eqb-true (get_or text place 0) 41 first.1 in
        let parts : text ≡ take place text ++ 41 ∷ drop (place + 1) text =
        sym (take-append-drop place text)
        ∙ ap (λ xs. take place text ++ xs)
        (drop_more text place 0 first.0 ∙ ap (λ x. x ∷ drop (place + 1) text) close) in
        let each : list_all (λ x. not (closes_flag x)) (take place text) ≡ true =
        list_all-from_AllPass (λ x. not (closes_flag x)) (take place text)
        (λ k d within.
        let here : k < place = omega (arith, length-take-le place text (omega (arith, first.0))) in
        ap (λ x. not (closes_flag x)) (get_or-take place text k d here)
        ∙ not_from_false (closes_flag (get_or text k d))
        ((position-Some closes_flag text place d at).2 k here)) in
        record {
          joined =
              ap (λ x. x ∷ text) same
              ∙ ap (λ xs. 40 ∷ xs)
              (parts ∙ sym (append_assoc (take place text) (41 ∷ []) (drop (place + 1) text)))
              ∙ ap (λ f. written_flag f ++ drop (place + 1) text) (sym own)
              ∙ ap (λ n. written_flag flag ++ drop n text) (sym count);
          right = ap (is_right_form kind) own ∙ each;
        }

    by_bare : (b : Bool) → is_bare_flag kind c ≡ b
        → cond {A = Option (WrittenFlag × ℕ)} b (Some (bare c, 0)) None ≡ Some (flag, read)
        → IsRead kind c text flag read
    by_bare false isnt is = absurd (cc)
    by_bare true may is =
        let own : flag ≡ bare c = ap (λ p. p.0) (sym (given (bare c, 0) (flag, read) is)) in
        let count : read ≡ 0 = ap (λ p. p.1) (sym (given (bare c, 0) (flag, read) is)) in
        record {
          joined = ap (λ f. written_flag f ++ text) (sym own)
              ∙ ap (λ n. written_flag flag ++ drop n text) (sym count);
          right = ap (is_right_form kind) own ∙ may;
        }

    by_mark : (b : Bool) → opens_flag c ≡ b
        → cond {A = Option (WrittenFlag × ℕ)} b (enclosed_flag text)
        (cond {A = Option (WrittenFlag × ℕ)} (is_bare_flag kind c) (Some (bare c, 0)) None)
        ≡ Some (flag, read) → IsRead kind c text flag read
    by_mark true at is = by_place (position closes_flag text) refl (eqb-true c 40 at) is
    by_mark false at is = by_bare (is_bare_flag kind c) refl is

sign-behind : (behind : List ℕ) → behind ≡ sign (times_before behind) ++ behind_sign behind
sign-behind [] = refl
sign-behind (c ∷ rest) = by_star (is_star c) refl
  where
    by_question : (b : Bool) → is_question_mark c ≡ b → c ∷ rest ≡ sign (cond b Maybe Once)
        ++ drop (length (sign (cond b Maybe Once))) (c ∷ rest)
    by_question true is = ap (λ x. x ∷ rest) (eqb-true c 63 is)
    by_question false is = refl

    by_star : (b : Bool) → is_star c ≡ b
        → c ∷ rest ≡ sign (cond b Many (cond (is_question_mark c) Maybe Once))
        ++ drop (length (sign (cond b Many (cond (is_question_mark c) Maybe Once)))) (c ∷ rest)
    by_star true is = ap (λ x. x ∷ rest) (eqb-true c 42 is)
    by_star false is = by_question (is_question_mark c) refl

-- what is read of a text that is not empty
record BeginsAs (kind : FlagKind) (text : List ℕ) (items : List Item) : Type 0 where
  item : Item
  more : List Item
  rest : List ℕ
  parts : items ≡ item ∷ more
  joined : text ≡ written_item item ++ rest
  right : Right kind item
  others : pattern_items_of kind rest ≡ Some more

begins_as : (kind : FlagKind) (c : ℕ) (text : List ℕ) (items : List Item)
    → pattern_items_of kind (c ∷ text) ≡ Some items → BeginsAs kind (c ∷ text) items
begins_as kind c text items is = by_flag (first_flag kind c text) refl
  where
    by_others : (flag : WrittenFlag) (read : ℕ) (o : Option (List Item))
        → first_flag kind c text ≡ Some (flag, read)
        → pattern_items_of kind (behind_sign (drop read text))
        ≡ o
        → followed_by (item_of flag (times_before (drop read text))) o ≡ Some items
        → BeginsAs kind (c ∷ text) items
    by_others flag read None found rest same = absurd (cc)
    by_others flag read (Some more) found rest same =
        let behind = drop read text in
        let own = first_flag-IsRead kind c text flag read found in
        record {
          item = item_of flag (times_before behind);
          more = more;
          rest = behind_sign behind;
          parts = cc;
          joined =
              own.joined ∙ ap (λ xs. written_flag flag ++ xs) (sign-behind behind)
              ∙ sym (append_assoc (written_flag flag) (sign (times_before behind))
              (behind_sign behind));
          right = own.right;
          others = rest;
        }

    by_flag : (o : Option (WrittenFlag × ℕ)) → first_flag kind c text ≡ o
        → BeginsAs kind (c ∷ text) items
    by_flag None none = absurd (let no = items_of-none kind c text none in cc)
    by_flag (Some (flag, read)) found =
        by_others flag read (pattern_items_of kind (behind_sign (drop read text))) found refl
        (sym (items_of-some kind c text flag read found) ∙ is)

-- a text that is not empty is never no items
pub some_items : (kind : FlagKind) (c : ℕ) (text : List ℕ)
    → pattern_items_of kind (c ∷ text) ≡ Some [] → ⊥
some_items kind c text is = let first = begins_as kind c text [] is in let parts = first.parts in cc

pub written-items_of : (kind : FlagKind) (items : List Item) (text : List ℕ)
    → pattern_items_of kind text ≡ Some items → (text ≡ flat_map written_item items)
    × AllByRecursion (Right kind) items
written-items_of kind [] [] is = (refl, tt)
written-items_of kind [] (c ∷ text) is = absurd (some_items kind c text is)
written-items_of kind (item ∷ more) [] is = let none = items_of-nil kind in absurd (cc)
written-items_of kind (item ∷ more) (c ∷ text) is =
    let first = begins_as kind c text (item ∷ more) is in
    let parts = first.parts in
    let own : first.item ≡ item = cc in
    let others : first.more ≡ more = cc in
    let rest = written-items_of kind more first.rest (first.others ∙ ap (λ xs. Some xs) others) in (
      first.joined ∙ ap (λ i. written_item i ++ first.rest) own ∙ ap (λ xs. written_item item ++ xs) rest.0,
      (sym (ap (λ i. is_right_form kind i.flag) own) ∙ first.right, rest.1),
    )
