-- Which compound rule a text is.
use Rattle.std.specs.Prelude.{◌≡◌, ℕ, zero, suc, ◌+◌, ◌<◌, ◌==◌, Bool, true, false, not, ◌&&◌, ◌||◌}
use Rattle.std.specs.Prelude.{List, [], ◌∷◌, ◌++◌, length, map, take, drop, Option, None, Some}
use Rattle.std.specs.Prelude.{option_and_then, Result, Err, if◌then◌else◌}
use Rattle.std.specs.Borrow.{Bor}
use Rattle.std.specs.List.{AllByRecursion, flat_map, list_all, position}
use Rattle.std.specs.Option.{option_map, ok_or}
use Rattle.std.specs.Str.{chars, encode_utf8_all}
use Rattle.flag_sets.specs.FlagTexts.{one_flag}
use Rattle.spell_types.specs.declared.flags.FlagKind.{FlagKind}
use Rattle.spell_types.specs.declared.flags.FlagKind.TheVariants.{Single, Utf8, Long, Num}
use Rattle.spell_types.specs.declared.patterns.PatternStep.{PatternStep}
use Rattle.spell_types.specs.declared.patterns.Times.{Times}
use Rattle.spell_types.specs.declared.patterns.Times.TheVariants.{Once, Maybe, Many}
use Rattle.compound_pattern.specs.declared.reading.PatternFault.{PatternFault}
use Rattle.compound_pattern.specs.declared.reading.PatternFault.TheVariants.{BadPattern, BadFlag}

-- `(`
abbrev pub opens_flag : ℕ → Bool
opens_flag c = c == 40

-- `)`
abbrev pub closes_flag : ℕ → Bool
closes_flag c = c == 41

-- `*`
abbrev pub is_star : ℕ → Bool
is_star c = c == 42

-- `?`
abbrev pub is_question_mark : ℕ → Bool
is_question_mark c = c == 63

-- ---- how a text writes a rule
-- A flag as it is written: its own text in parentheses, or one character without them.
pub data WrittenFlag : Type 0 where
  enclosed : List ℕ → WrittenFlag
  bare : ℕ → WrittenFlag

-- the flag's own text
abbrev pub flag_text : WrittenFlag → List ℕ
flag_text (enclosed text) = text
flag_text (bare c) = c ∷ []

-- the characters that write the flag
abbrev pub written_flag : WrittenFlag → List ℕ
written_flag (enclosed text) = 40 ∷ (text ++ 41 ∷ [])
written_flag (bare c) = c ∷ []

-- whether flags of this type may stand without parentheses
abbrev pub may_be_bare : FlagKind → Bool
may_be_bare Single = true
may_be_bare Utf8 = true
may_be_bare Long = false
may_be_bare Num = false

-- whether a character is a flag without parentheses
abbrev pub is_bare_flag : FlagKind → ℕ → Bool
is_bare_flag kind c =
    may_be_bare kind && not (opens_flag c || (closes_flag c || (is_star c || is_question_mark c)))

-- whether a flag of this type may be written so: the first `)` closes the parentheses
abbrev pub is_right_form : FlagKind → WrittenFlag → Bool
is_right_form kind (enclosed text) = list_all (λ c. not (closes_flag c)) text
is_right_form kind (bare c) = is_bare_flag kind c

-- the sign behind a flag
abbrev pub sign : Times → List ℕ
sign Once = []
sign Maybe = 63 ∷ []
sign Many = 42 ∷ []

-- A flag as it is written, and how many parts of a compound it stands for.
pub record Item : Type 0 where
  pub flag : WrittenFlag
  pub times : Times

-- the characters that write the item
abbrev pub written_item : Item → List ℕ
written_item item = written_flag item.flag ++ sign item.times

-- the step that an item is, if its text is one flag
abbrev pub step_of : FlagKind → Item → Option PatternStep
step_of kind item =
    option_map (λ flag. record { flag = flag; times = item.times })
    (one_flag kind (encode_utf8_all (flag_text item.flag)))

-- The text is what the items write, one behind the other: at least one item, each in a form that is
-- right for the type.
pub record IsWrittenBy (kind : FlagKind) (text : List ℕ) (items : List Item) : Type 0 where
  pub some : 0 < length items
  pub right : AllByRecursion (λ item. is_right_form kind item.flag ≡ true) items
  pub joined : chars text ≡ flat_map written_item items

-- A text is a rule of these steps: items write it, and each of them is the step at its place.
pub record ReadsPattern (kind : FlagKind) (text : List ℕ) (steps : List PatternStep) : Type 0 where
  pub items : List Item
  pub written_by : IsWrittenBy kind text items
  pub each : map (step_of kind) items ≡ map (λ step. Some step) steps

-- Items write the text, and the text of one of them is not one flag.
pub record HasBadFlag (kind : FlagKind) (text : List ℕ) : Type 0 where
  pub items : List Item
  pub written_by : IsWrittenBy kind text items
  pub front : List Item
  pub item : Item
  pub more : List Item
  pub place : items ≡ front ++ item ∷ more
  pub bad : one_flag kind (encode_utf8_all (flag_text item.flag)) ≡ None

-- ---- how a rule is read
-- a flag in parentheses, and how many of the characters behind the `(` write it: those before the
-- first `)`, and that one
abbrev pub enclosed_flag : List ℕ → Option (WrittenFlag × ℕ)
enclosed_flag behind =
    option_map (λ place. (enclosed (take place behind), place + 1)) (position closes_flag behind)

-- the flag that begins with a character, and how many of the characters behind that one write it
-- too
abbrev pub first_flag : FlagKind → ℕ → List ℕ → Option (WrittenFlag × ℕ)
first_flag kind c behind =
    if opens_flag c then enclosed_flag behind
    else (if is_bare_flag kind c then Some (bare c, 0) else None)

-- how many parts a flag stands for that stands before these characters
abbrev pub times_before : List ℕ → Times
times_before [] = Once
times_before (c ∷ behind) = if is_star c then Many else (if is_question_mark c then Maybe else Once)

-- the flag with its sign, and how many of the characters write both
abbrev pub with_sign : List ℕ → WrittenFlag × ℕ → Item × ℕ
with_sign behind (flag, read) =
    let times = times_before (drop read behind) in
    (record { flag = flag; times = times }, read + length (sign times))

-- the item that begins with a character, and how many of the characters behind that one write it
-- too
abbrev pub first_item : FlagKind → ℕ → List ℕ → Option (Item × ℕ)
first_item kind c behind = option_map (with_sign behind) (first_flag kind c behind)

-- the item, and behind it those that the rest is
abbrev pub followed_by : Item → Option (List Item) → Option (List Item)
followed_by item rest = option_map (λ items. item ∷ items) rest

-- the items of the text from the place behind its first characters, so many of which belong to an
-- item already
abbrev pub items_behind : FlagKind → ℕ → List ℕ → Option (List Item)
items_behind kind read [] = Some []
items_behind kind (suc read) (c ∷ text) = items_behind kind read text
items_behind kind zero (c ∷ text) =
    option_and_then (λ found. followed_by found.0 (items_behind kind found.1 text))
    (first_item kind c text)

-- the items that characters write, from their front to their end
unfoldable pub pattern_items_of : FlagKind → List ℕ → Option (List Item)
pattern_items_of kind text = items_behind kind 0 text

-- a step before the others, if there are others
abbrev pub with_first : PatternStep → Option (List PatternStep) → Option (List PatternStep)
with_first step more = option_map (λ steps. step ∷ steps) more

-- the steps that items are, if the text of each is one flag
abbrev pub steps_of : FlagKind → List Item → Option (List PatternStep)
steps_of kind [] = Some []
steps_of kind (item ∷ more) =
    option_and_then (λ step. with_first step (steps_of kind more)) (step_of kind item)

-- the rule that items are, if there are any
abbrev pub rule_of_items : FlagKind → Option (List Item) → Result (List PatternStep) PatternFault
rule_of_items kind None = Err BadPattern
rule_of_items kind (Some []) = Err BadPattern
rule_of_items kind (Some (item ∷ more)) = ok_or (steps_of kind (item ∷ more)) BadFlag

-- The rule that a text is, or the fault: what no items write goes before a text that is no flag.
unfoldable pub pattern_of : FlagKind → List ℕ → Result (List PatternStep) PatternFault
pattern_of kind text = rule_of_items kind (pattern_items_of kind (chars text))

-- ---- how a reader goes on in a text
-- no flag begins the text, or this is the own text of one that does, and this is what stands behind
-- it
abbrev pub BeginsWithFlag : FlagKind → List ℕ → Option (Bor (List ℕ) × Bor (List ℕ)) → Type 0
BeginsWithFlag kind text None = pattern_items_of kind (chars text) ≡ None
BeginsWithFlag kind text (Some (own, rest)) =
    (flag : WrittenFlag) × (own.now ≡ encode_utf8_all (flag_text flag))
    × (is_right_form kind flag ≡ true)
    × (chars text ≡ written_flag flag ++ chars rest.now)

-- no item begins the text, or this is the step of one that does, and the others are those of this
-- rest
abbrev pub PatternTextGoesOn : FlagKind → List ℕ → Option (Option PatternStep × Bor (List ℕ))
    → Type 0
PatternTextGoesOn kind text None = pattern_items_of kind (chars text) ≡ None
PatternTextGoesOn kind text (Some (step, rest)) =
    (item : Item) × (step ≡ step_of kind item)
    × (pattern_items_of kind (chars text) ≡ followed_by item (pattern_items_of kind (chars rest.now)))
