-- Lists of parts that make up the rest of a word, and how few parts they may have.
use Rattle.std.specs.Prelude.{◌≡◌, ℕ, ◌+◌, ◌<◌, Bool, true, false, nat_lt, ◌&&◌, ◌||◌, List, []}
use Rattle.std.specs.Prelude.{◌∷◌, ◌++◌, length, map, take, drop, get_or, slice_get, Option, None}
use Rattle.std.specs.Prelude.{Some}
use Rattle.std.specs.Prelude.{option_and_then, if◌then◌else◌}
use Rattle.std.specs.Borrow.{Bor}
use Rattle.std.specs.List.{AllByRecursion, filter, flat_map, list_any}
use Rattle.std.specs.Option.{option_map_or, option_to_list}
use Rattle.spell_types.specs.declared.derivations.Derivation.{Derivation}
use Rattle.spell_types.specs.declared.flags.Flag.{Flag}
use Rattle.spell_types.specs.declared.parts.Part.{Part}
use Rattle.spell_types.specs.declared.parts.Place.{Place}
use Rattle.spell_types.specs.declared.parts.Place.TheVariants.{First, Middle, Last}
use Rattle.spell_types.specs.declared.patterns.PatternStep.{PatternStep}
use Rattle.spell_types.specs.Compounds.{Asked, IsGiven, are_joined, begin_well, stretch, written}
use Rattle.spell_types.specs.Compounds.{all_stand, flags_of, do_meet, end_well, follows_rule}
use Rattle.spell_types.specs.Compounds.{are_few}
use Rattle.spell_types.specs.EntriesOf.{entry_flags}
use Rattle.spell_types.specs.Parts.{stands_at, stands_in_rule}
use Rattle.spell_types.specs.Patterns.{matches, fits_step, is_left_out, is_many}
use Rattle.compound_words.specs.declared.rests.Behind.{Behind}
use Rattle.compound_words.specs.declared.rests.FirstPart.{FirstPart}
use Rattle.compound_words.specs.declared.rests.RestsRow.{RestsRow}
use Rattle.compound_words.specs.declared.search.Search.{Search}
use Rattle.compound_words.specs.Counting.{fewest, least_of_two, one_more, number_at, IsFewest}
use Rattle.compound_words.specs.Counting.{OneOf}
use Rattle.compound_words.specs.Pieces.{may_begin, EndsBefore}

-- of what compounds are asked in a search
abbrev pub asked_by : Search → Asked
asked_by search =
    record { lexicon = search.stems.now; by_case = search.by_case; capital = search.capital }

-- How parts may stand: by their flags; or as the steps of a rule from a place on match them.
pub data Way : Type 0 where
  ByFlags : Way
  ByRule : ℕ → ℕ → Way

-- whether the steps of a rule from a place on match these sets
abbrev pub matches_from : List (List PatternStep) → ℕ → ℕ → List (List Flag) → Bool
matches_from rules rule step sets =
    option_map_or (λ pattern. matches (drop step pattern) sets) (slice_get rules rule) false

-- the rules of a search
abbrev pub patterns_of : Search → List (List PatternStep)
patterns_of search = search.rules.now

-- whether there are as many parts as a word needs of which the first stands here, and it begins as
-- a word does
abbrev pub is_enough : Place → List Part → Bool
is_enough First parts = nat_lt 1 (length parts) && begin_well parts
is_enough Middle parts = true
is_enough Last parts = true

-- nothing is before a part that stands first in a word
abbrev pub IsFrontOf : Place → List ℕ → Type 0
IsFrontOf First before = before ≡ []
IsFrontOf Middle before = Unit {0}
IsFrontOf Last before = Unit {0}

-- whether there are enough parts, and each stands at its place, the first of them here
abbrev pub stand_from : (Derivation → Place → Bool) → Place → List Part → Bool
stand_from stands here parts = is_enough here parts && all_stand stands here parts

-- whether parts stand in this way, the first of them here
abbrev pub holds : Asked → List (List PatternStep) → Place → Way → List Part → Bool
holds a rules here ByFlags parts = stand_from (stands_at a.lexicon) here parts
holds a rules here (ByRule rule step) parts =
    stand_from (stands_in_rule a.lexicon) here parts && matches_from rules rule step
    (flags_of a parts)

-- the parts write the text, they meet, and the last of them may stand there
pub record AreRest (a : Asked) (text : List ℕ) (parts : List Part) : Type 0 where
  pub given : AllByRecursion (IsGiven a) parts
  pub joined : written parts ≡ text
  pub meet : do_meet a parts ≡ true
  pub ends : end_well a parts ≡ true

-- so many parts, of which this is the first, write the text and stand so
pub record Leads (a : Asked) (text : List ℕ) (stand : List Part → Bool) (part : Part)
    (count : ℕ) : Type 0 where
  pub more : List Part
  pub rest : AreRest a text (part ∷ more)
  pub so : stand (part ∷ more) ≡ true
  pub long : length (part ∷ more) ≡ count

-- so many parts behind this one write the text with it and stand so
pub record HasPartsBehind (a : Asked) (text : List ℕ) (stand : List Part → Bool) (part : Part)
    (count : ℕ) : Type 0 where
  pub more : List Part
  pub rest : AreRest a text (part ∷ more)
  pub so : stand more ≡ true
  pub long : length more ≡ count

abbrev pub numbers_at : List (List (Option ℕ)) → ℕ → ℕ → Option ℕ
numbers_at numbers rule step = option_and_then (λ own. number_at own step) (slice_get numbers rule)

-- the number for a way
abbrev pub count_of : FirstPart → Way → Option ℕ
count_of rest ByFlags = rest.by_flags
count_of rest (ByRule rule step) = numbers_at rest.by_rules rule step

-- the numbers tell for each way how few parts, of which its part is the first, write the text
abbrev pub IsRight : Asked → List (List PatternStep) → Place → List ℕ → FirstPart → Type 0
IsRight a rules here text rest =
    (way : Way) → IsFewest (Leads a text (holds a rules here way) rest.part) (count_of rest way)

-- whether the part may stand before the first part of a rest
abbrev pub may_precede : Asked → Part → FirstPart → Bool
may_precede a part rest = are_joined a part rest.part

-- the part stands first in one of them
abbrev pub HasPart : Part → List FirstPart → Type 0
HasPart part rests = OneOf (λ rest. rest.part ≡ part) rests

-- these are the first parts of all that write the text behind a place inside the word, where this
-- text is before it
pub record IsRow (a : Asked) (rules : List (List PatternStep)) (before text : List ℕ)
    (rests : List FirstPart) : Type 0 where
  pub right : AllByRecursion (IsRight a rules Middle text) rests
  pub all : (part : Part) (more : List Part) (way : Way) → may_begin a.lexicon before part ≡ true
      → AreRest a text (part ∷ more) → holds a rules Middle way (part ∷ more) ≡ true
      → HasPart part rests

-- the rests at these places
abbrev pub picked : List FirstPart → List ℕ → List FirstPart
picked rests places = flat_map (λ place. option_to_list (slice_get rests place)) places

-- how few parts there are with the rests that the part may stand before
abbrev pub number_before : Asked → Part → Way → List FirstPart → Option ℕ
number_before a part way rests =
    fewest (map (λ rest. count_of rest way) (filter (may_precede a part) rests))

-- the rests at these places are enough: before no part have all of them fewer parts than these
pub record AreHeads (rests : List FirstPart) (places : List ℕ) : Type 0 where
  pub same : (a : Asked) (part : Part) (way : Way)
      → number_before a part way (picked rests places) ≡ number_before a part way rests

-- the rest may follow wherever the other may, with no more parts
pub record CanStandFor (rest other : FirstPart) : Type 0 where
  pub same : (a : Asked) (part : Part) → may_precede a part rest ≡ may_precede a part other
  pub less : (way : Way) → least_of_two (count_of rest way) (count_of other way) ≡ count_of rest way

-- a row of places behind this one
pub record IsRowAt (a : Asked) (rules : List (List PatternStep)) (word : List ℕ) (from : ℕ)
    (row : RestsRow) : Type 0 where
  pub after : from < row.place
  pub inside : row.place < length word
  pub is : IsRow a rules (take row.place word) (drop row.place word) row.rests
  pub enough : AreHeads row.rests row.heads

-- there is a row for each place behind this one that may be reached and from which parts write the
-- rest of the word
pub record AreRows (a : Asked) (rules : List (List PatternStep)) (reached : List Bool)
    (word : List ℕ) (from : ℕ) (rows : List RestsRow) : Type 0 where
  pub right : AllByRecursion (IsRowAt a rules word from) rows
  pub all : (place : ℕ) (part : Part) (more : List Part) (way : Way) → from < place
      → place < length word → get_or reached place false ≡ true
      → may_begin a.lexicon (take place word) part ≡ true
      → AreRest a (drop place word) (part ∷ more) → holds a rules Middle way (part ∷ more) ≡ true
      → OneOf (λ row. row.place ≡ place) rows

-- the rests that references lead to
abbrev pub rests_at : List (Bor FirstPart) → List FirstPart
rests_at rests = map (λ rest. rest.now) rests

-- how few parts may stand behind the last part: none, unless the steps of a rule do not match
-- nothing
abbrev pub number_at_end : List (List PatternStep) → Way → Option ℕ
number_at_end rules ByFlags = Some 0
number_at_end rules (ByRule rule step) = if matches_from rules rule step [] then Some 0 else None

-- how few parts may stand behind a part: none at the end of the word, or those of a rest
abbrev pub number_behind : List (List PatternStep) → Behind → Way → Option ℕ
number_behind rules behind way =
    if behind.is_end then number_at_end rules way else fewest
    (map (λ rest. count_of rest way) (rests_at behind.rests.now))

-- How few parts the steps of a rule match whose first has these flags, where `behind` tells how few
-- the steps from a place on match behind it: a step is left out, or it stands for the first part.
abbrev pub number_by_steps : List Flag → (ℕ → Option ℕ) → List PatternStep → ℕ → Option ℕ
number_by_steps flags behind [] place = None
number_by_steps flags behind (step ∷ more) place =
    least_of_two (if is_left_out step then number_by_steps flags behind more (place + 1) else None)
    (if fits_step step flags then one_more
    (behind (if is_many step.times then place else place + 1)) else None)

-- how few parts a rule matches from a step on
abbrev pub number_by_rule : List Flag → List (List PatternStep) → Behind → ℕ → ℕ → Option ℕ
number_by_rule flags rules behind rule step =
    option_and_then
    (λ pattern. number_by_steps flags (λ j. number_behind rules behind (ByRule rule j))
    (drop step pattern) step) (slice_get rules rule)

-- how few parts there are with this one before those
abbrev pub number_with : Asked → List (List PatternStep) → Place → Part → Behind → Way → Option ℕ
number_with a rules place part behind ByFlags =
    if stands_at a.lexicon part.d place then one_more (number_behind rules behind ByFlags) else None
number_with a rules place part behind (ByRule rule step) =
    if stands_in_rule a.lexicon part.d place then number_by_rule
    (entry_flags a.lexicon part.d) rules behind rule step else None

-- the rest begins with the part, and its numbers are these
pub record HasNumbers (a : Asked) (rules : List (List PatternStep)) (place : Place) (part : Part)
    (behind : Behind) (rest : FirstPart) : Type 0 where
  pub first : rest.part ≡ part
  pub numbers : (way : Way) → count_of rest way ≡ number_with a rules place part behind way

-- there are no numbers
abbrev pub HasNone : Asked → List (List PatternStep) → Place → Part → Behind → Type 0
HasNone a rules place part behind = (way : Way) → number_with a rules place part behind way ≡ None

-- the rest that was made has the numbers, or there are none
abbrev pub IsMade : Asked → List (List PatternStep) → Place → Part → Behind → Option FirstPart
    → Type 0
IsMade a rules place part behind None = HasNone a rules place part behind
IsMade a rules place part behind (Some rest) = HasNumbers a rules place part behind rest

-- the row after the rest was added that was made, if one was
pub record IsRowAdded (a : Asked) (rules : List (List PatternStep)) (place : Place) (part : Part)
    (behind : Behind) (before now : List FirstPart) : Type 0 where
  pub made : Option FirstPart
  pub is : IsMade a rules place part behind made
  pub added : now ≡ before ++ option_to_list made

-- the same, or the part was there already
pub data IsAddedOnce (a : Asked) (rules : List (List PatternStep)) (place : Place) (part : Part)
    (behind : Behind) (before now : List FirstPart) : Type 0 where
  Known : HasPart part before → now ≡ before → IsAddedOnce a rules place part behind before now
  New : IsRowAdded a rules place part behind before now
      → IsAddedOnce a rules place part behind before now

-- a row to which rests of a text were added: it has what it had, and if that was right, all is
pub record Grows (a : Asked) (rules : List (List PatternStep)) (here : Place) (text : List ℕ)
    (before now : List FirstPart) : Type 0 where
  pub right : AllByRecursion (IsRight a rules here text) before
      → AllByRecursion (IsRight a rules here text) now
  pub kept : (part : Part) → HasPart part before → HasPart part now

-- Where in a word a part is looked for: what is before it, what it writes, what follows, and the
-- rests of the word there.
pub record Piece : Type 0 where
  pub before : List ℕ
  pub front : List ℕ
  pub following : List ℕ
  pub rests : List FirstPart

-- the row has each part from which others write a text, where it writes so much of it
pub record HasFirsts (a : Asked) (rules : List (List PatternStep)) (here : Place) (text : List ℕ)
    (piece : Piece) (row : List FirstPart) : Type 0 where
  pub has : (part : Part) (more : List Part) (way : Way)
      → may_begin a.lexicon piece.before part ≡ true
      → EndsBefore a.lexicon piece.following piece.rests part
      → stretch part ≡ piece.front → AreRest a text (part ∷ more)
      → holds a rules here way (part ∷ more) ≡ true → HasPart part row

-- the row has the first part of each list of two parts or more that writes the text
abbrev pub HasInner : Asked → List (List PatternStep) → Place → List ℕ → List ℕ → List FirstPart
    → Type 0
HasInner a rules here before text row =
    (part next : Part) (more : List Part) (way : Way) → may_begin a.lexicon before part ≡ true
    → AreRest a text (part ∷ next ∷ more) → holds a rules here way (part ∷ next ∷ more) ≡ true
    → HasPart part row

-- the rules that are looked at match what all rules match
pub record AreRulesOf (a : Asked) (rules : List (List PatternStep)) : Type 0 where
  pub same : (part : Part) (more : List Part) → IsGiven a part
      → list_any (follows_rule a First (part ∷ more)) rules
      ≡ list_any (follows_rule a First (part ∷ more)) a.lexicon.affixes.patterns
  pub fewer : (test : List PatternStep → Bool) → list_any test rules ≡ true
      → list_any test a.lexicon.affixes.patterns ≡ true

-- whether there are few enough parts
abbrev pub is_few : Asked → Option ℕ → Bool
is_few a number = option_map_or (are_few a) number false

-- whether a rest has few enough parts in one of the ways
abbrev pub has_few : Asked → FirstPart → Bool
has_few a rest =
    is_few a rest.by_flags || list_any (λ own. is_few a (number_at own 0)) rest.by_rules
