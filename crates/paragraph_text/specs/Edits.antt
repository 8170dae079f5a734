-- What an edit makes of a list of paragraphs, and where it is refused.
use Rattle.std.specs.Prelude.{◌≡◌, ℕ, ◌+◌, ◌<◌, ◌≤◌, Bool, true, false, ◌&&◌, ◌||◌, ◌==◌, ◌⊎◌, List}
use Rattle.std.specs.Prelude.{[], ◌∷◌, ◌++◌, length, take, drop, nat_lt, nat_le, find, position}
use Rattle.std.specs.Prelude.{slice_get, Option, None, Some}
use Rattle.std.specs.Option.{option_and_then, option_map, option_map_or, option_or}
use Rattle.text_lines.specs.lists.Changes.{Change, SetAt, InsertAt, RemoveAt, changed}
use Rattle.paragraph_text.specs.Paragraphs.{Paragraph, HasNoBreak}
use Rattle.paragraph_text.specs.declared.edits.Edit.{Edit}
use Rattle.paragraph_text.specs.declared.edits.Edit.TheVariants.{Replace, Insert, Remove}
use Rattle.paragraph_text.specs.declared.edits.EditRefusal.{EditRefusal}
use Rattle.paragraph_text.specs.declared.edits.EditRefusal.TheVariants.{Gone, Behind, BadSpan}
use Rattle.paragraph_text.specs.declared.edits.EditRefusal.TheVariants.{HasBreak, TooLong, Full}
use Rattle.paragraph_text.specs.declared.limits.TheConstants.{MOST_BYTES, MOST_PARAGRAPHS}

-- whether a character of a text in UTF-8 ends or begins at a place: bytes from 128 to 191 go on
-- with a character
abbrev pub is_edge : List ℕ → ℕ → Bool
is_edge text place =
    option_map_or (λ byte. nat_lt byte 128 || nat_le 192 byte) (slice_get text place)
    (place == length text)

-- whether the bytes from one place to another are whole characters of a text
abbrev pub is_span : List ℕ → ℕ → ℕ → Bool
is_span text from to = nat_le from to && (is_edge text from && is_edge text to)

-- a text with the bytes from one place to another replaced
abbrev pub spliced : List ℕ → ℕ → ℕ → List ℕ → List ℕ
spliced text from to put = take from text ++ put ++ drop to text

-- the first paragraph with an id
abbrev pub with_id : ℕ → List Paragraph → Option Paragraph
with_id id paragraphs = find (λ paragraph. paragraph.id == id) paragraphs

-- where it stands
abbrev pub place_of : ℕ → List Paragraph → Option ℕ
place_of id paragraphs = position (λ paragraph. paragraph.id == id) paragraphs

-- ---- what an edit makes of a list: a front, the touched paragraph, and a rest

-- the bytes from one place to another of a paragraph's text are replaced
pub record Replaces (version : ℕ) (paragraphs : List Paragraph) (id rev from to : ℕ) (put : List ℕ)
    (after : List Paragraph) : Type 0 where
  pub front : List Paragraph
  pub touched : Paragraph
  pub rest : List Paragraph
  pub before_is : paragraphs ≡ front ++ touched ∷ rest
  pub named : touched.id ≡ id
  pub current : touched.rev ≡ rev
  pub span : is_span touched.text from to ≡ true
  pub whole : HasNoBreak put
  pub short : length (spliced touched.text from to put) ≤ MOST_BYTES
  pub after_is : after ≡ front
      ++ record { id = id; rev = version; text = spliced touched.text from to put } ∷ rest

-- a rest begins with the paragraph that is named; it is empty where none is
abbrev pub BeginsWith : Option ℕ → List Paragraph → Type 0
BeginsWith None rest = rest ≡ []
BeginsWith (Some id) [] = ⊥
BeginsWith (Some id) (first ∷ others) = first.id ≡ id

-- a paragraph is put before one that is named, or at the end
pub record Inserts (version next_id : ℕ) (paragraphs : List Paragraph) (before : Option ℕ)
    (put : List ℕ) (after : List Paragraph) : Type 0 where
  pub front : List Paragraph
  pub rest : List Paragraph
  pub before_is : paragraphs ≡ front ++ rest
  pub begins : BeginsWith before rest
  pub whole : HasNoBreak put
  pub short : length put ≤ MOST_BYTES
  pub room : length paragraphs < MOST_PARAGRAPHS
  pub after_is : after ≡ front ++ record { id = next_id; rev = version; text = put } ∷ rest

-- a paragraph is taken out
pub record Removes (paragraphs : List Paragraph) (id rev : ℕ) (after : List Paragraph) : Type
    0 where
  pub front : List Paragraph
  pub touched : Paragraph
  pub rest : List Paragraph
  pub before_is : paragraphs ≡ front ++ touched ∷ rest
  pub named : touched.id ≡ id
  pub current : touched.rev ≡ rev
  pub after_is : after ≡ front ++ rest

-- an edit makes this list of paragraphs whose next version and next id are these
abbrev pub Applies : ℕ → ℕ → List Paragraph → Edit → List Paragraph → Type 0
Applies version next_id paragraphs (Replace id rev from to text) after =
    Replaces version paragraphs id rev from to text after
Applies version next_id paragraphs (Insert before text) after =
    Inserts version next_id paragraphs before text after
Applies version next_id paragraphs (Remove id rev) after = Removes paragraphs id rev after

-- the next id behind an edit
abbrev pub next_id_after : ℕ → Edit → ℕ
next_id_after next_id (Replace id rev from to text) = next_id
next_id_after next_id (Insert before text) = next_id + 1
next_id_after next_id (Remove id rev) = next_id

-- ---- which change of the list an edit is

-- the paragraph that an edit names
abbrev pub named_by : Edit → Option ℕ
named_by (Replace id rev from to text) = Some id
named_by (Insert before text) = before
named_by (Remove id rev) = Some id

-- where that paragraph stands
abbrev pub named_place : List Paragraph → Edit → Option ℕ
named_place paragraphs edit = option_and_then (λ id. place_of id paragraphs) (named_by edit)

-- the change that an edit is, at the place of the paragraph that it names; none where that is not
-- there
abbrev pub change_of : List Paragraph → Edit → Option Change
change_of paragraphs (Replace id rev from to text) =
    option_map (λ place. SetAt place) (place_of id paragraphs)
change_of paragraphs (Insert None text) = Some (InsertAt (length paragraphs))
change_of paragraphs (Insert (Some id) text) =
    option_map (λ place. InsertAt place) (place_of id paragraphs)
change_of paragraphs (Remove id rev) = option_map (λ place. RemoveAt place) (place_of id paragraphs)

-- what is kept beside each paragraph has the same change: the touched paragraph has something new,
-- all others keep what they had
abbrev pub kept_after : {X : Type 0} → X → List Paragraph → List X → Edit → List X
kept_after new paragraphs kept edit =
    option_map_or (λ change. changed change new kept) (change_of paragraphs edit) kept

-- an edit makes this list by the change that it is
pub record IsChanged (paragraphs : List Paragraph) (edit : Edit) (after : List Paragraph) : Type
    0 where
  pub change : Change
  pub touched : Paragraph
  pub change_is : change_of paragraphs edit ≡ Some change
  pub after_is : after ≡ changed change touched paragraphs

-- ---- the refusals, each where it would be told if no other were there

abbrev pub unless : Bool → EditRefusal → Option EditRefusal
unless true refusal = None
unless false refusal = Some refusal

-- a paragraph is named that is not there; otherwise what is asked of it
abbrev pub edit_gone_or : ℕ → List Paragraph → (Paragraph → Option EditRefusal) → Option EditRefusal
edit_gone_or id paragraphs asked = option_map_or asked (with_id id paragraphs) (Some (Gone id))

-- the paragraph has another rev
abbrev pub behind : Paragraph → ℕ → Option EditRefusal
behind paragraph rev = unless (paragraph.rev == rev) (Behind paragraph.rev)

-- the bytes are not whole characters of the text
abbrev pub bad_span : List ℕ → ℕ → ℕ → Option EditRefusal
bad_span text from to = unless (is_span text from to) (BadSpan (length text))

-- the text that is put has a line feed
abbrev pub break_in : List ℕ → Option EditRefusal
break_in put = option_map (λ at. HasBreak at) (position (λ byte. byte == 10) put)

-- the paragraph would have so many bytes
abbrev pub too_long : ℕ → Option EditRefusal
too_long size = unless (nat_le size MOST_BYTES) (TooLong size)

-- no further paragraph may be put in
abbrev pub full : List Paragraph → Option EditRefusal
full paragraphs = unless (nat_lt (length paragraphs) MOST_PARAGRAPHS) (Full (length paragraphs))

-- what is asked of a text whose bytes are to be replaced
abbrev pub splice_refusal : List ℕ → ℕ → ℕ → List ℕ → Option EditRefusal
splice_refusal text from to put =
    option_or (bad_span text from to)
    (option_or (break_in put) (too_long (length (spliced text from to put))))

-- the paragraph is not there before which another one is to be put
abbrev pub gone_before : List Paragraph → Option ℕ → Option EditRefusal
gone_before paragraphs None = None
gone_before paragraphs (Some id) = edit_gone_or id paragraphs (λ _. None)

-- what is asked of a text that is to be a paragraph of its own
abbrev pub entry_refusal : List Paragraph → List ℕ → Option EditRefusal
entry_refusal paragraphs put =
    option_or (break_in put) (option_or (too_long (length put)) (full paragraphs))

-- the first refusal that a list shows for an edit, in their order
abbrev pub edit_refusal : List Paragraph → Edit → Option EditRefusal
edit_refusal paragraphs (Replace id rev from to text) =
    edit_gone_or id paragraphs
    (λ touched. option_or (behind touched rev) (splice_refusal touched.text from to text))
edit_refusal paragraphs (Insert before text) =
    option_or (gone_before paragraphs before) (entry_refusal paragraphs text)
edit_refusal paragraphs (Remove id rev) = edit_gone_or id paragraphs (λ touched. behind touched rev)

-- an edit is refused so
abbrev pub IsEditRefused : List Paragraph → Edit → EditRefusal → Type 0
IsEditRefused paragraphs edit refusal = edit_refusal paragraphs edit ≡ Some refusal

-- ---- what is decided of each edit

-- there is one, and no other
pub record IsOnlyOne {A : Type 0} (P : A → Type 0) : Type 0 where
  pub one : A
  pub holds : P one
  pub only : (other : A) → P other → other ≡ one

-- an edit makes exactly one list and is not refused, or it has exactly one refusal and makes no
-- list
abbrev pub IsEditDecided : ℕ → ℕ → List Paragraph → Edit → Type 0
IsEditDecided version next_id paragraphs edit =
    (IsOnlyOne (Applies version next_id paragraphs edit)
    × ((refusal : EditRefusal) → ¬ IsEditRefused paragraphs edit refusal))
    ⊎ (IsOnlyOne (IsEditRefused paragraphs edit)
    × ((after : List Paragraph) → ¬ Applies version next_id paragraphs edit after))

-- ---- what the steps of an edit find

-- the first paragraph with an id stands at a place
pub record IsFoundAt (paragraphs : List Paragraph) (id place : ℕ) (paragraph : Paragraph) : Type
    0 where
  pub place_is : place_of id paragraphs ≡ Some place
  pub inside : place < length paragraphs
  pub at : slice_get paragraphs place ≡ Some paragraph
  pub found : with_id id paragraphs ≡ Some paragraph

-- a text may be put in place of the bytes from one place to another, and this is what comes of it
pub record IsSpliced (text : List ℕ) (from to : ℕ) (put made : List ℕ) : Type 0 where
  pub span : is_span text from to ≡ true
  pub whole : HasNoBreak put
  pub short : length made ≤ MOST_BYTES
  pub made_is : made ≡ spliced text from to put

-- the place before which a paragraph is put, where one is named or none
pub record IsGap (paragraphs : List Paragraph) (before : Option ℕ) (place : ℕ) : Type 0 where
  pub inside : place ≤ length paragraphs
  pub begins : BeginsWith before (drop place paragraphs)
