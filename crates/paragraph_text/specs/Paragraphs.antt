-- Paragraphs in order: what one is, how a document opens, and what every list meets that may be
-- edited.
use Rattle.std.specs.Prelude.{◌≡◌, ℕ, ◌+◌, ◌<◌, ◌≤◌, List, [], ◌∷◌, length}
use Rattle.std.specs.List.{AllByRecursion}
use Rattle.paragraph_text.specs.declared.limits.TheConstants.{MOST_BYTES, MOST_PARAGRAPHS}

-- its id is its own for ever, its rev the version of the text that last touched it; the text is
-- bytes
pub record Paragraph : Type 0 where
  pub id : ℕ
  pub rev : ℕ
  pub text : List ℕ

-- the paragraphs of texts in their order, with ids from a number on, which nothing has touched
abbrev pub numbered_from : ℕ → List (List ℕ) → List Paragraph
numbered_from id [] = []
numbered_from id (text ∷ texts) =
    record { id = id; rev = 0; text = text } ∷ numbered_from (id + 1) texts

-- no id stands twice
abbrev pub HaveOwnIds : List Paragraph → Type 0
HaveOwnIds [] = Unit {0}
HaveOwnIds (paragraph ∷ others) =
    AllByRecursion (λ other. ¬ (other.id ≡ paragraph.id)) others × HaveOwnIds others

-- no byte is a line feed
abbrev pub HasNoBreak : List ℕ → Type 0
HasNoBreak text = AllByRecursion (λ byte. ¬ (byte ≡ 10)) text

-- a paragraph that may stand in a list whose next version and next id are these
pub record IsValidIn (version next_id : ℕ) (paragraph : Paragraph) : Type 0 where
  pub known : paragraph.id < next_id
  pub older : paragraph.rev < version
  pub short : length paragraph.text ≤ MOST_BYTES
  pub whole : HasNoBreak paragraph.text

-- what a list meets that may be edited, where its next version and its next id are these
pub record AreValid (version next_id : ℕ) (paragraphs : List Paragraph) : Type 0 where
  pub own_ids : HaveOwnIds paragraphs
  pub each : AllByRecursion (IsValidIn version next_id) paragraphs
  pub few : length paragraphs ≤ MOST_PARAGRAPHS
