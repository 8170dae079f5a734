-- What is made of a valid board is valid.
use Rattle.std.proofs.Common.{◌≡◌, ℕ, ◌+◌, ◌<◌, ◌≤◌, ◌^◌, List, length, arith}
use Rattle.mark_types.specs.spell_types.declared.Lexicon.{Lexicon}
use Rattle.paragraph_text.specs.Paragraphs.{Paragraph, AreValid}
use Rattle.paragraph_text.specs.Edits.{next_id_after}
use Rattle.paragraph_text.specs.declared.edits.Edit.{Edit}
use Rattle.paragraph_text.specs.declared.edits.Edit.TheVariants.{Insert, Remove, Replace}
use Rattle.edit_core.specs.Seen.{Seen, IsValidBoard}
use Rattle.edit_core.specs.declared.state.Standing.{Standing}
use Rattle.paragraph_text.specs.declared.limits.TheConstants.{MOST_PARAGRAPHS}

-- ---- numbers of the next board
one-more : (n bound : ℕ) → n < bound → n + 1 ≤ bound
one-more n bound less = omega (arith, less)

up-to : (n point : ℕ) → n ≤ point → n ≤ point + 1
up-to n point most = omega (arith, most)

with-one : (n point : ℕ) → n ≤ point → n + 1 ≤ point + 1
with-one n point most = omega (arith, most)

further : (n point : ℕ) → n ≤ MOST_PARAGRAPHS + point → n ≤ MOST_PARAGRAPHS + (point + 1)
further n point most = omega (arith, most)

further-one : (n point : ℕ) → n ≤ MOST_PARAGRAPHS + point → n + 1 ≤ MOST_PARAGRAPHS + (point + 1)
further-one n point most = omega (arith, most)

pub ids-after : (next_id point : ℕ) (edit : Edit) → next_id ≤ MOST_PARAGRAPHS + point
    → next_id_after next_id edit ≤ MOST_PARAGRAPHS + (point + 1)
ids-after next_id point (Replace id rev from to text) most = further next_id point most
ids-after next_id point (Insert before text) most = further-one next_id point most
ids-after next_id point (Remove id rev) most = further next_id point most

-- ---- the next board is valid
pub valid-moved : (board : Seen) (standings : List Standing) → IsValidBoard board
    → board.point < 2 ^ 62 → length standings ≡ length board.paragraphs
    → IsValidBoard (record board { point = board.point + 1; standings = standings })
valid-moved board standings valid goes_on long =
    record {
      paragraphs = valid.paragraphs;
      standings = long;
      text = up-to board.text_version board.point valid.text;
      dict = up-to board.dict_version board.point valid.dict;
      next_id = further board.next_id board.point valid.next_id;
      point = one-more board.point (2 ^ 62) goes_on;
    }

pub valid-loaded : (board : Seen) (lexicon : Lexicon) (standings : List Standing)
    → IsValidBoard board → board.point < 2 ^ 62 → length standings ≡ length board.paragraphs
    → IsValidBoard
    (record board {
      point = board.point + 1;
      dict_version = board.dict_version + 1;
      lexicon = lexicon;
      standings = standings;
    })
valid-loaded board lexicon standings valid goes_on long =
    record {
      paragraphs = valid.paragraphs;
      standings = long;
      text = up-to board.text_version board.point valid.text;
      dict = with-one board.dict_version board.point valid.dict;
      next_id = further board.next_id board.point valid.next_id;
      point = one-more board.point (2 ^ 62) goes_on;
    }

pub valid-edited : (board : Seen) (edit : Edit) (paragraphs : List Paragraph)
    (standings : List Standing) → IsValidBoard board → board.point < 2 ^ 62
    → AreValid (board.text_version + 1 + 1) (next_id_after board.next_id edit) paragraphs
    → length standings ≡ length paragraphs
    → IsValidBoard
    (record board {
      point = board.point + 1;
      text_version = board.text_version + 1;
      paragraphs = paragraphs;
      standings = standings;
      next_id = next_id_after board.next_id edit;
    })
valid-edited board edit paragraphs standings valid goes_on made long =
    record {
      paragraphs = made;
      standings = long;
      text = with-one board.text_version board.point valid.text;
      dict = up-to board.dict_version board.point valid.dict;
      next_id = ids-after board.next_id board.point edit valid.next_id;
      point = one-more board.point (2 ^ 62) goes_on;
    }
