-- What is found of a paragraph by its id.
use Rattle.std.proofs.Common.{◌≡◌, sym, subst, ℕ, ◌<◌, ◌==◌, length, None, Some}
use Rattle.std.proofs.lemmas.Option.{cond_some, slice_get-get_or}
use Rattle.paragraph_text.specs.Laws.{found-none as none-found, some-at as stands-at}
use Rattle.paragraph_text.specs.Paragraphs.{Paragraph}
use Rattle.edit_core.specs.Seen.{Seen}
use Rattle.edit_core.specs.Steps.{IsAt, found, place_of}
use Rattle.edit_core.specs.declared.state.Standing.{Standing}
use Rattle.edit_core.specs.declared.state.Standing.TheVariants.{Waiting}
use Rattle.edit_core.specs.Laws.{find-beside, none-beside}

-- where no paragraph has the id, none is found
pub found-none : (board : Seen) (id : ℕ) → place_of id board.paragraphs ≡ None
    → found id board ≡ None
found-none board id place =
    let p = λ (paragraph : Paragraph). paragraph.id == id in
    none-beside p board.paragraphs board.standings (none-found p board.paragraphs place)

-- the first paragraph with the id is found, with how it stands
pub found-some : (board : Seen) (id place : ℕ) (paragraph : Paragraph) (stands : Standing)
    → IsAt board id place paragraph stands
    → found id board ≡ Some (paragraph, stands)
found-some board id place paragraph stands here =
    find-beside (λ (p : Paragraph). p.id == id) board.paragraphs board.standings place
    (cond_some _ _ place here.place_is).1 here.paragraph_is here.standing_is

-- where the id has a place, a paragraph stands there in some way
pub some-at : (board : Seen) (id place : ℕ) → length board.standings ≡ length board.paragraphs
    → place_of id board.paragraphs ≡ Some place → (paragraph : Paragraph) × (stands : Standing)
    × IsAt board id place paragraph stands
some-at board id place long is =
    let there = stands-at board.paragraphs id place is in
    let within : place < length board.standings =
    subst (λ n. place < n) (sym long) there.1.inside in
    let beside = slice_get-get_or board.standings place Waiting within in
    (there.0, _, record { place_is = is; paragraph_is = there.1.at; standing_is = beside })
