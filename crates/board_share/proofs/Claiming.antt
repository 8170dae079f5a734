-- The first paragraph that waits is free.
use Rattle.std.proofs.Common.{◌≡◌, ◌∙◌, refl, sym, ap, ℕ, ◌<◌, ◌^◌, ◌==◌, Bool, true, false, nat_lt}
use Rattle.std.proofs.Common.{get_or, inl, inr, position, slice_get, Option, None, Some, arith}
use Rattle.std.specs.Prelude.{Result, Ok, Err, IfErr}
use Rattle.std.specs.Option.{option_map_or, option_or}
use Rattle.std.proofs.lemmas.Bool.{false≢true}
use Rattle.std.proofs.lemmas.Bool.Decides.{nat_tests}
use Rattle.std.proofs.lemmas.List.Quantifiers.{position-Some}
use Rattle.std.proofs.lemmas.Option.{cond_some, none-some, slice_get-get_or}
use Rattle.mark_types.specs.lists.Answers.{IsDueOr}
use Rattle.edit_core.specs.paragraph_text.Paragraphs.{Paragraph}
use Rattle.edit_core.specs.Events.{AClaim}
use Rattle.edit_core.specs.Laws.{find-beside}
use Rattle.edit_core.specs.Runs.{is_waiting}
use Rattle.edit_core.specs.Seen.{Seen}
use Rattle.edit_core.specs.Steps.{claim_refusal, first_refusal, found, place_of, unless}
use Rattle.edit_core.specs.declared.refusal.Refusal.{Refusal}
use Rattle.edit_core.specs.declared.refusal.Refusal.TheVariants.{Behind, Gone, NoMemory, Spent}
use Rattle.edit_core.specs.declared.state.Standing.{Standing}
use Rattle.edit_core.specs.declared.state.Standing.TheVariants.{Waiting, Held, Parked, Finished}

waits : (stands : Standing) → is_waiting stands ≡ true → stands ≡ Waiting
waits Waiting is = refl
waits (Held worker) is = absurd (false≢true is)
waits Parked is = absurd (false≢true is)
waits Finished is = absurd (false≢true is)

-- where it is found, waits and has the rev, a worker may have it
free-found : (board : Seen) (worker : ℕ) (paragraph : Paragraph)
    → nat_lt board.point (2 ^ 62) ≡ true → found paragraph.id board ≡ Some (paragraph, Waiting)
    → (paragraph.rev == paragraph.rev) ≡ true
    → first_refusal board (AClaim worker paragraph.id paragraph.rev) ≡ None
free-found board worker paragraph goes here same =
    ap (λ b. option_or (unless b (Spent board.point))
    (option_map_or (λ row. claim_refusal paragraph.rev row.0 row.1) (found paragraph.id board)
    (Some (Gone paragraph.id)))) goes
    ∙ ap (λ rows. option_map_or (λ row. claim_refusal paragraph.rev row.0 row.1) rows
    (Some (Gone paragraph.id))) here
    ∙ ap (λ b. option_or (unless b (Behind paragraph.rev)) None) same

pub free : (board : Seen) (worker place : ℕ) (paragraph : Paragraph) → board.point < 2 ^ 62
    → place_of paragraph.id board.paragraphs ≡ Some place
    → position is_waiting board.standings ≡ Some place
    → slice_get board.paragraphs place ≡ Some paragraph
    → first_refusal board (AClaim worker paragraph.id paragraph.rev) ≡ None
free board worker place paragraph goes place_is first at =
    let there = position-Some is_waiting board.standings place Waiting first in
    let stands = slice_get-get_or board.standings place Waiting there.0
    ∙ ap (λ s. Some s) (waits (get_or board.standings place Waiting) there.1) in
    let here : found paragraph.id board ≡ Some (paragraph, Waiting) =
    find-beside (λ (p : Paragraph). p.id == paragraph.id) board.paragraphs board.standings place
    (cond_some _ _ place place_is).1 at stands in
    let before : nat_lt board.point (2 ^ 62) ≡ true = grind (arith, nat_tests, goes) in
    let same : (paragraph.rev == paragraph.rev) ≡ true = grind (arith, nat_tests) in
    free-found board worker paragraph before here same

-- where no refusal is due, want of memory alone is told
pub only-wanting : {A : Type 0} (answer : Result A Refusal) (due : Option Refusal) → due ≡ None
    → IfErr answer (IsDueOr NoMemory due) → IfErr answer (λ refusal. refusal ≡ NoMemory)
only-wanting (Ok board) due none is = is
only-wanting (Err refusal) due none (inl same) = same
only-wanting (Err refusal) due none (inr told) = absurd (none-some refusal (sym none ∙ told))
