-- The words of the entries that are told are known.
use Rattle.std.proofs.Common.{◌≡◌, ◌∙◌, ◌⊎◌, inl, inr, sym, ap, subst, ℕ, ◌+◌, ◌<◌, ◌≤◌, true}
use Rattle.std.proofs.Common.{true≢false, List, slice_get, Some, arith}
use Rattle.std.proofs.lemmas.Bool.{cases_lt}
use Rattle.std.proofs.lemmas.Option.{same_Some, slice_get_within}
use Rattle.spell_types.specs.declared.Entry.{Entry}
use Rattle.spell_types.specs.declared.flags.Flag.{Flag}
use Rattle.spell_types.specs.Flags.{has_flag_of}
use Rattle.affix_strip.specs.declared.known_words.KnownWords.{KnownWords}
use Rattle.affix_strip.specs.Inside.{IsKnown, KeepsKnown}
use Rattle.affix_strip.proofs.KnownLemmas.{keeps-known, known-still}
use Rattle.affix_strip.proofs.TurnLemmas.{told-at}
use Rattle.affix_strip.proofs.known_words.KnownWords.new.Goals.{then-index, else-index}
use Rattle.affix_strip.proofs.known_words.KnownWords.new.Goals as goal

-- the words before a place are still known, and so is the one at the place
one-more : (entries : List Entry) (set : List Flag) (before now : KnownWords) (place : ℕ)
    → ((at : ℕ) (entry : Entry) → at < place → slice_get entries at ≡ Some entry
    → has_flag_of set entry.flags ≡ true → IsKnown before entry.word)
    → KeepsKnown before now
    → ((entry : Entry) → slice_get entries place ≡ Some entry
    → has_flag_of set entry.flags ≡ true → IsKnown now entry.word)
    → (at : ℕ) (entry : Entry) → at < place + 1 → slice_get entries at ≡ Some entry
    → has_flag_of set entry.flags ≡ true → IsKnown now entry.word
one-more entries set before now place known kept last at entry below there has =
    by (cases_lt at place)
  where
    by : (at < place) ⊎ (place ≤ at) → IsKnown now entry.word
    by (inl less) = known-still kept entry.word (known at entry less there has)
    by (inr past) =
        let same : at ≡ place = omega (arith, past, below) in
        last entry (subst (λ p. slice_get entries p ≡ Some entry) same there) has

pub loop-place-preserved : goal.loop-place-preserved
loop-place-preserved c =
    let entries = c.args.entries.now in
    let flags = c.args.flags.now in
    let place = c.loop-place.place in
    let told : (entry : Entry) → slice_get entries place ≡ Some entry
    → c.index.result.now ≡ has_flag_of flags entry.flags =
    λ entry at. c.index.ensures
    ∙ told-at (λ e. has_flag_of flags e.flags) entries c.in_ok-having.having.items place entry
    c.index.result.now c.in_ok-having.ensures at in
    elim c.if-index.branch [
      | then-index w ↦
          one-more entries flags c.loop-place.known c.if-index.known place c.loop-place.invariant
          (subst (KeepsKnown c.loop-place.known) (sym w.known-is) w.add.ensures.kept)
          (λ entry at has. subst (λ known. IsKnown known entry.word) (sym w.known-is)
          (subst (IsKnown w.add.new.self)
          (w.word.ensures ∙ ap (λ (e : Entry). e.word)
          (same_Some w.at.result entry (sym w.at.ensures ∙ at))) w.add.ensures.there))
      | else-index w ↦
          one-more entries flags c.loop-place.known c.if-index.known place c.loop-place.invariant
          (subst (KeepsKnown c.loop-place.known) (sym w.known-is) (keeps-known c.loop-place.known))
          (λ entry at has. absurd (true≢false (sym has ∙ sym (told entry at) ∙ w.if-index.false)))
    ]

pub returns : goal.returns
returns c = λ place entry at has.
    c.loop-place.invariant place entry
    (omega (
      arith,
      slice_get_within c.args.entries.now place entry at,
      c.len-place-end.ensures,
      c.loop-place-test.false,
    )) at has
