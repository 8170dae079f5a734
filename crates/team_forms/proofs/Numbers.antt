-- The numbers of eyes stay, whatever comes through them.
use Rattle.std.proofs.Common.{◌≡◌, ◌∙◌, refl, ap, ℕ, ◌+◌, List, [], ◌∷◌, length, ◌≤◌, map, Option}
use Rattle.std.proofs.Common.{None, Some, arith}
use Rattle.std.specs.List.{AllByRecursion, AllZip, range_with_len}
use Rattle.mark_types.specs.spell_types.declared.Lexicon.{Lexicon}
use Rattle.board_share.specs.edit_core.Events.{SeenEvent}
use Rattle.board_share.specs.edit_core.Seen.{Seen}
use Rattle.board_share.specs.Eyes.{EyeSeen, events_in, fresh_eye, last_of}
use Rattle.worker_crew.specs.Crews.{HasWorked}
use Rattle.console_lang.specs.declared.command.Command.{Command}
use Rattle.console_lang.specs.declared.command.Command.TheVariants.{Load, Own, Show, Settle, Quit}
use Rattle.console_lang.specs.declared.reply.Reply.{Reply}
use Rattle.console_board.specs.BoardAnswers.{event_for}
use Rattle.console_history.specs.Told.{IsCommandTold, IsPlaceTold, IsPlainTold, Taken, TurnedDown}
use Rattle.team_forms.specs.Seats.{fresh_eyes, seats}
use Rattle.team_forms.specs.Sessions.{HasPerformed, SessionSeen}
use Rattle.team_forms.specs.Teamwork.{Script}
use Rattle.team_forms.specs.declared.pairs.LoadedPair.{LoadedPair}

-- ---- one command
found-number : (found : Option SeenEvent) (looked new : EyeSeen) (reply : Reply)
    → IsCommandTold found looked new reply → new.number ≡ looked.number
found-number None looked new reply told = ap (λ (eye : EyeSeen). eye.number) told.0
found-number (Some event) looked new reply (Taken told publishes replied) =
    publishes.later.number
found-number (Some event) looked new reply (TurnedDown down) = down.looks.later.number

place-number : (session : ℕ) (command : Command) (old new : EyeSeen) (reply : Reply)
    → IsPlaceTold session command old new reply → new.number ≡ old.number
place-number session command old new reply place =
    found-number (event_for session (last_of place.looked.run) command) place.looked new reply
    place.told
    ∙ place.looks.later.number

pub plain-number : (session : ℕ) (command : Command) (old new : EyeSeen) (reply : Reply)
    → IsPlainTold session command old new reply → new.number ≡ old.number
unfolding IsPlainTold
plain-number session (Load aff dic) old new reply told = absurd told
plain-number session (Own text) old new reply told = absurd told
plain-number session Show old new reply told = told.0.later.number
plain-number session Settle old new reply told = told.0.later.number
plain-number session Quit old new reply told = absurd told
plain-number session command old new reply told =
    place-number session command old new reply told

-- ---- eyes of a desk
abbrev pub number_of : EyeSeen → ℕ
number_of eye = eye.number

pub fresh-numbers : (opening : Seen) (numbers : List ℕ)
    → map number_of (map (fresh_eye opening) numbers) ≡ numbers
fresh-numbers opening [] = refl
fresh-numbers opening (n ∷ numbers) = ap (λ l. n ∷ l) (fresh-numbers opening numbers)

pub worked-numbers : (olds news : List EyeSeen) → AllZip HasWorked olds news
    → map number_of news ≡ map number_of olds
worked-numbers [] [] worked = refl
worked-numbers [] (new ∷ news) worked = absurd worked
worked-numbers (old ∷ olds) [] worked = absurd worked
worked-numbers (old ∷ olds) (new ∷ news) worked =
    λ i. worked.0.later.number i ∷ worked-numbers olds news worked.1 i

-- workers ask for nothing
pub none-asked : (opening : Seen) (numbers : List ℕ) (news : List EyeSeen)
    → AllZip HasWorked (map (fresh_eye opening) numbers) news
    → AllByRecursion (λ eye. events_in eye.counts ≡ 0) news
none-asked opening [] [] worked = tt
none-asked opening [] (new ∷ news) worked = absurd worked
none-asked opening (n ∷ numbers) [] worked = absurd worked
none-asked opening (n ∷ numbers) (new ∷ news) worked = (
  none new.counts.edits new.counts.loads new.counts.asks worked.0.counts.edits
      worked.0.counts.loads worked.0.counts.asks,
  none-asked opening numbers news worked.1,
)
  where
    none : (edits loads asks : ℕ) → edits ≡ 0 → loads ≡ 0 → asks ≡ 0
        → edits + (loads + asks) ≡ 0
    none edits loads asks one two three = omega (arith, one, two, three)

-- sessions have the numbers that they began with
pub performed-numbers : {J : Type 0} (lexicon_of : J → Lexicon) (pairs : List (LoadedPair J))
    (opening : Seen) (first : ℕ) (scripts : List Script) (news : List (SessionSeen J))
    → AllZip (HasPerformed lexicon_of)
    (seats pairs scripts (fresh_eyes opening first (length scripts))) news
    → map number_of (map (λ (session : SessionSeen J). session.eye) news)
    ≡ range_with_len first (length scripts)
performed-numbers lexicon_of pairs opening first [] [] performed = refl
performed-numbers lexicon_of pairs opening first [] (new ∷ news) performed = absurd performed
performed-numbers lexicon_of pairs opening first (script ∷ scripts) [] performed =
    absurd performed
performed-numbers lexicon_of pairs opening first (script ∷ scripts) (new ∷ news) performed =
    λ i. performed.0.asks.number i
    ∷ performed-numbers lexicon_of pairs opening (first + 1) scripts news performed.1 i

-- each asks for one event a line at most
pub performed-few : {J : Type 0} (lexicon_of : J → Lexicon) (pairs : List (LoadedPair J))
    (opening : Seen) (first most : ℕ) (scripts : List Script) (news : List (SessionSeen J))
    → AllByRecursion (λ (script : Script). length script.lines ≤ most) scripts
    → AllZip (HasPerformed lexicon_of)
    (seats pairs scripts (fresh_eyes opening first (length scripts))) news
    → AllByRecursion (λ (eye : EyeSeen). events_in eye.counts ≤ most)
    (map (λ (session : SessionSeen J). session.eye) news)
performed-few lexicon_of pairs opening first most [] [] short performed = tt
performed-few lexicon_of pairs opening first most [] (new ∷ news) short performed =
    absurd performed
performed-few lexicon_of pairs opening first most (script ∷ scripts) [] short performed =
    absurd performed
performed-few lexicon_of pairs opening first most (script ∷ scripts) (new ∷ news) short
    performed = (
      within (events_in new.eye.counts) (length script.lines) performed.0.asks.asked short.0,
      performed-few lexicon_of pairs opening (first + 1) most scripts news short.1 performed.1,
    )
  where
    within : (n lines : ℕ) → n ≤ 0 + lines → lines ≤ most → n ≤ most
    within n lines few short = omega (arith, few, short)
