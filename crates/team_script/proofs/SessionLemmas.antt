-- Each line that is told is for a session from 1 to 16, and its text has no line feed.
use Rattle.std.proofs.Common.{◌≡◌, ◌↔◌, ℕ, List, [], ◌∷◌, ◌++◌, All, Option, Some, None, Ok}
use Rattle.std.proofs.Common.{inl, inr, refl, sym, subst, arith}
use Rattle.std.specs.List.{AllByRecursion, cons_option}
use Rattle.std.proofs.lemmas.List.Elements.{All-cons}
use Rattle.std.proofs.lemmas.Option.{same_Some}
use Rattle.console_lang.specs.CommandLines.{IsTail}
use Rattle.console_lang.specs.Scripts.{ScriptLineSaid, Nothing, ToSession, Unreadable, script_of}
use Rattle.console_lang.specs.Scripts.{IsFor}
use Rattle.team_script.specs.declared.line.SessionLine.{SessionLine}
use Rattle.team_script.specs.Lines.{told_by, line_told, told_in, first_bad, IsNumbered}
use Rattle.team_script.specs.Lines.{HasNoBreak, HaveWhole}
use Rattle.team_script.specs.Due.{unless_bad, lines_due}

-- the law on the lines of sessions
abbrev HaveLines : Type 0
HaveLines = (session : ℕ) (text line : List ℕ) → (script_of line ≡ ToSession session text)
    ↔ IsFor session text line

said-numbered : HaveLines → (text : List ℕ) (said : ScriptLineSaid) → script_of text ≡ said
    → (line : SessionLine) → told_by said ≡ Some line → IsNumbered line
said-numbered law text Nothing is line tells = absurd (cc)
said-numbered law text (ToSession session words) is line tells =
    let for = (law session words text).0 is in
    subst IsNumbered (same_Some _ line tells) (record { least = for.least; most = for.most })
said-numbered law text Unreadable is line tells = absurd (cc)

all-cons_option : {X : Type 0} (P : X → Type 0) (found : Option X) (xs : List X)
    → ((x : X) → found ≡ Some x → P x) → All P xs
    → All P (cons_option found xs)
all-cons_option P None xs first rest = rest
all-cons_option P (Some x) xs first rest = All-cons P x xs (first x refl) rest

pub told-numbered : HaveLines → (texts : List (List ℕ)) → All IsNumbered (told_in texts)
told-numbered law [] = λ k d within. absurd (omega arith)
told-numbered law (text ∷ texts) =
    all-cons_option IsNumbered (line_told text) (told_in texts)
    (said-numbered law text (script_of text) refl)
    (told-numbered law texts)

-- what is behind some bytes has no line feed where all of them have none
no-break-back : (front back : List ℕ) → HasNoBreak (front ++ back) → HasNoBreak back
no-break-back [] back whole = whole
no-break-back (byte ∷ front) back whole = no-break-back front back whole.1

-- nor has the text that they end with
no-break-text : {text tail : List ℕ} (front : List ℕ) → IsTail text tail
    → HasNoBreak (front ++ tail) → HasNoBreak text
no-break-text {tail = tail} front (inl spaced) whole =
    (subst HasNoBreak spaced (no-break-back front tail whole)).1
no-break-text front (inr none) whole = subst HasNoBreak (sym none.0) tt

said-whole : HaveLines → (text : List ℕ) → HasNoBreak text → (said : ScriptLineSaid)
    → script_of text ≡ said
    → (line : SessionLine) → told_by said ≡ Some line → HasNoBreak line.text
said-whole law text whole Nothing is line tells = absurd (cc)
said-whole law text whole (ToSession session words) is line tells =
    let for = (law session words text).0 is in
    subst (λ told. HasNoBreak told.text) (same_Some _ line tells)
    (no-break-text for.digits for.ends (subst HasNoBreak for.line_is whole))
said-whole law text whole Unreadable is line tells = absurd (cc)

pub told-whole : HaveLines → (texts : List (List ℕ)) → AllByRecursion HasNoBreak texts
    → HaveWhole (told_in texts)
told-whole law [] whole = λ k d within. absurd (omega arith)
told-whole law (text ∷ texts) whole =
    all-cons_option (λ line. HasNoBreak line.text) (line_told text) (told_in texts)
    (said-whole law text whole.0 (script_of text) refl)
    (told-whole law texts whole.1)

told-is : (found : Option ℕ) (lines told : List SessionLine) → unless_bad found lines ≡ Ok told
    → lines ≡ told
told-is None lines told due = cc
told-is (Some line) lines told due = absurd (cc)

pub due-all : (P : SessionLine → Type 0) (texts : List (List ℕ)) (told : List SessionLine)
    → All P (told_in texts) → lines_due texts ≡ Ok told
    → All P told
due-all P texts told each due =
    subst (All P) (told-is (first_bad texts) (told_in texts) told due) each
