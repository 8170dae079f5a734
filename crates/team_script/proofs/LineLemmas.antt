-- The lines of a script, read one after another.
use Rattle.std.proofs.Common.{◌≡◌, ◌∙◌, ℕ, suc, ◌+◌, ◌<◌, cond, List, [], ◌∷◌, ◌++◌, length, map}
use Rattle.std.proofs.Common.{drop, get_or, Option, Some, Ok, Err, refl, sym, ap}
use Rattle.std.proofs.Common.{append_assoc, append-nil, add-one, drop-cons, Bool, true, false, Bor}
use Rattle.std.proofs.Common.{filter, All, Result, IfOk, subst}
use Rattle.std.proofs.lemmas.List.{map-append}
use Rattle.std.proofs.lemmas.List.Elements.{All-map, All-filter}
use Rattle.std.specs.List.{find, cons_option}
use Rattle.std.specs.Option.{option_map}
use Rattle.console_lang.specs.Scripts.{ScriptLineSaid, Nothing, ToSession, Unreadable, script_of}
use Rattle.text_lines.specs.declared.found.Line.{Line}
use Rattle.text_lines.specs.Lines.{text_of}
use Rattle.team_script.specs.declared.fault.ScriptFault.TheVariants.{Bad}
use Rattle.team_script.specs.declared.line.SessionLine.{SessionLine}
use Rattle.team_script.specs.Lines.{told_by, told_in, is_unreadable, is_formless}
use Rattle.team_script.specs.Lines.{is_of, texts_of, lent}
use Rattle.team_script.specs.Due.{unless_bad, first_formless, good_due}

-- the item at a place stands before those behind it
pub next-item : {X : Type 0} (xs : List X) (k : ℕ) (x : X) → k < length xs → x ≡ get_or xs k x
    → drop k xs ≡ x ∷ drop (k + 1) xs
next-item xs k x below is =
    drop-cons xs k x below
    ∙ ap (λ y. y ∷ drop (suc k) xs) (sym is)
    ∙ ap (λ n. x ∷ drop n xs) (sym (add-one k))

-- of all lines these are told, while the rest is still to be read, and no line before the rest is
-- of no form
pub record AreRead (bytes : List ℕ) (lines rest : List Line) (told : List SessionLine) : Type 0 where
  pub all : told ++ told_in (map (text_of bytes) rest) ≡ told_in (map (text_of bytes) lines)
  pub bad : first_formless bytes rest ≡ first_formless bytes lines

pub none-read : (bytes : List ℕ) (lines : List Line) → AreRead bytes lines lines []
none-read bytes lines = record { all = refl; bad = refl }

-- what a line says decides what is told, and whether it is the first of no form
abbrev told_then : List ℕ → List SessionLine → List Line → ScriptLineSaid → List SessionLine
told_then bytes told rest said =
    told ++ cons_option (told_by said) (told_in (map (text_of bytes) rest))

abbrev bad_then : List ℕ → Line → List Line → ScriptLineSaid → Option ℕ
bad_then bytes line rest said =
    option_map (λ l. l.number)
    (cond (is_unreadable said) (Some line) (find (λ l. is_formless (text_of bytes l)) rest))

pub blank-read : {bytes : List ℕ} {lines : List Line} {told : List SessionLine} (line : Line)
    (rest : List Line)
    → script_of (text_of bytes line) ≡ Nothing → AreRead bytes lines (line ∷ rest) told
    → AreRead bytes lines rest told
blank-read {bytes = bytes} {told = told} line rest says are = record {
  all = sym (ap (told_then bytes told rest) says) ∙ are.all;
  bad = sym (ap (bad_then bytes line rest) says) ∙ are.bad;
}

pub told-read : {bytes : List ℕ} {lines : List Line} {told : List SessionLine} (line : Line)
    (rest : List Line) (more : SessionLine)
    → script_of (text_of bytes line) ≡ ToSession more.session more.text
    → AreRead bytes lines (line ∷ rest) told
    → AreRead bytes lines rest (told ++ more ∷ [])
told-read {bytes = bytes} {told = told} line rest more says are = record {
  all = append_assoc told (more ∷ []) (told_in (map (text_of bytes) rest))
      ∙ sym (ap (told_then bytes told rest) says)
      ∙ are.all;
  bad = sym (ap (bad_then bytes line rest) says) ∙ are.bad;
}

pub bad-read : {bytes : List ℕ} {lines : List Line} {told : List SessionLine} (line : Line)
    (rest : List Line)
    → script_of (text_of bytes line) ≡ Unreadable → AreRead bytes lines (line ∷ rest) told
    → good_due bytes lines ≡ Err (Bad line.number)
bad-read {bytes = bytes} {lines = lines} line rest says are =
    ap (λ found. unless_bad found (told_in (map (text_of bytes) lines)))
    (sym are.bad ∙ ap (bad_then bytes line rest) says)

pub all-read : {bytes : List ℕ} {lines : List Line} {told : List SessionLine} (rest : List Line)
    → rest ≡ [] → AreRead bytes lines rest told
    → good_due bytes lines ≡ Ok told
all-read {bytes = bytes} {lines = lines} {told = told} rest none are =
    ap (λ found. unless_bad found (told_in (map (text_of bytes) lines)))
    (sym are.bad ∙ ap (first_formless bytes) none)
    ∙ ap Ok (sym are.all ∙ ap (λ xs. told ++ told_in (map (text_of bytes) xs)) none
    ∙ append-nil told)

-- of all texts of a session these are found, and those of the rest are still to come
pub record AreOf (session : ℕ) (lines rest : List SessionLine) (texts : List (Bor (List ℕ)))
    : Type 0 where
  pub all : lent texts ++ texts_of session rest ≡ texts_of session lines

abbrev texts_then : ℕ → List (Bor (List ℕ)) → List SessionLine → SessionLine → Bool → List (List ℕ)
texts_then session texts rest line is =
    lent texts ++ map (λ l. l.text) (cond is (line ∷ filter (is_of session) rest)
    (filter (is_of session) rest))

pub other-text : {session : ℕ} {lines : List SessionLine} {texts : List (Bor (List ℕ))}
    (line : SessionLine) (rest : List SessionLine)
    → is_of session line ≡ false → AreOf session lines (line ∷ rest) texts
    → AreOf session lines rest texts
other-text {session = session} {texts = texts} line rest is are = record {
  all = sym (ap (texts_then session texts rest line) is) ∙ are.all;
}

pub one-text : {session : ℕ} {lines : List SessionLine} {texts : List (Bor (List ℕ))}
    (line : SessionLine) (rest : List SessionLine) (text : Bor (List ℕ))
    → is_of session line ≡ true → text.now ≡ line.text → AreOf session lines (line ∷ rest) texts
    → AreOf session lines rest (texts ++ text ∷ [])
one-text {session = session} {texts = texts} line rest text is same are = record {
  all = ap (λ found. found ++ texts_of session rest) (map-append (λ t. t.now) texts (text ∷ []))
      ∙ append_assoc (lent texts) (text.now ∷ []) (texts_of session rest)
      ∙ ap (λ t. lent texts ++ t ∷ texts_of session rest) same
      ∙ sym (ap (texts_then session texts rest line) is)
      ∙ are.all;
}

-- what each line's text is, each text of a session is
pub session-texts : (P : List ℕ → Type 0) (session : ℕ) (lines : List SessionLine)
    → All (λ line. P line.text) lines → All P (texts_of session lines)
session-texts P session lines each =
    All-map P (λ line. line.text) (filter (is_of session) lines)
    (All-filter (is_of session) (λ line. P line.text) lines each)

pub if-texts : {T E : Type 0} (P : List ℕ → Type 0) (result : Result T E)
    (view : T → List (List ℕ)) (texts : List (List ℕ))
    → IfOk result (λ given. view given ≡ texts) → All P texts
    → IfOk result (λ given. All P (view given))
if-texts P (Ok given) view texts is each = subst (All P) (sym is) each
if-texts P (Err wanting) view texts is each = tt
