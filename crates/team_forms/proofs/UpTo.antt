-- The sessions of a script, one number after another.
use Rattle.std.proofs.Common.{◌≡◌, ◌∙◌, refl, sym, ap, subst, ℕ, ◌+◌, ◌≤◌, Bool, true, false, cond}
use Rattle.std.proofs.Common.{List, [], ◌∷◌, ◌++◌, length, map, filter, All, length-append, arith}
use Rattle.std.specs.List.{list_any, range_with_len}
use Rattle.std.proofs.lemmas.List.{length-map, map-append}
use Rattle.std.proofs.lemmas.List.Elements.{All-append, All-from_recursion}
use Rattle.team_forms.proofs.Ranges.{range-append}
use Rattle.team_script.specs.Lines.{HasNoBreak, is_of, texts_of}
use Rattle.team_script.specs.Pairs.{LoadsAmong}
use Rattle.team_script.specs.Told.{ScriptTold}
use Rattle.team_script.specs.declared.line.SessionLine.{SessionLine}
use Rattle.team_forms.specs.Teamwork.{Script}

-- what the lines of a script are to those of these sessions that are there
abbrev pub scripts_among : List SessionLine → List ℕ → List Script
scripts_among lines numbers =
    map (λ session. record { session = session; lines = texts_of session lines })
    (filter (λ session. list_any (is_of session) lines) numbers)

-- the scripts of the first so many numbers
pub record AreUpTo (script : ScriptTold) (count : ℕ) (scripts : List Script) : Type 0 where
  pub scripts_are : scripts ≡ scripts_among script.lines (range_with_len 1 count)
  pub few : length scripts ≤ count
  pub short : All (λ (one : Script). length one.lines ≤ length script.lines) scripts
  pub whole : All (λ (one : Script). All HasNoBreak one.lines) scripts
  pub named : All (λ (one : Script). All (LoadsAmong script.pairs) one.lines) scripts

pub none-yet : (script : ScriptTold) → AreUpTo script 0 []
none-yet script = record {
  scripts_are = refl;
  few = omega arith;
  short = All-from_recursion (λ (one : Script). length one.lines ≤ length script.lines) [] tt;
  whole = All-from_recursion (λ (one : Script). All HasNoBreak one.lines) [] tt;
  named = All-from_recursion (λ (one : Script). All (LoadsAmong script.pairs) one.lines) [] tt;
}

filter-append : {X : Type 0} (p : X → Bool) (xs ys : List X)
    → filter p (xs ++ ys) ≡ filter p xs ++ filter p ys
filter-append p [] ys = refl
filter-append p (x ∷ xs) ys =
    elim (p x) as
    (λ b. cond b (x ∷ filter p (xs ++ ys)) (filter p (xs ++ ys))
    ≡ cond b (x ∷ filter p xs) (filter p xs) ++ filter p ys) [
      | true ↦ ap (λ l. x ∷ l) (filter-append p xs ys)
      | false ↦ filter-append p xs ys
    ]

-- one number more
among-more : (lines : List SessionLine) (count : ℕ)
    → scripts_among lines (range_with_len 1 (count + 1))
    ≡ scripts_among lines (range_with_len 1 count)
    ++ scripts_among lines ((1 + count) ∷ [])
among-more lines count =
    ap (scripts_among lines) (range-append 1 count 1)
    ∙ ap (map (λ session. record { session = session; lines = texts_of session lines }))
    (filter-append (λ session. list_any (is_of session) lines) (range_with_len 1 count)
    ((1 + count) ∷ []))
    ∙ map-append (λ session. record { session = session; lines = texts_of session lines })
    (filter (λ session. list_any (is_of session) lines) (range_with_len 1 count))
    (filter (λ session. list_any (is_of session) lines) ((1 + count) ∷ []))

-- a session that is not there
pub passed-over : (script : ScriptTold) (count : ℕ) (scripts : List Script)
    → list_any (is_of (count + 1)) script.lines ≡ false → AreUpTo script count scripts
    → AreUpTo script (count + 1) scripts
passed-over script count scripts absent are = record {
  scripts_are = are.scripts_are
      ∙ sym (among-more script.lines count
      ∙ ap (λ (more : List Script). scripts_among script.lines (range_with_len 1 count) ++ more)
      (ap (λ k. scripts_among script.lines (k ∷ [])) (swap count)
      ∙ ap (λ b. map (λ session.
      record { session = session; lines = texts_of session script.lines })
      (cond b ((count + 1) ∷ []) [])) absent)
      ∙ nil (scripts_among script.lines (range_with_len 1 count)));
  few = omega (arith, are.few);
  short = are.short;
  whole = are.whole;
  named = are.named;
}
  where
    swap : (n : ℕ) → 1 + n ≡ n + 1
    swap n = omega arith

    nil : {X : Type 0} (xs : List X) → xs ++ [] ≡ xs
    nil [] = refl
    nil (x ∷ xs) = ap (λ l. x ∷ l) (nil xs)

-- a session has no more lines than the script
texts-few : (session : ℕ) (lines : List SessionLine)
    → length (texts_of session lines) ≤ length lines
texts-few session lines =
    within (length-map (filter (is_of session) lines) (λ line. line.text)) (kept lines)
  where
    within : {a b c : ℕ} → a ≡ b → b ≤ c → a ≤ c
    within {a} {b} {c} is few = omega (arith, is, few)

    kept : (lines : List SessionLine) → length (filter (is_of session) lines) ≤ length lines
    kept [] = omega arith
    kept (line ∷ lines) = by (is_of session line) (kept lines)
      where
        by : (own : Bool) → length (filter (is_of session) lines) ≤ length lines
            → length (cond own (line ∷ filter (is_of session) lines)
            (filter (is_of session) lines)) ≤ length (line ∷ lines)
        by true few = omega (arith, few)
        by false few = omega (arith, few)

-- a session that is there
pub one-more : (script : ScriptTold) (count : ℕ) (scripts : List Script) (texts : List (List ℕ))
    → list_any (is_of (count + 1)) script.lines ≡ true
    → texts ≡ texts_of (count + 1) script.lines → All HasNoBreak texts
    → All (LoadsAmong script.pairs) texts → AreUpTo script count scripts
    → AreUpTo script (count + 1)
    (scripts ++ record { session = count + 1; lines = texts } ∷ [])
one-more script count scripts texts there are_texts whole named are =
    let one : Script = record { session = count + 1; lines = texts } in record {
      scripts_are = (λ i. are.scripts_are i
          ++ record { session = count + 1; lines = are_texts i } ∷ [])
          ∙ sym (among-more script.lines count
          ∙ ap (λ (more : List Script).
          scripts_among script.lines (range_with_len 1 count) ++ more)
          (ap (λ k. scripts_among script.lines (k ∷ [])) (swap count)
          ∙ ap (λ b. map (λ session.
          record { session = session; lines = texts_of session script.lines })
          (cond b ((count + 1) ∷ []) [])) there));
      few = omega (arith, are.few, length-append scripts (one ∷ []));
      short = All-append (λ (one : Script). length one.lines ≤ length script.lines) scripts
          (one ∷ []) are.short
          (All-from_recursion (λ (one : Script). length one.lines ≤ length script.lines)
          (one ∷ []) (
            subst (λ l. length l ≤ length script.lines) (sym are_texts)
                (texts-few (count + 1) script.lines),
            tt,
          ));
      whole = All-append (λ (one : Script). All HasNoBreak one.lines) scripts (one ∷ []) are.whole
          (All-from_recursion (λ (one : Script). All HasNoBreak one.lines) (one ∷ []) (whole, tt));
      named = All-append (λ (one : Script). All (LoadsAmong script.pairs) one.lines) scripts
          (one ∷ []) are.named
          (All-from_recursion (λ (one : Script). All (LoadsAmong script.pairs) one.lines)
          (one ∷ []) (named, tt));
    }
  where
    swap : (n : ℕ) → 1 + n ≡ n + 1
    swap n = omega arith

-- all numbers
pub up-to-all : {script : ScriptTold} {count : ℕ} {scripts : List Script}
    → AreUpTo script count scripts
    → 16 ≤ count → count ≤ 16 → AreUpTo script 16 scripts
up-to-all {script} {count} {scripts} are least most =
    subst (λ n. AreUpTo script n scripts) (same count least most) are
  where
    same : (n : ℕ) → 16 ≤ n → n ≤ 16 → n ≡ 16
    same n least most = omega (arith, least, most)
