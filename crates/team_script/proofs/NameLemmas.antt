-- Which pairs stand among those of some lines, and where.
use Rattle.std.proofs.Common.{◌≡◌, ◌≢◌, ◌↔◌, ◌∙◌, ℕ, zero, suc, Bool, true, false, not, cond, ◌||◌}
use Rattle.std.proofs.Common.{List, [], ◌∷◌, ◌++◌, filter, All, Contains, AllPairs, Option, Some}
use Rattle.std.proofs.Common.{None, Ok, inl, inr, refl, sym, ap, arith}
use Rattle.std.proofs.Common.{not-suc-le-zero, le_of_suc-le-suc, if◌then◌else◌}
use Rattle.std.specs.Cmp.Derive.{both_true}
use Rattle.std.specs.List.{filter_map, cons_option}
use Rattle.std.proofs.lemmas.Bool.{false≢true, or_right, or_left, or_cases}
use Rattle.std.proofs.lemmas.List.Elements.{All-weaker, All-contains_itself}
use Rattle.std.proofs.lemmas.List.Elements.{filter_passes, filter-append, filter_map-append}
use Rattle.std.proofs.lemmas.List.Kept.{AllPairs-cons, AllPairs-filter}
use Rattle.std.proofs.lemmas.Option.{same_Some}
use Rattle.std.proofs.lemmas.Slice.Eq.{bytes_eq-Decides}
use Rattle.text_lines.specs.lists.Laws.{contains-head, contains-tail}
use Rattle.console_lang.specs.declared.command.Command.{Command}
use Rattle.console_lang.specs.declared.command.Command.TheVariants.{Ins, Put, Sub, Del, Load, Stop}
use Rattle.console_lang.specs.declared.command.Command.TheVariants.{Ask, Own, Show, Settle, Quit}
use Rattle.console_lang.specs.Words.{is_blank_line}
use Rattle.console_lang.specs.Commands.{command_of, or_bad}
use Rattle.console_lang.specs.CommandLines.{IsLineOf}
use Rattle.team_script.specs.declared.line.SessionLine.{SessionLine}
use Rattle.team_script.specs.declared.pairs.Pair.{Pair}
use Rattle.team_script.specs.Pairs.{loads, loaded, loaded_by, is_same, is_pair_among}
use Rattle.team_script.specs.Pairs.{each_pair_once}
use Rattle.team_script.specs.Pairs.{pairs_in, IsLoad, IsPairNamed, Begins, LoadsAmong}
use Rattle.team_script.proofs.PairLemmas.{same-≡}

-- ---- the laws on the lines of commands

abbrev HaveLines : Type 0
HaveLines = (command : Command) (line : List ℕ) → (command_of line ≡ Some command)
    ↔ IsLineOf command line

abbrev NeverBlank : Type 0
NeverBlank = (command : Command) (line : List ℕ) → IsLineOf command line
    → is_blank_line line ≡ false

-- ---- which line loads a pair

loads-is : (command : Command) (pair : Pair) → loads command ≡ Some pair
    → command ≡ Load pair.aff pair.dic
loads-is (Load aff dic) pair is = ap (λ p. Load p.aff p.dic) (same_Some _ pair is)
loads-is (Ins place text) pair is = absurd (cc)
loads-is (Put place text) pair is = absurd (cc)
loads-is (Sub place from to text) pair is = absurd (cc)
loads-is (Del place) pair is = absurd (cc)
loads-is (Own text) pair is = absurd (cc)
loads-is (Stop place) pair is = absurd (cc)
loads-is (Ask place) pair is = absurd (cc)
loads-is Show pair is = absurd (cc)
loads-is Settle pair is = absurd (cc)
loads-is Quit pair is = absurd (cc)

command-is : (blank : Bool) (found : Option Command) (pair : Pair)
    → loaded (if blank then Ok None else or_bad found) ≡ Some pair
    → found ≡ Some (Load pair.aff pair.dic)
command-is true found pair is = absurd (cc)
command-is false None pair is = absurd (cc)
command-is false (Some command) pair is = ap Some (loads-is command pair is)

load-is : HaveLines → (line : SessionLine) (pair : Pair) → loaded_by line ≡ Some pair
    → IsLoad pair line
load-is have line pair is =
    (have (Load pair.aff pair.dic) line.text).0
    (command-is (is_blank_line line.text) (command_of line.text) pair is)

is-load : HaveLines → NeverBlank → (line : SessionLine) (pair : Pair) → IsLoad pair line
    → loaded_by line ≡ Some pair
is-load have never line pair is =
    ap (λ b. loaded (if b then Ok None else or_bad (command_of line.text)))
    (never (Load pair.aff pair.dic) line.text is)
    ∙ ap (λ found. loaded (or_bad found)) ((have (Load pair.aff pair.dic) line.text).1 is)

-- ---- which pairs there are

same-refl : (pair : Pair) → is_same pair pair ≡ true
same-refl pair =
    both_true ((bytes_eq-Decides pair.aff pair.aff).1 refl)
    ((bytes_eq-Decides pair.dic pair.dic).1 refl)

-- leaving out the pairs like one pair takes no other one away
among-filter : (pair other : Pair) → is_same pair other ≡ false → (pairs : List Pair)
    → is_pair_among (filter (λ p. not (is_same pair p)) pairs) other ≡ is_pair_among pairs other
among-filter pair other differs [] = refl
among-filter pair other differs (p ∷ pairs) =
    let rest = among-filter pair other differs pairs in
    elim (is_same pair p) as
    (λ b. is_same pair p ≡ b
    → is_pair_among (cond (not b) (p ∷ filter (λ q. not (is_same pair q)) pairs)
    (filter (λ q. not (is_same pair q)) pairs)) other ≡ (is_same p other || is_pair_among pairs other)) [
      | true ↦ λ same. rest
          ∙ sym (ap (λ b. b || is_pair_among pairs other)
          (sym (ap (λ q. is_same q other) (same-≡ pair p same)) ∙ differs))
      | false ↦ λ _. ap (λ b. is_same p other || b) rest
    ] refl

among-once : (pairs : List Pair) (other : Pair)
    → is_pair_among (each_pair_once pairs) other ≡ is_pair_among pairs other
among-once [] other = refl
among-once (pair ∷ pairs) other =
    elim (is_same pair other) as
    (λ b. is_same pair other ≡ b
    → (b || is_pair_among (filter (λ p. not (is_same pair p)) (each_pair_once pairs)) other) ≡
    (b || is_pair_among pairs other)) [
      | true ↦ λ _. refl
      | false ↦ λ differs. among-filter pair other differs (each_pair_once pairs)
          ∙ among-once pairs other
    ] refl

-- a pair that lines load is that of one of them
loaded-named : HaveLines → (lines : List SessionLine) (pair : Pair)
    → is_pair_among (filter_map loaded_by lines) pair ≡ true → IsPairNamed lines pair
loaded-named have [] pair among = absurd (false≢true among)
loaded-named have (line ∷ lines) pair among =
    by-line (loaded-named have lines pair) (loaded_by line) refl among
  where
    behind : IsPairNamed lines pair → IsPairNamed (line ∷ lines) pair
    behind (found, there, is) = (found, contains-tail line found lines there, is)

    by-line : (is_pair_among (filter_map loaded_by lines) pair ≡ true → IsPairNamed lines pair)
        → (found : Option Pair) → loaded_by line ≡ found
        → is_pair_among (cons_option found (filter_map loaded_by lines)) pair ≡ true
        → IsPairNamed (line ∷ lines) pair
    by-line more None is here = behind (more here)
    by-line more (Some first) is here =
        elim (or_cases (is_same first pair) (is_pair_among (filter_map loaded_by lines) pair) here) [
          | inl same ↦ (
            line,
            contains-head line lines,
            load-is have line pair (is ∙ ap Some (same-≡ first pair same)),
          )
          | inr later ↦ behind (more later)
        ]

-- and what a line loads is among what all lines load
named-loaded : (lines : List SessionLine) (line : SessionLine) (pair : Pair)
    → Contains lines line → loaded_by line ≡ Some pair
    → is_pair_among (filter_map loaded_by lines) pair ≡ true
named-loaded [] line pair (k, within, at) is = absurd (not-suc-le-zero within)
named-loaded (first ∷ lines) line pair (zero, within, at) is =
    ap (λ found. is_pair_among (cons_option found (filter_map loaded_by lines)) pair)
    (ap loaded_by at ∙ is)
    ∙ or_left (is_same pair pair) (is_pair_among (filter_map loaded_by lines) pair) (same-refl pair)
named-loaded (first ∷ lines) line pair (suc k, within, at) is =
    more (loaded_by first) (named-loaded lines line pair (k, le_of_suc-le-suc within, at) is)
  where
    more : (found : Option Pair) → is_pair_among (filter_map loaded_by lines) pair ≡ true
        → is_pair_among (cons_option found (filter_map loaded_by lines)) pair ≡ true
    more None among = among
    more (Some other) among =
        or_right (is_same other pair) (is_pair_among (filter_map loaded_by lines) pair) among

pub named-pairs : HaveLines → NeverBlank → (lines : List SessionLine) (pair : Pair)
    → (is_pair_among (pairs_in lines) pair ≡ true) ↔ IsPairNamed lines pair
unfolding pairs_in
named-pairs have never lines pair = (
  λ among. loaded-named have lines pair
      (sym (among-once (filter_map loaded_by lines) pair) ∙ among),
  λ named. among-once (filter_map loaded_by lines) pair
      ∙ named-loaded lines named.0 pair named.1 (is-load have never named.0 pair named.2),
)

-- where the pairs are those that lines load, the pair that one of them loads is among them
pub loads-among : (pairs : List Pair) (lines : List SessionLine) → pairs ≡ pairs_in lines
    → All (λ line. LoadsAmong pairs line.text) lines
unfolding pairs_in
loads-among pairs lines are =
    All-weaker (Contains lines) (λ line. LoadsAmong pairs line.text)
    (λ line there pair is. ap (λ found. is_pair_among found pair) are
    ∙ among-once (filter_map loaded_by lines) pair
    ∙ named-loaded lines line pair there is) lines (All-contains_itself lines)

-- ---- no pair stands twice
differs-from : (pair other : Pair) → not (is_same pair other) ≡ true → pair ≢ other
differs-from pair other differs same =
    false≢true (sym (ap not (sym (ap (is_same pair) same) ∙ same-refl pair)) ∙ differs)

each-once : (pairs : List Pair) → AllPairs (λ pair later. pair ≢ later) (each_pair_once pairs)
each-once [] = λ i j d below within. absurd (omega arith)
each-once (pair ∷ pairs) =
    let kept = λ (p : Pair). not (is_same pair p) in
    AllPairs-cons (λ one later. one ≢ later) pair (filter kept (each_pair_once pairs))
    (λ k d within. differs-from pair _ (filter_passes kept (each_pair_once pairs) k d within))
    (AllPairs-filter (λ one later. one ≢ later) kept (each_pair_once pairs) (each-once pairs))

pub once-pairs : (lines : List SessionLine) → AllPairs (λ pair later. pair ≢ later) (pairs_in lines)
unfolding pairs_in
once-pairs lines = each-once (filter_map loaded_by lines)

-- ---- later lines leave the pairs in front
begins-once : (front back : List Pair)
    → Begins (each_pair_once front) (each_pair_once (front ++ back))
begins-once [] back = (each_pair_once back, refl)
begins-once (pair ∷ front) back =
    let kept = λ (p : Pair). not (is_same pair p) in
    let rest = begins-once front back in (
      filter kept rest.0,
      ap (λ pairs. pair ∷ filter kept pairs) rest.1
          ∙ ap (λ pairs. pair ∷ pairs) (filter-append kept (each_pair_once front) rest.0),
    )

pub begins-pairs : (front back : List SessionLine) → Begins (pairs_in front) (pairs_in (front ++ back))
unfolding pairs_in
begins-pairs front back =
    let begins = begins-once (filter_map loaded_by front) (filter_map loaded_by back) in
    (begins.0, ap each_pair_once (filter_map-append loaded_by front back) ∙ begins.1)
