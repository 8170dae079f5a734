-- Each line loads nothing, a pair that was found, or a new one.
use Rattle.std.proofs.Common.{◌≡◌, ◌∙◌, ℕ, ◌+◌, ◌<◌, List, ◌∷◌, length, drop, get_or, Option, Some}
use Rattle.std.proofs.Common.{inr, sym, ap, subst, arith}
use Rattle.std.proofs.lemmas.List.{drop_all}
use Rattle.console_lang.specs.Commands.{said_by}
use Rattle.team_script.specs.declared.line.SessionLine.{SessionLine}
use Rattle.team_script.specs.declared.pairs.Pair.{Pair}
use Rattle.team_script.specs.Pairs.{loaded, loaded_by, is_pair_among}
use Rattle.team_script.proofs.LineLemmas.{next-item}
use Rattle.team_script.proofs.PairLemmas.{AreFound, none-found, known-loaded, new-loaded}
use Rattle.team_script.proofs.PairLemmas.{many-loaded, all-found}
use Rattle.team_script.proofs.pairs.pairs_of.Goals as goal

-- the lines ahead begin with the one that is read
ahead : {lines : List SessionLine} {pairs : List Pair} {k : ℕ} (line : SessionLine)
    → k < length lines → line ≡ get_or lines k line → AreFound lines (drop k lines) pairs
    → AreFound lines (line ∷ drop (k + 1) lines) pairs
ahead {lines = lines} {pairs = pairs} {k = k} line below is are =
    subst (λ rest. AreFound lines rest pairs) (next-item lines k line below is) are

pair-is : (line : SessionLine) (text : List ℕ) (found : Option Pair) (pair : Pair)
    → text ≡ line.text → found ≡ loaded (said_by text) → found ≡ Some pair
    → loaded_by line ≡ Some pair
pair-is line text found pair same is some =
    ap (λ t. loaded (said_by t)) (sym same) ∙ sym is ∙ some

pub loop-line-init : goal.loop-line-init
loop-line-init c =
    subst (AreFound c.args.lines.now c.args.lines.now) (sym c.new-pairs.ensures)
    (none-found c.args.lines.now)

pub loop-line-preserved-then-is_among : goal.loop-line-preserved-then-is_among
loop-line-preserved-then-is_among c =
    known-loaded c.line-item.result _ c.in-Some.pair
    (pair-is c.line-item.result _ _ _ c.as_str.ensures.text c.in_ok-pair.ensures c.in-Some.is)
    (ap (λ pairs. is_pair_among pairs c.in-Some.pair) (sym c.deref.ensures) ∙ sym c.is_among.ensures
    ∙ c.if-is_among.true)
    (ahead c.line-item.result c.loop-line-test.true c.line-item.is c.loop-line.invariant)

pub returns-then-len-eq-PAIR_LIMIT-clause-due : goal.returns-then-len-eq-PAIR_LIMIT-clause-due
returns-then-len-eq-PAIR_LIMIT-clause-due c =
    inr (many-loaded c.line-item.result _ c.in-Some.pair
    (pair-is c.line-item.result _ _ _ c.as_str.ensures.text c.in_ok-pair.ensures c.in-Some.is)
    (ap (λ pairs. is_pair_among pairs c.in-Some.pair) (sym c.deref.ensures) ∙ sym c.is_among.ensures
    ∙ c.if-is_among.false)
    (omega (arith, c.len.ensures, c.if-len-eq-PAIR_LIMIT.true))
    (ahead c.line-item.result c.loop-line-test.true c.line-item.is c.loop-line.invariant))

pub loop-line-preserved : goal.loop-line-preserved
loop-line-preserved c =
    subst (AreFound c.args.lines.now (drop (c.loop-line.line-index + 1) c.args.lines.now))
    (sym c.in_ok-push.ensures.ok)
    (new-loaded c.line-item.result _ c.in-Some.pair
    (pair-is c.line-item.result _ _ _ c.as_str.ensures.text c.in_ok-pair.ensures c.in-Some.is)
    (ap (λ pairs. is_pair_among pairs c.in-Some.pair) (sym c.deref.ensures) ∙ sym c.is_among.ensures
    ∙ c.if-is_among.false)
    (λ full. c.if-len-eq-PAIR_LIMIT.false (c.len.ensures ∙ full))
    (ahead c.line-item.result c.loop-line-test.true c.line-item.is c.loop-line.invariant))

pub returns-clause-due : goal.returns-clause-due
returns-clause-due c =
    all-found (drop c.loop-line.line-index c.args.lines.now)
    (drop_all c.loop-line.line-index c.args.lines.now c.loop-line-test.false)
    c.loop-line.invariant
