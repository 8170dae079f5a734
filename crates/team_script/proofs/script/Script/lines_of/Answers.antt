-- What holds of the text of each line holds of the texts of a session.
use Rattle.std.proofs.Common.{◌≡◌, ◌≤◌, ℕ, List, length, All, Result, IfOk, sym, ap, subst, ◌∙◌}
use Rattle.team_script.specs.declared.line.SessionLine.{SessionLine}
use Rattle.team_script.specs.Lines.{texts_of, lent, text_limit, HasNoBreak}
use Rattle.team_script.specs.Pairs.{LoadsAmong}
use Rattle.team_script.proofs.LineLemmas.{session-texts, if-texts}
use Rattle.team_script.proofs.NameLemmas.{loads-among}
use Rattle.team_script.proofs.script.Script.lines_of.Goals as goal

given : {T E : Type 0} (P : List ℕ → Type 0) (session : ℕ) (lines there : List SessionLine)
    (result : Result T E) (view : T → List (List ℕ))
    → there ≡ lines → IfOk result (λ texts. view texts ≡ texts_of session there)
    → All (λ line. P line.text) lines
    → IfOk result (λ texts. All P (view texts))
given P session lines there result view same is each =
    if-texts P result view (texts_of session there) is
    (session-texts P session there (subst (All (λ line. P line.text)) (sym same) each))

pub returns-clause-short : goal.returns-clause-short
returns-clause-short c =
    given (λ text. length text ≤ text_limit) c.args.session _ c.deref.result.now c.texts_of.result
    (λ texts. lent texts.items) c.deref.ensures c.texts_of.ensures c.self.invariant.short

pub returns-clause-whole : goal.returns-clause-whole
returns-clause-whole c =
    given HasNoBreak c.args.session _ c.deref.result.now c.texts_of.result
    (λ texts. lent texts.items) c.deref.ensures c.texts_of.ensures c.self.invariant.whole

pub returns-clause-named : goal.returns-clause-named
returns-clause-named c =
    given (LoadsAmong c.args.self.now.pairs) c.args.session _ c.deref.result.now c.texts_of.result
    (λ texts. lent texts.items) c.deref.ensures c.texts_of.ensures
    (loads-among _ _ (ap (λ script. script.pairs) (sym c.self.view_is) ∙ c.self.invariant.loaded))
