-- A text without a slash has nothing behind one.
use Rattle.std.proofs.Common.{◌∙◌, ◌≡◌, ℕ, List, ap, arith, lit<, length, None}
use Rattle.std.specs.List.{position_or_len}
use Rattle.std.specs.Option.{option_copied}
use Rattle.std.proofs.lemmas.List.Folds.{list_any_none}
use Rattle.std.proofs.lemmas.List.Sums.{fails_before_first}
use Rattle.flag_sets.specs.Slashes.{is_slash}
use Rattle.aff_lines.specs.FlaggedTexts.{text_behind_slash}
use Rattle.aff_lines.proofs.flagged_texts.flag_text.Goals as goal

none-behind : (text : List ℕ) → position_or_len is_slash text ≡ length text
    → None ≡ text_behind_slash text
none-behind text is =
    let none = list_any_none is_slash text
    (λ k d within. fails_before_first is_slash text k d (omega (arith, within, is))) in
    rw none

pub returns-in_err-flag : goal.returns-in_err-flag
returns-in_err-flag c =
    ap option_copied c.from_residual.ensures
    ∙ none-behind c.args.text.now (c.in_err-flag.ensures.byte (lit< tt) (λ w o finds. finds))
