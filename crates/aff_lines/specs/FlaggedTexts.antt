-- Texts that may have a flag: `text` or `text/flag`.
use Rattle.std.specs.Prelude.{ℕ, Bool, true, List, is_some, Option, None, Some, option_and_then}
use Rattle.std.specs.Prelude.{if◌then◌else◌}
use Rattle.std.specs.List.{before_first, after_first, list_any}
use Rattle.std.specs.Option.{option_map_or}
use Rattle.spell_types.specs.declared.flags.Flag.{Flag}
use Rattle.spell_types.specs.declared.flags.FlagKind.{FlagKind}
use Rattle.flag_sets.specs.FlagTexts.{one_flag}
use Rattle.flag_sets.specs.Slashes.{is_slash}

-- the text without its flag: what stands before the first slash, which nothing escapes
abbrev pub bare_text : List ℕ → List ℕ
bare_text text = before_first is_slash text

-- what stands behind that slash, if there is one
abbrev pub text_behind_slash : List ℕ → Option (List ℕ)
text_behind_slash text = if list_any is_slash text then Some (after_first is_slash text) else None

-- the flag of the text, if it has one
abbrev pub flag_behind : FlagKind → List ℕ → Option Flag
flag_behind kind text = option_and_then (one_flag kind) (text_behind_slash text)

-- whether what stands behind that slash is exactly one flag, if there is a slash
abbrev pub is_flagged : FlagKind → List ℕ → Bool
is_flagged kind text = option_map_or (λ part. is_some (one_flag kind part)) (text_behind_slash text) true
