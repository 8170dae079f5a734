-- What was added, with what the rest adds, is what the text adds; both have the same behind the
-- slash.
use Rattle.std.proofs.Common.{◌≡◌, ◌++◌, length}
use denote.Text.{Utf8}
use denote.Shadow.{shadow}
use Rattle.std.specs.Str.{chars}
use Rattle.flag_sets.specs.Slashes.{before_slash, behind_slash}
use Rattle.flag_sets.proofs.slashes.with_text_before_slash.Given as goal

abbrev pub invariant-loop-character : goal.invariant-loop-character
invariant-loop-character l = shadow (Utf8 l.rest)
    × (l.longer.items ++ chars (before_slash l.rest) ≡ l.fn.word ++ chars (before_slash l.fn.text))
    × (behind_slash l.rest ≡ behind_slash l.fn.text)

abbrev pub decreases-loop-character : goal.decreases-loop-character
decreases-loop-character l = length l.rest
