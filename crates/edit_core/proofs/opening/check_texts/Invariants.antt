-- So far no text is at fault, so that the first fault is the first of those that are left.
use Rattle.std.proofs.Common.{◌≡◌, ◌≤◌, length, take, drop}
use Rattle.std.specs.List.{AllByRecursion}
use Rattle.paragraph_text.specs.Paragraphs.{HasNoBreak}
use Rattle.edit_core.specs.Seen.{fault_from}
use Rattle.edit_core.proofs.opening.check_texts.Given as goal
use Rattle.paragraph_text.specs.declared.limits.TheConstants.{MOST_BYTES}

abbrev pub invariant-loop-place : goal.invariant-loop-place
invariant-loop-place l = (fault_from 0 l.texts ≡ fault_from l.place (drop l.place l.texts))
    × AllByRecursion (λ text. (length text ≤ MOST_BYTES) × HasNoBreak text) (take l.place l.texts)
