-- So far the paragraphs are those of the texts that were taken, and as many.
use Rattle.std.proofs.Common.{◌≡◌, length, vec_len}
use Rattle.paragraph_text.specs.Paragraphs.{numbered_from}
use Rattle.paragraph_text.proofs.list.Paragraphs.from_texts.Given as goal

abbrev pub invariant-loop-text : goal.invariant-loop-text
invariant-loop-text l =
    (l.paras.items ≡ numbered_from 0 l.yielded) × (vec_len l.paras ≡ length l.yielded)
