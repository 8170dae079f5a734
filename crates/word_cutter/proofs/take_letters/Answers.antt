-- A text may be cut behind its first ASCII letters.
use Rattle.std.proofs.Common.{◌≡◌, ◌++◌, ◌∙◌, drop, length, sym, ap, subst, arith}
use Rattle.std.specs.Str.{IsCharBoundary, IsUtf8}
use Rattle.std.proofs.lemmas.Str.{IsCharBoundary-at_seam}
use Rattle.std.proofs.lemmas.List.{take-append-drop}
use Rattle.word_cutter.proofs.LetterLemmas.{utf8-behind_letters}
use Rattle.word_cutter.proofs.take_letters.Goals as goal

pub range_from-requires : goal.range_from-requires
range_from-requires c =
    let l = c.loop-byte in
    let text = c.args.text.now in
    let left = drop l.byte-index text in
    let whole : text ≡ l.word.items ++ left =
    sym (take-append-drop l.byte-index text)
    ∙ ap (λ put. put ++ left) (sym l.invariant.put) in
    let size : length l.word.items ≡ c.len.result = omega arith in
    λ some. subst (IsCharBoundary text) size
    (IsCharBoundary-at_seam text l.word.items left whole
    (utf8-behind_letters l.word.items left l.invariant.letters (subst IsUtf8 whole c.utf8.text)))
