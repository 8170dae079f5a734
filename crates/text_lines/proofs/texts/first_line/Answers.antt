-- The line ends at the first line feed, or with the text.
use Rattle.std.proofs.Common.{◌≡◌, ◌∙◌, ℕ, ◌+◌, ◌<◌, List, ◌∷◌, [], Option, Some, None}
use Rattle.std.proofs.Common.{length, get_or, take, drop, true, sym, ap, subst, arith}
use Rattle.std.proofs.Common.{slice_range}
use Rattle.std.proofs.lemmas.Bool.Decides.{nat_tests}
use Rattle.std.proofs.lemmas.Str.{IsCharBoundary-after_ascii}
use Rattle.std.specs.Str.{IsCharBoundary, IsUtf8}
use Rattle.std.specs.Str.Lines.{strip_carriage_return}
use Rattle.bstr.specs.Find.{IsFirstByte, is_byte}
use Rattle.text_lines.specs.Lines.{is_line_feed}
use Rattle.text_lines.specs.Texts.{texts_in}
use Rattle.text_lines.proofs.LineLemmas.{place_of_line_feed}
use Rattle.text_lines.proofs.TextLemmas.{line-first, line-last}
use Rattle.text_lines.proofs.texts.first_line.Goals as goal

found-in : (text bytes : List ℕ) (found place : Option ℕ) → bytes ≡ text → found ≡ place
    → IsFirstByte (is_byte 10) bytes found → IsFirstByte (is_byte 10) text place
found-in text bytes found place same is first =
    subst (λ b. IsFirstByte (is_byte 10) b place) same
    (subst (IsFirstByte (is_byte 10) bytes) is first)

-- the text may be cut behind the line feed
behind-feed : (text : List ℕ) (end : ℕ) → IsUtf8 text → IsFirstByte (is_byte 10) text (Some end)
    → IsCharBoundary text (end + 1)
behind-feed text end utf8 first =
    IsCharBoundary-after_ascii text end utf8 first.0.high (low (get_or text end 0) first.1)
  where
    low : (c : ℕ) → is_line_feed c ≡ true → c < 128
    low c feed = grind (arith, nat_tests)

ends : (text piece behind : List ℕ) (end : ℕ) → IsFirstByte (is_byte 10) text (Some end)
    → piece ≡ slice_range text 0 end → behind ≡ drop (end + 1) text
    → texts_in text ≡ strip_carriage_return piece ∷ texts_in behind
ends text piece behind end first is rest =
    let place = place_of_line_feed text (Some end) first in
    line-first text piece behind
    (subst (λ n. n < length text) place first.0.high)
    (is ∙ ap (λ n. take n text) (omega (arith, place)))
    (rest ∙ ap (λ n. drop (n + 1) text) place)

pub range_from-requires : goal.range_from-requires
range_from-requires c = λ _.
    behind-feed c.args.text.now c.in-Some.end c.utf8.text
    (found-in c.args.text.now c.as_bytes.result.now c.find_byte.result (Some c.in-Some.end)
    c.as_bytes.ensures.value c.in-Some.is c.find_byte.ensures)

pub returns-in-Some-clause-first : goal.returns-in-Some-clause-first
returns-in-Some-clause-first c =
    ends c.args.text.now c.range.result.now c.range_from.result.now c.in-Some.end
    (found-in c.args.text.now c.as_bytes.result.now c.find_byte.result (Some c.in-Some.end)
    c.as_bytes.ensures.value c.in-Some.is c.find_byte.ensures)
    c.range.ensures.value c.range_from.ensures.value
    ∙ ap (λ line. line ∷ texts_in c.range_from.result.now) (sym c.without_return.ensures)

pub returns-in-None-clause-first : goal.returns-in-None-clause-first
returns-in-None-clause-first c =
    line-last c.args.text.now
    (sym (place_of_line_feed c.args.text.now None
    (found-in c.args.text.now c.as_bytes.result.now c.find_byte.result None
    c.as_bytes.ensures.value c.in-None.is c.find_byte.ensures)))
    c.requires
    ∙ ap (λ line. line ∷ texts_in []) (sym c.without_return-in-None.ensures)
