-- What is counted of two parts is counted of both together.
use Rattle.std.proofs.Common.{◌≡◌, ◌∙◌, ℕ, ◌+◌, List, [], ◌∷◌, ◌++◌, length, map}
use Rattle.std.proofs.Common.{refl, sym, ap, arith, append_assoc, length-append}
use Rattle.std.specs.Borrow.{Bor}
use Rattle.std.specs.List.{flat_map}
use Rattle.std.specs.Str.{chars}
use Rattle.std.specs.String.{string_bytes}
use Rattle.std.proofs.lemmas.List.{length-map, map-append}
use Rattle.std.proofs.lemmas.Grind.{flat_map-append}
use Rattle.mark_types.specs.spell_types.declared.Lexicon.{Lexicon}
use Rattle.mark_types.specs.Marks.{LocatedWord, located_words, in_paragraph, marks_of}
use Rattle.document_report.specs.declared.printing.Output.{Output}
use Rattle.document_report.specs.declared.printing.Output.TheVariants.{Marks, Summary}
use Rattle.document_report.specs.declared.printing.Report.{Report}
use Rattle.document_report.specs.Given.{lines_if_listed}
use Rattle.document_report.specs.Parts.{IsReportOfParts, each_from, numbered_marks, numbered_words}
use Rattle.document_report.specs.Parts.{paragraphs_of}
use Rattle.document_report.specs.Reports.{line_of_mark}
use Rattle.document_report.specs.Texts.{lent}

-- what is found in paragraphs behind others has the numbers that follow theirs
each-append : (found : List ℕ → List LocatedWord) (number : ℕ) (front back : List (List ℕ))
    → each_from found number (front ++ back)
    ≡ each_from found number front ++ each_from found (number + length front) back
each-append found number [] back = ap (λ n. each_from found n back) (omega arith)
each-append found number (paragraph ∷ front) back =
    let here = map (in_paragraph number) (found paragraph) in
    let behind = each_from found (number + 1) front in
    let next : number + 1 + length front ≡ number + length (paragraph ∷ front) = omega arith in
    ap (λ rest. here ++ rest) (each-append found (number + 1) front back)
    ∙ sym (append_assoc here behind (each_from found (number + 1 + length front) back))
    ∙ ap (λ n. (here ++ behind) ++ each_from found n back) next

listed-append : (output : Output) (front back : List ℕ)
    → lines_if_listed output (front ++ back) ≡ lines_if_listed output front ++ lines_if_listed output back
listed-append Marks front back = refl
listed-append (Summary entries) front back = refl

module _ (first : ℕ) (front back : List (Bor (List ℕ))) where
  each-both : (found : List ℕ → List LocatedWord)
      → each_from found first (paragraphs_of (front ++ back))
      ≡ each_from found first (paragraphs_of front)
      ++ each_from found (first + length front) (paragraphs_of back)
  each-both found =
      let apart : paragraphs_of (front ++ back) ≡ paragraphs_of front ++ paragraphs_of back =
      ap (map chars) (map-append (λ text. text.now) front back)
      ∙ map-append chars (lent front) (lent back) in
      let count : length (paragraphs_of front) ≡ length front =
      length-map (lent front) chars ∙ length-map front (λ text. text.now) in
      ap (each_from found first) apart
      ∙ each-append found first (paragraphs_of front) (paragraphs_of back)
      ∙ ap (λ n. each_from found first (paragraphs_of front)
      ++ each_from found (first + n) (paragraphs_of back)) count

  pub counted-both : (output : Output) (lexicon : Lexicon) {earlier later all : Report}
      → IsReportOfParts output lexicon first front earlier
      → IsReportOfParts output lexicon (first + length front) back later
      → string_bytes all.text ≡ string_bytes earlier.text ++ string_bytes later.text
      → all.marks ≡ earlier.marks + later.marks → all.words ≡ earlier.words + later.words
      → IsReportOfParts output lexicon first (front ++ back) all
  counted-both output lexicon {earlier} {later} {all} one other text marks words =
      let behind = first + length front in
      let marked = each-both (λ paragraph. marks_of lexicon (paragraph ∷ [])) in
      let cut =
      each-both (λ paragraph. located_words lexicon.affixes.wordchars (paragraph ∷ [])) in
      record {
        text = text
            ∙ (ap (λ lines. lines ++ string_bytes later.text) one.text
            ∙ ap (λ lines. lines_if_listed output (flat_map line_of_mark (numbered_marks lexicon first front))
            ++ lines)
            other.text
            ∙ sym (listed-append output (flat_map line_of_mark (numbered_marks lexicon first front))
            (flat_map line_of_mark (numbered_marks lexicon behind back)))
            ∙ ap (lines_if_listed output)
            (sym (ap (flat_map line_of_mark) marked
            ∙ flat_map-append line_of_mark (numbered_marks lexicon first front)
            (numbered_marks lexicon behind back))));
        marks = omega (
          arith,
          marks,
          one.marks,
          other.marks,
          ap length marked
              ∙ length-append (numbered_marks lexicon first front)
              (numbered_marks lexicon behind back),
        );
        words = omega (
          arith,
          words,
          one.words,
          other.words,
          ap length cut
              ∙ length-append (numbered_words lexicon first front)
              (numbered_words lexicon behind back),
        );
        few = omega (arith, words, one.few, other.few, length-append front back);
        fewer = omega (arith, marks, words, one.fewer, other.fewer);
      }
