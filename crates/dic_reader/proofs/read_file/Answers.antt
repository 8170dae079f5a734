-- A line that is not UTF-8 is told first, and else what is read of the lines.
use Rattle.std.proofs.Common.{◌≡◌, ◌∙◌, ap, sym, subst, refl, map, length}
use Rattle.std.specs.List.{range_with_len}
use Rattle.text_lines.specs.Lines.{good_lines, text_of}
use Rattle.text_lines.specs.Laws.{all-good, numbered}
use Rattle.dic_reader.proofs.FileLemmas.{bad-told, of-lines}
use Rattle.dic_reader.proofs.read_file.Goals as goal

pub returns-in-Err-clause-read : goal.returns-in-Err-clause-read
returns-in-Err-clause-read c =
    bad-told c.args.affixes.now c.args.bytes.now c.in-Err.line c.in-Err.ensures.bad

pub returns-in-Ok-clause-read : goal.returns-in-Ok-clause-read
returns-in-Ok-clause-read c =
    let bytes = c.args.bytes.now in
    let all = all-good bytes c.in-Ok.ensures.good in
    of-lines c.args.affixes.now bytes (good_lines bytes) c.read_text.result refl
    c.in-Ok.ensures.good
    (c.read_text.ensures.read bytes (good_lines bytes) (record {
      texts = c.in-Ok.ensures.lines ∙ ap (map (text_of bytes)) (sym all);
      numbers = subst (λ ls. map (λ line. line.number) ls ≡ range_with_len 1 (length ls)) (sym all)
          (numbered bytes);
    }))
