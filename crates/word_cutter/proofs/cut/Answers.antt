-- At first nothing is cut, and at the end nothing is left.
use Rattle.std.proofs.Common.{◌∙◌, ◌++◌, length, map, ap, arith}
use Rattle.mark_types.specs.Handed.{span_of}
use Rattle.word_cutter.specs.Runs.{words_after}
use Rattle.word_cutter.proofs.cut.Goals as goal

pub loop-spans-init : goal.loop-spans-init
loop-spans-init c =
    let wordchars = c.args.wordchars.now in
    let bytes = ap length c.of-rest.ensures.text in
    let at = c.of-rest.ensures.at in
    let none = ap length c.new-spans.ensures.items in
    record {
      cut = ap (λ spans. spans ++ map span_of (words_after wordchars c.of-rest.result))
          c.new-spans.ensures.items
          ∙ ap (map span_of) (c.of-rest.ensures.words wordchars);
      few = omega arith;
      size = omega arith;
    }
