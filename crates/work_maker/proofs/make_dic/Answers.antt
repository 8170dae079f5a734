use Rattle.std.proofs.Common.{rules, ◌≡◌, ◌∙◌, sym, ap, length, [], ◌∷◌, ◌++◌, append-nil}
use Rattle.std.proofs.Common.{append_assoc, arith}
use Rattle.std.specs.Fmt.{decimal}
use Rattle.std.proofs.lemmas.Fmt.{length-decimal-le}
use Rattle.std.proofs.lemmas.List.{length_push}
use Rattle.work_maker.specs.Made.{made_entry}
use Rattle.work_maker.proofs.MadeLemmas.{dic_bytes-more}
use Rattle.work_maker.proofs.make_dic.Goals as goal

pub loop-number-init : goal.loop-number-init
loop-number-init c =
    let size = c.args.size in
    let bytes : c.into_bytes-made.result.items ≡ decimal size ++ 10 ∷ [] = search rules in
    record {
      bytes = bytes ∙ sym (append-nil (decimal size ++ 10 ∷ []));
      small = omega (
        arith,
        ap length bytes,
        length_push (decimal size) 10,
        length-decimal-le 5 size (omega arith) (omega arith) (omega arith),
      );
    }

pub loop-number-preserved : goal.loop-number-preserved
loop-number-preserved c =
    let made = c.loop-number.made.items in
    let number = c.loop-number.number in
    record {
      bytes = c.in_ok-push.ensures.items
          ∙ ap (λ front. front ++ 10 ∷ []) c.in_ok-push_entry.ensures.bytes
          ∙ append_assoc made (made_entry number) (10 ∷ [])
          ∙ ap (λ front. front ++ (made_entry number ++ 10 ∷ [])) c.loop-number.invariant.bytes
          ∙ sym (dic_bytes-more c.args.size number);
      small = omega (
        arith,
        c.in_ok-push_entry.ensures.small,
        ap length c.in_ok-push.ensures.items,
        length_push c.push_entry.new.made.items 10,
      );
    }
