use Rattle.std.proofs.Common.{rules, ◌≡◌, ◌∙◌, sym, ap, ap₂, ℕ, ◌+◌, ◌-◌, length, List, [], ◌∷◌}
use Rattle.std.proofs.Common.{◌++◌, append_assoc, arith}
use Rattle.std.proofs.lemmas.List.{length_push}
use Rattle.work_maker.specs.Made.{drawn, drawn_after, drawn_word}
use Rattle.work_maker.specs.Words.{made_word, made_stem}
use Rattle.work_maker.proofs.MadeLemmas.{run, run-more, end_of, drawn-more, text_bytes-run}
use Rattle.work_maker.proofs.make_text.Goals as goal

pub loop-place-init : goal.loop-place-init
unfolding drawn
loop-place-init c = search rules

pub loop-place-preserved : goal.loop-place-preserved
loop-place-preserved c =
    let start : ℕ = c.args.start in
    let size : ℕ = c.args.size in
    let place : ℕ = c.loop-place.place in
    let made : List ℕ = c.loop-place.made.items in
    let word = λ (at : ℕ). drawn_word size (drawn start at) in
    let here : place - 1 + 1 ≡ place = omega arith in
    let draw : c.next-draw.result.number ≡ drawn start place =
    c.next-draw.ensures ∙ ap drawn_after c.loop-place.invariant.draw
    ∙ sym (drawn-more start (place - 1) place here) in
    let pushed : c.push_word.new.made.items ≡ made ++ word place =
    c.in_ok-push_word.ensures.bytes
    ∙ ap (λ w. made ++ w)
    (ap₂ (λ k s. made_word k (made_stem s)) c.kind.ensures c.stem_number.ensures
    ∙ ap (drawn_word size) draw) in
    let one_more : 1 + (place - 1) ≡ place = omega arith in
    let next : place - 1 + 1 ≡ place + 1 - 1 = omega arith in
    record {
      bytes = c.in_ok-push.ensures.items
          ∙ ap₂ (λ front end. front ++ end ∷ []) pushed c.end_behind.ensures
          ∙ append_assoc made (word place) (end_of size place ∷ [])
          ∙ ap (λ front. front ++ (word place ++ end_of size place ∷ []))
          c.loop-place.invariant.bytes
          ∙ sym (run-more word size 1 (place - 1) place one_more)
          ∙ ap (run word size 1) next;
      draw = draw ∙ ap (drawn start) (omega arith);
      small = omega (
        arith,
        c.loop-place.invariant.small,
        c.in_ok-push_word.ensures.small,
        ap length c.in_ok-push.ensures.items,
        length_push c.push_word.new.made.items
            c.end_behind.result,
      );
    }

pub returns-clause-bytes : goal.returns-clause-bytes
returns-clause-bytes c =
    let start : ℕ = c.args.start in
    let size : ℕ = c.args.size in
    let all : c.loop-place.place - 1 ≡ size = omega arith in
    c.loop-place.invariant.bytes ∙ ap (run (λ (at : ℕ). drawn_word size (drawn start at)) size 1)
    all ∙ sym (text_bytes-run start size)
