-- Each line of a piece turns what was heard of it so far.
use Rattle.std.proofs.Common.{◌≡◌, ◌∙◌, ◌∷◌, [], ap, append_assoc, arith, length, length-append}
use Rattle.std.proofs.Common.{sym}
use Rattle.std.proofs.lemmas.Result.{err_from_is_err_and}
use Rattle.input_lines.proofs.LineLemmas.{no-break-both}
use Rattle.input_lines.proofs.TurnLemmas.{hears-cut, hears-put, hears-then, line-on, line-stops}
use Rattle.input_lines.proofs.TurnLemmas.{rest-kept}
use Rattle.input_lines.proofs.listener.Listener.hear_lines.Goals as goal

pub loop-bytes-init : goal.loop-bytes-init
loop-bytes-init g c =
    record {
      no_more = c.requires.no_more;
      room = omega arith;
      count = omega arith;
      so_far = λ there result is. is;
    }

pub end_line-requires-clause-whole : goal.end_line-requires-clause-whole
end_line-requires-clause-whole g c =
    no-break-both c.loop-bytes.self.pending.items c.in-Some.bytes.now c.loop-bytes.invariant.no_more
    c.in-Some.ensures.whole

pub returns-in_err-end_line-clause-hears : goal.returns-in_err-end_line-clause-hears
returns-in_err-end_line-clause-hears g c =
    let part = c.in-Some in
    let p = err_from_is_err_and c.from_residual.result c.from_residual.ensures.1 in
    rw (p.1, p.2) (c.loop-bytes.invariant.so_far _ _
    (line-stops part.bytes.now part.behind.now part.ensures.some part.ensures.whole
    c.in_err-end_line.ensures.turns))

pub returns-in_err-put_many-clause-hears : goal.returns-in_err-put_many-clause-hears
returns-in_err-put_many-clause-hears g c =
    let part = c.in-Some in
    let line = c.in_ok-end_line.ensures in
    let p = err_from_is_err_and c.from_residual-in_err-put_many.result
    c.from_residual-in_err-put_many.ensures.1 in
    rw (p.1, p.2) (c.loop-bytes.invariant.so_far _ _
    (hears-cut part.behind.now
    (part.ensures.some ∙ sym (append_assoc part.bytes.now (10 ∷ []) part.behind.now))
    (line-on c.end_line.new.self part.bytes.now part.ensures.whole line.turns line.empty line.later)
    c.in_err-put_many.ensures.puts))

pub loop-bytes-preserved : goal.loop-bytes-preserved
loop-bytes-preserved g c =
    let l = c.loop-bytes.invariant in
    let part = c.in-Some in
    let line = c.in_ok-end_line.ensures in
    let put = c.in_ok-put_many.ensures in
    let long = ap length part.ensures.some ∙ length-append part.bytes.now (10 ∷ part.behind.now) in
    let empty : c.put_many.new.self.pending.items ≡ [] =
    ap (λ p. p.items) put.pending ∙ line.empty in
    record {
      no_more = rw empty tt;
      room = omega (arith, long, l.room, line.room);
      count = omega (arith, l.count, put.count);
      so_far = λ there result is.
          l.so_far there result
          (rw (part.ensures.some, ← append_assoc part.bytes.now (10 ∷ []) part.behind.now)
          (hears-then
          (hears-put (line-on c.end_line.new.self part.bytes.now part.ensures.whole line.turns
          line.empty line.later)
          put.puts put.pending put.first) is));
    }

pub returns-clause-hears : goal.returns-clause-hears
returns-clause-hears g c =
    let keep = c.keep.ensures in
    c.loop-bytes.invariant.so_far _ _
    (rest-kept c.loop-bytes.rest.now c.in_default.ensures.none keep.kept keep.stopped keep.first
    keep.answers)
