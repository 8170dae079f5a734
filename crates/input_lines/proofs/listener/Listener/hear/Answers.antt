-- What was heard is put behind what was put before.
use Rattle.std.proofs.Common.{[], append-nil, sym}
use Rattle.std.proofs.lemmas.Result.{err_from_is_err_and}
use Rattle.input_lines.proofs.TurnLemmas.{hears-cut, hears-put}
use Rattle.input_lines.proofs.listener.Listener.hear.Goals as goal

pub returns-in_err-put_all-clause-hears : goal.returns-in_err-put_all-clause-hears
returns-in_err-put_all-clause-hears g c =
    let p = err_from_is_err_and c.from_residual.result c.from_residual.ensures.1 in
    rw (p.1, p.2)
    (hears-cut [] (sym (append-nil _)) c.hear_lines-heard.ensures.hears
    c.in_err-put_all.ensures.puts)

pub returns-clause-hears : goal.returns-clause-hears
returns-clause-hears g c =
    let put = c.in_ok-put_all.ensures in
    hears-put c.hear_lines-heard.ensures.hears put.puts put.pending put.first
