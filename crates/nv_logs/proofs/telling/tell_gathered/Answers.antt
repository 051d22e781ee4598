use Rattle.std.proofs.Common.{string_bytes}
use Rattle.std.proofs.lemmas.Result.{err_from_is_err_and}
use Rattle.nv_logs.proofs.telling.tell_gathered.Goals as goal

pub returns-in_err-write_look-clause-err : goal.returns-in_err-write_look-clause-err
returns-in_err-write_look-clause-err g c R are =
    let look = c.in_ok-look.look in
    let q = err_from_is_err_and c.from_residual-in_err-write_look.result c.from_residual-in_err-write_look.ensures.1 in
    rw (q.1, q.2, c.in_err-write_look.ensures.kind) (string_bytes look.text, look.answered, c.in_ok-look.ensures R are, c.in_err-write_look.ensures.err)
