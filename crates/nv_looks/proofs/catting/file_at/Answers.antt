use Rattle.std.proofs.lemmas.Result.{err_from_is_err_and}
use Rattle.nv_calls.proofs.FileBytes.{read_refused}
use Rattle.nv_paths.specs.Seen.{tree_of}
use Rattle.nv_looks.proofs.catting.file_at.Goals as goal

pub returns-in_err-row-clause-refused : goal.returns-in_err-row-clause-refused
returns-in_err-row-clause-refused c R p says =
    let q = err_from_is_err_and c.from_residual.result c.from_residual.ensures.1 in
    rw (q.1, q.2) (read_refused (tree_of R c.args.rows.now.items) p c.in_err-row.field-0.0 (c.in_err-row.ensures.refused R p says))
