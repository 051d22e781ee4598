use Rattle.std.proofs.Common.{inr, Ok, Err}
use Rattle.std.proofs.lemmas.Result.{err_from_is_err_and}
use Rattle.nv_region.specs.Region.{region_of}
use Rattle.nv_calls.proofs.RowChange.{row_there}
use Rattle.nv_paths.specs.Seen.{tree_of}
use Rattle.nv_looks.proofs.Cats.{refusal_ok, refusal_err}
use Rattle.nv_looks.proofs.Filed.{file_of_row, row_ok, row_err}
use Rattle.nv_looks.proofs.catting.cat_file.Goals as goal

pub write_row-requires : goal.write_row-requires
write_row-requires g c = c.requires c.in-Ok.row.now (row_there c.args.rows.now.items c.in-Ok.row.now.inode c.in-Ok.row.now c.in-Ok.ensures.held)

pub returns-in-Ok-clause-ok : goal.returns-in-Ok-clause-ok
returns-in-Ok-clause-ok g c image known R shown p says =
    let rows = c.args.rows.now.items in
    let row = c.in-Ok.row.now in
    row_ok (tree_of R rows) c.args.path.now p says _ _ _ (c.in-Ok.ensures.allowed R p says) c.write_row.result
    (λ names is. c.write_row.ensures.ok image known (tree_of R rows) names (file_of_row R (region_of image) rows shown row c.in-Ok.ensures.held names (c.in-Ok.ensures.row R names is))) c.write_row.ensures.status

pub returns-in-Ok-clause-err : goal.returns-in-Ok-clause-err
returns-in-Ok-clause-err g c image known R shown p says =
    let rows = c.args.rows.now.items in
    let row = c.in-Ok.row.now in
    row_err (tree_of R rows) c.args.path.now p says _ _ _ (c.in-Ok.ensures.allowed R p says) c.write_row.result
    (λ names is. c.write_row.ensures.err image known (tree_of R rows) names (file_of_row R (region_of image) rows shown row c.in-Ok.ensures.held names (c.in-Ok.ensures.row R names is)))

pub returns-in_ok-status-in-Err-clause-ok : goal.returns-in_ok-status-in-Err-clause-ok
returns-in_ok-status-in-Err-clause-ok g c image known R shown p says =
    refusal_ok (tree_of R c.args.rows.now.items) c.args.path.now p says _ _ _ c.in-Err.refusal (inr (c.in-Err.ensures.refused R p says)) (Ok c.in_ok-status-in-Err.status) c.in_ok-status-in-Err.ensures.ok

pub returns-in_err-status-in-Err-clause-err : goal.returns-in_err-status-in-Err-clause-err
returns-in_err-status-in-Err-clause-err g c image known R shown p says =
    let q = err_from_is_err_and c.from_residual.result c.from_residual.ensures.1 in
    rw (q.1, q.2) (refusal_err (tree_of R c.args.rows.now.items) c.args.path.now p says _ _ _ c.in-Err.refusal (inr (c.in-Err.ensures.refused R p says)) (Err c.in_err-status-in-Err.field-0.0) c.in_err-status-in-Err.ensures.err)
