use Rattle.std.proofs.Common.{inr}
use Rattle.std.proofs.lemmas.Result.{err_from_is_err_and}
use Rattle.nv_tree.specs.Refusals.{first_refusal, list_tests, IsReadRefusedBy}
use Rattle.nv_paths.specs.Seen.{tree_of}
use Rattle.nv_calls.proofs.Listed.{lists_names, refused_too}
use Rattle.nv_tree.proofs.Replies.{refused_by}
use Rattle.nv_calls.proofs.fs.Fs.list.Goals as goal

pub returns-in_err-row-clause-refused : goal.returns-in_err-row-clause-refused
returns-in_err-row-clause-refused g c runs p says =
    let tree = tree_of (g.P.Pmem.region c.args.self.now.memory) c.args.self.now.rows in
    let w = err_from_is_err_and c.from_residual.result c.from_residual.ensures.1 in
    refused_by c.from_residual.result c.in_err-row.field-0.0 w.0 (IsReadRefusedBy (first_refusal (list_tests tree p))) w.1 w.2
    (inr (refused_too tree p c.in_err-row.field-0.0 (c.in_err-row.ensures.refused runs p says)))

pub returns-in-Ok-clause-ok : goal.returns-in-Ok-clause-ok
returns-in-Ok-clause-ok g c names p = lists_names (g.P.Pmem.region c.args.self.now.memory) c.args.self.now.rows names c.in_ok-row.row.now c.in-Ok.listed.items (c.in_ok-row.ensures.row names p) c.in-Ok.ensures
