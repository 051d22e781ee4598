use Rattle.std.proofs.Common.{◌≡◌, Some}
use Rattle.std.proofs.lemmas.Result.{err_from_is_err_and}
use Rattle.nv_tree.specs.Refusals.{first_refusal, read_tests}
use Rattle.nv_tree.specs.declared.refusal.Refusal.{Refusal}
use Rattle.nv_paths.specs.Seen.{tree_of}
use Rattle.nv_tree.proofs.Replies.{refused_by}
use Rattle.nv_calls.proofs.FileBytes.{read_refused}
use Rattle.nv_calls.proofs.fs.Fs.read_into.Goals as goal

pub returns-in_err-row-clause-refused : goal.returns-in_err-row-clause-refused
returns-in_err-row-clause-refused g c runs p says =
    let tree = tree_of (g.P.Pmem.region c.args.self.now.memory) c.args.self.now.rows in
    let w = err_from_is_err_and c.from_residual.result c.from_residual.ensures.1 in
    refused_by c.from_residual.result c.in_err-row.field-0.0 w.0 (λ (e : Refusal). first_refusal (read_tests tree p) ≡ Some e) w.1 w.2
    (read_refused tree p c.in_err-row.field-0.0 (c.in_err-row.ensures.refused runs p says))
