use Rattle.std.proofs.Common.{[], ◌∷◌, inr, not}
use Rattle.std.proofs.lemmas.Result.{err_from_is_err_and}
use Rattle.nv_tree.specs.Refusals.{first_refusal, is_directory_at, IsReadRefusedBy}
use Rattle.nv_tree.specs.declared.refusal.Refusal.TheVariants.{NotDirectory}
use Rattle.nv_tree.proofs.Replies.{refused_by}
use Rattle.nv_paths.specs.Seen.{tree_of}
use Rattle.nv_calls.specs.ByNumber.{list_inode_tests}
use Rattle.nv_calls.proofs.Listed.{lists_row}
use Rattle.nv_calls.proofs.Numbered.{told_missing}
use Rattle.nv_calls.proofs.fs.Fs.list_inode.Goals as goal

pub returns-in_err-row-clause-refused : goal.returns-in_err-row-clause-refused
returns-in_err-row-clause-refused g c runs =
    let tree = tree_of (g.P.Pmem.region c.args.self.now.memory) c.args.self.now.rows in
    let w = err_from_is_err_and c.from_residual.result c.from_residual.ensures.1 in
    let why = c.in_err-row.ensures.refused runs in
    refused_by c.from_residual.result c.in_err-row.field-0.0 w.0 (IsReadRefusedBy (first_refusal (list_inode_tests tree c.args.inode))) w.1 w.2
    (inr (told_missing (tree c.args.inode) ((not (is_directory_at tree c.args.inode), NotDirectory) ∷ []) c.in_err-row.field-0.0 why.0 why.1))

pub returns-in-Ok-clause-ok : goal.returns-in-Ok-clause-ok
returns-in-Ok-clause-ok g c =
    let R = g.P.Pmem.region c.args.self.now.memory in
    lists_row (tree_of R c.args.self.now.rows) R c.in_ok-row.row.now c.args.inode c.in-Ok.listed.items c.in_ok-row.ensures.row c.in-Ok.ensures
