use Rattle.std.proofs.Common.{◌≡◌, [], ◌∷◌, Some}
use Rattle.std.proofs.lemmas.Result.{err_from_is_err_and}
use Rattle.nv_tree.specs.Refusals.{first_refusal, is_directory_at}
use Rattle.nv_tree.specs.declared.refusal.Refusal.{Refusal}
use Rattle.nv_tree.specs.declared.refusal.Refusal.TheVariants.{IsDirectory}
use Rattle.nv_tree.proofs.Replies.{refused_by}
use Rattle.nv_paths.specs.Seen.{node_of, tree_of}
use Rattle.nv_calls.specs.ByNumber.{read_inode_tests}
use Rattle.nv_calls.proofs.Numbered.{told_missing}
use Rattle.nv_calls.proofs.fs.Fs.read_inode_into.Goals as goal

pub returns-in_err-row-clause-refused : goal.returns-in_err-row-clause-refused
returns-in_err-row-clause-refused g c runs =
    let tree = tree_of (g.P.Pmem.region c.args.self.now.memory) c.args.self.now.rows in
    let w = err_from_is_err_and c.from_residual.result c.from_residual.ensures.1 in
    let why = c.in_err-row.ensures.refused runs in
    refused_by c.from_residual.result c.in_err-row.field-0.0 w.0 (λ (e : Refusal). first_refusal (read_inode_tests tree c.args.inode) ≡ Some e) w.1 w.2
    (told_missing (tree c.args.inode) ((is_directory_at tree c.args.inode, IsDirectory) ∷ []) c.in_err-row.field-0.0 why.0 why.1)

pub returns-in-File-clause-ok : goal.returns-in-File-clause-ok
returns-in-File-clause-ok g c = record {
  node = node_of (g.P.Pmem.region c.args.self.now.memory) c.in_ok-row.row.now;
  shows = c.in_ok-row.ensures.row;
  as_many = c.fill_from.ensures.count;
  bytes = c.fill_from.ensures.bytes;
}
