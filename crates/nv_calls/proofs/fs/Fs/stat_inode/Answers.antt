use Rattle.std.proofs.Common.{[], Some, ap, ◌∙◌, ◌≡◌}
use Rattle.std.proofs.lemmas.Result.{err_from_is_err_and}
use Rattle.nv_tree.specs.Refusals.{first_refusal}
use Rattle.nv_tree.proofs.Replies.{refused_by}
use Rattle.nv_paths.specs.Seen.{node_of, tree_of}
use Rattle.nv_calls.specs.ByNumber.{stat_inode_tests}
use Rattle.nv_tree.specs.Stat.{stat_of}
use Rattle.nv_calls.proofs.Numbered.{told_missing, told_later}
use Rattle.nv_calls.proofs.fs.Fs.stat_inode.Goals as goal

pub returns-clause-ok : goal.returns-clause-ok
returns-clause-ok g c =
    let node = node_of (g.P.Pmem.region c.args.self.now.memory) c.in_ok-row_of.field-0.now in
    (node, c.in_ok-row_of.ensures.row, c.stat_of.ensures ∙ ap (λ i. stat_of i node) c.in_ok-row_of.ensures.number)

pub returns-clause-allowed : goal.returns-clause-allowed
returns-clause-allowed g c =
    let tree = tree_of (g.P.Pmem.region c.args.self.now.memory) c.args.self.now.rows in
    told_later (tree c.args.inode) (node_of (g.P.Pmem.region c.args.self.now.memory) c.in_ok-row_of.field-0.now) [] c.in_ok-row_of.ensures.row

pub returns-in_err-row_of-clause-refused : goal.returns-in_err-row_of-clause-refused
returns-in_err-row_of-clause-refused g c runs =
    let tree = tree_of (g.P.Pmem.region c.args.self.now.memory) c.args.self.now.rows in
    let w = err_from_is_err_and c.from_residual.result c.from_residual.ensures.1 in
    let why = c.in_err-row_of.ensures.refused runs in
    refused_by c.from_residual.result c.in_err-row_of.field-0.0 w.0 (λ e. first_refusal (stat_inode_tests tree c.args.inode) ≡ Some e) w.1 w.2 (told_missing (tree c.args.inode) [] c.in_err-row_of.field-0.0 why.0 why.1)
