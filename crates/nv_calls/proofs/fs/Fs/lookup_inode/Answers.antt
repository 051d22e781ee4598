use Rattle.std.proofs.Common.{◌≡◌, ◌∙◌, [], Some, None, ap, subst}
use Rattle.std.specs.Option.{option_map}
use Rattle.std.proofs.lemmas.Result.{err_from_is_err_and}
use Rattle.nv_rows.proofs.Places.{at_place}
use Rattle.nv_tree.specs.Refusals.{first_refusal}
use Rattle.nv_tree.proofs.Replies.{refused_by}
use Rattle.nv_paths.specs.Directories.{lookup_tests}
use Rattle.nv_paths.specs.Seen.{node_of, tree_of}
use Rattle.nv_calls.specs.Mount.{Mount}
use Rattle.nv_calls.specs.NamesByNumber.{IsStatNamed, lookup_inode_tests}
use Rattle.nv_calls.proofs.fs.Fs.lookup_inode.Goals as goal

pub returns-clause-ok : goal.returns-clause-ok
returns-clause-ok g c =
    let row = c.in_ok-row_named.field-0.now in
    let R = g.P.Pmem.region c.self.inside.memory in
    let spot = c.in_ok-row_named.ensures.spot R in
    subst (λ (m : Mount g.row.P.Denot). IsStatNamed (tree_of (g.P.Pmem.region m.memory) m.rows) c.args.directory c.args.name.now c.stat_of.result) c.self.view_is (
      row.inode,
      node_of R row,
      record {
        leads = spot.leads row (at_place c.self.inside.rows.items row.inode ∙ c.in_ok-row_named.ensures.held);
        shows = ap (option_map (node_of R)) c.in_ok-row_named.ensures.held;
      },
      c.stat_of.ensures,
    )

pub returns-clause-allowed : goal.returns-clause-allowed
returns-clause-allowed g c =
    subst (λ (m : Mount g.row.P.Denot). first_refusal (lookup_tests (tree_of (g.P.Pmem.region m.memory) m.rows) c.args.directory c.args.name.now []) ≡ None) c.self.view_is
    (c.in_ok-row_named.ensures.passed (g.P.Pmem.region c.self.inside.memory) [])

pub returns-in_err-row_named-clause-refused : goal.returns-in_err-row_named-clause-refused
returns-in_err-row_named-clause-refused g c runs =
    let tree = tree_of (g.P.Pmem.region c.args.self.now.memory) c.args.self.now.rows in
    let w = err_from_is_err_and c.from_residual.result c.from_residual.ensures.1 in
    refused_by c.from_residual.result c.in_err-row_named.field-0.0 w.0 (λ e. first_refusal (lookup_inode_tests tree c.args.directory c.args.name.now) ≡ Some e) w.1 w.2
    (subst (λ (m : Mount g.row.P.Denot). first_refusal (lookup_tests (tree_of (g.P.Pmem.region m.memory) m.rows) c.args.directory c.args.name.now []) ≡ Some c.in_err-row_named.field-0.0) c.self.view_is
    (c.in_err-row_named.ensures.refused (g.P.Pmem.region c.self.inside.memory) []))
