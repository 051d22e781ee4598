use Rattle.std.proofs.Common.{◌∙◌, Some, ap, sym}
use Rattle.std.specs.Result.{result_err}
use Rattle.std.proofs.lemmas.Result.{err_from_is_err_and}
use Rattle.nv_tree.specs.declared.refusal.Refusal.{Refusal}
use Rattle.nv_paths.specs.Seen.{node_of, tree_of}
use Rattle.nv_calls.proofs.SetSize.{file_by, front_is, front_refused}
use Rattle.nv_calls.proofs.sizes.resizable_at.Goals as goal

pub returns-in_err-row-clause-refused : goal.returns-in_err-row-clause-refused
returns-in_err-row-clause-refused c region p says =
    let w = err_from_is_err_and c.from_residual.result c.from_residual.ensures.1 in
    front_refused (tree_of region c.args.rows.now.items) p c.args.size c.in_err-row.field-0.0 (c.in_err-row.ensures.refused region p says) ∙ sym (ap result_err w.1 ∙ ap (λ (r : Refusal). Some r) w.2)

pub returns-in_err-can_have_size-clause-refused : goal.returns-in_err-can_have_size-clause-refused
returns-in_err-can_have_size-clause-refused c region p says =
    let w = err_from_is_err_and c.from_residual-in_err-can_have_size.result c.from_residual-in_err-can_have_size.ensures.1 in
    front_is (tree_of region c.args.rows.now.items) p c.args.path.now c.in_ok-row.row.now.inode (node_of region c.in_ok-row.row.now) c.args.size says (λ names path. c.in_ok-row.ensures.row region names path) (c.in_ok-row.ensures.refused region p says)
    ∙ c.in_err-can_have_size.ensures ∙ sym (ap result_err w.1 ∙ ap (λ (r : Refusal). Some r) w.2)

pub returns-clause-file : goal.returns-clause-file
returns-clause-file c = file_by c.in_ok-row.row.now.kind c.args.size c.in_ok-can_have_size.ensures

pub returns-clause-refused : goal.returns-clause-refused
returns-clause-refused c region p says =
    front_is (tree_of region c.args.rows.now.items) p c.args.path.now c.in_ok-row.row.now.inode (node_of region c.in_ok-row.row.now) c.args.size says (λ names path. c.in_ok-row.ensures.row region names path) (c.in_ok-row.ensures.refused region p says)
    ∙ c.in_ok-can_have_size.ensures
