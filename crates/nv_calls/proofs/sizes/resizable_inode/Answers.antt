use Rattle.std.proofs.Common.{◌∙◌, [], ◌∷◌, Some, ap, sym}
use Rattle.std.specs.Option.{option_map}
use Rattle.std.specs.Result.{result_err}
use Rattle.std.proofs.lemmas.Result.{err_from_is_err_and}
use Rattle.nv_tree.specs.declared.refusal.Refusal.{Refusal}
use Rattle.nv_tree.specs.declared.refusal.Refusal.TheVariants.{IsDirectory}
use Rattle.nv_tree.specs.Refusals.{is_directory_at, is_too_large}
use Rattle.nv_paths.specs.Seen.{node_of, tree_of}
use Rattle.nv_calls.proofs.Numbered.{file_there, told_missing}
use Rattle.nv_calls.proofs.SetSize.{file_by}
use Rattle.nv_calls.proofs.sizes.resizable_inode.Goals as goal

pub returns-in_err-row-clause-refused : goal.returns-in_err-row-clause-refused
returns-in_err-row-clause-refused c region =
    let t = tree_of region c.args.rows.now.items in
    let w = err_from_is_err_and c.from_residual.result c.from_residual.ensures.1 in
    let why = c.in_err-row.ensures.missing in
    told_missing (t c.args.inode) ((is_directory_at t c.args.inode, IsDirectory) ∷ is_too_large c.args.size ∷ []) c.in_err-row.field-0.0 why.0 (ap (option_map (node_of region)) why.1)
    ∙ sym (ap result_err w.1 ∙ ap (λ (r : Refusal). Some r) w.2)

pub returns-in_err-can_have_size-clause-refused : goal.returns-in_err-can_have_size-clause-refused
returns-in_err-can_have_size-clause-refused c region =
    let w = err_from_is_err_and c.from_residual-in_err-can_have_size.result c.from_residual-in_err-can_have_size.ensures.1 in
    file_there region c.args.rows.now.items c.args.inode c.args.size c.in_ok-row.row.now c.in_ok-row.ensures.row
    ∙ c.in_err-can_have_size.ensures ∙ sym (ap result_err w.1 ∙ ap (λ (r : Refusal). Some r) w.2)

pub returns-clause-file : goal.returns-clause-file
returns-clause-file c = file_by c.in_ok-row.row.now.kind c.args.size c.in_ok-can_have_size.ensures

pub returns-clause-refused : goal.returns-clause-refused
returns-clause-refused c region =
    file_there region c.args.rows.now.items c.args.inode c.args.size c.in_ok-row.row.now c.in_ok-row.ensures.row
    ∙ c.in_ok-can_have_size.ensures
