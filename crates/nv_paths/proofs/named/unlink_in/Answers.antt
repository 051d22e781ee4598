use Rattle.std.proofs.Common.{◌≡◌, ◌∙◌, ◌∷◌, Some, sym, subst}
use Rattle.std.proofs.lemmas.Option.{same_Some}
use Rattle.std.proofs.lemmas.Result.{err_from_is_err_and}
use Rattle.nv_super.specs.declared.kind.Kind.TheVariants.{File}
use Rattle.nv_scan.specs.declared.piece.Row.{Row}
use Rattle.nv_rows.specs.Rows.{place_in}
use Rattle.nv_rows.proofs.Places.{in_use}
use Rattle.nv_tree.specs.Refusals.{first_refusal}
use Rattle.nv_tree.proofs.Replies.{refused_by}
use Rattle.nv_paths.specs.Directories.{is_dir_in, unlink_spot_tests}
use Rattle.nv_paths.specs.Seen.{tree_of}
use Rattle.nv_paths.proofs.Directories.{unlink_directory, unlink_passes}
use Rattle.nv_paths.proofs.named.unlink_in.Goals as goal

pub returns-in_err-target-clause-refused : goal.returns-in_err-target-clause-refused
returns-in_err-target-clause-refused c region more =
    let w = err_from_is_err_and c.from_residual.result c.from_residual.ensures.1 in
    let tree = tree_of region c.args.rows.now.items in
    refused_by c.from_residual.result c.in_err-target.field-0.0 w.0 (λ e. first_refusal (unlink_spot_tests tree c.args.directory c.args.name.now more) ≡ Some e) w.1 w.2
    (c.in_err-target.ensures.refused region (is_dir_in tree c.args.directory c.args.name.now ∷ more))

pub returns-then-not-is_file-clause-refused : goal.returns-then-not-is_file-clause-refused
returns-then-not-is_file-clause-refused c region more =
    let rows = c.args.rows.now.items in
    c.in_ok-target.ensures.passed region (is_dir_in (tree_of region rows) c.args.directory c.args.name.now ∷ more)
    ∙ unlink_directory region rows c.args.directory c.args.name.now c.in_ok-target.target.now c.in_ok-target.ensures.held (place_in rows c.args.directory) (c.in_ok-target.ensures.spot region) more (c.is_file.ensures.no c.if-not-is_file.true)

pub returns-clause-passed : goal.returns-clause-passed
returns-clause-passed c region more =
    let rows = c.args.rows.now.items in
    c.in_ok-target.ensures.passed region (is_dir_in (tree_of region rows) c.args.directory c.args.name.now ∷ more)
    ∙ unlink_passes region rows c.args.directory c.args.name.now c.in_ok-target.target.now c.in_ok-target.ensures.held (place_in rows c.args.directory) (c.in_ok-target.ensures.spot region) more (c.is_file.ensures.yes c.if-not-is_file.false)

pub returns-clause-target : goal.returns-clause-target
returns-clause-target c = in_use c.args.rows.now.items c.in_ok-target.target.now.inode c.in_ok-target.target.now c.in_ok-target.ensures.held

pub returns-clause-spot : goal.returns-clause-spot
returns-clause-spot c region = c.in_ok-target.ensures.spot region

pub returns-clause-file : goal.returns-clause-file
returns-clause-file c row is = subst (λ (r : Row). r.kind ≡ File) (same_Some _ _ (sym c.in_ok-target.ensures.held ∙ is)) (c.is_file.ensures.yes c.if-not-is_file.false)
