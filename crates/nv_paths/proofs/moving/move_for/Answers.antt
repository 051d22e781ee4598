use Rattle.std.proofs.Common.{◌≡◌, ◌∙◌, ◌∷◌, Some, None, IfErr, ap, slice_get, subst, sym, option_copied}
use Rattle.std.proofs.lemmas.Result.{err_from_is_err_and}
use Rattle.std.proofs.lemmas.Option.{same_Some}
use Rattle.nv_names.specs.Names.{name_at}
use Rattle.nv_tree.specs.declared.refusal.Refusal.TheVariants.{IntoItself, NotFound}
use Rattle.nv_tree.specs.Path.{IsPath, IsPathName}
use Rattle.nv_tree.specs.Tree.{found}
use Rattle.nv_tree.specs.Refusals.{Path, first_refusal}
use Rattle.nv_paths.specs.MoveSpots.{move_tests}
use Rattle.nv_paths.specs.Seen.{tree_of}
use Rattle.nv_scan.specs.declared.piece.Row.{Row}
use Rattle.nv_rows.specs.Rows.{place_in}
use Rattle.nv_rows.proofs.Places.{at_place, in_use}
use Rattle.nv_paths.proofs.CreateTests.{last_is_name, long_text, none, row_leads, spells_names}
use Rattle.nv_tree.proofs.Replies.{refused_by}
use Rattle.nv_paths.proofs.MoveSpots.{bad_first, bad_second, inode_missing, into_itself, move_passes, new_way_refused, not_passed, old_way_refused, passes_row, said_two}
use Rattle.nv_paths.proofs.NamedAt.{named_found, stands_for}
use Rattle.nv_paths.proofs.Walks.{longer}
use Rattle.nv_paths.proofs.moving.move_for.Goals as goal

pub returns-in_err-former_directory-clause-refused : goal.returns-in_err-former_directory-clause-refused
returns-in_err-former_directory-clause-refused c region =
    let some = c.has_name.ensures.good c.if-not-has_name.false in
    let some_new = c.has_name-2.ensures.good c.if-not-has_name-2.false in
    let long = long_text c.args.old.now some in
    let long_new = long_text c.args.new.now some_new in
    let w = err_from_is_err_and c.from_residual.result c.from_residual.ensures.1 in
    said_two c.args.old.now c.args.new.now (λ (p q : Path). IfErr c.from_residual.result (λ e. first_refusal (move_tests (tree_of region c.args.rows.now.items) p q) ≡ Some e)) some long some_new long_new (λ name names other others path other_path.
    refused_by c.from_residual.result c.in_err-former_directory.field-0.0 w.0 (λ e. first_refusal (move_tests (tree_of region c.args.rows.now.items) (Some (name ∷ names)) (Some (other ∷ others))) ≡ Some e) w.1 w.2
    (old_way_refused region c.args.rows.now.items name names other others c.in_err-former_directory.field-0.0 (c.in_err-former_directory.ensures.refused region (name ∷ names) (spells_names c.args.old.now name names path))))

pub returns-in_err-directory-clause-refused : goal.returns-in_err-directory-clause-refused
returns-in_err-directory-clause-refused c region =
    let some = c.has_name.ensures.good c.if-not-has_name.false in
    let some_new = c.has_name-2.ensures.good c.if-not-has_name-2.false in
    let long = long_text c.args.old.now some in
    let long_new = long_text c.args.new.now some_new in
    let w = err_from_is_err_and c.from_residual-in_err-directory.result c.from_residual-in_err-directory.ensures.1 in
    said_two c.args.old.now c.args.new.now (λ (p q : Path). IfErr c.from_residual-in_err-directory.result (λ e. first_refusal (move_tests (tree_of region c.args.rows.now.items) p q) ≡ Some e)) some long some_new long_new (λ name names other others path other_path.
    let walked = sym (c.in_ok-former_directory.ensures.reply region (name ∷ names) (spells_names c.args.old.now name names path)) in
    refused_by c.from_residual-in_err-directory.result c.in_err-directory.field-0.0 w.0 (λ e. first_refusal (move_tests (tree_of region c.args.rows.now.items) (Some (name ∷ names)) (Some (other ∷ others))) ≡ Some e) w.1 w.2
    (new_way_refused region c.args.rows.now.items name names other others c.in_ok-former_directory.former_directory c.in_err-directory.field-0.0 walked (c.in_err-directory.ensures.refused region (other ∷ others) (spells_names c.args.new.now other others other_path))))

pub returns-in_default-clause-refused : goal.returns-in_default-clause-refused
returns-in_default-clause-refused c region =
    let some = c.has_name.ensures.good c.if-not-has_name.false in
    let some_new = c.has_name-2.ensures.good c.if-not-has_name-2.false in
    let long = long_text c.args.old.now some in
    let long_new = long_text c.args.new.now some_new in
    said_two c.args.old.now c.args.new.now (λ (p q : Path). first_refusal (move_tests (tree_of region c.args.rows.now.items) p q) ≡ Some NotFound) some long some_new long_new (λ name names other others path other_path.
    let walked = sym (c.in_ok-former_directory.ensures.reply region (name ∷ names) (spells_names c.args.old.now name names path)) in
    let ended = sym (c.in_ok-directory.ensures.reply region (other ∷ others) (spells_names c.args.new.now other others other_path)) in
    inode_missing region c.args.rows.now.items name names other others c.in_ok-former_directory.former_directory c.in_ok-directory.directory walked ended (none region c.args.rows.now.items c.args.old.now c.in_ok-former_directory.former.now c.in_ok-former_directory.former_directory c.in_ok-former_directory.ensures.in_use c.target_at.result long (c.in_ok-former_directory.ensures.directory region) c.in_ok-former_directory.ensures.name c.target_at.ensures.row name names path c.in_default.is))

pub returns-then-is_into_itself-clause-refused : goal.returns-then-is_into_itself-clause-refused
returns-then-is_into_itself-clause-refused c region =
    let some = c.has_name.ensures.good c.if-not-has_name.false in
    let some_new = c.has_name-2.ensures.good c.if-not-has_name-2.false in
    let long = long_text c.args.old.now some in
    let long_new = long_text c.args.new.now some_new in
    said_two c.args.old.now c.args.new.now (λ (p q : Path). first_refusal (move_tests (tree_of region c.args.rows.now.items) p q) ≡ Some IntoItself) some long some_new long_new (λ name names other others path other_path.
    let walked = sym (c.in_ok-former_directory.ensures.reply region (name ∷ names) (spells_names c.args.old.now name names path)) in
    let ended = sym (c.in_ok-directory.ensures.reply region (other ∷ others) (spells_names c.args.new.now other others other_path)) in
    let led = row_leads region c.args.rows.now.items c.args.old.now c.in_ok-former_directory.former.now c.in_ok-former_directory.former_directory c.in_ok-former_directory.ensures.in_use c.target_at.result long (c.in_ok-former_directory.ensures.directory region) c.in_ok-former_directory.ensures.name c.target_at.ensures.row name names path c.in-Some.target c.in-Some.is in
    let into = c.is_into_itself.ensures region (other ∷ others) (spells_names c.args.new.now other others other_path) in
    into_itself region c.args.rows.now.items name names other others c.in_ok-former_directory.former_directory c.in_ok-directory.directory walked ended c.in-Some.target.now led (sym into ∙ c.if-is_into_itself.true))

pub returns-clause-former : goal.returns-clause-former
returns-clause-former c =
    let some = c.has_name.ensures.good c.if-not-has_name.false in
    let path = some.2 in
    subst IsPathName (sym (c.in_ok-former_directory.ensures.name (some.0 ∷ some.1) (spells_names c.args.old.now some.0 some.1 path))) (last_is_name some.0 some.1 path.good)

pub returns-clause-name : goal.returns-clause-name
returns-clause-name c =
    let some = c.has_name-2.ensures.good c.if-not-has_name-2.false in
    let path = some.2 in
    subst IsPathName (sym (c.in_ok-directory.ensures.name (some.0 ∷ some.1) (spells_names c.args.new.now some.0 some.1 path))) (last_is_name some.0 some.1 path.good)

pub returns-clause-way : goal.returns-clause-way
returns-clause-way c region names others path other_path =
    let some = c.has_name.ensures.good c.if-not-has_name.false in
    let some_new = c.has_name-2.ensures.good c.if-not-has_name-2.false in
    let long = long_text c.args.old.now some in
    let long_new = long_text c.args.new.now some_new in
    let w = longer c.args.old.now names path long in
    let v = longer c.args.new.now others other_path long_new in
    let rows = c.args.rows.now.items in
    let d = c.in_ok-former_directory.former_directory in
    let e = c.in_ok-directory.directory in
    let target = c.in-Some.target in
    let one : (row : Row) → slice_get rows (place_in rows target.now.inode) ≡ Some row → target.now ≡ row = λ row at. same_Some _ _ (sym c.in-Some.ensures.held ∙ sym (at_place rows target.now.inode) ∙ at) in
    record {
      from = record {
        directory = λ row at. c.in_ok-former_directory.ensures.directory region names w.3 row (sym (at_place rows d) ∙ at);
        name_is = c.in_ok-former_directory.ensures.name names w.3;
        leads = λ row at. subst (λ n. found (tree_of region rows) n ≡ Some row.inode) (sym w.2)
            (named_found region rows c.args.old.now c.in_ok-former_directory.former.now d c.in_ok-former_directory.ensures.in_use c.target_at.result long (c.in_ok-former_directory.ensures.directory region) c.in_ok-former_directory.ensures.name c.target_at.ensures.row w.0 w.1 (subst (IsPath c.args.old.now) w.2 path) target c.in-Some.is ∙ ap (λ (r : Row). Some r.inode) (one row at));
        named = λ row i at other. stands_for rows (name_at row.names c.in_ok-former_directory.former.now) i (sym other ∙ at_place rows target.now.inode ∙ c.in-Some.ensures.held ∙ sym (ap option_copied c.in-Some.is) ∙ c.target_at.ensures.row row (sym (at_place rows d) ∙ at));
      };
      to = record {
        row = λ row at. c.in_ok-directory.ensures.directory region others v.3 row (sym (at_place rows e) ∙ at);
        name_is = c.in_ok-directory.ensures.name others v.3;
      };
      apart = λ row at. not_passed (tree_of region rows) others row (ap (λ (r : Row). passes_row (tree_of region rows) others r) (sym (one row at)) ∙ sym (c.is_into_itself.ensures region others v.3) ∙ c.if-is_into_itself.false);
    }

pub returns-clause-allowed : goal.returns-clause-allowed
returns-clause-allowed c region =
    let some = c.has_name.ensures.good c.if-not-has_name.false in
    let some_new = c.has_name-2.ensures.good c.if-not-has_name-2.false in
    let long = long_text c.args.old.now some in
    let long_new = long_text c.args.new.now some_new in
    said_two c.args.old.now c.args.new.now (λ (p q : Path). first_refusal (move_tests (tree_of region c.args.rows.now.items) p q) ≡ None) some long some_new long_new (λ name names other others path other_path.
    let walked = sym (c.in_ok-former_directory.ensures.reply region (name ∷ names) (spells_names c.args.old.now name names path)) in
    let ended = sym (c.in_ok-directory.ensures.reply region (other ∷ others) (spells_names c.args.new.now other others other_path)) in
    let led = row_leads region c.args.rows.now.items c.args.old.now c.in_ok-former_directory.former.now c.in_ok-former_directory.former_directory c.in_ok-former_directory.ensures.in_use c.target_at.result long (c.in_ok-former_directory.ensures.directory region) c.in_ok-former_directory.ensures.name c.target_at.ensures.row name names path c.in-Some.target c.in-Some.is in
    let into = c.is_into_itself.ensures region (other ∷ others) (spells_names c.args.new.now other others other_path) in
    move_passes region c.args.rows.now.items name names other others c.in_ok-former_directory.former_directory c.in_ok-directory.directory walked ended c.in-Some.target.now led (sym into ∙ c.if-is_into_itself.false))

pub returns-clause-in_use : goal.returns-clause-in_use
returns-clause-in_use c = record { from = c.in_ok-former_directory.ensures.in_use; target = in_use c.args.rows.now.items c.in-Some.target.now.inode c.in-Some.target.now c.in-Some.ensures.held; directory = c.in_ok-directory.ensures.in_use }

pub returns-clause-paths : goal.returns-clause-paths
returns-clause-paths c =
    let some = c.has_name.ensures.good c.if-not-has_name.false in
    (some, c.has_name-2.ensures.good c.if-not-has_name-2.false)

pub returns-clause-ended : goal.returns-clause-ended
returns-clause-ended c region names spells = c.in_ok-directory.ensures.directory region names spells

pub returns-clause-last : goal.returns-clause-last
returns-clause-last c names spells = c.in_ok-directory.ensures.name names spells

pub target_at-requires : goal.target_at-requires
target_at-requires c = record { in_use = c.in_ok-former_directory.ensures.in_use }

pub returns-then-not-has_name-clause-refused : goal.returns-then-not-has_name-clause-refused
returns-then-not-has_name-clause-refused c region p q says says_new = bad_first (tree_of region c.args.rows.now.items) p q (c.has_name.ensures.bad c.if-not-has_name.true p says)

pub returns-then-not-has_name-2-clause-refused : goal.returns-then-not-has_name-2-clause-refused
returns-then-not-has_name-2-clause-refused c region p q says says_new = bad_second (tree_of region c.args.rows.now.items) p q (c.has_name.ensures.passed c.if-not-has_name.false p says) (c.has_name-2.ensures.bad c.if-not-has_name-2.true q says_new)
