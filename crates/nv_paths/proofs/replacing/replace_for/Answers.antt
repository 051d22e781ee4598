use Rattle.std.proofs.Common.{◌≡◌, ◌∙◌, ℕ, Some, ap, slice_get, subst, sym, option_copied}
use Rattle.std.proofs.lemmas.Result.{err_from_is_err_and}
use Rattle.std.proofs.lemmas.Option.{same_Some}
use Rattle.nv_names.specs.Names.{name_at}
use Rattle.nv_scan.specs.declared.piece.Row.{Row}
use Rattle.nv_tree.specs.declared.refusal.Refusal.{Refusal}
use Rattle.nv_tree.specs.Refusals.{first_refusal}
use Rattle.nv_tree.proofs.Replies.{refused_by}
use Rattle.nv_rows.specs.Rows.{IsInUse, place_in, row_of}
use Rattle.nv_rows.proofs.Places.{at_place, in_use, own_row}
use Rattle.nv_paths.specs.ReplaceSpots.{replace_spot_tests}
use Rattle.nv_paths.specs.Seen.{tree_of}
use Rattle.nv_paths.proofs.MoveSpots.{first_leads, leads_nowhere, leads_there}
use Rattle.nv_paths.proofs.NamedAt.{stands_for}
use Rattle.nv_paths.proofs.ReplaceSpots.{bare_other, nothing_against, nothing_over, over_directory, over_file, over_names, replace_refused, same_kind}
use Rattle.nv_paths.proofs.replacing.replace_for.Goals as goal

pub returns-in_err-moved-clause-refused : goal.returns-in_err-moved-clause-refused
returns-in_err-moved-clause-refused c region p q says says_new =
    let w = err_from_is_err_and c.from_residual.result c.from_residual.ensures.1 in
    let t = tree_of region c.args.rows.now.items in
    refused_by c.from_residual.result c.in_err-moved.field-0.0 w.0 (λ (e : Refusal). first_refusal (replace_spot_tests t p q) ≡ Some e) w.1 w.2 (replace_refused t p q c.in_err-moved.field-0.0 (c.in_err-moved.ensures.refused region p q says says_new))

pub target_at-requires : goal.target_at-requires
target_at-requires c = record { in_use = c.in_ok-moved.ensures.in_use.directory }

pub row-target-requires : goal.row-target-requires
row-target-requires c = c.in_ok-moved.ensures.in_use.target

pub returns-then-is_the_directory-clause-refused : goal.returns-then-is_the_directory-clause-refused
returns-then-is_the_directory-clause-refused c region p q says says_new =
    let held = own_row c.args.rows.now.items c.in_ok-moved.moved.from.target c.row-target.result.now c.row-target.ensures in
    let first = first_leads region c.args.rows.now.items c.args.old.now c.args.new.now c.in_ok-moved.ensures.paths (c.in_ok-moved.ensures.way region) c.row-target.result.now (at_place c.args.rows.now.items c.in_ok-moved.moved.from.target ∙ c.row-target.ensures) p says in
    let second = leads_there region c.args.rows.now.items c.args.new.now c.in_ok-moved.moved.name.now c.in_ok-moved.moved.directory c.in_ok-moved.ensures.in_use.directory c.target_at.result c.in_ok-moved.ensures.paths.1 (c.in_ok-moved.ensures.ended region) c.in_ok-moved.ensures.last c.target_at.ensures.row c.in-Some.there c.in-Some.is q says_new in
    over_directory region c.args.rows.now.items p q c.row-target.result.now c.in-Some.there.now held c.in-Some.ensures.held first second (c.in_ok-moved.ensures.allowed region p q says says_new) (sym c.is_the_directory.ensures ∙ c.if-is_the_directory.true)

pub returns-then-is_the_directory-2-clause-refused : goal.returns-then-is_the_directory-2-clause-refused
returns-then-is_the_directory-2-clause-refused c region p q says says_new =
    let held = own_row c.args.rows.now.items c.in_ok-moved.moved.from.target c.row-target.result.now c.row-target.ensures in
    let first = first_leads region c.args.rows.now.items c.args.old.now c.args.new.now c.in_ok-moved.ensures.paths (c.in_ok-moved.ensures.way region) c.row-target.result.now (at_place c.args.rows.now.items c.in_ok-moved.moved.from.target ∙ c.row-target.ensures) p says in
    let second = leads_there region c.args.rows.now.items c.args.new.now c.in_ok-moved.moved.name.now c.in_ok-moved.moved.directory c.in_ok-moved.ensures.in_use.directory c.target_at.result c.in_ok-moved.ensures.paths.1 (c.in_ok-moved.ensures.ended region) c.in_ok-moved.ensures.last c.target_at.ensures.row c.in-Some.there c.in-Some.is q says_new in
    over_file region c.args.rows.now.items p q c.row-target.result.now c.in-Some.there.now held c.in-Some.ensures.held first second (c.in_ok-moved.ensures.allowed region p q says says_new) (sym c.is_the_directory.ensures ∙ c.if-is_the_directory.false) (sym c.is_the_directory-2.ensures ∙ c.if-is_the_directory-2.true)

pub returns-then-is_another_with_names-clause-refused : goal.returns-then-is_another_with_names-clause-refused
returns-then-is_another_with_names-clause-refused c region p q says says_new =
    let held = own_row c.args.rows.now.items c.in_ok-moved.moved.from.target c.row-target.result.now c.row-target.ensures in
    let first = first_leads region c.args.rows.now.items c.args.old.now c.args.new.now c.in_ok-moved.ensures.paths (c.in_ok-moved.ensures.way region) c.row-target.result.now (at_place c.args.rows.now.items c.in_ok-moved.moved.from.target ∙ c.row-target.ensures) p says in
    let second = leads_there region c.args.rows.now.items c.args.new.now c.in_ok-moved.moved.name.now c.in_ok-moved.moved.directory c.in_ok-moved.ensures.in_use.directory c.target_at.result c.in_ok-moved.ensures.paths.1 (c.in_ok-moved.ensures.ended region) c.in_ok-moved.ensures.last c.target_at.ensures.row c.in-Some.there c.in-Some.is q says_new in
    over_names region c.args.rows.now.items p q c.row-target.result.now c.in-Some.there.now held c.in-Some.ensures.held first second (c.in_ok-moved.ensures.allowed region p q says says_new) (sym c.is_the_directory.ensures ∙ c.if-is_the_directory.false) (sym c.is_the_directory-2.ensures ∙ c.if-is_the_directory-2.false) (sym c.is_another_with_names.ensures ∙ c.if-is_another_with_names.true)

pub returns-clause-allowed : goal.returns-clause-allowed
returns-clause-allowed c region p q says says_new =
    let held = own_row c.args.rows.now.items c.in_ok-moved.moved.from.target c.row-target.result.now c.row-target.ensures in
    let first = first_leads region c.args.rows.now.items c.args.old.now c.args.new.now c.in_ok-moved.ensures.paths (c.in_ok-moved.ensures.way region) c.row-target.result.now (at_place c.args.rows.now.items c.in_ok-moved.moved.from.target ∙ c.row-target.ensures) p says in
    let second = leads_there region c.args.rows.now.items c.args.new.now c.in_ok-moved.moved.name.now c.in_ok-moved.moved.directory c.in_ok-moved.ensures.in_use.directory c.target_at.result c.in_ok-moved.ensures.paths.1 (c.in_ok-moved.ensures.ended region) c.in_ok-moved.ensures.last c.target_at.ensures.row c.in-Some.there c.in-Some.is q says_new in
    nothing_against region c.args.rows.now.items p q c.row-target.result.now c.in-Some.there.now held c.in-Some.ensures.held first second (c.in_ok-moved.ensures.allowed region p q says says_new) (sym c.is_the_directory.ensures ∙ c.if-is_the_directory.false) (sym c.is_the_directory-2.ensures ∙ c.if-is_the_directory-2.false) (sym c.is_another_with_names.ensures ∙ c.if-is_another_with_names.false)

pub returns-in_default-clause-allowed : goal.returns-in_default-clause-allowed
returns-in_default-clause-allowed c region p q says says_new =
    nothing_over (tree_of region c.args.rows.now.items) p q (c.in_ok-moved.ensures.allowed region p q says says_new) (leads_nowhere region c.args.rows.now.items c.args.new.now c.in_ok-moved.moved.name.now c.in_ok-moved.moved.directory c.in_ok-moved.ensures.in_use.directory c.target_at.result c.in_ok-moved.ensures.paths.1 (c.in_ok-moved.ensures.ended region) c.in_ok-moved.ensures.last c.target_at.ensures.row c.in_default.is q says_new)

pub returns-clause-in_use : goal.returns-clause-in_use
returns-clause-in_use c = c.in_ok-moved.ensures.in_use

pub returns-in_default-clause-in_use : goal.returns-in_default-clause-in_use
returns-in_default-clause-in_use c = c.in_ok-moved.ensures.in_use

pub returns-clause-former : goal.returns-clause-former
returns-clause-former c = c.in_ok-moved.ensures.former

pub returns-in_default-clause-former : goal.returns-in_default-clause-former
returns-in_default-clause-former c = c.in_ok-moved.ensures.former

pub returns-clause-name : goal.returns-clause-name
returns-clause-name c = c.in_ok-moved.ensures.name

pub returns-in_default-clause-name : goal.returns-in_default-clause-name
returns-in_default-clause-name c = c.in_ok-moved.ensures.name

pub returns-clause-paths : goal.returns-clause-paths
returns-clause-paths c = c.in_ok-moved.ensures.paths

pub returns-in_default-clause-paths : goal.returns-in_default-clause-paths
returns-in_default-clause-paths c = c.in_ok-moved.ensures.paths

pub returns-clause-there : goal.returns-clause-there
returns-clause-there c i is =
    subst (IsInUse c.args.rows.now.items) (same_Some _ _ is) (in_use c.args.rows.now.items c.in-Some.there.now.inode c.in-Some.there.now c.in-Some.ensures.held)

pub returns-in_default-clause-there : goal.returns-in_default-clause-there
returns-in_default-clause-there c i is = absurd (cc)

pub returns-clause-spot : goal.returns-clause-spot
returns-clause-spot c region names others path other_path =
    let numbered_there : (j : ℕ) → Some c.in-Some.there.now.inode ≡ Some j → c.in-Some.there.now.inode ≡ j = λ j is. same_Some _ _ is in
    let had_is : (had : Row) (j : ℕ) → Some c.in-Some.there.now.inode ≡ Some j → row_of c.args.rows.now.items j ≡ Some had → c.in-Some.there.now ≡ had = λ had j is at. same_Some _ _ (sym c.in-Some.ensures.held ∙ ap (row_of c.args.rows.now.items) (numbered_there j is) ∙ at) in
    let moved_is : (moved : Row) → slice_get c.args.rows.now.items (place_in c.args.rows.now.items c.in_ok-moved.moved.from.target) ≡ Some moved → c.row-target.result.now ≡ moved = λ moved at. same_Some _ _ (sym c.row-target.ensures ∙ sym (at_place c.args.rows.now.items c.in_ok-moved.moved.from.target) ∙ at) in
    record {
      way = c.in_ok-moved.ensures.way region names others path other_path;
      leads = leads_there region c.args.rows.now.items c.args.new.now c.in_ok-moved.moved.name.now c.in_ok-moved.moved.directory c.in_ok-moved.ensures.in_use.directory c.target_at.result c.in_ok-moved.ensures.paths.1 (c.in_ok-moved.ensures.ended region) c.in_ok-moved.ensures.last c.target_at.ensures.row c.in-Some.there c.in-Some.is (Some others) other_path;
      over = record {
        none = λ row at is. absurd (cc);
        named = λ row j at is. stands_for c.args.rows.now.items (name_at row.names c.in_ok-moved.moved.name.now) c.in-Some.there.now (sym (ap option_copied c.in-Some.is) ∙ c.target_at.ensures.row row (sym (at_place c.args.rows.now.items c.in_ok-moved.moved.directory) ∙ at)) ∙ is;
        alike = λ moved had j at is had_at. (let one = moved_is moved at in let two = had_is had j is had_at in (λ k. (sym two k).kind) ∙ same_kind c.row-target.result.now.kind c.in-Some.there.now.kind (sym c.is_the_directory.ensures ∙ c.if-is_the_directory.false) (sym c.is_the_directory-2.ensures ∙ c.if-is_the_directory-2.false) ∙ (λ k. (one k).kind));
        bare = λ moved had j at is had_at other q. (let one = moved_is moved at in let two = had_is had j is had_at in (λ k. name_at (sym two k).names q) ∙ bare_other c.row-target.result.now.inode c.in-Some.there.now.inode c.in-Some.there.now.names.names q (sym c.is_another_with_names.ensures ∙ c.if-is_another_with_names.false) (λ same. other (sym (numbered_there j is) ∙ same ∙ (λ k. (one k).inode))));
      };
    }

pub returns-in_default-clause-spot : goal.returns-in_default-clause-spot
returns-in_default-clause-spot c region names others path other_path =
    record {
      way = c.in_ok-moved.ensures.way region names others path other_path;
      leads = leads_nowhere region c.args.rows.now.items c.args.new.now c.in_ok-moved.moved.name.now c.in_ok-moved.moved.directory c.in_ok-moved.ensures.in_use.directory c.target_at.result c.in_ok-moved.ensures.paths.1 (c.in_ok-moved.ensures.ended region) c.in_ok-moved.ensures.last c.target_at.ensures.row c.in_default.is (Some others) other_path;
      over = record {
        none = λ row at is. sym (c.target_at.ensures.row row (sym (at_place c.args.rows.now.items c.in_ok-moved.moved.directory) ∙ at)) ∙ ap option_copied c.in_default.is;
        named = λ row j at is. absurd (cc);
        alike = λ moved had j at is had_at. absurd (cc);
        bare = λ moved had j at is had_at other q. absurd (cc);
      };
    }
