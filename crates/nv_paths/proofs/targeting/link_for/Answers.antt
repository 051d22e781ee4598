use Rattle.std.proofs.Common.{◌≡◌, ◌∙◌, ◌∷◌, ◌++◌, Some, None, IfErr, ap, sym, option_copied}
use Rattle.std.proofs.lemmas.Result.{err_from_is_err_and}
use Rattle.nv_tree.specs.declared.refusal.Refusal.TheVariants.{NotFound}
use Rattle.nv_tree.specs.Refusals.{Path, first_refusal, is_bad, is_bad_name, is_missing, walk_tests}
use Rattle.nv_tree.proofs.Replies.{refused_by}
use Rattle.nv_paths.specs.Seen.{tree_of}
use Rattle.nv_rows.proofs.Places.{row_in_use}
use Rattle.nv_paths.proofs.CreateTests.{long_text, spells_names}
use Rattle.nv_paths.proofs.LinkSpots.{file_missing, new_walk_refused, old_walk_refused, said_both}
use Rattle.nv_paths.proofs.Targets.{leads_to, none_found}
use Rattle.nv_paths.proofs.Walks.{longer}
use Rattle.nv_paths.proofs.targeting.link_for.Goals as goal

pub returns-in_err-file-clause-refused : goal.returns-in_err-file-clause-refused
returns-in_err-file-clause-refused c region p q more says says_new =
    let w = err_from_is_err_and c.from_residual.result c.from_residual.ensures.1 in
    let some_new = c.has_name.ensures.good c.if-not-has_name.false in
    said_both c.args.old.now c.args.new.now (λ (p q : Path). IfErr c.from_residual.result (λ e. first_refusal (is_bad p ∷ is_bad_name q ∷ walk_tests (tree_of region c.args.rows.now.items) p ++ walk_tests (tree_of region c.args.rows.now.items) q ++ is_missing (tree_of region c.args.rows.now.items) p ∷ more) ≡ Some e)) (c.is_path.ensures.some c.if-not-is_path.false) some_new (long_text c.args.new.now some_new) (λ names other others path other_path.
    refused_by c.from_residual.result c.in_err-file.field-0.0 w.0 (λ e. first_refusal (is_bad (Some names) ∷ is_bad_name (Some (other ∷ others)) ∷ walk_tests (tree_of region c.args.rows.now.items) (Some names) ++ walk_tests (tree_of region c.args.rows.now.items) (Some (other ∷ others)) ++ is_missing (tree_of region c.args.rows.now.items) (Some names) ∷ more) ≡ Some e) w.1 w.2
    (old_walk_refused (tree_of region c.args.rows.now.items) names other others more c.in_err-file.field-0.0 (c.in_err-file.ensures.refused region names path))) p q says says_new

pub returns-in_err-directory-clause-refused : goal.returns-in_err-directory-clause-refused
returns-in_err-directory-clause-refused c region p q more says says_new =
    let w = err_from_is_err_and c.from_residual-in_err-directory.result c.from_residual-in_err-directory.ensures.1 in
    let some_new = c.has_name.ensures.good c.if-not-has_name.false in
    said_both c.args.old.now c.args.new.now (λ (p q : Path). IfErr c.from_residual-in_err-directory.result (λ e. first_refusal (is_bad p ∷ is_bad_name q ∷ walk_tests (tree_of region c.args.rows.now.items) p ++ walk_tests (tree_of region c.args.rows.now.items) q ++ is_missing (tree_of region c.args.rows.now.items) p ∷ more) ≡ Some e)) (c.is_path.ensures.some c.if-not-is_path.false) some_new (long_text c.args.new.now some_new) (λ names other others path other_path.
    let walked = c.in_ok-file.ensures.walk region names path in
    refused_by c.from_residual-in_err-directory.result c.in_err-directory.field-0.0 w.0 (λ e. first_refusal (is_bad (Some names) ∷ is_bad_name (Some (other ∷ others)) ∷ walk_tests (tree_of region c.args.rows.now.items) (Some names) ++ walk_tests (tree_of region c.args.rows.now.items) (Some (other ∷ others)) ++ is_missing (tree_of region c.args.rows.now.items) (Some names) ∷ more) ≡ Some e) w.1 w.2
    (new_walk_refused (tree_of region c.args.rows.now.items) names other others more walked.0 c.in_err-directory.field-0.0 walked.1 (c.in_err-directory.ensures.refused region (other ∷ others) (spells_names c.args.new.now other others other_path)))) p q says says_new

pub returns-in_default-clause-refused : goal.returns-in_default-clause-refused
returns-in_default-clause-refused c region p q more says says_new =
    let some_new = c.has_name.ensures.good c.if-not-has_name.false in
    said_both c.args.old.now c.args.new.now (λ (p q : Path). first_refusal (is_bad p ∷ is_bad_name q ∷ walk_tests (tree_of region c.args.rows.now.items) p ++ walk_tests (tree_of region c.args.rows.now.items) q ++ is_missing (tree_of region c.args.rows.now.items) p ∷ more) ≡ Some NotFound) (c.is_path.ensures.some c.if-not-is_path.false) some_new (long_text c.args.new.now some_new) (λ names other others path other_path.
    let walked = c.in_ok-file.ensures.walk region names path in
    let directory = row_in_use c.args.rows.now.items c.in_ok-directory.directory c.in_ok-directory.ensures.in_use in
    file_missing (tree_of region c.args.rows.now.items) names other others more walked.0 directory.0.inode walked.1 (c.in_ok-directory.ensures.directory region (other ∷ others) (spells_names c.args.new.now other others other_path) directory.0 directory.1).0
    (none_found region c.args.rows.now.items names (sym (c.in_ok-file.ensures.row region names path) ∙ ap option_copied c.in_default.is))) p q says says_new

pub returns-clause-paths : goal.returns-clause-paths
returns-clause-paths c =
    let some_new = c.has_name.ensures.good c.if-not-has_name.false in
    (c.is_path.ensures.some c.if-not-is_path.false, some_new)

pub returns-clause-walked : goal.returns-clause-walked
returns-clause-walked c region names path = c.in_ok-file.ensures.walk region names path

pub returns-clause-leads : goal.returns-clause-leads
returns-clause-leads c region names path = (let led = leads_to region c.args.rows.now.items names c.in-Some.target.now (sym (c.in_ok-file.ensures.row region names path) ∙ ap option_copied c.in-Some.is) in led.leads)

pub returns-clause-ended : goal.returns-clause-ended
returns-clause-ended c region names path =
    let long = long_text c.args.new.now (c.has_name.ensures.good c.if-not-has_name.false) in
    sym (c.in_ok-directory.ensures.reply region names (longer c.args.new.now names path long).3)

pub returns-clause-name : goal.returns-clause-name
returns-clause-name c names path =
    let long = long_text c.args.new.now (c.has_name.ensures.good c.if-not-has_name.false) in
    c.in_ok-directory.ensures.name names (longer c.args.new.now names path long).3
