use Rattle.std.proofs.Common.{◌≡◌, ◌∙◌, ap, sym, Some, None, option_copied}
use Rattle.nv_tree.specs.declared.refusal.Refusal.TheVariants.{NotFound}
use Rattle.nv_tree.specs.Refusals.{Path, first_refusal, stat_tests}
use Rattle.nv_paths.specs.Seen.{tree_of}
use Rattle.nv_paths.proofs.Targets.{allowed_by, leads_to, none_found, said, missing_by}
use Rattle.nv_paths.proofs.walking.row_at.Goals as goal

pub returns-in-Some-clause-row : goal.returns-in-Some-clause-row
returns-in-Some-clause-row c region names p = leads_to region c.args.rows.now.items names c.in-Some.row.now (sym (c.in_ok-row.ensures.row region names p) ∙ ap option_copied c.in-Some.is)

pub returns-in-Some-clause-refused : goal.returns-in-Some-clause-refused
returns-in-Some-clause-refused c region = said c.args.path.now (λ (p : Path). first_refusal (stat_tests (tree_of region c.args.rows.now.items) p) ≡ None) (c.is_path.ensures.some c.if-not-is_path.false) (λ names p.
    let walked = c.in_ok-row.ensures.walk region names p in
    let led = leads_to region c.args.rows.now.items names c.in-Some.row.now (sym (c.in_ok-row.ensures.row region names p) ∙ ap option_copied c.in-Some.is) in
    allowed_by (tree_of region c.args.rows.now.items) names walked.0 c.in-Some.row.now.inode walked.1 led.leads)

pub returns-in-None-clause-refused : goal.returns-in-None-clause-refused
returns-in-None-clause-refused c region = said c.args.path.now (λ (p : Path). first_refusal (stat_tests (tree_of region c.args.rows.now.items) p) ≡ Some NotFound) (c.is_path.ensures.some c.if-not-is_path.false) (λ names p.
    let none = none_found region c.args.rows.now.items names (sym (c.in_ok-row.ensures.row region names p) ∙ ap option_copied c.in-None.is) in
    let walked = c.in_ok-row.ensures.walk region names p in
    missing_by (tree_of region c.args.rows.now.items) names walked.0 walked.1 none)
