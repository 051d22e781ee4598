use Rattle.std.proofs.Common.{◌≡◌, ◌∙◌, ◌∷◌, ◌++◌, Some, Ok, Err, Result, ℕ, ap, sym, subst, IfErr, IfOk}
use Rattle.nv_tree.specs.declared.refusal.Refusal.{Refusal}
use Rattle.nv_tree.specs.Refusals.{Path, first_refusal, is_bad_name, refused_walk, walk_tests}
use Rattle.nv_tree.specs.Tree.{walk}
use Rattle.nv_paths.specs.Seen.{tree_of}
use Rattle.nv_paths.proofs.CreateTests.{long_text, said_names, spells_names}
use Rattle.nv_paths.proofs.Directories.{bad_first, if_err_by, if_ok_by}
use Rattle.nv_paths.proofs.Walks.{longer}
use Rattle.nv_paths.proofs.naming.directory_for.Goals as goal

pub returns-then-not-has_name-clause-refused : goal.returns-then-not-has_name-clause-refused
returns-then-not-has_name-clause-refused c region p more says = bad_first p (walk_tests (tree_of region c.args.rows.now.items) p ++ more) (c.has_name.ensures.bad c.if-not-has_name.true p says)

pub returns-clause-walked : goal.returns-clause-walked
returns-clause-walked c region names path =
    let long = long_text c.args.path.now (c.has_name.ensures.good c.if-not-has_name.false) in
    let spells = (longer c.args.path.now names path long).3 in
    if_ok_by c.walk.result (walk (tree_of region c.args.rows.now.items) 1 names) (c.walk.ensures.reply region names spells)

pub returns-clause-name : goal.returns-clause-name
returns-clause-name c names path =
    let long = long_text c.args.path.now (c.has_name.ensures.good c.if-not-has_name.false) in
    c.walk.ensures.name names (longer c.args.path.now names path long).3

pub returns-clause-refused : goal.returns-clause-refused
returns-clause-refused c region p more says =
    let some = c.has_name.ensures.good c.if-not-has_name.false in
    let long = long_text c.args.path.now some in
    said_names c.args.path.now (λ (q : Path). IfErr c.walk.result (λ e. first_refusal (is_bad_name q ∷ walk_tests (tree_of region c.args.rows.now.items) q ++ more) ≡ Some e)) some long (λ first names path.
    if_err_by c.walk.result (walk (tree_of region c.args.rows.now.items) 1 (first ∷ names)) more (c.walk.ensures.refused region (first ∷ names) (spells_names c.args.path.now first names path))) p says
