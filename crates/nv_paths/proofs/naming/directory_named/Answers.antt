use Rattle.std.proofs.Common.{◌≡◌, ◌∙◌, true, false, sym, rules}
use Rattle.nv_paths.specs.Seen.{tree_of}
use Rattle.nv_paths.proofs.Directories.{name_bad, no_name, told_passes, told_refuses}
use Rattle.nv_paths.proofs.naming.directory_named.Goals as goal

pub returns-then-not-is_path_name-clause-refused : goal.returns-then-not-is_path_name-clause-refused
returns-then-not-is_path_name-clause-refused c region more =
    name_bad (tree_of region c.args.rows.now.items) c.args.directory c.args.name.now more (no_name c.args.name.now (search rules) (λ good. (let clash : true ≡ false = sym (c.is_path_name.ensures.1 good) ∙ c.if-not-is_path_name.true in cc)))

pub returns-clause-passed : goal.returns-clause-passed
returns-clause-passed c region more = told_passes (tree_of region c.args.rows.now.items) c.args.directory c.args.name.now more (c.is_path_name.ensures.0 c.if-not-is_path_name.false) c.directory_at.result (c.directory_at.ensures.reply region)

pub returns-clause-refused : goal.returns-clause-refused
returns-clause-refused c region more = told_refuses (tree_of region c.args.rows.now.items) c.args.directory c.args.name.now more (c.is_path_name.ensures.0 c.if-not-is_path_name.false) c.directory_at.result (c.directory_at.ensures.reply region)
