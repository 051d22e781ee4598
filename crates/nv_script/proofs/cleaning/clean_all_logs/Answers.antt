use Rattle.std.proofs.Common.{◌∙◌, ap}
use Rattle.nv_rows.specs.Rows.{inodes_of}
use Rattle.nv_script.proofs.Cleanings.{all_short}
use Rattle.nv_script.proofs.cleaning.clean_all_logs.Goals as goal

pub returns-clause-short : goal.returns-clause-short
returns-clause-short c =
    all_short c.args.mount.now c.clean_each.new.mount c.keeps.ensures c.requires c.deref.result.now (c.deref.ensures.value ∙ c.in_ok-numbers.ensures ∙ ap inodes_of c.rows.ensures) c.clean_each.result c.clean_each.ensures.pages c.clean_each.ensures.short
