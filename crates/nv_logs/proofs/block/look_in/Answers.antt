use Rattle.std.proofs.Common.{◌<◌, inl, subst}
use Rattle.nv_super.specs.declared.superblock.Super.{Super}
use Rattle.nv_logs.proofs.block.look_in.Goals as goal

pub returns-clause-told : goal.returns-clause-told
returns-clause-told c region are = inl (subst (λ (s : Super). c.args.block < s.blocks) c.sup-sup.ensures c.if-block-sup.false, c.in_ok-shown_text.ensures region are, c.status.ensures)
