use Rattle.nv_usage.specs.Usage.{none, more}
use Rattle.nv_usage.proofs.usage.count_blocks.Goals as goal

pub loop-place-init : goal.loop-place-init
loop-place-init c = none

pub count_member-requires : goal.count_member-requires
count_member-requires c = c.requires c.loop-place.place c.member_at.result c.member_at.ensures

pub loop-place-preserved : goal.loop-place-preserved
loop-place-preserved c = more c.member_at.result c.member_at.ensures c.loop-place.invariant c.in_ok-count.ensures
