use Rattle.nv_usage.proofs.Counted.{all_used}
use Rattle.nv_usage.proofs.usage.blocks_below.Goals as goal

pub count_blocks-requires : goal.count_blocks-requires
count_blocks-requires c = all_used c.args.rows.now.items c.args.inode c.in_ok-members.members.items c.deref.result.now c.deref.ensures.value c.in_ok-members.ensures
