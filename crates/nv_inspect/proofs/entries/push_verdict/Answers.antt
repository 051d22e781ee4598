use Rattle.nv_inspect.proofs.Small.{good_is_small}
use Rattle.nv_inspect.proofs.entries.push_verdict.Goals as goal

pub push_fate-requires : goal.push_fate-requires
push_fate-requires c = good_is_small c.args.sup.now c.requires c.args.row.now.kind c.args.entry.now c.in-None.ensures.good
