use Rattle.std.proofs.Common.{◌/◌, Some, rules}
use Rattle.nv_radix.specs.Pages.{block_at}
use Rattle.nv_steps.proofs.PlanMade.{plan_is}
use Rattle.nv_steps.proofs.planning.Plan.new.Goals as goal

pub returns-then-is_some : goal.returns-then-is_some
returns-then-is_some c = plan_is (block_at c.args.index.now) c.args.size c.args.offset c.args.count c.args.time c.max.result (Some (c.args.size / 4096)) c.max.ensures (search rules)
