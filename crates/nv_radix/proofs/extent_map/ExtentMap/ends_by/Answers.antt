use Rattle.std.proofs.Common.{arith}
use Rattle.nv_radix.proofs.Fronts.{none_from}
use Rattle.nv_radix.proofs.extent_map.ExtentMap.ends_by.Goals as goal

pub returns-then-end : goal.returns-then-end
returns-then-end c = λ h p past. rw (← c.self.view_is) (none_from c.self.inside.front c.self.inside.runs p (c.ends_by.ensures h p past) (c.end.ensures p (omega (arith, past))))
