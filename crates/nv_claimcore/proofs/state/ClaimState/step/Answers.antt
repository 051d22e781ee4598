use Rattle.std.proofs.Common.{sym, ap, ◌∙◌}
use Rattle.nv_claimcore.specs.Events.{is_allowed}
use Rattle.nv_claimcore.proofs.Lists.{mark_place}
use Rattle.nv_claimcore.proofs.state.ClaimState.step.Goals as goal

pub mark-requires : goal.mark-requires
mark-requires c = mark_place c.args.sizes c.args.self.now c.requires.0 c.in-Mark.worker c.in-Mark.block (sym (ap (is_allowed c.args.sizes c.args.self.now) c.in-Mark.is) ∙ c.requires.1)
