use Rattle.std.proofs.Common.{◌∙◌}
use Rattle.std.proofs.lemmas.Result.{on_ok_weaker}
use Rattle.nv_region.proofs.Wordwise.{fenced_stores}
use Rattle.nv_commit.proofs.making.write_slot.Goals as goal

pub returns-clause-wrote : goal.returns-clause-wrote
returns-clause-wrote g c = fenced_stores c.fence.result _ _ _ _ _ _ _ c.store_slot.ensures.wrote c.fence.ensures.same c.fence.ensures.fenced c.fence.ensures.refused_keep (g.met.P.Pmem.holds_now _)

pub returns-in_err-store_slot-clause-wrote : goal.returns-in_err-store_slot-clause-wrote
returns-in_err-store_slot-clause-wrote g c = c.store_slot.ensures.wrote

pub returns-clause-done : goal.returns-clause-done
returns-clause-done g c = on_ok_weaker c.fence.result (λ _. c.fence.ensures.same ∙ c.in_ok-store_slot.ensures.done) c.fence.ensures.fenced
