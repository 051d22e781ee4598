use Rattle.nv_deadpages.proofs.Deciding.{where_done}
use Rattle.nv_steps.proofs.CleanedLog as made
use Rattle.nv_steps.proofs.cleaning.dead_pages_of.Goals as goal

pub returns : goal.returns
returns g c held h free shows =
    where_done c.dead_pages.result _ _ c.dead_pages.ensures.dead (λ found finds. made.dead_held shows c.load-created.result c.slot_of_row-slot.result c.load-created.ensures c.slot_of_row-slot.ensures.value c.sup.ensures found (finds h.entries))
