use Rattle.nv_pending.proofs.checking.check_image.Goals as goal

pub returns-in-Bytes : goal.returns-in-Bytes
returns-in-Bytes g c = rw c.in-Bytes.is (rw c.deref.ensures.value at c.check_region_with_journals.ensures)
