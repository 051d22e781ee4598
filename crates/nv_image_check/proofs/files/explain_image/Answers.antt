use Rattle.nv_image_check.proofs.files.explain_image.Goals as goal

pub returns-in-Bytes-clause-ok : goal.returns-in-Bytes-clause-ok
returns-in-Bytes-clause-ok g c = rw c.in-Bytes.is (rw (c.deref.ensures.value, c.from-workers.ensures) at c.explain_region.ensures.ok)
