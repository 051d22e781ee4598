use Rattle.std.proofs.Common.{string_bytes, subst}
use Rattle.std.proofs.lemmas.Result.{IfOk-weaker}
use Rattle.nv_metadata.specs.Gathered.{AreGathered, IsOpen}
use Rattle.nv_image_check.proofs.Metadata.{check_of_whole, ready_open}
use Rattle.nv_image_check.proofs.gathered.check_metadata.Goals as goal

pub check_memory-requires-after_bounds : goal.check_memory-requires-after_bounds
check_memory-requires-after_bounds g c _ _ = ready_open c.in-Metadata.field-0 c.in-Metadata.memory (subst IsOpen c.in-Metadata.is c.requires)

pub returns-in-Metadata-clause-checked : goal.returns-in-Metadata-clause-checked
returns-in-Metadata-clause-checked g c R gathered =
    let are = subst (AreGathered R) c.in-Metadata.is gathered in
    IfOk-weaker c.check_memory.result _ _ (λ checked said. check_of_whole c.in-Metadata.field-0 R c.in-Metadata.memory.memory.region are.0 are.1
    c.args.output (string_bytes checked.text) checked.status c.args.workers said) c.check_memory.ensures
