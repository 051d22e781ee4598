use Rattle.std.proofs.Common.{Option, Some, ap, subst, ◌∙◌}
use Rattle.nv_image_check.specs.declared.recovery.Answer.{Answer}
use Rattle.nv_session.specs.Sessions.{CanMount}
use Rattle.nv_session.proofs.session.Session.settle.Goals as goal

pub mount_region-requires-clause-mounts : goal.mount_region-requires-clause-mounts
mount_region-requires-clause-mounts c = rw c.in-Some-Recovered.field-0-is
    (subst (λ (a : Option Answer). CanMount c.args.memory.region a) (c.in-Some-Recovered.is ∙ ap (λ (x : Answer). Some x) c.in-Some-Recovered.field-0-is) c.requires.mounts)
