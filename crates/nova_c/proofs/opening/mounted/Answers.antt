use Rattle.std.proofs.Common.{subst, sym}
use Rattle.nv_region.specs.Region.{Region}
use Rattle.nv_calls.specs.Mount.{Mount}
use Rattle.nova_c.specs.Mounted.{Mounts}
use Rattle.nova_c.proofs.opening.mounted.Goals as goal

pub returns-in-Ok-new-clause-mounted : goal.returns-in-Ok-new-clause-mounted
returns-in-Ok-new-clause-mounted c =
    subst (λ (m : Mount Region). Mounts c.args.memory m) (sym c.in-Ok-new.ensures.ok)
    (record { outcome = c.in-Ok.ensures.outcome; undone = c.in-Ok.ensures.undone; read_only = c.in-Ok.ensures.read_only; runs = c.in-Ok.ensures.runs })
