use Rattle.std.proofs.Common.{◌≤◌, arith, subst, sym}
use Rattle.nv_region.specs.Region.{Region}
use Rattle.nv_lent.specs.WordsState.{region_over}
use Rattle.nv_calls.specs.Mount.{Mount}
use Rattle.nova_c.specs.Mounted.{Mounts}
use Rattle.nova_c.proofs.opening.nova_map.Goals as goal

pub returns-in-Ok-clause-mounted : goal.returns-in-Ok-clause-mounted
returns-in-Ok-clause-mounted c closed done =
    (subst (λ n. 1 ≤ n) (sym c.put-in-Ok.ensures.«open») (omega arith), subst (λ (m : Mount Region). Mounts (region_over c.args.image.words) m) (sym c.put-in-Ok.ensures.mount) c.in-Ok.ensures.mounted)
