use Rattle.std.proofs.Common.{Ok, refl}
use Rattle.nv_session.proofs.FileParts.{readable, runs_on}
use Rattle.nv_session.proofs.parts.readable_size.Goals as goal

pub returns-in-Ok-stat : goal.returns-in-Ok-stat
returns-in-Ok-stat c = readable c.args.mount.now c.args.path.now c.in-Ok._no_bytes.items c.in-Ok-stat.stat (runs_on _ (Ok _) _ _ refl c.in-Ok.ensures.stopped) c.in-Ok.ensures.ok c.in-Ok.ensures.allowed c.in-Ok-stat.ensures.ok
