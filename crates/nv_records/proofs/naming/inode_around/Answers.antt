use Rattle.std.proofs.Common.{arith}
use Rattle.nv_records.proofs.naming.inode_around.Goals as goal

pub overflow_add-cpus : goal.overflow_add-cpus
overflow_add-cpus c = omega (arith, c.cpus.ensures, c.are_laid.ensures.layout.areas.cpus_to)
