use Rattle.std.proofs.Common.{arith}
use Rattle.nv_inode.proofs.LayoutWords.{number_of}
use Rattle.nv_inode.proofs.chains.Tables.find_slot.Goals as goal

pub slot_address-requires-clause-inode : goal.slot_address-requires-clause-inode
slot_address-requires-clause-inode c =
    number_of c.self.inside.sup.cpus c.self.inside.sup.table_blocks c.args.inode (let from = c.self.invariant.laid.layout.cpus_from in omega (arith, from)) (let low = c.if-slot-fixed.true in omega (arith, low))
