use Rattle.std.proofs.Common.{ℕ, subst, sym}
use Rattle.nv_records.specs.Records.{StandsIn}
use Rattle.nv_records.proofs.Slots.{not_held, small_here, some_number}
use Rattle.nv_records.proofs.naming.inode_in.Goals as goal

pub inode_of-requires-clause-few : goal.inode_of-requires-clause-few
inode_of-requires-clause-few c = (small_here c.args.tables.now.layout c.args.ticket c.slot_block.result c.are_laid.ensures c.slot_block.ensures).few

pub inode_of-requires-clause-first : goal.inode_of-requires-clause-first
inode_of-requires-clause-first c = (small_here c.args.tables.now.layout c.args.ticket c.slot_block.result c.are_laid.ensures c.slot_block.ensures).first

pub returns-clause-some : goal.returns-clause-some
returns-clause-some c = some_number c.args.tables.now.layout c.args.ticket c.slot_block.result c.cpus.result c.args.slot c.are_laid.ensures c.slot_block.ensures c.cpus.ensures c.inode_of.result c.inode_of.ensures.some

pub returns-clause-none : goal.returns-clause-none
returns-clause-none c none = not_held c.args.tables.now.layout c.args.ticket c.slot_block.result c.args.slot c.slot_block.ensures
    (λ i stands. c.inode_of.ensures.none none i (subst (λ (n : ℕ). StandsIn c.slot_block.result n c.args.slot i) (sym c.cpus.ensures) stands))
