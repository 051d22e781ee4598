use Rattle.nv_super.proofs.Slots.{slot_fits}
use Rattle.nv_super.proofs.superblock.Super.slot_address.Goals as goal

pub returns-clause-inside : goal.returns-clause-inside
returns-clause-inside c = slot_fits c.args.self.now c.requires.layout c.args.inode c.requires.inode
