use Rattle.nv_inode.proofs.LayoutWords.{slot_lies, slot_small, slot_stands}
use Rattle.nv_inode.proofs.chains.Tables.slot_address.Goals as goal

pub returns-clause-whole : goal.returns-clause-whole
returns-clause-whole c = slot_stands c.args.self.now.layout c.args.inode c.find_slot.result c.are_laid.ensures c.find_slot.ensures

pub returns-clause-inside : goal.returns-clause-inside
returns-clause-inside c = slot_lies c.args.self.now.layout c.args.inode c.find_slot.result c.are_laid.ensures c.find_slot.ensures

pub returns-clause-small : goal.returns-clause-small
returns-clause-small c = slot_small c.args.self.now.layout c.args.inode c.find_slot.result c.are_laid.ensures c.find_slot.ensures
