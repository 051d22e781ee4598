use Rattle.std.proofs.Common.{take, subst}
use Rattle.nv_super.specs.declared.superblock.Super.{Super}
use Rattle.nv_super.proofs.Members.{stands}
use Rattle.nv_inode.specs.SlotBlocks.{slot_blocks, IsSmallBlock}
use Rattle.nv_inode.proofs.BlockBounds.{small_block}
use Rattle.nv_scan.specs.Work.{claims_among}
use Rattle.nv_scan.proofs.Work.{next_all}
use Rattle.nv_scan.proofs.working.scan_slots.Goals as goal

pub touch-requires-clause-block : goal.touch-requires-clause-block
touch-requires-clause-block g c =
    let l = c.args.tables.now.layout in
    let block = c.slot_block-block.result in
    subst (λ (s : Super). IsSmallBlock s block) c.requires.tables (small_block l block c.are_laid.ensures (stands (slot_blocks l) c.args.ticket block c.slot_block-block.ensures))

pub scan_block-requires-clause-block : goal.scan_block-requires-clause-block
scan_block-requires-clause-block g c = stands (slot_blocks c.args.tables.now.layout) c.args.ticket c.slot_block-block.result c.slot_block-block.ensures

pub returns-clause-next : goal.returns-clause-next
returns-clause-next g c =
    next_all (g.P.Pmem.region c.args.memory.now) c.args.tables.now.layout c.args.ticket c.slot_block-block.result c.args.inodes.now c.scan_block.new.inodes (λ count. claims_among (take count c.scan_block.new.each.items))
    c.slot_block-block.ensures c.scan_block.result c.scan_block.ensures.next
