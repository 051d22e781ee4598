use Rattle.std.proofs.Common.{◌≡◌, take, subst, arith, Ok}
use Rattle.nv_super.specs.declared.superblock.Super.{Super}
use Rattle.nv_super.proofs.Members.{stands}
use Rattle.nv_inode.specs.SlotBlocks.{slot_blocks, IsSmallBlock}
use Rattle.nv_inode.proofs.BlockBounds.{small_block}
use Rattle.nv_scan.specs.Work.{claims_among}
use Rattle.nv_scan.proofs.Work.{next_all}
use Rattle.nv_scan.proofs.unused.scan_slots_once.Goals as goal

pub sees-requires-clause-whole : goal.sees-requires-clause-whole
sees-requires-clause-whole g c =
    let l = c.args.tables.now.layout in
    let block = c.slot_block-block.result in
    (small_block l block c.are_laid.ensures (stands (slot_blocks l) c.args.ticket block c.slot_block-block.ensures)).whole

pub sees-requires-clause-inside : goal.sees-requires-clause-inside
sees-requires-clause-inside g c =
    let l = c.args.tables.now.layout in
    let block = c.slot_block-block.result in
    let inside = (small_block l block c.are_laid.ensures (stands (slot_blocks l) c.args.ticket block c.slot_block-block.ensures)).inside in
    let has = c.requires.blocks in omega (arith, inside, has)

pub sees-requires-clause-small : goal.sees-requires-clause-small
sees-requires-clause-small g c =
    let l = c.args.tables.now.layout in
    let block = c.slot_block-block.result in
    let inside = (small_block l block c.are_laid.ensures (stands (slot_blocks l) c.args.ticket block c.slot_block-block.ensures)).inside in
    let most = c.are_laid.ensures.layout.areas.blocks_to in omega (arith, inside, most)

pub sees-requires-clause-room : goal.sees-requires-clause-room
sees-requires-clause-room g c = λ slots. (
    let l = c.args.tables.now.layout in
    let block = c.slot_block-block.result in
    let inside = (small_block l block c.are_laid.ensures (stands (slot_blocks l) c.args.ticket block c.slot_block-block.ensures)).inside in
    let room = c.requires.set in omega (arith, inside, room, slots))

pub tell_unused-requires-clause-block : goal.tell_unused-requires-clause-block
tell_unused-requires-clause-block g c = stands (slot_blocks c.args.tables.now.layout) c.args.ticket c.slot_block-block.result c.slot_block-block.ensures

pub touch-requires-clause-block : goal.touch-requires-clause-block
touch-requires-clause-block g c =
    let l = c.args.tables.now.layout in
    let block = c.slot_block-block.result in
    subst (λ (s : Super). IsSmallBlock s block) c.requires.tables (small_block l block c.are_laid.ensures (stands (slot_blocks l) c.args.ticket block c.slot_block-block.ensures))

pub scan_block-requires-clause-block : goal.scan_block-requires-clause-block
scan_block-requires-clause-block g c = stands (slot_blocks c.args.tables.now.layout) c.args.ticket c.slot_block-block.result c.slot_block-block.ensures

pub returns-then-sees-clause-next : goal.returns-then-sees-clause-next
returns-then-sees-clause-next g c =
    next_all {E = Unit {0}} (g.P.Pmem.region c.args.memory.now) c.args.tables.now.layout c.args.ticket c.slot_block-block.result c.args.inodes.now c.args.inodes.now (λ count. claims_among (take count c.tell_unused.new.each.items))
    c.slot_block-block.ensures (Ok c.tell_unused.result) (c.tell_unused.ensures.next c.args.inodes.now)

pub returns-clause-next : goal.returns-clause-next
returns-clause-next g c =
    next_all (g.P.Pmem.region c.args.memory.now) c.args.tables.now.layout c.args.ticket c.slot_block-block.result c.args.inodes.now c.scan_block.new.inodes (λ count. claims_among (take count c.scan_block.new.each.items))
    c.slot_block-block.ensures c.scan_block.result c.scan_block.ensures.next
