use Rattle.std.proofs.Common.{ℕ, ◌<◌, ◌/◌, inl, inr, refl, subst, arith}
use Rattle.nv_scan.proofs.ChainBlocks.{above_first, tells_none_at, tells_none_before, tells_block}
use Rattle.nv_scan.proofs.chain_block.chain_block_at.Goals as goal
use Rattle.nv_scan.proofs.chain_block.chain_block_at.Goals.{then-at-ne-SLOT_SIZE-via-then-at-ne-SLOT_SIZE, then-at-ne-SLOT_SIZE-via-else-at-ne-SLOT_SIZE+then-at-system_blocks}

pub returns-then-at-ne-SLOT_SIZE-clause-tells : goal.returns-then-at-ne-SLOT_SIZE-clause-tells
returns-then-at-ne-SLOT_SIZE-clause-tells c = λ l laid of stands. tells_none_at l c.args.sup.now c.args.inode c.args.at laid of stands (elim c.then-at-ne-SLOT_SIZE.branch [
  | then-at-ne-SLOT_SIZE-via-then-at-ne-SLOT_SIZE w ↦ inl w.if-at-ne-SLOT_SIZE.true
  | then-at-ne-SLOT_SIZE-via-else-at-ne-SLOT_SIZE+then-at-system_blocks w ↦ inr (subst (λ (n : ℕ). c.args.at / 4096 < n) w.system_blocks.ensures w.if-at-system_blocks.true)
])

pub returns-then-slot-fixed-clause-tells : goal.returns-then-slot-fixed-clause-tells
returns-then-slot-fixed-clause-tells c = λ l laid of stands. tells_none_before l c.args.sup.now c.args.inode laid of c.if-slot-fixed.true

pub returns-clause-tells : goal.returns-clause-tells
returns-clause-tells c = λ l laid of stands.
    (let behind = c.if-at-system_blocks.false in
    let low = c.system_blocks.ensures in
    let some = above_first c.args.sup.now c.args.inode c.requires.layout c.if-slot-fixed.false in
    tells_block l c.args.sup.now c.args.inode c.args.at _ laid of (stands some) (omega (arith, c.if-at-ne-SLOT_SIZE.false)) (omega (arith, behind, low)) refl refl refl)
