use Rattle.std.proofs.Common.{◌≡◌, ◌≤◌, ◌+◌, ◌*◌, drop, length}
use Rattle.nv_inode.specs.SlotBlocks.{extra_blocks, slot_blocks}
use Rattle.nv_inode.proofs.chains.Tables.slot_block_count.Given as goal

abbrev pub invariant-loop-chain : goal.invariant-loop-chain
invariant-loop-chain l = record {
  counted : length (slot_blocks l.self.layout) ≡ l.count + length (extra_blocks l.self.layout.sup l.chain-index (drop l.chain-index l.self.layout.chains));
  small : l.count ≤ 4096 + 262144 * l.chain-index;
}
