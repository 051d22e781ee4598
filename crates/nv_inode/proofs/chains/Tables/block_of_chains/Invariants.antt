use Rattle.std.proofs.Common.{◌≡◌, ◌<◌, ◌-◌, length, drop}
use Rattle.std.specs.Prelude.{slice_get}
use Rattle.nv_inode.specs.SlotBlocks.{extra_blocks}
use Rattle.nv_inode.proofs.chains.Tables.block_of_chains.Given as goal

abbrev pub invariant-searching : goal.invariant-searching
invariant-searching l = record {
  same : slice_get (extra_blocks l.self.layout.sup 0 l.self.layout.chains) l.place ≡ slice_get (extra_blocks l.self.layout.sup l.cpu (drop l.cpu l.self.layout.chains)) l.left;
  some : l.left < length (extra_blocks l.self.layout.sup l.cpu (drop l.cpu l.self.layout.chains));
}

abbrev pub decreases-searching : goal.decreases-searching
decreases-searching l = length l.self.layout.chains - l.cpu
