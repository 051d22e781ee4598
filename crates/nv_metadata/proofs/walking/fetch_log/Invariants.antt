use Rattle.std.proofs.Common.{◌≡◌, ◌-◌, ◌<◌, ◌≤◌, ℕ, List, Some, length}
use Rattle.nv_region.specs.Region.{region_of}
use Rattle.nv_super.specs.Layout.{system_blocks}
use Rattle.nv_metadata.specs.Memory.{CanHold, SameFront, Shows}
use Rattle.nv_metadata.proofs.Walked.{IsWalked}
use Rattle.nv_metadata.proofs.walking.fetch_log.Given as goal

abbrev pub invariant-pages : goal.invariant-pages
invariant-pages g l = record {
  can : CanHold l.sup l.memory;
  front : SameFront l.fn.memory l.memory;
  bound : l.walked.bound ≡ l.sup.blocks;
  few : length l.walked.blocks ≤ l.walked.bound;
  behind : system_blocks l.sup ≤ l.block;
  inside : l.block < l.sup.blocks;
  room : length l.room ≡ 4096;
  walked : (image : List ℕ) → g.B.Blocks.bytes l.source ≡ Some image → Shows (region_of image) l.fn.memory → IsWalked l.sup (region_of image) l.log.head l.log.tail l.fn.memory l.memory l.walked.blocks l.block;
}

abbrev pub decreases-pages : goal.decreases-pages
decreases-pages g l = l.sup.blocks - length l.walked.blocks
