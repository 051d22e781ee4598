use Rattle.std.proofs.Common.{◌≡◌, ℕ, List, Some, length, take}
use Rattle.nv_region.specs.Region.{region_of}
use Rattle.nv_metadata.specs.Memory.{CanHold, SameFront, Shows}
use Rattle.nv_metadata.specs.Walk.{AreFetched}
use Rattle.nv_metadata.proofs.walking.fetch_logs.Given as goal

abbrev pub invariant-loop-log : goal.invariant-loop-log
invariant-loop-log g l = record {
  can : CanHold l.sup l.memory;
  front : SameFront l.fn.memory l.memory;
  bound : l.walked.bound ≡ l.sup.blocks;
  room : length l.room ≡ 4096;
  fetched : (image : List ℕ) → g.B.Blocks.bytes l.source ≡ Some image → Shows (region_of image) l.fn.memory → AreFetched l.sup (region_of image) (take l.log-index l.logs) l.fn.memory l.memory;
}
