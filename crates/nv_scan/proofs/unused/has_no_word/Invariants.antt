use Rattle.std.proofs.Common.{◌≡◌, ◌<◌, ◌+◌, ◌*◌, ℕ}
use Rattle.nv_region.specs.Region.{word}
use Rattle.nv_scan.proofs.unused.has_no_word.Given as goal

abbrev pub invariant-loop-slot : goal.invariant-loop-slot
invariant-loop-slot g l = (j : ℕ) → j < l.slot → word (g.P.Pmem.region l.memory) (l.block.start + 128 * j) ≡ 0
