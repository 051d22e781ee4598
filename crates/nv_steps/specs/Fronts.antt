-- What stands in front of the inode tables where two words change together.
use Rattle.std.specs.Prelude.{◌≡◌, ◌≢◌, ℕ, ◌+◌, ◌*◌, ◌/◌, ◌%◌, ◌<◌}
use Rattle.nv_region.specs.Region.{Region, size, word}

-- The regions are as long, and have the same superblock and the same journals but that of this CPU, which is the block after
-- those of the CPUs below it.
pub record SameFrontBut (cpus cpu : ℕ) (R S : Region) : Type 0 where
  pub len : size S ≡ size R
  pub words : (at : ℕ) → at % 8 ≡ 0 → at < (1 + cpus) * 4096 → at / 4096 ≢ 1 + cpu → word S at ≡ word R at
