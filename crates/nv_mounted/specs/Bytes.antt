-- The bytes of files.
use Rattle.std.specs.Prelude.{ℕ, ◌+◌, ◌*◌, ◌/◌, ◌%◌, ◌^◌, Option, Some, None}
use Rattle.nv_region.specs.Region.{Region, word}
use Rattle.nv_super.specs.Layout.{Layout}
use Rattle.nv_scan.specs.State.{block_of}
use Rattle.nv_mounted.specs.Held.{Held, good_in}

-- byte x of a file whose page there has this block; 0 where it has none
abbrev pub byte_in : Region → Option ℕ → ℕ → ℕ
byte_in R None x = 0
byte_in R (Some b) x = word R (b * 4096 + x % 4096 / 8 * 8) / 256 ^ (x % 8) % 256

-- byte x of the file that is held
abbrev pub byte_of : Region → Layout → Held → ℕ → ℕ
byte_of R l h x = byte_in R (block_of (good_in l h) (x / 4096)) x
