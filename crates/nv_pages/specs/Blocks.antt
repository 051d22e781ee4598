-- The blocks of a file's pages.
use Rattle.std.specs.Prelude.{◌≡◌, ◌<◌, ℕ, Some}
use Rattle.nv_super.specs.Layout.{most_blocks}
use Rattle.nv_radix.specs.Pages.{Pages, block_at}

-- the blocks of an index are blocks that a region may have
abbrev pub AreRegionBlocks : Pages → Type 0
AreRegionBlocks m = (p b : ℕ) → block_at m p ≡ Some b → b < most_blocks
