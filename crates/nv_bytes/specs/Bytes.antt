-- The bytes of files.
use Rattle.std.specs.Prelude.{◌≡◌, ℕ, ◌+◌, ◌-◌, ◌*◌, ◌/◌, ◌%◌, ◌^◌, ◌≤◌, nat_le, nat_lt, ◌&&◌, if◌then◌else◌, List, length, slice_index, Some}
use Rattle.nv_region.specs.Region.{Region, size}
use Rattle.nv_radix.specs.Pages.{Pages, block_at}
use Rattle.nv_mounted.specs.Bytes.{byte_in}

-- byte k of a word, the lowest first
abbrev pub byte_of_word : ℕ → ℕ → ℕ
byte_of_word w k = w / 256 ^ k % 256

-- byte x of a file whose pages have these blocks
abbrev pub file_byte : Region → Pages → ℕ → ℕ
file_byte R m x = byte_in R (block_at m (x / 4096)) x

-- the blocks of an index lie inside the region
abbrev pub LieInside : Region → Pages → Type 0
LieInside R m = (p b : ℕ) → block_at m p ≡ Some b → b * 4096 + 4096 ≤ size R

-- Byte x of a file that had old below a size, with new bytes from an offset on: what stood past the size is zeros.
abbrev pub byte_after : ℕ → List ℕ → ℕ → (ℕ → ℕ) → ℕ → ℕ
byte_after offset new size old x = if nat_le offset x && nat_lt x (offset + length new) then slice_index new (x - offset) else if nat_lt x size then old x else 0
