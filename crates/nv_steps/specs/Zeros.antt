-- What a page that is written has past the end of its file.
use Rattle.std.specs.Prelude.{◌≡◌, ℕ, ◌+◌, ◌/◌, ◌<◌, ◌≤◌, List, Some}
use Rattle.std.specs.List.{Contains}
use Rattle.nv_region.specs.Region.{Region}
use Rattle.nv_entry.specs.declared.entry.WriteEntry.{WriteEntry}
use Rattle.nv_entry.specs.declared.entry.Entry.{Entry}
use Rattle.nv_entry.specs.declared.entry.Entry.TheVariants.{Write}
use Rattle.nv_mounted.specs.Bytes.{byte_in}

-- The block of each page that these entries write has zeros from byte `size` of the file on, up to the page's end.
abbrev pub ZerosFrom : Region → ℕ → List Entry → Type 0
ZerosFrom R size entries = (w : WriteEntry) → Contains entries (Write w) → (k x : ℕ) → k < w.count → x / 4096 ≡ w.offset + k → size ≤ x → byte_in R (Some (w.block + k)) x ≡ 0
