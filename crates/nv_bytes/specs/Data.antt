-- Bytes for a file.
use Rattle.std.specs.Prelude.{ℕ, List, replicate}
use Rattle.nv_bytes.specs.declared.contents.Data.{Data}
use Rattle.nv_bytes.specs.declared.contents.Data.TheVariants.{Given, Same}

-- the bytes that they are
abbrev pub data_bytes : Data → List ℕ
data_bytes (Given bytes) = bytes.now
data_bytes (Same byte count) = replicate count byte
