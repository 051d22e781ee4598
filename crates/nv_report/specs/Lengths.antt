-- What a user reads of a length that no region has.
use Rattle.std.specs.Prelude.{ℕ, List, ◌++◌, codes, decimal}
use Rattle.nv_report.specs.declared.lengths.BadLength.{BadLength}
use Rattle.nv_report.specs.declared.lengths.BadLength.TheVariants.{Bytes, MoreThan}

-- the length that was found
abbrev pub found_text : BadLength → List ℕ
found_text (Bytes bytes) = codes "it has " ++ decimal bytes ++ codes " bytes"
found_text (MoreThan bytes) = codes "it has more than " ++ decimal bytes ++ codes " bytes"

-- and the lengths that are taken
abbrev pub length_text : BadLength → List ℕ
length_text length = found_text length ++ codes "; a region has a multiple of 4096, from 32768 to 1073741824"
