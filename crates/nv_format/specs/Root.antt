-- What the root's entry says.
use Rattle.std.specs.Prelude.{ℕ}
use Rattle.nv_entry.specs.declared.entry.AttrEntry.{AttrEntry}

-- the attributes of an empty directory that was made at a time: mode 493 (755 in octal), owner and group 0
abbrev pub root_attributes : ℕ → AttrEntry
root_attributes time = record { mode = 493; size = 0; time = time; owner = 0; group = 0 }
