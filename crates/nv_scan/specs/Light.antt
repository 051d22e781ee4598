-- Entries that are taken without their names.
use Rattle.nv_entry.specs.Light.{bare}
use Rattle.nv_logpage.specs.declared.found.Placed.{Placed}
use Rattle.nv_logpage.specs.declared.light.LightPlaced.{LightPlaced}

-- the entry that a light one is by itself, at its address
abbrev pub bare_placed : LightPlaced → Placed
bare_placed x = record { at = x.at; entry = bare x.entry }
