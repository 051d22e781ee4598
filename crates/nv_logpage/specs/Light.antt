-- Light findings, whose names stand in the region: what each says there.
use Rattle.nv_region.specs.Region.{Region}
use Rattle.nv_entry.specs.Light.{entry_in, CanBeRead}
use Rattle.nv_logpage.specs.declared.found.Placed.{Placed}
use Rattle.nv_logpage.specs.declared.found.Finding.{Finding}
use Rattle.nv_logpage.specs.declared.found.Finding.TheVariants as finds
use Rattle.nv_logpage.specs.declared.light.LightPlaced.{LightPlaced}
use Rattle.nv_logpage.specs.declared.light.LightFinding.{LightFinding}
use Rattle.nv_logpage.specs.declared.light.LightFinding.TheVariants.{Entry, Page, End}

-- the entry that a light one stands for, at its address
abbrev pub placed_in : Region → LightPlaced → Placed
placed_in R x = record { at = x.at; entry = entry_in R x.entry }

-- the finding that a light one stands for
abbrev pub finding_in : Region → LightFinding → Finding
finding_in R (Entry x) = finds.Entry (placed_in R x)
finding_in R (Page a) = finds.Page a
finding_in R (End fault) = finds.End fault

-- the name of the entry that is found, if it has one, can be read
abbrev pub FindsName : Region → LightFinding → Type 0
FindsName R (Entry x) = CanBeRead R x.entry
FindsName R (Page a) = Unit {0}
FindsName R (End fault) = Unit {0}
