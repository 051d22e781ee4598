-- How a recovery went, and the exit status that it leaves.
use Rattle.std.specs.Prelude.{ℕ, List, [], ◌∷◌}
use Rattle.nv_super.specs.declared.faults.Fault.{Fault}
use Rattle.nv_report.specs.declared.last.Last.{Last}
use Rattle.nv_report.specs.declared.last.Last.TheVariants.{Sound, Faulty, Refused}

-- the exit status after a last recovery that went so
abbrev pub status_of : Last → ℕ
status_of Sound = 0
status_of Faulty = 1
status_of Refused = 2

-- how a recovery with these faults went
abbrev pub how_it_went : List Fault → Last
how_it_went [] = Sound
how_it_went (fault ∷ faults) = Faulty
