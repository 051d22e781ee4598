-- The names of the errors of a recovery.
use Rattle.std.specs.Prelude.{ℕ, List, codes}
use Rattle.nv_super.specs.FaultText.{super_fault_name}
use Rattle.nv_recover.specs.declared.errors.RecoverError.{RecoverError}
use Rattle.nv_recover.specs.declared.errors.RecoverError.TheVariants.{Super as Refused, Memory, Stopped, Workers, Schedule}

-- the name of an error: that of its fault where the superblock isn't accepted
abbrev pub error_name : RecoverError → List ℕ
error_name (Refused fault) = super_fault_name fault
error_name Memory = codes "Memory"
error_name Stopped = codes "Stopped"
error_name Workers = codes "Workers"
error_name (Schedule place) = codes "Schedule"
