-- What a status says. 0: the call was made. 16: the handle is closed. 17: it is open already. 18: a buffer is too small.
use Rattle.std.specs.Prelude.{◌≡◌, ◌⊎◌, ℕ}
use Rattle.nv_region.specs.Region.{Region}
use Rattle.nv_tree.specs.declared.refusal.Refusal.{Refusal}
use Rattle.nv_tree.specs.declared.refusal.Refusal.TheVariants as refusals
use Rattle.nv_super.specs.Super.{IsRefused}
use Rattle.nv_super.specs.declared.superblock.SuperFault.{SuperFault}
use Rattle.nv_super.specs.declared.superblock.SuperFault.TheVariants as faults
use Rattle.nv_recover.specs.declared.errors.RecoverError.{RecoverError}
use Rattle.nv_recover.specs.declared.errors.RecoverError.TheVariants as errors
use Rattle.nv_format.specs.Format.{IsFormatRefusal}
use Rattle.nv_format.specs.declared.formatting.FormatRefusal.{FormatRefusal}
use Rattle.nv_format.specs.declared.formatting.FormatRefusal.TheVariants as formats

-- the status of each refusal of a file call
abbrev pub status_of : Refusal → ℕ
status_of refusals.NotFound = 1
status_of refusals.Exists = 2
status_of refusals.NotDirectory = 3
status_of refusals.IsDirectory = 4
status_of refusals.NotEmpty = 5
status_of refusals.BadName = 6
status_of refusals.NoSpace = 7
status_of refusals.NoInodes = 8
status_of refusals.TooLarge = 9
status_of refusals.ReadOnly = 10
status_of refusals.LinkLimit = 11
status_of refusals.IntoItself = 12
status_of refusals.BadCpu = 13
status_of refusals.Memory = 14
status_of refusals.Stopped = 15
status_of refusals.IsVersion2 = 19

-- the status tells of a refusal, which is P
abbrev pub TellsRefusal : (Refusal → Type 0) → ℕ → Type 0
TellsRefusal P status = (e : Refusal) × (status ≡ status_of e) × P e

-- the status of each fault of a superblock
abbrev pub super_status : SuperFault → ℕ
super_status faults.Length = 20
super_status faults.Magic = 21
super_status faults.Version = 22
super_status faults.Cpus = 23
super_status faults.Blocks = 24
super_status faults.Tables = 25
super_status faults.State = 26

-- the status of a region that wasn't recovered
abbrev pub recover_status : RecoverError → ℕ
recover_status (errors.Super fault) = super_status fault
recover_status errors.Memory = 14
recover_status errors.Stopped = 15
recover_status errors.Workers = 27
recover_status (errors.Schedule place) = 28

-- the status of a region that wasn't formatted
abbrev pub format_status : FormatRefusal → ℕ
format_status formats.Length = 30
format_status formats.Cpus = 31
format_status formats.Tables = 32
format_status formats.Stopped = 15

-- the status tells of the first fault of the region's superblock
abbrev pub TellsSuperFault : Region → ℕ → Type 0
TellsSuperFault R status = (fault : SuperFault) × (status ≡ super_status fault) × IsRefused R fault

-- why a region is not mounted: memory was refused, or the superblock
abbrev pub RefusesMount : Region → ℕ → Type 0
RefusesMount R status = (status ≡ 14) ⊎ TellsSuperFault R status

-- why a region is not formatted: memory was refused, or the first thing that prevents it
abbrev pub RefusesFormat : Region → ℕ → ℕ → ℕ → Type 0
RefusesFormat R cpus tables status = (status ≡ 14) ⊎ ((e : FormatRefusal) × (status ≡ format_status e) × IsFormatRefusal R cpus tables e)
