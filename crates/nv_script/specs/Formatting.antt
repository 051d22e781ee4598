-- What making a formatted image answers, and what is said of numbers that no region has.
use Rattle.std.specs.Prelude.{ℕ, List, false, codes}
use Rattle.nv_format.specs.declared.formatting.FormatRefusal.{FormatRefusal}
use Rattle.nv_format.specs.declared.formatting.FormatRefusal.TheVariants as refusals
use Rattle.nv_session.specs.Made.{MayMake}
use Rattle.nv_session.specs.declared.making.Made.TheVariants as made
use Rattle.nv_script.specs.declared.formatting.Formatted as formatting
use Rattle.nv_script.specs.declared.formatting.Formatted.TheVariants as formatted

-- the numbers that are taken
abbrev pub format_limits : FormatRefusal → List ℕ
format_limits refusals.Length = codes "a region has 8 to 262144 blocks"
format_limits refusals.Cpus = codes "a region has 1 to 64 CPUs"
format_limits refusals.Tables = codes "a CPU has 1 to 64 table blocks, and a region more blocks than 1 + CPUs + CPUs * table blocks"
format_limits refusals.Stopped = codes "it was stopped"

-- what a script's `format` makes at time 0, where no stop is set: the formatted region, or the first refusal that applies
abbrev pub IsFormattedImage : ℕ → ℕ → ℕ → formatting.Formatted → Type 0
IsFormattedImage cpus blocks tables (formatted.Region memory) = MayMake false cpus blocks tables 0 (made.Region memory)
IsFormattedImage cpus blocks tables (formatted.Refused refusal) = MayMake false cpus blocks tables 0 (made.Refused refusal)
