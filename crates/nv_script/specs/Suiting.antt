-- The numbers of CPUs and table blocks that suit a region of some blocks.
use Rattle.std.specs.Prelude.{ℕ, ◌≤◌, ◌<◌, ◌+◌, ◌*◌, ◌/◌, min, max}

-- one CPU for each 16 MiB, from 1 to 16
abbrev pub suiting_cpus : ℕ → ℕ
suiting_cpus blocks = max 1 (min 16 (blocks / 4096))

-- of a CPU's table blocks, each of 32 slots, so many that there is one slot for each 8 blocks, from 1 to 64
abbrev pub suiting_tables : ℕ → ℕ → ℕ
suiting_tables blocks cpus = max 1 (min 64 (blocks / 256 / max 1 cpus))

-- A region of so many blocks can be formatted with these numbers.
pub record Fits (blocks cpus tables : ℕ) : Type 0 where
  pub cpus_from : 1 ≤ cpus
  pub cpus_to : cpus ≤ 64
  pub tables_from : 1 ≤ tables
  pub tables_to : tables ≤ 64
  pub room : 1 + cpus + cpus * tables < blocks
