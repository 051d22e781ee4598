-- The workers of a recovery.
use Rattle.std.specs.Prelude.{ℕ, Bool, ◌&&◌, nat_le, List}
use Rattle.std.specs.List.{list_any}

-- there can be so many workers
abbrev pub is_worker_count : ℕ → Bool
is_worker_count workers = nat_le 1 workers && nat_le workers 64

-- a number of the schedule is no worker's: workers are numbered from 0 on
abbrev pub names_stranger : ℕ → List ℕ → Bool
names_stranger workers schedule = list_any (λ w. nat_le workers w) schedule
