-- The numbers in use as sets of words, one for each CPU. No public clause cites this module.
use Rattle.std.specs.Prelude.{◌≡◌, ◌≢◌, ℕ, min, map, ◌*◌, ◌/◌, ◌%◌, ◌<◌, ◌≤◌, ◌^◌, cond, is_some, List, [], length, Option, None, slice_index, slice_index_or, slice_set, true}
use Rattle.nv_blockset.specs.BlockSet.{has, with_block}
use Rattle.nv_blockset.specs.WordRuns.{without_block}
use Rattle.nv_super.specs.declared.superblock.Super.{Super}
use Rattle.nv_super.specs.Layout.{IsLayout}
use Rattle.nv_scan.specs.declared.piece.Row.{Row}
use Rattle.nv_rows.specs.Slots.{StandByNumber}
use Rattle.nv_rows.specs.Unused.{IsTableNumber}

-- how many numbers the table of each CPU has, and the sets of the places there that are in use
pub record UsedSets : Type 0 where
  pub sizes : List ℕ
  pub sets : List (List ℕ)

-- the set of a CPU
abbrev pub set_of : List (List ℕ) → ℕ → List ℕ
set_of sets cpu = slice_index_or sets cpu []

-- 1 where the number is in use, and else 0
abbrev pub has_number : List (List ℕ) → ℕ → ℕ
has_number sets i = has (set_of sets (i % length sets)) (i / length sets)

-- the sets with a number more
abbrev pub with_number : List (List ℕ) → ℕ → List (List ℕ)
with_number sets i = slice_set sets (i % length sets) (with_block (set_of sets (i % length sets)) (i / length sets))

-- the sets without a number
abbrev pub without_number : List (List ℕ) → ℕ → List (List ℕ)
without_number sets i = slice_set sets (i % length sets) (without_block (set_of sets (i % length sets)) (i / length sets))

-- Each CPU has a set with a bit for each number of its table, which has some.
pub record HaveRoom (sizes : List ℕ) (sets : List (List ℕ)) : Type 0 where
  pub as_many : length sets ≡ length sizes
  pub cpus : 0 < length sizes
  pub some : (cpu : ℕ) → cpu < length sizes → 0 < slice_index sizes cpu
  pub small : (cpu : ℕ) → cpu < length sizes → slice_index sizes cpu < 2 ^ 32
  pub room : (cpu : ℕ) → cpu < length sizes → slice_index sizes cpu ≤ 64 * length (set_of sets cpu)

-- The sets have just these numbers.
pub record HasUsed (numbers : List ℕ) (sets : List (List ℕ)) : Type 0 where
  pub each : (k : ℕ) → k < length numbers → has_number sets (slice_index numbers k) ≡ 1
  pub others : (i : ℕ) → ((k : ℕ) → k < length numbers → slice_index numbers k ≢ i) → has_number sets i ≡ 0

-- 1 where a number has a row, and else 0
abbrev pub used_at : List (Option Row) → ℕ → ℕ
used_at slots i = cond (is_some (slice_index_or slots i None)) 1 0

-- how many numbers the table of each CPU can have by its set, and by the slots
abbrev pub space_in : List (Option Row) → List (List ℕ) → ℕ → List ℕ
space_in slots sets cpus = map (λ (set : List ℕ). min (64 * length set) (length slots / cpus)) sets

-- Each number of the tables has a slot, each row has such a number, and the sets have just those that have a row.
pub record TellsUsed (cpus : ℕ) (sizes : List ℕ) (slots : List (Option Row)) (sets : List (List ℕ)) : Type 0 where
  pub reach : (i : ℕ) → IsTableNumber cpus sizes i → i < length slots
  pub within : (i : ℕ) → is_some (slice_index_or slots i None) ≡ true → IsTableNumber cpus sizes i
  pub told : (i : ℕ) → has_number sets i ≡ used_at slots i

-- Each row stands in the slot of its number, and the sets tell which numbers have one.
pub record AreRows (s : Super) (slots : List (Option Row)) (used : UsedSets) : Type 0 where
  pub layout : IsLayout s
  pub cpus : length used.sizes ≡ s.cpus
  pub stand : StandByNumber 0 slots
  pub tells : TellsUsed s.cpus used.sizes slots used.sets
