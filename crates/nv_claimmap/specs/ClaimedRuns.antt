-- The blocks of runs that were claimed.
use Rattle.std.specs.Prelude.{ℕ, ◌+◌, ◌≤◌, ◌^◌, List}
use Rattle.std.specs.List.{All, flat_map}
use Rattle.std.specs.declared.vec.Vec.{Vec}
use Rattle.nv_super.specs.declared.owners.Owner.{Owner}
use Rattle.nv_super.specs.Owners.{page_end, pairs}
use Rattle.nv_claimmap.specs.declared.claimed_runs.OwnedRun.{OwnedRun}

-- the blocks of a run, each with its owner
abbrev pub run_pairs : OwnedRun → List (ℕ × Owner)
run_pairs r = pairs r.run.start r.owner r.run.count

-- the blocks of runs, one run after the other
abbrev pub all_pairs : List OwnedRun → List (ℕ × Owner)
all_pairs runs = flat_map run_pairs runs

-- the blocks of a run and the pages of their owners have numbers of 64 bits
abbrev pub FitsWords : OwnedRun → Type 0
FitsWords r = (r.run.start + r.run.count ≤ 2 ^ 64) × (page_end r.owner r.run.count ≤ 2 ^ 64)

module _ {A : Type 0} where
  -- the blocks of a list of runs
  abbrev pub list_pairs : Vec OwnedRun A → List (ℕ × Owner)
  list_pairs runs = all_pairs runs.items

  -- the blocks of lists of runs, one list after the other
  abbrev pub lists_pairs : List (Vec OwnedRun A) → List (ℕ × Owner)
  lists_pairs lists = flat_map list_pairs lists

  -- each run fits words
  abbrev pub AllFit : List (Vec OwnedRun A) → Type 0
  AllFit lists = All (λ (runs : Vec OwnedRun A). All FitsWords runs.items) lists
