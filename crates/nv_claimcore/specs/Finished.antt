-- What a state is once all work is done.
use Rattle.std.specs.Prelude.{◌≡◌, ℕ, ◌<◌, nat_eq, List, [], ◌∷◌, ◌++◌, Bool, slice_index_or, length, map}
use Rattle.std.specs.List.{sum_by, count_by}
use Rattle.std.specs.Cmp.Lexicographic.{pointwise}
use mathlib.Core.Option.{some}
use lib.ListN.{get_elem?}
use Rattle.nv_super.specs.declared.owners.Owner.{Owner}
use Rattle.nv_super.specs.Order.{claim_key}
use Rattle.nv_super.specs.Owners.{claims_of}
use Rattle.nv_claimcore.specs.declared.view.Record.{Record}
use Rattle.nv_claimcore.specs.declared.view.View.{View}
use Rattle.nv_claimcore.specs.Claims.{State, times, is_unmarked}

-- what a record claims: a block, for an owner
abbrev pub pair_of : Record → ℕ × Owner
pair_of r = (r.block, r.owner)

-- whether two pairs have the same block and the same owner
abbrev pub same_pair : ℕ × Owner → ℕ × Owner → Bool
same_pair p q = pointwise nat_eq (claim_key p) (claim_key q)

-- how often a pair stands in a list
abbrev pub pair_times : ℕ × Owner → List (ℕ × Owner) → ℕ
pair_times p ps = count_by (same_pair p) ps

-- ---- the work: a list of pairs for each ticket

-- the pairs of a ticket, none at or past the end
abbrev pub pairs_at : List (List (ℕ × Owner)) → ℕ → List (ℕ × Owner)
pairs_at work t = slice_index_or work t []

-- the pairs of the tickets drawn, one ticket after the other
abbrev pub pairs_of : List (List (ℕ × Owner)) → List ℕ → List (ℕ × Owner)
pairs_of work [] = []
pairs_of work (t ∷ ts) = pairs_at work t ++ pairs_of work ts

-- how often a block stands in the work
abbrev pub works_of : ℕ → List (List (ℕ × Owner)) → ℕ
works_of b work = sum_by (claims_of b) work

-- Every ticket stands in a view; each view's records are the pairs of its tickets, each pair as often; and no lost record is unmarked.
pub record Finished (s : State) (work : List (List (ℕ × Owner))) : Type 0 where
  pub drawn : (t : ℕ) → t < length work → 0 < sum_by (λ (v : View). times t v.numbers) s.views
  pub records : (k : ℕ) (v : View) → get_elem? s.views k ≡ some v → (p : ℕ × Owner) → pair_times p (map pair_of v.records) ≡ pair_times p (pairs_of work v.numbers)
  pub marked : (k : ℕ) (v : View) → get_elem? s.views k ≡ some v → (b : ℕ) → count_by (is_unmarked b) v.records ≡ 0
