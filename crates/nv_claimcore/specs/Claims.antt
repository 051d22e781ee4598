-- The state of the claims, what one event does to it, and what is legal.
use Rattle.std.specs.Prelude.{◌≡◌, ℕ, ◌+◌, ◌-◌, ◌≤◌, ◌==◌, nat_le, List, [], ◌∷◌, ◌++◌, if◌then◌else◌, Bool, true, false, ◌&&◌, not, slice_set, length, min, max}
use Rattle.std.specs.List.{sum_by, count_by, All}
use mathlib.Core.Option.{some}
use lib.ListN.{get_elem?}
use Rattle.nv_blockset.specs.BlockSet.{has, with_block, words_for}
use Rattle.nv_super.specs.declared.owners.Owner.{Owner}
use Rattle.nv_claimcore.specs.declared.view.Sizes.{Sizes}
use Rattle.nv_claimcore.specs.declared.view.Record.{Record}
use Rattle.nv_claimcore.specs.declared.view.View.{View}

-- The first and the second set of blocks as words, the number that is drawn next, and what each worker knows.
pub record State : Type 0 where
  pub first : List ℕ
  pub second : List ℕ
  pub cursor : ℕ
  pub views : List View

-- ---- what a view holds

-- how often a number stands among those drawn
abbrev pub times : ℕ → List ℕ → ℕ
times x numbers = count_by (λ y. y == x) numbers

-- how many numbers are at or past the end of the tickets
abbrev pub past : ℕ → List ℕ → ℕ
past tickets numbers = count_by (λ y. nat_le tickets y) numbers

-- the least number that is more than each of them
abbrev pub above : List ℕ → ℕ
above [] = 0
above (x ∷ xs) = max (x + 1) (above xs)

-- a won claim of b
abbrev pub is_won : ℕ → Record → Bool
is_won b r = r.won && (r.block == b)

-- a lost claim of b
abbrev pub is_lost : ℕ → Record → Bool
is_lost b r = not r.won && (r.block == b)

-- a lost claim of b that is marked
abbrev pub is_marked : ℕ → Record → Bool
is_marked b r = (not r.won && r.marked) && (r.block == b)

-- how many claims of b a view has won, has lost, and has lost and marked
abbrev pub won : ℕ → View → ℕ
won b v = count_by (is_won b) v.records

-- how many it has lost
abbrev pub lost : ℕ → View → ℕ
lost b v = count_by (is_lost b) v.records

-- how many it has lost and marked
abbrev pub marked : ℕ → View → ℕ
marked b v = count_by (is_marked b) v.records

-- 1 where x is below n, and else 0
abbrev pub below : ℕ → ℕ → ℕ
below x n = min 1 (n - x)

-- ---- what is legal

-- A view has no more numbers past the end of the tickets than seats, and a view of no seats holds nothing.
pub record Sound (tickets : ℕ) (v : View) : Type 0 where
  pub ends : past tickets v.numbers ≤ v.seats
  pub idle : v.seats ≡ 0 → (v.numbers ≡ []) × (v.records ≡ [])

-- Counted over all views: the seats are the workers; the numbers drawn are those below the cursor, each once; a block has
-- one won claim where it is in the first set, and none elsewhere; only a block of the first set has a lost claim; and a
-- block is in the second set exactly where some lost claim of it is marked.
pub record Legal (z : Sizes) (s : State) : Type 0 where
  pub seats : sum_by (λ (v : View). v.seats) s.views ≡ z.workers
  pub each : (k : ℕ) (v : View) → get_elem? s.views k ≡ some v → Sound z.tickets v
  pub ends : sum_by (λ (v : View). past z.tickets v.numbers) s.views ≡ s.cursor - z.tickets
  pub numbers : (x : ℕ) → sum_by (λ (v : View). times x v.numbers) s.views ≡ below x s.cursor
  pub first : (b : ℕ) → sum_by (won b) s.views ≡ has s.first b
  pub lost : (b : ℕ) → has s.first b ≡ 0 → sum_by (lost b) s.views ≡ 0
  pub second : (b : ℕ) → has s.second b ≡ min 1 (sum_by (marked b) s.views)
  pub first_words : length s.first ≡ words_for z.blocks
  pub second_words : length s.second ≡ words_for z.blocks

-- ---- what one event does

-- the view with one number more
abbrev pub with_number : View → ℕ → View
with_number v x = record { seats = v.seats; numbers = v.numbers ++ x ∷ []; records = v.records }

-- the view with one record more
abbrev pub with_record : View → Record → View
with_record v r = record { seats = v.seats; numbers = v.numbers; records = v.records ++ r ∷ [] }

-- a new claim of a block for an owner, won or lost
abbrev pub claim_of : ℕ → Owner → Bool → Record
claim_of b o w = record { block = b; owner = o; won = w; marked = false }

-- the worker w, whose view is v, draws the cursor's number, and the cursor rises by one
abbrev pub after_draw : State → ℕ → View → State
after_draw s w v = record { first = s.first; second = s.second; cursor = s.cursor + 1; views = slice_set s.views w (with_number v s.cursor) }

-- the worker claims b for o: the claim is won where b is not in the first set, and then b is in it
abbrev pub after_claim : State → ℕ → View → ℕ → Owner → State
after_claim s w v b o = record { first = with_block s.first b; second = s.second; cursor = s.cursor; views = slice_set s.views w (with_record v (claim_of b o (has s.first b == 0))) }

-- a lost claim of b that is not marked yet
abbrev pub is_unmarked : ℕ → Record → Bool
is_unmarked b r = (not r.won && not r.marked) && (r.block == b)

-- the record, marked
abbrev pub mark : Record → Record
mark r = record { block = r.block; owner = r.owner; won = r.won; marked = true }

-- the oldest lost claim of b that is not marked becomes marked
abbrev pub mark_first : ℕ → List Record → List Record
mark_first b [] = []
mark_first b (r ∷ rs) = if is_unmarked b r then mark r ∷ rs else r ∷ mark_first b rs

-- the view with that claim marked
abbrev pub with_mark : View → ℕ → View
with_mark v b = record { seats = v.seats; numbers = v.numbers; records = mark_first b v.records }

-- the worker marks its oldest unmarked claim of b, and then b is in the second set
abbrev pub after_mark : State → ℕ → View → ℕ → State
after_mark s w v b = record { first = s.first; second = with_block s.second b; cursor = s.cursor; views = slice_set s.views w (with_mark v b) }

-- where the oldest unmarked claim of a block stands, or else the end
abbrev pub place_of : ℕ → List Record → ℕ
place_of b [] = 0
place_of b (r ∷ rs) = if is_unmarked b r then 0 else 1 + place_of b rs

-- a lost record is marked, a won one isn't
abbrev pub Settled : Record → Type 0
Settled r = r.marked ≡ not r.won

-- the last record is a lost claim of the block, not marked yet, and no other record asks for a mark
abbrev pub Owes : ℕ → List Record → Type 0
Owes b rs = (before : List Record) × (o : Owner) × (rs ≡ before ++ claim_of b o false ∷ []) × All Settled before

-- ---- seats that are cut and joined

-- a view that holds nothing
abbrev pub nothing : ℕ → View
nothing n = record { seats = n; numbers = []; records = [] }

-- what two views hold together
abbrev pub both_views : View → View → View
both_views v u = record { seats = v.seats + u.seats; numbers = v.numbers ++ u.numbers; records = v.records ++ u.records }
