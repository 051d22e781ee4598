-- How far a replay has come: what it keeps of each worker beside the state.
use Rattle.std.specs.Prelude.{◌≡◌, ℕ, ◌+◌, ◌*◌, ◌<◌, ◌^◌, nat_le, nat_lt, List, [], ◌∷◌, ◌++◌, Bool, true, false, if◌then◌else◌, Option, Some, None, MatchOption, length, map, drop, slice_index_or}
use Rattle.std.specs.List.{All, sum_by}
use Rattle.nv_super.specs.declared.owners.Owner.{Owner}
use Rattle.nv_claimcore.specs.declared.view.Sizes.{Sizes}
use Rattle.nv_claimcore.specs.declared.view.View.{View}
use Rattle.nv_claimcore.specs.declared.event.Event.{Event}
use Rattle.nv_claimcore.specs.declared.schedule.Pace.{Pace}
use Rattle.nv_claimcore.specs.Claims.{State, past, Settled, Owes}
use Rattle.nv_claimcore.specs.Events.{view_of, start, all_allowed, after_all}
use Rattle.nv_claimcore.specs.Finished.{pair_of, pairs_at, pairs_of}
use Rattle.nv_claimcore.specs.Replay.{Inside}

-- the claims of the last ticket that are left
abbrev pub left_at : List (List (ℕ × Owner)) → Pace → List (ℕ × Owner)
left_at work p = drop p.made (pairs_at work p.ticket)

-- what is kept of a worker fits its view
pub record Keeps (work : List (List (ℕ × Owner))) (v : View) (p : Pace) : Type 0 where
  pub pairs : map pair_of v.records ++ left_at work p ≡ pairs_of work v.numbers
  pub lost : MatchOption p.lost (All Settled v.records) (λ b. Owes b v.records)
  pub ended : p.ended ≡ nat_lt 0 (past (length work) v.numbers)

-- the state that allowed events leave
pub record Reached (z : Sizes) (s : State) : Type 0 where
  pub events : List Event
  pub allowed : all_allowed z (start z) events ≡ true
  pub is : s ≡ after_all (start z) events

-- before the first draw
abbrev pub no_pace : Pace
no_pace = record { ticket = 0; made = 0; lost = None; ended = false }

-- how far a worker has come
abbrev pub pace_of : List Pace → ℕ → Pace
pace_of paces w = slice_index_or paces w no_pace

-- after the mark that was owed
abbrev pub marked_pace : Pace → Pace
marked_pace p = record { ticket = p.ticket; made = p.made; lost = None; ended = p.ended }

-- after a claim of the block, won or lost
abbrev pub claimed_pace : Pace → ℕ → Bool → Pace
claimed_pace p b won = record { ticket = p.ticket; made = p.made + 1; lost = if won then None else Some b; ended = p.ended }

-- after the draw of a number, where there are so many tickets
abbrev pub drawn_pace : ℕ → ℕ → Pace
drawn_pace tickets n = record { ticket = n; made = 0; lost = None; ended = nat_le tickets n }

-- a replay under way
pub record Running (z : Sizes) (work : List (List (ℕ × Owner))) (s : State) (paces : List Pace) : Type 0 where
  pub tickets : z.tickets ≡ length work
  pub inside : Inside z.blocks work
  pub reached : Reached z s
  pub fits : z.tickets + z.workers < 2 ^ 64
  pub workers : length s.views ≡ z.workers
  pub paced : length paces ≡ z.workers
  pub each : (w : ℕ) → w < z.workers → Keeps work (view_of s w) (pace_of paces w)

-- ---- how much one worker can still do

-- the block that is owed a mark
abbrev pub owed : Option ℕ → List ℕ
owed None = []
owed (Some b) = b ∷ []

-- the steps that the tickets not drawn yet can take: each claim may ask for a mark
abbrev pub undrawn : List (List (ℕ × Owner)) → ℕ → ℕ
undrawn work cursor = sum_by (λ ps. 1 + 2 * length ps) (drop cursor work)

-- falls with each turn of the worker
abbrev pub effort : List (List (ℕ × Owner)) → ℕ → Pace → ℕ
effort work cursor p = undrawn work cursor + 2 * length (left_at work p) + length (owed p.lost) + (if p.ended then 0 else 1)
