-- Events: which are allowed, what each does, and what a list of them does.
use Rattle.std.specs.Prelude.{ℕ, ◌==◌, nat_lt, List, [], ◌∷◌, Bool, true, ◌&&◌, slice_index_or, length, replicate}
use Rattle.std.specs.List.{count_by}
use Rattle.nv_blockset.specs.BlockSet.{words_for}
use Rattle.nv_claimcore.specs.declared.view.Sizes.{Sizes}
use Rattle.nv_claimcore.specs.declared.view.View.{View}
use Rattle.nv_claimcore.specs.declared.event.Event.{Event}
use Rattle.nv_claimcore.specs.declared.event.Event.TheVariants.{Draw, Claim, Mark}
use Rattle.nv_claimcore.specs.Claims.{State, past, is_unmarked, nothing, after_draw, after_claim, after_mark}

-- what a worker knows
abbrev pub view_of : State → ℕ → View
view_of s w = slice_index_or s.views w (nothing 0)

-- at the start each worker has a view that holds nothing
abbrev pub start : Sizes → State
start z = record { first = replicate (words_for z.blocks) 0; second = replicate (words_for z.blocks) 0; cursor = 0; views = replicate z.workers (nothing 1) }

-- a worker draws until it has drawn past the end, claims blocks that there are, and marks its own lost claims that are not marked
abbrev pub is_allowed : Sizes → State → Event → Bool
is_allowed z s (Draw w) = nat_lt w (length s.views) && (past z.tickets (view_of s w).numbers == 0)
is_allowed z s (Claim w b o) = nat_lt w (length s.views) && nat_lt b z.blocks
is_allowed z s (Mark w b) = nat_lt w (length s.views) && nat_lt 0 (count_by (is_unmarked b) (view_of s w).records)

-- the state after an event
abbrev pub after : State → Event → State
after s (Draw w) = after_draw s w (view_of s w)
after s (Claim w b o) = after_claim s w (view_of s w) b o
after s (Mark w b) = after_mark s w (view_of s w) b

-- whether each event is allowed after those before it
abbrev pub all_allowed : Sizes → State → List Event → Bool
all_allowed z s [] = true
all_allowed z s (e ∷ es) = is_allowed z s e && all_allowed z (after s e) es

-- the state after a list of events
abbrev pub after_all : State → List Event → State
after_all s [] = s
after_all s (e ∷ es) = after_all (after s e) es
