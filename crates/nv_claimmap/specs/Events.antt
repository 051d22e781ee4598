-- What a step with a mask is for the claim core: a list of events of one seat.
use Rattle.std.specs.Prelude.{◌≡◌, ℕ, ◌+◌, ◌-◌, ◌/◌, ◌%◌, ◌^◌, true, bit_or, bit_and, List, slice_index, slice_set}
use Rattle.nv_super.specs.declared.owners.Owner.{Owner}
use Rattle.nv_super.specs.declared.owners.Run.{Run}
use Rattle.nv_super.specs.Owners.{pairs}
use Rattle.nv_claimcore.specs.declared.view.Sizes.{Sizes}
use Rattle.nv_claimcore.specs.Claims.{State}
use Rattle.nv_claimcore.specs.Events.{view_of, all_allowed, after_all}
use Rattle.nv_claimcore.specs.SpanEvents.{span_events, mark_events}
use Rattle.nv_claimcore.specs.Spans.{claim_all, mark_all, lost_in}

-- the bits of a run's blocks in its word
abbrev pub run_mask : Run → ℕ
run_mask run = 2 ^ (run.start % 64 + run.count) - 2 ^ (run.start % 64)

-- those bits of them that are set in the word found
abbrev pub lost_mask : ℕ → Run → ℕ
lost_mask found run = bit_and found (run_mask run)

-- the words with a mask in one of them
abbrev pub with_mask : List ℕ → ℕ → ℕ → List ℕ
with_mask words word mask = slice_set words word (bit_or (slice_index words word) mask)

-- The claims of a run's blocks are allowed. They put the run's mask into its word of the first set, and into the view of the seat what the step with this mask tells.
pub record IsClaimStep (z : Sizes) (s : State) (seat : ℕ) (run : Run) (o : Owner) : Type 0 where
  pub allowed : all_allowed z s (span_events seat run o) ≡ true
  pub first : (after_all s (span_events seat run o)).first ≡ with_mask s.first (run.start / 64) (run_mask run)
  pub second : (after_all s (span_events seat run o)).second ≡ s.second
  pub cursor : (after_all s (span_events seat run o)).cursor ≡ s.cursor
  pub views : (after_all s (span_events seat run o)).views ≡ slice_set s.views seat (claim_all (slice_index s.first (run.start / 64)) (pairs run.start o run.count) (view_of s seat))

-- The marks of those of a run's blocks that a claim found set are allowed. They put the mask of these blocks alone into the word of the second set, and mark the seat's lost claims of them.
pub record IsMarkStep (z : Sizes) (s : State) (seat found : ℕ) (run : Run) (o : Owner) : Type 0 where
  pub allowed : all_allowed z s (mark_events seat (run.start / 64) (lost_mask found run)) ≡ true
  pub first : (after_all s (mark_events seat (run.start / 64) (lost_mask found run))).first ≡ s.first
  pub second : (after_all s (mark_events seat (run.start / 64) (lost_mask found run))).second ≡ with_mask s.second (run.start / 64) (lost_mask found run)
  pub cursor : (after_all s (mark_events seat (run.start / 64) (lost_mask found run))).cursor ≡ s.cursor
  pub views : (after_all s (mark_events seat (run.start / 64) (lost_mask found run))).views ≡ slice_set s.views seat (mark_all (lost_in found (pairs run.start o run.count)) (view_of s seat))
