use Rattle.std.proofs.Common.{◌≡◌, ◌-◌, ◌^◌, ℕ, length}
use Rattle.std.specs.Prelude.{slice_index}
use Rattle.nv_blockset.specs.BlockSet.{has}
use Rattle.nv_alloc.proofs.marks.tell_all.Given as goal

-- the words that are told full so far
abbrev pub invariant-loop-place : goal.invariant-loop-place
invariant-loop-place l = record {
  long : length l.full ≡ length l.initial.full;
  all : (w : ℕ) → has l.full w ≡ 1 → slice_index l.words w ≡ 2 ^ 64 - 1;
}
