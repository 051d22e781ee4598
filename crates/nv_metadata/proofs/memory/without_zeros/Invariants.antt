use Rattle.std.proofs.Common.{◌≡◌, ◌≤◌, ◌+◌, ◌%◌, ℕ, length, drop}
use Rattle.byteorder.specs.Endian.{little_number}
use Rattle.nv_metadata.proofs.memory.without_zeros.Given as goal

abbrev pub invariant-loop-count : goal.invariant-loop-count
invariant-loop-count l = record {
  few : l.count ≤ length l.bytes;
  whole : l.count % 8 ≡ 0;
  zeros : (at : ℕ) → at % 8 ≡ 0 → l.count ≤ at → at + 8 ≤ length l.bytes → little_number 8 (drop at l.bytes) ≡ 0;
}

abbrev pub decreases-loop-count : goal.decreases-loop-count
decreases-loop-count l = l.count
