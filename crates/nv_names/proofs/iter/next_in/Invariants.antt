use Rattle.std.proofs.Common.{◌≡◌, length}
use Rattle.nv_names.specs.Left.{left_in}
use Rattle.nv_names.proofs.iter.next_in.Given as goal

-- a bucket that has no name left is let go
abbrev pub invariant-loop-named : goal.invariant-loop-named
invariant-loop-named l = left_in l.bucket l.buckets.now ≡ left_in l.initial.bucket l.initial.buckets.now

abbrev pub decreases-loop-named : goal.decreases-loop-named
decreases-loop-named l = length l.buckets.now
