use Rattle.std.proofs.Common.{◌≡◌, take}
use Rattle.nv_rows.specs.Rows.{inodes_of}
use Rattle.nv_rows.proofs.rows.numbers_of.Given as goal

abbrev pub invariant-loop-place : goal.invariant-loop-place
invariant-loop-place l = l.numbers.items ≡ inodes_of (take l.place l.rows.items)
