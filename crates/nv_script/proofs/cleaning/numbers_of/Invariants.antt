use Rattle.std.proofs.Common.{◌≡◌, ◌++◌, map}
use Rattle.nv_rows.specs.Rows.{inodes_of}
use Rattle.nv_script.proofs.cleaning.numbers_of.Given as goal

-- the numbers of some rows were pushed, and the others are left
abbrev pub invariant-loop-inode : goal.invariant-loop-inode
invariant-loop-inode l = l.numbers.items ++ map (λ entry. entry.0) l.inode-iterator ≡ inodes_of l.rows.items
