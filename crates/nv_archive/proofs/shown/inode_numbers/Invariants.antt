use Rattle.std.proofs.Common.{◌≡◌, ◌++◌, map}
use Rattle.nv_rows.specs.Rows.{inodes_of}
use Rattle.nv_archive.proofs.shown.inode_numbers.Given as goal

-- the numbers so far, and those of the rows that are left
abbrev pub invariant-loop-inode : goal.invariant-loop-inode
invariant-loop-inode l = l.numbers.items ++ map (λ entry. entry.0) l.inode-iterator ≡ inodes_of l.rows.items
