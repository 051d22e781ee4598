use Rattle.std.proofs.Common.{◌≡◌, take}
use Rattle.nv_inode.specs.Numbers.{sizes_of}
use Rattle.nv_rows.specs.InUse.{HasUsed}
use Rattle.nv_rows.proofs.rows.used_by.Given as goal

-- the numbers up to here are in the sets
abbrev pub invariant-loop-number : goal.invariant-loop-number
invariant-loop-number l = record {
  sizes : l.used.sizes ≡ sizes_of l.tables.layout;
  used : HasUsed (take l.number-index l.numbers) l.used.sets;
}
