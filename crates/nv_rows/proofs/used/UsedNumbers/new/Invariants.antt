use Rattle.std.proofs.Common.{◌≡◌, map}
use Rattle.std.specs.List.{range_with_len}
use Rattle.nv_inode.specs.Numbers.{table_size}
use Rattle.nv_inode.specs.Tables.{lists_of}
use Rattle.nv_rows.proofs.NewSets.{bare_sets}
use Rattle.nv_rows.proofs.used.UsedNumbers.new.Given as goal

-- the tables of the first CPUs
abbrev pub invariant-loop-cpu : goal.invariant-loop-cpu
invariant-loop-cpu l = record {
  sizes : l.sizes.items ≡ map (table_size l.tables.layout) (range_with_len 0 l.cpu);
  sets : lists_of l.sets.items ≡ bare_sets l.tables.layout l.cpu;
}
