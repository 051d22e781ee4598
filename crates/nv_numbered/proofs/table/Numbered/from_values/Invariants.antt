use Rattle.std.proofs.Common.{◌≡◌, ◌≤◌, ◌+◌, length, take}
use Rattle.nv_numbered.specs.Table.{IsSound}
use Rattle.nv_numbered.proofs.table.Numbered.from_values.Given as goal

-- the values up to here have their places
abbrev pub invariant-loop-index : goal.invariant-loop-index
invariant-loop-index g l = record {
  inside : l.index ≤ length l.fn.numbers.items;
  long : length l.places.items ≡ l.limit;
  room : length l.fn.numbers.items ≤ l.index + l.places.room;
  sound : IsSound l.places.items (take l.index l.fn.numbers.items) (take l.index l.fn.values.items);
}
