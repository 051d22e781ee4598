use Rattle.std.proofs.Common.{◌≡◌, ◌+◌, ◌≤◌, length, take}
use Rattle.nv_scan.specs.Heads.{heads_of}
use Rattle.nv_scan.proofs.row_list.fill_heads.Given as goal

abbrev pub invariant-loop-place : goal.invariant-loop-place
invariant-loop-place l = record {
  heads : l.heads.items ≡ heads_of (take l.place l.rows.items);
  room : length l.rows.items ≤ l.place + l.heads.room;
  within : l.place ≤ length l.rows.items;
}
