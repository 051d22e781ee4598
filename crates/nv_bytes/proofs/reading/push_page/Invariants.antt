use Rattle.std.proofs.Common.{◌≡◌, ◌-◌, ◌≤◌, ◌++◌, map}
use Rattle.std.specs.List.{range_with_len}
use Rattle.nv_mounted.specs.Bytes.{byte_in}
use Rattle.nv_bytes.proofs.reading.push_page.Given as goal

abbrev pub decreases-loop-at : goal.decreases-loop-at
decreases-loop-at g l = l.end - l.at

abbrev pub invariant-loop-at : goal.invariant-loop-at
invariant-loop-at g l = record {
  low : l.start ≤ l.at;
  high : l.at ≤ l.end;
  items : l.bytes.items ≡ l.fn.bytes.items ++ map (byte_in (g.P.Pmem.region l.memory) l.block) (range_with_len l.start (l.at - l.start));
}
