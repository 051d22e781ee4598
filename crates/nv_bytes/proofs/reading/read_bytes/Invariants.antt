use Rattle.std.proofs.Common.{◌≡◌, ◌-◌, ◌≤◌, map}
use Rattle.std.specs.List.{range_with_len}
use Rattle.nv_bytes.specs.Bytes.{file_byte}
use Rattle.nv_bytes.proofs.reading.read_bytes.Given as goal

abbrev pub decreases-loop-at : goal.decreases-loop-at
decreases-loop-at g l = l.end - l.at

abbrev pub invariant-loop-at : goal.invariant-loop-at
invariant-loop-at g l = record {
  low : l.offset ≤ l.at;
  high : l.at ≤ l.end;
  items : l.bytes.items ≡ map (file_byte (g.P.Pmem.region l.memory) l.index) (range_with_len l.offset (l.at - l.offset));
}
