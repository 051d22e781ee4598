use Rattle.std.proofs.Common.{◌≡◌, ◌*◌, length, min}
use Rattle.nv_entry.specs.Light.{text_at}
use Rattle.nv_entry.proofs.light.read_text.Given as goal

abbrev pub invariant-loop-k : goal.invariant-loop-k
invariant-loop-k g l = record {
  len : length l.bytes.items ≡ min (8 * l.k) l.count;
  text : l.bytes.items ≡ text_at (g.P.Pmem.region l.memory) l.at (min (8 * l.k) l.count);
}
