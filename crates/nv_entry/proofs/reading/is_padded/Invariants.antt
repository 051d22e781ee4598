use Rattle.std.proofs.Common.{◌*◌, min}
use Rattle.nv_entry.specs.Light.{text_at}
use Rattle.nv_entry.proofs.Words.{TextBelow}
use Rattle.nv_entry.proofs.reading.is_padded.Given as goal

abbrev pub invariant-loop-k : goal.invariant-loop-k
invariant-loop-k g l = TextBelow (g.P.Pmem.region l.memory) l.at (text_at (g.P.Pmem.region l.memory) l.at (min (8 * l.k) l.count)) l.k
