use Rattle.std.proofs.Common.{◌≡◌, ◌+◌, ◌*◌, ◌<◌, ℕ, get_or, length}
use Rattle.nv_mounted.specs.Bytes.{byte_in}
use Rattle.nv_bytes.specs.Bytes.{byte_of_word}
use Rattle.nv_bytes.proofs.reading.line_at.Given as goal

abbrev pub invariant-loop-j : goal.invariant-loop-j
invariant-loop-j g l = record {
  eight : length l.words ≡ 8;
  made : (j k : ℕ) → j < l.j → k < 8 → byte_of_word (get_or l.words j 0) k ≡ byte_in (g.P.Pmem.region l.memory) l.block (l.x + 8 * j + k);
}
