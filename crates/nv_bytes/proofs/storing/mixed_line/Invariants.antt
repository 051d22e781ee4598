use Rattle.std.proofs.Common.{◌≡◌, ◌+◌, ◌*◌, ◌<◌, ℕ, length, get_or}
use Rattle.nv_mounted.specs.Bytes.{byte_in}
use Rattle.nv_bytes.specs.Bytes.{byte_of_word, byte_after}
use Rattle.nv_bytes.proofs.storing.mixed_line.Given as goal
use Rattle.nv_bytes.specs.Data.{data_bytes}

abbrev pub invariant-loop-j : goal.invariant-loop-j
invariant-loop-j g l = record {
  eight : length l.line ≡ 8;
  made : (j k : ℕ) → j < l.j → k < 8 → byte_of_word (get_or l.line j 0) k ≡ byte_after l.change.offset (data_bytes l.change.content) l.change.size (byte_in (g.P.Pmem.region l.memory) l.block) (l.x + 8 * j + k);
}
