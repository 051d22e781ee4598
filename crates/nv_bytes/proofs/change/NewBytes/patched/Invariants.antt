use Rattle.std.proofs.Common.{◌+◌}
use Rattle.nv_bytes.specs.Bytes.{byte_of_word, byte_after}
use Rattle.nv_bytes.proofs.Words.{AreMade}
use Rattle.nv_bytes.proofs.change.NewBytes.patched.Given as goal
use Rattle.nv_bytes.specs.Data.{data_bytes}

abbrev pub invariant-loop-k : goal.invariant-loop-k
invariant-loop-k l = AreMade (λ j. byte_after l.self.offset (data_bytes l.self.content) l.self.size (λ _. byte_of_word l.old j) (l.x + j)) (byte_of_word l.old) l.k l.bytes
