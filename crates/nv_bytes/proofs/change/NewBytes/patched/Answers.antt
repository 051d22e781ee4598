use Rattle.std.proofs.Common.{ℕ, ◌+◌, ◌∙◌, ap, arith}
use Rattle.nv_bytes.specs.Bytes.{byte_of_word, byte_after}
use Rattle.nv_bytes.proofs.Words.{none_made, one_made, all_made}
use Rattle.nv_bytes.proofs.change.NewBytes.patched.Goals as goal
use Rattle.nv_bytes.specs.Data.{data_bytes}

pub loop-k-init : goal.loop-k-init
loop-k-init c = none_made _ c.args.old c.to_le_bytes-bytes.result c.to_le_bytes-bytes.ensures

pub loop-k-preserved : goal.loop-k-preserved
loop-k-preserved c =
    one_made _ (byte_of_word c.args.old) c.loop-k.k c.byte.result c.loop-k.bytes c.loop-k-test.true c.byte.type_inv
    (λ was. c.byte.ensures ∙ ap (λ (b : ℕ). byte_after c.args.self.now.offset (data_bytes c.args.self.now.content) c.args.self.now.size (λ _. b) (c.args.x + c.loop-k.k)) was) c.loop-k.invariant

pub returns : goal.returns
returns c = all_made _ _ c.loop-k.k c.from_le_bytes.result c.loop-k.bytes (omega (arith, c.loop-k-test.false)) c.loop-k.invariant c.from_le_bytes.ensures
