use Rattle.std.proofs.Common.{◌∙◌, ◌++◌, ℕ, List, ap}
use Rattle.nv_logs.specs.Block.{bytes_text}
use Rattle.nv_logs.proofs.block.shown_text.Goals as goal

pub returns : goal.returns
returns c region are =
    let told = c.in_ok-push_block.ensures region are in
    let bytes = bytes_text c.args.bytes.now c.args.block c.args.hex in (
      told.0,
      told.1,
      c.in_ok-push_bytes.ensures ∙ ap (λ (t : List ℕ). t ++ bytes) (told.2 ∙ ap (λ (t : List ℕ). t ++ told.0) c.new-text.ensures.bytes),
    )
