use Rattle.std.proofs.Common.{ℕ, replicate, ap, ◌∙◌}
use Rattle.nv_scan.proofs.unused.UnusedBlocks.new.Goals as goal

pub returns : goal.returns
returns c = c.in_ok-vec.ensures.items_if_clones_equal (λ y e. e) ∙ ap (λ (n : ℕ). replicate n 0) c.words_for.ensures
