use Rattle.std.proofs.Common.{◌≡◌, ℕ, length, ltb, ap, sym, ◌∙◌, arith}
use Rattle.nv_radix.proofs.Leaves.{is_ready-leaf, IsNode-leaf}
use Rattle.nv_radix.proofs.leaf.LeafNode.is_ready.Goals as goal

pub returns : goal.returns
returns c =
    let blocks = c.self.inside.blocks.items in
    let len : c.len.result ≡ length blocks = omega (arith, c.len.ensures, c.self.inside.blocks.ok.0) in
    λ p e. rw (← c.self.view_is) (ap (λ (n : ℕ). ltb c.args.page n) len ∙ sym (is_ready-leaf c.self.inside.mapped blocks c.args.page) ∙ (IsNode-leaf c.self.inside.mapped blocks c.self.invariant).leaves c.args.page p (sym e))
