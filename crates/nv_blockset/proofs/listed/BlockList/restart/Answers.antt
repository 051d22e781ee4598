use Rattle.std.proofs.Common.{◌≡◌, ◌<◌, ◌∙◌, ℕ, List, ap, length, eqb, false, refl, arith}
use Rattle.std.specs.List.{list_any}
use Rattle.std.specs.Vec.{with_items}
use Rattle.std.proofs.lemmas.List.{take_at}
use Rattle.nv_blockset.specs.BlockSet.{with_block}
use Rattle.nv_blockset.specs.Listed.{Listed}
use Rattle.nv_blockset.proofs.Sets.{with_block_long}
use Rattle.nv_blockset.proofs.Lists.{block_listed}
use Rattle.nv_blockset.proofs.listed.BlockList.restart.Goals as goal

pub invariant_of-self : goal.invariant_of-self
invariant_of-self c =
    let cleared = c.self.view_is ∙ c.clear.ensures in
    let below : c.args.first < c.self.inside.bound = omega (arith, ap (λ (v : Listed). v.bound) cleared, c.requires) in
    let fresh : list_any (eqb c.args.first) c.self.inside.blocks.items ≡ false = ap (λ (v : Listed). list_any (eqb c.args.first) v.blocks) cleared in
    let set : c.insert.new.words ≡ with_block c.self.inside.words.items c.args.first = c.insert.ensures ∙ ap (λ (ws : List ℕ). with_block ws c.args.first) c.deref_mut.ensures.value in
    let words : (with_items c.self.inside.words c.insert.new.words).items ≡ c.insert.new.words =
    take_at c.insert.new.words _ c.self.inside.words.len (omega (arith, ap length set, with_block_long c.self.inside.words.items c.args.first, c.self.inside.words.ok)) in
    block_listed c.self.inside _ c.args.first c.self.invariant below fresh refl c.push_reserved.ensures.items (words ∙ set) (omega (arith, c.push_reserved.ensures.capacity))
