use Rattle.std.proofs.Common.{◌≡◌, ◌<◌, ◌∙◌, ℕ, List, ap, length, eqb, false, refl, arith}
use Rattle.std.specs.List.{list_any}
use Rattle.std.specs.Vec.{with_items}
use Rattle.std.proofs.lemmas.List.{take_at}
use Rattle.nv_blockset.specs.BlockSet.{with_block}
use Rattle.nv_blockset.specs.Listed.{Listed}
use Rattle.nv_blockset.proofs.Sets.{with_block_long}
use Rattle.nv_blockset.proofs.Lists.{few_blocks, block_listed}
use Rattle.nv_blockset.proofs.listed.BlockList.push.Goals as goal

pub returns-in_err-push-clause-few : goal.returns-in_err-push-clause-few
returns-in_err-push-clause-few c = rw c.in_err-push.ensures.items (few_blocks c.self.inside c.self.invariant)

-- the block joins the blocks
joined : goal.invariant_of-self-2
joined c =
    let below : c.args.block < c.self.inside.bound = omega (arith, ap (λ (v : Listed). v.bound) c.self.view_is, c.requires.below) in
    let fresh : list_any (eqb c.args.block) c.self.inside.blocks.items ≡ false = rw (← (ap (λ (v : Listed). v.blocks) c.self.view_is)) at c.requires.fresh in
    let as_it_was = c.deref_mut.ensures.value in
    let set : c.insert.new.words ≡ with_block c.self.inside.words.items c.args.block = c.insert.ensures ∙ ap (λ (ws : List ℕ). with_block ws c.args.block) as_it_was in
    let words : (with_items c.self.inside.words c.insert.new.words).items ≡ c.insert.new.words =
    take_at c.insert.new.words _ c.self.inside.words.len (omega (arith, ap length set, with_block_long c.self.inside.words.items c.args.block, c.self.inside.words.ok)) in
    block_listed c.self.inside _ c.args.block c.self.invariant below fresh refl c.in_ok-push.ensures.items (words ∙ set) c.in_ok-push.ensures.capacity

pub invariant_of-self-2 : goal.invariant_of-self-2
invariant_of-self-2 c = joined c

pub returns-clause-few : goal.returns-clause-few
returns-clause-few c = few_blocks _ (joined c)
