use Rattle.std.proofs.Common.{arith, ap, ◌≡◌, ◌∙◌, length, List, ℕ}
use Rattle.std.specs.Vec.{with_items}
use Rattle.std.proofs.lemmas.List.{take_at}
use Rattle.nv_blockset.specs.BlockSet.{is_set}
use Rattle.nv_blockset.proofs.Lists.{none_listed, block_in}
use Rattle.nv_blockset.proofs.listed.BlockList.clear.Goals as goal

pub clear_words-requires-clause-below : goal.clear_words-requires-clause-below
clear_words-requires-clause-below c k within = rw (c.deref.ensures.value, c.deref_mut.ensures.value) (block_in c.self.inside c.self.invariant k (rw c.deref.ensures.value at within))

pub invariant_of-self : goal.invariant_of-self
invariant_of-self c =
    let as_long : length c.clear_words.new.words ≡ length c.self.inside.words.items = c.clear_words.ensures.count ∙ ap length c.deref_mut.ensures.value in
    let words : (with_items c.self.inside.words c.clear_words.new.words).items ≡ c.clear_words.new.words =
    take_at c.clear_words.new.words _ c.self.inside.words.len (omega (arith, as_long, c.self.inside.words.ok)) in
    none_listed _ c.clear.ensures.items
    (λ b. ap (λ (ws : List ℕ). is_set ws b) words ∙ c.clear_words.ensures.none b)
    (omega (arith, ap length words, as_long, c.self.invariant.room))
    (omega (arith, c.self.invariant.first, c.clear.ensures.capacity))
