use Rattle.std.proofs.Common.{arith, ap, ◌≡◌, ◌∙◌, length, List, ℕ}
use Rattle.std.specs.Vec.{with_items}
use Rattle.std.proofs.lemmas.List.{take_at}
use Rattle.nv_blockset.specs.BlockSet.{is_set}
use Rattle.nv_region.proofs.Marks.{none_marked}
use Rattle.nv_region.proofs.stored.StoredLines.clear.Goals as goal

pub unmark-requires-clause-below : goal.unmark-requires-clause-below
unmark-requires-clause-below c row is =
    let has = rw c.deref.ensures.value at is in
    let s = c.self.invariant.rows.some row has in
    let b = c.self.invariant.rows.below row has in (
      omega (arith, s),
      omega (arith, b, c.self.invariant.marks, ap length c.deref_mut.ensures.value),
      omega (arith, b, c.self.invariant.small),
    )

pub invariant_of-self : goal.invariant_of-self
invariant_of-self c =
    let as_long : length c.unmark.new.marks ≡ length c.self.inside.marks.items = c.unmark.ensures.count ∙ ap length c.deref_mut.ensures.value in
    let marks : (with_items c.self.inside.marks c.unmark.new.marks).items ≡ c.unmark.new.marks =
    take_at c.unmark.new.marks _ c.self.inside.marks.len (omega (arith, as_long, c.self.inside.marks.ok)) in
    none_marked _ c.clear.ensures.items c.clear-2.ensures.items c.self.invariant.small (omega (arith, ap length marks, as_long, c.self.invariant.marks)) (omega (arith, c.self.invariant.room, c.clear.ensures.capacity))
    (omega (arith, c.self.invariant.wide, c.clear-2.ensures.capacity)) (λ p. ap (λ (ws : List ℕ). is_set ws p) marks ∙ c.unmark.ensures.none p)
