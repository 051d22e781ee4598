-- One number that has a slot, by itself.
use Rattle.std.proofs.Common.{◌≡◌, ◌<◌, ℕ, zero, suc, IsTrue, [], ◌∷◌, Option, Some, None, refl, arith}
use Rattle.std.specs.Prelude.{is_some, slice_index}
use Rattle.nv_super.specs.Layout.{Layout, slot_of}
use Rattle.nv_inode.specs.Chains.{IsLaid}
use Rattle.nv_inode.specs.Numbers.{has_slot, number_end}
use Rattle.nv_inode.proofs.NumberEnds.{below_end}
use Rattle.nv_numbered.specs.Values.{AreNumbersBelow}
use Rattle.nv_rows.specs.Unused.{HaveSlots}

some_is : {A : Type 0} (o : Option A) → IsTrue (is_some o) → (a : A) × (o ≡ Some a)
some_is (Some a) some = (a, refl)
some_is None some = absurd (cc)

module _ (l : Layout) (i : ℕ) (laid : IsLaid l) (has : IsTrue (has_slot l i)) where
  each_below : (k : ℕ) → k < 1 → slice_index (i ∷ []) k < number_end l
  each_below zero less = let at = some_is (slot_of l i) has in below_end l i at.0 laid at.1
  each_below (suc k) less = absurd (omega (arith, less))

  pub one_below : AreNumbersBelow (number_end l) (i ∷ [])
  one_below = record { below = each_below; once = λ j k less inside same. omega (arith, less, inside) }

  each_has : (k : ℕ) → k < 1 → IsTrue (has_slot l (slice_index (i ∷ []) k))
  each_has zero less = has
  each_has (suc k) less = absurd (omega (arith, less))

  pub one_has : HaveSlots l (i ∷ [])
  one_has = record { each = each_has; once = λ j k less inside same. omega (arith, less, inside) }
