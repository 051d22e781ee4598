-- The address of a slot, and where it stands.
use Rattle.std.proofs.Common.{◌≡◌, ℕ, ◌+◌, ◌*◌, ◌%◌, ◌≤◌, ap, inl, refl, sym, Option, Some, None, IsTrue, is_some}
use Rattle.std.specs.Prelude.{unwrap_or}
use Rattle.nv_super.specs.Layout.{Layout, slot_of}
use Rattle.nv_inode.specs.Chains.{IsLaid}
use Rattle.nv_inode.specs.Numbers.{has_slot}
use Rattle.nv_inode.proofs.LayoutWords.{named_permitted, permitted_lies, slot_lies, slot_stands}
use Rattle.nv_steps.specs.Slots.{slot_in}

some_of : (o : Option ℕ) → IsTrue (is_some o) → o ≡ Some (unwrap_or o 0)
some_of None none = absurd (cc)
some_of (Some a) has = refl

-- a number with a slot has it at its address
pub slot_there_is : (l : Layout) (i : ℕ) → IsTrue (has_slot l i) → slot_of l i ≡ Some (slot_in l i)
slot_there_is l i has = some_of (slot_of l i) has

-- and a slot that is known is that one
pub slot_known : (l : Layout) (i a : ℕ) → slot_of l i ≡ Some a → a ≡ slot_in l i
slot_known l i a is = sym (ap (λ (o : Option ℕ). unwrap_or o 0) is)

pub slot_has : (l : Layout) (i a : ℕ) → slot_of l i ≡ Some a → IsTrue (has_slot l i)
slot_has l i a is = ap (λ (o : Option ℕ). is_some o) is

module _ (l : Layout) (i : ℕ) (laid : IsLaid l) (number : IsTrue (has_slot l i)) where
  -- it is whole, and lies behind the journals and within the region
  pub whole_there : slot_in l i % 128 ≡ 0
  whole_there = slot_stands l i (Some (slot_in l i)) laid (sym (slot_there_is l i number))

  pub inside_there : slot_in l i + 128 ≤ 4096 * l.sup.blocks
  inside_there = slot_lies l i (Some (slot_in l i)) laid (sym (slot_there_is l i number))

  pub behind_there : (1 + l.sup.cpus) * 4096 ≤ slot_in l i
  behind_there = (permitted_lies l (slot_in l i) laid (named_permitted l (slot_in l i) laid (i, slot_in l i, slot_there_is l i number, inl refl))).behind
