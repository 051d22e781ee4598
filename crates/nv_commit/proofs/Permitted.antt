-- A journal may name the valid word and the tail word of each slot.
use Rattle.std.proofs.Common.{◌≡◌, ℕ, ◌+◌, inl, inr, IsTrue, refl, Some}
use Rattle.nv_super.specs.Layout.{Layout, slot_of}
use Rattle.nv_inode.specs.Chains.{IsLaid}
use Rattle.nv_inode.specs.Permitted.{is_permitted_by}
use Rattle.nv_inode.proofs.LayoutWords.{named_permitted}

pub tail_permitted : (l : Layout) (i a : ℕ) → IsLaid l → slot_of l i ≡ Some a → IsTrue (is_permitted_by l (a + 24))
tail_permitted l i a laid slot = named_permitted l (a + 24) laid (i, a, slot, inr (inr refl))

pub valid_permitted : (l : Layout) (i a : ℕ) → IsLaid l → slot_of l i ≡ Some a → IsTrue (is_permitted_by l a)
valid_permitted l i a laid slot = named_permitted l a laid (i, a, slot, inl refl)
