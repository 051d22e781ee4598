-- Where slots stand beside what is held.
use Rattle.std.specs.Prelude.{◌≡◌, ◌≢◌, ◌⊎◌, ℕ, ◌+◌, ◌*◌, ◌/◌, ◌%◌, ◌≤◌, List, Some, slice_get}
use Rattle.std.specs.List.{Contains}
use Rattle.nv_super.specs.Layout.{Layout, chain_of, slot_of}
use Rattle.nv_scan.specs.State.{block_of}
use Rattle.nv_mounted.specs.Held.{Held, Store, good_in}
use Rattle.nv_mounted.specs.Blocks.{IsUnowned}

-- no slot stands in the block
abbrev pub HasNoSlot : Layout → ℕ → Type 0
HasNoSlot l b = (i a : ℕ) → slot_of l i ≡ Some a → a / 4096 ≢ b

-- no slot stands in one of these blocks
abbrev pub HaveNoSlots : Layout → List ℕ → Type 0
HaveNoSlots l blocks = (b : ℕ) → Contains blocks b → HasNoSlot l b

-- the block is none of a chain's
abbrev pub IsInNoChain : Layout → ℕ → Type 0
IsInNoChain l b = (c k : ℕ) → slice_get (chain_of l c) k ≢ Some b

-- Slots are whole, stand behind the journals and where no link of a chain's block stands, and no two overlap.
pub record SlotsStand (l : Layout) : Type 0 where
  pub whole : (i a : ℕ) → slot_of l i ≡ Some a → a % 128 ≡ 0
  pub behind : (i a : ℕ) → slot_of l i ≡ Some a → (1 + l.sup.cpus) * 4096 ≤ a
  pub unlinked : (i a c k b : ℕ) → slot_of l i ≡ Some a → slice_get (chain_of l c) k ≡ Some b → a ≢ 4096 * b
  pub apart : (i j a b : ℕ) → slot_of l i ≡ Some a → slot_of l j ≡ Some b → i ≢ j → (a + 128 ≤ b) ⊎ (b + 128 ≤ a)

-- They stand so, and no page of a log holds one.
pub record PagesClear (l : Layout) (held : Store) : Type 0 where
  pub stand : SlotsStand l
  pub open stand use *
  pub unpaged : (i : ℕ) (h : Held) → held i ≡ Some h → HaveNoSlots l h.pages

-- They stand so, and no free block, no page of a log and no block of a file holds one.
pub record SlotsClear (l : Layout) (held : Store) : Type 0 where
  pub stand : SlotsStand l
  pub open stand use *
  pub unfree : (b : ℕ) → IsUnowned l held b → HasNoSlot l b
  pub unpaged : (i : ℕ) (h : Held) → held i ≡ Some h → HaveNoSlots l h.pages
  pub unmapped : (i p b : ℕ) (h : Held) → held i ≡ Some h → block_of (good_in l h) p ≡ Some b → HasNoSlot l b
