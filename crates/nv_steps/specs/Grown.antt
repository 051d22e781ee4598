-- A log that grew, and its row.
use Rattle.std.specs.Prelude.{◌≡◌, ℕ, ◌+◌, ◌*◌, ◌/◌, ◌%◌, ◌<◌, ◌≤◌, List, ◌++◌, IsTrue}
use Rattle.nv_region.specs.Region.{Region, size}
use Rattle.nv_super.specs.Layout.{Layout}
use Rattle.nv_inode.specs.Numbers.{has_slot}
use Rattle.nv_inode.specs.Chains.{IsLaid}
use Rattle.nv_steps.specs.Slots.{slot_in}
use Rattle.nv_alloc.specs.FreeValue.{FreeLists}
use Rattle.nv_alloc.specs.FreeLists.{IsFreeIn}
use Rattle.nv_scan.specs.declared.piece.Row.{Row}

-- What is known of a row where something is to be written behind its log: where its slot and its tail stand, and that the
-- tail's page isn't free. The layout is one that a region can have.
pub record StandsRight (R : Region) (l : Layout) (free : FreeLists) (row : Row) : Type 0 where
  pub laid : IsLaid l
  pub lists : free.sup ≡ l.sup
  pub number : IsTrue (has_slot l row.inode)
  pub whole : slot_in l row.inode % 128 ≡ 0
  pub inside : slot_in l row.inode + 128 ≤ size R
  pub aligned : row.tail % 8 ≡ 0
  pub offset : row.tail % 4096 ≤ 4064
  pub blocks : 4096 * l.sup.blocks ≤ size R
  pub in_blocks : row.tail / 4096 < l.sup.blocks
  pub used : (cpu : ℕ) → IsFreeIn free cpu (row.tail / 4096) → ⊥

-- The row's log goes on over these pages up to a new tail, and there is nothing else new.
pub record HasGrown (old : Row) (fresh : List ℕ) (end : ℕ) (new : Row) : Type 0 where
  pub inode : new.inode ≡ old.inode
  pub kind : new.kind ≡ old.kind
  pub numbers : new.numbers ≡ old.numbers
  pub head : new.head ≡ old.head
  pub tail : new.tail ≡ end
  pub pages : new.pages.items ≡ old.pages.items ++ fresh
  pub index : new.index ≡ old.index
  pub names : new.names ≡ old.names
