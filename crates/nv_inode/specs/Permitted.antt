-- The words that a journal may name.
use Rattle.std.specs.Prelude.{◌≡◌, ◌⊎◌, ◌≤◌, ◌+◌, ◌*◌, ◌/◌, ◌%◌, ◌==◌, ◌&&◌, ◌||◌, nat_le, nat_lt, if◌then◌else◌, ℕ, Bool, IsTrue, Some}
use Rattle.nv_super.specs.declared.superblock.Super.{Super}
use Rattle.nv_super.specs.Layout.{Layout, system_blocks, slot_of}
use Rattle.nv_inode.specs.Chains.{in_chains}

-- the valid, head or tail word of a slot behind the first, which is that of number 0
abbrev pub is_permitted : Super → ℕ → Bool
is_permitted s at =
    nat_le ((1 + s.cpus) * 4096 + 128) at && nat_lt at (system_blocks s * 4096) && ((at % 128 == 0) || (at % 128 == 16) || (at % 128 == 24))

-- the valid, head or tail word of the slot at an address
abbrev pub IsKeyWord : ℕ → ℕ → Type 0
IsKeyWord slot at = (at ≡ slot) ⊎ ((at ≡ slot + 16) ⊎ (at ≡ slot + 24))

-- each address that is permitted is of a whole word at this byte or behind it
abbrev pub LiesBehind : (ℕ → Bool) → ℕ → Type 0
LiesBehind permits low = (at : ℕ) → IsTrue (permits at) → (low ≤ at) × (at % 8 ≡ 0)

-- ---- by a layout, whose tables may have chains

-- an address that is the valid, head or tail word's in its 128 bytes
abbrev pub is_key_offset : ℕ → Bool
is_key_offset at = (at % 128 == 0) || (at % 128 == 16) || (at % 128 == 24)

-- behind the first slot of the fixed tables, which is that of number 0, and in front of the data blocks
abbrev pub in_fixed : Super → ℕ → Bool
in_fixed s at = nat_le ((1 + s.cpus) * 4096 + 128) at && nat_lt at (system_blocks s * 4096)

-- in a block of a chain, behind the 128 bytes of its link
abbrev pub in_extra : Layout → ℕ → Bool
in_extra l at = in_chains l.chains (at / 4096) && nat_le 128 (at % 4096)

-- the valid, head or tail word of a slot but that of number 0
abbrev pub is_permitted_by : Layout → ℕ → Bool
is_permitted_by l at = is_key_offset at && (in_fixed l.sup at || in_extra l at)

-- the valid, head or tail word of the slot of a number that has one
abbrev pub NamesSlotBy : Layout → ℕ → Type 0
NamesSlotBy l at = (i : ℕ) × (slot : ℕ) × (slot_of l i ≡ Some slot) × IsKeyWord slot at

-- where the blocks end in which slots can stand: behind the fixed tables in version 1, and else at the region's end
abbrev pub slots_end : Super → ℕ
slots_end s = if s.version == 2 then s.blocks else system_blocks s

-- a whole word behind the journals, in a block in which slots can stand
pub record IsSlotWord (s : Super) (at : ℕ) : Type 0 where
  pub aligned : at % 8 ≡ 0
  pub behind : (1 + s.cpus) * 4096 ≤ at
  pub before : at + 8 ≤ slots_end s * 4096
