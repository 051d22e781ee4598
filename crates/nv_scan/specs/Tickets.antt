-- The inodes that each ticket stands for: those of a block of slots.
use Rattle.std.specs.Prelude.{◌≡◌, ℕ, ◌+◌, ◌*◌, nat_lt, Bool, true, ◌||◌, is_some, List, [], length, map, Option, Some, None, slice_get}
use Rattle.std.specs.List.{filter, range_with_len}
use Rattle.nv_region.specs.Region.{Region}
use Rattle.nv_super.specs.declared.owners.Owner.{Owner}
use Rattle.nv_super.specs.declared.faults.Fault.{Fault}
use Rattle.nv_super.specs.Layout.{Layout, slot_of}
use Rattle.nv_inode.specs.declared.blocks.SlotBlock.{SlotBlock}
use Rattle.nv_inode.specs.SlotBlocks.{slot_blocks}
use Rattle.nv_scan.specs.Inode.{IsInUse}
use Rattle.nv_scan.specs.Owners.{IsTable}
use Rattle.nv_scan.specs.Faults.{IsFaultOf}
use Rattle.nv_scan.specs.Rows.{IsPiece}
use Rattle.nv_scan.specs.declared.piece.Piece.{Piece}

-- how many tickets there are: one for each block of slots
abbrev pub ticket_count : Layout → ℕ
ticket_count l = length (slot_blocks l)

-- the number of the inode of slot j of a block of slots
abbrev pub number_in : Layout → SlotBlock → ℕ → ℕ
number_in l x j = x.first + j * l.sup.cpus

-- the numbers of its first slots, so many of them, without number 0, which no inode has
abbrev pub numbers_to : Layout → SlotBlock → ℕ → List ℕ
numbers_to l x slots = filter (λ i. nat_lt 0 i) (map (number_in l x) (range_with_len 0 slots))

-- those of all its slots, and none where there is no block
abbrev pub numbers_by : Layout → Option SlotBlock → List ℕ
numbers_by l None = []
numbers_by l (Some x) = numbers_to l x x.slots

-- the numbers of the block of slots that a ticket stands for, rising; none where the number is no ticket
unfoldable pub numbers_of : Layout → ℕ → List ℕ
numbers_of l ticket = numbers_by l (slice_get (slot_blocks l) ticket)

-- ---- what is kept of the inodes

-- an inode that isn't in use, with which nothing is wrong, and with which no block of a chain is told
abbrev pub IsBlank : Region → Layout → ℕ → Type 0
IsBlank R l i = (IsInUse R l i → ⊥) × ((f : Fault) → IsFaultOf R l i f → ⊥) × ((x : ℕ × Owner) → IsTable l i x → ⊥)

-- whether a piece tells anything: a row, a fault or a claim
abbrev pub is_told : Piece → Bool
is_told p = is_some p.row || (nat_lt 0 (length p.faults.items) || nat_lt 0 (length p.claims.items))

-- What is found of an inode by its slot: its piece, which tells something, or nothing, where there is nothing to tell.
abbrev pub IsFound : Region → Layout → ℕ → Option Piece → Type 0
IsFound R l i (Some p) = (p.inode ≡ i) × (is_some (slot_of l i) ≡ true) × IsPiece R l p × (is_told p ≡ true)
IsFound R l i None = IsBlank R l i
