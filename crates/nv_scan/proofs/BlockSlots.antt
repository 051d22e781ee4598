-- The numbers in the slots of a block.
use Rattle.std.proofs.Common.{◌≡◌, ◌≢◌, ◌<◌, ◌≤◌, ◌+◌, ◌*◌, ℕ, Some, refl, arith}
use Rattle.std.specs.Prelude.{slice_get}
use Rattle.std.proofs.Math.Nat.{mul-le-mul}
use Rattle.nv_super.specs.Layout.{Layout, slot_of}
use Rattle.nv_super.proofs.Members.{stands}
use Rattle.nv_inode.specs.declared.blocks.SlotBlock.{SlotBlock}
use Rattle.nv_inode.specs.Chains.{IsLaid}
use Rattle.nv_inode.specs.SlotBlocks.{slot_blocks, IsSmallBlock}
use Rattle.nv_inode.proofs.BlocksOfSlots.{slots_are}
use Rattle.nv_scan.specs.Tickets.{number_in}

-- the slot of the number in a slot of a ticket's block stands there
pub stands_at : (l : Layout) (t j : ℕ) (x : SlotBlock) → IsLaid l → slice_get (slot_blocks l) t ≡ Some x → j < x.slots → number_in l x j ≢ 0 → slot_of l (number_in l x j) ≡ Some (x.start + 128 * j)
stands_at l t j x laid at less some = slots_are l x j (number_in l x j) laid (stands (slot_blocks l) t x at) record { within = less; number = refl } some

-- the number in the next slot
pub next_number : (l : Layout) (x : SlotBlock) (j : ℕ) {i cpus : ℕ} → i ≡ number_in l x j → cpus ≡ l.sup.cpus → i + cpus ≡ number_in l x (j + 1)
next_number l x j is cpus_are = omega (arith, is, cpus_are)

-- it is small
pub number_small : (l : Layout) (x : SlotBlock) (j : ℕ) → IsSmallBlock l.sup x → IsLaid l → j ≤ 32 → number_in l x j < 1000002049
number_small l x j small laid few =
    let all : j * l.sup.cpus ≤ 32 * 64 = mul-le-mul few laid.layout.areas.cpus_to in
    let first = small.first in
    omega (arith, all, first)
