-- A block of a chain none of whose slots is in use: it is told itself, and nothing else of its inodes.
use Rattle.std.proofs.Common.{◌≡◌, ◌≢◌, ℕ, zero, suc, ◌+◌, ◌*◌, ◌/◌, ◌%◌, ◌<◌, ◌≤◌, ◌==◌, nat_lt, IsTrue, inl, inr, true, List, [], ◌++◌, length, set, take, replicate, Option, Some, None, refl, ap, sym, ◌∙◌, subst, append-nil, arith, eqb-true}
use Rattle.std.specs.List.{Contains, cons_option}
use Rattle.std.proofs.lemmas.Bool.{cases_eq, cases_lt}
use Rattle.std.proofs.lemmas.Bool.Decides.{nat_tests}
use Rattle.std.proofs.lemmas.List.{length-replicate, take_more_set}
use Rattle.nv_blockset.specs.BlockSet.{has, is_set, with_block, words_for}
use Rattle.nv_blockset.proofs.Sets.{has_none, has_other}
use Rattle.nv_region.specs.Region.{Region, word}
use Rattle.nv_super.specs.Layout.{Layout, slot_of}
use Rattle.nv_super.specs.declared.owners.Owner.{Owner}
use Rattle.nv_super.specs.declared.faults.Fault.{Fault}
use Rattle.nv_inode.specs.declared.blocks.SlotBlock.{SlotBlock}
use Rattle.nv_inode.specs.declared.slot.Slot.{Slot}
use Rattle.nv_inode.specs.Chains.{IsLaid}
use Rattle.nv_inode.specs.Slot.{kind_at, slot_at}
use Rattle.nv_inode.specs.SlotBlocks.{slot_blocks}
use Rattle.nv_inode.proofs.BlocksOfSlots.{slots_are}
use Rattle.nv_scan.specs.ChainBlocks.{TellsTable, table_claims}
use Rattle.nv_scan.specs.ClaimList.{ClaimList}
use Rattle.nv_scan.specs.Kept.{IsSlotOf}
use Rattle.nv_scan.specs.Tickets.{IsBlank, number_in, numbers_to}
use Rattle.nv_scan.specs.Unused.{HasNoWord, IsUnused, KnowsUnused}
use Rattle.nv_scan.specs.Work.{AreNext, claims_among, claims_in}
use Rattle.nv_scan.specs.declared.chain_block.ChainBlock.{ChainBlock}
use Rattle.nv_scan.specs.declared.inodes.Inodes.{Inodes}
use Rattle.nv_scan.proofs.ChainBlocks.{tells_none_at, tells_nothing}
use Rattle.nv_scan.proofs.Runs.{among_push}
use Rattle.nv_scan.proofs.Scanning.{keeps_fault, unused_one}
use Rattle.nv_scan.proofs.Told.{blank_either}
use Rattle.nv_scan.proofs.Work.{at_slot, next_none, next_slot, piece_at_slot}

-- ---- the set

-- it has no block at first
pub knows_none : (R : Region) (blocks : ℕ) {words : List ℕ} → words ≡ replicate (words_for blocks) 0 → KnowsUnused R words
knows_none R blocks {words} is = λ b in_set j less. absurd (
    let none : has words b ≡ 0 = ap (λ (ws : List ℕ). has ws b) is ∙ has_none (words_for blocks) b in
    let one : has words b ≡ 1 = eqb-true (has words b) 1 in_set in
    omega (arith, none, one))

-- it has a bit for each
pub set_long : (blocks : ℕ) {words : List ℕ} → words ≡ replicate (words_for blocks) 0 → blocks ≤ 64 * length words
set_long blocks is = let long = ap length is ∙ length-replicate (words_for blocks) 0 in omega (arith, long)

-- and then one more
pub knows_more : (R : Region) (words : List ℕ) (x : SlotBlock) → KnowsUnused R words → IsUnused R x → x.start / 4096 < 64 * length words → KnowsUnused R (with_block words (x.start / 4096))
knows_more R words x known unused room = λ b in_set j less. elim (cases_eq b (x.start / 4096)) [
  | inl same ↦ (let start = unused.start in let few = unused.few in
      let at : x.start + 128 * j ≡ b * 4096 + 128 + 128 * j = omega (arith, same, start) in
      ap (word R) (sym at) ∙ unused.none j (omega (arith, less, few)))
  | inr other ↦ known b (ap (λ (n : ℕ). n == 1) (sym (has_other words (x.start / 4096) b (omega (arith, room)) other)) ∙ in_set) j less
]

-- a block of slots whose block is in it
pub known_unused : (R : Region) (words : List ℕ) (x : SlotBlock) → KnowsUnused R words → x.slots ≡ 31 → x.start % 4096 ≡ 128 → IsTrue (is_set words (x.start / 4096)) → IsUnused R x
known_unused R words x known few start in_set = record {
  few = few;
  start = start;
  none = λ j less. (let at : x.start / 4096 * 4096 + 128 + 128 * j ≡ x.start + 128 * j = omega (arith, start) in ap (word R) (sym at) ∙ known (x.start / 4096) in_set j (omega (arith, less, few)));
}

-- ---- what is told of such a block

module _ {R : Region} {l : Layout} (x : SlotBlock) (laid : IsLaid l) (there : Contains (slot_blocks l) x) (unused : IsUnused R x) where
  -- where the slot of a number stands
  stands : (k : ℕ) → k < x.slots → number_in l x k ≢ 0 → slot_of l (number_in l x k) ≡ Some (x.start + 128 * k)
  stands k less some = slots_are l x k (number_in l x k) laid there record { within = less; number = refl } some

  pub first_stands : x.first ≢ 0 → slot_of l x.first ≡ Some x.start
  first_stands some =
      let number : number_in l x 0 ≡ x.first = omega arith in
      let at : x.start + 128 * 0 ≡ x.start = omega arith in
      let few = unused.few in
      ap (slot_of l) (sym number) ∙ stands 0 (omega (arith, few)) (omega (arith, some)) ∙ ap Some at

  -- nothing of the inodes behind the first slot
  blank_behind : (k : ℕ) → 0 < k → k < x.slots → IsBlank R l (number_in l x k)
  blank_behind k some less =
      let start = unused.start in let few = unused.few in
      let other : (x.start + 128 * k) % 4096 ≢ 128 = λ first. absurd (omega (arith, first, start, few, some, less)) in
      blank_either R l (number_in l x k) (x.start + 128 * k) laid (stands k less)
      (tells_nothing l (number_in l x k) None refl (tells_none_at l l.sup (number_in l x k) (x.start + 128 * k) laid refl (stands k less) (inl other))) (inr (unused.none k less))

  -- so they add nothing to what is kept of that one
  next_behind : (kept : Inodes) (claims : List (ℕ × Owner)) (k : ℕ) → 0 < k → k ≤ x.slots → AreNext R l (numbers_to l x 1) kept kept claims → AreNext R l (numbers_to l x k) kept kept claims
  next_behind kept claims zero some few first = absurd (omega (arith, some))
  next_behind kept claims (suc k) some few first = elim (cases_lt 0 k) [
    | inl more ↦ (let less : k < x.slots = omega (arith, few) in
        let last : k + 1 ≡ suc k = omega arith in
        subst (λ (n : ℕ). AreNext R l (numbers_to l x n) kept kept claims) last
        (next_slot (at_slot x k None (blank_behind k more less)) (next_behind kept claims k more (omega (arith, less)) first) (sym (append-nil kept.rows.items)) (sym (append-nil kept.faults.items)) (sym (append-nil claims))))
    | inr none ↦ (let one : 1 ≡ suc k = omega (arith, none) in subst (λ (n : ℕ). AreNext R l (numbers_to l x n) kept kept claims) one first)
  ]

  -- the number and the address of the first slot
  first_number : number_in l x 0 ≡ x.first
  first_number = omega arith

  first_at : x.start + 128 * 0 ≡ x.start
  first_at = omega arith

  first_some : 0 < x.slots
  first_some = let few = unused.few in omega (arith, few)

  no_kind : word R (x.start + 128 * 0) ≡ 0 → kind_at R (x.start + 128 * 0) ≡ None
  no_kind no_word = rw no_word refl

  -- with its inode the block is told, and nothing else
  next_first : (kept : Inodes) (told : Option ChainBlock) (own : ClaimList) → own.items ≡ table_claims told → (number_in l x 0 ≡ 0 → told ≡ None) → TellsTable l (number_in l x 0) told
      → AreNext R l (numbers_to l x 1) kept kept own.items
  next_first kept told own is none tells = elim (cases_lt 0 (number_in l x 0)) [
    | inl above ↦ (let i = number_in l x 0 in
        let a = x.start + 128 * 0 in
        let no_word = unused.none 0 first_some in
        let here = stands 0 first_some (omega (arith, above)) in
        let k = keeps_fault i told None kept kept own is refl (sym (append-nil kept.faults.items)) in
        let slot : IsSlotOf R l.sup l i told (slot_at R a) = record { sup = refl; at = a; stands = here; words = refl; tells = tells } in
        let piece = unused_one R l.sup l i told (slot_at R a) slot (no_kind no_word) no_word k.piece k.is in
        let faults = k.faults ∙ ap (λ (fs : List Fault). kept.faults.items ++ fs) (sym (append-nil k.piece.faults.items)) in
        let claims : own.items ≡ [] ++ claims_in (cons_option (Some k.piece) []) = ap (λ (c : ClaimList). c.items) (sym k.claims_are) ∙ sym (append-nil k.piece.claims.items) in
        next_slot (piece_at_slot x 0 k.piece above piece.0 piece.1) (next_none refl) k.rows faults claims)
    | inr zero_is ↦ (let first : number_in l x 0 ≡ 0 = omega (arith, zero_is) in
        let blank = blank_either R l (number_in l x 0) (x.start + 128 * 0) laid (stands 0 first_some) (tells_nothing l (number_in l x 0) told (none first) tells) (inl first) in
        let claims : own.items ≡ [] ++ [] = is ∙ ap table_claims (none first) in
        next_slot (at_slot x 0 None blank) (next_none refl) (sym (append-nil kept.rows.items)) (sym (append-nil kept.faults.items)) claims)
  ]

  -- all slots
  pub next_unused : (each : List ClaimList) (told : Option ChainBlock) (own : ClaimList) → 0 < length each → own.items ≡ table_claims told → (x.first ≡ 0 → told ≡ None) → TellsTable l x.first told
      → (kept : Inodes) → AreNext R l (numbers_to l x x.slots) kept kept (claims_among (take 1 (set each 0 own)))
  next_unused each told own room is none tells kept =
      let first = next_first kept told own is (λ e. none (sym first_number ∙ e)) (subst (λ (i : ℕ). TellsTable l i told) (sym first_number) tells) in
      let claims : claims_among (take 1 (set each 0 own)) ≡ own.items = ap claims_among (take_more_set each 0 own room) ∙ among_push (take 0 each) own in
      subst (λ (cs : List (ℕ × Owner)). AreNext R l (numbers_to l x x.slots) kept kept cs) (sym claims) (next_behind kept own.items x.slots first_some (omega arith) first)
