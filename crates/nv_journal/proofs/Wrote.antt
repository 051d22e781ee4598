-- Which words are stored while journals are rolled back.
use Rattle.std.proofs.Common.{◌≡◌, ◌≤◌, ◌<◌, ◌+◌, ◌-◌, ◌*◌, ◌%◌, ◌&&◌, ◌∙◌, inl, inr, ℕ, Bool, true, nat_lt, length, sym, ap, subst, arith}
use Rattle.nv_region.specs.Region.{Region, HasBlocks}
use Rattle.nv_region.specs.Stops.{Choices}
use Rattle.nv_region.specs.Stored.{StoresOnly}
use Rattle.nv_region.proofs.Wordwise.{stores_more, stores_within}
use Rattle.nv_super.specs.Layout.{IsLayout, Layout}
use Rattle.nv_super.specs.declared.superblock.Super.{Super}
use Rattle.nv_inode.specs.Chains.{IsLaid, layout_of}
use Rattle.nv_inode.specs.Permitted.{is_permitted_by}
use Rattle.nv_inode.proofs.ReadChains.{region_laid}
use Rattle.nv_journal.specs.Undo.{journal, dequeue, enqueue, is_sound, pending_count, pending_record, record_at, undo, IsQuiet}
use Rattle.nv_journal.specs.Undone.{Names, OldValues, OutsideJournal, RollsBack, UndoStores, UndoStoresBy}
use Rattle.nv_journal.proofs.Partly.{inside_of, low_rule}
use Rattle.nv_journal.proofs.Undone.{same_dequeue, same_enqueue, same_record}

-- a journal that reads the same is rolled back by the same stores
module _ (permits : ℕ → Bool) (Q R : Region) (k : ℕ) (deq : dequeue Q k ≡ dequeue R k) (enq : enqueue Q k ≡ enqueue R k) (records : (p : ℕ) → p < 252 → record_at Q k p ≡ record_at R k p) where
  sound_too : is_sound Q k ≡ true → is_sound R k ≡ true
  sound_too sound = (λ i. nat_lt (sym deq i) 252 && nat_lt (sym enq i) 252) ∙ sound

  same_at : (j : ℕ) → pending_record Q k j ≡ pending_record R k j
  same_at j = records ((dequeue Q k + j) % 252) (omega arith) ∙ ap (λ (d : ℕ). record_at R k ((d + j) % 252)) deq

  same_count : pending_count Q k ≡ pending_count R k
  same_count = λ i. (enq i + 252 - deq i) % 252

  same_names : (j at : ℕ) → Names permits Q k j at → Names permits R k j at
  same_names j at names = record {
    sound = sound_too names.sound;
    pending = subst (λ (n : ℕ). j < n) same_count names.pending;
    permitted = names.permitted;
    address = ap (λ (r : ℕ × ℕ). r.0) (sym (same_at j)) ∙ names.address;
  }

  same_rolls : (i x : ℕ) → RollsBack permits Q k i x → RollsBack permits R k i x
  same_rolls i x (inl it) = inl (it.0, same_names it.0 (8 * i) it.1, it.2 ∙ ap (λ (r : ℕ × ℕ). r.1) (same_at it.0))
  same_rolls i x (inr it) = inr (sound_too it.0, (λ same. it.1 (deq ∙ same ∙ sym enq)), (it.2.0, it.2.1 ∙ enq))

-- the journals below one are rolled back, and then this one
pub next_rolls : (l : Layout) (R now : Region) (k : ℕ) → IsLaid l → HasBlocks R l.sup.blocks → k < l.sup.cpus → now ≡ undo (is_permitted_by l) k R → (i x : ℕ) → RollsBack (is_permitted_by l) now k i x → UndoStoresBy l R i x
next_rolls l R now k layout blocks below so_far i x it =
    let permits = is_permitted_by l in
    let low : ℕ = (1 + l.sup.cpus) * 4096 in
    let rule = low_rule l layout in
    let room : journal k + 4096 ≤ (1 + l.sup.cpus) * 4096 = omega (arith, below) in
    let inside : journal k + 4096 ≤ 8 * length R.words = omega (arith, below, inside_of l R layout blocks) in (
      k,
      below,
      same_rolls permits (undo permits k R) R k (same_dequeue permits low rule R k room inside) (same_enqueue permits low rule R k room inside) (same_record permits low rule R k room inside) i x
          (subst (λ (Q : Region). RollsBack permits Q k i x) so_far it),
    )

pub more_wrote : (l : Layout) (R now next : Region) (k : ℕ) (old mid new : Choices) → IsLaid l → HasBlocks R l.sup.blocks → k < l.sup.cpus → now ≡ undo (is_permitted_by l) k R
    → StoresOnly (UndoStoresBy l R) R now old mid → StoresOnly (RollsBack (is_permitted_by l) now k) now next mid new → StoresOnly (UndoStoresBy l R) R next old new
more_wrote l R now next k old mid new layout blocks below so_far = stores_more (UndoStoresBy l R) (RollsBack (is_permitted_by l) now k) R now next old mid new (next_rolls l R now k layout blocks below so_far)

-- what is stored at first, and what empties the journal
pub first_rolls : (permits : ℕ → Bool) (R S : Region) (cpu k : ℕ) (old new : Choices) → k ≡ cpu → StoresOnly (OldValues permits R k) R S old new → StoresOnly (RollsBack permits R cpu) R S old new
first_rolls permits R S cpu k old new here = stores_within (RollsBack permits R cpu) (OldValues permits R k) R S old new (λ i x it. inl (subst (λ (c : ℕ). OldValues permits R c i x) here it))

-- no word of a quiet journal is stored
pub quiet_outside : (s : Super) (R : Region) (cpu : ℕ) → IsLayout s → cpu < s.cpus → IsQuiet R cpu → (i x : ℕ) → UndoStores s R i x → OutsideJournal cpu i x
quiet_outside s R cpu layout below quiet i x (c, less, inl it) within =
    let behind = (low_rule (layout_of s R) (region_laid s R layout) (8 * i) it.1.permitted).0 in
    omega (arith, behind, within.1, below)
quiet_outside s R cpu layout below quiet i x (c, less, inr it) within =
    let same : c ≡ cpu = omega (arith, it.2.0, within.0, within.1) in
    it.1 (subst (λ (k : ℕ). IsQuiet R k) (sym same) quiet it.0)

pub quiet_stores : (s : Super) (R S : Region) (old new : Choices) → IsLayout s → StoresOnly (UndoStores s R) R S old new → (cpu : ℕ) → cpu < s.cpus → IsQuiet R cpu → StoresOnly (OutsideJournal cpu) R S old new
quiet_stores s R S old new layout wrote cpu below quiet = stores_within (OutsideJournal cpu) (UndoStores s R) R S old new (quiet_outside s R cpu layout below quiet) wrote
