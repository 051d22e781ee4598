-- What a region holds, by what it shows: each way.
use Rattle.std.proofs.Common.{◌≡◌, ℕ, ◌+◌, true, refl, sym, ◌∙◌, subst, Option, Some, None, slice_get, arith}
use Rattle.nv_region.specs.Region.{Region, word}
use Rattle.nv_super.specs.declared.owners.Owner.{Owner}
use Rattle.nv_super.specs.declared.owners.Owner.TheVariants as owners
use Rattle.nv_super.specs.Layout.{Layout, slot_of}
use Rattle.nv_inode.specs.Slot.{slot_at, is_right_log}
use Rattle.nv_logpage.specs.Reads.{Reads}
use Rattle.nv_scan.specs.State.{block_of}
use Rattle.nv_scan.specs.Inode.{Log, IsInode, IsInUse, right, good_of}
use Rattle.nv_scan.specs.Owners as scan
use Rattle.nv_scan.specs.Owners.{Owns}
use Rattle.nv_scan.proofs.Only.{IsInode-only, slot_in_use, kind_in_use, owned_log, owned_page, owned_table}
use Rattle.nv_scan.proofs.Pieces.{valid_one}
use Rattle.nv_outcome.specs.Outcome.{IsFree}
use Rattle.nv_mounted.specs.Held.{Held, Store, HoldsInode, ShowsSlot, Shows, log_of}
use Rattle.nv_mounted.specs.Blocks.{OwnsIn, by_table, by_log, by_page, IsUnowned}

-- an inode that is held is in use
pub held_inode : (R : Region) (l : Layout) (i a : ℕ) (h : Held) → slot_of l i ≡ Some a → HoldsInode R l a h → IsInode R l i a (log_of h)
held_inode R l i a h at is =
    right at is.kind
    (subst (λ (x : ℕ). is_right_log l.sup x (word R (a + 24)) ≡ true) (sym is.head) (subst (λ (y : ℕ). is_right_log l.sup h.head y ≡ true) (sym is.tail) is.right))
    (subst (λ (x : ℕ). Reads R l.sup x (word R (a + 24)) h.entries h.pages None) (sym is.head) (subst (λ (y : ℕ). Reads R l.sup h.head y h.entries h.pages None) (sym is.tail) is.reads))

-- the slot of an inode that is held
pub record HoldsAt (R : Region) (l : Layout) (i : ℕ) (h : Held) : Type 0 where
  pub a : ℕ
  pub at : slot_of l i ≡ Some a
  pub is : HoldsInode R l a h

-- what is held of an inode in use
pub record IsHeld (R : Region) (l : Layout) (held : Store) (i a : ℕ) (log : Log) : Type 0 where
  pub h : Held
  pub held_is : held i ≡ Some h
  pub same : log ≡ log_of h
  pub is : HoldsInode R l a h

module _ {R : Region} {l : Layout} {held : Store} (shows : Shows R l held) where
  pub holds_at : (i a : ℕ) (h : Held) → slot_of l i ≡ Some a → held i ≡ Some h → HoldsInode R l a h
  holds_at i a h at is = subst (λ (o : Option Held). ShowsSlot R l a o) is (shows.slots i a at)

  pub stands_at : (i : ℕ) (h : Held) → held i ≡ Some h → HoldsAt R l i h
  stands_at i h is = by (slot_of l i) refl where
    by : (o : Option ℕ) → slot_of l i ≡ o → HoldsAt R l i h
    by None e = absurd (let c : Some h ≡ None = sym is ∙ shows.only i e in cc)
    by (Some a) e = record { a = a; at = e; is = holds_at i a h e is }

  pub in_use : (i : ℕ) (h : Held) → held i ≡ Some h → IsInUse R l i
  in_use i h is = let w = stands_at i h is in (w.a, log_of h, held_inode R l i w.a h w.at w.is)

  pub is_held : (i a : ℕ) (log : Log) → IsInode R l i a log → IsHeld R l held i a log
  is_held i a log inode = by (held i) refl (shows.slots i a (slot_in_use inode)) where
    by : (o : Option Held) → held i ≡ o → ShowsSlot R l a o → IsHeld R l held i a log
    by None e no_word = absurd (let one : word R a ≡ 1 = valid_one (slot_at R a) log.kind (kind_in_use inode) in omega (arith, one, no_word))
    by (Some h) e is = record { h = h; held_is = e; same = (IsInode-only inode (held_inode R l i a h (slot_in_use inode) is)).1; is = is }

  pub owns_there : (b : ℕ) (o : Owner) → OwnsIn l held b o → Owns R l b o
  owns_there b _ (by_table has) = scan.by_table has
  owns_there b _ (by_log {i = i} {h = h} is page) = let v = stands_at i h is in scan.by_log (held_inode R l i v.a h v.at v.is) page
  owns_there b _ (by_page {i = i} {h = h} is maps) = let v = stands_at i h is in scan.by_page (held_inode R l i v.a h v.at v.is) maps

  pub owns_back : (b : ℕ) (o : Owner) → Owns R l b o → OwnsIn l held b o
  owns_back b (owners.Table c k) h = by_table (owned_table h)
  owns_back b (owners.Log i k) h = let u = owned_log h in let w = is_held i u.a u.log u.is in
      by_log w.held_is (subst (λ (x : Log). slice_get x.pages k ≡ Some b) w.same u.page)
  owns_back b (owners.Data i p) h = let u = owned_page h in let w = is_held i u.a u.log u.is in
      by_page w.held_is (subst (λ (x : Log). block_of (good_of l x) p ≡ Some b) w.same u.maps)

  pub free_there : (b : ℕ) → IsUnowned l held b → IsFree R l b
  free_there b f = record { from = f.from; below = f.below; unowned = λ o h. f.unowned o (owns_back b o h) }

  pub free_back : (b : ℕ) → IsFree R l b → IsUnowned l held b
  free_back b f = record { from = f.from; below = f.below; unowned = λ o h. f.unowned o (owns_there b o h) }
