-- Regions that hold the same inodes, with the same slots, show the same of them and between them.
use Rattle.std.proofs.Common.{◌≡◌, ℕ, ◌+◌, ◌<◌, List, ◌∷◌, sym, ◌∙◌, subst, Some}
use Rattle.nv_region.specs.Region.{Region, word}
use Rattle.nv_super.specs.declared.owners.Owner.{Owner}
use Rattle.nv_super.specs.declared.owners.Run.{Run}
use Rattle.nv_super.specs.declared.faults.Fault.{Fault}
use Rattle.nv_super.specs.Layout.{Layout, slot_of}
use Rattle.nv_super.proofs.Rising.{Lists-same}
use Rattle.nv_alloc.specs.Taking.{pool_at}
use Rattle.nv_alloc.proofs.Changed.{AreRuns-same}
use Rattle.nv_scan.specs.Inode.{Log, IsInode, IsInUse}
use Rattle.nv_scan.specs.Owners.{Owns, by_table, by_log, by_page}
use Rattle.nv_scan.specs.Rows.{IsRow}
use Rattle.nv_scan.specs.Faults.{IsFaultOf, i1, i2, i3, l1, l2, l3, l4, entry}
use Rattle.nv_scan.specs.declared.piece.Row.{Row}
use Rattle.nv_scan.proofs.Only.{slot_in_use}
use Rattle.nv_outcome.specs.Outcome.{AreRows, AreFreeLists, AreNamesOf, HasName, IsCrossFault, IsDoubled, IsFree, IsReached, c1, c2, c2_root, c3, c4, c5, root, step}

-- the slots at an address have the same words, the creation time too
pub record SameSlotWords (U V : Region) (a : ℕ) : Type 0 where
  pub valid : word V a ≡ word U a
  pub kind : word V (a + 8) ≡ word U (a + 8)
  pub head : word V (a + 16) ≡ word U (a + 16)
  pub tail : word V (a + 24) ≡ word U (a + 24)
  pub created : word V (a + 32) ≡ word U (a + 32)

-- the regions hold the same log of each inode, in the same slots
pub record SameInodes (l : Layout) (U V : Region) : Type 0 where
  pub slots : (i a : ℕ) → slot_of l i ≡ Some a → SameSlotWords U V a
  pub there : {i a : ℕ} {log : Log} → IsInode U l i a log → IsInode V l i a log
  pub back : {i a : ℕ} {log : Log} → IsInode V l i a log → IsInode U l i a log

pub turned : {l : Layout} {U V : Region} → SameInodes l U V → SameInodes l V U
turned same = record {
  slots = λ i a is. (let e = same.slots i a is in record { valid = sym e.valid; kind = sym e.kind; head = sym e.head; tail = sym e.tail; created = sym e.created });
  there = λ h. same.back h;
  back = λ h. same.there h;
}

module _ {l : Layout} where
  in_use : {U V : Region} → SameInodes l U V → {i : ℕ} → IsInUse U l i → IsInUse V l i
  in_use same u = (u.0, u.1, same.there u.2)

  -- ---- rows

  row : {U V : Region} → SameInodes l U V → {a : ℕ} {log : Log} {r : Row} → IsRow U l a log r → IsRow V l a log r
  row same {a} {log} {r} is = let e = same.slots r.inode a (slot_in_use is.inode) in record {
    inode = same.there is.inode;
    kind = is.kind;
    numbers = rw e.created is.numbers;
    head = is.head ∙ sym e.head;
    tail = is.tail ∙ sym e.tail;
    pages = is.pages;
    index = is.index;
    names = is.names;
  }

  pub rows_there : {U V : Region} → SameInodes l U V → {rows : List Row} → AreRows U l rows → AreRows V l rows
  rows_there same are = record {
    rising = are.rising;
    each = λ r c. (let w = are.each r c in (w.0, w.1, row same w.2));
    all = λ i u. are.all i (in_use (turned same) u);
  }

  -- ---- blocks

  owns : {U V : Region} → SameInodes l U V → {b : ℕ} {o : Owner} → Owns U l b o → Owns V l b o
  owns same (by_table has) = by_table has
  owns same (by_log h e) = by_log (same.there h) e
  owns same (by_page h e) = by_page (same.there h) e

  free : {U V : Region} → SameInodes l U V → {b : ℕ} → IsFree U l b → IsFree V l b
  free same is = record { from = is.from; below = is.below; unowned = λ o q. is.unowned o (owns (turned same) q) }

  pub free_there : {U V : Region} → SameInodes l U V → {lists : List (List Run)} → AreFreeLists U l lists → AreFreeLists V l lists
  free_there same {lists} are = record {
    pools = are.pools;
    each = λ cpu less. AreRuns-same _ _ (pool_at lists cpu) (λ b w. (w.0, free same w.1)) (λ b w. (w.0, free (turned same) w.1)) (are.each cpu less);
  }

  pub doubled_there : {U V : Region} → SameInodes l U V → {b : ℕ} {o : Owner} → IsDoubled U l b o → IsDoubled V l b o
  doubled_there same is = record { owns = owns same is.owns; another = (is.another.0, is.another.1, owns same is.another.2) }

  -- ---- faults

  pub fault_there : {U V : Region} → SameInodes l U V → {i : ℕ} {f : Fault} → IsFaultOf U l i f → IsFaultOf V l i f
  fault_there same {i} (i1 {a = a} s h) = let e = same.slots i a s in i1 s (subst (λ (n : ℕ). 1 < n) (sym e.valid) h)
  fault_there same {i} (i2 {a = a} s h k) = let e = same.slots i a s in i2 s (e.valid ∙ h) (rw (e.valid, e.kind) k)
  fault_there same {i} (i3 {a = a} {kind = kind} s k t) = let e = same.slots i a s in i3 {kind = kind} s (rw (e.valid, e.kind) k) (rw (e.head, e.tail) t)
  fault_there same (l1 h e) = l1 (same.there h) e
  fault_there same (l2 h e) = l2 (same.there h) e
  fault_there same (l3 h e) = l3 (same.there h) e
  fault_there same (l4 h e) = l4 (same.there h) e
  fault_there same (entry h e) = entry (same.there h) e

  has_name : {U V : Region} → SameInodes l U V → {d i at : ℕ} (name : List ℕ) → HasName U l d name i at → HasName V l d name i at
  has_name same name w = (w.0, w.1, same.there w.2, w.3, w.4)

  names_of : {U V : Region} → SameInodes l U V → {i : ℕ} {names : List (ℕ × List ℕ)} → AreNamesOf U l i names → AreNamesOf V l i names
  names_of same {i} {names} are = Lists-same (λ (x : ℕ × List ℕ). x.0 ∷ x.1) _ _ names (λ x w. (w.0, has_name same x.1 w.1)) (λ x w. (w.0, has_name (turned same) x.1 w.1)) are

  reached : {U V : Region} → SameInodes l U V → {i : ℕ} → IsReached U l i → IsReached V l i
  reached same (root h k) = root (same.there h) k
  reached same (step name at r h u) = step name at (reached same r) (has_name same name h) (in_use same u)

  pub cross_there : {U V : Region} → SameInodes l U V → {f : Fault} → IsCrossFault U l f → IsCrossFault V l f
  cross_there same (c1 name i h out) = c1 name i (has_name same name h) (λ u. out (in_use (turned same) u))
  cross_there same (c2 names h dir other are ne) = c2 names (same.there h) dir other (names_of same are) ne
  cross_there same (c2_root names h dir are some) = c2_root names (same.there h) dir (names_of same are) some
  cross_there same (c3 names h file are ne) = c3 names (same.there h) file (names_of same are) ne
  cross_there same (c4 u out) = c4 (in_use same u) (λ r. out (reached (turned same) r))
  cross_there same (c5 out) = c5 (λ a log h k. out a log (same.back h) k)
