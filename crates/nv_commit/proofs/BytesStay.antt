-- What commits by a journal leave of the bytes of files.
use Rattle.std.proofs.Common.{◌≡◌, ℕ, ◌+◌, ◌*◌, ◌/◌, ◌<◌, ◌≤◌, inl, inr, List, arith, Some}
use Rattle.nv_region.specs.Region.{Region}
use Rattle.nv_region.specs.Stops.{IsMixed}
use Rattle.nv_super.specs.Layout.{Layout, slot_of}
use Rattle.nv_entry.specs.declared.entry.Entry.{Entry}
use Rattle.nv_journal.specs.Undo.{journal}
use Rattle.nv_scan.specs.State.{block_of}
use Rattle.nv_scan.proofs.Blocks.{data_pages}
use Rattle.nv_mounted.specs.Held.{Held, Store, good_in}
use Rattle.nv_mounted.specs.Bytes.{byte_of}
use Rattle.nv_mounted.specs.Loose.{Loose}
use Rattle.nv_mounted.specs.Slots.{SlotsClear}
use Rattle.nv_mounted.proofs.BytesKept.{data_stays, no_loose_data}
use Rattle.nv_commit.specs.declared.together.Extension.{Extension}
use Rattle.nv_commit.specs.declared.making.NewInode.{NewInode}
use Rattle.nv_commit.specs.Extends.{CanExtend}
use Rattle.nv_commit.specs.Together.{CanExtendTwo, TogetherWords}
use Rattle.nv_commit.specs.Makes.{CanMake, MakeWords}
use Rattle.nv_commit.specs.Removes.{CanRemove, RemoveWords}
use Rattle.nv_commit.specs.Replaces.{CanReplace, ReplaceWords}
use Rattle.nv_commit.specs.ThreeLogs.{CanExtendThree, ThreeTogether}
use Rattle.nv_commit.proofs.Extends.{loose_there, slots}
use Rattle.nv_commit.proofs.Makes.{prepared_loose}

module _ {R : Region} {l : Layout} {held : Store} {d : ℕ} {g : Held} {slot tail : ℕ} {entries : List Entry} {fresh : List ℕ} (can : CanExtend R l held d g slot tail entries fresh) {i : ℕ} {h : Held} (is : held i ≡ Some h)
    (p b k v : ℕ) (maps : block_of (good_in l h) p ≡ Some b) (block : 8 * k / 4096 ≡ b) where
  -- no block of a file has a loose word
  off_loose : Loose l held k v → ⊥
  off_loose w = let sound = can.sound in let faultless = sound.faultless in no_loose_data l held R i h (slots can) faultless.undoubled sound.shows is p b k v maps block w

  -- nor one of a slot
  off_slot : (m a at : ℕ) → slot_of l m ≡ Some a → a ≤ at → at < a + 128 → k ≡ at / 8 → ⊥
  off_slot m a at there from below here =
      let clear : SlotsClear l held = slots can in
      let whole = clear.whole m a there in
      clear.unmapped i p b h is maps m a there (omega (arith, block, here, from, below, whole))

  -- nor one of a journal
  off_journal : (cpu : ℕ) → cpu < l.sup.cpus → journal cpu ≤ 8 * k → 8 * k < journal cpu + 4096 → ⊥
  off_journal cpu low from below = let inside = data_pages l.sup h.kind h.entries p b maps in let behind = inside.1 in omega (arith, from, below, block, behind, low)

-- Where two logs grow together, each byte that a file had is where it was.
module _ {R : Region} {l : Layout} {held : Store} {cpu d e : ℕ} {g f : Held} {x y : Extension} (can : CanExtendTwo R l held cpu d g x e f y) where
  off_files : {i : ℕ} {h : Held} → held i ≡ Some h → (p b k v : ℕ) → block_of (good_in l h) p ≡ Some b → 8 * k / 4096 ≡ b → TogetherWords cpu x y k v → ⊥
  off_files is p b k v maps block (inl (inl w)) = off_loose can.first is p b k v maps block (loose_there can.first k v w)
  off_files is p b k v maps block (inl (inr w)) = off_loose can.second is p b k v maps block (loose_there can.second k v w)
  off_files is p b k v maps block (inr (inl w)) = off_journal can.first is p b k v maps block cpu can.journals w.0 w.1
  off_files is p b k v maps block (inr (inr (inl w))) = off_slot can.first is p b k v maps block d x.slot (x.slot + 24) can.first.at (omega arith) (omega arith) w.0
  off_files is p b k v maps block (inr (inr (inr w))) = off_slot can.first is p b k v maps block e y.slot (y.slot + 24) can.second.at (omega arith) (omega arith) w.0

  pub together_bytes : (S : Region) → IsMixed R (TogetherWords cpu x y) S → (i : ℕ) (h : Held) → held i ≡ Some h → (z : ℕ) → byte_of S l h z ≡ byte_of R l h z
  together_bytes S mixed i h is z = data_stays l (TogetherWords cpu x y) R S h mixed (λ p b k v maps block w. off_files is p b k v maps block w) z

-- So it is where an inode is made.
module _ {R : Region} {l : Layout} {held : Store} {cpu j : ℕ} {n : NewInode} {d : ℕ} {g : Held} {x : Extension} (can : CanMake R l held cpu j n d g x) where
  off_made : {i : ℕ} {h : Held} → held i ≡ Some h → (p b k v : ℕ) → block_of (good_in l h) p ≡ Some b → 8 * k / 4096 ≡ b → MakeWords cpu n x k v → ⊥
  off_made is p b k v maps block (inl w) = off_loose can.parent is p b k v maps block (prepared_loose can k v w)
  off_made is p b k v maps block (inr (inl w)) = off_journal can.parent is p b k v maps block cpu can.journals w.0 w.1
  off_made is p b k v maps block (inr (inr (inl w))) = off_slot can.parent is p b k v maps block j n.slot n.slot can.at (omega arith) (omega arith) w.0
  off_made is p b k v maps block (inr (inr (inr w))) = off_slot can.parent is p b k v maps block d x.slot (x.slot + 24) can.parent.at (omega arith) (omega arith) w.0

  pub made_bytes : (S : Region) → IsMixed R (MakeWords cpu n x) S → (i : ℕ) (h : Held) → held i ≡ Some h → (y : ℕ) → byte_of S l h y ≡ byte_of R l h y
  made_bytes S mixed i h is y = data_stays l (MakeWords cpu n x) R S h mixed (λ p b k v maps block w. off_made is p b k v maps block w) y

-- And where one goes.
module _ {R : Region} {l : Layout} {held : Store} {cpu d : ℕ} {g : Held} {x : Extension} {j slot : ℕ} (can : CanRemove R l held cpu d g x j slot) where
  off_removed : {i : ℕ} {h : Held} → held i ≡ Some h → (p b k v : ℕ) → block_of (good_in l h) p ≡ Some b → 8 * k / 4096 ≡ b → RemoveWords cpu x slot k v → ⊥
  off_removed is p b k v maps block (inl w) = off_loose can.parent is p b k v maps block (loose_there can.parent k v w)
  off_removed is p b k v maps block (inr (inl w)) = off_journal can.parent is p b k v maps block cpu can.journals w.0 w.1
  off_removed is p b k v maps block (inr (inr (inl w))) = off_slot can.parent is p b k v maps block d x.slot (x.slot + 24) can.parent.at (omega arith) (omega arith) w.0
  off_removed is p b k v maps block (inr (inr (inr w))) = off_slot can.parent is p b k v maps block j slot slot can.at (omega arith) (omega arith) w.0

  pub removed_bytes : (S : Region) → IsMixed R (RemoveWords cpu x slot) S → (i : ℕ) (h : Held) → held i ≡ Some h → (y : ℕ) → byte_of S l h y ≡ byte_of R l h y
  removed_bytes S mixed i h is y = data_stays l (RemoveWords cpu x slot) R S h mixed (λ p b k v maps block w. off_removed is p b k v maps block w) y

-- And where one goes as its name is given to another.
module _ {R : Region} {l : Layout} {held : Store} {cpu d : ℕ} {g : Held} {x : Extension} {e : ℕ} {f : Held} {y : Extension} {j slot : ℕ} (can : CanReplace R l held cpu d g x e f y j slot) where
  off_replaced : {i : ℕ} {h : Held} → held i ≡ Some h → (p b k v : ℕ) → block_of (good_in l h) p ≡ Some b → 8 * k / 4096 ≡ b → ReplaceWords cpu x y slot k v → ⊥
  off_replaced is p b k v maps block (inl (inl w)) = off_loose can.two.first is p b k v maps block (loose_there can.two.first k v w)
  off_replaced is p b k v maps block (inl (inr w)) = off_loose can.two.second is p b k v maps block (loose_there can.two.second k v w)
  off_replaced is p b k v maps block (inr (inl w)) = off_journal can.two.first is p b k v maps block cpu can.two.journals w.0 w.1
  off_replaced is p b k v maps block (inr (inr (inl w))) = off_slot can.two.first is p b k v maps block d x.slot (x.slot + 24) can.two.first.at (omega arith) (omega arith) w.0
  off_replaced is p b k v maps block (inr (inr (inr (inl w)))) = off_slot can.two.first is p b k v maps block e y.slot (y.slot + 24) can.two.second.at (omega arith) (omega arith) w.0
  off_replaced is p b k v maps block (inr (inr (inr (inr (inl w))))) = off_slot can.two.first is p b k v maps block j slot slot can.at (omega arith) (omega arith) w.0
  off_replaced is p b k v maps block (inr (inr (inr (inr (inr w))))) = absurd w

  pub replaced_bytes : (S : Region) → IsMixed R (ReplaceWords cpu x y slot) S → (i : ℕ) (h : Held) → held i ≡ Some h → (z : ℕ) → byte_of S l h z ≡ byte_of R l h z
  replaced_bytes S mixed i h is z = data_stays l (ReplaceWords cpu x y slot) R S h mixed (λ p b k v maps block w. off_replaced is p b k v maps block w) z

-- And where three logs grow together.
module _ {R : Region} {l : Layout} {held : Store} {cpu i : ℕ} {h : Held} {x : Extension} {j : ℕ} {g : Held} {y : Extension} {k : ℕ} {f : Held} {z : Extension} (can : CanExtendThree R l held cpu i h x j g y k f z) where
  off_three : {m : ℕ} {o : Held} → held m ≡ Some o → (p b n v : ℕ) → block_of (good_in l o) p ≡ Some b → 8 * n / 4096 ≡ b → ThreeTogether cpu x y z n v → ⊥
  off_three is p b n v maps block (inl (inl w)) = off_loose can.third is p b n v maps block (loose_there can.third n v w)
  off_three is p b n v maps block (inl (inr (inl w))) = off_loose can.two.first is p b n v maps block (loose_there can.two.first n v w)
  off_three is p b n v maps block (inl (inr (inr w))) = off_loose can.two.second is p b n v maps block (loose_there can.two.second n v w)
  off_three is p b n v maps block (inr (inl w)) = off_journal can.third is p b n v maps block cpu can.two.journals w.0 w.1
  off_three is p b n v maps block (inr (inr (inl w))) = off_slot can.third is p b n v maps block i x.slot (x.slot + 24) can.two.first.at (omega arith) (omega arith) w.0
  off_three is p b n v maps block (inr (inr (inr (inl w)))) = off_slot can.third is p b n v maps block j y.slot (y.slot + 24) can.two.second.at (omega arith) (omega arith) w.0
  off_three is p b n v maps block (inr (inr (inr (inr (inl w))))) = off_slot can.third is p b n v maps block k z.slot (z.slot + 24) can.third.at (omega arith) (omega arith) w.0
  off_three is p b n v maps block (inr (inr (inr (inr (inr w))))) = absurd w

  pub three_bytes : (S : Region) → IsMixed R (ThreeTogether cpu x y z) S → (m : ℕ) (o : Held) → held m ≡ Some o → (a : ℕ) → byte_of S l o a ≡ byte_of R l o a
  three_bytes S mixed m o is a = data_stays l (ThreeTogether cpu x y z) R S o mixed (λ p b n v maps block w. off_three is p b n v maps block w) a
