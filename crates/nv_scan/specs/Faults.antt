-- What is wrong with one inode: its slot, its log, its entries.
use Rattle.std.specs.Prelude.{◌≡◌, ℕ, ◌+◌, ◌<◌, List, [], ◌∷◌, ◌++◌, Some, None, false}
use Rattle.std.specs.List.{Contains}
use Rattle.nv_region.specs.Region.{Region, word}
use Rattle.nv_super.specs.declared.superblock.Super.{Super}
use Rattle.nv_super.specs.declared.kind.Kind.{Kind}
use Rattle.nv_super.specs.declared.faults.Fault.{Fault}
use Rattle.nv_super.specs.declared.faults.Fault.TheVariants as faults
use Rattle.nv_super.specs.Layout.{Layout, slot_of}
use Rattle.nv_inode.specs.Slot.{kind_at, is_right_log}
use Rattle.nv_entry.specs.declared.content.ContentFault.TheVariants.{OutOfRange, WrongKind}
use Rattle.nv_entry.specs.declared.entry.Operation.TheVariants.{Add, Remove}
use Rattle.nv_entry.specs.declared.entry.NameEntry.{NameEntry}
use Rattle.nv_entry.specs.declared.entry.Entry.TheVariants.{Name}
use Rattle.nv_entry.specs.Content.{content_fault}
use Rattle.nv_logpage.specs.declared.found.Placed.{Placed}
use Rattle.nv_logpage.specs.declared.found.LogFault.TheVariants as logs
use Rattle.nv_logpage.specs.Reads.{placed}
use Rattle.nv_logpage.specs.Good.{good_entries}
use Rattle.nv_scan.specs.State.{named}
use Rattle.nv_scan.specs.Inode.{Log, IsInode}

-- The list has just what P holds of.
pub record Has {A : Type 0} (P : A → Type 0) (xs : List A) : Type 0 where
  pub each : (x : A) → Contains xs x → P x
  pub all : (x : A) → P x → Contains xs x

-- no element stands twice
abbrev pub IsOnce : {A : Type 0} → List A → Type 0
IsOnce [] = Unit {0}
IsOnce (x ∷ xs) = (Contains xs x → ⊥) × IsOnce xs

-- The list has just what P holds of, once each, in any order.
pub record HasOnce {A : Type 0} (P : A → Type 0) (xs : List A) : Type 0 where
  pub has : Has P xs
  pub open has use *
  pub once : IsOnce xs

-- The element stands in the list behind these.
abbrev pub StandsBehind : {A : Type 0} → List A → List A → A → Type 0
StandsBehind {A} xs before x = (after : List A) × (xs ≡ before ++ x ∷ after)

-- What is wrong with an entry of inode i, by itself or by the good name entries before it.
pub data IsEntryFault (s : Super) (kind : Kind) (i : ℕ) (entries : List Placed) : Fault → Type 0 where
  -- what the entry says is out of range
  e1 : (before : List Placed) (x : Placed) → StandsBehind entries before x → content_fault s kind x.entry ≡ Some OutOfRange → IsEntryFault s kind i entries (faults.E1 i x.at)
  -- inodes of this kind have no such entry
  e2 : (before : List Placed) (x : Placed) → StandsBehind entries before x → content_fault s kind x.entry ≡ Some WrongKind → IsEntryFault s kind i entries (faults.E2 i x.at)
  -- a good entry adds a name that the directory has by the entries before it
  e3 : (before : List Placed) (at : ℕ) (e : NameEntry) (old : ℕ × ℕ) → StandsBehind entries before (placed at (Name e)) → content_fault s kind (Name e) ≡ None → e.operation ≡ Add
      → named (good_entries s kind before) e.name ≡ Some old → IsEntryFault s kind i entries (faults.E3 i at)
  -- a good entry removes a name that the directory doesn't have by the entries before it
  e4 : (before : List Placed) (at : ℕ) (e : NameEntry) → StandsBehind entries before (placed at (Name e)) → content_fault s kind (Name e) ≡ None → e.operation ≡ Remove
      → named (good_entries s kind before) e.name ≡ None → IsEntryFault s kind i entries (faults.E4 i at)

-- What is wrong with inode i alone.
pub data IsFaultOf (R : Region) (l : Layout) (i : ℕ) : Fault → Type 0 where
  -- the valid word is neither 0 nor 1
  i1 : {a : ℕ} → slot_of l i ≡ Some a → 1 < word R a → IsFaultOf R l i (faults.I1 i)
  -- valid, but of no kind
  i2 : {a : ℕ} → slot_of l i ≡ Some a → word R a ≡ 1 → kind_at R a ≡ None → IsFaultOf R l i (faults.I2 i)
  -- in use, with a head or a tail that isn't right
  i3 : {a : ℕ} {kind : Kind} → slot_of l i ≡ Some a → kind_at R a ≡ Some kind → is_right_log l.sup (word R (a + 16)) (word R (a + 24)) ≡ false → IsFaultOf R l i (faults.I3 i)
  -- a link of the log doesn't lead to a data block
  l1 : {a at : ℕ} {log : Log} → IsInode R l i a log → log.fault ≡ Some (record { fault = logs.L1; at = at }) → IsFaultOf R l i (faults.L1 i at)
  -- a link leads to a page that was read before
  l2 : {a at : ℕ} {log : Log} → IsInode R l i a log → log.fault ≡ Some (record { fault = logs.L2; at = at }) → IsFaultOf R l i (faults.L2 i at)
  -- no entry is spelled where one could stand
  l3 : {a at : ℕ} {log : Log} → IsInode R l i a log → log.fault ≡ Some (record { fault = logs.L3; at = at }) → IsFaultOf R l i (faults.L3 i at)
  -- an entry in the tail's page passes the tail
  l4 : {a at : ℕ} {log : Log} → IsInode R l i a log → log.fault ≡ Some (record { fault = logs.L4; at = at }) → IsFaultOf R l i (faults.L4 i at)
  -- a fault of an entry that was read
  entry : {a : ℕ} {log : Log} {f : Fault} → IsInode R l i a log → IsEntryFault l.sup log.kind i log.entries f → IsFaultOf R l i f
