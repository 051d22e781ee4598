-- An inode whose log grew.
use Rattle.std.specs.Prelude.{◌≡◌, ◌⊎◌, ℕ, List, ◌++◌, Some, None}
use Rattle.std.specs.List.{Contains}
use Rattle.nv_super.specs.declared.superblock.Super.{Super}
use Rattle.nv_super.specs.declared.kind.Kind.{Kind}
use Rattle.nv_super.specs.declared.faults.Fault.{Fault}
use Rattle.nv_super.specs.Layout.{Layout}
use Rattle.nv_logpage.specs.declared.found.Placed.{Placed}
use Rattle.nv_logpage.specs.Good.{good_entries}
use Rattle.nv_scan.specs.State.{block_of, named, links_of}
use Rattle.nv_scan.specs.Faults.{IsEntryFault}
use Rattle.nv_scan.specs.Fold.{entry_fault}
use Rattle.nv_mounted.specs.Held.{Held, Store, good_in}
use Rattle.nv_mounted.specs.Blocks.{IsUnowned}

-- what is held of an inode whose log grew up to a new tail, by these entries and these pages
abbrev pub grown : Held → ℕ → List Placed → List ℕ → Held
grown h new more fresh = record h { tail = new; entries = h.entries ++ more; pages = h.pages ++ fresh }

-- the pages are free blocks
abbrev pub AreFree : Layout → Store → List ℕ → Type 0
AreFree l held fresh = (b : ℕ) → Contains fresh b → IsUnowned l held b

-- nothing is wrong with these entries of an inode
abbrev pub NoEntryFault : Super → Kind → ℕ → List Placed → Type 0
NoEntryFault s kind i entries = (f : Fault) → IsEntryFault s kind i entries f → ⊥

-- nothing is wrong with an entry behind these
abbrev pub FitsBehind : Super → Kind → ℕ → List Placed → Placed → Type 0
FitsBehind s kind i entries x = entry_fault s kind i (named (good_entries s kind entries)) x ≡ None

-- the files' blocks are as before
abbrev pub SameFile : Layout → Held → Held → Type 0
SameFile l h new = (p : ℕ) → block_of (good_in l new) p ≡ block_of (good_in l h) p

-- Names and link counts are as before.
pub record SameNames (l : Layout) (h new : Held) : Type 0 where
  pub kind : new.kind ≡ h.kind
  pub names : (q : List ℕ) → named (good_in l new) q ≡ named (good_in l h) q
  pub links : links_of (good_in l new) ≡ links_of (good_in l h)

-- ---- data

-- a page of the file maps to the block
abbrev pub Maps : Layout → Held → ℕ → Type 0
Maps l h b = (p : ℕ) × (block_of (good_in l h) p ≡ Some b)

-- the file had the block, and has it no more
abbrev pub LetsGo : Layout → Held → Held → ℕ → Type 0
LetsGo l h new b = Maps l h b × (Maps l new b → ⊥)

-- The log grew by these pages, which were free. Each page of the file has the block that it had, or one that was free, no
-- page of the log and no other page's.
pub record GrowsByData (l : Layout) (held : Store) (h new : Held) (fresh : List ℕ) : Type 0 where
  pub pages : new.pages ≡ h.pages ++ fresh
  pub free : AreFree l held fresh
  pub from : (p b : ℕ) → block_of (good_in l new) p ≡ Some b → (block_of (good_in l h) p ≡ Some b) ⊎ (IsUnowned l held b × (Contains fresh b → ⊥))
  pub once : (p q b : ℕ) → IsUnowned l held b → block_of (good_in l new) p ≡ Some b → block_of (good_in l new) q ≡ Some b → p ≡ q
