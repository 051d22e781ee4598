-- What each file call leaves of the logs: those that it touches are the old entries with its own behind them, all others are as before.
use Rattle.std.specs.Prelude.{◌≡◌, ◌≢◌, ◌↔◌, ℕ, ◌+◌, ◌-◌, ◌<◌, false, ◌||◌, not, List, [], ◌∷◌, ◌++◌, Some, None}
use Rattle.std.specs.List.{All, Contains}
use Rattle.nv_region.specs.Region.{Region}
use Rattle.nv_super.specs.declared.superblock.Super.{Super}
use Rattle.nv_super.specs.declared.kind.Kind.{Kind}
use Rattle.nv_super.specs.Layout.{Layout, is_name_number, slot_of, most_links}
use Rattle.nv_entry.specs.Content.{has_bad_byte, is_dots}
use Rattle.nv_entry.specs.declared.entry.Operation.{Operation}
use Rattle.nv_entry.specs.declared.entry.Operation.TheVariants.{Add, Remove}
use Rattle.nv_entry.specs.declared.entry.AttrEntry.{AttrEntry}
use Rattle.nv_entry.specs.declared.entry.Entry.TheVariants as entries
use Rattle.nv_logpage.specs.declared.found.Placed.{Placed}
use Rattle.nv_logpage.specs.Grows.{SamePage}
use Rattle.nv_scan.specs.Scanned.{SameSlot}
use Rattle.nv_scan.specs.State.{says_links, says_name}
use Rattle.nv_scan.specs.Inode.{Log, IsInode, IsInUse}
use Rattle.nv_graph.specs.Graph.{Node}

-- a name entry at a place
abbrev pub name_entry : ℕ → Operation → ℕ → List ℕ → ℕ → Placed
name_entry at operation i name time = record { at = at; entry = entries.Name (record { operation = operation; inode = i; time = time; name = name }) }

-- a links entry at a place
abbrev pub links_entry : ℕ → ℕ → ℕ → Placed
links_entry at count time = record { at = at; entry = entries.Links (record { count = count; time = time }) }

-- a name that a path can say, and a number that a name may say
abbrev pub IsGoodName : Super → ℕ → List ℕ → Type 0
IsGoodName s i name = (has_bad_byte name || is_dots name || not (is_name_number s i)) ≡ false

-- inode j is read the same in both regions
abbrev pub SameInode : Region → Region → Layout → ℕ → Type 0
SameInode R S l j = (a : ℕ) (log : Log) → IsInode R l j a log ↔ IsInode S l j a log

-- the log of inode j has these entries more
pub record Grows (R S : Region) (l : Layout) (j : ℕ) (more : List Placed) : Type 0 where
  pub a : ℕ
  pub old : Log
  pub new : Log
  pub was : IsInode R l j a old
  pub is : IsInode S l j a new
  pub kind : new.kind ≡ old.kind
  pub entries : new.entries ≡ old.entries ++ more

-- the log of directory d has the entry for a name more
abbrev pub SaysName : Region → Region → Layout → ℕ → Operation → List ℕ → ℕ → Type 0
SaysName R S l d operation name i = (at : ℕ) × (time : ℕ) × Grows R S l d (name_entry at operation i name time ∷ [])

-- the log of file i has the entry for a link count more
abbrev pub SaysLinks : Region → Region → Layout → ℕ → ℕ → Type 0
SaysLinks R S l i count = (at : ℕ) × (time : ℕ) × Grows R S l i (links_entry at count time ∷ [])

-- create, mkdir
pub record CreateStep (R S : Region) (l : Layout) (kind : Kind) (d : ℕ) (name : List ℕ) (i : ℕ) : Type 0 where
  pub others : (j : ℕ) → j ≢ i → j ≢ d → SameInode R S l j
  pub unused : IsInUse R l i → ⊥
  pub a : ℕ
  pub log : Log
  pub is : IsInode S l i a log
  pub of_kind : log.kind ≡ kind
  pub attributes : (at : ℕ) × (e : AttrEntry) × (log.entries ≡ record { at = at; entry = entries.Attr e } ∷ [])
  pub parent : SaysName R S l d Add name i
  pub good : IsGoodName l.sup i name

-- link
pub record LinkStep (R S : Region) (l : Layout) (d : ℕ) (name : List ℕ) (i : ℕ) (n : Node) : Type 0 where
  pub others : (j : ℕ) → j ≢ i → j ≢ d → SameInode R S l j
  pub file : SaysLinks R S l i (n.links + 1)
  pub limit : n.links < most_links
  pub parent : SaysName R S l d Add name i
  pub good : IsGoodName l.sup i name

-- unlink, more names left
pub record UnlinkStep (R S : Region) (l : Layout) (d : ℕ) (name : List ℕ) (i : ℕ) (n : Node) : Type 0 where
  pub others : (j : ℕ) → j ≢ i → j ≢ d → SameInode R S l j
  pub file : SaysLinks R S l i (n.links - 1)
  pub parent : SaysName R S l d Remove name i

-- unlink of the last name, and rmdir
pub record RemoveStep (R S : Region) (l : Layout) (d : ℕ) (name : List ℕ) (i : ℕ) : Type 0 where
  pub others : (j : ℕ) → j ≢ i → j ≢ d → SameInode R S l j
  pub unused : IsInUse S l i → ⊥
  pub parent : SaysName R S l d Remove name i

-- rename, in two directories or in one
pub data RenameStep (R S : Region) (l : Layout) (d : ℕ) (name : List ℕ) (e : ℕ) (new : List ℕ) (i : ℕ) : Type 0 where
  in_two : d ≢ e → ((j : ℕ) → j ≢ d → j ≢ e → SameInode R S l j) → SaysName R S l d Remove name i → SaysName R S l e Add new i → IsGoodName l.sup i new → RenameStep R S l d name e new i
  in_one : (at next time : ℕ) → d ≡ e → ((j : ℕ) → j ≢ d → SameInode R S l j) → Grows R S l d (name_entry at Remove i name time ∷ name_entry next Add i new time ∷ [])
      → IsGoodName l.sup i new → RenameStep R S l d name e new i

-- an entry that says nothing of names and links
pub record IsQuiet (x : Placed) : Type 0 where
  pub links : says_links x ≡ None
  pub name : (q : List ℕ) → says_name q x ≡ None

-- write, set_size, set_attr
pub record TouchStep (R S : Region) (l : Layout) (i : ℕ) : Type 0 where
  pub others : (j : ℕ) → j ≢ i → SameInode R S l j
  pub more : List Placed
  pub grows : Grows R S l i more
  pub quiet : All IsQuiet more

-- the words that inode j is read from are the same in both regions
pub record SameWords (R S : Region) (l : Layout) (j : ℕ) : Type 0 where
  pub slot : (a : ℕ) → slot_of l j ≡ Some a → SameSlot R S a
  pub pages : (a : ℕ) (log : Log) → IsInode R l j a log → (b : ℕ) → Contains log.pages b → SamePage R S b
