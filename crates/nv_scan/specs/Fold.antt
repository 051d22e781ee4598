-- What is kept while a log is read.
use Rattle.std.specs.Prelude.{◌≡◌, ℕ, eqb, Bool, if◌then◌else◌, List, [], ◌++◌, Option, Some, None, unwrap_or}
use Rattle.std.specs.List.{cons_option, IsDistinct}
use Rattle.nv_super.specs.declared.superblock.Super.{Super}
use Rattle.nv_super.specs.declared.kind.Kind.{Kind}
use Rattle.nv_super.specs.declared.faults.Fault.{Fault}
use Rattle.nv_super.specs.declared.faults.Fault.TheVariants as faults
use Rattle.nv_entry.specs.declared.content.ContentFault.{ContentFault}
use Rattle.nv_entry.specs.declared.content.ContentFault.TheVariants.{OutOfRange, WrongKind}
use Rattle.nv_entry.specs.declared.entry.Operation.{Operation}
use Rattle.nv_entry.specs.declared.entry.Operation.TheVariants.{Add, Remove}
use Rattle.nv_entry.specs.declared.entry.Entry.{Entry}
use Rattle.nv_entry.specs.declared.entry.Entry.TheVariants.{NextPage, Write, Attr, Name, Links}
use Rattle.nv_entry.specs.Content.{content_fault, is_good}
use Rattle.nv_logpage.specs.declared.found.Placed.{Placed}
use Rattle.nv_logpage.specs.Reads.{places_of}
use Rattle.nv_logpage.specs.Good.{good_entries}
use Rattle.nv_radix.specs.Runs.{block_by}
use Rattle.nv_names.specs.Names.{name_at}
use Rattle.nv_scan.specs.State.{says_size, says_mode, says_owner, says_group, says_links, says_time, says_block, says_name, block_of, named}
use Rattle.nv_scan.specs.Faults.{Has, IsOnce, IsEntryFault}
use Rattle.nv_scan.specs.Rows.{AreNumbers}
use Rattle.nv_scan.specs.declared.numbers.Numbers.{Numbers}
use Rattle.nv_scan.specs.declared.fold.Fold.{Fold}

-- a fault in what an entry at a place says
abbrev pub told : ContentFault → ℕ → ℕ → Fault
told OutOfRange i at = faults.E1 i at
told WrongKind i at = faults.E2 i at

-- an add of a name that is there, or a removal of one that isn't
abbrev pub clash : Operation → ℕ → ℕ → Option (ℕ × ℕ) → Option Fault
clash Add i at (Some old) = Some (faults.E3 i at)
clash Add i at None = None
clash Remove i at (Some old) = None
clash Remove i at None = Some (faults.E4 i at)

-- the fault of a good entry beside these names
abbrev pub name_fault : ℕ → (List ℕ → Option (ℕ × ℕ)) → ℕ → Entry → Option Fault
name_fault i known at (Name e) = clash e.operation i at (known e.name)
name_fault i known at NextPage = None
name_fault i known at (Write e) = None
name_fault i known at (Attr e) = None
name_fault i known at (Links e) = None

-- by itself first, and then by the names
abbrev pub fault_with : ℕ → (List ℕ → Option (ℕ × ℕ)) → Placed → Option ContentFault → Option Fault
fault_with i known x (Some fault) = Some (told fault i x.at)
fault_with i known x None = name_fault i known x.at x.entry

-- the fault of an entry, where the names before it are known
abbrev pub entry_fault : Super → Kind → ℕ → (List ℕ → Option (ℕ × ℕ)) → Placed → Option Fault
entry_fault s kind i known x = fault_with i known x (content_fault s kind x.entry)

-- the word on a subject after an entry, which counts where it is good
abbrev pub word_after : {V : Type 0} → Bool → Option V → V → V
word_after good said old = if good then unwrap_or said old else old

-- what one entry makes of the numbers
pub record Counts (good : Bool) (x : Placed) (old new : Numbers) : Type 0 where
  pub size : new.size ≡ word_after good (says_size x) old.size
  pub mode : new.mode ≡ word_after good (says_mode x) old.mode
  pub owner : new.owner ≡ word_after good (says_owner x) old.owner
  pub group : new.group ≡ word_after good (says_group x) old.group
  pub links : new.links ≡ word_after good (says_links x) old.links
  pub time : new.time ≡ word_after good (says_time x) old.time

-- what one entry makes of all that is kept
pub record Takes (s : Super) (kind : Kind) (i : ℕ) (x : Placed) (old new : Fold) : Type 0 where
  pub numbers : Counts (is_good s kind x.entry) x old.numbers new.numbers
  pub extents : (p : ℕ) → block_by new.extents p ≡ word_after (is_good s kind x.entry) (says_block p x) (block_by old.extents p)
  pub names : (q : List ℕ) → name_at new.names q ≡ word_after (is_good s kind x.entry) (says_name q x) (name_at old.names q)
  pub found : new.faults.items ≡ old.faults.items ++ cons_option (entry_fault s kind i (name_at old.names) x) []

-- What is kept is what these entries say, and what is wrong with them, once each where no two stand at one place.
pub record Holds (s : Super) (kind : Kind) (i created : ℕ) (entries : List Placed) (f : Fold) : Type 0 where
  pub numbers : AreNumbers created (good_entries s kind entries) f.numbers
  pub extents : (p : ℕ) → block_by f.extents p ≡ block_of (good_entries s kind entries) p
  pub names : (q : List ℕ) → name_at f.names q ≡ named (good_entries s kind entries) q
  pub found : Has (IsEntryFault s kind i entries) f.faults.items
  pub once : IsDistinct eqb (places_of entries) → IsOnce f.faults.items
