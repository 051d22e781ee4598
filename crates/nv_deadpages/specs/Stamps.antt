-- The page of a log that was the last to say something of a file's page.
use Rattle.std.specs.Prelude.{◌≡◌, ◌/◌, ◌||◌, ℕ, nat_le, List, Option, Some, None, MatchBool}
use Rattle.std.specs.Option.{option_map}
use Rattle.nv_radix.specs.declared.TheConstants.{MAX_FILE_PAGES}
use Rattle.nv_region.specs.Region.{Region}
use Rattle.nv_super.specs.declared.superblock.Super.{Super}
use Rattle.nv_super.specs.declared.kind.Kind.{Kind}
use Rattle.nv_entry.specs.Content.{is_good}
use Rattle.nv_logpage.specs.declared.found.LogEnd.{LogEnd}
use Rattle.nv_logpage.specs.declared.found.Placed.{Placed}
use Rattle.nv_logpage.specs.Good.{good_entries}
use Rattle.nv_logpage.specs.Progress.{Progress, Leads}
use Rattle.nv_logpage.specs.Reads.{Reads}
use Rattle.nv_radix.specs.Pages.{Pages, block_at, in_run}
use Rattle.nv_radix.specs.Runs.{Runs, block_by}
use Rattle.nv_scan.specs.LastWord.{last_word}
use Rattle.nv_scan.specs.State.{says_block}
use Rattle.nv_scan.specs.Fold.{word_after}
use Rattle.nv_scan.specs.declared.piece.Row.{Row}

-- the log page of an entry that says something of a file's page
abbrev pub page_saying : ℕ → Placed → Option (Option ℕ)
page_saying p x = option_map (λ (b : Option ℕ). Some (x.at / 4096)) (says_block p x)

-- the log page of the last good entry that says something of a file's page
abbrev pub said_last_in : Super → Kind → List Placed → ℕ → Option ℕ
said_last_in s kind es p = last_word (page_saying p) None (good_entries s kind es)

-- A stamp of a file's page is a number that tells the log page that said something of it last. Pages without one may be told
-- of too.
abbrev pub AreStamps : Super → Kind → List Placed → Runs → Type 0
AreStamps s kind es stamps = (p v : ℕ) → block_by stamps p ≡ Some v → said_last_in s kind es p ≡ Some (v / MAX_FILE_PAGES)

-- a run of pages and those from one on have stamps of one log page, or none; the others keep theirs
abbrev pub Stamped : ℕ → ℕ → ℕ → ℕ → Runs → Runs → Type 0
Stamped page past offset count old new = (p v : ℕ) → block_by new p ≡ Some v → MatchBool (in_run offset count p || nat_le past p) (v / MAX_FILE_PAGES ≡ page) (block_by old p ≡ Some v)

-- what one entry makes of stamps: those that told of the entries before it tell of it too
abbrev pub Stamps : Super → Kind → Placed → Runs → Runs → Type 0
Stamps s kind x old new = (p v : ℕ) (last : Option ℕ) → block_by new p ≡ Some v → (block_by old p ≡ Some v → last ≡ Some (v / MAX_FILE_PAGES))
    → word_after (is_good s kind x.entry) (page_saying p x) last ≡ Some (v / MAX_FILE_PAGES)

-- The stamps tell of the entries of the whole log.
pub record AreStampsOf (R : Region) (s : Super) (row : Row) (stamps : Runs) (pages : List ℕ) (fault : Option LogEnd) : Type 0 where
  pub entries : List Placed
  pub reads : Reads R s row.head row.tail entries pages fault
  pub tell : AreStamps s row.kind entries stamps

-- An index has the stamps of the whole log.
pub record HasStamps (R : Region) (s : Super) (row : Row) (index : Pages) : Type 0 where
  pub map : Runs
  pub pages : List ℕ
  pub fault : Option LogEnd
  pub of : AreStampsOf R s row map pages fault
  pub same : (p : ℕ) → block_at index p ≡ block_by map p

-- They tell of the entries that were read so far.
pub record AreStampsSoFar (R : Region) (row : Row) (reader : Progress) (stamps : Runs) : Type 0 where
  pub entries : List Placed
  pub leads : Leads R row.head reader entries
  pub tell : AreStamps reader.sup row.kind entries stamps
