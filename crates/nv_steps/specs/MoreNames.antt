-- A name more or less, and a link count, by the rows that stand for them.
use Rattle.std.specs.Prelude.{◌≡◌, ℕ, ◌+◌, ◌%◌, ◌<◌, ◌≤◌, nat_eq, if◌then◌else◌, List, ◌++◌, length, set, slice_get, Some}
use Rattle.std.specs.Cmp.Lexicographic.{pointwise}
use Rattle.smallvec.specs.SmallVec.{HasRoomFor}
use Rattle.nv_region.specs.Region.{Region}
use Rattle.nv_super.specs.Layout.{Layout}
use Rattle.nv_alloc.specs.FreeValue.{FreeLists}
use Rattle.nv_entry.specs.declared.entry.Operation.TheVariants.{Add}
use Rattle.nv_entry.specs.declared.entry.Entry.{Entry}
use Rattle.nv_logpage.specs.Append.{AreGiven, end_of, needed}
use Rattle.nv_names.specs.Names.{EachOnce, name_at}
use Rattle.nv_outcome.specs.Same.{SameRow}
use Rattle.nv_radix.specs.Pages.{block_at}
use Rattle.nv_scan.specs.declared.piece.Row.{Row}
use Rattle.nv_mounted.specs.Held.{Held, Store}
use Rattle.nv_commit.specs.Extends.{with_log}
use Rattle.nv_steps.specs.NameEntries.{links_entries, name_entries}
use Rattle.nv_steps.specs.NewNames.{HasNamed, ShowsNamed, place_named}
use Rattle.nv_steps.specs.Steps.{ShowsRow}
use Rattle.nv_steps.specs.Taken.{TakesEach}

-- ---- what a row says

-- All of a row but its names and numbers is as before.
pub record SameLog (old new : Row) : Type 0 where
  pub inode : new.inode ≡ old.inode
  pub kind : new.kind ≡ old.kind
  pub head : new.head ≡ old.head
  pub tail : new.tail ≡ old.tail
  pub pages : new.pages ≡ old.pages
  pub index : new.index ≡ old.index

-- The row has a name more, for this inode, by the entry at this place, and a time.
pub record AddsName (old : Row) (name : List ℕ) (j place time : ℕ) (new : Row) : Type 0 where
  pub rest : SameLog old new
  pub numbers : new.numbers ≡ record old.numbers { time = time }
  pub names : (q : List ℕ) → name_at new.names q ≡ (if pointwise nat_eq q name then Some (j, place) else name_at old.names q)

-- The row counts so many links, and has a time.
pub record CountsLinks (old : Row) (links time : ℕ) (new : Row) : Type 0 where
  pub rest : SameLog old new
  pub numbers : new.numbers ≡ record old.numbers { links = links; time = time }
  pub names : new.names ≡ old.names

-- The row's log goes on over these pages up to a new tail, and else it is as before, page by page and name by name.
pub record GrowsSame (old : Row) (fresh : List ℕ) (end : ℕ) (new : Row) : Type 0 where
  pub inode : new.inode ≡ old.inode
  pub kind : new.kind ≡ old.kind
  pub numbers : new.numbers ≡ old.numbers
  pub head : new.head ≡ old.head
  pub tail : new.tail ≡ end
  pub pages : new.pages.items ≡ old.pages.items ++ fresh
  pub index : (p : ℕ) → block_at new.index p ≡ block_at old.index p
  pub names : (q : List ℕ) → name_at new.names q ≡ name_at old.names q

-- And it counts so many links, and has a time.
pub record HasCounted (old : Row) (fresh : List ℕ) (end links time : ℕ) (new : Row) : Type 0 where
  pub inode : new.inode ≡ old.inode
  pub kind : new.kind ≡ old.kind
  pub numbers : new.numbers ≡ record old.numbers { links = links; time = time }
  pub head : new.head ≡ old.head
  pub tail : new.tail ≡ end
  pub pages : new.pages.items ≡ old.pages.items ++ fresh
  pub index : (p : ℕ) → block_at new.index p ≡ block_at old.index p
  pub names : (q : List ℕ) → name_at new.names q ≡ name_at old.names q

-- no name is twice in the row, before and after
abbrev pub NamesOnce : Row → Row → Type 0
NamesOnce old new = EachOnce old.names × EachOnce new.names

-- ---- a row made ready

-- These are some entries, and not many.
pub record AreFew (entries : List Entry) : Type 0 where
  pub given : AreGiven entries
  pub some : 0 < length entries
  pub few : length entries < 4096

-- The row is as before but for room: for the pages that these entries take, and for so many names.
pub record ReadiesRow (old new : Row) (entries : List Entry) (names : ℕ) : Type 0 where
  pub same : SameRow old new
  pub once : NamesOnce old new
  pub room : HasRoomFor new.pages (needed (old.tail % 4096) entries)
  pub names_room : names ≤ new.names.room

-- ---- the step of two logs

-- Entries were written behind the logs of the rows at two places, over blocks that a CPU took one by one, the first log's
-- first. What each row has become is said by its blocks.
pub record GrowsTwo (R S : Region) (l : Layout) (free after : FreeLists) (cpu : ℕ) (rows news : List Row) (i : ℕ) (first : Row) (entries : List Entry) (j : ℕ) (second : Row) (others : List
    Entry) (Becomes Other : List ℕ → Row → Type 0) : Type 0 where
  pub first_now : Row
  pub second_now : Row
  pub at : slice_get rows i ≡ Some first
  pub other_at : slice_get rows j ≡ Some second
  pub fresh : List ℕ
  pub more : List ℕ
  pub taken : TakesEach free cpu (fresh ++ more) after
  pub count : length fresh ≡ needed (first.tail % 4096) entries
  pub more_count : length more ≡ needed (second.tail % 4096) others
  pub is : Becomes fresh first_now
  pub other_is : Other more second_now
  pub once : NamesOnce first first_now
  pub other_once : NamesOnce second second_now
  pub put : news ≡ set (set rows i first_now) j second_now
  pub shows : (held : Store) (h g : Held) → ShowsRow R l held h first free → ShowsRow R l held g second free
      → ShowsNamed R S l cpu held (with_log (with_log held first.inode h entries fresh) second.inode g others more)

-- Both rows have their new tails and pages.
pub record AppendsLogs (R S : Region) (l : Layout) (free after : FreeLists) (cpu : ℕ) (rows news : List Row) (i : ℕ) (entries : List Entry) (j : ℕ) (others : List Entry) : Type 0 where
  pub first : Row
  pub second : Row
  pub step : GrowsTwo R S l free after cpu rows news i first entries j second others (λ fresh now. GrowsSame first fresh (end_of fresh 0 first.tail entries) now) (λ more now. GrowsSame second more
      (end_of more 0 second.tail others) now)

-- what a file's row becomes that counts so many links
abbrev pub GetsCount : Row → ℕ → ℕ → List ℕ → Row → Type 0
GetsCount file links time fresh now = HasCounted file fresh (end_of fresh 0 file.tail (links_entries links time)) links time now

-- what a directory's row becomes that has a name more
abbrev pub GetsName : Row → List ℕ → ℕ → ℕ → List ℕ → Row → Type 0
GetsName directory name j time more now = HasNamed directory more (end_of more 0 directory.tail (name_entries Add j name time)) name j (place_named more directory.tail j name time) time now

-- The file of a row counts a link more, and the directory of another has a name more for it.
pub record LinksAt (R S : Region) (l : Layout) (free after : FreeLists) (cpu : ℕ) (rows news : List Row) (target place : ℕ) (name : List ℕ) (time : ℕ) : Type 0 where
  pub file : Row
  pub directory : Row
  pub step : GrowsTwo R S l free after cpu rows news target file (links_entries (file.numbers.links + 1) time) place directory (name_entries Add file.inode name time) (λ fresh now. GetsCount file
      (file.numbers.links + 1) time fresh now) (λ more now. GetsName directory name file.inode time more now)
