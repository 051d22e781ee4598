-- A name that an inode gets in the place of another inode: what each step of `replace` and the call make of all rows, and how many
-- blocks they take.
use Rattle.std.specs.Prelude.{◌≡◌, ◌≢◌, ◌⊎◌, ℕ, ◌+◌, ◌-◌, ◌%◌, nat_eq, nat_lt, not, Bool, true, false, ◌&&◌, if◌then◌else◌, List, remove, set, slice_get, Option, Some, None}
use Rattle.std.specs.Option.{option_and_then, option_map_or}
use Rattle.nv_region.specs.Region.{Region}
use Rattle.nv_alloc.specs.FreeValue.{FreeLists}
use Rattle.nv_logpage.specs.Append.{needed}
use Rattle.nv_scan.specs.declared.piece.Row.{Row}
use Rattle.nv_rows.specs.Rows.{place_in, row_of}
use Rattle.nv_tree.specs.Tree.{is_directory}
use Rattle.nv_entry.specs.declared.entry.Operation.TheVariants.{Remove}
use Rattle.nv_steps.specs.Across.{LessenedAcross, LessensAcross, TakesAcross, TookAcross, handed_entries}
use Rattle.nv_steps.specs.InOrder.{TailIsFirst, TailIsNext, tail_address}
use Rattle.nv_steps.specs.LessNames.{GivesRow}
use Rattle.nv_steps.specs.Lessens.{Lessened, LessensAt}
use Rattle.nv_steps.specs.NameEntries.{links_entries, name_entries}
use Rattle.nv_steps.specs.Takes.{TakesWithin, TookWithin, take_entries}
use Rattle.nv_calls.specs.MoveCalls.{MovesAt, move_blocks}
use Rattle.nv_calls.specs.Stopped.{Renamed}
use Rattle.nv_super.specs.Layout.{Layout}

-- a file with more links than one, which stays without one of its names
abbrev pub keeps_others : Row → Bool
keeps_others row = not (is_directory row.kind) && nat_lt 1 row.numbers.links

-- the inode of a number is such a file
abbrev pub keeps_others_at : List Row → Option ℕ → Bool
keeps_others_at rows o = option_map_or keeps_others (option_and_then (row_of rows) o) false

-- Inode i got the name of another in the directory whose row is at one place, and that one went, whose row was at another. That row
-- was taken out, and its blocks were given back.
pub record TakesAt (R S : Region) (l : Layout) (free after : FreeLists) (cpu : ℕ) (rows news : List Row) (place target i : ℕ) (name other : List ℕ) (time : ℕ) : Type 0 where
  pub row : Row
  pub gone : Row
  pub now : Row
  pub mid : FreeLists
  pub at : slice_get rows place ≡ Some row
  pub gone_at : slice_get rows target ≡ Some gone
  pub step : TakesWithin R S l free mid cpu row now i gone.inode name other time
  pub given : GivesRow mid gone after
  pub put : news ≡ remove (set rows place now) target

-- the row at this place is of an inode that stays, or of one that goes
abbrev pub StaysAt : Bool → List Row → ℕ → Type 0
StaysAt stays rows target = (there : Row) → slice_get rows target ≡ Some there → keeps_others there ≡ stays

-- where the file has other names, it counts a link less; else it goes
abbrev pub ReplacesHere : Region → Region → Layout → FreeLists → FreeLists → ℕ → List Row → List Row → ℕ → ℕ → ℕ → List ℕ → List ℕ → ℕ → Type 0
ReplacesHere R S l free after cpu rows news place target i name other time = (StaysAt true rows target × LessensAt R S l free after cpu rows news place target i name other time)
    ⊎ (StaysAt false rows target × TakesAt R S l free after cpu rows news place target i name other time)

-- how many blocks it takes
abbrev pub replace_here_blocks : Row → Row → ℕ → List ℕ → List ℕ → ℕ → ℕ
replace_here_blocks row there i name other time = needed (row.tail % 4096) (take_entries i there.inode name other time)
    + (if keeps_others there then needed (there.tail % 4096) (links_entries (there.numbers.links - 1) time) else 0)

-- what a stop leaves of it
abbrev pub ReplacedHere : Region → Layout → FreeLists → ℕ → Row → Row → ℕ → List ℕ → List ℕ → ℕ → Region → Type 0
ReplacedHere R l free cpu row there i name other time S = ((keeps_others there ≡ true) × Lessened R l free cpu row there i name other time S)
    ⊎ ((keeps_others there ≡ false) × TookWithin R l free cpu row i there.inode name other time S)

-- ---- the two names in different directories

-- Inode i lost a name in the directory whose row is at one place, and got that of another in the one at a second place. That one
-- went, whose row was at a third.
pub record TakesOver (R S : Region) (l : Layout) (free after : FreeLists) (cpu : ℕ) (rows news : List Row) (place end target i : ℕ) (name other : List ℕ) (time : ℕ) : Type 0 where
  pub from : Row
  pub to : Row
  pub gone : Row
  pub from_now : Row
  pub to_now : Row
  pub mid : FreeLists
  pub at : slice_get rows place ≡ Some from
  pub to_at : slice_get rows end ≡ Some to
  pub gone_at : slice_get rows target ≡ Some gone
  pub step : TakesAcross R S l free mid cpu from from_now to to_now i gone.inode name other time
  pub given : GivesRow mid gone after
  pub put : news ≡ remove (set (set rows place from_now) end to_now) target

-- The same where the file whose row is at the third place counts a link less.
pub record LessensOver (R S : Region) (l : Layout) (free after : FreeLists) (cpu : ℕ) (rows news : List Row) (place end target i : ℕ) (name other : List ℕ) (time : ℕ) : Type 0 where
  pub from : Row
  pub to : Row
  pub file : Row
  pub from_now : Row
  pub to_now : Row
  pub file_now : Row
  pub at : slice_get rows place ≡ Some from
  pub to_at : slice_get rows end ≡ Some to
  pub file_at : slice_get rows target ≡ Some file
  pub step : LessensAcross R S l free after cpu from from_now to to_now file file_now i name other time
  pub put : news ≡ set (set (set rows place from_now) end to_now) target file_now

-- where the file has other names, it counts a link less; else it goes
abbrev pub ReplacesOver : Region → Region → Layout → FreeLists → FreeLists → ℕ → List Row → List Row → ℕ → ℕ → ℕ → ℕ → List ℕ → List ℕ → ℕ → Type 0
ReplacesOver R S l free after cpu rows news place end target i name other time = (StaysAt true rows target × LessensOver R S l free after cpu rows news place end target i name other time)
    ⊎ (StaysAt false rows target × TakesOver R S l free after cpu rows news place end target i name other time)

-- how many blocks the two directories take
abbrev pub hand_blocks : Row → Row → ℕ → ℕ → List ℕ → List ℕ → ℕ → ℕ
hand_blocks from to i j name other time = needed (from.tail % 4096) (name_entries Remove i name time) + needed (to.tail % 4096) (handed_entries i j other time)

-- the old directory's tail is stored first, then that of the new one, and then a word
abbrev pub HandsInOrder : Region → Region → Layout → FreeLists → ℕ → Row → Row → ℕ → ℕ → List ℕ → List ℕ → ℕ → ℕ → Type 0
HandsInOrder R S l free cpu from to i j name other time at = TailIsFirst R S l free.pools cpu from.inode from.tail (name_entries Remove i name time) (tail_address l to.inode)
    × TailIsNext R S l free.pools cpu (needed (from.tail % 4096) (name_entries Remove i name time)) to.inode to.tail (handed_entries i j other time) at

-- how many blocks it takes
abbrev pub replace_over_blocks : Row → Row → Row → ℕ → List ℕ → List ℕ → ℕ → ℕ
replace_over_blocks from to there i name other time = hand_blocks from to i there.inode name other time
    + (if keeps_others there then needed (there.tail % 4096) (links_entries (there.numbers.links - 1) time) else 0)

-- what a stop leaves of it
abbrev pub ReplacedOver : Region → Layout → FreeLists → ℕ → Row → Row → Row → ℕ → List ℕ → List ℕ → ℕ → Region → Type 0
ReplacedOver R l free cpu from to there i name other time S = ((keeps_others there ≡ true) × LessenedAcross R l free cpu from to there i name other time S)
    ⊎ ((keeps_others there ≡ false) × TookAcross R l free cpu from to i there.inode name other time S)

-- ---- the call

-- The name that inode i got stood for no inode in use, so it was moved. Or it stood for i, and nothing has changed. Or it stood for
-- another, within one directory or not.
abbrev pub ReplacesAt : Region → Region → Layout → FreeLists → FreeLists → ℕ → List Row → List Row → ℕ → ℕ → ℕ → Option ℕ → ℕ → List ℕ → List ℕ → ℕ → Type 0
ReplacesAt R S l free after cpu rows news place source end None i name other time = MovesAt R S l free after cpu rows news place source end name other time
ReplacesAt R S l free after cpu rows news place source end (Some j) i name other time = ((j ≡ i) × ((S ≡ R) × (after ≡ free) × (news ≡ rows)))
    ⊎ ((j ≢ i) × (((place ≡ end) × ReplacesHere R S l free after cpu rows news place (place_in rows j) i name other time) ⊎ ((place ≢ end)
    × ReplacesOver R S l free after cpu rows news place end (place_in rows j) i name other time)))

-- how many blocks it takes, by the row of the inode that has the new name
abbrev pub replace_count : ℕ → ℕ → Row → Row → Option Row → ℕ → List ℕ → List ℕ → ℕ → ℕ
replace_count place end from to None i name other time = move_blocks place end from to i name other time
replace_count place end from to (Some had) i name other time =
    if nat_eq had.inode i then 0
    else if nat_eq place end then replace_here_blocks from had i name other time
    else replace_over_blocks from to had i name other time

-- what a stop leaves of it
abbrev pub ReplacedAt : Region → Layout → FreeLists → ℕ → ℕ → ℕ → Row → Row → Option Row → ℕ → List ℕ → List ℕ → ℕ → Region → Type 0
ReplacedAt R l free cpu place end from to None i name other time S = Renamed R l free cpu place end from to i name other time S
ReplacedAt R l free cpu place end from to (Some had) i name other time S = (had.inode ≢ i) × (((place ≡ end) × ReplacedHere R l free cpu from had i name other time S) ⊎ ((place ≢ end)
    × ReplacedOver R l free cpu from to had i name other time S))
