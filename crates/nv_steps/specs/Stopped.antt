-- What a stop leaves of a step: what was there, or what the step makes, with the row and the free lists that it leaves then.
use Rattle.std.specs.Prelude.{◌≡◌, ℕ, List, [], ◌∷◌, Some}
use Rattle.nv_region.specs.Region.{Region}
use Rattle.nv_super.specs.Layout.{Layout}
use Rattle.nv_super.specs.declared.kind.Kind.{Kind}
use Rattle.nv_alloc.specs.FreeValue.{FreeLists}
use Rattle.nv_entry.specs.declared.entry.AttrEntry.{AttrEntry}
use Rattle.nv_entry.specs.declared.entry.Entry.{Entry}
use Rattle.nv_entry.specs.declared.entry.Entry.TheVariants.{Attr}
use Rattle.nv_scan.specs.declared.piece.Row.{Row}
use Rattle.nv_mounted.specs.Held.{Held, Store}
use Rattle.nv_steps.specs.Attributes.{HasAttributes}
use Rattle.nv_steps.specs.Cleans.{Cleans, KeepsFile}
use Rattle.nv_steps.specs.Sizes.{Resizes}
use Rattle.nv_steps.specs.Steps.{AppendsLog, LogFollows, ShowsRow}
use Rattle.nv_steps.specs.LessNames.{CutsName}
use Rattle.nv_steps.specs.MoreNames.{AppendsLogs, GetsName, GrowsTwo, LinksAt}
use Rattle.nv_steps.specs.Moves.{MovesWithin}
use Rattle.nv_steps.specs.NameEntries.{name_entries}
use Rattle.nv_entry.specs.declared.entry.Operation.TheVariants.{Add, Remove}
use Rattle.nv_steps.specs.NewNames.{MakesNamed}
use Rattle.nv_steps.specs.Unlinks.{LosesName, UnlinksAt}
use Rattle.nv_steps.specs.Written.{WritesFile}
use Rattle.nv_steps.specs.declared.planning.Plan.{Plan}

-- the entries stand behind the log of a row
abbrev pub Appended : Region → Layout → FreeLists → ℕ → Row → List Entry → Region → Type 0
Appended R l free cpu row entries S = (after : FreeLists) × (new : Row) × AppendsLog R S l free after cpu row new entries

-- and the row has what an attributes entry says
abbrev pub Attributed : Region → Layout → FreeLists → ℕ → Row → AttrEntry → Region → Type 0
Attributed R l free cpu row x S = (after : FreeLists) × (new : Row)
    × ((held : Store) (h : Held) → ShowsRow R l held h row free → LogFollows R S l held h (Attr x ∷ []) free.pools cpu row new after) × HasAttributes row x new × (after.sup ≡ free.sup)

-- and the file of a row has new bytes
abbrev pub Wrote : Region → Layout → FreeLists → ℕ → Plan → ℕ → List ℕ → Row → Region → Type 0
Wrote R l free cpu plan offset new row S = (after : FreeLists) × (now : Row) × WritesFile R S l free after cpu plan offset new row now × (after.sup ≡ free.sup)

-- and a new inode and its name were made in the directory of a row
abbrev pub Named : Region → Layout → FreeLists → ℕ → Row → Kind → ℕ → ℕ → ℕ → List ℕ → Region → Type 0
Named R l free cpu old kind mode time j name S = (after : FreeLists) × (now : Row) × (made : Row) × MakesNamed R S l free after cpu old now kind mode time j name made

-- and entries stand behind the logs of two rows
abbrev pub AppendedBoth : Region → Layout → FreeLists → ℕ → Row → List Entry → Row → List Entry → Region → Type 0
AppendedBoth R l free cpu row entries other others S = (after : FreeLists) × (one : Row) × (two : Row) × AppendsLogs R S l free after cpu (row ∷ other ∷ []) (one ∷ two ∷ []) 0 entries 1 others

-- and the file of a row has a name more in the directory of another
abbrev pub Linked : Region → Layout → FreeLists → ℕ → Row → Row → List ℕ → ℕ → Region → Type 0
Linked R l free cpu file directory name time S = (after : FreeLists) × (one : Row) × (two : Row) × LinksAt R S l free after cpu (file ∷ directory ∷ []) (one ∷ two ∷ []) 0 1 name time

-- and the directory of a row has a name less, and the file of another a link less
abbrev pub Unlinked : Region → Layout → FreeLists → ℕ → Row → Row → List ℕ → ℕ → Region → Type 0
Unlinked R l free cpu directory file name time S = (after : FreeLists) × (one : Row) × (two : Row) × UnlinksAt R S l free after cpu (directory ∷ file ∷ []) (one ∷ two ∷ []) 0 1 name time

-- and the directory of a row has a name less, whose inode is gone
abbrev pub Cut : Region → Layout → FreeLists → ℕ → Row → ℕ → ℕ → List ℕ → Region → Type 0
Cut R l free cpu old j time name S = (after : FreeLists) × (now : Row) × CutsName R S l free after cpu old now j time name

-- and the directory of a row has another name for an inode in place of one
abbrev pub MovedHere : Region → Layout → FreeLists → ℕ → Row → ℕ → List ℕ → List ℕ → ℕ → Region → Type 0
MovedHere R l free cpu old i name other time S = (after : FreeLists) × (now : Row) × MovesWithin R S l free after cpu old now i name other time

-- and a name went from the directory of a row to that of another
abbrev pub MovedOver : Region → Layout → FreeLists → ℕ → Row → Row → ℕ → List ℕ → List ℕ → ℕ → Region → Type 0
MovedOver R l free cpu from to i name other time S = (after : FreeLists) × (one : Row) × (two : Row)
    × GrowsTwo R S l free after cpu (from ∷ to ∷ []) (one ∷ two ∷ []) 0 from (name_entries Remove i name time) 1 to (name_entries Add i other time) (λ fresh now. LosesName from name i time fresh
    now) (λ more now. GetsName to other i time more now)

-- and the file of a row has a size
abbrev pub Resized : Region → Layout → FreeLists → ℕ → Row → AttrEntry → Region → Type 0
Resized R l free cpu row x S = (after : FreeLists) × (new : Row) × Resizes R S l free cpu row x new after × (after.sup ≡ free.sup)

-- and a page went from the log of a row, the first that it can do without
abbrev pub PageLess : Region → Layout → FreeLists → Row → Region → Type 0
PageLess R l free old S = (after : FreeLists) × (new : Row) × (b : ℕ) × ((held : Store) (h : Held) → ShowsRow R l held h old free → Cleans R S l held h old new free after (Some b))
    × KeepsFile old new × (after.sup ≡ free.sup)
