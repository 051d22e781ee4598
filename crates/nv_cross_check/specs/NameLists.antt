-- How the listings are stored. No public clause cites this module.
use Rattle.std.specs.Prelude.{◌≡◌, ℕ, ◌<◌, ◌==◌, Bool, not, List, [], ◌∷◌, ◌++◌, length, map, Option, Some, None, slice_get, slice_index}
use Rattle.std.specs.List.{AllZip}
use Rattle.std.specs.declared.vec.Vec.{Vec}
use Rattle.std.specs.declared.alloc.Global.{Global}
use Rattle.nv_names.specs.Names.{line_of, HasNames}
use Rattle.nv_names.specs.declared.named.Named.{Named}
use Rattle.nv_scan.specs.declared.piece.Row.{Row}
use Rattle.nv_cross_check.specs.Listing.{Listing}

-- lists of names
abbrev pub NameLists : Type 0
NameLists = List (Vec Named Global)

-- the names of a list, if there is one
abbrev pub items_of : Option (Vec Named Global) → List Named
items_of None = []
items_of (Some list) = list.items

-- the names of the list at this place
abbrev pub names_by : NameLists → ℕ → List Named
names_by lists place = items_of (slice_get lists place)

-- each of the places has a list
abbrev pub HaveLists : NameLists → List ℕ → Type 0
HaveLists lists places = (k : ℕ) → k < length places → slice_index places k < length lists

-- whether a place is that of another list than the first
abbrev pub is_list : ℕ → Bool
is_list place = not (place == 0)

-- The first list is empty.
abbrev pub HasEmpty : NameLists → Type 0
HasEmpty lists = (0 < length lists) × (names_by lists 0 ≡ [])

-- the listing of a row with these names
abbrev pub listing_with : Row → List Named → Listing
listing_with r names = record { inode = r.inode; kind = r.kind; links = r.numbers.links; names = names }

-- the listings of the rows, with the names of the lists at their places
unfoldable pub listings_in : List Row → List ℕ → NameLists → List Listing
listings_in [] places lists = []
listings_in (r ∷ rows) [] lists = []
listings_in (r ∷ rows) (place ∷ places) lists = listing_with r (names_by lists place) ∷ listings_in rows places lists

-- the list at this place has the names of the row
abbrev pub IsNamed : NameLists → Row → ℕ → Type 0
IsNamed lists r place = (place < length lists) × HasNames r.names (map line_of (names_by lists place))

-- the list at this place has the names of row k
abbrev pub IsNamedAt : NameLists → List Row → ℕ → ℕ → Type 0
IsNamedAt lists rows k place = (row : Row) × (slice_get rows k ≡ Some row) × IsNamed lists row place

-- the lists at these places have the names of the rows, one by one
abbrev pub AreNamed : List Row → List ℕ → NameLists → Type 0
AreNamed rows places lists = AllZip (IsNamed lists) rows places

-- Each row has a list, the first list has no names, and it is told which rows have others.
pub record AreLists (rows : List Row) (named : List Bool) (places : List ℕ) (lists : NameLists) : Type 0 where
  pub long : length places ≡ length rows
  pub within : HaveLists lists places
  pub empty : HasEmpty lists
  pub told : named ≡ map is_list places

-- lists behind the others, if any
abbrev pub Extends : NameLists → NameLists → Type 0
Extends old new = (more : NameLists) × (new ≡ old ++ more)
