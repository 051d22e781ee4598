-- A recovery as JSON. The members of an object stand in the order of their names.
use Rattle.std.specs.Prelude.{◌≡◌, ℕ, List, [], ◌∷◌, map, codes}
use Rattle.serde_json.specs.Data.{Data, unsigned, number, string, array, object, Members, no_members, member}
use Rattle.serde_json.specs.View.{items_of}
use Rattle.serde_json.specs.Written.{IsInOrder}
use Rattle.nv_super.specs.declared.kind.Kind.{Kind}
use Rattle.nv_super.specs.declared.kind.Kind.TheVariants.{File, Directory}
use Rattle.nv_super.specs.Kind.{kind_word}
use Rattle.nv_super.specs.declared.superblock.Super.{Super}
use Rattle.nv_super.specs.declared.owners.Run.{Run}
use Rattle.nv_super.specs.declared.owners.Owner.TheVariants as owners
use Rattle.nv_super.specs.declared.faults.Fault.{Fault}
use Rattle.nv_super.specs.declared.faults.Fault.TheVariants.{J1, J2, H1, H2, I1, I2, I3, L1, L2, L3, L4, E1, E2, E3, E4, C1, C2, C3, C4, C5, B1}
use Rattle.nv_radix.specs.Pages.{Pages}
use Rattle.nv_radix.specs.Extents.{AreExtents}
use Rattle.nv_radix.specs.declared.extent.Extent.{Extent}
use Rattle.nv_names.specs.Names.{Names, ListsNames}
use Rattle.nv_scan.specs.declared.piece.Row.{Row}
use Rattle.nv_text.specs.Names.{escaped}
use Rattle.nv_outcome.specs.Outcome.{Outcome}

-- ---- the parts of a value

-- a number
abbrev pub num : ℕ → Data
num n = number (unsigned n)

-- a list
abbrev pub array_of : List Data → Data
array_of ds = array (items_of ds)

-- members by their names
abbrev pub members : List (List ℕ × Data) → Members
members [] = no_members
members (m ∷ ms) = member m.0 m.1 (members ms)

-- an object of these
abbrev pub object_of : List (List ℕ × Data) → Data
object_of ms = object (members ms)

-- ---- the region

-- the numbers of a superblock
abbrev pub region_data : Super → Data
region_data s = object_of ((codes "blocks", num s.blocks) ∷ (codes "cpus", num s.cpus) ∷ (codes "state", num s.state)
    ∷ (codes "tables", num s.table_blocks) ∷ (codes "version", num s.version) ∷ [])

-- ---- an inode

-- an extent: the block of its first page, how many pages it has, and the first
abbrev pub extent_data : Extent → Data
extent_data e = object_of ((codes "block", num e.block) ∷ (codes "count", num e.count) ∷ (codes "page", num e.page) ∷ [])

-- a name with its escapes, and its inode
abbrev pub name_data : List ℕ × ℕ × ℕ → Data
name_data n = object_of ((codes "inode", num n.1) ∷ (codes "name", string (escaped n.0)) ∷ [])

-- the names of a directory, each once and rising by bytes; none of a file
abbrev pub AreNames : Kind → Names → List Data → Type 0
AreNames Directory names ds = (listed : List (List ℕ × ℕ × ℕ)) × ListsNames names listed × (ds ≡ map name_data listed)
AreNames File names ds = ds ≡ []

-- the longest extents of a file; none of a directory
abbrev pub AreExtentsIn : Kind → Pages → List Data → Type 0
AreExtentsIn Directory index ds = ds ≡ []
AreExtentsIn File index ds = (extents : List Extent) × AreExtents index extents × (ds ≡ map extent_data extents)

-- its attributes
abbrev pub attributes_data : Row → Data
attributes_data row = object_of ((codes "group", num row.numbers.group) ∷ (codes "links", num row.numbers.links) ∷ (codes "mode", num row.numbers.mode)
    ∷ (codes "owner", num row.numbers.owner) ∷ (codes "size", num row.numbers.size) ∷ (codes "time", num row.numbers.time) ∷ [])

-- its number, kind and attributes, its names or extents, and the blocks and the tail of its log
abbrev pub inode_data : Row → Data → Data → Data → Data
inode_data row names extents log = object_of ((codes "attributes", attributes_data row) ∷ (codes "extents", extents) ∷ (codes "inode", num row.inode)
    ∷ (codes "kind", string (kind_word row.kind)) ∷ (codes "log", log) ∷ (codes "names", names) ∷ (codes "tail", num row.tail) ∷ [])

-- an inode in use
abbrev pub IsRow : Row → Data → Type 0
IsRow row d = (names : List Data) × (extents : List Data) × AreNames row.kind row.names names × AreExtentsIn row.kind row.index extents
    × (d ≡ inode_data row (array_of names) (array_of extents) (array_of (map num row.pages.items)))

-- the inodes, one after another
abbrev pub AreRows : List Row → List Data → Type 0
AreRows [] ds = ds ≡ []
AreRows (row ∷ rows) ds = (first : Data) × (rest : List Data) × IsRow row first × AreRows rows rest × (ds ≡ first ∷ rest)

-- ---- free blocks

-- so many blocks from the first on
abbrev pub run_data : Run → Data
run_data r = object_of ((codes "count", num r.count) ∷ (codes "start", num r.start) ∷ [])

-- the runs of a CPU's pool
abbrev pub pool_data : List Run → Data
pool_data runs = array_of (map run_data runs)

-- ---- faults

-- a fault of an inode
abbrev pub inode_fault : List ℕ → ℕ → Data
inode_fault class i = object_of ((codes "class", string class) ∷ (codes "inode", num i) ∷ [])

-- a fault at an address in the chain of a CPU's table
abbrev pub chain_fault : List ℕ → ℕ → ℕ → Data
chain_fault class c at = object_of ((codes "at", num at) ∷ (codes "class", string class) ∷ (codes "cpu", num c) ∷ [])

-- a fault at an address in the log of an inode
abbrev pub place_fault : List ℕ → ℕ → ℕ → Data
place_fault class i at = object_of ((codes "at", num at) ∷ (codes "class", string class) ∷ (codes "inode", num i) ∷ [])

-- a block that an inode holds, as a page of its log or of its data, beside another owner
abbrev pub owned_fault : ℕ → List ℕ → ℕ → ℕ → Data
owned_fault b owner i page = object_of ((codes "block", num b) ∷ (codes "class", string (codes "B1")) ∷ (codes "inode", num i)
    ∷ (codes "owner", string owner) ∷ (codes "page", num page) ∷ [])

-- a block of the chain of a CPU's table, beside another owner
abbrev pub table_fault : ℕ → ℕ → ℕ → Data
table_fault b c k = object_of ((codes "block", num b) ∷ (codes "class", string (codes "B1")) ∷ (codes "cpu", num c)
    ∷ (codes "owner", string (codes "table")) ∷ (codes "place", num k) ∷ [])

-- the class of a fault and its fields
abbrev pub fault_data : Fault → Data
fault_data (J1 c) = object_of ((codes "class", string (codes "J1")) ∷ (codes "cpu", num c) ∷ [])
fault_data (J2 c k) = object_of ((codes "class", string (codes "J2")) ∷ (codes "cpu", num c) ∷ (codes "record", num k) ∷ [])
fault_data (H1 c a) = chain_fault (codes "H1") c a
fault_data (H2 c a) = chain_fault (codes "H2") c a
fault_data (I1 i) = inode_fault (codes "I1") i
fault_data (I2 i) = inode_fault (codes "I2") i
fault_data (I3 i) = inode_fault (codes "I3") i
fault_data (L1 i a) = place_fault (codes "L1") i a
fault_data (L2 i a) = place_fault (codes "L2") i a
fault_data (L3 i a) = place_fault (codes "L3") i a
fault_data (L4 i a) = place_fault (codes "L4") i a
fault_data (E1 i a) = place_fault (codes "E1") i a
fault_data (E2 i a) = place_fault (codes "E2") i a
fault_data (E3 i a) = place_fault (codes "E3") i a
fault_data (E4 i a) = place_fault (codes "E4") i a
fault_data (C1 d a) = place_fault (codes "C1") d a
fault_data (C2 i) = inode_fault (codes "C2") i
fault_data (C3 i) = inode_fault (codes "C3") i
fault_data (C4 i) = inode_fault (codes "C4") i
fault_data C5 = object_of ((codes "class", string (codes "C5")) ∷ [])
fault_data (B1 b (owners.Table c k)) = table_fault b c k
fault_data (B1 b (owners.Log i k)) = owned_fault b (codes "log") i k
fault_data (B1 b (owners.Data i p)) = owned_fault b (codes "data") i p

-- ---- the whole

-- its parts
abbrev pub report_data : Data → Data → Data → Data → Data
report_data faults free inodes region = object_of ((codes "faults", faults) ∷ (codes "free", free) ∷ (codes "inodes", inodes) ∷ (codes "region", region) ∷ [])

-- the superblock, the inodes in use, for each CPU the free runs of its pool, and the faults
abbrev pub IsReport : Outcome → Data → Type 0
IsReport o d = (rows : List Data) × AreRows o.rows rows
    × (d ≡ report_data (array_of (map fault_data o.faults)) (array_of (map pool_data o.free)) (array_of rows) (region_data o.sup))

-- The text has the items and members of this value, each once and in order, and its numbers in decimal.
abbrev pub TellsData : Data → List ℕ → Type 0
TellsData d text = IsInOrder text d

-- the text of a recovery
abbrev pub TellsReport : Outcome → List ℕ → Type 0
TellsReport o text = (d : Data) × IsReport o d × TellsData d text
