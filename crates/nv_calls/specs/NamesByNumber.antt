-- What the calls on a name make for the number of its directory in place of a path, what they need, and what they leave.
use Rattle.std.specs.Prelude.{◌≡◌, ℕ, ◌+◌, ◌-◌, ◌<◌, ◌≤◌, nat_lt, Bool, false, if◌then◌else◌, List, [], ◌∷◌, Option, Some, None, Result, OnOk}
use Rattle.std.specs.Option.{option_map_or}
use Rattle.nv_region.specs.Region.{Region}
use Rattle.nv_super.specs.declared.kind.Kind.{Kind}
use Rattle.nv_super.specs.Layout.{Layout}
use Rattle.nv_entry.specs.declared.entry.Operation.TheVariants.{Add, Remove}
use Rattle.nv_scan.specs.declared.piece.Row.{Row}
use Rattle.nv_graph.specs.Read.{row_of}
use Rattle.nv_mounted.specs.Held.{Held, Store}
use Rattle.nv_mounted.specs.Mounted.{ShowsSound}
use Rattle.nv_tree.specs.Tree.{Node, Tree}
use Rattle.nv_tree.specs.Calls.{edit, links_at, new_node, on_some, put_node, released, with_links, with_name, without_name}
use Rattle.nv_tree.specs.Refusals.{Tests, World, has_no_space, writing}
use Rattle.nv_tree.specs.Stat.{stat_of}
use Rattle.nv_tree.specs.declared.refusal.Refusal.{Refusal}
use Rattle.nv_tree.specs.declared.stat.Stat.{Stat}
use Rattle.nv_paths.specs.Directories.{link_spot_tests, lookup_tests, named_in, rmdir_spot_tests, spot_tests, unlink_spot_tests}
use Rattle.nv_paths.specs.Seen.{tree_of}
use Rattle.nv_paths.specs.Spots.{new_number}
use Rattle.nv_steps.specs.Fronts.{SameFrontBut}
use Rattle.nv_steps.specs.InOrder.{tail_address}
use Rattle.nv_steps.specs.NameEntries.{links_entries, name_entries}
use Rattle.nv_steps.specs.Slots.{slot_in}
use Rattle.nv_steps.specs.Stores.{StoresIn, one_less, two_logs}
use Rattle.nv_calls.specs.Growing.{create_places}
use Rattle.nv_calls.specs.InOrder.{ShowsTailFirst, ShowsValidFirst}
use Rattle.nv_calls.specs.LinkCalls.{ShowsBothGrew}
use Rattle.nv_calls.specs.Mount.{Mount, shown}
use Rattle.nv_calls.specs.NameCalls.{ShowsCreated, row_blocks, table_growth}
use Rattle.nv_calls.specs.RemoveCalls.{ShowsRemoved}

-- The name of directory d stands for this inode, which shows this.
pub record StandsFor (t : Tree) (d : ℕ) (name : List ℕ) (i : ℕ) (node : Node) : Type 0 where
  pub leads : named_in t d name ≡ Some i
  pub shows : t i ≡ Some node

-- how many blocks the log of a directory takes for an entry of a name
abbrev pub entry_blocks : List Row → ℕ → List ℕ → ℕ
entry_blocks rows d name = row_blocks (row_of rows d) (name_entries Add 0 name 0)

-- ---- `lookup_inode`

-- its tests
abbrev pub lookup_inode_tests : Tree → ℕ → List ℕ → Tests
lookup_inode_tests t d name = lookup_tests t d name []

-- these are the numbers of the inode that the name stands for
abbrev pub IsStatNamed : Tree → ℕ → List ℕ → Stat → Type 0
IsStatNamed t d name s = (i : ℕ) × (node : Node) × StandsFor t d name i node × (s ≡ stat_of i node)

-- ---- `create_inode` and `mkdir_inode`

-- their tests
abbrev pub create_inode_tests : World → Tree → ℕ → ℕ → List ℕ → ℕ → Tests
create_inode_tests w t cpu d name needed = writing w cpu (spot_tests t (w.unused cpu) d name (has_no_space w needed ∷ []))

-- how many blocks they take: one for the table where it grows, a page for the new log, and what the directory's log takes
abbrev pub create_inode_blocks : Layout → List Row → ℕ → ℕ → List ℕ → ℕ
create_inode_blocks l rows cpu d name = table_growth l rows cpu + (1 + entry_blocks rows d name)

-- the tree that they make: a new inode by an unused number, and its name
abbrev pub created_in : Kind → Option ℕ → ℕ → List ℕ → ℕ → ℕ → Tree → Tree
created_in kind unused d name mode time t = on_some unused (λ i. edit d (with_name name i time) (put_node i (Some (new_node kind mode time)) t)) t

-- The directory's log has one entry more, the new inode's log is one entry, and no other log has changed.
abbrev pub logs_created_in : {P : Type 0} → Kind → ℕ → ℕ → ℕ → ℕ → List ℕ → Region → Mount P → Region → Type 0
logs_created_in kind cpu mode time d name S m T = (j : ℕ) (held : Store) (h : Held) → new_number m.layout m.rows cpu ≡ Some j → ShowsSound S m.layout held → held d ≡ Some h
    → ShowsCreated T m.layout m.free.pools cpu held kind mode time j d h name

-- The superblock and all journals but that of the CPU are as they were, and every word outside some places is as it was. The new inode's
-- valid word is stored first. Where its number has no slot, the table grows before that.
pub record CreateStoresIn {P T : Type 0} (region : P → Region) (old new : Mount P) (cpu d : ℕ) (result : Result T Refusal) : Type 0 where
  pub journals : OnOk result (SameFrontBut old.sup.cpus cpu (region old.memory) (region new.memory))
  pub wrote : (j : ℕ) (held : Store) → new_number old.layout old.rows cpu ≡ Some j → ShowsSound (region old.memory) old.layout held
      → StoresIn old.layout held (create_places old.layout cpu j d) (region old.memory) (region new.memory)
  pub in_order : (j : ℕ) → new_number old.layout old.rows cpu ≡ Some j → ShowsValidFirst (region old.memory) (region new.memory) new.layout j d

-- ---- `unlink_inode`

-- its tests
abbrev pub unlink_inode_tests : World → Tree → ℕ → ℕ → List ℕ → ℕ → Tests
unlink_inode_tests w t cpu d name needed = writing w cpu (unlink_spot_tests t d name (has_no_space w needed ∷ []))

-- the inode that the name stands for has more links than one
abbrev pub has_more_links_in : Tree → ℕ → List ℕ → Bool
has_more_links_in t d name = option_map_or (λ i. nat_lt 1 (links_at t i)) (named_in t d name) false

-- how many blocks its log takes for a link count
abbrev pub links_blocks_in : List Row → Tree → ℕ → List ℕ → ℕ
links_blocks_in rows t d name = option_map_or (λ i. row_blocks (row_of rows i) (links_entries 0 0)) (named_in t d name) 0

-- how many blocks it takes: those of the directory, and those of the file where it stays
abbrev pub unlink_inode_blocks : List Row → Tree → ℕ → List ℕ → ℕ
unlink_inode_blocks rows t d name = entry_blocks rows d name + (if has_more_links_in t d name then links_blocks_in rows t d name else 0)

-- the tree that it makes: a name of a file less
abbrev pub unlinked_in : ℕ → List ℕ → ℕ → Tree → Tree
unlinked_in d name time t = on_some (named_in t d name) (λ i. edit d (without_name name time) (released i time t)) t

-- Where the file has more links, its log and that of the directory have one entry more. Else the directory's has, and the file is gone.
-- No other log has changed.
pub record LogsUnlinkedIn {P : Type 0} (cpu time d : ℕ) (name : List ℕ) (S : Region) (m : Mount P) (T : Region) : Type 0 where
  pub more : (i : ℕ) (node : Node) (held : Store) (h f : Held) → StandsFor (tree_of S m.rows) d name i node → ShowsSound S m.layout held → held d ≡ Some h → held i ≡ Some f → 1 < node.links
      → ShowsBothGrew T m.layout m.free.pools cpu held d h (name_entries Remove i name time) i f (links_entries (node.links - 1) time)
  pub last : (i : ℕ) (node : Node) (held : Store) (h : Held) → StandsFor (tree_of S m.rows) d name i node → ShowsSound S m.layout held → held d ≡ Some h → node.links ≤ 1
      → ShowsRemoved T m.layout m.free.pools cpu held d h (name_entries Remove i name time) i

-- The superblock and all journals but that of the CPU are as they were, and every word outside some places is as it was. The directory's
-- tail is stored first: then that of the file, or the valid word where the file goes with its last name.
pub record UnlinkStoresIn {P T : Type 0} (region : P → Region) (old new : Mount P) (cpu d : ℕ) (name : List ℕ) (time : ℕ) (result : Result T Refusal) : Type 0 where
  pub journals : OnOk result (SameFrontBut old.sup.cpus cpu (region old.memory) (region new.memory))
  pub wrote : (i : ℕ) (node : Node) (held : Store) → StandsFor (shown region old) d name i node → ShowsSound (region old.memory) old.layout held → 1 < node.links
      → StoresIn old.layout held (two_logs old.layout cpu d i) (region old.memory) (region new.memory)
  pub last_wrote : (i : ℕ) (node : Node) (held : Store) → StandsFor (shown region old) d name i node → ShowsSound (region old.memory) old.layout held → node.links ≤ 1
      → StoresIn old.layout held (one_less old.layout cpu d i) (region old.memory) (region new.memory)
  pub in_order : (i : ℕ) (node : Node) (held : Store) (h : Held) → StandsFor (shown region old) d name i node → ShowsSound (region old.memory) old.layout held → held d ≡ Some h → 1 < node.links
      → ShowsTailFirst (region old.memory) (region new.memory) old.layout old.free.pools cpu d h (name_entries Remove i name time) (tail_address old.layout i)
  pub last_in_order : (i : ℕ) (node : Node) (held : Store) (h : Held) → StandsFor (shown region old) d name i node → ShowsSound (region old.memory) old.layout held → held d ≡ Some h → node.links ≤ 1
      → ShowsTailFirst (region old.memory) (region new.memory) old.layout old.free.pools cpu d h (name_entries Remove i name time) (slot_in old.layout i)

-- ---- `rmdir_inode`

-- its tests
abbrev pub rmdir_inode_tests : World → Tree → ℕ → ℕ → List ℕ → ℕ → Tests
rmdir_inode_tests w t cpu d name needed = writing w cpu (rmdir_spot_tests t d name (has_no_space w needed ∷ []))

-- the tree that it makes: a directory and its name less
abbrev pub removed_in : ℕ → List ℕ → ℕ → Tree → Tree
removed_in d name time t = on_some (named_in t d name) (λ i. edit d (without_name name time) (put_node i None t)) t

-- The log of the directory in which it stood has one entry more, it is gone, and no other log has changed.
abbrev pub logs_removed_in : {P : Type 0} → ℕ → ℕ → ℕ → List ℕ → Region → Mount P → Region → Type 0
logs_removed_in cpu time d name S m T = (i : ℕ) (node : Node) (held : Store) (h : Held) → StandsFor (tree_of S m.rows) d name i node → ShowsSound S m.layout held → held d ≡ Some h
    → ShowsRemoved T m.layout m.free.pools cpu held d h (name_entries Remove i name time) i

-- The superblock and all journals but that of the CPU are as they were, and every word outside some places is as it was. The tail of the
-- directory in which it stood is stored first.
pub record RemoveStoresIn {P T : Type 0} (region : P → Region) (old new : Mount P) (cpu d : ℕ) (name : List ℕ) (time : ℕ) (result : Result T Refusal) : Type 0 where
  pub journals : OnOk result (SameFrontBut old.sup.cpus cpu (region old.memory) (region new.memory))
  pub wrote : (i : ℕ) (node : Node) (held : Store) → StandsFor (shown region old) d name i node → ShowsSound (region old.memory) old.layout held
      → StoresIn old.layout held (one_less old.layout cpu d i) (region old.memory) (region new.memory)
  pub in_order : (i : ℕ) (node : Node) (held : Store) (h : Held) → StandsFor (shown region old) d name i node → ShowsSound (region old.memory) old.layout held → held d ≡ Some h
      → ShowsTailFirst (region old.memory) (region new.memory) old.layout old.free.pools cpu d h (name_entries Remove i name time) (slot_in old.layout i)

-- ---- `link_inode`

-- its tests
abbrev pub link_inode_tests : World → Tree → ℕ → ℕ → ℕ → List ℕ → ℕ → Tests
link_inode_tests w t cpu i d name needed = writing w cpu (link_spot_tests t i d name (has_no_space w needed ∷ []))

-- how many blocks it takes: those of the file for a link count, and those of the directory
abbrev pub link_inode_blocks : List Row → ℕ → ℕ → List ℕ → ℕ
link_inode_blocks rows i d name = row_blocks (row_of rows i) (links_entries 0 0) + entry_blocks rows d name

-- the tree that it makes: one more name of a file
abbrev pub linked_in : ℕ → ℕ → List ℕ → ℕ → Tree → Tree
linked_in i d name time t = edit d (with_name name i time) (edit i (with_links (links_at t i + 1) time) t)

-- The logs of the file and of the directory have one entry more, and no other log has changed.
abbrev pub logs_linked_in : {P : Type 0} → ℕ → ℕ → ℕ → ℕ → List ℕ → Region → Mount P → Region → Type 0
logs_linked_in cpu time i d name S m T = (node : Node) (held : Store) (f h : Held) → tree_of S m.rows i ≡ Some node → ShowsSound S m.layout held → held i ≡ Some f → held d ≡ Some h
    → ShowsBothGrew T m.layout m.free.pools cpu held i f (links_entries (node.links + 1) time) d h (name_entries Add i name time)

-- The superblock and all journals but that of the CPU are as they were, and every word outside some places is as it was. The file's tail is
-- stored first.
pub record LinkStoresIn {P T : Type 0} (region : P → Region) (old new : Mount P) (cpu i d time : ℕ) (result : Result T Refusal) : Type 0 where
  pub journals : OnOk result (SameFrontBut old.sup.cpus cpu (region old.memory) (region new.memory))
  pub wrote : (node : Node) (held : Store) → shown region old i ≡ Some node → ShowsSound (region old.memory) old.layout held
      → StoresIn old.layout held (two_logs old.layout cpu i d) (region old.memory) (region new.memory)
  pub in_order : (node : Node) (held : Store) (f : Held) → shown region old i ≡ Some node → ShowsSound (region old.memory) old.layout held → held i ≡ Some f
      → ShowsTailFirst (region old.memory) (region new.memory) old.layout old.free.pools cpu i f (links_entries (node.links + 1) time) (tail_address old.layout d)
