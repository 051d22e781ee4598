-- What each call that writes makes of a mounted file system: the tree, and the logs, over blocks that its CPU takes.
use Rattle.std.specs.Prelude.{◌≡◌, ◌≢◌, ℕ, ◌+◌, ◌-◌, ◌<◌, ◌≤◌, List, Option, Some, None, Ok}
use Rattle.nv_region.specs.Region.{Region}
use Rattle.nv_super.specs.declared.kind.Kind.{Kind}
use Rattle.nv_entry.specs.declared.entry.Operation.TheVariants.{Add, Remove}
use Rattle.nv_scan.specs.State.{block_of}
use Rattle.nv_mounted.specs.Held.{Held, Store, good_in}
use Rattle.nv_mounted.specs.Mounted.{ShowsSound}
use Rattle.nv_tree.specs.Path.{last_name}
use Rattle.nv_tree.specs.Tree.{Node, Tree, found, walk}
use Rattle.nv_tree.specs.Calls.{attributed, created, linked, removed, renamed, resized, unlinked, written}
use Rattle.nv_tree.specs.Refusals.{Path}
use Rattle.nv_tree.specs.Replace.{replaced}
use Rattle.nv_paths.specs.Seen.{LeadsTo, tree_of}
use Rattle.nv_paths.specs.Spots.{new_number}
use Rattle.nv_steps.specs.Attributes.{attributes}
use Rattle.nv_steps.specs.Moves.{move_entries}
use Rattle.nv_steps.specs.NameEntries.{links_entries, name_entries}
use Rattle.nv_steps.specs.Writes.{plan_of}
use Rattle.nv_calls.specs.CleanCall.{LosesPage, ShowsCleaned}
use Rattle.nv_calls.specs.GrownLogs.{ShowsGrownLog}
use Rattle.nv_calls.specs.LinkCalls.{ShowsBothGrew}
use Rattle.nv_calls.specs.Mount.{Mount}
use Rattle.nv_calls.specs.NameCalls.{ShowsCreated}
use Rattle.nv_calls.specs.RemoveCalls.{ShowsRemoved}
use Rattle.nv_calls.specs.ReplaceLogs.{LogsHanded, LogsTaken}
use Rattle.nv_calls.specs.SizeCall.{ShowsResizedLog}
use Rattle.nv_calls.specs.WriteCall.{ShowsLogWrite}

-- A call by the tree that it makes, of the names of a path.
abbrev pub Makes : Type 0 → Type 0
Makes P = Region → Mount P → List (List ℕ) → Tree

-- A call by what it leaves of the logs: the region before, as it is mounted, the names, and the region after.
abbrev pub Logs : Type 0 → Type 1
Logs P = Region → Mount P → List (List ℕ) → Region → Type 0

-- ---- what is made

-- `create` and `mkdir`: a new inode of a kind, and its name
abbrev pub makes_inode : {P : Type 0} → Kind → ℕ → ℕ → ℕ → Makes P
makes_inode kind cpu mode time S m names = created kind (new_number m.layout m.rows cpu) names mode time (tree_of S m.rows)

-- `write`: the file has new bytes
abbrev pub makes_bytes : {P : Type 0} → ℕ → List ℕ → ℕ → Makes P
makes_bytes offset bytes time S m names = written names offset bytes time (tree_of S m.rows)

-- `size`: the file is cut, or lengthened by zeros
abbrev pub makes_size : {P : Type 0} → ℕ → ℕ → Makes P
makes_size bytes time S m names = resized names bytes time (tree_of S m.rows)

-- `attr`: the inode has this mode, owner and group
abbrev pub makes_attributes : {P : Type 0} → ℕ → ℕ → ℕ → ℕ → Makes P
makes_attributes mode owner group time S m names = attributed names mode owner group time (tree_of S m.rows)

-- `link`: one more name of a file, by the new path; by what is no path, nothing
abbrev pub makes_link : {P : Type 0} → ℕ → Path → Makes P
makes_link time None S m names = tree_of S m.rows
makes_link time (Some others) S m names = linked names others time (tree_of S m.rows)

-- `unlink`: a name of a file less, and the file less where it was the last
abbrev pub makes_unlink : {P : Type 0} → ℕ → Makes P
makes_unlink time S m names = unlinked names time (tree_of S m.rows)

-- `rmdir`: a directory and its name less
abbrev pub makes_removal : {P : Type 0} → ℕ → Makes P
makes_removal time S m names = removed names time (tree_of S m.rows)

-- `rename`: the new path's name in place of the old one; by what is no path, nothing
abbrev pub makes_rename : {P : Type 0} → ℕ → Path → Makes P
makes_rename time None S m names = tree_of S m.rows
makes_rename time (Some others) S m names = renamed names others time (tree_of S m.rows)

-- `replace`: the same, also in the place of another inode
abbrev pub makes_replace : {P : Type 0} → ℕ → Path → Makes P
makes_replace time None S m names = tree_of S m.rows
makes_replace time (Some others) S m names = replaced names others time (tree_of S m.rows)

-- `clean`: the tree stays
abbrev pub makes_no_change : {P : Type 0} → Makes P
makes_no_change S m names = tree_of S m.rows

-- ---- what is left of the logs

-- `create` and `mkdir`: the directory's log has one entry more, the new inode's log is one entry, and no other log has changed.
abbrev pub logs_inode : {P : Type 0} → Kind → ℕ → ℕ → ℕ → Logs P
logs_inode kind cpu mode time S m names T = (d j : ℕ) (held : Store) (h : Held) → walk (tree_of S m.rows) 1 names ≡ Ok d → new_number m.layout m.rows cpu ≡ Some j
    → ShowsSound S m.layout held → held d ≡ Some h
    → ShowsCreated T m.layout m.free.pools cpu held kind mode time j d h (last_name names)

-- `write`: the file's log has the entries over the blocks that a take of this CPU gives, and no other log has changed. No bytes
-- change nothing.
pub record LogsBytes {P : Type 0} (cpu offset bytes time : ℕ) (S : Region) (m : Mount P) (names : List (List ℕ)) (T : Region) : Type 0 where
  pub some : (i : ℕ) (node : Node) (held : Store) (h : Held) → LeadsTo (tree_of S m.rows) names i node → ShowsSound S m.layout held → held i ≡ Some h → 0 < bytes
      → ShowsLogWrite T m cpu held i h (plan_of (block_of (good_in m.layout h)) node.size offset bytes time)
  pub none : bytes ≡ 0 → T ≡ S

-- `size`: the file's log has the entries for its size, and no other log has changed.
abbrev pub logs_size : {P : Type 0} → ℕ → ℕ → ℕ → Logs P
logs_size cpu bytes time S m names T = (i : ℕ) (node : Node) (held : Store) (h : Held) → LeadsTo (tree_of S m.rows) names i node → ShowsSound S m.layout held → held i ≡ Some h
    → ShowsResizedLog T m.layout m.free.pools cpu held i h node bytes time

-- `attr`: the inode's log has one attributes entry more, and no other log has changed.
abbrev pub logs_attributes : {P : Type 0} → ℕ → ℕ → ℕ → ℕ → ℕ → Logs P
logs_attributes cpu mode owner group time S m names T = (i : ℕ) (node : Node) (held : Store) (h : Held) → LeadsTo (tree_of S m.rows) names i node → ShowsSound S m.layout held → held i ≡ Some h
    → ShowsGrownLog T m.layout m.free.pools cpu held i h (attributes node.size mode owner group time)

-- `link`: the logs of the file and of the directory of its new name have one entry more, and no other log has changed. By what
-- is no path it is never done.
abbrev pub logs_link : {P : Type 0} → ℕ → ℕ → Path → Logs P
logs_link cpu time None S m names T = ⊥
logs_link cpu time (Some others) S m names T = (i d : ℕ) (node : Node) (held : Store) (f h : Held) → LeadsTo (tree_of S m.rows) names i node → walk (tree_of S m.rows) 1 others ≡ Ok d
    → ShowsSound S m.layout held → held i ≡ Some f → held d ≡ Some h
    → ShowsBothGrew T m.layout m.free.pools cpu held i f (links_entries (node.links + 1) time) d h (name_entries Add i (last_name others) time)

-- `unlink`: where the file has more links, its log and that of the directory have one entry more. Else the directory's has, and
-- the file is gone. No other log has changed.
pub record LogsUnlink {P : Type 0} (cpu time : ℕ) (S : Region) (m : Mount P) (names : List (List ℕ)) (T : Region) : Type 0 where
  pub more : (i d : ℕ) (node : Node) (held : Store) (h f : Held) → LeadsTo (tree_of S m.rows) names i node → walk (tree_of S m.rows) 1 names ≡ Ok d → ShowsSound S m.layout held
      → held d ≡ Some h → held i ≡ Some f → 1 < node.links
      → ShowsBothGrew T m.layout m.free.pools cpu held d h (name_entries Remove i (last_name names) time) i f (links_entries (node.links - 1) time)
  pub last : (i d : ℕ) (node : Node) (held : Store) (h : Held) → LeadsTo (tree_of S m.rows) names i node → walk (tree_of S m.rows) 1 names ≡ Ok d → ShowsSound S m.layout held → held d ≡ Some h
      → node.links ≤ 1
      → ShowsRemoved T m.layout m.free.pools cpu held d h (name_entries Remove i (last_name names) time) i

-- `rmdir`: the log of the directory in which it stood has one entry more, it is gone, and no other log has changed.
abbrev pub logs_removal : {P : Type 0} → ℕ → ℕ → Logs P
logs_removal cpu time S m names T = (i d : ℕ) (node : Node) (held : Store) (h : Held) → LeadsTo (tree_of S m.rows) names i node → walk (tree_of S m.rows) 1 names ≡ Ok d
    → ShowsSound S m.layout held → held d ≡ Some h
    → ShowsRemoved T m.layout m.free.pools cpu held d h (name_entries Remove i (last_name names) time) i

-- `rename`: the logs of two directories have one entry more, or that of the only one has both, and no other log has changed.
pub record LogsMove {P : Type 0} (cpu time : ℕ) (others : List (List ℕ)) (S : Region) (m : Mount P) (names : List (List ℕ)) (T : Region) : Type 0 where
  pub across : (i d e : ℕ) (node : Node) (held : Store) (h k : Held) → LeadsTo (tree_of S m.rows) names i node → walk (tree_of S m.rows) 1 names ≡ Ok d
      → walk (tree_of S m.rows) 1 others ≡ Ok e → d ≢ e → ShowsSound S m.layout held → held d ≡ Some h → held e ≡ Some k
      → ShowsBothGrew T m.layout m.free.pools cpu held d h (name_entries Remove i (last_name names) time) e k (name_entries Add i (last_name others) time)
  pub within : (i d : ℕ) (node : Node) (held : Store) (h : Held) → LeadsTo (tree_of S m.rows) names i node → walk (tree_of S m.rows) 1 names ≡ Ok d → walk (tree_of S m.rows) 1 others ≡ Ok d
      → ShowsSound S m.layout held → held d ≡ Some h
      → ShowsGrownLog T m.layout m.free.pools cpu held d h (move_entries i (last_name names) (last_name others) time)

-- the same by the new path; by what is no path it is never done
abbrev pub logs_rename : {P : Type 0} → ℕ → ℕ → Path → Logs P
logs_rename cpu time None S m names T = ⊥
logs_rename cpu time (Some others) S m names T = LogsMove cpu time others S m names T

-- `replace`: where the new name stands for no inode in use, it is `rename`; else that inode has a link less or is gone. One inode by
-- both paths changes nothing.
pub record LogsReplace {P : Type 0} (cpu time : ℕ) (others : List (List ℕ)) (S : Region) (m : Mount P) (names : List (List ℕ)) (T : Region) : Type 0 where
  pub unused : found (tree_of S m.rows) others ≡ None → LogsMove cpu time others S m names T
  pub within : LogsTaken cpu time others S m names T
  pub across : LogsHanded cpu time others S m names T
  pub one : (i : ℕ) → found (tree_of S m.rows) names ≡ Some i → found (tree_of S m.rows) others ≡ Some i → T ≡ S

-- the same by the new path; by what is no path it is never done
abbrev pub logs_replace : {P : Type 0} → ℕ → ℕ → Path → Logs P
logs_replace cpu time None S m names T = ⊥
logs_replace cpu time (Some others) S m names T = LogsReplace cpu time others S m names T

-- `clean`, by its answer: the first page went that the inode's log can do without, or the log needs each of its pages and
-- the region is as before.
abbrev pub logs_clean : {P : Type 0} → Option ℕ → Logs P
logs_clean answer S m names T = (i : ℕ) (node : Node) (held : Store) (h : Held) → LeadsTo (tree_of S m.rows) names i node → ShowsSound S m.layout held → held i ≡ Some h
    → ShowsCleaned S T m.layout held i h answer

-- the same where a page went
abbrev pub logs_page_less : {P : Type 0} → Logs P
logs_page_less S m names T = (i : ℕ) (node : Node) → LeadsTo (tree_of S m.rows) names i node → LosesPage S m.layout i T
