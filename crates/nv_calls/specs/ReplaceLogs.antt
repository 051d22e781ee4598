-- What `replace` leaves of the logs where the new name stands for another inode.
use Rattle.std.specs.Prelude.{◌≡◌, ◌≢◌, ℕ, ◌-◌, ◌%◌, nat_lt, not, Bool, true, false, ◌&&◌, List, ◌++◌, length, Some, Ok}
use Rattle.std.specs.List.{Contains}
use Rattle.nv_region.specs.Region.{Region}
use Rattle.nv_super.specs.Layout.{Layout}
use Rattle.nv_super.specs.declared.owners.Run.{Run}
use Rattle.nv_alloc.specs.Taking.{TakesSingly}
use Rattle.nv_entry.specs.declared.entry.Entry.{Entry}
use Rattle.nv_entry.specs.declared.entry.Operation.TheVariants.{Remove}
use Rattle.nv_logpage.specs.Append.{needed}
use Rattle.nv_mounted.specs.Held.{Held, Store}
use Rattle.nv_mounted.specs.Grows.{AreFree}
use Rattle.nv_mounted.specs.Mounted.{ShowsSound}
use Rattle.nv_tree.specs.Path.{last_name}
use Rattle.nv_tree.specs.Tree.{Node, Tree, found, is_directory, walk}
use Rattle.nv_paths.specs.Seen.{LeadsTo, tree_of}
use Rattle.nv_steps.specs.Across.{handed_entries, with_three_logs, with_two_gone}
use Rattle.nv_steps.specs.NameEntries.{links_entries, name_entries}
use Rattle.nv_steps.specs.Takes.{take_entries}
use Rattle.nv_calls.specs.LinkCalls.{ShowsBothGrew}
use Rattle.nv_calls.specs.Mount.{Mount}
use Rattle.nv_calls.specs.RemoveCalls.{ShowsRemoved}

-- a file with more links than one, which stays without one of its names
abbrev pub has_others : Node → Bool
has_others node = not (is_directory node.kind) && nat_lt 1 node.links

-- The first path leads to inode i in directory d, and the second to another, j, in directory e.
pub record TakesPlace (t : Tree) (names others : List (List ℕ)) (i j d e : ℕ) (node : Node) : Type 0 where
  pub moved : found t names ≡ Some i
  pub there : LeadsTo t others j node
  pub differ : i ≢ j
  pub from : walk t 1 names ≡ Ok d
  pub way : walk t 1 others ≡ Ok e

-- Within one directory its log has three entries more: both names go, and the new one is made. Where the inode of the new name
-- has other names, its log has one entry more; else it is gone. No other log has changed.
pub record LogsTaken {P : Type 0} (cpu time : ℕ) (others : List (List ℕ)) (S : Region) (m : Mount P) (names : List (List ℕ)) (T : Region) : Type 0 where
  pub more : (i j d : ℕ) (node : Node) (held : Store) (h f : Held) → TakesPlace (tree_of S m.rows) names others i j d d node → ShowsSound S m.layout held → held d ≡ Some h → held j ≡ Some f
      → has_others node ≡ true
      → ShowsBothGrew T m.layout m.free.pools cpu held d h (take_entries i j (last_name names) (last_name others) time) j f (links_entries (node.links - 1) time)
  pub last : (i j d : ℕ) (node : Node) (held : Store) (h : Held) → TakesPlace (tree_of S m.rows) names others i j d d node → ShowsSound S m.layout held → held d ≡ Some h
      → has_others node ≡ false
      → ShowsRemoved T m.layout m.free.pools cpu held d h (take_entries i j (last_name names) (last_name others) time) j

-- ---- the two names in different directories

-- The region is sound, and shows what was held with these entries behind two logs and without an inode, over free blocks: those that
-- are taken one by one from these pools, by a CPU, the first log's first.
pub record BothLess (S : Region) (l : Layout) (pools : List (List Run)) (cpu : ℕ) (held : Store) (i : ℕ) (h : Held) (entries : List Entry) (e : ℕ) (g : Held) (others : List Entry)
    (j : ℕ) : Type 0 where
  pub fresh : List ℕ
  pub more : List ℕ
  pub rest : List (List Run)
  pub taken : TakesSingly pools cpu (fresh ++ more) rest
  pub free : AreFree l held (fresh ++ more)
  pub apart : (b : ℕ) → Contains fresh b → Contains more b → ⊥
  pub count : length fresh ≡ needed (h.tail % 4096) entries
  pub more_count : length more ≡ needed (g.tail % 4096) others
  pub sound : ShowsSound S l (with_two_gone held i h entries fresh e g others more j)

-- there are such blocks
abbrev pub ShowsBothLess : Region → Layout → List (List Run) → ℕ → Store → ℕ → Held → List Entry → ℕ → Held → List Entry → ℕ → Type 0
ShowsBothLess S l pools cpu held i h entries e g others j = ∥ (BothLess S l pools cpu held i h entries e g others j) ∥₁

-- The same with entries behind three logs.
pub record ThreeGrew (S : Region) (l : Layout) (pools : List (List Run)) (cpu : ℕ) (held : Store) (i : ℕ) (h : Held) (entries : List Entry) (e : ℕ) (g : Held) (others : List Entry) (j : ℕ)
    (f : Held) (lasts : List Entry) : Type 0 where
  pub fresh : List ℕ
  pub more : List ℕ
  pub last : List ℕ
  pub rest : List (List Run)
  pub taken : TakesSingly pools cpu ((fresh ++ more) ++ last) rest
  pub free : AreFree l held ((fresh ++ more) ++ last)
  pub apart : (b : ℕ) → Contains fresh b → Contains more b → ⊥
  pub last_apart : (b : ℕ) → Contains (fresh ++ more) b → Contains last b → ⊥
  pub count : length fresh ≡ needed (h.tail % 4096) entries
  pub more_count : length more ≡ needed (g.tail % 4096) others
  pub last_count : length last ≡ needed (f.tail % 4096) lasts
  pub sound : ShowsSound S l (with_three_logs held i h entries fresh e g others more j f lasts last)

-- there are such blocks
abbrev pub ShowsThreeGrew : Region → Layout → List (List Run) → ℕ → Store → ℕ → Held → List Entry → ℕ → Held → List Entry → ℕ → Held → List Entry → Type 0
ShowsThreeGrew S l pools cpu held i h entries e g others j f lasts = ∥ (ThreeGrew S l pools cpu held i h entries e g others j f lasts) ∥₁

-- The old name's directory has an entry more, and the new one's two. Where the inode of the new name has other names, its log has one
-- more; else it is gone. No other log has changed.
pub record LogsHanded {P : Type 0} (cpu time : ℕ) (others : List (List ℕ)) (S : Region) (m : Mount P) (names : List (List ℕ)) (T : Region) : Type 0 where
  pub more : (i j d e : ℕ) (node : Node) (held : Store) (h k f : Held) → TakesPlace (tree_of S m.rows) names others i j d e node → d ≢ e → ShowsSound S m.layout held → held d ≡ Some h
      → held e ≡ Some k → held j ≡ Some f
      → has_others node ≡ true
      → ShowsThreeGrew T m.layout m.free.pools cpu held d h (name_entries Remove i (last_name names) time) e k (handed_entries i j (last_name others) time) j f (links_entries (node.links - 1) time)
  pub last : (i j d e : ℕ) (node : Node) (held : Store) (h k : Held) → TakesPlace (tree_of S m.rows) names others i j d e node → d ≢ e → ShowsSound S m.layout held → held d ≡ Some h → held e ≡ Some k
      → has_others node ≡ false
      → ShowsBothLess T m.layout m.free.pools cpu held d h (name_entries Remove i (last_name names) time) e k (handed_entries i j (last_name others) time) j
