-- What the calls that change an inode make of it by its number in place of a path, and what they need.
use Rattle.std.specs.Prelude.{◌≡◌, ℕ, ◌%◌, ◌<◌, List, [], ◌∷◌, Some}
use Rattle.std.specs.Option.{option_map_or}
use Rattle.nv_region.specs.Region.{Region}
use Rattle.nv_logpage.specs.Append.{needed}
use Rattle.nv_radix.specs.Pages.{block_at}
use Rattle.nv_scan.specs.State.{block_of}
use Rattle.nv_scan.specs.declared.piece.Row.{Row}
use Rattle.nv_graph.specs.Read.{row_of}
use Rattle.nv_mounted.specs.Held.{Held, Store, good_in}
use Rattle.nv_mounted.specs.Mounted.{ShowsSound}
use Rattle.nv_tree.specs.Tree.{Node, Tree}
use Rattle.nv_tree.specs.Calls.{edit, with_bytes}
use Rattle.nv_tree.specs.Refusals.{Tests, World, has_no_space, is_directory_at, is_too_large, writing}
use Rattle.nv_tree.specs.declared.refusal.Refusal.TheVariants.{IsDirectory}
use Rattle.nv_paths.specs.Seen.{tree_of}
use Rattle.nv_steps.specs.Attributes.{attributes}
use Rattle.nv_steps.specs.Writes.{NeedsBlocks, plan_of}
use Rattle.nv_calls.specs.ByNumber.{is_unused}
use Rattle.nv_calls.specs.GrownLogs.{ShowsGrownLog}
use Rattle.nv_calls.specs.Mount.{Mount}
use Rattle.nv_calls.specs.SizeCall.{ShowsResizedLog, size_blocks}
use Rattle.nv_calls.specs.WriteCall.{ShowsLogWrite}

-- ---- `set_attr_inode`

-- its tests
abbrev pub set_attr_inode_tests : World → Tree → ℕ → ℕ → ℕ → Tests
set_attr_inode_tests w t cpu i needed = writing w cpu (is_unused t i ∷ has_no_space w needed ∷ [])

-- how many blocks it takes in the log of the inode
abbrev pub attributes_inode_blocks : List Row → ℕ → ℕ
attributes_inode_blocks rows i = option_map_or (λ (row : Row). needed (row.tail % 4096) (attributes row.numbers.size 0 0 0 0)) (row_of rows i) 0

-- The inode's log has one attributes entry more, and no other log has changed.
abbrev pub logs_inode_attributes : {P : Type 0} → ℕ → ℕ → ℕ → ℕ → ℕ → ℕ → Region → Mount P → Region → Type 0
logs_inode_attributes cpu mode owner group time i S m T = (node : Node) (held : Store) (h : Held) → tree_of S m.rows i ≡ Some node → ShowsSound S m.layout held → held i ≡ Some h
    → ShowsGrownLog T m.layout m.free.pools cpu held i h (attributes node.size mode owner group time)

-- ---- `set_size_inode`

-- the inode is no file in use, or it can't have this size
abbrev pub resize_inode_tests : Tree → ℕ → ℕ → Tests
resize_inode_tests t i size = is_unused t i ∷ (is_directory_at t i, IsDirectory) ∷ is_too_large size ∷ []

-- its tests
abbrev pub set_size_inode_tests : World → Tree → ℕ → ℕ → ℕ → ℕ → Tests
set_size_inode_tests w t cpu i size needed = writing w cpu (is_unused t i ∷ (is_directory_at t i, IsDirectory) ∷ is_too_large size ∷ has_no_space w needed ∷ [])

-- how many blocks it takes
abbrev pub resized_inode_blocks : List Row → ℕ → ℕ → ℕ
resized_inode_blocks rows i size = option_map_or (λ (row : Row). size_blocks row size) (row_of rows i) 0

-- The file's log has the entries for its size, and no other log has changed.
abbrev pub logs_inode_size : {P : Type 0} → ℕ → ℕ → ℕ → ℕ → Region → Mount P → Region → Type 0
logs_inode_size cpu size time i S m T = (node : Node) (held : Store) (h : Held) → tree_of S m.rows i ≡ Some node → ShowsSound S m.layout held → held i ≡ Some h
    → ShowsResizedLog T m.layout m.free.pools cpu held i h node size time

-- ---- `write_inode`

-- its tests, with the offset and the number of bytes in one
abbrev pub write_inode_tests : World → Tree → ℕ → ℕ → ℕ → ℕ → Tests
write_inode_tests w t cpu i end needed = writing w cpu (is_unused t i ∷ (is_directory_at t i, IsDirectory) ∷ is_too_large end ∷ has_no_space w needed ∷ [])

-- How many blocks it takes: none where there are no bytes, and else those that the file needs.
pub record WriteInodeNeeds {P : Type 0} (m : Mount P) (cpu i offset bytes time count : ℕ) : Type 0 where
  pub none : bytes ≡ 0 → count ≡ 0
  pub some : 0 < bytes → (row : Row) → row_of m.rows i ≡ Some row → NeedsBlocks m.free.pools cpu row.tail (plan_of (block_at row.index) row.numbers.size offset bytes time) count

-- the tree that it makes; no bytes change nothing
abbrev pub written_inode : ℕ → ℕ → List ℕ → ℕ → Tree → Tree
written_inode i offset [] time t = t
written_inode i offset (b ∷ bytes) time t = edit i (with_bytes offset (b ∷ bytes) time) t

-- The file's log has the entries over the blocks that a take of this CPU gives, and no other log has changed. No bytes change
-- nothing.
pub record LogsInodeBytes {P : Type 0} (cpu offset bytes time i : ℕ) (S : Region) (m : Mount P) (T : Region) : Type 0 where
  pub some : (node : Node) (held : Store) (h : Held) → tree_of S m.rows i ≡ Some node → ShowsSound S m.layout held → held i ≡ Some h → 0 < bytes
      → ShowsLogWrite T m cpu held i h (plan_of (block_of (good_in m.layout h)) node.size offset bytes time)
  pub none : bytes ≡ 0 → T ≡ S
