-- What the calls that read answer for an inode's number in place of a path.
use Rattle.std.specs.Prelude.{◌≡◌, ℕ, Bool, not, is_none, List, [], ◌∷◌, ◌++◌, drop, length, Some}
use Rattle.nv_super.specs.Order.{Lists}
use Rattle.nv_tree.specs.Tree.{Node, Tree, name_in}
use Rattle.nv_tree.specs.Calls.{bytes_read}
use Rattle.nv_tree.specs.Refusals.{Tests, is_directory_at}
use Rattle.nv_tree.specs.declared.refusal.Refusal.{Refusal}
use Rattle.nv_tree.specs.declared.refusal.Refusal.TheVariants.{NotFound, NotDirectory, IsDirectory}
use Rattle.nv_tree.specs.Stat.{stat_of}
use Rattle.nv_tree.specs.declared.stat.Stat.{Stat}

-- no inode in use has the number
abbrev pub is_unused : Tree → ℕ → Bool × Refusal
is_unused t i = (is_none (t i), NotFound)

-- the tests of `stat_inode`
abbrev pub stat_inode_tests : Tree → ℕ → Tests
stat_inode_tests t i = is_unused t i ∷ []

-- the tests of `read_inode` and `read_inode_into`
abbrev pub read_inode_tests : Tree → ℕ → Tests
read_inode_tests t i = is_unused t i ∷ (is_directory_at t i, IsDirectory) ∷ []

-- the tests of `list_inode`
abbrev pub list_inode_tests : Tree → ℕ → Tests
list_inode_tests t i = is_unused t i ∷ (not (is_directory_at t i), NotDirectory) ∷ []

-- these are the numbers of the inode
abbrev pub IsInodeStat : Tree → ℕ → Stat → Type 0
IsInodeStat t i s = (node : Node) × (t i ≡ Some node) × (s ≡ stat_of i node)

-- these are its bytes from an offset on, at most so many
abbrev pub IsInodeRead : Tree → ℕ → ℕ → ℕ → List ℕ → Type 0
IsInodeRead t i offset count bytes = (node : Node) × (t i ≡ Some node) × (bytes ≡ bytes_read offset count node)

-- A buffer gets its bytes from an offset on, as many as there are and as fit, which is the count; the rest of the buffer is as it was.
pub record IsInodeReadInto (t : Tree) (i offset : ℕ) (old : List ℕ) (count : ℕ) (new : List ℕ) : Type 0 where
  pub node : Node
  pub shows : t i ≡ Some node
  pub as_many : count ≡ length (bytes_read offset (length old) node)
  pub bytes : new ≡ bytes_read offset (length old) node ++ drop count old

-- these are its names, each once, rising by bytes, with the inodes that they stand for
abbrev pub ListsInode : Tree → ℕ → List (List ℕ × ℕ) → Type 0
ListsInode t i lines = Lists (λ (x : List ℕ × ℕ). x.0) (λ x. name_in t i x.0 ≡ Some x.1) lines
