-- What `read` and `read_into` answer.
use Rattle.std.specs.Prelude.{◌≡◌, ℕ, List, ◌++◌, drop, length}
use Rattle.nv_tree.specs.Tree.{Node, Tree}
use Rattle.nv_tree.specs.Calls.{bytes_read}
use Rattle.nv_paths.specs.Seen.{LeadsTo}

-- The path leads to an inode, and these are its bytes from an offset on, at most so many.
pub record IsRead (t : Tree) (names : List (List ℕ)) (offset count : ℕ) (bytes : List ℕ) : Type 0 where
  pub inode : ℕ
  pub node : Node
  pub leads : LeadsTo t names inode node
  pub is : bytes ≡ bytes_read offset count node

-- The path leads to an inode. A buffer gets its bytes from an offset on, as many as there are and as fit, which is the count; the rest of the buffer is as it was.
pub record IsReadInto (t : Tree) (names : List (List ℕ)) (offset : ℕ) (old : List ℕ) (count : ℕ) (new : List ℕ) : Type 0 where
  pub inode : ℕ
  pub node : Node
  pub leads : LeadsTo t names inode node
  pub as_many : count ≡ length (bytes_read offset (length old) node)
  pub bytes : new ≡ bytes_read offset (length old) node ++ drop count old
