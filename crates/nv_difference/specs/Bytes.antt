-- Where the bytes of two files part.
use Rattle.std.specs.Prelude.{◌≡◌, ◌≢◌, ℕ, ◌<◌, ◌≤◌, List, length, Some, slice_index}
use Rattle.nv_super.specs.declared.kind.Kind.TheVariants.{File}
use Rattle.nv_tree.specs.Tree.{Node, Tree}

-- the bytes are the same in front of a place
abbrev pub AreSameBelow : Node → Node → ℕ → Type 0
AreSameBelow a b end = (x : ℕ) → x < end → a.bytes x ≡ b.bytes x

-- the first place below an end where the bytes differ
pub record PartBelow (a b : Node) (end x : ℕ) : Type 0 where
  pub below : x < end
  pub differ : a.bytes x ≢ b.bytes x
  pub same : AreSameBelow a b x

-- the inode is a file in use of so many bytes at least
abbrev pub IsFileOf : Tree → ℕ → ℕ → Type 0
IsFileOf t i end = (node : Node) × (t i ≡ Some node) × (node.kind ≡ File) × (end ≤ node.size)

-- the first place where two lists differ
pub record PartWithin (a b : List ℕ) (k : ℕ) : Type 0 where
  pub below : k < length a
  pub differ : slice_index a k ≢ slice_index b k
  pub same : (j : ℕ) → j < k → slice_index a j ≡ slice_index b j

-- ---- within a piece

-- the bytes are the same from a place up to an end
abbrev pub AreSameFrom : Node → Node → ℕ → ℕ → Type 0
AreSameFrom a b at end = (x : ℕ) → at ≤ x → x < end → a.bytes x ≡ b.bytes x

-- the first place from one on, and below an end, where the bytes differ
pub record PartFrom (a b : Node) (at end x : ℕ) : Type 0 where
  pub from : at ≤ x
  pub below : x < end
  pub differ : a.bytes x ≢ b.bytes x
  pub same : AreSameFrom a b at x
