-- What is told of the inodes to which one path leads in two trees.
use Rattle.std.specs.Prelude.{◌≡◌, ◌⊎◌, ℕ, min, List, [], ◌++◌, Option, Some, None}
use Rattle.nv_super.specs.declared.kind.Kind.{Kind}
use Rattle.nv_super.specs.declared.kind.Kind.TheVariants.{File, Directory}
use Rattle.std.specs.Option.{option_map}
use Rattle.nv_tree.specs.Tree.{Node, Tree}
use Rattle.nv_difference.specs.declared.contents.Numbers.{Numbers}
use Rattle.nv_difference.specs.declared.inodes.Side.{Side}
use Rattle.nv_difference.specs.Bytes.{AreSameBelow, PartBelow}
use Rattle.nv_difference.specs.Lines.{bytes_line, kinds_line, numbers_text, only_a_line, only_b_line}

-- the numbers of an inode
abbrev pub numbers_of : Node → Numbers
numbers_of node = record { kind = node.kind; mode = node.mode; owner = node.owner; group = node.group; size = node.size; links = node.links; time = node.time }

-- the first place below both sizes where the bytes differ, if there is one
abbrev pub IsBytesText : List ℕ → Node → Node → List ℕ → Type 0
IsBytesText path a b text = ((x : ℕ) × PartBelow a b (min a.size b.size) x × (text ≡ bytes_line path x)) ⊎ (AreSameBelow a b (min a.size b.size) × (text ≡ []))

-- of two kinds these alone; else the numbers that differ, and of files where their bytes part
abbrev pub IsContentText : Kind → Kind → List ℕ → Node → Node → List ℕ → Type 0
IsContentText File File path a b text = (bytes : List ℕ) × IsBytesText path a b bytes × (text ≡ numbers_text path (numbers_of a) (numbers_of b) ++ bytes)
IsContentText Directory Directory path a b text = text ≡ numbers_text path (numbers_of a) (numbers_of b)
IsContentText File Directory path a b text = text ≡ kinds_line path a.kind b.kind
IsContentText Directory File path a b text = text ≡ kinds_line path a.kind b.kind

-- that, or in which tree alone the path leads to an inode
abbrev pub IsInodeText : List ℕ → Option Node → Option Node → List ℕ → Type 0
IsInodeText path None None text = text ≡ []
IsInodeText path (Some a) None text = text ≡ only_a_line path
IsInodeText path None (Some b) text = text ≡ only_b_line path
IsInodeText path (Some a) (Some b) text = IsContentText a.kind b.kind path a b text

-- ---- within

-- the inode is in use and has these numbers
abbrev pub IsShown : Tree → Side → Type 0
IsShown t side = option_map numbers_of (t side.inode) ≡ Some side.numbers

-- the same of what stands for a number, or there is none
abbrev pub IsSide : Option Node → Option ℕ → Option Side → Type 0
IsSide shown number None = shown ≡ None
IsSide shown number (Some side) = (number ≡ Some side.inode) × (option_map numbers_of shown ≡ Some side.numbers)
