-- What is told of the names of two directories.
use Rattle.std.specs.Prelude.{◌≡◌, ◌⊎◌, ℕ, Bool, true, false, IsTrue, is_some, nat_le, List, [], length, Option}
use Rattle.std.specs.Option.{option_and_then}
use Rattle.nv_super.specs.Order.{Lists}
use Rattle.nv_names.specs.declared.named.Named.{Named}
use Rattle.nv_tree.specs.Tree.{Node, Tree, name_in}
use Rattle.nv_folders.specs.Folders.{path_in}
use Rattle.nv_difference.specs.Inodes.{IsInodeText}
use Rattle.nv_difference.specs.Lines.{passed_line}
use Rattle.nv_difference.specs.Pairs.{Both}
use Rattle.nv_difference.specs.Texts.{AreTexts}

-- the bytes of a name
abbrev pub name_bytes : Named → List ℕ
name_bytes named = named.name.now

-- a name itself
abbrev pub by_bytes : List ℕ → List ℕ
by_bytes name = name

-- what a name of a directory shows, if it leads to an inode in use
abbrev pub node_named : Tree → ℕ → List ℕ → Option Node
node_named t d name = option_and_then t (name_in t d name)

-- the name stands in one of two directories, or in both
abbrev pub Stands : Tree → Tree → Both → List ℕ → Type 0
Stands t u x name = IsTrue (is_some (name_in t x.1 name)) ⊎ IsTrue (is_some (name_in u x.2 name))

-- what is told of what a name leads to; nothing where its path has over 4,096 bytes
abbrev pub IsShortText : Bool → Tree → Tree → Both → List ℕ → List ℕ → Type 0
IsShortText true t u x name text = IsInodeText (path_in x.0 name) (node_named t x.1 name) (node_named u x.2 name) text
IsShortText false t u x name text = text ≡ []

-- the same of any name
abbrev pub IsNameText : Tree → Tree → Both → List ℕ → List ℕ → Type 0
IsNameText t u x name text = IsShortText (nat_le (length (path_in x.0 name)) 4096) t u x name text

-- all names of two directories, each once and rising by bytes
abbrev pub AreNamesOf : Tree → Tree → Both → List (List ℕ) → Type 0
AreNamesOf t u x names = Lists by_bytes (Stands t u x) names

-- what is told of all names of two directories
abbrev pub AreNamesTexts : Tree → Tree → Both → List ℕ → Type 0
AreNamesTexts t u x text = (names : List (List ℕ)) × AreNamesOf t u x names × AreTexts (IsNameText t u x) names text

-- the same, or that they were passed
abbrev pub IsVisitText : Tree → Tree → Both × Bool → List ℕ → Type 0
IsVisitText t u (x, true) text = AreNamesTexts t u x text
IsVisitText t u (x, false) text = text ≡ passed_line x.0
