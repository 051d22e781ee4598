-- What is chosen for an archive.
use Rattle.std.specs.Prelude.{◌≡◌, ℕ, ◌++◌, IsTrue, is_some, List, [], ◌∷◌, codes, decimal, Some}
use Rattle.nv_tree.specs.Path.{IsPath, Says, last_name}
use Rattle.nv_tree.specs.Tree.{Tree, found}
use Rattle.nv_tree.specs.Refusals.{Path, Tests, stat_tests}
use Rattle.nv_calls.specs.ByNumber.{stat_inode_tests}
use Rattle.nv_archive.specs.declared.chosen.Chosen.{Chosen as ChosenValue}
use Rattle.nv_archive.specs.declared.chosen.Chosen.TheVariants.{Path as ByPath, Number as ByNumber}

-- the tests of what is chosen, which are those of `stat`
abbrev pub AreTests : Tree → ChosenValue → Tests → Type 0
AreTests t (ByPath path) tests = (p : Path) × Says path.now p × (tests ≡ stat_tests t p)
AreTests t (ByNumber i) tests = tests ≡ stat_inode_tests t i

-- the path of the first member: `.` for the root, and else the last name
abbrev pub base_of : List (List ℕ) → List ℕ
base_of [] = codes "."
base_of (name ∷ names) = last_name (name ∷ names)

-- the inode that is chosen, and the path that it has in the archive
abbrev pub IsChosen : Tree → ChosenValue → ℕ → List ℕ → Type 0
IsChosen t (ByPath path) i base = (names : List (List ℕ)) × IsPath path.now names × (found t names ≡ Some i) × (base ≡ base_of names)
IsChosen t (ByNumber number) i base = (i ≡ number) × IsTrue (is_some (t i)) × (base ≡ codes "#" ++ decimal number)

-- ---- the same in parts

-- what is chosen is a path, or this number
abbrev pub IsNamedBy : ChosenValue → ℕ → Type 0
IsNamedBy (ByPath path) i = (names : List (List ℕ)) × IsPath path.now names
IsNamedBy (ByNumber number) i = i ≡ number

-- the inode that is chosen, where a path is one
abbrev pub IsFoundBy : Tree → ChosenValue → ℕ → Type 0
IsFoundBy t (ByPath path) i = (names : List (List ℕ)) → IsPath path.now names → found t names ≡ Some i
IsFoundBy t (ByNumber number) i = (i ≡ number) × IsTrue (is_some (t i))

-- the path that it has in the archive, where a path is one
abbrev pub IsBase : ChosenValue → List ℕ → Type 0
IsBase (ByPath path) base = (names : List (List ℕ)) → IsPath path.now names → base ≡ base_of names
IsBase (ByNumber number) base = base ≡ codes "#" ++ decimal number
