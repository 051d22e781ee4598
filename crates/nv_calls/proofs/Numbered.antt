-- Why the calls that take an inode's number are refused, and when they are not; and what they make of the tree.
use Rattle.std.proofs.Common.{◌≡◌, ◌∙◌, ℕ, Bool, true, false, cond, nat_lt, is_none, List, [], ◌∷◌, ◌++◌, refl, ap, subst, sym, Option, Some, None}
use Rattle.std.specs.Option.{option_map, option_map_or}
use Rattle.nv_region.specs.Region.{Region}
use Rattle.nv_super.specs.Layout.{most_size}
use Rattle.nv_graph.specs.Read.{row_of}
use Rattle.nv_scan.specs.declared.piece.Row.{Row}
use Rattle.nv_tree.specs.declared.refusal.Refusal.{Refusal}
use Rattle.nv_tree.specs.declared.refusal.Refusal.TheVariants.{IsDirectory, NotFound, Stopped, TooLarge}
use Rattle.nv_tree.specs.Tree.{Node, SameTree, Tree, is_directory}
use Rattle.nv_tree.specs.Calls.{edit}
use Rattle.nv_tree.specs.Refusals.{Tests, first_refusal, has_no_space, is_directory_at, is_too_large, writing}
use Rattle.nv_paths.specs.Seen.{node_of, tree_of}
use Rattle.nv_paths.proofs.Refusing.{passed_before, refused_before}
use Rattle.nv_calls.specs.ByNumber.{is_unused}
use Rattle.nv_calls.specs.ChangesByNumber.{resize_inode_tests, set_size_inode_tests}
use Rattle.nv_calls.specs.Mount.{Mount}
use Rattle.nv_calls.specs.World.{world_of}

-- where no inode in use has the number, that is told first, whatever the other tests are
pub told_missing : (o : Option Node) (tests : Tests) (e : Refusal) → e ≡ NotFound → o ≡ None → first_refusal ((is_none o, NotFound) ∷ tests) ≡ Some e
told_missing o tests e is none = rw (is, none) refl

-- where one has it, the other tests decide
pub told_later : (o : Option Node) (node : Node) (tests : Tests) → o ≡ Some node → first_refusal ((is_none o, NotFound) ∷ tests) ≡ first_refusal tests
told_later o node tests some = rw some refl

-- So is a call that writes refused.
pub missing_refuses : {P : Type 0} (region : P → Region) (m : Mount P) (cpu : ℕ) → ((tests : Tests) → first_refusal (writing (world_of m) cpu tests) ≡ first_refusal tests) → (i : ℕ) (more : Tests) (e : Refusal) → e ≡ NotFound → row_of m.rows i ≡ None
    → first_refusal (writing (world_of m) cpu (is_unused (tree_of (region m.memory) m.rows) i ∷ more)) ≡ Some e
missing_refuses {P} region m cpu passed i more e is none =
    let t = tree_of (region m.memory) m.rows in
    passed (is_unused t i ∷ more) ∙ told_missing (t i) more e is (ap (option_map (node_of (region m.memory))) none)

-- Where the inode has a row, the other tests decide.
pub there_goes_on : {P : Type 0} (region : P → Region) {n m : Mount P} → n ≡ m → (cpu : ℕ) → ((tests : Tests) → first_refusal (writing (world_of m) cpu tests) ≡ first_refusal tests) → (i : ℕ) (row : Row) → row_of n.rows i ≡ Some row → (more : Tests)
    → first_refusal (writing (world_of n) cpu (is_unused (tree_of (region n.memory) n.rows) i ∷ more)) ≡ first_refusal more
there_goes_on {P} region {n} {m} same cpu passed i row is more =
    let t = tree_of (region n.memory) n.rows in
    subst (λ (k : Mount P). first_refusal (writing (world_of k) cpu (is_unused t i ∷ more)) ≡ first_refusal (is_unused t i ∷ more)) (sym same) (passed (is_unused t i ∷ more))
    ∙ told_later (t i) (node_of (region n.memory) row) more (ap (option_map (node_of (region n.memory))) is)

-- ---- files

-- A call on the file of a number, by what refuses the file, and then by the space.
module _ {P : Type 0} (region : P → Region) {n m : Mount P} (same : n ≡ m) (cpu size count : ℕ) (passed : (tests : Tests) → first_refusal (writing (world_of m) cpu tests) ≡ first_refusal tests) (i : ℕ) where
  abbrev front : Tests
  front = resize_inode_tests (tree_of (region n.memory) n.rows) i size

  by_front : first_refusal (set_size_inode_tests (world_of n) (tree_of (region n.memory) n.rows) cpu i size count) ≡ first_refusal (front ++ has_no_space (world_of n) count ∷ [])
  by_front = subst (λ (k : Mount P). first_refusal (writing (world_of k) cpu (front ++ has_no_space (world_of n) count ∷ [])) ≡ first_refusal (front ++ has_no_space (world_of n) count ∷ [])) (sym same) (passed (front ++ has_no_space (world_of n) count ∷ []))

  -- what refuses the file refuses the call
  pub file_refuses : (e : Refusal) → first_refusal front ≡ Some e → first_refusal (set_size_inode_tests (world_of n) (tree_of (region n.memory) n.rows) cpu i size count) ≡ Some e
  file_refuses e h = by_front ∙ refused_before front (has_no_space (world_of n) count ∷ []) e h

  -- where the file isn't refused, the space decides
  pub file_allows : first_refusal front ≡ None → first_refusal (set_size_inode_tests (world_of n) (tree_of (region n.memory) n.rows) cpu i size count) ≡ first_refusal (has_no_space (world_of n) count ∷ [])
  file_allows h = by_front ∙ passed_before front (has_no_space (world_of n) count ∷ []) h

-- none of its tests answers `Stopped`
pub file_goes_on : (t : Tree) (i size : ℕ) → first_refusal (resize_inode_tests t i size) ≡ Some Stopped → ⊥
file_goes_on t i size e = by (is_none (t i)) (is_directory_at t i) (nat_lt most_size size) e where
  by : (a b d : Bool) → cond a (Some NotFound) (cond b (Some IsDirectory) (cond d (Some TooLarge) None)) ≡ Some Stopped → ⊥
  by true b d h = absurd (cc)
  by false true d h = absurd (cc)
  by false false true h = absurd (cc)
  by false false false h = absurd (cc)

-- What refuses the file, by what it shows.
pub file_at : (t : Tree) (i size : ℕ) (node : Node) → t i ≡ Some node → first_refusal (resize_inode_tests t i size) ≡ first_refusal ((is_directory node.kind, IsDirectory) ∷ is_too_large size ∷ [])
file_at t i size node shows =
    told_later (t i) node ((is_directory_at t i, IsDirectory) ∷ is_too_large size ∷ []) shows
    ∙ ap (λ (o : Option Node). first_refusal ((option_map_or (λ (n : Node). is_directory n.kind) o false, IsDirectory) ∷ is_too_large size ∷ [])) shows

-- and by its row
pub file_there : (R : Region) (rows : List Row) (i size : ℕ) (row : Row) → row_of rows i ≡ Some row → first_refusal (resize_inode_tests (tree_of R rows) i size) ≡ first_refusal ((is_directory row.kind, IsDirectory) ∷ is_too_large size ∷ [])
file_there R rows i size row is = file_at (tree_of R rows) i size (node_of R row) (ap (option_map (node_of R)) is)

-- ---- what a call makes

-- The tree with the inode of a row changed, told of the inode of a number.
pub inode_changed : {P : Type 0} (region : P → Region) {n m : Mount P} → n ≡ m → (change : Node → Node) (u : Tree) {i j : ℕ} → i ≡ j → SameTree u (edit i change (tree_of (region n.memory) n.rows)) → SameTree u (edit j change (tree_of (region m.memory) m.rows))
inode_changed {P} region {n} {m} same change u {i} {j} number is =
    subst (λ (k : Mount P). SameTree u (edit j change (tree_of (region k.memory) k.rows))) same (subst (λ (q : ℕ). SameTree u (edit q change (tree_of (region n.memory) n.rows))) number is)
