-- What the laws of the tree machine say.
use Rattle.std.specs.Prelude.{◌≡◌, ℕ, Bool, true, false, All, List, ◌∷◌, ◌++◌, Option, None}
use Rattle.nv_tree.specs.declared.refusal.Refusal.{Refusal}
use Rattle.nv_tree.specs.Tree.{Tree, SameTree, name_in}
use Rattle.nv_tree.specs.Refusals.{Tests}

-- Of trees that nobody can tell apart it makes trees that nobody can tell apart.
abbrev pub KeepsSameness : (Tree → Tree) → Type 0
KeepsSameness change = (t u : Tree) → SameTree t u → SameTree (change t) (change u)

-- It is equal for trees that nobody can tell apart.
abbrev pub IsSeenAlike : {A : Type 0} → (Tree → A) → Type 0
IsSeenAlike seen = (t u : Tree) → SameTree t u → seen t ≡ seen u

-- the test doesn't hold
abbrev pub Fails : Bool × Refusal → Type 0
Fails test = test.0 ≡ false

-- The refusal is that of the first test that holds.
pub record IsFirstRefusal (tests : Tests) (r : Refusal) : Type 0 where
  pub before : Tests
  pub after : Tests
  pub whole : tests ≡ before ++ (true, r) ∷ after
  pub fail : All Fails before

-- no name stands in the inode
abbrev pub HasNoNames : Tree → ℕ → Type 0
HasNoNames t i = (name : List ℕ) → name_in t i name ≡ None

-- From the first tree to the second, one name of one directory came to stand for something else, and no other did.
pub record SetsName (t : Tree) (d : ℕ) (name : List ℕ) (to : Option ℕ) (u : Tree) : Type 0 where
  pub here : name_in u d name ≡ to
  pub others : (e : ℕ) (q : List ℕ) → (e ≡ d → q ≡ name → ⊥) → name_in u e q ≡ name_in t e q
