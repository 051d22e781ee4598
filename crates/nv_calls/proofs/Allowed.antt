-- Where no test refuses a call: what its tests say, one by one.
use Rattle.std.proofs.Common.{◌≡◌, ℕ, Bool, true, false, not, nat_lt, is_none, List, [], ◌∷◌, ◌++◌, Option, Some, None, Result, Ok, Err, refl, sym, ap, ◌∙◌}
use Rattle.nv_tree.specs.Tree.{Node, Tree, found, last_in, walk}
use Rattle.nv_tree.specs.Refusals.{Tests, World, first_refusal, is_bad_name, is_missing, refused_walk, walk_tests, writing}
use Rattle.nv_tree.specs.declared.refusal.Refusal.{Refusal}
use Rattle.nv_tree.specs.declared.refusal.Refusal.TheVariants.{BadCpu, ReadOnly}
use Rattle.nv_tree.proofs.Leads.{used_now, walk_ends}
use Rattle.nv_paths.specs.Seen.{LeadsTo}

-- a test that passes, and those behind it
pub first_passes : (x : Bool × Refusal) (tests : Tests) → first_refusal (x ∷ tests) ≡ None → (x.0 ≡ false) × (first_refusal tests ≡ None)
first_passes (true, e) tests none = absurd (cc)
first_passes (false, e) tests none = (refl, none)

pub later_passes : (a b : Tests) → first_refusal (a ++ b) ≡ None → first_refusal b ≡ None
later_passes [] b none = none
later_passes (x ∷ a) b none = later_passes a b (first_passes x (a ++ b) none).1

-- those behind the tests that every writing call begins with
pub writing_passes : (w : World) (cpu : ℕ) (tests : Tests) → first_refusal (writing w cpu tests) ≡ None → first_refusal tests ≡ None
writing_passes w cpu tests none = (first_passes (w.read_only, ReadOnly) tests (first_passes (not (nat_lt cpu w.cpus), BadCpu) ((w.read_only, ReadOnly) ∷ tests) none).1).1

-- ---- paths

-- a path with a name
pub named_passes : (names : List (List ℕ)) (more : Tests) → first_refusal (is_bad_name (Some names) ∷ more) ≡ None → (name : List ℕ) × (others : List (List ℕ)) × (names ≡ name ∷ others) × (first_refusal more ≡ None)
named_passes [] more none = absurd (cc)
named_passes (name ∷ others) more none = (name, others, refl, none)

-- a walk that isn't refused
pub walk_passes : (t : Tree) (names : List (List ℕ)) (more : Tests) → first_refusal (walk_tests t (Some names) ++ more) ≡ None → (d : ℕ) × (walk t 1 names ≡ Ok d) × (first_refusal more ≡ None)
walk_passes t names more none = by (walk t 1 names) refl none where
  by : (r : Result ℕ Refusal) → walk t 1 names ≡ r → first_refusal (refused_walk r ++ more) ≡ None → (d : ℕ) × (walk t 1 names ≡ Ok d) × (first_refusal more ≡ None)
  by (Err e) is none = absurd (cc)
  by (Ok d) is none = (d, is, none)

-- where it ends at a name, an inode is in use
pub directory_used : (t : Tree) (names : List (List ℕ)) (name : List ℕ) (others : List (List ℕ)) (d : ℕ) → names ≡ name ∷ others → walk t 1 names ≡ Ok d → (a : Node) × (t d ≡ Some a)
directory_used t names name others d is ended = walk_ends t 1 name others d (ap (walk t 1) (sym is) ∙ ended)

pub found_used : (t : Tree) (names : List (List ℕ)) (i : ℕ) → found t names ≡ Some i → (a : Node) × (t i ≡ Some a)
found_used t [] i is = (let w = used_now t (Some 1) i is in (w.0, w.2))
found_used t (name ∷ names) i is = (let w = used_now t (last_in t (walk t 1 (name ∷ names)) (name ∷ names)) i is in (w.0, w.2))

-- an inode that a path leads to
pub leads_passes : (t : Tree) (names : List (List ℕ)) (more : Tests) → first_refusal (is_missing t (Some names) ∷ more) ≡ None → (i : ℕ) × (node : Node) × LeadsTo t names i node
leads_passes t names more none = by (found t names) refl (first_passes (is_missing t (Some names)) more none).0 where
  by : (o : Option ℕ) → found t names ≡ o → is_none o ≡ false → (i : ℕ) × (node : Node) × LeadsTo t names i node
  by None is there = absurd (cc)
  by (Some i) is there = (let w = found_used t names i is in (i, w.0, record { leads = is; shows = w.1 }))

-- what is there
pub some_passes : (o : Option ℕ) → is_none o ≡ false → (i : ℕ) × (o ≡ Some i)
some_passes None there = absurd (cc)
some_passes (Some i) there = (i, refl)
