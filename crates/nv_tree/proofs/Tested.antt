-- Trees that nobody can tell apart: the same tests hold, call by call.
use Rattle.std.proofs.Common.{◌≡◌, ℕ, Bool, false, not, nat_lt, nat_le, ◌&&◌, eqb, is_some, is_none, [], ◌∷◌, ◌++◌, Option, Some, None, refl, ◌∙◌, ap}
use Rattle.std.specs.List.{list_any}
use Rattle.nv_super.specs.Layout.{most_links}
use Rattle.nv_tree.specs.declared.refusal.Refusal.{Refusal}
use Rattle.nv_tree.specs.declared.refusal.Refusal.TheVariants.{NotFound, Exists, NotDirectory, IsDirectory, NotEmpty, LinkLimit, IntoItself}
use Rattle.nv_tree.specs.Tree.{Tree, SameTree}
use Rattle.nv_tree.specs.Calls.{links_at}
use Rattle.nv_tree.specs.Refusals.{Tests, Path, World, refused_walk, walk_tests, target, is_missing, is_there, is_directory_at, is_dir, is_no_dir, count_at, has_names, has_most_links, passes, is_into_itself, is_bad, is_too_large, has_no_space, writing, create_tests, write_tests, set_size_tests, set_attr_tests, link_tests, unlink_tests, rmdir_tests, rename_tests, read_tests, list_tests, stat_tests}
use Rattle.nv_tree.proofs.Alike.{walk_alike, found_alike, passed_alike, directory_alike, count_alike, links_alike, mapped}

-- ---- each test

pub walks_alike : (t u : Tree) → SameTree t u → (p : Path) → walk_tests t p ≡ walk_tests u p
walks_alike t u same None = refl
walks_alike t u same (Some names) = ap refused_walk (walk_alike t u same 1 names)

pub target_alike : (t u : Tree) → SameTree t u → (p : Path) → target t p ≡ target u p
target_alike t u same None = refl
target_alike t u same (Some names) = found_alike t u same names

passes_alike : (t u : Tree) → SameTree t u → (p : Path) (i : ℕ) → passes t p i ≡ passes u p i
passes_alike t u same None i = refl
passes_alike t u same (Some names) i = ap (λ l. list_any (eqb i) l) (passed_alike t u same 1 names)

-- a test with its refusal
abbrev pub test : Refusal → Bool → Bool × Refusal
test r b = (b, r)

pub missing_alike : (t u : Tree) → SameTree t u → (p : Path) → is_missing t p ≡ is_missing u p
missing_alike t u same p = ap (λ (o : Option ℕ). test NotFound (is_none o)) (target_alike t u same p)

present_alike : (t u : Tree) → SameTree t u → (p : Path) → is_there t p ≡ is_there u p
present_alike t u same p = ap (λ (o : Option ℕ). test Exists (is_some o)) (target_alike t u same p)

dir_alike : (t u : Tree) → SameTree t u → (p : Path) → is_dir t p ≡ is_dir u p
dir_alike t u same p = ap (test IsDirectory) (mapped (is_directory_at t) (is_directory_at u) false (directory_alike t u same) (target t p) (target u p) (target_alike t u same p))

no_dir_alike : (t u : Tree) → SameTree t u → (p : Path) → is_no_dir t p ≡ is_no_dir u p
no_dir_alike t u same p = ap (λ b. test NotDirectory (not b)) (mapped (is_directory_at t) (is_directory_at u) false (directory_alike t u same) (target t p) (target u p) (target_alike t u same p))

names_alike : (t u : Tree) → SameTree t u → (p : Path) → has_names t p ≡ has_names u p
names_alike t u same p = ap (test NotEmpty) (mapped (λ i. nat_lt 0 (count_at t i)) (λ i. nat_lt 0 (count_at u i)) false (λ i. ap (nat_lt 0) (count_alike t u same i)) (target t p) (target u p) (target_alike t u same p))

most_links_alike : (t u : Tree) → SameTree t u → (p : Path) → has_most_links t p ≡ has_most_links u p
most_links_alike t u same p = ap (test LinkLimit) (mapped (λ i. nat_le most_links (links_at t i)) (λ i. nat_le most_links (links_at u i)) false (λ i. ap (nat_le most_links) (links_alike t u same i)) (target t p) (target u p) (target_alike t u same p))

pub into_itself_alike : (t u : Tree) → SameTree t u → (p q : Path) → is_into_itself t p q ≡ is_into_itself u p q
into_itself_alike t u same p q = ap (test IntoItself) (mapped (λ i. is_directory_at t i && passes t q i) (λ i. is_directory_at u i && passes u q i) false
    (λ i. ap (λ b. b && passes t q i) (directory_alike t u same i) ∙ ap (λ b. is_directory_at u i && b) (passes_alike t u same q i)) (target t p) (target u p) (target_alike t u same p))

-- ---- lists of tests

pub and_tests : {a b x y : Tests} → a ≡ b → x ≡ y → a ++ x ≡ b ++ y
and_tests {a} {b} {x} {y} e f = ap (λ (l : Tests). l ++ x) e ∙ ap (λ (l : Tests). b ++ l) f

pub and_test : {x y : Bool × Refusal} {l m : Tests} → x ≡ y → l ≡ m → x ∷ l ≡ y ∷ m
and_test {x} {y} {l} {m} e f = ap (λ (v : Bool × Refusal). v ∷ l) e ∙ ap (λ (r : Tests). y ∷ r) f

pub behind : (w : World) (cpu : ℕ) {l m : Tests} → l ≡ m → writing w cpu l ≡ writing w cpu m
behind w cpu e = ap (λ (l : Tests). writing w cpu l) e

pub create_alike : (w : World) (cpu : ℕ) (p : Path) (needed : ℕ) (t u : Tree) → SameTree t u → create_tests w t cpu p needed ≡ create_tests w u cpu p needed
create_alike w cpu p needed t u same = behind w cpu (and_test refl (and_tests (walks_alike t u same p) (and_test (present_alike t u same p) refl)))

-- the tests of a path that stand before those of a file's change
on_file : (t u : Tree) → SameTree t u → (p : Path) (tests : Tests) → is_bad p ∷ walk_tests t p ++ is_missing t p ∷ is_dir t p ∷ tests ≡ is_bad p ∷ walk_tests u p ++ is_missing u p ∷ is_dir u p ∷ tests
on_file t u same p tests = and_test refl (and_tests (walks_alike t u same p) (and_test (missing_alike t u same p) (and_test (dir_alike t u same p) refl)))

pub write_alike : (w : World) (cpu : ℕ) (p : Path) (end needed : ℕ) (t u : Tree) → SameTree t u → write_tests w t cpu p end needed ≡ write_tests w u cpu p end needed
write_alike w cpu p end needed t u same = behind w cpu (on_file t u same p (is_too_large end ∷ has_no_space w needed ∷ []))

pub set_size_alike : (w : World) (cpu : ℕ) (p : Path) (size needed : ℕ) (t u : Tree) → SameTree t u → set_size_tests w t cpu p size needed ≡ set_size_tests w u cpu p size needed
set_size_alike w cpu p size needed t u same = behind w cpu (on_file t u same p (is_too_large size ∷ has_no_space w needed ∷ []))

pub set_attr_alike : (w : World) (cpu : ℕ) (p : Path) (needed : ℕ) (t u : Tree) → SameTree t u → set_attr_tests w t cpu p needed ≡ set_attr_tests w u cpu p needed
set_attr_alike w cpu p needed t u same = behind w cpu (and_test refl (and_tests (walks_alike t u same p) (and_test (missing_alike t u same p) refl)))

pub link_alike : (w : World) (cpu : ℕ) (p q : Path) (needed : ℕ) (t u : Tree) → SameTree t u → link_tests w t cpu p q needed ≡ link_tests w u cpu p q needed
link_alike w cpu p q needed t u same = behind w cpu (and_test refl (and_test refl (and_tests (and_tests (walks_alike t u same p) (walks_alike t u same q))
    (and_test (missing_alike t u same p) (and_test (dir_alike t u same p) (and_test (present_alike t u same q) (and_test (most_links_alike t u same p) refl)))))))

pub unlink_alike : (w : World) (cpu : ℕ) (p : Path) (needed : ℕ) (t u : Tree) → SameTree t u → unlink_tests w t cpu p needed ≡ unlink_tests w u cpu p needed
unlink_alike w cpu p needed t u same = behind w cpu (and_test refl (and_tests (walks_alike t u same p) (and_test (missing_alike t u same p) (and_test (dir_alike t u same p) refl))))

pub rmdir_alike : (w : World) (cpu : ℕ) (p : Path) (needed : ℕ) (t u : Tree) → SameTree t u → rmdir_tests w t cpu p needed ≡ rmdir_tests w u cpu p needed
rmdir_alike w cpu p needed t u same = behind w cpu (and_test refl (and_tests (walks_alike t u same p) (and_test (missing_alike t u same p) (and_test (no_dir_alike t u same p) (and_test (names_alike t u same p) refl)))))

pub rename_alike : (w : World) (cpu : ℕ) (p q : Path) (needed : ℕ) (t u : Tree) → SameTree t u → rename_tests w t cpu p q needed ≡ rename_tests w u cpu p q needed
rename_alike w cpu p q needed t u same = behind w cpu (and_test refl (and_test refl (and_tests (and_tests (walks_alike t u same p) (walks_alike t u same q))
    (and_test (missing_alike t u same p) (and_test (into_itself_alike t u same p q) (and_test (present_alike t u same q) refl))))))

pub read_tests_alike : (p : Path) (t u : Tree) → SameTree t u → read_tests t p ≡ read_tests u p
read_tests_alike p t u same = on_file t u same p []

pub list_alike : (p : Path) (t u : Tree) → SameTree t u → list_tests t p ≡ list_tests u p
list_alike p t u same = and_test refl (and_tests (walks_alike t u same p) (and_test (missing_alike t u same p) (and_test (no_dir_alike t u same p) refl)))

pub stat_alike : (p : Path) (t u : Tree) → SameTree t u → stat_tests t p ≡ stat_tests u p
stat_alike p t u same = and_test refl (and_tests (walks_alike t u same p) (and_test (missing_alike t u same p) refl))
