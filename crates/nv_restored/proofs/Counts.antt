-- Files that show the same by paths have as many links, where these are their names.
use Rattle.std.proofs.Common.{◌≡◌, ℕ, suc, ◌<◌, ◌≤◌, ◌⊎◌, slice_index_or, List, [], ◌∷◌, ◌++◌, length, Some, refl, sym, ◌∙◌, ap, subst, inl, inr, arith}
use Rattle.std.specs.List.{Contains, slice_get}
use Rattle.std.proofs.lemmas.List.{length-append}
use Rattle.std.proofs.lemmas.Option.{slice_get-get_or}
use Rattle.nv_super.proofs.Members.{none_in}
use Rattle.nv_super.proofs.Rising.{Contains-cons, Contains-head, Contains-tail}
use Rattle.nv_tree.specs.Path.{IsPath, path_text, spelled}
use Rattle.nv_tree.specs.Tree.{Tree, found}
use Rattle.nv_restored.specs.Links.{AreNamesOf, HasSameLinks, IsOnce, IsWithinReach, LinksAreNames}
use Rattle.nv_restored.specs.Same.{IsSameByPaths, JoinsIn, LeadsIn}
use Rattle.nv_restored.proofs.Same.{path_of_names}
use Rattle.nv_restored.proofs.Ways.{spelled_more}
use Rattle.nv_restored.proofs.Walks.{last_step}
use Rattle.nv_restored.proofs.Items.{all_left, text_of_path}

abbrev Name : Type 0
Name = ℕ × List ℕ

-- ---- lists without doubles

rest_once : (x : Name) (xs : List Name) → IsOnce (x ∷ xs) → IsOnce xs
rest_once x xs once j k y here there = omega (arith, once (suc j) (suc k) y here there)

head_differs : (x : Name) (xs : List Name) → IsOnce (x ∷ xs) → Contains xs x → ⊥
head_differs x xs once c = let same = once 0 (suc c.0) x refl (at xs c.0 x c.1 c.2) in omega (arith, same)
  where
    at : (xs : List Name) (k : ℕ) (x : Name) → k < length xs → slice_index_or xs k x ≡ x → slice_get xs k ≡ Some x
    at xs k x below is = slice_get-get_or xs k x below ∙ ap (λ (y : Name). Some y) is

-- the others, where one is taken out
without : (xs : List Name) (x : Name) → Contains xs x → (ys : List Name) × (length xs ≡ suc (length ys)) × ((y : Name) → Contains xs y → (y ≡ x → ⊥) → Contains ys y)
without [] x c = absurd (none_in x c)
without (z ∷ xs) x c = by (Contains-cons z xs x c) (without xs x)
  where
    by : (x ≡ z) ⊎ Contains xs x → (Contains xs x → (ys : List Name) × (length xs ≡ suc (length ys)) × ((y : Name) → Contains xs y → (y ≡ x → ⊥) → Contains ys y))
        → (ys : List Name) × (length (z ∷ xs) ≡ suc (length ys)) × ((y : Name) → Contains (z ∷ xs) y → (y ≡ x → ⊥) → Contains ys y)
    by (inl is) rest = (xs, refl, λ y there differs. elim (Contains-cons z xs y there) [ inl w ↦ absurd (differs (w ∙ sym is)) | inr w ↦ w ])
    by (inr in_rest) rest =
        let r = rest in_rest in
        let long = r.1 in (
          z ∷ r.0,
          ap suc long,
          λ y there differs. elim (Contains-cons z xs y there) [
            | inl w ↦ subst (λ (q : Name). Contains (z ∷ r.0) q) (sym w) (Contains-head z r.0)
            | inr w ↦ Contains-tail z r.0 y (r.2 y w differs)
          ],
        )

-- where each of a list has one of its own in another, the other is as long
as_many : (R : Name → Name → Type 0) → ((x z y : Name) → R x y → R z y → x ≡ z) → (xs ys : List Name) → IsOnce xs → ((x : Name) → Contains xs x → (y : Name) × Contains ys y × R x y) → length xs ≤ length ys
as_many R own [] ys once each = omega arith
as_many R own (x ∷ xs) ys once each =
    let y = each x (Contains-head x xs) in
    let r = without ys y.0 y.1 in
    let rest = as_many R own xs r.0 (rest_once x xs once) (λ z here.
    let w = each z (Contains-tail x xs z here) in
    (w.0, r.2 w.0 w.1 (λ same. head_differs x xs once (subst (λ (q : Name). Contains xs q) (own z x y.0 (subst (λ (q : Name). R z q) same w.2) y.2) here)), w.2)) in
    let long = r.1 in
    omega (arith, rest, long)

-- ---- the names of a file in both trees

-- a path leads to the one's directory in the first tree and to the other's in the second
record IsSameName (t u : Tree) (x y : Name) : Type 0 where
  text : List ℕ
  names : List (List ℕ)
  path : IsPath text names
  one : found t names ≡ Some x.0
  other : found u names ≡ Some y.0
  name : x.1 ≡ y.1

same_pair : (x y : Name) → x.0 ≡ y.0 → x.1 ≡ y.1 → x ≡ y
same_pair x y one two =
    let pair : ℕ → List ℕ → ℕ × List ℕ = λ a b. (a, b) in
    ap (λ (a : ℕ). pair a x.1) one ∙ ap (pair y.0) two

one_number : (m n : ℕ) → Some m ≡ Some n → m ≡ n
one_number m n h = cc

-- the path in front of its last name
front_path : (text : List ℕ) (names : List (List ℕ)) (q : List ℕ) → IsPath text (names ++ q ∷ []) → IsPath (path_text names) names
front_path text names q path =
    let long = ap (length {A = ℕ}) (path.spells ∙ text_of_path names q ∙ spelled_more names q) ∙ length-append (spelled names) (47 ∷ q) in
    let short = path.short in
    path_of_names names (all_left names (q ∷ []) path.good) (omega (arith, long, short))

no_more : (t u : Tree) → LeadsIn t u → JoinsIn t u → JoinsIn u t → IsWithinReach t → (said : List ℕ) (way : List (List ℕ)) (i j : ℕ) → IsPath said way → found t way ≡ Some i → found u way ≡ Some j
    → (xs ys : List Name) → AreNamesOf t i xs → AreNamesOf u j ys → length xs ≤ length ys
no_more t u leads joins parts within said way i j path led other xs ys here there = as_many (IsSameName t u) own xs ys here.once each
  where
    own : (x z y : Name) → IsSameName t u x y → IsSameName t u z y → x ≡ z
    own x z y a b =
        let same : Some x.0 ≡ Some z.0 = sym a.one ∙ parts a.text a.names b.text b.names y.0 a.path b.path a.other b.other ∙ b.one in
        same_pair x z (one_number x.0 z.0 same) (a.name ∙ sym b.name)

    each : (x : Name) → Contains xs x → (y : Name) × Contains ys y × IsSameName t u x y
    each x is =
        let w = within x.0 i x.1 (here.each x is) in
        let front = front_path w.0 w.1 x.1 w.2 in
        let e = leads (path_text w.1) w.1 x.0 front w.3 in
        let longer : found u (w.1 ++ x.1 ∷ []) ≡ Some j = joins w.0 (w.1 ++ x.1 ∷ []) said way i w.2 path w.4 led ∙ other in
        ((e.0, x.1), there.all (e.0, x.1) (last_step u w.1 x.1 e.0 j e.1 longer), record { text = path_text w.1; names = w.1; path = front; one = w.3; other = e.1; name = refl })

pub links_agree : (t u : Tree) → IsSameByPaths t u → LinksAreNames t → LinksAreNames u → IsWithinReach t → IsWithinReach u → HasSameLinks t u
links_agree t u same one two within reach text names i j a b path led other a_is b_is file =
    let xs = one i a a_is file in
    let ys = two j b b_is (sym (same.shows text names i j a b path led other a_is b_is).kind ∙ file) in
    let less = no_more t u same.leads same.joins same.parts within text names i j path led other xs.0 ys.0 xs.1 ys.1 in
    let more = no_more u t same.back same.parts same.joins reach text names j i path other led ys.0 xs.0 ys.1 xs.1 in
    let long = xs.2 in
    let also = ys.2 in
    omega (arith, less, more, long, also)
