-- Trees that nobody can tell apart: paths lead to the same inodes, and the same tests hold.
use Rattle.std.proofs.Common.{◌≡◌, ℕ, ◌+◌, ◌-◌, ◌<◌, Bool, false, cond, is_some, min, List, [], ◌∷◌, map, Option, Some, None, Result, Ok, Err, refl, sym, ◌∙◌, ap, subst, arith}
use Rattle.std.specs.List.{range_with_len}
use Rattle.std.specs.Option.{option_and_then, option_map_or}
use Rattle.std.proofs.lemmas.List.{same_lists}
use Rattle.std.proofs.lemmas.List.FromFn.{length-map-range_with_len, get_or-map-range_with_len}
use Rattle.nv_super.specs.declared.kind.Kind.{Kind}
use Rattle.nv_tree.specs.declared.refusal.Refusal.{Refusal}
use Rattle.nv_tree.specs.declared.refusal.Refusal.TheVariants.{NotDirectory}
use Rattle.nv_tree.specs.Path.{last_name}
use Rattle.nv_tree.specs.Tree.{Node, Tree, SameNode, SameNodes, SameTree, is_directory, name_in, as_directory, and_then, or_not_found, walk, in_use, last_in, found, passed}
use Rattle.nv_tree.specs.Calls.{links_at, bytes_read}
use Rattle.nv_tree.specs.Refusals.{is_directory_at, count_at}

-- ---- what one inode shows

-- what is read of an inode in use
shown : {A : Type 0} (f : Node → A) (d : A) → ((a b : Node) → SameNode a b → f a ≡ f b) → (o p : Option Node) → SameNodes o p → option_map_or f o d ≡ option_map_or f p d
shown f d h None None s = refl
shown f d h None (Some b) s = absurd s
shown f d h (Some a) None s = absurd s
shown f d h (Some a) (Some b) s = h a b s

in_node : (name : List ℕ) (o p : Option Node) → SameNodes o p → option_and_then (λ (node : Node). node.names name) o ≡ option_and_then (λ (node : Node). node.names name) p
in_node name None None s = refl
in_node name None (Some b) s = absurd s
in_node name (Some a) None s = absurd s
in_node name (Some a) (Some b) s = s.names name

pub name_alike : (t u : Tree) → SameTree t u → (d : ℕ) (name : List ℕ) → name_in t d name ≡ name_in u d name
name_alike t u same d name = in_node name (t d) (u d) (same d)

there_alike : (o p : Option Node) → SameNodes o p → is_some o ≡ is_some p
there_alike None None s = refl
there_alike None (Some b) s = absurd s
there_alike (Some a) None s = absurd s
there_alike (Some a) (Some b) s = refl

ends_alike : (i : ℕ) (o p : Option Node) → SameNodes o p → as_directory i o ≡ as_directory i p
ends_alike i None None s = refl
ends_alike i None (Some b) s = absurd s
ends_alike i (Some a) None s = absurd s
ends_alike i (Some a) (Some b) s =
    let result : Bool → Result ℕ Refusal = λ v. cond v (Ok i) (Err NotDirectory) in
    ap (λ (k : Kind). result (is_directory k)) s.kind

pub links_alike : (t u : Tree) → SameTree t u → (i : ℕ) → links_at t i ≡ links_at u i
links_alike t u same i = shown (λ (node : Node). node.links) 0 (λ a b s. s.links) (t i) (u i) (same i)

pub count_alike : (t u : Tree) → SameTree t u → (i : ℕ) → count_at t i ≡ count_at u i
count_alike t u same i = shown (λ (node : Node). node.count) 0 (λ a b s. s.count) (t i) (u i) (same i)

pub directory_alike : (t u : Tree) → SameTree t u → (i : ℕ) → is_directory_at t i ≡ is_directory_at u i
directory_alike t u same i = shown (λ (node : Node). is_directory node.kind) false (λ a b s. ap is_directory s.kind) (t i) (u i) (same i)

mapped_range : (f g : ℕ → ℕ) (from n : ℕ) → ((k : ℕ) → k < n → f (from + k) ≡ g (from + k)) → map f (range_with_len from n) ≡ map g (range_with_len from n)
mapped_range f g from n h = same_lists (map f (range_with_len from n)) (map g (range_with_len from n)) (length-map-range_with_len f from n ∙ sym (length-map-range_with_len g from n)) (λ k d l.
    let below : k < n = subst (λ m. k < m) (length-map-range_with_len f from n) l in
    get_or-map-range_with_len f from n k (from + k) d below refl ∙ h k below ∙ sym (get_or-map-range_with_len g from n k (from + k) d below refl))

below_size : (offset count size k : ℕ) → k < min count (size - offset) → offset + k < size
below_size offset count size k below = omega arith

-- the bytes that are read lie below the size
pub read_alike : (offset count : ℕ) (a b : Node) → SameNode a b → bytes_read offset count a ≡ bytes_read offset count b
read_alike offset count a b s =
    mapped_range a.bytes b.bytes offset (min count (a.size - offset)) (λ k below. s.bytes (offset + k) (below_size offset count a.size k below))
    ∙ ap (λ m. map b.bytes (range_with_len offset (min count (m - offset)))) s.size

-- ---- where paths lead

next_alike : (r s : Result ℕ Refusal) → r ≡ s → (f g : ℕ → Result ℕ Refusal) → ((i : ℕ) → f i ≡ g i) → and_then r f ≡ and_then s g
next_alike r s e f g h = by r ∙ ap (λ x. and_then x g) e
  where
    by : (x : Result ℕ Refusal) → and_then x f ≡ and_then x g
    by (Err refusal) = refl
    by (Ok i) = h i

pub walk_alike : (t u : Tree) → SameTree t u → (d : ℕ) (names : List (List ℕ)) → walk t d names ≡ walk u d names
walk_alike t u same d [] = refl
walk_alike t u same d (name ∷ []) = ends_alike d (t d) (u d) (same d)
walk_alike t u same d (name ∷ next ∷ names) =
    next_alike (as_directory d (t d)) (as_directory d (u d)) (ends_alike d (t d) (u d) (same d))
    (λ e. and_then (or_not_found (name_in t e name)) (λ i. walk t i (next ∷ names))) (λ e. and_then (or_not_found (name_in u e name)) (λ i. walk u i (next ∷ names)))
    (λ e. next_alike (or_not_found (name_in t e name)) (or_not_found (name_in u e name)) (ap or_not_found (name_alike t u same e name))
    (λ i. walk t i (next ∷ names)) (λ i. walk u i (next ∷ names)) (λ i. walk_alike t u same i (next ∷ names)))

use_alike : (t u : Tree) → SameTree t u → (o : Option ℕ) → in_use t o ≡ in_use u o
use_alike t u same None = refl
use_alike t u same (Some i) =
    let where_used : Bool → Option ℕ = λ b. cond b (Some i) None in
    ap where_used (there_alike (t i) (u i) (same i))

last_alike : (t u : Tree) → SameTree t u → (r s : Result ℕ Refusal) → r ≡ s → (names : List (List ℕ)) → last_in t r names ≡ last_in u s names
last_alike t u same r s e names = by r ∙ ap (λ x. last_in u x names) e
  where
    by : (x : Result ℕ Refusal) → last_in t x names ≡ last_in u x names
    by (Err refusal) = refl
    by (Ok d) = name_alike t u same d (last_name names)

pub found_alike : (t u : Tree) → SameTree t u → (names : List (List ℕ)) → found t names ≡ found u names
found_alike t u same [] = use_alike t u same (Some 1)
found_alike t u same (name ∷ names) =
    use_alike t u same (last_in t (walk t 1 (name ∷ names)) (name ∷ names)) ∙ ap (in_use u) (last_alike t u same (walk t 1 (name ∷ names)) (walk u 1 (name ∷ names)) (walk_alike t u same 1 (name ∷ names)) (name ∷ names))

-- what is made of a number, where there is one
pub mapped : {A : Type 0} (f g : ℕ → A) (d : A) → ((i : ℕ) → f i ≡ g i) → (o p : Option ℕ) → o ≡ p → option_map_or f o d ≡ option_map_or g p d
mapped {A} f g d h o p e = by o ∙ ap (λ x. option_map_or g x d) e
  where
    by : (x : Option ℕ) → option_map_or f x d ≡ option_map_or g x d
    by None = refl
    by (Some i) = h i

pub passed_alike : (t u : Tree) → SameTree t u → (d : ℕ) (names : List (List ℕ)) → passed t d names ≡ passed u d names
passed_alike t u same d [] = refl
passed_alike t u same d (name ∷ []) = refl
passed_alike t u same d (name ∷ next ∷ names) =
    ap (λ l. d ∷ l) (mapped (λ i. passed t i (next ∷ names)) (λ i. passed u i (next ∷ names)) [] (λ i. passed_alike t u same i (next ∷ names)) (name_in t d name) (name_in u d name) (name_alike t u same d name))
