-- The entries of a tree as far as it is walked.
use Rattle.std.proofs.Common.{◌≡◌, ◌∙◌, ◌≤◌, ◌<◌, ◌+◌, ◌++◌, ℕ, Bor, List, [], ◌∷◌, length, get_or, map, take, string_bytes, refl, sym, ap, length-append, arith}
use Rattle.std.proofs.lemmas.List.{map-append, take_more}
use Rattle.std.proofs.lemmas.Option.{slice_get_within}
use Rattle.nv_host.specs.declared.walking.HostEntry.{HostEntry}
use Rattle.nv_host.specs.Places.{with_slash}
use Rattle.nv_host.specs.Walking.{AreNamed, IsWalked, begins, passes, enters}

-- no more entries are passed than there are
pub walked_within : (root : List ℕ) (entries : List HostEntry) (count : ℕ) → IsWalked root entries count → count ≤ length entries
walked_within root es n (begins top is) = omega arith
walked_within root es n (passes entries count file at kind walked) = let inside = slice_get_within entries count file at in omega (arith, inside)
walked_within root es n (enters entries more count folder at kind walked are) =
    let inside = slice_get_within entries count folder at in let long = length-append entries more in omega (arith, inside, long)

-- ---- what has names in a directory

pub no_names : (path place : List ℕ) → AreNamed path place [] []
no_names path place = record { paths = refl; places = refl }

module _ (path place : List ℕ) (names : List (List ℕ)) (inside : List HostEntry) (name : List ℕ) (entry : HostEntry) where
  pub one_more : AreNamed path place names inside → string_bytes entry.path ≡ with_slash path ++ name → string_bytes entry.place ≡ with_slash place ++ name
      → AreNamed path place (names ++ name ∷ []) (inside ++ entry ∷ [])
  one_more named at there = record {
    paths = map-append (λ (e : HostEntry). string_bytes e.path) inside (entry ∷ []) ∙ alike named.paths (ap (λ (text : List ℕ). text ∷ []) at)
        ∙ sym (map-append (λ (n : List ℕ). with_slash path ++ n) names (name ∷ []));
    places = map-append (λ (e : HostEntry). string_bytes e.place) inside (entry ∷ []) ∙ alike named.places (ap (λ (text : List ℕ). text ∷ []) there)
        ∙ sym (map-append (λ (n : List ℕ). with_slash place ++ n) names (name ∷ []));
  }
    where
      alike : {xs ys us vs : List (List ℕ)} → xs ≡ ys → us ≡ vs → xs ++ us ≡ ys ++ vs
      alike front back = cc

-- the names up to a further one
pub names_taken : (names : List (Bor (List ℕ))) (i : ℕ) (d : Bor (List ℕ)) → i < length names
    → map (λ (name : Bor (List ℕ)). name.now) (take (i + 1) names) ≡ map (λ (name : Bor (List ℕ)). name.now) (take i names) ++ (get_or names i d).now ∷ []
names_taken names i d below = ap (map (λ (name : Bor (List ℕ)). name.now)) (take_more names i d below) ∙ map-append (λ (name : Bor (List ℕ)). name.now) (take i names) (get_or names i d ∷ [])
