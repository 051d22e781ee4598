-- The names of a directory, without what they stand for.
use Rattle.std.proofs.Common.{◌≡◌, ◌∙◌, ◌⊎◌, ℕ, IsTrue, is_some, inl, inr, List, [], ◌∷◌, map, Option, Some, None, refl, sym, ap, subst}
use Rattle.std.specs.List.{Contains}
use Rattle.nv_super.specs.Order.{Lists, Rises}
use Rattle.nv_super.proofs.Members.{from_map, into_map}
use Rattle.nv_super.proofs.Rising.{Lists-same}
use Rattle.nv_names.specs.declared.named.Named.{Named}
use Rattle.nv_tree.specs.Tree.{Tree, name_in}
use Rattle.nv_members.specs.Members.{name_and_inode}
use Rattle.nv_difference.specs.Merging.{AreMerged}
use Rattle.nv_difference.specs.Names.{AreNamesOf, Stands, by_bytes, name_bytes}
use Rattle.nv_difference.specs.Pairs.{Both}

-- by its bytes
abbrev first : List ℕ × ℕ → List ℕ
first e = e.0

pub rises_names : (lines : List Named) → Rises first (map name_and_inode lines) → Rises by_bytes (map name_bytes lines)
rises_names [] up = tt
rises_names (x ∷ []) up = tt
rises_names (x ∷ y ∷ lines) up = (up.0, rises_names (y ∷ lines) up.1)

some_there : (o : Option ℕ) → IsTrue (is_some o) → (i : ℕ) × (o ≡ Some i)
some_there None is = absurd (cc)
some_there (Some i) is = (i, refl)

-- all names that are listed stand in the directory, and no others
module _ (t : Tree) (d : ℕ) (lines : List Named) (l : Lists first (λ e. name_in t d e.0 ≡ Some e.1) (map name_and_inode lines)) where
  listed_stands : (q : List ℕ) → Contains (map name_bytes lines) q → IsTrue (is_some (name_in t d q))
  listed_stands q c =
      let n = from_map name_bytes lines q c in
      ap is_some (ap (name_in t d) n.2 ∙ l.each (name_and_inode n.0) (into_map name_and_inode lines n.0 n.1))

  stands_listed : (q : List ℕ) → IsTrue (is_some (name_in t d q)) → Contains (map name_bytes lines) q
  stands_listed q is =
      let i = some_there (name_in t d q) is in
      let n = from_map name_and_inode lines (q, i.0) (l.all (q, i.0) i.1) in
      subst (Contains (map name_bytes lines)) (sym (ap first n.2)) (into_map name_bytes lines n.0 n.1)

-- what is merged of two listings are the names of both directories
pub names_of_both : (t u : Tree) (x : Both) (lines more : List Named) → Lists first (λ e. name_in t x.1 e.0 ≡ Some e.1) (map name_and_inode lines) → Lists first (λ e. name_in u x.2 e.0 ≡ Some e.1) (map name_and_inode more)
    → (names : List (List ℕ)) → AreMerged (map name_bytes lines) (map name_bytes more) names → AreNamesOf t u x names
names_of_both t u x lines more l m names are = Lists-same by_bytes (λ q. Contains (map name_bytes lines) q ⊎ Contains (map name_bytes more) q) (Stands t u x) names
    (λ q stands. elim stands [ inl w ↦ inl (listed_stands t x.1 lines l q w) | inr w ↦ inr (listed_stands u x.2 more m q w) ])
    (λ q stands. elim stands [ inl w ↦ inl (stands_listed t x.1 lines l q w) | inr w ↦ inr (stands_listed u x.2 more m q w) ])
    are
