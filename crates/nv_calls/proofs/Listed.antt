-- The names of a directory's row as those of the tree, and why `list` is refused.
use Rattle.std.proofs.Common.{◌≡◌, ℕ, Bool, is_none, inl, inr, List, [], ◌∷◌, ◌++◌, map, refl, sym, ◌∙◌, ap, subst, arith, Option, Some, None, Result, Ok, Err}
use Rattle.std.specs.List.{Contains}
use Rattle.std.specs.Option.{option_map, option_and_then}
use Rattle.nv_region.specs.Region.{Region}
use Rattle.nv_super.specs.Order.{Rises, Lists}
use Rattle.nv_super.proofs.Rising.{Contains-cons, Contains-head, Contains-tail}
use Rattle.nv_names.specs.declared.named.Named.{Named}
use Rattle.nv_names.specs.Names.{name_at, line_of, ListsNames}
use Rattle.nv_scan.specs.declared.piece.Row.{Row}
use Rattle.nv_scan.proofs.NamesListed.{names_listed}
use Rattle.nv_tree.specs.declared.refusal.Refusal.{Refusal}
use Rattle.nv_tree.specs.declared.refusal.Refusal.TheVariants.{NotFound, NotDirectory}
use Rattle.nv_tree.specs.Tree.{Node, Tree, walk, found, name_in}
use Rattle.nv_tree.specs.Refusals.{Path, first_refusal, refused_walk, is_no_dir, stat_tests, list_tests}
use Rattle.nv_paths.specs.Seen.{node_of, tree_of, LeadsTo}
use Rattle.nv_calls.specs.Listing.{name_and_inode, ListsNamesIn}

-- ---- lines with their places, and without

abbrev name : List ℕ × ℕ × ℕ → List ℕ
name x = x.0

abbrev first : List ℕ × ℕ → List ℕ
first x = x.0

rises : (lines : List Named) → Rises name (map line_of lines) → Rises first (map name_and_inode lines)
rises [] up = tt
rises (x ∷ []) up = tt
rises (x ∷ y ∷ lines) up = (up.0, rises (y ∷ lines) up.1)

with_place : (lines : List Named) (x : List ℕ × ℕ) → Contains (map name_and_inode lines) x → (at : ℕ) × Contains (map line_of lines) (x.0, x.1, at)
with_place [] x c = absurd (omega (arith, c.1))
with_place (n ∷ lines) x c = elim (Contains-cons (name_and_inode n) (map name_and_inode lines) x c) [
  | inl w ↦ (n.place, subst (λ (y : List ℕ × ℕ). Contains (map line_of (n ∷ lines)) (y.0, y.1, n.place)) (sym w) (Contains-head (line_of n) (map line_of lines)))
  | inr w ↦ (let r = with_place lines x w in (r.0, Contains-tail (line_of n) (map line_of lines) (x.0, x.1, r.0) r.1))
]

without_place : (lines : List Named) (x : List ℕ × ℕ × ℕ) → Contains (map line_of lines) x → Contains (map name_and_inode lines) (x.0, x.1)
without_place [] x c = absurd (omega (arith, c.1))
without_place (n ∷ lines) x c = elim (Contains-cons (line_of n) (map line_of lines) x c) [
  | inl w ↦ subst (λ (y : List ℕ × ℕ × ℕ). Contains (map name_and_inode (n ∷ lines)) (y.0, y.1)) (sym w) (Contains-head (name_and_inode n) (map name_and_inode lines))
  | inr w ↦ Contains-tail (name_and_inode n) (map name_and_inode lines) (x.0, x.1) (without_place lines x w)
]

-- what stands for the name is in the listing
listed : (lines : List Named) (names_of : List ℕ → Option (ℕ × ℕ)) (x : List ℕ × ℕ) → Lists name (λ y. names_of y.0 ≡ Some (y.1, y.2)) (map line_of lines) → (o : Option (ℕ × ℕ)) → names_of x.0 ≡ o
    → option_map (λ (y : ℕ × ℕ). y.0) o ≡ Some x.1 → Contains (map name_and_inode lines) x
listed lines names_of x l None e is = absurd (cc)
listed lines names_of x l (Some y) e is =
    let same : y.0 ≡ x.1 = cc in
    subst (λ (i : ℕ). Contains (map name_and_inode lines) (x.0, i)) same (without_place lines (x.0, y.0, y.1) (l.all (x.0, y.0, y.1) e))

-- the names of a directory, by its number
pub lists_row : (t : Tree) (R : Region) (row : Row) (i : ℕ) (lines : List Named) → t i ≡ Some (node_of R row) → ListsNames row.names (map line_of lines) → Lists first (λ x. name_in t i x.0 ≡ Some x.1) (map name_and_inode lines)
lists_row t R row i lines shows l =
    let all = names_listed row.names (map line_of lines) l in
    let named = λ (q : List ℕ). ap (option_and_then (λ (node : Node). node.names q)) shows in
    record {
      rising = rises lines all.rising;
      each = λ x c. (let w = with_place lines x c in named x.0 ∙ ap (option_map (λ (y : ℕ × ℕ). y.0)) (all.each (x.0, x.1, w.0) w.1));
      all = λ x h. listed lines (name_at row.names) x all (name_at row.names x.0) refl (sym (named x.0) ∙ h);
    }

pub lists_names : (R : Region) (rows : List Row) (names : List (List ℕ)) (row : Row) (lines : List Named) → LeadsTo (tree_of R rows) names row.inode (node_of R row) → ListsNames row.names (map line_of lines)
    → ListsNamesIn (tree_of R rows) names (map name_and_inode lines)
lists_names R rows names row lines led l = record { directory = row.inode; leads = led.leads; lists = lists_row (tree_of R rows) R row row.inode lines led.shows l }

-- ---- refusals

-- what refuses `stat` refuses `list`
pub refused_too : (t : Tree) (p : Path) (e : Refusal) → first_refusal (stat_tests t p) ≡ Some e → first_refusal (list_tests t p) ≡ Some e
refused_too t None e h = h
refused_too t (Some names) e h = by (walk t 1 names) (found t names) (is_no_dir t (Some names)).0 h where
  by : (w : Result ℕ Refusal) (o : Option ℕ) (b : Bool) → first_refusal (refused_walk w ++ (is_none o, NotFound) ∷ []) ≡ Some e → first_refusal (refused_walk w ++ (is_none o, NotFound) ∷ (b, NotDirectory) ∷ []) ≡ Some e
  by (Err r) o b h = h
  by (Ok d) None b h = h
  by (Ok d) (Some i) b h = absurd (cc)
