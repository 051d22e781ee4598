-- The row that a path leads to, and why there is none.
use Rattle.std.proofs.Common.{◌≡◌, ℕ, is_some, cond, List, [], ◌∷◌, refl, sym, ◌∙◌, ap, subst, Option, Some, None, Ok, IfSome, option_copied, Bor}
use Rattle.std.specs.Option.{option_map, option_and_then}
use Rattle.nv_region.specs.Region.{Region}
use Rattle.nv_scan.specs.declared.piece.Row.{Row}
use Rattle.nv_tree.specs.declared.refusal.Refusal.TheVariants.{NotFound}
use Rattle.nv_tree.specs.Path.{IsPath, Says}
use Rattle.nv_tree.specs.Tree.{Tree, walk, found, in_use, last_in}
use Rattle.nv_tree.specs.Refusals.{Path, first_refusal, stat_tests}
use Rattle.nv_graph.specs.Read.{row_of}
use Rattle.nv_rows.proofs.Places.{numbered, own_row}
use Rattle.nv_paths.specs.Seen.{node_of, tree_of, LeadsTo}

-- a row that was found by a number is that of its own
pub held_by : (rows : List Row) (o : Option (Bor Row)) (i : ℕ) → option_copied o ≡ row_of rows i → IfSome o (λ r. row_of rows r.now.inode ≡ Some r.now)
held_by rows None i e = tt
held_by rows (Some r) i e = own_row rows i r.now (sym e)

pub held_of : (rows : List Row) (o : Option (Bor Row)) (r : Bor Row) → o ≡ Some r → IfSome o (λ q. row_of rows q.now.inode ≡ Some q.now) → row_of rows r.now.inode ≡ Some r.now
held_of rows o r is held = subst (λ (q : Option (Bor Row)). IfSome q (λ q. row_of rows q.now.inode ≡ Some q.now)) is held

-- where a path leads to a row
pub leads_to : (R : Region) (rows : List Row) (names : List (List ℕ)) (row : Row) → option_and_then (row_of rows) (found (tree_of R rows) names) ≡ Some row → LeadsTo (tree_of R rows) names row.inode (node_of R row)
leads_to R rows names row e = by (found (tree_of R rows) names) refl e where
  by : (o : Option ℕ) → found (tree_of R rows) names ≡ o → option_and_then (row_of rows) o ≡ Some row → LeadsTo (tree_of R rows) names row.inode (node_of R row)
  by None f e = absurd (cc)
  by (Some i) f e =
      let is = numbered rows i row e in
      record {
        leads = f ∙ ap (λ (j : ℕ). Some j) (sym is);
        shows = ap (tree_of R rows) is ∙ ap (option_map (node_of R)) e;
      }

-- a number without a row isn't in use
pub nowhere : (R : Region) (rows : List Row) (o : Option ℕ) → option_and_then (row_of rows) (in_use (tree_of R rows) o) ≡ None → in_use (tree_of R rows) o ≡ None
nowhere R rows None none = refl
nowhere R rows (Some i) none = by (row_of rows i) refl none where
  by : (o : Option Row) → row_of rows i ≡ o → option_and_then (row_of rows) (cond (is_some (option_map (node_of R) o)) (Some i) None) ≡ None → cond (is_some (option_map (node_of R) o)) (Some i) None ≡ None
  by None e none = refl
  by (Some row) e none = absurd (cc)

pub none_found : (R : Region) (rows : List Row) (names : List (List ℕ)) → option_and_then (row_of rows) (found (tree_of R rows) names) ≡ None → found (tree_of R rows) names ≡ None
none_found R rows [] none = nowhere R rows (Some 1) none
none_found R rows (name ∷ names) none = nowhere R rows (last_in (tree_of R rows) (walk (tree_of R rows) 1 (name ∷ names)) (name ∷ names)) none

-- ---- why it is refused

-- what holds of each list of names that a path says
pub said : (text : List ℕ) (Q : Path → Type 0) → (names : List (List ℕ)) × IsPath text names → ((names : List (List ℕ)) → IsPath text names → Q (Some names)) → (p : Path) → Says text p → Q p
said text Q some each None says = absurd (says some.0 some.1)
said text Q some each (Some names) says = each names says

pub allowed_by : (t : Tree) (names : List (List ℕ)) (d i : ℕ) → walk t 1 names ≡ Ok d → found t names ≡ Some i → first_refusal (stat_tests t (Some names)) ≡ None
allowed_by t names d i walked leads = rw (walked, leads) refl

pub missing_by : (t : Tree) (names : List (List ℕ)) (d : ℕ) → walk t 1 names ≡ Ok d → found t names ≡ None → first_refusal (stat_tests t (Some names)) ≡ Some NotFound
missing_by t names d walked none = rw (walked, none) refl

-- ---- what is answered
