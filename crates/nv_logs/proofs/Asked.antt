-- The row of an inode that is asked for, by the path that a text says or by its number.
use Rattle.std.proofs.Common.{◌≡◌, ℕ, Bool, true, false, nat_eq, cond, List, [], ◌∷◌, Some, None, Result, Ok, Err, subst}
use Rattle.std.specs.Prelude.{IfOk, IfErr}
use Rattle.std.specs.Borrow.{Bor}
use Rattle.std.specs.List.{Contains}
use Rattle.std.specs.Result.{result_err}
use Rattle.nv_super.proofs.Rising.{Contains-head, Contains-tail}
use Rattle.nv_region.specs.Region.{Region}
use Rattle.nv_scan.specs.declared.piece.Row.{Row}
use Rattle.nv_rows.specs.Rows.{row_of}
use Rattle.nv_tree.specs.Path.{IsPath, Says}
use Rattle.nv_tree.specs.Tree.{Tree, found}
use Rattle.nv_tree.specs.Refusals.{Path, first_refusal, stat_tests}
use Rattle.nv_tree.specs.declared.refusal.Refusal.{Refusal}
use Rattle.nv_tree.proofs.Texts.{text_says}
use Rattle.nv_paths.specs.Seen.{LeadsTo, node_of, tree_of}
use Rattle.nv_logs.specs.declared.inode.Inode.{Inode}
use Rattle.nv_logs.specs.declared.inode.Inode.TheVariants as inodes
use Rattle.nv_logs.specs.Asking.{IsAsked}

-- a row of a number is one of the rows
pub row_there : (rows : List Row) (i : ℕ) (row : Row) → row_of rows i ≡ Some row → Contains rows row
row_there [] i row e = absurd (cc)
row_there (x ∷ rows) i row e = by (nat_eq x.inode i) (row_there rows i row) e where
  by : (b : Bool) → (row_of rows i ≡ Some row → Contains rows row) → cond b (Some x) (row_of rows i) ≡ Some row → Contains (x ∷ rows) row
  by true rest e = (let same : x ≡ row = cc in subst (λ (q : Row). Contains (x ∷ rows) q) same (Contains-head x rows))
  by false rest e = Contains-tail x rows row (rest e)

-- so is the row that is asked for
pub asked_there : (t : Tree) (rows : List Row) (inode : Inode) (row : Row) → IsAsked t rows inode row → Contains rows row
asked_there t rows (inodes.Path path) row asked = row_there rows row.inode row asked.3
asked_there t rows (inodes.Number i) row asked = row_there rows i row asked

module _ (R : Region) (rows : List Row) (path : List ℕ) where
  abbrev Leads : Row → Type 0
  Leads row = (names : List (List ℕ)) × IsPath path names × (found (tree_of R rows) names ≡ Some row.inode) × (row_of rows row.inode ≡ Some row)

  leads : (row : Row) → ((names : List (List ℕ)) → IsPath path names → LeadsTo (tree_of R rows) names row.inode (node_of R row)) → row_of rows row.inode ≡ Some row
      → ((p : Path) → Says path p → first_refusal (stat_tests (tree_of R rows) p) ≡ None) → Leads row
  leads row to held allowed = let p = text_says path in by p.0 p.1 where
    by : (p : Path) → Says path p → Leads row
    by None says = absurd (let never = allowed None says in cc)
    by (Some names) says = (names, says, (to names says).leads, held)

  -- what a path leads to, by the row that was found
  pub asked_by_path : (r : Result (Bor Row) Refusal) → ((names : List (List ℕ)) → IsPath path names → IfOk r (λ x. LeadsTo (tree_of R rows) names x.now.inode (node_of R x.now)))
      → IfOk r (λ x. row_of rows x.now.inode ≡ Some x.now) → ((p : Path) → Says path p → first_refusal (stat_tests (tree_of R rows) p) ≡ result_err r) → IfOk r (λ x. Leads x.now)
  asked_by_path (Ok x) to held tests = leads x.now to held tests
  asked_by_path (Err e) to held tests = tt

  -- why it isn't shown
  pub refused_by_path : (r : Result (Bor Row) Refusal) → ((p : Path) → Says path p → first_refusal (stat_tests (tree_of R rows) p) ≡ result_err r)
      → IfErr r (λ e. (p : Path) × Says path p × (first_refusal (stat_tests (tree_of R rows) p) ≡ Some e))
  refused_by_path (Ok x) tests = tt
  refused_by_path (Err e) tests = let p = text_says path in (p.0, p.1, tests p.0 p.1)
