-- What the last name of a path stands for.
use Rattle.std.proofs.Common.{◌≡◌, ℕ, List, ◌∷◌, length, ap, sym, Option, Some, None, Ok, option_copied, Bor}
use Rattle.std.specs.Option.{option_and_then, option_map}
use Rattle.nv_region.specs.Region.{Region}
use Rattle.nv_super.specs.declared.kind.Kind.TheVariants.{Directory}
use Rattle.nv_names.specs.Names.{name_at}
use Rattle.nv_scan.specs.declared.piece.Row.{Row}
use Rattle.nv_rows.specs.Rows.{IsInUse}
use Rattle.nv_graph.specs.Read.{row_of}
use Rattle.nv_tree.specs.Path.{IsPath, last_name}
use Rattle.nv_tree.specs.Names.{Spells}
use Rattle.nv_tree.specs.Tree.{found, walk}
use Rattle.nv_paths.specs.Seen.{tree_of}
use Rattle.nv_paths.proofs.CreateTests.{row_leads}
use Rattle.nv_rows.proofs.Places.{numbered}

-- the row that a name leads to has the number that it stands for
pub stands_for : (rows : List Row) (o : Option (ℕ × ℕ)) (row : Row) → Some row ≡ option_and_then (row_of rows) (option_map (λ (x : ℕ × ℕ). x.0) o) → option_map (λ (x : ℕ × ℕ). x.0) o ≡ Some row.inode
stands_for rows None row e = absurd (cc)
stands_for rows (Some x) row e = ap (λ (i : ℕ). Some i) (sym (numbered rows x.0 row (sym e)))

module _ (R : Region) (rows : List Row) (text name : List ℕ) (d : ℕ) (used : IsInUse rows d) (o : Option (Bor Row)) (long : length text ≡ 1 → ⊥)
    (directory : (names : List (List ℕ)) → Spells text names → (row : Row) → row_of rows d ≡ Some row → (walk (tree_of R rows) 1 names ≡ Ok row.inode) × (row.kind ≡ Directory)) (last : (names : List (List ℕ)) → Spells text names → name ≡ last_name names)
    (to : (row : Row) → row_of rows d ≡ Some row → option_copied o ≡ option_and_then (row_of rows) (option_map (λ (x : ℕ × ℕ). x.0) (name_at row.names name)))
    (first : List ℕ) (names : List (List ℕ)) (path : IsPath text (first ∷ names)) where
  pub named_found : (r : Bor Row) → o ≡ Some r → found (tree_of R rows) (first ∷ names) ≡ Some r.now.inode
  named_found r is = let led = row_leads R rows text name d used o long directory last to first names path r is in led.leads
