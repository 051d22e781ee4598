-- Rows, and a reader of the blocks of their files, as a tree.
use Rattle.std.proofs.Common.{◌≡◌, ◌∙◌, ℕ, IsTrue, is_some, List, Option, Some, None, refl, sym, ap, subst}
use Rattle.std.specs.List.{Contains}
use Rattle.std.specs.Option.{option_map}
use Rattle.nv_region.specs.Region.{Region}
use Rattle.nv_super.specs.declared.kind.Kind.{Kind}
use Rattle.nv_super.proofs.Members.{into_map}
use Rattle.nv_rows.specs.Rows.{inodes_of, row_of, IsInUse}
use Rattle.nv_rows.proofs.Places.{numbered, row_in_use}
use Rattle.nv_scan.specs.declared.piece.Row.{Row}
use Rattle.nv_tree.specs.Tree.{Node}
use Rattle.nv_calls.proofs.RowChange.{row_there}
use Rattle.nv_paths.specs.Seen.{node_of, tree_of}
use Rattle.nv_members.specs.Members.{kind_of}
use Rattle.nv_archive.specs.Shown.{AreKnown}

-- ---- what stands for a row

module _ (R : Region) (rows : List Row) (i : ℕ) where
  pub used_by_kind : (kind : Kind) → option_map kind_of (tree_of R rows i) ≡ Some kind → IsInUse rows i
  used_by_kind kind e = by (row_of rows i) refl e where
    by : (o : Option Row) → row_of rows i ≡ o → option_map kind_of (option_map (node_of R) o) ≡ Some kind → IsInUse rows i
    by None is e = absurd (cc)
    by (Some row) is e = ap is_some is

  pub used_by_node : (node : Node) → tree_of R rows i ≡ Some node → IsInUse rows i
  used_by_node node e = by (row_of rows i) refl e where
    by : (o : Option Row) → row_of rows i ≡ o → option_map (node_of R) o ≡ Some node → IsInUse rows i
    by None is e = absurd (cc)
    by (Some row) is e = ap is_some is

  pub used_in_tree : IsTrue (is_some (tree_of R rows i)) → IsInUse rows i
  used_in_tree e = by (row_of rows i) refl e where
    by : (o : Option Row) → row_of rows i ≡ o → IsTrue (is_some (option_map (node_of R) o)) → IsInUse rows i
    by None is e = absurd (cc)
    by (Some row) is e = ap is_some is

  pub tree_in_use : IsInUse rows i → IsTrue (is_some (tree_of R rows i))
  tree_in_use e = by (row_of rows i) refl e where
    by : (o : Option Row) → row_of rows i ≡ o → IsTrue (is_some o) → IsTrue (is_some (tree_of R rows i))
    by None is e = absurd (cc)
    by (Some row) is e = ap (λ (x : Option Row). is_some (option_map (node_of R) x)) is

  pub node_is : (row : Row) (node : Node) → row_of rows i ≡ Some row → tree_of R rows i ≡ Some node → node_of R row ≡ node
  node_is row node is e = let s : Some (node_of R row) ≡ Some node = sym (ap (option_map (node_of R)) is) ∙ e in cc

-- the number of one that is in use is among those of the rows
pub used_number : (R : Region) (rows : List Row) (i : ℕ) → IsTrue (is_some (tree_of R rows i)) → Contains (inodes_of rows) i
used_number R rows i used =
    let r = row_in_use rows i (used_in_tree R rows i used) in
    subst (λ (j : ℕ). Contains (inodes_of rows) j) (numbered rows i r.0 r.1) (into_map (λ (row : Row). row.inode) rows r.0 (row_there rows i r.0 r.1))

-- ---- known bytes

pub known_some : (o : Option (List ℕ)) (rows : List Row) → AreKnown o rows → (bytes : List ℕ) × (o ≡ Some bytes)
known_some None rows known = absurd known
known_some (Some bytes) rows known = (bytes, refl)
