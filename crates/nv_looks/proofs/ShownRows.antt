-- The tree that rows show where the journals are rolled back and where they aren't.
use Rattle.std.proofs.Common.{◌≡◌, ◌/◌, ℕ, List, Option, Some, None, refl, ap}
use Rattle.std.specs.List.{Contains}
use Rattle.std.specs.Option.{option_map}
use Rattle.nv_region.specs.Region.{Region}
use Rattle.nv_radix.specs.Pages.{block_at}
use Rattle.nv_rows.specs.Rows.{row_of}
use Rattle.nv_mounted.specs.Bytes.{byte_in}
use Rattle.nv_scan.specs.declared.piece.Row.{Row}
use Rattle.nv_tree.specs.Tree.{Node}
use Rattle.nv_calls.proofs.RowChange.{row_there}
use Rattle.nv_paths.specs.Seen.{node_of, tree_of}
use Rattle.nv_looks.specs.Catting.{AreShownAs}

module _ (R S : Region) (rows : List Row) (shown : AreShownAs R S rows) where
  bytes_same : (row : Row) → Contains rows row → (x : ℕ) → byte_in R (block_at row.index (x / 4096)) x ≡ byte_in S (block_at row.index (x / 4096)) x
  bytes_same row there x = by (block_at row.index (x / 4096)) refl where
    by : (o : Option ℕ) → block_at row.index (x / 4096) ≡ o → byte_in R o x ≡ byte_in S o x
    by None is = refl
    by (Some b) is = shown.same row (x / 4096) b x there is

  node_same : (row : Row) → Contains rows row → node_of R row ≡ node_of S row
  node_same row there = λ i. record (node_of R row) { bytes = λ x. bytes_same row there x i }

  pub tree_same : tree_of R rows ≡ tree_of S rows
  tree_same = λ j k. at k j where
    by : (k : ℕ) (o : Option Row) → row_of rows k ≡ o → option_map (node_of R) o ≡ option_map (node_of S) o
    by k None is = refl
    by k (Some row) is = ap (λ (n : Node). Some n) (node_same row (row_there rows k row is))

    at : (k : ℕ) → tree_of R rows k ≡ tree_of S rows k
    at k = by k (row_of rows k) refl
