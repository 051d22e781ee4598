-- The names of the graph of what is held are those of the tree of its rows.
use Rattle.std.proofs.Common.{◌≡◌, ℕ, List, refl, ap, sym, ◌∙◌, Option, Some, None}
use Rattle.std.specs.Option.{option_and_then, option_map}
use Rattle.nv_region.specs.Region.{Region}
use Rattle.nv_super.specs.declared.owners.Run.{Run}
use Rattle.nv_super.specs.Layout.{Layout}
use Rattle.nv_scan.specs.declared.piece.Row.{Row}
use Rattle.nv_mounted.specs.Held.{Held, Store}
use Rattle.nv_mounted.specs.Graph.{graph_in, target_in}
use Rattle.nv_mounted.specs.Mounted.{IsMounted}
use Rattle.nv_graph.specs.Read.{row_of}
use Rattle.nv_tree.specs.Tree.{Node, name_in}
use Rattle.nv_paths.specs.Seen.{node_of, tree_of}
use Rattle.nv_calls.proofs.CreatedRows.{in_rows, not_held}
use Rattle.nv_calls.proofs.RowChange.{row_there}
use Rattle.nv_rows.proofs.Places.{numbered}

-- The graph of what is held has the names of the tree of its rows.
pub graph_agrees : {R : Region} {l : Layout} {held : Store} {rows : List Row} {pools : List (List Run)} → IsMounted R l held rows pools → (d : ℕ) (q : List ℕ) → (graph_in l held).name d q ≡ name_in (tree_of R rows) d q
graph_agrees {R} {l} {held} {rows} m d q = by (row_of rows d) refl where
  by : (o : Option Row) → row_of rows d ≡ o → (graph_in l held).name d q ≡ name_in (tree_of R rows) d q
  by None e = ap (λ (o : Option Held). option_and_then (target_in l q) o) (not_held m d e) ∙ sym (ap (λ (o : Option Row). option_and_then (λ (n : Node). n.names q) (option_map (node_of R) o)) e)
  by (Some row) e =
      let is : row.inode ≡ d = numbered rows d row e in
      let k = (in_rows m).each row (row_there rows d row e) in
      let told = k.2 in
      ap (λ (o : Option Held). option_and_then (target_in l q) o) (ap held (sym is) ∙ k.1) ∙ ap (λ (o : Option (ℕ × ℕ)). option_map (λ (y : ℕ × ℕ). y.0) o) (sym (told.names q))
      ∙ sym (ap (λ (o : Option Row). option_and_then (λ (n : Node). n.names q) (option_map (node_of R) o)) e)
