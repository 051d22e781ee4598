-- The tree once two rows were replaced: that of before with two inodes changed.
use Rattle.std.proofs.Common.{◌≡◌, ◌≢◌, ℕ, ◌/◌, inl, inr, List, set, slice_get, refl, ap, sym, ◌∙◌, subst, Option, Some}
use Rattle.std.specs.List.{Contains}
use Rattle.std.specs.Option.{option_map}
use Rattle.std.proofs.lemmas.Bool.{cases_eq}
use Rattle.nv_region.specs.Region.{Region}
use Rattle.nv_super.specs.Order.{Rises}
use Rattle.nv_radix.specs.Pages.{block_at}
use Rattle.nv_scan.specs.declared.piece.Row.{Row}
use Rattle.nv_cross_check.specs.Cross.{row_key}
use Rattle.nv_graph.specs.Read.{row_of}
use Rattle.nv_mounted.specs.Bytes.{byte_in}
use Rattle.nv_tree.specs.Tree.{Node, SameNode, SameNodes, SameTree, Tree}
use Rattle.nv_tree.specs.Calls.{edit}
use Rattle.nv_paths.specs.Seen.{node_of, tree_of}
use Rattle.nv_calls.proofs.CreatedTree.{changed_there, elsewhere, put_there}
use Rattle.nv_rows.proofs.Places.{row_of_other}
use Rattle.nv_calls.proofs.RowChange.{unchanged}
use Rattle.nv_steps.proofs.RowOf.{row_at}
use Rattle.nv_calls.proofs.TwoRows.{both_rise}
use Rattle.nv_steps.proofs.SetRows.{first_set, second_set}
use Rattle.nv_calls.proofs.TakenOut.{places_differ}
use Rattle.nv_steps.proofs.RowsAt.{other_set}

module _ (R S : Region) (rows : List Row) (i j : ℕ) (first first_now second second_now : Row) (rising : Rises row_key rows) (at : slice_get rows i ≡ Some first) (other_at : slice_get rows j ≡ Some second)
    (number : first_now.inode ≡ first.inode) (other_number : second_now.inode ≡ second.inode) (differ : first.inode ≢ second.inode) (change other : Node → Node) (changed : SameNode (node_of S first_now) (change (node_of R first))) (other_changed : SameNode (node_of S second_now) (other (node_of R second)))
    (bytes : (r : Row) → Contains rows r → (x : ℕ) → byte_in S (block_at r.index (x / 4096)) x ≡ byte_in R (block_at r.index (x / 4096)) x) where
  abbrev news : List Row
  news = set (set rows i first_now) j second_now

  abbrev made : Tree
  made = edit second.inode other (edit first.inode change (tree_of R rows))

  places : i ≢ j
  places = places_differ rows i j first second at other_at differ

  up : Rises row_key news
  up = both_rise rows i j first second first_now second_now at other_at places rising number other_number

  first_there : row_of news first.inode ≡ Some first_now
  first_there = ap (row_of news) (sym number) ∙ row_at news i first_now up (first_set rows i j first second first_now second_now at other_at places)

  second_there : row_of news second.inode ≡ Some second_now
  second_there = ap (row_of news) (sym other_number) ∙ row_at news j second_now up (second_set rows i j first second first_now second_now at other_at places)

  others_stay : (k : ℕ) → k ≢ first.inode → k ≢ second.inode → row_of news k ≡ row_of rows k
  others_stay k no_first no_second = row_of_other (set rows i first_now) j second second_now k (other_set rows i j first_now places ∙ other_at) no_second (λ e. no_second (e ∙ other_number)) ∙ row_of_other rows i first first_now k at no_first (λ e. no_first (e ∙ number))

  own : row_of rows first.inode ≡ Some first
  own = row_at rows i first rising at

  own_second : row_of rows second.inode ≡ Some second
  own_second = row_at rows j second rising other_at

  abbrev first_node : Option Node
  first_node = option_map change (tree_of R rows first.inode)

  both : {a b : Option Node} (k : ℕ) → tree_of S news k ≡ a → made k ≡ b → SameNodes a b → SameNodes (tree_of S news k) (made k)
  both {a} {b} k left right same = subst (λ (o : Option Node). SameNodes o (made k)) (sym left) (subst (λ (o : Option Node). SameNodes a o) (sym right) same)

  -- The tree is that of before with both changed.
  pub both_tree : SameTree (tree_of S news) made
  both_tree k = elim (cases_eq k first.inode) [
    | inl same ↦ both k (ap (tree_of S news) same ∙ ap (option_map (node_of S)) first_there)
        (put_there (tree_of R rows) second.inode first.inode other first_node k same (λ e. differ (sym e)) ∙ ap (λ (o : Option Row). option_map change (option_map (node_of R) o)) own) changed
    | inr no_first ↦ elim (cases_eq k second.inode) [
      | inl same ↦ both k (ap (tree_of S news) same ∙ ap (option_map (node_of S)) second_there)
          (changed_there (tree_of R rows) second.inode first.inode other first_node k same (λ e. differ (sym e)) ∙ ap (λ (o : Option Row). option_map other (option_map (node_of R) o)) own_second) other_changed
      | inr no_second ↦ both k (ap (option_map (node_of S)) (others_stay k no_first no_second)) (elsewhere (tree_of R rows) second.inode first.inode other first_node k no_first no_second) (unchanged R S rows bytes k (row_of rows k) refl)
    ]
  ]
