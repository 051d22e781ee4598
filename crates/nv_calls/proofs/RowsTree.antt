-- The tree of rows that change one after another, and changes of trees in another order.
use Rattle.std.proofs.Common.{◌≡◌, ◌≢◌, ℕ, ◌/◌, inl, inr, nat_eq, cond, Bool, List, remove, set, slice_get, refl, ap, sym, ◌∙◌, subst, Option, Some, None}
use Rattle.std.specs.List.{Contains}
use Rattle.std.specs.Option.{option_map}
use Rattle.std.proofs.lemmas.Bool.{cases_eq, eq-eqb, ne_eqb}
use Rattle.std.proofs.lemmas.Option.{slice_get_within}
use Rattle.nv_region.specs.Region.{Region}
use Rattle.nv_super.specs.Order.{Rises}
use Rattle.nv_radix.specs.Pages.{block_at}
use Rattle.nv_scan.specs.declared.piece.Row.{Row}
use Rattle.nv_cross_check.specs.Cross.{row_key}
use Rattle.nv_graph.specs.Read.{row_of}
use Rattle.nv_mounted.specs.Bytes.{byte_in}
use Rattle.nv_tree.specs.Tree.{Node, SameNode, SameNodes, SameTree, Tree}
use Rattle.nv_tree.specs.Calls.{edit, put_node}
use Rattle.nv_tree.proofs.Same.{same_itself}
use Rattle.nv_paths.specs.Seen.{node_of, tree_of}
use Rattle.nv_rows.proofs.Places.{row_of_other, set_rising}
use Rattle.nv_steps.proofs.RowOf.{row_at}
use Rattle.nv_steps.proofs.RowsAt.{at_set}
use Rattle.nv_calls.proofs.RowChange.{unchanged}
use Rattle.nv_calls.proofs.TakenOut.{none_there, other_there}

-- what is so at a number of two trees, by what stands there
at_both : (t u : Tree) {a b : Option Node} (k : ℕ) → t k ≡ a → u k ≡ b → SameNodes a b → SameNodes (t k) (u k)
at_both t u {a} {b} k left right same = subst (λ (o : Option Node). SameNodes o (u k)) (sym left) (subst (λ (o : Option Node). SameNodes a o) (sym right) same)

-- ---- rows

-- where each byte that a row's file had is where it was, the tree is the same
pub tree_stays : (R S : Region) (rows : List Row) → ((r : Row) → Contains rows r → (x : ℕ) → byte_in S (block_at r.index (x / 4096)) x ≡ byte_in R (block_at r.index (x / 4096)) x) → SameTree (tree_of S rows) (tree_of R rows)
tree_stays R S rows bytes k = unchanged R S rows bytes k (row_of rows k) refl

module _ (S : Region) (rows : List Row) (rising : Rises row_key rows) (place : ℕ) (row : Row) (at : slice_get rows place ≡ Some row) where
  own : row_of rows row.inode ≡ Some row
  own = row_at rows place row rising at

  -- One row was replaced.
  pub row_changed : (now : Row) (change : Node → Node) → now.inode ≡ row.inode → SameNode (node_of S now) (change (node_of S row)) → SameTree (tree_of S (set rows place now)) (edit row.inode change (tree_of S rows))
  row_changed now change number here k = elim (cases_eq k row.inode) [
    | inl same ↦ at_both (tree_of S (set rows place now)) (edit row.inode change (tree_of S rows)) k (ap (tree_of S (set rows place now)) same ∙ there)
        (ap (λ (b : Bool). cond b (option_map change (tree_of S rows row.inode)) (tree_of S rows k)) (eq-eqb k row.inode same) ∙ ap (λ (o : Option Row). option_map change (option_map (node_of S) o)) own) here
    | inr differs ↦ at_both (tree_of S (set rows place now)) (edit row.inode change (tree_of S rows)) k (ap (option_map (node_of S)) (row_of_other rows place row now k at differs (λ e. differs (e ∙ number))))
        (ap (λ (b : Bool). cond b (option_map change (tree_of S rows row.inode)) (tree_of S rows k)) (ne_eqb k row.inode differs)) (same_itself (tree_of S rows) k)
  ] where
    up : Rises row_key (set rows place now)
    up = set_rising rows place row now rising at number

    there : tree_of S (set rows place now) row.inode ≡ Some (node_of S now)
    there = ap (option_map (node_of S)) (ap (row_of (set rows place now)) (sym number) ∙ row_at (set rows place now) place now up (at_set rows place now (slice_get_within rows place row at)))

  -- One row was taken out.
  pub row_gone : SameTree (tree_of S (remove rows place)) (put_node row.inode None (tree_of S rows))
  row_gone k = elim (cases_eq k row.inode) [
    | inl same ↦ at_both (tree_of S (remove rows place)) (put_node row.inode None (tree_of S rows)) k (ap (tree_of S (remove rows place)) same ∙ ap (option_map (node_of S)) (none_there rows place row rising at))
        (ap (λ (b : Bool). cond b None (tree_of S rows k)) (eq-eqb k row.inode same)) tt
    | inr differs ↦ at_both (tree_of S (remove rows place)) (put_node row.inode None (tree_of S rows)) k (ap (option_map (node_of S)) (other_there rows place row k at differs))
        (ap (λ (b : Bool). cond b None (tree_of S rows k)) (ne_eqb k row.inode differs)) (same_itself (tree_of S rows) k)
  ]

-- ---- the order of changes

mapped_twice : (f g : Node → Node) (o : Option Node) → option_map (λ n. f (g n)) o ≡ option_map f (option_map g o)
mapped_twice f g None = refl
mapped_twice f g (Some n) = refl

-- one inode changed twice
pub edit_twice : (t : Tree) (d : ℕ) (f g : Node → Node) → edit d (λ n. f (g n)) t ≡ edit d f (edit d g t)
edit_twice t d f g = λ z k. each k z where
  each : (k : ℕ) → edit d (λ n. f (g n)) t k ≡ edit d f (edit d g t) k
  each k = elim (cases_eq k d) [
    | inl same ↦ ap (λ (b : Bool). cond b (option_map (λ n. f (g n)) (t d)) (t k)) (eq-eqb k d same) ∙ mapped_twice f g (t d)
        ∙ sym (ap (λ (b : Bool). cond b (option_map f (edit d g t d)) (edit d g t k)) (eq-eqb k d same) ∙ ap (λ (b : Bool). option_map f (cond b (option_map g (t d)) (t d))) (eq-eqb d d refl))
    | inr apart ↦ ap (λ (b : Bool). cond b (option_map (λ n. f (g n)) (t d)) (t k)) (ne_eqb k d apart)
        ∙ sym (ap (λ (b : Bool). cond b (option_map f (edit d g t d)) (edit d g t k)) (ne_eqb k d apart) ∙ ap (λ (b : Bool). cond b (option_map g (t d)) (t k)) (ne_eqb k d apart))
  ]

-- an inode put, and another changed
pub put_swaps : (t : Tree) (j d : ℕ) (o : Option Node) (f : Node → Node) → d ≢ j → put_node j o (edit d f t) ≡ edit d f (put_node j o t)
put_swaps t j d o f differ = λ z k. each k z where
  still : option_map f (t d) ≡ option_map f (put_node j o t d)
  still = sym (ap (λ (b : Bool). option_map f (cond b o (t d))) (ne_eqb d j differ))

  each : (k : ℕ) → put_node j o (edit d f t) k ≡ edit d f (put_node j o t) k
  each k = elim (cases_eq k d) [
    | inl same ↦ ap (λ (b : Bool). cond b o (edit d f t k)) (ne_eqb k j (λ e. differ (sym same ∙ e))) ∙ ap (λ (b : Bool). cond b (option_map f (t d)) (t k)) (eq-eqb k d same) ∙ still
        ∙ sym (ap (λ (b : Bool). cond b (option_map f (put_node j o t d)) (put_node j o t k)) (eq-eqb k d same))
    | inr apart ↦ ap (λ (x : Option Node). cond (nat_eq k j) o x) (ap (λ (b : Bool). cond b (option_map f (t d)) (t k)) (ne_eqb k d apart))
        ∙ sym (ap (λ (b : Bool). cond b (option_map f (put_node j o t d)) (put_node j o t k)) (ne_eqb k d apart))
  ]

-- two inodes changed
pub edits_swap : (t : Tree) (j d : ℕ) (g f : Node → Node) → d ≢ j → edit j g (edit d f t) ≡ edit d f (edit j g t)
edits_swap t j d g f differ = ap (λ (o : Option Node). put_node j (option_map g o) (edit d f t)) (ap (λ (b : Bool). cond b (option_map f (t d)) (t j)) (ne_eqb j d (λ e. differ (sym e)))) ∙ put_swaps t j d (option_map g (t j)) f differ
