-- The tree once a file has a name less: the tree machine's.
use Rattle.std.proofs.Common.{◌≡◌, ◌≢◌, ℕ, ◌-◌, ◌<◌, ◌≤◌, nat_le, Bool, cond, List, ap, sym, ◌∙◌, subst, Option, Some, None, Result, Ok}
use Rattle.std.proofs.lemmas.Bool.{le-leb, lt-leb}
use Rattle.nv_tree.specs.declared.refusal.Refusal.{Refusal}
use Rattle.nv_tree.specs.Path.{last_name}
use Rattle.nv_tree.specs.Tree.{Node, SameTree, Tree, found, walk}
use Rattle.nv_tree.specs.Calls.{edit, links_at, on_ok, on_some, put_node, released, unlinked, with_links, without_name}
use Rattle.nv_paths.specs.Directories.{named_in}
use Rattle.nv_calls.specs.NamesByNumber.{unlinked_in}
use Rattle.nv_calls.proofs.RowsTree.{edits_swap}

-- two inodes changed, in either order
pub swapped : (u t : Tree) (d i : ℕ) (change other : Node → Node) → d ≢ i → SameTree u (edit i other (edit d change t)) → SameTree u (edit d change (edit i other t))
swapped u t d i change other differ = subst (λ (v : Tree). SameTree u v) (edits_swap t i d other change differ)

-- What `unlink` makes of a tree, by the directory and the file.
unlinked_by : (names : List (List ℕ)) (time : ℕ) (t : Tree) (i d : ℕ) (name : List ℕ) → found t names ≡ Some i → walk t 1 names ≡ Ok d → name ≡ last_name names → unlinked names time t ≡ edit d (without_name name time) (released i time t)
unlinked_by names time t i d name leads walked is =
    ap (λ (o : Option ℕ). on_some o (λ k. on_ok (walk t 1 names) (λ e. edit e (without_name (last_name names) time) (released k time t)) t) t) leads
    ∙ ap (λ (r : Result ℕ Refusal). on_ok r (λ e. edit e (without_name (last_name names) time) (released i time t)) t) walked
    ∙ ap (λ (q : List ℕ). edit d (without_name q time) (released i time t)) (sym is)

module _ (names : List (List ℕ)) (time : ℕ) (t : Tree) (i d : ℕ) (name : List ℕ) (leads : found t names ≡ Some i) (walked : walk t 1 names ≡ Ok d) (is : name ≡ last_name names) (n : ℕ) (count : links_at t i ≡ n) where
  pub unlinked_more : 1 < n → unlinked names time t ≡ edit d (without_name name time) (edit i (with_links (n - 1) time) t)
  unlinked_more some =
      unlinked_by names time t i d name leads walked is
      ∙ ap (λ (b : Bool). edit d (without_name name time) (cond b (put_node i None t) (edit i (with_links (links_at t i - 1) time) t))) (ap (λ (m : ℕ). nat_le m 1) count ∙ lt-leb n 1 some)
      ∙ ap (λ (m : ℕ). edit d (without_name name time) (edit i (with_links (m - 1) time) t)) count

  pub unlinked_last : n ≤ 1 → unlinked names time t ≡ edit d (without_name name time) (put_node i None t)
  unlinked_last few =
      unlinked_by names time t i d name leads walked is
      ∙ ap (λ (b : Bool). edit d (without_name name time) (cond b (put_node i None t) (edit i (with_links (links_at t i - 1) time) t))) (ap (λ (m : ℕ). nat_le m 1) count ∙ le-leb n 1 few)

-- What `unlink_inode` makes of a tree, by the directory and the file.
module _ (d : ℕ) (name : List ℕ) (time : ℕ) (t : Tree) (i e : ℕ) (leads : named_in t d name ≡ Some i) (there : e ≡ d) (n : ℕ) (count : links_at t i ≡ n) where
  unlinked_there : unlinked_in d name time t ≡ edit e (without_name name time) (released i time t)
  unlinked_there = ap (λ (o : Option ℕ). on_some o (λ k. edit d (without_name name time) (released k time t)) t) leads ∙ ap (λ (k : ℕ). edit k (without_name name time) (released i time t)) (sym there)

  pub more_unlinked : 1 < n → unlinked_in d name time t ≡ edit e (without_name name time) (edit i (with_links (n - 1) time) t)
  more_unlinked some =
      unlinked_there
      ∙ ap (λ (b : Bool). edit e (without_name name time) (cond b (put_node i None t) (edit i (with_links (links_at t i - 1) time) t))) (ap (λ (m : ℕ). nat_le m 1) count ∙ lt-leb n 1 some)
      ∙ ap (λ (m : ℕ). edit e (without_name name time) (edit i (with_links (m - 1) time) t)) count

  pub last_unlinked : n ≤ 1 → unlinked_in d name time t ≡ edit e (without_name name time) (put_node i None t)
  last_unlinked few =
      unlinked_there
      ∙ ap (λ (b : Bool). edit e (without_name name time) (cond b (put_node i None t) (edit i (with_links (links_at t i - 1) time) t))) (ap (λ (m : ℕ). nat_le m 1) count ∙ le-leb n 1 few)
