-- The tree once a name and its inode are gone: the tree machine's.
use Rattle.std.proofs.Common.{◌≡◌, ◌≢◌, ℕ, ◌/◌, inl, inr, nat_eq, cond, Bool, true, false, List, remove, set, slice_get, refl, ap, sym, ◌∙◌, subst, Option, Some, None, Ok, Result}
use Rattle.std.specs.Cmp.Lexicographic.{pointwise}
use Rattle.std.specs.List.{Contains}
use Rattle.std.specs.Option.{option_map}
use Rattle.std.proofs.lemmas.Bool.{cases_eq}
use Rattle.std.proofs.lemmas.Option.{slice_get_within}
use Rattle.nv_region.specs.Region.{Region}
use Rattle.nv_super.specs.Order.{Rises}
use Rattle.nv_names.specs.Names.{EachOnce, name_at}
use Rattle.nv_radix.specs.Pages.{block_at}
use Rattle.nv_scan.specs.declared.numbers.Numbers.{Numbers}
use Rattle.nv_scan.specs.declared.piece.Row.{Row}
use Rattle.nv_cross_check.specs.Cross.{row_key}
use Rattle.nv_graph.specs.Read.{row_of}
use Rattle.nv_mounted.specs.Bytes.{byte_in}
use Rattle.nv_tree.specs.declared.refusal.Refusal.{Refusal}
use Rattle.nv_tree.specs.Path.{last_name}
use Rattle.nv_tree.specs.Tree.{Node, SameNode, SameNodes, SameTree, Tree, found, walk}
use Rattle.nv_tree.specs.Calls.{edit, on_ok, on_some, put_node, removed, without_name}
use Rattle.nv_steps.specs.LessNames.{HasLost}
use Rattle.nv_paths.specs.Seen.{node_of, tree_of}
use Rattle.nv_paths.specs.Directories.{named_in}
use Rattle.nv_calls.specs.NamesByNumber.{removed_in}
use Rattle.nv_calls.proofs.CreatedTree.{changed_there, elsewhere, put_there}
use Rattle.nv_steps.proofs.NamesCounted.{one_less}
use Rattle.nv_rows.proofs.Places.{row_of_other}
use Rattle.nv_calls.proofs.RowChange.{unchanged}
use Rattle.nv_steps.proofs.RowsAt.{at_set, other_set}
use Rattle.nv_steps.proofs.RowOf.{row_at}
use Rattle.nv_calls.proofs.PutRow.{set_rises}
use Rattle.nv_calls.proofs.TakenOut.{none_there, other_there, places_differ}

pub none_of : (b : Bool) (o : Option (ℕ × ℕ)) → option_map (λ (y : ℕ × ℕ). y.0) (cond b None o) ≡ cond b None (option_map (λ (y : ℕ × ℕ). y.0) o)
none_of true o = refl
none_of false o = refl

-- The directory shows one name less.
pub lost_node : (R S : Region) {row now : Row} (fresh : List ℕ) (end : ℕ) (name : List ℕ) (j time : ℕ) → HasLost row fresh end name time now → EachOnce row.names → EachOnce now.names → option_map (λ (x : ℕ × ℕ). x.0) (name_at row.names name) ≡ Some j
    → ((x : ℕ) → byte_in S (block_at row.index (x / 4096)) x ≡ byte_in R (block_at row.index (x / 4096)) x) → SameNode (node_of S now) (without_name name time (node_of R row))
lost_node R S {row} {now} fresh end name j time lost once once_now there bytes = record {
  kind = lost.kind;
  mode = ap (λ (n : Numbers). n.mode) lost.numbers;
  owner = ap (λ (n : Numbers). n.owner) lost.numbers;
  group = ap (λ (n : Numbers). n.group) lost.numbers;
  size = ap (λ (n : Numbers). n.size) lost.numbers;
  links = ap (λ (n : Numbers). n.links) lost.numbers;
  time = ap (λ (n : Numbers). n.time) lost.numbers;
  count = one_less row.names now.names name j once once_now there lost.names;
  names = λ q. ap (λ (o : Option (ℕ × ℕ)). option_map (λ (y : ℕ × ℕ). y.0) o) (lost.names q) ∙ none_of (pointwise nat_eq q name) (name_at row.names q);
  bytes = λ x below. ap (λ (o : Option ℕ). byte_in S o x) (lost.index (x / 4096)) ∙ bytes x;
}

-- what the calls make of the tree of rows
abbrev pub removed_tree : Region → List Row → Row → ℕ → ℕ → List ℕ → Tree
removed_tree R rows row j time name = edit row.inode (without_name name time) (put_node j None (tree_of R rows))

-- The tree is what they make of that of before.
pub tree_less : (R S : Region) (rows : List Row) (place target : ℕ) (row now gone : Row) (time : ℕ) (name : List ℕ) (rising : Rises row_key rows) (at : slice_get rows place ≡ Some row) (gone_at : slice_get rows target ≡ Some gone) (number : now.inode ≡ row.inode) (differ : row.inode ≢ gone.inode) (changed : SameNode (node_of S now) (without_name name time (node_of R row))) (bytes : (r : Row) → Contains rows r → (x : ℕ) → byte_in S (block_at r.index (x / 4096)) x ≡ byte_in R (block_at r.index (x / 4096)) x) → SameTree (tree_of S (remove (set rows place now) target)) (removed_tree R rows row gone.inode time name)
tree_less R S rows place target row now gone time name rising at gone_at number differ changed bytes i = at_number i where
  own : row_of rows row.inode ≡ Some row
  own = row_at rows place row rising at

  there : slice_get (set rows place now) target ≡ Some gone
  there = other_set rows place target now (places_differ rows place target row gone at gone_at differ) ∙ gone_at

  up : Rises row_key (set rows place now)
  up = set_rises rows rows place row now refl at rising number

  -- in the tree of the rows now
  left_gone : row_of (remove (set rows place now) target) gone.inode ≡ None
  left_gone = none_there (set rows place now) target gone up there

  left_row : row_of (remove (set rows place now) target) row.inode ≡ Some now
  left_row =
      let inside = slice_get_within rows place row at in
      other_there (set rows place now) target gone row.inode there differ ∙ ap (row_of (set rows place now)) (sym number) ∙ row_at (set rows place now) place now up (at_set rows place now inside)

  left_other : (j : ℕ) → j ≢ gone.inode → j ≢ row.inode → row_of (remove (set rows place now) target) j ≡ row_of rows j
  left_other j no_gone no_row = other_there (set rows place now) target gone j there no_gone ∙ row_of_other rows place row now j at no_row (λ e. no_row (e ∙ number))

  -- in what is made of the tree of before
  right_row : (j : ℕ) → j ≡ row.inode → removed_tree R rows row gone.inode time name j ≡ Some (without_name name time (node_of R row))
  right_row j same = changed_there (tree_of R rows) row.inode gone.inode (without_name name time) None j same differ ∙ ap (λ (o : Option Row). option_map (without_name name time) (option_map (node_of R) o)) own

  both : {a b : Option Node} (j : ℕ) → tree_of S (remove (set rows place now) target) j ≡ a → removed_tree R rows row gone.inode time name j ≡ b → SameNodes a b → SameNodes (tree_of S (remove (set rows place now) target) j) (removed_tree R rows row gone.inode time name j)
  both {a} {b} j left right same = subst (λ (o : Option Node). SameNodes o (removed_tree R rows row gone.inode time name j)) (sym left) (subst (λ (o : Option Node). SameNodes a o) (sym right) same)

  at_number : (j : ℕ) → SameNodes (tree_of S (remove (set rows place now) target) j) (removed_tree R rows row gone.inode time name j)
  at_number j = elim (cases_eq j gone.inode) [
    | inl same ↦ both j (ap (tree_of S (remove (set rows place now) target)) same ∙ ap (option_map (node_of S)) left_gone) (put_there (tree_of R rows) row.inode gone.inode (without_name name time) None j same differ) tt
    | inr no_gone ↦ elim (cases_eq j row.inode) [
      | inl same ↦ both j (ap (tree_of S (remove (set rows place now) target)) same ∙ ap (option_map (node_of S)) left_row) (right_row j same) changed
      | inr no_row ↦ both j (ap (option_map (node_of S)) (left_other j no_gone no_row)) (elsewhere (tree_of R rows) row.inode gone.inode (without_name name time) None j no_gone no_row) (unchanged R S rows bytes j (row_of rows j) refl)
    ]
  ]

-- What `rmdir` makes of a tree, by the directory and what goes.
pub removed_by : (names : List (List ℕ)) (time : ℕ) (t : Tree) (j d : ℕ) (name : List ℕ) → found t names ≡ Some j → walk t 1 names ≡ Ok d → name ≡ last_name names → removed names time t ≡ edit d (without_name name time) (put_node j None t)
removed_by names time t j d name leads walked is =
    ap (λ (o : Option ℕ). on_some o (λ k. on_ok (walk t 1 names) (λ e. edit e (without_name (last_name names) time) (put_node k None t)) t) t) leads
    ∙ ap (λ (r : Result ℕ Refusal). on_ok r (λ e. edit e (without_name (last_name names) time) (put_node j None t)) t) walked
    ∙ ap (λ (q : List ℕ). edit d (without_name q time) (put_node j None t)) (sym is)

-- What `rmdir_inode` makes of a tree, by the directory and what goes.
pub removed_there : (d : ℕ) (name : List ℕ) (time : ℕ) (t : Tree) (j e : ℕ) → named_in t d name ≡ Some j → e ≡ d → removed_in d name time t ≡ edit e (without_name name time) (put_node j None t)
removed_there d name time t j e leads there =
    ap (λ (o : Option ℕ). on_some o (λ k. edit d (without_name name time) (put_node k None t)) t) leads ∙ ap (λ (k : ℕ). edit k (without_name name time) (put_node j None t)) (sym there)
