-- The tree once an inode was made: the tree machine's.
use Rattle.std.proofs.Common.{◌≡◌, ◌≢◌, ℕ, ◌/◌, inl, inr, nat_eq, cond, Bool, true, false, List, set, slice_get, refl, ap, sym, ◌∙◌, subst, arith, Option, Some, None}
use Rattle.std.specs.Cmp.Lexicographic.{pointwise}
use Rattle.std.specs.List.{Contains}
use Rattle.std.specs.Option.{option_map}
use Rattle.std.proofs.lemmas.Bool.{cases_eq, eq-eqb, ne_eqb}
use Rattle.std.proofs.lemmas.Option.{slice_get_within}
use Rattle.nv_region.specs.Region.{Region}
use Rattle.nv_super.specs.declared.kind.Kind.{Kind}
use Rattle.nv_super.specs.Order.{Rises}
use Rattle.nv_names.specs.Names.{EachOnce, name_at}
use Rattle.nv_names.proofs.Listing.{empty-found_in}
use Rattle.nv_radix.specs.Pages.{block_at}
use Rattle.nv_scan.specs.declared.numbers.Numbers.{Numbers}
use Rattle.nv_scan.specs.declared.piece.Row.{Row}
use Rattle.nv_cross_check.specs.Cross.{row_key}
use Rattle.nv_graph.specs.Read.{row_of}
use Rattle.nv_mounted.specs.Bytes.{byte_in}
use Rattle.nv_tree.specs.Tree.{Node, SameNode, SameNodes, SameTree, Tree}
use Rattle.nv_tree.specs.Calls.{edit, new_node, put_node, with_name}
use Rattle.nv_rows.specs.Rows.{HasInserted}
use Rattle.nv_steps.specs.NewNames.{HasNamed, IsNewRow}
use Rattle.nv_paths.specs.Seen.{node_of, tree_of}
use Rattle.nv_steps.proofs.Inserted.{row_of_inserted, row_of_own}
use Rattle.nv_steps.proofs.NamesCounted.{one_more}
use Rattle.nv_calls.proofs.RowChange.{unchanged}
use Rattle.nv_steps.proofs.RowsAt.{at_set}
use Rattle.nv_rows.proofs.Places.{row_of_other, set_rising}
use Rattle.nv_steps.proofs.RowOf.{row_at}

-- a condition over names, where they lead
pub first_of : (b : Bool) (x : ℕ × ℕ) (o : Option (ℕ × ℕ)) → option_map (λ (y : ℕ × ℕ). y.0) (cond b (Some x) o) ≡ cond b (Some x.0) (option_map (λ (y : ℕ × ℕ). y.0) o)
first_of true x o = refl
first_of false x o = refl

-- The directory shows one name more.
pub named_node : (R S : Region) {row now : Row} (fresh : List ℕ) (end : ℕ) (name : List ℕ) (j place time : ℕ) → HasNamed row fresh end name j place time now → EachOnce row.names → EachOnce now.names → name_at row.names name ≡ None
    → ((x : ℕ) → byte_in S (block_at row.index (x / 4096)) x ≡ byte_in R (block_at row.index (x / 4096)) x) → SameNode (node_of S now) (with_name name j time (node_of R row))
named_node R S {row} {now} fresh end name j place time has once once_now absent bytes = record {
  kind = has.kind;
  mode = ap (λ (n : Numbers). n.mode) has.numbers;
  owner = ap (λ (n : Numbers). n.owner) has.numbers;
  group = ap (λ (n : Numbers). n.group) has.numbers;
  size = ap (λ (n : Numbers). n.size) has.numbers;
  links = ap (λ (n : Numbers). n.links) has.numbers;
  time = ap (λ (n : Numbers). n.time) has.numbers;
  count = one_more row.names now.names name (j, place) once once_now absent has.names;
  names = λ q. ap (λ (o : Option (ℕ × ℕ)). option_map (λ (y : ℕ × ℕ). y.0) o) (has.names q) ∙ first_of (pointwise nat_eq q name) (j, place) (name_at row.names q);
  bytes = λ x below. ap (λ (o : Option ℕ). byte_in S o x) (has.index (x / 4096)) ∙ bytes x;
}

-- The new inode shows one link, no names and no bytes.
pub new_node_is : (S : Region) (j : ℕ) (kind : Kind) (mode time page tail : ℕ) {made : Row} → IsNewRow j kind mode time page tail made → SameNode (node_of S made) (new_node kind mode time)
new_node_is S j kind mode time page tail {made} is = record {
  kind = is.is_of_kind;
  mode = ap (λ (n : Numbers). n.mode) is.numbers;
  owner = ap (λ (n : Numbers). n.owner) is.numbers;
  group = ap (λ (n : Numbers). n.group) is.numbers;
  size = ap (λ (n : Numbers). n.size) is.numbers;
  links = ap (λ (n : Numbers). n.links) is.numbers;
  time = ap (λ (n : Numbers). n.time) is.numbers;
  count = empty-found_in made.names.names is.names;
  names = λ q. ap (λ (o : Option (ℕ × ℕ)). option_map (λ (y : ℕ × ℕ). y.0) o) (is.names q);
  bytes = λ x below. absurd (let none : made.numbers.size ≡ 0 = ap (λ (n : Numbers). n.size) is.numbers in omega (arith, below, none));
}

-- ---- one inode put, another changed

module _ (t : Tree) (d j : ℕ) (change : Node → Node) (o : Option Node) (i : ℕ) where
  pub put_there : i ≡ j → d ≢ j → edit d change (put_node j o t) i ≡ o
  put_there same differ = ap (λ (b : Bool). cond b (option_map change (put_node j o t d)) (put_node j o t i)) (ne_eqb i d (λ e. differ (sym e ∙ same))) ∙ ap (λ (b : Bool). cond b o (t i)) (eq-eqb i j same)

  pub changed_there : i ≡ d → d ≢ j → edit d change (put_node j o t) i ≡ option_map change (t d)
  changed_there same differ = ap (λ (b : Bool). cond b (option_map change (put_node j o t d)) (put_node j o t i)) (eq-eqb i d same) ∙ ap (λ (b : Bool). option_map change (cond b o (t d))) (ne_eqb d j differ)

  pub elsewhere : i ≢ j → i ≢ d → edit d change (put_node j o t) i ≡ t i
  elsewhere other differs = ap (λ (b : Bool). cond b (option_map change (put_node j o t d)) (put_node j o t i)) (ne_eqb i d differs) ∙ ap (λ (b : Bool). cond b o (t i)) (ne_eqb i j other)

-- what the call makes of the tree of rows
abbrev pub made_tree : Region → List Row → Row → ℕ → Kind → ℕ → ℕ → List ℕ → Tree
made_tree R rows row j kind mode time name = edit row.inode (with_name name j time) (put_node j (Some (new_node kind mode time)) (tree_of R rows))

-- The tree is what the call makes of that of before.
pub tree_then : (R S : Region) (rows news : List Row) (place : ℕ) (row now made : Row) (kind : Kind) (mode time : ℕ) (name : List ℕ) (rising : Rises row_key rows) (at : slice_get rows place ≡ Some row) (number : now.inode ≡ row.inode) (put : HasInserted (set rows place now) news made) (unused : row_of rows made.inode ≡ None) (changed : SameNode (node_of S now) (with_name name made.inode time (node_of R row))) (new : SameNode (node_of S made) (new_node kind mode time)) (bytes : (r : Row) → Contains rows r → (x : ℕ) → byte_in S (block_at r.index (x / 4096)) x ≡ byte_in R (block_at r.index (x / 4096)) x) → SameTree (tree_of S news) (made_tree R rows row made.inode kind mode time name)
tree_then R S rows news place row now made kind mode time name rising at number put unused changed new bytes i = at_number i where
  own : row_of rows row.inode ≡ Some row
  own = row_at rows place row rising at

  differ : row.inode ≢ made.inode
  differ same = let clash : Some row ≡ None = sym own ∙ ap (row_of rows) same ∙ unused in cc

  set_row : (j : ℕ) → j ≢ row.inode → row_of (set rows place now) j ≡ row_of rows j
  set_row j other = row_of_other rows place row now j at other (λ e. other (e ∙ number))

  -- in the tree of the rows now
  left_new : row_of news made.inode ≡ Some made
  left_new = ap (λ (rs : List Row). row_of rs made.inode) put.all ∙ row_of_own (set rows place now) put.place made (set_row made.inode (λ e. differ (sym e)) ∙ unused)

  left_row : row_of news row.inode ≡ Some now
  left_row =
      let inside = slice_get_within rows place row at in
      let up : Rises row_key (set rows place now) = set_rising rows place row now rising at number in
      ap (λ (rs : List Row). row_of rs row.inode) put.all ∙ row_of_inserted (set rows place now) put.place made row.inode differ ∙ ap (row_of (set rows place now)) (sym number) ∙ row_at (set rows place now) place now up (at_set rows place now inside)

  left_other : (j : ℕ) → j ≢ made.inode → j ≢ row.inode → row_of news j ≡ row_of rows j
  left_other j new_no row_no = ap (λ (rs : List Row). row_of rs j) put.all ∙ row_of_inserted (set rows place now) put.place made j new_no ∙ set_row j row_no

  -- in what the call makes of the tree of before
  right_row : (j : ℕ) → j ≡ row.inode → made_tree R rows row made.inode kind mode time name j ≡ Some (with_name name made.inode time (node_of R row))
  right_row j same = changed_there (tree_of R rows) row.inode made.inode (with_name name made.inode time) (Some (new_node kind mode time)) j same differ ∙ ap (λ (o : Option Row). option_map (with_name name made.inode time) (option_map (node_of R) o)) own

  both : {a b : Option Node} (j : ℕ) → tree_of S news j ≡ a → made_tree R rows row made.inode kind mode time name j ≡ b → SameNodes a b → SameNodes (tree_of S news j) (made_tree R rows row made.inode kind mode time name j)
  both {a} {b} j left right same = subst (λ (o : Option Node). SameNodes o (made_tree R rows row made.inode kind mode time name j)) (sym left) (subst (λ (o : Option Node). SameNodes a o) (sym right) same)

  at_number : (j : ℕ) → SameNodes (tree_of S news j) (made_tree R rows row made.inode kind mode time name j)
  at_number j = elim (cases_eq j made.inode) [
    | inl same ↦ both j (ap (tree_of S news) same ∙ ap (option_map (node_of S)) left_new) (put_there (tree_of R rows) row.inode made.inode (with_name name made.inode time) (Some (new_node kind mode time)) j same differ) new
    | inr new_no ↦ elim (cases_eq j row.inode) [
      | inl same ↦ both j (ap (tree_of S news) same ∙ ap (option_map (node_of S)) left_row) (right_row j same) changed
      | inr row_no ↦ both j (ap (option_map (node_of S)) (left_other j new_no row_no)) (elsewhere (tree_of R rows) row.inode made.inode (with_name name made.inode time) (Some (new_node kind mode time)) j new_no row_no) (unchanged R S rows bytes j (row_of rows j) refl)
    ]
  ]
