-- A name that is given to another inode: what the tree machine and the rows tell of both paths, and of what stands there.
use Rattle.std.proofs.Common.{◌≡◌, ◌≢◌, ◌⊎◌, ℕ, ◌≤◌, Bool, true, false, not, ◌&&◌, nat_lt, inl, inr, List, ◌∷◌, slice_get, refl, ap, sym, ◌∙◌, subst, arith, Option, Some, None, Result, Ok}
use Rattle.std.specs.Option.{option_and_then, option_map, option_map_or}
use Rattle.std.proofs.lemmas.Bool.Decides.{nat_tests}
use Rattle.std.proofs.lemmas.Option.{same_Some}
use Rattle.nv_region.specs.Region.{Region}
use Rattle.nv_super.specs.declared.superblock.Super.{Super}
use Rattle.nv_super.specs.declared.faults.Fault.{Fault}
use Rattle.nv_super.specs.declared.kind.Kind.{Kind}
use Rattle.nv_super.specs.declared.kind.Kind.TheVariants.{File, Directory}
use Rattle.nv_super.specs.Order.{Rises}
use Rattle.nv_super.proofs.Members.{stands}
use Rattle.nv_super.specs.Layout.{Layout}
use Rattle.nv_alloc.specs.FreeValue.{FreeLists}
use Rattle.nv_names.specs.Names.{name_at}
use Rattle.nv_scan.specs.declared.piece.Row.{Row}
use Rattle.nv_cross_check.specs.Cross.{row_key}
use Rattle.nv_graph.specs.Read.{row_of}
use Rattle.nv_graph.specs.Step.{IsGoodName}
use Rattle.nv_tree.specs.declared.refusal.Refusal.{Refusal}
use Rattle.nv_tree.specs.Path.{IsPathName}
use Rattle.nv_tree.specs.Tree.{Node, Tree, is_directory}
use Rattle.nv_tree.specs.Calls.{links_at}
use Rattle.nv_tree.specs.Refusals.{is_directory_at}
use Rattle.nv_tree.specs.Replace.{Replaces}
use Rattle.nv_paths.specs.ReplaceSpots.{IsReplaceSpot}
use Rattle.nv_paths.specs.Seen.{node_of, tree_of}
use Rattle.nv_paths.proofs.CreateTests.{good_name}
use Rattle.nv_steps.proofs.RowOf.{row_at}
use Rattle.nv_calls.specs.Mount.{IsKept}
use Rattle.nv_calls.specs.ReplaceCalls.{keeps_others}
use Rattle.nv_calls.specs.ReplaceLogs.{TakesPlace}
use Rattle.nv_calls.proofs.Kept.{rows_rise}
use Rattle.nv_calls.proofs.LinkedTree.{links_told}
use Rattle.nv_calls.proofs.RowNumbers.{row_named}

some_number : {a b : ℕ} → Some a ≡ Some b → a ≡ b
some_number e = cc

ok_number : {a b : ℕ} {r : Result ℕ Refusal} → r ≡ Ok a → r ≡ Ok b → a ≡ b
ok_number {a} {b} e f = let both : Ok a ≡ Ok b = sym e ∙ f in cc

some_node : {a b : Node} → Some a ≡ Some b → a ≡ b
some_node e = cc

no_more : (n : ℕ) → nat_lt 1 n ≡ false → n ≤ 1
no_more n test = grind (arith, nat_tests)

module _ {R : Region} {s : Super} {l : Layout} {rows : List Row} {free : FreeLists} {faults : List Fault} {read_only stopped : Bool} (kept : IsKept R s l rows free faults read_only stopped) (runs : stopped ≡ false) (writes : read_only ≡ false)
    {place source end : ℕ} (target : ℕ) {name other : List ℕ} (moved there : Row) (moved_at : slice_get rows source ≡ Some moved) (there_at : slice_get rows target ≡ Some there) (first_old : List ℕ) (old : List (List ℕ)) (first : List ℕ) (rest : List (List ℕ))
    (spot : IsReplaceSpot (tree_of R rows) rows (first_old ∷ old) (first ∷ rest) place name source end other (Some there.inode)) (apart : moved.inode ≢ there.inode) where
  abbrev i : ℕ
  i = moved.inode

  abbrev t : Tree
  t = tree_of R rows

  pub rising : Rises row_key rows
  rising = rows_rise R s l rows free faults read_only stopped kept runs

  pub good : (q : List ℕ) → IsPathName q → (k : ℕ) (r : Row) → slice_get rows k ≡ Some r → IsGoodName l.sup r.inode q
  good q is k r at = good_name l.sup r.inode q is (row_named kept runs writes r (stands rows k r at))

  -- the same of each row at the place
  pub spot_at : (r : Row) → slice_get rows target ≡ Some r → IsReplaceSpot t rows (first_old ∷ old) (first ∷ rest) place name source end other (Some r.inode)
  spot_at r at = subst (λ (k : Row). IsReplaceSpot t rows (first_old ∷ old) (first ∷ rest) place name source end other (Some k.inode)) (same_Some _ _ (sym there_at ∙ at)) spot

  pub apart_at : (r : Row) → slice_get rows target ≡ Some r → i ≢ r.inode
  apart_at r at = subst (λ (k : Row). i ≢ k.inode) (same_Some _ _ (sym there_at ∙ at)) apart

  -- what the laws of the tree machine are told
  pub replaces : (row : Row) → slice_get rows place ≡ Some row → (to : Row) → slice_get rows end ≡ Some to → (r : Row) → slice_get rows target ≡ Some r → Replaces t (first_old ∷ old) (first ∷ rest) i r.inode row.inode to.inode
  replaces row at to to_at r r_at =
      let here = spot_at r r_at in
      let way = here.way in
      let from = way.from in
      let ends = way.to in
      let over = here.over in
      let own = row_at rows target r rising r_at in
      record {
        from = (from.directory row at).0;
        way = (ends.row to to_at).0;
        moved = from.leads moved moved_at;
        there = here.leads;
        differ = apart_at r r_at;
        bare = λ q. ap (λ (o : Option Row). option_and_then (λ (n : Node). n.names q) (option_map (node_of R) o)) own
            ∙ ap (λ (o : Option (ℕ × ℕ)). option_map (λ (x : ℕ × ℕ). x.0) o) (over.bare moved r r.inode moved_at refl own (λ e. apart_at r r_at (sym e)) q);
      }

  -- a directory with a name isn't what has none
  named_apart : (row : Row) (k : ℕ) → slice_get rows k ≡ Some row → (q : List ℕ) (m : ℕ) → option_map (λ (x : ℕ × ℕ). x.0) (name_at row.names q) ≡ Some m → (r : Row) → slice_get rows target ≡ Some r → row.inode ≢ r.inode
  named_apart row k at q m named r r_at same =
      let here = spot_at r r_at in
      let over = here.over in
      let own = row_at rows target r rising r_at in
      let one : Some row ≡ Some r = sym (row_at rows k row rising at) ∙ ap (row_of rows) same ∙ own in
      let none : name_at row.names q ≡ None = ap (λ (o : Row). name_at o.names q) (same_Some _ _ one) ∙ over.bare moved r r.inode moved_at refl own (λ e. apart_at r r_at (sym e)) q in
      let clash : None ≡ Some m = sym (ap (λ (o : Option (ℕ × ℕ)). option_map (λ (x : ℕ × ℕ). x.0) o) none) ∙ named in
      cc

  -- neither directory is what had the name
  pub from_differs : (row : Row) → slice_get rows place ≡ Some row → (r : Row) → slice_get rows target ≡ Some r → row.inode ≢ r.inode
  from_differs row at r r_at = let way = spot.way in let from = way.from in named_apart row place at name i (from.named row moved at moved_at) r r_at

  pub to_differs : (to : Row) → slice_get rows end ≡ Some to → (r : Row) → slice_get rows target ≡ Some r → to.inode ≢ r.inode
  to_differs to to_at r r_at = let here = spot_at r r_at in let over = here.over in named_apart to end to_at other r.inode (over.named to r.inode to_at refl) r r_at

  -- what the row at the place shows
  shown_there : (r : Row) → slice_get rows target ≡ Some r → t r.inode ≡ Some (node_of R r)
  shown_there r at = ap (option_map (node_of R)) (row_at rows target r rising at)

  pub kind_there : (r : Row) → slice_get rows target ≡ Some r → is_directory_at t r.inode ≡ is_directory r.kind
  kind_there r at = ap (λ (o : Option Node). option_map_or (λ (n : Node). is_directory n.kind) o false) (shown_there r at)

  pub links_there : (r : Row) → slice_get rows target ≡ Some r → links_at t r.inode ≡ r.numbers.links
  links_there r at = links_told R rows r (row_at rows target r rising at)

  -- what goes is a directory, or has no other link
  pub goes_there : (r : Row) → slice_get rows target ≡ Some r → keeps_others r ≡ false → (is_directory_at t r.inode ≡ true) ⊎ ((is_directory_at t r.inode ≡ false) × (links_at t r.inode ≤ 1))
  goes_there r at goes = by r.kind refl where
    by : (k : Kind) → r.kind ≡ k → (is_directory_at t r.inode ≡ true) ⊎ ((is_directory_at t r.inode ≡ false) × (links_at t r.inode ≤ 1))
    by File is = inr (kind_there r at ∙ ap is_directory is, subst (λ (n : ℕ). n ≤ 1) (sym (links_there r at)) (no_more r.numbers.links (sym (ap (λ (k : Kind). not (is_directory k) && nat_lt 1 r.numbers.links) is) ∙ goes)))
    by Directory is = inl (kind_there r at ∙ ap is_directory is)

  -- What both paths are told to lead to is what stands there.
  pub places_are : (row : Row) → slice_get rows place ≡ Some row → (to : Row) → slice_get rows end ≡ Some to → (r : Row) → slice_get rows target ≡ Some r → (a b d e : ℕ) (node : Node) → TakesPlace t (first_old ∷ old) (first ∷ rest) a b d e node
      → (i ≡ a) × (r.inode ≡ b) × (row.inode ≡ d) × (to.inode ≡ e) × (node_of R r ≡ node)
  places_are row at to to_at r r_at a b d e node takes =
      let way = spot.way in
      let from = way.from in
      let ends = way.to in
      let here = spot_at r r_at in
      let led = takes.there in
      let a_is : i ≡ a = some_number (sym (from.leads moved moved_at) ∙ takes.moved) in
      let b_is : r.inode ≡ b = some_number (sym here.leads ∙ led.leads) in
      (a_is, b_is, ok_number (from.directory row at).0 takes.from, ok_number (ends.row to to_at).0 takes.way, some_node (sym (shown_there r r_at) ∙ ap t b_is ∙ led.shows))
