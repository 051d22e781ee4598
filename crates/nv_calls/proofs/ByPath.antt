-- What a call by a path answers and makes, by what the call on the inode does that the path leads to.
use Rattle.std.proofs.Common.{◌≡◌, ◌%◌, ℕ, inl, inr, List, [], ◌∷◌, ◌++◌, ap, sym, ◌∙◌, subst, refl, Option, Some, None}
use Rattle.std.specs.Option.{option_and_then, option_map_or}
use Rattle.std.proofs.lemmas.Option.{same_Some}
use Rattle.std.proofs.Math.Logic.{∥∥₁_map}
use Rattle.nv_region.specs.Region.{Region}
use Rattle.nv_region.specs.Stops.{Choices, LeavesOnly}
use Rattle.nv_super.specs.Layout.{Layout}
use Rattle.nv_super.specs.declared.owners.Run.{Run}
use Rattle.nv_journal.specs.Undo.{undone}
use Rattle.nv_logpage.specs.Append.{needed}
use Rattle.nv_scan.specs.declared.piece.Row.{Row}
use Rattle.nv_graph.specs.Read.{row_of}
use Rattle.nv_tree.specs.Path.{IsPath, Says}
use Rattle.nv_tree.specs.Tree.{Node, SameTree, Tree, found}
use Rattle.nv_tree.specs.Calls.{attributed, edit, on_some, resized, with_attributes, with_bytes, with_size, written}
use Rattle.nv_tree.specs.Refusals.{Path, Tests, first_refusal, has_no_space, set_attr_tests, set_size_tests, stat_tests, target, writing}
use Rattle.nv_tree.specs.declared.refusal.Refusal.{Refusal}
use Rattle.nv_paths.proofs.Refusing.{passed_before, refused_before}
use Rattle.nv_steps.specs.Attributes.{attributes}
use Rattle.nv_paths.specs.Seen.{LeadsTo, node_of, tree_of}
use Rattle.nv_calls.specs.AttributesCall.{attributes_blocks}
use Rattle.nv_calls.specs.ByNumber.{is_unused}
use Rattle.nv_calls.specs.ChangesByNumber.{WriteInodeNeeds, attributes_inode_blocks, resize_inode_tests, resized_inode_blocks, set_attr_inode_tests, set_size_inode_tests, written_inode}
use Rattle.nv_calls.specs.Mount.{Mount}
use Rattle.nv_calls.specs.SizeCall.{resized_blocks, size_blocks}
use Rattle.nv_calls.specs.Stopped.{StopLeaves}
use Rattle.nv_calls.specs.WriteCall.{WriteNeeds}
use Rattle.nv_calls.specs.World.{world_of}
use Rattle.nv_calls.proofs.Numbered.{file_allows, file_at, told_later}
use Rattle.nv_calls.proofs.SetSize.{all_tests, front_is, front_refused, front_tests, set_tests}
use Rattle.nv_calls.proofs.Tests.{stat_allows}

-- What holds of the inode of a number holds of the one that the same path leads to.
pub at_number : {t : Tree} {names : List (List ℕ)} {i j : ℕ} {own node : Node} → LeadsTo t names i own → LeadsTo t names j node → (Q : ℕ → Type 0) → (t i ≡ Some node → Q i) → Q j
at_number {t} {names} {i} {j} own led Q fact =
    let one : i ≡ j = same_Some _ _ (sym own.leads ∙ led.leads) in
    subst Q one (fact (ap t one ∙ led.shows))

-- What a stop leaves of a call that makes the same, and no more of the logs.
pub left_by : (R : Region) {S : Region} {l : Layout} {rows : List Row} {free : List (List Run)} {choices : Choices} {made named : Tree} (Logged Named : Region → Type 0) → made ≡ named → ((T : Region) → Logged T → Named T)
    → LeavesOnly S choices (StopLeaves R l rows free made Logged) → LeavesOnly S choices (StopLeaves R l rows free named Named)
left_by R {l = l} Logged Named same logs leaves left may = ∥∥₁_map (leaves left may) (λ w. elim w [
  | inl before ↦ inl before
  | inr made ↦ inr (record {
    rows = made.rows;
    free = made.free;
    recovers = made.recovers;
    tree = subst (λ (t : Tree). SameTree (tree_of (undone l.sup left) made.rows) t) same made.tree;
    logs = logs (undone l.sup left) made.logs;
  })
])

-- ---- the trees

pub attributed_at : (t : Tree) (names : List (List ℕ)) (i mode owner group time : ℕ) → found t names ≡ Some i → edit i (with_attributes mode owner group time) t ≡ attributed names mode owner group time t
attributed_at t names i mode owner group time leads = sym (ap (λ (o : Option ℕ). on_some o (λ j. edit j (with_attributes mode owner group time) t) t) leads)

pub sized_at : (t : Tree) (names : List (List ℕ)) (i size time : ℕ) → found t names ≡ Some i → edit i (with_size size time) t ≡ resized names size time t
sized_at t names i size time leads = sym (ap (λ (o : Option ℕ). on_some o (λ j. edit j (with_size size time) t) t) leads)

pub written_at : (t : Tree) (names : List (List ℕ)) (i offset : ℕ) (new : List ℕ) (time : ℕ) → found t names ≡ Some i → written_inode i offset new time t ≡ written names offset new time t
written_at t names i offset [] time leads = refl
written_at t names i offset (b ∷ new) time leads = sym (ap (λ (o : Option ℕ). on_some o (λ j. edit j (with_bytes offset (b ∷ new) time) t) t) leads)

-- ---- the tests

-- where the file isn't refused, the path leads to an inode
stat_none : (t : Tree) (p : Path) (size : ℕ) → first_refusal (front_tests t p size) ≡ None → first_refusal (stat_tests t p) ≡ None
stat_none t p size none = by (first_refusal (stat_tests t p)) refl where
  by : (o : Option Refusal) → first_refusal (stat_tests t p) ≡ o → first_refusal (stat_tests t p) ≡ None
  by None is = is
  by (Some e) is = absurd (let clash : ◌≡◌ {A = Option Refusal} None (Some e) = sym none ∙ front_refused t p size e is in cc)

module _ {P : Type 0} (region : P → Region) {n m : Mount P} (same : n ≡ m) (cpu : ℕ) (passed : (tests : Tests) → first_refusal (writing (world_of m) cpu tests) ≡ first_refusal tests) (p : Path) where
  abbrev tree : Tree
  tree = tree_of (region m.memory) m.rows

  by_front : (size count : ℕ) → first_refusal (set_size_tests (world_of m) tree cpu p size count) ≡ first_refusal (front_tests tree p size ++ has_no_space (world_of m) count ∷ [])
  by_front size count = passed (set_tests tree p size (has_no_space (world_of m) count)) ∙ ap first_refusal (all_tests tree p size (has_no_space (world_of m) count))

  -- What refuses the file refuses the call.
  pub front_by_path : (size count : ℕ) (e : Refusal) → first_refusal (front_tests (tree_of (region n.memory) n.rows) p size) ≡ Some e → first_refusal (set_size_tests (world_of m) tree cpu p size count) ≡ Some e
  front_by_path size count e h =
      by_front size count
      ∙ refused_before (front_tests tree p size) (has_no_space (world_of m) count ∷ []) e (subst (λ (k : Mount P). first_refusal (front_tests (tree_of (region k.memory) k.rows) p size) ≡ Some e) same h)

  module _ (text : List ℕ) (row : Row) (leads : (names : List (List ℕ)) → IsPath text names → LeadsTo (tree_of (region n.memory) n.rows) names row.inode (node_of (region n.memory) row)) (says : Says text p) where
    leads_now : (names : List (List ℕ)) → IsPath text names → LeadsTo tree names row.inode (node_of (region m.memory) row)
    leads_now = subst (λ (k : Mount P). (names : List (List ℕ)) → IsPath text names → LeadsTo (tree_of (region k.memory) k.rows) names row.inode (node_of (region k.memory) row)) same leads

    there : (q : Path) → Says text q → first_refusal (stat_tests tree q) ≡ None → (target tree q ≡ Some row.inode) × (tree row.inode ≡ Some (node_of (region m.memory) row))
    there None says none = absurd (cc)
    there (Some names) says none = (let led = leads_now names says in (led.leads, led.shows))

    -- `set_attr`
    pub attr_by_path : first_refusal (stat_tests (tree_of (region n.memory) n.rows) p) ≡ None
        → first_refusal (set_attr_tests (world_of m) tree cpu p (attributes_blocks m.rows tree p)) ≡ first_refusal (set_attr_inode_tests (world_of m) tree cpu row.inode (attributes_inode_blocks m.rows row.inode))
    attr_by_path none =
        let here = subst (λ (k : Mount P). first_refusal (stat_tests (tree_of (region k.memory) k.rows) p) ≡ None) same none in
        let both = there p says here in
        let space = has_no_space (world_of m) (attributes_inode_blocks m.rows row.inode) ∷ [] in
        stat_allows (world_of m) tree cpu passed p (has_no_space (world_of m) (attributes_blocks m.rows tree p) ∷ []) here
        ∙ ap (λ (o : Option ℕ). first_refusal (has_no_space (world_of m) (option_map_or (λ (r : Row). needed (r.tail % 4096) (attributes r.numbers.size 0 0 0 0)) (option_and_then (row_of m.rows) o) 0) ∷ [])) both.0
        ∙ sym (passed (is_unused tree row.inode ∷ space) ∙ told_later (tree row.inode) (node_of (region m.memory) row) space both.1)

    module _ (size : ℕ) (none : first_refusal (front_tests (tree_of (region n.memory) n.rows) p size) ≡ None) where
      here : first_refusal (front_tests tree p size) ≡ None
      here = subst (λ (k : Mount P). first_refusal (front_tests (tree_of (region k.memory) k.rows) p size) ≡ None) same none

      both : (target tree p ≡ Some row.inode) × (tree row.inode ≡ Some (node_of (region m.memory) row))
      both = there p says (stat_none tree p size here)

      file_here : first_refusal (resize_inode_tests tree row.inode size) ≡ None
      file_here =
          file_at tree row.inode size (node_of (region m.memory) row) both.1
          ∙ sym (front_is tree p text row.inode (node_of (region m.memory) row) size says leads_now (stat_none tree p size here)) ∙ here

      -- of a call on a file that needs so many blocks
      pub file_by_path : (count : ℕ) → first_refusal (set_size_tests (world_of m) tree cpu p size count) ≡ first_refusal (set_size_inode_tests (world_of m) tree cpu row.inode size count)
      file_by_path count =
          by_front size count ∙ passed_before (front_tests tree p size) (has_no_space (world_of m) count ∷ []) here
          ∙ sym (file_allows region {n = m} {m = m} refl cpu size count passed row.inode file_here)

      -- `set_size`
      pub size_by_path : first_refusal (set_size_tests (world_of m) tree cpu p size (resized_blocks m.rows tree p size)) ≡ first_refusal (set_size_inode_tests (world_of m) tree cpu row.inode size (resized_inode_blocks m.rows row.inode size))
      size_by_path =
          ap (λ (o : Option ℕ). first_refusal (set_size_tests (world_of m) tree cpu p size (option_map_or (λ (r : Row). size_blocks r size) (option_and_then (row_of m.rows) o) 0))) both.0
          ∙ file_by_path (resized_inode_blocks m.rows row.inode size)

      -- what `write` needs
      pub needs_by_path : (offset bytes time count : ℕ) → WriteNeeds (region m.memory) m cpu p offset bytes time count → WriteInodeNeeds m cpu row.inode offset bytes time count
      needs_by_path offset bytes time count needs = record {
        none = needs.none;
        some = λ some r is. needs.some some r (ap (option_and_then (row_of m.rows)) both.0 ∙ is);
      }
