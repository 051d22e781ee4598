-- What refuses a write, before its bytes are there.
use Rattle.std.proofs.Common.{◌≡◌, ◌⊎◌, inl, inr, ℕ, ◌+◌, ◌-◌, ◌/◌, ◌<◌, ◌≤◌, min, Bool, true, false, not, cond, nat_lt, is_none, is_some, List, [], ◌∷◌, ◌++◌, append_assoc, Option, Some, None, refl, sym, ap, subst, ◌∙◌, arith}
use Rattle.std.specs.Option.{option_and_then, option_map}
use Rattle.nv_region.specs.Region.{Region}
use Rattle.nv_region.specs.RegionState.{RegionState}
use Rattle.nv_super.specs.declared.owners.Run.{Run}
use Rattle.nv_alloc.specs.Taking.{all_blocks}
use Rattle.nv_radix.specs.Pages.{block_at}
use Rattle.nv_scan.specs.declared.piece.Row.{Row}
use Rattle.nv_graph.specs.Read.{row_of}
use Rattle.nv_tree.specs.Tree.{Tree}
use Rattle.nv_tree.specs.Refusals.{MayWantMemory, Path, Tests, World, first_refusal, has_no_space, is_bad, is_dir, is_missing, is_too_large, stat_tests, target, walk_tests, write_tests, writing}
use Rattle.nv_tree.specs.declared.refusal.Refusal.{Refusal}
use Rattle.nv_tree.specs.declared.refusal.Refusal.TheVariants.{BadCpu, NoSpace, ReadOnly}
use Rattle.nv_calls.specs.Mount.{Mount}
use Rattle.nv_calls.specs.World.{world_of}
use Rattle.nv_paths.specs.Seen.{node_of, tree_of}
use Rattle.nv_calls.specs.WriteCall.{WriteNeeds}
use Rattle.nv_steps.specs.Writes.{NeedsBlocks, data_blocks, plan_of}
use Rattle.nv_calls.proofs.SetSize.{front_tests}
use Rattle.nv_calls.proofs.Tests.{enough_space, space_last, stat_first, too_few}
use Rattle.nv_paths.proofs.Refusing.{passed_before, refused_before}
use Rattle.nv_calls.proofs.WriteReply.{large_same}
use Rattle.nv_calls.proofs.Allowed.{first_passes, later_passes}
use Rattle.nv_history.proofs.Cleaned.{target_there}

-- ---- tests in front of one that passes

in_front : (a b : Tests) (e : Refusal) → first_refusal b ≡ None → first_refusal (a ++ b) ≡ Some e → first_refusal a ≡ Some e
in_front [] b e none h = absurd (let wrong : None ≡ Some e = sym none ∙ h in cc)
in_front (x ∷ a) b e none h = by x.0 (in_front a b e none) h where
  by : (t : Bool) → (first_refusal (a ++ b) ≡ Some e → first_refusal a ≡ Some e) → cond t (Some x.1) (first_refusal (a ++ b)) ≡ Some e → cond t (Some x.1) (first_refusal a) ≡ Some e
  by true rest h = h
  by false rest h = rest h

all_pass : (a b : Tests) → first_refusal (a ++ b) ≡ None → first_refusal a ≡ None
all_pass [] b none = refl
all_pass (x ∷ a) b none = by x.0 (all_pass a b) none where
  by : (t : Bool) → (first_refusal (a ++ b) ≡ None → first_refusal a ≡ None) → cond t (Some x.1) (first_refusal (a ++ b)) ≡ None → cond t (Some x.1) (first_refusal a) ≡ None
  by true rest h = absurd (cc)
  by false rest h = rest h

-- ---- the tests of a write before that for space

module _ (w : World) (t : Tree) (cpu : ℕ) (p : Path) where
  abbrev before : ℕ → Tests
  before end = writing w cpu (front_tests t p end)

  whole : (end count : ℕ) → write_tests w t cpu p end count ≡ before end ++ has_no_space w count ∷ []
  whole end count = ap (λ (l : Tests). writing w cpu l) (stat_first t p (is_dir t p ∷ is_too_large end ∷ has_no_space w count ∷ []) ∙ sym (append_assoc (stat_tests t p) (is_dir t p ∷ is_too_large end ∷ []) (has_no_space w count ∷ [])))

  -- by the number at which the bytes end, or the largest one where that is too large for a word
  module _ (offset count far : ℕ) (is : far ≡ min (offset + count) 18446744073709551615) where
    same_before : first_refusal (before (offset + count)) ≡ first_refusal (before far)
    same_before = ap (λ (o : Option Refusal). cond (not (nat_lt cpu w.cpus)) (Some BadCpu) (cond w.read_only (Some ReadOnly) o)) (large_same offset count far is t p)

    no_bytes : first_refusal (write_tests w t cpu p (far + 0) 0) ≡ first_refusal (before far ++ has_no_space w 0 ∷ [])
    no_bytes = ap (λ (n : ℕ). first_refusal (write_tests w t cpu p n 0)) (let same : far + 0 ≡ far = omega arith in same) ∙ ap first_refusal (whole far 0)

    -- What refuses no bytes there refuses the bytes.
    pub refused_too : (e : Refusal) (blocks : ℕ) → first_refusal (write_tests w t cpu p (far + 0) 0) ≡ Some e → first_refusal (write_tests w t cpu p (offset + count) blocks) ≡ Some e
    refused_too e blocks none = ap first_refusal (whole (offset + count) blocks)
        ∙ refused_before (before (offset + count)) (has_no_space w blocks ∷ []) e (same_before ∙ in_front (before far) (has_no_space w 0 ∷ []) e (enough_space w 0 (omega arith)) (sym no_bytes ∙ none))

    pub before_passes : first_refusal (write_tests w t cpu p (far + 0) 0) ≡ None → first_refusal (before (offset + count)) ≡ None
    before_passes none = same_before ∙ all_pass (before far) (has_no_space w 0 ∷ []) (sym no_bytes ∙ none)

    -- Where nothing else refuses them, too few blocks do.
    pub no_space : (blocks : ℕ) → first_refusal (write_tests w t cpu p (far + 0) 0) ≡ None → w.free < blocks → first_refusal (write_tests w t cpu p (offset + count) blocks) ≡ Some NoSpace
    no_space blocks none few = ap first_refusal (whole (offset + count) blocks) ∙ passed_before (before (offset + count)) (has_no_space w blocks ∷ []) (before_passes none) ∙ too_few w blocks few

    -- What leaves the last word to memory there does so here.
    pub last_too : (blocks : ℕ) → MayWantMemory (first_refusal (write_tests w t cpu p (far + 0) 0)) → MayWantMemory (first_refusal (write_tests w t cpu p (offset + count) blocks))
    last_too blocks (inl none) = subst MayWantMemory (sym (ap first_refusal (whole (offset + count) blocks) ∙ passed_before (before (offset + count)) (has_no_space w blocks ∷ []) (before_passes none))) (space_last w blocks)
    last_too blocks (inr full) = inr (refused_too NoSpace blocks full)

-- ---- how many blocks they need at least

pages_hold : (offset count : ℕ) → 0 < count → count / 4096 ≤ (offset + count - 1) / 4096 + 1 - offset / 4096
pages_hold offset count some = omega (arith, some)

data_hold : (mapped : ℕ → Option ℕ) (size offset count time : ℕ) → 0 < count → count / 4096 ≤ data_blocks (plan_of mapped size offset count time)
data_hold mapped size offset count time some = (let pages = pages_hold offset count some in omega (arith, pages))

needs_hold : (pools : List (List Run)) (cpu tail : ℕ) (mapped : ℕ → Option ℕ) (size offset count time blocks : ℕ) → 0 < count → NeedsBlocks pools cpu tail (plan_of mapped size offset count time) blocks → count / 4096 ≤ blocks
needs_hold pools cpu tail mapped size offset count time blocks some (inl n) = (let hold = data_hold mapped size offset count time some in let is = n.1 in omega (arith, hold, is))
needs_hold pools cpu tail mapped size offset count time blocks some (inr n) = (let hold = data_hold mapped size offset count time some in let is = n.3 in omega (arith, hold, is))

-- the row of the inode that a path leads to
row_there : (S : Region) (rows : List Row) (p : Path) → is_none (target (tree_of S rows) p) ≡ false → (row : Row) × (option_and_then (row_of rows) (target (tree_of S rows) p) ≡ Some row)
row_there S rows p there = by (target (tree_of S rows) p) refl where
  by : (o : Option ℕ) → target (tree_of S rows) p ≡ o → (row : Row) × (option_and_then (row_of rows) (target (tree_of S rows) p) ≡ Some row)
  by None at = absurd (let no : true ≡ false = ap is_none (sym at) ∙ there in cc)
  by (Some i) at = with_row (row_of rows i) refl where
    with_row : (o : Option Row) → row_of rows i ≡ o → (row : Row) × (option_and_then (row_of rows) (target (tree_of S rows) p) ≡ Some row)
    with_row None e = absurd (let no : false ≡ true = ap (λ (o : Option Row). is_some (option_map (node_of S) o)) (sym e) ∙ target_there (tree_of S rows) p i at in cc)
    with_row (Some row) e = (row, ap (option_and_then (row_of rows)) at ∙ e)

found_target : (w : World) (t : Tree) (cpu : ℕ) (p : Path) (end : ℕ) → first_refusal (before w t cpu p end) ≡ None → is_none (target t p) ≡ false
found_target w t cpu p end none =
    let one = first_passes (not (nat_lt cpu w.cpus), BadCpu) ((w.read_only, ReadOnly) ∷ front_tests t p end) none in
    let two = first_passes (w.read_only, ReadOnly) (front_tests t p end) one.1 in
    let stat = first_passes (is_bad p) (walk_tests t p ++ is_missing t p ∷ []) (all_pass (stat_tests t p) (is_dir t p ∷ is_too_large end ∷ []) two.1) in
    (first_passes (is_missing t p) [] (later_passes (walk_tests t p) (is_missing t p ∷ []) stat.1)).0

-- Bytes for whose pages there aren't enough blocks are refused for that, where nothing else refuses them.
pub full : (S : Region) (m : Mount RegionState) (cpu : ℕ) (p : Path) (offset count far time blocks : ℕ) → far ≡ min (offset + count) 18446744073709551615
    → first_refusal (write_tests (world_of m) (tree_of S m.rows) cpu p (far + 0) 0) ≡ None → all_blocks m.free.pools < count / 4096 → WriteNeeds S m cpu p offset count time blocks
    → first_refusal (write_tests (world_of m) (tree_of S m.rows) cpu p (offset + count) blocks) ≡ Some NoSpace
full S m cpu p offset count far time blocks is none few needs =
    let w = world_of m in
    let t = tree_of S m.rows in
    let some : 0 < count = omega (arith, few) in
    let row = row_there S m.rows p (found_target w t cpu p (offset + count) (before_passes w t cpu p offset count far is none)) in
    let hold = needs_hold m.free.pools cpu row.0.tail (block_at row.0.index) row.0.numbers.size offset count time blocks some (needs.some some row.0 row.1) in
    no_space w t cpu p offset count far is blocks none (omega (arith, few, hold))
