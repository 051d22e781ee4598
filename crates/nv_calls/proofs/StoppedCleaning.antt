-- What recovery finds in a region that a stop within `clean` has left.
use Rattle.std.proofs.Common.{◌≡◌, ◌⊎◌, ℕ, Bool, false, inl, inr, List, set, slice_get, sym, ◌∙◌, subst, Some}
use Rattle.std.proofs.Math.Logic.{∥∥₁_map}
use Rattle.std.proofs.lemmas.Option.{same_Some}
use Rattle.nv_region.specs.Region.{Region}
use Rattle.nv_region.specs.Stops.{Choices, LeavesOnly, NothingPending}
use Rattle.nv_super.specs.declared.superblock.Super.{Super}
use Rattle.nv_super.specs.declared.owners.Run.{Run}
use Rattle.nv_super.specs.declared.faults.Fault.{Fault}
use Rattle.nv_super.specs.Layout.{Layout}
use Rattle.nv_super.proofs.Members.{stands}
use Rattle.nv_journal.specs.Undo.{undone}
use Rattle.nv_alloc.specs.FreeValue.{FreeLists}
use Rattle.nv_scan.specs.declared.piece.Row.{Row}
use Rattle.nv_mounted.specs.Held.{Held, Store}
use Rattle.nv_mounted.specs.Mounted.{IsMounted}
use Rattle.nv_commit.specs.Stopped.{LeavesEither}
use Rattle.nv_tree.specs.Tree.{Node}
use Rattle.nv_paths.specs.Seen.{LeadsTo, tree_of}
use Rattle.nv_steps.specs.Steps.{ShowsRow}
use Rattle.nv_steps.specs.Stopped.{PageLess}
use Rattle.nv_calls.specs.CleanCall.{LosesPage}
use Rattle.nv_calls.specs.Mount.{IsKept, Mount}
use Rattle.nv_calls.specs.Stopped.{IsAsMade, IsAsMounted, StopLeaves}
use Rattle.nv_calls.proofs.CleanedMount.{log_cleaned, mounted_cleaned, tree_cleaned}
use Rattle.nv_calls.proofs.Mounts.{mounted_of_kept}
use Rattle.nv_calls.proofs.OneRow.{shows_row}
use Rattle.nv_calls.proofs.Stopped.{recovers_to, still_mounted}

module _ {R : Region} {s : Super} {l : Layout} {rows : List Row} {free : FreeLists} {faults : List Fault} {read_only stopped : Bool} (kept : IsKept R s l rows free faults read_only stopped) (runs : stopped ≡ false) (writes : read_only ≡ false)
    (place : ℕ) (row : Row) (at : slice_get rows place ≡ Some row) where
  clean_by : (left : Region) (held : Store) (mounted : IsMounted R l held rows free.pools) → LeavesEither R l held (PageLess R l free row) left
      → IsAsMounted R l rows free.pools left ⊎ IsAsMade l (tree_of R rows) (LosesPage R l row.inode) left
  clean_by left held mounted (inl as_before) = inl (still_mounted mounted as_before)
  clean_by left held mounted (inr w) =
      let after = w.1.0 in
      let new = w.1.1 in
      let b = w.1.2 in
      let follows = w.1.3 in
      let file = w.1.4 in
      let then = mounted_cleaned kept runs writes place row new at (undone l.sup left) after (Some b) follows held mounted in
      inr (record {
        rows = set rows place new;
        free = after.pools;
        recovers = recovers_to w.0 then.1;
        tree = tree_cleaned kept runs writes place row new at (undone l.sup left) after (Some b) follows file;
        logs = λ st h sound is. ∥∥₁_map (log_cleaned kept runs writes place row new at (undone l.sup left) after (Some b) follows st h sound is) (λ went. (b, went.0, went.1));
      })

  -- What a stop leaves within the call.
  pub clean_left : (S : Region) (old last : Choices)
      → ((held : Store) (h : Held) → ShowsRow R l held h row free → NothingPending R old → LeavesOnly S last (LeavesEither R l held (PageLess R l free row))) → NothingPending R old
      → LeavesOnly S last (StopLeaves R l rows free.pools (tree_of R rows) (LosesPage R l row.inode))
  clean_left S old last step settled left may = ∥∥₁_map (mounted_of_kept kept runs writes) (λ w.
      let v = shows_row w.1 kept.lists row (stands rows place row at) in
      clean_by left w.0 w.1 (step w.0 v.0 v.1 settled left may))

-- the same of the inode that a path leads to
pub left_by_path : {R S : Region} {l : Layout} {rows : List Row} {free : List (List Run)} {choices : Choices} (names : List (List ℕ)) (inode : ℕ) (row : Node) → LeadsTo (tree_of R rows) names inode row
    → LeavesOnly S choices (StopLeaves R l rows free (tree_of R rows) (LosesPage R l inode)) → LeavesOnly S choices (StopLeaves R l rows free (tree_of R rows) (λ T. (i : ℕ) (node : Node) → LeadsTo (tree_of R rows) names i node → LosesPage R l i T))
left_by_path {R} {l = l} {rows} names inode row own leaves left may = ∥∥₁_map (leaves left may) (λ w. elim w [
  | inl before ↦ inl before
  | inr made ↦ inr (record {
    rows = made.rows;
    free = made.free;
    recovers = made.recovers;
    tree = made.tree;
    logs = λ i node led. subst (λ (k : ℕ). LosesPage R l k (undone l.sup left)) (same_Some _ _ (sym own.leads ∙ led.leads)) made.logs;
  })
])

-- and of the inode of a number
pub left_by_number : {P : Type 0} (region : P → Region) {n m : Mount P} → n ≡ m → (S : Region) (choices : Choices) {i j : ℕ} → i ≡ j
    → LeavesOnly S choices (StopLeaves (region n.memory) n.layout n.rows n.free.pools (tree_of (region n.memory) n.rows) (LosesPage (region n.memory) n.layout i))
    → LeavesOnly S choices (StopLeaves (region m.memory) m.layout m.rows m.free.pools (tree_of (region m.memory) m.rows) (LosesPage (region m.memory) m.layout j))
left_by_number {P} region {n} {m} same S choices {i} {j} number leaves =
    subst (λ (k : Mount P). LeavesOnly S choices (StopLeaves (region k.memory) k.layout k.rows k.free.pools (tree_of (region k.memory) k.rows) (LosesPage (region k.memory) k.layout j))) same
    (subst (λ (q : ℕ). LeavesOnly S choices (StopLeaves (region n.memory) n.layout n.rows n.free.pools (tree_of (region n.memory) n.rows) (LosesPage (region n.memory) n.layout q))) number leaves)
