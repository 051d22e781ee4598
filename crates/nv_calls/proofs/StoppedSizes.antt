-- What recovery finds in a region that a stop within `set_size` has left.
use Rattle.std.proofs.Common.{◌≡◌, ◌⊎◌, ℕ, false, inl, inr, List, set, slice_get, refl, subst, Some}
use Rattle.nv_super.specs.Layout.{Layout}
use Rattle.std.proofs.Math.Logic.{∥∥₁_map}
use Rattle.nv_region.specs.Region.{Region}
use Rattle.nv_region.specs.Stops.{Choices, LeavesOnly, NothingPending}
use Rattle.nv_super.proofs.Members.{stands}
use Rattle.nv_journal.specs.Undo.{undone}
use Rattle.nv_alloc.specs.FreeValue.{FreeLists}
use Rattle.nv_scan.specs.declared.piece.Row.{Row}
use Rattle.nv_mounted.specs.Held.{Held, Store}
use Rattle.nv_mounted.specs.Mounted.{IsMounted}
use Rattle.nv_commit.specs.Stopped.{LeavesEither}
use Rattle.nv_graph.specs.Read.{row_of}
use Rattle.nv_tree.specs.Calls.{edit, with_size}
use Rattle.nv_paths.specs.Seen.{node_of, tree_of}
use Rattle.nv_steps.specs.Sizes.{resizing, sized}
use Rattle.nv_steps.specs.Steps.{ShowsRow}
use Rattle.nv_steps.specs.Stopped.{Resized}
use Rattle.nv_calls.specs.Mount.{IsKept, Mount}
use Rattle.nv_calls.specs.ChangesByNumber.{logs_inode_size}
use Rattle.nv_calls.specs.Stopped.{IsAsMade, IsAsMounted, StopLeaves}
use Rattle.nv_calls.proofs.Mounts.{mounted_of_kept}
use Rattle.nv_calls.proofs.OneRow.{shows_row}
use Rattle.nv_calls.proofs.RowChange.{mounted_after, tree_after}
use Rattle.nv_calls.proofs.Numbered.{inode_changed}
use Rattle.nv_calls.proofs.SetSize.{resized_node, size_logged}
use Rattle.nv_calls.proofs.SizeKept.{bytes_after, log_after}
use Rattle.nv_calls.proofs.Stopped.{recovers_to, still_mounted}

module _ {P : Type 0} (region : P → Region) {n m : Mount P} (same : n ≡ m) (kept : IsKept (region n.memory) n.sup n.layout n.rows n.free n.faults n.read_only n.stopped) (runs : n.stopped ≡ false) (writes : n.read_only ≡ false)
    (place : ℕ) (row : Row) (at : slice_get n.rows place ≡ Some row) (cpu size time i : ℕ) (is : row_of n.rows i ≡ Some row) (number : row.inode ≡ i) where
  abbrev R : Region
  R = region n.memory

  abbrev l : Layout
  l = n.layout

  abbrev rows : List Row
  rows = n.rows

  abbrev free : FreeLists
  free = n.free

  size_by : (left : Region) (held : Store) (mounted : IsMounted R l held rows free.pools) → LeavesEither R l held (Resized R l free cpu row (sized (node_of R row) size time)) left
      → IsAsMounted R l rows free.pools left ⊎ IsAsMade l (edit i (with_size size time) (tree_of R rows)) (logs_inode_size cpu size time i R n) left
  size_by left held mounted (inl as_before) = inl (still_mounted mounted as_before)
  size_by left held mounted (inr w) =
      let step = w.1 in
      let now = step.1 in
      let resizes = step.2 in
      let has = resizes.numbers in
      let entries = resizing row.numbers.size (sized (node_of R row) size time) resizes.to in
      let then = mounted_after kept runs writes place row now at entries (λ st g shows. resizes.follows st g shows) held mounted in
      inr (record {
        rows = set rows place now;
        free = (step.0).pools;
        recovers = recovers_to w.0 then.1;
        tree = inode_changed region {n = n} {m = n} refl (with_size size time) (tree_of (undone l.sup left) (set rows place now)) number
            (tree_after kept runs writes place row now at entries (λ st g shows. resizes.follows st g shows) (with_size size time) has.inode
            (resized_node R (undone l.sup left) size time has (bytes_after kept runs writes place row at size time resizes)));
        logs = size_logged region {n = n} {m = n} refl (undone l.sup left) row size time i is number (log_after kept runs writes place row at size time resizes);
      })

  -- What a stop leaves within the call.
  pub size_left : (S : Region) (old last : Choices)
      → ((held : Store) (h : Held) → ShowsRow R l held h row free → NothingPending R old → LeavesOnly S last (LeavesEither R l held (Resized R l free cpu row (sized (node_of R row) size time)))) → NothingPending R old
      → LeavesOnly S last (StopLeaves (region m.memory) m.layout m.rows m.free.pools (edit i (with_size size time) (tree_of (region m.memory) m.rows)) (logs_inode_size cpu size time i (region m.memory) m))
  size_left S old last step settled =
      subst (λ (k : Mount P). LeavesOnly S last (StopLeaves (region k.memory) k.layout k.rows k.free.pools (edit i (with_size size time) (tree_of (region k.memory) k.rows)) (logs_inode_size cpu size time i (region k.memory) k))) same
      (λ left may. ∥∥₁_map (mounted_of_kept kept runs writes) (λ w.
      let v = shows_row w.1 kept.lists row (stands rows place row at) in
      size_by left w.0 w.1 (step w.0 v.0 v.1 settled left may)))
