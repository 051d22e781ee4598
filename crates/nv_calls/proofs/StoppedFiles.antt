-- What recovery finds in a region that a stop within a write has left.
use Rattle.std.proofs.Common.{◌≡◌, ◌⊎◌, ℕ, ◌<◌, false, inl, inr, List, length, set, slice_get, refl, subst, arith, Some}
use Rattle.nv_super.specs.Layout.{Layout}
use Rattle.std.proofs.Math.Logic.{∥∥₁_map}
use Rattle.nv_region.specs.Region.{Region}
use Rattle.nv_region.specs.Stops.{Choices, LeavesOnly, NothingPending}
use Rattle.nv_super.proofs.Members.{stands}
use Rattle.nv_journal.specs.Undo.{undone}
use Rattle.nv_alloc.specs.FreeValue.{FreeLists}
use Rattle.nv_radix.specs.Pages.{block_at}
use Rattle.nv_scan.specs.declared.piece.Row.{Row}
use Rattle.nv_mounted.specs.Held.{Held, Store}
use Rattle.nv_mounted.specs.Mounted.{IsMounted}
use Rattle.nv_commit.specs.Stopped.{LeavesEither}
use Rattle.nv_graph.specs.Read.{row_of}
use Rattle.nv_tree.specs.Calls.{with_bytes}
use Rattle.nv_paths.specs.Seen.{tree_of}
use Rattle.nv_steps.specs.Steps.{ShowsRow}
use Rattle.nv_steps.specs.Stopped.{Wrote}
use Rattle.nv_steps.specs.Writes.{data_entries, plan_of}
use Rattle.nv_steps.specs.declared.planning.Plan.{Plan}
use Rattle.nv_calls.specs.Mount.{IsKept, Mount}
use Rattle.nv_calls.specs.ChangesByNumber.{LogsInodeBytes, written_inode}
use Rattle.nv_calls.specs.Stopped.{IsAsMade, IsAsMounted, StopLeaves}
use Rattle.nv_calls.proofs.Mounts.{mounted_of_kept}
use Rattle.nv_calls.proofs.OneRow.{shows_row}
use Rattle.nv_calls.proofs.RowChange.{log_grew, mounted_after, tree_after}
use Rattle.nv_calls.proofs.Stopped.{recovers_to, still_mounted}
use Rattle.nv_calls.proofs.Numbered.{inode_changed}
use Rattle.nv_calls.proofs.WriteReply.{some_written, write_bytes, write_logged, written_node}

module _ {P : Type 0} (region : P → Region) {n m : Mount P} (same : n ≡ m) (kept : IsKept (region n.memory) n.sup n.layout n.rows n.free n.faults n.read_only n.stopped) (runs : n.stopped ≡ false) (writes : n.read_only ≡ false)
    (place : ℕ) (row : Row) (at : slice_get n.rows place ≡ Some row) (cpu : ℕ) (plan : Plan) (offset : ℕ) (new : List ℕ) (time : ℕ) (planned : plan ≡ plan_of (block_at row.index) row.numbers.size offset (length new) time) (some : 0 < length new)
    (i : ℕ) (is : row_of n.rows i ≡ Some row) (number : row.inode ≡ i) where
  abbrev R : Region
  R = region n.memory

  abbrev l : Layout
  l = n.layout

  abbrev rows : List Row
  rows = n.rows

  abbrev free : FreeLists
  free = n.free

  write_by : (left : Region) (held : Store) (mounted : IsMounted R l held rows free.pools) → LeavesEither R l held (Wrote R l free cpu plan offset new row) left
      → IsAsMounted R l rows free.pools left ⊎ IsAsMade l (written_inode i offset new time (tree_of R rows)) (LogsInodeBytes cpu offset (length new) time i R n) left
  write_by left held mounted (inl as_before) = inl (still_mounted mounted as_before)
  write_by left held mounted (inr w) =
      let step = w.1 in
      let now = step.1 in
      let wrote = step.2 in
      let entries = data_entries plan wrote.runs in
      let then = mounted_after kept runs writes place row now at entries (λ st g shows. wrote.follows st g shows) held mounted in
      inr (record {
        rows = set rows place now;
        free = (step.0).pools;
        recovers = recovers_to w.0 then.1;
        tree = some_written i offset new time (tree_of R rows) (tree_of (undone l.sup left) (set rows place now)) some
            (inode_changed region {n = n} {m = n} refl (with_bytes offset new time) (tree_of (undone l.sup left) (set rows place now)) number
            (tree_after kept runs writes place row now at entries (λ st g shows. wrote.follows st g shows) (with_bytes offset new time) wrote.inode
            (written_node R (undone l.sup left) time wrote planned (write_bytes kept runs writes place row at wrote))));
        logs = record {
          some = λ node st h shown sound holds more. write_logged region {n = n} {m = n} refl time i node st h kept runs (stands rows place row at) is number wrote planned
              (log_grew kept runs writes place row now at entries (λ first g shows. wrote.follows first g shows)) shown sound holds;
          none = λ none. absurd (omega (arith, some, none));
        };
      })

  -- What a stop within the call leaves.
  pub write_left : (S : Region) (old last : Choices)
      → ((held : Store) (h : Held) → ShowsRow R l held h row free → NothingPending R old → LeavesOnly S last (LeavesEither R l held (Wrote R l free cpu plan offset new row))) → NothingPending R old
      → LeavesOnly S last (StopLeaves (region m.memory) m.layout m.rows m.free.pools (written_inode i offset new time (tree_of (region m.memory) m.rows)) (LogsInodeBytes cpu offset (length new) time i (region m.memory) m))
  write_left S old last step settled =
      subst (λ (k : Mount P). LeavesOnly S last (StopLeaves (region k.memory) k.layout k.rows k.free.pools (written_inode i offset new time (tree_of (region k.memory) k.rows)) (LogsInodeBytes cpu offset (length new) time i (region k.memory) k))) same
      (λ left may. ∥∥₁_map (mounted_of_kept kept runs writes) (λ w.
      let v = shows_row w.1 kept.lists row (stands rows place row at) in
      write_by left w.0 w.1 (step w.0 v.0 v.1 settled left may)))
