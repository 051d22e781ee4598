-- What recovery finds in a region that a stop within `link` has left.
use Rattle.std.proofs.Common.{◌≡◌, ◌≢◌, ◌⊎◌, ℕ, false, inl, inr, List, set, slice_get, refl, ap, ◌∙◌, Some, None, subst}
use Rattle.nv_super.specs.Layout.{Layout}
use Rattle.std.proofs.Math.Logic.{∥∥₁_map}
use Rattle.nv_region.specs.Region.{Region}
use Rattle.nv_region.specs.Stops.{Choices, LeavesOnly, NothingPending}
use Rattle.nv_super.proofs.Members.{stands}
use Rattle.nv_journal.specs.Undo.{undone}
use Rattle.nv_alloc.specs.FreeValue.{FreeLists}
use Rattle.nv_names.specs.Names.{name_at}
use Rattle.nv_scan.specs.declared.piece.Row.{Row}
use Rattle.nv_rows.specs.Rows.{place_in}
use Rattle.nv_rows.proofs.Places.{at_place}
use Rattle.nv_graph.specs.Read.{row_of}
use Rattle.nv_mounted.specs.Held.{Held, Store}
use Rattle.nv_mounted.specs.Mounted.{IsMounted}
use Rattle.nv_commit.specs.Stopped.{LeavesEither}
use Rattle.nv_tree.specs.Path.{IsPathName}
use Rattle.nv_paths.specs.Places.{IsLinkSpot}
use Rattle.nv_paths.specs.Seen.{tree_of}
use Rattle.nv_steps.specs.MoreNames.{LinksAt}
use Rattle.nv_steps.specs.Steps.{ShowsRow}
use Rattle.nv_steps.specs.Stopped.{Linked}
use Rattle.nv_calls.specs.Mount.{IsKept, Mount}
use Rattle.nv_calls.specs.NamesByNumber.{linked_in, logs_linked_in}
use Rattle.nv_calls.specs.Stopped.{IsAsMade, IsAsMounted, StopLeaves}
use Rattle.nv_calls.proofs.CreatedRows.{not_named}
use Rattle.nv_calls.proofs.LinkCall.{linked_logs, linked_mounted, linked_tree}
use Rattle.nv_calls.proofs.LinkedHeld.{kinds_apart}
use Rattle.nv_calls.proofs.Mounts.{mounted_of_kept}
use Rattle.nv_calls.proofs.OneRow.{shows_row}
use Rattle.nv_calls.proofs.Stopped.{recovers_to, still_mounted}
use Rattle.nv_calls.proofs.TwoRows.{lifted}

module _ {P : Type 0} (region : P → Region) {n m : Mount P} (same : n ≡ m) (kept : IsKept (region n.memory) n.sup n.layout n.rows n.free n.faults n.read_only n.stopped) (runs : n.stopped ≡ false) (writes : n.read_only ≡ false)
    (i j : ℕ) (file directory : Row) (at : row_of n.rows i ≡ Some file) (other_at : row_of n.rows j ≡ Some directory) (name : List ℕ) (cpu time : ℕ) (spelled : IsPathName name)
    (spot : IsLinkSpot n.rows i j (place_in n.rows j) name (place_in n.rows i)) where
  abbrev R : Region
  R = region n.memory

  abbrev l : Layout
  l = n.layout

  abbrev rows : List Row
  rows = n.rows

  abbrev free : FreeLists
  free = n.free

  file_at : slice_get rows (place_in rows i) ≡ Some file
  file_at = at_place rows i ∙ at

  directory_at : slice_get rows (place_in rows j) ≡ Some directory
  directory_at = at_place rows j ∙ other_at

  apart : i ≢ j
  apart is = kinds_apart rows (place_in rows i) (place_in rows j) file directory file_at directory_at (spot.file file file_at).1 (spot.directory directory directory_at).1 (ap (place_in rows) is)

  link_by : (left : Region) (held : Store) (mounted : IsMounted R l held rows free.pools) → LeavesEither R l held (Linked R l free cpu file directory name time) left
      → IsAsMounted R l rows free.pools left ⊎ IsAsMade l (linked_in i j name time (tree_of R rows)) (logs_linked_in cpu time i j name R n) left
  link_by left held mounted (inl as_before) = inl (still_mounted mounted as_before)
  link_by left held mounted (inr w) =
      let after = w.1.0 in
      let one = w.1.1 in
      let two = w.1.2 in
      let both = w.1.3 in
      let news = set (set rows (place_in rows i) one) (place_in rows j) two in
      let step : LinksAt R (undone l.sup left) l free after cpu rows news (place_in rows i) (place_in rows j) name time = record { file = both.file; directory = both.directory; step = lifted rows news i j file directory one two apart at other_at refl both.step } in
      inr (record {
        rows = news;
        free = after.pools;
        recovers = recovers_to w.0 (linked_mounted kept runs writes step spelled i j spot held mounted).1;
        tree = linked_tree kept runs writes step spelled i j spot;
        logs = λ node st f h shows sound is other_is. linked_logs kept runs writes step spelled i j spot node st f h shows sound is other_is;
      })

  -- What a stop leaves within the call.
  pub link_left : (S : Region) (old last : Choices)
      → ((held : Store) (f h : Held) → ShowsRow R l held f file free → ShowsRow R l held h directory free → name_at directory.names name ≡ None → NothingPending R old → LeavesOnly S last (LeavesEither R l held (Linked R l free cpu file directory name time)))
      → NothingPending R old → LeavesOnly S last (StopLeaves (region m.memory) m.layout m.rows m.free.pools (linked_in i j name time (tree_of (region m.memory) m.rows)) (logs_linked_in cpu time i j name (region m.memory) m))
  link_left S old last step settled =
      subst (λ (k : Mount P). LeavesOnly S last (StopLeaves (region k.memory) k.layout k.rows k.free.pools (linked_in i j name time (tree_of (region k.memory) k.rows)) (logs_linked_in cpu time i j name (region k.memory) k))) same
      (λ left may. ∥∥₁_map (mounted_of_kept kept runs writes) (λ w.
      let there = stands rows (place_in rows j) directory directory_at in
      let v = shows_row w.1 kept.lists file (stands rows (place_in rows i) file file_at) in
      let u = shows_row w.1 kept.lists directory there in
      link_by left w.0 w.1 (step w.0 v.0 u.0 v.1 u.1 (not_named w.1 directory there name (spot.absent directory directory_at)) settled left may)))
