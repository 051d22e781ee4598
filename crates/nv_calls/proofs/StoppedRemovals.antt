-- What recovery finds in a region that a stop within `rmdir` or `unlink` has left.
use Rattle.std.proofs.Common.{◌≡◌, ◌≢◌, ◌⊎◌, ℕ, ◌<◌, ◌≤◌, false, inl, inr, List, remove, set, slice_get, refl, ap, sym, ◌∙◌, subst, Some}
use Rattle.nv_super.specs.Layout.{Layout}
use Rattle.std.proofs.Math.Logic.{∥∥₁_map}
use Rattle.std.proofs.lemmas.Option.{same_Some}
use Rattle.nv_region.specs.Region.{Region}
use Rattle.nv_region.specs.Stops.{Choices, LeavesOnly, NothingPending}
use Rattle.nv_super.specs.declared.kind.Kind.TheVariants.{File}
use Rattle.nv_super.proofs.Members.{stands}
use Rattle.nv_journal.specs.Undo.{undone}
use Rattle.nv_alloc.specs.FreeValue.{FreeLists}
use Rattle.nv_scan.specs.declared.piece.Row.{Row}
use Rattle.nv_rows.specs.Rows.{place_in}
use Rattle.nv_rows.proofs.Places.{at_place}
use Rattle.nv_graph.specs.Read.{row_of}
use Rattle.nv_mounted.specs.Held.{Held, Store}
use Rattle.nv_mounted.specs.Mounted.{IsMounted}
use Rattle.nv_commit.specs.Stopped.{CanRecover, LeavesEither}
use Rattle.nv_tree.specs.Path.{IsPathName}
use Rattle.nv_tree.specs.Tree.{SameTree, Tree}
use Rattle.nv_paths.specs.Directories.{IsNamedIn}
use Rattle.nv_paths.specs.Seen.{tree_of}
use Rattle.nv_steps.specs.Steps.{ShowsRow}
use Rattle.nv_steps.specs.Stopped.{Cut, Unlinked}
use Rattle.nv_steps.specs.Unlinks.{UnlinksAt}
use Rattle.nv_steps.proofs.RowOf.{row_at}
use Rattle.nv_calls.specs.AtPlaces.{CanGo, CutsAt, ReleasesAt}
use Rattle.nv_calls.specs.NamesByNumber.{LogsUnlinkedIn, logs_removed_in, removed_in, unlinked_in}
use Rattle.nv_calls.specs.Mount.{IsKept, Mount}
use Rattle.nv_calls.specs.Stopped.{IsAsMade, IsAsMounted, Released, StopLeaves}
use Rattle.nv_calls.proofs.Kept.{rows_rise}
use Rattle.nv_calls.proofs.LinkedHeld.{kinds_apart}
use Rattle.nv_calls.proofs.LinkedTree.{links_told}
use Rattle.nv_calls.proofs.Mounts.{mounted_of_kept}
use Rattle.nv_calls.proofs.OneRow.{shows_row}
use Rattle.nv_calls.proofs.RemoveCall.{removed_log, removed_mounted, tree_is}
use Rattle.nv_calls.proofs.RemovedTree.{removed_there, removed_tree}
use Rattle.nv_calls.proofs.Stopped.{recovers_to, still_mounted}
use Rattle.nv_calls.proofs.TwoRows.{lifted}
use Rattle.nv_calls.proofs.UnlinkCall.{more_mounted, more_tree, unlink_last, unlink_logs}
use Rattle.nv_calls.proofs.UnlinkedTree.{last_unlinked}

module _ {P : Type 0} (region : P → Region) {n m : Mount P} (same : n ≡ m) (kept : IsKept (region n.memory) n.sup n.layout n.rows n.free n.faults n.read_only n.stopped) (runs : n.stopped ≡ false) (writes : n.read_only ≡ false)
    (i j : ℕ) (row gone : Row) (at : row_of n.rows i ≡ Some row) (gone_at : row_of n.rows j ≡ Some gone) (name : List ℕ) (cpu time : ℕ) (spelled : IsPathName name) (spot : IsNamedIn (tree_of (region n.memory) n.rows) n.rows i (place_in n.rows i) name (place_in n.rows j)) where
  abbrev R : Region
  R = region n.memory

  abbrev l : Layout
  l = n.layout

  abbrev rows : List Row
  rows = n.rows

  abbrev free : FreeLists
  free = n.free

  row_there : slice_get rows (place_in rows i) ≡ Some row
  row_there = at_place rows i ∙ at

  gone_there : slice_get rows (place_in rows j) ≡ Some gone
  gone_there = at_place rows j ∙ gone_at

  -- where the inode goes with the name
  cut_there : (can_go : CanGo gone) (made : Tree) (Logged : Region → Type 0) → ((u : Tree) → SameTree u (removed_tree R rows row gone.inode time name) → SameTree u made)
      → ((S : Region) (mid : FreeLists) (news : List Row) → CutsAt R S l free mid cpu rows news (place_in rows i) (place_in rows j) name time → Logged S)
      → (left : Region) (held : Store) (mounted : IsMounted R l held rows free.pools) → CanRecover l.sup left → Cut R l free cpu row gone.inode time name (undone l.sup left) → IsAsMade l made Logged left
  cut_there can_go made Logged is_made logged left held mounted can w =
      let news = remove (set rows (place_in rows i) w.1) (place_in rows j) in
      let step : CutsAt R (undone l.sup left) l free w.0 cpu rows news (place_in rows i) (place_in rows j) name time = record { row = row; gone = gone; now = w.1; at = row_there; gone_at = gone_there; step = w.2; put = refl } in
      let v = removed_mounted kept runs writes step spelled can_go i spot held mounted in
      record {
        rows = news;
        free = v.1;
        recovers = recovers_to can v.2;
        tree = is_made (tree_of (undone l.sup left) news) (tree_is kept runs writes step spelled can_go i spot);
        logs = logged (undone l.sup left) w.0 news step;
      }

  -- `rmdir`
  module _ (can_go : CanGo gone) where
    is_removed : (u : Tree) → SameTree u (removed_tree R rows row gone.inode time name) → SameTree u (removed_in i name time (tree_of R rows))
    is_removed u is = subst (λ (t : Tree). SameTree u t) (sym (removed_there i name time (tree_of R rows) gone.inode row.inode (spot.leads gone gone_there) (spot.directory row row_there).0)) is

    rmdir_by : (left : Region) (held : Store) (mounted : IsMounted R l held rows free.pools) → LeavesEither R l held (Cut R l free cpu row gone.inode time name) left
        → IsAsMounted R l rows free.pools left ⊎ IsAsMade l (removed_in i name time (tree_of R rows)) (logs_removed_in cpu time i name R n) left
    rmdir_by left held mounted (inl as_before) = inl (still_mounted mounted as_before)
    rmdir_by left held mounted (inr w) = inr (cut_there can_go (removed_in i name time (tree_of R rows)) (logs_removed_in cpu time i name R n) is_removed
        (λ S mid news step k node st h led sound is. removed_log kept runs writes step spelled (at_gone step) i spot k node st h led sound is) left held mounted w.0 w.1)
      where
        at_gone : {S : Region} {mid : FreeLists} {news : List Row} (step : CutsAt R S l free mid cpu rows news (place_in rows i) (place_in rows j) name time) → CanGo step.gone
        at_gone step = subst CanGo (same_Some _ _ (sym gone_there ∙ step.gone_at)) can_go

    -- What a stop leaves within the call.
    pub rmdir_left : (S : Region) (old last : Choices)
        → ((held : Store) (h : Held) → ShowsRow R l held h row free → NothingPending R old → LeavesOnly S last (LeavesEither R l held (Cut R l free cpu row gone.inode time name)))
        → NothingPending R old → LeavesOnly S last (StopLeaves (region m.memory) m.layout m.rows m.free.pools (removed_in i name time (tree_of (region m.memory) m.rows)) (logs_removed_in cpu time i name (region m.memory) m))
    rmdir_left S old last step settled =
        subst (λ (k : Mount P). LeavesOnly S last (StopLeaves (region k.memory) k.layout k.rows k.free.pools (removed_in i name time (tree_of (region k.memory) k.rows)) (logs_removed_in cpu time i name (region k.memory) k))) same
        (λ left may. ∥∥₁_map (mounted_of_kept kept runs writes) (λ w.
        let v = shows_row w.1 kept.lists row (stands rows (place_in rows i) row row_there) in
        rmdir_by left w.0 w.1 (step w.0 v.0 v.1 settled left may)))

  -- `unlink`
  module _ (is_file : gone.kind ≡ File) where
    apart : i ≢ j
    apart is = kinds_apart rows (place_in rows j) (place_in rows i) gone row gone_there row_there is_file (spot.directory row row_there).1 (ap (place_in rows) (sym is))

    is_last : gone.numbers.links ≤ 1 → (u : Tree) → SameTree u (removed_tree R rows row gone.inode time name) → SameTree u (unlinked_in i name time (tree_of R rows))
    is_last few u is =
        let count = links_told R rows gone (row_at rows (place_in rows j) gone (rows_rise R n.sup l rows free n.faults n.read_only n.stopped kept runs) gone_there) in
        subst (λ (t : Tree). SameTree u t) (sym (last_unlinked i name time (tree_of R rows) gone.inode row.inode (spot.leads gone gone_there) (spot.directory row row_there).0 gone.numbers.links count few)) is

    -- the file is the one that the step has
    files : (f : Row) → slice_get rows (place_in rows j) ≡ Some f → f.kind ≡ File
    files f there = subst (λ (r : Row). r.kind ≡ File) (same_Some _ _ (sym gone_there ∙ there)) is_file

    -- the logs, by a step at the places
    logged : (S : Region) (news : List Row) → ReleasesAt R S l free cpu rows news (place_in rows i) (place_in rows j) name time → LogsUnlinkedIn cpu time i name R n S
    logged S news step = record {
      more = λ k node st h f led sound is other_is some. unlink_logs kept runs writes step spelled files i spot k node st h f led sound is other_is some;
      last = λ k node st h led sound is few. unlink_last kept runs writes step spelled files i spot k node st h led sound is few;
    }

    more_there : (left : Region) (held : Store) (mounted : IsMounted R l held rows free.pools) → CanRecover l.sup left → 1 < gone.numbers.links → Unlinked R l free cpu row gone name time (undone l.sup left)
        → IsAsMade l (unlinked_in i name time (tree_of R rows)) (LogsUnlinkedIn cpu time i name R n) left
    more_there left held mounted can some w =
        let both = w.3 in
        let pair = both.step in
        let file_is : gone ≡ both.file = same_Some _ _ pair.other_at in
        let news = set (set rows (place_in rows i) w.1) (place_in rows j) w.2 in
        let step : UnlinksAt R (undone l.sup left) l free w.0 cpu rows news (place_in rows i) (place_in rows j) name time = record { directory = both.directory; file = both.file; step = lifted rows news i j row gone w.1 w.2 apart at gone_at refl both.step } in
        let of_kind : step.file.kind ≡ File = ap (λ (r : Row). r.kind) (sym file_is) ∙ is_file in
        let more : 1 < step.file.numbers.links = subst (λ (r : Row). 1 < r.numbers.links) file_is some in
        record {
          rows = news;
          free = (w.0).pools;
          recovers = recovers_to can (more_mounted kept runs writes step spelled of_kind more i spot held mounted).1;
          tree = more_tree kept runs writes step spelled of_kind more i spot;
          logs = logged (undone l.sup left) news (inl (λ f there. subst (λ (r : Row). 1 < r.numbers.links) (same_Some _ _ (sym gone_there ∙ there)) some, (w.0, step)));
        }

    released_by : (left : Region) (held : Store) (mounted : IsMounted R l held rows free.pools) → CanRecover l.sup left → Released R l free cpu row gone name time (undone l.sup left)
        → IsAsMade l (unlinked_in i name time (tree_of R rows)) (LogsUnlinkedIn cpu time i name R n) left
    released_by left held mounted can (inl w) = more_there left held mounted can w.0 w.1
    released_by left held mounted can (inr w) = cut_there (inr (is_file, w.0)) (unlinked_in i name time (tree_of R rows)) (LogsUnlinkedIn cpu time i name R n) (is_last w.0)
        (λ S mid news step. logged S news (inr (λ f there. subst (λ (r : Row). r.numbers.links ≤ 1) (same_Some _ _ (sym gone_there ∙ there)) w.0, (mid, step)))) left held mounted can w.1

    unlink_by : (left : Region) (held : Store) (mounted : IsMounted R l held rows free.pools) → LeavesEither R l held (Released R l free cpu row gone name time) left
        → IsAsMounted R l rows free.pools left ⊎ IsAsMade l (unlinked_in i name time (tree_of R rows)) (LogsUnlinkedIn cpu time i name R n) left
    unlink_by left held mounted (inl as_before) = inl (still_mounted mounted as_before)
    unlink_by left held mounted (inr w) = inr (released_by left held mounted w.0 w.1)

    -- What a stop leaves within the call.
    pub unlink_left : (S : Region) (old last : Choices)
        → ((held : Store) (h f : Held) → ShowsRow R l held h row free → ShowsRow R l held f gone free → NothingPending R old → LeavesOnly S last (LeavesEither R l held (Released R l free cpu row gone name time)))
        → NothingPending R old → LeavesOnly S last (StopLeaves (region m.memory) m.layout m.rows m.free.pools (unlinked_in i name time (tree_of (region m.memory) m.rows)) (LogsUnlinkedIn cpu time i name (region m.memory) m))
    unlink_left S old last step settled =
        subst (λ (k : Mount P). LeavesOnly S last (StopLeaves (region k.memory) k.layout k.rows k.free.pools (unlinked_in i name time (tree_of (region k.memory) k.rows)) (LogsUnlinkedIn cpu time i name (region k.memory) k))) same
        (λ left may. ∥∥₁_map (mounted_of_kept kept runs writes) (λ w.
        let v = shows_row w.1 kept.lists row (stands rows (place_in rows i) row row_there) in
        let u = shows_row w.1 kept.lists gone (stands rows (place_in rows j) gone gone_there) in
        unlink_by left w.0 w.1 (step w.0 v.0 u.0 v.1 u.1 settled left may)))
