-- What recovery finds in a region that a stop within `rename` has left.
use Rattle.std.proofs.Common.{◌≡◌, ◌⊎◌, ℕ, false, inl, inr, List, ◌∷◌, set, slice_get, refl, ap, ◌∙◌, subst, Some, None}
use Rattle.nv_super.specs.Layout.{Layout}
use Rattle.std.proofs.Math.Logic.{∥∥₁_map}
use Rattle.nv_region.specs.Region.{Region}
use Rattle.nv_region.specs.Stops.{Choices, LeavesOnly, NothingPending}
use Rattle.nv_super.proofs.Members.{stands}
use Rattle.nv_journal.specs.Undo.{undone}
use Rattle.nv_alloc.specs.FreeValue.{FreeLists}
use Rattle.nv_names.specs.Names.{name_at}
use Rattle.nv_scan.specs.declared.piece.Row.{Row}
use Rattle.nv_rows.specs.Rows.{place_in}
use Rattle.nv_rows.proofs.Places.{at_place}
use Rattle.nv_graph.specs.Read.{row_of}
use Rattle.nv_mounted.specs.Held.{Held, Store}
use Rattle.nv_mounted.specs.Mounted.{IsMounted}
use Rattle.nv_commit.specs.Stopped.{LeavesEither}
use Rattle.nv_tree.specs.Path.{IsPathName}
use Rattle.nv_tree.specs.Calls.{renamed}
use Rattle.nv_paths.specs.MoveSpots.{IsMoveSpot}
use Rattle.nv_paths.specs.Seen.{tree_of}
use Rattle.nv_steps.specs.Steps.{ShowsRow}
use Rattle.nv_steps.specs.Stopped.{MovedHere, MovedOver}
use Rattle.nv_calls.specs.Mount.{IsKept, Mount}
use Rattle.nv_calls.specs.MoveCalls.{MovesAt}
use Rattle.nv_calls.specs.Effects.{LogsMove, logs_rename, makes_rename}
use Rattle.nv_calls.specs.Stopped.{IsAsMade, IsAsMounted, LeavesCall, Renamed}
use Rattle.nv_calls.proofs.CreatedRows.{not_named}
use Rattle.nv_calls.proofs.MoveCall.{moved_log, moved_logs, moved_mounted, moved_tree}
use Rattle.nv_calls.proofs.Mounts.{mounted_of_kept}
use Rattle.nv_calls.proofs.OneRow.{shows_row}
use Rattle.nv_calls.proofs.Stopped.{recovers_to, still_mounted}
use Rattle.nv_calls.proofs.TwoRows.{lifted}

-- the same by another's words for it
pub over_as : {R : Region} {l : Layout} {free : FreeLists} {cpu : ℕ} {held : Store} (from to : Row) {i j : ℕ} {n name o other : List ℕ} {t time : ℕ} (S : Region) (choices : Choices) → i ≡ j → n ≡ name → o ≡ other → t ≡ time
    → LeavesOnly S choices (LeavesEither R l held (MovedOver R l free cpu from to i n o t)) → LeavesOnly S choices (LeavesEither R l held (MovedOver R l free cpu from to j name other time))
over_as {R} {l} {free} {cpu} {held} from to {i} {j} {n} {name} {o} {other} {t} {time} S choices number name_is other_is time_is =
    let same : (i, n, o, t) ≡ (j, name, other, time) = λ k. (number k, name_is k, other_is k, time_is k) in
    subst (λ (w : ℕ × List ℕ × List ℕ × ℕ). LeavesOnly S choices (LeavesEither R l held (MovedOver R l free cpu from to w.0 w.1 w.2 w.3))) same

pub here_as : {R : Region} {l : Layout} {free : FreeLists} {cpu : ℕ} {held : Store} {a row : Row} {i j : ℕ} {n name o other : List ℕ} {t time : ℕ} (S : Region) (choices : Choices) → a ≡ row → i ≡ j → n ≡ name → o ≡ other → t ≡ time
    → LeavesOnly S choices (LeavesEither R l held (MovedHere R l free cpu a i n o t)) → LeavesOnly S choices (LeavesEither R l held (MovedHere R l free cpu row j name other time))
here_as {R} {l} {free} {cpu} {held} {a} {row} {i} {j} {n} {name} {o} {other} {t} {time} S choices row_is number name_is other_is time_is =
    let same : (a, i, n, o, t) ≡ (row, j, name, other, time) = λ k. (row_is k, number k, name_is k, other_is k, time_is k) in
    subst (λ (w : Row × ℕ × List ℕ × List ℕ × ℕ). LeavesOnly S choices (LeavesEither R l held (MovedHere R l free cpu w.0 w.1 w.2 w.3 w.4))) same

module _ {P : Type 0} (region : P → Region) {n m : Mount P} (same : n ≡ m) (kept : IsKept (region n.memory) n.sup n.layout n.rows n.free n.faults n.read_only n.stopped) (runs : n.stopped ≡ false) (writes : n.read_only ≡ false)
    (i j e : ℕ) (from moved to : Row) (at : row_of n.rows i ≡ Some from) (moved_at : row_of n.rows j ≡ Some moved) (other_at : row_of n.rows e ≡ Some to) (name other : List ℕ) (cpu time : ℕ) (spelled : IsPathName name) (spelled_other : IsPathName other)
    (names : List (List ℕ)) (first : List ℕ) (rest : List (List ℕ)) (spot : IsMoveSpot (tree_of (region n.memory) n.rows) n.rows names (first ∷ rest) (place_in n.rows i) name (place_in n.rows j) (place_in n.rows e) other) where
  abbrev R : Region
  R = region n.memory

  abbrev l : Layout
  l = n.layout

  abbrev rows : List Row
  rows = n.rows

  abbrev free : FreeLists
  free = n.free

  from_there : slice_get rows (place_in rows i) ≡ Some from
  from_there = at_place rows i ∙ at

  to_there : slice_get rows (place_in rows e) ≡ Some to
  to_there = at_place rows e ∙ other_at

  moved_there : slice_get rows (place_in rows j) ≡ Some moved
  moved_there = at_place rows j ∙ moved_at

  moves : (S : Region) → Renamed R l free cpu (place_in rows i) (place_in rows e) from to moved.inode name other time S → (news : List Row) × (after : FreeLists) × MovesAt R S l free after cpu rows news (place_in rows i) (place_in rows j) (place_in rows e) name other time
  moves S (inl w) = (set rows (place_in rows i) w.1.1, w.1.0, inl (w.0, record { row = from; now = w.1.1; moved = moved; at = from_there; moved_at = moved_there; step = w.1.2; put = refl }))
  moves S (inr w) =
      let news = set (set rows (place_in rows i) w.1.1) (place_in rows e) w.1.2 in
      (news, w.1.0, inr (w.0, record { from = from; to = to; moved = moved; moved_at = moved_there; step = lifted rows news i e from to w.1.1 w.1.2 (λ is. w.0 (ap (place_in rows) is)) at other_at refl w.1.3 }))

  pub rename_by : (left : Region) (held : Store) (mounted : IsMounted R l held rows free.pools) → LeavesEither R l held (Renamed R l free cpu (place_in rows i) (place_in rows e) from to moved.inode name other time) left
      → IsAsMounted R l rows free.pools left ⊎ IsAsMade l (renamed names (first ∷ rest) time (tree_of R rows)) (LogsMove cpu time (first ∷ rest) R n names) left
  rename_by left held mounted (inl as_before) = inl (still_mounted mounted as_before)
  rename_by left held mounted (inr w) =
      let v = moves (undone l.sup left) w.1 in
      inr (record {
        rows = v.0;
        free = (v.1).pools;
        recovers = recovers_to w.0 (moved_mounted kept runs writes spelled spelled_other names first rest spot v.2 held mounted).1;
        tree = moved_tree kept runs writes spelled spelled_other names first rest spot v.2;
        logs = record {
          across = λ k d f node st h g led walked ended differ sound is other_is. moved_logs kept runs writes spelled spelled_other names first rest spot v.2 k d f node st h g led walked ended differ sound is other_is;
          within = λ k d node st h led walked ended sound is. moved_log kept runs writes spelled spelled_other names first rest spot v.2 k d node st h led walked ended sound is;
        };
      })

  -- What a stop leaves within the call.
  pub rename_left : (S : Region) (old last : Choices)
      → ((held : Store) (h k : Held) → ShowsRow R l held h from free → ShowsRow R l held k to free → name_at to.names other ≡ None → NothingPending R old
      → LeavesOnly S last (LeavesEither R l held (Renamed R l free cpu (place_in rows i) (place_in rows e) from to moved.inode name other time)))
      → NothingPending R old → LeavesOnly S last (LeavesCall (makes_rename time (Some (first ∷ rest))) (logs_rename cpu time (Some (first ∷ rest))) (region m.memory) m names)
  rename_left S old last step settled =
      subst (λ (k : Mount P). LeavesOnly S last (LeavesCall (makes_rename time (Some (first ∷ rest))) (logs_rename cpu time (Some (first ∷ rest))) (region k.memory) k names)) same
      (λ left may. ∥∥₁_map (mounted_of_kept kept runs writes) (λ w.
      let there = stands rows (place_in rows e) to to_there in
      let v = shows_row w.1 kept.lists from (stands rows (place_in rows i) from from_there) in
      let u = shows_row w.1 kept.lists to there in
      let free_name = spot.spot in
      rename_by left w.0 w.1 (step w.0 v.0 u.0 v.1 u.1 (not_named w.1 to there other (free_name.absent to to_there)) settled left may)))
