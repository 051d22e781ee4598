-- For `replace` from one directory to another: what it leaves of the logs, and what recovery finds in a region that a stop within it
-- has left.
use Rattle.std.proofs.Common.{◌≡◌, ◌≢◌, ◌⊎◌, ℕ, true, false, inl, inr, List, ◌∷◌, remove, set, slice_get, refl, ◌∙◌, Some}
use Rattle.nv_region.specs.Region.{Region}
use Rattle.nv_super.specs.Layout.{Layout}
use Rattle.nv_journal.specs.Undo.{undone}
use Rattle.nv_alloc.specs.FreeValue.{FreeLists}
use Rattle.nv_scan.specs.declared.piece.Row.{Row}
use Rattle.nv_rows.specs.Rows.{place_in}
use Rattle.nv_rows.proofs.Places.{at_place}
use Rattle.nv_graph.specs.Read.{row_of}
use Rattle.nv_mounted.specs.Held.{Store}
use Rattle.nv_mounted.specs.Mounted.{IsMounted}
use Rattle.nv_commit.specs.Stopped.{CanRecover, LeavesEither}
use Rattle.nv_tree.specs.Path.{IsPathName}
use Rattle.nv_tree.specs.Replace.{replaced}
use Rattle.nv_paths.specs.ReplaceSpots.{IsReplaceSpot}
use Rattle.nv_paths.specs.Seen.{tree_of}
use Rattle.nv_steps.specs.Across.{LessenedAcross, LessensAcross, TakesAcross, TookAcross}
use Rattle.nv_calls.specs.Mount.{IsKept, Mount}
use Rattle.nv_calls.specs.ReplaceCalls.{ReplacedOver, ReplacesOver, keeps_others}
use Rattle.nv_calls.specs.ReplaceLogs.{LogsHanded}
use Rattle.nv_calls.specs.Stopped.{IsAsMade, IsAsMounted}
use Rattle.nv_calls.proofs.ReplacedAcross.{gone_last, gone_others, gone_some, gone_tree, less_more, less_mounted, less_others, less_tree}
use Rattle.nv_calls.proofs.Stopped.{recovers_to, still_mounted}

module _ {P : Type 0} (region : P → Region) (n : Mount P) (kept : IsKept (region n.memory) n.sup n.layout n.rows n.free n.faults n.read_only n.stopped) (runs : n.stopped ≡ false) (writes : n.read_only ≡ false)
    (i e j k : ℕ) (from to moved there : Row) (at : row_of n.rows i ≡ Some from) (to_at : row_of n.rows e ≡ Some to) (moved_at : row_of n.rows j ≡ Some moved) (there_at : row_of n.rows k ≡ Some there) (places_apart : place_in n.rows i ≢ place_in n.rows e) (name other : List ℕ) (cpu time : ℕ) (spelled : IsPathName name) (spelled_other : IsPathName other)
    (first_old : List ℕ) (old : List (List ℕ)) (first : List ℕ) (rest : List (List ℕ)) (spot : IsReplaceSpot (tree_of (region n.memory) n.rows) n.rows (first_old ∷ old) (first ∷ rest) (place_in n.rows i) name (place_in n.rows j) (place_in n.rows e) other (Some there.inode)) (apart : moved.inode ≢ there.inode) where
  abbrev R : Region
  R = region n.memory

  abbrev l : Layout
  l = n.layout

  abbrev rows : List Row
  rows = n.rows

  abbrev free : FreeLists
  free = n.free

  abbrev names : List (List ℕ)
  names = first_old ∷ old

  abbrev others : List (List ℕ)
  others = first ∷ rest

  from_there : slice_get rows (place_in rows i) ≡ Some from
  from_there = at_place rows i ∙ at

  to_there : slice_get rows (place_in rows e) ≡ Some to
  to_there = at_place rows e ∙ to_at

  moved_there : slice_get rows (place_in rows j) ≡ Some moved
  moved_there = at_place rows j ∙ moved_at

  there_there : slice_get rows (place_in rows k) ≡ Some there
  there_there = at_place rows k ∙ there_at

  -- ---- the logs

  less_logged : {S : Region} {news : List Row} {after : FreeLists} {one one_now two two_now file file_now : Row} (one_at : slice_get rows (place_in rows i) ≡ Some one) (two_at : slice_get rows (place_in rows e) ≡ Some two) (file_at : slice_get rows (place_in rows k) ≡ Some file)
      (step : LessensAcross R S l free after cpu one one_now two two_now file file_now moved.inode name other time) → news ≡ set (set (set rows (place_in rows i) one_now) (place_in rows e) two_now) (place_in rows k) file_now → keeps_others file ≡ true → LogsHanded cpu time others R n names S
  less_logged one_at two_at file_at step put stays = record {
    more = λ a b d c node st h g f takes parted sound is other_is last_is on. less_more kept runs writes (place_in rows k) moved there moved_there there_there spelled spelled_other first_old old first rest spot apart places_apart one_at two_at file_at step put stays a b d c node st h g f takes sound is other_is last_is;
    last = λ a b d c node st h g takes parted sound is other_is off. absurd (less_others kept runs writes (place_in rows k) moved there moved_there there_there spelled spelled_other first_old old first rest spot apart places_apart one_at two_at file_at step put stays a b d c node takes off);
  }

  gone_logged : {S : Region} {news : List Row} {mid : FreeLists} {one one_now two two_now gone : Row} (one_at : slice_get rows (place_in rows i) ≡ Some one) (two_at : slice_get rows (place_in rows e) ≡ Some two) (gone_at : slice_get rows (place_in rows k) ≡ Some gone)
      (step : TakesAcross R S l free mid cpu one one_now two two_now moved.inode gone.inode name other time) → news ≡ remove (set (set rows (place_in rows i) one_now) (place_in rows e) two_now) (place_in rows k) → keeps_others gone ≡ false → LogsHanded cpu time others R n names S
  gone_logged one_at two_at gone_at step put goes = record {
    more = λ a b d c node st h g f takes parted sound is other_is last_is on. absurd (gone_others kept runs writes (place_in rows k) moved there moved_there there_there spelled spelled_other first_old old first rest spot apart places_apart one_at two_at gone_at step put goes a b d c node takes on);
    last = λ a b d c node st h g takes parted sound is other_is off. gone_last kept runs writes (place_in rows k) moved there moved_there there_there spelled spelled_other first_old old first rest spot apart places_apart one_at two_at gone_at step put goes a b d c node st h g takes sound is other_is;
  }

  pub over_logged : {S : Region} {news : List Row} {after : FreeLists} → ReplacesOver R S l free after cpu rows news (place_in rows i) (place_in rows e) (place_in rows k) moved.inode name other time → LogsHanded cpu time others R n names S
  over_logged (inl w) = let step = w.1 in less_logged step.at step.to_at step.file_at step.step step.put (w.0 step.file step.file_at)
  over_logged (inr w) = let step = w.1 in gone_logged step.at step.to_at step.gone_at step.step step.put (w.0 step.gone step.gone_at)

  -- ---- stops

  -- where the file counts a link less
  less_made : (left : Region) (held : Store) (mounted : IsMounted R l held rows free.pools) → CanRecover l.sup left → keeps_others there ≡ true → LessenedAcross R l free cpu from to there moved.inode name other time (undone l.sup left)
      → IsAsMade l (replaced names others time (tree_of R rows)) (LogsHanded cpu time others R n names) left
  less_made left held mounted can on w = record {
    rows = set (set (set rows (place_in rows i) w.1) (place_in rows e) w.2) (place_in rows k) w.3;
    free = (w.0).pools;
    recovers = recovers_to can (less_mounted kept runs writes (place_in rows k) moved there moved_there there_there spelled spelled_other first_old old first rest spot apart places_apart from_there to_there there_there w.4 refl on held mounted).1;
    tree = less_tree kept runs writes (place_in rows k) moved there moved_there there_there spelled spelled_other first_old old first rest spot apart places_apart from_there to_there there_there w.4 refl on;
    logs = less_logged from_there to_there there_there w.4 refl on;
  }

  -- where it goes
  gone_made : (left : Region) (held : Store) (mounted : IsMounted R l held rows free.pools) → CanRecover l.sup left → keeps_others there ≡ false → TookAcross R l free cpu from to moved.inode there.inode name other time (undone l.sup left)
      → IsAsMade l (replaced names others time (tree_of R rows)) (LogsHanded cpu time others R n names) left
  gone_made left held mounted can off w =
      let v = gone_some kept runs writes (place_in rows k) moved there moved_there there_there spelled spelled_other first_old old first rest spot apart places_apart from_there to_there there_there w.3 refl off held mounted in
      record {
        rows = remove (set (set rows (place_in rows i) w.1) (place_in rows e) w.2) (place_in rows k);
        free = v.1;
        recovers = recovers_to can v.2;
        tree = gone_tree kept runs writes (place_in rows k) moved there moved_there there_there spelled spelled_other first_old old first rest spot apart places_apart from_there to_there there_there w.3 refl off;
        logs = gone_logged from_there to_there there_there w.3 refl off;
      }

  pub over_by : (left : Region) (held : Store) (mounted : IsMounted R l held rows free.pools) → LeavesEither R l held (ReplacedOver R l free cpu from to there moved.inode name other time) left
      → IsAsMounted R l rows free.pools left ⊎ IsAsMade l (replaced names others time (tree_of R rows)) (LogsHanded cpu time others R n names) left
  over_by left held mounted (inl as_before) = inl (still_mounted mounted as_before)
  over_by left held mounted (inr w) = inr (by w.1) where
    by : ReplacedOver R l free cpu from to there moved.inode name other time (undone l.sup left) → IsAsMade l (replaced names others time (tree_of R rows)) (LogsHanded cpu time others R n names) left
    by (inl v) = less_made left held mounted w.0 v.0 v.1
    by (inr v) = gone_made left held mounted w.0 v.0 v.1
