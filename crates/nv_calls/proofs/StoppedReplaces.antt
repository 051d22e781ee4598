-- For `replace` within one directory: what it leaves of the logs, and what recovery finds in a region that a stop within it has
-- left.
use Rattle.std.proofs.Common.{◌≡◌, ◌≢◌, ◌⊎◌, ℕ, true, false, inl, inr, List, ◌∷◌, remove, set, slice_get, refl, ap, sym, ◌∙◌, Some}
use Rattle.std.proofs.lemmas.Option.{same_Some}
use Rattle.nv_region.specs.Region.{Region}
use Rattle.nv_super.specs.Layout.{Layout}
use Rattle.nv_journal.specs.Undo.{undone}
use Rattle.nv_alloc.specs.FreeValue.{FreeLists}
use Rattle.nv_scan.specs.declared.piece.Row.{Row}
use Rattle.nv_rows.specs.Rows.{place_in}
use Rattle.nv_rows.proofs.Places.{at_place}
use Rattle.nv_graph.specs.Read.{row_of}
use Rattle.nv_mounted.specs.Held.{Store}
use Rattle.nv_mounted.specs.Mounted.{IsMounted}
use Rattle.nv_commit.specs.Stopped.{CanRecover, LeavesEither}
use Rattle.nv_tree.specs.Path.{IsPathName}
use Rattle.nv_tree.specs.Replace.{replaced}
use Rattle.nv_paths.specs.ReplaceSpots.{IsReplaceSpot}
use Rattle.nv_paths.specs.Seen.{tree_of}
use Rattle.nv_steps.specs.Lessens.{Lessened, LessensAt}
use Rattle.nv_steps.specs.Takes.{TakesWithin, TookWithin}
use Rattle.nv_calls.specs.Mount.{IsKept, Mount}
use Rattle.nv_calls.specs.ReplaceCalls.{ReplacedHere, ReplacesHere, keeps_others}
use Rattle.nv_calls.specs.ReplaceLogs.{LogsTaken}
use Rattle.nv_calls.specs.Stopped.{IsAsMade, IsAsMounted}
use Rattle.nv_calls.proofs.ReplacedWithin.{gone_last, gone_others, gone_some, gone_tree, less_more, less_mounted, less_others, less_tree}
use Rattle.nv_calls.proofs.Stopped.{recovers_to, still_mounted}
use Rattle.nv_calls.proofs.TwoRows.{lifted}

module _ {P : Type 0} (region : P → Region) (n : Mount P) (kept : IsKept (region n.memory) n.sup n.layout n.rows n.free n.faults n.read_only n.stopped) (runs : n.stopped ≡ false) (writes : n.read_only ≡ false)
    (i j k : ℕ) (row moved there : Row) (at : row_of n.rows i ≡ Some row) (moved_at : row_of n.rows j ≡ Some moved) (there_at : row_of n.rows k ≡ Some there) (differ : i ≢ k) (name other : List ℕ) (cpu time : ℕ) (spelled : IsPathName name) (spelled_other : IsPathName other)
    (first_old : List ℕ) (old : List (List ℕ)) (first : List ℕ) (rest : List (List ℕ)) (spot : IsReplaceSpot (tree_of (region n.memory) n.rows) n.rows (first_old ∷ old) (first ∷ rest) (place_in n.rows i) name (place_in n.rows j) (place_in n.rows i) other (Some there.inode)) (apart : moved.inode ≢ there.inode) where
  abbrev R : Region
  R = region n.memory

  abbrev l : Layout
  l = n.layout

  abbrev rows : List Row
  rows = n.rows

  abbrev free : FreeLists
  free = n.free

  abbrev names : List (List ℕ)
  names = first_old ∷ old

  abbrev others : List (List ℕ)
  others = first ∷ rest

  row_at : slice_get rows (place_in rows i) ≡ Some row
  row_at = at_place rows i ∙ at

  moved_there : slice_get rows (place_in rows j) ≡ Some moved
  moved_there = at_place rows j ∙ moved_at

  there_there : slice_get rows (place_in rows k) ≡ Some there
  there_there = at_place rows k ∙ there_at

  -- ---- the logs

  less_logged : {S : Region} {news : List Row} {after : FreeLists} (step : LessensAt R S l free after cpu rows news (place_in rows i) (place_in rows k) moved.inode name other time) → keeps_others step.file ≡ true → LogsTaken cpu time others R n names S
  less_logged step stays = record {
    more = λ a b d node st h f takes sound is other_is on. less_more kept runs writes (place_in rows k) moved there moved_there there_there spelled spelled_other first_old old first rest spot apart step stays a b d node st h f takes sound is other_is;
    last = λ a b d node st h takes sound is off. absurd (less_others kept runs writes (place_in rows k) moved there moved_there there_there spelled spelled_other first_old old first rest spot apart step stays a b d node takes off);
  }

  gone_logged : {S : Region} {news : List Row} {mid : FreeLists} {old_row new_row gone : Row} (old_at : slice_get rows (place_in rows i) ≡ Some old_row) (gone_at : slice_get rows (place_in rows k) ≡ Some gone) (step : TakesWithin R S l free mid cpu old_row new_row moved.inode gone.inode name other time)
      → news ≡ remove (set rows (place_in rows i) new_row) (place_in rows k) → keeps_others gone ≡ false → LogsTaken cpu time others R n names S
  gone_logged old_at gone_at step put goes = record {
    more = λ a b d node st h f takes sound is other_is on. absurd (gone_others kept runs writes (place_in rows k) moved there moved_there there_there spelled spelled_other first_old old first rest spot apart old_at gone_at step put goes a b d node takes on);
    last = λ a b d node st h takes sound is off. gone_last kept runs writes (place_in rows k) moved there moved_there there_there spelled spelled_other first_old old first rest spot apart old_at gone_at step put goes a b d node st h takes sound is;
  }

  pub here_logged : {S : Region} {news : List Row} {after : FreeLists} → ReplacesHere R S l free after cpu rows news (place_in rows i) (place_in rows k) moved.inode name other time → LogsTaken cpu time others R n names S
  here_logged (inl w) = let step = w.1 in let both = step.step in less_logged step (w.0 step.file both.other_at)
  here_logged (inr w) = let step = w.1 in gone_logged step.at step.gone_at step.step step.put (w.0 step.gone step.gone_at)

  -- ---- stops

  -- where the file counts a link less
  less_made : (left : Region) (held : Store) (mounted : IsMounted R l held rows free.pools) → CanRecover l.sup left → keeps_others there ≡ true → Lessened R l free cpu row there moved.inode name other time (undone l.sup left)
      → IsAsMade l (replaced names others time (tree_of R rows)) (LogsTaken cpu time others R n names) left
  less_made left held mounted can on w =
      let both = w.3 in
      let pair = both.step in
      let file_is : there ≡ both.file = same_Some _ _ pair.other_at in
      let news = set (set rows (place_in rows i) w.1) (place_in rows k) w.2 in
      let step : LessensAt R (undone l.sup left) l free w.0 cpu rows news (place_in rows i) (place_in rows k) moved.inode name other time = record { directory = both.directory; file = both.file; step = lifted rows news i k row there w.1 w.2 differ at there_at refl both.step } in
      let stays : keeps_others step.file ≡ true = ap keeps_others (sym file_is) ∙ on in
      record {
        rows = news;
        free = (w.0).pools;
        recovers = recovers_to can (less_mounted kept runs writes (place_in rows k) moved there moved_there there_there spelled spelled_other first_old old first rest spot apart step stays held mounted).1;
        tree = less_tree kept runs writes (place_in rows k) moved there moved_there there_there spelled spelled_other first_old old first rest spot apart step stays;
        logs = less_logged step stays;
      }

  -- where it goes
  gone_made : (left : Region) (held : Store) (mounted : IsMounted R l held rows free.pools) → CanRecover l.sup left → keeps_others there ≡ false → TookWithin R l free cpu row moved.inode there.inode name other time (undone l.sup left)
      → IsAsMade l (replaced names others time (tree_of R rows)) (LogsTaken cpu time others R n names) left
  gone_made left held mounted can off w =
      let v = gone_some kept runs writes (place_in rows k) moved there moved_there there_there spelled spelled_other first_old old first rest spot apart row_at there_there w.2 refl off held mounted in
      record {
        rows = remove (set rows (place_in rows i) w.1) (place_in rows k);
        free = v.1;
        recovers = recovers_to can v.2;
        tree = gone_tree kept runs writes (place_in rows k) moved there moved_there there_there spelled spelled_other first_old old first rest spot apart row_at there_there w.2 refl off;
        logs = gone_logged row_at there_there w.2 refl off;
      }

  pub here_by : (left : Region) (held : Store) (mounted : IsMounted R l held rows free.pools) → LeavesEither R l held (ReplacedHere R l free cpu row there moved.inode name other time) left
      → IsAsMounted R l rows free.pools left ⊎ IsAsMade l (replaced names others time (tree_of R rows)) (LogsTaken cpu time others R n names) left
  here_by left held mounted (inl as_before) = inl (still_mounted mounted as_before)
  here_by left held mounted (inr w) = inr (by w.1) where
    by : ReplacedHere R l free cpu row there moved.inode name other time (undone l.sup left) → IsAsMade l (replaced names others time (tree_of R rows)) (LogsTaken cpu time others R n names) left
    by (inl v) = less_made left held mounted w.0 v.0 v.1
    by (inr v) = gone_made left held mounted w.0 v.0 v.1
