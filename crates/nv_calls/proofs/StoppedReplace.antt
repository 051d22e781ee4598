-- What `replace` leaves of the logs, and what recovery finds in a region that a stop within it has left.
use Rattle.std.proofs.Common.{◌≡◌, ◌≢◌, ◌⊎◌, ℕ, false, inl, inr, List, ◌∷◌, slice_get, refl, ap, sym, ◌∙◌, subst, Option, Some, None, Result, Ok}
use Rattle.std.specs.Option.{option_and_then}
use Rattle.std.proofs.Math.Logic.{∥∥₁_map}
use Rattle.std.proofs.lemmas.Option.{same_Some}
use Rattle.nv_region.specs.Region.{Region}
use Rattle.nv_region.specs.Stops.{Choices, LeavesOnly}
use Rattle.nv_super.specs.Layout.{Layout}
use Rattle.nv_super.specs.Order.{Rises}
use Rattle.nv_super.proofs.Members.{stands}
use Rattle.nv_journal.specs.Undo.{undone}
use Rattle.nv_alloc.specs.FreeValue.{FreeLists}
use Rattle.nv_names.specs.Names.{name_at}
use Rattle.nv_scan.specs.declared.piece.Row.{Row}
use Rattle.nv_rows.specs.Rows.{place_in}
use Rattle.nv_rows.proofs.Places.{at_place, numbered}
use Rattle.nv_cross_check.specs.Cross.{row_key}
use Rattle.nv_graph.specs.Read.{row_of}
use Rattle.nv_mounted.specs.Held.{Held, Store}
use Rattle.nv_mounted.specs.Mounted.{IsMounted}
use Rattle.nv_commit.specs.Stopped.{LeavesEither}
use Rattle.nv_tree.specs.declared.refusal.Refusal.{Refusal}
use Rattle.nv_tree.specs.Path.{IsPathName}
use Rattle.nv_tree.specs.Tree.{Node, SameTree, Tree, found, walk}
use Rattle.nv_tree.specs.Replace.{replaced}
use Rattle.nv_tree.proofs.Replaced.{replaced_unused}
use Rattle.nv_paths.specs.MoveSpots.{IsMoveSpot}
use Rattle.nv_paths.specs.ReplaceSpots.{IsReplaceSpot}
use Rattle.nv_paths.specs.Seen.{tree_of}
use Rattle.nv_steps.specs.Steps.{ShowsRow}
use Rattle.nv_calls.specs.Effects.{LogsMove, LogsReplace, logs_replace, makes_replace}
use Rattle.nv_calls.specs.Mount.{IsKept, Mount}
use Rattle.nv_calls.specs.MoveCalls.{MovesAt}
use Rattle.nv_calls.specs.ReplaceCalls.{ReplacedAt, ReplacedHere, ReplacedOver, ReplacesAt, ReplacesHere, ReplacesOver}
use Rattle.nv_calls.specs.ReplaceLogs.{LogsHanded, LogsTaken, TakesPlace}
use Rattle.nv_calls.specs.Stopped.{IsAsMade, IsAsMounted, LeavesCall, Renamed}
use Rattle.nv_calls.proofs.CreatedRows.{not_named}
use Rattle.nv_calls.proofs.Kept.{rows_rise}
use Rattle.nv_calls.proofs.MoveCall.{moved_log, moved_logs, places_numbers}
use Rattle.nv_calls.proofs.Mounts.{mounted_of_kept}
use Rattle.nv_calls.proofs.OneRow.{shows_row}
use Rattle.nv_calls.proofs.ReplacedSpot.{from_differs}
use Rattle.nv_calls.proofs.Stopped.{still_mounted}
use Rattle.nv_calls.proofs.StoppedHanding.{over_by, over_logged}
use Rattle.nv_calls.proofs.StoppedMoves.{rename_by}
use Rattle.nv_calls.proofs.StoppedReplaces.{here_by, here_logged}

-- what was made with these logs was made with what follows of them
with_logs : (R : Region) {l : Layout} {rows : List Row} (free : FreeLists) {made then : Tree} {A B : Region → Type 0} {left : Region} → ((S : Region) → A S → B S) → made ≡ then → IsAsMounted R l rows free.pools left ⊎ IsAsMade l made A left → IsAsMounted R l rows free.pools left ⊎ IsAsMade l then B left
with_logs R free follows same (inl was) = inl was
with_logs R {l} free {left = left} follows same (inr is) = inr (record {
  rows = is.rows;
  free = is.free;
  recovers = is.recovers;
  tree = subst (λ (u : Tree). SameTree (tree_of (undone l.sup left) is.rows) u) same is.tree;
  logs = follows (undone l.sup left) is.logs;
})

one_end : {a b : ℕ} {r : Result ℕ Refusal} → r ≡ Ok a → r ≡ Ok b → a ≡ b
one_end {a} {b} e f = let both : Ok a ≡ Ok b = sym e ∙ f in cc

module _ {P : Type 0} (region : P → Region) {n m : Mount P} (same : n ≡ m) (kept : IsKept (region n.memory) n.sup n.layout n.rows n.free n.faults n.read_only n.stopped) (runs : n.stopped ≡ false) (writes : n.read_only ≡ false)
    (i j e : ℕ) (from moved to : Row) (at : row_of n.rows i ≡ Some from) (moved_at : row_of n.rows j ≡ Some moved) (to_at : row_of n.rows e ≡ Some to) (there : Option ℕ) (name other : List ℕ) (cpu time : ℕ) (spelled : IsPathName name) (spelled_other : IsPathName other)
    (first_old : List ℕ) (old : List (List ℕ)) (first : List ℕ) (rest : List (List ℕ)) (spot : IsReplaceSpot (tree_of (region n.memory) n.rows) n.rows (first_old ∷ old) (first ∷ rest) (place_in n.rows i) name (place_in n.rows j) (place_in n.rows e) other there) where
  abbrev R : Region
  R = region n.memory

  abbrev l : Layout
  l = n.layout

  abbrev rows : List Row
  rows = n.rows

  abbrev free : FreeLists
  free = n.free

  abbrev t : Tree
  t = tree_of R rows

  abbrev names : List (List ℕ)
  names = first_old ∷ old

  abbrev others : List (List ℕ)
  others = first ∷ rest

  from_there : slice_get rows (place_in rows i) ≡ Some from
  from_there = at_place rows i ∙ at

  to_there : slice_get rows (place_in rows e) ≡ Some to
  to_there = at_place rows e ∙ to_at

  moved_there : slice_get rows (place_in rows j) ≡ Some moved
  moved_there = at_place rows j ∙ moved_at

  walked : walk t 1 names ≡ Ok from.inode
  walked = let way = spot.way in let named = way.from in (named.directory from from_there).0

  ended : walk t 1 others ≡ Ok to.inode
  ended = let way = spot.way in let ends = way.to in (ends.row to to_there).0

  leads : found t names ≡ Some moved.inode
  leads = let way = spot.way in let named = way.from in named.leads moved moved_there

  rises : Rises row_key rows
  rises = rows_rise R n.sup l rows free n.faults n.read_only n.stopped kept runs

  abbrev Result_ : Region → Type 0
  Result_ left = IsAsMounted R l rows free.pools left ⊎ IsAsMade l (replaced names others time t) (LogsReplace cpu time others R n names) left

  -- where the new name was free
  module _ (none : there ≡ None) where
    not_there : found t others ≡ None
    not_there = spot.leads ∙ none

    move_spot : IsMoveSpot t rows names others (place_in rows i) name (place_in rows j) (place_in rows e) other
    move_spot =
        let way = spot.way in
        let over = spot.over in
        record { from = way.from; spot = record { directory = way.to; absent = λ row row_at. over.none row row_at none }; apart = way.apart }

    free_logs : (S : Region) → LogsMove cpu time others R n names S → LogsReplace cpu time others R n names S
    free_logs S logs = record {
      unused = λ _. logs;
      within = record {
        more = λ a b d node st h f takes sound is other_is on. absurd (let led = takes.there in let clash : None ≡ Some b = sym not_there ∙ led.leads in cc);
        last = λ a b d node st h takes sound is off. absurd (let led = takes.there in let clash : None ≡ Some b = sym not_there ∙ led.leads in cc);
      };
      across = record {
        more = λ a b d c node st h g f takes parted sound is other_is last_is on. absurd (let led = takes.there in let clash : None ≡ Some b = sym not_there ∙ led.leads in cc);
        last = λ a b d c node st h g takes parted sound is other_is off. absurd (let led = takes.there in let clash : None ≡ Some b = sym not_there ∙ led.leads in cc);
      };
      one = λ a first_leads leads_too. absurd (let clash : None ≡ Some a = sym not_there ∙ leads_too in cc);
    }

    moved_made : {S : Region} {news : List Row} {after : FreeLists} → MovesAt R S l free after cpu rows news (place_in rows i) (place_in rows j) (place_in rows e) name other time → LogsReplace cpu time others R n names S
    moved_made {S} step = free_logs S (record {
      across = moved_logs kept runs writes spelled spelled_other names first rest move_spot step;
      within = moved_log kept runs writes spelled spelled_other names first rest move_spot step;
    })

    moved_left : (left : Region) (held : Store) (mounted : IsMounted R l held rows free.pools) → LeavesEither R l held (Renamed R l free cpu (place_in rows i) (place_in rows e) from to moved.inode name other time) left → Result_ left
    moved_left left held mounted w = with_logs R {l = l} {rows = rows} free free_logs (sym (replaced_unused t names others time not_there))
        (rename_by region {n = n} {m = n} refl kept runs writes i j e from moved to at moved_at to_at name other cpu time spelled spelled_other names first rest move_spot left held mounted w)

  -- where it stood for another
  module _ (k : ℕ) (is : there ≡ Some k) (had : Row) (had_at : row_of rows k ≡ Some had) (apart : had.inode ≢ moved.inode) where
    number : had.inode ≡ k
    number = numbered rows k had had_at

    had_spot : IsReplaceSpot t rows names others (place_in rows i) name (place_in rows j) (place_in rows e) other (Some had.inode)
    had_spot = subst (λ (o : Option ℕ). IsReplaceSpot t rows names others (place_in rows i) name (place_in rows j) (place_in rows e) other o) (is ∙ ap (λ (q : ℕ). Some q) (sym number)) spot

    stood : found t others ≡ Some had.inode
    stood = had_spot.leads

    had_apart : moved.inode ≢ had.inode
    had_apart e = apart (sym e)

    not_free : (S : Region) → found t others ≡ None → LogsMove cpu time others R n names S
    not_free S none = absurd (let clash : None ≡ Some had.inode = sym none ∙ stood in cc)

    not_one : (S : Region) (a : ℕ) → found t names ≡ Some a → found t others ≡ Some a → S ≡ R
    not_one S a first_leads leads_too = absurd (let one : Some moved.inode ≡ Some a = sym leads ∙ first_leads in let two : Some had.inode ≡ Some a = sym stood ∙ leads_too in let clash : had.inode ≡ moved.inode = cc in apart clash)

    -- within one directory
    module _ (one_place : place_in rows i ≡ place_in rows e) where
      here_spot : IsReplaceSpot t rows names others (place_in rows i) name (place_in rows j) (place_in rows i) other (Some had.inode)
      here_spot = subst (λ (q : ℕ). IsReplaceSpot t rows names others (place_in rows i) name (place_in rows j) q other (Some had.inode)) (sym one_place) had_spot

      ends_here : walk t 1 others ≡ Ok from.inode
      ends_here = let way = here_spot.way in let ends = way.to in (ends.row from from_there).0

      differ : i ≢ k
      differ e = from_differs kept runs writes (place_in rows k) moved had moved_there (at_place rows k ∙ had_at) first_old old first rest here_spot had_apart from from_there had (at_place rows k ∙ had_at) (numbered rows i from at ∙ e ∙ sym number)

      here_logs : (S : Region) → LogsTaken cpu time others R n names S → LogsReplace cpu time others R n names S
      here_logs S logs = record {
        unused = not_free S;
        within = logs;
        across = record {
          more = λ a b d c node st h g f takes parted sound is other_is last_is on. absurd (parted (sym (one_end walked takes.from) ∙ one_end ends_here takes.way));
          last = λ a b d c node st h g takes parted sound is other_is off. absurd (parted (sym (one_end walked takes.from) ∙ one_end ends_here takes.way));
        };
        one = not_one S;
      }

      taken_made : {S : Region} {news : List Row} {after : FreeLists} → ReplacesHere R S l free after cpu rows news (place_in rows i) (place_in rows k) moved.inode name other time → LogsReplace cpu time others R n names S
      taken_made {S} step = here_logs S (here_logged region n kept runs writes i j k from moved had at moved_at had_at differ name other cpu time spelled spelled_other first_old old first rest here_spot had_apart step)

      taken_left : (left : Region) (held : Store) (mounted : IsMounted R l held rows free.pools) → LeavesEither R l held (ReplacedHere R l free cpu from had moved.inode name other time) left → Result_ left
      taken_left left held mounted w = with_logs R {l = l} {rows = rows} free here_logs refl
          (here_by region n kept runs writes i j k from moved had at moved_at had_at differ name other cpu time spelled spelled_other first_old old first rest here_spot had_apart left held mounted w)

    -- from one to another
    module _ (two_places : place_in rows i ≢ place_in rows e) where
      over_logs : (S : Region) → LogsHanded cpu time others R n names S → LogsReplace cpu time others R n names S
      over_logs S logs = record {
        unused = not_free S;
        within = record {
          more = λ a b d node st h f takes sound is other_is on. absurd (places_numbers rows (place_in rows i) (place_in rows e) from to rises from_there to_there two_places (one_end walked takes.from ∙ sym (one_end ended takes.way)));
          last = λ a b d node st h takes sound is off. absurd (places_numbers rows (place_in rows i) (place_in rows e) from to rises from_there to_there two_places (one_end walked takes.from ∙ sym (one_end ended takes.way)));
        };
        across = logs;
        one = not_one S;
      }

      handed_made : {S : Region} {news : List Row} {after : FreeLists} → ReplacesOver R S l free after cpu rows news (place_in rows i) (place_in rows e) (place_in rows k) moved.inode name other time → LogsReplace cpu time others R n names S
      handed_made {S} step = over_logs S (over_logged region n kept runs writes i e j k from to moved had at to_at moved_at had_at two_places name other cpu time spelled spelled_other first_old old first rest had_spot had_apart step)

      handed_left : (left : Region) (held : Store) (mounted : IsMounted R l held rows free.pools) → LeavesEither R l held (ReplacedOver R l free cpu from to had moved.inode name other time) left → Result_ left
      handed_left left held mounted w = with_logs R {l = l} {rows = rows} free over_logs refl
          (over_by region n kept runs writes i e j k from to moved had at to_at moved_at had_at two_places name other cpu time spelled spelled_other first_old old first rest had_spot had_apart left held mounted w)

  -- where it is the one that moves
  module _ (k : ℕ) (is : there ≡ Some k) (one : k ≡ moved.inode) where
    not_taken : (a b d c : ℕ) (node : Node) → TakesPlace t names others a b d c node → ⊥
    not_taken a b d c node takes = let led = takes.there in takes.differ (same_Some _ _ (sym takes.moved ∙ leads) ∙ sym one ∙ same_Some _ _ (sym is ∙ sym spot.leads ∙ led.leads))

    same_logs : (S : Region) → S ≡ R → LogsReplace cpu time others R n names S
    same_logs S unchanged = record {
      unused = λ none. absurd (let clash : None ≡ Some k = sym none ∙ spot.leads ∙ is in cc);
      within = record {
        more = λ a b d node st h f takes sound other_is last_is on. absurd (not_taken a b d d node takes);
        last = λ a b d node st h takes sound other_is off. absurd (not_taken a b d d node takes);
      };
      across = record {
        more = λ a b d c node st h g f takes parted sound other_is last_is file_is on. absurd (not_taken a b d c node takes);
        last = λ a b d c node st h g takes parted sound other_is last_is off. absurd (not_taken a b d c node takes);
      };
      one = λ a first_leads leads_too. unchanged;
    }

  -- ---- in all cases

  made_logs : (S : Region) (news : List Row) (after : FreeLists) (o : Option ℕ) → there ≡ o → ((k : ℕ) → o ≡ Some k → (had : Row) × (row_of rows k ≡ Some had)) → ReplacesAt R S l free after cpu rows news (place_in rows i) (place_in rows j) (place_in rows e) o moved.inode name other time → LogsReplace cpu time others R n names S
  made_logs S news after None is known step = moved_made is step
  made_logs S news after (Some k) is known (inl w) = same_logs k is w.0 S w.1.0
  made_logs S news after (Some k) is known (inr (apart, inl w)) = let row = known k refl in taken_made k is row.0 row.1 (λ e. apart (sym (numbered rows k row.0 row.1) ∙ e)) w.0 w.1
  made_logs S news after (Some k) is known (inr (apart, inr w)) = let row = known k refl in handed_made k is row.0 row.1 (λ e. apart (sym (numbered rows k row.0 row.1) ∙ e)) w.0 w.1

  -- What the call leaves of the logs.
  pub replaced_logs : (S : Region) (news : List Row) (after : FreeLists) → ((k : ℕ) → there ≡ Some k → (had : Row) × (row_of rows k ≡ Some had)) → ReplacesAt R S l free after cpu rows news (place_in rows i) (place_in rows j) (place_in rows e) there moved.inode name other time
      → LogsReplace cpu time others (region m.memory) m names S
  replaced_logs S news after known step = subst (λ (q : Mount P). LogsReplace cpu time others (region q.memory) q names S) same (made_logs S news after there refl known step)

  abbrev Left_ : Store → Option Row → Region → Type 0
  Left_ held had left = LeavesEither R l held (ReplacedAt R l free cpu (place_in rows i) (place_in rows e) from to had moved.inode name other time) left

  some_left : (k : ℕ) (is : there ≡ Some k) (had : Row) (had_at : row_of rows k ≡ Some had) (left : Region) (held : Store) (mounted : IsMounted R l held rows free.pools) → Left_ held (Some had) left → Result_ left
  some_left k is had had_at left held mounted (inl as_before) = inl (still_mounted mounted as_before)
  some_left k is had had_at left held mounted (inr w) = by w.1.1 where
    by : ((place_in rows i ≡ place_in rows e) × ReplacedHere R l free cpu from had moved.inode name other time (undone l.sup left)) ⊎ ((place_in rows i ≢ place_in rows e) × ReplacedOver R l free cpu from to had moved.inode name other time (undone l.sup left)) → Result_ left
    by (inl v) = taken_left k is had had_at w.1.0 v.0 left held mounted (inr (w.0, v.1))
    by (inr v) = handed_left k is had had_at w.1.0 v.0 left held mounted (inr (w.0, v.1))

  replaced_left : ((k : ℕ) → there ≡ Some k → (had : Row) × (row_of rows k ≡ Some had)) → (left : Region) (held : Store) (mounted : IsMounted R l held rows free.pools) → Left_ held (option_and_then (row_of rows) there) left → Result_ left
  replaced_left known left held mounted w = by there refl where
    by : (o : Option ℕ) → there ≡ o → Result_ left
    by None none = moved_left none left held mounted (subst (λ (o : Option ℕ). Left_ held (option_and_then (row_of rows) o) left) none w)
    by (Some k) is =
        let row = known k is in
        some_left k is row.0 row.1 left held mounted (subst (λ (o : Option Row). Left_ held o left) row.1 (subst (λ (o : Option ℕ). Left_ held (option_and_then (row_of rows) o) left) is w))

  -- What a stop leaves within the call.
  pub replace_left : ((k : ℕ) → there ≡ Some k → (had : Row) × (row_of rows k ≡ Some had)) → (S : Region) (last : Choices)
      → ((held : Store) (h g : Held) → ShowsRow R l held h from free → ShowsRow R l held g to free → (there ≡ None → name_at to.names other ≡ None)
      → ((k : ℕ) (row : Row) → there ≡ Some k → row_of rows k ≡ Some row → (f : Held) × ShowsRow R l held f row free) → LeavesOnly S last (Left_ held (option_and_then (row_of rows) there)))
      → LeavesOnly S last (LeavesCall (makes_replace time (Some others)) (logs_replace cpu time (Some others)) (region m.memory) m names)
  replace_left known S last step =
      subst (λ (q : Mount P). LeavesOnly S last (LeavesCall (makes_replace time (Some others)) (logs_replace cpu time (Some others)) (region q.memory) q names)) same
      (λ left may. ∥∥₁_map (mounted_of_kept kept runs writes) (λ w.
      let v = shows_row w.1 kept.lists from (stands rows (place_in rows i) from from_there) in
      let u = shows_row w.1 kept.lists to (stands rows (place_in rows e) to to_there) in
      let over = spot.over in
      replaced_left known left w.0 w.1 (step w.0 v.0 u.0 v.1 u.1 (λ none. not_named w.1 to (stands rows (place_in rows e) to to_there) other (over.none to to_there none))
      (λ k row is row_is. (let z = shows_row w.1 kept.lists row (stands rows (place_in rows k) row (at_place rows k ∙ row_is)) in (z.0, z.1))) left may)))
