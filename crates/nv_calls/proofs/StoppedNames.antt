-- What recovery finds in a region that a stop within `create` has left.
use Rattle.std.proofs.Common.{◌≡◌, ◌≢◌, ◌⊎◌, ℕ, suc, ◌<◌, nat_eq, Bool, true, false, cond, inl, inr, List, [], ◌∷◌, set, slice_get, refl, ap, sym, ◌∙◌, subst, arith, Some, None}
use Rattle.nv_super.specs.Layout.{Layout}
use Rattle.std.proofs.Math.Logic.{∥∥₁_map}
use Rattle.std.proofs.lemmas.Bool.{cases_lt}
use Rattle.std.proofs.lemmas.Bool.Decides.{nat_tests}
use Rattle.nv_region.specs.Region.{Region}
use Rattle.nv_region.specs.Stops.{Choices, LeavesOnly, NothingPending}
use Rattle.nv_super.specs.declared.kind.Kind.{Kind}
use Rattle.nv_super.specs.Order.{Rises}
use Rattle.nv_super.proofs.Members.{stands}
use Rattle.nv_super.proofs.Rising.{below_first, head_least, rises_cons, tail_rises}
use Rattle.nv_journal.specs.Undo.{undone}
use Rattle.nv_alloc.specs.FreeValue.{FreeLists}
use Rattle.nv_names.specs.Names.{name_at}
use Rattle.nv_scan.specs.declared.piece.Row.{Row}
use Rattle.nv_rows.specs.Rows.{HasInserted}
use Rattle.nv_rows.proofs.Places.{row_of_other, set_rising}
use Rattle.nv_cross_check.specs.Cross.{row_key}
use Rattle.nv_graph.specs.Read.{row_of}
use Rattle.nv_mounted.specs.Held.{Held, Store}
use Rattle.nv_mounted.specs.Mounted.{IsMounted}
use Rattle.nv_commit.specs.Stopped.{LeavesEither}
use Rattle.nv_tree.specs.Path.{IsPathName}
use Rattle.nv_tree.specs.Tree.{Tree}
use Rattle.nv_paths.specs.Seen.{tree_of}
use Rattle.nv_paths.specs.Spots.{IsSpot, new_number}
use Rattle.nv_super.specs.declared.owners.Run.{Run}
use Rattle.nv_tree.proofs.Same.{same_transitive}
use Rattle.nv_steps.proofs.OneByOne.{by_rule}
use Rattle.nv_steps.specs.NewNames.{MakesNamed}
use Rattle.nv_steps.specs.Steps.{ShowsRow}
use Rattle.nv_steps.specs.Stopped.{Named}
use Rattle.nv_steps.proofs.Inserted.{from_inserted}
use Rattle.nv_steps.proofs.RowOf.{row_at}
use Rattle.nv_calls.specs.AtPlaces.{CreatesAt}
use Rattle.nv_calls.specs.Growing.{CreatesGrown, GotSlot, LeavesCreated}
use Rattle.nv_calls.specs.Mount.{IsKept, Mount}
use Rattle.nv_calls.specs.NamesByNumber.{created_in, logs_created_in}
use Rattle.nv_calls.specs.Stopped.{IsAsMade, IsAsMounted, MayHaveGrown, StopGrows, StopLeaves}
use Rattle.nv_calls.proofs.CreateCall.{created_log, created_mounted, created_tree}
use Rattle.nv_calls.proofs.CreatedRows.{not_held, not_named}
use Rattle.nv_calls.proofs.Kept.{rows_rise}
use Rattle.nv_calls.proofs.Mounts.{mounted_of_kept}
use Rattle.nv_calls.proofs.GrownMount.{got_mounted, got_tree}
use Rattle.nv_calls.proofs.NewNumbers.{grows_for, new_unused}
use Rattle.nv_calls.proofs.OneRow.{shows_row}
use Rattle.nv_calls.proofs.Stopped.{recovers_to, still_mounted}

-- A row whose number none has can be put in at its place.
pub can_insert : (rows : List Row) (row : Row) → Rises row_key rows → row_of rows row.inode ≡ None → (news : List Row) × HasInserted rows news row
can_insert [] row up none = (row ∷ [], record { place = 0; inside = omega arith; all = refl; rising = tt })
can_insert (x ∷ rows) row up none = elim (cases_lt row.inode x.inode) [
  | inl front ↦ (row ∷ x ∷ rows, record { place = 0; inside = omega arith; all = refl; rising = (below_first row.inode x.inode [] [] front, up) })
  | inr past ↦ elim (cases_lt x.inode row.inode) [
    | inr back ↦ (
        let on : nat_eq x.inode row.inode ≡ true = grind (arith, nat_tests, past, back) in
        let clash : Some x ≡ None = sym (ap (λ (b : Bool). cond b (Some x) (row_of rows row.inode)) on) ∙ none in
        absurd (cc))
    | inl less ↦ (
        let off : nat_eq x.inode row.inode ≡ false = grind (arith, nat_tests, less) in
        let w = can_insert rows row (tail_rises row_key x rows up) (sym (ap (λ (b : Bool). cond b (Some x) (row_of rows row.inode)) off) ∙ none) in
        let put = w.1 in (
          x ∷ w.0,
          record {
            place = suc put.place;
            inside = omega (arith, put.inside);
            all = ap (λ (rs : List Row). x ∷ rs) put.all;
            rising = rises_cons row_key x w.0 (λ y c. elim (from_inserted rows put.place row y (rw (sym put.all) c)) [
              | inl old ↦ head_least row_key x rows up y old
              | inr same ↦ rw same (below_first x.inode row.inode [] [] less)
            ]) put.rising;
          },
        ))
  ]
]

module _ {P : Type 0} (region : P → Region) {n m : Mount P} (same : n ≡ m) (kept : IsKept (region n.memory) n.sup n.layout n.rows n.free n.faults n.read_only n.stopped) (runs : n.stopped ≡ false) (writes : n.read_only ≡ false)
    (place : ℕ) (row : Row) (at : slice_get n.rows place ≡ Some row) (kind : Kind) (mode time j : ℕ) (name : List ℕ) (cpu : ℕ) (low : cpu < n.layout.sup.cpus) (spelled : IsPathName name) (d : ℕ) (spot : IsSpot n.rows n.layout cpu d place name j) where
  abbrev R : Region
  R = region n.memory

  abbrev l : Layout
  l = n.layout

  abbrev rows : List Row
  rows = n.rows

  abbrev free : FreeLists
  free = n.free

  unused : row_of rows j ≡ None
  unused = new_unused kept runs writes cpu j low spot.unused

  -- the rows with the new one
  puts : (M S : Region) (k : Layout) (between after : FreeLists) (now new : Row) → MakesNamed M S k between after cpu row now kind mode time j name new → (news : List Row) × CreatesAt M S k between after cpu rows news place kind mode time j name
  puts M S k between after now new makes =
      let dir = makes.directory in
      let own = makes.row in
      let up = rows_rise R n.sup l rows free n.faults n.read_only n.stopped kept runs in
      let differs : j ≢ row.inode = (λ is. (let clash : Some row ≡ None = sym (row_there up) ∙ ap (row_of rows) (sym is) ∙ unused in cc)) in
      let none : row_of (set rows place now) new.inode ≡ None = ap (row_of (set rows place now)) own.inode ∙ row_of_other rows place row now j at differs (λ is. differs (is ∙ dir.inode)) ∙ unused in
      let w = can_insert (set rows place now) new (set_rising rows place row now up at dir.inode) none in
      (w.0, record { row = row; now = now; made = new; at = at; step = makes; put = w.1 })
    where
      row_there : Rises row_key rows → row_of rows row.inode ≡ Some row
      row_there up = row_at rows place row up at

  -- tables and free lists
  grew : (M : Region) (grown : Layout) (between : FreeLists) → GotSlot R M l grown free between cpu j → MayHaveGrown n cpu grown between.pools
  grew M grown between (inl w) = inl (w.2, ap (λ (f : FreeLists). f.pools) w.3)
  grew M grown between (inr g) = (let from = grows_for l rows cpu j low spot.unused g.none_before in inr (from.0, from.1, (g.block, g.layout, by_rule g.taken)))

  made_by : (left : Region) (held : Store) (mounted : IsMounted R l held rows free.pools) (M : Region) (grown : Layout) (between : FreeLists) (got : GotSlot R M l grown free between cpu j)
      → LeavesEither M grown held (Named M grown between cpu row kind mode time j name) left
      → IsAsMounted R grown rows between.pools left ⊎ IsAsMade grown (created_in kind (new_number l rows cpu) d name mode time (tree_of R rows)) (logs_created_in kind cpu mode time d name R n) left
  made_by left held mounted M grown between got (inl as_before) =
      let there : IsAsMounted M grown rows between.pools left = still_mounted (got_mounted mounted got) as_before in
      inl (there.0, same_transitive (tree_of (undone grown.sup left) rows) (tree_of M rows) (tree_of R rows) there.1 (got_tree kept runs writes got))
  made_by left held mounted M grown between got (inr w) =
      let step = w.1 in
      let put = puts M (undone grown.sup left) grown between step.0 step.1 step.2 step.3 in
      let whole : CreatesGrown R (undone grown.sup left) l grown free step.0 cpu rows put.0 place kind mode time j name = record { mid = M; between = between; got = got; step = put.1 } in
      inr (record {
        rows = put.0;
        free = (step.0).pools;
        recovers = recovers_to w.0 (created_mounted kept runs writes whole low spelled d spot held mounted).1;
        tree = created_tree kept runs writes whole low spelled d spot;
        logs = λ i st h number sound is. created_log kept runs writes whole low spelled d spot i st h number sound is;
      })

  create_by : (left : Region) (held : Store) (mounted : IsMounted R l held rows free.pools) → LeavesCreated R l free cpu held row kind mode time j name left
      → (k : Layout) × (pools : List (List Run)) × MayHaveGrown n cpu k pools
      × (IsAsMounted R k rows pools left ⊎ IsAsMade k (created_in kind (new_number l rows cpu) d name mode time (tree_of R rows)) (logs_created_in kind cpu mode time d name R n) left)
  create_by left held mounted (inl as_before) = (l, free.pools, inl (refl, refl), inl (still_mounted mounted as_before))
  create_by left held mounted (inr w) = (w.1, (w.2).pools, grew w.0 w.1 w.2 w.3, made_by left held mounted w.0 w.1 w.2 w.3 w.4)

  -- What a stop within the call leaves.
  pub create_left : (S : Region) (old last : Choices)
      → ((held : Store) (h : Held) → ShowsRow R l held h row free → held j ≡ None → name_at row.names name ≡ None → NothingPending R old → LeavesOnly S last (LeavesCreated R l free cpu held row kind mode time j name))
      → NothingPending R old → LeavesOnly S last (StopGrows cpu (region m.memory) m (created_in kind (new_number m.layout m.rows cpu) d name mode time (tree_of (region m.memory) m.rows)) (logs_created_in kind cpu mode time d name (region m.memory) m))
  create_left S old last step settled =
      subst (λ (k : Mount P). LeavesOnly S last (StopGrows cpu (region k.memory) k (created_in kind (new_number k.layout k.rows cpu) d name mode time (tree_of (region k.memory) k.rows)) (logs_created_in kind cpu mode time d name (region k.memory) k))) same
      (λ left may. ∥∥₁_map (mounted_of_kept kept runs writes) (λ w.
      let here = stands rows place row at in
      let v = shows_row w.1 kept.lists row here in
      create_by left w.0 w.1 (step w.0 v.0 v.1 (not_held w.1 j unused) (not_named w.1 row here name (spot.absent row at)) settled left may)))

-- A call that has stored nothing leaves what was mounted.
pub still_grows : {P : Type 0} {cpu : ℕ} (m : Mount P) (R : Region) {made : Tree} {Logged : Region → Type 0} {left : Region} → StopLeaves R m.layout m.rows m.free.pools made Logged left → StopGrows cpu R m made Logged left
still_grows m R leaves = ∥∥₁_map leaves (λ w. (m.layout, m.free.pools, inl (refl, refl), w))
