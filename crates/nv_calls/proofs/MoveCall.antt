-- What `rename` answers, and what it leaves.
use Rattle.std.proofs.Common.{◌≡◌, ◌≢◌, ℕ, ◌+◌, ◌%◌, ◌≤◌, cond, inl, inr, nat_eq, Bool, true, false, List, [], ◌∷◌, slice_get, ap, sym, ◌∙◌, subst, arith, refl, Option, Some, None, Ok}
use Rattle.std.proofs.lemmas.Bool.Decides.{nat_tests}
use Rattle.std.proofs.lemmas.Option.{get_or_from_slice_get, slice_get_within}
use Rattle.nv_region.specs.Region.{Region}
use Rattle.nv_super.specs.declared.superblock.Super.{Super}
use Rattle.nv_super.specs.declared.faults.Fault.{Fault}
use Rattle.nv_super.specs.Order.{Rises}
use Rattle.nv_super.proofs.RisingPlaces.{one_place}
use Rattle.nv_alloc.specs.FreeValue.{FreeLists}
use Rattle.nv_alloc.specs.Taking.{all_blocks}
use Rattle.nv_entry.specs.declared.entry.Operation.TheVariants.{Add, Remove}
use Rattle.nv_logpage.specs.Append.{needed}
use Rattle.nv_scan.specs.declared.piece.Row.{Row}
use Rattle.nv_cross_check.specs.Cross.{row_key}
use Rattle.nv_graph.specs.Read.{row_of}
use Rattle.nv_graph.specs.Step.{IsGoodName}
use Rattle.nv_mounted.specs.Held.{Held, Store}
use Rattle.nv_mounted.specs.Mounted.{IsMounted, ShowsSound}
use Rattle.nv_tree.specs.declared.refusal.Refusal.{Refusal}
use Rattle.nv_tree.specs.Path.{IsPath, IsPathName, Says, last_name}
use Rattle.nv_tree.specs.Tree.{Node, SameTree, Tree, walk}
use Rattle.nv_tree.specs.Calls.{renamed}
use Rattle.nv_tree.specs.Refusals.{Path, Tests, first_refusal, has_no_space, rename_tests, writing, IsRefusedBy}
use Rattle.nv_calls.specs.GrownLogs.{ShowsGrownLog}
use Rattle.nv_calls.specs.LinkCalls.{ShowsBothGrew}
use Rattle.nv_calls.specs.MoveCalls.{MovesAcross, MovesAt, end_together, move_blocks, rename_blocks}
use Rattle.nv_paths.specs.MoveSpots.{IsMoveSpot, rename_spot_tests}
use Rattle.nv_steps.specs.Moves.{move_entries}
use Rattle.nv_calls.specs.Mount.{IsKept, Mount}
use Rattle.nv_calls.specs.NameCalls.{ended_row, row_blocks}
use Rattle.nv_steps.specs.NameEntries.{name_entries}
use Rattle.nv_paths.specs.Seen.{LeadsTo, tree_of}
use Rattle.nv_steps.specs.Steps.{RefusesStep}
use Rattle.nv_calls.specs.World.{world_of}
use Rattle.nv_paths.proofs.CreateTests.{good_name}
use Rattle.nv_calls.proofs.Kept.{rows_rise}
use Rattle.nv_calls.proofs.MoveTests.{rename_allows}
use Rattle.nv_calls.proofs.MovedAcross.{across_kept, across_logs, across_mounted, across_tree}
use Rattle.nv_calls.proofs.MovedWithin.{within_kept, within_log, within_mounted, within_tree}
use Rattle.nv_super.proofs.Members.{stands}
use Rattle.nv_super.specs.Layout.{Layout}
use Rattle.nv_calls.proofs.RowNumbers.{row_named}
use Rattle.nv_calls.proofs.Tests.{space_allows, space_refuses}

-- rows at different places have different numbers
pub places_numbers : (rows : List Row) (i j : ℕ) (a b : Row) → Rises row_key rows → slice_get rows i ≡ Some a → slice_get rows j ≡ Some b → i ≢ j → a.inode ≢ b.inode
places_numbers rows i j a b rising at other_at differ same = differ (one_place row_key rows i j a rising (slice_get_within rows i a at) (slice_get_within rows j b other_at)
    (ap (λ (m : ℕ). m ∷ []) (ap (λ (r : Row). r.inode) (get_or_from_slice_get rows i a a at) ∙ same ∙ sym (ap (λ (r : Row). r.inode) (get_or_from_slice_get rows j b a other_at)))))

module _ {R : Region} {s : Super} {l : Layout} {rows : List Row} {free : FreeLists} {faults : List Fault} {read_only stopped : Bool} (kept : IsKept R s l rows free faults read_only stopped) (runs : stopped ≡ false) (writes : read_only ≡ false)
    {place target end : ℕ} {name other : List ℕ} (spelled : IsPathName name) (spelled_other : IsPathName other) (names : List (List ℕ)) (first : List ℕ) (rest : List (List ℕ)) (spot : IsMoveSpot (tree_of R rows) rows names (first ∷ rest) place name target end other) where
  rising : Rises row_key rows
  rising = rows_rise R s l rows free faults read_only stopped kept runs

  good : (q : List ℕ) → IsPathName q → (moved : Row) → slice_get rows target ≡ Some moved → IsGoodName l.sup moved.inode q
  good q is moved at = good_name l.sup moved.inode q is (row_named kept runs writes moved (stands rows target moved at))

  spot_here : place ≡ end → IsMoveSpot (tree_of R rows) rows names (first ∷ rest) place name target place other
  spot_here same = subst (λ (k : ℕ). IsMoveSpot (tree_of R rows) rows names (first ∷ rest) place name target k other) (sym same) spot

  apart : {S : Region} {news : List Row} {after : FreeLists} {cpu time : ℕ} (step : MovesAcross R S l free after cpu rows news place target end name other time) → place ≢ end → step.from.inode ≢ step.to.inode
  apart step differ = let both = step.step in places_numbers rows place end step.from step.to rising both.at both.other_at differ

  -- What is kept.
  pub moved_kept : {S : Region} {news : List Row} {after : FreeLists} {cpu time : ℕ} → MovesAt R S l free after cpu rows news place target end name other time → (now : Bool) → IsKept S s l news after faults read_only now
  moved_kept {S} {news} {after} {cpu} {time} (inl w) now =
      let step = w.1 in
      subst (λ (rs : List Row). IsKept S s l rs after faults read_only now) (sym step.put)
      (within_kept kept runs writes step.moved step.at step.moved_at step.step names first rest (spot_here w.0) (good name spelled step.moved step.moved_at) (good other spelled_other step.moved step.moved_at) now)
  moved_kept {S} {news} {after} {cpu} {time} (inr w) now =
      let step = w.1 in
      across_kept kept runs writes step names first rest spot (good name spelled step.moved step.moved_at) (good other spelled_other step.moved step.moved_at) (apart step w.0) now

  -- What is mounted, for what is held of the region of before.
  pub moved_mounted : {S : Region} {news : List Row} {after : FreeLists} {cpu time : ℕ} → MovesAt R S l free after cpu rows news place target end name other time → (held : Store) (m : IsMounted R l held rows free.pools) → (then : Store) × IsMounted S l then news after.pools
  moved_mounted {S} {news} {after} {cpu} {time} (inl w) held m =
      let step = w.1 in
      subst (λ (rs : List Row). (then : Store) × IsMounted S l then rs after.pools) (sym step.put)
      (within_mounted kept runs writes step.moved step.at step.moved_at step.step names first rest (spot_here w.0) (good name spelled step.moved step.moved_at) (good other spelled_other step.moved step.moved_at) held m)
  moved_mounted {S} {news} {after} {cpu} {time} (inr w) held m =
      let step = w.1 in
      across_mounted kept runs writes step names first rest spot (good name spelled step.moved step.moved_at) (good other spelled_other step.moved step.moved_at) (apart step w.0) held m

  -- The tree is what the call makes of that of before.
  pub moved_tree : {S : Region} {news : List Row} {after : FreeLists} {cpu time : ℕ} → MovesAt R S l free after cpu rows news place target end name other time → SameTree (tree_of S news) (renamed names (first ∷ rest) time (tree_of R rows))
  moved_tree {S} {news} {after} {cpu} {time} (inl w) =
      let step = w.1 in
      subst (λ (rs : List Row). SameTree (tree_of S rs) (renamed names (first ∷ rest) time (tree_of R rows))) (sym step.put)
      (within_tree kept runs writes step.moved step.at step.moved_at step.step names first rest (spot_here w.0) (good name spelled step.moved step.moved_at) (good other spelled_other step.moved step.moved_at))
  moved_tree {S} {news} {after} {cpu} {time} (inr w) =
      let step = w.1 in
      across_tree kept runs writes step names first rest spot (good name spelled step.moved step.moved_at) (good other spelled_other step.moved step.moved_at) (apart step w.0)

  -- where both walks end
  from_ends : (row : Row) → slice_get rows place ≡ Some row → walk (tree_of R rows) 1 names ≡ Ok row.inode
  from_ends row at = let there = spot.from in (there.directory row at).0

  to_ends : (row : Row) → slice_get rows end ≡ Some row → walk (tree_of R rows) 1 (first ∷ rest) ≡ Ok row.inode
  to_ends row at = let free_name = spot.spot in let in_directory = free_name.directory in (in_directory.row row at).0

  -- The logs of two directories, for whatever is held of the region.
  pub moved_logs : {S : Region} {news : List Row} {after : FreeLists} {cpu time : ℕ} → MovesAt R S l free after cpu rows news place target end name other time → (i d e : ℕ) (node : Node) (held : Store) (h k : Held) → LeadsTo (tree_of R rows) names i node → walk (tree_of R rows) 1 names ≡ Ok d → walk (tree_of R rows) 1 (first ∷ rest) ≡ Ok e → d ≢ e → ShowsSound R l held → held d ≡ Some h → held e ≡ Some k
      → ShowsBothGrew S l free.pools cpu held d h (name_entries Remove i (last_name names) time) e k (name_entries Add i (last_name (first ∷ rest)) time)
  moved_logs {S} {news} {after} {cpu} {time} (inl w) i d e node held h k led walked ended differ sound is other_is =
      let step = w.1 in
      let both : Ok d ≡ Ok e = sym walked ∙ from_ends step.row step.at ∙ sym (to_ends step.row (subst (λ (m : ℕ). slice_get rows m ≡ Some step.row) w.0 step.at)) ∙ ended in
      absurd (differ (cc))
  moved_logs {S} {news} {after} {cpu} {time} (inr w) i d e node held h k led walked ended differ sound is other_is =
      let step = w.1 in
      let both = step.step in
      let there = spot.from in
      let free_name = spot.spot in
      let in_directory = free_name.directory in
      let one : Ok step.from.inode ≡ Ok d = sym (from_ends step.from both.at) ∙ walked in
      let two : Ok step.to.inode ≡ Ok e = sym (to_ends step.to both.other_at) ∙ ended in
      let three : Some step.moved.inode ≡ Some i = sym (there.leads step.moved step.moved_at) ∙ led.leads in
      let from_is : step.from.inode ≡ d = cc in
      let to_is : step.to.inode ≡ e = cc in
      let moved_is : step.moved.inode ≡ i = cc in
      let grew = across_logs kept runs writes step names first rest spot (good name spelled step.moved step.moved_at) (good other spelled_other step.moved step.moved_at) (apart step w.0) held h k sound (ap held from_is ∙ is) (ap held to_is ∙ other_is) in
      subst (λ (m : ℕ). ShowsBothGrew S l free.pools cpu held d h (name_entries Remove m (last_name names) time) e k (name_entries Add m (last_name (first ∷ rest)) time)) moved_is
      (subst (λ (q : List ℕ). ShowsBothGrew S l free.pools cpu held d h (name_entries Remove step.moved.inode q time) e k (name_entries Add step.moved.inode (last_name (first ∷ rest)) time)) there.name_is
      (subst (λ (q : List ℕ). ShowsBothGrew S l free.pools cpu held d h (name_entries Remove step.moved.inode name time) e k (name_entries Add step.moved.inode q time)) in_directory.name_is
      (subst (λ (m : ℕ). ShowsBothGrew S l free.pools cpu held m h (name_entries Remove step.moved.inode name time) e k (name_entries Add step.moved.inode other time)) from_is
      (subst (λ (m : ℕ). ShowsBothGrew S l free.pools cpu held step.from.inode h (name_entries Remove step.moved.inode name time) m k (name_entries Add step.moved.inode other time)) to_is grew))))

  -- The log of the only directory.
  pub moved_log : {S : Region} {news : List Row} {after : FreeLists} {cpu time : ℕ} → MovesAt R S l free after cpu rows news place target end name other time → (i d : ℕ) (node : Node) (held : Store) (h : Held) → LeadsTo (tree_of R rows) names i node → walk (tree_of R rows) 1 names ≡ Ok d → walk (tree_of R rows) 1 (first ∷ rest) ≡ Ok d → ShowsSound R l held → held d ≡ Some h
      → ShowsGrownLog S l free.pools cpu held d h (move_entries i (last_name names) (last_name (first ∷ rest)) time)
  moved_log {S} {news} {after} {cpu} {time} (inl w) i d node held h led walked ended sound is =
      let step = w.1 in
      let there = spot.from in
      let free_name = spot.spot in
      let in_directory = free_name.directory in
      let one : Ok step.row.inode ≡ Ok d = sym (from_ends step.row step.at) ∙ walked in
      let three : Some step.moved.inode ≡ Some i = sym (there.leads step.moved step.moved_at) ∙ led.leads in
      let row_is : step.row.inode ≡ d = cc in
      let moved_is : step.moved.inode ≡ i = cc in
      let grew = within_log kept runs writes step.moved step.at step.moved_at step.step names first rest (spot_here w.0) (good name spelled step.moved step.moved_at) (good other spelled_other step.moved step.moved_at) held h sound (ap held row_is ∙ is) in
      subst (λ (m : ℕ). ShowsGrownLog S l free.pools cpu held d h (move_entries m (last_name names) (last_name (first ∷ rest)) time)) moved_is
      (subst (λ (q : List ℕ). ShowsGrownLog S l free.pools cpu held d h (move_entries step.moved.inode q (last_name (first ∷ rest)) time)) there.name_is
      (subst (λ (q : List ℕ). ShowsGrownLog S l free.pools cpu held d h (move_entries step.moved.inode name q time)) in_directory.name_is
      (subst (λ (m : ℕ). ShowsGrownLog S l free.pools cpu held m h (move_entries step.moved.inode name other time)) row_is grew)))
  moved_log {S} {news} {after} {cpu} {time} (inr w) i d node held h led walked ended sound is =
      let step = w.1 in
      let both = step.step in
      let one : Ok step.from.inode ≡ Ok step.to.inode = sym (from_ends step.from both.at) ∙ walked ∙ sym ended ∙ to_ends step.to both.other_at in
      absurd (apart step w.0 (cc))

-- two rows are of one inode where they stand at one place
pub places_tests : (rows : List Row) (place end : ℕ) (from to : Row) → Rises row_key rows → slice_get rows place ≡ Some from → slice_get rows end ≡ Some to → nat_eq from.inode to.inode ≡ nat_eq place end
places_tests rows place end from to rising at other_at = tests (nat_eq place end) refl where
  tests : (b : Bool) → nat_eq place end ≡ b → nat_eq from.inode to.inode ≡ nat_eq place end
  tests true test =
      let same : place ≡ end = grind (arith, nat_tests) in
      let both : Some from ≡ Some to = sym at ∙ ap (slice_get rows) same ∙ other_at in
      let one : from ≡ to = cc in
      let number : from.inode ≡ to.inode = ap (λ (r : Row). r.inode) one in
      let on : nat_eq from.inode to.inode ≡ true = grind (arith, nat_tests) in
      on ∙ sym test
  tests false test =
      let differ : place ≢ end = λ same. (let on : nat_eq place end ≡ true = grind (arith, nat_tests) in let clash : true ≡ false = sym on ∙ test in cc) in
      let apart : from.inode ≢ to.inode = places_numbers rows place end from to rising at other_at differ in
      let off : nat_eq from.inode to.inode ≡ false = grind (arith, nat_tests) in
      off ∙ sym test

-- ---- why it is refused

-- what the logs need, by where they are
pub blocks_by : (rows : List Row) (t : Tree) (place end : ℕ) (from to : Row) (names others : List (List ℕ)) (i time : ℕ) (name other : List ℕ) → Rises row_key rows → slice_get rows place ≡ Some from → slice_get rows end ≡ Some to → walk t 1 names ≡ Ok from.inode → row_of rows from.inode ≡ Some from → walk t 1 others ≡ Ok to.inode → row_of rows to.inode ≡ Some to
    → name ≡ last_name names → other ≡ last_name others → rename_blocks rows t (Some names) (Some others) ≡ move_blocks place end from to i name other time
blocks_by rows t place end from to names others i time name other rising at other_at walked is ended other_is last other_last =
    (λ k. cond (end_together (walked k) (ended k)) (row_blocks (ended_row rows (walked k)) (move_entries 0 (last_name names) (last_name others) 0)) (row_blocks (ended_row rows (walked k)) (name_entries Add 0 (last_name names) 0) + row_blocks (ended_row rows (ended k)) (name_entries Add 0 (last_name others) 0)))
    ∙ (λ k. cond (nat_eq from.inode to.inode) (row_blocks (is k) (move_entries 0 (last_name names) (last_name others) 0)) (row_blocks (is k) (name_entries Add 0 (last_name names) 0) + row_blocks (other_is k) (name_entries Add 0 (last_name others) 0)))
    ∙ (λ k. cond (nat_eq from.inode to.inode) (needed (from.tail % 4096) (move_entries 0 (sym last k) (sym other_last k) 0)) (needed (from.tail % 4096) (name_entries Add 0 (sym last k) 0) + needed (to.tail % 4096) (name_entries Add 0 (sym other_last k) 0)))
    ∙ ap (λ (b : Bool). cond b (needed (from.tail % 4096) (move_entries i name other time)) (needed (from.tail % 4096) (name_entries Remove i name time) + needed (to.tail % 4096) (name_entries Add i other time))) (places_tests rows place end from to rising at other_at)

module _ {P : Type 0} (region : P → Region) {n m : Mount P} (same : n ≡ m) (cpu : ℕ) (passed : (tests : Tests) → first_refusal (writing (world_of m) cpu tests) ≡ first_refusal tests) (place target end : ℕ) (from to moved : Row) (rising : Rises row_key n.rows) (at : slice_get n.rows place ≡ Some from) (other_at : slice_get n.rows end ≡ Some to)
    (is : row_of n.rows from.inode ≡ Some from) (other_is : row_of n.rows to.inode ≡ Some to) (name other : List ℕ) (time : ℕ) (old new : List ℕ) (spot : (names others : List (List ℕ)) → IsPath old names → IsPath new others → IsMoveSpot (tree_of (region n.memory) n.rows) n.rows names others place name target end other)
    (p q : Path) (says : Says old p) (says_new : Says new q) (none : first_refusal (rename_spot_tests (tree_of (region n.memory) n.rows) p q) ≡ None) where
  abbrev tests : Mount P → Option Refusal
  tests k = first_refusal (rename_tests (world_of k) (tree_of (region k.memory) k.rows) cpu p q (rename_blocks k.rows (tree_of (region k.memory) k.rows) p q))

  abbrev count : ℕ
  count = move_blocks place end from to moved.inode name other time

  blocks_there : (p q : Path) → Says old p → Says new q → first_refusal (rename_spot_tests (tree_of (region n.memory) n.rows) p q) ≡ None → rename_blocks n.rows (tree_of (region n.memory) n.rows) p q ≡ count
  blocks_there None q says says_new none = absurd (cc)
  blocks_there (Some []) None says says_new none = absurd (cc)
  blocks_there (Some (x ∷ xs)) None says says_new none = absurd (cc)
  blocks_there (Some names) (Some others) says says_new none =
      let here = spot names others says says_new in
      let there = here.from in
      let free_name = here.spot in
      let in_directory = free_name.directory in
      blocks_by n.rows (tree_of (region n.memory) n.rows) place end from to names others moved.inode time name other rising at other_at (there.directory from at).0 is (in_directory.row to other_at).0 other_is there.name_is in_directory.name_is

  at_last : tests n ≡ first_refusal (has_no_space (world_of n) count ∷ [])
  at_last =
      let passed_here : (ts : Tests) → first_refusal (writing (world_of n) cpu ts) ≡ first_refusal ts = λ ts. subst (λ (k : Mount P). first_refusal (writing (world_of k) cpu ts) ≡ first_refusal ts) (sym same) (passed ts) in
      rename_allows (world_of n) (tree_of (region n.memory) n.rows) cpu passed_here p q (rename_blocks n.rows (tree_of (region n.memory) n.rows) p q) none ∙ ap (λ (k : ℕ). first_refusal (has_no_space (world_of n) k ∷ [])) (blocks_there p q says says_new none)

  -- No test refuses it where there are enough blocks.
  pub rename_allowed : count ≤ all_blocks n.free.pools → tests m ≡ None
  rename_allowed = space_allows same tests count at_last

  -- Where its step was refused, so is the call.
  pub rename_refused : (e : Refusal) → RefusesStep e count n.free → IsRefusedBy (tests m) e
  rename_refused = space_refuses same tests count at_last
