-- What cleaning leaves of a mount, a page after another.
use Rattle.std.proofs.Common.{◌≡◌, ◌≢◌, ◌∙◌, ◌<◌, ◌≤◌, ℕ, suc, ◌+◌, ◌++◌, Bool, true, false, is_none, IsTrue, List, [], ◌∷◌, length, get_or, ◌⊎◌, IfErr, Option, Some, None, Result, Ok, Err, IfOk, OnOk, refl, sym, ap, subst, inl, inr, arith}
use Rattle.std.proofs.Math.Logic.{∥∥₁_elim, ∥∥₁_map}
use Rattle.std.proofs.Math.Nat.{ℕ_set}
use Rattle.std.proofs.Props.{props}
use Rattle.std.proofs.lemmas.Bool.{cases_eq, true≢false}
use Rattle.std.proofs.lemmas.List.{get_or-map, length-append, length-map}
use Rattle.std.proofs.lemmas.List.Edits.{length-remove}
use Rattle.std.proofs.lemmas.Option.{get_or_from_slice_get, same_Some, slice_get-get_or}
use Rattle.std.specs.List.{filter, remove}
use Rattle.std.specs.Option.{option_map}
use Rattle.nv_region.specs.Region.{Region, size}
use Rattle.nv_region.specs.RegionState.{RegionState, is_steady, steady_unburnt}
use Rattle.nv_super.specs.declared.faults.Fault.{Fault}
use Rattle.nv_super.specs.declared.owners.Owner.{Owner}
use Rattle.nv_super.specs.Layout.{IsLayout, Layout}
use Rattle.nv_outcome.specs.Outcome.{IsFree, IsOutcome}
use Rattle.nv_outcome.specs.Same.{is_lasting}
use Rattle.nv_outcome.proofs.SuperOf.{layout_of_super}
use Rattle.nv_tree.specs.Tree.{Node, SameNodes, SameTree, Tree}
use Rattle.nv_tree.specs.Refusals.{first_refusal}
use Rattle.nv_tree.specs.declared.refusal.Refusal.{Refusal}
use Rattle.nv_tree.specs.declared.refusal.Refusal.TheVariants.{Memory, NotFound, ReadOnly, Stopped}
use Rattle.nv_tree.proofs.Same.{same_itself, same_transitive}
use Rattle.nv_deadpages.specs.Dead.{IsDead, IsFirstDead}
use Rattle.nv_deadpages.specs.InTurn.{GoInTurn}
use Rattle.nv_deadpages.specs.declared.in_turn.DeadPages.{DeadPages}
use Rattle.nv_scan.specs.declared.piece.Row.{Row}
use Rattle.nv_mounted.specs.Held.{Held, Store, with_inode}
use Rattle.nv_mounted.specs.Cleaned.{cleaned}
use Rattle.nv_mounted.specs.Mounted.{IsMounted, ShowsSound}
use Rattle.nv_mounted.proofs.Owning.{other_held, same_held}
use Rattle.nv_rows.specs.Rows.{inodes_of, place_in, row_of}
use Rattle.nv_rows.proofs.Places.{at_place, in_use, numbered, place_within}
use Rattle.nv_super.proofs.Members.{stands}
use Rattle.nv_steps.proofs.CleanedLog.{one_first_dead}
use Rattle.nv_steps.proofs.RowOf.{row_at}
use Rattle.nv_commit.proofs.Left.{one_held}
use Rattle.nv_calls.specs.CleanCall.{IsKnown, PageWent, ShowsCleaned, clean_inode_tests}
use Rattle.nv_calls.specs.Mount.{IsKept, Mount}
use Rattle.nv_calls.specs.Same.{KeepsMount}
use Rattle.nv_calls.specs.World.{world_of}
use Rattle.nv_calls.proofs.DeadPages.{turns_prop}
use Rattle.nv_calls.proofs.Mounts.{faultless, mounted_of_kept, mounted_with}
use Rattle.nv_paths.specs.Seen.{node_of, tree_of}
use Rattle.nv_history.proofs.Cleaned.{row_there}
use Rattle.nv_session.proofs.Settled.{settled}
use Rattle.nv_script.specs.declared.cleaning.Logs.TheVariants as which
use Rattle.nv_script.specs.Cleaning.{AreShort, CameBack, CanClean, HasAtMost, HasDeadPages, HasFewer, HasTurns, IsOneOf, IsPageOf, LosesPages, NeedsPages}
use Rattle.nv_script.proofs.FreedPages.{came_of_all, few_came, freed, more_came, none_came, one_came, page_before, was_page}

abbrev tree : Mount RegionState → Tree
tree m = tree_of m.memory.region m.rows

abbrev Keeps : Mount RegionState → Type 0
Keeps m = IsKept m.memory.region m.sup m.layout m.rows m.free m.faults m.read_only m.stopped

-- ---- pages that go

pub loses_none : (m : Mount RegionState) (Asked : ℕ → Type 0) → CanClean m → LosesPages m m Asked 0
loses_none m Asked can = record {
  can = can;
  as_long = refl;
  sup = refl;
  layout = refl;
  faults = refl;
  tree = same_itself (tree m);
  blocks = [];
  count = refl;
  came_back = none_came m.memory.region m.layout Asked;
  none = λ _. refl;
  needs = λ i needs. needs;
}

pub loses_more : (a b c : Mount RegionState) (Asked : ℕ → Type 0) (j k n : ℕ) → j + k ≡ n → LosesPages a b Asked j → LosesPages b c Asked k → LosesPages a c Asked n
loses_more a b c Asked j k n is s r = record {
  can = r.can;
  as_long = r.as_long ∙ s.as_long;
  sup = r.sup ∙ s.sup;
  layout = r.layout ∙ s.layout;
  faults = r.faults ∙ s.faults;
  tree = same_transitive (tree c) (tree b) (tree a) r.tree s.tree;
  blocks = s.blocks ++ r.blocks;
  count = (let long = length-append s.blocks r.blocks in let first = s.count in let second = r.count in omega (arith, long, first, second, is));
  came_back = more_came a.memory.region b.memory.region c.memory.region a.layout Asked s.blocks r.blocks s.came_back (subst (λ (x : Layout). CameBack b.memory.region c.memory.region x Asked r.blocks) s.layout r.came_back);
  none = λ e. r.none (omega (arith, is, e)) ∙ s.none (omega (arith, is, e));
  needs = λ i needs. r.needs i (s.needs i needs);
}

pub loses_of_all : (a b : Mount RegionState) (Few Many : ℕ → Type 0) (n : ℕ) → ((i : ℕ) → Few i → Many i) → LosesPages a b Few n → LosesPages a b Many n
loses_of_all a b Few Many n wider s = record {
  can = s.can;
  as_long = s.as_long;
  sup = s.sup;
  layout = s.layout;
  faults = s.faults;
  tree = s.tree;
  blocks = s.blocks;
  count = s.count;
  came_back = came_of_all a.memory.region b.memory.region a.layout Few Many s.blocks wider s.came_back;
  none = s.none;
  needs = s.needs;
}

-- an inode in use stays so
used_by : (o p : Option Node) → SameNodes o p → is_none p ≡ false → is_none o ≡ false
used_by None None same e = e
used_by None (Some b) same e = absurd same
used_by (Some a) p same e = refl

pub used_still : (m n : Mount RegionState) (Asked : ℕ → Type 0) (pages i : ℕ) → LosesPages m n Asked pages → is_none (tree m i) ≡ false → is_none (tree n i) ≡ false
used_still m n Asked pages i loses used = used_by (tree n i) (tree m i) (loses.tree i) used

-- no more go than there are blocks
pub few_lost : (a b : Mount RegionState) (Asked : ℕ → Type 0) (n : ℕ) → LosesPages a b Asked n → n ≤ a.layout.sup.blocks
few_lost a b Asked n s = (let few = few_came a.memory.region b.memory.region a.layout Asked s.blocks s.came_back in let count = s.count in omega (arith, few, count))

-- ---- one page

-- a call that was done hasn't been stopped
pub runs_after : {A B : Type 0} (x : A) (stopped : Bool) → (IsTrue stopped → (Ok x ≡ Err Stopped) × B) → stopped ≡ false
runs_after x true done = absurd (let wrong : Ok x ≡ Err Stopped = (done refl).0 in cc)
runs_after x false done = refl

passes : (faulty missing : Bool) (e : Refusal) → faulty ≡ false → missing ≡ false → first_refusal ((faulty, ReadOnly) ∷ (missing, NotFound) ∷ []) ≡ Some e → ⊥
passes true missing e sound there refused = cc
passes false true e sound there refused = cc
passes false false e sound there refused = cc

-- One that may be made is refused for want of memory alone.
pub wants_memory : (m n : Mount RegionState) (i : ℕ) (r : Result (Option ℕ) Refusal) (e : Refusal) → r ≡ Err e → CanClean m → is_none (tree m i) ≡ false
    → (m.stopped ≡ false → IfErr r (λ e. (e ≡ Memory) ⊎ ((e ≡ Stopped) ⊎ (first_refusal (clean_inode_tests (world_of m) (tree m) i) ≡ Some e))))
    → (m.stopped ≡ false → (IsTrue n.stopped → (r ≡ Err Stopped) × IsTrue n.memory.burnt) × (r ≡ Err Stopped → IsTrue n.stopped)) → IsTrue (is_steady n.memory) → e ≡ Memory
wants_memory m n i r e is can used refused stopped steady =
    let told = subst (λ (x : Result (Option ℕ) Refusal). IfErr x (λ e. (e ≡ Memory) ⊎ ((e ≡ Stopped) ⊎ (first_refusal (clean_inode_tests (world_of m) (tree m) i) ≡ Some e)))) is (refused can.runs) in
    elim told [
      | inl memory ↦ memory
      | inr rest ↦ elim rest [
        | inl stops ↦ absurd (
            let said = stopped can.runs in
            let burnt = (said.0 (said.1 (is ∙ ap Err stops))).1 in
            true≢false (sym burnt ∙ steady_unburnt n.memory steady))
        | inr test ↦ absurd (passes m.read_only (is_none (tree m i)) e can.writes used test)
      ]
    ]

-- The search for pages is refused for want of memory alone.
pub memory_alone : (m : Mount RegionState) (i : ℕ) (r : Result (Option DeadPages) Refusal) (e : Refusal) → r ≡ Err e → CanClean m → is_none (tree m i) ≡ false
    → (m.stopped ≡ false → IfErr r (λ e. (e ≡ Memory) ⊎ (first_refusal (clean_inode_tests (world_of m) (tree m) i) ≡ Some e))) → e ≡ Memory
memory_alone m i r e is can used refused =
    let told = subst (λ (x : Result (Option DeadPages) Refusal). IfErr x (λ e. (e ≡ Memory) ⊎ (first_refusal (clean_inode_tests (world_of m) (tree m) i) ≡ Some e))) is (refused can.runs) in
    elim told [ inl memory ↦ memory | inr test ↦ absurd (passes m.read_only (is_none (tree m i)) e can.writes used test) ]

-- the number of pages of what is held
abbrev pages_of : Option Held → ℕ
pages_of None = 0
pages_of (Some h) = length h.pages

-- a log that has no page at all needs each
pub no_page : (m : Mount RegionState) (i : ℕ) → HasAtMost m i 0 → NeedsPages m.memory.region m.layout i
no_page m i most held h shown there k dead = let few = most held h shown there in omega (arith, few, dead.more)

free_prop : (R : Region) (l : Layout) (q : ℕ) → IsProp (IsFree R l q)
free_prop R l q = hlevel (props, ℕ_set)

page_prop : (R : Region) (l : Layout) (i b : ℕ) → IsProp (IsPageOf R l i b)
page_prop R l i b = hlevel props

module _ (m : Mount RegionState) (kept : Keeps m) (can : CanClean m) where
  -- Something that is a proposition holds, if it does of what is held of an inode in use.
  pub with_held : (i : ℕ) → is_none (tree m i) ≡ false → (A : Type 0) → IsProp A → ((held : Store) (h : Held) → ShowsSound m.memory.region m.layout held → held i ≡ Some h → A) → A
  with_held i used A prop then = by (tree m i) refl used where
    by : (o : Option Node) → tree m i ≡ o → is_none o ≡ false → A
    by None at there = absurd (cc)
    by (Some node) at there = ∥∥₁_elim (mounted_of_kept kept can.runs can.writes) prop (λ w. holds w.0 w.1) where
      holds : (held : Store) → IsMounted m.memory.region m.layout held m.rows m.free.pools → A
      holds held mounted =
          let row = row_there m.memory.region m.rows i node at in
          let keeps = mounted.keeps in
          let rows = keeps.in_rows in
          let told = rows.each row.0 row.1 in
          then held told.0 mounted.sound (subst (λ (k : ℕ). held k ≡ Some told.0) row.2 told.1)

  -- a log has as many pages as its row
  pub as_in_row : (i : ℕ) (row : Row) → row_of m.rows i ≡ Some row → HasAtMost m i (length row.pages.items)
  as_in_row i row at held h shown there = ∥∥₁_elim (mounted_with kept can.runs held shown) (hlevel (props, ℕ_set)) (λ mounted. (
      let keeps = mounted.keeps in
      let rows = keeps.in_rows in
      let told = rows.each row (stands m.rows (place_in m.rows i) row (at_place m.rows i ∙ at)) in
      let here : held i ≡ Some told.0 = subst (λ (k : ℕ). held k ≡ Some told.0) (numbered m.rows i row at) told.1 in
      let keeps_row = told.2 in
      let same : Some told.0 ≡ Some h = sym here ∙ there in
      let pages : length told.0.pages ≡ length h.pages = ap pages_of same in
      omega (arith, pages, ap (λ (xs : List ℕ). length xs) keeps_row.pages)))

  -- an inode without a row has no log
  pub no_row : (i : ℕ) → row_of m.rows i ≡ None → NeedsPages m.memory.region m.layout i
  no_row i none held h shown there = ∥∥₁_elim (mounted_with kept can.runs held shown) (hlevel props) (λ mounted. absurd (
      let keeps = mounted.keeps in
      let rows = keeps.in_rows in
      let w = rows.all i h there in
      let place = w.1 in
      let has : row_of m.rows w.0.inode ≡ Some w.0 = row_at m.rows place.0 w.0 rows.rising (slice_get-get_or m.rows place.0 w.0 place.1 ∙ ap Some place.2) in
      let no : None ≡ Some w.0 = sym none ∙ ap (row_of m.rows) (sym w.2) ∙ has in
      cc))

  -- what is held of a region that a page left, by what was held of it before
  module _ (n : Mount RegionState) (i : ℕ) (b : ℕ) (laid : n.layout ≡ m.layout)
      (log : (held : Store) (h : Held) → ShowsSound m.memory.region m.layout held → held i ≡ Some h → ShowsCleaned m.memory.region n.memory.region m.layout held i h (Some b)) (used : is_none (tree m i) ≡ false) where
    -- Something that is a proposition holds of what was held and went.
    by_page : (A : Type 0) → IsProp A → ((held : Store) (h : Held) (k : ℕ) → ShowsSound m.memory.region m.layout held → held i ≡ Some h → PageWent n.memory.region m.layout held i h b k → A) → A
    by_page A prop then = with_held i used A prop (λ held h shown there. ∥∥₁_elim (log held h shown there) prop (λ v. then held h v.0 shown there v.1))

    -- and what is held now is that without the page
    held_now : (held other : Store) (h : Held) (k : ℕ) → PageWent n.memory.region m.layout held i h b k → ShowsSound n.memory.region n.layout other → other ≡ with_inode held i (Some (cleaned h k))
    held_now held other h k went sound =
        let before = went.sound in
        let now : ShowsSound n.memory.region m.layout other = subst (λ (l : Layout). ShowsSound n.memory.region l other) laid sound in
        one_held now.shows before.shows

    others : (j : ℕ) → NeedsPages m.memory.region m.layout j → NeedsPages n.memory.region n.layout j
    others j needs other g sound is = by_page (IsFirstDead n.layout.sup g.kind j g.created g.entries g.pages None) (hlevel props) (λ held h k shown there went.
        elim (cases_eq j i) [
          | inl same ↦ absurd (let first = went.first in needs_none held h k shown there first.0 same)
          | inr apart ↦ (
              let still : held j ≡ Some g = sym (other_held held i j (Some (cleaned h k)) apart) ∙ sym (ap (λ (st : Store). st j) (held_now held other h k went sound)) ∙ is in
              subst (λ (l : Layout). IsFirstDead l.sup g.kind j g.created g.entries g.pages None) (sym laid) (needs held g shown still)
              )
        ]) where
          needs_none : (held : Store) (h : Held) (k : ℕ) → ShowsSound m.memory.region m.layout held → held i ≡ Some h → IsDead m.layout.sup h.kind i h.created h.entries h.pages k → j ≡ i → ⊥
          needs_none held h k shown there dead same = needs held h shown (ap held same ∙ there) k (subst (λ (x : ℕ). IsDead m.layout.sup h.kind x h.created h.entries h.pages k) (sym same) dead)

    -- the log of the inode is that without the page
    log_now : (held other : Store) (h g : Held) (k : ℕ) → PageWent n.memory.region m.layout held i h b k → ShowsSound n.memory.region n.layout other → other i ≡ Some g → g ≡ cleaned h k
    log_now held other h g k went sound is = same_Some g (cleaned h k) (sym is ∙ ap (λ (st : Store). st i) (held_now held other h k went sound) ∙ same_held held i (Some (cleaned h k)))

    one_fewer : HasFewer m n i 1
    one_fewer count most other g sound is = by_page (length g.pages ≤ count) (hlevel (props, ℕ_set)) (λ held h k shown there went. (
        let pages : length g.pages ≡ length (remove h.pages k) = ap (λ (x : Held). length x.pages) (log_now held other h g k went sound is) in
        let first = went.first in
        let dead = first.0 in
        let before = most held h shown there in
        let fewer : length (remove h.pages k) + 1 ≡ length h.pages = length-remove h.pages k (omega (arith, dead.more)) in
        omega (arith, pages, before, fewer)))

    -- and the pages behind it go on
    turns_left : (place count : ℕ) → HasTurns m i place (suc count) → HasTurns n i place count
    turns_left place count turns other g sound is = by_page (GoInTurn n.layout.sup g.kind i g.created place count g.entries g.pages) (turns_prop n.layout.sup g.kind i g.created place count g.entries g.pages) (λ held h k shown there went.
        let now = turns held h shown there in
        let same : k ≡ place = same_Some k place (one_first_dead m.layout.sup h.kind i h.created h.entries h.pages (Some k) (Some place) went.first now.0) in
        let log : g ≡ cleaned h place = log_now held other h g k went sound is ∙ ap (cleaned h) same in
        subst (λ (z : Layout × Held). GoInTurn z.0.sup z.1.kind i z.1.created place count z.1.entries z.1.pages) (λ t. (sym laid t, sym log t)) now.1)

    -- the page came back, and no other block
    page_came : CameBack m.memory.region n.memory.region m.layout (λ j. j ≡ i) (b ∷ [])
    page_came = one_came m.memory.region n.memory.region m.layout i b
        (λ q differs free. by_page (IsFree m.memory.region m.layout q) (free_prop m.memory.region m.layout q) (λ held h k shown there went.
        elim ((freed m.memory.region n.memory.region m.layout held i b k h shown there went q).0 free) [ inl old ↦ old | inr same ↦ absurd (differs (same ∙ sym went.block)) ]))
        (λ q free. by_page (IsFree n.memory.region m.layout q) (free_prop n.memory.region m.layout q) (λ held h k shown there went.
        (freed m.memory.region n.memory.region m.layout held i b k h shown there went q).1 (inl free)))
        (by_page (IsFree n.memory.region m.layout b) (free_prop n.memory.region m.layout b) (λ held h k shown there went.
        (freed m.memory.region n.memory.region m.layout held i b k h shown there went b).1 (inr went.block)))
        (by_page (IsPageOf m.memory.region m.layout i b) (page_prop m.memory.region m.layout i b) (λ held h k shown there went.
        subst (λ (x : ℕ). IsPageOf m.memory.region m.layout i x) (sym went.block) (was_page m.memory.region n.memory.region m.layout held i b k h shown there went)))
        (λ j q page. by_page (IsPageOf m.memory.region m.layout j q) (page_prop m.memory.region m.layout j q) (λ held h k shown there went.
        page_before m.memory.region n.memory.region m.layout held i b k h shown there went j q page))

  -- A page that is known to go has gone, whatever the call has answered.
  some_went : (n : Mount RegionState) (i place : ℕ) (answer : Option ℕ) → is_none (tree m i) ≡ false → IsKnown m.memory.region m.layout i (Some place)
      → ((held : Store) (h : Held) → ShowsSound m.memory.region m.layout held → held i ≡ Some h → ShowsCleaned m.memory.region n.memory.region m.layout held i h answer) → (block : ℕ) × (answer ≡ Some block)
  some_went n i place (Some block) used known log = (block, refl)
  some_went n i place None used known log = absurd (with_held i used ⊥ (hlevel props) (λ held h shown there. (
      let none = (log held h shown there).0 in
      let first = known held h shown there in
      none place first.0)))

  module _ (n : Mount RegionState) (i place : ℕ) (answer : Option ℕ) (used : is_none (tree m i) ≡ false) (keeps : KeepsMount m n) (known : IsKnown m.memory.region m.layout i (Some place))
      (log : (held : Store) (h : Held) → ShowsSound m.memory.region m.layout held → held i ≡ Some h → ShowsCleaned m.memory.region n.memory.region m.layout held i h answer) where
    abbrev block : ℕ
    block = (some_went n i place answer used known log).0

    log_some : (held : Store) (h : Held) → ShowsSound m.memory.region m.layout held → held i ≡ Some h → ShowsCleaned m.memory.region n.memory.region m.layout held i h (Some block)
    log_some held h shown there = subst (λ (o : Option ℕ). ShowsCleaned m.memory.region n.memory.region m.layout held i h o) (some_went n i place answer used known log).1 (log held h shown there)

    -- what the call leaves
    pub page_lost : n.stopped ≡ false → IsTrue (is_steady n.memory) → size n.memory.region ≡ size m.memory.region → SameTree (tree n) (tree m) → LosesPages m n (λ j. j ≡ i) 1
    page_lost runs steady long same = record {
      can = record { runs = runs; writes = keeps.read_only ∙ can.writes; steady = steady };
      as_long = long;
      sup = keeps.sup;
      layout = keeps.layout;
      faults = keeps.faults;
      tree = same;
      blocks = block ∷ [];
      count = refl;
      came_back = page_came n i block keeps.layout log_some used;
      none = λ e. absurd (omega (arith, e));
      needs = others n i block keeps.layout log_some used;
    }

    pub page_fewer : HasFewer m n i 1
    page_fewer = one_fewer n i block keeps.layout log_some used

    pub page_turns : (count : ℕ) → HasTurns m i place (suc count) → HasTurns n i place count
    page_turns count = turns_left n i block keeps.layout log_some used place count

  -- some pages go, where some were found
  pub some_dead : (i : ℕ) (dead : DeadPages) → is_none (tree m i) ≡ false → HasDeadPages m i (Some dead) → 0 < dead.count
  some_dead i dead used found = with_held i used (0 < dead.count) (hlevel (props, ℕ_set)) (λ held h shown there. (found held h shown there).0)

  -- it shows an outcome without a fault
  pub shows_now : (doubled : List (ℕ × Owner)) × IsOutcome m.memory.region (record { sup = m.layout.sup; tables = m.layout.chains; rows = m.rows; free = m.free.pools; doubled = doubled; faults = [] })
  shows_now =
      let none : m.faults ≡ [] = faultless kept can.writes in
      let lasting : filter is_lasting m.faults ≡ [] = ap (filter is_lasting) none in
      settled m.memory.region m.layout m.rows m.free.pools
      (∥∥₁_map (kept.shown can.runs) (λ w. (w.0, subst (λ (fs : List Fault). IsOutcome m.memory.region (record { sup = m.layout.sup; tables = m.layout.chains; rows = m.rows; free = m.free.pools; doubled = w.0; faults = fs })) lasting w.1)))

  -- so its superblock's numbers are those of a layout
  pub laid_here : IsLayout m.layout.sup
  laid_here = layout_of_super m.memory.region m.layout.sup shows_now.1.sup

  pub layout_here : IsLayout m.sup
  layout_here = subst IsLayout kept.tables laid_here

-- ---- a log

pub row_used : (m : Mount RegionState) (i : ℕ) (row : Row) → row_of m.rows i ≡ Some row → is_none (tree m i) ≡ false
row_used m i row some = ap (λ (o : Option Row). is_none (option_map (node_of m.memory.region) o)) some

-- pages that went one after another
pub fewer_none : (m : Mount RegionState) (i : ℕ) → HasFewer m m i 0
fewer_none m i n most = (let same : 0 + n ≡ n = omega arith in subst (λ (x : ℕ). HasAtMost m i x) same most)

pub fewer_more : (a b c : Mount RegionState) (i j k n : ℕ) → j + k ≡ n → HasFewer a b i j → HasFewer b c i k → HasFewer a c i n
fewer_more a b c i j k n is first second count most = second count (first (k + count) (let same : n + count ≡ j + (k + count) = omega (arith, is) in subst (λ (x : ℕ). HasAtMost a i x) same most))

-- so many pages may be left in the log
pub left_fewer : (b c : Mount RegionState) (i gone more pages : ℕ) → HasFewer b c i more → ((n : ℕ) → pages ≤ gone + n → HasAtMost b i n) → (n : ℕ) → pages ≤ gone + more + n → HasAtMost c i n
left_fewer b c i gone more pages fewer left n enough = fewer n (left (more + n) (omega (arith, enough)))

-- the log needs each of its pages, where none was found
pub none_dead : (m : Mount RegionState) (i : ℕ) (dead : Option DeadPages) → dead ≡ None → HasDeadPages m i dead → NeedsPages m.memory.region m.layout i
none_dead m i dead is found = subst (HasDeadPages m i) is found

pub known_next : (m : Mount RegionState) (i place count : ℕ) → HasTurns m i place (suc count) → IsKnown m.memory.region m.layout i (Some place)
known_next m i place count turns held h shown there = (turns held h shown there).0

pub first_turns : (m : Mount RegionState) (i : ℕ) (dead : DeadPages) → HasDeadPages m i (Some dead) → HasTurns m i dead.first dead.count
first_turns m i dead found held h shown there = (found held h shown there).1

pub left_first : (m : Mount RegionState) (kept : Keeps m) (can : CanClean m) (i pages : ℕ) (row : Row) → row_of m.rows i ≡ Some row → pages ≡ length row.pages.items → (n : ℕ) → pages ≤ 0 + n → HasAtMost m i n
left_first m kept can i pages row some is n e held h shown there = let most = as_in_row m kept can i row some held h shown there in omega (arith, most, is, e)

pub short_one : (m : Mount RegionState) (i : ℕ) → NeedsPages m.memory.region m.layout i → AreShort m (which.Of i)
short_one m i needs j same = subst (λ (x : ℕ). NeedsPages m.memory.region m.layout x) (sym same) needs

-- ---- all logs

-- one log more
pub all_done : (b c : Mount RegionState) (Asked : ℕ → Type 0) (gone at : ℕ) (numbers : List ℕ) → LosesPages b c Asked gone
    → ((k : ℕ) → k < at → NeedsPages b.memory.region b.layout (get_or numbers k 0)) → NeedsPages c.memory.region c.layout (get_or numbers at 0) → (k : ℕ) → k < at + 1 → NeedsPages c.memory.region c.layout (get_or numbers k 0)
all_done b c Asked gone at numbers more done here k below = elim (cases_eq k at) [
  | inl same ↦ subst (λ (x : ℕ). NeedsPages c.memory.region c.layout (get_or numbers x 0)) (sym same) here
  | inr apart ↦ more.needs (get_or numbers k 0) (done k (omega (arith, below, apart)))
]

-- the number of an inode in use stands among those of the rows
number_there : (rows : List Row) (i : ℕ) (row : Row) → row_of rows i ≡ Some row → (k : ℕ) × (k < length (inodes_of rows)) × (get_or (inodes_of rows) k 0 ≡ i)
number_there rows i row some =
    let inside = place_within rows i (in_use rows i row some) in (
      place_in rows i,
      omega (arith, inside, length-map rows (λ (r : Row). r.inode)),
      get_or-map (λ (r : Row). r.inode) rows (place_in rows i) row 0 inside
          ∙ ap (λ (r : Row). r.inode) (get_or_from_slice_get rows (place_in rows i) row row (at_place rows i ∙ some))
          ∙ numbered rows i row some,
    )

-- Only an inode in use has a log. So all logs are short once those of the inodes that were in use are.
all_needed : (m n : Mount RegionState) → Keeps m → CanClean m → (Asked : ℕ → Type 0) (pages : ℕ) → LosesPages m n Asked pages
    → ((k : ℕ) → k < length (inodes_of m.rows) → NeedsPages n.memory.region n.layout (get_or (inodes_of m.rows) k 0)) → (i : ℕ) → NeedsPages n.memory.region n.layout i
all_needed m n kept can Asked pages lost done i = by (row_of m.rows i) refl where
  by : (o : Option Row) → row_of m.rows i ≡ o → NeedsPages n.memory.region n.layout i
  by None none = lost.needs i (no_row m kept can i none)
  by (Some row) some = let there = number_there m.rows i row some in subst (λ (x : ℕ). NeedsPages n.memory.region n.layout x) there.2 (done there.0 there.1)

pub all_short : {E : Type 0} (m n : Mount RegionState) → Keeps m → CanClean m → (numbers : List ℕ) → numbers ≡ inodes_of m.rows → (r : Result ℕ E) → IfOk r (LosesPages m n (IsOneOf which.All))
    → OnOk r ((k : ℕ) → k < length numbers → NeedsPages n.memory.region n.layout (get_or numbers k 0)) → OnOk r (AreShort n which.All)
all_short m n kept can numbers are (Ok pages) lost done =
    λ i asked. all_needed m n kept can (IsOneOf which.All) pages lost (subst (λ (xs : List ℕ). (k : ℕ) → k < length xs → NeedsPages n.memory.region n.layout (get_or xs k 0)) are done) i
all_short m n kept can numbers are (Err e) lost done = tt
