-- What `upgrade` of what is mounted leaves, for each state that the session stands for.
use Rattle.std.proofs.Common.{◌≡◌, inl, inr, ◌&&◌, ℕ, Bool, true, false, not, eqb, IsTrue, List, [], ◌∷◌, Option, Some, None, Result, Ok, Err, IfErr, IfOk, OnOk, refl, sym, ap, subst, ◌∙◌}
use Rattle.std.specs.Prelude.{MatchResult, codes}
use Rattle.nv_region.specs.Region.{Region}
use Rattle.nv_region.specs.RegionState.{RegionState, fenced_or_last, is_off, is_steady, steady_unburnt}
use Rattle.nv_region.specs.Stops.{MayBeLeft}
use Rattle.nv_region.specs.declared.memory.Fuse.{Fuse}
use Rattle.nv_region.specs.declared.memory.Fuse.TheVariants as fuses
use Rattle.nv_super.specs.declared.superblock.Super.{Super}
use Rattle.nv_super.specs.Layout.{Layout}
use Rattle.nv_inode.specs.Upgraded.{IsUpgraded, upgraded_layout}
use Rattle.nv_outcome.specs.Same.{lasting_outcome}
use Rattle.nv_tree.specs.Tree.{SameTree}
use Rattle.nv_tree.specs.Refusals.{IsRefusedBy, Tests, first_refusal, refusal_word}
use Rattle.nv_tree.specs.declared.refusal.Refusal.{Refusal}
use Rattle.nv_tree.specs.declared.refusal.Refusal.TheVariants.{IsVersion2, Memory, ReadOnly, Stopped}
use Rattle.nv_text.specs.Answers.{ok_line, refused_line, stopped_line}
use Rattle.nv_calls.specs.Mount.{IsKept, Mount, has_faults, told}
use Rattle.nv_calls.specs.Same.{SameMount}
use Rattle.nv_calls.proofs.Mounts.{faultless}
use Rattle.nv_paths.specs.Seen.{tree_of}
use Rattle.nv_history.specs.Asking as asking
use Rattle.nv_history.specs.Said.{Upgrade}
use Rattle.nv_history.specs.declared.calls.Answer.{Answer}
use Rattle.nv_history.specs.declared.calls.Answer.TheVariants.{Done}
use Rattle.nv_session.specs.Commands.{answer_line}
use Rattle.nv_session.specs.Machine.{State, AskedUpgrade, DoesUpgrade, StopsUpgrade, UpgradesMounted, upgrade_asked}
use Rattle.nv_session.specs.Machine.{Upgrades as UpgradesNow}
use Rattle.nv_session.specs.Sessions.{IsMountOf, IsSettled, Moves, PutsMount, SettlesCall, ShowsOutcome, StandsFor, TakesMount, with_fuse}
use Rattle.nv_session.specs.declared.store.Store.TheVariants as stores
use Rattle.nv_session.specs.declared.session.Session.{Session}
use Rattle.nv_session.proofs.Calling.{MakesCall}
use Rattle.nv_session.proofs.Moved.{can_burn, left_size}
use Rattle.nv_session.proofs.Standing as standing
use Rattle.nv_session.proofs.Standing.{fused, not_stopped, not_true, shows_own, shows_still}

-- its tests
abbrev tests_of : Mount RegionState → Tests
tests_of m = asking.upgrade_asked m

-- what is mounted can be written where no test holds
writable_by : (read_only two : Bool) → first_refusal ((read_only, ReadOnly) ∷ (two, IsVersion2) ∷ []) ≡ None → read_only ≡ false
writable_by true two none = absurd (cc)
writable_by false two none = refl

-- where nothing is mounted
pub not_upgraded_moves : (armed : Bool) (fuse : Fuse) (old new : Session) (text : List ℕ) → TakesMount fuse old None new → text ≡ refused_line (codes "NotMounted") → Moves (UpgradesNow armed) old text new
not_upgraded_moves armed fuse old new text takes said = λ state stands.
    let none : IsMountOf state.mounted None = subst (λ (o : Option (Mount RegionState)). IsMountOf state.mounted o) takes.0 stands.mounted in
    (state, inl (by state.mounted none state.region state), subst (λ (s : Session). StandsFor s state) (sym takes.1) stands) where
      by : (mounted : Option Region) → IsMountOf mounted None → (region : Option Region) (state : State) → UpgradesMounted mounted region state text state
      by None is region state = (said, refl)
      by (Some R) is region state = absurd is

module _ (fuse : Fuse) (old mid new : Session) (m n : Mount RegionState) (answer : Result Answer Refusal) (takes : TakesMount fuse old (Some m) mid) (before : IsKept m.memory.region m.sup m.layout m.rows m.free m.faults m.read_only m.stopped)
    (kept : IsKept n.memory.region n.sup n.layout n.rows n.free n.faults n.read_only n.stopped) (settled : n.stopped ≡ false → IsSettled n.memory) (made : MakesCall Upgrade m n answer) (state : State) (stands : StandsFor old state) where
  here : state.region ≡ Some m.memory.region
  here = standing.here fuse old mid new m takes state stands

  is_mounted : IsMountOf state.mounted (Some m)
  is_mounted = standing.is_mounted fuse old mid new m takes state stands

  runs_before : m.stopped ≡ false
  runs_before = by state.mounted is_mounted where
    by : (mounted : Option Region) → IsMountOf mounted (Some m) → m.stopped ≡ false
    by None is = absurd is
    by (Some R) shows = shows.runs

  -- what it is asked of
  module _ (R : Region) (shows : ShowsOutcome R m) where
    abbrev asked : AskedUpgrade R m.memory.region
    asked = record {
      shown = told m.layout m.rows m.free shows.doubled m.faults;
      of_shown = shows.shown;
      here = lasting_outcome (told m.layout m.rows m.free shows.doubled m.faults);
      of_here = shows.here;
    }

    same_tests : first_refusal (tests_of m) ≡ first_refusal (upgrade_asked asked)
    same_tests =
        ap (λ (b : Bool). first_refusal ((b, ReadOnly) ∷ (eqb m.sup.version 2, IsVersion2) ∷ [])) before.writes
        ∙ ap (λ (s : Super). first_refusal ((has_faults m.faults, ReadOnly) ∷ (eqb s.version 2, IsVersion2) ∷ [])) (sym before.tables)

  -- the upgrade of what is mounted
  by_mount : (text : List ℕ) (next : State) → ((R : Region) → ShowsOutcome R m → UpgradesMounted (Some R) (Some m.memory.region) state text next) → UpgradesMounted state.mounted state.region state text next
  by_mount text next call = subst (λ (x : Option Region). UpgradesMounted state.mounted x state text next) (sym here) (by state.mounted is_mounted) where
    by : (mounted : Option Region) → IsMountOf mounted (Some m) → UpgradesMounted mounted (Some m.memory.region) state text next
    by None is = absurd is
    by (Some R) shows = call R shows

  abbrev Moved : List ℕ → Type 0
  Moved text = (next : State) × UpgradesNow (not (is_off fuse)) state text next × StandsFor new next

  -- ---- done

  module _ (done : Answer) (is : answer ≡ Ok done) where
    laid : n.layout ≡ upgraded_layout m.layout
    laid = subst (λ (r : Result Answer Refusal). MatchResult r (λ _. n.layout ≡ upgraded_layout m.layout) (λ _. n.layout ≡ m.layout)) is made.kept.laid

    logged : (done ≡ Done) × IsUpgraded m.memory.region m.sup.cpus n.memory.region
    logged = subst (λ (r : Result Answer Refusal). IfOk r (λ x. (x ≡ Done) × IsUpgraded m.memory.region m.sup.cpus n.memory.region)) is (made.logged [] [] (refl, refl))

    none : first_refusal (tests_of m) ≡ None
    none = subst (λ (r : Result Answer Refusal). OnOk r (first_refusal (tests_of m) ≡ None)) is (made.allowed (tests_of m) refl)

    runs : n.stopped ≡ false
    runs = not_true n.stopped (λ stops. (let wrong : ◌≡◌ {A = Result Answer Refusal} (Ok done) (Err Stopped) = sym is ∙ ((made.kept.stopped runs_before).0 stops).0 in cc))

    clear : n.faults ≡ []
    clear = faultless kept (made.kept.mode ∙ writable_by m.read_only (eqb m.sup.version 2) none)

    does : (R : Region) (shows : ShowsOutcome R m) (text : List ℕ) → text ≡ ok_line → (next : State) → next ≡ record state { region = Some n.memory.region; mounted = Some n.memory.region } → DoesUpgrade R m.memory.region state text next
    does R shows text said next left = (let own = shows_own n kept runs clear in (
      asked R shows,
      sym (same_tests R shows) ∙ none,
      n.memory.region,
      subst (λ (s : Super). IsUpgraded m.memory.region s.cpus n.memory.region) (sym before.tables) logged.1,
      record {
        as_long = made.kept.length;
        after = told n.layout n.rows n.free own.doubled n.faults;
        shown = own.shown;
        own = kept.own runs;
        sup = ap (λ (l : Layout). l.sup) laid;
        layout = laid;
        faultless = clear;
        tree = subst (λ (r : Result Answer Refusal). OnOk r (SameTree (tree_of n.memory.region n.rows) (tree_of m.memory.region m.rows))) is (made.changed [] [] (refl, refl));
      },
      said,
      left,
    ))

    done_moves : (text : List ℕ) → text ≡ answer_line done → PutsMount n mid new → Moved text
    done_moves text said puts =
        let next : State = record state { region = Some n.memory.region; mounted = Some n.memory.region } in (
          next,
          inl (by_mount text next (λ R shows. inr (does R shows text (said ∙ ap answer_line logged.0) next refl))),
          standing.stands_with fuse old mid new m takes state stands (stores.Mounted (with_fuse fuses.Off n)) next puts refl (fused fuses.Off n.memory.region n (shows_own n kept runs clear)) refl refl refl (settled runs),
        )

  -- ---- refused

  refused_moves : (text : List ℕ) (e : Refusal) → answer ≡ Err e → (e ≡ Stopped → ⊥) → (e ≡ Memory → ⊥) → text ≡ refused_line (refusal_word e) → PutsMount n mid new → Moved text
  refused_moves text e is running fits said puts =
      let same : SameMount m n = subst (λ (r : Result Answer Refusal). IfErr r (λ e. (e ≡ Stopped → ⊥) → SameMount m n)) is made.kept.unchanged running in
      let first : first_refusal (tests_of m) ≡ Some e = by (subst (λ (r : Result Answer Refusal). IfErr r (IsRefusedBy (first_refusal (tests_of m)))) is (made.refused runs_before (tests_of m) refl)) in (
        state,
        inl (by_mount text state (λ R shows. inl (asked R shows, (e, sym (same_tests R shows) ∙ first, said), refl))),
        standing.stands_with fuse old mid new m takes state stands (stores.Mounted (with_fuse fuses.Off n)) state puts (here ∙ ap (λ (x : RegionState). Some x.region) (sym same.memory)) (still same state.mounted is_mounted) refl refl refl
            (settled (same.stopped ∙ runs_before)),
      ) where
        by : IsRefusedBy (first_refusal (tests_of m)) e → first_refusal (tests_of m) ≡ Some e
        by (inl want) = absurd (fits want.0)
        by (inr (inl stopped)) = absurd (running stopped)
        by (inr (inr told)) = told

        still : SameMount m n → (mounted : Option Region) → IsMountOf mounted (Some m) → IsMountOf mounted (Some (with_fuse fuses.Off n))
        still same None shows = absurd shows
        still same (Some R) shows = fused fuses.Off R n (shows_still R m n same shows)

  -- ---- stopped

  stopped_upgrade : (R : Region) (shows : ShowsOutcome R m) → IsTrue n.stopped → (left : RegionState) → MayBeLeft n.memory.region (fenced_or_last n.memory) left.region → (text : List ℕ) → text ≡ stopped_line → (next : State) → next ≡ record state { region = Some left.region; mounted = None }
      → StopsUpgrade (Some R) (Some m.memory.region) state text next
  stopped_upgrade R shows stopped left may text said next is = (
    asked R shows,
    sym before.writes ∙ writable,
    left.region,
    left_size n.memory.region (fenced_or_last n.memory) left.region may ∙ made.kept.length,
    made.any_stop [] [] (refl, refl) runs_before writable left.region may,
    said,
    is,
  ) where
    writable : m.read_only ≡ false
    writable = not_true m.read_only (λ locked. not_stopped (made.kept.read_only locked) runs_before stopped)

  stopped_moves : (text : List ℕ) → answer ≡ Err Stopped → text ≡ stopped_line → (left : RegionState) → MayBeLeft n.memory.region (fenced_or_last n.memory) left.region → IsSettled left → new ≡ record mid { store = Some (stores.Alone left) } → Moved text
  stopped_moves text is said left may settled_left puts =
      let next : State = record state { region = Some left.region; mounted = None } in (
        next,
        inr (armed, subst (λ (x : Option Region). StopsUpgrade state.mounted x state text next) (sym here) (by state.mounted is_mounted)),
        standing.stands_with fuse old mid new m takes state stands (stores.Alone left) next puts refl tt refl refl refl settled_left,
      ) where
        stopped : IsTrue n.stopped
        stopped = (made.kept.stopped runs_before).1 is

        burnt : n.memory.burnt ≡ true
        burnt = ((made.kept.stopped runs_before).0 stopped).1

        armed : IsTrue (not (is_off fuse))
        armed = can_burn (is_off fuse) (λ off. (
            let off_before : is_steady m.memory ≡ true = subst (λ (k : Mount RegionState). is_steady k.memory ≡ true) (sym takes.2) (ap (λ b. b && true) off) in
            let after = steady_unburnt n.memory (made.kept.keeps_fuse.steady off_before) in
            let wrong : true ≡ false = sym burnt ∙ after in cc))

        by : (mounted : Option Region) → IsMountOf mounted (Some m) → StopsUpgrade mounted (Some m.memory.region) state text (record state { region = Some left.region; mounted = None })
        by None shows = absurd shows
        by (Some R) shows = stopped_upgrade R shows stopped left may text said (record state { region = Some left.region; mounted = None }) refl

  by_answer : (r : Result Answer Refusal) → answer ≡ r → (text : List ℕ) → SettlesCall answer_line n r mid text new → Moved text
  by_answer (Ok done) is text settles = done_moves done is text settles.0 settles.1
  by_answer (Err e) is text (inl s) = stopped_moves text (is ∙ ap (λ (x : Refusal). Err x) s.0) s.1 s.2 s.3 s.4 s.5
  by_answer (Err e) is text (inr s) = refused_moves text e is s.0 s.1 s.2 s.3

-- An upgrade of what is mounted, by what nv_history says of the call.
pub upgraded_moves : (fuse : Fuse) (old mid new : Session) (m n : Mount RegionState) (answer : Result Answer Refusal) (text : List ℕ) → TakesMount fuse old (Some m) mid → IsKept m.memory.region m.sup m.layout m.rows m.free m.faults m.read_only m.stopped
    → IsKept n.memory.region n.sup n.layout n.rows n.free n.faults n.read_only n.stopped → (n.stopped ≡ false → IsSettled n.memory) → MakesCall Upgrade m n answer → SettlesCall answer_line n answer mid text new → Moves (UpgradesNow (not (is_off fuse))) old text new
upgraded_moves fuse old mid new m n answer text takes before kept settled made settles = λ state stands. by_answer fuse old mid new m n answer takes before kept settled made state stands answer refl text settles
