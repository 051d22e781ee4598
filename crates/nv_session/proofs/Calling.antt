-- What a file call that writes leaves, for each state that the session stands for.
use Rattle.std.proofs.Common.{◌≡◌, inl, inr, ℕ, Bool, true, false, not, ◌&&◌, nat_lt, IsTrue, List, [], ◌∷◌, Option, Some, None, Result, Ok, Err, IfErr, IfOk, OnOk, refl, sym, ap, subst, ◌∙◌}
use Rattle.std.specs.Prelude.{⊤, codes}
use Rattle.std.specs.List.{filter}
use Rattle.nv_super.specs.Layout.{Layout}
use Rattle.nv_region.specs.Region.{Region, size}
use Rattle.nv_region.specs.RegionState.{RegionState, fenced_or_last, fuse_state, is_off, is_steady, steady_unburnt}
use Rattle.nv_region.specs.Stops.{LeavesOnly, MayBeLeft}
use Rattle.nv_region.specs.declared.memory.Fuse.{Fuse}
use Rattle.nv_region.specs.declared.memory.Fuse.TheVariants as fuses
use Rattle.nv_outcome.specs.Same.{is_lasting, lasting_outcome}
use Rattle.nv_tree.specs.Path.{IsPath, Says}
use Rattle.nv_tree.specs.Tree.{SameTree}
use Rattle.nv_tree.specs.Refusals.{Path, Tests, first_refusal, refusal_word, IsRefusedBy}
use Rattle.nv_tree.specs.declared.refusal.Refusal.{Refusal}
use Rattle.nv_tree.specs.declared.refusal.Refusal.TheVariants.{Memory, Stopped}
use Rattle.nv_tree.proofs.Texts.{text_says}
use Rattle.nv_text.specs.Answers.{ok_line, refused_line, stopped_line}
use Rattle.nv_calls.specs.Mount.{IsKept, Mount, has_faults, told}
use Rattle.nv_paths.specs.Spots.{new_number}
use Rattle.nv_calls.specs.Same.{GrowsMount, IsLaidFor, KeepsMount, GrowsWhereFull, SameMount}
use Rattle.nv_paths.specs.Seen.{tree_of}
use Rattle.nv_calls.proofs.Mounts.{faultless}
use Rattle.nv_calls.specs.Effects.{Makes, Logs}
use Rattle.nv_history.specs.Called as history
use Rattle.nv_history.specs.Said.{Said}
use Rattle.nv_history.specs.declared.calls.Answer.{Answer}
use Rattle.nv_session.specs.Calls.{Asks, Asked, LeavesStopped, LeavesTables, LeavesTreeBy}
use Rattle.nv_session.specs.Machine.{State, Calls, CallsBy, CallsByTwo, CallsMounted, CallsTelling, DoesCall, StopsCall, StopsMounted}
use Rattle.nv_session.specs.Sessions.{StandsFor, Moves, ShowsOutcome, IsMountOf, IsSettled, SettlesCall, TakesMount, PutsMount, mount_in, memory_in, with_fuse}
use Rattle.nv_session.specs.declared.store.Store.{Store}
use Rattle.nv_session.specs.declared.store.Store.TheVariants as stores
use Rattle.nv_session.specs.declared.session.Session.{Session}
use Rattle.nv_session.proofs.Moved.{can_burn, left_size}
use Rattle.nv_session.proofs.Standing as standing
use Rattle.nv_session.proofs.Standing.{fused, not_stopped, not_true, shows_own, shows_still}

-- a mount as calls see it
abbrev pub seen : Mount RegionState → Mount ⊤
seen m = record { memory = tt; sup = m.sup; layout = m.layout; rows = m.rows; free = record { sup = m.sup; pools = m.free.pools; room = 0 }; faults = filter is_lasting m.faults; read_only = m.read_only; stopped = false }

-- What a call answers, by its tests of a path.
pub record Answers {A : Type 0} (asks : Asks) (m : Mount RegionState) (answer : Result A Refusal) (p : Path) : Type 0 where
  pub tests : Tests
  pub are : asks m.memory.region (seen m) p tests
  pub allowed : OnOk answer (first_refusal tests ≡ None)
  pub refused : m.stopped ≡ false → IfErr answer (IsRefusedBy (first_refusal tests))
  -- it writes only where that is allowed
  pub writes : first_refusal tests ≡ None → m.read_only ≡ false
  -- and only by a path
  pub named : first_refusal tests ≡ None → p ≡ None → ⊥

-- What a call keeps of the mount, by the CPU whose table may grow, if it lets one grow.
abbrev pub KeepsBy : Option ℕ → Mount RegionState → Mount RegionState → Type 0
KeepsBy None m n = KeepsMount m n
KeepsBy (Some cpu) m n = GrowsMount cpu m n

-- How the tables are laid out where it was made.
abbrev pub LaidBy : {A : Type 0} → Option ℕ → Mount RegionState → Layout → Result A Refusal → Type 0
LaidBy None m after answer = ⊤
LaidBy (Some cpu) m after answer = OnOk answer (IsLaidFor m.layout cpu (new_number m.layout m.rows cpu) after)

keeps_sup : (grows : Option ℕ) (m n : Mount RegionState) → KeepsBy grows m n → n.sup ≡ m.sup
keeps_sup None m n keeps = keeps.sup
keeps_sup (Some cpu) m n keeps = keeps.sup

keeps_faults : (grows : Option ℕ) (m n : Mount RegionState) → KeepsBy grows m n → n.faults ≡ m.faults
keeps_faults None m n keeps = keeps.faults
keeps_faults (Some cpu) m n keeps = keeps.faults

keeps_mode : (grows : Option ℕ) (m n : Mount RegionState) → KeepsBy grows m n → n.read_only ≡ m.read_only
keeps_mode None m n keeps = keeps.read_only
keeps_mode (Some cpu) m n keeps = keeps.read_only

-- a block more of a chain is no other superblock
keeps_sup_there : (grows : Option ℕ) (m n : Mount RegionState) → KeepsBy grows m n → n.layout.sup ≡ m.layout.sup
keeps_sup_there None m n keeps = ap (λ (l : Layout). l.sup) keeps.layout
keeps_sup_there (Some cpu) m n keeps = by keeps.tables where
  by : GrowsWhereFull m cpu n.layout → n.layout.sup ≡ m.layout.sup
  by (inl same) = ap (λ (l : Layout). l.sup) same
  by (inr grown) = ap (λ (l : Layout). l.sup) grown.3

-- What the contract of a call says of the mount before and after it.
pub record Called {A : Type 0} (grows : Option ℕ) (asks : Asks) (makes : Makes ⊤) (logs : A → Logs ⊤) (stops : Logs ⊤) (path : List ℕ) (m n : Mount RegionState) (answer : Result A Refusal) : Type 0 where
  pub answers : (p : Path) → Says path p → Answers asks m answer p
  pub changed : (names : List (List ℕ)) → IsPath path names → OnOk answer (SameTree (tree_of n.memory.region n.rows) (makes m.memory.region (seen m) names))
  pub logged : (names : List (List ℕ)) → IsPath path names → IfOk answer (λ x. logs x m.memory.region (seen m) names n.memory.region)
  pub unchanged : IfErr answer (λ e. (e ≡ Stopped → ⊥) → SameMount m n)
  pub stopped : m.stopped ≡ false → (IsTrue n.stopped → (answer ≡ Err Stopped) × IsTrue n.memory.burnt) × (answer ≡ Err Stopped → IsTrue n.stopped)
  pub keeps : KeepsBy grows m n
  pub laid : LaidBy grows m n.layout answer
  pub as_long : size n.memory.region ≡ size m.memory.region
  pub steady : IsTrue (is_steady m.memory) → IsTrue (is_steady n.memory)
  pub read_only : IsTrue m.read_only → SameMount m n
  pub bad_text : ((names : List (List ℕ)) → IsPath path names → ⊥) → SameMount m n
  pub any_stop : (names : List (List ℕ)) → IsPath path names → m.stopped ≡ false → m.read_only ≡ false → IsTrue n.stopped → LeavesOnly n.memory.region (fenced_or_last n.memory) (LeavesStopped grows makes stops m.memory.region (seen m) names)
  pub settled : n.stopped ≡ false → IsSettled n.memory
  pub kept : IsKept n.memory.region n.sup n.layout n.rows n.free n.faults n.read_only n.stopped

-- the same as nv_history says it
abbrev pub MakesCall : Said → Mount RegionState → Mount RegionState → Result Answer Refusal → Type 0
MakesCall call m n r = history.Called (λ (memory : RegionState). memory.region) fenced_or_last fuse_state call m n r

-- ---- the mount before and after a call

module _ {A : Type 0} (grows : Option ℕ) (line : A → List ℕ) (asks : ℕ → Asks) (makes : ℕ → Makes ⊤) (logs : ℕ → A → Logs ⊤) (stops : ℕ → Logs ⊤) (path : List ℕ) where
  -- the call in a state
  abbrev CallsNow : Bool → State → List ℕ → State → Type 0
  CallsNow armed state text next = CallsTelling grows line armed (asks state.time) (makes state.time) (logs state.time) (stops state.time) path state text next

  pub untold_moves : (armed : Bool) (fuse : Fuse) (old new : Session) (text : List ℕ) → TakesMount fuse old None new → text ≡ refused_line (codes "NotMounted") → Moves (CallsNow armed) old text new
  untold_moves armed fuse old new text takes said = λ state stands.
      let none : IsMountOf state.mounted None = subst (λ (o : Option (Mount RegionState)). IsMountOf state.mounted o) takes.0 stands.mounted in
      (state, inl (by state.mounted none state.region state), subst (λ (s : Session). StandsFor s state) (sym takes.1) stands) where
        by : (mounted : Option Region) → IsMountOf mounted None → (region : Option Region) (state : State) → CallsMounted grows (asks state.time) (makes state.time) (logs state.time) line path mounted region state text state
        by None is region state = (said, refl)
        by (Some R) is region state = absurd is

  module _ (fuse : Fuse) (old mid new : Session) (m n : Mount RegionState) (takes : TakesMount fuse old (Some m) mid) (state : State) (stands : StandsFor old state) where
    here : state.region ≡ Some m.memory.region
    here = standing.here fuse old mid new m takes state stands

    at_time : mid.time ≡ state.time
    at_time = standing.at_time fuse old mid new m takes state stands

    is_mounted : IsMountOf state.mounted (Some m)
    is_mounted = standing.is_mounted fuse old mid new m takes state stands

    stands_with : (store : Store) (next : State) → new ≡ record mid { store = Some store } → next.region ≡ Some (memory_in store).region → IsMountOf next.mounted (mount_in (Some store)) → next.time ≡ state.time → next.last ≡ state.last → next.armed ≡ state.armed → IsSettled (memory_in store) → StandsFor new next
    stands_with = standing.stands_with fuse old mid new m takes state stands

    module _ (answer : Result A Refusal) (called : Called grows (asks state.time) (makes state.time) (logs state.time) (stops state.time) path m n answer) where
      read_only : m.read_only ≡ has_faults m.faults
      read_only = sym (keeps_mode grows m n called.keeps) ∙ called.kept.writes ∙ ap has_faults (keeps_faults grows m n called.keeps)

      -- the superblock is that of the tables
      one_sup : m.sup ≡ m.layout.sup
      one_sup = sym (keeps_sup grows m n called.keeps) ∙ sym called.kept.tables ∙ keeps_sup_there grows m n called.keeps

      abbrev seen_here : Mount ⊤
      seen_here = record (seen m) { sup = m.layout.sup; free = record { sup = m.layout.sup; pools = m.free.pools; room = 0 }; read_only = has_faults m.faults }

      same_seen : seen m ≡ seen_here
      same_seen = λ i. record (seen m) { sup = one_sup i; free = record { sup = one_sup i; pools = m.free.pools; room = 0 }; read_only = read_only i }

      -- what the call is asked
      asked : (R : Region) → ShowsOutcome R m → (p : Path) → Says path p → Asked (asks state.time) R m.memory.region path
      asked R shows p says = (let answers = called.answers p says in record {
        shown = told m.layout m.rows m.free shows.doubled m.faults;
        of_shown = shows.shown;
        here = lasting_outcome (told m.layout m.rows m.free shows.doubled m.faults);
        of_here = shows.here;
        path_is = p;
        says = says;
        tests = answers.tests;
        are = subst (λ (k : Mount ⊤). asks state.time m.memory.region k p answers.tests) same_seen answers.are;
      })

      tables : (g : Option ℕ) (x : A) → answer ≡ Ok x → KeepsBy g m n → LaidBy g m n.layout answer → LeavesTables g seen_here n.layout
      tables None x is keeps laid = keeps.layout
      tables (Some cpu) x is keeps laid = (keeps.tables, subst (λ r. OnOk r (IsLaidFor m.layout cpu (new_number m.layout m.rows cpu) n.layout)) is laid)

      -- what the call leaves, where it was done
      leaves : (x : A) → answer ≡ Ok x → n.stopped ≡ false → n.faults ≡ [] → (names : List (List ℕ)) → IsPath path names → LeavesTreeBy (LeavesTables grows seen_here) m.memory.region n.memory.region seen_here (makes state.time m.memory.region seen_here names)
      leaves x is runs clear names says = (let own = shows_own n called.kept runs clear in record {
        as_long = called.as_long;
        after = told n.layout n.rows n.free own.doubled n.faults;
        shown = own.shown;
        own = called.kept.own runs;
        sup = keeps_sup_there grows m n called.keeps;
        layout = tables grows x is called.keeps called.laid;
        faultless = clear;
        tree = subst (λ (k : Mount ⊤). SameTree (tree_of n.memory.region n.rows) (makes state.time m.memory.region k names)) same_seen
            (subst (λ r. OnOk r (SameTree (tree_of n.memory.region n.rows) (makes state.time m.memory.region (seen m) names))) is (called.changed names says));
      })

      does : (x : A) (R : Region) (shows : ShowsOutcome R m) → answer ≡ Ok x → n.stopped ≡ false → n.faults ≡ [] → (p : Path) (says : Says path p) → (p ≡ None → ⊥) → first_refusal (called.answers p says).tests ≡ None → (next : State) (text : List ℕ) → text ≡ line x
          → next ≡ record state { region = Some n.memory.region; mounted = Some n.memory.region } → DoesCall grows (asks state.time) (makes state.time) (logs state.time) line R m.memory.region path state text next
      unfolding asked
      does x R shows is runs clear None says named none next text said left = absurd (named refl)
      does x R shows is runs clear (Some names) says named none next text said left = (
        asked R shows (Some names) says,
        none,
        names,
        refl,
        n.memory.region,
        leaves x is runs clear names says,
        x,
        subst (λ (k : Mount ⊤). logs state.time x m.memory.region k names n.memory.region) same_seen
            (subst (λ r. IfOk r (λ y. logs state.time y m.memory.region (seen m) names n.memory.region)) is (called.logged names says)),
        said,
        left,
      )

      runs_before : m.stopped ≡ false
      runs_before = by state.mounted is_mounted where
        by : (mounted : Option Region) → IsMountOf mounted (Some m) → m.stopped ≡ false
        by None is = absurd is
        by (Some R) shows = shows.runs

      -- a call that was done leaves a mount that runs, without a fault
      clear_after : (x : A) → answer ≡ Ok x → (p : Path) (says : Says path p) → (first_refusal (called.answers p says).tests ≡ None) × (n.stopped ≡ false) × (n.faults ≡ [])
      clear_after x is p says =
          let answers = called.answers p says in
          let none : first_refusal answers.tests ≡ None = subst (λ r. OnOk r (first_refusal answers.tests ≡ None)) is answers.allowed in
          let runs : n.stopped ≡ false = not_true n.stopped (λ stops. (let wrong : Ok x ≡ Err Stopped = sym is ∙ ((called.stopped runs_before).0 stops).0 in cc)) in
          (none, runs, faultless called.kept (keeps_mode grows m n called.keeps ∙ answers.writes none))

      -- the call on what is mounted
      by_mount : (text : List ℕ) (next : State) → ((R : Region) → ShowsOutcome R m → CallsMounted grows (asks state.time) (makes state.time) (logs state.time) line path (Some R) (Some m.memory.region) state text next)
          → CallsMounted grows (asks state.time) (makes state.time) (logs state.time) line path state.mounted state.region state text next
      by_mount text next call = subst (λ (x : Option Region). CallsMounted grows (asks state.time) (makes state.time) (logs state.time) line path state.mounted x state text next) (sym here) (by state.mounted is_mounted) where
        by : (mounted : Option Region) → IsMountOf mounted (Some m) → CallsMounted grows (asks state.time) (makes state.time) (logs state.time) line path mounted (Some m.memory.region) state text next
        by None is = absurd is
        by (Some R) shows = call R shows

      abbrev Moved : Bool → List ℕ → Type 0
      Moved armed text = (next : State) × CallsTelling grows line armed (asks state.time) (makes state.time) (logs state.time) (stops state.time) path state text next × StandsFor new next

      done_moves : (armed : Bool) (x : A) (text : List ℕ) → answer ≡ Ok x → text ≡ line x → PutsMount n mid new → Moved armed text
      done_moves armed x text is said puts =
          let w = text_says path in
          let clear = clear_after x is w.0 w.1 in
          let next : State = record state { region = Some n.memory.region; mounted = Some n.memory.region } in (
            next,
            inl (by_mount text next (λ R shows. inr (does x R shows is clear.1 clear.2 w.0 w.1 ((called.answers w.0 w.1).named clear.0) clear.0 next text said refl))),
            stands_with (stores.Mounted (with_fuse fuses.Off n)) next puts refl (fused fuses.Off n.memory.region n (shows_own n called.kept clear.1 clear.2)) refl refl refl (called.settled clear.1),
          )

      refused_moves : (armed : Bool) (text : List ℕ) (e : Refusal) → answer ≡ Err e → (e ≡ Stopped → ⊥) → (e ≡ Memory → ⊥) → text ≡ refused_line (refusal_word e) → PutsMount n mid new → Moved armed text
      unfolding asked
      refused_moves armed text e is running fits said puts =
          let w = text_says path in
          let answers = called.answers w.0 w.1 in
          let same : SameMount m n = subst (λ r. IfErr r (λ e. (e ≡ Stopped → ⊥) → SameMount m n)) is called.unchanged running in (
            state,
            inl (by_mount text state (λ R shows. inl (asked R shows w.0 w.1, (e, first answers.tests (subst (λ r. IfErr r (IsRefusedBy (first_refusal answers.tests))) is (answers.refused shows.runs)), said), refl))),
            stands_with (stores.Mounted (with_fuse fuses.Off n)) state puts (here ∙ ap (λ (x : RegionState). Some x.region) (sym same.memory)) (still same state.mounted is_mounted) refl refl refl (called.settled (same.stopped ∙ runs_before)),
          ) where
            first : (tests : Tests) → IsRefusedBy (first_refusal tests) e → first_refusal tests ≡ Some e
            first tests (inl want) = absurd (fits want.0)
            first tests (inr (inl stopped)) = absurd (running stopped)
            first tests (inr (inr refused)) = refused

            still : SameMount m n → (mounted : Option Region) → IsMountOf mounted (Some m) → IsMountOf mounted (Some (with_fuse fuses.Off n))
            still same None is = absurd is
            still same (Some R) shows = fused fuses.Off R n (shows_still R m n same shows)

      -- a call that was stopped is one by a path, on a mount that may be written
      writable : IsTrue n.stopped → m.read_only ≡ false
      writable stops = not_true m.read_only (λ locked. not_stopped (called.read_only locked) runs_before stops)

      -- what it leaves
      stopped_call : (R : Region) (shows : ShowsOutcome R m) → IsTrue n.stopped → (left : RegionState) → MayBeLeft n.memory.region (fenced_or_last n.memory) left.region → (text : List ℕ) → text ≡ stopped_line → (next : State) → next ≡ record state { region = Some left.region; mounted = None }
          → StopsCall grows (asks state.time) (makes state.time) (stops state.time) R m.memory.region path state text next
      unfolding asked
      stopped_call R shows stopped left may text said next is = by (text_says path) where
        by : (p : Path) × Says path p → StopsCall grows (asks state.time) (makes state.time) (stops state.time) R m.memory.region path state text next
        by (None, says) = absurd (not_stopped (called.bad_text says) runs_before stopped)
        by (Some names, says) = (
          asked R shows (Some names) says,
          sym read_only ∙ writable stopped,
          names,
          refl,
          left.region,
          left_size n.memory.region (fenced_or_last n.memory) left.region may ∙ called.as_long,
          subst (λ (k : Mount ⊤). LeavesStopped grows (makes state.time) (stops state.time) m.memory.region k names left.region) same_seen
              (called.any_stop names says runs_before (writable stopped) stopped left.region may),
          said,
          is,
        )

      by_stopped : IsTrue n.stopped → (left : RegionState) → MayBeLeft n.memory.region (fenced_or_last n.memory) left.region → (text : List ℕ) → text ≡ stopped_line → (next : State) → next ≡ record state { region = Some left.region; mounted = None }
          → StopsMounted grows (asks state.time) (makes state.time) (stops state.time) path state.mounted state.region state text next
      by_stopped stopped left may text said next is = subst (λ (x : Option Region). StopsMounted grows (asks state.time) (makes state.time) (stops state.time) path state.mounted x state text next) (sym here) (by state.mounted is_mounted) where
        by : (mounted : Option Region) → IsMountOf mounted (Some m) → StopsMounted grows (asks state.time) (makes state.time) (stops state.time) path mounted (Some m.memory.region) state text next
        by None is = absurd is
        by (Some R) shows = stopped_call R shows stopped left may text said next is

      stopped_moves : (text : List ℕ) → answer ≡ Err Stopped → text ≡ stopped_line → (left : RegionState) → MayBeLeft n.memory.region (fenced_or_last n.memory) left.region → IsSettled left → new ≡ record mid { store = Some (stores.Alone left) } → Moved (not (is_off fuse)) text
      stopped_moves text is said left may settled puts =
          let next : State = record state { region = Some left.region; mounted = None } in (
            next,
            inr (armed, by_stopped stopped left may text said next refl),
            stands_with (stores.Alone left) next puts refl tt refl refl refl settled,
          ) where
            stopped : IsTrue n.stopped
            stopped = (called.stopped runs_before).1 is

            burnt : n.memory.burnt ≡ true
            burnt = ((called.stopped runs_before).0 stopped).1

            armed : IsTrue (not (is_off fuse))
            armed = can_burn (is_off fuse) (λ off. (
                let before : is_steady m.memory ≡ true = subst (λ (k : Mount RegionState). is_steady k.memory ≡ true) (sym takes.2) (ap (λ b. b && true) off) in
                let after = steady_unburnt n.memory (called.steady before) in
                let wrong : true ≡ false = sym burnt ∙ after in cc))

      by_answer : (r : Result A Refusal) → answer ≡ r → (text : List ℕ) → SettlesCall line n r mid text new → Moved (not (is_off fuse)) text
      by_answer (Ok x) is text settles = done_moves (not (is_off fuse)) x text is settles.0 settles.1
      by_answer (Err e) is text (inl s) = stopped_moves text (is ∙ ap (λ (x : Refusal). Err x) s.0) s.1 s.2 s.3 s.4 s.5
      by_answer (Err e) is text (inr s) = refused_moves (not (is_off fuse)) text e is s.0 s.1 s.2 s.3

  -- A call on what is mounted, by what its contract says.
  pub telling_moves : (fuse : Fuse) (old mid new : Session) (m n : Mount RegionState) (answer : Result A Refusal) (text : List ℕ) → TakesMount fuse old (Some m) mid → Called grows (asks mid.time) (makes mid.time) (logs mid.time) (stops mid.time) path m n answer
      → SettlesCall line n answer mid text new → Moves (CallsNow (not (is_off fuse))) old text new
  telling_moves fuse old mid new m n answer text takes called settles = λ state stands.
      by_answer fuse old mid new m n takes state stands answer
      (subst (λ (time : ℕ). Called grows (asks time) (makes time) (logs time) (stops time) path m n answer) (at_time fuse old mid new m n takes state stands) called) answer refl text settles

-- Where nothing is mounted, a call that answers `ok` is refused too.
pub uncalled_moves : (grows : Option ℕ) (asks : ℕ → Asks) (makes : ℕ → Makes ⊤) (logs : ℕ → Logs ⊤) (path : List ℕ) (armed : Bool) (fuse : Fuse) (old new : Session) (text : List ℕ) → TakesMount fuse old None new → text ≡ refused_line (codes "NotMounted")
    → Moves (λ state said next. CallsBy grows armed (asks state.time) (makes state.time) (logs state.time) path state said next) old text new
uncalled_moves grows asks makes logs path = untold_moves grows (λ (done : Unit {0}). ok_line) asks makes (λ time done. logs time) logs path

-- A call by two paths, where it is one by the first for whatever the second says.
pub two_moves : (asks : Path → Asks) (makes : ℕ → Path → Makes ⊤) (logs : ℕ → Path → Logs ⊤) (path other : List ℕ) (armed : Bool) (old new : Session) (text : List ℕ)
    → ((q : Path) → Says other q → Moves (λ state said next. Calls armed (asks q) (makes state.time q) (logs state.time q) path state said next) old text new)
    → Moves (λ state said next. CallsByTwo armed asks (makes state.time) (logs state.time) path other state said next) old text new
two_moves asks makes logs path other armed old new text moves = λ state stands. (let w = text_says other in let moved = moves w.0 w.1 state stands in (moved.0, (w.0, w.1, moved.1), moved.2))
