-- What holds while calls are made one after the other, and where a run is halted.
use Rattle.std.proofs.Common.{◌≡◌, ◌≢◌, ◌⊎◌, ◌+◌, ◌<◌, ◌≤◌, ◌↔◌, ◌∷◌, [], ℕ, Bool, true, false, IsTrue, inl, inr, List, length, ap, take, get_or, refl, sym, ◌∙◌, subst, arith, Result, Ok, Err}
use Rattle.std.specs.Prelude.{⊤}
use Rattle.std.proofs.Math.Logic.{∥∥₁_map}
use Rattle.std.proofs.lemmas.List.{take_all, take_more}
use Rattle.std.proofs.lemmas.Option.{slice_get-get_or}
use Rattle.nv_region.specs.Region.{Region, size}
use Rattle.nv_region.specs.Fuses.{FuseState, KeepsFuse}
use Rattle.nv_region.specs.Stops.{Choices, LeavesOnly}
use Rattle.nv_region.proofs.Fuses.{keeps_more}
use Rattle.nv_super.specs.Layout.{Layout}
use Rattle.nv_super.specs.declared.superblock.Super.{Super}
use Rattle.nv_super.specs.Layout.{Layout}
use Rattle.nv_journal.specs.Undo.{undone}
use Rattle.nv_tree.specs.declared.refusal.Refusal.{Refusal}
use Rattle.nv_tree.specs.declared.refusal.Refusal.TheVariants.{Stopped}
use Rattle.nv_tree.specs.Tree.{Tree}
use Rattle.nv_tree.proofs.Same.{same_itself}
use Rattle.nv_paths.specs.Seen.{tree_of}
use Rattle.nv_calls.specs.Mount.{IsKept, Mount, shown}
use Rattle.nv_calls.specs.Same.{KeepsMount, SameMount}
use Rattle.nv_calls.specs.Stopped.{IsAsMounted, LeavesMounted}
use Rattle.nv_history.specs.declared.calls.Call.{Call}
use Rattle.nv_history.specs.Making.{AreMade, none, ChainsGrow, IsMadeBy, grow_tables, grows_tables, has_upgrade, is_upgrade, super_behind, supers_behind}
use Rattle.nv_history.specs.Said.{said}
use Rattle.nv_history.specs.Asking.{RefusesCall}
use Rattle.nv_history.specs.Halting.{HaltsAt}
use Rattle.nv_history.specs.declared.runs.Halted.{Halted}
use Rattle.nv_history.specs.Keeping.{AreBegun, KeepsCalled, KeepsRun}
use Rattle.nv_history.specs.declared.calls.Answer.{Answer}
use Rattle.nv_history.specs.Called.{AreNames, Called}
use Rattle.nv_history.specs.Stopping.{RunLeaves, MayBeDone, RecoversMade}
use Rattle.nv_history.proofs.Growing.{MayHave, before_laid, chains_same, chains_then, made_laid}
use Rattle.nv_history.proofs.MadeTrees.{behind_more, behind_same, fixed_more, made_shown, one_more, plain_more}
use Rattle.nv_history.proofs.OneCall.{BeforeOrMade, is_made, names_or_none, numbered, stop_leaves, tests_exist, tests_named}
use Rattle.nv_history.proofs.Recoveries.{always}

-- So many calls were made, and the mount runs on as it did.
pub record Going {P : Type 0} (region : P → Region) (fuse : P → FuseState) (calls : List Call) (old now : Mount P) (made : ℕ) : Type 0 where
  pub trees : AreMade old.sup (take made calls) (shown region old) (shown region now)
  pub sup : now.sup ≡ supers_behind old.sup (take made calls)
  pub chains : ChainsGrow old.layout now.layout
  pub stays : grow_tables old.sup (take made calls) ≡ false → now.layout.chains ≡ old.layout.chains
  pub keeps : has_upgrade (take made calls) ≡ false → grow_tables old.sup (take made calls) ≡ false → KeepsMount old now
  pub runs : now.stopped ≡ old.stopped
  pub begun : made ≡ 0 → now ≡ old
  pub stands : IsTrue old.stopped → made ≡ 0
  pub faults : now.faults ≡ old.faults
  pub mode : now.read_only ≡ old.read_only
  pub as_long : size (region now.memory) ≡ size (region old.memory)
  pub burns : KeepsFuse (λ limit. size (region old.memory) ≤ limit) (fuse old.memory) (fuse now.memory)

pub begins : {P : Type 0} (region : P → Region) (fuse : P → FuseState) (calls : List Call) (old : Mount P) → Going region fuse calls old old 0
begins region fuse calls old = record {
  trees = none old.sup (shown region old) (shown region old) (same_itself (shown region old));
  sup = refl;
  chains = chains_same old.layout old.layout refl;
  stays = λ fixed. refl;
  keeps = λ off fixed. record { sup = refl; layout = refl; faults = refl; read_only = refl };
  runs = refl;
  begun = λ zero. refl;
  stands = λ on. refl;
  faults = refl;
  mode = refl;
  as_long = refl;
  burns = record { burnt = λ on. on; steady = λ on. on; stays_open = λ limit past on. on };
}

off_or_on : (b : Bool) → (IsTrue b → ⊥) → b ≡ false
off_or_on true off = absurd (off refl)
off_or_on false off = refl

pub one_refusal : (a b : Refusal) → ◌≡◌ {A = Result Answer Refusal} (Err a) (Err b) → a ≡ b
one_refusal a b same = cc

none_there : (calls : List Call) → length calls ≤ 0 → calls ≡ []
none_there [] few = refl
none_there (call ∷ calls) few = absurd (omega (arith, few))

-- what is kept of a mount
abbrev pub Keeps : {P : Type 0} → (P → Region) → Mount P → Type 0
Keeps region m = IsKept (region m.memory) m.sup m.layout m.rows m.free m.faults m.read_only m.stopped

-- ---- behind the last call

module _ {P : Type 0} (region : P → Region) (fuse : P → FuseState) (calls : List Call) (old now : Mount P) (made : ℕ) (going : Going region fuse calls old now made) where
  -- What a stop leaves shows what was made.
  shows_made : Keeps region now → (begun : List Call) → (grow_tables old.sup begun ≡ false → grow_tables old.sup (take made calls) ≡ false) → (left : Region) → IsAsMounted (region now.memory) now.layout now.rows now.free.pools left
      → RecoversMade region old begun (take made calls) left
  shows_made kept begun front left w = record {
    layout = now.layout;
    rows = now.rows;
    free = now.free.pools;
    recovers = always left now.layout now.rows now.free.pools w.0;
    sup = kept.tables ∙ going.sup;
    tables = (going.chains, λ fixed. going.stays (front fixed));
    made = made_shown going.trees (tree_of (undone now.layout.sup left) now.rows) w.1;
  }

  module _ (all : length calls ≤ made) where
    -- All calls were made.
    pub all_made : AreMade old.sup calls (shown region old) (shown region now)
    all_made = subst (λ (done : List Call). AreMade old.sup done (shown region old) (shown region now)) (take_all made calls all) going.trees

    all_fixed : grow_tables old.sup calls ≡ false → grow_tables old.sup (take made calls) ≡ false
    all_fixed fixed = ap (grow_tables old.sup) (take_all made calls all) ∙ fixed

    all_plain : has_upgrade calls ≡ false → has_upgrade (take made calls) ≡ false
    all_plain plain = ap has_upgrade (take_all made calls all) ∙ plain

    -- What a stop leaves then.
    pub left_whole : (may_hold : P → Choices) → Keeps region now → LeavesOnly (region now.memory) (may_hold now.memory) (LeavesMounted (region now.memory) now) → LeavesOnly (region now.memory) (may_hold now.memory) (RunLeaves region old calls (Ok tt))
    left_whole may_hold kept still left may = ∥∥₁_map (still left may) (λ w. (calls, take made calls, refl, take_all made calls all, shows_made kept calls all_fixed left w))

    -- What the run keeps then.
    pub whole_keeps : KeepsRun {T = ⊤} region fuse calls old now (Ok tt)
    whole_keeps = record {
      stopped_before = λ on. going.begun (going.stands on);
      none_made = λ on. none_there calls (subst (λ (n : ℕ). length calls ≤ n) (going.stands on) all);
      runs = going.runs;
      stopped = tt;
      burnt = λ off on. absurd (let clash : true ≡ false = sym on ∙ going.runs ∙ off in cc);
      keeps = λ begun are plain fixed. going.keeps (all_plain (ap has_upgrade (sym are) ∙ plain)) (all_fixed (ap (grow_tables old.sup) (sym are) ∙ fixed));
      sup = going.sup ∙ ap (supers_behind old.sup) (take_all made calls all);
      chains = going.chains;
      stays = λ begun are fixed. going.stays (all_fixed (ap (grow_tables old.sup) (sym are) ∙ fixed));
      faults = going.faults;
      mode = going.mode;
      front = tt;
      length = going.as_long;
      keeps_fuse = going.burns;
    }

-- ---- one call more

module _ {P : Type 0} (region : P → Region) (may_hold : P → Choices) (fuse : P → FuseState) (calls : List Call) (old now next : Mount P) (made : ℕ) (going : Going region fuse calls old now made) (kept : Keeps region now) (d : Call) (more : made < length calls) where
  abbrev call : Call
  call = get_or calls made d

  abbrev t : Tree
  t = shown region now

  abbrev R : Region
  R = region now.memory

  keeps_on : KeepsMount now next → KeepsMount old now → KeepsMount old next
  keeps_on keeps before = record { sup = keeps.sup ∙ before.sup; layout = keeps.layout ∙ before.layout; faults = keeps.faults ∙ before.faults; read_only = keeps.read_only ∙ before.read_only }

  burns_on : KeepsFuse (λ limit. size R ≤ limit) (fuse now.memory) (fuse next.memory) → KeepsFuse (λ limit. size (region old.memory) ≤ limit) (fuse old.memory) (fuse next.memory)
  burns_on burns = keeps_more (λ limit past. subst (λ n. n ≤ limit) (sym going.as_long) past) going.burns burns

  -- the calls with this one
  made_more : (u : Tree) → IsMadeBy now.sup call t u → AreMade old.sup (take (made + 1) calls) (shown region old) u
  made_more u is = subst (λ (done : List Call). AreMade old.sup done (shown region old) u) (sym (take_more calls made d more)) (one_more going.trees call u (subst (λ (s : Super). IsMadeBy s call t u) going.sup is))

  -- the superblock behind them
  sup_more : super_behind now.sup (said call) ≡ supers_behind old.sup (take (made + 1) calls)
  sup_more = ap (λ (s : Super). super_behind s (said call)) going.sup ∙ sym (behind_more old.sup (take made calls) call) ∙ ap (supers_behind old.sup) (sym (take_more calls made d more))

  -- where none up to this one lets a table grow, neither do those in front of it, nor this one
  fixed_here : grow_tables old.sup (take (made + 1) calls) ≡ false → (grow_tables old.sup (take made calls) ≡ false) × (grows_tables now.sup (said call) ≡ false)
  fixed_here fixed =
      let parts = fixed_more old.sup (take made calls) call (ap (grow_tables old.sup) (sym (take_more calls made d more)) ∙ fixed) in
      (parts.0, subst (λ (s : Super). grows_tables s (said call) ≡ false) (sym going.sup) parts.1)

  plain_here : has_upgrade (take (made + 1) calls) ≡ false → (has_upgrade (take made calls) ≡ false) × (is_upgrade (said call) ≡ false)
  plain_here plain = plain_more (take made calls) call (ap has_upgrade (sym (take_more calls made d more)) ∙ plain)

  -- ---- it is made

  module _ (answer : Answer) (called : Called region may_hold fuse (said call) now next (Ok answer)) where
    kept_made : KeepsCalled {T = Answer} region fuse (said call) now next (Ok answer)
    kept_made = called.kept

    off : now.stopped ≡ false
    off = off_or_on now.stopped (λ on. (let clash : ◌≡◌ {A = Result Answer Refusal} (Ok answer) (Err Stopped) = (kept_made.stopped_before on).0 in cc))

    has : MayHave now (said call) next.layout
    has = made_laid now kept.tables next.layout (said call) kept_made.laid

    -- by names, since a text that says none is refused
    is : IsMadeBy now.sup call t (shown region next)
    is =
        let tests = tests_exist R now (said call) in
        let passes = called.allowed tests.0 tests.1 in
        let named = tests_named R now (said call) tests.0 tests.1 passes in
        is_made R now named.0 named.1 (shown region next) call (numbered R now kept off (said call) tests.0 tests.1 passes) named.2 (called.changed named.0 named.1 named.2)

    made_on : Going region fuse calls old next (made + 1)
    made_on = record {
      trees = made_more (shown region next) is;
      sup = kept_made.sup ∙ sup_more;
      chains = chains_then old.layout now.layout next.layout going.chains has.chains;
      stays = λ fixed. (let here = fixed_here fixed in has.stays here.1 ∙ going.stays here.0);
      keeps = λ plain fixed. (let on = plain_here plain in let here = fixed_here fixed in
          keeps_on (record { sup = kept_made.sup ∙ behind_same now.sup (said call) on.1; layout = has.same on.1 here.1; faults = kept_made.faults; read_only = kept_made.mode }) (going.keeps on.0 here.0));
      runs = off_or_on next.stopped (λ on. (let clash : ◌≡◌ {A = Result Answer Refusal} (Ok answer) (Err Stopped) = ((kept_made.stopped off).0 on).0 in cc)) ∙ sym off ∙ going.runs;
      begun = λ zero. absurd (omega (arith, zero));
      stands = λ on. absurd (let clash : true ≡ false = sym (going.runs ∙ on) ∙ off in cc);
      faults = kept_made.faults ∙ going.faults;
      mode = kept_made.mode ∙ going.mode;
      as_long = kept_made.length ∙ going.as_long;
      burns = burns_on kept_made.keeps_fuse;
    }

  -- by a call that isn't refused
  pub goes_on : (result : Result Answer Refusal) → ((e : Refusal) → result ≡ Err e → ⊥) → Called region may_hold fuse (said call) now next result → Going region fuse calls old next (made + 1)
  goes_on (Ok answer) never called = made_on answer called
  goes_on (Err e) never called = absurd (never e refl)

  -- ---- it is refused

  module _ (e : Refusal) (called : Called region may_hold fuse (said call) now next (Err e)) where
    kept_refused : KeepsCalled {T = Answer} region fuse (said call) now next (Err e)
    kept_refused = called.kept

    abbrev halted : Halted
    halted = record { made = made; refusal = e }

    left_laid : MayHave now (said call) next.layout
    left_laid = before_laid now kept.tables next.layout (said call) kept_refused.laid

    why : now.stopped ≡ false → RefusesCall R now call e
    why off = (let tests = tests_exist R now (said call) in (tests.0, tests.1, called.refused off tests.0 tests.1))

    pub halts : (e ≡ Stopped → ⊥) → HaltsAt old.sup (shown region old) calls halted (region next.memory) next
    halts runs =
        let same = kept_refused.unchanged runs in
        record {
          asked = now;
          made = subst (λ (p : P). AreMade old.sup (take made calls) (shown region old) (tree_of (region p) now.rows)) (sym same.memory) going.trees;
          sup = going.sup;
          same = same;
          why = (call, slice_get-get_or calls made d more, subst (λ (p : P). RefusesCall (region p) now call e) (sym same.memory) (why (off_or_on now.stopped (λ on. runs (one_refusal e Stopped (kept_refused.stopped_before on).0)))));
        }

    -- The chains, and what no call changes, by the calls that were begun.
    chains_stay : (begun : List Call) → AreBegun {T = ⊤} calls (Err halted) begun → grow_tables old.sup begun ≡ false → next.layout.chains ≡ old.layout.chains
    chains_stay begun (inl (stop, are)) fixed = (let here = fixed_here (ap (grow_tables old.sup) (sym are) ∙ fixed) in left_laid.stays here.1 ∙ going.stays here.0)
    chains_stay begun (inr (runs, are)) fixed = ap (λ (l : Layout). l.chains) (kept_refused.unchanged runs).layout ∙ going.stays (ap (grow_tables old.sup) (sym are) ∙ fixed)

    all_kept : (begun : List Call) → AreBegun {T = ⊤} calls (Err halted) begun → has_upgrade begun ≡ false → grow_tables old.sup begun ≡ false → KeepsMount old next
    all_kept begun (inl (stop, are)) plain fixed =
        let on = plain_here (ap has_upgrade (sym are) ∙ plain) in
        let here = fixed_here (ap (grow_tables old.sup) (sym are) ∙ fixed) in
        keeps_on (record { sup = kept_refused.sup; layout = left_laid.same on.1 here.1; faults = kept_refused.faults; read_only = kept_refused.mode }) (going.keeps on.0 here.0)
    all_kept begun (inr (runs, are)) plain fixed =
        let same = kept_refused.unchanged runs in
        keeps_on (record { sup = same.sup; layout = same.layout; faults = same.faults; read_only = same.read_only }) (going.keeps (ap has_upgrade (sym are) ∙ plain) (ap (grow_tables old.sup) (sym are) ∙ fixed))

    -- What the run keeps.
    pub halted_keeps : KeepsRun {T = ⊤} region fuse calls old next (Err halted)
    halted_keeps = record {
      stopped_before = λ on. (kept_refused.stopped_before (going.runs ∙ on)).1 ∙ going.begun (going.stands on);
      none_made = λ on. going.stands on;
      runs = tt;
      stopped = by now.stopped refl;
      burnt = λ off on. ((kept_refused.stopped (going.runs ∙ off)).0 on).1;
      keeps = all_kept;
      sup = kept_refused.sup ∙ going.sup;
      chains = chains_then old.layout now.layout next.layout going.chains left_laid.chains;
      stays = chains_stay;
      faults = kept_refused.faults ∙ going.faults;
      mode = kept_refused.mode ∙ going.mode;
      front = (t, going.trees);
      length = kept_refused.length ∙ going.as_long;
      keeps_fuse = burns_on kept_refused.keeps_fuse;
    } where
      by : (b : Bool) → now.stopped ≡ b → (e ≡ Stopped) ↔ IsTrue next.stopped
      by true on = ((λ is. subst (λ (m : Mount P). IsTrue m.stopped) (sym (kept_refused.stopped_before on).1) on), (λ at. one_refusal e Stopped (kept_refused.stopped_before on).0))
      by false off = ((λ is. (kept_refused.stopped off).1 (ap (λ (f : Refusal). Err f) is)), (λ at. one_refusal e Stopped ((kept_refused.stopped off).0 at).0))

    abbrev Left : Region → Type 0
    Left left = (begun done : List Call) × AreBegun {T = ⊤} calls (Err halted) begun × MayBeDone calls (Err halted) done × RecoversMade region old begun done left

    -- What a stop leaves where all stays as it was.
    stays_left : (begun : List Call) → AreBegun {T = ⊤} calls (Err halted) begun → (grow_tables old.sup begun ≡ false → grow_tables old.sup (take made calls) ≡ false) → SameMount now next → LeavesOnly R (may_hold now.memory) (LeavesMounted R now) → LeavesOnly (region next.memory) (may_hold next.memory) (RunLeaves region old calls (Err halted))
    stays_left begun are front same still =
        subst (λ (p : P). LeavesOnly (region p) (may_hold p) (RunLeaves region old calls (Err halted))) (sym same.memory)
        (λ left may. ∥∥₁_map (still left may) (λ w. (begun, take made calls, are, inl refl, shows_made region fuse calls old now made going kept begun front left w)))

    -- a call that was stopped was begun
    abbrev with_this : List Call
    with_this = take (made + 1) calls

    by_trees : e ≡ Stopped → (left : Region) → BeforeOrMade R now call left → Left left
    by_trees stop left (inl w) = (
      with_this,
      take made calls,
      inl (stop, refl),
      inl refl,
      record {
        layout = w.layout;
        rows = w.rows;
        free = w.free;
        recovers = always left w.layout w.rows w.free w.recovers;
        sup = w.sup ∙ going.sup;
        tables = (chains_then old.layout now.layout w.layout going.chains w.laid.chains, λ fixed. (let here = fixed_here fixed in w.laid.stays here.1 ∙ going.stays here.0));
        made = made_shown going.trees (tree_of (undone w.layout.sup left) w.rows) w.shows;
      },
    )
    by_trees stop left (inr w) = (
      with_this,
      with_this,
      inl (stop, refl),
      inr (stop, refl),
      record {
        layout = w.layout;
        rows = w.rows;
        free = w.free;
        recovers = always left w.layout w.rows w.free w.recovers;
        sup = w.sup ∙ sup_more;
        tables = (chains_then old.layout now.layout w.layout going.chains w.laid.chains, λ fixed. (let here = fixed_here fixed in w.laid.stays here.1 ∙ going.stays here.0));
        made = made_more (tree_of (undone w.layout.sup left) w.rows) w.shows;
      },
    )

    -- What a stop leaves at any exit of the call: a call whose texts say no names leaves all as it was.
    pub left_halted : now.stopped ≡ false → now.read_only ≡ false → LeavesOnly R (may_hold now.memory) (LeavesMounted R now) → LeavesOnly (region next.memory) (may_hold next.memory) (RunLeaves region old calls (Err halted))
    left_halted off writes still = by next.stopped refl (names_or_none (said call)) where
      by : (b : Bool) → next.stopped ≡ b → ((names : List (List ℕ)) × (others : List (List ℕ)) × AreNames (said call) names others) ⊎ ((names others : List (List ℕ)) → AreNames (said call) names others → ⊥)
          → LeavesOnly (region next.memory) (may_hold next.memory) (RunLeaves region old calls (Err halted))
      by true on (inl (names, others, are)) = λ left may. ∥∥₁_map (stop_leaves R now kept off writes left names others call are (called.any_stop names others are off writes left may))
          (λ w. by_trees (one_refusal e Stopped ((kept_refused.stopped off).0 on).0) left w)
      by true on (inr nowhere) = stays_left with_this (inl (one_refusal e Stopped ((kept_refused.stopped off).0 on).0, refl)) (λ fixed. (fixed_here fixed).0) (called.bad_text nowhere) still
      by false runs are = stays_left (take made calls) (inr (no_stop, refl)) (λ fixed. fixed) (kept_refused.unchanged no_stop) still where
        no_stop : e ≢ Stopped
        no_stop is = absurd (let clash : true ≡ false = sym ((kept_refused.stopped off).1 (ap (λ (f : Refusal). Err f) is)) ∙ runs in cc)
