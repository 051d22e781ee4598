-- What the calls of a change leave of a region that was opened, and why a change is refused.
use Rattle.std.proofs.Common.{◌≡◌, ◌≢◌, ◌∙◌, ℕ, Bool, true, false, IsTrue, ◌||◌, List, [], refl, sym, ap, subst, inl, inr, take}
use Rattle.nv_super.specs.Layout.{Layout}
use Rattle.nv_super.specs.declared.superblock.Super.{Super}
use Rattle.nv_region.specs.Region.{Region, size}
use Rattle.nv_region.specs.RegionState.{RegionState, is_steady, steady_unburnt}
use Rattle.nv_journal.specs.Undo.{undone}
use Rattle.nv_outcome.specs.Outcome.{Outcome, IsOutcome}
use Rattle.nv_outcome.proofs.Again.{rolled_back, stays}
use Rattle.nv_tree.specs.Tree.{Tree}
use Rattle.nv_tree.proofs.Same.{same_itself}
use Rattle.nv_tree.specs.declared.refusal.Refusal.{Refusal}
use Rattle.nv_tree.specs.declared.refusal.Refusal.TheVariants.{Memory, Stopped}
use Rattle.nv_mounted.specs.Mounted.{outcome_layout}
use Rattle.nv_calls.specs.Mount.{IsKept, Mount, has_faults}
use Rattle.nv_paths.specs.Seen.{tree_of}
use Rattle.nv_session.specs.Sessions.{IsSettled}
use Rattle.nv_session.proofs.Moved.{same_size}
use Rattle.nv_history.specs.Making.{AreMade, ChainsGrow, MayHaveGrown, grow_tables, has_upgrade, is_upgrade}
use Rattle.nv_history.specs.Said.{said}
use Rattle.nv_history.specs.Halting.{HaltsAt}
use Rattle.nv_history.specs.declared.calls.Call.{Call}
use Rattle.nv_history.specs.declared.runs.Halted.{Halted}
use Rattle.nv_history.proofs.LeftTables.{LeavesTables}
use Rattle.nv_script.specs.Cleaning.{CanClean, IsOpenedAs}
use Rattle.nv_script.proofs.Cleanings.{shows_now}
use Rattle.nv_changes.specs.Calls.{AreCallsOf, IsFirstCall, next_calls}
use Rattle.nv_changes.specs.Changing.{IsChanged, IsChangedAs, IsHalted, IsMade, IsRefusal, tree_shown}
use Rattle.nv_changes.specs.declared.change.Change.{Change}
use Rattle.nv_changes.specs.declared.change.Change.TheVariants.{MakeDirectory, Remove, RemoveDirectory, Rename, Link, SetSize, SetMode, SetOwner, Put}
use Rattle.nv_changes.specs.declared.changing.Changed.{Changed}
use Rattle.nv_changes.specs.declared.changing.Changed.TheVariants as changed

abbrev tree : Mount RegionState → Tree
tree m = tree_of m.memory.region m.rows

abbrev Keeps : Mount RegionState → Type 0
Keeps m = IsKept m.memory.region m.sup m.layout m.rows m.free m.faults m.read_only m.stopped

-- what came of a change by an outcome came of it
pub by_outcome : (R : Region) (o : Outcome) (change : Change) (cpu time : ℕ) → IsOutcome R o → (x : Changed) → IsChangedAs R o change cpu time x → IsChanged R change cpu time x
by_outcome R o change cpu time is (changed.Region left) came = (o, is, came)
by_outcome R o change cpu time is (changed.Unrecovered refusal) came = absurd came
by_outcome R o change cpu time is (changed.Refused refusal) came = (o, is, came)

-- a refusal that is told is one by the tests
pub as_refused : (R : Region) (o : Outcome) (change : Change) (cpu time : ℕ) (refusal : Refusal) → has_faults o.faults ≡ false → ((told : Refusal) → told ≡ refusal → refusal ≢ Memory → IsHalted R o change cpu time told)
    → (x : Changed) → IsRefusal refusal x → IsChangedAs R o change cpu time x
as_refused R o change cpu time refusal none halts (changed.Refused told) is = inr (none, halts told is.0 is.1)
as_refused R o change cpu time refusal none halts (changed.Region left) is = absurd is
as_refused R o change cpu time refusal none halts (changed.Unrecovered told) is = absurd is

pub not_on : (b : Bool) → (IsTrue b → ⊥) → b ≡ false
not_on true never = absurd (never refl)
not_on false never = refl

-- a memory without a fuse wasn't stopped
pub unstopped : (m : RegionState) → IsTrue (is_steady m) → IsTrue m.burnt → ⊥
unstopped m steady burnt = let off : m.burnt ≡ false = steady_unburnt m steady in let never : true ≡ false = sym burnt ∙ off in cc

-- ---- no call of a change is `upgrade`

abbrev upgrades : Call → Bool
upgrades call = is_upgrade (said call)

first_keeps : (t : Tree) (change : Change) (cpu time : ℕ) (call : Call) → IsFirstCall t change cpu time call → upgrades call ≡ false
first_keeps t (MakeDirectory path) cpu time call is = ap upgrades is
first_keeps t (Remove path) cpu time call is = ap upgrades is
first_keeps t (RemoveDirectory path) cpu time call is = ap upgrades is
first_keeps t (Rename old new) cpu time call is = ap upgrades is
first_keeps t (Link old new) cpu time call is = ap upgrades is
first_keeps t (SetSize path size) cpu time call is = ap upgrades is
first_keeps t (SetMode path mode) cpu time call is = ap upgrades is.4
first_keeps t (SetOwner path owner group) cpu time call is = ap upgrades is.4
first_keeps t (Put path bytes) cpu time call (inl there) = ap upgrades there.1
first_keeps t (Put path bytes) cpu time call (inr none) = ap upgrades none.1

next_keep : (change : Change) (cpu time : ℕ) → has_upgrade (next_calls change cpu time) ≡ false
next_keep (MakeDirectory path) cpu time = refl
next_keep (Remove path) cpu time = refl
next_keep (RemoveDirectory path) cpu time = refl
next_keep (Rename old new) cpu time = refl
next_keep (Link old new) cpu time = refl
next_keep (SetSize path size) cpu time = refl
next_keep (SetMode path mode) cpu time = refl
next_keep (SetOwner path owner group) cpu time = refl
next_keep (Put path bytes) cpu time = refl

both_keep : (a b : Bool) → a ≡ false → b ≡ false → (a || b) ≡ false
both_keep true b off none = off
both_keep false b off none = none

pub calls_keep : (t : Tree) (change : Change) (cpu time : ℕ) (calls : List Call) → AreCallsOf t change cpu time calls → has_upgrade calls ≡ false
calls_keep t change cpu time calls (first, is, are) = ap has_upgrade are ∙ both_keep (upgrades first) (has_upgrade (next_calls change cpu time)) (first_keeps t change cpu time first is) (next_keep change cpu time)

module _ (R : Region) (o : Outcome) (m n : Mount RegionState) (is : IsOpenedAs R o m) (calls : List Call) (change : Change) (cpu time : ℕ) where
  same_tree : tree m ≡ tree_shown R o
  same_tree = λ i. tree_of (is.region i) (is.rows i)

  calls_here : AreCallsOf (tree m) change cpu time calls → AreCallsOf (tree_shown R o) change cpu time calls
  calls_here are = subst (λ (t : Tree). AreCallsOf t change cpu time calls) same_tree are

  -- rolling back keeps the length
  as_long : size m.memory.region ≡ size R
  as_long = ap size is.region ∙ same_size R (undone o.sup R) (o.sup, is.is.sup, (rolled_back R o is.is).sup, stays R o.sup is.is.sup)

  made_here : (u : Tree) → AreMade m.sup calls (tree m) u → AreMade o.sup calls (tree_shown R o) u
  made_here u made = subst (λ (s : Super). AreMade s calls (tree_shown R o) u) is.sup (subst (λ (t : Tree). AreMade m.sup calls t u) same_tree made)

  tables_by : (begun : List Call) → LeavesTables m n begun → MayHaveGrown o.sup begun (outcome_layout o) n.layout
  tables_by begun ran = (
    subst (λ (l : Layout). ChainsGrow l n.layout) is.layout ran.chains,
    λ fixed. ran.stays (ap (λ (s : Super). grow_tables s begun) is.sup ∙ fixed) ∙ ap (λ (l : Layout). l.chains) is.layout,
  )

  -- The region that is left shows what the calls make.
  pub all_made : CanClean n → LeavesTables m n calls → size n.memory.region ≡ size m.memory.region → AreCallsOf (tree m) change cpu time calls → AreMade m.sup calls (tree m) (tree n) → Keeps n → IsSettled n.memory
      → IsMade R o change cpu time n.memory
  all_made can ran long are made kept settled =
      let own = shows_now n kept can in
      record {
        calls = calls;
        are = calls_here are;
        tree = tree n;
        made = made_here (tree n) made;
        leaves = record {
          as_long = long ∙ as_long;
          after = record { sup = n.layout.sup; tables = n.layout.chains; rows = n.rows; free = n.free.pools; doubled = own.0; faults = [] };
          shown = own.1;
          own = kept.own can.runs;
          sup = kept.tables ∙ ran.sup ∙ is.sup;
          layout = tables_by calls ran;
          faultless = refl;
          tree = same_itself (tree n);
        };
        settled = settled;
      }

  -- A call is refused by its tests.
  pub one_refused : (halted : Halted) → n.stopped ≡ false → n.read_only ≡ false → LeavesTables m n (take halted.made calls) → AreCallsOf (tree m) change cpu time calls → Keeps n → halted.refusal ≢ Stopped
      → HaltsAt m.sup (tree m) calls halted n.memory.region n → (refusal : Refusal) → refusal ≡ halted.refusal → halted.refusal ≢ Memory → IsHalted R o change cpu time refusal
  one_refused halted runs writes ran are kept no_stop halts refusal same no_memory = record {
    calls = calls;
    are = calls_here are;
    halted = halted;
    left = n;
    kept = kept;
    runs = runs;
    sup = ran.sup ∙ is.sup;
    tables = tables_by (take halted.made calls) ran;
    writes = writes;
    halts = subst (λ (s : Super). HaltsAt s (tree_shown R o) calls halted n.memory.region n) is.sup (subst (λ (t : Tree). HaltsAt m.sup t calls halted n.memory.region n) same_tree halts);
    is = sym same;
    no_stop = λ e. no_stop (sym same ∙ e);
    no_memory = λ e. no_memory (sym same ∙ e);
  }
