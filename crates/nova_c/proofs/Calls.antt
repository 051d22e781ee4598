-- Calls over a handle: what a call on the mount says, by the mounts that the handle owns before and after it. The memory has no
-- fuse, so it is never stopped, and a refused call leaves all as it was.
use Rattle.std.proofs.Common.{◌≡◌, ◌∙◌, inl, inr, ℕ, List, Bool, false, IsTrue, Option, Result, Err, sym, subst, ap}
use Rattle.std.proofs.lemmas.Bool.{cases_Bool, false≢true}
use Rattle.nv_region.specs.Region.{Region}
use Rattle.nv_region.specs.Stops.{LeavesOnly}
use Rattle.nv_tree.specs.Tree.{SameTree, Tree}
use Rattle.nv_tree.specs.Refusals.{IsRefusedBy}
use Rattle.nv_tree.specs.declared.refusal.Refusal.{Refusal}
use Rattle.nv_tree.specs.declared.refusal.Refusal.TheVariants.{Stopped}
use Rattle.nv_calls.specs.Effects.{Logs, Makes}
use Rattle.nv_calls.specs.Mount.{Mount}
use Rattle.nv_calls.specs.Same.{SameMount}
use Rattle.nv_calls.specs.Stopped.{LeavesCall, LeavesGrowing}
use Rattle.nv_calls.proofs.RowChange.{same_mount}
use Rattle.nv_lent.specs.WordsState.{as_it_reads}
use Rattle.nova_c.specs.Codes.{TellsRefusal, status_of}
use Rattle.nova_c.specs.Handles.{shown}

-- a call that is refused by a stop of a mount that ran would have burnt a fuse
pub never_stopped : {A : Type 0} (result : Result A Refusal) (e : Refusal) (old new : Bool) → result ≡ Err e
    → (old ≡ false → (IsTrue new → (result ≡ Err Stopped) × IsTrue false) × (result ≡ Err Stopped → IsTrue new)) → old ≡ false → e ≡ Stopped → ⊥
never_stopped result e old new is stopped runs same =
    let both = stopped runs in
    false≢true (both.0 (both.1 (is ∙ ap Err same))).1

as_before : (old new : Mount Region) (e : Refusal) → (IsTrue old.stopped → new ≡ old) → (old.stopped ≡ false → e ≡ Stopped → ⊥)
    → ((e ≡ Stopped → ⊥) → SameMount old new) → SameMount old new
as_before old new e stays runs leaves = elim (cases_Bool old.stopped) [
  | inl stopped ↦ subst (λ (m : Mount Region). SameMount old m) (sym (stays stopped)) (same_mount old)
  | inr running ↦ leaves (runs running)
]

-- of a mount that the handle owned before (b), as the call takes it (a), and as it leaves it (m), which the handle owns then (n)
module _ (a b m n : Mount Region) (before : a ≡ b) (after : n ≡ m) where
  pub unchanged_by : {A : Type 0} (result : Result A Refusal) (e : Refusal) → result ≡ Err e → (IsTrue a.stopped → (result ≡ Err Stopped) × (m ≡ a))
      → (a.stopped ≡ false → (IsTrue m.stopped → (result ≡ Err Stopped) × IsTrue false) × (result ≡ Err Stopped → IsTrue m.stopped))
      → ((e ≡ Stopped → ⊥) → SameMount a m) → SameMount b n
  unchanged_by result e is stays stopped leaves =
      let same : SameMount a m = as_before a m e (λ s. (stays s).1) (never_stopped result e a.stopped m.stopped is stopped) leaves in
      subst (λ (k : Mount Region). SameMount k n) before (subst (λ (k : Mount Region). SameMount a k) (sym after) same)

  pub any_stop_by : (Leaves : Region → Mount Region → Region → Type 0)
      → (a.stopped ≡ false → a.read_only ≡ false → LeavesOnly m.memory (as_it_reads m.memory) (Leaves a.memory a))
      → b.stopped ≡ false → b.read_only ≡ false → LeavesOnly n.memory (as_it_reads n.memory) (Leaves b.memory b)
  any_stop_by Leaves leaves =
      subst (λ (k : Mount Region). k.stopped ≡ false → k.read_only ≡ false → LeavesOnly n.memory (as_it_reads n.memory) (Leaves k.memory k)) before
      (subst (λ (k : Mount Region). a.stopped ≡ false → a.read_only ≡ false → LeavesOnly k.memory (as_it_reads k.memory) (Leaves a.memory a)) (sym after) leaves)

  pub any_stop_of : (makes : Makes Region) (logs : Logs Region) (names : List (List ℕ))
      → (a.stopped ≡ false → a.read_only ≡ false → LeavesOnly m.memory (as_it_reads m.memory) (LeavesCall makes logs a.memory a names))
      → b.stopped ≡ false → b.read_only ≡ false → LeavesOnly n.memory (as_it_reads n.memory) (LeavesCall makes logs b.memory b names)
  any_stop_of makes logs names = any_stop_by (λ R k. LeavesCall makes logs R k names)

  -- the same of a call by which a table may grow
  pub growing_stop_of : (cpu : ℕ) (makes : Makes Region) (logs : Logs Region) (names : List (List ℕ))
      → (a.stopped ≡ false → a.read_only ≡ false → LeavesOnly m.memory (as_it_reads m.memory) (LeavesGrowing cpu makes logs a.memory a names))
      → b.stopped ≡ false → b.read_only ≡ false → LeavesOnly n.memory (as_it_reads n.memory) (LeavesGrowing cpu makes logs b.memory b names)
  growing_stop_of cpu makes logs names = any_stop_by (λ R k. LeavesGrowing cpu makes logs R k names)

  -- what it leaves of the logs
  pub logged_by : (Logged : Region → Mount Region → Region → Type 0) → Logged a.memory a m.memory → Logged b.memory b n.memory
  logged_by Logged is =
      subst (λ (k : Mount Region). Logged k.memory k n.memory) before (subst (λ (k : Mount Region). Logged a.memory a k.memory) (sym after) is)

  pub logs_of : (logs : Logs Region) (names : List (List ℕ)) → logs a.memory a names m.memory → logs b.memory b names n.memory
  logs_of logs names = logged_by (λ R k. logs R k names)

  pub changed_of : (tree : Mount Region → Tree) → SameTree (shown m) (tree a) → SameTree (shown n) (tree b)
  changed_of tree same = subst (λ (k : Mount Region). SameTree (shown n) (tree k)) before (subst (λ (k : Mount Region). SameTree (shown k) (tree a)) (sym after) same)

-- the status of a refusal, by what comes first on the mount that the handle owns
pub refused_by : (first : Mount Region → Option Refusal) (a b : Mount Region) (e : Refusal) (status : ℕ) → a ≡ b → status ≡ status_of e
    → (a.stopped ≡ false → IsRefusedBy (first a) e) → b.stopped ≡ false → TellsRefusal (IsRefusedBy (first b)) status
refused_by first a b e status before is refused =
    subst (λ (k : Mount Region). k.stopped ≡ false → TellsRefusal (IsRefusedBy (first k)) status) before (λ runs. (e, is, refused runs))
