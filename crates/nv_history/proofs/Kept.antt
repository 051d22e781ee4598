-- What comes of a call, by what the contract of its method says.
use Rattle.std.proofs.Common.{◌≡◌, ℕ, false, List, None, Result, Ok, Err, IfErr, IfOk, OnOk, sym, ap, ◌∙◌, subst}
use Rattle.std.specs.Prelude.{MatchResult}
use Rattle.nv_region.specs.Region.{Region}
use Rattle.nv_region.specs.Fuses.{FuseState}
use Rattle.nv_region.specs.Stops.{Choices, LeavesOnly}
use Rattle.nv_tree.specs.Tree.{SameTree}
use Rattle.nv_paths.specs.Spots.{new_number}
use Rattle.nv_tree.specs.Refusals.{Tests, first_refusal, IsRefusedBy}
use Rattle.nv_tree.specs.declared.refusal.Refusal.{Refusal}
use Rattle.nv_tree.specs.declared.refusal.Refusal.TheVariants.{Stopped}
use Rattle.nv_calls.specs.Keeping.{KeepsCall, KeepsCallBy}
use Rattle.nv_calls.specs.Mount.{Mount, shown}
use Rattle.nv_calls.specs.Same.{GrowsMount, IsLaidFor, GrowsWhereFull, SameMount}
use Rattle.nv_calls.specs.Upgrading.{KeepsUpgrade, Upgrades}
use Rattle.nv_calls.proofs.RowChange.{same_mount}
use Rattle.nv_history.specs.declared.calls.Answer.{Answer}
use Rattle.nv_history.specs.Said.{Said, Upgrade}
use Rattle.nv_history.specs.Making.{super_behind}
use Rattle.nv_history.specs.Asking.{AreTestsOf}
use Rattle.nv_history.specs.Keeping.{IsLaidBy, KeepsCalled, MayBeLaid}
use Rattle.nv_history.specs.Called.{AreNames, Called, answered_by, call_logs, call_makes, call_stops}

-- ---- tests

pub ok_by : {A : Type 0} (r : Result A Refusal) (tests others : Tests) → tests ≡ others → OnOk r (first_refusal others ≡ None) → OnOk r (first_refusal tests ≡ None)
ok_by r tests others is = subst (λ (x : Tests). OnOk r (first_refusal x ≡ None)) (sym is)

pub err_by : {A : Type 0} (r : Result A Refusal) (tests others : Tests) → tests ≡ others → IfErr r (IsRefusedBy (first_refusal others)) → IfErr r (IsRefusedBy (first_refusal tests))
err_by r tests others is = subst (λ (x : Tests). IfErr r (IsRefusedBy (first_refusal x))) (sym is)

-- ---- what is kept

both_ways : {A : Type 0} (r : Result A Refusal) (Made Before : Type 0) → Made → Before → MatchResult r (λ _. Made) (λ _. Before)
both_ways (Ok a) Made Before made before = made
both_ways (Err e) Made Before made before = before

module _ {P A : Type 0} (region : P → Region) (fuse : P → FuseState) (old new : Mount P) (r : Result A Refusal) where
  -- by a call that changes no tables
  pub of_call : (call : Said) → super_behind old.sup call ≡ old.sup → (new.layout ≡ old.layout → IsLaidBy call old new.layout) → (new.layout ≡ old.layout → MayBeLaid call old new.layout) → KeepsCall region fuse old new r
      → KeepsCalled region fuse call old new r
  of_call call behind made refused kept = record {
    stopped_before = kept.stopped_before;
    unchanged = kept.unchanged;
    stopped = kept.stopped;
    sup = both_ways r _ _ (kept.keeps.sup ∙ sym behind) kept.keeps.sup;
    laid = both_ways r _ _ (made kept.keeps.layout) (refused kept.keeps.layout);
    faults = kept.keeps.faults;
    mode = kept.keeps.read_only;
    length = kept.length;
    keeps_fuse = kept.keeps_fuse;
    read_only = kept.read_only;
  }

  -- by one that makes an inode
  pub of_inode : (cpu : ℕ) (call : Said) → super_behind old.sup call ≡ old.sup → (GrowsWhereFull old cpu new.layout × IsLaidFor old.layout cpu (new_number old.layout old.rows cpu) new.layout → IsLaidBy call old new.layout)
      → (GrowsWhereFull old cpu new.layout → MayBeLaid call old new.layout) → KeepsCallBy (GrowsMount cpu) region fuse old new r → OnOk r (IsLaidFor old.layout cpu (new_number old.layout old.rows cpu) new.layout) → KeepsCalled region fuse call old new r
  of_inode cpu call behind made refused kept laid_for = record {
    stopped_before = kept.stopped_before;
    unchanged = kept.unchanged;
    stopped = kept.stopped;
    sup = both_ways r _ _ (kept.keeps.sup ∙ sym behind) kept.keeps.sup;
    laid = laid_by r laid_for;
    faults = kept.keeps.faults;
    mode = kept.keeps.read_only;
    length = kept.length;
    keeps_fuse = kept.keeps_fuse;
    read_only = kept.read_only;
  } where
    laid_by : (x : Result A Refusal) → OnOk x (IsLaidFor old.layout cpu (new_number old.layout old.rows cpu) new.layout) → MatchResult x (λ _. IsLaidBy call old new.layout) (λ _. MayBeLaid call old new.layout)
    laid_by (Ok a) is = made (kept.keeps.tables, is)
    laid_by (Err e) is = refused kept.keeps.tables

  -- by `upgrade`
  pub of_upgrade : KeepsUpgrade region fuse old new r → OnOk r (Upgrades region old new) → KeepsCalled region fuse Upgrade old new r
  of_upgrade kept upgrades = record {
    stopped_before = kept.stopped_before;
    unchanged = still r kept.unchanged;
    stopped = kept.stopped;
    sup = superblock r kept.tables upgrades;
    laid = tables r kept.tables upgrades;
    faults = kept.faults;
    mode = kept.mode;
    length = kept.length;
    keeps_fuse = kept.keeps_fuse;
    read_only = λ only. as_same (kept.read_only only);
  } where
    as_same : new ≡ old → SameMount old new
    as_same same = subst (λ (k : Mount P). SameMount old k) (sym same) (same_mount old)

    still : (x : Result A Refusal) → IfErr x (λ e. (e ≡ Stopped → ⊥) → new ≡ old) → IfErr x (λ e. (e ≡ Stopped → ⊥) → SameMount old new)
    still (Ok a) same = tt
    still (Err e) same = λ runs. as_same (same runs)

    superblock : (x : Result A Refusal) → IfErr x (λ e. (new.sup ≡ old.sup) × (new.layout ≡ old.layout)) → OnOk x (Upgrades region old new) → MatchResult x (λ _. new.sup ≡ super_behind old.sup Upgrade) (λ _. new.sup ≡ old.sup)
    superblock (Ok a) before made = made.sup
    superblock (Err e) before made = before.0

    tables : (x : Result A Refusal) → IfErr x (λ e. (new.sup ≡ old.sup) × (new.layout ≡ old.layout)) → OnOk x (Upgrades region old new) → MatchResult x (λ _. IsLaidBy Upgrade old new.layout) (λ _. MayBeLaid Upgrade old new.layout)
    tables (Ok a) before made = made.layout
    tables (Err e) before made = before.1

-- the same of its answer
kept_answered : {P A : Type 0} (region : P → Region) (fuse : P → FuseState) (call : Said) (old new : Mount P) (answer : A → Answer) (r : Result A Refusal) → KeepsCalled region fuse call old new r → KeepsCalled region fuse call old new (answered_by answer r)
kept_answered {P} {A} region fuse call old new answer (Ok a) kept = record {
  stopped_before = λ on. absurd (let clash : ◌≡◌ {A = Result A Refusal} (Ok a) (Err Stopped) = (kept.stopped_before on).0 in cc);
  unchanged = tt;
  stopped = λ runs. ((λ on. absurd (let clash : ◌≡◌ {A = Result A Refusal} (Ok a) (Err Stopped) = ((kept.stopped runs).0 on).0 in cc)), (λ is. absurd (cc)));
  sup = kept.sup;
  laid = kept.laid;
  faults = kept.faults;
  mode = kept.mode;
  length = kept.length;
  keeps_fuse = kept.keeps_fuse;
  read_only = kept.read_only;
}
kept_answered {P} {A} region fuse call old new answer (Err e) kept = record {
  stopped_before = λ on. (let told = kept.stopped_before on in (same_stop told.0, told.1));
  unchanged = kept.unchanged;
  stopped = λ runs. (let told = kept.stopped runs in ((λ on. (same_stop (told.0 on).0, (told.0 on).1)), (λ is. told.1 (other_stop is))));
  sup = kept.sup;
  laid = kept.laid;
  faults = kept.faults;
  mode = kept.mode;
  length = kept.length;
  keeps_fuse = kept.keeps_fuse;
  read_only = kept.read_only;
} where
  same_stop : ◌≡◌ {A = Result A Refusal} (Err e) (Err Stopped) → ◌≡◌ {A = Result Answer Refusal} (Err e) (Err Stopped)
  same_stop is = (let one : e ≡ Stopped = cc in ap (λ (f : Refusal). Err f) one)

  other_stop : ◌≡◌ {A = Result Answer Refusal} (Err e) (Err Stopped) → ◌≡◌ {A = Result A Refusal} (Err e) (Err Stopped)
  other_stop is = (let one : e ≡ Stopped = cc in ap (λ (f : Refusal). Err f) one)

-- ---- a call

module _ {P A : Type 0} (region : P → Region) (may_hold : P → Choices) (fuse : P → FuseState) (call : Said) (old new : Mount P) (answer : A → Answer) where
  abbrev R : Region
  R = region old.memory

  abbrev Logged : Result A Refusal → Type 0
  Logged r = (names others : List (List ℕ)) → AreNames call names others → IfOk r (λ a. call_logs call others (answer a) R old names (region new.memory))

  abbrev AnyStop : Type 0
  AnyStop = (names others : List (List ℕ)) → AreNames call names others → old.stopped ≡ false → old.read_only ≡ false
      → LeavesOnly (region new.memory) (may_hold new.memory) (call_stops call others R old names)

  of_answer : (r : Result A Refusal) → ((tests : Tests) → AreTestsOf R old call tests → OnOk r (first_refusal tests ≡ None)) → (old.stopped ≡ false → (tests : Tests) → AreTestsOf R old call tests → IfErr r (IsRefusedBy (first_refusal tests)))
      → ((names others : List (List ℕ)) → AreNames call names others → OnOk r (SameTree (shown region new) (call_makes call others R old names))) → Logged r → KeepsCalled region fuse call old new r
      → (((names others : List (List ℕ)) → AreNames call names others → ⊥) → SameMount old new) → AnyStop → Called region may_hold fuse call old new (answered_by answer r)
  of_answer (Ok a) allowed refused changed logged kept bad_text any_stop = record {
    allowed = allowed;
    refused = refused;
    changed = changed;
    logged = logged;
    kept = kept_answered region fuse call old new answer (Ok a) kept;
    bad_text = bad_text;
    any_stop = any_stop;
  }
  of_answer (Err e) allowed refused changed logged kept bad_text any_stop = record {
    allowed = allowed;
    refused = refused;
    changed = changed;
    logged = logged;
    kept = kept_answered region fuse call old new answer (Err e) kept;
    bad_text = bad_text;
    any_stop = any_stop;
  }

  -- which call it is, and what its method answers
  pub called_by : (asked : Said) → asked ≡ call → (result : Result Answer Refusal) (r : Result A Refusal) → result ≡ answered_by answer r → ((tests : Tests) → AreTestsOf R old call tests → OnOk r (first_refusal tests ≡ None))
      → (old.stopped ≡ false → (tests : Tests) → AreTestsOf R old call tests → IfErr r (IsRefusedBy (first_refusal tests)))
      → ((names others : List (List ℕ)) → AreNames call names others → OnOk r (SameTree (shown region new) (call_makes call others R old names))) → Logged r → KeepsCalled region fuse call old new r
      → (((names others : List (List ℕ)) → AreNames call names others → ⊥) → SameMount old new) → AnyStop → Called region may_hold fuse asked old new result
  called_by asked is result r told allowed refused changed logged kept bad_text any_stop =
      subst (λ (s : Said). Called region may_hold fuse s old new result) (sym is)
      (subst (λ (x : Result Answer Refusal). Called region may_hold fuse call old new x) (sym told) (of_answer r allowed refused changed logged kept bad_text any_stop))
