-- What a recovery's clauses say as an answer, and the numbers of a schedule in 32 bits, which name the same workers.
use Rattle.std.proofs.Common.{◌≡◌, ℕ, ◌≤◌, ◌-◌, ◌^◌, Bool, true, false, nat_le, nat_lt, min, List, [], ◌∷◌, length, map, Option, Some, None, OnSome, ◌≢◌, IsTrue, refl, sym, subst, ◌∙◌, arith}
use Rattle.std.specs.List.{list_any, position_or_len}
use Rattle.nv_region.specs.Region.{Region}
use Rattle.nv_super.specs.Super.{IsSuper}
use Rattle.nv_super.specs.declared.superblock.Super.{Super}
use Rattle.nv_claimcore.specs.Replay.{first_stranger}
use Rattle.nv_journal.specs.Undo.{undone}
use Rattle.nv_outcome.specs.Outcome.{IsOutcome}
use Rattle.nv_outcome.specs.Answer.{outcome_of}
use Rattle.nv_outcome.specs.declared.recovered.Recovered.{Recovered}
use Rattle.nv_recover.specs.Errors.{Fails, IsBadCount, UndoesAsBefore, comes_first}
use Rattle.nv_recover.specs.declared.errors.RecoverError.{RecoverError}
use Rattle.nv_recover.specs.declared.errors.RecoverError.TheVariants as errors
use Rattle.nv_text.specs.declared.refusals.Refusal.{Refusal}
use Rattle.nv_text.specs.declared.refusals.Refusal.TheVariants as refusals
use Rattle.nv_image_check.specs.Workers.{is_worker_count, names_stranger}
use Rattle.nv_image_check.specs.Answering.{refusal_of, IsToldAs, EndsAs, RefusesRecovery, MayAnswer, MayEnd, IsOfItsSuper, worker_number}
use Rattle.nv_image_check.specs.declared.recovery.Answer.{Answer}
use Rattle.nv_image_check.specs.declared.recovery.Answer.TheVariants as answers

few : (workers : ℕ) → is_worker_count workers ≡ true → workers ≤ 64
few workers count = grind arith

good_count : (workers : ℕ) → (IsBadCount workers → ⊥) → is_worker_count workers ≡ true
good_count workers good = at (is_worker_count workers) refl where
  at : (b : Bool) → is_worker_count workers ≡ b → b ≡ true
  at true e = refl
  at false e = absurd (good (grind arith))

bad_count : (workers : ℕ) → IsBadCount workers → is_worker_count workers ≡ false
bad_count workers bad = grind arith

-- ---- the first stranger, if there is one

any_step : (p : ℕ → Bool) (x : ℕ) (xs : List ℕ) → nat_lt (position_or_len p xs) (length xs) ≡ list_any p xs → nat_lt (position_or_len p (x ∷ xs)) (length (x ∷ xs)) ≡ list_any p (x ∷ xs)
any_step p x xs rest = at (p x) refl where
  at : (b : Bool) → p x ≡ b → nat_lt (position_or_len p (x ∷ xs)) (length (x ∷ xs)) ≡ list_any p (x ∷ xs)
  at true e = rw e (grind arith)
  at false e = rw e (grind (arith, rest))

any_place : (p : ℕ → Bool) (xs : List ℕ) → nat_lt (position_or_len p xs) (length xs) ≡ list_any p xs
any_place p [] = refl
any_place p (x ∷ xs) = any_step p x xs (any_place p xs)

none_named : (workers : ℕ) (schedule : List ℕ) → ((place : ℕ) → first_stranger workers schedule ≡ Some place → ⊥) → names_stranger workers schedule ≡ false
none_named workers schedule none = at (names_stranger workers schedule) (any_place (λ w. nat_le workers w) schedule) where
  at : (b : Bool) → nat_lt (position_or_len (λ w. nat_le workers w) schedule) (length schedule) ≡ b → b ≡ false
  at true e = absurd (none (position_or_len (λ w. nat_le workers w) schedule) (rw e refl))
  at false e = refl

some_named : (workers : ℕ) (schedule : List ℕ) (place : ℕ) → first_stranger workers schedule ≡ Some place → names_stranger workers schedule ≡ true
some_named workers schedule place some = at (names_stranger workers schedule) (any_place (λ w. nat_le workers w) schedule) where
  at : (b : Bool) → nat_lt (position_or_len (λ w. nat_le workers w) schedule) (length schedule) ≡ b → b ≡ true
  at true e = refl
  at false e = absurd (let none : first_stranger workers schedule ≡ None = rw e refl in cc)

-- ---- errors

module _ (R R' : Region) (workers : ℕ) (schedule : List ℕ) where
  refuses : (e : RecoverError) → (IsBadCount workers → e ≡ errors.Workers) → ((place : ℕ) → (IsBadCount workers → ⊥) → first_stranger workers schedule ≡ Some place → e ≡ errors.Schedule place)
      → Fails workers schedule e R R' → (refusal : Refusal) → refusal_of e ≡ Some refusal → RefusesRecovery R workers schedule refusal × (R' ≡ R)
  refuses (errors.Super fault) bad stranger fails refusal told =
      let good : IsBadCount workers → ⊥ = λ b. let e = bad b in cc in
      let none = none_named workers schedule (λ place some. let e = stranger place good some in cc) in
      let same : refusals.Super fault ≡ refusal = cc in
      (subst (RefusesRecovery R workers schedule) same (good_count workers good, none, fails.0), fails.1)
  refuses errors.Memory bad stranger fails refusal told = absurd (cc)
  refuses errors.Stopped bad stranger fails refusal told = absurd (cc)
  refuses errors.Workers bad stranger fails refusal told =
      let same : refusals.Workers ≡ refusal = cc in
      (subst (RefusesRecovery R workers schedule) same (bad_count workers fails.0), fails.1)
  refuses (errors.Schedule place) bad stranger fails refusal told =
      let good : IsBadCount workers → ⊥ = λ b. let e = bad b in cc in
      let same : refusals.Schedule ≡ refusal = cc in
      (subst (RefusesRecovery R workers schedule) same (good_count workers good, some_named workers schedule place fails.0), fails.1)

  -- an error as an answer
  pub told_answers : (e : RecoverError) → (IsBadCount workers → e ≡ errors.Workers) → ((place : ℕ) → (IsBadCount workers → ⊥) → first_stranger workers schedule ≡ Some place → e ≡ errors.Schedule place)
      → Fails workers schedule e R R' → (answer : Answer) → IsToldAs e answer → MayAnswer R workers schedule answer R'
  told_answers e bad stranger fails (answers.Recovered r) told = absurd told
  told_answers e bad stranger fails (answers.Refused refusal) told = refuses e bad stranger fails refusal told

  -- an error as an answer, or a stop as none
  pub ends : (e : RecoverError) → (IsBadCount workers → e ≡ errors.Workers) → ((place : ℕ) → (IsBadCount workers → ⊥) → first_stranger workers schedule ≡ Some place → e ≡ errors.Schedule place)
      → Fails workers schedule e R R' → (answer : Option Answer) → EndsAs e answer → MayEnd R workers schedule answer R'
  ends e bad stranger fails (Some answer) told = told_answers e bad stranger fails answer told
  ends e bad stranger fails None stopped =
      let good : IsBadCount workers → ⊥ = λ b. let w : errors.Stopped ≡ errors.Workers = sym stopped ∙ bad b in cc in
      (good_count workers good, none_named workers schedule (λ place some. let w : errors.Stopped ≡ errors.Schedule place = sym stopped ∙ stranger place good some in cc), subst (λ (x : RecoverError). Fails workers schedule x R R') stopped fails)

-- no error, so neither the workers nor the schedule are refused
pub tests_pass : (workers : ℕ) (schedule : List ℕ) → (IsBadCount workers → ⊥) → ((place : ℕ) → (IsBadCount workers → ⊥) → first_stranger workers schedule ≡ Some place → ⊥)
    → (is_worker_count workers ≡ true) × (names_stranger workers schedule ≡ false)
tests_pass workers schedule good none = (good_count workers good, none_named workers schedule (λ place some. none place good some))

-- ---- numbers in 32 bits

same_number : (workers number : ℕ) → workers ≤ 64 → nat_le workers (min number (2 ^ 32 - 1)) ≡ nat_le workers number
same_number workers number small = grind arith

same_strangers : (workers : ℕ) (schedule : List ℕ) → workers ≤ 64 → names_stranger workers (map worker_number schedule) ≡ names_stranger workers schedule
same_strangers workers [] small = refl
same_strangers workers (number ∷ schedule) small =
    let rest = same_strangers workers schedule small in
    let here = same_number workers number small in cc

same_refusal : (R : Region) (workers : ℕ) (schedule : List ℕ) (refusal : Refusal) → RefusesRecovery R workers (map worker_number schedule) refusal → RefusesRecovery R workers schedule refusal
same_refusal R workers schedule refusals.Workers h = h
same_refusal R workers schedule refusals.Schedule h = (h.0, sym (same_strangers workers schedule (few workers h.0)) ∙ h.1)
same_refusal R workers schedule (refusals.Super fault) h = (h.0, sym (same_strangers workers schedule (few workers h.0)) ∙ h.1, h.2)
same_refusal R workers schedule refusal h = absurd h

-- so an answer by the one is an answer by the other
pub same_answer : (R R' : Region) (workers : ℕ) (schedule : List ℕ) (answer : Answer) → MayAnswer R workers (map worker_number schedule) answer R' → MayAnswer R workers schedule answer R'
same_answer R R' workers schedule (answers.Recovered r) h = (h.0, sym (same_strangers workers schedule (few workers h.0)) ∙ h.1, h.2, h.3)
same_answer R R' workers schedule (answers.Refused refusal) h = (same_refusal R workers schedule refusal h.0, h.1)

-- the same where the numbers were taken from a schedule
module _ (R R' : Region) (workers : ℕ) (numbers schedule : List ℕ) (same : numbers ≡ map worker_number schedule) where
  by_schedule : (answer : Answer) → MayAnswer R workers numbers answer R' → MayAnswer R workers schedule answer R'
  by_schedule answer h = same_answer R R' workers schedule answer (subst (λ s. MayAnswer R workers s answer R') same h)

  pub replayed : (r : Recovered) → (IsBadCount workers → ⊥) → ((place : ℕ) → (IsBadCount workers → ⊥) → first_stranger workers numbers ≡ Some place → ⊥)
      → IsOutcome R (outcome_of r) → R' ≡ undone r.sup R → MayAnswer R workers schedule (answers.Recovered r) R'
  replayed r good none is rolled = let pass = tests_pass workers numbers good none in by_schedule (answers.Recovered r) (pass.0, pass.1, is, rolled)

  pub replay_ends : (e : RecoverError) → (IsBadCount workers → e ≡ errors.Workers) → ((place : ℕ) → (IsBadCount workers → ⊥) → first_stranger workers numbers ≡ Some place → e ≡ errors.Schedule place)
      → Fails workers numbers e R R' → (answer : Option Answer) → EndsAs e answer → MayEnd R workers schedule answer R'
  replay_ends e bad stranger fails (Some answer) told = by_schedule answer (told_answers R R' workers numbers e bad stranger fails answer told)
  replay_ends e bad stranger fails None stopped =
      let h : MayEnd R workers (map worker_number schedule) None R' = subst (λ s. MayEnd R workers s None R') same (ends R R' workers numbers e bad stranger fails None stopped) in
      (h.0, sym (same_strangers workers schedule (few workers h.0)) ∙ h.1, h.2)

-- a memory without a fuse isn't stopped
pub no_stop : (e : RecoverError) (answer : Option Answer) → (e ≡ errors.Stopped → ⊥) → EndsAs e answer → answer ≢ None
no_stop e None unstopped stopped = λ _. unstopped stopped
no_stop e (Some answer) unstopped told = λ none. (cc)

-- an error has no lists
pub no_lists : (e : RecoverError) (answer : Option Answer) → EndsAs e answer → IsOfItsSuper answer
no_lists e None told = tt
no_lists e (Some (answers.Recovered r)) told = absurd told
no_lists e (Some (answers.Refused refusal)) told = tt

-- ---- what is pending

-- an error that is told as a refusal is found before anything is stored
told_first : (e : RecoverError) (answer : Answer) → IsToldAs e answer → IsTrue (comes_first e)
told_first e (answers.Recovered r) told = absurd told
told_first (errors.Super fault) (answers.Refused refusal) told = refl
told_first errors.Workers (answers.Refused refusal) told = refl
told_first (errors.Schedule place) (answers.Refused refusal) told = refl
told_first errors.Memory (answers.Refused refusal) told = absurd (cc)
told_first errors.Stopped (answers.Refused refusal) told = absurd (cc)

-- so what holds of a memory before it holds behind the refusal
pub refusal_keeps : {P : Type 0} (Holds : P → Type 0) (old new : P) (e : RecoverError) → (IsTrue (comes_first e) → new ≡ old) → Holds old → (answer : Answer) → IsToldAs e answer → Holds new
refusal_keeps Holds old new e same before answer told = subst Holds (sym (same (told_first e answer told))) before

-- the same where a stop is told as no answer
pub refused_keeps : {P : Type 0} (Holds : P → Type 0) (old new : P) (e : RecoverError) → (IsTrue (comes_first e) → new ≡ old) → Holds old → (answer : Option Answer) → EndsAs e answer → OnSome answer (Holds new)
refused_keeps Holds old new e same before None ends = tt
refused_keeps Holds old new e same before (Some answer) ends = refusal_keeps Holds old new e same before answer ends

-- a region rolls back as itself
pub undoes_itself : (R left : Region) (s : Super) → IsSuper R s → left ≡ R → UndoesAsBefore R left
undoes_itself R left s is same = subst (UndoesAsBefore R) (sym same) (s, is, is, refl)
