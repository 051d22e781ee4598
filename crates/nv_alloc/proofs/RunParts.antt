-- The runs of the blocks of which a test holds, in parts.
use Rattle.std.proofs.Common.{◌≡◌, ◌≢◌, ◌⊎◌, inl, inr, ℕ, zero, suc, Bool, true, false, ◌+◌, ◌-◌, ◌<◌, ◌≤◌, List, [], ◌∷◌, eqb, refl, sym, ap, ◌∙◌, arith}
use Rattle.std.specs.Prelude.{if◌then◌else◌}
use Rattle.std.proofs.lemmas.Bool.Decides.{eqb_tells}
use Rattle.nv_super.proofs.Rising.{Contains-head}
use Rattle.nv_super.proofs.Runs.{some_blocks}
use Rattle.nv_super.specs.declared.owners.Run.{Run}
use Rattle.nv_super.specs.Runs.{AreRuns}
use Rattle.nv_alloc.specs.Taking.{blocks_in}
use Rattle.nv_alloc.specs.FreeRuns.{with_front, runs_where}
use Rattle.nv_alloc.proofs.Fronts.{blocks_cons}
use Rattle.nv_alloc.proofs.RunsWhere.{runs_where-are}

-- one block
step_on : (test : ℕ → Bool) (here n : ℕ) → test here ≡ true → runs_where test here (suc n) ≡ with_front here 1 (runs_where test (here + 1) n)
step_on test here n on = rw on refl

step_off : (test : ℕ → Bool) (here n : ℕ) → test here ≡ false → runs_where test here (suc n) ≡ runs_where test (here + 1) n
step_off test here n off = rw off refl

-- the same runs, by another spelling of their bounds
moved : (test : ℕ → Bool) (here there n m : ℕ) → here ≡ there → n ≡ m → runs_where test here n ≡ runs_where test there m
moved test here there n m e f = ap (λ (h : ℕ). runs_where test h n) e ∙ ap (λ (k : ℕ). runs_where test there k) f

-- the runs go by the blocks between the bounds alone
pub runs_same : (test test' : ℕ → Bool) (n here : ℕ) → ((b : ℕ) → here ≤ b → b < here + n → test b ≡ test' b) → runs_where test here n ≡ runs_where test' here n
runs_same test test' zero here same = refl
runs_same test test' (suc n) here same =
    let rest : runs_where test (here + 1) n ≡ runs_where test' (here + 1) n = runs_same test test' n (here + 1) (λ b low high. same b (omega (arith, low)) (omega (arith, high))) in
    ap (λ (x : List Run). if test here then with_front here 1 x else x) rest ∙ ap (λ (t : Bool). if t then with_front here 1 (runs_where test' (here + 1) n) else runs_where test' (here + 1) n) (same here (omega arith) (omega arith))

-- blocks of which the test doesn't hold make no run
pub runs_skip : (test : ℕ → Bool) (k n here : ℕ) → k ≤ n → ((b : ℕ) → here ≤ b → b < here + k → test b ≡ false) → runs_where test here n ≡ runs_where test (here + k) (n - k)
runs_skip test zero n here le off = moved test here (here + 0) n (n - 0) (omega arith) (omega arith)
runs_skip test (suc k) zero here le off = absurd (omega (arith, le))
runs_skip test (suc k) (suc n) here le off =
    step_off test here n (off here (omega arith) (omega arith))
    ∙ runs_skip test k n (here + 1) (omega (arith, le)) (λ b low high. off b (omega (arith, low)) (omega (arith, high)))
    ∙ moved test (here + 1 + k) (here + suc k) (n - k) (suc n - suc k) (omega arith) (omega arith)

-- a front before a front
fused : (here k : ℕ) (rs : List Run) → with_front here 1 (with_front (here + 1) k rs) ≡ with_front here (1 + k) rs
fused here k [] = touch (eqb_tells (here + 1) (here + 1))
  where
    touch : ((eqb (here + 1) (here + 1) ≡ true) × (here + 1 ≡ here + 1)) ⊎ ((eqb (here + 1) (here + 1) ≡ false) × (here + 1 ≢ here + 1)) → with_front here 1 (record { start = here + 1; count = k } ∷ []) ≡ record { start = here; count = 1 + k } ∷ []
    touch (inl is) = rw is.0 refl
    touch (inr ne) = absurd (ne.1 refl)
fused here k (r ∷ rs) = decide (eqb_tells (here + 1 + k) r.start) (eqb_tells (here + 1) (here + 1)) (eqb_tells (here + (1 + k)) r.start)
  where
    decide : ((eqb (here + 1 + k) r.start ≡ true) × (here + 1 + k ≡ r.start)) ⊎ ((eqb (here + 1 + k) r.start ≡ false) × (here + 1 + k ≢ r.start))
        → ((eqb (here + 1) (here + 1) ≡ true) × (here + 1 ≡ here + 1)) ⊎ ((eqb (here + 1) (here + 1) ≡ false) × (here + 1 ≢ here + 1))
        → ((eqb (here + (1 + k)) r.start ≡ true) × (here + (1 + k) ≡ r.start)) ⊎ ((eqb (here + (1 + k)) r.start ≡ false) × (here + (1 + k) ≢ r.start))
        → with_front here 1 (with_front (here + 1) k (r ∷ rs)) ≡ with_front here (1 + k) (r ∷ rs)
    decide (inl a) (inl own) (inl c) = rw (a.0, c.0) (rw own.0 (ap (λ (n : ℕ). record { start = here; count = n } ∷ rs) (omega arith)))
    decide (inr a) (inl own) (inr c) = rw (a.0, c.0) (rw own.0 refl)
    decide (inl a) own (inr c) = absurd (c.1 (let e = a.1 in omega (arith, e)))
    decide (inr a) own (inl c) = absurd (a.1 (let e = c.1 in omega (arith, e)))
    decide a (inr own) c = absurd (own.1 refl)

one_more : (k : ℕ) → 1 + k ≡ suc k
one_more k = omega arith

-- blocks of which the test holds stand in front of the runs of the rest
pub runs_front : (test : ℕ → Bool) (k n here : ℕ) → 0 < k → k ≤ n → ((b : ℕ) → here ≤ b → b < here + k → test b ≡ true) → runs_where test here n ≡ with_front here k (runs_where test (here + k) (n - k))
runs_front test zero n here some le on = absurd (omega (arith, some))
runs_front test (suc k) zero here some le on = absurd (omega (arith, le))
runs_front test (suc zero) (suc n) here some le on =
    step_on test here n (on here (omega arith) (omega arith)) ∙ ap (with_front here 1) (moved test (here + 1) (here + suc zero) n (suc n - suc zero) (omega arith) (omega arith))
runs_front test (suc (suc k)) (suc n) here some le on =
    step_on test here n (on here (omega arith) (omega arith))
    ∙ ap (with_front here 1) (runs_front test (suc k) n (here + 1) (omega arith) (omega (arith, le)) (λ b low high. on b (omega (arith, low)) (omega (arith, high))))
    ∙ fused here (suc k) (runs_where test (here + 1 + suc k) (n - suc k))
    ∙ ap (λ (m : ℕ). with_front here m (runs_where test (here + 1 + suc k) (n - suc k))) (one_more (suc k))
    ∙ ap (with_front here (suc (suc k))) (moved test (here + 1 + suc k) (here + suc (suc k)) (n - suc k) (suc n - suc (suc k)) (omega arith) (omega arith))

-- how many blocks a front adds
pub front_blocks : (s n : ℕ) (rs : List Run) → blocks_in (with_front s n rs) ≡ n + blocks_in rs
front_blocks s n [] = blocks_cons (record { start = s; count = n }) []
front_blocks s n (r ∷ rs) = decide (eqb_tells (s + n) r.start)
  where
    decide : ((eqb (s + n) r.start ≡ true) × (s + n ≡ r.start)) ⊎ ((eqb (s + n) r.start ≡ false) × (s + n ≢ r.start)) → blocks_in (with_front s n (r ∷ rs)) ≡ n + blocks_in (r ∷ rs)
    decide (inl a) = rw a.0 (let e = blocks_cons (record { start = s; count = n + r.count }) rs in let f = blocks_cons r rs in omega (arith, e, f))
    decide (inr a) = rw a.0 (blocks_cons (record { start = s; count = n }) (r ∷ rs))

-- the test holds of the first block of the first run
pub first_holds : (test : ℕ → Bool) (here n : ℕ) (r : Run) (rs : List Run) → AreRuns (λ b. (here ≤ b) × (b < here + n) × (test b ≡ true)) (r ∷ rs) → (here ≤ r.start) × (r.start < here + n) × (test r.start ≡ true)
first_holds test here n r rs runs = let some = some_blocks r rs runs.apart in runs.each r r.start (Contains-head r rs) (omega arith) (omega (arith, some))

-- a front that ends where the test doesn't hold, or at the end, stands alone
pub alone_before : (test : ℕ → Bool) (s k here n : ℕ) (rs : List Run) → AreRuns (λ b. (here ≤ b) × (b < here + n) × (test b ≡ true)) rs → s + k ≡ here → (here < here + n → test here ≡ false) → with_front s k rs ≡ record { start = s; count = k } ∷ rs
alone_before test s k here n [] runs is off = refl
alone_before test s k here n (r ∷ rs) runs is off = decide (eqb_tells (s + k) r.start)
  where
    decide : ((eqb (s + k) r.start ≡ true) × (s + k ≡ r.start)) ⊎ ((eqb (s + k) r.start ≡ false) × (s + k ≢ r.start)) → with_front s k (r ∷ rs) ≡ record { start = s; count = k } ∷ r ∷ rs
    decide (inl a) = absurd (clash (let h = first_holds test here n r rs runs in h))
      where
        same : here ≡ r.start
        same = sym is ∙ a.1

        clash : (here ≤ r.start) × (r.start < here + n) × (test r.start ≡ true) → ⊥
        clash h = differ (sym h.2 ∙ ap test (sym same) ∙ off (let lt = h.1 in let e = same in omega (arith, lt, e)))
          where
            differ : true ≡ false → ⊥
            differ e = cc
    decide (inr a) = rw a.0 refl

-- the first run, and then what follows
module _ (test : ℕ → Bool) (here last next to : ℕ) (some : here < last) (within : last ≤ to) (on : (b : ℕ) → here ≤ b → b < last → test b ≡ true) (stops : last < to → test last ≡ false)
    (order : last ≤ next) (ends : next ≤ to) (off : (b : ℕ) → last ≤ b → b < next → test b ≡ false) where
  pub first_run : runs_where test here (to - here) ≡ record { start = here; count = last - here } ∷ runs_where test next (to - next)
  first_run =
      runs_front test (last - here) (to - here) here (omega (arith, some)) (omega (arith, within)) (λ b low high. on b low (omega (arith, high, some)))
      ∙ ap (with_front here (last - here)) (moved test (here + (last - here)) last (to - here - (last - here)) (to - last) (omega (arith, some)) (omega (arith, some)))
      ∙ alone_before test here (last - here) last (to - last) (runs_where test last (to - last)) (runs_where-are test (to - last) last) (omega (arith, some)) (λ lt. stops (omega (arith, lt)))
      ∙ ap (λ (x : List Run). record { start = here; count = last - here } ∷ x)
      (runs_skip test (next - last) (to - last) last (omega (arith, ends)) (λ b low high. off b low (omega (arith, high, order)))
      ∙ moved test (last + (next - last)) next (to - last - (next - last)) (to - next) (omega (arith, order)) (omega (arith, order)))

-- the same up to another bound
pub skip_to : (test : ℕ → Bool) (here next to : ℕ) → here ≤ next → next ≤ to → ((b : ℕ) → here ≤ b → b < next → test b ≡ false) → runs_where test here (to - here) ≡ runs_where test next (to - next)
skip_to test here next to order ends off =
    runs_skip test (next - here) (to - here) here (omega (arith, ends)) (λ b low high. off b low (omega (arith, high, order)))
    ∙ moved test (here + (next - here)) next (to - here - (next - here)) (to - next) (omega (arith, order)) (omega (arith, order))

pub front_to : (test : ℕ → Bool) (here last to : ℕ) → here < last → last ≤ to → ((b : ℕ) → here ≤ b → b < last → test b ≡ true) → runs_where test here (to - here) ≡ with_front here (last - here) (runs_where test last (to - last))
front_to test here last to some ends on =
    runs_front test (last - here) (to - here) here (omega (arith, some)) (omega (arith, ends)) (λ b low high. on b low (omega (arith, high, some)))
    ∙ ap (with_front here (last - here)) (moved test (here + (last - here)) last (to - here - (last - here)) (to - last) (omega (arith, some)) (omega (arith, some)))

pub no_runs : (test : ℕ → Bool) (here to : ℕ) → to ≤ here → runs_where test here (to - here) ≡ []
no_runs test here to le = ap (λ (n : ℕ). runs_where test here n) (none here to le)
  where
    none : (here to : ℕ) → to ≤ here → to - here ≡ 0
    none here to le = omega (arith, le)

-- how many blocks the runs have
step_blocks : (test : ℕ → Bool) (here n : ℕ) (bit : Bool) → test here ≡ bit → blocks_in (runs_where test here (suc n)) ≡ (if bit then 1 else 0) + blocks_in (runs_where test (here + 1) n)
step_blocks test here n true on = ap blocks_in (step_on test here n on) ∙ front_blocks here 1 (runs_where test (here + 1) n)
step_blocks test here n false off = let e = ap blocks_in (step_off test here n off) in omega (arith, e)

pub few_blocks : (test : ℕ → Bool) (n here : ℕ) → blocks_in (runs_where test here n) ≤ n
few_blocks test zero here = omega arith
few_blocks test (suc n) here = decide (test here) refl (few_blocks test n (here + 1))
  where
    decide : (bit : Bool) → test here ≡ bit → blocks_in (runs_where test (here + 1) n) ≤ n → blocks_in (runs_where test here (suc n)) ≤ suc n
    decide true is few = let s = step_blocks test here n true is in omega (arith, s, few)
    decide false is few = let s = step_blocks test here n false is in omega (arith, s, few)

-- the blocks of two parts
split_blocks : (test : ℕ → Bool) (k n here : ℕ) → k ≤ n → blocks_in (runs_where test here n) ≡ blocks_in (runs_where test here k) + blocks_in (runs_where test (here + k) (n - k))
split_blocks test zero n here le = let e = ap blocks_in (moved test here (here + 0) n (n - 0) (omega arith) (omega arith)) in omega (arith, e)
split_blocks test (suc k) zero here le = absurd (omega (arith, le))
split_blocks test (suc k) (suc n) here le = decide (test here) refl (split_blocks test k n (here + 1) (omega (arith, le)))
  where
    decide : (bit : Bool) → test here ≡ bit → blocks_in (runs_where test (here + 1) n) ≡ blocks_in (runs_where test (here + 1) k) + blocks_in (runs_where test (here + 1 + k) (n - k))
        → blocks_in (runs_where test here (suc n)) ≡ blocks_in (runs_where test here (suc k)) + blocks_in (runs_where test (here + suc k) (suc n - suc k))
    decide bit is rest =
        let s = step_blocks test here n bit is in let t = step_blocks test here k bit is in
        let m = ap blocks_in (moved test (here + 1 + k) (here + suc k) (n - k) (suc n - suc k) (omega arith) (omega arith)) in omega (arith, s, t, m, rest)

all_on : (test : ℕ → Bool) (n here : ℕ) → ((b : ℕ) → here ≤ b → b < here + n → test b ≡ true) → blocks_in (runs_where test here n) ≡ n
all_on test zero here on = refl
all_on test (suc n) here on =
    let s = step_blocks test here n true (on here (omega arith) (omega arith)) in
    let rest = all_on test n (here + 1) (λ b low high. on b (omega (arith, low)) (omega (arith, high))) in omega (arith, s, rest)

all_off : (test : ℕ → Bool) (n here : ℕ) → ((b : ℕ) → here ≤ b → b < here + n → test b ≡ false) → blocks_in (runs_where test here n) ≡ 0
all_off test zero here off = refl
all_off test (suc n) here off =
    let s = step_blocks test here n false (off here (omega arith) (omega arith)) in
    let rest = all_off test n (here + 1) (λ b low high. off b (omega (arith, low)) (omega (arith, high))) in omega (arith, s, rest)

-- blocks of which the test holds by now are more
pub more_blocks : (test test' : ℕ → Bool) (from to low high : ℕ) → from ≤ low → low ≤ high → high ≤ to → ((b : ℕ) → low ≤ b → b < high → test b ≡ false) → ((b : ℕ) → low ≤ b → b < high → test' b ≡ true)
    → ((b : ℕ) → from ≤ b → b < to → (b < low) ⊎ (high ≤ b) → test' b ≡ test b) → blocks_in (runs_where test' from (to - from)) ≡ blocks_in (runs_where test from (to - from)) + (high - low)
more_blocks test test' from to low high above order below off on same =
    let a = parts test in let b = parts test' in
    let first = ap blocks_in (runs_same test' test (low - from) from (λ b h l. same b h (omega (arith, l, above, order, below)) (inl (omega (arith, l, above))))) in
    let last = ap blocks_in (runs_same test' test (to - high) high (λ b h l. same b (omega (arith, h, above, order)) (omega (arith, h, l)) (inr h))) in
    let none = all_off test (high - low) low (λ b h l. off b h (omega (arith, l, order))) in
    let all = all_on test' (high - low) low (λ b h l. on b h (omega (arith, l, order))) in
    omega (arith, a, b, first, last, none, all)
  where
    parts : (t : ℕ → Bool) → blocks_in (runs_where t from (to - from)) ≡ blocks_in (runs_where t from (low - from)) + (blocks_in (runs_where t low (high - low)) + blocks_in (runs_where t high (to - high)))
    parts t =
        let first = split_blocks t (low - from) (to - from) from (omega (arith, order, below)) in
        let m = ap blocks_in (moved t (from + (low - from)) low (to - from - (low - from)) (to - low) (omega (arith, above)) (omega (arith, above))) in
        let second = split_blocks t (high - low) (to - low) low (omega (arith, below)) in
        let n = ap blocks_in (moved t (low + (high - low)) high (to - low - (high - low)) (to - high) (omega (arith, order)) (omega (arith, order))) in
        omega (arith, first, m, second, n)
