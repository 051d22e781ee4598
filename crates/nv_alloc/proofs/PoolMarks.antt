-- What the marks of a pool say of its blocks.
use Rattle.std.proofs.Common.{◌≡◌, ◌⊎◌, inl, inr, ℕ, Bool, true, false, ◌+◌, ◌-◌, ◌%◌, ◌/◌, ◌^◌, ◌<◌, ◌≤◌, List, [], ◌∷◌, ◌++◌, get_or, drop, eqb, refl, sym, ap, ◌∙◌, subst, arith, min, append_assoc}
use Rattle.std.specs.List.{slice_range}
use Rattle.std.specs.Int.{bit_at}
use Rattle.std.proofs.lemmas.Bool.{cases_lt}
use Rattle.std.proofs.lemmas.Bool.Decides.{eqb_tells}
use Rattle.std.proofs.lemmas.List.{get_or-take, get_or-drop}
use Rattle.nv_blockset.specs.BlockSet.{has}
use Rattle.nv_super.proofs.Runs.{some_blocks}
use Rattle.nv_super.specs.declared.owners.Run.{Run}
use Rattle.nv_super.specs.Runs.{Apart, AreRuns}
use Rattle.nv_alloc.specs.Taking.{HasBlock, blocks_in, taken, left}
use Rattle.nv_alloc.specs.SetTo.{SetTo}
use Rattle.nv_alloc.specs.FreeRuns.{runs_where, with_front, word_start, is_free, free_runs, IsPool}
use Rattle.nv_alloc.specs.Inside.{IsClear, TakesSome}
use Rattle.nv_alloc.proofs.Fronts.{taken_none, left_none, taken_whole, left_whole, taken_part, left_part, blocks_cons}
use Rattle.nv_alloc.proofs.Changed.{AreRuns-same}
use Rattle.nv_alloc.proofs.RunsWhere.{runs_where-are}
use Rattle.nv_alloc.proofs.RunParts.{runs_same, skip_to, front_to, no_runs, front_blocks, first_holds, more_blocks, first_run, few_blocks}

-- a block by its mark
pub free_at : (words : List ℕ) (first b : ℕ) → has words (b - word_start first) ≡ 0 → is_free words first b ≡ true
free_at words first b is = ap (λ (n : ℕ). eqb n 0) is

pub used_at : (words : List ℕ) (first b : ℕ) → has words (b - word_start first) ≡ 1 → is_free words first b ≡ false
used_at words first b is = ap (λ (n : ℕ). eqb n 0) is

pub clear_at : (words : List ℕ) (first b : ℕ) → is_free words first b ≡ true → has words (b - word_start first) ≡ 0
clear_at words first b is = decide (eqb_tells (has words (b - word_start first)) 0)
  where
    decide : ((eqb (has words (b - word_start first)) 0 ≡ true) × (has words (b - word_start first) ≡ 0)) ⊎ ((eqb (has words (b - word_start first)) 0 ≡ false) × (has words (b - word_start first) ≡ 0 → ⊥)) → has words (b - word_start first) ≡ 0
    decide (inl h) = h.1
    decide (inr h) = absurd (differ (sym is ∙ h.0))
      where
        differ : true ≡ false → ⊥
        differ e = cc

-- the marks of words that were copied
pub own_has : (words : List ℕ) (from to b : ℕ) → from ≤ b → b < to → has (slice_range words (from / 64) ((to + 63) / 64)) (b - word_start from) ≡ has words b
own_has words from to b low high =
    let place : (b - word_start from) / 64 ≡ b / 64 - from / 64 = omega (arith, low) in
    let bit : (b - word_start from) % 64 ≡ b % 64 = omega (arith, low) in
    ap (λ (k : ℕ). bit_at (get_or (slice_range words (from / 64) ((to + 63) / 64)) ((b - word_start from) / 64) 0) k) bit
    ∙ ap (λ (x : ℕ). bit_at x (b % 64)) (
    get_or-take ((to + 63) / 64 - from / 64) (drop (from / 64) words) ((b - word_start from) / 64) 0 (omega (arith, place, low, high))
    ∙ get_or-drop (from / 64) words ((b - word_start from) / 64) 0
    ∙ ap (λ (k : ℕ). get_or words k 0) (omega (arith, place, low)))

-- the runs of a pool that was made
pub made_runs : (words : List ℕ) (from to : ℕ) → from ≤ to → AreRuns (IsClear words from to) (free_runs (slice_range words (from / 64) ((to + 63) / 64)) from to)
made_runs words from to order = AreRuns-same _ _ _
    (λ b h. (let low = h.0 in let high : b < to = (let lt = h.1 in omega (arith, lt, order)) in (low, high, sym (own_has words from to b low high) ∙ clear_at (slice_range words (from / 64) ((to + 63) / 64)) from b h.2)))
    (λ b h. (let lt = h.1 in (h.0, omega (arith, lt, order), free_at (slice_range words (from / 64) ((to + 63) / 64)) from b (own_has words from to b h.0 h.1 ∙ h.2))))
    (runs_where-are (is_free (slice_range words (from / 64) ((to + 63) / 64)) from) (to - from) from)

-- what is taken of runs with this front
module _ (need s k : ℕ) (some : 0 < k) (le : k ≤ need) where
  whole_taken : (rs : List Run) → taken need (record { start = s; count = k } ∷ rs) ≡ record { start = s; count = k } ∷ taken (need - k) rs
  whole_taken rs = taken_whole need (record { start = s; count = k }) rs (omega (arith, some, le)) le

  whole_left : (rs : List Run) → left need (record { start = s; count = k } ∷ rs) ≡ left (need - k) rs
  whole_left rs = left_whole need (record { start = s; count = k }) rs (omega (arith, some, le)) le

  front_taken : (rs : List Run) → Apart rs → ((r : Run) (more : List Run) → rs ≡ r ∷ more → s + k ≡ r.start → need ≡ k) → taken need (with_front s k rs) ≡ record { start = s; count = k } ∷ taken (need - k) rs
  front_taken [] apart touch = whole_taken []
  front_taken (r ∷ rs) apart touch = decide (eqb_tells (s + k) r.start)
    where
      decide : ((eqb (s + k) r.start ≡ true) × (s + k ≡ r.start)) ⊎ ((eqb (s + k) r.start ≡ false) × (s + k ≡ r.start → ⊥)) → taken need (with_front s k (r ∷ rs)) ≡ record { start = s; count = k } ∷ taken (need - k) (r ∷ rs)
      decide (inl a) =
          let all : need ≡ k = touch r rs refl a.1 in
          let has = some_blocks r rs apart in
          rw a.0 (taken_part need (record { start = s; count = k + r.count }) rs (omega (arith, some, le)) (omega (arith, all, has))
          ∙ ap (λ (n : ℕ). record { start = s; count = n } ∷ []) all
          ∙ ap (λ (xs : List Run). record { start = s; count = k } ∷ xs) (sym (ap (λ (n : ℕ). taken n (r ∷ rs)) (none all) ∙ taken_none (r ∷ rs))))
        where
          none : need ≡ k → need - k ≡ 0
          none e = omega (arith, e)
      decide (inr a) = rw a.0 (whole_taken (r ∷ rs))

  front_left : (rs : List Run) → Apart rs → ((r : Run) (more : List Run) → rs ≡ r ∷ more → s + k ≡ r.start → need ≡ k) → left need (with_front s k rs) ≡ left (need - k) rs
  front_left [] apart touch = whole_left []
  front_left (r ∷ rs) apart touch = decide (eqb_tells (s + k) r.start)
    where
      decide : ((eqb (s + k) r.start ≡ true) × (s + k ≡ r.start)) ⊎ ((eqb (s + k) r.start ≡ false) × (s + k ≡ r.start → ⊥)) → left need (with_front s k (r ∷ rs)) ≡ left (need - k) (r ∷ rs)
      decide (inl a) =
          let all : need ≡ k = touch r rs refl a.1 in
          let has = some_blocks r rs apart in
          rw a.0 (left_part need (record { start = s; count = k + r.count }) rs (omega (arith, some, le)) (omega (arith, all, has))
          ∙ ap (λ (x : Run). x ∷ rs) (cut all a.1)
          ∙ sym (ap (λ (n : ℕ). left n (r ∷ rs)) (none all) ∙ left_none (r ∷ rs)))
        where
          none : need ≡ k → need - k ≡ 0
          none e = omega (arith, e)

          cut : need ≡ k → s + k ≡ r.start → record { start = s + need; count = k + r.count - need } ≡ r
          cut e f = let start : s + need ≡ r.start = omega (arith, e, f) in let count : k + r.count - need ≡ r.count = omega (arith, e) in λ i. record { start = start i; count = count i }
      decide (inr a) = rw a.0 (whole_left (r ∷ rs))

  pub takes_front : (rs had : List Run) → Apart rs → ((r : Run) (more : List Run) → rs ≡ r ∷ more → s + k ≡ r.start → need ≡ k) → TakesSome need (with_front s k rs) had (need - k) rs (had ++ record { start = s; count = k } ∷ [])
  takes_front rs had apart touch = record {
    out = append_assoc had (record { start = s; count = k } ∷ []) (taken (need - k) rs) ∙ ap (λ (xs : List Run). had ++ xs) (sym (front_taken rs apart touch));
    stays = sym (front_left rs apart touch);
    still = (let b = front_blocks s k rs in omega (arith, b, le));
  }

differ : true ≡ false → ⊥
differ x = cc

-- free blocks go on from a free one
more_of : (test : ℕ → Bool) (s e to : ℕ) → test s ≡ true → s ≤ e → (e < to → test e ≡ false) → s < to → s < e
more_of test s e to here order stops within = elim (cases_lt s e) [
  | inl w ↦ w
  | inr w ↦ absurd (let is : s ≡ e = omega (arith, w, order) in differ (sym here ∙ ap test is ∙ stops (omega (arith, is, within))))
]

-- The first free blocks of a pool are taken: from one on, up to what is needed, a block in use, or the end.
module _ (test test' : ℕ → Bool) (from to s e need : ℕ) (low : from ≤ s) (within : s < to) (some : 0 < need) (before : (b : ℕ) → from ≤ b → b < s → test b ≡ false) (here : test s ≡ true)
    (order : (s ≤ e) × (e ≤ s + min need (to - s))) (on : (b : ℕ) → s ≤ b → b < e → test b ≡ true) (stops : e < s + min need (to - s) → test e ≡ false)
    (gone : (b : ℕ) → s ≤ b → b < e → test' b ≡ false) (same : (b : ℕ) → from ≤ b → b < to → (b < s) ⊎ (e ≤ b) → test' b ≡ test b) where
  pub more : s < e
  more = more_of test s e (s + min need (to - s)) here order.0 stops (omega (arith, some, within))

  upto : e ≤ to
  upto = let o = order.1 in omega (arith, o, within)

  rest : List Run
  rest = runs_where test e (to - e)

  old_runs : runs_where test from (to - from) ≡ with_front s (e - s) (runs_where test e (to - e))
  old_runs = skip_to test from s to low (omega (arith, within)) before ∙ front_to test s e to more upto on

  new_runs : runs_where test' from (to - from) ≡ runs_where test e (to - e)
  new_runs =
      skip_to test' from e to (let m = more in omega (arith, low, m)) upto
      (λ b above below. elim (cases_lt b s) [ inl w ↦ same b above (omega (arith, w, within)) (inl w) ∙ before b above w | inr w ↦ gone b w below ])
      ∙ runs_same test' test (to - e) e (λ b above below. (let m = more in same b (omega (arith, above, m, low)) (omega (arith, below, above)) (inr above)))

  touch : (r : Run) (tail : List Run) → runs_where test e (to - e) ≡ r ∷ tail → s + (e - s) ≡ r.start → need ≡ e - s
  touch r tail is next =
      let P : List Run → Type 0 = λ x. AreRuns (λ b. (e ≤ b) × (b < e + (to - e)) × (test b ≡ true)) x in
      let h = first_holds test e (to - e) r tail (subst P is (runs_where-are test (to - e) e)) in
      let m = more in let at : e ≡ r.start = omega (arith, next, m) in let lt = h.1 in let o = order.1 in
      elim (cases_lt e (s + min need (to - s))) [
        | inl w ↦ absurd (differ (sym h.2 ∙ ap test (sym at) ∙ stops w))
        | inr w ↦ omega (arith, w, o, at, lt, m)
      ]

  pub takes_first : (had : List Run) → TakesSome need (runs_where test from (to - from)) had (need - (e - s)) (runs_where test' from (to - from)) (had ++ record { start = s; count = e - s } ∷ [])
  takes_first had =
      let P : List Run → Type 0 = λ x. TakesSome need x had (need - (e - s)) (runs_where test' from (to - from)) (had ++ record { start = s; count = e - s } ∷ []) in
      let Q : List Run → Type 0 = λ x. TakesSome need (with_front s (e - s) (runs_where test e (to - e))) had (need - (e - s)) x (had ++ record { start = s; count = e - s } ∷ []) in
      let o = order.1 in let m = more in
      subst P (sym old_runs) (subst Q (sym new_runs) (takes_front need s (e - s) (omega (arith, m)) (omega (arith, o)) (runs_where test e (to - e)) had (runs_where-are test (to - e) e).apart touch))

  pub takes_blocks : blocks_in (runs_where test from (to - from)) ≡ (e - s) + blocks_in (runs_where test' from (to - from))
  takes_blocks = ap blocks_in old_runs ∙ front_blocks s (e - s) (runs_where test e (to - e)) ∙ ap (λ (x : List Run). (e - s) + blocks_in x) (sym new_runs)

-- a pool with no free block but that is asked for one
pub some_free : (test : ℕ → Bool) (from to s : ℕ) → 0 < blocks_in (runs_where test from (to - from)) → from ≤ s → s ≤ to → ((b : ℕ) → from ≤ b → b < s → test b ≡ false) → s < to
some_free test from to s some low order before = elim (cases_lt s to) [
  | inl w ↦ w
  | inr w ↦ absurd (let e = ap blocks_in (skip_to test from s to low order before ∙ no_runs test s to w) in omega (arith, e, some))
]

-- free blocks are added
module _ (test test' : ℕ → Bool) (from to low high : ℕ) (above : from ≤ low) (order : low < high) (below : high ≤ to) (on : (b : ℕ) → low ≤ b → b < high → test' b ≡ true)
    (same : (b : ℕ) → from ≤ b → b < to → (b < low) ⊎ (high ≤ b) → test' b ≡ test b) where
  pub joined_runs : AreRuns (λ b. HasBlock (runs_where test from (to - from)) b ⊎ ((low ≤ b) × (b < high))) (runs_where test' from (to - from))
  joined_runs = AreRuns-same _ _ _
      (λ b h. (let lo = h.0 in let hi : b < to = (let lt = h.1 in omega (arith, lt, above, order, below)) in elim (cases_lt b low) [
        | inl w ↦ inl (old.all b (lo, h.1, sym (same b lo hi (inl w)) ∙ h.2))
        | inr w ↦ elim (cases_lt b high) [ inl v ↦ inr (w, v) | inr v ↦ inl (old.all b (lo, h.1, sym (same b lo hi (inr v)) ∙ h.2)) ]
      ]))
      (λ b h. elim h [
        | inl w ↦ was b (old.each w.0 b w.1 w.2 w.3)
        | inr w ↦ (let l = w.0 in let g = w.1 in (omega (arith, l, above), omega (arith, g, below, above, order), on b l g))
      ])
      (runs_where-are test' (to - from) from)
    where
      old : AreRuns (λ b. (from ≤ b) × (b < from + (to - from)) × (test b ≡ true)) (runs_where test from (to - from))
      old = runs_where-are test (to - from) from

      was : (b : ℕ) → (from ≤ b) × (b < from + (to - from)) × (test b ≡ true) → (from ≤ b) × (b < from + (to - from)) × (test' b ≡ true)
      was b h = (
        h.0,
        h.1,
        elim (cases_lt b low) [
          | inl w ↦ same b h.0 (let lt = h.1 in omega (arith, lt, above, order, below)) (inl w) ∙ h.2
          | inr w ↦ elim (cases_lt b high) [ inl v ↦ on b w v | inr v ↦ same b h.0 (let lt = h.1 in omega (arith, lt, above, order, below)) (inr v) ∙ h.2 ]
        ],
      )

  pub joined_blocks : ((b : ℕ) → low ≤ b → b < high → HasBlock (runs_where test from (to - from)) b → ⊥) → blocks_in (runs_where test' from (to - from)) ≡ blocks_in (runs_where test from (to - from)) + (high - low)
  joined_blocks used = more_blocks test test' from to low high above (omega (arith, order)) below (λ b lo hi. off b lo hi (test b) refl) on all_same
    where
      off : (b : ℕ) → low ≤ b → b < high → (bit : Bool) → test b ≡ bit → test b ≡ false
      off b lo hi true is = absurd (used b lo hi ((runs_where-are test (to - from) from).all b (omega (arith, lo, above), omega (arith, hi, below, above, order), is)))
      off b lo hi false is = is

      all_same : (b : ℕ) → from ≤ b → b < to → (b < low) ⊎ (high ≤ b) → test' b ≡ test b
      all_same = same

-- The next run is cut off: from a free block up to one in use or the end, and then up to the next free block or the end.
module _ (test : ℕ → Bool) (here last next to : ℕ) (within : here < to) (free : test here ≡ true) (order : (here ≤ last) × (last ≤ to)) (on : (b : ℕ) → here ≤ b → b < last → test b ≡ true)
    (stops : last < to → test last ≡ false) (then : (last ≤ next) × (next ≤ to)) (off : (b : ℕ) → last ≤ b → b < next → test b ≡ false) where
  pub some_cut : here < last
  some_cut = more_of test here last to free order.0 stops within

  pub run_cut : runs_where test here (to - here) ≡ record { start = here; count = last - here } ∷ runs_where test next (to - next)
  run_cut = first_run test here last next to some_cut order.1 on stops then.0 then.1 off

  pub blocks_cut : blocks_in (runs_where test here (to - here)) ≡ (last - here) + blocks_in (runs_where test next (to - next))
  blocks_cut = ap blocks_in run_cut ∙ blocks_cons (record { start = here; count = last - here }) (runs_where test next (to - next))

-- the marks of some blocks of a pool are changed
module _ (old new : List ℕ) (first base s e bit : ℕ) (begins : base ≡ word_start first) (low : first ≤ s) (order : s < e) (set : SetTo old (s - base) (e - base) bit new) where
  changed_has : (b : ℕ) → s ≤ b → b < e → has new (b - word_start first) ≡ bit
  changed_has b above below = set.inside (b - word_start first) (omega (arith, begins, above)) (omega (arith, begins, above, below, low))

  same_free : (b : ℕ) → first ≤ b → (b < s) ⊎ (e ≤ b) → is_free new first b ≡ is_free old first b
  same_free b above far = ap (λ (n : ℕ). eqb n 0) (set.outside (b - word_start first) (elim far [ inl w ↦ inl (omega (arith, begins, w, above)) | inr w ↦ inr (omega (arith, begins, w)) ]))

-- What is known of a pool once some of its first run was taken.
pub record FirstTaken (words new : List ℕ) (from to free s e need : ℕ) (had : List Run) : Type 0 where
  pub some : s < e
  pub few : e - s ≤ need
  pub enough : e - s ≤ free
  pub pool : IsPool new from to (free - (e - s)) e
  pub steps : TakesSome need (free_runs words from to) had (need - (e - s)) (free_runs new from to) (had ++ record { start = s; count = e - s } ∷ [])

pub first_taken : (words new : List ℕ) (from to free first base s most e need : ℕ) (had : List Run) → IsPool words from to free first → 0 < need → 0 < blocks_in (free_runs words from to) → base ≡ word_start from
    → (first ≤ s) × (s ≤ to) → ((b : ℕ) → first ≤ b → b < s → is_free words from b ≡ false) → (s < to → is_free words from s ≡ true) → most ≡ min need (to - s)
    → (s ≤ e) × (e ≤ s + most) → ((b : ℕ) → s ≤ b → b < e → is_free words from b ≡ true) → (e < s + most → is_free words from e ≡ false) → (s - base ≤ e - base → SetTo words (s - base) (e - base) 1 new)
    → FirstTaken words new from to free s e need had
first_taken words new from to free first base s most e need had pool some blocks begins bounds behind_first found is behind on stops set = record {
  some = longer;
  few = omega (arith, is, behind);
  enough = omega (arith, pool.counted, count);
  pool = record {
    order = pool.order;
    within = omega (arith, pool.within, changes.long);
    small = pool.small;
    counted = omega (arith, pool.counted, count);
    first_place = (omega (arith, order, behind), omega (arith, behind, is, within));
    passed = λ b low high. elim (cases_lt b s) [ inl w ↦ same b low (omega (arith, w, within)) (inl w) ∙ before b low w | inr w ↦ gone b w high ];
  };
  steps = takes_first test test' from to s e need order.0 within some before (found within) reach on stop gone same had;
} where
  test : ℕ → Bool
  test b = is_free words from b

  test' : ℕ → Bool
  test' b = is_free new from b

  order : (from ≤ s) × (s ≤ to)
  order = (omega (arith, pool.first_place, bounds), bounds.1)

  before : (b : ℕ) → from ≤ b → b < s → is_free words from b ≡ false
  before b low high = elim (cases_lt b first) [ inl w ↦ pool.passed b low w | inr w ↦ behind_first b w high ]

  within : s < to
  within = some_free test from to s blocks order.0 order.1 before

  reach : (s ≤ e) × (e ≤ s + min need (to - s))
  reach = (behind.0, omega (arith, is, behind))

  stop : e < s + min need (to - s) → is_free words from e ≡ false
  stop lt = stops (omega (arith, lt, is))

  changes : SetTo words (s - base) (e - base) 1 new
  changes = set (omega (arith, behind))

  longer : s < e
  longer = more_of test s e (s + most) (found within) behind.0 stops (omega (arith, is, some, within))

  gone : (b : ℕ) → s ≤ b → b < e → is_free new from b ≡ false
  gone b low high = used_at new from b (changed_has words new from base s e 1 begins order.0 longer changes b low high)

  same : (b : ℕ) → from ≤ b → b < to → (b < s) ⊎ (e ≤ b) → is_free new from b ≡ is_free words from b
  same b low high far = same_free words new from base s e 1 begins order.0 longer changes b low far

  count : blocks_in (free_runs words from to) ≡ (e - s) + blocks_in (free_runs new from to)
  count = takes_blocks test test' from to s e need order.0 within some before (found within) reach on stop gone same

-- What is known of a pool once blocks were added.
pub record Added (words new : List ℕ) (from to free first low high : ℕ) : Type 0 where
  pub pool : IsPool new from to (free + (high - low)) (min first low)
  pub runs : AreRuns (λ b. HasBlock (free_runs words from to) b ⊎ ((low ≤ b) × (b < high))) (free_runs new from to)

pub added : (words new : List ℕ) (from to free first base low high : ℕ) → IsPool words from to free first → base ≡ word_start from → from ≤ low → low < high → high ≤ to → ((b : ℕ) → low ≤ b → b < high → HasBlock (free_runs words from to) b → ⊥)
    → (low - base ≤ high - base → SetTo words (low - base) (high - base) 0 new) → Added words new from to free first low high
added words new from to free first base low high pool begins above order below used set = record {
  pool = record {
    order = pool.order;
    within = omega (arith, pool.within, changes.long);
    small = pool.small;
    counted = omega (arith, pool.counted, count);
    first_place = (omega (arith, pool.first_place, above), omega (arith, pool.first_place));
    passed = λ b lo hi. same b lo (omega (arith, hi, pool.first_place)) (inl (omega (arith, hi))) ∙ pool.passed b lo (omega (arith, hi));
  };
  runs = joined_runs test test' from to low high above order below on same;
} where
  test : ℕ → Bool
  test b = is_free words from b

  test' : ℕ → Bool
  test' b = is_free new from b

  changes : SetTo words (low - base) (high - base) 0 new
  changes = set (omega (arith, order))

  on : (b : ℕ) → low ≤ b → b < high → is_free new from b ≡ true
  on b lo hi = free_at new from b (changed_has words new from base low high 0 begins above order changes b lo hi)

  same : (b : ℕ) → from ≤ b → b < to → (b < low) ⊎ (high ≤ b) → is_free new from b ≡ is_free words from b
  same b lo hi far = same_free words new from base low high 0 begins above order changes b lo far

  count : blocks_in (free_runs new from to) ≡ blocks_in (free_runs words from to) + (high - low)
  count = joined_blocks test test' from to low high above order below on same used

-- a pool's runs
pub pool_apart : (words : List ℕ) (from to : ℕ) → Apart (free_runs words from to)
pool_apart words from to = (runs_where-are (is_free words from) (to - from) from).apart

pub pool_few : (words : List ℕ) (from to free first : ℕ) → IsPool words from to free first → free ≤ 2 ^ 32
pool_few words from to free first pool = let few = few_blocks (is_free words from) (to - from) from in omega (arith, pool.counted, few, pool.small)
