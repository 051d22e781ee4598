-- Marks of blocks of one word, one after the other.
use Rattle.std.proofs.Common.{◌≡◌, ℕ, zero, suc, ◌+◌, ◌-◌, ◌*◌, ◌/◌, ◌<◌, ◌≤◌, ◌≢◌, cond, ltb, true, false, List, [], ◌∷◌, ◌++◌, length, take, get_or, set, sym, refl, ap, ◌∙◌, subst, arith}
use Rattle.std.specs.Prelude.{◌==◌, bit_or}
use Rattle.std.specs.Int.{bit_at}
use Rattle.std.specs.List.{count_by}
use Rattle.std.proofs.lemmas.List.{length-set, length-append, append-nil, append_assoc}
use Rattle.std.proofs.lemmas.List.Sums.{sum_by-cons}
use Rattle.std.proofs.Math.Seq.{take-append_seam, take-append-add}
use mathlib.Core.Bool.{Bool, not, ◌&&◌}
use Rattle.nv_blockset.specs.BlockSet.{mask_of}
use Rattle.nv_claimcore.specs.declared.view.Sizes.{Sizes}
use Rattle.nv_claimcore.specs.declared.view.Record.{Record}
use Rattle.nv_claimcore.specs.declared.view.View.{View}
use Rattle.nv_claimcore.specs.declared.event.Event.{Event}
use Rattle.nv_claimcore.specs.declared.event.Event.TheVariants.{Mark}
use Rattle.nv_claimcore.specs.declared.refusal.CoreRefusal.TheVariants.{NotAllowed}
use Rattle.nv_claimcore.specs.Claims.{State, nothing, is_unmarked, mark, mark_first, with_mark}
use Rattle.nv_claimcore.specs.Events.{view_of, is_allowed, after, all_allowed, after_all}
use Rattle.nv_claimcore.specs.Refused.{RefusesFrom}
use Rattle.nv_claimcore.specs.SpanEvents.{low_marks}
use Rattle.nv_claimcore.proofs.Lists.{allowed_more, after_more, and_left, and_right, is_less}

-- ---- a mark leaves what the view owes for other blocks

other_block : (w m : Bool) (b c d : ℕ) → b ≢ c → ((not w && not m) && (d == c)) ≡ true → ((not w && not m) && (d == b)) ≡ false
other_block true m b c d apart e = refl
other_block false true b c d apart e = refl
other_block false false b c d apart e = grind (arith, e, apart)

closed : (w t : Bool) → ((not w && false) && t) ≡ false
closed true t = refl
closed false t = refl

count_apart : (b c : ℕ) (rs : List Record) → b ≢ c → count_by (is_unmarked b) (mark_first c rs) ≡ count_by (is_unmarked b) rs
count_apart b c [] apart = refl
count_apart b c (r ∷ rs) apart = go (is_unmarked c r) refl (count_apart b c rs apart) where
  go : (t : Bool) → is_unmarked c r ≡ t → count_by (is_unmarked b) (mark_first c rs) ≡ count_by (is_unmarked b) rs → count_by (is_unmarked b) (cond t (mark r ∷ rs) (r ∷ mark_first c rs)) ≡ count_by (is_unmarked b) (r ∷ rs)
  go true e rest = let new = sum_by-cons (λ q. cond (is_unmarked b q) 1 0) (mark r) rs in let old = sum_by-cons (λ q. cond (is_unmarked b q) 1 0) r rs in
      let one : ◌≡◌ {A = ℕ} (cond (is_unmarked b (mark r)) 1 0) 0 = ap (λ t. cond t 1 0) (closed r.won (r.block == b)) in
      let two : ◌≡◌ {A = ℕ} (cond (is_unmarked b r) 1 0) 0 = ap (λ t. cond t 1 0) (other_block r.won r.marked b c r.block apart e) in omega arith
  go false e rest = let new = sum_by-cons (λ q. cond (is_unmarked b q) 1 0) r (mark_first c rs) in let old = sum_by-cons (λ q. cond (is_unmarked b q) 1 0) r rs in omega arith

view_marked : (l : List View) (w b : ℕ) → get_or (set l w (with_mark (get_or l w (nothing 0)) b)) w (nothing 0) ≡ with_mark (get_or l w (nothing 0)) b
view_marked [] w b = refl
view_marked (x ∷ xs) zero b = refl
view_marked (x ∷ xs) (suc w) b = view_marked xs w b

-- ---- a list of events that is refused at a place, and one that is allowed

pub refused_at : (z : Sizes) (s : State) (xs : List Event) (e : Event) (rest : List Event) (k : ℕ) → k ≡ length xs → all_allowed z s xs ≡ true → is_allowed z (after_all s xs) e ≡ false → RefusesFrom z s (xs ++ e ∷ rest) (NotAllowed k)
refused_at z s xs e rest k at before here = (
  (let long = length-append xs (e ∷ rest) in omega arith),
  ap (all_allowed z s) (ap (λ j. take j (xs ++ e ∷ rest)) at ∙ take-append_seam xs (e ∷ rest)) ∙ before,
  ap (all_allowed z s) (ap (λ j. take (j + 1) (xs ++ e ∷ rest)) at ∙ take-append-add xs (e ∷ rest) 1) ∙ (allowed_more z s xs e ∙ (λ i. before i && here i)),
)

pub allowed_at : (z : Sizes) (s : State) (xs : List Event) (e : Event) (rest : List Event) → all_allowed z s (xs ++ e ∷ rest) ≡ true → is_allowed z (after_all s xs) e ≡ true
allowed_at z s [] e rest all = and_left (is_allowed z s e) (all_allowed z (after s e) rest) all
allowed_at z s (d ∷ xs) e rest all = allowed_at z (after s d) xs e rest (and_right (is_allowed z s d) (all_allowed z (after s d) (xs ++ e ∷ rest)) all)

-- ---- the marks of the first bits

module _ (w word mask : ℕ) where
  pub next_set : (n : ℕ) → (bit_at mask n == 1) ≡ true → low_marks w word mask (suc n) ≡ low_marks w word mask n ++ Mark w (word * 64 + n) ∷ []
  next_set n e = ap (λ t. low_marks w word mask n ++ cond t (Mark w (word * 64 + n) ∷ []) []) e

  pub next_clear : (n : ℕ) → (bit_at mask n == 1) ≡ false → low_marks w word mask (suc n) ≡ low_marks w word mask n
  next_clear n e = ap (λ t. low_marks w word mask n ++ cond t (Mark w (word * 64 + n) ∷ []) []) e ∙ append-nil (low_marks w word mask n)

  longer : (i j : ℕ) → (rest : List Event) × (low_marks w word mask (i + j) ≡ low_marks w word mask i ++ rest)
  longer i zero = ([], ap (low_marks w word mask) (let e : i + 0 ≡ i = omega arith in e) ∙ sym (append-nil (low_marks w word mask i)))
  longer i (suc j) = let before = longer i j in let last = cond (bit_at mask (i + j) == 1) (Mark w (word * 64 + (i + j)) ∷ []) [] in (
    before.0 ++ last,
    ap (low_marks w word mask) (let e : i + suc j ≡ suc (i + j) = omega arith in e) ∙ (ap (λ es. es ++ last) before.1 ∙ append_assoc (low_marks w word mask i) before.0 last),
  )

  -- the marks from a bit of the mask on
  cut : (i j : ℕ) → (bit_at mask i == 1) ≡ true → (rest : List Event) × (low_marks w word mask (suc i + j) ≡ low_marks w word mask i ++ Mark w (word * 64 + i) ∷ rest)
  cut i j e = let more = longer (suc i) j in (
    more.0,
    more.1 ∙ (ap (λ es. es ++ more.0) (next_set i e) ∙ append_assoc (low_marks w word mask i) (Mark w (word * 64 + i) ∷ []) more.0),
  )

  pub still_long : (n : ℕ) (s : State) → (length (after_all s (low_marks w word mask n)).views ≡ length s.views) × (length (after_all s (low_marks w word mask n)).second ≡ length s.second)
  still_long zero s = (refl, refl)
  still_long (suc n) s = go (still_long n s) (bit_at mask n == 1) refl where
    go : (length (after_all s (low_marks w word mask n)).views ≡ length s.views) × (length (after_all s (low_marks w word mask n)).second ≡ length s.second)
        → (t : Bool) → (bit_at mask n == 1) ≡ t → (length (after_all s (low_marks w word mask (suc n))).views ≡ length s.views) × (length (after_all s (low_marks w word mask (suc n))).second ≡ length s.second)
    go before true e = let u : State = after_all s (low_marks w word mask n) in let is = ap (after_all s) (next_set n e) ∙ after_more s (low_marks w word mask n) (Mark w (word * 64 + n)) in (
      ap (λ (x : State). length x.views) is ∙ (length-set u.views w (with_mark (view_of u w) (word * 64 + n)) ∙ before.0),
      ap (λ (x : State). length x.second) is ∙ (length-set u.second ((word * 64 + n) / 64) (bit_or (get_or u.second ((word * 64 + n) / 64) 0) (mask_of (word * 64 + n))) ∙ before.1),
    )
    go before false e = let is = ap (after_all s) (next_clear n e) in (ap (λ (x : State). length x.views) is ∙ before.0, ap (λ (x : State). length x.second) is ∙ before.1)

  -- what the worker owes for the blocks of the bits from n on
  still_owed : (n b : ℕ) (s : State) → word * 64 + n ≤ b → count_by (is_unmarked b) (view_of (after_all s (low_marks w word mask n)) w).records ≡ count_by (is_unmarked b) (view_of s w).records
  still_owed zero b s from = refl
  still_owed (suc n) b s from = go (still_owed n b s (omega arith)) (bit_at mask n == 1) refl where
    go : count_by (is_unmarked b) (view_of (after_all s (low_marks w word mask n)) w).records ≡ count_by (is_unmarked b) (view_of s w).records
        → (t : Bool) → (bit_at mask n == 1) ≡ t → count_by (is_unmarked b) (view_of (after_all s (low_marks w word mask (suc n))) w).records ≡ count_by (is_unmarked b) (view_of s w).records
    go before true e = let u : State = after_all s (low_marks w word mask n) in
        ap (λ (x : State). count_by (is_unmarked b) (view_of x w).records) (ap (after_all s) (next_set n e) ∙ after_more s (low_marks w word mask n) (Mark w (word * 64 + n)))
        ∙ (ap (λ (v : View). count_by (is_unmarked b) v.records) (view_marked u.views w (word * 64 + n))
        ∙ (count_apart b (word * 64 + n) (view_of u w).records (λ x. omega arith) ∙ before))
    go before false e = ap (λ (x : State). count_by (is_unmarked b) (view_of x w).records) (ap (after_all s) (next_clear n e)) ∙ before

  -- so a mark is allowed after those of the bits below where it is allowed before them
  pub still_allowed : (z : Sizes) (n : ℕ) (s : State) → is_allowed z (after_all s (low_marks w word mask n)) (Mark w (word * 64 + n)) ≡ is_allowed z s (Mark w (word * 64 + n))
  still_allowed z n s = let long = (still_long n s).0 in let owed = still_owed n (word * 64 + n) s (omega arith) in λ i. ltb w (long i) && ltb 0 (owed i)

  -- one bit more
  pub more_allowed : (z : Sizes) (n : ℕ) (s : State) → (bit_at mask n == 1) ≡ true → all_allowed z s (low_marks w word mask n) ≡ true → is_allowed z s (Mark w (word * 64 + n)) ≡ true → all_allowed z s (low_marks w word mask (suc n)) ≡ true
  more_allowed z n s set before here = ap (all_allowed z s) (next_set n set) ∙ (allowed_more z s (low_marks w word mask n) (Mark w (word * 64 + n)) ∙ (λ i. before i && (still_allowed z n s ∙ here) i))

  pub more_long : (n : ℕ) → (bit_at mask n == 1) ≡ true → length (low_marks w word mask (suc n)) ≡ length (low_marks w word mask n) + 1
  more_long n set = ap length (next_set n set) ∙ length-append (low_marks w word mask n) (Mark w (word * 64 + n) ∷ [])

  pub bit_refused : (z : Sizes) (s : State) (i n k : ℕ) → i < n → (bit_at mask i == 1) ≡ true → k ≡ length (low_marks w word mask i) → all_allowed z s (low_marks w word mask i) ≡ true → is_allowed z s (Mark w (word * 64 + i)) ≡ false
      → RefusesFrom z s (low_marks w word mask n) (NotAllowed k)
  bit_refused z s i n k less set at before here = let parts = cut i (n - suc i) set in let e : suc i + (n - suc i) ≡ n = omega arith in
      subst (λ (es : List Event). RefusesFrom z s es (NotAllowed k)) (sym (ap (low_marks w word mask) (sym e) ∙ parts.1))
      (refused_at z s (low_marks w word mask i) (Mark w (word * 64 + i)) parts.0 k at before (still_allowed z i s ∙ here))

  -- the place where an allowed mark writes is there
  pub bit_place : (z : Sizes) (s : State) (i n : ℕ) → i < n → (bit_at mask i == 1) ≡ true → all_allowed z s (low_marks w word mask n) ≡ true → w < length (after_all s (low_marks w word mask i)).views
  bit_place z s i n less set all = let parts = cut i (n - suc i) set in let e : suc i + (n - suc i) ≡ n = omega arith in let u : State = after_all s (low_marks w word mask i) in
      let ok = allowed_at z s (low_marks w word mask i) (Mark w (word * 64 + i)) parts.0 (ap (all_allowed z s) (sym (ap (low_marks w word mask) (sym e) ∙ parts.1)) ∙ all) in
      is_less w (length u.views) (and_left (ltb w (length u.views)) (ltb 0 (count_by (is_unmarked (word * 64 + i)) (view_of u w).records)) ok)

  -- ---- a turn of the two loops

  pub more_marks : (z : Sizes) (s : State) (n place next : ℕ) → place ≡ length (low_marks w word mask n) → all_allowed z s (low_marks w word mask n) ≡ true → (bit_at mask n == 1) ≡ true → is_allowed z s (Mark w (word * 64 + n)) ≡ true → next ≡ place + 1
      → (next ≡ length (low_marks w word mask (n + 1))) × (all_allowed z s (low_marks w word mask (n + 1)) ≡ true)
  more_marks z s n place next at before set here is = let e : n + 1 ≡ suc n = omega arith in (
    is ∙ (ap (λ (k : ℕ). k + 1) at ∙ (sym (more_long n set) ∙ ap (λ (k : ℕ). length (low_marks w word mask k)) (sym e))),
    ap (λ (k : ℕ). all_allowed z s (low_marks w word mask k)) e ∙ more_allowed z n s set before here,
  )

  pub same_marks : (z : Sizes) (s : State) (n place next : ℕ) → place ≡ length (low_marks w word mask n) → all_allowed z s (low_marks w word mask n) ≡ true → (bit_at mask n == 1) ≡ false → next ≡ place
      → (next ≡ length (low_marks w word mask (n + 1))) × (all_allowed z s (low_marks w word mask (n + 1)) ≡ true)
  same_marks z s n place next at before clear is = let e : n + 1 ≡ suc n = omega arith in (
    is ∙ (at ∙ (ap length (sym (next_clear n clear)) ∙ ap (λ (k : ℕ). length (low_marks w word mask k)) (sym e))),
    ap (λ (k : ℕ). all_allowed z s (low_marks w word mask k)) e ∙ (ap (all_allowed z s) (next_clear n clear) ∙ before),
  )

  pub marked_more : (s u v : State) (n : ℕ) → u ≡ after_all s (low_marks w word mask n) → (bit_at mask n == 1) ≡ true → v ≡ after u (Mark w (word * 64 + n)) → v ≡ after_all s (low_marks w word mask (n + 1))
  marked_more s u v n before set is = let e : n + 1 ≡ suc n = omega arith in
      is ∙ (ap (λ (x : State). after x (Mark w (word * 64 + n))) before ∙ (sym (after_more s (low_marks w word mask n) (Mark w (word * 64 + n)))
      ∙ (ap (after_all s) (sym (next_set n set)) ∙ ap (λ (k : ℕ). after_all s (low_marks w word mask k)) (sym e))))

  pub marked_same : (s u v : State) (n : ℕ) → u ≡ after_all s (low_marks w word mask n) → (bit_at mask n == 1) ≡ false → v ≡ u → v ≡ after_all s (low_marks w word mask (n + 1))
  marked_same s u v n before clear is = let e : n + 1 ≡ suc n = omega arith in
      is ∙ (before ∙ (ap (after_all s) (sym (next_clear n clear)) ∙ ap (λ (k : ℕ). after_all s (low_marks w word mask k)) (sym e)))
