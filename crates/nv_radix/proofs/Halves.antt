-- The pages of an index: those of its front leaf, and those of its tree behind them.
use Rattle.std.proofs.Common.{◌≡◌, ℕ, ◌+◌, ◌-◌, ◌/◌, ◌<◌, ◌≤◌, ◌||◌, Bool, true, false, true≢false, cond, eqb, leb, suc, ◌++◌, Option, Some, None, nat_lt, refl, ap, sym, ◌∙◌, subst, arith, inl, inr}
use Rattle.std.proofs.lemmas.Bool.{cases_lt}
use Rattle.std.proofs.lemmas.Bool.Decides.{leb_tells, eqb_tells}
use Rattle.nv_radix.specs.Pages.{Pages, block_at, is_ready, in_run}
use Rattle.nv_radix.specs.Nodes.{raised, IsNode}
use Rattle.nv_radix.specs.Rising.{Rises}
use Rattle.nv_radix.proofs.RowSteps.{run_here, run_elsewhere}
use Rattle.nv_radix.proofs.Rows.{block_at-front, block_at-behind, is_ready-front, is_ready-behind}

-- a page is one of the front leaf, or behind it
by_half : (P : ℕ → Type 0) → ((p : ℕ) → p < 64 → P p) → ((q : ℕ) → P (64 + q)) → (p : ℕ) → P p
by_half P front behind p = elim (cases_lt p 64) [
  | inl l ↦ front p l
  | inr l ↦ (let back : 64 + (p - 64) ≡ p = omega (arith, l) in subst P back (behind (p - 64)))
]

pub block_at-low : (front rest : Pages) (p : ℕ) → IsNode 262144 rest → p < 64 → block_at (front ++ raised 64 rest) p ≡ block_at front p
block_at-low front rest p k l = block_at-front 64 262144 front rest p k.rises l

pub block_at-high : (front rest : Pages) (p : ℕ) → Rises 0 64 front → 64 ≤ p → block_at (front ++ raised 64 rest) p ≡ block_at rest (p - 64)
block_at-high front rest p h l = (let back : p ≡ 64 + (p - 64) = omega (arith, l) in ap (block_at (front ++ raised 64 rest)) back ∙ block_at-behind 64 front rest (p - 64) h)

pub is_ready-low : (front rest : Pages) (p : ℕ) → IsNode 262144 rest → p < 64 → is_ready (front ++ raised 64 rest) p ≡ is_ready front p
is_ready-low front rest p k l = is_ready-front 64 262144 front rest p k.rises l

pub is_ready-high : (front rest : Pages) (p : ℕ) → Rises 0 64 front → 64 ≤ p → is_ready (front ++ raised 64 rest) p ≡ is_ready rest (p - 64)
is_ready-high front rest p h l = (let back : p ≡ 64 + (p - 64) = omega (arith, l) in ap (is_ready (front ++ raised 64 rest)) back ∙ is_ready-behind 64 front rest (p - 64) h)

-- what holds of the blocks of both halves holds of the index's
pub blocks_by_half : (front rest new_front new_rest : Pages) (R : ℕ → Option ℕ → Option ℕ → Type 0) → Rises 0 64 front → IsNode 262144 rest → Rises 0 64 new_front → IsNode 262144 new_rest → ((p : ℕ) → p < 64 → R p (block_at front p) (block_at new_front p)) → ((q : ℕ) → R (64 + q) (block_at rest q) (block_at new_rest q)) → (p : ℕ) → R p (block_at (front ++ raised 64 rest) p) (block_at (new_front ++ raised 64 new_rest) p)
blocks_by_half front rest new_front new_rest R h k h' k' low high = by_half (λ p. R p (block_at (front ++ raised 64 rest) p) (block_at (new_front ++ raised 64 new_rest) p))
    (λ p l. subst (λ o. R p o (block_at (new_front ++ raised 64 new_rest) p)) (sym (block_at-front 64 262144 front rest p k.rises l)) (subst (λ o. R p (block_at front p) o) (sym (block_at-front 64 262144 new_front new_rest p k'.rises l)) (low p l)))
    (λ q. subst (λ o. R (64 + q) o (block_at (new_front ++ raised 64 new_rest) (64 + q))) (sym (block_at-behind 64 front rest q h)) (subst (λ o. R (64 + q) (block_at rest q) o) (sym (block_at-behind 64 new_front new_rest q h')) (high q)))

pub ready_by_half : (front rest new_front new_rest : Pages) (R : ℕ → Bool → Bool → Type 0) → Rises 0 64 front → IsNode 262144 rest → Rises 0 64 new_front → IsNode 262144 new_rest → ((p : ℕ) → p < 64 → R p (is_ready front p) (is_ready new_front p)) → ((q : ℕ) → R (64 + q) (is_ready rest q) (is_ready new_rest q)) → (p : ℕ) → R p (is_ready (front ++ raised 64 rest) p) (is_ready (new_front ++ raised 64 new_rest) p)
ready_by_half front rest new_front new_rest R h k h' k' low high = by_half (λ p. R p (is_ready (front ++ raised 64 rest) p) (is_ready (new_front ++ raised 64 new_rest) p))
    (λ p l. subst (λ o. R p o (is_ready (new_front ++ raised 64 new_rest) p)) (sym (is_ready-front 64 262144 front rest p k.rises l)) (subst (λ o. R p (is_ready front p) o) (sym (is_ready-front 64 262144 new_front new_rest p k'.rises l)) (low p l)))
    (λ q. subst (λ o. R (64 + q) o (is_ready (new_front ++ raised 64 new_rest) (64 + q))) (sym (is_ready-behind 64 front rest q h)) (subst (λ o. R (64 + q) (is_ready rest q) o) (sym (is_ready-behind 64 new_front new_rest q h')) (high q)))

-- no page becomes ready where none that is ready is new
pub not_more : (a b : Bool) → (b ≡ true → a ≡ true) → a ≡ false → b ≡ false
not_more a true f e = absurd (true≢false (sym (f refl) ∙ e))
not_more a false f e = refl

-- whether a page behind the first ones is ready, where some of these were made so
pub behind_first : (count q : ℕ) (b : Bool) → count ≤ 64 → b ≡ (nat_lt (64 + q) count || b)
behind_first count q b l = elim (leb_tells (suc (64 + q)) count) [ inl w ↦ absurd (omega (arith, l, w.1)) | inr w ↦ rw w.0 refl ]

-- whether a first page is ready, where the leaf of another was made so
pub other_front : (page p : ℕ) (b : Bool) → 64 ≤ page → p < 64 → b ≡ (eqb (p / 64) (page / 64) || b)
other_front page p b l k = elim (eqb_tells (p / 64) (page / 64)) [ inl v ↦ absurd (omega (arith, l, k, v.1)) | inr v ↦ rw v.0 refl ]

pub ready_rest : (page q : ℕ) (b : Bool) → 64 ≤ page → (eqb (q / 64) ((page - 64) / 64) || b) ≡ (eqb ((64 + q) / 64) (page / 64) || b)
ready_rest page q b l = elim (eqb_tells (q / 64) ((page - 64) / 64)) [
  | inl w ↦ elim (eqb_tells ((64 + q) / 64) (page / 64)) [ inl v ↦ rw (w.0, v.0) refl | inr v ↦ absurd (v.1 (omega (arith, w.1, l))) ]
  | inr w ↦ elim (eqb_tells ((64 + q) / 64) (page / 64)) [ inl v ↦ absurd (w.1 (omega (arith, v.1, l))) | inr v ↦ rw (w.0, v.0) refl ]
]

-- a page that no file has stays unready
pub not_beyond : (page p : ℕ) (old new : Bool) → page < 262144 → 262144 ≤ p → old ≡ false → new ≡ (eqb (p / 64) (page / 64) || old) → new ≡ false
not_beyond page p old new l h e is = elim (eqb_tells (p / 64) (page / 64)) [
  | inl w ↦ absurd (omega (arith, l, h, w.1))
  | inr w ↦ (let now = rw w.0 at is in now ∙ e)
]

pub not_first : (count p : ℕ) (old new : Bool) → count ≤ 64 → 262144 ≤ p → old ≡ false → new ≡ (nat_lt p count || old) → new ≡ false
not_first count p old new l h e is = elim (leb_tells (suc p) count) [
  | inl w ↦ absurd (omega (arith, l, h, w.1))
  | inr w ↦ (let now = rw w.0 at is in now ∙ e)
]

-- a run behind the front leaf
pub run_behind : (page count block q : ℕ) (o : Option ℕ) → 64 ≤ page → cond (in_run (page - 64) count q) (Some (block + (q - (page - 64)))) o ≡ cond (in_run page count (64 + q)) (Some (block + (64 + q - page))) o
run_behind page count block q o l =
    let back : 64 + (page - 64) ≡ page = omega (arith, l) in
    let by : q - (page - 64) ≡ 64 + q - page = omega (arith, l) in
    ap (λ (n : ℕ). cond (in_run (page - 64) count q) (Some (block + n)) o) by
    ∙ ap (λ (b : Bool). cond b (Some (block + (64 + q - page))) o) (run_here 64 (page - 64) count q ∙ ap (λ (n : ℕ). in_run n count (64 + q)) back)

pub leb_behind : (first q : ℕ) → 64 ≤ first → leb (first - 64) q ≡ leb first (64 + q)
leb_behind first q l = elim (leb_tells first (64 + q)) [
  | inl w ↦ elim (leb_tells (first - 64) q) [ inl v ↦ rw (w.0, v.0) refl | inr v ↦ absurd (omega (arith, w.1, v.1, l)) ]
  | inr w ↦ elim (leb_tells (first - 64) q) [ inl v ↦ absurd (omega (arith, w.1, v.1, l)) | inr v ↦ rw (w.0, v.0) refl ]
]

pub cut_low : (first p : ℕ) (o : Option ℕ) → p < first → o ≡ cond (leb first p) None o
cut_low first p o l = elim (leb_tells first p) [ inl w ↦ absurd (omega (arith, w.1, l)) | inr w ↦ rw w.0 refl ]

pub cut_high : (first p : ℕ) (o : Option ℕ) → first ≤ p → None ≡ cond (leb first p) None o
cut_high first p o l = elim (leb_tells first p) [ inl w ↦ rw w.0 refl | inr w ↦ absurd (omega (arith, w.1, l)) ]

-- every page of a tree is cut
pub cut_all : (q : ℕ) (o : Option ℕ) → cond (leb 0 q) None o ≡ None
cut_all q o = sym (cut_high 0 q o (omega arith))

-- a ready page is one that a file may have
pub ready_bound : (m : Pages) (p : ℕ) → ((q : ℕ) → 262144 ≤ q → is_ready m q ≡ false) → is_ready m p ≡ true → p < 262144
ready_bound m p none e = elim (cases_lt p 262144) [ inl l ↦ l | inr l ↦ absurd (true≢false (sym e ∙ none p l)) ]

-- a run that is yet empty
pub no_run : (page p : ℕ) (new old : Option ℕ) → old ≡ cond (in_run page 0 p) new old
no_run page p new old = rw (run_elsewhere page 0 p (elim (cases_lt p page) [ inl l ↦ inl l | inr l ↦ inr (omega (arith, l)) ])) refl

-- a run, and then one that goes on with it
pub longer_run : (page block done part p : ℕ) (old : Option ℕ) → cond (in_run (page + done) part p) (Some (block + done + (p - (page + done)))) (cond (in_run page done p) (Some (block + (p - page))) old) ≡ cond (in_run page (done + part) p) (Some (block + (p - page))) old
longer_run page block done part p old = elim (leb_tells page p) [
  | inl w ↦ elim (leb_tells (suc p) (page + done)) [
    | inl v ↦
        let before : in_run (page + done) part p ≡ false = run_elsewhere (page + done) part p (inl v.1) in
        elim (leb_tells (suc p) (page + (done + part))) [ inl u ↦ rw (before, w.0, v.0, u.0) refl | inr u ↦ absurd (omega (arith, v.1, u.1)) ]
    | inr v ↦ elim (leb_tells (suc p) (page + (done + part))) [
      | inl u ↦ elim (leb_tells (page + done) p) [
        | inl t ↦ elim (leb_tells (suc p) (page + done + part)) [ inl s ↦ (let by : block + done + (p - (page + done)) ≡ block + (p - page) = omega (arith, v.1) in rw (w.0, v.0, u.0, t.0, s.0, by) refl) | inr s ↦ absurd (omega (arith, s.1, u.1)) ]
        | inr t ↦ absurd (omega (arith, t.1, v.1))
      ]
      | inr u ↦ (let past : in_run (page + done) part p ≡ false = run_elsewhere (page + done) part p (inr (omega (arith, u.1))) in rw (past, w.0, v.0, u.0) refl)
    ]
  ]
  | inr w ↦ (let before : in_run (page + done) part p ≡ false = run_elsewhere (page + done) part p (inl (omega (arith, w.1))) in rw (before, w.0) refl)
]

pub or_kept : (a b : Bool) → b ≡ true → (a || b) ≡ true
or_kept true b e = refl
or_kept false b e = e

pub or_here : (p q : ℕ) (b : Bool) → p ≡ q → (eqb p q || b) ≡ true
or_here p q b e = elim (eqb_tells p q) [ inl w ↦ rw w.0 refl | inr w ↦ absurd (w.1 e) ]

-- a page below the number of those that were made ready is ready
pub first_ready : (count p : ℕ) (b : Bool) → p < count → (nat_lt p count || b) ≡ true
first_ready count p b l = elim (leb_tells (suc p) count) [ inl w ↦ rw w.0 refl | inr w ↦ absurd (omega (arith, w.1, l)) ]
