-- Taking from one pool after another.
use Rattle.std.proofs.Common.{◌≡◌, ℕ, suc, ◌+◌, ◌-◌, ◌*◌, ◌<◌, ◌≤◌, inl, inr, eqb, cond, List, [], ◌∷◌, ◌++◌, length, get_or, refl, ap, sym, ◌∙◌, subst, arith, append_assoc}
use Rattle.std.proofs.Math.ListN.{set}
use Rattle.std.proofs.lemmas.Bool.{cases_lt}
use Rattle.std.proofs.lemmas.Bool.Decides.{nat_tests}
use Rattle.std.proofs.lemmas.List.{map-set, get_or-map, length-map, set-get_or}
use Rattle.std.proofs.lemmas.List.Sums.{sum_by-cons, sum_by-set}
use Rattle.nv_super.specs.declared.owners.Run.{Run}
use Rattle.nv_super.specs.Runs.{Apart}
use Rattle.nv_alloc.specs.PoolValue.{PoolState, SamePlace}
use Rattle.nv_alloc.specs.Taking.{blocks_in, taken, left, all_blocks, pool_at, IsFullest, Takes, ends, goes_on}
use Rattle.nv_alloc.specs.Inside.{lists_of, bounds_of, TakesFrom, TakesOnto}
use Rattle.nv_alloc.proofs.Fronts.{taken_over, left_over, left_blocks}

pub blocks_all : (p : List Run) (ps : List (List Run)) → all_blocks (p ∷ ps) ≡ blocks_in p + all_blocks ps
blocks_all p ps = sum_by-cons blocks_in p ps

pub no_blocks : (pools : List (List Run)) → ((d : ℕ) → d < length pools → blocks_in (pool_at pools d) ≤ 0) → all_blocks pools ≡ 0
no_blocks [] h = refl
no_blocks (p ∷ ps) h =
    let b = blocks_all p ps in let z = h 0 (omega arith) in
    let r = no_blocks ps (λ d lt. h (suc d) (omega (arith, lt))) in omega (arith, b, z, r)

pub some_in_fullest : (pools : List (List Run)) (d : ℕ) → IsFullest pools d → 0 < all_blocks pools → 0 < blocks_in (pool_at pools d)
some_in_fullest pools d f h = elim (cases_lt 0 (blocks_in (pool_at pools d))) [
  | inl w ↦ w
  | inr w ↦ absurd (let z = no_blocks pools (λ e lt. (let m = f.most e lt in omega (arith, m, w))) in omega (arith, z, h))
]

pub blocks_set : (pools : List (List Run)) (c : ℕ) (p : List Run) → c < length pools → all_blocks (set pools c p) + blocks_in (pool_at pools c) ≡ all_blocks pools + blocks_in p
blocks_set pools c p lt = sum_by-set blocks_in pools c p [] lt

pub onto_ends : (pools after : List (List Run)) (c n : ℕ) (had has' : List Run) → has' ≡ had ++ taken n (pool_at pools c) → after ≡ set pools c (left n (pool_at pools c)) → n - blocks_in (pool_at pools c) ≤ 0 → TakesOnto pools c n had has' after
onto_ends pools after c n had has' h a z =
    let P : List (List Run) → Type 0 = λ q. Takes pools c n (taken n (pool_at pools c)) q in
    (taken n (pool_at pools c), subst P (sym a) (ends (omega (arith, z))), h)

pub onto_goes : (pools mid after : List (List Run)) (c n d rest : ℕ) (had half has' : List Run) → Apart (pool_at pools c) → half ≡ had ++ taken n (pool_at pools c) → mid ≡ set pools c (left n (pool_at pools c)) → rest ≡ n - blocks_in (pool_at pools c) → 0 < rest
    → IsFullest mid d → TakesOnto mid d rest half has' after → TakesOnto pools c n had has' after
onto_goes pools mid after c n d rest had half has' apart h m r pos f t =
    let lt : blocks_in (pool_at pools c) < n = omega (arith, r, pos) in
    let le : blocks_in (pool_at pools c) ≤ n = omega (arith, lt) in
    let all : taken n (pool_at pools c) ≡ pool_at pools c = taken_over n (pool_at pools c) apart le in
    let none : mid ≡ set pools c [] = m ∙ ap (λ (p : List Run). set pools c p) (left_over n (pool_at pools c) apart le) in
    let F : List (List Run) → Type 0 = λ q. IsFullest q d in
    let T : List (List Run) → Type 0 = λ q. Takes q d (n - blocks_in (pool_at pools c)) t.0 after in
    let N : ℕ → Type 0 = λ k. Takes mid d k t.0 after in (
      pool_at pools c ++ t.0,
      goes_on d t.0 after lt (subst F none f) (subst T none (subst N r t.1)),
      t.2 ∙ ap (λ (xs : List Run). xs ++ t.0) (h ∙ ap (λ (xs : List Run). had ++ xs) all) ∙ append_assoc had (pool_at pools c) t.0,
    )

-- One pool was asked for n blocks: what it had, what came, what is left, what is still needed.
pub record Asked (pools : List (List Run)) (c n : ℕ) (had half : List Run) (p q : List Run) (rest : ℕ) : Type 0 where
  pub within : c < length pools
  pub is : p ≡ pool_at pools c
  pub apart : Apart p
  pub out : half ≡ had ++ taken n p
  pub stays : q ≡ left n p
  pub still : rest ≡ n - blocks_in p

module _ {pools : List (List Run)} {c n : ℕ} {had half p q : List Run} {rest : ℕ} (a : Asked pools c n had half p q rest) where
  pub pool_is : p ≡ pool_at pools c
  pool_is = a.is

  pub asked_blocks : all_blocks (set pools c q) + blocks_in p ≡ all_blocks pools + (blocks_in p - n)
  asked_blocks =
      let s = blocks_set pools c q a.within in
      let b : blocks_in q ≡ blocks_in p - n = ap blocks_in a.stays ∙ left_blocks n p in
      let e : blocks_in (pool_at pools c) ≡ blocks_in p = ap blocks_in (sym pool_is) in omega (arith, s, b, e)

  pub asked_ends : rest ≤ 0 → TakesOnto pools c n had half (set pools c q)
  asked_ends z = onto_ends pools (set pools c q) c n had half (a.out ∙ ap (λ (x : List Run). had ++ taken n x) pool_is) (ap (λ (x : List Run). set pools c x) (a.stays ∙ ap (λ (x : List Run). left n x) pool_is))
      (let s = a.still in let e : blocks_in p ≡ blocks_in (pool_at pools c) = ap blocks_in pool_is in omega (arith, s, z, e))

  pub asked_goes : (d : ℕ) (has' : List Run) (after : List (List Run)) → 0 < rest → IsFullest (set pools c q) d → TakesOnto (set pools c q) d rest half has' after → TakesOnto pools c n had has' after
  asked_goes d has' after pos f t = onto_goes pools (set pools c q) after c n d rest had half has' (let P : List Run → Type 0 = λ x. Apart x in subst P pool_is a.apart)
      (a.out ∙ ap (λ (x : List Run). had ++ taken n x) pool_is) (ap (λ (x : List Run). set pools c x) (a.stays ∙ ap (λ (x : List Run). left n x) pool_is))
      (a.still ∙ ap (λ (x : List Run). n - blocks_in x) pool_is) pos f t

  pub asked_enough : n ≤ all_blocks pools → rest ≤ all_blocks (set pools c q)
  asked_enough enough = let s = a.still in let b = asked_blocks in omega (arith, s, b, enough)

  pub asked_less : (d : ℕ) → 0 < rest → n ≤ all_blocks pools → IsFullest (set pools c q) d
      → 2 * rest + cond (eqb (blocks_in (pool_at (set pools c q) d)) 0) 1 0 < 2 * n + cond (eqb (blocks_in (pool_at pools c)) 0) 1 0
  asked_less d pos enough f =
      let some = some_in_fullest (set pools c q) d f (let e = asked_enough enough in omega (arith, e, pos)) in
      let s = a.still in let e : blocks_in p ≡ blocks_in (pool_at pools c) = ap blocks_in pool_is in
      less_by rest n (blocks_in (pool_at pools c)) (blocks_in (pool_at (set pools c q) d)) (omega (arith, s, e)) pos some where
        less_by : (rest n b m : ℕ) → rest ≡ n - b → 0 < rest → 0 < m → 2 * rest + cond (eqb m 0) 1 0 < 2 * n + cond (eqb b 0) 1 0
        less_by rest n b m e pos some = grind (arith, nat_tests)

-- the lists of pools
pub lists_at : (ps : List PoolState) (c : ℕ) (d : PoolState) → c < length ps → pool_at (lists_of ps) c ≡ (get_or ps c d).runs
lists_at ps c d lt = get_or-map (λ (p : PoolState). p.runs) ps c d [] lt

pub lists_set : (ps : List PoolState) (c : ℕ) (q : PoolState) → lists_of (set ps c q) ≡ set (lists_of ps) c q.runs
lists_set ps c q = map-set (λ (p : PoolState). p.runs) ps c q

pub lists_length : (ps : List PoolState) → length (lists_of ps) ≡ length ps
lists_length ps = length-map ps (λ (p : PoolState). p.runs)

-- pools of which one is another that lies where it lay
pub bounds_set : (ps : List PoolState) (c : ℕ) (p q : PoolState) → c < length ps → p ≡ get_or ps c p → SamePlace p q → bounds_of (set ps c q) ≡ bounds_of ps
bounds_set ps c p q lt is same =
    map-set (λ (x : PoolState). (x.from, x.to)) ps c q
    ∙ ap (λ (x : ℕ × ℕ). set (bounds_of ps) c x) (pair ∙ ap (λ (x : PoolState). (x.from, x.to)) is ∙ sym (get_or-map (λ (x : PoolState). (x.from, x.to)) ps c p (0, 0) lt))
    ∙ set-get_or (bounds_of ps) c (0, 0) where
      pair : ◌≡◌ {A = ℕ × ℕ} (q.from, q.to) (p.from, p.to)
      pair = λ i. (same.from i, same.to i)

-- One of the pools was asked for n blocks.
module _ (ps : List PoolState) (c n : ℕ) (had half : List Run) (p q : PoolState) (rest : ℕ) (lt : c < length ps) (is : p ≡ get_or ps c p) (t : TakesFrom n p had rest q half) where
  runs_are : p.runs ≡ pool_at (lists_of ps) c
  runs_are = ap (λ (x : PoolState). x.runs) is ∙ sym (lists_at ps c p lt)

  as_asked : Asked (lists_of ps) c n had half p.runs q.runs rest
  as_asked = record { within = (let l = lists_length ps in omega (arith, l, lt)); is = runs_are; apart = t.apart; out = t.out; stays = t.stays; still = t.still }

  pub took_ends : rest ≡ 0 → TakesOnto (lists_of ps) c n had half (lists_of (set ps c q))
  took_ends z = let P : List (List Run) → Type 0 = λ x. TakesOnto (lists_of ps) c n had half x in subst P (sym (lists_set ps c q)) (asked_ends as_asked (omega (arith, z)))

  pub took_goes : (d : ℕ) (has' : List Run) (after : List (List Run)) → 0 < rest → IsFullest (lists_of (set ps c q)) d → TakesOnto (lists_of (set ps c q)) d rest half has' after → TakesOnto (lists_of ps) c n had has' after
  took_goes d has' after pos f o =
      let F : List (List Run) → Type 0 = λ x. IsFullest x d in let O : List (List Run) → Type 0 = λ x. TakesOnto x d rest half has' after in
      asked_goes as_asked d has' after pos (subst F (lists_set ps c q) f) (subst O (lists_set ps c q) o)

  pub took_enough : n ≤ all_blocks (lists_of ps) → rest ≤ all_blocks (lists_of (set ps c q))
  took_enough enough = let P : List (List Run) → Type 0 = λ x. rest ≤ all_blocks x in subst P (sym (lists_set ps c q)) (asked_enough as_asked enough)

  pub took_less : (d : ℕ) → 0 < rest → n ≤ all_blocks (lists_of ps) → IsFullest (lists_of (set ps c q)) d
      → 2 * rest + cond (eqb (blocks_in (pool_at (lists_of (set ps c q)) d)) 0) 1 0 < 2 * n + cond (eqb (blocks_in (pool_at (lists_of ps) c)) 0) 1 0
  took_less d pos enough f =
      let F : List (List Run) → Type 0 = λ x. IsFullest x d in
      let P : List (List Run) → Type 0 = λ x. 2 * rest + cond (eqb (blocks_in (pool_at x d)) 0) 1 0 < 2 * n + cond (eqb (blocks_in (pool_at (lists_of ps) c)) 0) 1 0 in
      subst P (sym (lists_set ps c q)) (asked_less as_asked d pos enough (subst F (lists_set ps c q) f))
