-- What each call on the first pages of an index makes of them.
use Rattle.std.proofs.Common.{◌≡◌, ℕ, ◌+◌, ◌-◌, ◌<◌, ◌≤◌, true, false, cond, ◌||◌, leb, ltb, List, ◌++◌, length, get_or, min, take, None, refl, ap, sym, ◌∙◌, arith, inl, inr}
use Rattle.std.specs.Int.{bit_at}
use Rattle.std.specs.List.{refill}
use Rattle.std.proofs.lemmas.Bool.{cases_lt}
use Rattle.std.proofs.lemmas.Bool.Decides.{leb_tells, nat_tests}
use Rattle.std.proofs.lemmas.List.{take_all, take-append-le, length-append, length-take, get_or-take, get_or_append_left}
use Rattle.nv_radix.specs.Pages.{block_at, is_ready, in_run, AreReady}
use Rattle.nv_radix.specs.Rising.{Rises}
use Rattle.nv_radix.specs.Nodes.{leaf_pages}
use Rattle.nv_radix.proofs.Rising.{Rises-higher}
use Rattle.nv_radix.proofs.Leaves.{block_at-leaf, block_at-past_leaf, is_ready-leaf, Rises-leaf_pages}
use Rattle.nv_radix.proofs.LeafSteps.{ready_page}

pub Rises-first : (mapped : ℕ) (blocks : List ℕ) → length blocks ≤ 64 → Rises 0 64 (leaf_pages mapped blocks 0)
Rises-first mapped blocks few = Rises-higher 0 (0 + length blocks) 64 (leaf_pages mapped blocks 0) (omega (arith, few)) (Rises-leaf_pages mapped blocks 0)

-- no bit is set from the end of the ready pages on
abbrev pub AreBits : ℕ → List ℕ → Type 0
AreBits mapped blocks = (p : ℕ) → length blocks ≤ p → p < 64 → bit_at mapped p ≡ 0

-- a page before a ready one is ready
pub earlier : (page n p : ℕ) → ltb page n ≡ true → p ≤ page → ltb p n ≡ true
earlier page n p e l = grind (arith, nat_tests)

-- pages that are made ready have no block
pub first_longer : (mapped : ℕ) (blocks more new : List ℕ) (p : ℕ) → AreBits mapped blocks → new ≡ blocks ++ more → length new ≤ 64 → block_at (leaf_pages mapped new 0) p ≡ block_at (leaf_pages mapped blocks 0) p
first_longer mapped blocks more new p bits is few = elim (cases_lt p (length blocks)) [
  | inl l ↦
      let longer : length blocks ≤ length new = (let size = ap length is ∙ length-append blocks more in omega (arith, size)) in
      rw (block_at-leaf mapped new p (omega (arith, l, longer)), block_at-leaf mapped blocks p l)
      (let same : get_or new p 0 ≡ get_or blocks p 0 = ap (λ (xs : List ℕ). get_or xs p 0) is ∙ get_or_append_left blocks more 0 p l in rw same refl)
  | inr l ↦ rw (block_at-past_leaf mapped blocks p l) (elim (cases_lt p (length new)) [
    | inl k ↦ rw (block_at-leaf mapped new p k, bits p l (omega (arith, k, few))) refl
    | inr k ↦ block_at-past_leaf mapped new p k
  ])
]

pub longer_ready : (n count p : ℕ) → n ≤ count → ltb p count ≡ (ltb p count || ltb p n)
longer_ready n count p l = grind (arith, nat_tests)

pub ready_already : (n count p : ℕ) → count ≤ n → ltb p n ≡ (ltb p count || ltb p n)
ready_already n count p l = grind (arith, nat_tests)

lower : (n k m p : ℕ) → m ≡ min k n → p < k → ltb p m ≡ ltb p n
lower n k m p e l = grind (arith, nat_tests)

at_most : (n k m p : ℕ) → m ≡ min k n → ltb p m ≡ true → ltb p n ≡ true
at_most n k m p e h = grind (arith, nat_tests)

-- a run of ready pages ends with them
pub run_within : (mapped : ℕ) (blocks : List ℕ) (page count : ℕ) → 0 < count → AreReady (leaf_pages mapped blocks 0) page count → page + count ≤ length blocks
run_within mapped blocks page count some ready = (let last = ready_page mapped blocks (page + (count - 1)) (ready (page + (count - 1)) (omega arith) (omega (arith, some))) in omega (arith, last, some))

pub refill_all : (n : ℕ) (xs ws : List ℕ) → length ws ≡ n → refill n xs ws ≡ ws
refill_all n xs ws e = take-append-le n ws _ (omega (arith, e)) ∙ take_all n ws (omega (arith, e))

-- the bits of a run of ready pages leave those behind them
pub bits_set : (mapped new : ℕ) (blocks : List ℕ) (page count : ℕ) → AreBits mapped blocks → page + count ≤ length blocks → ((q : ℕ) → q < 64 → bit_at new q ≡ cond (in_run page count q) 1 (bit_at mapped q)) → AreBits new blocks
bits_set mapped new blocks page count bits part is p l h = is p h ∙ rw (outside page count p (omega (arith, part, l))) (bits p l h)
  where
    outside : (page count p : ℕ) → page + count ≤ p → in_run page count p ≡ false
    outside page count p part = grind (arith, nat_tests)

module _ (mapped new k : ℕ) (blocks kept : List ℕ) (whole : kept ≡ take k blocks) (is : (q : ℕ) → bit_at new q ≡ cond (leb k q) 0 (bit_at mapped q)) where
  kept_size : length kept ≡ min k (length blocks)
  kept_size = ap length whole ∙ length-take k blocks

  -- the pages from one on are cut, and their blocks taken out
  pub first_cut : (p : ℕ) → block_at (leaf_pages new kept 0) p ≡ cond (leb k p) None (block_at (leaf_pages mapped blocks 0) p)
  first_cut p =
      let size = kept_size in
      elim (leb_tells k p) [
        | inl w ↦ rw w.0 (block_at-past_leaf new kept p (omega (arith, size, w.1)))
        | inr w ↦ rw w.0 (elim (cases_lt p (length blocks)) [
          | inl l ↦ (let inside : p < length kept = omega (arith, size, w.1, l) in
              let same : get_or kept p 0 ≡ get_or blocks p 0 = ap (λ (xs : List ℕ). get_or xs p 0) whole ∙ get_or-take k blocks p 0 w.1 in
              rw (block_at-leaf new kept p inside, block_at-leaf mapped blocks p l, is p, w.0, same) refl)
          | inr l ↦ block_at-past_leaf new kept p (omega (arith, size, l)) ∙ sym (block_at-past_leaf mapped blocks p l)
        ])
      ]

  pub bits_cut : AreBits mapped blocks → AreBits new kept
  bits_cut bits p l h =
      let size = kept_size in
      is p ∙ elim (leb_tells k p) [ inl w ↦ rw w.0 refl | inr w ↦ rw w.0 (bits p (omega (arith, size, w.1, l)) h) ]

  pub ready_cut : (p : ℕ) → p < k → is_ready (leaf_pages new kept 0) p ≡ is_ready (leaf_pages mapped blocks 0) p
  ready_cut p l = is_ready-leaf new kept p ∙ lower (length blocks) k (length kept) p kept_size l ∙ sym (is_ready-leaf mapped blocks p)

  pub cut_no_more : (p : ℕ) → is_ready (leaf_pages new kept 0) p ≡ true → is_ready (leaf_pages mapped blocks 0) p ≡ true
  cut_no_more p e = is_ready-leaf mapped blocks p ∙ at_most (length blocks) k (length kept) p kept_size (sym (is_ready-leaf new kept p) ∙ e)

  pub kept_few : length blocks ≤ 64 → length kept ≤ 64
  kept_few few = (let size = kept_size in omega (arith, size, few))
