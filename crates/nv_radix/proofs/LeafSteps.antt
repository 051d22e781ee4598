-- What each call on a leaf makes of its pages.
use Rattle.std.proofs.Common.{◌≡◌, ℕ, ◌+◌, ◌-◌, ◌*◌, ◌/◌, ◌%◌, ◌^◌, ◌<◌, ◌≤◌, Bool, true, false, true≢false, cond, ◌||◌, eqb, leb, ltb, List, [], ◌∷◌, ◌++◌, length, get_or, take, drop, Option, Some, None, refl, ap, sym, ◌∙◌, subst, arith, inl, inr, suc, bit_and, bit_or, append_assoc, w64}
use Rattle.std.proofs.Math.ListN.{set}
use Rattle.std.specs.Int.{bit_at}
use Rattle.std.specs.Int.Count.{count_leading_zeros}
use Rattle.std.proofs.lemmas.Bool.{cases_lt, cases_eq}
use Rattle.std.proofs.lemmas.Bool.Decides.{eqb_tells, leb_tells, nat_tests}
use Rattle.std.proofs.lemmas.Grind.{one_shifted}
use Rattle.std.proofs.lemmas.List.{take_more, length-take-le, take-append-drop, length-set, get_or-set_same, get_or-set_other}
use Rattle.std.proofs.lemmas.Nat.{pow-add, leading_length}
use Rattle.std.proofs.lemmas.Nat.Bits.{bit_at-zero, bit_at-lt, bit_at_above, bit_at_and, bit_at_ones, bit_at_ones_above, bit_at_set_same, bit_at_set_other, shr_and_one}
use Rattle.std.proofs.Math.Nat.{div-div-eq-div-mul, zero-div}
use Rattle.nv_radix.specs.declared.extent.Extent.{Extent}
use Rattle.nv_radix.specs.Pages.{Pages, block_at, is_ready, in_run}
use Rattle.nv_radix.specs.Extents.{AreExtents}
use Rattle.nv_radix.specs.Rising.{Rises}
use Rattle.nv_radix.specs.Nodes.{leaf_pages, raised}
use Rattle.nv_radix.proofs.Leaves.{leaf_block, block_at-leaf, block_at-past_leaf, block_at-unset, is_ready-leaf, leaf_pages-append, Rises-leaf_pages}
use Rattle.nv_radix.proofs.ExtentLemmas.{AreExtents-same, AreExtents-skip}
use Rattle.nv_radix.proofs.Rising.{Rises-append, block_at-none}
use Rattle.nv_radix.proofs.Rows.{Rises-raised, raised-append, block_at-raised_none}

-- whether a page is ready, where the leaf was made so
pub made_leaf : (n p page : ℕ) → page < 64 → (0 < n → n ≡ 64) → ltb p 64 ≡ (eqb (p / 64) (page / 64) || ltb p n)
made_leaf n p page low size = elim (leb_tells (suc p) 64) [
  | inl w ↦ elim (eqb_tells (p / 64) (page / 64)) [ inl v ↦ rw (w.0, v.0) refl | inr v ↦ absurd (v.1 (omega (arith, w.1, low))) ]
  | inr w ↦ elim (eqb_tells (p / 64) (page / 64)) [
    | inl v ↦ absurd (omega (arith, w.1, v.1, low))
    | inr v ↦ elim (leb_tells (suc p) n) [ inl u ↦ absurd (let full = size (omega (arith, u.1)) in omega (arith, full, u.1, w.1)) | inr u ↦ rw (w.0, v.0, u.0) refl ]
  ]
]

pub leaf_found : (mapped : ℕ) (blocks : List ℕ) (p block : ℕ) → p < length blocks → bit_at mapped p ≡ 1 → block ≡ get_or blocks p 0 → Some block ≡ block_at (leaf_pages mapped blocks 0) p
leaf_found mapped blocks p block l set is = rw (block_at-leaf mapped blocks p l, set) (ap (λ (b : ℕ). Some b) is)

pub leaf_unset : (mapped : ℕ) (blocks : List ℕ) (p : ℕ) → (bit_at mapped p ≡ 1 → ⊥) → None ≡ block_at (leaf_pages mapped blocks 0) p
leaf_unset mapped blocks p unset = elim (cases_lt p (length blocks)) [
  | inl l ↦ rw (block_at-leaf mapped blocks p l) (elim (eqb_tells (bit_at mapped p) 1) [ inl w ↦ absurd (unset w.1) | inr w ↦ rw w.0 refl ])
  | inr l ↦ sym (block_at-past_leaf mapped blocks p l)
]

-- a leaf that is made ready has no block, as before
pub made_ready : (mapped : ℕ) (old new : List ℕ) (p : ℕ) → length old ≡ 0 → block_at (leaf_pages 0 new 0) p ≡ block_at (leaf_pages mapped old 0) p
made_ready mapped old new p e = block_at-unset 0 new 0 p (λ q l. bit_at-zero q) ∙ sym (block_at-past_leaf mapped old p (omega (arith, e)))

-- the mask of the bits below a place
pub low_bits : (mapped k p : ℕ) → k < 64 → bit_at (bit_and mapped (1 * 2 ^ k % 18446744073709551616 - 1)) p ≡ cond (leb k p) 0 (bit_at mapped p)
low_bits mapped k p l =
    let one : 1 * 2 ^ k % 18446744073709551616 ≡ 2 ^ k = (one_shifted k 18446744073709551615 refl l).0 in
    ap (λ (m : ℕ). bit_at (bit_and mapped (m - 1)) p) one ∙ bit_at_and mapped (2 ^ k - 1) p ∙ elim (leb_tells k p) [
      | inl w ↦ rw (w.0, bit_at_ones_above k p w.1) (omega arith)
      | inr w ↦ rw (w.0, bit_at_ones k p w.1) (let few = bit_at-lt mapped p in omega (arith, few))
    ]

-- no bit is set from a place on where the number shifted by it is 0
pub no_more_bits : (n k q : ℕ) → n / 2 ^ k ≡ 0 → k ≤ q → bit_at n q ≡ 0
no_more_bits n k q e l =
    let far : k + (q - k) ≡ q = omega (arith, l) in
    ap (bit_at n) (sym far)
    ∙ sym (ap (λ (m : ℕ). m % 2) (div-div-eq-div-mul n (2 ^ k) (2 ^ (q - k)) ∙ ap (λ (m : ℕ). n / m) (sym (pow-add 2 k (q - k)))))
    ∙ ap (λ (m : ℕ). bit_at m (q - k)) e
    ∙ bit_at-zero (q - k)

-- where no bit from a place on is set, they need no clearing
pub low_only : (mapped k p : ℕ) → mapped / 2 ^ k ≤ 0 → bit_at mapped p ≡ cond (leb k p) 0 (bit_at mapped p)
low_only mapped k p none = elim (leb_tells k p) [
  | inl w ↦ rw w.0 (
      let there : 2 ^ p ≡ 2 ^ k * 2 ^ (p - k) = ap (λ (n : ℕ). 2 ^ n) (omega (arith, w.1)) ∙ pow-add 2 k (p - k) in
      let cut : mapped / 2 ^ p ≡ mapped / 2 ^ k / 2 ^ (p - k) = ap (λ (n : ℕ). mapped / n) there ∙ sym (div-div-eq-div-mul mapped (2 ^ k) (2 ^ (p - k))) in
      let zero : mapped / 2 ^ p ≡ 0 = cut ∙ ap (λ (n : ℕ). n / 2 ^ (p - k)) (omega (arith, none)) ∙ zero-div (2 ^ (p - k)) in
      sym (shr_and_one mapped p) ∙ ap (λ (n : ℕ). bit_and n 1) zero ∙ refl)
  | inr w ↦ rw w.0 refl
]

-- a leaf with the bits from a place on cleared
pub leaf_cut : (mapped new : ℕ) (blocks : List ℕ) (k p : ℕ) → bit_at new p ≡ cond (leb k p) 0 (bit_at mapped p) → block_at (leaf_pages new blocks 0) p ≡ cond (leb k p) None (block_at (leaf_pages mapped blocks 0) p)
leaf_cut mapped new blocks k p bits = elim (cases_lt p (length blocks)) [
  | inl l ↦ rw (block_at-leaf new blocks p l, block_at-leaf mapped blocks p l, bits) (elim (leb_tells k p) [ inl w ↦ rw w.0 refl | inr w ↦ rw w.0 refl ])
  | inr l ↦ rw (block_at-past_leaf new blocks p l, block_at-past_leaf mapped blocks p l) (elim (leb_tells k p) [ inl w ↦ rw w.0 refl | inr w ↦ rw w.0 refl ])
]

-- no page behind a leaf is mapped
pub past_leaf : (mapped : ℕ) (blocks : List ℕ) (p : ℕ) → (0 < length blocks → length blocks ≡ 64) → 64 ≤ p → block_at (leaf_pages mapped blocks 0) p ≡ None
past_leaf mapped blocks p size past = block_at-past_leaf mapped blocks p (elim (cases_lt 0 (length blocks)) [ inl u ↦ (let full = size u in omega (arith, full, past)) | inr u ↦ omega (arith, u) ])

-- nor one whose bit is not set
pub clear_page : (mapped : ℕ) (blocks : List ℕ) (p : ℕ) → bit_at mapped p ≡ 0 → block_at (leaf_pages mapped blocks 0) p ≡ None
clear_page mapped blocks p clear = sym (leaf_unset mapped blocks p (λ e. absurd (omega (arith, e, clear))))

-- nor one behind the highest bit
pub past_highest : (mapped : ℕ) (blocks : List ℕ) (p : ℕ) → mapped < 2 ^ 64 → 64 - count_leading_zeros 64 mapped ≤ p → block_at (leaf_pages mapped blocks 0) p ≡ None
past_highest mapped blocks p below past =
    let top = leading_length 64 mapped below in
    clear_page mapped blocks p (bit_at_above mapped top.0 p top.2 (omega (arith, top.1, past)))

-- a leaf ends before the pages that are cut
pub leaf_uncut : (mapped : ℕ) (blocks : List ℕ) (k p : ℕ) → (0 < length blocks → length blocks ≡ 64) → 64 ≤ k → block_at (leaf_pages mapped blocks 0) p ≡ cond (leb k p) None (block_at (leaf_pages mapped blocks 0) p)
leaf_uncut mapped blocks k p size past = elim (leb_tells k p) [
  | inl w ↦ rw w.0 (past_leaf mapped blocks p size (omega (arith, w.1, past)))
  | inr w ↦ rw w.0 refl
]

pub leaf_same_ready : (mapped new : ℕ) (blocks written : List ℕ) (p : ℕ) → length written ≡ length blocks → is_ready (leaf_pages new written 0) p ≡ is_ready (leaf_pages mapped blocks 0) p
leaf_same_ready mapped new blocks written p same = is_ready-leaf new written p ∙ ap (λ (n : ℕ). ltb p n) same ∙ sym (is_ready-leaf mapped blocks p)

-- a ready page is one of 64
pub leaf_full : (mapped : ℕ) (blocks : List ℕ) (p : ℕ) → is_ready (leaf_pages mapped blocks 0) p ≡ true → (0 < length blocks → length blocks ≡ 64) → length blocks ≡ 64
leaf_full mapped blocks p ready size = elim (leb_tells (suc p) (length blocks)) [
  | inl w ↦ size (omega (arith, w.1))
  | inr w ↦ absurd (true≢false (sym ready ∙ is_ready-leaf mapped blocks p ∙ w.0))
]

pub ready_page : (mapped : ℕ) (blocks : List ℕ) (p : ℕ) → is_ready (leaf_pages mapped blocks 0) p ≡ true → p < length blocks
ready_page mapped blocks p ready = elim (leb_tells (suc p) (length blocks)) [ inl w ↦ w.1 | inr w ↦ absurd (true≢false (sym ready ∙ is_ready-leaf mapped blocks p ∙ w.0)) ]

-- a leaf with a run of its pages set
pub leaf_set : (mapped new : ℕ) (blocks written : List ℕ) (page block count p : ℕ) → length written ≡ length blocks → length blocks ≤ 64 → page + count ≤ length blocks → ((q : ℕ) → q < 64 → bit_at new q ≡ cond (in_run page count q) 1 (bit_at mapped q)) → ((q : ℕ) → get_or written q 0 ≡ cond (in_run page count q) (block + (q - page)) (get_or blocks q 0)) → block_at (leaf_pages new written 0) p ≡ cond (in_run page count p) (Some (block + (p - page))) (block_at (leaf_pages mapped blocks 0) p)
leaf_set mapped new blocks written page block count p same few part bits is = elim (cases_lt p (length blocks)) [
  | inl old ↦
      let now : p < length written = omega (arith, old, same) in
      rw (block_at-leaf new written p now, block_at-leaf mapped blocks p old, bits p (omega (arith, old, few)), is p) (either (in_run page count p) (bit_at mapped p) (block + (p - page)) (get_or blocks p 0))
  | inr old ↦
      let now : length written ≤ p = omega (arith, old, same) in
      rw (block_at-past_leaf new written p now, block_at-past_leaf mapped blocks p old, outside page count p (omega (arith, part, old))) refl
]
  where
    either : (b : Bool) (bit new old : ℕ) → cond (eqb (cond b 1 bit) 1) (Some (cond b new old)) None ≡ cond b (Some new) (cond (eqb bit 1) (Some old) None)
    either true bit new old = refl
    either false bit new old = refl

    outside : (page count p : ℕ) → page + count ≤ p → in_run page count p ≡ false
    outside page count p part = grind (arith, nat_tests)

one_page : (page q : ℕ) → q ≡ page → in_run page 1 q ≡ true
one_page page q e = grind (arith, nat_tests)

other_page : (page q : ℕ) → (q ≡ page → ⊥) → in_run page 1 q ≡ false
other_page page q n = grind (arith, nat_tests)

-- the bits with that of one page
pub one_bit : (mapped page q : ℕ) → page < 64 → bit_at (bit_or mapped (1 * 2 ^ page % 18446744073709551616)) q ≡ cond (in_run page 1 q) 1 (bit_at mapped q)
one_bit mapped page q low = elim (cases_eq q page) [
  | inl e ↦ rw (one_page page q e, e) (bit_at_set_same w64 mapped page (omega (arith, low)))
  | inr n ↦ rw (other_page page q n) (bit_at_set_other w64 mapped page (omega (arith, low)) q n)
]

-- a leaf with one of its pages set
pub leaf_set_one : (mapped : ℕ) (blocks : List ℕ) (page block p : ℕ) → page < length blocks → length blocks ≤ 64 → block_at (leaf_pages (bit_or mapped (1 * 2 ^ page % 18446744073709551616)) (set blocks page block) 0) p ≡ cond (in_run page 1 p) (Some (block + (p - page))) (block_at (leaf_pages mapped blocks 0) p)
leaf_set_one mapped blocks page block p inside few = leaf_set mapped _ blocks (set blocks page block) page block 1 p (length-set blocks page block) few (omega (arith, inside)) (λ q l. one_bit mapped page q (omega (arith, inside, few))) is
  where
    is : (q : ℕ) → get_or (set blocks page block) q 0 ≡ cond (in_run page 1 q) (block + (q - page)) (get_or blocks q 0)
    is q = elim (cases_eq q page) [
      | inl e ↦ rw (one_page page q e, e) (get_or-set_same blocks page block 0 inside ∙ omega arith)
      | inr n ↦ rw (other_page page q n) (get_or-set_other blocks page q block 0 n)
    ]

-- the extents of a leaf whose pages from a place on have no block
pub AreExtents-rest : (base i mapped : ℕ) (blocks : List ℕ) (m : Pages) (extents : List Extent) → i ≤ length blocks → mapped / 2 ^ i ≡ 0 → AreExtents (m ++ raised base (leaf_pages mapped (take i blocks) 0)) extents → AreExtents (m ++ raised base (leaf_pages mapped blocks 0)) extents
AreExtents-rest base i mapped blocks m extents l e a =
    let tail = leaf_pages mapped (drop i blocks) i in
    let size : 0 + length (take i blocks) ≡ i = (let n = length-take-le i blocks l in omega (arith, n)) in
    let parts : leaf_pages mapped blocks 0 ≡ leaf_pages mapped (take i blocks) 0 ++ tail = ap (λ (bs : List ℕ). leaf_pages mapped bs 0) (sym (take-append-drop i blocks)) ∙ leaf_pages-append mapped (take i blocks) (drop i blocks) 0 ∙ ap (λ (k : ℕ). leaf_pages mapped (take i blocks) 0 ++ leaf_pages mapped (drop i blocks) k) size in
    let whole : m ++ raised base (leaf_pages mapped blocks 0) ≡ (m ++ raised base (leaf_pages mapped (take i blocks) 0)) ++ raised base tail = ap (λ (n : Pages). m ++ raised base n) parts ∙ ap (λ (n : Pages). m ++ n) (raised-append base (leaf_pages mapped (take i blocks) 0) tail) ∙ sym (append_assoc m (raised base (leaf_pages mapped (take i blocks) 0)) (raised base tail)) in
    subst (λ (n : Pages). AreExtents n extents) (sym whole) (AreExtents-same _ _ extents (λ p. sym (block_at-none _ (raised base tail) p (λ q. block_at-raised_none base tail q (λ r. block_at-unset mapped (drop i blocks) i r (λ s k. no_more_bits mapped i s e k))))) a)

-- one page more of a leaf
leaf_more : (mapped : ℕ) (blocks : List ℕ) (i : ℕ) → i < length blocks → leaf_pages mapped (take (i + 1) blocks) 0 ≡ leaf_pages mapped (take i blocks) 0 ++ (i, leaf_block mapped blocks i i) ∷ []
leaf_more mapped blocks i l =
    let size : 0 + length (take i blocks) ≡ i = (let n = length-take-le i blocks (omega (arith, l)) in omega (arith, n)) in
    ap (λ (bs : List ℕ). leaf_pages mapped bs 0) (take_more blocks i 0 l) ∙ leaf_pages-append mapped (take i blocks) (get_or blocks i 0 ∷ []) 0 ∙ ap (λ (k : ℕ). leaf_pages mapped (take i blocks) 0 ++ (k, leaf_block mapped blocks k i) ∷ []) size

pub raised_more : (base mapped : ℕ) (blocks : List ℕ) (i : ℕ) (m : Pages) → i < length blocks → m ++ raised base (leaf_pages mapped (take (i + 1) blocks) 0) ≡ (m ++ raised base (leaf_pages mapped (take i blocks) 0)) ++ (base + i, leaf_block mapped blocks i i) ∷ []
raised_more base mapped blocks i m l =
    ap (λ (n : Pages). m ++ raised base n) (leaf_more mapped blocks i l) ∙ ap (λ (n : Pages). m ++ n) (raised-append base (leaf_pages mapped (take i blocks) 0) ((i, leaf_block mapped blocks i i) ∷ [])) ∙ sym (append_assoc m (raised base (leaf_pages mapped (take i blocks) 0)) ((base + i, leaf_block mapped blocks i i) ∷ []))

pub Rises-so_far : (base mapped : ℕ) (blocks : List ℕ) (i : ℕ) (m : Pages) → i ≤ length blocks → Rises 0 base m → Rises 0 (base + i) (m ++ raised base (leaf_pages mapped (take i blocks) 0))
Rises-so_far base mapped blocks i m l h =
    let size : 0 + length (take i blocks) ≡ i = (let n = length-take-le i blocks l in omega (arith, n)) in
    let low : base + 0 ≡ base = omega arith in
    let high : base + (0 + length (take i blocks)) ≡ base + i = ap (λ (k : ℕ). base + k) size in
    let rises = Rises-raised base 0 (0 + length (take i blocks)) (leaf_pages mapped (take i blocks) 0) (Rises-leaf_pages mapped (take i blocks) 0) in
    Rises-append 0 base (base + i) m _ h (subst (λ k. Rises base k (raised base (leaf_pages mapped (take i blocks) 0))) high (subst (λ k. Rises k (base + (0 + length (take i blocks))) (raised base (leaf_pages mapped (take i blocks) 0))) low rises))

-- the step of a walk at a mapped page
pub AreExtents-set : (base mapped block : ℕ) (blocks : List ℕ) (i : ℕ) (m : Pages) (old new : List Extent) → i < length blocks → bit_at mapped i ≡ 1 → block ≡ get_or blocks i 0 → Rises 0 base m → ((n : Pages) → Rises 0 (base + i) n → AreExtents n old → AreExtents (n ++ (base + i, Some block) ∷ []) new) → AreExtents (m ++ raised base (leaf_pages mapped (take i blocks) 0)) old → AreExtents (m ++ raised base (leaf_pages mapped (take (i + 1) blocks) 0)) new
AreExtents-set base mapped block blocks i m old new l set is h step a =
    let entry : Some block ≡ leaf_block mapped blocks i i = rw set (ap (λ (b : ℕ). Some b) is) in
    let more : (m ++ raised base (leaf_pages mapped (take i blocks) 0)) ++ (base + i, Some block) ∷ [] ≡ m ++ raised base (leaf_pages mapped (take (i + 1) blocks) 0) = ap (λ (o : Option ℕ). (m ++ raised base (leaf_pages mapped (take i blocks) 0)) ++ (base + i, o) ∷ []) entry ∙ sym (raised_more base mapped blocks i m l) in
    subst (λ (n : Pages). AreExtents n new) more (step _ (Rises-so_far base mapped blocks i m (omega (arith, l)) h) a)

-- and at a page with no block
pub AreExtents-unset : (base mapped : ℕ) (blocks : List ℕ) (i : ℕ) (m : Pages) (extents : List Extent) → i < length blocks → (bit_at mapped i ≡ 1 → ⊥) → AreExtents (m ++ raised base (leaf_pages mapped (take i blocks) 0)) extents → AreExtents (m ++ raised base (leaf_pages mapped (take (i + 1) blocks) 0)) extents
AreExtents-unset base mapped blocks i m extents l unset a =
    let entry : None ≡ leaf_block mapped blocks i i = elim (eqb_tells (bit_at mapped i) 1) [ inl w ↦ absurd (unset w.1) | inr w ↦ rw w.0 refl ] in
    let more : (m ++ raised base (leaf_pages mapped (take i blocks) 0)) ++ (base + i, None) ∷ [] ≡ m ++ raised base (leaf_pages mapped (take (i + 1) blocks) 0) = ap (λ (o : Option ℕ). (m ++ raised base (leaf_pages mapped (take i blocks) 0)) ++ (base + i, o) ∷ []) entry ∙ sym (raised_more base mapped blocks i m l) in
    subst (λ (n : Pages). AreExtents n extents) more (AreExtents-skip _ (base + i) extents a)
