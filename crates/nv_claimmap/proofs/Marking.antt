-- Marks of rising blocks of one word, one after the other, as one write of the word.
use Rattle.std.proofs.Common.{◌≡◌, ◌≢◌, ℕ, zero, suc, ◌+◌, ◌*◌, ◌/◌, ◌%◌, ◌<◌, ◌≤◌, ltb, cond, true, ◌&&◌, List, [], ◌∷◌, ◌++◌, length, map, get_or, set, sym, refl, ap, ◌∙◌, subst, arith, inl, inr, set-set, get_or-set_same}
use Rattle.std.specs.Prelude.{bit_or, ◌==◌}
use Rattle.std.specs.Int.{bit_at}
use Rattle.std.specs.Int.Bits.{or_zero_r}
use Rattle.std.specs.List.{count_by}
use Rattle.std.proofs.lemmas.Bool.{cases_eq}
use Rattle.std.proofs.lemmas.List.{length-set, append-nil, append_assoc}
use Rattle.std.proofs.lemmas.Nat.Bits.{bit_at_or, bit_at-lt, bit_at-zero, bit_at-pow_same, bit_at-pow_other}
use lib.Seq.{set-get_or}
use Rattle.nv_blockset.specs.BlockSet.{mask_of}
use Rattle.nv_super.specs.declared.owners.Owner.{Owner}
use Rattle.nv_claimcore.specs.declared.view.Sizes.{Sizes}
use Rattle.nv_claimcore.specs.declared.view.View.{View}
use Rattle.nv_claimcore.specs.declared.event.Event.{Event}
use Rattle.nv_claimcore.specs.declared.event.Event.TheVariants.{Mark}
use Rattle.nv_claimcore.specs.Claims.{State, nothing, is_unmarked, with_mark}
use Rattle.nv_claimcore.specs.Events.{view_of, after, all_allowed, after_all}
use Rattle.nv_claimcore.specs.Spans.{mask_all, mark_all, Rises, AreUnmarked}
use Rattle.nv_claimcore.specs.SpanEvents.{low_marks, mark_events}
use Rattle.nv_claimcore.proofs.Spans.{or_assoc}

-- the marks by w of the blocks, in turn
abbrev pub marks_by : ℕ → List (ℕ × Owner) → List Event
marks_by w ps = map (λ (p : ℕ × Owner). Mark w p.0) ps

-- ---- the marks that a mask names

-- those of n bits from the i-th on, the first of them first
marks_from : ℕ → ℕ → ℕ → ℕ → ℕ → List Event
marks_from w word mask i zero = []
marks_from w word mask i (suc n) = cond (bit_at mask i == 1) (Mark w (word * 64 + i) ∷ []) [] ++ marks_from w word mask (suc i) n

low_then : (w word mask i n : ℕ) → low_marks w word mask (i + n) ≡ low_marks w word mask i ++ marks_from w word mask i n
unfolding marks_from
low_then w word mask i zero = ap (low_marks w word mask) (let e : i + 0 ≡ i = omega arith in e) ∙ sym (append-nil (low_marks w word mask i))
low_then w word mask i (suc n) =
    let here = cond (bit_at mask i == 1) (Mark w (word * 64 + i) ∷ []) [] in
    ap (low_marks w word mask) (let e : i + suc n ≡ suc i + n = omega arith in e) ∙ (low_then w word mask (suc i) n ∙ append_assoc (low_marks w word mask i) here (marks_from w word mask (suc i) n))

-- below all blocks their mask has no bit
no_bit : (k lo hi j : ℕ) (ps : List (ℕ × Owner)) → k * 64 ≤ lo → hi ≤ k * 64 + 64 → k * 64 + j < lo → Rises lo hi ps → bit_at (mask_all ps) j ≡ 0
no_bit k lo hi j [] low high before rises = bit_at-zero j
no_bit k lo hi j (p ∷ ps) low high before rises =
    let r0 = rises.0 in let r1 = rises.1 in
    let other : j ≢ p.0 % 64 = λ e. omega arith in
    let rest = no_bit k (p.0 + 1) hi j ps (omega arith) high (omega arith) rises.2 in
    let mine = bit_at-pow_other (p.0 % 64) j other in
    bit_at_or (mask_of p.0) (mask_all ps) j ∙ omega (arith, rest, mine)

first_bit : (ps : List (ℕ × Owner)) (p : ℕ × Owner) → bit_at (mask_all (p ∷ ps)) (p.0 % 64) ≡ 1
first_bit ps p = let one = bit_at-pow_same (p.0 % 64) in let low = bit_at-lt (mask_all ps) (p.0 % 64) in bit_at_or (mask_of p.0) (mask_all ps) (p.0 % 64) ∙ omega (arith, one, low)

later_bit : (ps : List (ℕ × Owner)) (p : ℕ × Owner) (j : ℕ) → j ≢ p.0 % 64 → bit_at (mask_all (p ∷ ps)) j ≡ bit_at (mask_all ps) j
later_bit ps p j other = let none = bit_at-pow_other (p.0 % 64) j other in bit_at_or (mask_of p.0) (mask_all ps) j ∙ omega (arith, none)

-- a mask that has the blocks' bits from the i-th on names their marks
named_marks : (w k mask i n lo hi : ℕ) (ps : List (ℕ × Owner)) → i + n ≡ 64 → k * 64 + i ≤ lo → hi ≤ k * 64 + 64 → Rises lo hi ps → ((j : ℕ) → i ≤ j → j < 64 → bit_at mask j ≡ bit_at (mask_all ps) j)
    → marks_from w k mask i n ≡ marks_by w ps
unfolding marks_from
named_marks w k mask i zero lo hi [] all low high rises same = refl
named_marks w k mask i zero lo hi (p ∷ ps) all low high rises same = absurd (let r0 = rises.0 in let r1 = rises.1 in omega arith)
named_marks w k mask i (suc n) lo hi [] all low high rises same =
    let clear : bit_at mask i ≡ 0 = same i (omega arith) (omega arith) ∙ bit_at-zero i in
    let rest = named_marks w k mask (suc i) n (k * 64 + suc i) hi [] (omega arith) (omega arith) high tt (λ j from to. same j (omega arith) to) in
    (λ t. cond (clear t == 1) (Mark w (k * 64 + i) ∷ []) [] ++ marks_from w k mask (suc i) n) ∙ rest
named_marks w k mask i (suc n) lo hi (p ∷ ps) all low high rises same = elim (cases_eq p.0 (k * 64 + i)) [
  | inl here ↦ (
      let r1 = rises.1 in
      let at : p.0 % 64 ≡ i = omega arith in
      let bit : bit_at mask i ≡ 1 = same i (omega arith) (omega arith) ∙ (ap (bit_at (mask_all (p ∷ ps))) (sym at) ∙ first_bit ps p) in
      let rest = named_marks w k mask (suc i) n (p.0 + 1) hi ps (omega arith) (omega arith) high rises.2 (λ j from to. same j (omega arith) to ∙ later_bit ps p j (λ e. omega arith)) in
      (λ t. cond (bit t == 1) (Mark w (sym here t) ∷ []) [] ++ rest t))
  | inr other ↦ (
      let r0 = rises.0 in let r1 = rises.1 in
      let clear : bit_at mask i ≡ 0 = same i (omega arith) (omega arith) ∙ no_bit k (k * 64 + suc i) hi i (p ∷ ps) (omega arith) high (omega arith) ((omega (arith, other)), r1, rises.2) in
      let rest = named_marks w k mask (suc i) n (k * 64 + suc i) hi (p ∷ ps) (omega arith) (omega arith) high ((omega (arith, other)), r1, rises.2) (λ j from to. same j (omega arith) to) in
      (λ t. cond (clear t == 1) (Mark w (k * 64 + i) ∷ []) [] ++ marks_from w k mask (suc i) n) ∙ rest)
]

pub marks_are : (w k lo hi : ℕ) (ps : List (ℕ × Owner)) → k * 64 ≤ lo → hi ≤ k * 64 + 64 → Rises lo hi ps → mark_events w k (mask_all ps) ≡ marks_by w ps
marks_are w k lo hi ps low high rises = low_then w k (mask_all ps) 0 64 ∙ named_marks w k (mask_all ps) 0 64 lo hi ps refl (omega arith) high rises (λ j from to. refl)

-- ---- the state after them

-- the bits of m written into word k of the second set, and the view v of the worker w
abbrev pub marked_state : State → ℕ → ℕ → ℕ → View → State
marked_state s w k m v = record { first = s.first; second = set s.second k (bit_or (get_or s.second k 0) m); cursor = s.cursor; views = set s.views w v }

pub after_marks : (w k lo hi : ℕ) (ps : List (ℕ × Owner)) (s : State) → w < length s.views → k < length s.second → k * 64 ≤ lo → hi ≤ k * 64 + 64 → Rises lo hi ps
    → after_all s (marks_by w ps) ≡ marked_state s w k (mask_all ps) (mark_all ps (view_of s w))
after_marks w k lo hi [] s worker word low high rises = λ i. record {
  first = s.first;
  second = sym (ap (set s.second k) (or_zero_r (get_or s.second k 0)) ∙ set-get_or s.second k 0) i;
  cursor = s.cursor;
  views = sym (set-get_or s.views w (nothing 0)) i;
}
after_marks w k lo hi (p ∷ ps) s worker word low high rises =
    let r0 = rises.0 in let r1 = rises.1 in
    let in_word : p.0 / 64 ≡ k = omega arith in
    let n : ℕ = get_or s.second k 0 in
    let v1 : View = with_mark (view_of s w) p.0 in
    let second1 : List ℕ = set s.second k (bit_or (get_or s.second k 0) (mask_of p.0)) in
    let one : after s (Mark w p.0) ≡ marked_state s w k (mask_of p.0) v1 = ap (λ (j : ℕ). marked_state s w j (mask_of p.0) (with_mark (view_of s w) p.0)) in_word in
    let rest = after_marks w k (p.0 + 1) hi ps (marked_state s w k (mask_of p.0) v1) (subst (λ (l : ℕ). w < l) (sym (length-set s.views w v1)) worker) (subst (λ (l : ℕ). k < l) (sym (length-set s.second k (bit_or (get_or s.second k 0) (mask_of p.0)))) word) (omega arith) high rises.2 in
    let now : get_or second1 k 0 ≡ bit_or n (mask_of p.0) = get_or-set_same s.second k (bit_or (get_or s.second k 0) (mask_of p.0)) 0 word in
    let here : get_or (set s.views w v1) w (nothing 0) ≡ v1 = get_or-set_same s.views w v1 (nothing 0) worker in
    let words : set second1 k (bit_or (get_or second1 k 0) (mask_all ps)) ≡ set s.second k (bit_or n (bit_or (mask_of p.0) (mask_all ps))) =
    set-set s.second k (bit_or n (mask_of p.0)) (bit_or (get_or second1 k 0) (mask_all ps)) ∙ ap (set s.second k) (ap (λ (x : ℕ). bit_or x (mask_all ps)) now ∙ or_assoc n (mask_of p.0) (mask_all ps)) in
    let views : set (set s.views w v1) w (mark_all ps (get_or (set s.views w v1) w (nothing 0))) ≡ set s.views w (mark_all ps v1) =
    set-set s.views w v1 (mark_all ps (get_or (set s.views w v1) w (nothing 0))) ∙ ap (set s.views w) (ap (mark_all ps) here) in
    ap (λ (x : State). after_all x (marks_by w ps)) one ∙ (rest ∙ (λ i. record { first = s.first; second = words i; cursor = s.cursor; views = views i }))

pub marks_allowed : (z : Sizes) (w : ℕ) (ps : List (ℕ × Owner)) (s : State) → w < length s.views → AreUnmarked ps (view_of s w) → all_allowed z s (marks_by w ps) ≡ true
marks_allowed z w [] s worker unmarked = refl
marks_allowed z w (p ∷ ps) s worker unmarked =
    let v1 : View = with_mark (view_of s w) p.0 in
    let a : ltb w (length s.views) ≡ true = grind (arith, worker) in
    let some = unmarked.0 in
    let b : ltb 0 (count_by (is_unmarked p.0) (view_of s w).records) ≡ true = grind (arith, some) in
    let here : view_of (after s (Mark w p.0)) w ≡ v1 = get_or-set_same s.views w v1 (nothing 0) worker in
    let rest = marks_allowed z w ps (after s (Mark w p.0)) (subst (λ (l : ℕ). w < l) (sym (length-set s.views w v1)) worker) (subst (AreUnmarked ps) (sym here) unmarked.1) in
    λ i. (a i && b i) && rest i
