-- A run of blocks within one word: its mask, its lost part, and the records that the two steps leave.
use Rattle.std.proofs.Common.{◌≡◌, ℕ, zero, suc, ◌+◌, ◌-◌, ◌*◌, ◌/◌, ◌%◌, ◌^◌, ◌<◌, ◌≤◌, cond, true, false, List, [], ◌∷◌, ◌++◌, sym, refl, ap, ◌∙◌, subst, ⊎_elim, arith, min, max}
use Rattle.std.specs.Prelude.{bit_or, bit_and, ◌==◌}
use Rattle.std.specs.Int.{bit_at}
use Rattle.std.specs.Int.Bits.{or_zero_r}
use Rattle.std.specs.List.{All, count_by}
use Rattle.std.proofs.lemmas.Bool.{cases_lt}
use Rattle.std.proofs.lemmas.List.{append_assoc}
use Rattle.std.proofs.lemmas.List.Sums.{sum_by-append, sum_by-cons}
use Rattle.std.proofs.lemmas.List.Elements.{All-push, All-head, All-tail}
use Rattle.std.proofs.lemmas.Nat.Bits.{bit_at_or, bit_at_and, bit_at-lt, and_pow, same_from_bits, bit_at-zero, bit_at-pow_same, bit_at-pow_other, bit_at_mask_inside, bit_at_mask_below, bit_at_mask_above, ones_shr}
use Rattle.std.proofs.lemmas.Nat.{le_or_l, pow_pos, pow-add}
use Rattle.std.proofs.Math.Pow.{pow_mono}
use mathlib.Core.Bool.{Bool, not, ◌&&◌}
use mathlib.Core.Logic.{dite}
use native.Mathlib.Decide.{ℕ_discrete}
use Rattle.nv_blockset.specs.BlockSet.{mask_of}
use Rattle.nv_super.specs.declared.owners.Owner.{Owner}
use Rattle.nv_super.specs.Owners.{raised, pairs}
use Rattle.nv_claimcore.proofs.Marks.{eq_same}
use Rattle.nv_claimcore.specs.declared.view.Record.{Record}
use Rattle.nv_claimcore.specs.declared.view.View.{View}
use Rattle.nv_claimcore.specs.Spans.{mask_all, claim_all, mark_all, is_free, claims_in, lost_in, settle, Rises, AreUnmarked}
use Rattle.nv_claimcore.specs.Claims.{claim_of, mark, mark_first, is_unmarked, Settled}
use Rattle.nv_claimcore.proofs.Spans.{or_assoc}
use Rattle.nv_claimcore.proofs.SpanSteps.{claim_all_adds}

mask_snoc : (ps : List (ℕ × Owner)) (p : ℕ × Owner) → mask_all (ps ++ p ∷ []) ≡ bit_or (mask_all ps) (mask_of p.0)
mask_snoc [] p = or_zero_r (mask_of p.0) ∙ (let e : mask_of p.0 ≡ bit_or 0 (mask_of p.0) = refl in e)
mask_snoc (q ∷ ps) p = ap (bit_or (mask_of q.0)) (mask_snoc ps p) ∙ sym (or_assoc (mask_of q.0) (mask_all ps) (mask_of p.0))

-- one bit more at the top of a run of ones
one_more : (s e : ℕ) → s ≤ e → bit_or (2 ^ e - 2 ^ s) (2 ^ e) ≡ 2 ^ (e + 1) - 2 ^ s
one_more s e l = same_from_bits (bit_or (2 ^ e - 2 ^ s) (2 ^ e)) (2 ^ (e + 1) - 2 ^ s) (λ i. bit_at_or (2 ^ e - 2 ^ s) (2 ^ e) i ∙ ⊎_elim
    (λ below. (let a = bit_at_mask_below s e i below in let b = bit_at_mask_below s (e + 1) i below in let c = bit_at-pow_other e i (λ x. omega arith) in omega arith))
    (λ from. ⊎_elim
    (λ inside. (let a = bit_at_mask_inside s e i from inside in let b = bit_at_mask_inside s (e + 1) i from (omega arith) in let c = bit_at-pow_other e i (λ x. omega arith) in omega arith))
    (λ past. dite (ℕ_discrete i e)
    (λ here. (let c : bit_at (2 ^ e) i ≡ 1 = ap (bit_at (2 ^ e)) here ∙ bit_at-pow_same e in let b = bit_at_mask_inside s (e + 1) i from (omega arith) in let a = bit_at_mask_above s e i past in omega arith))
    (λ other. (let a = bit_at_mask_above s e i past in let b = bit_at_mask_above s (e + 1) i (omega arith) in let c = bit_at-pow_other e i other in omega arith)))
    (cases_lt i e))
    (cases_lt i s))

-- the mask of a run is a run of ones
pub run_mask : (start : ℕ) (o : Owner) (n : ℕ) → start % 64 + n ≤ 64 → mask_all (pairs start o n) ≡ 2 ^ (start % 64 + n) - 2 ^ (start % 64)
run_mask start o zero l = (let e : start % 64 + 0 ≡ start % 64 = omega arith in let p : 2 ^ (start % 64 + 0) ≡ 2 ^ (start % 64) = ap (λ (k : ℕ). 2 ^ k) e in omega arith)
run_mask start o (suc n) l = let rest = run_mask start o n (omega arith) in let here : (start + n) % 64 ≡ start % 64 + n = omega arith in
    mask_snoc (pairs start o n) (start + n, raised o n) ∙ ((λ i. bit_or (rest i) (2 ^ here i)) ∙ (one_more (start % 64) (start % 64 + n) (omega arith) ∙ ap (λ (k : ℕ). 2 ^ k - 2 ^ (start % 64)) (omega arith)))

rises_snoc : (lo hi hi' : ℕ) (ps : List (ℕ × Owner)) (p : ℕ × Owner) → Rises lo hi ps → lo ≤ p.0 → hi ≤ p.0 → p.0 < hi' → Rises lo hi' (ps ++ p ∷ [])
rises_snoc lo hi hi' [] p r l h m = (l, m, tt)
rises_snoc lo hi hi' (q ∷ ps) p r l h m = let r0 = r.0 in let r1 = r.1 in (r.0, omega arith, rises_snoc (q.0 + 1) hi hi' ps p r.2 (omega arith) h m)

pub run_rises : (start : ℕ) (o : Owner) (n : ℕ) → Rises start (start + n) (pairs start o n)
run_rises start o zero = tt
run_rises start o (suc n) = rises_snoc start (start + n) (start + suc n) (pairs start o n) (start + n, raised o n) (run_rises start o n) (omega arith) (omega arith) (omega arith)

-- ---- the lost part

and_or : (n a b : ℕ) → bit_and n (bit_or a b) ≡ bit_or (bit_and n a) (bit_and n b)
and_or n a b = same_from_bits (bit_and n (bit_or a b)) (bit_or (bit_and n a) (bit_and n b)) (λ i. rw (bit_at_and n (bit_or a b) i, bit_at_or a b i, bit_at_or (bit_and n a) (bit_and n b) i, bit_at_and n a i, bit_at_and n b i) (spread (bit_at n i) (bit_at a i) (bit_at b i))) where
  spread : (x y z : ℕ) → min x (max y z) ≡ max (min x y) (min x z)
  spread x y z = omega arith

and_bit_clear : (n k : ℕ) → bit_at n k ≡ 0 → bit_and n (2 ^ k) ≡ 0
and_bit_clear n k e = and_pow n k ∙ (let c : bit_at n k * 2 ^ k ≡ 0 * 2 ^ k = ap (λ (x : ℕ). x * 2 ^ k) e in let d : 0 * 2 ^ k ≡ 0 = omega arith in c ∙ d)

and_bit_set : (n k : ℕ) → bit_at n k ≡ 1 → bit_and n (2 ^ k) ≡ 2 ^ k
and_bit_set n k e = and_pow n k ∙ (let c : bit_at n k * 2 ^ k ≡ 1 * 2 ^ k = ap (λ (x : ℕ). x * 2 ^ k) e in let d : 1 * 2 ^ k ≡ 2 ^ k = omega arith in c ∙ d)

pub lost_mask : (n : ℕ) (ps : List (ℕ × Owner)) → mask_all (lost_in n ps) ≡ bit_and n (mask_all ps)
lost_mask n [] = sym (and_zero n) where
  and_zero : (n : ℕ) → bit_and n 0 ≡ 0
  and_zero n = same_from_bits (bit_and n 0) 0 (λ i. bit_at_and n 0 i ∙ (let z = bit_at-zero i in omega arith))
lost_mask n (p ∷ ps) = go (bit_at n (p.0 % 64)) refl (bit_at-lt n (p.0 % 64)) (lost_mask n ps) where
  go : (x : ℕ) → bit_at n (p.0 % 64) ≡ x → bit_at n (p.0 % 64) < 2 → mask_all (lost_in n ps) ≡ bit_and n (mask_all ps) → mask_all (cond (x == 0) (lost_in n ps) (p ∷ lost_in n ps)) ≡ bit_and n (bit_or (mask_of p.0) (mask_all ps))
  go zero e l rest = rest ∙ sym (and_or n (mask_of p.0) (mask_all ps) ∙ ap (λ x. bit_or x (bit_and n (mask_all ps))) (and_bit_clear n (p.0 % 64) e))
  go (suc x) e l rest = let some : (suc x == 0) ≡ false = grind arith in let one : bit_at n (p.0 % 64) ≡ 1 = omega arith in
      ap (λ t. mask_all (cond t (lost_in n ps) (p ∷ lost_in n ps))) some ∙ (ap (bit_or (mask_of p.0)) rest ∙ sym (and_or n (mask_of p.0) (mask_all ps) ∙ ap (λ x. bit_or x (bit_and n (mask_all ps))) (and_bit_set n (p.0 % 64) one)))

-- ---- the records after both steps

closed : (w m t : Bool) → m ≡ not w → ((not w && not m) && t) ≡ false
closed true m t e = refl
closed false true t e = refl
closed false false t e = absurd (subst (λ (x : Bool). cond x (Unit {0}) ⊥) (sym e) tt)

-- behind settled records, an unmarked one of the block is the first
mark_behind : (b : ℕ) (xs : List Record) (r : Record) (ys : List Record) → All Settled xs → is_unmarked b r ≡ true → mark_first b (xs ++ r ∷ ys) ≡ xs ++ mark r ∷ ys
mark_behind b [] r ys all e = ap (λ t. cond t (mark r ∷ ys) (r ∷ mark_first b ys)) e
mark_behind b (x ∷ xs) r ys all e = ap (λ t. cond t (mark x ∷ (xs ++ r ∷ ys)) (x ∷ mark_first b (xs ++ r ∷ ys))) (closed x.won x.marked (x.block == b) (All-head Settled x xs all))
    ∙ ap (λ zs. x ∷ zs) (mark_behind b xs r ys (All-tail Settled x xs all) e)

with_records : View → List Record → View
with_records v rs = record { seats = v.seats; numbers = v.numbers; records = rs }

-- the unmarked records are marked one after the other
marked_records : (n : ℕ) (ps : List (ℕ × Owner)) (v : View) (xs : List Record) → All Settled xs → mark_all (lost_in n ps) (with_records v (xs ++ claims_in n ps)) ≡ with_records v (xs ++ settle n ps)
unfolding with_records
marked_records n [] v xs all = refl
marked_records n (p ∷ ps) v xs all = go (is_free n p) (λ r settled. marked_records n ps v (xs ++ r ∷ []) (All-push Settled xs r all settled)) where
  go : (t : Bool) → ((r : Record) → Settled r → mark_all (lost_in n ps) (with_records v ((xs ++ r ∷ []) ++ claims_in n ps)) ≡ with_records v ((xs ++ r ∷ []) ++ settle n ps))
      → mark_all (cond t (lost_in n ps) (p ∷ lost_in n ps)) (with_records v (xs ++ claim_of p.0 p.1 t ∷ claims_in n ps)) ≡ with_records v (xs ++ record { block = p.0; owner = p.1; won = t; marked = not t } ∷ settle n ps)
  go true again = ap (λ rs. mark_all (lost_in n ps) (with_records v rs)) (sym (append_assoc xs (claim_of p.0 p.1 true ∷ []) (claims_in n ps))) ∙ (again (claim_of p.0 p.1 true) refl ∙ ap (with_records v) (append_assoc xs (claim_of p.0 p.1 true ∷ []) (settle n ps)))
  go false again = ap (λ rs. mark_all (lost_in n ps) (with_records v rs)) (mark_behind p.0 xs (claim_of p.0 p.1 false) (claims_in n ps) all (eq_same p.0) ∙ sym (append_assoc xs (mark (claim_of p.0 p.1 false) ∷ []) (claims_in n ps)))
      ∙ (again (mark (claim_of p.0 p.1 false)) refl ∙ ap (with_records v) (append_assoc xs (mark (claim_of p.0 p.1 false) ∷ []) (settle n ps)))

-- a claim of the blocks, and then a mark of the lost ones, adds the settled records
pub both_steps : (n : ℕ) (ps : List (ℕ × Owner)) (v : View) → All Settled v.records → mark_all (lost_in n ps) (claim_all n ps v) ≡ record { seats = v.seats; numbers = v.numbers; records = v.records ++ settle n ps }
unfolding with_records
both_steps n ps v all = ap (mark_all (lost_in n ps)) (claim_all_adds n ps v) ∙ marked_records n ps v v.records all

unmarked_lost : (n : ℕ) (ps : List (ℕ × Owner)) (v : View) (xs : List Record) → All Settled xs → AreUnmarked (lost_in n ps) (with_records v (xs ++ claims_in n ps))
unfolding with_records
unmarked_lost n [] v xs all = tt
unmarked_lost n (p ∷ ps) v xs all = go (is_free n p) (λ r settled. unmarked_lost n ps v (xs ++ r ∷ []) (All-push Settled xs r all settled)) where
  go : (t : Bool) → ((r : Record) → Settled r → AreUnmarked (lost_in n ps) (with_records v ((xs ++ r ∷ []) ++ claims_in n ps))) → AreUnmarked (cond t (lost_in n ps) (p ∷ lost_in n ps)) (with_records v (xs ++ claim_of p.0 p.1 t ∷ claims_in n ps))
  go true again = subst (λ rs. AreUnmarked (lost_in n ps) (with_records v rs)) (append_assoc xs (claim_of p.0 p.1 true ∷ []) (claims_in n ps)) (again (claim_of p.0 p.1 true) refl)
  go false again = (
    (let cut : count_by (is_unmarked p.0) (xs ++ claim_of p.0 p.1 false ∷ claims_in n ps) ≡ count_by (is_unmarked p.0) xs + count_by (is_unmarked p.0) (claim_of p.0 p.1 false ∷ claims_in n ps) = sum_by-append (λ r. cond (is_unmarked p.0 r) 1 0) xs (claim_of p.0 p.1 false ∷ claims_in n ps) in
        let one = sum_by-cons (λ r. cond (is_unmarked p.0 r) 1 0) (claim_of p.0 p.1 false) (claims_in n ps) in let hit : ◌≡◌ {A = ℕ} (cond (is_unmarked p.0 (claim_of p.0 p.1 false)) 1 0) 1 = ap (λ t. cond t 1 0) (eq_same p.0) in omega arith),
    subst (λ rs. AreUnmarked (lost_in n ps) (with_records v rs)) (sym (mark_behind p.0 xs (claim_of p.0 p.1 false) (claims_in n ps) all (eq_same p.0) ∙ sym (append_assoc xs (mark (claim_of p.0 p.1 false) ∷ []) (claims_in n ps))))
        (again (mark (claim_of p.0 p.1 false)) refl),
  )

-- each lost claim can be marked
pub lost_unmarked : (n : ℕ) (ps : List (ℕ × Owner)) (v : View) → All Settled v.records → AreUnmarked (lost_in n ps) (claim_all n ps v)
unfolding with_records
lost_unmarked n ps v all = subst (AreUnmarked (lost_in n ps)) (sym (claim_all_adds n ps v)) (unmarked_lost n ps v v.records all)

pub lost_rises : (n lo hi : ℕ) (ps : List (ℕ × Owner)) → Rises lo hi ps → Rises lo hi (lost_in n ps)
lost_rises n lo hi [] r = tt
lost_rises n lo hi (p ∷ ps) r = go (is_free n p) (lost_rises n (p.0 + 1) hi ps r.2) where
  wider : (qs : List (ℕ × Owner)) → Rises (p.0 + 1) hi qs → Rises lo hi qs
  wider [] w = tt
  wider (q ∷ qs) w = let a = w.0 in let b = r.0 in (omega arith, w.1, w.2)

  go : (t : Bool) → Rises (p.0 + 1) hi (lost_in n ps) → Rises lo hi (cond t (lost_in n ps) (p ∷ lost_in n ps))
  go true rest = wider (lost_in n ps) rest
  go false rest = (r.0, r.1, rest)

pub none_lost : (qs : List (ℕ × Owner)) → mask_all qs ≡ 0 → qs ≡ []
none_lost [] e = refl
none_lost (q ∷ qs) e = let l = le_or_l (mask_of q.0) (mask_all qs) in let p = pow_pos (q.0 % 64) in absurd (omega arith)

less_one : (x y : ℕ) → 0 < x → (x - 1) * y ≡ x * y - y
less_one zero y l = absurd (omega arith)
less_one (suc x) y l = let e : suc x - 1 ≡ x = omega arith in let p : suc x * y ≡ x * y + y = grind arith in ap (λ (k : ℕ). k * y) e ∙ (let a : ℕ = x * y in let b : ℕ = suc x * y in let q : b ≡ a + y = p in let r : a ≡ b - y = omega arith in r)

-- what `(u64::MAX >> (64 - count)) << low` computes
pub run_bits : (low count : ℕ) → low + count ≤ 64 → (2 ^ 64 - 1) / 2 ^ (64 - count) * 2 ^ low % 2 ^ 64 ≡ 2 ^ (low + count) - 2 ^ low
run_bits low count l =
    let back : 64 - (64 - count) ≡ count = omega arith in
    let one : (2 ^ 64 - 1) / 2 ^ (64 - count) ≡ 2 ^ count - 1 = ones_shr 64 (64 - count) (omega arith) ∙ ap (λ (k : ℕ). 2 ^ k - 1) back in
    let product : (2 ^ count - 1) * 2 ^ low ≡ 2 ^ (low + count) - 2 ^ low = less_one (2 ^ count) (2 ^ low) (pow_pos count) ∙ ap (λ (x : ℕ). x - 2 ^ low) (sym (pow-add 2 count low) ∙ ap (λ (k : ℕ). 2 ^ k) (let d : count + low ≡ low + count = omega arith in d)) in
    let most : 2 ^ (low + count) ≤ 2 ^ 64 = pow_mono l in
    let some = pow_pos low in
    ap (λ (x : ℕ). x * 2 ^ low % 2 ^ 64) one ∙ (ap (λ (x : ℕ). x % 2 ^ 64) product ∙ small (2 ^ (low + count)) (2 ^ low) most some) where
      small : (a b : ℕ) → a ≤ 2 ^ 64 → 0 < b → (a - b) % 2 ^ 64 ≡ a - b
      small a b l m = omega arith
