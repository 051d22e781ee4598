-- Claims of blocks of one word, one after the other, as one write of the word.
use Rattle.std.proofs.Common.{◌≡◌, ℕ, zero, suc, ◌+◌, ◌-◌, ◌*◌, ◌^◌, ◌/◌, ◌%◌, ◌<◌, ◌≤◌, ltb, true, false, List, [], ◌∷◌, ◌++◌, length, get_or, set, sym, refl, ap, ◌∙◌, subst, arith, set-set, get_or-set_same, min}
use Rattle.std.specs.Prelude.{bit_or, bit_and, ◌==◌}
use Rattle.std.specs.Int.{bit_at}
use Rattle.std.specs.Int.Bits.{or_zero_r}
use Rattle.std.proofs.lemmas.List.{length-set, length-append, append-nil, append_assoc}
use Rattle.std.proofs.lemmas.Nat.Bits.{bit_at_and, bit_at-lt, bit_at_mask_inside, bit_at_mask_below, bit_at_mask_above}
use Rattle.std.proofs.lemmas.Bool.{false≢true}
use mathlib.Core.List.{map-append}
use mathlib.Core.Bool.{◌&&◌}
use lib.Seq.{set-get_or}
use Rattle.nv_blockset.specs.BlockSet.{mask_of}
use Rattle.nv_super.specs.declared.owners.Owner.{Owner}
use Rattle.nv_super.specs.declared.owners.Run.{Run}
use Rattle.nv_super.specs.Owners.{raised, pairs}
use Rattle.nv_claimcore.specs.declared.view.Sizes.{Sizes}
use Rattle.nv_claimcore.specs.declared.view.Record.{Record}
use Rattle.nv_claimcore.specs.declared.view.View.{View}
use Rattle.nv_claimcore.specs.declared.event.Event.TheVariants.{Claim}
use Rattle.nv_claimcore.specs.declared.refusal.CoreRefusal.TheVariants.{NotAllowed}
use Rattle.nv_claimcore.specs.Claims.{State, nothing, claim_of, with_record}
use Rattle.nv_claimcore.specs.Events.{view_of, after, all_allowed, after_all}
use Rattle.nv_claimcore.specs.Refused.{RefusesFrom}
use Rattle.nv_claimcore.specs.Spans.{mask_all, claim_all, claims_in, is_free, Rises}
use Rattle.nv_claimcore.specs.SpanEvents.{claims_by, IsLost}
use Rattle.nv_claimcore.proofs.Spans.{or_assoc, same_wins}

-- ---- the records

pub claims_more : (n start : ℕ) (o : Owner) (j : ℕ) (old now : List Record) (r : Record) → now ≡ old ++ claims_in n (pairs start o j) → r ≡ claim_of (start + j) (raised o j) (bit_at n ((start + j) % 64) == 0) → now ++ r ∷ [] ≡ old ++ claims_in n (pairs start o (suc j))
claims_more n start o j old now r are is = (λ i. are i ++ is i ∷ []) ∙ (append_assoc old (claims_in n (pairs start o j)) (claim_of (start + j) (raised o j) (bit_at n ((start + j) % 64) == 0) ∷ [])
    ∙ ap (λ rs. old ++ rs) (sym (map-append (λ (p : ℕ × Owner). claim_of p.0 p.1 (is_free n p)) (pairs start o j) ((start + j, raised o j) ∷ []))))

pub claim_all_adds : (n : ℕ) (ps : List (ℕ × Owner)) (v : View) → claim_all n ps v ≡ record { seats = v.seats; numbers = v.numbers; records = v.records ++ claims_in n ps }
claim_all_adds n [] v = ap (λ rs. record { seats = v.seats; numbers = v.numbers; records = rs }) (sym (append-nil v.records))
claim_all_adds n (p ∷ ps) v = claim_all_adds n ps (with_record v (claim_of p.0 p.1 (is_free n p))) ∙ ap (λ rs. record { seats = v.seats; numbers = v.numbers; records = rs }) (append_assoc v.records (claim_of p.0 p.1 (is_free n p) ∷ []) (claims_in n ps))

-- ---- the state

-- the bits of m written into word k of the first set, and the view v of the worker w
abbrev pub written : State → ℕ → ℕ → ℕ → View → State
written s w k m v = record { first = set s.first k (bit_or (get_or s.first k 0) m); second = s.second; cursor = s.cursor; views = set s.views w v }

pub after_claims : (w k lo hi : ℕ) (ps : List (ℕ × Owner)) (s : State) → w < length s.views → k < length s.first → k * 64 ≤ lo → hi ≤ k * 64 + 64 → Rises lo hi ps
    → after_all s (claims_by w ps) ≡ written s w k (mask_all ps) (claim_all (get_or s.first k 0) ps (view_of s w))
after_claims w k lo hi [] s worker word low high rises = λ i. record {
  first = sym (ap (set s.first k) (or_zero_r (get_or s.first k 0)) ∙ set-get_or s.first k 0) i;
  second = s.second;
  cursor = s.cursor;
  views = sym (set-get_or s.views w (nothing 0)) i;
}
after_claims w k lo hi (p ∷ ps) s worker word low high rises =
    let r0 = rises.0 in let r1 = rises.1 in
    let in_word : p.0 / 64 ≡ k = omega arith in
    let n : ℕ = get_or s.first k 0 in
    let v1 : View = with_record (view_of s w) (claim_of p.0 p.1 (bit_at (get_or s.first k 0) (p.0 % 64) == 0)) in
    let first1 : List ℕ = set s.first k (bit_or (get_or s.first k 0) (mask_of p.0)) in
    let one : after s (Claim w p.0 p.1) ≡ written s w k (mask_of p.0) v1 = ap (λ (j : ℕ). written s w j (mask_of p.0) (with_record (view_of s w) (claim_of p.0 p.1 (bit_at (get_or s.first j 0) (p.0 % 64) == 0)))) in_word in
    let rest = after_claims w k (p.0 + 1) hi ps (written s w k (mask_of p.0) v1) (subst (λ (l : ℕ). w < l) (sym (length-set s.views w v1)) worker) (subst (λ (l : ℕ). k < l) (sym (length-set s.first k (bit_or (get_or s.first k 0) (mask_of p.0)))) word) (omega arith) high rises.2 in
    let now : get_or first1 k 0 ≡ bit_or n (mask_of p.0) = get_or-set_same s.first k (bit_or (get_or s.first k 0) (mask_of p.0)) 0 word in
    let here : get_or (set s.views w v1) w (nothing 0) ≡ v1 = get_or-set_same s.views w v1 (nothing 0) worker in
    let words : set first1 k (bit_or (get_or first1 k 0) (mask_all ps)) ≡ set s.first k (bit_or n (bit_or (mask_of p.0) (mask_all ps))) =
    set-set s.first k (bit_or n (mask_of p.0)) (bit_or (get_or first1 k 0) (mask_all ps)) ∙ ap (set s.first k) (ap (λ (x : ℕ). bit_or x (mask_all ps)) now ∙ or_assoc n (mask_of p.0) (mask_all ps)) in
    let views : set (set s.views w v1) w (claim_all (get_or first1 k 0) ps (get_or (set s.views w v1) w (nothing 0))) ≡ set s.views w (claim_all n ps v1) =
    set-set s.views w v1 (claim_all (get_or first1 k 0) ps (get_or (set s.views w v1) w (nothing 0))) ∙ ap (set s.views w) ((λ i. claim_all (now i) ps (here i)) ∙ same_wins n p.0 k (p.0 + 1) hi ps v1 in_word (omega arith) (omega arith) high rises.2) in
    ap (λ (x : State). after_all x (claims_by w ps)) one ∙ (rest ∙ (λ i. record { first = words i; second = s.second; cursor = s.cursor; views = views i }))

-- ---- what is allowed

is_below : (a b : ℕ) → a < b → ltb a b ≡ true
is_below a b l = grind (arith, l)

is_not_below : (a b : ℕ) → b ≤ a → ltb a b ≡ false
is_not_below a b l = grind (arith, l)

pub claims_allowed : (z : Sizes) (w lo hi : ℕ) (ps : List (ℕ × Owner)) (s : State) → w < length s.views → hi ≤ z.blocks → Rises lo hi ps → all_allowed z s (claims_by w ps) ≡ true
claims_allowed z w lo hi [] s worker inside rises = refl
claims_allowed z w lo hi (p ∷ ps) s worker inside rises =
    let r0 = rises.0 in let r1 = rises.1 in
    let a = is_below w (length s.views) worker in let b = is_below p.0 z.blocks (omega arith) in
    let rest = claims_allowed z w (p.0 + 1) hi ps (after s (Claim w p.0 p.1)) (subst (λ (l : ℕ). w < l) (sym (length-set s.views w (with_record (view_of s w) (claim_of p.0 p.1 (bit_at (get_or s.first (p.0 / 64) 0) (p.0 % 64) == 0))))) worker) inside rises.2 in
    λ i. (a i && b i) && rest i

-- a worker that there is not makes no claim
pub claims_refused : (z : Sizes) (w : ℕ) (ps : List (ℕ × Owner)) (s : State) → length s.views ≤ w → 0 < length ps → RefusesFrom z s (claims_by w ps) (NotAllowed 0)
claims_refused z w [] s none some = absurd (omega arith)
claims_refused z w (p ∷ ps) s none some = let a = is_not_below w (length s.views) none in (omega arith, refl, λ i. (a i && ltb p.0 z.blocks) && true)

pub pairs_long : (start : ℕ) (o : Owner) (n : ℕ) → length (pairs start o n) ≡ n
pairs_long start o zero = refl
pairs_long start o (suc n) = length-append (pairs start o n) ((start + n, raised o n) ∷ []) ∙ (let e = pairs_long start o n in omega arith)

pub not_none : (n : ℕ) → (n == 0) ≡ false → 0 < n
not_none zero e = absurd (false≢true (sym e))
not_none (suc n) e = omega arith

-- ---- the mask

least_one : (x y : ℕ) → x < 2 → y ≡ 1 → min x y ≡ x
least_one x y l e = omega arith

least_none : (x y : ℕ) → y ≡ 0 → min x y ≡ 0
least_none x y e = omega arith

pub lost_bits : (words : List ℕ) (run : Run) (found mask : ℕ) → run.start % 64 + run.count ≤ 64 → found ≡ get_or words (run.start / 64) 0 → mask ≡ 2 ^ (run.start % 64 + run.count) - 2 ^ (run.start % 64) → IsLost words run (bit_and found mask)
lost_bits words run found mask in_word is ones = record {
  inside = λ b from to. let place : b / 64 ≡ run.start / 64 = omega arith in let low : run.start % 64 ≤ b % 64 = omega arith in let high : b % 64 < run.start % 64 + run.count = omega arith in
      bit_at_and found mask (b % 64) ∙ (least_one (bit_at found (b % 64)) (bit_at mask (b % 64)) (bit_at-lt found (b % 64)) (ap (λ (m : ℕ). bit_at m (b % 64)) ones ∙ bit_at_mask_inside (run.start % 64) (run.start % 64 + run.count) (b % 64) low high)
      ∙ ap (λ (n : ℕ). bit_at n (b % 64)) (is ∙ ap (λ (k : ℕ). get_or words k 0) (sym place)));
  below = λ i l. bit_at_and found mask i ∙ least_none (bit_at found i) (bit_at mask i) (ap (λ (m : ℕ). bit_at m i) ones ∙ bit_at_mask_below (run.start % 64) (run.start % 64 + run.count) i l);
  above = λ i l. bit_at_and found mask i ∙ least_none (bit_at found i) (bit_at mask i) (ap (λ (m : ℕ). bit_at m i) ones ∙ bit_at_mask_above (run.start % 64) (run.start % 64 + run.count) i l);
}
