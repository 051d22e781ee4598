-- One step that is a list of events.
use Rattle.std.proofs.Common.{◌≡◌, ℕ, zero, suc, ◌+◌, ◌*◌, ◌/◌, ◌%◌, ◌<◌, ◌≤◌, ◌≢◌, List, [], ◌∷◌, length, get_or, set, sym, refl, ap, ◌∙◌, subst, arith, max, set-set, get_or-set_same}
use Rattle.std.specs.Prelude.{bit_or, ◌==◌}
use Rattle.std.specs.Int.{bit_at}
use Rattle.std.specs.Int.Bits.{or_zero_r}
use Rattle.std.proofs.lemmas.Nat.Bits.{bit_at_or, same_from_bits}
use mathlib.Core.Option.{some, some-injective, some-ne-none}
use lib.ListN.{get_elem?}
use lib.Seq.{set-get_or}
use Rattle.nv_blockset.specs.BlockSet.{mask_of}
use Rattle.nv_blockset.proofs.Sets.{or_other, word_inside}
use Rattle.nv_super.specs.declared.owners.Owner.{Owner}
use Rattle.nv_claimcore.specs.declared.view.Sizes.{Sizes}
use Rattle.nv_claimcore.specs.declared.view.View.{View}
use Rattle.nv_claimcore.specs.Claims.{State, Legal, claim_of, with_record, with_mark}
use Rattle.nv_claimcore.specs.Spans.{mask_all, claim_all, mark_all, Rises, AreUnmarked}
use Rattle.nv_claimcore.proofs.Keeps.{claim_keeps, mark_keeps}

max_assoc : (a b c : ℕ) → max (max a b) c ≡ max a (max b c)
max_assoc a b c = omega arith

pub or_assoc : (a b c : ℕ) → bit_or (bit_or a b) c ≡ bit_or a (bit_or b c)
or_assoc a b c = same_from_bits (bit_or (bit_or a b) c) (bit_or a (bit_or b c)) (λ i. rw (bit_at_or (bit_or a b) c i, bit_at_or a b i, bit_at_or a (bit_or b c) i, bit_at_or b c i) (max_assoc (bit_at a i) (bit_at b i) (bit_at c i)))

pub set_here : {A : Type 0} (l : List A) (i : ℕ) (a b : A) → get_elem? l i ≡ some b → get_elem? (set l i a) i ≡ some a
set_here [] i a b h = absurd (some-ne-none b (sym h))
set_here (x ∷ xs) zero a b h = refl
set_here (x ∷ xs) (suc i) a b h = set_here xs i a b h

pub set_again : {A : Type 0} (l : List A) (i : ℕ) (a : A) → get_elem? l i ≡ some a → set l i a ≡ l
set_again [] i a e = refl
set_again (x ∷ xs) zero a e = λ k. sym (some-injective x a e) k ∷ xs
set_again (x ∷ xs) (suc i) a e = λ k. x ∷ set_again xs i a e k

-- a block that was just claimed does not change what the others of its word win
pub same_wins : (n b k lo hi : ℕ) (ps : List (ℕ × Owner)) (v : View) → b / 64 ≡ k → b < lo → k * 64 ≤ b → hi ≤ k * 64 + 64 → Rises lo hi ps → claim_all (bit_or n (mask_of b)) ps v ≡ claim_all n ps v
same_wins n b k lo hi [] v in_word before low high rises = refl
same_wins n b k lo hi (p ∷ ps) v in_word before low high rises = let r0 = rises.0 in let r1 = rises.1 in let apart : p.0 % 64 ≢ b % 64 = λ e. omega arith in
    let bit : bit_at (bit_or n (mask_of b)) (p.0 % 64) ≡ bit_at n (p.0 % 64) = or_other n (b % 64) (p.0 % 64) apart in
    ap (λ (x : ℕ). claim_all (bit_or n (mask_of b)) ps (with_record v (claim_of p.0 p.1 (x == 0)))) bit
    ∙ same_wins n b k (p.0 + 1) hi ps (with_record v (claim_of p.0 p.1 (bit_at n (p.0 % 64) == 0))) in_word (omega arith) low high rises.2

pub claims_keep : (z : Sizes) (s : State) (legal : Legal z s) (w k lo hi : ℕ) (v : View) (ps : List (ℕ × Owner)) → get_elem? s.views w ≡ some v → 0 < v.seats → k * 64 ≤ lo → hi ≤ k * 64 + 64 → hi ≤ z.blocks → Rises lo hi ps
    → Legal z record { first = set s.first k (bit_or (get_or s.first k 0) (mask_all ps)); second = s.second; cursor = s.cursor; views = set s.views w (claim_all (get_or s.first k 0) ps v) }
claims_keep z s legal w k lo hi v [] at some_seat low high inside rises = subst (λ (x : List ℕ × List View). Legal z record { first = x.0; second = s.second; cursor = s.cursor; views = x.1 })
    (λ i. (sym (ap (set s.first k) (or_zero_r (get_or s.first k 0)) ∙ set-get_or s.first k 0) i, sym (set_again s.views w v at) i)) legal
claims_keep z s legal w k lo hi v (p ∷ ps) at some_seat low high inside rises =
    let r0 = rises.0 in let r1 = rises.1 in
    let in_word : p.0 / 64 ≡ k = omega arith in
    let n : ℕ = get_or s.first k 0 in
    let one = claim_keeps z s legal w v at p.0 p.1 (omega arith) some_seat in
    let v1 : View = with_record v (claim_of p.0 p.1 (bit_at (get_or s.first k 0) (p.0 % 64) == 0)) in
    let first1 : List ℕ = set s.first k (bit_or (get_or s.first k 0) (mask_of p.0)) in
    let one' : Legal z record { first = set s.first k (bit_or (get_or s.first k 0) (mask_of p.0)); second = s.second; cursor = s.cursor; views = set s.views w (with_record v (claim_of p.0 p.1 (bit_at (get_or s.first k 0) (p.0 % 64) == 0))) } =
    subst (λ (j : ℕ). Legal z record { first = set s.first j (bit_or (get_or s.first j 0) (mask_of p.0)); second = s.second; cursor = s.cursor; views = set s.views w (with_record v (claim_of p.0 p.1 (bit_at (get_or s.first j 0) (p.0 % 64) == 0))) }) in_word one in
    let k_inside : k < length s.first = subst (λ (j : ℕ). j < length s.first) in_word (rw legal.first_words (word_inside p.0 z.blocks (omega arith))) in
    let now : get_or (set s.first k (bit_or (get_or s.first k 0) (mask_of p.0))) k 0 ≡ bit_or (get_or s.first k 0) (mask_of p.0) = get_or-set_same s.first k (bit_or (get_or s.first k 0) (mask_of p.0)) 0 k_inside in
    let rest = claims_keep z record { first = set s.first k (bit_or (get_or s.first k 0) (mask_of p.0)); second = s.second; cursor = s.cursor; views = set s.views w v1 } one' w k (p.0 + 1) hi v1 ps (set_here s.views w v1 v at) some_seat (omega arith) high inside rises.2 in
    let words : set first1 k (bit_or (get_or first1 k 0) (mask_all ps)) ≡ set s.first k (bit_or n (bit_or (mask_of p.0) (mask_all ps))) =
    set-set s.first k (bit_or n (mask_of p.0)) (bit_or (get_or first1 k 0) (mask_all ps)) ∙ ap (set s.first k) (ap (λ (x : ℕ). bit_or x (mask_all ps)) now ∙ or_assoc n (mask_of p.0) (mask_all ps)) in
    let views : set (set s.views w v1) w (claim_all (get_or first1 k 0) ps v1) ≡ set s.views w (claim_all n ps v1) =
    set-set s.views w v1 (claim_all (get_or first1 k 0) ps v1) ∙ ap (set s.views w) (ap (λ (x : ℕ). claim_all x ps v1) now ∙ same_wins n p.0 k (p.0 + 1) hi ps v1 in_word (omega arith) (omega arith) high rises.2) in
    subst (λ (x : List ℕ × List View). Legal z record { first = x.0; second = s.second; cursor = s.cursor; views = x.1 }) (λ i. (words i, views i)) rest

pub marks_keep : (z : Sizes) (s : State) (legal : Legal z s) (w k lo hi : ℕ) (v : View) (ps : List (ℕ × Owner)) → get_elem? s.views w ≡ some v → k * 64 ≤ lo → hi ≤ k * 64 + 64 → hi ≤ z.blocks → Rises lo hi ps → AreUnmarked ps v
    → Legal z record { first = s.first; second = set s.second k (bit_or (get_or s.second k 0) (mask_all ps)); cursor = s.cursor; views = set s.views w (mark_all ps v) }
marks_keep z s legal w k lo hi v [] at low high inside rises unmarked = subst (λ (x : List ℕ × List View). Legal z record { first = s.first; second = x.0; cursor = s.cursor; views = x.1 })
    (λ i. (sym (ap (set s.second k) (or_zero_r (get_or s.second k 0)) ∙ set-get_or s.second k 0) i, sym (set_again s.views w v at) i)) legal
marks_keep z s legal w k lo hi v (p ∷ ps) at low high inside rises unmarked =
    let r0 = rises.0 in let r1 = rises.1 in
    let in_word : p.0 / 64 ≡ k = omega arith in
    let n : ℕ = get_or s.second k 0 in
    let v1 : View = with_mark v p.0 in
    let second1 : List ℕ = set s.second k (bit_or (get_or s.second k 0) (mask_of p.0)) in
    let one = mark_keeps z s legal w v at p.0 (word_inside p.0 z.blocks (omega arith)) unmarked.0 in
    let one' : Legal z record { first = s.first; second = set s.second k (bit_or (get_or s.second k 0) (mask_of p.0)); cursor = s.cursor; views = set s.views w (with_mark v p.0) } =
    subst (λ (j : ℕ). Legal z record { first = s.first; second = set s.second j (bit_or (get_or s.second j 0) (mask_of p.0)); cursor = s.cursor; views = set s.views w (with_mark v p.0) }) in_word one in
    let k_inside : k < length s.second = subst (λ (j : ℕ). j < length s.second) in_word (rw legal.second_words (word_inside p.0 z.blocks (omega arith))) in
    let now : get_or (set s.second k (bit_or (get_or s.second k 0) (mask_of p.0))) k 0 ≡ bit_or (get_or s.second k 0) (mask_of p.0) = get_or-set_same s.second k (bit_or (get_or s.second k 0) (mask_of p.0)) 0 k_inside in
    let rest = marks_keep z record { first = s.first; second = set s.second k (bit_or (get_or s.second k 0) (mask_of p.0)); cursor = s.cursor; views = set s.views w v1 } one' w k (p.0 + 1) hi v1 ps (set_here s.views w v1 v at) (omega arith) high inside rises.2 unmarked.1 in
    let words : set second1 k (bit_or (get_or second1 k 0) (mask_all ps)) ≡ set s.second k (bit_or n (bit_or (mask_of p.0) (mask_all ps))) =
    set-set s.second k (bit_or n (mask_of p.0)) (bit_or (get_or second1 k 0) (mask_all ps)) ∙ ap (set s.second k) (ap (λ (x : ℕ). bit_or x (mask_all ps)) now ∙ or_assoc n (mask_of p.0) (mask_all ps)) in
    subst (λ (x : List ℕ × List View). Legal z record { first = s.first; second = x.0; cursor = s.cursor; views = x.1 }) (λ i. (words i, set-set s.views w v1 (mark_all ps v1) i)) rest
