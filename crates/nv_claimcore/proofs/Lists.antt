-- Every list of allowed events leaves a legal state.
use Rattle.std.proofs.Common.{◌≡◌, ℕ, zero, suc, ◌+◌, ◌<◌, ◌≤◌, ◌≢◌, ◌/◌, ◌%◌, cond, true, false, List, [], ◌∷◌, ◌++◌, length, get_or, set, replicate, sym, refl, ap, ◌∙◌, subst, ⊎_elim, arith, min, ltb}
use Rattle.std.specs.Prelude.{◌==◌}
use Rattle.std.specs.Int.{bit_at}
use Rattle.std.specs.List.{sum_by, count_by}
use Rattle.std.proofs.lemmas.List.Sums.{sum_by-cons}
use Rattle.std.proofs.lemmas.List.{length-replicate, get_or_past}
use Rattle.std.proofs.lemmas.Nat.Bits.{bit_at-zero}
use Rattle.std.proofs.lemmas.Bool.{cases_lt, false≢true}
use Rattle.std.proofs.Math.Bool.{and_assoc, and-true}
use mathlib.Core.Bool.{Bool, not, ◌&&◌}
use mathlib.Core.Option.{some, some-injective, some-ne-none}
use lib.ListN.{get_elem?}
use Rattle.nv_blockset.specs.BlockSet.{has, words_for}
use Rattle.nv_blockset.proofs.Sets.{has_none}
use Rattle.nv_claimcore.specs.declared.view.Sizes.{Sizes}
use Rattle.nv_claimcore.specs.declared.view.Record.{Record}
use Rattle.nv_claimcore.specs.declared.view.View.{View}
use Rattle.nv_claimcore.specs.declared.event.Event.{Event}
use Rattle.nv_claimcore.specs.declared.event.Event.TheVariants.{Draw, Claim, Mark}
use Rattle.nv_claimcore.specs.Claims.{State, Sound, Legal, past, times, won, lost, marked, is_lost, is_unmarked, nothing, with_number, with_record, with_mark, claim_of}
use Rattle.nv_claimcore.specs.Events.{view_of, start, is_allowed, after, all_allowed, after_all}
use Rattle.nv_claimcore.proofs.Counting.{at_set, sum_part, sum_le}
use Rattle.nv_claimcore.proofs.Keeps.{draw_keeps, claim_keeps, mark_keeps}

-- each view has one seat
Ones : State → Type 0
Ones s = (k : ℕ) (v : View) → get_elem? s.views k ≡ some v → v.seats ≡ 1

pub at_view : {A : Type 0} (l : List A) (i : ℕ) (d : A) → i < length l → get_elem? l i ≡ some (get_or l i d)
at_view [] i d l = absurd (omega arith)
at_view (x ∷ xs) zero d l = refl
at_view (x ∷ xs) (suc i) d l = at_view xs i d (omega arith)

pub and_left : (a b : Bool) → (a && b) ≡ true → a ≡ true
and_left true b e = refl
and_left false b e = e

pub and_right : (a b : Bool) → (a && b) ≡ true → b ≡ true
and_right true b e = e
and_right false b e = absurd (false≢true e)

pub is_less : (a b : ℕ) → ltb a b ≡ true → a < b
is_less a b e = ⊎_elim (λ l. l) (λ l. let no : ltb a b ≡ false = grind (arith, l) in absurd (false≢true (sym no ∙ e))) (cases_lt a b)

is_zero : (a : ℕ) → (a == 0) ≡ true → a ≡ 0
is_zero a e = grind (arith, e)

-- an unmarked record is a lost one, so its block lies in the words
unmarked_lost : (b : ℕ) (rs : List Record) → count_by (is_unmarked b) rs ≤ count_by (is_lost b) rs
unmarked_lost b [] = omega arith
unmarked_lost b (r ∷ rs) = let rest = unmarked_lost b rs in let x = sum_by-cons (λ q. cond (is_unmarked b q) 1 0) r rs in let y = sum_by-cons (λ q. cond (is_lost b q) 1 0) r rs in let one = one_unmarked r.won r.marked (r.block == b) in omega arith where
  one_unmarked : (w m t : Bool) → cond ((not w && not m) && t) 1 0 ≤ cond (not w && t) 1 0
  one_unmarked true m t = omega arith
  one_unmarked false true t = omega arith
  one_unmarked false false t = omega arith

module _ (z : Sizes) where
  mark_word : (s : State) → Legal z s → (w b : ℕ) (v : View) → get_elem? s.views w ≡ some v → 0 < count_by (is_unmarked b) v.records → b / 64 < words_for z.blocks
  mark_word s legal w b v at some_unmarked = ⊎_elim (λ l. l) (λ l.
      let out : has s.first b ≡ 0 = ap (λ x. bit_at x (b % 64)) (get_or_past s.first (b / 64) 0 (rw legal.first_words l)) ∙ bit_at-zero (b % 64) in
      let none = legal.lost b out in let part = sum_part (lost b) s.views w v at in let fewer = unmarked_lost b v.records in absurd (omega arith)) (cases_lt (b / 64) (words_for z.blocks))

  ones_still : (s : State) → Ones s → (w : ℕ) (v : View) → v.seats ≡ 1 → (k : ℕ) (u : View) → get_elem? (set s.views w v) k ≡ some u → u.seats ≡ 1
  unfolding Ones
  ones_still s ones w v one k u e = ⊎_elim (λ (t : (k ≡ w) × (v ≡ u)). subst (λ (x : View). x.seats ≡ 1) t.1 one) (λ (t : (k ≢ w) × (get_elem? s.views k ≡ some u)). ones k u t.1) (at_set s.views w k v u e)

  step_keeps : (s : State) (e : Event) → Legal z s → Ones s → is_allowed z s e ≡ true → Legal z (after s e) × Ones (after s e)
  unfolding Ones
  step_keeps s (Draw w) legal ones ok = let here = is_less w (length s.views) (and_left (ltb w (length s.views)) (past z.tickets (view_of s w).numbers == 0) ok) in let at = at_view s.views w (nothing 0) here in let one = ones w (view_of s w) at in
      let none = is_zero (past z.tickets (view_of s w).numbers) (and_right (ltb w (length s.views)) (past z.tickets (view_of s w).numbers == 0) ok) in
      (draw_keeps z s legal w (view_of s w) at (omega arith), ones_still s ones w (with_number (view_of s w) s.cursor) one)
  step_keeps s (Claim w b o) legal ones ok = let here = is_less w (length s.views) (and_left (ltb w (length s.views)) (ltb b z.blocks) ok) in let at = at_view s.views w (nothing 0) here in let one = ones w (view_of s w) at in
      let inside = is_less b z.blocks (and_right (ltb w (length s.views)) (ltb b z.blocks) ok) in
      (claim_keeps z s legal w (view_of s w) at b o inside (omega arith), ones_still s ones w (with_record (view_of s w) (claim_of b o (has s.first b == 0))) one)
  step_keeps s (Mark w b) legal ones ok = let here = is_less w (length s.views) (and_left (ltb w (length s.views)) (ltb 0 (count_by (is_unmarked b) (view_of s w).records)) ok) in let at = at_view s.views w (nothing 0) here in let one = ones w (view_of s w) at in
      let some_unmarked = is_less 0 (count_by (is_unmarked b) (view_of s w).records) (and_right (ltb w (length s.views)) (ltb 0 (count_by (is_unmarked b) (view_of s w).records)) ok) in
      (mark_keeps z s legal w (view_of s w) at b (mark_word s legal w b (view_of s w) at some_unmarked) some_unmarked, ones_still s ones w (with_mark (view_of s w) b) one)

  all_keep : (es : List Event) (s : State) → Legal z s → Ones s → all_allowed z s es ≡ true → Legal z (after_all s es) × Ones (after_all s es)
  all_keep [] s legal ones ok = (legal, ones)
  all_keep (e ∷ es) s legal ones ok = let one = step_keeps s e legal ones (and_left (is_allowed z s e) (all_allowed z (after s e) es) ok) in
      all_keep es (after s e) one.0 one.1 (and_right (is_allowed z s e) (all_allowed z (after s e) es) ok)

same_sums : (f : View → ℕ) (n : ℕ) → f (nothing 1) ≡ 0 → sum_by f (replicate n (nothing 1)) ≡ 0
same_sums f zero e = refl
same_sums f (suc n) e = let rest = same_sums f n e in let all = sum_by-cons f (nothing 1) (replicate n (nothing 1)) in omega arith

one_sums : (n : ℕ) → sum_by (λ (v : View). v.seats) (replicate n (nothing 1)) ≡ n
one_sums zero = refl
one_sums (suc n) = let rest = one_sums n in let all = sum_by-cons (λ (v : View). v.seats) (nothing 1) (replicate n (nothing 1)) in omega arith

one_of : (n k : ℕ) (v : View) → get_elem? (replicate n (nothing 1)) k ≡ some v → nothing 1 ≡ v
one_of zero k v e = absurd (some-ne-none v (sym e))
one_of (suc n) zero v e = some-injective (nothing 1) v e
one_of (suc n) (suc k) v e = one_of n k v e

start_legal : (z : Sizes) → Legal z (start z)
start_legal z = record {
  seats = one_sums z.workers;
  each = λ k v e. subst (Sound z.tickets) (one_of z.workers k v e) record { ends = omega arith; idle = λ _. (refl, refl) };
  ends = same_sums (λ (v : View). past z.tickets v.numbers) z.workers refl ∙ omega arith;
  numbers = λ x. same_sums (λ (v : View). times x v.numbers) z.workers refl ∙ omega arith;
  first = λ b. same_sums (won b) z.workers refl ∙ sym (has_none (words_for z.blocks) b);
  lost = λ b _. same_sums (lost b) z.workers refl;
  second = λ b. has_none (words_for z.blocks) b ∙ ap (min 1) (sym (same_sums (marked b) z.workers refl));
  first_words = length-replicate (words_for z.blocks) 0;
  second_words = length-replicate (words_for z.blocks) 0;
}

start_ones : (z : Sizes) → Ones (start z)
unfolding Ones
start_ones z k v e = ap (λ (u : View). u.seats) (sym (one_of z.workers k v e))

-- after every list of allowed events the state is legal
pub every_list : (z : Sizes) (es : List Event) → all_allowed z (start z) es ≡ true → Legal z (after_all (start z) es)
every_list z es ok = (all_keep z es (start z) (start_legal z) (start_ones z) ok).0

-- and each view has one seat
pub every_seat : (z : Sizes) (es : List Event) → all_allowed z (start z) es ≡ true → (k : ℕ) (v : View) → get_elem? (after_all (start z) es).views k ≡ some v → v.seats ≡ 1
unfolding Ones
every_seat z es ok = (all_keep z es (start z) (start_legal z) (start_ones z) ok).1

-- where an allowed mark writes
pub mark_place : (z : Sizes) (s : State) → Legal z s → (w b : ℕ) → is_allowed z s (Mark w b) ≡ true → (w < length s.views) × (b / 64 < length s.second)
mark_place z s legal w b ok = let here = is_less w (length s.views) (and_left (ltb w (length s.views)) (ltb 0 (count_by (is_unmarked b) (view_of s w).records)) ok) in let at = at_view s.views w (nothing 0) here in
    let some_unmarked = is_less 0 (count_by (is_unmarked b) (view_of s w).records) (and_right (ltb w (length s.views)) (ltb 0 (count_by (is_unmarked b) (view_of s w).records)) ok) in
    (here, rw legal.second_words (mark_word z s legal w b (view_of s w) at some_unmarked))

-- one event more
pub allowed_more : (z : Sizes) (s : State) (es : List Event) (e : Event) → all_allowed z s (es ++ e ∷ []) ≡ (all_allowed z s es && is_allowed z (after_all s es) e)
allowed_more z s [] e = and-true (is_allowed z s e)
allowed_more z s (d ∷ es) e = ap (λ t. is_allowed z s d && t) (allowed_more z (after s d) es e) ∙ sym (and_assoc (is_allowed z s d) (all_allowed z (after s d) es) (is_allowed z (after_all (after s d) es) e))

pub after_more : (s : State) (es : List Event) (e : Event) → after_all s (es ++ e ∷ []) ≡ after (after_all s es) e
after_more s [] e = refl
after_more s (d ∷ es) e = after_more (after s d) es e

-- the cursor is at most tickets plus workers
pub cursor_bound : (z : Sizes) (s : State) → Legal z s → s.cursor ≤ z.tickets + z.workers
cursor_bound z s legal = let le = sum_le (λ (v : View). past z.tickets v.numbers) (λ (v : View). v.seats) s.views (λ i v e. (legal.each i v e).ends) in let ends = legal.ends in let seats = legal.seats in omega arith

-- each event raises the cursor by one at most
pub cursor_most : (es : List Event) (s : State) → (after_all s es).cursor ≤ s.cursor + length es
cursor_most [] s = omega arith
cursor_most (Draw w ∷ es) s = let rest = cursor_most es (after s (Draw w)) in omega arith
cursor_most (Claim w b o ∷ es) s = let rest = cursor_most es (after s (Claim w b o)) in omega arith
cursor_most (Mark w b ∷ es) s = let rest = cursor_most es (after s (Mark w b)) in omega arith
