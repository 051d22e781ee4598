-- The two sets of a finished state.
use Rattle.std.proofs.Common.{◌≡◌, ℕ, zero, suc, ◌+◌, ◌-◌, ◌<◌, ◌≤◌, ◌/◌, ◌%◌, cond, true, false, List, [], ◌∷◌, ◌++◌, length, map, get_or, sym, refl, ap, ◌∙◌, arith, min}
use Rattle.std.specs.Prelude.{◌==◌}
use Rattle.std.specs.List.{sum_by, count_by}
use Rattle.std.proofs.lemmas.List.Sums.{sum_by-cons, sum_by-append}
use Rattle.std.proofs.lemmas.Nat.Bits.{bit_at-lt}
use mathlib.Core.Bool.{Bool, not, ◌&&◌}
use mathlib.Core.Option.{some}
use lib.ListN.{get_elem?}
use Rattle.nv_blockset.specs.BlockSet.{has}
use Rattle.nv_super.specs.declared.owners.Owner.{Owner}
use Rattle.nv_super.specs.Owners.{claims_of}
use Rattle.nv_claimcore.specs.declared.view.Sizes.{Sizes}
use Rattle.nv_claimcore.specs.declared.view.Record.{Record}
use Rattle.nv_claimcore.specs.declared.view.View.{View}
use Rattle.nv_claimcore.specs.Claims.{State, Legal, won, lost, marked, is_lost, is_marked, is_unmarked}
use Rattle.nv_claimcore.specs.Finished.{pair_of, Finished, pairs_at, pairs_of, works_of}
use Rattle.nv_claimcore.proofs.Counting.{sum_le}
use Rattle.nv_claimcore.proofs.Once.{sum_once, sum_places}
use Rattle.nv_claimcore.proofs.SamePairs.{same_sums_of_pairs}
use Rattle.nv_claimcore.proofs.Whole.{count_pairs}

sum_same : {A : Type 0} (f g : A → ℕ) (l : List A) → ((i : ℕ) (a : A) → get_elem? l i ≡ some a → f a ≡ g a) → sum_by f l ≡ sum_by g l
sum_same f g l same = let one = sum_le f g l (λ i a e. let h = same i a e in omega arith) in let two = sum_le g f l (λ i a e. let h = same i a e in omega arith) in omega arith

sum_add : {A : Type 0} (f g : A → ℕ) (l : List A) → sum_by (λ a. f a + g a) l ≡ sum_by f l + sum_by g l
sum_add f g [] = refl
sum_add f g (x ∷ xs) = let rest = sum_add f g xs in let a = sum_by-cons f x xs in let b = sum_by-cons g x xs in let c = sum_by-cons (λ y. f y + g y) x xs in omega arith

all_numbers : List View → List ℕ
all_numbers [] = []
all_numbers (v ∷ vs) = v.numbers ++ all_numbers vs

sum_numbers : (g : ℕ → ℕ) (vs : List View) → sum_by g (all_numbers vs) ≡ sum_by (λ (v : View). sum_by g v.numbers) vs
unfolding all_numbers
sum_numbers g [] = refl
sum_numbers g (v ∷ vs) = let rest = sum_numbers g vs in let cut = sum_by-append g v.numbers (all_numbers vs) in let all = sum_by-cons (λ (u : View). sum_by g u.numbers) v vs in omega arith

-- the claims of a block among the pairs of some tickets
claims_of_tickets : (b : ℕ) (work : List (List (ℕ × Owner))) (ts : List ℕ) → claims_of b (pairs_of work ts) ≡ sum_by (λ t. claims_of b (pairs_at work t)) ts
claims_of_tickets b work [] = refl
claims_of_tickets b work (t ∷ ts) = let rest = claims_of_tickets b work ts in let cut = sum_by-append (λ (p : ℕ × Owner). cond (p.0 == b) 1 0) (pairs_at work t) (pairs_of work ts) in let all = sum_by-cons (λ u. claims_of b (pairs_at work u)) t ts in omega arith

-- a lost record is marked or unmarked
lost_parts : (b : ℕ) (rs : List Record) → count_by (is_lost b) rs ≡ count_by (is_marked b) rs + count_by (is_unmarked b) rs
lost_parts b [] = refl
lost_parts b (r ∷ rs) = let rest = lost_parts b rs in let one = one_record r.won r.marked (r.block == b) in
    let x = sum_by-cons (λ q. cond (is_lost b q) 1 0) r rs in let y = sum_by-cons (λ q. cond (is_marked b q) 1 0) r rs in let w = sum_by-cons (λ q. cond (is_unmarked b q) 1 0) r rs in omega arith where
      one_record : (w m t : Bool) → ◌≡◌ {A = ℕ} (cond (not w && t) 1 0) (cond ((not w && m) && t) 1 0 + cond ((not w && not m) && t) 1 0)
      one_record true m t = refl
      one_record false true true = refl
      one_record false true false = refl
      one_record false false true = refl
      one_record false false false = refl

module _ (z : Sizes) (s : State) (legal : Legal z s) (work : List (List (ℕ × Owner))) (done : Finished s work) (b : ℕ) where
  -- a view's claims of a block are those of its tickets
  view_claims : (i : ℕ) (v : View) → get_elem? s.views i ≡ some v → won b v + lost b v ≡ sum_by (λ t. claims_of b (pairs_at work t)) v.numbers
  view_claims i v e = sym (count_pairs b v.records) ∙ (same_sums_of_pairs (λ p. cond (p.0 == b) 1 0) (map pair_of v.records) (pairs_of work v.numbers) (done.records i v e) ∙ claims_of_tickets b work v.numbers)

  -- the cursor is past all tickets
  all_drawn : length work ≤ s.cursor
  all_drawn = go (length work) refl where
    go : (n : ℕ) → n ≡ length work → n ≤ s.cursor
    go zero e = omega arith
    go (suc n) e = let some_view = done.drawn n (omega arith) in let numbers = legal.numbers n in omega arith

  -- the claims of a block, over all views, are those of the work
  all_claims : sum_by (won b) s.views + sum_by (lost b) s.views ≡ works_of b work
  all_claims = let g : ℕ → ℕ = λ t. claims_of b (pairs_at work t) in
      sym (sum_add (won b) (lost b) s.views)
      ∙ (sum_same (λ (v : View). won b v + lost b v) (λ (v : View). sum_by (λ t. claims_of b (pairs_at work t)) v.numbers) s.views view_claims
      ∙ (sym (sum_numbers (λ t. claims_of b (pairs_at work t)) s.views)
      ∙ (sum_once (λ t. claims_of b (pairs_at work t)) s.cursor (all_numbers s.views) (λ x. sum_numbers (λ y. cond (y == x) 1 0) s.views ∙ legal.numbers x)
      ∙ sum_places (claims_of b) work s.cursor refl all_drawn)))

  all_marked : sum_by (marked b) s.views ≡ sum_by (lost b) s.views
  all_marked = sum_same (marked b) (lost b) s.views (λ i v e. let both : marked b v ≡ lost b v = (let parts = lost_parts b v.records in let none = done.marked i v e b in omega arith) in both)

  pub finished_first : has s.first b ≡ min 1 (works_of b work)
  finished_first = let all = all_claims in let one = legal.first b in let bit = bit_at-lt (get_or s.first (b / 64) 0) (b % 64) in go (has s.first b) (sum_by (won b) s.views) (sum_by (lost b) s.views) (works_of b work) one bit all (legal.lost b) where
    go : (h x y n : ℕ) → x ≡ h → h < 2 → x + y ≡ n → (h ≡ 0 → y ≡ 0) → h ≡ min 1 n
    go zero x y n e l sum none = let none' = none refl in omega arith
    go (suc h) x y n e l sum none = omega arith

  pub finished_second : has s.second b ≡ min 1 (works_of b work - 1)
  finished_second = let all = all_claims in let one = legal.first b in let bit = bit_at-lt (get_or s.first (b / 64) 0) (b % 64) in
      go (has s.first b) (sum_by (won b) s.views) (sum_by (lost b) s.views) (works_of b work) (has s.second b) one bit all (legal.lost b) (legal.second b ∙ ap (min 1) all_marked) where
        go : (h x y n t : ℕ) → x ≡ h → h < 2 → x + y ≡ n → (h ≡ 0 → y ≡ 0) → t ≡ min 1 y → t ≡ min 1 (n - 1)
        go zero x y n t e l sum none m = let none' = none refl in omega arith
        go (suc h) x y n t e l sum none m = omega arith
