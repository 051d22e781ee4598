-- The two sets of claims, after one claim more.
use Rattle.std.proofs.Common.{◌≡◌, ℕ, ◌+◌, ◌/◌, ◌<◌, ◌≢◌, eqb, Bool, true, false, min, List, [], ◌∷◌, ◌++◌, length, cond, refl, ap, sym, ◌∙◌, arith, append_assoc, if◌then◌else◌}
use Rattle.std.proofs.lemmas.Bool.Decides.{nat_tests}
use Rattle.std.proofs.lemmas.List.Sums.{sum_by_push}
use mathlib.Core.Logic.{dite}
use native.Mathlib.Decide.{ℕ_discrete}
use Rattle.nv_blockset.specs.BlockSet.{has, is_set, with_block}
use Rattle.nv_blockset.proofs.Sets.{has_same, has_other, with_block_long}
use Rattle.nv_super.specs.declared.owners.Owner.{Owner}
use Rattle.nv_super.specs.Owners.{claims_of}
use Rattle.nv_outcome.specs.Parts.{AreMaps}
use Rattle.nv_recover.specs.Scanned.{second_after}

-- one claim more of its block
pub claims_here : (b : ℕ) (claims : List (ℕ × Owner)) (o : Owner) → claims_of b (claims ++ (b, o) ∷ []) ≡ claims_of b claims + 1
claims_here b claims o = let e : eqb b b ≡ true = grind (arith, nat_tests) in sum_by_push (λ (x : ℕ × Owner). cond (eqb x.0 b) 1 0) claims (b, o) ∙ ap (λ (t : Bool). claims_of b claims + cond t 1 0) e

-- and none of another
pub claims_elsewhere : (b c : ℕ) (claims : List (ℕ × Owner)) (o : Owner) → c ≢ b → claims_of c (claims ++ (b, o) ∷ []) ≡ claims_of c claims
claims_elsewhere b c claims o h =
    let e : eqb b c ≡ false = grind (arith, nat_tests) in
    let sum : claims_of c (claims ++ (b, o) ∷ []) ≡ claims_of c claims + 0 = sum_by_push (λ (x : ℕ × Owner). cond (eqb x.0 c) 1 0) claims (b, o) ∙ ap (λ (t : Bool). claims_of c claims + cond t 1 0) e in
    omega arith

module _ (claims : List (ℕ × Owner)) (first second : List ℕ) (maps : AreMaps claims first second) (b : ℕ) (o : Owner) (in_first : b / 64 < length first) (in_second : b / 64 < length second) where
  again : (t : Bool) → is_set first b ≡ t → has (if t then with_block second b else second) b ≡ min 1 (claims_of b claims)
  again true h = let was : has first b ≡ 1 = grind (arith, nat_tests) in let n = maps.once b in has_same second b in_second ∙ omega arith
  again false h = let was : has first b ≢ 1 = grind (arith, nat_tests) in let n = maps.once b in let m = maps.twice b in omega arith

  elsewhere : (c : ℕ) (t : Bool) → c ≢ b → has (if t then with_block second b else second) c ≡ has second c
  elsewhere c true h = has_other second b c in_second h
  elsewhere c false h = refl

  pub maps_more : AreMaps (claims ++ (b, o) ∷ []) (with_block first b) (second_after first second b)
  maps_more = record {
    once = λ c. dite (ℕ_discrete c b)
        (λ e. rw (e, claims_here b claims o, has_same first b in_first) (omega arith))
        (λ n. rw (claims_elsewhere b c claims o n, has_other first b c in_first n) (maps.once c));
    twice = λ c. dite (ℕ_discrete c b)
        (λ e. rw (e, claims_here b claims o) (again (is_set first b) refl ∙ omega arith))
        (λ n. rw (claims_elsewhere b c claims o n) (elsewhere c (is_set first b) n ∙ maps.twice c));
  }

pub second_after_long : (first second : List ℕ) (b : ℕ) → length (second_after first second b) ≡ length second
second_after_long first second b = at (is_set first b) where
  at : (t : Bool) → length (if t then with_block second b else second) ≡ length second
  at true = with_block_long second b
  at false = refl

-- one claim more, behind those before
pub maps_behind : (before claims next : List (ℕ × Owner)) (b : ℕ) (o : Owner) (first second next_first next_second : List ℕ) (m n : ℕ) → length first ≡ m → length second ≡ n → (b / 64 < m) × (b / 64 < n)
    → AreMaps (before ++ claims) first second → next_first ≡ with_block first b → next_second ≡ second_after first second b → next ≡ claims ++ (b, o) ∷ [] → AreMaps (before ++ next) next_first next_second
maps_behind before claims next b o first second next_first next_second m n long_first long_second here maps is_first is_second is_next =
    let more = maps_more (before ++ claims) first second maps b o (omega (arith, here.0)) (omega (arith, here.1)) in
    rw (is_next, sym (append_assoc before claims ((b, o) ∷ [])), is_first, is_second) more

-- more claims behind those before, and others behind them
pub maps_on : (before claims more next : List (ℕ × Owner)) {first second : List ℕ} → next ≡ claims ++ more → AreMaps ((before ++ claims) ++ more) first second → AreMaps (before ++ next) first second
maps_on before claims more next is maps = rw (is, sym (append_assoc before claims more)) maps
