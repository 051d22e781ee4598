-- A row put in among others that rise by number.
use Rattle.std.proofs.Common.{◌≡◌, ◌≢◌, ℕ, zero, suc, ◌⊎◌, inl, inr, nat_eq, Bool, true, false, cond, List, [], ◌∷◌, ap, sym, subst, arith, Option, Some, None}
use Rattle.std.specs.List.{Contains, insert}
use Rattle.std.proofs.lemmas.Bool.Decides.{nat_tests}
use Rattle.nv_super.proofs.Rising.{Contains-cons, Contains-head, Contains-tail}
use Rattle.nv_super.proofs.Members.{none_in}
use Rattle.nv_scan.specs.declared.piece.Row.{Row}
use Rattle.nv_graph.specs.Read.{row_of}

-- each row is one of before or the new one
pub from_inserted : (rows : List Row) (k : ℕ) (x r : Row) → Contains (insert rows k x) r → Contains rows r ⊎ (r ≡ x)
from_inserted [] zero x r c = elim (Contains-cons x [] r c) [ inl e ↦ inr e | inr none ↦ absurd (none_in r none) ]
from_inserted [] (suc k) x r c = elim (Contains-cons x [] r c) [ inl e ↦ inr e | inr none ↦ absurd (none_in r none) ]
from_inserted (y ∷ rows) zero x r c = elim (Contains-cons x (y ∷ rows) r c) [ inl e ↦ inr e | inr old ↦ inl old ]
from_inserted (y ∷ rows) (suc k) x r c = elim (Contains-cons y (insert rows k x) r c) [
  | inl e ↦ inl (subst (λ (z : Row). Contains (y ∷ rows) z) (sym e) (Contains-head y rows))
  | inr rest ↦ elim (from_inserted rows k x r rest) [ inl old ↦ inl (Contains-tail y rows r old) | inr e ↦ inr e ]
]

-- each of before stays
pub stays_inserted : (rows : List Row) (k : ℕ) (x r : Row) → Contains rows r → Contains (insert rows k x) r
stays_inserted [] k x r c = absurd (none_in r c)
stays_inserted (y ∷ rows) zero x r c = Contains-tail x (y ∷ rows) r c
stays_inserted (y ∷ rows) (suc k) x r c = elim (Contains-cons y rows r c) [
  | inl e ↦ subst (λ (z : Row). Contains (y ∷ insert rows k x) z) (sym e) (Contains-head y (insert rows k x))
  | inr old ↦ Contains-tail y (insert rows k x) r (stays_inserted rows k x r old)
]

-- ---- rows by their numbers

-- the row of another number
pub row_of_inserted : (rows : List Row) (k : ℕ) (x : Row) (j : ℕ) → j ≢ x.inode → row_of (insert rows k x) j ≡ row_of rows j
row_of_inserted [] zero x j differs = let off : nat_eq x.inode j ≡ false = grind (arith, nat_tests) in ap (λ (b : Bool). cond b (Some x) None) off
row_of_inserted [] (suc k) x j differs = let off : nat_eq x.inode j ≡ false = grind (arith, nat_tests) in ap (λ (b : Bool). cond b (Some x) None) off
row_of_inserted (y ∷ rows) zero x j differs = let off : nat_eq x.inode j ≡ false = grind (arith, nat_tests) in ap (λ (b : Bool). cond b (Some x) (row_of (y ∷ rows) j)) off
row_of_inserted (y ∷ rows) (suc k) x j differs = ap (λ (o : Option Row). cond (nat_eq y.inode j) (Some y) o) (row_of_inserted rows k x j differs)

-- the row of its own, which no other had
pub row_of_own : (rows : List Row) (k : ℕ) (x : Row) → row_of rows x.inode ≡ None → row_of (insert rows k x) x.inode ≡ Some x
row_of_own [] zero x none = let on : nat_eq x.inode x.inode ≡ true = grind (arith, nat_tests) in ap (λ (b : Bool). cond b (Some x) None) on
row_of_own [] (suc k) x none = let on : nat_eq x.inode x.inode ≡ true = grind (arith, nat_tests) in ap (λ (b : Bool). cond b (Some x) None) on
row_of_own (y ∷ rows) zero x none = let on : nat_eq x.inode x.inode ≡ true = grind (arith, nat_tests) in ap (λ (b : Bool). cond b (Some x) (row_of (y ∷ rows) x.inode)) on
row_of_own (y ∷ rows) (suc k) x none = by (nat_eq y.inode x.inode) (row_of_own rows k x) none where
  by : (b : Bool) → (row_of rows x.inode ≡ None → row_of (insert rows k x) x.inode ≡ Some x) → cond b (Some y) (row_of rows x.inode) ≡ None → cond b (Some y) (row_of (insert rows k x) x.inode) ≡ Some x
  by true rest none = absurd (cc)
  by false rest none = rest none
