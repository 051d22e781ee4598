-- The row of a number, among rows that rise.
use Rattle.std.proofs.Common.{◌≡◌, ℕ, zero, suc, ◌<◌, nat_eq, true, false, List, [], ◌∷◌, slice_get, refl, sym, subst, arith, Some, None}
use Rattle.std.specs.List.{Contains}
use Rattle.std.proofs.lemmas.Bool.Decides.{nat_tests}
use Rattle.nv_super.specs.Order.{Rises}
use Rattle.nv_super.proofs.Rising.{head_least, tail_rises, Contains-head, Contains-tail}
use Rattle.nv_cross_check.specs.Cross.{row_key}
use Rattle.nv_scan.proofs.RowKeys.{key_less}
use Rattle.nv_scan.specs.declared.piece.Row.{Row}
use Rattle.nv_graph.specs.Read.{row_of}
use Rattle.nv_super.proofs.Members.{stands}

-- a row at a place is the row of its number
pub row_at : (rows : List Row) (k : ℕ) (r : Row) → Rises row_key rows → slice_get rows k ≡ Some r → row_of rows r.inode ≡ Some r
row_at [] k r up e = absurd (cc)
row_at (x ∷ rows) zero r up e =
    let same : x ≡ r = cc in
    let test : nat_eq r.inode r.inode ≡ true = grind (arith, nat_tests) in
    subst (λ (y : Row). row_of (y ∷ rows) r.inode ≡ Some r) (sym same) (rw test refl)
row_at (x ∷ rows) (suc k) r up e =
    let less : x.inode < r.inode = key_less x.inode r.inode (head_least row_key x rows up r (stands rows k r e)) in
    let test : nat_eq x.inode r.inode ≡ false = grind (arith, nat_tests) in
    rw test (row_at rows k r (tail_rises row_key x rows up) e)

-- a number that no row has has no row
pub no_row : (rows : List Row) (i : ℕ) → ((r : Row) → Contains rows r → r.inode ≡ i → ⊥) → row_of rows i ≡ None
no_row [] i none = refl
no_row (x ∷ rows) i none =
    let differs : x.inode ≡ i → ⊥ = none x (Contains-head x rows) in
    let test : nat_eq x.inode i ≡ false = grind (arith, nat_tests) in
    rw test (no_row rows i (λ r c. none r (Contains-tail x rows r c)))
