-- A row taken out of others that rise by number.
use Rattle.std.proofs.Common.{◌≡◌, ◌≢◌, ℕ, zero, suc, ◌<◌, inl, inr, nat_eq, Bool, false, cond, List, [], ◌∷◌, remove, slice_get, ap, sym, ◌∙◌, subst, arith, Option, Some, None}
use Rattle.std.specs.List.{Contains}
use Rattle.std.proofs.lemmas.Bool.Decides.{nat_tests}
use Rattle.nv_super.specs.Order.{Rises}
use Rattle.nv_super.proofs.Rising.{Contains-cons, Contains-head, Contains-tail, head_least, rises_cons, tail_rises}
use Rattle.nv_scan.specs.declared.piece.Row.{Row}
use Rattle.nv_cross_check.specs.Cross.{row_key}
use Rattle.nv_scan.proofs.RowKeys.{key_less}
use Rattle.nv_graph.specs.Read.{row_of}
use Rattle.nv_super.proofs.Members.{stands}
use Rattle.nv_steps.proofs.RowOf.{no_row}

-- each row that is left was there
pub was_there : (rows : List Row) (k : ℕ) (r : Row) → Contains (remove rows k) r → Contains rows r
was_there [] zero r c = c
was_there [] (suc k) r c = c
was_there (x ∷ rows) zero r c = Contains-tail x rows r c
was_there (x ∷ rows) (suc k) r c = elim (Contains-cons x (remove rows k) r c) [
  | inl e ↦ subst (λ (z : Row). Contains (x ∷ rows) z) (sym e) (Contains-head x rows)
  | inr rest ↦ Contains-tail x rows r (was_there rows k r rest)
]

-- and has another number
pub another : (rows : List Row) (k : ℕ) (gone r : Row) → Rises row_key rows → slice_get rows k ≡ Some gone → Contains (remove rows k) r → r.inode ≢ gone.inode
another [] k gone r up at c = absurd (cc)
another (x ∷ rows) zero gone r up at c =
    let same : x ≡ gone = cc in
    let less : x.inode < r.inode = key_less x.inode r.inode (head_least row_key x rows up r c) in
    let number : x.inode ≡ gone.inode = ap (λ (z : Row). z.inode) same in
    λ e. omega (arith, less, number, e)
another (x ∷ rows) (suc k) gone r up at c = elim (Contains-cons x (remove rows k) r c) [
  | inl e ↦ (
      let less : x.inode < gone.inode = key_less x.inode gone.inode (head_least row_key x rows up gone (stands rows k gone at)) in
      let number : r.inode ≡ x.inode = ap (λ (z : Row). z.inode) e in
      λ same. omega (arith, less, number, same))
  | inr rest ↦ another rows k gone r (tail_rises row_key x rows up) at rest
]

-- each of another number stays
pub stays_there : (rows : List Row) (k : ℕ) (gone r : Row) → slice_get rows k ≡ Some gone → Contains rows r → r.inode ≢ gone.inode → Contains (remove rows k) r
stays_there [] k gone r at c other = absurd (cc)
stays_there (x ∷ rows) zero gone r at c other = elim (Contains-cons x rows r c) [
  | inl e ↦ absurd (let same : x ≡ gone = cc in other (ap (λ (z : Row). z.inode) (e ∙ same)))
  | inr rest ↦ rest
]
stays_there (x ∷ rows) (suc k) gone r at c other = elim (Contains-cons x rows r c) [
  | inl e ↦ subst (λ (z : Row). Contains (x ∷ remove rows k) z) (sym e) (Contains-head x (remove rows k))
  | inr rest ↦ Contains-tail x (remove rows k) r (stays_there rows k gone r at rest other)
]

pub still_rise : (rows : List Row) (k : ℕ) → Rises row_key rows → Rises row_key (remove rows k)
still_rise [] zero up = up
still_rise [] (suc k) up = up
still_rise (x ∷ rows) zero up = tail_rises row_key x rows up
still_rise (x ∷ rows) (suc k) up = rises_cons row_key x (remove rows k) (λ z c. head_least row_key x rows up z (was_there rows k z c)) (still_rise rows k (tail_rises row_key x rows up))

-- ---- rows by their numbers

-- no row has its number any more
pub none_there : (rows : List Row) (k : ℕ) (gone : Row) → Rises row_key rows → slice_get rows k ≡ Some gone → row_of (remove rows k) gone.inode ≡ None
none_there rows k gone up at = no_row (remove rows k) gone.inode (λ r c. another rows k gone r up at c)

-- the row of another number
pub other_there : (rows : List Row) (k : ℕ) (gone : Row) (j : ℕ) → slice_get rows k ≡ Some gone → j ≢ gone.inode → row_of (remove rows k) j ≡ row_of rows j
other_there [] k gone j at differs = absurd (cc)
other_there (x ∷ rows) zero gone j at differs =
    let same : x ≡ gone = cc in
    let number : x.inode ≡ gone.inode = ap (λ (z : Row). z.inode) same in
    let off : nat_eq x.inode j ≡ false = apart x.inode gone.inode number differs in
    sym (ap (λ (b : Bool). cond b (Some x) (row_of rows j)) off) where
      apart : (a i : ℕ) → a ≡ i → j ≢ i → nat_eq a j ≡ false
      apart a i same differs = grind (arith, nat_tests)
other_there (x ∷ rows) (suc k) gone j at differs = ap (λ (o : Option Row). cond (nat_eq x.inode j) (Some x) o) (other_there rows k gone j at differs)

-- ---- places

-- two places with other numbers differ
pub places_differ : (rows : List Row) (i j : ℕ) (a b : Row) → slice_get rows i ≡ Some a → slice_get rows j ≡ Some b → a.inode ≢ b.inode → i ≢ j
places_differ rows i j a b at to apart same = let both : Some a ≡ Some b = sym at ∙ ap (slice_get rows) same ∙ to in let one : a ≡ b = cc in apart (ap (λ (r : Row). r.inode) one)
