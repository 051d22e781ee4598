-- The rows once one inode changed.
use Rattle.std.proofs.Common.{◌≡◌, ◌≢◌, ℕ, ◌<◌, ◌⊎◌, inl, inr, List, [], ◌∷◌, length, get_or, set, ap, sym, ◌∙◌, subst, arith, Some, None, length-set}
use Rattle.std.specs.List.{Contains}
use Rattle.std.proofs.Math.Seq.{map-set_same}
use Rattle.std.proofs.lemmas.Bool.{cases_eq}
use Rattle.std.proofs.lemmas.List.{get_or-set_same, get_or-set_other, get_or_default}
use Rattle.nv_super.specs.Layout.{Layout}
use Rattle.nv_super.specs.Order.{Rises}
use Rattle.nv_super.proofs.RisingPlaces.{rises_keys, one_place}
use Rattle.nv_scan.specs.declared.piece.Row.{Row}
use Rattle.nv_cross_check.specs.Cross.{row_key}
use Rattle.nv_mounted.specs.Held.{Held, Store, with_inode}
use Rattle.nv_mounted.specs.Mounted.{KeepsRow, KeepsRows}
use Rattle.nv_mounted.proofs.Owning.{other_held, same_held}

-- ---- a row replaced

-- The rows are those of what is held, once the row of the changed inode is replaced.
module _ (l : Layout) (held : Store) (i : ℕ) (new : Held) (rows : List Row) (kept : KeepsRows l held rows) (k : ℕ) (inside : k < length rows) (row : Row) (at : (get_or rows k row).inode ≡ i) (number : row.inode ≡ i) (is : KeepsRow l new row) where
  each_row : (x : Row) → Contains (set rows k row) x → (h : Held) × (with_inode held i (Some new) x.inode ≡ Some h) × KeepsRow l h x
  each_row x c = elim (cases_eq c.0 k) [
    | inl here ↦ (
        let e : x ≡ row = sym c.2 ∙ ap (λ (n : ℕ). get_or (set rows k row) n x) here ∙ get_or-set_same rows k row x inside in
        let said : with_inode held i (Some new) x.inode ≡ Some new = ap (with_inode held i (Some new)) (ap (λ (y : Row). y.inode) e ∙ number) ∙ same_held held i (Some new) in
        (new, said, subst (λ (y : Row). KeepsRow l new y) (sym e) is))
    | inr there ↦ (
        let old : get_or rows c.0 x ≡ x = sym (get_or-set_other rows k c.0 row x there) ∙ c.2 in
        let below : c.0 < length rows = (let n = length-set rows k row in let b = c.1 in omega (arith, n, b)) in
        let w = kept.each x (c.0, below, old) in
        let other : x.inode ≢ i = (λ e. there (one_place row_key rows c.0 k row kept.rising below inside (ap (λ (n : ℕ). n ∷ []) (ap (λ (y : Row). y.inode) (get_or_default rows c.0 row x below ∙ old) ∙ e ∙ sym at)))) in
        (w.0, other_held held i x.inode (Some new) other ∙ w.1, w.2))
  ]

  all_rows : (j : ℕ) (h : Held) → with_inode held i (Some new) j ≡ Some h → (x : Row) × Contains (set rows k row) x × (x.inode ≡ j)
  all_rows j h e = elim (cases_eq j i) [
    | inl mine ↦ (row, (k, (let n = length-set rows k row in omega (arith, n, inside)), get_or-set_same rows k row row inside), number ∙ sym mine)
    | inr n ↦ (
        let w = kept.all j h (sym (other_held held i j (Some new) n) ∙ e) in
        let there : w.1.0 ≢ k = (λ same. n (sym w.2 ∙ ap (λ (y : Row). y.inode) (sym w.1.2 ∙ ap (λ (m : ℕ). get_or rows m w.0) same ∙ get_or_default rows k w.0 row inside) ∙ at)) in
        (w.0, (w.1.0, (let q = length-set rows k row in let b = w.1.1 in omega (arith, q, b)), get_or-set_other rows k w.1.0 row w.0 there ∙ w.1.2), w.2))
  ]

  pub rows_follow : KeepsRows l (with_inode held i (Some new)) (set rows k row)
  rows_follow = record {
    rising = rises_keys row_key rows (set rows k row) (sym (map-set_same row_key rows k row row (ap (λ (n : ℕ). n ∷ []) (number ∙ sym at)))) kept.rising;
    each = each_row;
    all = all_rows;
  }

-- ---- a row less or more

-- The rows are those of what is held once the row of an inode that is gone is taken out.
pub rows_less : (l : Layout) (held : Store) (i : ℕ) (rows left : List Row) → KeepsRows l held rows → Rises row_key left → ((r : Row) → Contains left r → Contains rows r × (r.inode ≢ i)) → ((r : Row) → Contains rows r → r.inode ≢ i → Contains left r)
    → KeepsRows l (with_inode held i None) left
rows_less l held i rows left kept rising from stays = record {
  rising = rising;
  each = λ r c. (let w = from r c in let k = kept.each r w.0 in (k.0, other_held held i r.inode None w.1 ∙ k.1, k.2));
  all = λ j h e. elim (cases_eq j i) [
    | inl same ↦ absurd (let clash : None ≡ Some h = sym (same_held held i None) ∙ ap (with_inode held i None) (sym same) ∙ e in cc)
    | inr n ↦ (let k = kept.all j h (sym (other_held held i j None n) ∙ e) in (k.0, stays k.0 k.1 (λ q. n (sym k.2 ∙ q)), k.2))
  ];
}

-- The rows are those of what is held once the row of a new inode is put in.
pub rows_more : (l : Layout) (held : Store) (i : ℕ) (new : Held) (rows more : List Row) (row : Row) → KeepsRows l held rows → held i ≡ None → Rises row_key more → ((r : Row) → Contains more r → Contains rows r ⊎ (r ≡ row)) → ((r : Row) → Contains rows r → Contains more r)
    → Contains more row → row.inode ≡ i → KeepsRow l new row → KeepsRows l (with_inode held i (Some new)) more
rows_more l held i new rows more row kept out rising from stays there number is = record {
  rising = rising;
  each = λ r c. elim (from r c) [
    | inl old ↦ (
        let k = kept.each r old in
        let other : r.inode ≢ i = (λ q. (let clash : None ≡ Some k.0 = sym out ∙ ap held (sym q) ∙ k.1 in cc)) in
        (k.0, other_held held i r.inode (Some new) other ∙ k.1, k.2))
    | inr e ↦ (new, ap (with_inode held i (Some new)) (ap (λ (q : Row). q.inode) e ∙ number) ∙ same_held held i (Some new), subst (λ (q : Row). KeepsRow l new q) (sym e) is)
  ];
  all = λ j h e. elim (cases_eq j i) [
    | inl same ↦ (row, there, number ∙ sym same)
    | inr n ↦ (let k = kept.all j h (sym (other_held held i j (Some new) n) ∙ e) in (k.0, stays k.0 k.1, k.2))
  ];
}
