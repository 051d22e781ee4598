-- The rows of pieces.
use Rattle.std.proofs.Common.{◌≡◌, ℕ, inl, inr, Option, Some, None, List, [], ◌∷◌, refl, ap, sym, ◌∙◌, subst}
use Rattle.std.specs.Option.{MatchOption}
use Rattle.std.specs.List.{Contains, cons_option}
use Rattle.nv_region.specs.Region.{Region}
use Rattle.nv_super.specs.Layout.{Layout}
use Rattle.nv_super.specs.Order.{Rises}
use Rattle.nv_super.proofs.Rising.{Contains-cons, Contains-head, Contains-tail, Below, head_least, rises_cons, tail_rises}
use Rattle.nv_super.proofs.Members.{none_in}
use Rattle.nv_scan.specs.Inode.{Log, IsInUse}
use Rattle.nv_scan.specs.Rows.{IsRow, IsPiece}
use Rattle.nv_scan.specs.declared.piece.Row.{Row}
use Rattle.nv_scan.specs.declared.piece.Piece.{Piece}
use Rattle.nv_scan.proofs.Only.{slot_in_use}
use Rattle.nv_cross_check.specs.Cross.{row_key}
use Rattle.nv_outcome.specs.Outcome.{AreRows}
use Rattle.nv_outcome.specs.Parts.{ArePieces, rows_in, piece_key}

pub row_from : (ps : List Piece) (r : Row) → Contains (rows_in ps) r → (p : Piece) × Contains ps p × (p.row ≡ Some r)
row_from [] r c = absurd (none_in r c)
row_from (p ∷ ps) r c = elim p.row as (λ o. p.row ≡ o → Contains (cons_option o (rows_in ps)) r → (q : Piece) × Contains (p ∷ ps) q × (q.row ≡ Some r)) [
  | None ↦ λ e d. (let w = row_from ps r d in (w.0, Contains-tail p ps w.0 w.1, w.2))
  | Some x ↦ λ e d. elim (Contains-cons x (rows_in ps) r d) [
    | inl v ↦ (p, Contains-head p ps, e ∙ ap Some (sym v))
    | inr v ↦ (let w = row_from ps r v in (w.0, Contains-tail p ps w.0 w.1, w.2))
  ]
] refl c

pub row_into : (ps : List Piece) (p : Piece) (r : Row) → Contains ps p → p.row ≡ Some r → Contains (rows_in ps) r
row_into [] p r c e = absurd (none_in p c)
row_into (q ∷ ps) p r c e = elim (Contains-cons q ps p c) [
  | inl w ↦ (let here : q.row ≡ Some r = ap (λ (z : Piece). z.row) (sym w) ∙ e in
      let P : Option Row → Type 0 = λ o. Contains (cons_option o (rows_in ps)) r in subst P (sym here) (Contains-head r (rows_in ps)))
  | inr w ↦ skip q.row (row_into ps p r w e)
] where
  skip : (o : Option Row) → Contains (rows_in ps) r → Contains (cons_option o (rows_in ps)) r
  skip None d = d
  skip (Some x) d = Contains-tail x (rows_in ps) r d

module _ {R : Region} {l : Layout} where
  row_of : (p : Piece) (r : Row) → IsPiece R l p → p.row ≡ Some r → (r.inode ≡ p.inode) × (a : ℕ) × (log : Log) × IsRow R l a log r
  row_of p r h e = let P : Option Row → Type 0 = λ o. MatchOption o (IsInUse R l p.inode → ⊥) (λ r. (r.inode ≡ p.inode) × (a : ℕ) × (log : Log) × IsRow R l a log r) in subst P e h.row

  rows_rise : (ps : List Piece) → Rises piece_key ps → ((p : Piece) → Contains ps p → IsPiece R l p) → Rises row_key (rows_in ps)
  rows_rise [] r each = tt
  rows_rise (p ∷ ps) r each =
      let rest : Rises row_key (rows_in ps) = rows_rise ps (tail_rises piece_key p ps r) (λ q c. each q (Contains-tail p ps q c)) in
      elim p.row as (λ o. p.row ≡ o → Rises row_key (cons_option o (rows_in ps))) [
        | None ↦ λ e. rest
        | Some x ↦ λ e. rises_cons row_key x (rows_in ps) (λ y c. (
            let w = row_from ps y c in
            let mine : x.inode ≡ p.inode = (row_of p x (each p (Contains-head p ps)) e).0 in
            let its : y.inode ≡ w.0.inode = (row_of w.0 y (each w.0 (Contains-tail p ps w.0 w.1)) w.2).0 in
            let less : Below (piece_key p) (piece_key w.0) = head_least piece_key p ps r w.0 w.1 in
            rw (mine, its) less)) rest
      ] refl

  pub rows_are : (ps : List Piece) → ArePieces R l ps → AreRows R l (rows_in ps)
  rows_are ps h = record {
    rising = rows_rise ps h.rising h.each;
    each = λ r c. (let w = row_from ps r c in let v = row_of w.0 r (h.each w.0 w.1) w.2 in (v.1, v.2, v.3));
    all = λ i u. (let w = h.all i u.0 (slot_in_use u.2) in with_row i w.0 w.1 w.2 u (h.each w.0 w.1));
  } where
    with_row : (i : ℕ) (p : Piece) → Contains ps p → p.inode ≡ i → IsInUse R l i → IsPiece R l p → (row : Row) × Contains (rows_in ps) row × (row.inode ≡ i)
    with_row i p c e u q = elim p.row as (λ o. p.row ≡ o → MatchOption o (IsInUse R l p.inode → ⊥) (λ r. (r.inode ≡ p.inode) × (a : ℕ) × (log : Log) × IsRow R l a log r) → (row : Row) × Contains (rows_in ps) row × (row.inode ≡ i)) [
      | None ↦ λ f n. absurd (n (let P : ℕ → Type 0 = λ j. IsInUse R l j in subst P (sym e) u))
      | Some r ↦ λ f m. (r, row_into ps p r c f, m.0 ∙ e)
    ] refl q.row
