-- Two rows that were replaced, and another that goes out then.
use Rattle.std.proofs.Common.{◌≡◌, ◌≢◌, ℕ, List, remove, set, slice_get, ap, sym, ◌∙◌, Some}
use Rattle.nv_scan.specs.declared.piece.Row.{Row}
use Rattle.nv_rows.specs.Rows.{row_of, place_in, IsInUse}
use Rattle.nv_rows.proofs.Places.{at_place, in_use, numbered, place_kept, places_apart, row_in_use, row_of_other}
use Rattle.nv_steps.proofs.RowsAt.{other_set}

module _ (rows news : List Row) (i j : ℕ) (a b c d : Row) (apart : i ≢ j) (at : row_of rows i ≡ Some a) (other_at : row_of rows j ≡ Some b) (number : c.inode ≡ i) (other_number : d.inode ≡ j) (put : news ≡ set (set rows (place_in rows i) c) (place_in rows j) d) (k : ℕ) (i_apart : i ≢ k) (j_apart : j ≢ k) where
  abbrev mid : List Row
  mid = set rows (place_in rows i) c

  still : slice_get mid (place_in rows j) ≡ Some b
  still = other_set rows (place_in rows i) (place_in rows j) c (places_apart rows i j (in_use rows i a at) (in_use rows j b other_at) apart) ∙ at_place rows j ∙ other_at

  -- its row stays
  pub third_row : row_of news k ≡ row_of rows k
  third_row =
      ap (λ (rs : List Row). row_of rs k) put
      ∙ row_of_other mid (place_in rows j) b d k still (λ e. j_apart (sym (e ∙ numbered rows j b other_at))) (λ e. j_apart (sym (e ∙ other_number)))
      ∙ row_of_other rows (place_in rows i) a c k (at_place rows i ∙ at) (λ e. i_apart (sym (e ∙ numbered rows i a at))) (λ e. i_apart (sym (e ∙ number)))

  pub third_used : IsInUse rows k → IsInUse news k
  third_used used = let r = row_in_use rows k used in in_use news k r.0 (third_row ∙ r.1)

  -- and it goes out at the place that it had
  pub third_out : {out : List Row} → out ≡ remove news (place_in news k) → out ≡ remove (set (set rows (place_in rows i) c) (place_in rows j) d) (place_in rows k)
  third_out gone =
      gone ∙ ap (λ (rs : List Row). remove rs (place_in rs k)) put
      ∙ ap (remove (set mid (place_in rows j) d)) (ap (λ (p : ℕ). place_in (set mid p d) k) (sym (place_kept rows i j c number)) ∙ place_kept mid j k d other_number ∙ place_kept rows i k c number)
