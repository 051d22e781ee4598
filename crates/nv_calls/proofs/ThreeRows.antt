-- Three rows that were lent one after another, changed, and given back in the other order.
use Rattle.std.proofs.Common.{◌≡◌, ◌≢◌, ℕ, zero, suc, List, [], ◌∷◌, set, set-set, slice_get, ap, sym, ◌∙◌, subst, Some}
use Rattle.std.proofs.lemmas.List.{set_comm}
use Rattle.std.proofs.lemmas.Option.{same_Some}
use Rattle.nv_alloc.specs.FreeValue.{FreeLists}
use Rattle.nv_scan.specs.declared.piece.Row.{Row}
use Rattle.nv_rows.specs.Rows.{row_of, place_in, IsInUse, IsLent}
use Rattle.nv_rows.proofs.Places.{at_place, back_two, place_kept, place_lent, places_apart, used_back, used_lent}
use Rattle.nv_outcome.specs.Same.{SameRow, SameRows}
use Rattle.nv_steps.specs.Steps.{LeavesStep}
use Rattle.nv_steps.proofs.RowsAt.{other_set}
use Rattle.nv_steps.proofs.SetRows.{both_same}
use Rattle.nv_calls.specs.AtPlaces.{LeavesRows}
use Rattle.nv_calls.proofs.Recoveries.{row_then}
use Rattle.nv_calls.proofs.TwoRows.{row_stays, used_still}

-- one row more that was replaced by the same
more_same : (old rows : List Row) (k : ℕ) (a new : Row) → SameRows old rows → slice_get rows k ≡ Some a → SameRow a new → SameRows old (set rows k new)
more_same old [] k a new all at same = absurd (cc)
more_same [] (y ∷ ys) k a new all at same = absurd all
more_same (x ∷ xs) (y ∷ ys) zero a new all at same = (let is : a ≡ y = cc in row_then all.0 (subst (λ (r : Row). SameRow r new) is same), all.1)
more_same (x ∷ xs) (y ∷ ys) (suc k) a new all at same = (all.0, more_same xs ys k a new all.1 at same)

-- ---- while they are lent

module _ (rows mid last : List Row) (i j k : ℕ) (apart : i ≢ j) (i_apart : i ≢ k) (j_apart : j ≢ k) (used : IsInUse rows i) (used_j : IsInUse rows j) (used_k : IsInUse rows k) (lent : IsLent rows mid i) (lent_j : IsLent mid last j) where
  mid_j : IsInUse mid j
  mid_j = used_still rows mid i j apart used lent used_j

  mid_k : IsInUse mid k
  mid_k = used_still rows mid i k i_apart used lent used_k

  -- the third is in use still, and has the row that it had
  pub third_still : IsInUse last k
  third_still = used_still mid last j k j_apart mid_j lent_j mid_k

  pub third_stays : (row : Row) → row_of last k ≡ Some row → row_of rows k ≡ Some row
  third_stays row at = row_stays rows mid i k i_apart used lent row (row_stays mid last j k j_apart mid_j lent_j row at)

  -- What is so of the rows that were lent is so of the rows of those numbers.
  pub of_three : (Q : Row → Row → Row → Type 0) (one two three row other third : Row) → row_of rows i ≡ Some one → row_of mid j ≡ Some two → row_of last k ≡ Some three → Q one two three
      → row_of rows i ≡ Some row → row_of rows j ≡ Some other → row_of rows k ≡ Some third → Q row other third
  of_three Q one two three row other third one_at two_at three_at known at other_at third_at =
      let first : one ≡ row = same_Some _ _ (sym one_at ∙ at) in
      let second : two ≡ other = same_Some _ _ (sym (row_stays rows mid i j apart used lent two two_at) ∙ other_at) in
      let last_is : three ≡ third = same_Some _ _ (sym (third_stays three three_at) ∙ third_at) in
      subst (λ (r : Row). Q r other third) first (subst (λ (r : Row). Q one r third) second (subst (λ (r : Row). Q one two r) last_is known))

  -- ---- given back

  pub last_given : (rest : List Row) (third : Row) → IsLent last rest k → third.inode ≡ k → IsInUse rest third.inode
  last_given rest third lent_k third_number = subst (IsInUse rest) (sym third_number) (used_lent last rest k third_still lent_k)

  module _ (rest one : List Row) (other third : Row) (lent_k : IsLent last rest k) (other_number : other.inode ≡ j) (third_number : third.inode ≡ k) (first_back : one ≡ set rest (place_in rest third.inode) third) where
    rest_k : IsInUse rest k
    rest_k = used_lent last rest k third_still lent_k

    rest_i : IsInUse rest i
    rest_i = used_still last rest k i (λ e. i_apart (sym e)) third_still lent_k (used_still mid last j i (λ e. apart (sym e)) mid_j lent_j (used_lent rows mid i used lent))

    one_j : IsInUse one j
    one_j = used_back rest one j k third j_apart rest_k third_number first_back (used_still last rest k j (λ e. j_apart (sym e)) third_still lent_k (used_lent mid last j mid_j lent_j))

    pub second_given : IsInUse one other.inode
    second_given = subst (IsInUse one) (sym other_number) one_j

    module _ (two : List Row) (row : Row) (number : row.inode ≡ i) (second_back : two ≡ set one (place_in one other.inode) other) where
      pub first_given : IsInUse two row.inode
      first_given = subst (IsInUse two) (sym number) (used_back one two i j other apart one_j other_number second_back (used_back rest one i k third i_apart rest_k third_number first_back rest_i))

      abbrev at : ℕ
      at = place_in rows i

      abbrev place : ℕ
      place = place_in rows j

      abbrev end : ℕ
      end = place_in rows k

      both_back : two ≡ set (set mid place other) end third
      both_back =
          back_two mid last rest one two j k other third j_apart mid_j mid_k lent_j lent_k third_number first_back other_number second_back
          ∙ ap (λ (p : ℕ). set (set mid p other) (place_in mid k) third) (place_lent rows mid i j lent) ∙ ap (λ (p : ℕ). set (set mid place other) p third) (place_lent rows mid i k lent)

      still_at : place_in two i ≡ at
      still_at =
          ap (λ (rs : List Row). place_in rs i) both_back
          ∙ ap (λ (p : ℕ). place_in (set (set mid place other) p third) i) (sym (place_lent rows mid i k lent) ∙ sym (place_kept mid j k other other_number) ∙ ap (λ (p : ℕ). place_in (set mid p other) k) (place_lent rows mid i j lent))
          ∙ place_kept (set mid place other) k i third third_number
          ∙ ap (λ (p : ℕ). place_in (set mid p other) i) (sym (place_lent rows mid i j lent)) ∙ place_kept mid j i other other_number ∙ place_lent rows mid i i lent

      -- all three stand where they stood
      pub back_three : {news : List Row} → news ≡ set two (place_in two row.inode) row → news ≡ set (set (set rows at row) place other) end third
      back_three {news} back =
          back ∙ ap (λ (n : ℕ). set two (place_in two n) row) number ∙ ap (λ (p : ℕ). set two p row) still_at
          ∙ ap (λ (rs : List Row). set rs at row) (both_back ∙ ap (λ (rs : List Row). set (set rs place other) end third) lent.all)
          ∙ set_comm (set (set rows at lent.blank) place other) end at third row (λ e. places_apart rows i k used used_k i_apart (sym e))
          ∙ ap (λ (rs : List Row). set rs end third) (set_comm (set rows at lent.blank) place at other row (λ e. places_apart rows i j used used_j apart (sym e)))
          ∙ ap (λ (rs : List Row). set (set rs place other) end third) (set-set rows at lent.blank row)

  -- and what was refused has changed nothing
  pub left_three : {P : Type 0} (memory now : P) (free after : FreeLists) (a b c row other third : Row) (news : List Row) → row_of rows i ≡ Some a → row_of rows j ≡ Some b → row_of rows k ≡ Some c
      → news ≡ set (set (set rows (place_in rows i) row) (place_in rows j) other) (place_in rows k) third → LeavesStep memory now free after a row → SameRow b other → SameRow c third → LeavesRows memory now free after rows news
  left_three memory now free after a b c row other third news a_at b_at c_at put left same third_same =
      let places = places_apart rows i j used used_j apart in
      let two = set (set rows (place_in rows i) row) (place_in rows j) other in
      let still : slice_get two (place_in rows k) ≡ Some c = other_set (set rows (place_in rows i) row) (place_in rows j) (place_in rows k) other (places_apart rows j k used_j used_k j_apart) ∙ other_set rows (place_in rows i) (place_in rows k) row (places_apart rows i k used used_k i_apart) ∙ at_place rows k ∙ c_at in
      record {
        memory = left.memory;
        free = left.free;
        rows = subst (λ (rs : List Row). SameRows rows rs) (sym put) (more_same rows two (place_in rows k) c third (both_same rows (place_in rows i) (place_in rows j) a row b other (at_place rows i ∙ a_at) (at_place rows j ∙ b_at) places left.row same) still third_same);
      }
