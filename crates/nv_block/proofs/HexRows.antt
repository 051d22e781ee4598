-- The rows of bytes, one after another.
use Rattle.std.proofs.Common.{◌≡◌, inl, inr, ℕ, ◌+◌, ◌-◌, ◌*◌, min, List, [], ◌∷◌, ◌++◌, length, take, drop, ap, sym, ◌∙◌, arith, append-nil, length-append, length-drop}
use Rattle.std.proofs.Math.Seq.{take-append_seam, drop-append_seam}
use Rattle.std.proofs.lemmas.Bool.{cases_lt}
use Rattle.std.proofs.lemmas.List.{take_all, take_min, drop-drop, drop_all, nil_from_length}
use Rattle.std.proofs.lemmas.Grind.{flat_map-append}
use Rattle.std.specs.List.{flat_map, range_with_len}
use Rattle.nv_super.proofs.Ranges.{one_more}
use Rattle.nv_block.specs.Hex.{block_bytes, row_at, row_text}

module _ {X : Type 0} (size : ℕ) (all chunk rest : List X) (parts : all ≡ chunk ++ rest) (long : length chunk ≡ min size (length all)) where
  -- the first of the pieces that a list is cut in
  pub first_chunk : take size all ≡ chunk
  first_chunk = sym (take_min size all) ∙ ap (λ (n : ℕ). take n all) (sym long) ∙ ap (λ (xs : List X). take (length chunk) xs) parts ∙ take-append_seam chunk rest

  -- and what is left behind it
  pub chunk_rest : drop size all ≡ rest
  chunk_rest =
      let sum : length all ≡ length chunk + length rest = ap length parts ∙ length-append chunk rest in
      elim (cases_lt (length all) size) [
        | inl short ↦ (let none : rest ≡ [] = nil_from_length rest (omega (arith, long, sum, short)) in drop_all size all (omega (arith, short)) ∙ sym none)
        | inr full ↦ (let e : size ≡ length chunk = omega (arith, long, full) in
            ap (λ (n : ℕ). drop n all) e ∙ ap (λ (xs : List X). drop (length chunk) xs) parts ∙ drop-append_seam chunk rest)
      ]

module _ (start : ℕ) (bytes chunk rest : List ℕ) (k : ℕ) (parts : drop (16 * k) bytes ≡ chunk ++ rest) (long : length chunk ≡ min 16 (length (drop (16 * k) bytes))) where
  -- one row more
  pub one_row_more : flat_map (row_at start bytes) (range_with_len 0 (k + 1)) ≡ flat_map (row_at start bytes) (range_with_len 0 k) ++ row_text (start + 16 * k) chunk
  one_row_more =
      ap (flat_map (row_at start bytes)) (sym (one_more 0 k))
      ∙ flat_map-append (row_at start bytes) (range_with_len 0 k) ((0 + k) ∷ [])
      ∙ ap (λ (n : ℕ). flat_map (row_at start bytes) (range_with_len 0 k) ++ flat_map (row_at start bytes) (n ∷ [])) (omega arith)
      ∙ ap (λ (text : List ℕ). flat_map (row_at start bytes) (range_with_len 0 k) ++ text) (append-nil (row_at start bytes k))
      ∙ ap (λ (row : List ℕ). flat_map (row_at start bytes) (range_with_len 0 k) ++ row_text (start + 16 * k) row) (first_chunk 16 (drop (16 * k) bytes) chunk rest parts long)

  -- what is left behind it
  pub left_behind : drop (16 * (k + 1)) bytes ≡ rest
  left_behind = ap (λ (n : ℕ). drop n bytes) (omega arith) ∙ sym (drop-drop 16 (16 * k) bytes) ∙ chunk_rest 16 (drop (16 * k) bytes) chunk rest parts long

-- the bytes of a block, as far as there are such bytes
pub block_is : (bytes : List ℕ) (b start end : ℕ) → start ≡ min (length bytes) (b * 4096) → end ≡ min (length (take (length bytes - start) (drop start bytes))) 4096
    → take end (take (length bytes - start) (drop start bytes)) ≡ block_bytes bytes b
block_is bytes b start end is_start is_end =
    let count = length-drop start bytes in
    let rest : take (length bytes - start) (drop start bytes) ≡ drop start bytes = take_all (length bytes - start) (drop start bytes) (omega (arith, count)) in
    let from : drop start bytes ≡ drop (4096 * b) bytes = elim (cases_lt (length bytes) (b * 4096)) [
      | inl past ↦ drop_all start bytes (omega (arith, is_start, past)) ∙ sym (drop_all (4096 * b) bytes (omega (arith, past)))
      | inr within ↦ ap (λ (n : ℕ). drop n bytes) (omega (arith, is_start, within))
    ] in
    let most : end ≡ min 4096 (length (drop (4096 * b) bytes)) = is_end ∙ ap (λ (xs : List ℕ). min (length xs) 4096) (rest ∙ from) ∙ omega arith in
    ap (take end) (rest ∙ from) ∙ ap (λ (n : ℕ). take n (drop (4096 * b) bytes)) most ∙ take_min 4096 (drop (4096 * b) bytes)
