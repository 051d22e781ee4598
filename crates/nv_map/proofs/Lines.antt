-- The lines of a map, one after another.
use Rattle.std.proofs.Common.{◌≡◌, inl, inr, ℕ, ◌+◌, ◌*◌, min, List, [], ◌∷◌, ◌++◌, length, take, drop, ap, sym, ◌∙◌, arith, append-nil, length-append}
use Rattle.std.proofs.Math.Seq.{take-append_seam, drop-append_seam}
use Rattle.std.proofs.lemmas.Bool.{cases_lt}
use Rattle.std.proofs.lemmas.List.{take_min, drop-drop, drop_all, nil_from_length}
use Rattle.std.proofs.lemmas.Grind.{flat_map-append}
use Rattle.std.specs.List.{flat_map, range_with_len}
use Rattle.nv_super.proofs.Ranges.{one_more}
use Rattle.nv_map.specs.declared.uses.BlockUse.{BlockUse}
use Rattle.nv_map.specs.Text.{letters, line_at}

module _ {X : Type 0} (size : ℕ) (all chunk rest : List X) (parts : all ≡ chunk ++ rest) (long : length chunk ≡ min size (length all)) where
  -- the first of the pieces that a list is cut in
  pub first_chunk : take size all ≡ chunk
  first_chunk = sym (take_min size all) ∙ ap (λ (n : ℕ). take n all) (sym long) ∙ ap (λ (xs : List X). take (length chunk) xs) parts ∙ take-append_seam chunk rest

  -- and what is left behind it
  pub chunk_rest : drop size all ≡ rest
  chunk_rest =
      let sum : length all ≡ length chunk + length rest = ap length parts ∙ length-append chunk rest in
      elim (cases_lt (length all) size) [
        | inl short ↦ (let none : rest ≡ [] = nil_from_length rest (omega (arith, long, sum, short)) in drop_all size all (omega (arith, short)) ∙ sym none)
        | inr full ↦ (let e : size ≡ length chunk = omega (arith, long, full) in
            ap (λ (n : ℕ). drop n all) e ∙ ap (λ (xs : List X). drop (length chunk) xs) parts ∙ drop-append_seam chunk rest)
      ]

-- one line more
pub one_line_more : (uses chunk rest : List BlockUse) (k : ℕ) → drop (64 * k) uses ≡ chunk ++ rest → length chunk ≡ min 64 (length (drop (64 * k) uses))
    → flat_map (line_at uses) (range_with_len 0 (k + 1)) ≡ flat_map (line_at uses) (range_with_len 0 k) ++ (letters chunk ++ 10 ∷ [])
one_line_more uses chunk rest k parts long =
    ap (flat_map (line_at uses)) (sym (one_more 0 k))
    ∙ flat_map-append (line_at uses) (range_with_len 0 k) ((0 + k) ∷ [])
    ∙ ap (λ (n : ℕ). flat_map (line_at uses) (range_with_len 0 k) ++ flat_map (line_at uses) (n ∷ [])) (omega arith)
    ∙ ap (λ (text : List ℕ). flat_map (line_at uses) (range_with_len 0 k) ++ text) (append-nil (line_at uses k))
    ∙ ap (λ (cells : List BlockUse). flat_map (line_at uses) (range_with_len 0 k) ++ (letters cells ++ 10 ∷ [])) (first_chunk 64 (drop (64 * k) uses) chunk rest parts long)

-- what is left behind it
pub left_behind : (uses chunk rest : List BlockUse) (k : ℕ) → drop (64 * k) uses ≡ chunk ++ rest → length chunk ≡ min 64 (length (drop (64 * k) uses)) → drop (64 * (k + 1)) uses ≡ rest
left_behind uses chunk rest k parts long =
    ap (λ (n : ℕ). drop n uses) (omega arith) ∙ sym (drop-drop 64 (64 * k) uses) ∙ chunk_rest 64 (drop (64 * k) uses) chunk rest parts long
