-- The shares of cells, one after another.
use Rattle.std.proofs.Common.{◌≡◌, ℕ, suc, ◌+◌, ◌*◌, ◌<◌, ◌≤◌, max, min, List, [], ◌∷◌, ◌++◌, length, map, drop, ap, sym, ◌∙◌, arith, length-drop, mul_comm}
use Rattle.std.proofs.Math.Nat.{mul-add, mul-le-mul_right, lt_of_mul-lt-mul_right}
use Rattle.std.proofs.lemmas.List.{map-append, drop-drop}
use Rattle.std.proofs.lemmas.Grind.{div_ceil_times}
use Rattle.std.specs.Int.{div_ceil}
use Rattle.std.specs.List.{range_with_len}
use Rattle.nv_super.proofs.Ranges.{one_more}
use Rattle.nv_map.specs.declared.uses.BlockUse.{BlockUse}
use Rattle.nv_map.specs.Shares.{share_of, share_at}
use Rattle.nv_map.proofs.Lines.{first_chunk, chunk_rest}
use Rattle.nv_map.proofs.Runs.{few_cells}

-- as many cells as blocks have one block each
pub one_each : (n : ℕ) → 0 < n → div_ceil n (max n 1) ≡ 1
one_each n some =
    let same : max n 1 ≡ n = omega (arith, some) in
    let bounds = div_ceil_times n n some in
    let low = lt_of_mul-lt-mul_right n {m = 0} {n = div_ceil n n} (omega (arith, bounds.0, some)) in
    let high = lt_of_mul-lt-mul_right n {m = div_ceil n n} {n = 2} (omega (arith, bounds.1)) in
    ap (λ (m : ℕ). div_ceil n m) same ∙ omega (arith, low, high)

-- a cell has a block, and not more than there are
pub some_each : (n most : ℕ) → 0 < n → 0 < div_ceil n (max most 1)
some_each n most some =
    let bounds = div_ceil_times n (max most 1) (omega arith) in
    lt_of_mul-lt-mul_right (max most 1) {m = 0} {n = div_ceil n (max most 1)} (omega (arith, bounds.0, some))

pub few_each : (n most : ℕ) → div_ceil n (max most 1) ≤ n
few_each n most =
    let once = mul-le-mul_right {m = 1} {n = max most 1} n (omega arith) in
    few_cells n n (max most 1) (omega arith) (omega (arith, once))

-- where the next cell begins
pub next_start : (each k : ℕ) → each * (k + 1) ≡ each * k + each
next_start each k = let all = mul-add each k 1 in omega (arith, all)

module _ (each : ℕ) (uses chunk rest : List BlockUse) (k : ℕ) (parts : drop (each * k) uses ≡ chunk ++ rest) (long : length chunk ≡ min each (length (drop (each * k) uses))) where
  -- one share more
  pub one_share_more : map (share_at each uses) (range_with_len 0 (k + 1)) ≡ map (share_at each uses) (range_with_len 0 k) ++ (share_of (each * k) chunk ∷ [])
  one_share_more =
      ap (map (share_at each uses)) (sym (one_more 0 k))
      ∙ map-append (share_at each uses) (range_with_len 0 k) ((0 + k) ∷ [])
      ∙ ap (λ (n : ℕ). map (share_at each uses) (range_with_len 0 k) ++ (share_at each uses n ∷ [])) (omega arith)
      ∙ ap (λ (blocks : List BlockUse). map (share_at each uses) (range_with_len 0 k) ++ (share_of (each * k) blocks ∷ [])) (first_chunk each (drop (each * k) uses) chunk rest parts long)

  -- what is left behind it
  pub blocks_behind : drop (each * (k + 1)) uses ≡ rest
  blocks_behind =
      ap (λ (n : ℕ). drop n uses) (next_start each k) ∙ sym (drop-drop each (each * k) uses) ∙ chunk_rest each (drop (each * k) uses) chunk rest parts long

-- where no block is left, all cells were counted
pub all_counted : (each k : ℕ) (uses : List BlockUse) → 0 < each → each * k < length uses + each → length (drop (each * k) uses) ≡ 0 → k ≡ div_ceil (length uses) each
all_counted each k uses some below none =
    let bounds = div_ceil_times (length uses) each some in
    let left = sym (length-drop (each * k) uses) ∙ none in
    let turned = mul_comm each k in
    let low = lt_of_mul-lt-mul_right each {m = k} {n = suc (div_ceil (length uses) each)} (omega (arith, bounds.0, below, turned)) in
    let high = lt_of_mul-lt-mul_right each {m = div_ceil (length uses) each} {n = suc k} (omega (arith, bounds.1, left, turned)) in
    omega (arith, low, high)
