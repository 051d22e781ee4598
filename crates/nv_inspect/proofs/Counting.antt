-- Counting the pages of a write that lie where it wrote them, one page further and at the end.
use Rattle.std.proofs.Common.{◌≡◌, ◌∙◌, ◌+◌, ◌<◌, ◌≤◌, ℕ, Bool, true, false, length, get_or, take, sym, ap, zero-add, arith}
use Rattle.std.specs.List.{count_by, range_with_len}
use Rattle.std.proofs.lemmas.List.{take_all}
use Rattle.std.proofs.lemmas.List.Sums.{count_by_more_no, count_by_more_yes}
use Rattle.std.proofs.lemmas.List.FromFn.{get_or-range_with_len, length-range_with_len}
use Rattle.nv_radix.specs.Pages.{Pages, block_at}
use Rattle.nv_entry.specs.declared.entry.WriteEntry.{WriteEntry}
use Rattle.nv_inspect.specs.Entry.{lies_in, pages_standing}

inside : (n k : ℕ) → k < n → k < length (range_with_len 0 n)
inside n k below = let long = length-range_with_len 0 n in omega (arith, below, long)

here : (n k : ℕ) → k < n → get_or (range_with_len 0 n) k 0 ≡ k
here n k below = get_or-range_with_len 0 n k 0 below ∙ zero-add k

-- one more where it holds, and else as many
module _ (p : ℕ → Bool) (n k : ℕ) (below : k < n) where
  more_where : p k ≡ true → count_by p (take (k + 1) (range_with_len 0 n)) ≡ count_by p (take k (range_with_len 0 n)) + 1
  more_where holds = count_by_more_yes p (range_with_len 0 n) k 0 (inside n k below) (ap p (here n k below) ∙ holds)

  as_many : p k ≡ false → count_by p (take (k + 1) (range_with_len 0 n)) ≡ count_by p (take k (range_with_len 0 n))
  as_many fails = count_by_more_no p (range_with_len 0 n) k 0 (inside n k below) (ap p (here n k below) ∙ fails)

take_past : (n k : ℕ) → n ≤ k → take k (range_with_len 0 n) ≡ range_with_len 0 n
take_past n k past = take_all k (range_with_len 0 n) (let long = length-range_with_len 0 n in omega (arith, past, long))

-- the page lies where the write put it
abbrev pub lies : Pages → WriteEntry → ℕ → Bool
lies index e k = lies_in (block_at index (e.offset + k)) (e.block + k)

module _ (index : Pages) (e : WriteEntry) (k stands new : ℕ) (so_far : stands ≡ count_by (lies index e) (take k (range_with_len 0 e.count))) where
  pub counted_yes : k < e.count → lies index e k ≡ true → new ≡ stands + 1 → new ≡ count_by (lies index e) (take (k + 1) (range_with_len 0 e.count))
  counted_yes below holds is = is ∙ ap (λ (m : ℕ). m + 1) so_far ∙ sym (more_where (lies index e) e.count k below holds)

  pub counted_no : k < e.count → lies index e k ≡ false → new ≡ stands → new ≡ count_by (lies index e) (take (k + 1) (range_with_len 0 e.count))
  counted_no below fails is = is ∙ so_far ∙ sym (as_many (lies index e) e.count k below fails)

  pub counted_all : e.count ≤ k → stands ≡ pages_standing index e
  counted_all past = so_far ∙ ap (count_by (lies index e)) (take_past e.count k past)
