-- What stores of words in a row change: only these words, whether all were stored or only the first.
use Rattle.std.proofs.Common.{◌≡◌, ◌+◌, ◌*◌, ◌%◌, ◌<◌, ◌≤◌, inl, inr, ℕ, zero, suc, List, get_or, sym, subst, arith, Result, Ok, Err, OnOk, OnErr}
use Rattle.nv_region.specs.Region.{Region}
use Rattle.nv_region.specs.Stops.{Choices, Adds, IsMixed}
use Rattle.nv_region.specs.Stored.{Within, StoresOnly}
use Rattle.nv_region.specs.Lines.{put_words, Each, StoppedAmong}
use Rattle.nv_region.proofs.Stops.{mixed_same, mixed_put}

pub each_within : (at : ℕ) (words : List ℕ) (n m : ℕ) → at % 8 ≡ 0 → 8 * n ≤ m → (i x : ℕ) → Each at words n i x → Within at m i x
each_within at words n m aligned few i x each = (omega (arith, each.2, each.1), omega (arith, each.2, each.1))

pub put_words_mixed : (R : Region) (at : ℕ) (words : List ℕ) (n m : ℕ) → at % 8 ≡ 0 → 8 * n ≤ m → IsMixed R (Within at m) (put_words R at words n)
put_words_mixed R at words zero m aligned few = mixed_same R (Within at m)
put_words_mixed R at words (suc n) m aligned few =
    mixed_put R (put_words R at words n) (Within at m) (at + 8 * n) (get_or words n 0) (put_words_mixed R at words n m aligned (omega arith)) (omega arith, omega arith)

first_stores : (R S : Region) (at : ℕ) (words : List ℕ) (n m : ℕ) (old new : Choices) → at % 8 ≡ 0 → 8 * n ≤ m → S ≡ put_words R at words n → Adds (Each at words n) old new → StoresOnly (Within at m) R S old new
first_stores R S at words n m old new aligned few reads adds = record {
  mixed = subst (IsMixed R (Within at m)) (sym reads) (put_words_mixed R at words n m aligned few);
  adds = λ i x may. elim (adds i x may) [ inl before ↦ inl before | inr here ↦ inr (each_within at words n m aligned few i x here) ];
}

-- after words in a row were stored, or the first of them up to a stop
pub row_stores : {T E : Type 0} (result : Result T E) (R S : Region) (at : ℕ) (words : List ℕ) (count : ℕ) (old new : Choices) → at % 8 ≡ 0
    → OnOk result (S ≡ put_words R at words count) → OnOk result (Adds (Each at words count) old new) → OnErr result (StoppedAmong at words count R S old new) → StoresOnly (Within at (8 * count)) R S old new
row_stores (Ok done) R S at words count old new aligned reads adds stopped = first_stores R S at words count (8 * count) old new aligned (omega arith) reads adds
row_stores (Err burnt) R S at words count old new aligned reads adds stopped =
    let n : ℕ = stopped.0 in
    let below : n < count = stopped.1 in
    first_stores R S at words n (8 * count) old new aligned (omega arith) stopped.2.reads stopped.2.adds
