-- The runs of the blocks that words leave free.
use Rattle.std.specs.Prelude.{◌≡◌, ℕ, zero, suc, Bool, false, ◌+◌, ◌-◌, ◌*◌, ◌%◌, ◌^◌, ◌<◌, ◌≤◌, ◌==◌, if◌then◌else◌, List, [], ◌∷◌, length}
use Rattle.nv_blockset.specs.BlockSet.{has}
use Rattle.nv_super.specs.declared.owners.Run.{Run}
use Rattle.nv_alloc.specs.Taking.{blocks_in}

-- n blocks more, from one on, before the runs
abbrev pub with_front : ℕ → ℕ → List Run → List Run
with_front b n [] = record { start = b; count = n } ∷ []
with_front b n (r ∷ rs) = if b + n == r.start then record { start = b; count = n + r.count } ∷ rs else record { start = b; count = n } ∷ r ∷ rs

-- the runs of those of n blocks, from one on, of which the test holds
abbrev pub runs_where : (ℕ → Bool) → ℕ → ℕ → List Run
runs_where test here zero = []
runs_where test here (suc n) = if test here then with_front here 1 (runs_where test (here + 1) n) else runs_where test (here + 1) n

-- the first block whose bit is in the word of this block's bit
abbrev pub word_start : ℕ → ℕ
word_start b = b - b % 64

-- the block isn't marked, in words of which the first is that of the block `first`
abbrev pub is_free : List ℕ → ℕ → ℕ → Bool
is_free words first b = has words (b - word_start first) == 0

-- the runs of the blocks from one up to another that aren't marked, in words of which the first is that of the first of them
abbrev pub free_runs : List ℕ → ℕ → ℕ → List Run
free_runs words from to = runs_where (is_free words from) from (to - from)

-- What a pool keeps: words that reach up to its end, how many of its blocks they leave free, and a block before which none is.
pub record IsPool (words : List ℕ) (from to free first : ℕ) : Type 0 where
  pub order : from ≤ to
  pub within : to ≤ word_start from + 64 * length words
  pub small : to ≤ 2 ^ 32
  pub counted : free ≡ blocks_in (free_runs words from to)
  pub first_place : (from ≤ first) × (first ≤ to)
  pub passed : (b : ℕ) → from ≤ b → b < first → is_free words from b ≡ false

-- What runs that are left stand on: words of which the first is that of the block `first`, a block from which on they are, and the
-- block behind the last, up to which the words reach.
pub record AreLeft (words : List ℕ) (first here to : ℕ) : Type 0 where
  pub low : first ≤ here
  pub high : here ≤ to
  pub within : to ≤ word_start first + 64 * length words
  pub small : to ≤ 2 ^ 32
