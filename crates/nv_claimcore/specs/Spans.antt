-- Claims and marks of one worker in one word, made in one step.
use Rattle.std.specs.Prelude.{◌≡◌, ℕ, ◌+◌, ◌%◌, ◌<◌, ◌≤◌, ◌==◌, List, [], ◌∷◌, ◌++◌, if◌then◌else◌, Bool, not, map, bit_or}
use Rattle.std.specs.Int.{bit_at}
use Rattle.std.specs.List.{count_by, All}
use Rattle.nv_blockset.specs.BlockSet.{mask_of}
use Rattle.nv_super.specs.declared.owners.Owner.{Owner}
use Rattle.nv_claimcore.specs.declared.view.Record.{Record}
use Rattle.nv_claimcore.specs.declared.view.View.{View}
use Rattle.nv_claimcore.specs.Claims.{with_record, with_mark, claim_of, is_unmarked, Settled}
use Rattle.nv_claimcore.specs.Finished.{pair_of}

-- the mask of the blocks
abbrev pub mask_all : List (ℕ × Owner) → ℕ
mask_all [] = 0
mask_all (p ∷ ps) = bit_or (mask_of p.0) (mask_all ps)

-- a record for each block, won where its bit was 0 in the word n
abbrev pub claim_all : ℕ → List (ℕ × Owner) → View → View
claim_all n [] v = v
claim_all n (p ∷ ps) v = claim_all n ps (with_record v (claim_of p.0 p.1 (bit_at n (p.0 % 64) == 0)))

-- the mark of each block in turn
abbrev pub mark_all : List (ℕ × Owner) → View → View
mark_all [] v = v
mark_all (p ∷ ps) v = mark_all ps (with_mark v p.0)

-- the blocks rise, from lo on and below hi
abbrev pub Rises : ℕ → ℕ → List (ℕ × Owner) → Type 0
Rises lo hi [] = Unit {0}
Rises lo hi (p ∷ ps) = (lo ≤ p.0) × (p.0 < hi) × Rises (p.0 + 1) hi ps

-- each block has a lost claim that is not marked, when its turn comes
abbrev pub AreUnmarked : List (ℕ × Owner) → View → Type 0
AreUnmarked [] v = Unit {0}
AreUnmarked (p ∷ ps) v = (0 < count_by (is_unmarked p.0) v.records) × AreUnmarked ps (with_mark v p.0)

-- whether the claim wins, where the word found is n
abbrev pub is_free : ℕ → ℕ × Owner → Bool
is_free n p = bit_at n (p.0 % 64) == 0

-- the records of the claims, where the word found is n
abbrev pub claims_in : ℕ → List (ℕ × Owner) → List Record
claims_in n ps = map (λ p. claim_of p.0 p.1 (is_free n p)) ps

-- the claims that lose, where the word found is n
abbrev pub lost_in : ℕ → List (ℕ × Owner) → List (ℕ × Owner)
lost_in n [] = []
lost_in n (p ∷ ps) = if is_free n p then lost_in n ps else p ∷ lost_in n ps

-- the records of the claims, once the lost ones are marked
abbrev pub settle : ℕ → List (ℕ × Owner) → List Record
settle n [] = []
settle n (p ∷ ps) = record { block = p.0; owner = p.1; won = is_free n p; marked = not (is_free n p) } ∷ settle n ps

-- ---- what a claim of a run adds

-- a record for each of the pairs, in order, the lost ones marked, and nothing else
abbrev pub Adds : List (ℕ × Owner) → View → View → Type 0
Adds ps v w = (w.seats ≡ v.seats) × (w.numbers ≡ v.numbers) × ((added : List Record) × (w.records ≡ v.records ++ added) × (map pair_of added ≡ ps) × All Settled added)
