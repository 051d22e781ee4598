-- Which lengths a region can have, by numbers.
use Rattle.std.proofs.Common.{◌≡◌, ◌≢◌, ℕ, ◌<◌, ◌/◌, ◌%◌, ◌⊎◌, inl, inr, [], replicate, arith}
use Rattle.std.proofs.Math.ListN.{length-replicate}
use Rattle.nv_journal.specs.Region.{Region, size}
use Rattle.nv_super.specs.Layout.{most_blocks}
use Rattle.nv_image_files.specs.Images.{IsRegionLength}

abbrev IsBad : ℕ → Type 0
IsBad bytes = (bytes % 4096 ≢ 0) ⊎ ((bytes / 4096 < 8) ⊎ (most_blocks < bytes / 4096))

bad : (bytes : ℕ) → IsBad bytes → IsRegionLength bytes → ⊥
bad bytes (inl odd) good = odd good.0
bad bytes (inr (inl short)) good = omega arith
bad bytes (inr (inr long)) good = omega arith

good : (bytes : ℕ) → (IsBad bytes → ⊥) → IsRegionLength bytes
good bytes h =
    let whole : bytes % 4096 ≢ 0 → ⊥ = λ odd. h (inl odd) in
    let least : bytes / 4096 < 8 → ⊥ = λ short. h (inr (inl short)) in
    let most : most_blocks < bytes / 4096 → ⊥ = λ long. h (inr (inr long)) in
    (grind arith, grind arith, grind arith)

-- a region of so many bytes
of_length : ℕ → Region
of_length bytes = record { words = []; rest = replicate bytes 0 }

its_size : (bytes : ℕ) → size (of_length bytes) ≡ bytes
unfolding of_length
its_size bytes = omega (arith, length-replicate {A = ℕ} bytes 0)

-- no region has such a length, since one would be refused
pub refused_length : (bytes : ℕ) → ((R : Region) → size R ≡ bytes → IsBad (size R)) → IsRegionLength bytes → ⊥
refused_length bytes refuses = bad bytes (rw (its_size bytes) at (refuses (of_length bytes) (its_size bytes)))

-- one may have it, since it would not be refused
pub taken_length : (bytes : ℕ) → ((R : Region) → size R ≡ bytes → IsBad (size R) → ⊥) → IsRegionLength bytes
taken_length bytes takes = good bytes (rw (its_size bytes) at (takes (of_length bytes) (its_size bytes)))
