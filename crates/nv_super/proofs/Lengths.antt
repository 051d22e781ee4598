-- Lengths that no region has.
use Rattle.std.proofs.Common.{◌≡◌, ◌≢◌, ◌⊎◌, ◌^◌, ◌<◌, ◌/◌, ◌%◌, inl, inr, ℕ, zero, suc, refl, arith}
use Rattle.nv_region.specs.Region.{Region, size}
use Rattle.nv_super.specs.declared.superblock.SuperFault.{SuperFault}
use Rattle.nv_super.specs.declared.superblock.SuperFault.TheVariants.{Length, Magic, Version, Cpus, Blocks, Tables, State}
use Rattle.nv_super.specs.Layout.{most_blocks}
use Rattle.nv_super.specs.Super.{Applies, IsRefused, rank}

none_lower : (fault : SuperFault) → rank fault < 1 → ⊥
none_lower Length low = omega (arith, low)
none_lower Magic low = omega (arith, low)
none_lower Version low = omega (arith, low)
none_lower Cpus low = omega (arith, low)
none_lower Blocks low = omega (arith, low)
none_lower Tables low = omega (arith, low)
none_lower State low = omega (arith, low)

-- no fault comes before that of the length
pub length_is_first : (R : Region) → Applies R Length → IsRefused R Length
length_is_first R applies = record { applies = applies; first = λ other low applies. none_lower other low }

-- a length with bytes beside the last block, or of too many blocks
cut_or_long : (beside blocks : ℕ) → (beside ≡ 0 → most_blocks < blocks) → (beside ≢ 0) ⊎ ((blocks < 8) ⊎ (most_blocks < blocks))
cut_or_long zero blocks many = inr (inr (many refl))
cut_or_long (suc beside) blocks many = inl (λ none. omega (arith, none))

-- a region of more than a gibibyte is refused for its length
pub longer_is_refused : (R : Region) → 2 ^ 30 < size R → IsRefused R Length
longer_is_refused R long = length_is_first R (cut_or_long (size R % 4096) (size R / 4096) (λ whole. omega (arith, long, whole)))
