-- Why a region isn't mounted, by the error of its recovery.
use Rattle.std.proofs.Common.{◌≡◌, inl, inr, ◌<◌, ◌^◌, ℕ, List, length, refl, arith}
use Rattle.nv_region.specs.Region.{Region, region_of, size}
use Rattle.nv_region.proofs.Bytes.{size_of_bytes}
use Rattle.nv_super.proofs.Lengths.{longer_is_refused}
use Rattle.nv_super.specs.declared.superblock.SuperFault.TheVariants as faults
use Rattle.nv_region.specs.declared.memory.RegionRefusal.{RegionRefusal}
use Rattle.nv_region.specs.declared.memory.RegionRefusal.TheVariants as lengths
use Rattle.nv_super.specs.declared.superblock.Super.{Super}
use Rattle.nv_format.specs.Format.{IsFormatted}
use Rattle.nv_lent.specs.WordsState.{region_over}
use Rattle.nova_c.specs.Codes.{RefusesFormat, RefusesMount}

-- more words than a region can have are refused for its length
pub words_refusal : (words : List ℕ) (e : RegionRefusal) (status : ℕ) → (e ≡ lengths.Length → 2 ^ 27 < length words) → (e ≡ lengths.Memory → ⊥)
    → (e ≡ lengths.Length → status ≡ 20) → RefusesMount (region_over words) status
words_refusal words lengths.Length status many never is =
    let long : 2 ^ 27 < length words = many refl in
    inr (faults.Length, is refl, longer_is_refused (region_over words) (omega (arith, long)))
words_refusal words lengths.Memory status many never is = absurd (never refl)

-- more bytes too, and want of memory is said as that
pub bytes_refusal : (bytes : List ℕ) (e : RegionRefusal) (status : ℕ) → (e ≡ lengths.Length → 2 ^ 30 < length bytes) → (e ≡ lengths.Length → status ≡ 20)
    → (e ≡ lengths.Memory → status ≡ 14) → RefusesMount (region_of bytes) status
bytes_refusal bytes lengths.Length status many is memory =
    let long : 2 ^ 30 < length bytes = many refl in
    let whole : size (region_of bytes) ≡ length bytes = size_of_bytes bytes in
    inr (faults.Length, is refl, longer_is_refused (region_of bytes) (omega (arith, long, whole)))
bytes_refusal bytes lengths.Memory status many is memory = inl (memory refl)

-- what was formatted isn't refused for its superblock
pub formatted_refusal : (B old new : Region) (s : Super) (time cpus tables status : ℕ) → IsFormatted old new s time → RefusesMount new status → RefusesFormat B cpus tables status
formatted_refusal B old new s time cpus tables status formatted (inl is) = inl is
formatted_refusal B old new s time cpus tables status formatted (inr refused) = absurd (formatted.super.sound refused.0 refused.2.applies)
