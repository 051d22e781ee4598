-- A check that is refused before anything is read.
use Rattle.std.proofs.Common.{◌≡◌, ◌^◌, ◌<◌, inl, ℕ, true, List, length, arith}
use Rattle.nv_region.proofs.Bytes.{size_of_bytes}
use Rattle.nv_region.specs.Region.{region_of}
use Rattle.nv_super.specs.Super.{IsRefused}
use Rattle.nv_super.proofs.Lengths.{longer_is_refused}
use Rattle.nv_super.specs.declared.superblock.SuperFault.TheVariants.{Length}
use Rattle.nv_super.specs.FaultText.{super_fault_name}
use Rattle.nv_image_check.specs.Checking.{IsRefusal, IsCheckAs}
use Rattle.nv_image_check.specs.Explained.{IsExplained}
use Rattle.nv_text.specs.declared.output.Output.{Output}
use Rattle.nv_image_check.specs.Workers.{is_worker_count}

-- no region has so many bytes
pub too_long : (bytes : List ℕ) → 2 ^ 30 < length bytes → IsRefused (region_of bytes) Length
too_long bytes long = longer_is_refused (region_of bytes) (let same = size_of_bytes bytes in omega (arith, same, long))

pub long_check : (output : Output) (bytes : List ℕ) (workers : ℕ) (text : List ℕ) (status : ℕ) → is_worker_count workers ≡ true → 2 ^ 30 < length bytes → IsRefusal (super_fault_name Length) text status
    → IsCheckAs output (region_of bytes) workers text status
long_check output bytes workers text status count long said = rw count (inl (Length, too_long bytes long, said))

-- the same of a check with sentences
pub long_explained : (bytes : List ℕ) (workers : ℕ) (text : List ℕ) (status : ℕ) → is_worker_count workers ≡ true → 2 ^ 30 < length bytes → IsRefusal (super_fault_name Length) text status
    → IsExplained (region_of bytes) workers text status
long_explained bytes workers text status count long said = rw count (inl (Length, too_long bytes long, said))
