-- What the first bytes of a file tell of it.
use Rattle.std.proofs.Common.{◌≡◌, ◌≤◌, ◌<◌, ◌+◌, ◌/◌, ◌%◌, ℕ, List, ◌++◌, length, take, drop, inl, inr, ap, sym, ◌∙◌, arith, length-take, length-drop}
use Rattle.std.proofs.lemmas.Bool.{cases_lt}
use Rattle.std.proofs.lemmas.List.{take-take, take_all, take-append-drop, drop-append-le}
use Rattle.byteorder.specs.Endian.{little_number}
use Rattle.byteorder.specs.Numbers.{little_from-append}
use Rattle.nv_region.specs.Region.{region_of, size, word}
use Rattle.nv_region.proofs.Bytes.{word_of_bytes, size_of_bytes}
use Rattle.nv_super.specs.Super.{IsRefused, rank}
use Rattle.nv_super.specs.declared.superblock.SuperFault.{SuperFault}
use Rattle.nv_super.specs.declared.superblock.SuperFault.TheVariants.{Length}
use Rattle.nv_image_files.specs.Superblocks.{Begins, known_content}
use Rattle.nv_image_files.proofs.Known.{known_by_front}

no_longer : (file : List ℕ) (count : ℕ) (first : List ℕ) → Begins file count first → length first ≤ length file
no_longer file count first begins = omega (arith, ap length begins.front, length-take (length first) file)

-- a file of a region's length begins with so many bytes
pub long_enough : (file : List ℕ) (count : ℕ) (first : List ℕ) (fault : SuperFault) → Begins file count first → IsRefused (region_of file) fault → 1 < rank fault → 1088 ≤ length first
long_enough file count first fault begins refused later = elim (cases_lt (size (region_of file) / 4096) 8) [
  | inl few ↦ absurd (refused.first Length later (inr (inl few)))
  | inr more ↦ omega (arith, more, size_of_bytes file, begins.as_long, begins.enough)
]

-- a word among them is that of the region
pub word_first : (file : List ℕ) (count : ℕ) (first : List ℕ) (at : ℕ) → Begins file count first → at % 8 ≡ 0 → at + 8 ≤ length first → little_number 8 (drop at first) ≡ word (region_of file) at
word_first file count first at begins aligned within =
    let behind : List ℕ = drop (length first) file in
    let joined : file ≡ first ++ behind = sym (take-append-drop (length first) file) ∙ ap (λ (l : List ℕ). l ++ behind) (sym begins.front) in
    sym (word_of_bytes file at aligned (omega (arith, within, no_longer file count first begins))
    ∙ ap (λ (l : List ℕ). little_number 8 (drop at l)) joined
    ∙ ap (little_number 8) (drop-append-le at first behind (omega (arith, within)))
    ∙ little_from-append 8 (drop at first) behind (omega (arith, within, length-drop at first)))

-- so a word that was read there is that of the region, where the region is refused for its superblock
pub told_first : (file : List ℕ) (count : ℕ) (first : List ℕ) (fault : SuperFault) (at x : ℕ) → Begins file count first → IsRefused (region_of file) fault → 1 < rank fault → at % 8 ≡ 0 → at ≤ 40 → (at + 8 ≤ length first → x ≡ little_number 8 (drop at first)) → x ≡ word (region_of file) at
told_first file count first fault at x begins refused later aligned low read =
    let within : at + 8 ≤ length first = omega (arith, low, long_enough file count first fault begins refused later) in
    read within ∙ word_first file count first at begins aligned within

-- the number of its blocks is that of the region
pub blocks_first : (file : List ℕ) (count : ℕ) (first : List ℕ) → Begins file count first → count / 4096 ≡ size (region_of file) / 4096
blocks_first file count first begins = ap (λ (n : ℕ). n / 4096) (sym begins.as_long ∙ sym (size_of_bytes file))

-- its content is recognized by them
pub known_first : (file : List ℕ) (count : ℕ) (first : List ℕ) → Begins file count first → known_content first ≡ known_content file
known_first file count first begins = elim (cases_lt (length first) 1088) [
  | inl few ↦ ap known_content (begins.front ∙ take_all (length first) file (omega (arith, few, begins.as_long, begins.enough)))
  | inr enough ↦ sym (known_by_front first) ∙ ap known_content (ap (take 1088) begins.front ∙ take-take 1088 (length first) file enough) ∙ known_by_front file
]
