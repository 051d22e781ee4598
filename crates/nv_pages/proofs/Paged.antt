-- Pages of a file in blocks that were read.
use Rattle.std.proofs.Common.{◌≡◌, ◌∙◌, ℕ, zero, suc, ◌+◌, ◌-◌, ◌*◌, ◌/◌, ◌%◌, ◌<◌, ◌≤◌, List, [], ◌∷◌, ◌++◌, length, drop, get_or, map, Option, Some, None, sym, ap, subst, arith, length-drop, replicate, refl}
use Rattle.std.specs.List.{range_with_len}
use Rattle.std.proofs.lemmas.List.{ext_get_or, get_or-drop, get_or-replicate, length-replicate}
use Rattle.std.proofs.lemmas.List.FromFn.{get_or-map-range_with_len, length-map-range_with_len}
use Rattle.byteorder.specs.Endian.{little_number}
use Rattle.nv_region.specs.Region.{Region, region_of, word}
use Rattle.nv_region.proofs.Bytes.{size_of_bytes}
use Rattle.nv_metadata.specs.Blocks.{AreBytesAt}
use Rattle.nv_metadata.proofs.Shown.{word_read}
use Rattle.nv_radix.specs.Pages.{Pages, block_at}
use Rattle.nv_mounted.specs.Bytes.{byte_in}
use Rattle.nv_bytes.specs.Bytes.{file_byte, byte_of_word, LieInside}
use Rattle.nv_bytes.proofs.Words.{byte_read}

module _ (image given : List ℕ) (block : ℕ) (are : AreBytesAt image (4096 * block) given) (whole : length given % 4096 ≡ 0) (small : (i : ℕ) → get_or given i 0 < 256) where
  -- a byte that was read is that of the block's file
  byte_given : (i page b : ℕ) → i < length given → b ≡ block + i / 4096 → byte_in (region_of image) (Some b) (4096 * page + i) ≡ get_or given i 0
  byte_given i page b low is =
      let R = region_of image in
      let from = i / 8 * 8 in
      let place : b * 4096 + (4096 * page + i) % 4096 / 8 * 8 ≡ 4096 * block + from = omega (arith, is) in
      let of : (4096 * page + i) % 8 ≡ i % 8 = omega arith in
      let read : little_number 8 (drop from given) ≡ word R (4096 * block + from) = word_read image given (4096 * block) from are (omega arith) (omega arith) (omega (arith, whole, low)) in
      ap (λ (a : ℕ). byte_of_word (word R a) ((4096 * page + i) % 8)) place
      ∙ ap (byte_of_word (word R (4096 * block + from))) of
      ∙ byte_read (drop from given) (word R (4096 * block + from)) (i % 8) (let n = length-drop from given in omega (arith, n, whole, low))
      (λ j. subst (λ (x : ℕ). x < 256) (sym (get_or-drop from given j 0)) (small (from + j))) (sym read) (omega arith)
      ∙ get_or-drop from given (i % 8) 0
      ∙ ap (λ (j : ℕ). get_or given j 0) (let e : from + i % 8 ≡ i = omega arith in e)

  -- so what was read is the pages whose blocks lie side by side
  pub run_given : (index : Pages) (page : ℕ) → ((k : ℕ) → 4096 * k < length given → block_at index (page + k) ≡ Some (block + k)) → given ≡ map (file_byte (region_of image) index) (range_with_len (4096 * page) (length given))
  run_given index page run =
      let f = file_byte (region_of image) index in
      ext_get_or 0 _ _ (sym (length-map-range_with_len f (4096 * page) (length given))) (λ i low.
      let on : (4096 * page + i) / 4096 ≡ page + i / 4096 = omega arith in
      let at : block_at index ((4096 * page + i) / 4096) ≡ Some (block + i / 4096) = ap (block_at index) on ∙ run (i / 4096) (omega (arith, low)) in
      sym (byte_given i page (block + i / 4096) low refl)
      ∙ sym (ap (λ (o : Option ℕ). byte_in (region_of image) o (4096 * page + i)) at)
      ∙ sym (get_or-map-range_with_len f (4096 * page) (length given) i (4096 * page + i) 0 low refl))

-- bytes in front of others are small
pub small_front : (xs ys : List ℕ) → ((i : ℕ) → get_or (xs ++ ys) i 0 < 256) → (i : ℕ) → get_or xs i 0 < 256
small_front [] ys small i = omega arith
small_front (x ∷ xs) ys small zero = small 0
small_front (x ∷ xs) ys small (suc i) = small_front xs ys (λ j. small (suc j)) i

-- the last block of a run lies inside an image, and so do all
pub run_inside : (image : List ℕ) (index : Pages) (page block run : ℕ) → LieInside (region_of image) index → 0 < run → ((k : ℕ) → k < run → block_at index (page + k) ≡ Some (block + k)) → 4096 * block + 4096 * run ≤ length image
run_inside image index page block run inside some each =
    let last = inside (page + (run - 1)) (block + (run - 1)) (each (run - 1) (omega (arith, some))) in
    let size = size_of_bytes image in
    omega (arith, last, size, some)

-- a page without a block is zeros
pub hole : (R : Region) (index : Pages) (page : ℕ) → block_at index page ≡ None → map (file_byte R index) (range_with_len (4096 * page) 4096) ≡ replicate 4096 0
hole R index page none = ext_get_or 0 _ _ (length-map-range_with_len (file_byte R index) (4096 * page) 4096 ∙ sym (length-replicate {A = ℕ} 4096 0)) (λ i low.
    let inside : i < 4096 = subst (λ (n : ℕ). i < n) (length-map-range_with_len (file_byte R index) (4096 * page) 4096) low in
    let on : (4096 * page + i) / 4096 ≡ page = omega (arith, inside) in
    get_or-map-range_with_len (file_byte R index) (4096 * page) 4096 i (4096 * page + i) 0 inside refl
    ∙ ap (λ (o : Option ℕ). byte_in R o (4096 * page + i)) (ap (block_at index) on ∙ none)
    ∙ sym (get_or-replicate 4096 i 0 0 inside))
