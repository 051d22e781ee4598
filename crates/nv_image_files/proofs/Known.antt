-- What a file holds is recognized by its first bytes.
use Rattle.std.proofs.Common.{◌≡◌, ◌≤◌, ◌<◌, ◌==◌, ◌&&◌, nat_lt, ℕ, true, false, List, [], ◌∷◌, length, take, min, inl, inr, ap, sym, ◌∙◌, arith, length-take, codes, if◌then◌else◌, Some, None}
use lib.Pointwise.{pointwise}
use Rattle.std.proofs.lemmas.Bool.{cases_lt}
use Rattle.std.proofs.lemmas.Bool.Decides.{nat_tests}
use Rattle.std.proofs.lemmas.List.{take-take, get_or-take}
use Rattle.std.specs.List.{slice_index}
use Rattle.nv_image_files.specs.declared.superblock.Content.TheVariants.{Gzip, Xfs, Ext}
use Rattle.nv_image_files.specs.Superblocks.{is_gzip, is_xfs, is_ext, known_content}

-- more than 1081 bytes are there as well among the first 1088
long_front : (n : ℕ) → nat_lt 1081 (min 1088 n) ≡ nat_lt 1081 n
long_front n = elim (cases_lt 1081 n) [
  | inl more ↦ are_more (min 1088 n) (omega arith) ∙ sym (are_more n more)
  | inr few ↦ are_few (min 1088 n) (omega arith) ∙ sym (are_few n few)
] where
  are_more : (n : ℕ) → 1081 < n → nat_lt 1081 n ≡ true
  are_more n more = grind (arith, nat_tests)

  are_few : (n : ℕ) → n ≤ 1081 → nat_lt 1081 n ≡ false
  are_few n few = grind (arith, nat_tests)

same_ext : (bytes : List ℕ) → is_ext (take 1088 bytes) ≡ is_ext bytes
same_ext bytes = λ i. long i && ((first i == 83) && (second i == 239))
  where
    long : nat_lt 1081 (length (take 1088 bytes)) ≡ nat_lt 1081 (length bytes)
    long = ap (nat_lt 1081) (length-take 1088 bytes) ∙ long_front (length bytes)

    first : slice_index (take 1088 bytes) 1080 ≡ slice_index bytes 1080
    first = get_or-take 1088 bytes 1080 0 (omega arith)

    second : slice_index (take 1088 bytes) 1081 ≡ slice_index bytes 1081
    second = get_or-take 1088 bytes 1081 0 (omega arith)

pub known_by_front : (bytes : List ℕ) → known_content (take 1088 bytes) ≡ known_content bytes
known_by_front bytes = λ i. if gzip i then Some Gzip else if xfs i then Some Xfs else if same_ext bytes i then Some Ext else None
  where
    gzip : is_gzip (take 1088 bytes) ≡ is_gzip bytes
    gzip = ap (pointwise (λ a b. a == b) (31 ∷ 139 ∷ [])) (take-take 2 1088 bytes (omega arith))

    xfs : is_xfs (take 1088 bytes) ≡ is_xfs bytes
    xfs = ap (pointwise (λ a b. a == b) (codes "XFSB")) (take-take 4 1088 bytes (omega arith))
