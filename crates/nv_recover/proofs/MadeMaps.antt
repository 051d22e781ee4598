-- The sets that are made for claims.
use Rattle.std.proofs.Common.{◌≡◌, ℕ, ◌*◌, ◌<◌, ◌≤◌, List, [], ◌∷◌, ◌++◌, length, take, refl, ap, ◌∙◌, subst, arith}
use Rattle.std.specs.List.{All}
use Rattle.nv_blockset.specs.BlockSet.{words_for}
use Rattle.nv_super.specs.declared.owners.Owner.{Owner}
use Rattle.nv_outcome.specs.Parts.{AreMaps}
use Rattle.nv_recover.specs.Scanned.{Fits}

take_front : (xs ys : List ℕ) → take (length xs) (xs ++ ys) ≡ xs
take_front [] ys = refl
take_front (x ∷ xs) ys = ap (λ (zs : List ℕ). x ∷ zs) (take_front xs ys)

whole : (len : ℕ) (xs ys : List ℕ) → length xs ≡ len → take len (xs ++ ys) ≡ xs
whole len xs ys is = subst (λ (n : ℕ). take n (xs ++ ys) ≡ xs) is (take_front xs ys)

-- as many words have a bit for each block
pub covers : (blocks words : ℕ) → words ≡ words_for blocks → blocks ≤ 64 * words
covers blocks words is = omega (arith, is)

pub within_cover : (blocks : ℕ) (claims : List (ℕ × Owner)) (first second : List ℕ) → All (λ (x : ℕ × Owner). x.0 < blocks) claims → blocks ≤ 64 * length first → blocks ≤ 64 * length second
    → All (Fits first second) claims
within_cover blocks claims first second within one two = λ k d less. (let w = within k d less in (omega (arith, w, one), omega (arith, w, two)))

-- the same, told of what is the same
pub within_same : (claims : List (ℕ × Owner)) {first second first' second' : List ℕ} → first' ≡ first → second' ≡ second → All (Fits first second) claims
    → All (Fits first' second') claims
within_same claims one two within = rw (one, two) within

pub maps_same : (claims : List (ℕ × Owner)) {first second first' second' : List ℕ} → first' ≡ first → second' ≡ second → AreMaps claims first second → AreMaps claims first' second'
maps_same claims one two maps = rw (one, two) maps

-- the sets are put back whole
pub maps_back : (claims : List (ℕ × Owner)) (one two : ℕ) (first second x y : List ℕ) → AreMaps claims first second → length first ≡ one → length second ≡ two → AreMaps claims (take one (first ++ x)) (take two (second ++ y))
maps_back claims one two first second x y maps p q = rw (whole one first x p, whole two second y q) maps

pub length_back : (one : ℕ) (first x : List ℕ) → length first ≡ one → length (take one (first ++ x)) ≡ one
length_back one first x p = ap length (whole one first x p) ∙ p

-- sets that are as long have it too
pub fits_as_long : (claims : List (ℕ × Owner)) (first second first' second' : List ℕ) → (length first' ≡ length first) × (length second' ≡ length second) → All (Fits first second) claims → All (Fits first' second') claims
fits_as_long claims first second first' second' long within = rw (long.0, long.1) within
