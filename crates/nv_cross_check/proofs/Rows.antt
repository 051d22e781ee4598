-- The rows, and the same with their names listed.
use Rattle.std.proofs.Common.{◌≡◌, ℕ, inl, inr, List, [], ◌∷◌, map, refl, sym, subst, arith}
use Rattle.std.specs.List.{Contains, AllZip}
use Rattle.nv_super.proofs.Rising.{Contains-cons, Contains-head, Contains-tail}
use Rattle.nv_scan.specs.declared.piece.Row.{Row}
use Rattle.nv_numbered.specs.Values.{AreNumbersBelow}
use Rattle.nv_cross_check.specs.Listing.{Listing}
use Rattle.nv_cross_check.specs.Listings.{AreListings, inodes_of}

-- each row is listed
pub listing_of : {A B : Type 0} (R : A → B → Type 0) (xs : List A) (ys : List B) (x : A) → AllZip R xs ys → Contains xs x → (y : B) × Contains ys y × R x y
listing_of R [] [] x h c = absurd (omega (arith, c.1))
listing_of R [] (b ∷ ys) x h c = absurd h
listing_of R (a ∷ xs) [] x h c = absurd h
listing_of {A} {B} R (a ∷ xs) (b ∷ ys) x h c = elim (Contains-cons a xs x c) [
  | inl w ↦ (b, Contains-head b ys, (let P : A → Type 0 = λ z. R z b in subst P (sym w) h.0))
  | inr w ↦ (let r = listing_of R xs ys x h.1 w in (r.0, Contains-tail b ys r.0 r.1, r.2))
]

-- each listing is a row's
pub row_of : {A B : Type 0} (R : A → B → Type 0) (xs : List A) (ys : List B) (y : B) → AllZip R xs ys → Contains ys y → (x : A) × Contains xs x × R x y
row_of R [] [] y h c = absurd (omega (arith, c.1))
row_of R [] (b ∷ ys) y h c = absurd h
row_of R (a ∷ xs) [] y h c = absurd h
row_of {A} {B} R (a ∷ xs) (b ∷ ys) y h c = elim (Contains-cons b ys y c) [
  | inl w ↦ (a, Contains-head a xs, (let P : B → Type 0 = λ z. R a z in subst P (sym w) h.0))
  | inr w ↦ (let r = row_of R xs ys y h.1 w in (r.0, Contains-tail a xs r.0 r.1, r.2))
]

inodes_same : (rows : List Row) (listings : List Listing) → AreListings rows listings → inodes_of listings ≡ map (λ (r : Row). r.inode) rows
inodes_same [] [] h = refl
inodes_same [] (l ∷ listings) h = absurd h
inodes_same (r ∷ rows) [] h = absurd h
inodes_same (r ∷ rows) (l ∷ listings) h = λ i. h.0.inode i ∷ inodes_same rows listings h.1 i

-- the numbers of the rows stay apart
pub listed_apart : (limit : ℕ) (rows : List Row) (listings : List Listing) → AreListings rows listings → AreNumbersBelow limit (map (λ (r : Row). r.inode) rows) → AreNumbersBelow limit (inodes_of listings)
listed_apart limit rows listings h apart = subst (AreNumbersBelow limit) (sym (inodes_same rows listings h)) apart
