-- Heads of rows: of one more row, and of all.
use Rattle.std.proofs.Common.{◌≡◌, ◌≢◌, ℕ, ◌+◌, ◌<◌, ◌≤◌, Bool, true, false, not, nat_lt, IsTrue, ◌↔◌, List, [], ◌∷◌, ◌++◌, length, take, slice_get, Some, None, refl, sym, ap, ◌∙◌, arith, length-take, zero, suc}
use Rattle.std.proofs.lemmas.Bool.{true≢false}
use Rattle.std.proofs.lemmas.Bool.Decides.{nat_tests}
use Rattle.std.proofs.lemmas.List.{length-map, map-append, take_all, take_more}
use Rattle.std.proofs.lemmas.Option.{get_or_from_slice_get}
use Rattle.std.proofs.Math.Seq.{take-append_seam}
use Rattle.nv_names.specs.Names.{Names, name_at}
use Rattle.nv_names.proofs.Listing.{found_in-empty, empty-found_in}
use Rattle.nv_scan.specs.declared.piece.Row.{Row}
use Rattle.nv_scan.specs.declared.row_list.RowHead.{RowHead}
use Rattle.nv_scan.specs.Heads.{head_of, heads_of}

-- heads of the first rows are no more than all rows
pub heads_within : (heads : List RowHead) (rows : List Row) → heads ≡ heads_of (take (length heads) rows) → length heads ≤ length rows
heads_within heads rows are = omega (arith, ap (λ (l : List RowHead). length l) are, length-map (take (length heads) rows) head_of, length-take (length heads) rows)

-- once more rows came behind those that have heads
pub heads_first : (heads : List RowHead) (old more new : List Row) → heads ≡ heads_of old → new ≡ old ++ more → heads ≡ heads_of (take (length heads) new)
heads_first heads old more new are is =
    let long : length heads ≡ length old = ap (λ (l : List RowHead). length l) are ∙ length-map old head_of in
    rw (long, is, take-append_seam old more) are

-- the head of the next row
pub heads_more : (rows : List Row) (i : ℕ) (row : Row) (old new : List RowHead) → i < length rows → slice_get rows i ≡ Some row → new ≡ old ++ head_of row ∷ [] → old ≡ heads_of (take i rows) → new ≡ heads_of (take (i + 1) rows)
heads_more rows i row old new inside is e h =
    e ∙ ap (λ hs. hs ++ head_of row ∷ []) h
    ∙ sym (ap heads_of (take_more rows i row inside ∙ ap (λ (x : Row). take i rows ++ x ∷ []) (get_or_from_slice_get rows i row row is)) ∙ map-append head_of (take i rows) (row ∷ []))

pub heads_all : (rows : List Row) (i : ℕ) (heads : List RowHead) → length rows ≤ i → heads ≡ heads_of (take i rows) → heads ≡ heads_of rows
heads_all rows i heads past are = are ∙ ap heads_of (take_all i rows past)

-- what an index says of having names
pub has_names-is : (names : Names) (b : Bool) → (IsTrue b ↔ ((q : List ℕ) → name_at names q ≡ None)) → not b ≡ nat_lt 0 (length names.names)
has_names-is names true says = let none : length names.names ≡ 0 = empty-found_in names.names (says.0 refl) in rw none refl
has_names-is names false says = grind (arith, nat_tests, some) where
  some : length names.names ≢ 0
  some none = absurd (true≢false (sym (says.1 (found_in-empty names.names none))))

-- a head is that of the row at its place
pub row_of_head : (rows : List Row) (i : ℕ) (head : RowHead) → slice_get (heads_of rows) i ≡ Some head → (row : Row) × (slice_get rows i ≡ Some row) × (head ≡ head_of row)
row_of_head [] i head is = absurd (let none : None ≡ Some head = is in cc)
row_of_head (row ∷ rows) zero head is = (row, refl, cc)
row_of_head (row ∷ rows) (suc i) head is = row_of_head rows i head is
