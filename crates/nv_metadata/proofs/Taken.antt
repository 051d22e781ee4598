-- A table that takes places of another one: each block has its own piece there, or that of the other one.
use Rattle.std.proofs.Common.{◌≡◌, inl, inr, ◌+◌, ◌<◌, ◌≤◌, ℕ, true, false, nat_le, List, [], ◌++◌, length, get_or, refl, sym, ap, ◌∙◌, subst, arith, length-append}
use Rattle.std.proofs.lemmas.Bool.{cases_lt}
use Rattle.std.proofs.lemmas.Bool.Decides.{nat_tests}
use Rattle.nv_metadata.specs.Memory.{piece_at, piece_of, IsPlaced}
use Rattle.nv_metadata.specs.Places.{nowhere, taken}
use Rattle.nv_metadata.specs.declared.places.Place.{Place}
use Rattle.nv_metadata.proofs.Pieces.{is_below, not_below, piece_stays, placed_stays, part_stays, behind, piece_behind, stands_behind}

pub is_to : (a b : ℕ) → a ≤ b → nat_le a b ≡ true
is_to a b h = grind (nat_tests, arith)

pub not_to : (a b : ℕ) → b < a → nat_le a b ≡ false
not_to a b h = grind (nat_tests, arith)

module _ (from before b : ℕ) (here there : Place) where
  pub taken_early : b < from → taken from before b here there ≡ here
  taken_early early = rw (not_to from b early) refl

  pub taken_less : from ≤ b → there.known ≤ here.known → taken from before b here there ≡ here
  taken_less late less = rw (is_to from b late, not_below here.known there.known less) refl

  pub taken_more : from ≤ b → here.known < there.known → taken from before b here there ≡ record there { part = before + there.part }
  taken_more late more = rw (is_to from b late, is_below here.known there.known more) refl

module _ (places others news : List Place) (parts more : List (List ℕ)) (from : ℕ) (placed : (b : ℕ) → IsPlaced parts (get_or places b nowhere)) (there : (b : ℕ) → IsPlaced more (get_or others b nowhere))
    (are : (b : ℕ) → get_or news b nowhere ≡ taken from (length parts) b (get_or places b nowhere) (get_or others b nowhere)) where
  -- a block that keeps its place
  module _ (b : ℕ) (same : get_or news b nowhere ≡ get_or places b nowhere) where
    pub kept_piece : piece_of news (parts ++ more) b ≡ piece_of places parts b
    kept_piece = ap (piece_at (parts ++ more)) same ∙ piece_stays parts (parts ++ more) (get_or places b nowhere) [] (placed b) (part_stays parts more (get_or places b nowhere) (placed b))

    kept_placed : IsPlaced (parts ++ more) (get_or news b nowhere)
    kept_placed =
        subst (IsPlaced (parts ++ more)) (sym same)
        (placed_stays parts (parts ++ more) (get_or places b nowhere) [] (placed b) (part_stays parts more (get_or places b nowhere) (placed b)) (let l = length-append parts more in omega (arith, l)))

  -- and one that takes the other's
  module _ (b : ℕ) (other : get_or news b nowhere ≡ behind parts more (get_or others b nowhere)) where
    pub taken_piece : piece_of news (parts ++ more) b ≡ piece_of others more b
    taken_piece = ap (piece_at (parts ++ more)) other ∙ piece_behind parts more (get_or others b nowhere)

    taken_placed : IsPlaced (parts ++ more) (get_or news b nowhere)
    taken_placed = subst (IsPlaced (parts ++ more)) (sym other) (stands_behind parts more (get_or others b nowhere) (there b))

  pub early_place : (b : ℕ) → b < from → get_or news b nowhere ≡ get_or places b nowhere
  early_place b early = are b ∙ taken_early from (length parts) b (get_or places b nowhere) (get_or others b nowhere) early

  pub less_place : (b : ℕ) → from ≤ b → (get_or others b nowhere).known ≤ (get_or places b nowhere).known → get_or news b nowhere ≡ get_or places b nowhere
  less_place b late less = are b ∙ taken_less from (length parts) b (get_or places b nowhere) (get_or others b nowhere) late less

  pub more_place : (b : ℕ) → from ≤ b → (get_or places b nowhere).known < (get_or others b nowhere).known → get_or news b nowhere ≡ behind parts more (get_or others b nowhere)
  more_place b late many = are b ∙ taken_more from (length parts) b (get_or places b nowhere) (get_or others b nowhere) late many

  -- each has a place
  pub all_placed : (b : ℕ) → IsPlaced (parts ++ more) (get_or news b nowhere)
  all_placed b = elim (cases_lt b from) [
    | inl early ↦ kept_placed b (early_place b early)
    | inr late ↦ elim (cases_lt (get_or places b nowhere).known (get_or others b nowhere).known) [
      | inl many ↦ taken_placed b (more_place b late many)
      | inr less ↦ kept_placed b (less_place b late less)
    ]
  ]
