-- A memory that holds nothing behind its front.
use Rattle.std.proofs.Common.{◌≡◌, inl, inr, ℕ, Bool, List, [], ◌∷◌, length, get_or, replicate, refl, ap, ◌∙◌, subst, sym, arith}
use Rattle.std.proofs.lemmas.Bool.{cases_lt}
use Rattle.std.proofs.lemmas.List.{get_or_past, get_or-replicate, length-replicate}
use Rattle.nv_metadata.specs.Memory.{held, piece_at, piece_of, IsPlaced}
use Rattle.nv_metadata.specs.Places.{nowhere}
use Rattle.nv_metadata.specs.declared.places.Place.{Place}
use Rattle.nv_metadata.proofs.Together.{known, seen, held_at}

module _ (places : List Place) (n : ℕ) (blank : places ≡ replicate n nowhere) where
  -- no block has a place
  blank_at : (b : ℕ) → get_or places b nowhere ≡ nowhere
  blank_at b = ap (λ (l : List Place). get_or l b nowhere) blank ∙ elim (cases_lt b n) [
    | inl within ↦ get_or-replicate n b nowhere nowhere within
    | inr past ↦ get_or_past (replicate n nowhere) b nowhere (omega (arith, past, length-replicate {A = Place} n nowhere))
  ]

  pub no_bytes : (parts : List (List ℕ)) (b : ℕ) → piece_of places parts b ≡ []
  no_bytes parts b = ap (piece_at parts) (blank_at b)

  pub none_held : (front : List ℕ) (blocks : ℕ) (burnt : Bool) (parts : List (List ℕ)) (b : ℕ) → held (seen front blocks burnt places parts) b ≡ 0
  none_held front blocks burnt parts b = held_at front blocks burnt places parts b ∙ ap known (blank_at b)

  -- each stands nowhere in the first part
  pub placed_first : (parts : List (List ℕ)) → parts ≡ [] ∷ [] → (b : ℕ) → IsPlaced parts (get_or places b nowhere)
  placed_first parts is b = subst (IsPlaced parts) (sym (blank_at b)) (record {
    whole = refl;
    among = (let n = ap length is in omega (arith, n));
    inside = omega arith;
  })
