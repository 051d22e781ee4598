-- The order in which `append` puts the values of two lists.
use Rattle.std.proofs.Common.{◌≡◌, ℕ, ◌*◌, ◌/◌, ◌<◌, List, [], ◌∷◌, ◌++◌, length, map, take, drop, reverse, refl, sym, ap, subst, ◌∙◌, arith, append_assoc, length-append}
use Rattle.std.specs.List.Sorted.{IsPermutation}
use Rattle.std.proofs.lemmas.List.{length-map, drop-map, map-append, reverse-append, take-append-drop, take-map}
use Rattle.std.proofs.lemmas.List.Sorted.{IsPermutation-append_comm, IsPermutation-append_left}
use Rattle.std.proofs.Math.Seq.{drop-append_seam, take-append_seam}
use Rattle.nv_numbered.specs.Chunked.{by_chunks}

module _ {X : Type 0} where
  -- the last of the values that stand last first goes to the end
  pub first_moves : (old rest : List X) (x : X) → (old ++ x ∷ []) ++ reverse rest ≡ old ++ reverse (rest ++ x ∷ [])
  first_moves old rest x = rw (append_assoc old (x ∷ []) (reverse rest), reverse-append rest (x ∷ [])) refl

  -- full chunks and fewer values than fill one, put to other values
  pub by_chunks-parts : (mine front rest : List X) (k : ℕ) → length front ≡ 256 * k → length rest < 256 → by_chunks mine (front ++ rest) ≡ (front ++ mine) ++ rest
  by_chunks-parts mine front rest k full few =
      let at : 256 * (length (front ++ rest) / 256) ≡ length front = omega (arith, length-append front rest) in
      rw (at, take-append_seam front rest, drop-append_seam front rest) (sym (append_assoc front mine rest))

  -- the values of both lists, chunk by chunk, are those of one behind the other
  pub by_chunks-permutes : (mine other : List X) → IsPermutation (mine ++ other) (by_chunks mine other)
  by_chunks-permutes mine other =
      let at = 256 * (length other / 256) in
      subst (λ l. IsPermutation (mine ++ l) (by_chunks mine other)) (take-append-drop at other)
      (rw (← append_assoc mine (take at other) (drop at other), ← append_assoc (take at other) mine (drop at other))
      (IsPermutation-append_left (drop at other) (mine ++ take at other) (take at other ++ mine) (IsPermutation-append_comm mine (take at other))))

-- what is made of each value stands in the same order
pub map-by_chunks : {X Y : Type 0} (f : X → Y) (mine other : List X) → map f (by_chunks mine other) ≡ by_chunks (map f mine) (map f other)
map-by_chunks f mine other =
    let at = 256 * (length other / 256) in
    rw (length-map other f, take-map f at other, drop-map f at other)
    (map-append f (take at other) (mine ++ drop at other) ∙ ap (λ l. map f (take at other) ++ l) (map-append f mine (drop at other)))
