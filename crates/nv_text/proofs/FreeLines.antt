-- The lines of the free blocks, one CPU more.
use Rattle.std.proofs.Common.{◌≡◌, ℕ, ◌+◌, ◌<◌, List, [], ◌∷◌, ◌++◌, length, get_or, take, map, flat_map, sym, ap, ◌∙◌, arith, append-nil, append_assoc}
use Rattle.std.proofs.lemmas.List.{take_more, map_push, length-map, length-take-le}
use Rattle.std.proofs.lemmas.Grind.{flat_map-append}
use Rattle.std.specs.List.{enumerate_from}
use Rattle.nv_super.specs.declared.owners.Run.{Run}
use Rattle.nv_text.specs.Free.{free_line, free_lines}

-- one list more has the number that follows
enumerate_from-push : (n : ℕ) (pools : List (List Run)) (runs : List Run) (last : ℕ) → n + length pools ≡ last → enumerate_from n (pools ++ runs ∷ []) ≡ enumerate_from n pools ++ (last, runs) ∷ []
enumerate_from-push n [] runs last e = let here : n ≡ last = omega arith in ap {B = List (ℕ × List Run)} (λ k. (k, runs) ∷ []) here
enumerate_from-push n (p ∷ pools) runs last e = ap (λ rest. (n, p) ∷ rest) (enumerate_from-push (n + 1) pools runs last (omega arith))

-- the line of the last CPU stands at the end
free_lines-push : (pools : List (List Run)) (runs : List Run) (last : ℕ) → length pools ≡ last → free_lines (pools ++ runs ∷ []) ≡ free_lines pools ++ free_line last runs
free_lines-push pools runs last e =
    let text : ℕ × List Run → List ℕ = λ x. free_line x.0 x.1 in
    ap (flat_map text) (enumerate_from-push 0 pools runs last (omega arith)) ∙ flat_map-append text (enumerate_from 0 pools) ((last, runs) ∷ [])
    ∙ ap (λ rest. free_lines pools ++ rest) (append-nil (free_line last runs))

-- the lines of the first CPUs, and that of the next
pub free_lines-take : {X : Type 0} (items : X → List Run) (pools : List X) (cpu : ℕ) (runs : X) → cpu < length pools → runs ≡ get_or pools cpu runs
    → free_lines (map items (take (cpu + 1) pools)) ≡ free_lines (map items (take cpu pools)) ++ free_line cpu (items runs)
free_lines-take items pools cpu runs inside here =
    let more : take (cpu + 1) pools ≡ take cpu pools ++ runs ∷ [] = take_more pools cpu runs inside ∙ ap (λ x. take cpu pools ++ x ∷ []) (sym here) in
    let counted : length (map items (take cpu pools)) ≡ cpu = length-map (take cpu pools) items ∙ length-take-le cpu pools (omega arith) in
    ap (λ front. free_lines (map items front)) more ∙ ap free_lines (map_push items (take cpu pools) runs) ∙ free_lines-push (map items (take cpu pools)) (items runs) cpu counted

-- two texts that were added one after the other
pub added_both : (start middle end first second : List ℕ) → middle ≡ start ++ first → end ≡ middle ++ second → end ≡ start ++ (first ++ second)
added_both start middle end first second p q = q ∙ ap (λ front. front ++ second) p ∙ append_assoc start first second
