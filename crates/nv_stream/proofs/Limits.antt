-- Bytes that were read up to one byte past a limit.
use Rattle.std.proofs.Common.{◌≡◌, ◌≤◌, ◌+◌, ◌++◌, ◌∙◌, ℕ, List, [], length, take, min, Option, Some, None, IfSome, option_map, ap, arith}
use Rattle.std.proofs.lemmas.List.{length-take, take_all}

-- where no more came than the limit, all came
all_came : (stop limit : ℕ) (bytes read : List ℕ) → stop ≡ limit + 1 → read ≡ take stop bytes → length read ≤ limit → (read ≡ bytes) × (length bytes ≤ limit)
all_came stop limit bytes read past is few =
    let long : length read ≡ min stop (length bytes) = ap length is ∙ length-take stop bytes in
    let short : length bytes ≤ limit = omega arith in
    (is ∙ take_all stop bytes (omega arith), short)

known_came : (known : Option (List ℕ)) (stop limit : ℕ) (read : List ℕ) → stop ≡ limit + 1 → IfSome (option_map (take stop) known) (λ xs. read ≡ xs) → length read ≤ limit
    → IfSome known (λ bytes. (read ≡ bytes) × (length bytes ≤ limit))
known_came None stop limit read past is few = tt
known_came (Some bytes) stop limit read past is few = all_came stop limit bytes read past is few

-- the same of a reader's known bytes, which were read onto the end of nothing
pub read_within : (known seen : Option (List ℕ)) (stop limit : ℕ) (start read : List ℕ) → seen ≡ known → start ≡ [] → stop ≡ limit + 1
    → IfSome (option_map (take stop) seen) (λ xs. read ≡ start ++ xs) → length read ≤ limit → IfSome known (λ bytes. (read ≡ bytes) × (length bytes ≤ limit))
read_within known seen stop limit start read same none past is few =
    let given : IfSome (option_map (take stop) known) (λ xs. read ≡ xs) = rw (same, none) at is in
    known_came known stop limit read past given few
