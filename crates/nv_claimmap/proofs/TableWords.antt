-- Where the words of the two sets stand among those of the table.
use Rattle.std.proofs.Common.{◌≡◌, ℕ, ◌+◌, ◌-◌, ◌*◌, ◌<◌, List, [], ◌∷◌, ◌++◌, length, get_or, set, sym, refl, ap, ◌∙◌, arith, replicate}
use Rattle.std.proofs.lemmas.List.{append_assoc, append-nil, length-append, get_or_append_left, get_or-append-add, set-append_left, set-append_right, replicate-append-replicate}
use Rattle.nv_claimmap.specs.Rule.{idle, table_of}

-- a stretch of a list, read and written at one place
module _ (front mid back words : List ℕ) (are : words ≡ front ++ (mid ++ back)) (n word k : ℕ) (long : length front ≡ n) (here : word ≡ n + k) (inside : k < length mid) where
  -- what is read
  get_in : get_or words word 0 ≡ get_or mid k 0
  get_in = let e : word ≡ length front + k = omega arith in
      ap (λ ws. get_or ws word 0) are ∙ (ap (λ i. get_or (front ++ (mid ++ back)) i 0) e ∙ (get_or-append-add front (mid ++ back) k 0 ∙ get_or_append_left mid back 0 k inside))

  -- what is written
  set_in : (x : ℕ) → set words word x ≡ front ++ (set mid k x ++ back)
  set_in x = let e : word ≡ length front + k = omega arith in let rest : (length front + k) - length front ≡ k = omega arith in
      ap (λ ws. set ws word x) are ∙ (ap (λ i. set (front ++ (mid ++ back)) i x) e
      ∙ (set-append_right front (mid ++ back) (length front) (length front + k) x refl (omega arith) ∙ ap (λ ws. front ++ ws) (ap (λ i. set (mid ++ back) i x) rest ∙ set-append_left mid back k x inside)))

-- what stands before the second set
pub before_second : ℕ → List ℕ → List ℕ
before_second cursor first = cursor ∷ (idle ++ (first ++ idle))

-- the second set ends the table
pub second_last : (cursor : ℕ) (first second : List ℕ) → table_of cursor first second ≡ before_second cursor first ++ (second ++ [])
unfolding before_second
second_last cursor first second = sym (ap (λ ws. cursor ∷ ws) (append_assoc idle (first ++ idle) (second ++ [])
    ∙ ap (λ ws. idle ++ ws) (append_assoc first idle (second ++ []) ∙ ap (λ ws. first ++ (idle ++ ws)) (append-nil second))))

-- and begins there
pub before_long : (cursor : ℕ) (first : List ℕ) → length (before_second cursor first) ≡ length first + 31
unfolding before_second
before_long cursor first = let a : length (first ++ idle) ≡ length first + 15 = length-append first idle in omega arith

module _ (words first second : List ℕ) (cursor : ℕ) (are : words ≡ table_of cursor first second) (word k : ℕ) where
  -- a word of the first set is read
  pub first_get : word ≡ 16 + k → k < length first → get_or words word 0 ≡ get_or first k 0
  first_get here inside = get_in (cursor ∷ idle) first (idle ++ second) words are 16 word k refl here inside

  -- and written
  pub first_set : (x : ℕ) → word ≡ 16 + k → k < length first → set words word x ≡ table_of cursor (set first k x) second
  first_set x here inside = set_in (cursor ∷ idle) first (idle ++ second) words are 16 word k refl here inside x

  -- a word of the second set is read
  pub second_get : word ≡ (length first + 31) + k → k < length second → get_or words word 0 ≡ get_or second k 0
  second_get here inside = get_in (before_second cursor first) second [] words (are ∙ second_last cursor first second) (length first + 31) word k (before_long cursor first) here inside

  -- and written
  pub second_set : (x : ℕ) → word ≡ (length first + 31) + k → k < length second → set words word x ≡ table_of cursor first (set second k x)
  second_set x here inside = set_in (before_second cursor first) second [] words (are ∙ second_last cursor first second) (length first + 31) word k (before_long cursor first) here inside x
      ∙ sym (second_last cursor first (set second k x))

-- a table of zeros is that of a cursor at 0 and two empty sets of n words
pub zeros : (n : ℕ) → replicate (2 * n + 31) 0 ≡ table_of 0 (replicate n 0) (replicate n 0)
zeros n = ap (λ k. replicate k 0) (let d : 2 * n + 31 ≡ 16 + (n + (15 + n)) = omega arith in d)
    ∙ (sym (replicate-append-replicate {A = ℕ} 16 (n + (15 + n)) 0) ∙ ap (λ ws. 0 ∷ (idle ++ ws)) (sym (replicate-append-replicate {A = ℕ} n (15 + n) 0) ∙ ap (λ ws. replicate n 0 ++ ws) (sym (replicate-append-replicate {A = ℕ} 15 n 0))))
