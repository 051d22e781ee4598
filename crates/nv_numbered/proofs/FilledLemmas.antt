-- Values that fill lists of 256 one after another: where each stands, and what a write, a push and a pop change.
use Rattle.std.proofs.Common.{◌≡◌, ℕ, zero, suc, ◌+◌, ◌-◌, ◌*◌, ◌<◌, ◌≤◌, min, List, [], ◌∷◌, ◌++◌, length, take, get_or, set, Some, refl, sym, ap, ◌∙◌, arith, append_assoc, append-nil, length-append}
use Rattle.std.specs.List.{All}
use Rattle.std.proofs.lemmas.List.{get_or_append_left, get_or-append_right, get_or_push, set-append_left, set-append_right, length_push, take-append-le, take_all}
use Rattle.nv_numbered.specs.Filled.{joined, AreFilled}

module _ {X : Type 0} where
  -- what is behind the last value is empty
  joined_none : (lists : List (List X)) (len : ℕ) → AreFilled lists len → len ≡ 0 → joined lists ≡ []
  joined_none [] len filled none = refl
  joined_none (list ∷ lists) len filled none =
      rw (empty list (omega (arith, filled.0)), joined_none lists (len - 256) filled.1 (omega arith)) refl
    where
      empty : (xs : List X) → length xs ≡ 0 → xs ≡ []
      empty [] e = refl
      empty (x ∷ xs) e = absurd (omega arith)

  -- all values are in the lists
  pub length-joined : (lists : List (List X)) (len : ℕ) → AreFilled lists len → length (joined lists) ≡ len
  length-joined [] len filled = sym filled
  length-joined (list ∷ lists) len filled =
      omega (arith, length-append list (joined lists), length-joined lists (len - 256) filled.1, filled.0)

  -- the lists have room for all values
  pub filled_few : (lists : List (List X)) (len : ℕ) → AreFilled lists len → len ≤ 256 * length lists
  filled_few [] len filled = omega (arith, filled)
  filled_few (list ∷ lists) len filled = omega (arith, filled_few lists (len - 256) filled.1)

  -- how many values a list has
  pub length_at : (lists : List (List X)) (len i : ℕ) → AreFilled lists len → length (get_or lists i []) ≡ min (len - 256 * i) 256
  length_at [] len i filled = omega (arith, filled)
  length_at (list ∷ lists) len zero filled = omega (arith, filled.0)
  length_at (list ∷ lists) len (suc i) filled = omega (arith, length_at lists (len - 256) i filled.1)

  -- where a value stands
  pub get_or-joined : (lists : List (List X)) (len i j : ℕ) (d : X) → AreFilled lists len → j < 256 → 256 * i + j < len → get_or (joined lists) (256 * i + j) d ≡ get_or (get_or lists i []) j d
  get_or-joined [] len i j d filled inside within = absurd (omega (arith, filled))
  get_or-joined (list ∷ lists) len zero j d filled inside within =
      let at : 256 * zero + j ≡ j = omega arith in
      rw at (get_or_append_left list (joined lists) d j (omega (arith, filled.0)))
  get_or-joined (list ∷ lists) len (suc i) j d filled inside within =
      let shift : 256 * suc i + j - 256 ≡ 256 * i + j = omega arith in
      get_or-append_right list (joined lists) 256 (256 * suc i + j) d (omega (arith, filled.0)) (omega arith)
      ∙ ap (λ k. get_or (joined lists) k d) shift
      ∙ get_or-joined lists (len - 256) i j d filled.1 inside (omega arith)

  -- a list of the same length
  pub AreFilled-same : (lists : List (List X)) (len i : ℕ) (list : List X) → AreFilled lists len → length list ≡ length (get_or lists i []) → AreFilled (set lists i list) len
  AreFilled-same [] len i list filled same = filled
  AreFilled-same (old ∷ lists) len zero list filled same = (same ∙ filled.0, filled.1)
  AreFilled-same (old ∷ lists) len (suc i) list filled same = (filled.0, AreFilled-same lists (len - 256) i list filled.1 same)

  -- a value is written
  pub joined-write : (lists : List (List X)) (len i j : ℕ) (x : X) → AreFilled lists len → j < 256 → 256 * i + j < len → joined (set lists i (set (get_or lists i []) j x)) ≡ set (joined lists) (256 * i + j) x
  joined-write [] len i j x filled inside within = absurd (omega (arith, filled))
  joined-write (list ∷ lists) len zero j x filled inside within =
      let at : 256 * zero + j ≡ j = omega arith in
      rw at (sym (set-append_left list (joined lists) j x (omega (arith, filled.0))))
  joined-write (list ∷ lists) len (suc i) j x filled inside within =
      let shift : 256 * suc i + j - 256 ≡ 256 * i + j = omega arith in
      ap (λ rest. list ++ rest) (joined-write lists (len - 256) i j x filled.1 inside (omega arith)
      ∙ ap (λ k. set (joined lists) k x) (sym shift))
      ∙ sym (set-append_right list (joined lists) 256 (256 * suc i + j) x (omega (arith, filled.0)) (omega arith))

  -- the last list that has values gets more or less of them
  pub AreFilled-set : (lists : List (List X)) (len after i : ℕ) (list : List X) → AreFilled lists len → i < length lists → 256 * i ≤ len → len ≤ 256 * i + 256 → 256 * i ≤ after → after ≤ 256 * i + 256 → length list ≡ after - 256 * i → AreFilled (set lists i list) after
  AreFilled-set [] len after i list filled inside low high above below is = absurd (omega arith)
  AreFilled-set (old ∷ lists) len after zero list filled inside low high above below is =
      let none : len - 256 ≡ after - 256 = omega arith in
      (omega arith, rw none at filled.1)
  AreFilled-set (old ∷ lists) len after (suc i) list filled inside low high above below is =
      (omega (arith, filled.0), AreFilled-set lists (len - 256) (after - 256) i list filled.1 (omega arith) (omega arith) (omega arith) (omega arith) (omega arith) (omega arith))

  -- a value goes to the end of the last list that has room
  pub joined-push : (lists : List (List X)) (len i : ℕ) (x : X) → AreFilled lists len → i < length lists → 256 * i ≤ len → len < 256 * i + 256 → joined (set lists i (get_or lists i [] ++ x ∷ [])) ≡ joined lists ++ x ∷ []
  joined-push [] len i x filled inside low high = absurd (omega arith)
  joined-push (list ∷ lists) len zero x filled inside low high =
      rw (joined_none lists (len - 256) filled.1 (omega arith), append-nil (list ++ x ∷ []), append-nil list) refl
  joined-push (list ∷ lists) len (suc i) x filled inside low high =
      rw (joined-push lists (len - 256) i x filled.1 (omega arith) (omega arith) (omega arith), append_assoc) refl

  -- the last value goes
  pub joined-pop : (lists : List (List X)) (len i : ℕ) (list : List X) (x : X) → AreFilled lists len → 256 * i < len → len ≤ 256 * i + 256 → get_or lists i [] ≡ list ++ x ∷ [] → joined lists ≡ joined (set lists i list) ++ x ∷ []
  joined-pop [] len i list x filled low high last = absurd (omega (arith, filled))
  joined-pop (old ∷ lists) len zero list x filled low high last =
      rw (joined_none lists (len - 256) filled.1 (omega arith), append-nil old, append-nil list) last
  joined-pop (old ∷ lists) len (suc i) list x filled low high last =
      ap (λ rest. old ++ rest) (joined-pop lists (len - 256) i list x filled.1 (omega arith) (omega arith) last)
      ∙ sym (append_assoc old (joined (set lists i list)) (x ∷ []))

  -- one more list, without a value
  pub AreFilled-more : (lists : List (List X)) (len : ℕ) → AreFilled lists len → AreFilled (lists ++ [] ∷ []) len
  AreFilled-more [] len filled = (omega (arith, filled), omega (arith, filled))
  AreFilled-more (list ∷ lists) len filled = (filled.0, AreFilled-more lists (len - 256) filled.1)

  pub joined-more : (lists : List (List X)) → joined (lists ++ [] ∷ []) ≡ joined lists
  joined-more [] = refl
  joined-more (list ∷ lists) = ap (λ rest. list ++ rest) (joined-more lists)

  -- a list has as many values as it can
  abbrev pub IsFull : List X → Type 0
  IsFull list = length list ≡ 256

  All-full-tail : (list : List X) (lists : List (List X)) → All IsFull (list ∷ lists) → All IsFull lists
  All-full-tail list lists full k d inside = full (suc k) d (omega arith)

  All-full-cons : (list : List X) (lists : List (List X)) → IsFull list → All IsFull lists → All IsFull (list ∷ lists)
  All-full-cons list lists here rest zero d inside = here
  All-full-cons list lists here rest (suc k) d inside = rest k d (omega arith)

  -- full lists in front of others
  pub AreFilled-front : (front lists : List (List X)) (len : ℕ) → All IsFull front → AreFilled lists len → AreFilled (front ++ lists) (256 * length front + len)
  AreFilled-front [] lists len full filled = let same : 256 * 0 + len ≡ len = omega arith in rw same filled
  AreFilled-front (list ∷ front) lists len full filled =
      let here : length list ≡ 256 = full zero list (omega arith) in
      let less : 256 * length (list ∷ front) + len - 256 ≡ 256 * length front + len = omega arith in
      (omega arith, rw less (AreFilled-front front lists len (All-full-tail list front full) filled))

  pub joined-front : (front lists : List (List X)) → joined (front ++ lists) ≡ joined front ++ joined lists
  joined-front [] lists = refl
  joined-front (list ∷ front) lists = ap (λ rest. list ++ rest) (joined-front front lists) ∙ sym (append_assoc list (joined front) (joined lists))

  -- the lists before the last one that has values are full
  pub All-full : (lists : List (List X)) (len i : ℕ) → AreFilled lists len → 256 * i ≤ len → All IsFull (take i lists)
  All-full lists len zero filled low = λ k d inside. absurd (omega (arith, inside))
  All-full [] len (suc i) filled low = absurd (omega (arith, filled))
  All-full (list ∷ lists) len (suc i) filled low =
      All-full-cons list (take i lists) (omega (arith, filled.0)) (All-full lists (len - 256) i filled.1 (omega arith))

  -- all values are in those and in the last one
  pub joined-full : (lists : List (List X)) (len i : ℕ) → AreFilled lists len → 256 * i ≤ len → len < 256 * i + 256 → joined lists ≡ joined (take i lists) ++ get_or lists i []
  joined-full [] len zero filled low high = refl
  joined-full [] len (suc i) filled low high = refl
  joined-full (list ∷ lists) len zero filled low high = rw (joined_none lists (len - 256) filled.1 (omega arith), append-nil) refl
  joined-full (list ∷ lists) len (suc i) filled low high =
      rw (joined-full lists (len - 256) i filled.1 (omega arith) (omega arith), append_assoc) refl

  -- a list without its last element
  pub without_last : (xs ys : List X) (x : X) → xs ≡ ys ++ x ∷ [] → ys ≡ take (length xs - 1) xs
  without_last xs ys x is =
      let shorter : length (ys ++ x ∷ []) - 1 ≡ length ys = omega (arith, length_push ys x) in
      rw (is, shorter, take-append-le (length ys) ys (x ∷ []) (omega arith), take_all (length ys) ys (omega arith)) refl

  pub last_is : (xs ys : List X) (x d : X) → xs ≡ ys ++ x ∷ [] → Some x ≡ Some (get_or xs (length xs - 1) d)
  last_is xs ys x d is =
      let shorter : length (ys ++ x ∷ []) - 1 ≡ length ys = omega (arith, length_push ys x) in
      rw (is, shorter) (ap Some (sym (get_or_push ys x d (length ys) refl)))
