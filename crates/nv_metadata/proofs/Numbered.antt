-- The places of blocks, as numbers lead to them: with a place more, and with those of another table behind them.
use Rattle.std.proofs.Common.{◌≡◌, inl, inr, ◌+◌, ◌-◌, ◌^◌, ◌<◌, ◌≤◌, ℕ, zero, suc, min, List, [], ◌∷◌, ◌++◌, length, map, get_or, set, replicate, refl, sym, ap, ap₂, ◌∙◌, subst, arith, get_or-set_same, get_or-set_other}
use Rattle.std.proofs.Math.ListN.{get_or-map}
use Rattle.std.proofs.Math.Nat.{min-eq_left}
use Rattle.std.proofs.lemmas.Bool.{cases_lt, cases_eq}
use Rattle.std.proofs.lemmas.List.{get_or_append_left, get_or-append-add, length-append, length-map, map-set, get_or-map as map_within}
use Rattle.nv_metadata.specs.Places.{nowhere, numbered, table, behind_parts, taken, taken_number}
use Rattle.nv_metadata.specs.declared.places.Place.{Place}
use Rattle.nv_metadata.proofs.Pieces.{is_below, not_below}
use Rattle.nv_metadata.proofs.Taken.{is_to, not_to, taken_early, taken_less, taken_more}

-- the place of a block is that with its number
pub at_table : (numbers : List ℕ) (places : List Place) → numbered places 0 ≡ nowhere → (b : ℕ) → get_or (table numbers places) b nowhere ≡ numbered places (get_or numbers b 0)
at_table numbers places first b = subst (λ (d : Place). get_or (table numbers places) b d ≡ numbered places (get_or numbers b 0)) first (get_or-map (numbered places) numbers b 0)

-- where nothing is held of any block
pub blank_table : (n : ℕ) (places : List Place) → numbered places 0 ≡ nowhere → table (replicate n 0) places ≡ replicate n nowhere
blank_table zero places first = refl
blank_table (suc n) places first = ap₂ ◌∷◌ first (blank_table n places first)

-- more places that have no number yet
pub kept_table : (numbers : List ℕ) (places more : List Place) → ((b : ℕ) → get_or numbers b 0 < length places) → table numbers (places ++ more) ≡ table numbers places
kept_table [] places more each = refl
kept_table (n ∷ numbers) places more each = ap₂ ◌∷◌ (get_or_append_left places more nowhere n (each 0)) (kept_table numbers places more (λ b. each (suc b)))

module _ (numbers : List ℕ) (places : List Place) (each : (b : ℕ) → get_or numbers b 0 < length places) (place : Place) (block : ℕ) where
  last : numbered (places ++ place ∷ []) (length places) ≡ place
  last = ap (λ (n : ℕ). numbered (places ++ place ∷ []) n) (let same : length places ≡ length places + 0 = omega arith in same) ∙ get_or-append-add places (place ∷ []) 0 nowhere

  -- a block with a new place
  pub put_table : table (set numbers block (length places)) (places ++ place ∷ []) ≡ set (table numbers places) block place
  put_table = map-set (numbered (places ++ place ∷ [])) numbers block (length places) ∙ (λ i. set (kept_table numbers places (place ∷ []) each i) block (last i))

  pub put_each : block < length numbers → (b : ℕ) → get_or (set numbers block (length places)) b 0 < length (places ++ place ∷ [])
  put_each within b =
      let long = length-append places (place ∷ []) in
      elim (cases_eq b block) [
        | inl is ↦ (let here = ap (λ (n : ℕ). get_or (set numbers block (length places)) n 0) is ∙ get_or-set_same numbers block (length places) 0 within in omega (arith, here, long))
        | inr other ↦ (let there = get_or-set_other numbers block b (length places) 0 other in let low = each b in omega (arith, there, low, long))
      ]

-- the first place stays
pub first_stays : (places more : List Place) → 0 < length places → numbered places 0 ≡ nowhere → numbered (places ++ more) 0 ≡ nowhere
first_stays places more some first = get_or_append_left places more nowhere 0 some ∙ first

-- ---- the numbers of another table

module _ (from base b : ℕ) (here there : List Place) (n other : ℕ) where
  pub number_early : b < from → taken_number from base b here there n other ≡ n
  number_early early = rw (not_to from b early) refl

  pub number_less : from ≤ b → (numbered there other).known ≤ (numbered here n).known → taken_number from base b here there n other ≡ n
  number_less late less = rw (is_to from b late, not_below (numbered here n).known (numbered there other).known less) refl

  pub number_more : from ≤ b → (numbered here n).known < (numbered there other).known → taken_number from base b here there n other ≡ base + other
  number_more late more = rw (is_to from b late, is_below (numbered here n).known (numbered there other).known more) refl

-- a block of which nothing is held by the other's number keeps its own
pub number_none : (from base b : ℕ) (here there : List Place) (n other : ℕ) → (numbered there other).known ≡ 0 → taken_number from base b here there n other ≡ n
number_none from base b here there n other none = elim (cases_lt b from) [
  | inl early ↦ number_early from base b here there n other early
  | inr late ↦ number_less from base b here there n other late (omega (arith, none))
]

small_sum : (a b : ℕ) → a + b < 2 ^ 32 → min (a + b) (2 ^ 32 - 1) ≡ a + b
small_sum a b small = min-eq_left (omega (arith, small))

module _ (numbers others news : List ℕ) (places there more : List Place) (from base before : ℕ) (some : 0 < length places) (first : numbered places 0 ≡ nowhere) (other_first : numbered there 0 ≡ nowhere)
    (each : (b : ℕ) → get_or numbers b 0 < length places) (other_each : (b : ℕ) → get_or others b 0 < length there) (base_is : base ≡ length places) (more_is : more ≡ map (behind_parts before) there)
    (few : (b : ℕ) → before + (get_or (table others there) b nowhere).part < 2 ^ 32)
    (are : (b : ℕ) → get_or news b 0 ≡ taken_number from base b (places ++ more) there (get_or numbers b 0) (get_or others b 0)) where
  all_first : numbered (places ++ more) 0 ≡ nowhere
  all_first = first_stays places more some first

  new_at : (b : ℕ) → get_or (table news (places ++ more)) b nowhere ≡ numbered (places ++ more) (get_or news b 0)
  new_at b = at_table news (places ++ more) all_first b

  same_place : (b : ℕ) → numbered (places ++ more) (get_or numbers b 0) ≡ get_or (table numbers places) b nowhere
  same_place b = get_or_append_left places more nowhere (get_or numbers b 0) (each b) ∙ sym (at_table numbers places first b)

  -- the block keeps its place
  kept_at : (b : ℕ) → get_or news b 0 ≡ get_or numbers b 0 → get_or (table news (places ++ more)) b nowhere ≡ get_or (table numbers places) b nowhere
  kept_at b same = new_at b ∙ ap (numbered (places ++ more)) same ∙ same_place b

  -- or it takes the other's
  other_at : (b : ℕ) → get_or news b 0 ≡ base + get_or others b 0
      → get_or (table news (places ++ more)) b nowhere ≡ record (get_or (table others there) b nowhere) { part = before + (get_or (table others there) b nowhere).part }
  other_at b other =
      let o = get_or others b 0 in
      new_at b ∙ ap (numbered (places ++ more)) (other ∙ ap (λ (n : ℕ). n + o) base_is) ∙ get_or-append-add places more o nowhere
      ∙ ap (λ (l : List Place). numbered l o) more_is ∙ map_within (behind_parts before) there o nowhere nowhere (other_each b)
      ∙ ap (behind_parts before) (sym (at_table others there other_first b))
      ∙ ap (λ (n : ℕ). record (get_or (table others there) b nowhere) { part = n }) (small_sum before (get_or (table others there) b nowhere).part (few b))

  here_known : (b : ℕ) → (numbered (places ++ more) (get_or numbers b 0)).known ≡ (get_or (table numbers places) b nowhere).known
  here_known b = ap (λ (p : Place). p.known) (same_place b)

  there_known : (b : ℕ) → (numbered there (get_or others b 0)).known ≡ (get_or (table others there) b nowhere).known
  there_known b = ap (λ (p : Place). p.known) (sym (at_table others there other_first b))

  pub taken_table : (b : ℕ) → get_or (table news (places ++ more)) b nowhere ≡ taken from before b (get_or (table numbers places) b nowhere) (get_or (table others there) b nowhere)
  taken_table b =
      let here = get_or (table numbers places) b nowhere in
      let other = get_or (table others there) b nowhere in
      elim (cases_lt b from) [
        | inl early ↦ kept_at b (are b ∙ number_early from base b (places ++ more) there (get_or numbers b 0) (get_or others b 0) early) ∙ sym (taken_early from before b here other early)
        | inr late ↦ elim (cases_lt here.known other.known) [
          | inl many ↦ other_at b (are b ∙ number_more from base b (places ++ more) there (get_or numbers b 0) (get_or others b 0) late (let h = here_known b in let t = there_known b in omega (arith, many, h, t))) ∙ sym (taken_more from before b here other late many)
          | inr less ↦ kept_at b (are b ∙ number_less from base b (places ++ more) there (get_or numbers b 0) (get_or others b 0) late (let h = here_known b in let t = there_known b in omega (arith, less, h, t))) ∙ sym (taken_less from before b here other late less)
        ]
      ]

  long : length (places ++ more) ≡ length places + length there
  long = length-append places more ∙ ap (λ (n : ℕ). length places + n) (ap length more_is ∙ length-map there (behind_parts before))

  -- each number is that of a place
  pub taken_each : (b : ℕ) → get_or news b 0 < length (places ++ more)
  taken_each b =
      let here = get_or (table numbers places) b nowhere in
      let other = get_or (table others there) b nowhere in
      let mine = each b in
      let theirs = other_each b in
      elim (cases_lt b from) [
        | inl early ↦ (let is = are b ∙ number_early from base b (places ++ more) there (get_or numbers b 0) (get_or others b 0) early in omega (arith, is, mine, long))
        | inr late ↦ elim (cases_lt here.known other.known) [
          | inl many ↦ (let is = are b ∙ number_more from base b (places ++ more) there (get_or numbers b 0) (get_or others b 0) late (let h = here_known b in let t = there_known b in omega (arith, many, h, t)) in omega (arith, is, theirs, base_is, long))
          | inr less ↦ (let is = are b ∙ number_less from base b (places ++ more) there (get_or numbers b 0) (get_or others b 0) late (let h = here_known b in let t = there_known b in omega (arith, less, h, t)) in omega (arith, is, mine, long))
        ]
      ]
