-- Taking blocks off the front of runs.
use Rattle.std.proofs.Common.{◌≡◌, ℕ, ◌+◌, ◌-◌, ◌<◌, ◌≤◌, ◌⊎◌, inl, inr, List, [], ◌∷◌, ◌++◌, refl, ap, sym, ◌∙◌, subst, arith, append-nil}
use Rattle.std.proofs.lemmas.Bool.{cases_lt}
use Rattle.std.proofs.lemmas.List.Sums.{sum_by-cons}
use Rattle.nv_super.specs.declared.owners.Run.{Run}
use Rattle.nv_super.specs.Runs.{Apart}
use Rattle.nv_alloc.specs.Taking.{blocks_in, taken, left}
use Rattle.nv_alloc.specs.PoolValue.{PoolState}
use Rattle.nv_alloc.specs.Inside.{TakesSome, TakesFrom}
use Rattle.nv_super.proofs.Runs.{tail_apart, some_blocks}

pub blocks_cons : (r : Run) (rs : List Run) → blocks_in (r ∷ rs) ≡ r.count + blocks_in rs
blocks_cons r rs = sum_by-cons (λ (x : Run). x.count) r rs

-- a run that begins later and ends where it ended
pub cut_apart : (x y : Run) (xs : List Run) → x.start + x.count ≡ y.start + y.count → 0 < y.count → Apart (x ∷ xs) → Apart (y ∷ xs)
cut_apart x y [] e pos a = pos
cut_apart x y (z ∷ xs) e pos a = (pos, (let h = a.1 in omega (arith, h, e)), a.2)

pub taken_none : (rs : List Run) → taken 0 rs ≡ []
taken_none [] = refl
taken_none (r ∷ rs) = refl

pub left_none : (rs : List Run) → left 0 rs ≡ rs
left_none [] = refl
left_none (r ∷ rs) = refl

pub taken_whole : (n : ℕ) (r : Run) (rs : List Run) → 0 < n → r.count ≤ n → taken n (r ∷ rs) ≡ r ∷ taken (n - r.count) rs
taken_whole n r rs pos le = grind arith

pub left_whole : (n : ℕ) (r : Run) (rs : List Run) → 0 < n → r.count ≤ n → left n (r ∷ rs) ≡ left (n - r.count) rs
left_whole n r rs pos le = grind arith

pub taken_part : (n : ℕ) (r : Run) (rs : List Run) → 0 < n → n < r.count → taken n (r ∷ rs) ≡ record { start = r.start; count = n } ∷ []
taken_part n r rs pos lt = grind arith

pub left_part : (n : ℕ) (r : Run) (rs : List Run) → 0 < n → n < r.count → left n (r ∷ rs) ≡ record { start = r.start + n; count = r.count - n } ∷ rs
left_part n r rs pos lt = grind arith

-- what is left of the blocks
pub left_blocks : (n : ℕ) (rs : List Run) → blocks_in (left n rs) ≡ blocks_in rs - n
left_blocks n [] = omega arith
left_blocks n (r ∷ rs) = elim (cases_lt 0 n) [
  | inl pos ↦ elim (cases_lt n r.count) [
    | inl lt ↦ (let b = blocks_cons r rs in let d = blocks_cons (record { start = r.start + n; count = r.count - n }) rs in rw (left_part n r rs pos lt) (part_of n r.count (blocks_in rs) _ _ lt b d))
    | inr le ↦ (let b = blocks_cons r rs in rw (left_whole n r rs pos le) (whole_of n r.count (blocks_in rs) _ _ le b (left_blocks (n - r.count) rs)))
  ]
  | inr none ↦ (let z : 0 ≡ n = omega (arith, none) in let P : ℕ → Type 0 = λ m. blocks_in (left m (r ∷ rs)) ≡ blocks_in (r ∷ rs) - m in subst P z (same_less (blocks_in (r ∷ rs))))
] where
  part_of : (n c b x y : ℕ) → n < c → x ≡ c + b → y ≡ (c - n) + b → y ≡ x - n
  part_of n c b x y lt e f = omega (arith, lt, e, f)

  same_less : (x : ℕ) → x ≡ x - 0
  same_less x = omega arith

  whole_of : (n c b x y : ℕ) → c ≤ n → x ≡ c + b → y ≡ b - (n - c) → y ≡ x - n
  whole_of n c b x y le e f = omega (arith, le, e, f)

-- all is taken where there is no more than that
pub taken_over : (n : ℕ) (rs : List Run) → Apart rs → blocks_in rs ≤ n → taken n rs ≡ rs
taken_over n [] a h = refl
taken_over n (r ∷ rs) a h =
    let b = blocks_cons r rs in let pos = some_blocks r rs a in let some : 0 < n = omega (arith, b, pos, h) in let le : r.count ≤ n = omega (arith, b, h) in
    taken_whole n r rs some le ∙ ap (λ (xs : List Run). r ∷ xs) (taken_over (n - r.count) rs (tail_apart r rs a) (omega (arith, b, h)))

pub left_over : (n : ℕ) (rs : List Run) → Apart rs → blocks_in rs ≤ n → left n rs ≡ []
left_over n [] a h = refl
left_over n (r ∷ rs) a h =
    let b = blocks_cons r rs in let pos = some_blocks r rs a in let some : 0 < n = omega (arith, b, pos, h) in let le : r.count ≤ n = omega (arith, b, h) in
    left_whole n r rs some le ∙ left_over (n - r.count) rs (tail_apart r rs a) (omega (arith, b, h))

-- runs without blocks are none
pub no_runs_of : (rs : List Run) → Apart rs → blocks_in rs ≤ 0 → rs ≡ []
no_runs_of [] a few = refl
no_runs_of (r ∷ rs) a few = absurd (let b = blocks_cons r rs in let pos = some_blocks r rs a in omega (arith, b, pos, few))

-- nothing more is needed, or nothing is left
pub front_done : (need : ℕ) (old : PoolState) (had : List Run) (rest : ℕ) (new : PoolState) (has' : List Run) → TakesSome need old.runs had rest new.runs has' → Apart old.runs → Apart new.runs → (rest ≤ 0) ⊎ (blocks_in new.runs ≤ 0) → TakesFrom need old had rest new has'
front_done need old had rest new has' h apart after none = record {
  apart = apart;
  out = sym (append-nil has') ∙ ap (λ (xs : List Run). has' ++ xs) (sym nothing.0) ∙ h.out;
  stays = sym nothing.1 ∙ h.stays;
  still = elim none [ inl z ↦ (let s = h.still in omega (arith, z, s)) | inr z ↦ (let s = h.still in omega (arith, z, s)) ];
} where
  nothing : (taken rest new.runs ≡ []) × (left rest new.runs ≡ new.runs)
  nothing = elim none [
    | inl z ↦ (let zero_rest : rest ≡ 0 = omega (arith, z) in (ap (λ (m : ℕ). taken m new.runs) zero_rest ∙ taken_none new.runs, ap (λ (m : ℕ). left m new.runs) zero_rest ∙ left_none new.runs))
    | inr z ↦ (let empty = no_runs_of new.runs after z in (ap (taken rest) empty, ap (left rest) empty ∙ sym empty))
  ]

-- as many blocks are taken as there are
pub taken_blocks : (n : ℕ) (rs : List Run) → n ≤ blocks_in rs → blocks_in (taken n rs) ≡ n
taken_blocks n [] le = omega (arith, le)
taken_blocks n (r ∷ rs) le = elim (cases_lt 0 n) [
  | inl pos ↦ (let b = blocks_cons r rs in elim (cases_lt n r.count) [
    | inl lt ↦ (let e = ap blocks_in (taken_part n r rs pos lt) in let c = blocks_cons (record { start = r.start; count = n }) [] in omega (arith, e, c))
    | inr whole ↦ (let e = ap blocks_in (taken_whole n r rs pos whole) in let c = blocks_cons r (taken (n - r.count) rs) in let i = taken_blocks (n - r.count) rs (omega (arith, b, le)) in omega (arith, e, c, i, whole))
  ])
  | inr none ↦ (let z : 0 ≡ n = omega (arith, none) in let P : ℕ → Type 0 = λ m. blocks_in (taken m (r ∷ rs)) ≡ m in subst P z refl)
]
