-- Which blocks a take leaves.
use Rattle.std.proofs.Common.{◌≡◌, ◌≢◌, ℕ, ◌+◌, ◌-◌, ◌<◌, ◌⊎◌, inl, inr, List, [], ◌∷◌, ◌++◌, length, ap, sym, ◌∙◌, subst, arith}
use Rattle.std.proofs.Math.ListN.{set}
use Rattle.std.proofs.lemmas.Bool.{cases_lt}
use Rattle.std.proofs.lemmas.List.{length-set, get_or-set_same, get_or-set_other}
use Rattle.std.proofs.lemmas.List.Elements.{Contains-append_left, Contains-append_right, Contains-append_cases}
use Rattle.std.proofs.lemmas.List.Sums.{sum_by-append}
use Rattle.nv_super.proofs.Rising.{Contains-cons, Contains-head, Contains-tail}
use Rattle.nv_super.specs.declared.owners.Run.{Run}
use Rattle.nv_super.specs.Runs.{InRun, Apart}
use Rattle.nv_alloc.specs.Taking.{HasBlock, Disjoint, blocks_in, taken, left, pool_at, Takes, ends, goes_on}
use Rattle.nv_super.proofs.Runs.{tail_apart, gap}
use Rattle.nv_alloc.proofs.Fronts.{taken_whole, left_whole, taken_part, left_part, cut_apart, taken_blocks}

no_block : (b : ℕ) → HasBlock [] b → ⊥
no_block b h = absurd (let lt = h.1.1 in omega (arith, lt))

pub first_block : (r : Run) (rs : List Run) (b : ℕ) → InRun r b → HasBlock (r ∷ rs) b
first_block r rs b h = (r, Contains-head r rs, h.0, h.1)

pub later_block : (r : Run) (rs : List Run) (b : ℕ) → HasBlock rs b → HasBlock (r ∷ rs) b
later_block r rs b h = (h.0, Contains-tail r rs h.0 h.1, h.2, h.3)

pub block_cases : (r : Run) (rs : List Run) (b : ℕ) → HasBlock (r ∷ rs) b → InRun r b ⊎ HasBlock rs b
block_cases r rs b h = elim (Contains-cons r rs h.0 h.1) [
  | inl w ↦ inl (let s = ap (λ (x : Run). x.start) w in let n = ap (λ (x : Run). x.count) w in let lo = h.2 in let hi = h.3 in (omega (arith, s, lo), omega (arith, s, n, hi)))
  | inr w ↦ inr (h.0, w, h.2, h.3)
]

pub block_left : (xs ys : List Run) (b : ℕ) → HasBlock xs b → HasBlock (xs ++ ys) b
block_left xs ys b h = (h.0, Contains-append_left xs ys h.0 h.1, h.2, h.3)

pub block_right : (xs ys : List Run) (b : ℕ) → HasBlock ys b → HasBlock (xs ++ ys) b
block_right xs ys b h = (h.0, Contains-append_right xs ys h.0 h.1, h.2, h.3)

pub block_sides : (xs ys : List Run) (b : ℕ) → HasBlock (xs ++ ys) b → HasBlock xs b ⊎ HasBlock ys b
block_sides xs ys b h = elim (Contains-append_cases xs ys h.0 h.1) [ inl w ↦ inl (h.0, w, h.2, h.3) | inr w ↦ inr (h.0, w, h.2, h.3) ]

-- a block of the first run is in no later one
head_clash : (r : Run) (rs : List Run) (b : ℕ) → Apart (r ∷ rs) → InRun r b → HasBlock rs b → ⊥
head_clash r rs b a i h = absurd (let g = gap r rs a h.0 h.1 in let hi = i.1 in let lo = h.2 in omega (arith, g, hi, lo))

pub disjoint_apart : (rs : List Run) → Apart rs → Disjoint rs
disjoint_apart [] a = tt
disjoint_apart (r ∷ rs) a = (λ b i h. head_clash r rs b a i h, disjoint_apart rs (tail_apart r rs a))

pub disjoint_append : (xs ys : List Run) → Disjoint xs → Disjoint ys → ((b : ℕ) → HasBlock xs b → HasBlock ys b → ⊥) → Disjoint (xs ++ ys)
disjoint_append [] ys d e h = e
disjoint_append (x ∷ xs) ys d e h =
    (λ b i w. elim (block_sides xs ys b w) [ inl v ↦ d.0 b i v | inr v ↦ h b (first_block x xs b i) v ], disjoint_append xs ys d.1 e (λ b w v. h b (later_block x xs b w) v))

-- a block of a run isn't in the runs before it
pub disjoint_before : (xs : List Run) (r : Run) (ys : List Run) → Disjoint (xs ++ r ∷ ys) → (b : ℕ) → HasBlock xs b → InRun r b → ⊥
disjoint_before [] r ys d b h i = no_block b h
disjoint_before (x ∷ xs) r ys d b h i = elim (block_cases x xs b h) [
  | inl w ↦ d.0 b w (block_right xs (r ∷ ys) b (first_block r ys b i))
  | inr w ↦ disjoint_before xs r ys d.1 b w i
]

-- Each block of the runs is either in front or in the rest.
pub record Splits (rs front rest : List Run) : Type 0 where
  pub from_front : (b : ℕ) → HasBlock front b → HasBlock rs b
  pub from_rest : (b : ℕ) → HasBlock rest b → HasBlock rs b
  pub either : (b : ℕ) → HasBlock rs b → HasBlock front b ⊎ HasBlock rest b
  pub never : (b : ℕ) → HasBlock front b → HasBlock rest b → ⊥
  pub disjoint : Disjoint front
  pub apart : Apart rest

splits_none : (rs : List Run) → Apart rs → Splits rs [] rs
splits_none rs a = record {
  from_front = λ b h. absurd (no_block b h);
  from_rest = λ b h. h;
  either = λ b h. inr h;
  never = λ b h. absurd (no_block b h);
  disjoint = tt;
  apart = a;
}

splits_whole : (r : Run) (rs front rest : List Run) → Apart (r ∷ rs) → Splits rs front rest → Splits (r ∷ rs) (r ∷ front) rest
splits_whole r rs front rest a s = record {
  from_front = λ b h. elim (block_cases r front b h) [ inl w ↦ first_block r rs b w | inr w ↦ later_block r rs b (s.from_front b w) ];
  from_rest = λ b h. later_block r rs b (s.from_rest b h);
  either = λ b h. elim (block_cases r rs b h) [ inl w ↦ inl (first_block r front b w) | inr w ↦ elim (s.either b w) [ inl v ↦ inl (later_block r front b v) | inr v ↦ inr v ] ];
  never = λ b h w. elim (block_cases r front b h) [ inl v ↦ head_clash r rs b a v (s.from_rest b w) | inr v ↦ s.never b v w ];
  disjoint = (λ b i h. head_clash r rs b a i (s.from_front b h), s.disjoint);
  apart = s.apart;
}

splits_part : (n : ℕ) (r : Run) (rs : List Run) → Apart (r ∷ rs) → 0 < n → n < r.count → Splits (r ∷ rs) (record { start = r.start; count = n } ∷ []) (record { start = r.start + n; count = r.count - n } ∷ rs)
splits_part n r rs a pos lt = record {
  from_front = λ b h. elim (block_cases (record { start = r.start; count = n }) [] b h) [
    | inl w ↦ first_block r rs b (w.0, (let hi = w.1 in omega (arith, hi, lt)))
    | inr w ↦ absurd (no_block b w)
  ];
  from_rest = λ b h. elim (block_cases (record { start = r.start + n; count = r.count - n }) rs b h) [
    | inl w ↦ first_block r rs b ((let lo = w.0 in omega (arith, lo)), (let hi = w.1 in omega (arith, hi, lt)))
    | inr w ↦ later_block r rs b w
  ];
  either = λ b h. elim (block_cases r rs b h) [
    | inl w ↦ elim (cases_lt b (r.start + n)) [
      | inl v ↦ inl (first_block (record { start = r.start; count = n }) [] b (w.0, v))
      | inr v ↦ inr (first_block (record { start = r.start + n; count = r.count - n }) rs b (v, (let hi = w.1 in omega (arith, hi, lt))))
    ]
    | inr w ↦ inr (later_block (record { start = r.start + n; count = r.count - n }) rs b w)
  ];
  never = λ b h w. elim (block_cases (record { start = r.start; count = n }) [] b h) [
    | inl v ↦ elim (block_cases (record { start = r.start + n; count = r.count - n }) rs b w) [
      | inl u ↦ absurd (let hi = v.1 in let lo = u.0 in omega (arith, hi, lo))
      | inr u ↦ head_clash r rs b a (v.0, (let hi = v.1 in omega (arith, hi, lt))) u
    ]
    | inr v ↦ no_block b v
  ];
  disjoint = (λ b i h. no_block b h, tt);
  apart = cut_apart r (record { start = r.start + n; count = r.count - n }) rs (omega (arith, lt)) (omega (arith, lt)) a;
}

splits : (n : ℕ) (rs : List Run) → Apart rs → Splits rs (taken n rs) (left n rs)
splits n [] a = splits_none [] tt
splits n (r ∷ rs) a = elim (cases_lt 0 n) [
  | inl pos ↦ elim (cases_lt n r.count) [
    | inl lt ↦ (let P : List Run → Type 0 = λ x. Splits (r ∷ rs) x (left n (r ∷ rs)) in let Q : List Run → Type 0 = λ y. Splits (r ∷ rs) (record { start = r.start; count = n } ∷ []) y in
        subst P (sym (taken_part n r rs pos lt)) (subst Q (sym (left_part n r rs pos lt)) (splits_part n r rs a pos lt)))
    | inr le ↦ (let P : List Run → Type 0 = λ x. Splits (r ∷ rs) x (left n (r ∷ rs)) in let Q : List Run → Type 0 = λ y. Splits (r ∷ rs) (r ∷ taken (n - r.count) rs) y in
        subst P (sym (taken_whole n r rs pos le)) (subst Q (sym (left_whole n r rs pos le)) (splits_whole r rs _ _ a (splits (n - r.count) rs (tail_apart r rs a)))))
  ]
  | inr none ↦ (let z : 0 ≡ n = omega (arith, none) in let P : ℕ → Type 0 = λ m. Splits (r ∷ rs) (taken m (r ∷ rs)) (left m (r ∷ rs)) in subst P z (splits_none (r ∷ rs) a))
]

-- Pools whose lists are apart and share no block.
pub record Pooled (pools : List (List Run)) : Type 0 where
  pub apart : (c : ℕ) → Apart (pool_at pools c)
  pub one : (c d b : ℕ) → HasBlock (pool_at pools c) b → HasBlock (pool_at pools d) b → c ≡ d

-- The runs' blocks left the pools, and no others did.
pub record LeavesFrom (pools : List (List Run)) (runs : List Run) (after : List (List Run)) : Type 0 where
  pub free : (b : ℕ) → HasBlock runs b → (c : ℕ) × HasBlock (pool_at pools c) b
  pub disjoint : Disjoint runs
  pub gone : (c b : ℕ) → HasBlock (pool_at after c) b → HasBlock runs b → ⊥
  pub stays : (c b : ℕ) → HasBlock (pool_at after c) b → HasBlock (pool_at pools c) b
  pub rest : (c b : ℕ) → HasBlock (pool_at pools c) b → HasBlock runs b ⊎ HasBlock (pool_at after c) b
  pub apart : (c : ℕ) → Apart (pool_at after c)
  pub count : length after ≡ length pools

-- another pool than the one that was changed, or that one
pub one_of : (e c : ℕ) → (e ≢ c) ⊎ (c ≡ e)
one_of e c = elim (cases_lt e c) [
  | inl w ↦ inl (λ s. omega (arith, s, w))
  | inr w ↦ elim (cases_lt c e) [ inl v ↦ inl (λ s. omega (arith, s, v)) | inr v ↦ inr (omega (arith, w, v)) ]
]

module _ (pools : List (List Run)) (c : ℕ) (p : List Run) (lt : c < length pools) where
  at_same : pool_at (set pools c p) c ≡ p
  at_same = get_or-set_same pools c p [] lt

  at_other : (e : ℕ) → e ≢ c → pool_at (set pools c p) e ≡ pool_at pools e
  at_other e ne = get_or-set_other pools c e p [] ne

  -- what holds of a changed pool
  each_pool : (P : ℕ → List Run → Type 0) → P c p → ((e : ℕ) → e ≢ c → P e (pool_at pools e)) → (e : ℕ) → P e (pool_at (set pools c p) e)
  each_pool P here there e = elim (one_of e c) [
    | inl ne ↦ (let Q : List Run → Type 0 = λ x. P e x in subst Q (sym (at_other e ne)) (there e ne))
    | inr same ↦ (let Q : ℕ → Type 0 = λ k. P k (pool_at (set pools c p) k) in let R : List Run → Type 0 = λ x. P c x in subst Q same (subst R (sym at_same) here))
  ]

  -- a part of the pool stays
  pub leaves_ends : (front : List Run) → Pooled pools → Splits (pool_at pools c) front p → LeavesFrom pools front (set pools c p)
  leaves_ends front o s = record {
    free = λ b h. (c, s.from_front b h);
    disjoint = s.disjoint;
    gone = each_pool (λ e x. (b : ℕ) → HasBlock x b → HasBlock front b → ⊥) (λ b h w. s.never b w h) (λ e ne b h w. ne (o.one e c b h (s.from_front b w)));
    stays = each_pool (λ e x. (b : ℕ) → HasBlock x b → HasBlock (pool_at pools e) b) (λ b h. s.from_rest b h) (λ e ne b h. h);
    rest = each_pool (λ e x. (b : ℕ) → HasBlock (pool_at pools e) b → HasBlock front b ⊎ HasBlock x b) (λ b h. s.either b h) (λ e ne b h. inr h);
    apart = each_pool (λ e x. Apart x) s.apart (λ e ne. o.apart e);
    count = length-set pools c p;
  }

-- blocks of the pools once one of them is empty
module _ (pools : List (List Run)) (c : ℕ) (lt : c < length pools) where
  emptied_from : (e : ℕ) (b : ℕ) → HasBlock (pool_at (set pools c []) e) b → (e ≢ c) × HasBlock (pool_at pools e) b
  emptied_from = each_pool pools c [] lt (λ e x. (b : ℕ) → HasBlock x b → (e ≢ c) × HasBlock (pool_at pools e) b) (λ b h. absurd (no_block b h)) (λ e ne b h. (ne, h))

  emptied_has : (e : ℕ) (b : ℕ) → HasBlock (pool_at pools e) b → HasBlock (pool_at pools c) b ⊎ HasBlock (pool_at (set pools c []) e) b
  emptied_has = each_pool pools c [] lt (λ e x. (b : ℕ) → HasBlock (pool_at pools e) b → HasBlock (pool_at pools c) b ⊎ HasBlock x b) (λ b h. inl h) (λ e ne b h. inr h)

  emptied_pooled : Pooled pools → Pooled (set pools c [])
  emptied_pooled o = record {
    apart = each_pool pools c [] lt (λ e x. Apart x) tt (λ e ne. o.apart e);
    one = λ e d b h w. o.one e d b (emptied_from e b h).1 (emptied_from d b w).1;
  }

  pub leaves_goes : (more : List Run) (after : List (List Run)) → Pooled pools → LeavesFrom (set pools c []) more after → LeavesFrom pools (pool_at pools c ++ more) after
  leaves_goes more after o r = record {
    free = λ b h. elim (block_sides (pool_at pools c) more b h) [ inl w ↦ (c, w) | inr w ↦ (let f = r.free b w in (f.0, (emptied_from f.0 b f.1).1)) ];
    disjoint = disjoint_append (pool_at pools c) more (disjoint_apart (pool_at pools c) (o.apart c)) r.disjoint (λ b h w. (let f = r.free b w in not_own f.0 b f.1 h));
    gone = λ e b h w. elim (block_sides (pool_at pools c) more b w) [ inl v ↦ not_own e b (r.stays e b h) v | inr v ↦ r.gone e b h v ];
    stays = λ e b h. (emptied_from e b (r.stays e b h)).1;
    rest = λ e b h. elim (emptied_has e b h) [
      | inl w ↦ inl (block_left (pool_at pools c) more b w)
      | inr w ↦ elim (r.rest e b w) [ inl v ↦ inl (block_right (pool_at pools c) more b v) | inr v ↦ inr v ]
    ];
    apart = r.apart;
    count = r.count ∙ length-set pools c [];
  } where
    not_own : (e b : ℕ) → HasBlock (pool_at (set pools c []) e) b → HasBlock (pool_at pools c) b → ⊥
    not_own e b h w = let f = emptied_from e b h in f.0 (o.one e c b f.1 w)

pub leaves : (pools : List (List Run)) (c n : ℕ) (runs : List Run) (after : List (List Run)) → Pooled pools → c < length pools → Takes pools c n runs after → LeavesFrom pools runs after
leaves pools c n runs after o lt (ends le) = leaves_ends pools c (left n (pool_at pools c)) lt (taken n (pool_at pools c)) o (splits n (pool_at pools c) (o.apart c))
leaves pools c n runs after o lt (goes_on d more after' few f t) = leaves_goes pools c lt more after' o (leaves (set pools c []) d (n - blocks_in (pool_at pools c)) more after' (emptied_pooled pools c lt o) f.within t)

-- as many blocks come as were asked for
pub took_blocks : (pools : List (List Run)) (c n : ℕ) (runs : List Run) (after : List (List Run)) → Takes pools c n runs after → blocks_in runs ≡ n
took_blocks pools c n runs after (ends le) = taken_blocks n (pool_at pools c) le
took_blocks pools c n runs after (goes_on d more after' few f t) =
    let s = sum_by-append (λ (r : Run). r.count) (pool_at pools c) more in let i = took_blocks (set pools c []) d (n - blocks_in (pool_at pools c)) more after' t in omega (arith, s, i, few)
