-- Pools of which one is changed, and sums over pools.
use Rattle.std.proofs.Common.{◌≡◌, ℕ, ◌+◌, ◌<◌, ◌≤◌, ◌⊎◌, inl, inr, List, [], ◌∷◌, ◌++◌, length, get_or, take, max, min, refl, ap, sym, ◌∙◌, subst, arith}
use Rattle.std.proofs.Math.ListN.{set}
use Rattle.std.proofs.lemmas.Bool.{cases_lt}
use Rattle.std.proofs.lemmas.List.{take_more, map-append, length-append, get_or-set_same, get_or-set_other, get_or_default, get_or_past, length-map, get_or-map, get_or_append_left, get_or_push}
use Rattle.std.proofs.lemmas.List.Sums.{sum_by-append}
use Rattle.nv_blockset.specs.BlockSet.{has}
use Rattle.nv_super.specs.declared.owners.Run.{Run}
use Rattle.nv_super.specs.declared.superblock.Super.{Super}
use Rattle.nv_super.specs.Layout.{pool_start, InPool, IsLayout}
use Rattle.nv_super.proofs.Pools.{pools_rise, pools_to}
use Rattle.nv_super.specs.Runs.{InRun, Apart, AreRuns}
use Rattle.nv_alloc.specs.PoolValue.{PoolState, no_pool, SamePlace}
use Rattle.nv_alloc.specs.Taking.{HasBlock, blocks_in, all_blocks, pool_at, IsFullest}
use Rattle.nv_alloc.specs.Inside.{lists_of, bounds_of, AreBounds, size_at, JoinedUpTo, ArePools, IsClear}
use Rattle.nv_alloc.proofs.Pools.{lists_at, lists_set, lists_length, bounds_set, blocks_all}
use Rattle.nv_alloc.proofs.Leaving.{one_of}

-- runs of the same blocks
pub AreRuns-same : (P Q : ℕ → Type 0) (xs : List Run) → ((b : ℕ) → P b → Q b) → ((b : ℕ) → Q b → P b) → AreRuns P xs → AreRuns Q xs
AreRuns-same P Q xs f g r = record { apart = r.apart; each = λ x b c lo hi. f b (r.each x b c lo hi); all = λ b h. r.all b (g b h) }

-- runs that don't touch are those of their blocks
pub AreRuns-own : (xs : List Run) → Apart xs → AreRuns (λ b. HasBlock xs b) xs
AreRuns-own xs a = record { apart = a; each = λ x b c lo hi. (x, c, lo, hi); all = λ b h. h }

-- one pool more is counted
pub blocks_more : (ps : List PoolState) (i : ℕ) (p : PoolState) → i < length ps → p ≡ get_or ps i p → all_blocks (lists_of (take (i + 1) ps)) ≡ all_blocks (lists_of (take i ps)) + blocks_in p.runs
blocks_more ps i p lt is =
    let t : take (i + 1) ps ≡ take i ps ++ p ∷ [] = take_more ps i p lt ∙ ap (λ (x : PoolState). take i ps ++ x ∷ []) (sym is) in
    let m : lists_of (take (i + 1) ps) ≡ lists_of (take i ps) ++ p.runs ∷ [] = ap lists_of t ∙ map-append (λ (x : PoolState). x.runs) (take i ps) (p ∷ []) in
    let s = ap all_blocks m ∙ sum_by-append blocks_in (lists_of (take i ps)) (p.runs ∷ []) in let b = blocks_all p.runs [] in omega (arith, s, b)

-- the fullest pool by its size
pub fullest_of : (ps : List PoolState) (best : ℕ) → best < length ps → ((d : ℕ) → d < length ps → size_at ps d ≤ size_at ps best) → ((d : ℕ) → d < best → size_at ps d < size_at ps best) → IsFullest (lists_of ps) best
fullest_of ps best lt most lowest =
    record {
      within = (let l = lists_length ps in omega (arith, l, lt));
      most = λ d h. (let w : d < length ps = (let l = lists_length ps in omega (arith, l, h)) in let m = most d w in let e = same d w in let f = same best lt in omega (arith, m, e, f));
      lowest = λ d h. (let m = lowest d h in let e = same d (omega (arith, h, lt)) in let f = same best lt in omega (arith, m, e, f));
    } where
      same : (d : ℕ) → d < length ps → blocks_in (pool_at (lists_of ps) d) ≡ size_at ps d
      same d w = ap blocks_in (lists_at ps d no_pool w)

-- one pool more is made
pub pools_more : (words : List ℕ) (s : Super) (n : ℕ) (ps : List PoolState) (p : PoolState) → AreRuns (IsClear words (pool_start s n) (pool_start s (n + 1))) p.runs → ArePools words s n (lists_of ps) → ArePools words s (n + 1) (lists_of (ps ++ p ∷ []))
pools_more words s n ps p r h = record {
  count = (let l = ap (λ (x : List (List Run)). length x) pushed in let a = length-append (lists_of ps) (p.runs ∷ []) in let c = h.count in omega (arith, l, a, c));
  each = λ c lt. (let P : List (List Run) → Type 0 = λ x. AreRuns (λ b. InPool s c b × (has words b ≡ 0)) (pool_at x c) in subst P (sym pushed) (at_place c lt));
} where
  pushed : lists_of (ps ++ p ∷ []) ≡ lists_of ps ++ p.runs ∷ []
  pushed = map-append (λ (x : PoolState). x.runs) ps (p ∷ [])

  at_place : (c : ℕ) → c < n + 1 → AreRuns (λ b. InPool s c b × (has words b ≡ 0)) (pool_at (lists_of ps ++ p.runs ∷ []) c)
  at_place c lt = elim (cases_lt c n) [
    | inl w ↦ (let within : c < length (lists_of ps) = (let l = h.count in omega (arith, l, w)) in
        let P : List Run → Type 0 = λ x. AreRuns (λ b. InPool s c b × (has words b ≡ 0)) x in subst P (sym (get_or_append_left (lists_of ps) (p.runs ∷ []) [] c within)) (h.each c w))
    | inr w ↦ (let same : n ≡ c = omega (arith, w, lt) in
        let P : List Run → Type 0 = λ x. AreRuns (λ b. InPool s c b × (has words b ≡ 0)) x in let Q : ℕ → Type 0 = λ k. AreRuns (λ b. InPool s k b × (has words b ≡ 0)) p.runs in
        subst P (sym (get_or_push (lists_of ps) p.runs [] c (h.count ∙ same))) (subst Q same (AreRuns-same _ _ p.runs (λ b q. ((q.0, q.1), q.2)) (λ b q. (q.0.0, q.0.1, q.1)) r)))
  ]

-- one pool more lies where the superblock has it
pub bounds_more : (s : Super) (n : ℕ) (ps : List PoolState) (p : PoolState) → length ps ≡ n → p.from ≡ pool_start s n → p.to ≡ pool_start s (n + 1) → AreBounds s n (bounds_of ps) → AreBounds s (n + 1) (bounds_of (ps ++ p ∷ []))
bounds_more s n ps p len from to h c lt =
    ap (λ (x : List (ℕ × ℕ)). get_or x c (0, 0)) (map-append (λ (x : PoolState). (x.from, x.to)) ps (p ∷ [])) ∙ at_place where
      count : length (bounds_of ps) ≡ n
      count = length-map ps (λ (x : PoolState). (x.from, x.to)) ∙ len

      last : ◌≡◌ {A = ℕ × ℕ} (p.from, p.to) (pool_start s n, pool_start s (n + 1))
      last = λ i. (from i, to i)

      at_place : get_or (bounds_of ps ++ (p.from, p.to) ∷ []) c (0, 0) ≡ (pool_start s c, pool_start s (c + 1))
      at_place = elim (cases_lt c n) [
        | inl w ↦ get_or_append_left (bounds_of ps) ((p.from, p.to) ∷ []) (0, 0) c (let l = count in omega (arith, l, w)) ∙ h c w
        | inr w ↦ (let same : n ≡ c = omega (arith, w, lt) in get_or_push (bounds_of ps) (p.from, p.to) (0, 0) c (count ∙ same) ∙ last ∙ ap (λ (k : ℕ). (pool_start s k, pool_start s (k + 1))) same)
      ]

-- where a pool lies
pub place_of : (s : Super) (n c : ℕ) (ps : List PoolState) (d : PoolState) → c < n → c < length ps → AreBounds s n (bounds_of ps) → ((get_or ps c d).from ≡ pool_start s c) × ((get_or ps c d).to ≡ pool_start s (c + 1))
place_of s n c ps d lt within h =
    let e = sym (get_or-map (λ (x : PoolState). (x.from, x.to)) ps c d (0, 0) within) ∙ h c lt in
    (ap (λ (x : ℕ × ℕ). x.0) e, ap (λ (x : ℕ × ℕ). x.1) e)

-- the bounds of a pool
pub pool_bounds : (s : Super) (c : ℕ) → IsLayout s → c < s.cpus → (pool_start s c ≤ pool_start s (c + 1)) × (pool_start s (c + 1) ≤ s.blocks)
pool_bounds s c l lt = (pools_rise s c (c + 1) l.cpus_from (omega arith), pools_to s c lt (let r = l.areas.room in omega (arith, r)))

-- one pool more is joined
pub joined_more : (s : Super) (run : Run) (c : ℕ) (old now : List PoolState) (p q : PoolState) → c < length now → length now ≡ length old → p ≡ get_or now c p
    → AreRuns (λ b. HasBlock p.runs b ⊎ (((pool_start s c ≤ b) × (b < pool_start s (c + 1))) × InRun run b)) q.runs → SamePlace p q → JoinedUpTo s run c old now → JoinedUpTo s run (c + 1) old (set now c q)
joined_more s run c old now p q lt len is r place h = record {
  done = λ d below within. elim (one_of d c) [
    | inl ne ↦ (let P : List Run → Type 0 = λ x. AreRuns (λ b. HasBlock (pool_at (lists_of old) d) b ⊎ (InPool s d b × InRun run b)) x in
        subst P (sym (ap (λ (x : List (List Run)). pool_at x d) (lists_set now c q) ∙ get_or-set_other (lists_of now) c d q.runs [] ne)) (h.done d (less d c below ne) within))
    | inr same ↦ (let P : ℕ → Type 0 = λ k. AreRuns (λ b. HasBlock (pool_at (lists_of old) k) b ⊎ (InPool s k b × InRun run b)) (pool_at (lists_of (set now c q)) k) in subst P same here)
  ];
  still = λ d le. get_or-set_other now c d q no_pool (λ e. omega (arith, e, le)) ∙ h.still d (omega (arith, le));
  bounds = bounds_set now c p q lt is place ∙ h.bounds;
} where
  less : (d c : ℕ) → d < c + 1 → (d ≡ c → ⊥) → d < c
  less d c h ne = omega arith

  was : p ≡ get_or old c no_pool
  was = is ∙ get_or_default now c p no_pool lt ∙ h.still c (omega arith)

  runs_were : p.runs ≡ pool_at (lists_of old) c
  runs_were = ap (λ (x : PoolState). x.runs) was ∙ sym (lists_at old c no_pool (omega (arith, lt, len)))

  here : AreRuns (λ b. HasBlock (pool_at (lists_of old) c) b ⊎ (InPool s c b × InRun run b)) (pool_at (lists_of (set now c q)) c)
  here =
      let lt' : c < length (lists_of now) = (let l = lists_length now in omega (arith, l, lt)) in
      let at : q.runs ≡ pool_at (lists_of (set now c q)) c = sym (ap (λ (x : List (List Run)). pool_at x c) (lists_set now c q) ∙ get_or-set_same (lists_of now) c q.runs [] lt') in
      let P : List Run → Type 0 = λ x. AreRuns (λ b. HasBlock (pool_at (lists_of old) c) b ⊎ (InPool s c b × InRun run b)) x in
      let Q : List Run → Type 0 = λ x. AreRuns (λ b. HasBlock x b ⊎ (InPool s c b × InRun run b)) q.runs in
      subst P at (subst Q runs_were r)

-- what the pool had before
pub runs_before : (s : Super) (run : Run) (c : ℕ) (old now : List PoolState) (p : PoolState) → c < length now → length now ≡ length old → p ≡ get_or now c p → JoinedUpTo s run c old now → p.runs ≡ pool_at (lists_of old) c
runs_before s run c old now p lt len is h =
    let was = is ∙ get_or_default now c p no_pool lt ∙ h.still c (omega arith) in
    ap (λ (x : PoolState). x.runs) was ∙ sym (lists_at old c no_pool (omega (arith, lt, len)))

-- the blocks from the later beginning up to the earlier end are those of both
pub both_bounds : (runs xs : List Run) (first last : ℕ) (run : Run) (from to : ℕ) → from ≡ max run.start first → to ≡ min (run.start + run.count) last
    → AreRuns (λ b. HasBlock runs b ⊎ ((from ≤ b) × (b < to))) xs → AreRuns (λ b. HasBlock runs b ⊎ (((first ≤ b) × (b < last)) × InRun run b)) xs
both_bounds runs xs first last run from to e f r = AreRuns-same _ _ xs
    (λ b h. elim h [ inl w ↦ inl w | inr w ↦ (let lo = w.0 in let hi = w.1 in inr ((omega (arith, lo, e), omega (arith, hi, f)), (omega (arith, lo, e), omega (arith, hi, f)))) ])
    (λ b h. elim h [ inl w ↦ inl w | inr w ↦ (let a = w.0.0 in let z = w.0.1 in let lo = w.1.0 in let hi = w.1.1 in inr (omega (arith, a, lo, e), omega (arith, z, hi, f))) ]) r

-- a run that has no block between the bounds adds none
pub none_joined : (runs : List Run) (first last : ℕ) (run : Run) (from to : ℕ) → from ≡ max run.start first → to ≡ min (run.start + run.count) last → to ≤ from → Apart runs
    → AreRuns (λ b. HasBlock runs b ⊎ (((first ≤ b) × (b < last)) × InRun run b)) runs
none_joined runs first last run from to e f none apart = AreRuns-same _ _ runs (λ b h. inl h)
    (λ b h. elim h [ inl w ↦ w | inr w ↦ absurd (let a = w.0.0 in let z = w.0.1 in let lo = w.1.0 in let hi = w.1.1 in omega (arith, a, z, lo, hi, e, f, none)) ])
    (AreRuns-own runs apart)

pub own_default : (ps : List PoolState) (i : ℕ) (d : PoolState) → i < length ps → get_or ps i d ≡ get_or ps i (get_or ps i d)
own_default ps i d lt = get_or_default ps i d (get_or ps i d) lt

-- the pools before the one of the run's first block get none of it
pub joined_before : (s : Super) (run : Run) (home : ℕ) (ps : List PoolState) → 0 < s.cpus → pool_start s home ≤ run.start → ((c : ℕ) → Apart (pool_at (lists_of ps) c)) → JoinedUpTo s run home ps ps
joined_before s run home ps pos from apart = record {
  done = λ c lt w. AreRuns-same _ _ (pool_at (lists_of ps) c) (λ b h. inl h)
      (λ b h. elim h [ inl v ↦ v | inr v ↦ absurd (let r = pools_rise s (c + 1) home pos (omega (arith, lt)) in let hi = v.0.1 in let lo = v.1.0 in omega (arith, r, hi, lo, from)) ])
      (AreRuns-own (pool_at (lists_of ps) c) (apart c));
  still = λ c le. refl;
  bounds = refl;
}

-- nor do those behind the pool of its last block
pub joined_behind : (s : Super) (run : Run) (k : ℕ) (old new : List PoolState) → 0 < s.cpus → length new ≡ length old → run.start + run.count ≤ pool_start s k → ((c : ℕ) → Apart (pool_at (lists_of old) c)) → JoinedUpTo s run k old new → JoinedUpTo s run (length old) old new
joined_behind s run k old new pos len to apart h = record {
  done = λ c lt w. elim (cases_lt c k) [
    | inl v ↦ h.done c v w
    | inr v ↦ (let same : pool_at (lists_of new) c ≡ pool_at (lists_of old) c =
        lists_at new c no_pool (omega (arith, w, len)) ∙ ap (λ (x : PoolState). x.runs) (h.still c v) ∙ sym (lists_at old c no_pool w) in
        let P : List Run → Type 0 = λ x. AreRuns (λ b. HasBlock (pool_at (lists_of old) c) b ⊎ (InPool s c b × InRun run b)) x in
        subst P (sym same) (AreRuns-same _ _ (pool_at (lists_of old) c) (λ b q. inl q)
        (λ b q. elim q [ inl u ↦ u | inr u ↦ absurd (let r = pools_rise s k c pos v in let lo = u.0.0 in let hi = u.1.1 in omega (arith, r, lo, hi, to)) ])
        (AreRuns-own (pool_at (lists_of old) c) (apart c))))
  ];
  still = λ c le. elim (cases_lt c k) [
    | inl v ↦ past new c (omega (arith, le, len)) ∙ sym (past old c le)
    | inr v ↦ h.still c v
  ];
  bounds = h.bounds;
} where
  past : (ps : List PoolState) (c : ℕ) → length ps ≤ c → get_or ps c no_pool ≡ no_pool
  past ps c le = get_or_past ps c no_pool le

-- one pool more is joined, by the bounds that it tells
pub joined_next : (s : Super) (run : Run) (n c : ℕ) (old now : List PoolState) (d q : PoolState) → c < n → c < length now → length now ≡ length old → AreBounds s n (bounds_of old)
    → AreRuns (λ b. HasBlock (get_or now c d).runs b ⊎ ((((get_or now c d).from ≤ b) × (b < (get_or now c d).to)) × InRun run b)) q.runs → SamePlace (get_or now c d) q → JoinedUpTo s run c old now → JoinedUpTo s run (c + 1) old (set now c q)
joined_next s run n c old now d q below lt len bounds r place h =
    let P : ℕ → Type 0 = λ k. AreRuns (λ b. HasBlock (get_or now c d).runs b ⊎ (((k ≤ b) × (b < (get_or now c d).to)) × InRun run b)) q.runs in
    let Q : ℕ → Type 0 = λ k. AreRuns (λ b. HasBlock (get_or now c d).runs b ⊎ (((pool_start s c ≤ b) × (b < k)) × InRun run b)) q.runs in
    let B : List (ℕ × ℕ) → Type 0 = λ x. AreBounds s n x in
    let lies = place_of s n c now d below lt (subst B (sym h.bounds) bounds) in
    joined_more s run c old now (get_or now c d) q lt len (own_default now c d lt) (subst Q lies.1 (subst P lies.0 r)) place h
