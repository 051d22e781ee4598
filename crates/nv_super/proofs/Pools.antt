-- The pools are the data blocks, cut in rising pieces.
use Rattle.std.proofs.Common.{◌≡◌, ℕ, zero, suc, ◌+◌, ◌-◌, ◌*◌, ◌/◌, ◌<◌, ◌≤◌, inl, inr, subst, arith}
use Rattle.std.proofs.Math.Nat.{div-le_of_le-mul, div-mul-le_self, mul-le-mul_right}
use Rattle.std.proofs.lemmas.Nat.{le-div}
use Rattle.std.proofs.lemmas.Bool.{cases_order, cases_lt}
use Rattle.nv_super.specs.Layout.{system_blocks, pool_start, InPool, IsLayout, PoolsCover}
use Rattle.nv_super.specs.declared.superblock.Super.{Super}

div_mono : (m n k : ℕ) → 0 < k → m ≤ n → m / k ≤ n / k
div_mono m n k pos h = le-div (m / k) n k pos (let d = div-mul-le_self m k in omega (arith, d, h))

whole_div : (d k : ℕ) → 0 < k → k * d / k ≡ d
whole_div d k pos =
    let up = div-le_of_le-mul k {m = k * d} {n = d} (omega arith) in
    let low = le-div d (k * d) k pos (omega arith) in omega (arith, up, low)

pub pools_from : (s : Super) (c : ℕ) → system_blocks s ≤ pool_start s c
pools_from s c = omega arith

-- later pools begin later
pub pools_rise : (s : Super) (c d : ℕ) → 0 < s.cpus → c ≤ d → pool_start s c ≤ pool_start s d
pools_rise s c d pos h =
    let size = s.blocks - system_blocks s in
    let m : c * size ≤ d * size = mul-le-mul_right size h in
    let q : c * size / s.cpus ≤ d * size / s.cpus = div_mono (c * size) (d * size) s.cpus pos m in omega (arith, q)

pub pools_first : (s : Super) → 0 < s.cpus → pool_start s 0 ≡ system_blocks s
pools_first s pos = let z : 0 * (s.blocks - system_blocks s) / s.cpus ≤ 0 = div-le_of_le-mul s.cpus (omega arith) in omega (arith, z)

pub pools_end : (s : Super) → 0 < s.cpus → system_blocks s ≤ s.blocks → pool_start s s.cpus ≡ s.blocks
pools_end s pos room = let size = s.blocks - system_blocks s in let w : s.cpus * size / s.cpus ≡ size = whole_div size s.cpus pos in omega (arith, w, room)

pub pools_to : (s : Super) (c : ℕ) → c < s.cpus → system_blocks s ≤ s.blocks → pool_start s (c + 1) ≤ s.blocks
pools_to s c lt room =
    let pos : 0 < s.cpus = omega arith in let r = pools_rise s (c + 1) s.cpus pos (omega arith) in let e = pools_end s pos room in omega (arith, r, e)

pool_below : (s : Super) (b k : ℕ) → 0 < s.cpus → system_blocks s ≤ b → b < pool_start s k → (c : ℕ) × (c < k) × InPool s c b
pool_below s b zero pos low high = absurd (let z : 0 * (s.blocks - system_blocks s) / s.cpus ≤ 0 = div-le_of_le-mul s.cpus (omega arith) in omega (arith, z, low, high))
pool_below s b (suc k) pos low high = elim (cases_lt b (pool_start s k)) [
  | inl w ↦ (let r = pool_below s b k pos low w in (r.0, (let lt = r.1 in omega (arith, lt)), r.2))
  | inr w ↦ (k, omega arith, (w, (let P : ℕ → Type 0 = λ n. b < pool_start s n in let e : suc k ≡ k + 1 = omega arith in subst P e high)))
]

-- each data block is in a pool
pub some_pool : (s : Super) (b : ℕ) → 0 < s.cpus → system_blocks s ≤ b → b < s.blocks → (c : ℕ) × (c < s.cpus) × InPool s c b
some_pool s b pos low high = pool_below s b s.cpus pos low (let e = pools_end s pos (le_of low high) in rw e high) where
  le_of : {k m n : ℕ} → k ≤ m → m < n → k ≤ n
  le_of p q = omega arith

no_earlier : (s : Super) (b c d : ℕ) → 0 < s.cpus → InPool s c b → InPool s d b → c < d → ⊥
no_earlier s b c d pos p q lt = let r = pools_rise s (c + 1) d pos (omega arith) in let x = p.1 in let y = q.0 in clash x y r where
  clash : {k m n : ℕ} → k < m → n ≤ k → m ≤ n → ⊥
  clash x y r = absurd (omega arith)

-- and in one
pub one_pool : (s : Super) (b c d : ℕ) → 0 < s.cpus → InPool s c b → InPool s d b → c ≡ d
one_pool s b c d pos p q = elim (cases_order c d) [
  | inl w ↦ w
  | inr w ↦ elim w [ inl v ↦ absurd (no_earlier s b c d pos p q v) | inr v ↦ absurd (no_earlier s b d c pos q p v) ]
]

pub pools_cover : (s : Super) → IsLayout s → PoolsCover s
pools_cover s layout = record {
  first = pools_first s (layout.cpus_from);
  last = pools_end s layout.cpus_from room;
  rise = λ c d. pools_rise s c d layout.cpus_from;
  some_pool = λ b. some_pool s b layout.cpus_from;
  one_pool = λ b c d. one_pool s b c d layout.cpus_from;
}
  where
    room : system_blocks s ≤ s.blocks
    room = omega (arith, layout.areas.room)
