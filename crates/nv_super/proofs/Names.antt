-- The numbers that a name may say: in version 1 those of inodes, and more in version 2.
use Rattle.std.proofs.Common.{◌≡◌, ◌≢◌, ℕ, ◌+◌, ◌-◌, ◌*◌, ◌<◌, ◌==◌, ◌&&◌, Bool, true, cond, ne_eqb, IsTrue, ap, inl, inr, arith}
use Rattle.std.specs.Prelude.{nat_lt}
use Rattle.std.proofs.lemmas.Bool.Decides.{nat_tests}
use Rattle.std.proofs.lemmas.Bool.{cases_eq, lt-ltb}
use Rattle.nv_super.specs.declared.superblock.Super.{Super}
use Rattle.nv_super.specs.Layout.{inode_limit, is_name_number, is_number, name_limit, system_blocks}

pub limit_fixed : (s : Super) → s.version ≢ 2 → name_limit s ≡ inode_limit s
limit_fixed s other = ap (λ (v : Bool). cond v (s.cpus * (32 * s.table_blocks + 31 * (s.blocks - system_blocks s))) (inode_limit s)) (ne_eqb s.version 2 other)

pub limit_chains : (s : Super) → s.version ≡ 2 → name_limit s ≡ s.cpus * (32 * s.table_blocks + 31 * (s.blocks - system_blocks s))
limit_chains s two = ap (λ (v : ℕ). cond (v == 2) (s.cpus * (32 * s.table_blocks + 31 * (s.blocks - system_blocks s))) (inode_limit s)) two

-- a number above 0 and below the limit
pub number_below : (s : Super) (i n : ℕ) → 0 < i → i < n → name_limit s ≡ n → IsTrue (is_name_number s i)
number_below s i n some less is = both (nat_lt 0 i) (nat_lt i (name_limit s)) (lt-ltb 0 i some) (lt-ltb i (name_limit s) (omega (arith, less, is)))
  where
    both : (a b : Bool) → a ≡ true → b ≡ true → IsTrue (a && b)
    both a b on too = (λ i. on i && too i)

pub number_parts : (s : Super) (i : ℕ) → IsTrue (is_number s i) → (0 < i) × (i < inode_limit s)
number_parts s i number = grind (arith, nat_tests)

-- the fixed tables have no more numbers than chains add
pub fixed_most : (s : Super) (i : ℕ) → i < inode_limit s → i < s.cpus * (32 * s.table_blocks + 31 * (s.blocks - system_blocks s))
fixed_most s i less =
    let more : s.cpus * (32 * s.table_blocks + 31 * (s.blocks - system_blocks s)) ≡ 32 * s.cpus * s.table_blocks + s.cpus * (31 * (s.blocks - system_blocks s)) = grind arith in
    omega (arith, less, more)

pub in_limit : (s : Super) (i : ℕ) → 0 < i → i < inode_limit s → IsTrue (is_name_number s i)
in_limit s i some less = elim (cases_eq s.version 2) [
  | inl two ↦ number_below s i _ some (fixed_most s i less) (limit_chains s two)
  | inr other ↦ number_below s i (inode_limit s) some less (limit_fixed s other)
]

-- a name may say each number that an inode of the fixed tables can have
pub number_named : (s : Super) (i : ℕ) → IsTrue (is_number s i) → IsTrue (is_name_number s i)
number_named s i number = let parts = number_parts s i number in in_limit s i parts.0 parts.1

-- in version 1 these are all
pub fixed_names : (s : Super) (i : ℕ) → s.version ≡ 1 → is_name_number s i ≡ is_number s i
fixed_names s i one = ap (λ (n : ℕ). nat_lt 0 i && nat_lt i n) (limit_fixed s (λ two. omega (arith, one, two)))
