-- Whether a superblock is refused, and for what, is told by its words and the region's length.
use Rattle.std.proofs.Common.{◌≡◌, ◌≢◌, ◌⊎◌, ◌≤◌, ◌<◌, ◌+◌, ◌*◌, ◌/◌, ◌%◌, ℕ, ap, sym, ◌∙◌, subst, arith}
use Rattle.nv_region.specs.Region.{Region, size, word}
use Rattle.nv_super.specs.declared.superblock.Super.{Super}
use Rattle.nv_super.specs.declared.superblock.SuperFault.{SuperFault}
use Rattle.nv_super.specs.declared.superblock.SuperFault.TheVariants.{Length, Magic, Version, Cpus, Blocks, Tables, State}
use Rattle.nv_super.specs.Layout.{most_blocks}
use Rattle.nv_super.specs.Super.{Applies, IsSuper, IsRefused, magic, rank}
use Rattle.nv_super.proofs.Accepted.{super_stays}

abbrev SameHead : Region → Region → Type 0
SameHead R Q = (at : ℕ) → at % 8 ≡ 0 → at < 48 → word Q at ≡ word R at

applied : (R Q : Region) → size Q ≡ size R → SameHead R Q → (fault : SuperFault) → Applies Q fault → Applies R fault
applied R Q long same Length h = subst (λ (n : ℕ). (n % 4096 ≢ 0) ⊎ ((n / 4096 < 8) ⊎ (most_blocks < n / 4096))) long h
applied R Q long same Magic h = subst (λ (n : ℕ). n ≢ magic) (same 0 (omega arith) (omega arith)) h
applied R Q long same Version h = subst (λ (n : ℕ). (n ≢ 1) × (n ≢ 2)) (same 8 (omega arith) (omega arith)) h
applied R Q long same Cpus h = subst (λ (n : ℕ). (n < 1) ⊎ (64 < n)) (same 16 (omega arith) (omega arith)) h
applied R Q long same Blocks h = λ is. h (same 24 (omega arith) (omega arith) ∙ is ∙ ap (λ (n : ℕ). n / 4096) (sym long))
applied R Q long same Tables h =
    let cpus = same 16 (omega arith) (omega arith) in
    let blocks = same 24 (omega arith) (omega arith) in
    let tables = same 32 (omega arith) (omega arith) in
    subst (λ (t : ℕ). ((t < 1) ⊎ (64 < t)) ⊎ (word R 24 ≤ 1 + word R 16 + word R 16 * t)) tables
    (subst (λ (c : ℕ). ((word Q 32 < 1) ⊎ (64 < word Q 32)) ⊎ (word R 24 ≤ 1 + c + c * word Q 32)) cpus
    (subst (λ (b : ℕ). ((word Q 32 < 1) ⊎ (64 < word Q 32)) ⊎ (b ≤ 1 + word Q 16 + word Q 16 * word Q 32)) blocks h))
applied R Q long same State h = subst (λ (n : ℕ). 1 < n) (same 40 (omega arith) (omega arith)) h

-- a region of the same length, with the same words there, is refused for the same fault
pub refused_there : (R Q : Region) → size Q ≡ size R → SameHead R Q → (fault : SuperFault) → IsRefused Q fault → IsRefused R fault
refused_there R Q long same fault is = record {
  applies = applied R Q long same fault is.applies;
  first = λ other less h. is.first other less (applied Q R (sym long) (λ at whole low. sym (same at whole low)) other h);
}

-- and accepted with the same numbers
pub accepted_there : (R Q : Region) → size Q ≡ size R → SameHead R Q → (s : Super) → IsSuper Q s → IsSuper R s
accepted_there R Q long same s is = super_stays Q R (sym long) (λ at whole low. sym (same at whole low)) s is

-- a length that no region has
pub length_refused : (R : Region) → (size R % 4096 ≢ 0) ⊎ ((size R / 4096 < 8) ⊎ (most_blocks < size R / 4096)) → IsRefused R Length
length_refused R bad = record { applies = bad; first = λ other less h. none other less }
  where
    none : (other : SuperFault) → rank other < 1 → ⊥
    none Length less = absurd (omega arith)
    none Magic less = absurd (omega arith)
    none Version less = absurd (omega arith)
    none Cpus less = absurd (omega arith)
    none Blocks less = absurd (omega arith)
    none Tables less = absurd (omega arith)
    none State less = absurd (omega arith)
