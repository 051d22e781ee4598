-- Whether a superblock is accepted is told by its words and the region's length.
use Rattle.std.proofs.Common.{◌≡◌, ◌≢◌, ◌⊎◌, ◌≤◌, ◌<◌, ◌+◌, ◌*◌, ◌/◌, ◌%◌, ℕ, ap, sym, ◌∙◌, subst, arith}
use Rattle.nv_region.specs.Region.{Region, size, word}
use Rattle.nv_region.specs.Stored.{SameOutside}
use Rattle.nv_super.specs.declared.superblock.Super.{Super}
use Rattle.nv_super.specs.declared.superblock.SuperFault.{SuperFault}
use Rattle.nv_super.specs.declared.superblock.SuperFault.TheVariants.{Length, Magic, Version, Cpus, Blocks, Tables, State}
use Rattle.nv_super.specs.Layout.{most_blocks}
use Rattle.nv_super.specs.Super.{Applies, IsSuper, magic}

module _ (R Q : Region) (as_long : size Q ≡ size R) (same : (at : ℕ) → at % 8 ≡ 0 → at < 48 → word Q at ≡ word R at) where
  applied : (fault : SuperFault) → Applies Q fault → Applies R fault
  applied Length h = subst (λ (n : ℕ). (n % 4096 ≢ 0) ⊎ ((n / 4096 < 8) ⊎ (most_blocks < n / 4096))) as_long h
  applied Magic h = subst (λ (n : ℕ). n ≢ magic) (same 0 (omega arith) (omega arith)) h
  applied Version h = subst (λ (n : ℕ). (n ≢ 1) × (n ≢ 2)) (same 8 (omega arith) (omega arith)) h
  applied Cpus h = subst (λ (n : ℕ). (n < 1) ⊎ (64 < n)) (same 16 (omega arith) (omega arith)) h
  applied Blocks h = λ is. h (same 24 (omega arith) (omega arith) ∙ is ∙ ap (λ (n : ℕ). n / 4096) (sym as_long))
  applied Tables h =
      let cpus = same 16 (omega arith) (omega arith) in
      let blocks = same 24 (omega arith) (omega arith) in
      let tables = same 32 (omega arith) (omega arith) in
      subst (λ (t : ℕ). ((t < 1) ⊎ (64 < t)) ⊎ (word R 24 ≤ 1 + word R 16 + word R 16 * t)) tables
      (subst (λ (c : ℕ). ((word Q 32 < 1) ⊎ (64 < word Q 32)) ⊎ (word R 24 ≤ 1 + c + c * word Q 32)) cpus
      (subst (λ (b : ℕ). ((word Q 32 < 1) ⊎ (64 < word Q 32)) ⊎ (b ≤ 1 + word Q 16 + word Q 16 * word Q 32)) blocks h))
  applied State h = subst (λ (n : ℕ). 1 < n) (same 40 (omega arith) (omega arith)) h

  -- a region of the same length, with the same words there, has the same superblock
  pub super_stays : (s : Super) → IsSuper R s → IsSuper Q s
  super_stays s is = record {
    sound = λ fault h. is.sound fault (applied fault h);
    version = is.version ∙ sym (same 8 (omega arith) (omega arith));
    cpus = is.cpus ∙ sym (same 16 (omega arith) (omega arith));
    blocks = is.blocks ∙ sym (same 24 (omega arith) (omega arith));
    table_blocks = is.table_blocks ∙ sym (same 32 (omega arith) (omega arith));
    state = is.state ∙ sym (same 40 (omega arith) (omega arith));
  }

-- what changes behind its block leaves the superblock
pub super_outside : (R Q : Region) (n : ℕ) → SameOutside R 4096 n Q → (s : Super) → IsSuper R s → IsSuper Q s
super_outside R Q n outside = super_stays R Q outside.len (λ at whole before. outside.before at whole (omega (arith, before)))
