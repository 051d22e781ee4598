-- Format has one answer: a region that was formatted isn't refused, and a refusal is the only one.
use Rattle.std.proofs.Common.{◌≡◌, ◌≢◌, ◌⊎◌, inl, inr, ℕ, ◌*◌, ◌+◌, ◌/◌, ◌%◌, ◌<◌, length, refl, sym, subst, arith}
use Rattle.std.specs.Prelude.{◌==◌, if◌then◌else◌}
use Rattle.nv_region.specs.Region.{Region, size}
use Rattle.nv_super.specs.Layout.{most_blocks}
use Rattle.nv_super.proofs.First.{one_first}
use Rattle.nv_super.specs.declared.superblock.SuperFault.TheVariants as faults
use Rattle.nv_format.specs.Format.{Prevents, rank, IsFormatRefusal, IsFormatted, fresh_super}
use Rattle.nv_format.specs.declared.formatting.FormatRefusal.{FormatRefusal}
use Rattle.nv_format.specs.declared.formatting.FormatRefusal.TheVariants.{Length, Cpus, Tables, Stopped}

abbrev refusal_at : ℕ → FormatRefusal
refusal_at place = if place == 1 then Length else (if place == 2 then Cpus else (if place == 3 then Tables else Stopped))

refusal_back : (refusal : FormatRefusal) → refusal_at (rank refusal) ≡ refusal
refusal_back Length = refl
refusal_back Cpus = refl
refusal_back Tables = refl
refusal_back Stopped = refl

-- the first refusal that applies is one
pub one_refusal : (R : Region) (cpus tables : ℕ) (a b : FormatRefusal) → IsFormatRefusal R cpus tables a → IsFormatRefusal R cpus tables b → a ≡ b
one_refusal R cpus tables a b p q = one_first rank refusal_at refusal_back (Prevents R cpus tables) a b p.applies p.first q.applies q.first

module _ {old new : Region} {cpus tables time : ℕ} (is : IsFormatted old new (fresh_super old cpus tables) time) where
  as_large : size old ≡ size new
  as_large = λ i. 8 * sym is.as_long i + length (sym is.same_rest i)

  -- no refusal but a stop applies to a region that was formatted
  pub not_prevented : (refusal : FormatRefusal) → refusal ≢ Stopped → Prevents old cpus tables refusal → ⊥
  not_prevented Length going applies =
      let P : ℕ → Type 0 = λ n. (n % 4096 ≢ 0) ⊎ ((n / 4096 < 8) ⊎ (most_blocks < n / 4096)) in
      is.super.sound faults.Length (subst P as_large applies)
  not_prevented Cpus going applies = elim applies [
    | inl low ↦ (let from = is.layout.cpus_from in absurd (omega (arith, low, from)))
    | inr high ↦ (let to = is.layout.areas.cpus_to in absurd (omega (arith, high, to)))
  ]
  not_prevented Tables going applies = elim applies [
    | inl some ↦ elim some [
      | inl low ↦ (let from = is.layout.tables_from in absurd (omega (arith, low, from)))
      | inr high ↦ (let to = is.layout.areas.tables_to in absurd (omega (arith, high, to)))
    ]
    | inr full ↦ (let room = is.layout.areas.room in absurd (omega (arith, full, room)))
  ]
  not_prevented Stopped going applies = going refl
