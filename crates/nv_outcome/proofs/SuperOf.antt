-- What an accepted superblock is.
use Rattle.std.proofs.Common.{◌≡◌, ◌≢◌, ◌⊎◌, ℕ, ◌+◌, ◌*◌, ◌/◌, ◌<◌, ◌≤◌, inl, inr, refl, sym, ◌∙◌, arith}
use Rattle.std.specs.Prelude.{◌==◌, if◌then◌else◌}
use Rattle.std.proofs.lemmas.Bool.{cases_eq, cases_lt}
use Rattle.nv_region.specs.Region.{Region, word, size}
use Rattle.nv_super.specs.Layout.{most_blocks, IsLayout}
use Rattle.nv_super.specs.Super.{Applies, IsSuper, IsRefused, rank}
use Rattle.nv_super.proofs.First.{one_first}
use Rattle.nv_super.specs.declared.superblock.Super.{Super}
use Rattle.nv_super.specs.declared.superblock.SuperFault.{SuperFault}
use Rattle.nv_super.specs.declared.superblock.SuperFault.TheVariants.{Length, Magic, Version, Cpus, Blocks, Tables, State}

-- a region has one superblock
pub one_super : (R : Region) (s t : Super) → IsSuper R s → IsSuper R t → t ≡ s
one_super R s t p q = λ i. record {
  version = (q.version ∙ sym p.version) i;
  cpus = (q.cpus ∙ sym p.cpus) i;
  blocks = (q.blocks ∙ sym p.blocks) i;
  table_blocks = (q.table_blocks ∙ sym p.table_blocks) i;
  state = (q.state ∙ sym p.state) i;
}

abbrev fault_at : ℕ → SuperFault
fault_at place = if place == 1 then Length else (if place == 2 then Magic else (if place == 3 then Version else (if place == 4 then Cpus else (if place == 5 then Blocks else (if place == 6 then Tables else State)))))

fault_back : (fault : SuperFault) → fault_at (rank fault) ≡ fault
fault_back Length = refl
fault_back Magic = refl
fault_back Version = refl
fault_back Cpus = refl
fault_back Blocks = refl
fault_back Tables = refl
fault_back State = refl

-- a region is refused for one fault
pub one_fault : (R : Region) (a b : SuperFault) → IsRefused R a → IsRefused R b → a ≡ b
one_fault R a b p q = one_first rank fault_at fault_back (Applies R) a b p.applies p.first q.applies q.first

pub is_equal : (a b : ℕ) → (a ≢ b → ⊥) → a ≡ b
is_equal a b h = elim (cases_eq a b) [ inl e ↦ e | inr ne ↦ absurd (h ne) ]

at_least : (a b : ℕ) → (a < b → ⊥) → b ≤ a
at_least a b h = elim (cases_lt a b) [ inl less ↦ absurd (h less) | inr more ↦ more ]

-- it has as many blocks as the region
pub blocks_of_super : (R : Region) (s : Super) → IsSuper R s → s.blocks ≡ size R / 4096
blocks_of_super R s is = is.blocks ∙ is_equal (word R 24) (size R / 4096) (is.sound Blocks)

-- its version is 1 or 2
pub version_of_super : (R : Region) (s : Super) → IsSuper R s → (s.version ≡ 1) ⊎ (s.version ≡ 2)
version_of_super R s is = elim (cases_eq (word R 8) 1) [
  | inl one ↦ inl (is.version ∙ one)
  | inr other ↦ inr (is.version ∙ is_equal (word R 8) 2 (λ another. is.sound Version (other, another)))
]

-- its numbers are those of a layout
pub layout_of_super : (R : Region) (s : Super) → IsSuper R s → IsLayout s
layout_of_super R s is = record {
  version_from = from_one s.version (version_of_super R s is);
  version_to = to_two s.version (version_of_super R s is);
  cpus_from = (let low = at_least (word R 16) 1 (λ h. is.sound Cpus (inl h)) in let e = is.cpus in omega (arith, low, e));
  blocks_from = (let low = at_least (size R / 4096) 8 (λ h. is.sound Length (inr (inl h))) in omega (arith, low, blocks));
  blocks_to = (let high = at_least most_blocks (size R / 4096) (λ h. is.sound Length (inr (inr h))) in omega (arith, high, blocks));
  tables_from = (let low = at_least (word R 32) 1 (λ h. is.sound Tables (inl (inl h))) in let e = is.table_blocks in omega (arith, low, e));
  state = (let high = at_least 1 (word R 40) (is.sound State) in let e = is.state in omega (arith, high, e));
  areas = record {
    cpus_to = (let high = at_least 64 (word R 16) (λ h. is.sound Cpus (inr h)) in let e = is.cpus in omega (arith, high, e));
    tables_to = (let high = at_least 64 (word R 32) (λ h. is.sound Tables (inl (inr h))) in let e = is.table_blocks in omega (arith, high, e));
    blocks_to = (let high = at_least most_blocks (size R / 4096) (λ h. is.sound Length (inr (inr h))) in omega (arith, high, blocks));
    room = (
        let more = no_room (word R 24) (1 + word R 16 + word R 16 * word R 32) (λ h. is.sound Tables (inr h)) in
        let tables : s.cpus * s.table_blocks ≡ word R 16 * word R 32 = (λ i. is.cpus i * is.table_blocks i) in
        let e = is.cpus in let f = is.blocks in omega (arith, more, tables, e, f));
  };
} where
  from_one : (v : ℕ) → (v ≡ 1) ⊎ (v ≡ 2) → 1 ≤ v
  from_one v (inl one) = omega (arith, one)
  from_one v (inr two) = omega (arith, two)

  to_two : (v : ℕ) → (v ≡ 1) ⊎ (v ≡ 2) → v ≤ 2
  to_two v (inl one) = omega (arith, one)
  to_two v (inr two) = omega (arith, two)

  blocks : s.blocks ≡ size R / 4096
  blocks = blocks_of_super R s is

  no_room : (a b : ℕ) → (a ≤ b → ⊥) → b < a
  no_room a b h = elim (cases_lt b a) [ inl less ↦ less | inr more ↦ absurd (h more) ]
