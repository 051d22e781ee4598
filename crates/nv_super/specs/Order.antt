-- The order of owners and of faults.
use Rattle.std.specs.Prelude.{◌≡◌, ℕ, List, [], ◌∷◌}
use Rattle.std.specs.Ordering.{nat_cmp}
use Rattle.std.specs.declared.cmp.Ordering.TheVariants.{Less}
use Rattle.std.specs.Cmp.Lexicographic.{slice_cmp}
use Rattle.std.specs.List.{Contains}
use Rattle.nv_super.specs.declared.owners.Owner.{Owner}
use Rattle.nv_super.specs.declared.owners.Owner.TheVariants.{Table, Log, Data}
use Rattle.nv_super.specs.declared.faults.Fault.{Fault}
use Rattle.nv_super.specs.declared.faults.Fault.TheVariants.{J1, J2, H1, H2, I1, I2, I3, L1, L2, L3, L4, E1, E2, E3, E4, C1, C2, C3, C4, C5, B1}

-- Tables before inodes: tables by CPU, then place; inodes by number, then Log before Data, then page.
abbrev pub owner_key : Owner → List ℕ
owner_key (Table c k) = 0 ∷ c ∷ k ∷ 0 ∷ []
owner_key (Log i k) = 1 ∷ i ∷ 0 ∷ k ∷ []
owner_key (Data i p) = 1 ∷ i ∷ 1 ∷ p ∷ []

-- by class, then by the fields from left to right, with zeros behind
abbrev pub fault_key : Fault → List ℕ
fault_key (J1 c) = 0 ∷ c ∷ 0 ∷ 0 ∷ 0 ∷ 0 ∷ []
fault_key (J2 c k) = 1 ∷ c ∷ k ∷ 0 ∷ 0 ∷ 0 ∷ []
fault_key (H1 c a) = 2 ∷ c ∷ a ∷ 0 ∷ 0 ∷ 0 ∷ []
fault_key (H2 c a) = 3 ∷ c ∷ a ∷ 0 ∷ 0 ∷ 0 ∷ []
fault_key (I1 i) = 4 ∷ i ∷ 0 ∷ 0 ∷ 0 ∷ 0 ∷ []
fault_key (I2 i) = 5 ∷ i ∷ 0 ∷ 0 ∷ 0 ∷ 0 ∷ []
fault_key (I3 i) = 6 ∷ i ∷ 0 ∷ 0 ∷ 0 ∷ 0 ∷ []
fault_key (L1 i a) = 7 ∷ i ∷ a ∷ 0 ∷ 0 ∷ 0 ∷ []
fault_key (L2 i a) = 8 ∷ i ∷ a ∷ 0 ∷ 0 ∷ 0 ∷ []
fault_key (L3 i a) = 9 ∷ i ∷ a ∷ 0 ∷ 0 ∷ 0 ∷ []
fault_key (L4 i a) = 10 ∷ i ∷ a ∷ 0 ∷ 0 ∷ 0 ∷ []
fault_key (E1 i a) = 11 ∷ i ∷ a ∷ 0 ∷ 0 ∷ 0 ∷ []
fault_key (E2 i a) = 12 ∷ i ∷ a ∷ 0 ∷ 0 ∷ 0 ∷ []
fault_key (E3 i a) = 13 ∷ i ∷ a ∷ 0 ∷ 0 ∷ 0 ∷ []
fault_key (E4 i a) = 14 ∷ i ∷ a ∷ 0 ∷ 0 ∷ 0 ∷ []
fault_key (C1 d a) = 15 ∷ d ∷ a ∷ 0 ∷ 0 ∷ 0 ∷ []
fault_key (C2 i) = 16 ∷ i ∷ 0 ∷ 0 ∷ 0 ∷ 0 ∷ []
fault_key (C3 i) = 17 ∷ i ∷ 0 ∷ 0 ∷ 0 ∷ 0 ∷ []
fault_key (C4 i) = 18 ∷ i ∷ 0 ∷ 0 ∷ 0 ∷ 0 ∷ []
fault_key C5 = 19 ∷ 0 ∷ 0 ∷ 0 ∷ 0 ∷ 0 ∷ []
fault_key (B1 b o) = 20 ∷ b ∷ owner_key o

-- the keys rise strictly
abbrev pub Rises : {A : Type 0} → (A → List ℕ) → List A → Type 0
Rises key [] = Unit {0}
Rises key (x ∷ []) = Unit {0}
Rises key (x ∷ y ∷ xs) = (slice_cmp nat_cmp (key x) (key y) ≡ Less) × Rises key (y ∷ xs)

-- The list has just what P holds of, once each, rising by key.
pub record Lists {A : Type 0} (key : A → List ℕ) (P : A → Type 0) (xs : List A) : Type 0 where
  pub rising : Rises key xs
  pub each : (x : A) → Contains xs x → P x
  pub all : (x : A) → P x → Contains xs x

-- by block, then by owner
abbrev pub claim_key : ℕ × Owner → List ℕ
claim_key x = x.0 ∷ owner_key x.1

-- The second list has the elements of the first, each once, rising by key.
pub record SortedOf {A : Type 0} (key : A → List ℕ) (old new : List A) : Type 0 where
  pub rising : Rises key new
  pub from : (x : A) → Contains new x → Contains old x
  pub kept : (x : A) → Contains old x → Contains new x
