-- The chains of the tables: for each CPU the blocks of slots behind its fixed table, as links lead to them.
use Rattle.std.specs.Prelude.{◌≡◌, ◌≤◌, ◌<◌, ℕ, zero, suc, ◌+◌, ◌*◌, ◌/◌, Bool, not, ◌&&◌, ◌==◌, eqb, if◌then◌else◌, List, [], ◌∷◌, ◌++◌, length, map, Option, Some, None, slice_get, true, false}
use Rattle.std.specs.List.{list_any, range_with_len, filter_map, IsDistinct}
use Rattle.nv_region.specs.Region.{Region, word}
use Rattle.nv_super.specs.declared.superblock.Super.{Super}
use Rattle.nv_super.specs.declared.faults.Fault.{Fault}
use Rattle.nv_super.specs.declared.faults.Fault.TheVariants as faults
use Rattle.nv_super.specs.Layout.{Layout, IsLayout, chain_of, is_page_start, system_blocks}

-- where the link to the first block of a CPU's chain stands: in its journal's block
abbrev pub first_link : ℕ → ℕ
first_link cpu = 4096 * (1 + cpu) + 16

-- a link leads to one block more where it is the start of a data block that these blocks aren't
abbrev pub leads_on : Super → List ℕ → ℕ → Bool
leads_on s before link = is_page_start s link && not (list_any (eqb (link / 4096)) before)

-- The blocks of a chain behind these, by the link at an address: each is the one that the link before it leads to, and its
-- first word is the next link. The last link leads to none.
pub data IsChain (R : Region) (s : Super) : List ℕ → ℕ → List ℕ → Type 0 where
  ends : {before : List ℕ} {at : ℕ} → leads_on s before (word R at) ≡ false → IsChain R s before at []
  leads : {before rest : List ℕ} {at : ℕ} → leads_on s before (word R at) ≡ true → IsChain R s (before ++ word R at / 4096 ∷ []) (word R at) rest → IsChain R s before at (word R at / 4096 ∷ rest)

-- the same blocks, n of them at most
abbrev pub chain_on : Region → Super → List ℕ → ℕ → ℕ → List ℕ
chain_on R s before at zero = []
chain_on R s before at (suc n) = if leads_on s before (word R at) then word R at / 4096 ∷ chain_on R s (before ++ word R at / 4096 ∷ []) (word R at) n else []

-- The chain of a CPU's table. No block stands in it twice, so it has fewer than the region. Version 1 has none, whatever its
-- words say.
abbrev pub chain_in : Super → Region → ℕ → List ℕ
chain_in s R cpu = if s.version == 2 then chain_on R s [] (first_link cpu) s.blocks else []

-- the chains of all CPUs
abbrev pub chains_in : Super → Region → List (List ℕ)
chains_in s R = map (chain_in s R) (range_with_len 0 s.cpus)

-- the layout of a region with this superblock
abbrev pub layout_of : Super → Region → Layout
layout_of s R = record { sup = s; chains = chains_in s R }

-- ---- what is wrong with a chain

-- where the link behind these blocks stands, if the link to the first stands at an address
abbrev pub link_behind : ℕ → List ℕ → ℕ
link_behind at [] = at
link_behind at (b ∷ blocks) = link_behind (4096 * b) blocks

-- the links to these blocks are the same, the first standing at an address
abbrev pub SameLinks : Region → Region → ℕ → List ℕ → Type 0
SameLinks R Q at [] = Unit {0}
SameLinks R Q at (b ∷ blocks) = (word Q at ≡ word R at) × SameLinks R Q (4096 * b) blocks

-- the fault of a link at an address that leads to no block more: none where it is 0
abbrev pub link_fault : Super → ℕ → ℕ → ℕ → Option Fault
link_fault s cpu at link = if link == 0 then None else if is_page_start s link then Some (faults.H2 cpu at) else Some (faults.H1 cpu at)

-- what is wrong with the last link of a chain with these blocks
abbrev pub fault_behind : Super → Region → ℕ → List ℕ → Option Fault
fault_behind s R cpu blocks = link_fault s cpu (link_behind (first_link cpu) blocks) (word R (link_behind (first_link cpu) blocks))

-- what is wrong with the last link of a CPU's chain
abbrev pub end_fault : Super → Region → ℕ → Option Fault
end_fault s R cpu = if s.version == 2 then fault_behind s R cpu (chain_in s R cpu) else None

-- the faults of all chains, by CPU
abbrev pub chain_faults : Super → Region → List Fault
chain_faults s R = filter_map (end_fault s R) (range_with_len 0 s.cpus)

-- ---- layouts

-- A layout that a region can have: a chain for each CPU, of data blocks, each once, and of none in version 1.
pub record IsLaid (l : Layout) : Type 0 where
  pub layout : IsLayout l.sup
  pub each : length l.chains ≡ l.sup.cpus
  pub fixed : l.sup.version ≡ 1 → (c : ℕ) → chain_of l c ≡ []
  pub inside : (c k b : ℕ) → slice_get (chain_of l c) k ≡ Some b → (system_blocks l.sup ≤ b) × (b < l.sup.blocks)
  pub once : (c : ℕ) → IsDistinct eqb (chain_of l c)

-- a block of one of the chains
abbrev pub in_chains : List (List ℕ) → ℕ → Bool
in_chains chains b = list_any (λ (chain : List ℕ). list_any (eqb b) chain) chains

-- a word of a region in which a link can stand
pub data IsLink (s : Super) : ℕ → Type 0 where
  first : (cpu : ℕ) → cpu < s.cpus → IsLink s (first_link cpu)
  next : (at : ℕ) → is_page_start s at ≡ true → IsLink s at
