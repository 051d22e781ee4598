-- The blocks of chains, as they are told and claimed.
use Rattle.std.specs.Prelude.{◌≡◌, ℕ, ◌+◌, List, [], ◌∷◌, Option, Some, None}
use Rattle.std.specs.List.{flat_map, range_with_len}
use Rattle.nv_super.specs.Layout.{Layout, chain_of}
use Rattle.nv_super.specs.Order.{Lists, owner_key}
use Rattle.nv_super.specs.declared.owners.Owner.{Owner}
use Rattle.nv_super.specs.declared.owners.Owner.TheVariants as owners
use Rattle.nv_scan.specs.Owners.{IsTable}
use Rattle.nv_scan.specs.declared.chain_block.ChainBlock.{ChainBlock}

-- the table of each CPU ends where the fixed one does, as in version 1
abbrev pub IsChainless : Layout → Type 0
IsChainless l = (c : ℕ) → chain_of l c ≡ []

-- the claim of a block of a chain, if there is one
abbrev pub table_claims : Option ChainBlock → List (ℕ × Owner)
table_claims None = []
table_claims (Some t) = (t.block, owners.Table t.cpu t.place) ∷ []

-- the claims of these blocks of a CPU's chain, the first of them its k-th
abbrev pub chain_claims : ℕ → ℕ → List ℕ → List (ℕ × Owner)
chain_claims c k [] = []
chain_claims c k (b ∷ blocks) = (b, owners.Table c k) ∷ chain_claims c (k + 1) blocks

-- the claims of the chains of the first CPUs, so many
abbrev pub claims_of_chains : Layout → ℕ → List (ℕ × Owner)
claims_of_chains l cpus = flat_map (λ c. chain_claims c 0 (chain_of l c)) (range_with_len 0 cpus)

-- This block of a chain, or none, is what is told with the inode.
abbrev pub TellsTable : Layout → ℕ → Option ChainBlock → Type 0
TellsTable l i t = Lists (λ (x : ℕ × Owner). owner_key x.1) (IsTable l i) (table_claims t)
