-- The chains of the first CPUs, while they are read.
use Rattle.std.specs.Prelude.{◌≡◌, ◌≤◌, ◌*◌, ℕ, length, map}
use Rattle.std.specs.List.{range_with_len, filter_map}
use Rattle.nv_blockset.specs.BlockSet.{is_set}
use Rattle.nv_region.specs.Region.{Region}
use Rattle.nv_super.specs.declared.superblock.Super.{Super}
use Rattle.nv_inode.specs.Chains.{chain_in, end_fault, in_chains}
use Rattle.nv_inode.specs.Tables.{lists_of}
use Rattle.nv_inode.specs.declared.chains.FoundChains.{FoundChains}

-- The chains of the CPUs below n, a set of their blocks with room for each of the region, and what is wrong with their ends.
pub record AreChainsTo (s : Super) (R : Region) (n : ℕ) (found : FoundChains) : Type 0 where
  pub chains : lists_of found.chains.items ≡ map (chain_in s R) (range_with_len 0 n)
  pub faults : found.faults.items ≡ filter_map (end_fault s R) (range_with_len 0 n)
  pub room : s.blocks ≤ 64 * length found.marks.items
  pub marked : (b : ℕ) → is_set found.marks.items b ≡ in_chains (map (chain_in s R) (range_with_len 0 n)) b
