-- The owners of blocks: the chains of tables, the pages of logs, and the pages of files.
use Rattle.std.specs.Prelude.{◌≡◌, ◌↔◌, ℕ, ◌+◌, ◌*◌, ◌<◌, ◌≤◌, List, Some, slice_get}
use Rattle.std.specs.List.{Contains}
use Rattle.nv_region.specs.Region.{Region}
use Rattle.nv_super.specs.declared.superblock.Super.{Super}
use Rattle.nv_super.specs.Layout.{Layout, chain_of, system_blocks, most_pages}
use Rattle.nv_super.specs.Order.{owner_key, Lists}
use Rattle.nv_super.specs.declared.owners.Owner.{Owner}
use Rattle.nv_super.specs.declared.owners.Owner.TheVariants as owners
use Rattle.nv_scan.specs.State.{block_of}
use Rattle.nv_scan.specs.Inode.{Log, IsInode, good_of}

-- the owner has this block
pub data Owns (R : Region) (l : Layout) : ℕ → Owner → Type 0 where
  -- it is the k-th block in the chain of a CPU's table, whatever its slots hold
  by_table : {c k b : ℕ} → slice_get (chain_of l c) k ≡ Some b → Owns R l b (owners.Table c k)
  -- it is the k-th page of the inode's log
  by_log : {i a k b : ℕ} {log : Log} → IsInode R l i a log → slice_get log.pages k ≡ Some b → Owns R l b (owners.Log i k)
  -- page p of the file maps to it
  by_page : {i a p b : ℕ} {log : Log} → IsInode R l i a log → block_of (good_of l log) p ≡ Some b → Owns R l b (owners.Data i p)

-- The inode that an owner is of. A table is of none, and 0 is the number of none.
abbrev pub inode_of : Owner → ℕ
inode_of (owners.Table c k) = 0
inode_of (owners.Log i k) = i
inode_of (owners.Data i p) = i

-- the number of the inode whose slot stands first in the k-th block of a CPU's chain
abbrev pub table_number : Layout → ℕ → ℕ → ℕ
table_number l c k = (32 * l.sup.table_blocks + 31 * k) * l.sup.cpus + c

-- The number of the inode with which an owner is told: its own, or that of the first slot in a block of a chain.
abbrev pub teller : Layout → Owner → ℕ
teller l (owners.Table c k) = table_number l c k
teller l (owners.Log i k) = i
teller l (owners.Data i p) = i

-- a block of a chain that is told with an inode, and its owner
pub data IsTable (l : Layout) (i : ℕ) : ℕ × Owner → Type 0 where
  table : {c k b : ℕ} → slice_get (chain_of l c) k ≡ Some b → table_number l c k ≡ i → IsTable l i (b, owners.Table c k)

-- The claims that are told with an inode: the owners, each with its block, in the order of owners. So the block of a chain
-- comes first, and then what the inode owns by itself.
abbrev pub AreClaims : Region → Layout → ℕ → List (ℕ × Owner) → Type 0
AreClaims R l i claims = Lists (λ (x : ℕ × Owner). owner_key x.1) (λ x. Owns R l x.0 x.1 × (teller l x.1 ≡ i)) claims

-- each block with each of its owners, in any order
abbrev pub AreAllClaims : Region → Layout → List (ℕ × Owner) → Type 0
AreAllClaims R l claims = (b : ℕ) (o : Owner) → Contains claims (b, o) ↔ Owns R l b o

-- a page that a file can have, and a data block
abbrev pub IsDataPage : Super → ℕ → ℕ → Type 0
IsDataPage s p b = (p < most_pages) × (system_blocks s ≤ b) × (b < s.blocks)
