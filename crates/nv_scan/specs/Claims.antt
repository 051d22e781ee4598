-- The claims of an inode, by the pages of its log and its file index, and of the block of a chain that is told with it.
use Rattle.std.specs.Prelude.{◌≡◌, ℕ, ◌+◌, ◌<◌, ◌≤◌, ◌^◌, List, [], ◌∷◌, ◌++◌, Option, Some, slice_get}
use Rattle.std.specs.List.{flat_map}
use Rattle.nv_super.specs.Layout.{most_blocks, most_pages}
use Rattle.nv_super.specs.Owners.{pairs}
use Rattle.nv_super.specs.declared.owners.Owner.{Owner}
use Rattle.nv_super.specs.declared.owners.Owner.TheVariants as owners
use Rattle.nv_super.specs.Order.{Lists, owner_key}
use Rattle.nv_radix.specs.Pages.{Pages, block_at}
use Rattle.nv_radix.specs.declared.extent.Extent.{Extent}
use Rattle.nv_scan.specs.ChainBlocks.{table_claims}
use Rattle.nv_scan.specs.declared.chain_block.ChainBlock.{ChainBlock}
use Rattle.nv_scan.specs.declared.piece.Row.{Row}

-- a block with its owner: a page of the log, or the block of a page of the file
pub data IsClaim (i : ℕ) (pages : List ℕ) (m : Pages) : ℕ × Owner → Type 0 where
  of_log : (k b : ℕ) → slice_get pages k ≡ Some b → IsClaim i pages m (b, owners.Log i k)
  of_page : (p b : ℕ) → block_at m p ≡ Some b → IsClaim i pages m (b, owners.Data i p)

-- The block of a chain that is told with the inode, if there is one, and behind it the claims of its log and its file.
abbrev pub AreClaimsBy : Option ChainBlock → ℕ → List ℕ → Pages → List (ℕ × Owner) → Type 0
AreClaimsBy table i pages m claims = (own : List (ℕ × Owner)) × (claims ≡ table_claims table ++ own) × Lists (λ (x : ℕ × Owner). owner_key x.1) (IsClaim i pages m) own

-- the pages of a log, the first of them its k-th
abbrev pub log_claims : ℕ → ℕ → List ℕ → List (ℕ × Owner)
log_claims i k [] = []
log_claims i k (b ∷ bs) = (b, owners.Log i k) ∷ log_claims i (k + 1) bs

-- the blocks of an extent of the file
abbrev pub run_claims : ℕ → Extent → List (ℕ × Owner)
run_claims i x = pairs x.block (owners.Data i x.page) x.count

-- the blocks of all extents
abbrev pub data_claims : ℕ → List Extent → List (ℕ × Owner)
data_claims i runs = flat_map (run_claims i) runs

-- the pages and the blocks of an extent have numbers of 64 bits
abbrev pub IsSmall : Extent → Type 0
IsSmall x = (x.block + x.count ≤ 2 ^ 64) × (x.page + x.count ≤ 2 ^ 64)

-- pages and their blocks have small numbers
abbrev pub AreSmall : (ℕ → Option ℕ) → Type 0
AreSmall block = (p b : ℕ) → block p ≡ Some b → (p < most_pages) × (b < most_blocks)

-- the claims of the inode of a row, in the order of owners
abbrev pub AreRowClaims : Row → List (ℕ × Owner) → Type 0
AreRowClaims row claims = Lists (λ (x : ℕ × Owner). owner_key x.1) (IsClaim row.inode row.pages.items row.index) claims

-- the claims of the inodes of these rows, one row after the other
abbrev pub AreClaimsOf : List Row → List (ℕ × Owner) → Type 0
AreClaimsOf [] claims = claims ≡ []
AreClaimsOf (row ∷ rows) claims = (own rest : List (ℕ × Owner)) × (claims ≡ own ++ rest) × AreRowClaims row own × AreClaimsOf rows rest
