use Rattle.std.proofs.Common.{◌≡◌, ◌++◌, take}
use Rattle.nv_scan.specs.Claims.{log_claims}
use Rattle.nv_block.specs.Owned.{owners_at}
use Rattle.nv_block.proofs.owners.push_pages.Given as goal

-- the owners by the pages so far were added
abbrev pub invariant-loop-place : goal.invariant-loop-place
invariant-loop-place l = l.owners.items ≡ l.fn.owners.items ++ owners_at l.block (log_claims l.inode 0 (take l.place l.pages))
