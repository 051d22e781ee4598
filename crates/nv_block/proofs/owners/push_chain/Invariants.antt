use Rattle.std.proofs.Common.{◌≡◌, ◌++◌, take}
use Rattle.nv_scan.specs.ChainBlocks.{chain_claims}
use Rattle.nv_block.specs.Owned.{owners_at}
use Rattle.nv_block.proofs.owners.push_chain.Given as goal

-- the owners by the blocks so far were added
abbrev pub invariant-loop-place : goal.invariant-loop-place
invariant-loop-place l = l.owners.items ≡ l.fn.owners.items ++ owners_at l.block (chain_claims l.cpu 0 (take l.place l.chain))
