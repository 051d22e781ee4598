use Rattle.std.proofs.Common.{◌≡◌}
use Rattle.nv_inode.specs.FoundChains.{AreChainsTo}
use Rattle.nv_inode.proofs.chains.read_chains.Given as goal

abbrev pub invariant-loop-cpu : goal.invariant-loop-cpu
invariant-loop-cpu g l = record {
  list : l.read.bound ≡ l.sup.blocks;
  found : AreChainsTo l.sup (g.P.Pmem.region l.memory) l.cpu l.found;
}
