use Rattle.std.proofs.Common.{◌≡◌, ◌-◌, length}
use Rattle.nv_inode.proofs.ReadChains.{HasRead}
use Rattle.nv_inode.proofs.chains.read_chain.Given as goal

abbrev pub invariant-reading : goal.invariant-reading
invariant-reading g l = record {
  bound : l.read.bound ≡ l.sup.blocks;
  read : HasRead (g.P.Pmem.region l.memory) l.sup l.cpu l.read.blocks l.at;
}

abbrev pub decreases-reading : goal.decreases-reading
decreases-reading g l = l.sup.blocks - length l.read.blocks
