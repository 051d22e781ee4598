use Rattle.std.proofs.Common.{◌≡◌, ◌≤◌, drop, max}
use Rattle.nv_inode.specs.Numbers.{longest}
use Rattle.nv_inode.proofs.chains.Tables.longest_chain.Given as goal

abbrev pub invariant-loop-chain : goal.invariant-loop-chain
invariant-loop-chain l = record {
  longest : longest l.self.layout.chains ≡ max l.longest (longest (drop l.chain-index l.self.layout.chains));
  small : l.longest ≤ 262144;
}
