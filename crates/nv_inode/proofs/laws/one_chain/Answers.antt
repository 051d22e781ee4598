use Rattle.nv_inode.proofs.ReadChains.{chain_is, one_chain}
use Rattle.nv_inode.proofs.laws.one_chain.Goals as goal

pub returns-clause-is : goal.returns-clause-is
returns-clause-is c = chain_is

pub returns-clause-only : goal.returns-clause-only
returns-clause-only c s R cpu blocks two is = one_chain s R _ _ _ _ is (chain_is s R cpu two)
