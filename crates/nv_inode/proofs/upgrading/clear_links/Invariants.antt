use Rattle.std.proofs.Common.{◌≡◌, ◌+◌, ◌*◌, ◌<◌, ◌≤◌, ℕ}
use Rattle.nv_region.specs.Region.{HasBlocks, word}
use Rattle.nv_region.specs.Fuses.{KeepsFuse}
use Rattle.nv_region.specs.Stored.{StoresOnly}
use Rattle.nv_inode.specs.Chains.{first_link}
use Rattle.nv_inode.specs.Upgraded.{NoLinks}
use Rattle.nv_inode.proofs.upgrading.clear_links.Given as goal

abbrev pub invariant-loop-cpu : goal.invariant-loop-cpu
invariant-loop-cpu g l = record {
  blocks : HasBlocks (g.P.Pmem.region l.memory) l.sup.blocks;
  cleared : (c : ℕ) → c < l.cpu → word (g.P.Pmem.region l.memory) (first_link c) ≡ 0;
  wrote : StoresOnly (NoLinks l.sup.cpus) (g.P.Pmem.region l.fn.memory) (g.P.Pmem.region l.memory) (g.P.Pmem.may_hold l.fn.memory) (g.P.Pmem.may_hold l.memory);
  keeps_fuse : KeepsFuse (λ limit. 4096 * (1 + l.sup.cpus) ≤ limit) (g.P.Pmem.fuse l.fn.memory) (g.P.Pmem.fuse l.memory);
}
