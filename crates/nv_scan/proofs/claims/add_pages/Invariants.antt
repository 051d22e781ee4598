use Rattle.std.proofs.Common.{◌≡◌, ◌++◌, take}
use Rattle.nv_scan.specs.Claims.{log_claims}
use Rattle.nv_scan.proofs.claims.add_pages.Given as goal

abbrev pub invariant-loop-block : goal.invariant-loop-block
invariant-loop-block l = record {
  count : l.page ≡ l.block-index;
  pushed : l.claims.items ≡ l.fn.claims.items ++ log_claims l.inode 0 (take l.block-index l.pages);
}
