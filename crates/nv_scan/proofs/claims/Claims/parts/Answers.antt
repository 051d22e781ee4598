use Rattle.std.proofs.Common.{◌++◌, ◌∙◌, sym, ap, subst}
use Rattle.std.specs.List.{All}
use Rattle.nv_scan.specs.ChainBlocks.{table_claims}
use Rattle.nv_scan.specs.Claims.{log_claims, data_claims, IsSmall}
use Rattle.nv_scan.specs.ClaimList.{ClaimList}
use Rattle.nv_scan.proofs.claims.Claims.parts.Goals as goal

pub returns : goal.returns
returns c = let i = c.self.inside.inode in record {
  claims = sym (ap (λ (v : ClaimList). v.items) c.self.view_is) ∙ (λ k. table_claims c.self.inside.table ++ (log_claims i 0 (sym c.deref.ensures k) ++ data_claims i (sym c.deref-2.ensures.value k)));
  small = subst (All IsSmall) (sym c.deref-2.ensures.value) c.self.invariant;
}
