use Rattle.std.proofs.Common.{◌++◌, ◌∙◌, List, ℕ, sym, subst}
use Rattle.nv_super.specs.declared.owners.Owner.{Owner}
use Rattle.nv_super.specs.Order.{Lists, owner_key}
use Rattle.nv_scan.specs.Claims.{IsClaim, log_claims, data_claims}
use Rattle.nv_scan.proofs.ClaimLists.{are_claims, small_runs}
use Rattle.nv_scan.proofs.claims.Claims.of_row.Goals as goal

pub returns : goal.returns
returns c =
    let row = c.args.row.now in
    let runs = c.in_ok-runs.field-0.items in
    subst (λ (pages : List ℕ). Lists (λ (x : ℕ × Owner). owner_key x.1) (IsClaim row.inode row.pages.items row.index) (log_claims row.inode 0 pages ++ data_claims row.inode runs)) (sym (c.in_ok-from_slice.ensures.ok ∙ c.deref.ensures))
    (are_claims row.inode row.pages.items row.index runs c.in_ok-runs.ensures.extents)

pub invariant_of-result : goal.invariant_of-result
invariant_of-result c = small_runs _ _ c.requires c.in_ok-runs.ensures.extents
