use Rattle.std.proofs.Common.{◌++◌, ℕ, List, ap, sym, ◌∙◌, append_assoc}
use Rattle.std.proofs.lemmas.Result.{on_ok_weaker}
use Rattle.nv_super.specs.declared.owners.Owner.{Owner}
use Rattle.nv_radix.specs.declared.extent.Extent.{Extent}
use Rattle.nv_scan.specs.Claims.{log_claims, data_claims}
use Rattle.nv_scan.proofs.ClaimLists.{are_claims, small_runs}
use Rattle.nv_block.specs.Owned.{owners_at}
use Rattle.nv_block.proofs.OwnersAt.{owners_at-append}
use Rattle.nv_block.proofs.owners.push_row.Goals as goal

pub push_runs-requires : goal.push_runs-requires
push_runs-requires c = rw c.deref-2.ensures.value (small_runs _ _ c.requires c.in_ok-runs.ensures.extents)

pub returns : goal.returns
returns c =
    let row = c.args.row.now in
    let runs = c.in_ok-runs.runs.items in
    let b = c.args.block in
    let old = c.args.owners.now.items in
    let logs = log_claims row.inode 0 row.pages.items in
    let files = data_claims row.inode runs in
    let first = c.in_ok-push_pages.ensures ∙ ap (λ (pages : List ℕ). old ++ owners_at b (log_claims row.inode 0 pages)) c.deref.ensures in
    on_ok_weaker c.push_runs.result (λ second. (
      logs ++ files,
      are_claims row.inode row.pages.items row.index runs c.in_ok-runs.ensures.extents,
      second ∙ ap (λ (xs : List Extent). c.push_pages.new.owners.items ++ owners_at b (data_claims row.inode xs)) c.deref-2.ensures.value
          ∙ ap (λ (os : List Owner). os ++ owners_at b files) first ∙ append_assoc old (owners_at b logs) (owners_at b files)
          ∙ ap (λ (os : List Owner). old ++ os) (sym (owners_at-append b logs files)),
    )) c.push_runs.ensures
