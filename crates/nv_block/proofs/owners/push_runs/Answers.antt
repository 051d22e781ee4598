use Rattle.std.proofs.Common.{◌≡◌, ◌+◌, ◌++◌, List, take, get_or, ap, ◌∙◌, sym, append_assoc}
use Rattle.std.proofs.lemmas.List.{get_or_default}
use Rattle.nv_super.specs.declared.owners.Owner.{Owner}
use Rattle.nv_radix.specs.declared.extent.Extent.{Extent}
use Rattle.nv_scan.specs.Claims.{data_claims, run_claims}
use Rattle.nv_scan.proofs.ClaimLists.{data_claims-more}
use Rattle.nv_scan.proofs.Runs.{no_run}
use Rattle.nv_block.specs.Owned.{owners_at, run_owners}
use Rattle.nv_block.proofs.OwnersAt.{owners_at-append, run_owners_are}
use Rattle.nv_block.proofs.owners.push_runs.Goals as goal

pub loop-run-preserved : goal.loop-run-preserved
loop-run-preserved c =
    let i = c.args.inode in
    let n = c.loop-run.run-index in
    let runs = c.args.runs.now in
    let b = c.args.block in
    let old = c.args.owners.now.items in
    let x : Extent = get_or runs n no_run in
    let so_far = data_claims i (take n runs) in
    let more : owners_at b (data_claims i (take (n + 1) runs)) ≡ owners_at b so_far ++ run_owners i x b =
    ap (owners_at b) (data_claims-more i runs n x c.loop-run-test.true (get_or_default runs n no_run x c.loop-run-test.true)) ∙ owners_at-append b so_far (run_claims i x) ∙ ap (λ (os : List Owner). owners_at b so_far ++ os) (run_owners_are b i x) in
    c.in_ok-push_run.ensures ∙ ap (λ (os : List Owner). os ++ run_owners i x b) c.loop-run.invariant ∙ append_assoc old (owners_at b so_far) (run_owners i x b)
    ∙ ap (λ (os : List Owner). old ++ os) (sym more)
