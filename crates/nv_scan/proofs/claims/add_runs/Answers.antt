use Rattle.std.proofs.Common.{◌++◌, List, ℕ, take, get_or, ap, ◌∙◌, sym, append-nil, append_assoc}
use Rattle.std.proofs.lemmas.List.{get_or_default, take_all}
use Rattle.std.proofs.lemmas.Result.{IfOk-from_err}
use Rattle.nv_super.specs.declared.owners.Owner.{Owner}
use Rattle.nv_radix.specs.declared.extent.Extent.{Extent}
use Rattle.nv_scan.specs.Claims.{data_claims, run_claims}
use Rattle.nv_scan.proofs.ClaimLists.{data_claims-more}
use Rattle.nv_scan.proofs.Runs.{no_run}
use Rattle.nv_scan.proofs.claims.add_runs.Goals as goal

pub loop-extent-init : goal.loop-extent-init
loop-extent-init c = sym (append-nil c.args.claims.now.items)

pub loop-extent-preserved : goal.loop-extent-preserved
loop-extent-preserved c =
    let i = c.args.inode in let runs = c.args.runs.now in let k = c.loop-extent.extent-index in let x = get_or runs k no_run in let old = c.args.claims.now.items in
    c.in_ok-push.ensures.ok ∙ ap (λ (xs : List (ℕ × Owner)). xs ++ run_claims i x) c.loop-extent.invariant ∙ append_assoc old (data_claims i (take k runs)) (run_claims i x)
    ∙ ap (λ (xs : List (ℕ × Owner)). old ++ xs) (sym (data_claims-more i runs k x c.loop-extent-test.true (get_or_default runs k no_run x c.loop-extent-test.true)))

pub returns-in_err-push : goal.returns-in_err-push
returns-in_err-push c = IfOk-from_err c.from_residual.result _ c.from_residual.ensures.0

pub returns : goal.returns
returns c = c.loop-extent.invariant ∙ ap (λ (runs : List Extent). c.args.claims.now.items ++ data_claims c.args.inode runs) (take_all c.loop-extent.extent-index c.args.runs.now c.loop-extent-test.false)
