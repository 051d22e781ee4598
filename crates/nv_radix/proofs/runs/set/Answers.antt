use Rattle.std.proofs.Common.{◌≡◌, ℕ, ◌+◌, ◌-◌, if◌then◌else◌, Some, OnOk, subst, sym}
use Rattle.std.proofs.lemmas.Result.{on_ok_weaker}
use Rattle.nv_radix.specs.Runs.{Runs, block_by, AreRuns}
use Rattle.nv_radix.specs.Pages.{in_run}
use Rattle.nv_radix.proofs.Clearing.{run_put_runs, run_put}
use Rattle.nv_radix.proofs.RunLemmas.{either_way, replaced_runs, replaced}
use Rattle.nv_radix.proofs.runs.set.Goals as goal

pub returns-then-replace-clause-runs : goal.returns-then-replace-clause-runs
returns-then-replace-clause-runs c = let was = c.replace.ensures.was c.if-replace.true in
    replaced_runs c.args.runs.now.entries c.replace.new.runs.entries c.args.page c.args.blocks was.0 c.requires.runs c.requires.run was.1 was.2 (c.replace.ensures.puts c.if-replace.true)

pub returns-then-replace-clause-ok : goal.returns-then-replace-clause-ok
returns-then-replace-clause-ok c = let was = c.replace.ensures.was c.if-replace.true in
    replaced c.args.runs.now.entries c.replace.new.runs.entries c.args.page c.args.blocks was.0 c.requires.runs c.requires.run was.1 was.2 (c.replace.ensures.puts c.if-replace.true)

pub returns-clause-runs : goal.returns-clause-runs
returns-clause-runs c = either_way c.put.result _ _ _ c.put.ensures.ok c.put.ensures.err
    (λ puts. run_put_runs c.replace.new.runs.entries c.clear.new.runs.entries c.put.new.runs.entries c.args.page c.args.blocks c.in_ok-clear.ensures.runs c.requires.run c.in_ok-clear.ensures.ok puts)
    (λ same. subst AreRuns (sym same) c.in_ok-clear.ensures.runs)

pub returns-clause-ok : goal.returns-clause-ok
returns-clause-ok c = subst (λ (old : Runs). OnOk c.put.result ((p : ℕ) → block_by c.put.new.runs.entries p ≡ (if in_run c.args.page c.args.blocks.count p then Some (c.args.blocks.start + (p - c.args.page)) else block_by old p)))
    (c.replace.ensures.same c.if-replace.false)
    (on_ok_weaker c.put.result (run_put c.replace.new.runs.entries c.clear.new.runs.entries c.put.new.runs.entries c.args.page c.args.blocks c.in_ok-clear.ensures.runs c.requires.run c.in_ok-clear.ensures.ok) c.put.ensures.ok)
