use Rattle.std.proofs.Common.{subst, sym}
use Rattle.std.proofs.lemmas.Result.{on_ok_weaker}
use Rattle.nv_radix.specs.Runs.{AreRuns}
use Rattle.nv_radix.proofs.RunLemmas.{either_way, longer_runs, longer, behind_runs, behind}
use Rattle.nv_radix.proofs.runs.append.Goals as goal

pub returns-in-Some-clause-runs : goal.returns-in-Some-clause-runs
returns-in-Some-clause-runs c = either_way c.put.result _ _ _ c.put.ensures.ok c.put.ensures.err
    (longer_runs c.args.runs.now.entries c.put.new.runs.entries c.in-Some.first c.args.page c.in-Some.front c.args.blocks c.requires.runs c.requires.run c.in-Some.ensures.some.is (c.goes_on.ensures.page c.if-goes_on.true) (c.goes_on.ensures.block c.if-goes_on.true) c.requires.end)
    (λ same. subst AreRuns (sym same) c.requires.runs)

pub returns-in-Some-clause-ok : goal.returns-in-Some-clause-ok
returns-in-Some-clause-ok c = on_ok_weaker c.put.result
    (longer c.args.runs.now.entries c.put.new.runs.entries c.in-Some.first c.args.page c.in-Some.front c.args.blocks c.requires.runs c.requires.run c.in-Some.ensures.some.is (c.goes_on.ensures.page c.if-goes_on.true) (c.goes_on.ensures.block c.if-goes_on.true) c.requires.end)
    c.put.ensures.ok

pub returns-in_default-clause-runs : goal.returns-in_default-clause-runs
returns-in_default-clause-runs c = either_way c.put-in_default.result _ _ _ c.put-in_default.ensures.ok c.put-in_default.ensures.err
    (behind_runs c.args.runs.now.entries c.put-in_default.new.runs.entries c.args.page c.args.blocks c.requires.runs c.requires.run c.requires.end)
    (λ same. subst AreRuns (sym same) c.requires.runs)

pub returns-in_default-clause-ok : goal.returns-in_default-clause-ok
returns-in_default-clause-ok c = on_ok_weaker c.put-in_default.result
    (behind c.args.runs.now.entries c.put-in_default.new.runs.entries c.args.page c.args.blocks c.requires.runs c.requires.run c.requires.end) c.put-in_default.ensures.ok
