use Rattle.std.proofs.Common.{◌≡◌, ℕ, ◌+◌, ◌-◌, ◌++◌, if◌then◌else◌, Some, subst}
use Rattle.std.proofs.lemmas.Result.{on_ok_weaker}
use Rattle.nv_radix.specs.Pages.{in_run}
use Rattle.nv_radix.specs.Runs.{Runs, block_by, front_runs}
use Rattle.nv_radix.proofs.Fronts.{set_behind}
use Rattle.nv_radix.proofs.extent_map.ExtentMap.set_run.Goals as goal

pub returns : goal.returns
returns c = on_ok_weaker c.set_run.result (λ rest.
    subst (λ (old : Runs). (p : ℕ) → block_by (front_runs c.self.inside.front 64 ++ c.set_run.new.self) p ≡ (if in_run c.args.page c.args.count p then Some (c.args.block + (p - c.args.page)) else block_by old p)) c.self.view_is
    (set_behind c.self.inside.front c.self.inside.front c.self.inside.runs c.set_run.new.self c.args.page c.args.block c.args.count (c.goes_first.ensures.none c.if-goes_first.false) rest)) c.set_run.ensures
