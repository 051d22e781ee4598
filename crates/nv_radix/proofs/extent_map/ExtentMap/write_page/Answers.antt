use Rattle.std.proofs.Common.{◌≡◌, ℕ, ◌+◌, ◌-◌, ◌≤◌, ◌++◌, if◌then◌else◌, nat_le, None, Some, refl, subst}
use Rattle.nv_radix.specs.Pages.{in_run}
use Rattle.nv_radix.specs.Runs.{Runs, block_by, front_runs}
use Rattle.nv_radix.proofs.Fronts.{set_one}
use Rattle.nv_radix.proofs.extent_map.ExtentMap.write_page.Goals as goal

pub returns-then-ends_by-clause-wrote : goal.returns-then-ends_by-clause-wrote
returns-then-ends_by-clause-wrote c is =
    let none : (p : ℕ) → c.args.end ≤ p → block_by (front_runs c.self.inside.front 64 ++ c.self.inside.runs) p ≡ None = rw c.self.view_is (c.ends_by.ensures c.if-ends_by.true) in
    subst (λ (old : Runs). (p : ℕ) → block_by (front_runs c.set_page.new.self 64 ++ c.self.inside.runs) p ≡ (if in_run c.args.page 1 p then Some (c.args.block + (p - c.args.page)) else (if nat_le c.args.end p then None else block_by old p))) c.self.view_is
    (set_one c.self.inside.front c.set_page.new.self c.self.inside.runs c.args.page c.args.block 1 c.args.end c.set_page.ensures.bound refl c.set_page.ensures.blocks none)
