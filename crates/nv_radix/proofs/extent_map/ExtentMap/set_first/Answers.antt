use Rattle.std.proofs.Common.{◌≡◌, ℕ, ◌+◌, ◌-◌, ◌++◌, cond, if◌then◌else◌, Option, Some, ap, ◌∙◌, subst}
use Rattle.std.proofs.lemmas.Result.{on_ok_weaker}
use Rattle.nv_radix.specs.Pages.{in_run}
use Rattle.nv_radix.specs.Runs.{Runs, block_by, front_runs}
use Rattle.nv_radix.proofs.Fronts.{set_both, set_within}
use Rattle.nv_radix.proofs.extent_map.ExtentMap.set_first.Goals as goal

pub returns-then-page-count-gt-LEAF_PAGES : goal.returns-then-page-count-gt-LEAF_PAGES
returns-then-page-count-gt-LEAF_PAGES c = on_ok_weaker c.set_run.result (λ rest.
    subst (λ (old : Runs). (p : ℕ) → block_by (front_runs c.set_part.new.self 64 ++ c.set_run.new.self) p ≡ (if in_run c.args.page c.args.count p then Some (c.args.block + (p - c.args.page)) else block_by old p)) c.self.view_is
    (set_both c.self.inside.front c.set_part.new.self c.self.inside.runs c.set_run.new.self c.args.page c.args.block c.args.count c.min-part.result c.min-part.ensures c.requires.first
    (λ p. c.set_part.ensures.blocks p ∙ ap (λ (o : Option ℕ). cond (in_run c.args.page c.min-part.result p) (Some (c.args.block + (p - c.args.page))) o) (c.in_ok-make_ready.ensures.blocks p)) rest)) c.set_run.ensures

pub returns : goal.returns
returns c =
    subst (λ (old : Runs). (p : ℕ) → block_by (front_runs c.set_part.new.self 64 ++ c.self.inside.runs) p ≡ (if in_run c.args.page c.args.count p then Some (c.args.block + (p - c.args.page)) else block_by old p)) c.self.view_is
    (set_within c.self.inside.front c.set_part.new.self c.self.inside.runs c.self.inside.runs c.args.page c.args.block c.args.count c.min-part.result c.min-part.ensures c.requires.first c.if-page-count-gt-LEAF_PAGES.false
    (λ p. c.set_part.ensures.blocks p ∙ ap (λ (o : Option ℕ). cond (in_run c.args.page c.min-part.result p) (Some (c.args.block + (p - c.args.page))) o) (c.in_ok-make_ready.ensures.blocks p)))
