use Rattle.std.proofs.Common.{◌≡◌, ℕ, ◌++◌, if◌then◌else◌, nat_le, None, subst}
use Rattle.std.proofs.lemmas.Result.{on_ok_weaker}
use Rattle.nv_radix.specs.Runs.{Runs, block_by, front_runs}
use Rattle.nv_radix.proofs.Fronts.{cut_both, cut_behind}
use Rattle.nv_radix.proofs.extent_map.ExtentMap.cut.Goals as goal

pub returns-then-first_page-ge-LEAF_PAGES : goal.returns-then-first_page-ge-LEAF_PAGES
returns-then-first_page-ge-LEAF_PAGES c = on_ok_weaker c.cut.result (λ rest.
    subst (λ (old : Runs). (p : ℕ) → block_by (front_runs c.self.inside.front 64 ++ c.cut.new.self) p ≡ (if nat_le c.args.first_page p then None else block_by old p)) c.self.view_is
    (cut_behind c.self.inside.front c.self.inside.front c.self.inside.runs c.cut.new.self c.args.first_page 0 0 c.if-first_page-ge-LEAF_PAGES.true rest)) c.cut.ensures

pub returns : goal.returns
returns c = on_ok_weaker c.cut-3.result (λ rest.
    subst (λ (old : Runs). (p : ℕ) → block_by (front_runs c.cut-2.new.self 64 ++ c.cut-3.new.self) p ≡ (if nat_le c.args.first_page p then None else block_by old p)) c.self.view_is
    (cut_both c.self.inside.front c.cut-2.new.self c.self.inside.runs c.cut-3.new.self c.args.first_page 0 0 c.cut-2.ensures.blocks rest)) c.cut-3.ensures
