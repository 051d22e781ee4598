use Rattle.std.proofs.Common.{◌≡◌, ◌+◌, ◌-◌, ◌++◌, [], ◌∷◌, ◌∙◌, ℕ, suc, List, Option, Vec, Global, append_assoc, arith, ap, sym}
use Rattle.std.proofs.lemmas.List.{append-nil}
use Rattle.std.specs.List.{cons_option}
use Rattle.std.specs.Option.{option_map}
use Rattle.nv_super.specs.declared.owners.Run.{Run}
use Rattle.nv_radix.specs.Pages.{block_at}
use Rattle.nv_alloc.specs.Taking.{block_run}
use Rattle.nv_steps.specs.Writes.{page_blocks}
use Rattle.nv_steps.proofs.EntrySteps.{page_more}
use Rattle.nv_steps.proofs.planning.push_blocks.Goals as goal
use Rattle.nv_steps.proofs.planning.push_blocks.Goals.{in-Some, in_default}

pub loop-page-preserved : goal.loop-page-preserved
loop-page-preserved c =
    let kept = c.loop-page.invariant in
    let m = c.args.index.now in
    let next : page_blocks m c.args.first (c.loop-page.page + 1 - c.args.first) ≡ page_blocks m c.args.first (c.loop-page.page - c.args.first) ++ cons_option (option_map block_run (block_at m c.loop-page.page)) [] =
    ap (page_blocks m c.args.first) (let same : c.loop-page.page + 1 - c.args.first ≡ suc (c.loop-page.page - c.args.first) = omega (arith, kept.3) in same) ∙ page_more m c.args.first (c.loop-page.page - c.args.first)
    ∙ ap (λ (p : ℕ). page_blocks m c.args.first (c.loop-page.page - c.args.first) ++ cons_option (option_map block_run (block_at m p)) []) (let same : c.args.first + (c.loop-page.page - c.args.first) ≡ c.loop-page.page = omega (arith, kept.3) in same) in
    let old = page_blocks m c.args.first (c.loop-page.page - c.args.first) in
    elim c.match-get.branch [
      | in-Some w ↦
          let more = w.push_reserved.ensures in
          let block = sym c.get.ensures ∙ w.in-Some.is in (
            ap (λ (v : Vec Run Global). v.items) w.runs-is ∙ more.items ∙ ap (λ (xs : List Run). xs ++ block_run w.in-Some.block ∷ []) kept.0 ∙ append_assoc c.args.runs.now.items old (block_run w.in-Some.block ∷ [])
                ∙ ap (λ (o : Option ℕ). c.args.runs.now.items ++ (old ++ cons_option (option_map block_run o) [])) (sym block) ∙ ap (λ (xs : List Run). c.args.runs.now.items ++ xs) (sym next),
            rw w.runs-is (omega (arith, kept.1, more.len)),
            rw w.runs-is (more.capacity ∙ kept.2),
            omega (arith, kept.3),
          )
      | in_default w ↦
          let block = sym c.get.ensures ∙ w.in_default.is in (
            ap (λ (v : Vec Run Global). v.items) w.runs-is ∙ kept.0 ∙ ap (λ (xs : List Run). c.args.runs.now.items ++ xs) (sym (append-nil old))
                ∙ ap (λ (o : Option ℕ). c.args.runs.now.items ++ (old ++ cons_option (option_map block_run o) [])) (sym block) ∙ ap (λ (xs : List Run). c.args.runs.now.items ++ xs) (sym next),
            rw w.runs-is (omega (arith, kept.1)),
            rw w.runs-is kept.2,
            omega (arith, kept.3),
          )
    ]
