use Rattle.std.proofs.Common.{ℕ, IfOk, ap, ◌∙◌, subst}
use Rattle.nv_claimmap.specs.Held.{Held}
use Rattle.nv_recover.specs.Workers.{IsBrought}
use Rattle.nv_recover.proofs.workers.work_all.Goals as goal

pub map_vec-requires-after_bounds : goal.map_vec-requires-after_bounds
map_vec-requires-after_bounds g c κs within = λ i x l is.
    let here = c.requires.fresh i x l in (
      ap (λ (h : Held). h.map) is ∙ here.0,
      ap (λ (h : Held). h.view) is ∙ here.1,
      c.requires.sizes.0,
      c.requires.sizes.1,
      c.requires.blocks,
    )

pub returns : goal.returns
returns g c = subst (λ (n : ℕ). IfOk c.join_all.result (IsBrought (g.P.Pmem.region c.args.memory.now) c.args.tables.now.layout c.args.map.now n)) c.in_ok-results.ensures.len c.join_all.ensures
