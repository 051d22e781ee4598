use Rattle.std.proofs.Common.{◌+◌, length, arith, ap, sym, ◌∙◌, is_err}
use Rattle.nv_region.proofs.Fuses.{keeps_more}
use Rattle.nv_region.proofs.Told.{told_err}
use Rattle.nv_region.proofs.Lines.{all_added, one_more, same_stored, first_size}
use Rattle.nv_region.proofs.AfterStores.{after_one, stays_burnt}
use Rattle.nv_region.specs.RegionState.{RegionState}
use Rattle.nv_region.proofs.memory.MemRegion.store_each.Goals as goal

pub store-requires-clause-within : goal.store-requires-clause-within
store-requires-clause-within c = omega (arith, c.requires.within, c.loop-k-test.true, first_size c.loop-k.invariant.first)

pub loop-k-preserved : goal.loop-k-preserved
loop-k-preserved c = record {
  first = one_more _ _ _ _ _ _ _ _ _ c.loop-k.invariant.first c.in_ok-store.ensures.stored c.in_ok-store.ensures.may_keep;
  after = after_one _ _ _ _ _ _ c.loop-k.invariant.after c.store.ensures.passes.after;
  quiet = λ some. sym c.store.ensures.stopped ∙ ap is_err c.in_ok-store.was;
  keeps_fuse = keeps_more (λ limit end. omega (arith, end, c.loop-k-test.true)) c.loop-k.invariant.keeps_fuse c.store.ensures.keeps_fuse;
}

pub returns-in_err-store-clause-after : goal.returns-in_err-store-clause-after
returns-in_err-store-clause-after c =
    let now = after_one _ _ _ _ _ _ c.loop-k.invariant.after c.store.ensures.passes.after in
    now ∙ stays_burnt c.args.self.now c.args.at c.args.words.now (c.loop-k.k + 1) (length c.args.words.now) (omega (arith, c.loop-k-test.true)) (ap (λ (m : RegionState). m.burnt) (sym now) ∙ sym c.store.ensures.stopped ∙ ap is_err c.in_err-store.was)

pub returns-in_err-store-clause-refused : goal.returns-in_err-store-clause-refused
returns-in_err-store-clause-refused c = told_err c.from_residual.result (c.loop-k.k, c.loop-k-test.true, same_stored _ _ _ _ _ _ _ _ _ c.loop-k.invariant.first c.in_err-store.ensures.refused c.in_err-store.ensures.refused_keep)

pub returns-clause-may_keep : goal.returns-clause-may_keep
returns-clause-may_keep c = all_added c.loop-k.k (omega (arith, c.loop-k-test.false, c.loop-k.auto.k-end)) c.loop-k.invariant.first
