use Rattle.std.proofs.Common.{arith, ap, sym, ◌∙◌, is_err}
use Rattle.nv_region.proofs.Fuses.{keeps_more}
use Rattle.nv_region.proofs.Told.{told_err}
use Rattle.nv_region.proofs.Lines.{all_added, one_more, same_stored, first_size}
use Rattle.nv_region.proofs.pmem.Pmem.store_words.Goals as goal

pub store-requires-clause-within : goal.store-requires-clause-within
store-requires-clause-within g c = omega (arith, c.requires.within, c.loop-k-test.true, first_size c.loop-k.invariant.first)

pub loop-k-preserved : goal.loop-k-preserved
loop-k-preserved g c = record {
  first = one_more _ _ _ _ _ _ _ _ _ c.loop-k.invariant.first c.in_ok-store.ensures.stored c.in_ok-store.ensures.may_keep;
  quiet = λ some. sym c.store.ensures.stopped ∙ ap is_err c.in_ok-store.was;
  keeps_fuse = keeps_more (λ limit end. omega (arith, end, c.loop-k-test.true)) c.loop-k.invariant.keeps_fuse c.store.ensures.keeps_fuse;
}

pub returns-in_err-store-clause-keeps_fuse : goal.returns-in_err-store-clause-keeps_fuse
returns-in_err-store-clause-keeps_fuse g c = keeps_more (λ limit end. omega (arith, end, c.loop-k-test.true)) c.loop-k.invariant.keeps_fuse c.store.ensures.keeps_fuse

pub returns-in_err-store-clause-refused : goal.returns-in_err-store-clause-refused
returns-in_err-store-clause-refused g c = told_err c.from_residual.result (c.loop-k.k, c.loop-k-test.true, same_stored _ _ _ _ _ _ _ _ _ c.loop-k.invariant.first c.in_err-store.ensures.refused c.in_err-store.ensures.refused_keep)

pub returns-clause-may_keep : goal.returns-clause-may_keep
returns-clause-may_keep g c = all_added c.loop-k.k (omega (arith, c.loop-k-test.false, c.loop-k.auto.k-end)) c.loop-k.invariant.first
