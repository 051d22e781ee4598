use Rattle.std.proofs.Common.{[], sym, subst}
use Rattle.nv_radix.specs.Extents.{AreExtents}
use Rattle.nv_radix.proofs.ExtentLemmas.{AreExtents-nil, AreExtents-same}
use Rattle.nv_radix.proofs.Indexing.{none_indexed, next_is, next_behind, more_indexed}
use Rattle.nv_radix.proofs.run_map.RunMap.fill_index.Goals as goal

pub put_run-requires-clause-run : goal.put_run-requires-clause-run
put_run-requires-clause-run c = next_is c.self.inside.runs.entries c.loop-page.page-iterator c.next.new.self c.loop-page.index (c.in-Some.page.now, c.in-Some.blocks.now) c.self.invariant.are c.loop-page.invariant.indexed c.in-Some.ensures.steps

pub put_run-requires-clause-behind : goal.put_run-requires-clause-behind
put_run-requires-clause-behind c = next_behind c.self.inside.runs.entries c.loop-page.page-iterator c.next.new.self c.loop-page.index (c.in-Some.page.now, c.in-Some.blocks.now) c.loop-page.invariant.indexed c.in-Some.ensures.steps

pub loop-page-init : goal.loop-page-init
loop-page-init c = record {
  can_next = tt;
  ends = tt;
  indexed = none_indexed c.self.inside.runs.entries c.into_iter-page-iterator.result c.args.index.now c.into_iter-page-iterator.ensures.into_iter_gives.0 c.requires.none;
  extents = subst (AreExtents c.args.index.now) (sym c.clear.ensures.items) (AreExtents-same [] c.args.index.now [] (λ p. sym (c.requires.none p)) AreExtents-nil);
}

pub loop-page-preserved : goal.loop-page-preserved
loop-page-preserved c = record {
  can_next = tt;
  ends = tt;
  indexed = more_indexed c.self.inside.runs.entries c.loop-page.page-iterator c.next.new.self c.loop-page.index c.put_run.new.index (c.in-Some.page.now, c.in-Some.blocks.now) c.self.invariant.are c.loop-page.invariant.indexed c.in-Some.ensures.steps c.in_ok-put_run.ensures.index;
  extents = c.in_ok-put_run.ensures.extents c.loop-page.invariant.extents;
}
