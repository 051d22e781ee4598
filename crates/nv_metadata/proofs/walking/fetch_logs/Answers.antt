use Rattle.std.proofs.Common.{ap, ◌∙◌, sym, subst, List, take, add-one}
use Rattle.std.proofs.Math.Seq.{take-suc}
use Rattle.nv_region.specs.Region.{region_of}
use Rattle.nv_metadata.specs.Walk.{AreFetched}
use Rattle.nv_metadata.specs.declared.logs.LogEnds.{LogEnds}
use Rattle.nv_metadata.proofs.Walked.{fetched_more}
use Rattle.nv_metadata.proofs.walking.fetch_logs.Goals as goal

pub loop-log-preserved : goal.loop-log-preserved
loop-log-preserved g c = record {
  can = c.fetch_log.ensures.can;
  front = (c.fetch_log.ensures.front.0 ∙ c.loop-log.invariant.front.0, c.fetch_log.ensures.front.1 ∙ c.loop-log.invariant.front.1);
  bound = c.fetch_log.ensures.all_blocks;
  room = c.fetch_log.ensures.room;
  fetched = λ image known shows. (
      let k = c.loop-log.log-index in
      let before = c.loop-log.invariant.fetched image known shows in
      let this = c.in_ok-fetch_log.ensures.fetched image known before.shows in
      subst (λ (l : List LogEnds). AreFetched c.args.sup.now (region_of image) l c.args.memory.now c.fetch_log.new.memory) (sym (ap (λ n. take n c.args.logs.now) (add-one k) ∙ take-suc c.args.logs.now k _ c.loop-log-test.true))
      (fetched_more c.args.sup.now (region_of image) (take k c.args.logs.now) _ c.args.memory.now c.loop-log.memory c.fetch_log.new.memory before this));
}
