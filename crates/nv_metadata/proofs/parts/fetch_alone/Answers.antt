use Rattle.std.proofs.Common.{◌∙◌}
use Rattle.std.proofs.lemmas.Result.{err_from_is_err_and}
use Rattle.nv_region.specs.Region.{region_of}
use Rattle.nv_metadata.proofs.Joined.{fetched_first, part_failed}
use Rattle.nv_metadata.proofs.Ready.{can_first}
use Rattle.nv_metadata.proofs.Shown.{shows_first}
use Rattle.nv_metadata.proofs.parts.fetch_alone.Goals as goal

pub fetch_logs-requires-clause-can : goal.fetch_logs-requires-clause-can
fetch_logs-requires-clause-can g c = (let made = c.in_ok-memory.ensures in can_first c.args.sup.now c.args.front.items c.in_ok-memory.memory c.requires.layout c.requires.front made.blocks made.front made.open)

pub fetch_logs-requires-clause-right : goal.fetch_logs-requires-clause-right
fetch_logs-requires-clause-right g c = c.requires.right

pub returns : goal.returns
returns g c = record {
  can = c.fetch_logs.ensures.can;
  opens = (c.fetch_logs.ensures.front.0 ∙ c.in_ok-memory.ensures.open.0, c.fetch_logs.ensures.front.1 ∙ c.in_ok-memory.ensures.open.1);
  fetched = λ image known long are. (
      let made = c.in_ok-memory.ensures in
      let shows = shows_first image c.args.front.items c.args.sup.now.blocks c.in_ok-memory.memory long are made.open.0 c.requires.front.whole made.blocks made.front made.zeros made.none in
      fetched_first c.args.sup.now (region_of image) c.args.logs.now c.in_ok-memory.memory c.fetch_logs.new.memory made.none (c.in_ok-fetch_logs.ensures.fetched image known shows));
  known = λ image known long. tt;
}

pub returns-in_err-fetch_logs : goal.returns-in_err-fetch_logs
returns-in_err-fetch_logs g c =
    let error = err_from_is_err_and c.from_residual-in_err-fetch_logs.result c.from_residual-in_err-fetch_logs.ensures.1 in
    part_failed _ _ _ _ c.from_residual-in_err-fetch_logs.result error.0 error.1 (λ image known long. error.2 ∙ c.in_err-fetch_logs.ensures.known image known long)
