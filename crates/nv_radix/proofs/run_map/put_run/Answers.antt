use Rattle.std.proofs.lemmas.Result.{on_ok_weaker}
use Rattle.nv_radix.proofs.run_map.put_run.Goals as goal

-- the run stands behind all that the index mapped
pub returns-clause-extents : goal.returns-clause-extents
returns-clause-extents c = on_ok_weaker c.add_run.result (λ added. added c.args.index.now c.put_run.new.self (record {
  behind = c.requires.behind;
  set = c.in_ok-put_run.ensures;
})) c.add_run.ensures
