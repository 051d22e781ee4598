use Rattle.std.proofs.Common.{arith}
use Rattle.nv_claimcore.specs.Replay.{lists}
use Rattle.nv_claimcore.proofs.Ends.{finished_first, finished_second}
use Rattle.nv_recover.proofs.replaying.replay_all.Goals as goal

pub returns-in-Ok : goal.returns-in-Ok
returns-in-Ok c = let state = c.in-Ok.state in let legal = c.in-Ok.ensures.legal in let finished = c.in-Ok.ensures.finished in record {
  cover = (omega (arith, legal.first_words), omega (arith, legal.second_words));
  once = λ b. finished_first _ state legal (lists c.args.work.now) finished b;
  twice = λ b. finished_second _ state legal (lists c.args.work.now) finished b;
}
