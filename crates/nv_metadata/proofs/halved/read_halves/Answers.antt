use Rattle.std.proofs.Common.{arith}
use Rattle.nv_metadata.proofs.Shown.{read_on}
use Rattle.nv_metadata.proofs.halved.read_halves.Goals as goal

pub returns-clause-read : goal.returns-clause-read
returns-clause-read g c image known =
    let read = c.in_ok-read_both.ensures in
    read_on image c.read_both.new.first c.read_both.new.second c.args.at _ (read.first image known) (read.second image known) (omega (arith, c.read_both.auto.first, c.split_at_mut-first.ensures.front_len))
