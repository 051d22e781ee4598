use Rattle.nv_script.proofs.Buffered.{same_reader}
use Rattle.nv_script.proofs.shell.run_in.Goals as goal

pub returns-clause-ok : goal.returns-clause-ok
returns-clause-ok g c = rw (same_reader g.R.Read.remaining c.in-Ok.reader c.args.reader c.in-Ok.ensures.inner c.in-Ok.ensures.empty c.in-Ok.ensures.capacity) at c.run_lines.ensures.ok

pub returns-clause-err : goal.returns-clause-err
returns-clause-err g c = rw (same_reader g.R.Read.remaining c.in-Ok.reader c.args.reader c.in-Ok.ensures.inner c.in-Ok.ensures.empty c.in-Ok.ensures.capacity) at c.run_lines.ensures.err
