use Rattle.nv_script.proofs.Buffered.{same_reader}
use Rattle.nv_script.proofs.script.run_in.Goals as goal

pub returns-clause-ok : goal.returns-clause-ok
returns-clause-ok g c = rw (same_reader g.R.Read.remaining c.in-Ok.reader c.args.reader c.in-Ok.ensures.inner c.in-Ok.ensures.empty c.in-Ok.ensures.capacity) at c.run_lines.ensures.ok

pub returns-clause-err : goal.returns-clause-err
returns-clause-err g c = rw (same_reader g.R.Read.remaining c.in-Ok.reader c.args.reader c.in-Ok.ensures.inner c.in-Ok.ensures.empty c.in-Ok.ensures.capacity) at c.run_lines.ensures.err

pub returns-clause-hints : goal.returns-clause-hints
returns-clause-hints g c = rw (same_reader g.R.Read.remaining c.in-Ok.reader c.args.reader c.in-Ok.ensures.inner c.in-Ok.ensures.empty c.in-Ok.ensures.capacity) at c.run_lines.ensures.hints

pub returns-clause-first_hints : goal.returns-clause-first_hints
returns-clause-first_hints g c = rw (same_reader g.R.Read.remaining c.in-Ok.reader c.args.reader c.in-Ok.ensures.inner c.in-Ok.ensures.empty c.in-Ok.ensures.capacity) at c.run_lines.ensures.first_hints
