use Rattle.nv_script.proofs.EndOfRun.{ended_ok, ended_err}
use Rattle.nv_script.proofs.shell.run_shell.Goals as goal

pub returns-clause-ok : goal.returns-clause-ok
returns-clause-ok g c =
    ended_ok c.end_of.result c.run_recovered-ran.result (λ ended. ended.status) _ _ _ c.end_of.ensures.status c.end_of.ensures.region
    (λ ended same all. rw same all) (c.run_recovered-ran.ensures.ok c.args.region.region c.with_region-session.ensures)

pub returns-clause-err : goal.returns-clause-err
returns-clause-err g c =
    ended_err c.end_of.result c.run_recovered-ran.result _ _ c.end_of.ensures.err (λ e all. all) (c.run_recovered-ran.ensures.err c.args.region.region c.with_region-session.ensures)
