use Rattle.std.specs.Prelude.{option_map}
use Rattle.nv_script.specs.Strict.{state_from}
use Rattle.nv_script.proofs.EndOfRun.{ended_ok, ended_err, ended_on_err}
use Rattle.nv_script.proofs.script.run_script_strictly.Goals as goal

pub returns-clause-ok : goal.returns-clause-ok
returns-clause-ok g c =
    let begin = state_from (option_map (λ memory. memory.region) c.args.region) in
    ended_ok c.end_of.result c.run_in-ran.result (λ ended. ended.status) _ _ _ c.end_of.ensures.status c.end_of.ensures.region
    (λ ended same all. rw same (all begin c.session_with-session.ensures)) c.run_in-ran.ensures.ok

pub returns-clause-hints : goal.returns-clause-hints
returns-clause-hints g c =
    let begin = state_from (option_map (λ memory. memory.region) c.args.region) in
    ended_ok c.end_of.result c.run_in-ran.result (λ ended. ended.status) _ _ _ c.end_of.ensures.status c.end_of.ensures.region
    (λ ended same all. all begin c.session_with-session.ensures) c.run_in-ran.ensures.hints

pub returns-clause-err : goal.returns-clause-err
returns-clause-err g c =
    let begin = state_from (option_map (λ memory. memory.region) c.args.region) in
    ended_err c.end_of.result c.run_in-ran.result _ _ c.end_of.ensures.err (λ e all. all begin c.session_with-session.ensures) c.run_in-ran.ensures.err

pub returns-clause-first_hints : goal.returns-clause-first_hints
returns-clause-first_hints g c =
    let begin = state_from (option_map (λ memory. memory.region) c.args.region) in
    ended_on_err c.end_of.result c.run_in-ran.result _ _ c.end_of.ensures.err (λ all. all begin c.session_with-session.ensures) c.run_in-ran.ensures.first_hints
