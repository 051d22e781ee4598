use Rattle.nv_session.specs.Machine.{first_state}
use Rattle.nv_session.specs.Sessions.{region_in}
use Rattle.nv_script.specs.Hints.{HintsFrom}
use Rattle.nv_script.specs.Script.{ShowsFrom, ShowsEnd}
use Rattle.nv_script.specs.Strict.{ShowsEndBy, ShowsFromBy, HintsFromBy}
use Rattle.nv_script.specs.declared.script.Rule.TheVariants.{Lenient}
use Rattle.nv_script.proofs.EndOfRun.{ended_ok, ended_err, ended_on_err}
use Rattle.nv_script.proofs.Ending.{lenient_end, lenient_from, lenient_hints, all_weaker, whole_weaker, fails_weaker}
use Rattle.nv_script.proofs.script.run_script_to_end.Goals as goal

pub returns-clause-ok : goal.returns-clause-ok
returns-clause-ok g c =
    let begin = first_state in
    let region = region_in c.run_in-ran.new.session.store in
    ended_ok c.end_of.result c.run_in-ran.result (λ ended. ended.status) _ _ _ c.end_of.ensures.status c.end_of.ensures.region
    (λ ended same all. rw same (all_weaker (ShowsEndBy Lenient begin region) (ShowsEnd begin region) (lenient_end begin region) _ _ _ ended.status (all begin c.new-session.ensures)))
    c.run_in-ran.ensures.ok

pub returns-clause-hints : goal.returns-clause-hints
returns-clause-hints g c =
    let begin = first_state in
    ended_ok c.end_of.result c.run_in-ran.result (λ ended. ended.status) _ _ _ c.end_of.ensures.status c.end_of.ensures.region
    (λ ended same all. all_weaker (HintsFromBy Lenient begin) (HintsFrom begin) (lenient_hints begin) _ _ _ ended.status (all begin c.new-session.ensures))
    c.run_in-ran.ensures.hints

pub returns-clause-err : goal.returns-clause-err
returns-clause-err g c =
    let begin = first_state in
    ended_err c.end_of.result c.run_in-ran.result _ _ c.end_of.ensures.err
    (λ e all. fails_weaker (ShowsFromBy Lenient begin) (ShowsFrom begin) (lenient_from begin) e _ _ _ (all begin c.new-session.ensures))
    c.run_in-ran.ensures.err

pub returns-clause-first_hints : goal.returns-clause-first_hints
returns-clause-first_hints g c =
    let begin = first_state in
    ended_on_err c.end_of.result c.run_in-ran.result _ _ c.end_of.ensures.err
    (λ all. whole_weaker (HintsFromBy Lenient begin) (HintsFrom begin) (lenient_hints begin) _ _ _ (all begin c.new-session.ensures))
    c.run_in-ran.ensures.first_hints
