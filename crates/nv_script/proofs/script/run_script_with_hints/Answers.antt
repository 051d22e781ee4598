use Rattle.std.proofs.lemmas.Result.{IfOk-weaker, IfErr-weaker, on_err_weaker}
use Rattle.nv_session.specs.Machine.{first_state}
use Rattle.nv_session.specs.Sessions.{region_in}
use Rattle.nv_script.specs.Hints.{HintsScript}
use Rattle.nv_script.specs.Script.{ShowsScript}
use Rattle.nv_script.specs.Strict.{ShowsEndBy, ShowsFromBy, HintsFromBy}
use Rattle.nv_script.specs.declared.script.Rule.TheVariants.{Lenient}
use Rattle.nv_script.proofs.Ending.{lenient_any, lenient_from, lenient_hints, all_weaker, whole_weaker, fails_weaker}
use Rattle.nv_script.proofs.script.run_script_with_hints.Goals as goal

pub returns-clause-ok : goal.returns-clause-ok
returns-clause-ok g c =
    let region = region_in c.run_in-status.new.session.store in
    IfOk-weaker c.run_in-status.result _ _ (λ status all. all_weaker (ShowsEndBy Lenient first_state region) ShowsScript (lenient_any first_state region) _ _ _ status (all first_state c.new-session.ensures)) c.run_in-status.ensures.ok

pub returns-clause-err : goal.returns-clause-err
returns-clause-err g c =
    IfErr-weaker c.run_in-status.result _ _ (λ e all. fails_weaker (ShowsFromBy Lenient first_state) ShowsScript (lenient_from first_state) e _ _ _ (all first_state c.new-session.ensures)) c.run_in-status.ensures.err

pub returns-clause-hints : goal.returns-clause-hints
returns-clause-hints g c =
    IfOk-weaker c.run_in-status.result _ _ (λ status all. all_weaker (HintsFromBy Lenient first_state) HintsScript (lenient_hints first_state) _ _ _ status (all first_state c.new-session.ensures)) c.run_in-status.ensures.hints

pub returns-clause-first_hints : goal.returns-clause-first_hints
returns-clause-first_hints g c =
    on_err_weaker c.run_in-status.result (λ all. whole_weaker (HintsFromBy Lenient first_state) HintsScript (lenient_hints first_state) _ _ _ (all first_state c.new-session.ensures)) c.run_in-status.ensures.first_hints
