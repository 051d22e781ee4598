use Rattle.std.proofs.Common.{◌∙◌, ℕ, Option, refl, subst, sym}
use Rattle.nv_region.specs.Region.{Region}
use Rattle.nv_calls.specs.Mount.{Mount}
use Rattle.nv_calls.specs.Effects.{logs_clean, logs_page_less, makes_no_change}
use Rattle.nova_c.specs.Refused.{clean_refusal}
use Rattle.nova_c.proofs.Calls.{any_stop_of, logs_of, refused_by, unchanged_by}
use Rattle.nova_c.proofs.cleaning.nova_clean.Goals as goal

pub returns-in-Ok-clause-logs : goal.returns-in-Ok-clause-logs
returns-in-Ok-clause-logs c owns done names is =
    subst (λ (o : Option ℕ). logs_clean o c.args.fs.now.mount.memory c.args.fs.now.mount names c.put.new.self.mount.memory) (sym c.cleaned.ensures)
    (logs_of _ _ _ _ (c.deref_mut.ensures.value ∙ c.in-Some.ensures.mount.1) c.put.ensures.mount (logs_clean c.in-Ok.freed) names
    (λ i node held h leads sound here. c.in-Ok.ensures.log names i node held h is leads sound here))

pub returns-in-Ok-clause-any_stop : goal.returns-in-Ok-clause-any_stop
returns-in-Ok-clause-any_stop c running writes names is =
    any_stop_of _ _ _ _ (c.deref_mut.ensures.value ∙ c.in-Some.ensures.mount.1) c.put.ensures.mount makes_no_change logs_page_less names
    (λ runs writes. c.clean-done.ensures.any_stop names is runs writes) running.runs writes

pub returns-in-Err-clause-refused : goal.returns-in-Err-clause-refused
returns-in-Err-clause-refused c running some p says =
    refused_by (λ (m : Mount Region). clean_refusal m p) _ _ c.in-Err.refusal c.code.result (c.deref_mut.ensures.value ∙ c.in-Some.ensures.mount.1) c.code.ensures.says
    (λ runs. c.in-Err.ensures.refused runs p says) running.runs

pub returns-in-Err-clause-unchanged : goal.returns-in-Err-clause-unchanged
returns-in-Err-clause-unchanged c = (
  (λ owns some. unchanged_by _ _ _ _ (c.deref_mut.ensures.value ∙ c.in-Some.ensures.mount.1) c.put.ensures.mount c.clean-done.result c.in-Err.refusal c.in-Err.is
      c.clean-done.ensures.call.stopped_before c.clean-done.ensures.call.stopped c.in-Err.ensures.call.unchanged),
  (λ some. refl),
)

pub returns-in-Err-clause-any_stop : goal.returns-in-Err-clause-any_stop
returns-in-Err-clause-any_stop c running writes names is =
    any_stop_of _ _ _ _ (c.deref_mut.ensures.value ∙ c.in-Some.ensures.mount.1) c.put.ensures.mount makes_no_change logs_page_less names
    (λ runs writes. c.clean-done.ensures.any_stop names is runs writes) running.runs writes
