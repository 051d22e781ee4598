use Rattle.std.proofs.Common.{◌∙◌, ap, ap₂}
use Rattle.std.specs.List.{fold}
use Rattle.std.proofs.lemmas.Result.{IfOk-weaker}
use Rattle.clap.specs.Simple.{app_of_fields, with_rule}
use Rattle.nv_args.proofs.Adding.{stays_local, with_arguments}
use Rattle.nv_args.proofs.command_line.command_of.Goals as goal

pub returns : goal.returns
returns c =
    let arguments = c.in_ok-arguments.ensures in
    let local_before = ap (λ f. f.has_globals) c.after_help.ensures ∙ ap (λ f. f.has_globals) c.about.ensures ∙ c.new.ensures.local in
    let app_before = ap app_of_fields c.after_help.ensures ∙ ap app_of_fields c.about.ensures ∙ c.new.ensures.app in record {
      local = IfOk-weaker c.args-2.result _ _ (λ command adds. stays_local _ command _ adds arguments.local local_before) c.args-2.ensures;
      shape = IfOk-weaker c.args-2.result _ _ (λ command adds. with_arguments _ command _ adds arguments.local ∙ ap₂ (fold with_rule) app_before arguments.rules) c.args-2.ensures;
    }
