use Rattle.std.proofs.Common.{true, ◌∙◌, ap}
use Rattle.std.proofs.lemmas.Result.{IfOk-weaker}
use Rattle.clap.specs.Simple.{app_of_fields, on_top}
use Rattle.nv_args.proofs.command_line.bare.Goals as goal

pub returns : goal.returns
returns c =
    let before =
    ap app_of_fields c.subcommand_required.ensures
    ∙ ap (λ f. app_of_fields (record f { subcommand_required = true })) c.no_binary_name.ensures
    ∙ ap (λ f. app_of_fields (record f { no_binary_name = true; subcommand_required = true })) c.after_help.ensures
    ∙ ap (λ f. app_of_fields (record f { no_binary_name = true; subcommand_required = true })) c.about.ensures
    ∙ ap (on_top (λ s. record s { no_binary_name = true; subcommand_required = true })) c.new.ensures.app in
    IfOk-weaker c.bin_name.result _ _ (λ named is. ap app_of_fields is.0 ∙ before) c.bin_name.ensures
