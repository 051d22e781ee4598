use Rattle.std.proofs.Common.{◌∙◌, ap₂}
use Rattle.std.proofs.lemmas.Result.{IfOk-weaker}
use Rattle.nv_args.specs.CommandLine.{with_commands}
use Rattle.nv_args.proofs.Adding.{with_subcommands}
use Rattle.nv_args.proofs.command_line.nova.Goals as goal

pub returns : goal.returns
returns c =
    let changes = c.in_ok-changes.ensures in
    IfOk-weaker c.subcommands.result _ _ (λ program adds. with_subcommands _ program _ adds changes.local ∙ ap₂ with_commands c.in_ok-without_changes.ensures (changes.shapes ∙ c.change_forms.ensures)) c.subcommands.ensures
