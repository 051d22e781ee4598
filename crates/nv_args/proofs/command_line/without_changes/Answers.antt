use Rattle.std.proofs.Common.{◌∙◌, ap₂}
use Rattle.std.proofs.lemmas.Result.{IfOk-weaker}
use Rattle.nv_args.specs.CommandLine.{with_commands}
use Rattle.nv_args.proofs.Adding.{with_subcommands}
use Rattle.nv_args.proofs.command_line.without_changes.Goals as goal

pub returns : goal.returns
returns c =
    let commands = c.in_ok-commands.ensures in
    IfOk-weaker c.subcommands.result _ _ (λ program adds. with_subcommands _ program _ adds commands.local ∙ ap₂ with_commands c.in_ok-bare.ensures (commands.shapes ∙ c.forms.ensures)) c.subcommands.ensures
