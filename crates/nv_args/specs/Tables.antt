-- What the tables of commands and arguments stand for.
use Rattle.std.specs.Prelude.{◌≡◌, false, map}
use Rattle.clap.specs.Walk.{Rule, Text}
use Rattle.clap.specs.Simple.{App}
use Rattle.clap.specs.declared.builder.arg.Arg.{Arg}
use Rattle.clap.specs.declared.builder.command.Command.{Command}
use Rattle.clap.specs.declared.builder.command.Command.TheViews.{out-Command}
use Rattle.nv_args.specs.CommandLine.{command, place_rule, needed_rule, several_rule, option_rule, number_rule, flag_rule, letter_rule, needed_number_rule, threads_rule, version_rule}
use Rattle.nv_args.specs.declared.arguments.Argument.{Argument}
use Rattle.nv_args.specs.declared.arguments.Written.{Written}
use Rattle.nv_args.specs.declared.arguments.Written.TheVariants as ways
use Rattle.nv_args.specs.declared.command_line.CommandForm.{CommandForm}

-- an argument that is written so
abbrev pub rule_as : Written → Text → Rule
rule_as ways.ByPlace name = place_rule name
rule_as ways.Needed name = needed_rule name
rule_as ways.Several name = several_rule name
rule_as ways.Option name = option_rule name
rule_as ways.Flag name = flag_rule name
rule_as (ways.LetterFlag letter) name = letter_rule letter name
rule_as ways.Number name = number_rule name
rule_as ways.NeededNumber name = needed_number_rule name
rule_as ways.Workers name = threads_rule name
rule_as ways.Version name = version_rule name

-- an argument of a table
abbrev pub rule_by : Argument → Rule
rule_by argument = rule_as argument.written argument.name.now

-- a command of a table
abbrev pub app_by : CommandForm → App
app_by form = command form.name.now (map rule_by form.arguments.now)

-- the argument is its command's alone
abbrev pub IsLocal : Arg → Type 0
IsLocal argument = argument.global ≡ false

-- and so is each argument of the command
abbrev pub HasLocals : Command → Type 0
HasLocals command = (out-Command command).has_globals ≡ false
