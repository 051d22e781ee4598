use Rattle.std.proofs.Common.{◌≡◌, ◌++◌, map, drop}
use Rattle.std.specs.List.{AllByRecursion}
use Rattle.clap.specs.Walk.{rule_of}
use Rattle.nv_args.specs.Tables.{IsLocal, rule_by}
use Rattle.nv_args.proofs.command_line.arguments_of.Given as goal

-- with the arguments that are left they are those of the table
abbrev pub invariant-loop-argument : goal.invariant-loop-argument
invariant-loop-argument l = record {
  local : AllByRecursion IsLocal l.made.items;
  rules : map rule_of l.made.items ++ map rule_by (drop l.argument-index l.arguments) ≡ map rule_by l.arguments;
}
