use Rattle.std.proofs.Common.{◌≡◌, ◌++◌, map, drop}
use Rattle.std.specs.List.{AllByRecursion}
use Rattle.clap.specs.Simple.{app_of}
use Rattle.nv_args.specs.Tables.{HasLocals, app_by}
use Rattle.nv_args.proofs.command_line.commands_of.Given as goal

-- with the commands that are left they are those of the table
abbrev pub invariant-loop-form : goal.invariant-loop-form
invariant-loop-form l = record {
  local : AllByRecursion HasLocals l.made.items;
  shapes : map app_of l.made.items ++ map app_by (drop l.form-index l.forms) ≡ map app_by l.forms;
}
