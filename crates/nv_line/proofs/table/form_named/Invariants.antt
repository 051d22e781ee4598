use Rattle.std.proofs.Common.{◌≡◌, drop}
use Rattle.nv_line.specs.declared.table.Named.{Named}
use Rattle.nv_line.specs.Table.{names, form_in}
use Rattle.nv_line.proofs.Near.{AreNamed}
use Rattle.nv_line.proofs.table.form_named.Given as goal

-- no command before has the name
abbrev pub invariant-loop-command : goal.invariant-loop-command
invariant-loop-command l = record {
  all : AreNamed (λ (command : Named). (command.name.now, command.form)) l.command-items names;
  left : form_in (drop l.command-index names) l.name ≡ form_in names l.name;
}
