use Rattle.std.proofs.Common.{◌≡◌, ◌+◌, ◌/◌, None, drop, length}
use Rattle.nv_line.specs.declared.table.Named.{Named}
use Rattle.nv_line.specs.Nearest.{look_through}
use Rattle.nv_line.specs.Table.{names}
use Rattle.nv_line.proofs.Near.{AreNamed}
use Rattle.nv_line.proofs.nearest.nearest.Given as goal

-- a look through the commands that are left ends as one through all
abbrev pub invariant-loop-command : goal.invariant-loop-command
invariant-loop-command l = record {
  all : AreNamed (λ (command : Named). (command.name.now, command.form)) l.command-items names;
  near : look_through l.word (record { form = l.found; below = l.below }) (drop l.command-index names) ≡ look_through l.word (record { form = None; below = length l.word / 3 + 1 }) names;
}
