use Rattle.std.proofs.Common.{◌≡◌, false, List, subst, sym}
use Rattle.nv_paths.specs.Seen.{tree_of}
use Rattle.nv_history.specs.declared.calls.Call.{Call}
use Rattle.nv_history.specs.Making.{has_upgrade}
use Rattle.nv_unpack.proofs.Kept.{step_keeps}
use Rattle.nv_unpack.proofs.making.make_own.Goals as goal

pub run_calls-requires-clause-tables : goal.run_calls-requires-clause-tables
run_calls-requires-clause-tables c = subst (λ (cs : List Call). has_upgrade cs ≡ false) (sym c.deref.ensures.value)
    (step_keeps (tree_of c.args.mount.now.memory.region c.args.mount.now.rows) c.args.text.now c.args.old.now c.cpu_at-cpu.result c.args.step c.in_ok-calls.calls.items c.in_ok-calls.ensures)
