use Rattle.std.proofs.Common.{◌≢◌, ◌∙◌, IsTrue, inr, refl}
use Rattle.nv_tree.specs.declared.refusal.Refusal.TheVariants.{Stopped}
use Rattle.nv_history.proofs.LeftTables.{leaves_tables}
use Rattle.nv_changes.proofs.Made.{not_on, unstopped}
use Rattle.nv_unpack.proofs.Going.{goes}
use Rattle.nv_unpack.proofs.running.run_calls.Goals as goal

pub returns-in-Ok-clause-goes : goal.returns-in-Ok-clause-goes
returns-in-Ok-clause-goes c =
    let said = c.in-Ok.ensures.run in
    let m = c.args.mount.now in
    let n = c.make_calls.new.mount in
    let none = c.requires.tables in
    goes m n c.args.calls.now c.requires.can none (leaves_tables _ _ c.args.calls.now m n _ _ refl none said) said.faults said.mode said.length (said.runs ∙ c.requires.can.runs) (said.keeps_fuse.steady c.requires.can.steady)

pub returns-in-Ok-clause-made : goal.returns-in-Ok-clause-made
returns-in-Ok-clause-made c = c.in-Ok.ensures.made

pub returns-in-Err-clause-goes : goal.returns-in-Err-clause-goes
returns-in-Err-clause-goes c =
    let said = c.in-Err.ensures.run in
    let m = c.args.mount.now in
    let n = c.make_calls.new.mount in
    let none = c.requires.tables in
    let steady = said.keeps_fuse.steady c.requires.can.steady in
    let never : IsTrue n.stopped → ⊥ = λ on. unstopped n.memory steady (said.burnt c.requires.can.runs on) in
    let no_stop : c.in-Err.halted.refusal ≢ Stopped = λ e. never (said.stopped.0 e) in
    goes m n c.args.calls.now c.requires.can none (leaves_tables _ _ c.args.calls.now m n _ _ (inr (no_stop, refl)) none said) said.faults said.mode said.length (not_on n.stopped never) steady

pub returns-in-Err-clause-refused : goal.returns-in-Err-clause-refused
returns-in-Err-clause-refused c =
    let said = c.in-Err.ensures.run in
    let n = c.make_calls.new.mount in
    let steady = said.keeps_fuse.steady c.requires.can.steady in
    let never : IsTrue n.stopped → ⊥ = λ on. unstopped n.memory steady (said.burnt c.requires.can.runs on) in
    let no_stop : c.in-Err.halted.refusal ≢ Stopped = λ e. never (said.stopped.0 e) in
    record { halted = c.in-Err.halted; halts = c.in-Err.ensures.halted no_stop; is = refl; no_stop = no_stop }
