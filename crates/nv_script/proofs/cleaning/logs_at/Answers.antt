use Rattle.std.proofs.Common.{◌≡◌, ◌∙◌, Bool, false, true, sym, subst}
use Rattle.std.specs.Option.{option_map}
use Rattle.nv_paths.specs.Seen.{tree_of}
use Rattle.nv_tree.specs.Refusals.{Tests}
use Rattle.nv_script.specs.Cleaning.{AsksCleaning}
use Rattle.nv_script.proofs.CleanedImage.{faults_refuse, faulty, sound}
use Rattle.nv_script.proofs.cleaning.logs_at.Goals as goal

pub returns-then-is_empty-clause-tests : goal.returns-then-is_empty-clause-tests
returns-then-is_empty-clause-tests c = λ tests asks.
    let m = c.args.mount.now in
    let writes : m.read_only ≡ false = c.keeps.ensures.writes ∙ sound m.faults c.faults.result.now c.faults.ensures (sym c.is_empty.ensures ∙ c.if-is_empty.true) in
    c.logs_of.ensures.tests tests (subst (λ (b : Bool). AsksCleaning b (tree_of m.memory.region m.rows) (option_map (λ text. text.now) c.args.path) tests) writes asks)

pub returns-else-is_empty-clause-tests : goal.returns-else-is_empty-clause-tests
returns-else-is_empty-clause-tests c = λ tests asks.
    let m = c.args.mount.now in
    faults_refuse m.read_only (tree_of m.memory.region m.rows) (option_map (λ text. text.now) c.args.path) tests asks (c.keeps.ensures.writes ∙ faulty m.faults c.faults.result.now c.faults.ensures (sym c.is_empty.ensures ∙ c.if-is_empty.false))
