use Rattle.std.proofs.Common.{◌≡◌, ◌∙◌, ℕ, Option, Some, ap, subst}
use Rattle.std.specs.Option.{option_map}
use Rattle.nv_names.specs.Names.{inode_and_place}
use Rattle.nv_inspect.specs.Held.{IsTaken, Marks, name_holder}
use Rattle.nv_inspect.proofs.NameWords.{name_marks, name_said}
use Rattle.nv_inspect.proofs.names.HeldNames.say_name.Goals as goal

pub returns-clause-names : goal.returns-clause-names
returns-clause-names c =
    let said = option_map inode_and_place c.said_of-said.result in
    let taken = subst (λ (before : Option (ℕ × ℕ)). IsTaken c.args.by before said c.taken-holder.result) c.in_ok-before.ensures.had c.taken-holder.ensures in
    name_said c.args.by c.args.at c.args.e.now c.args.self.now.targets c.args.self.now.holders c.as_slice-name.result.now c.as_slice-name.ensures.value c.set.new.targets c.hold.new.holders said c.taken-holder.result c.said_of-said.ensures taken
    c.in_ok-before.ensures.set c.in_ok-last.ensures.hold

pub returns-clause-marks : goal.returns-clause-marks
returns-clause-marks c = name_marks c.args.by c.args.at c.args.e.now c.args.self.now.targets c.args.self.now.holders c.args.takers.now c.mark.new.takers
    (subst (λ (o : Option ℕ). Marks c.args.by (λ (k : ℕ). o ≡ Some k) c.args.takers.now c.mark.new.takers) (c.in_ok-last.ensures.had ∙ ap (name_holder c.args.self.now) c.as_slice-name.ensures.value) c.mark.ensures)
