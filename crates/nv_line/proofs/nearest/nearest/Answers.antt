use Rattle.std.proofs.Common.{refl, inl, inr, drop, ap, sym, ◌∙◌, ◌≡◌, []}
use Rattle.std.proofs.lemmas.List.{drop_all}
use Rattle.nv_line.specs.declared.table.Named.{Named}
use Rattle.nv_line.specs.Nearest.{Near, look_through}
use Rattle.nv_line.specs.Table.{row_of, commands, names}
use Rattle.nv_line.proofs.Near.{looked, looked_on}
use Rattle.nv_line.proofs.nearest.nearest.Goals as goal
use Rattle.nv_line.proofs.nearest.nearest.Goals.{then-edits-below, else-edits-below}

pub loop-command-init : goal.loop-command-init
unfolding names commands row_of
loop-command-init c = record { all = record { same = refl }; near = refl }

pub loop-command-preserved : goal.loop-command-preserved
loop-command-preserved c = record {
  all = c.loop-command.invariant.all;
  near = looked_on (λ (command : Named). (command.name.now, command.form)) c.loop-command.command-index c.loop-command.invariant.all c.loop-command-test.true _
      c.args.word.now (record { form = c.loop-command.found; below = c.loop-command.below }) _ _ c.loop-command.invariant.near
      (looked c.args.word.now (record { form = c.loop-command.found; below = c.loop-command.below }) _ c.in_ok-edits.edits c.if-edits-below.below c.if-edits-below.found c.in_ok-edits.ensures
      (elim c.if-edits-below.branch [
        | then-edits-below w ↦ inl (w.if-edits-below.true, w.found-is, w.below-is)
        | else-edits-below w ↦ inr (w.if-edits-below.false, w.found-is, w.below-is)
      ]));
}

pub returns : goal.returns
unfolding look_through names commands row_of
returns c =
    let none : drop c.loop-command.command-index names ≡ [] = drop_all c.loop-command.command-index names (c.loop-command-test.false) in
    ap (λ (n : Near). n.form) (sym (ap (look_through c.args.word.now (record { form = c.loop-command.found; below = c.loop-command.below })) none) ∙ c.loop-command.invariant.near)
