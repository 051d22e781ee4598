use Rattle.std.proofs.Common.{ℕ, List, [], ◌≡◌, ◌∙◌, ap, drop, refl, sym}
use Rattle.std.proofs.lemmas.List.{drop_all}
use Rattle.nv_line.specs.declared.reasons.Form.{Form}
use Rattle.nv_line.specs.declared.table.Named.{Named}
use Rattle.nv_line.specs.Table.{row_of, commands, names, form_in}
use Rattle.nv_line.proofs.Near.{found_here, not_here}
use Rattle.nv_line.proofs.table.form_named.Goals as goal

pub loop-command-init : goal.loop-command-init
unfolding names commands row_of
loop-command-init c = record { all = record { same = refl }; left = refl }

pub returns-then-eq : goal.returns-then-eq
returns-then-eq c =
    found_here (λ (command : Named). (command.name.now, command.form)) c.loop-command.command-index c.loop-command.invariant.all c.loop-command-test.true _
    c.args.name.now _ c.loop-command.invariant.left (sym c.eq.ensures ∙ c.if-eq.true)

pub loop-command-preserved : goal.loop-command-preserved
loop-command-preserved c = record {
  all = c.loop-command.invariant.all;
  left = not_here (λ (command : Named). (command.name.now, command.form)) c.loop-command.command-index c.loop-command.invariant.all c.loop-command-test.true _
      c.args.name.now _ c.loop-command.invariant.left (sym c.eq.ensures ∙ c.if-eq.false);
}

pub returns : goal.returns
unfolding form_in names commands row_of
returns c =
    let none : drop c.loop-command.command-index names ≡ [] = drop_all c.loop-command.command-index names (c.loop-command-test.false) in
    sym (ap (λ (left : List (List ℕ × Form)). form_in left c.args.name.now) none) ∙ c.loop-command.invariant.left
