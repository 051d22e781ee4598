use Rattle.clap.specs.Simple.{app_of}
use Rattle.nv_args.specs.Tables.{HasLocals, app_by}
use Rattle.nv_args.proofs.Adding.{all_made, and_one_more, one_further}
use Rattle.nv_args.proofs.command_line.commands_of.Goals as goal

pub loop-form-preserved : goal.loop-form-preserved
loop-form-preserved c =
    let before = c.loop-form in
    let made = before.made.items in
    let command = c.in_ok-command_of.field-0 in
    let new = c.push.new.self.items in record {
      local = and_one_more HasLocals made command new c.in_ok-push.ensures.items before.invariant.local c.in_ok-command_of.ensures.local;
      shapes = one_further app_of app_by made command new c.in_ok-push.ensures.items c.args.forms.now before.form-index _ _ c.loop-form-test.true
          c.in_ok-command_of.ensures.shape before.invariant.shapes;
    }

pub returns : goal.returns
returns c = record {
  local = c.loop-form.invariant.local;
  shapes = all_made app_of app_by _ _ c.loop-form.form-index _ c.loop-form-test.false c.loop-form.invariant.shapes;
}
