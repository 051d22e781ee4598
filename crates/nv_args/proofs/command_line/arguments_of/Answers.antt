use Rattle.clap.specs.Walk.{rule_of}
use Rattle.nv_args.specs.Tables.{IsLocal, rule_by}
use Rattle.nv_args.proofs.Adding.{all_made, and_one_more, one_further}
use Rattle.nv_args.proofs.command_line.arguments_of.Goals as goal

pub loop-argument-preserved : goal.loop-argument-preserved
loop-argument-preserved c =
    let before = c.loop-argument in
    let made = before.made.items in
    let argument = c.arg_of.result in
    let new = c.push.new.self.items in record {
      local = and_one_more IsLocal made argument new c.in_ok-push.ensures.items before.invariant.local c.arg_of.ensures.local;
      rules = one_further rule_of rule_by made argument new c.in_ok-push.ensures.items c.args.arguments.now before.argument-index _ _ c.loop-argument-test.true
          c.arg_of.ensures.rule before.invariant.rules;
    }

pub returns : goal.returns
returns c = record {
  local = c.loop-argument.invariant.local;
  rules = all_made rule_of rule_by _ _ c.loop-argument.argument-index _ c.loop-argument-test.false c.loop-argument.invariant.rules;
}
