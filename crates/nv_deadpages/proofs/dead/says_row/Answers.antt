use Rattle.std.proofs.Common.{sym, ◌∙◌}
use Rattle.nv_deadpages.proofs.Deciding as told
use Rattle.nv_deadpages.proofs.dead.says_row.Goals as goal

pub returns-then-not-is_empty-clause-no : goal.returns-then-not-is_empty-clause-no
returns-then-not-is_empty-clause-no c = λ e says. told.some_there _ c.is_empty.result c.is_empty.ensures c.if-not-is_empty.true (c.args.fold.now.faults.ok.0 ∙ says.clean)

pub returns-then-not-same_numbers-clause-no : goal.returns-then-not-same_numbers-clause-no
returns-then-not-same_numbers-clause-no c = λ e says. c.same_numbers.ensures.no c.if-not-same_numbers.true says.numbers

pub returns-then-not-branch-clause-no : goal.returns-then-not-branch-clause-no
returns-then-not-branch-clause-no c = λ e says. c.in_ok-same_names.ensures.no c.if-not-branch.true says.names

pub returns-clause-yes : goal.returns-clause-yes
returns-clause-yes c =
    told.where_done c.same_blocks.result _ _ c.same_blocks.ensures.yes (λ can same yes. record {
      clean = sym c.args.fold.now.faults.ok.0 ∙ told.none_there _ c.is_empty.result c.is_empty.ensures c.if-not-is_empty.false;
      numbers = c.same_numbers.ensures.yes c.if-not-same_numbers.false;
      names = c.in_ok-same_names.ensures.yes c.if-not-branch.false;
      blocks = same yes;
    })

pub returns-clause-no : goal.returns-clause-no
returns-clause-no c = told.where_done c.same_blocks.result _ _ c.same_blocks.ensures.no (λ can differ no says. differ no says.blocks)
