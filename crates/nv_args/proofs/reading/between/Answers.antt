use Rattle.nv_args.proofs.Spelling.{none_before, some_between, none_behind}
use Rattle.nv_args.proofs.reading.between.Goals as goal

pub returns-in_err-strip_prefix-clause-none : goal.returns-in_err-strip_prefix-clause-none
returns-in_err-strip_prefix-clause-none c none = none_before c.args.word.now c.in_err-strip_prefix.ensures.cases

pub returns-clause-some : goal.returns-clause-some
returns-clause-some c = some_between c.args.word.now c.in_ok-strip_prefix.field-0 c.strip_suffix.result c.in_ok-strip_prefix.ensures.cases c.strip_suffix.ensures.cases

pub returns-clause-none : goal.returns-clause-none
returns-clause-none c none = none_behind c.args.word.now c.in_ok-strip_prefix.field-0 c.strip_suffix.result c.in_ok-strip_prefix.ensures.cases c.strip_suffix.ensures.cases none
