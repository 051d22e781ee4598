use Rattle.std.proofs.Common.{rules, ◌^◌}
use Rattle.nv_args.proofs.Sizing.{ends_with, ends_bare, bare_size}
use Rattle.nv_args.proofs.sizes.size_of.Goals as goal

pub returns-in-Some-clause-none : goal.returns-in-Some-clause-none
returns-in-Some-clause-none c none blocks s =
    ends_with c.args.text.now c.in-Some.digits 75 (2 ^ 10) blocks (search rules) c.in-Some.ensures.cases (search rules) (search rules) (search rules) (search rules) s
    (c.blocks_of.ensures.none none)

pub returns-in-Some-strip_suffix-clause-none : goal.returns-in-Some-strip_suffix-clause-none
returns-in-Some-strip_suffix-clause-none c none blocks s =
    ends_with c.args.text.now c.in-Some-strip_suffix.digits 77 (2 ^ 20) blocks (search rules) c.in-Some-strip_suffix.ensures.cases (search rules) (search rules)
    (search rules) (search rules) s (c.blocks_of-in-Some-strip_suffix.ensures.none none)

pub returns-in-Some-strip_suffix-2-clause-none : goal.returns-in-Some-strip_suffix-2-clause-none
returns-in-Some-strip_suffix-2-clause-none c none blocks s =
    ends_with c.args.text.now c.in-Some-strip_suffix-2.digits 71 (2 ^ 30) blocks (search rules) c.in-Some-strip_suffix-2.ensures.cases (search rules) (search rules)
    (search rules) (search rules) s (c.blocks_of-in-Some-strip_suffix-2.ensures.none none)

pub returns-clause-some : goal.returns-clause-some
returns-clause-some c = bare_size c.args.text.now c.blocks_of-2.result c.blocks_of-2.ensures.some

pub returns-clause-none : goal.returns-clause-none
returns-clause-none c none blocks s =
    ends_bare c.args.text.now blocks c.in_default.ensures.cases c.in_default-strip_suffix.ensures.cases c.in_default-strip_suffix-2.ensures.cases s
    (c.blocks_of-2.ensures.none none)
