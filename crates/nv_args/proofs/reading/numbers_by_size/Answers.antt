use Rattle.std.proofs.Common.{refl}
use Rattle.nv_args.proofs.reading.numbers_by_size.Goals as goal

pub returns-in_err-blocks-clause-none : goal.returns-in_err-blocks-clause-none
returns-in_err-blocks-clause-none c none blocks cpus tables size by_cpus by_tables = c.in_err-blocks.ensures.none refl blocks size
