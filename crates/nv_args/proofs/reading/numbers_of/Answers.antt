use Rattle.clap.specs.Walk.{rows_of}
use Rattle.clap.specs.Matches.{found_of}
use Rattle.nv_args.proofs.Sizing.{no_numbers}
use Rattle.nv_args.proofs.reading.numbers_of.Goals as goal

pub returns-in-None-Some-clause-none : goal.returns-in-None-Some-clause-none
returns-in-None-Some-clause-none c none blocks cpus tables numbers =
    no_numbers (rows_of (found_of c.args.values.now)) blocks cpus tables c.in-None-Some.size.now c.in-None-Some.ensures' numbers
    (c.numbers_by_size.ensures.none none)
