use Rattle.std.proofs.Common.{refl}
use Rattle.nv_args.proofs.Spelling.{no_other}
use Rattle.nv_args.proofs.reading.number_in.Goals as goal

pub returns-in-None-clause-none : goal.returns-in-None-clause-none
returns-in-None-clause-none c none =
    no_other c.args.word.now c.between.result (c.in-None.ensures.none refl) c.between.ensures.some c.between.ensures.none (c.number_of-in-None.ensures.none none)
