use Rattle.std.proofs.Common.{arith}
use Rattle.nv_radix.specs.Pages.{in_run}
use Rattle.nv_radix.proofs.LeafSteps.{one_bit}
use Rattle.nv_radix.proofs.RunBits.{or_run}
use Rattle.nv_radix.proofs.places.set_places.Goals as goal

pub returns-clause-bits : goal.returns-clause-bits
returns-clause-bits c = λ p _. or_run c.args.mapped.now c.run_bits-bits.result p (in_run c.args.page c.args.count p) (c.run_bits-bits.ensures p)

pub returns-then-count-eq1-clause-bits : goal.returns-then-count-eq1-clause-bits
returns-then-count-eq1-clause-bits c = λ p _. rw c.if-count-eq1.true (one_bit c.args.mapped.now c.args.page p (let part = c.requires.part in let few = c.requires.few in let one = c.if-count-eq1.true in omega (arith, part, few, one)))
