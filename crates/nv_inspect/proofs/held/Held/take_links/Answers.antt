use Rattle.std.proofs.Common.{refl}
use Rattle.nv_entry.specs.declared.entry.Entry.TheVariants.{Links}
use Rattle.nv_logpage.specs.Reads.{placed}
use Rattle.nv_inspect.proofs.Taking.{marks_links, takes_by}
use Rattle.nv_inspect.proofs.held.Held.take_links.Goals as goal

pub returns-clause-takes : goal.returns-clause-takes
returns-clause-takes c = takes_by c.args.by (placed c.args._at (Links c.args.e.now)) c.args.self.now (record c.args.self.now { links = c.say.new.self; time = c.say-2.new.self })
    (refl, refl) (refl, refl) (refl, refl) (refl, refl) c.say.ensures.word c.say-2.ensures.word (λ p. (refl, refl)) (λ q. (refl, refl))

pub returns-clause-marks : goal.returns-clause-marks
returns-clause-marks c = marks_links c.args.by c.args._at c.args.e.now c.args.self.now c.args.takers.now c.say.new.takers c.say-2.new.takers c.say.ensures.marks c.say-2.ensures.marks
