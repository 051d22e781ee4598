use Rattle.std.proofs.Common.{refl}
use Rattle.nv_entry.specs.declared.entry.Entry.TheVariants.{Name}
use Rattle.nv_logpage.specs.Reads.{placed}
use Rattle.nv_inspect.proofs.Taking.{marks_name, takes_by}
use Rattle.nv_inspect.proofs.held.Held.take_name.Goals as goal

pub returns-clause-takes : goal.returns-clause-takes
returns-clause-takes c = takes_by c.args.by (placed c.args.at (Name c.args.e.now)) c.args.self.now (record c.args.self.now { time = c.say.new.self; names = c.say_name.new.self })
    (refl, refl) (refl, refl) (refl, refl) (refl, refl) (refl, refl) c.say.ensures.word (λ p. (refl, refl)) c.in_ok-say_name.ensures.names

pub returns-clause-marks : goal.returns-clause-marks
returns-clause-marks c = marks_name c.args.by c.args.at c.args.e.now c.args.self.now c.args.takers.now c.say.new.takers c.say_name.new.takers c.say.ensures.marks c.in_ok-say_name.ensures.marks
