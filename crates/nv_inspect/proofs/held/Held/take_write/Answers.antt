use Rattle.std.proofs.Common.{refl}
use Rattle.nv_entry.specs.declared.entry.Entry.TheVariants.{Write}
use Rattle.nv_logpage.specs.Reads.{placed}
use Rattle.nv_inspect.proofs.Taking.{marks_write, takes_by}
use Rattle.nv_inspect.proofs.held.Held.take_write.Goals as goal

pub returns-clause-takes : goal.returns-clause-takes
returns-clause-takes c = takes_by c.args.by (placed c.args._at (Write c.args.e.now)) c.args.self.now (record c.args.self.now { size = c.say.new.self; time = c.say-2.new.self; pages = c.write_pages.new.pieces })
    c.say.ensures.word (refl, refl) (refl, refl) (refl, refl) (refl, refl) c.say-2.ensures.word c.in_ok-write_pages.ensures.pages (λ q. (refl, refl))

pub returns-clause-marks : goal.returns-clause-marks
returns-clause-marks c = marks_write c.args.by c.args._at c.args.e.now c.args.self.now c.args.takers.now c.say.new.takers c.say-2.new.takers c.write_pages.new.takers c.say.ensures.marks c.say-2.ensures.marks c.in_ok-write_pages.ensures.marks
