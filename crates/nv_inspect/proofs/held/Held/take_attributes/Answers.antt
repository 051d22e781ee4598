use Rattle.std.proofs.Common.{refl}
use Rattle.nv_entry.specs.declared.entry.Entry.TheVariants.{Attr}
use Rattle.nv_logpage.specs.Reads.{placed}
use Rattle.nv_inspect.proofs.Taking.{marks_attr, takes_by}
use Rattle.nv_inspect.proofs.held.Held.take_attributes.Goals as goal

pub returns-clause-takes : goal.returns-clause-takes
returns-clause-takes c = takes_by c.args.by (placed c.args._at (Attr c.args.e.now)) c.args.self.now
    (record c.args.self.now { size = c.say.new.self; mode = c.say-2.new.self; owner = c.say-3.new.self; group = c.say-4.new.self; time = c.say-5.new.self; pages = c.cut_pages.new.pieces })
    c.say.ensures.word c.say-2.ensures.word c.say-3.ensures.word c.say-4.ensures.word (refl, refl) c.say-5.ensures.word c.in_ok-cut_pages.ensures.pages (λ q. (refl, refl))

pub returns-clause-marks : goal.returns-clause-marks
returns-clause-marks c = marks_attr c.args.by c.args._at c.args.e.now c.args.self.now c.args.takers.now c.say.new.takers c.say-2.new.takers c.say-3.new.takers c.say-4.new.takers c.say-5.new.takers c.cut_pages.new.takers
    c.say.ensures.marks c.say-2.ensures.marks c.say-3.ensures.marks c.say-4.ensures.marks c.say-5.ensures.marks c.cut_pages.ensures.marks
