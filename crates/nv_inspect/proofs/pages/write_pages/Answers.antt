use Rattle.std.proofs.Common.{refl}
use Rattle.nv_inspect.proofs.PageWords.{good_write, write_marks, write_said}
use Rattle.nv_inspect.proofs.pages.write_pages.Goals as goal

pub returns-clause-pages : goal.returns-clause-pages
returns-clause-pages c = write_said c.args.by c.args.e.now (good_write c.args._sup.now c.args.e.now c.requires.good) _ refl c.args.pieces.now.entries c.take.new.pieces.entries c.cut_pages.new.pieces.entries c.in_ok-take.ensures.pages c.in_ok-cut_pages.ensures.pages

pub returns-clause-marks : goal.returns-clause-marks
returns-clause-marks c = write_marks c.args.by c.args.e.now (good_write c.args._sup.now c.args.e.now c.requires.good) _ refl c.args.pieces.now.entries c.take.new.pieces.entries c.cut_pages.new.pieces.entries c.in_ok-take.ensures.pages
    c.args.takers.now c.take.new.takers c.cut_pages.new.takers c.take.ensures.marks c.cut_pages.ensures.marks
