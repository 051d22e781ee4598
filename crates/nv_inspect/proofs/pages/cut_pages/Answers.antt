use Rattle.nv_inspect.proofs.PageWords.{cut_marks, cut_said}
use Rattle.nv_inspect.proofs.pages.cut_pages.Goals as goal

pub returns-clause-pages : goal.returns-clause-pages
returns-clause-pages c = cut_said c.args.by c.args.size c.first_page_past.result c.first_page_past.ensures c.args.pieces.now.entries c.take.new.pieces.entries c.in_ok-take.ensures.pages

pub returns-clause-marks : goal.returns-clause-marks
returns-clause-marks c = cut_marks c.args.by c.args.size c.first_page_past.result c.first_page_past.ensures c.args.pieces.now.entries c.args.takers.now c.take.new.takers c.take.ensures.marks
