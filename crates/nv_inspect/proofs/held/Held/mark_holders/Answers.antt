use Rattle.nv_inspect.proofs.Taking.{marks_each_page, marks_held}
use Rattle.nv_inspect.proofs.held.Held.mark_holders.Goals as goal

pub returns : goal.returns
returns c = marks_held c.args.by c.args.self.now c.args.marks.now c.mark.new.takers c.mark-2.new.takers c.mark-3.new.takers c.mark-4.new.takers c.mark-5.new.takers c.mark-6.new.takers c.mark_pages.new.takers c.mark_holders.new.marks
    c.mark.ensures c.mark-2.ensures c.mark-3.ensures c.mark-4.ensures c.mark-5.ensures c.mark-6.ensures
    (marks_each_page c.args.by c.args.self.now c.mark-6.new.takers c.mark_pages.new.takers c.mark_pages.ensures) c.in_ok-mark_holders.ensures
