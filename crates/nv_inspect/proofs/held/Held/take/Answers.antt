use Rattle.std.proofs.Common.{sym, subst}
use Rattle.std.specs.Prelude.{OnOk}
use Rattle.nv_entry.specs.declared.entry.Entry.{Entry}
use Rattle.nv_logpage.specs.Reads.{placed}
use Rattle.nv_inspect.specs.Held.{LosesOne, Marks}
use Rattle.nv_inspect.proofs.Taking.{marks_next_entry, takes_next}
use Rattle.nv_inspect.proofs.held.Held.take.Goals as goal

pub returns-in-NextPage-clause-takes : goal.returns-in-NextPage-clause-takes
returns-in-NextPage-clause-takes c = takes_next c.args.by c.args.placed.now c.args.self.now c.in-NextPage.is

pub returns-in-NextPage-clause-marks : goal.returns-in-NextPage-clause-marks
returns-in-NextPage-clause-marks c = marks_next_entry c.args.by c.args.placed.now c.args.self.now c.args.takers.now c.in-NextPage.is

pub returns-in-Write-clause-marks : goal.returns-in-Write-clause-marks
returns-in-Write-clause-marks c = subst (λ (e : Entry). OnOk c.take_write.result (Marks c.args.by (LosesOne (placed c.args.placed.now.at e) c.args.self.now) c.args.takers.now c.take_write.new.takers)) (sym c.in-Write.is) c.take_write.ensures.marks

pub returns-in-Attr-clause-marks : goal.returns-in-Attr-clause-marks
returns-in-Attr-clause-marks c = subst (λ (e : Entry). OnOk c.take_attributes.result (Marks c.args.by (LosesOne (placed c.args.placed.now.at e) c.args.self.now) c.args.takers.now c.take_attributes.new.takers)) (sym c.in-Attr.is) c.take_attributes.ensures.marks

pub returns-in-Name-clause-marks : goal.returns-in-Name-clause-marks
returns-in-Name-clause-marks c = subst (λ (e : Entry). OnOk c.take_name.result (Marks c.args.by (LosesOne (placed c.args.placed.now.at e) c.args.self.now) c.args.takers.now c.take_name.new.takers)) (sym c.in-Name.is) c.take_name.ensures.marks
