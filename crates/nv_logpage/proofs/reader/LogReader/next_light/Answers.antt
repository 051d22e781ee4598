use Rattle.std.proofs.Common.{refl, ap, sym, subst, ◌∙◌}
use Rattle.std.proofs.lemmas.Result.{IfOk-from_err}
use Rattle.nv_region.specs.Region.{HasBlocks}
use Rattle.nv_region.proofs.Told.{told_err}
use Rattle.nv_blockset.specs.Listed.{Listed}
use Rattle.nv_logpage.specs.Progress.{Progress}
use Rattle.nv_logpage.proofs.ReadOn.{behind_fits, behind_less, behind_moves, behind_reading, end_less, end_moves, finds_so, goes_so, leads_so, page_below, page_fresh, page_less, page_moves, page_reading, refused_reading, same_log}
use Rattle.nv_logpage.proofs.reader.LogReader.next_light.Goals as goal

pub look-found-requires-clause-region : goal.look-found-requires-clause-region
look-found-requires-clause-region g c = record { areas = c.self.invariant.areas; blocks = subst (λ (r : Progress). HasBlocks (g.P.Pmem.region c.args.memory.now) r.sup.blocks) (sym c.self.view_is) c.requires; all_blocks = c.self.invariant.blocks }

pub look-found-requires-clause-aligned : goal.look-found-requires-clause-aligned
look-found-requires-clause-aligned g c = c.self.invariant.place.aligned

pub look-found-requires-clause-inside : goal.look-found-requires-clause-inside
look-found-requires-clause-inside g c = c.self.invariant.place.inside

pub look-found-requires-clause-offset : goal.look-found-requires-clause-offset
look-found-requires-clause-offset g c = c.self.invariant.place.offset

pub overflow_add-self : goal.overflow_add-self
overflow_add-self g c = behind_fits (g.P.Pmem.region c.args.memory.now) c.self.inside c.args.self.now c.look-found.result c.self.invariant c.self.view_is c.in-Entry.placed c.length.result c.in-Entry.is (c.length.ensures (g.P.Pmem.region c.args.memory.now)) c.look-found.ensures.onward

pub invariant_of-self : goal.invariant_of-self
invariant_of-self g c = behind_reading (g.P.Pmem.region c.args.memory.now) c.self.inside c.args.self.now c.look-found.result c.self.invariant c.self.view_is c.in-Entry.placed c.length.result c.in-Entry.is (c.length.ensures (g.P.Pmem.region c.args.memory.now)) c.look-found.ensures.onward

pub push-requires-clause-below : goal.push-requires-clause-below
push-requires-clause-below g c = page_below (g.P.Pmem.region c.args.memory.now) c.self.inside c.args.self.now c.look-found.result c.self.invariant c.self.view_is c.in-Page.address c.in-Page.is c.look-found.ensures.onward

pub push-requires-clause-fresh : goal.push-requires-clause-fresh
push-requires-clause-fresh g c = page_fresh (g.P.Pmem.region c.args.memory.now) c.self.inside c.args.self.now c.look-found.result c.self.invariant c.self.view_is c.in-Page.address c.in-Page.is c.look-found.ensures.onward

pub returns-in_err-push-in-Page-clause-finds : goal.returns-in_err-push-in-Page-clause-finds
returns-in_err-push-in-Page-clause-finds g c = IfOk-from_err c.from_residual.result _ c.from_residual.ensures.0

pub returns-in_err-push-in-Page-clause-moves : goal.returns-in_err-push-in-Page-clause-moves
returns-in_err-push-in-Page-clause-moves g c = IfOk-from_err c.from_residual.result _ c.from_residual.ensures.0

pub returns-in_err-push-in-Page-clause-onward : goal.returns-in_err-push-in-Page-clause-onward
returns-in_err-push-in-Page-clause-onward g c = IfOk-from_err c.from_residual.result _ c.from_residual.ensures.0

pub returns-in_err-push-in-Page-clause-leads : goal.returns-in_err-push-in-Page-clause-leads
returns-in_err-push-in-Page-clause-leads g c head es l = IfOk-from_err c.from_residual.result _ c.from_residual.ensures.0

pub returns-in_err-push-in-Page-clause-less : goal.returns-in_err-push-in-Page-clause-less
returns-in_err-push-in-Page-clause-less g c = IfOk-from_err c.from_residual.result _ c.from_residual.ensures.0

pub returns-in_err-push-in-Page-clause-name : goal.returns-in_err-push-in-Page-clause-name
returns-in_err-push-in-Page-clause-name g c = IfOk-from_err c.from_residual.result _ c.from_residual.ensures.0

pub invariant_of-self-in_err-push-in-Page : goal.invariant_of-self-in_err-push-in-Page
invariant_of-self-in_err-push-in-Page g c = refused_reading (g.P.Pmem.region c.args.memory.now) c.self.inside c.args.self.now c.look-found.result c.self.invariant c.self.view_is c.in-Page.address c.in-Page.is c.look-found.ensures.onward c.push.new.self c.in_err-push-in-Page.ensures.refused

pub returns-in_err-push-in-Page-clause-same_log : goal.returns-in_err-push-in-Page-clause-same_log
returns-in_err-push-in-Page-clause-same_log g c = same_log (g.P.Pmem.region c.args.memory.now) c.self.inside c.args.self.now c.look-found.result c.self.invariant c.self.view_is

pub returns-in_err-push-in-Page-clause-refused : goal.returns-in_err-push-in-Page-clause-refused
returns-in_err-push-in-Page-clause-refused g c = told_err c.from_residual.result (ap (λ (l : Listed). record { sup = c.self.inside.sup; tail = c.self.inside.tail; place = c.self.inside.place; pages = l.blocks }) c.in_err-push-in-Page.ensures.refused ∙ c.self.view_is)

pub invariant_of-self-in-Page : goal.invariant_of-self-in-Page
invariant_of-self-in-Page g c = page_reading (g.P.Pmem.region c.args.memory.now) c.self.inside c.args.self.now c.look-found.result c.self.invariant c.self.view_is c.in-Page.address c.in-Page.is c.look-found.ensures.onward c.push.new.self c.in_ok-push-in-Page.ensures.pushed c.in_ok-push-in-Page.ensures.few

pub returns-in-Entry-clause-finds : goal.returns-in-Entry-clause-finds
returns-in-Entry-clause-finds g c = finds_so (g.P.Pmem.region c.args.memory.now) c.self.inside c.args.self.now c.look-found.result c.self.invariant c.self.view_is c.look-found.ensures.finds

pub returns-in-Entry-clause-moves : goal.returns-in-Entry-clause-moves
returns-in-Entry-clause-moves g c = behind_moves (g.P.Pmem.region c.args.memory.now) c.self.inside c.args.self.now c.look-found.result c.self.invariant c.self.view_is c.in-Entry.placed c.length.result c.in-Entry.is (c.length.ensures (g.P.Pmem.region c.args.memory.now)) c.look-found.ensures.onward

pub returns-in-Entry-clause-refused : goal.returns-in-Entry-clause-refused
returns-in-Entry-clause-refused g c = tt

pub returns-in-Entry-clause-same_log : goal.returns-in-Entry-clause-same_log
returns-in-Entry-clause-same_log g c = same_log (g.P.Pmem.region c.args.memory.now) c.self.inside c.args.self.now c.look-found.result c.self.invariant c.self.view_is

pub returns-in-Entry-clause-onward : goal.returns-in-Entry-clause-onward
returns-in-Entry-clause-onward g c = goes_so (g.P.Pmem.region c.args.memory.now) c.self.inside c.args.self.now c.look-found.result c.self.invariant c.self.view_is c.look-found.ensures.onward

pub returns-in-Entry-clause-leads : goal.returns-in-Entry-clause-leads
returns-in-Entry-clause-leads g c = leads_so (g.P.Pmem.region c.args.memory.now) c.self.inside c.args.self.now c.look-found.result c.self.invariant c.self.view_is _ (behind_moves (g.P.Pmem.region c.args.memory.now) c.self.inside c.args.self.now c.look-found.result c.self.invariant c.self.view_is c.in-Entry.placed c.length.result c.in-Entry.is (c.length.ensures (g.P.Pmem.region c.args.memory.now)) c.look-found.ensures.onward) c.look-found.ensures.finds

pub returns-in-Entry-clause-less : goal.returns-in-Entry-clause-less
returns-in-Entry-clause-less g c = behind_less (g.P.Pmem.region c.args.memory.now) c.self.inside c.args.self.now c.look-found.result c.self.invariant c.self.view_is c.in-Entry.placed c.length.result c.in-Entry.is (c.length.ensures (g.P.Pmem.region c.args.memory.now)) c.look-found.ensures.onward

pub returns-in-Entry-clause-name : goal.returns-in-Entry-clause-name
returns-in-Entry-clause-name g c = c.look-found.ensures.name

pub returns-in_ok-push-in-Page-clause-finds : goal.returns-in_ok-push-in-Page-clause-finds
returns-in_ok-push-in-Page-clause-finds g c = finds_so (g.P.Pmem.region c.args.memory.now) c.self.inside c.args.self.now c.look-found.result c.self.invariant c.self.view_is c.look-found.ensures.finds

pub returns-in_ok-push-in-Page-clause-moves : goal.returns-in_ok-push-in-Page-clause-moves
returns-in_ok-push-in-Page-clause-moves g c = page_moves (g.P.Pmem.region c.args.memory.now) c.self.inside c.args.self.now c.look-found.result c.self.invariant c.self.view_is c.in-Page.address c.in-Page.is c.look-found.ensures.onward c.push.new.self c.in_ok-push-in-Page.ensures.pushed c.in_ok-push-in-Page.ensures.few

pub returns-in_ok-push-in-Page-clause-refused : goal.returns-in_ok-push-in-Page-clause-refused
returns-in_ok-push-in-Page-clause-refused g c = tt

pub returns-in_ok-push-in-Page-clause-same_log : goal.returns-in_ok-push-in-Page-clause-same_log
returns-in_ok-push-in-Page-clause-same_log g c = same_log (g.P.Pmem.region c.args.memory.now) c.self.inside c.args.self.now c.look-found.result c.self.invariant c.self.view_is

pub returns-in_ok-push-in-Page-clause-onward : goal.returns-in_ok-push-in-Page-clause-onward
returns-in_ok-push-in-Page-clause-onward g c = goes_so (g.P.Pmem.region c.args.memory.now) c.self.inside c.args.self.now c.look-found.result c.self.invariant c.self.view_is c.look-found.ensures.onward

pub returns-in_ok-push-in-Page-clause-leads : goal.returns-in_ok-push-in-Page-clause-leads
returns-in_ok-push-in-Page-clause-leads g c = leads_so (g.P.Pmem.region c.args.memory.now) c.self.inside c.args.self.now c.look-found.result c.self.invariant c.self.view_is _ (page_moves (g.P.Pmem.region c.args.memory.now) c.self.inside c.args.self.now c.look-found.result c.self.invariant c.self.view_is c.in-Page.address c.in-Page.is c.look-found.ensures.onward c.push.new.self c.in_ok-push-in-Page.ensures.pushed c.in_ok-push-in-Page.ensures.few) c.look-found.ensures.finds

pub returns-in_ok-push-in-Page-clause-less : goal.returns-in_ok-push-in-Page-clause-less
returns-in_ok-push-in-Page-clause-less g c = page_less (g.P.Pmem.region c.args.memory.now) c.self.inside c.args.self.now c.look-found.result c.self.invariant c.self.view_is c.in-Page.address c.in-Page.is c.look-found.ensures.onward c.push.new.self c.in_ok-push-in-Page.ensures.pushed c.in_ok-push-in-Page.ensures.few

pub returns-in_ok-push-in-Page-clause-name : goal.returns-in_ok-push-in-Page-clause-name
returns-in_ok-push-in-Page-clause-name g c = c.look-found.ensures.name

pub returns-in-End-clause-finds : goal.returns-in-End-clause-finds
returns-in-End-clause-finds g c = finds_so (g.P.Pmem.region c.args.memory.now) c.self.inside c.args.self.now c.look-found.result c.self.invariant c.self.view_is c.look-found.ensures.finds

pub returns-in-End-clause-moves : goal.returns-in-End-clause-moves
returns-in-End-clause-moves g c = end_moves (g.P.Pmem.region c.args.memory.now) c.self.inside c.args.self.now c.look-found.result c.self.invariant c.self.view_is c.in-End.field-0 c.in-End.is

pub returns-in-End-clause-refused : goal.returns-in-End-clause-refused
returns-in-End-clause-refused g c = tt

pub returns-in-End-clause-same_log : goal.returns-in-End-clause-same_log
returns-in-End-clause-same_log g c = (refl, refl)

pub returns-in-End-clause-onward : goal.returns-in-End-clause-onward
returns-in-End-clause-onward g c = goes_so (g.P.Pmem.region c.args.memory.now) c.self.inside c.args.self.now c.look-found.result c.self.invariant c.self.view_is c.look-found.ensures.onward

pub returns-in-End-clause-leads : goal.returns-in-End-clause-leads
returns-in-End-clause-leads g c = leads_so (g.P.Pmem.region c.args.memory.now) c.self.inside c.args.self.now c.look-found.result c.self.invariant c.self.view_is _ (end_moves (g.P.Pmem.region c.args.memory.now) c.self.inside c.args.self.now c.look-found.result c.self.invariant c.self.view_is c.in-End.field-0 c.in-End.is) c.look-found.ensures.finds

pub returns-in-End-clause-less : goal.returns-in-End-clause-less
returns-in-End-clause-less g c = end_less (g.P.Pmem.region c.args.memory.now) c.self.inside c.args.self.now c.look-found.result c.self.invariant c.self.view_is c.in-End.field-0 c.in-End.is

pub returns-in-End-clause-name : goal.returns-in-End-clause-name
returns-in-End-clause-name g c = c.look-found.ensures.name
