use Rattle.std.proofs.Common.{ℕ, List, refl, subst, sym}
use Rattle.std.proofs.lemmas.Result.{IfOk-from_err}
use Rattle.nv_region.proofs.Told.{told_err}
use Rattle.nv_scan.specs.Reading.{IsRead}
use Rattle.nv_scan.proofs.Scanning.{holds_small, right_one, keeps_more}
use Rattle.nv_scan.proofs.scan.scan_from_head.Goals as goal

pub read_log-requires-clause-none : goal.read_log-requires-clause-none
read_log-requires-clause-none g c = c.new-fold.ensures c.args.sup.now c.args.used.now.kind c.args.used.now.inode

pub keep-requires : goal.keep-requires
keep-requires g c = holds_small c.args.sup.now c.args.used.now.kind c.args.used.now.inode c.args.used.now.slot.created c.in_ok-end.ensures.read.entries c.read_log.new.fold c.requires.layout.areas c.in_ok-end.ensures.read.holds

pub returns-clause-kept : goal.returns-clause-kept
returns-clause-kept g c = λ l is. keeps_more _ _ _ c.keep.result
    (right_one (g.P.Pmem.region c.args.memory.now) c.args.sup.now l c.args.used.now.inode c.args.used.now.table c.args.used.now.slot is c.args.used.now.kind c.read_log.new.fold c.pages.result.now c.in_ok-end.end c.fault_of_end-fault.result
    c.requires.kind c.requires.right
    (subst (λ (pages : List ℕ). IsRead (g.P.Pmem.region c.args.memory.now) c.args.sup.now c.args.used.now.inode c.args.used.now.kind c.args.used.now.slot c.read_log.new.fold pages c.in_ok-end.end) (sym c.pages.ensures) c.in_ok-end.ensures.read) c.fault_of_end-fault.ensures) c.keep.ensures.kept

pub returns-clause-reader : goal.returns-clause-reader
returns-clause-reader g c = c.read_log.ensures.reader

pub returns-clause-refused : goal.returns-clause-refused
returns-clause-refused g c = c.keep.ensures.refused

pub returns-in_err-end-clause-kept : goal.returns-in_err-end-clause-kept
returns-in_err-end-clause-kept g c = λ l is. IfOk-from_err c.from_residual.result _ c.from_residual.ensures.0

pub returns-in_err-end-clause-reader : goal.returns-in_err-end-clause-reader
returns-in_err-end-clause-reader g c = c.read_log.ensures.reader

pub returns-in_err-end-clause-refused : goal.returns-in_err-end-clause-refused
returns-in_err-end-clause-refused g c = told_err c.from_residual.result (refl, refl)
