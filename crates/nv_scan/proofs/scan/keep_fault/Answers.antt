use Rattle.std.proofs.Common.{refl}
use Rattle.std.proofs.lemmas.Result.{on_ok_weaker, on_err_weaker}
use Rattle.nv_scan.proofs.Scanning.{keeps_fault}
use Rattle.nv_scan.proofs.scan.keep_fault.Goals as goal

pub returns-clause-kept : goal.returns-clause-kept
returns-clause-kept c = on_ok_weaker c.push_fault.result (λ pushed. keeps_fault c.args._inode c.args.table c.args.fault c.args.inodes.now _ c.begin.new.self c.begin.ensures refl pushed) c.push_fault.ensures.pushed

pub returns-clause-refused : goal.returns-clause-refused
returns-clause-refused c = on_err_weaker c.push_fault.result (λ same. (refl, same)) c.push_fault.ensures.refused
