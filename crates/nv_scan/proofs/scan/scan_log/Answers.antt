use Rattle.nv_scan.proofs.scan.scan_log.Goals as goal

pub returns-else-has_right_log-clause-kept : goal.returns-else-has_right_log-clause-kept
returns-else-has_right_log-clause-kept g c = λ l is. c.keep_without_log.ensures.kept (g.P.Pmem.region c.args.memory.now) l is
