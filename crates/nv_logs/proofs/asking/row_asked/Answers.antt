use Rattle.nv_logs.proofs.Asked.{asked_by_path, refused_by_path}
use Rattle.nv_logs.proofs.asking.row_asked.Goals as goal

pub returns-in-Path-clause-row : goal.returns-in-Path-clause-row
returns-in-Path-clause-row c region = rw c.in-Path.is (asked_by_path region c.args.rows.now.items c.in-Path.path.items c.row_at.result
    (λ names p. c.row_at.ensures.row region names (rw c.deref.ensures.value p)) c.row_at.ensures.held (λ p says. c.row_at.ensures.refused region p (rw c.deref.ensures.value says)))

pub returns-in-Path-clause-refused : goal.returns-in-Path-clause-refused
returns-in-Path-clause-refused c region = rw c.in-Path.is (refused_by_path region c.args.rows.now.items c.in-Path.path.items c.row_at.result (λ p says. c.row_at.ensures.refused region p (rw c.deref.ensures.value says)))
