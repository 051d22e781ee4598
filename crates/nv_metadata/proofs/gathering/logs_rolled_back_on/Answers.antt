use Rattle.std.proofs.Common.{subst, sym, arith}
use Rattle.nv_region.specs.Region.{Region, region_of}
use Rattle.nv_journal.specs.Undo.{undone}
use Rattle.nv_metadata.specs.Walk.{AreLogs}
use Rattle.nv_metadata.proofs.Shown.{begins_alike}
use Rattle.nv_metadata.proofs.SameLogs.{quiet_undone, same_rolled_back, logs_there, ends_are_right}
use Rattle.nv_metadata.proofs.gathering.logs_rolled_back_on.Goals as goal

pub returns-clause-logs : goal.returns-clause-logs
returns-clause-logs g c image are long =
    let s = c.args.sup.now in
    let made = c.new-memory.ensures in
    let R = region_of image in
    let M = c.new-memory.result.region in
    let alike = begins_alike image c.args.front.now s.blocks M long are (omega (arith, c.requires.front)) made.blocks made.front made.zeros in
    let found = c.in_ok-right_logs_on.ensures in
    let quiet = quiet_undone s M c.requires.layout (c.may_be_pending.ensures c.if-may_be_pending.false) in
    logs_there s (undone s R) (undone s M) c.requires.layout (same_rolled_back s R M c.requires.layout c.requires.version alike.0 (λ at aligned low. alike.1 at aligned (omega (arith, low, c.requires.front)))) c.in_ok-right_logs_on.field-0.items
    (subst (λ (U : Region). AreLogs U s c.in_ok-right_logs_on.field-0.items) (sym quiet) (record { all = found.all; only = found.only }))

pub returns-clause-right : goal.returns-clause-right
returns-clause-right g c =
    let found = c.in_ok-right_logs_on.ensures in
    ends_are_right c.new-memory.result.region c.args.sup.now c.in_ok-right_logs_on.field-0.items (record { all = found.all; only = found.only })
