use Rattle.std.proofs.Common.{subst, arith}
use Rattle.nv_region.specs.Region.{Region, region_of}
use Rattle.nv_journal.specs.Undo.{undone}
use Rattle.nv_metadata.specs.Walk.{AreLogs}
use Rattle.nv_metadata.proofs.Shown.{shows_first}
use Rattle.nv_metadata.proofs.SameLogs.{same_rolled_back, logs_there, ends_are_right}
use Rattle.nv_metadata.proofs.gathering.logs_of_undone.Goals as goal

pub returns-clause-logs : goal.returns-clause-logs
returns-clause-logs c image are long =
    let s = c.args.sup.now in
    let made = c.in_ok-memory.ensures in
    let shows = shows_first image c.args.front.now s.blocks c.in_ok-memory.memory long are made.open.0 (omega (arith, c.requires.front)) made.blocks made.front made.zeros made.none in
    let found = c.in_ok-right_logs.ensures in
    let R = region_of image in
    let M = c.in_ok-memory.memory.memory.region in
    logs_there s (undone s R) (undone s M) c.requires.layout (same_rolled_back s R M c.requires.layout c.requires.version shows.as_long (λ at aligned low. shows.front at aligned (let long_front = made.open.0 in omega (arith, low, long_front, c.requires.front)))) c.in_ok-right_logs.field-0.items
    (subst (λ (U : Region). AreLogs U s c.in_ok-right_logs.field-0.items) c.in_ok-undo.ensures.done.is (record { all = found.all; only = found.only }))

pub returns-clause-right : goal.returns-clause-right
returns-clause-right c =
    let found = c.in_ok-right_logs.ensures in
    ends_are_right c.undo.new.memory.memory.region c.args.sup.now c.in_ok-right_logs.field-0.items (record { all = found.all; only = found.only })
