use Rattle.std.proofs.Common.{◌≡◌, ◌≢◌, ◌∙◌, IsTrue, refl, sym}
use Rattle.std.proofs.lemmas.Result.{IfOk-from_err}
use Rattle.nv_recover.specs.Errors.{Fails, comes_first}
use Rattle.nv_recover.specs.declared.errors.RecoverError.{RecoverError}
use Rattle.nv_recover.specs.declared.errors.RecoverError.TheVariants.{Stopped, Workers, Schedule}
use Rattle.nv_recover.proofs.Answers.{tables_blocks, tables_sup}
use Rattle.nv_recover.proofs.Handed.{goes_by, goes_on, handed, memory_fails, memory_goes_on, memory_not_burnt, memory_not_first, stranger_first}
use Rattle.nv_recover.proofs.Stops.{stop_before}
use Rattle.nv_region.proofs.Wordwise.{stores_none}
use Rattle.nv_recover.proofs.replaying.recover_replay.Goals as goal

pub scan_by_schedule-requires-clause-blocks : goal.scan_by_schedule-requires-clause-blocks
scan_by_schedule-requires-clause-blocks g c = tables_blocks c.in_ok-started.ensures.ok

pub finish-requires-clause-tables : goal.finish-requires-clause-tables
finish-requires-clause-tables g c = tables_sup c.in_ok-started.ensures.ok

pub finish-requires-clause-scanned : goal.finish-requires-clause-scanned
finish-requires-clause-scanned g c = (g.P.Pmem.region c.start.new.memory, c.in_ok-scanned.ensures)

pub returns-clause-ok : goal.returns-clause-ok
returns-clause-ok g c = (c.in_ok-finish.ensures _ _ c.in_ok-started.ensures.ok c.in_ok-scanned.ensures).ok

pub returns-clause-undone : goal.returns-clause-undone
returns-clause-undone g c = (c.in_ok-finish.ensures _ _ c.in_ok-started.ensures.ok c.in_ok-scanned.ensures).rolled_back

pub returns-clause-once : goal.returns-clause-once
returns-clause-once g c = (c.in_ok-finish.ensures _ _ c.in_ok-started.ensures.ok c.in_ok-scanned.ensures).once

pub returns-clause-lists : goal.returns-clause-lists
returns-clause-lists g c = (c.in_ok-finish.ensures _ _ c.in_ok-started.ensures.ok c.in_ok-scanned.ensures).lists

pub returns-clause-tables : goal.returns-clause-tables
returns-clause-tables g c = (c.in_ok-finish.ensures _ _ c.in_ok-started.ensures.ok c.in_ok-scanned.ensures).tables

pub returns-clause-numbers : goal.returns-clause-numbers
returns-clause-numbers g c = (c.in_ok-finish.ensures _ _ c.in_ok-started.ensures.ok c.in_ok-scanned.ensures).numbers

pub returns-clause-kept : goal.returns-clause-kept
returns-clause-kept g c = record {
  stops = record { stopped = tt; quiet_done = λ s is quiet. tt; unstopped = λ s is free. tt };
  quiet = c.start.ensures.kept.quiet;
  untouched = tt;
  wrote = c.start.ensures.kept.wrote;
  keeps_fuse = c.start.ensures.kept.keeps_fuse;
  settled = c.in_ok-started.ensures.kept.settled;
  any_stop = c.start.ensures.kept.any_stop;
}

pub returns-in_err-started-clause-kept : goal.returns-in_err-started-clause-kept
returns-in_err-started-clause-kept g c = record {
  stops = record {
    stopped = handed c.from_residual.result c.in_err-started.field-0.0 (λ (e : RecoverError). e ≡ Stopped → IsTrue (g.P.Pmem.fuse c.start.new.memory).has_burnt) c.from_residual.ensures.1 c.in_err-started.ensures.kept.stopped;
    quiet_done = λ s is quiet. handed c.from_residual.result c.in_err-started.field-0.0 (λ (e : RecoverError). e ≢ Stopped) c.from_residual.ensures.1 (c.in_err-started.ensures.kept.quiet_done s is quiet);
    unstopped = λ s is free. handed c.from_residual.result c.in_err-started.field-0.0 (λ (e : RecoverError). e ≢ Stopped) c.from_residual.ensures.1 (c.in_err-started.ensures.kept.unstopped s is free);
  };
  quiet = c.start.ensures.kept.quiet;
  untouched = handed c.from_residual.result c.in_err-started.field-0.0 (λ (e : RecoverError). IsTrue (comes_first e) → c.start.new.memory ≡ c.args.memory.now) c.from_residual.ensures.1 c.in_err-started.ensures.kept.untouched;
  wrote = c.start.ensures.kept.wrote;
  keeps_fuse = c.start.ensures.kept.keeps_fuse;
  settled = λ none. IfOk-from_err c.from_residual.result _ c.from_residual.ensures.0;
  any_stop = c.start.ensures.kept.any_stop;
}

pub returns-in_err-scanned-clause-kept : goal.returns-in_err-scanned-clause-kept
returns-in_err-scanned-clause-kept g c = record {
  stops = record {
    stopped = memory_not_burnt c.from_residual-in_err-scanned.result c.from_residual-in_err-scanned.ensures.1 (IsTrue (g.P.Pmem.fuse c.start.new.memory).has_burnt);
    quiet_done = λ s is quiet. memory_goes_on c.from_residual-in_err-scanned.result c.from_residual-in_err-scanned.ensures.1;
    unstopped = λ s is free. memory_goes_on c.from_residual-in_err-scanned.result c.from_residual-in_err-scanned.ensures.1;
  };
  quiet = c.start.ensures.kept.quiet;
  untouched = memory_not_first c.from_residual-in_err-scanned.result c.from_residual-in_err-scanned.ensures.1 (c.start.new.memory ≡ c.args.memory.now);
  wrote = c.start.ensures.kept.wrote;
  keeps_fuse = c.start.ensures.kept.keeps_fuse;
  settled = λ none. IfOk-from_err c.from_residual-in_err-scanned.result _ c.from_residual-in_err-scanned.ensures.0;
  any_stop = c.start.ensures.kept.any_stop;
}

pub returns-in_err-finish-clause-kept : goal.returns-in_err-finish-clause-kept
returns-in_err-finish-clause-kept g c = record {
  stops = record {
    stopped = memory_not_burnt c.from_residual-in_err-finish.result c.from_residual-in_err-finish.ensures.1 (IsTrue (g.P.Pmem.fuse c.start.new.memory).has_burnt);
    quiet_done = λ s is quiet. memory_goes_on c.from_residual-in_err-finish.result c.from_residual-in_err-finish.ensures.1;
    unstopped = λ s is free. memory_goes_on c.from_residual-in_err-finish.result c.from_residual-in_err-finish.ensures.1;
  };
  quiet = c.start.ensures.kept.quiet;
  untouched = memory_not_first c.from_residual-in_err-finish.result c.from_residual-in_err-finish.ensures.1 (c.start.new.memory ≡ c.args.memory.now);
  wrote = c.start.ensures.kept.wrote;
  keeps_fuse = c.start.ensures.kept.keeps_fuse;
  settled = λ none. IfOk-from_err c.from_residual-in_err-finish.result _ c.from_residual-in_err-finish.ensures.0;
  any_stop = c.start.ensures.kept.any_stop;
}

pub returns-then-not-is_worker_count-clause-kept : goal.returns-then-not-is_worker_count-clause-kept
returns-then-not-is_worker_count-clause-kept g c = record {
  stops = record {
    stopped = λ is. absurd (goes_on Workers tt is);
    quiet_done = λ s is quiet. goes_on Workers tt;
    unstopped = λ s is free. goes_on Workers tt;
  };
  quiet = λ s is quiet. refl;
  untouched = λ first. refl;
  wrote = stores_none _ _ _;
  keeps_fuse = record { burnt = λ was. was; steady = λ was. was; stays_open = λ limit past was. was };
  settled = λ none. tt;
  any_stop = λ s is none. stop_before (g.P.Pmem.region c.args.memory.now) (g.P.Pmem.may_hold c.args.memory.now) s is none;
}

pub returns-in-Some-clause-kept : goal.returns-in-Some-clause-kept
returns-in-Some-clause-kept g c = record {
  stops = record {
    stopped = λ is. absurd (goes_on (Schedule c.in-Some.place) tt is);
    quiet_done = λ s is quiet. goes_on (Schedule c.in-Some.place) tt;
    unstopped = λ s is free. goes_on (Schedule c.in-Some.place) tt;
  };
  quiet = λ s is quiet. refl;
  untouched = λ first. refl;
  wrote = stores_none _ _ _;
  keeps_fuse = record { burnt = λ was. was; steady = λ was. was; stays_open = λ limit past was. was };
  settled = λ none. tt;
  any_stop = λ s is none. stop_before (g.P.Pmem.region c.args.memory.now) (g.P.Pmem.may_hold c.args.memory.now) s is none;
}

pub returns-in_err-started-clause-err : goal.returns-in_err-started-clause-err
returns-in_err-started-clause-err g c = handed c.from_residual.result c.in_err-started.field-0.0 (λ (e : RecoverError). Fails c.args.workers c.args.schedule.now e (g.P.Pmem.region c.args.memory.now) (g.P.Pmem.region c.start.new.memory)) c.from_residual.ensures.1 (c.in_err-started.ensures.err c.args.workers c.args.schedule.now)

pub returns-in_err-scanned-clause-err : goal.returns-in_err-scanned-clause-err
returns-in_err-scanned-clause-err g c = memory_fails c.from_residual-in_err-scanned.result c.from_residual-in_err-scanned.ensures.1 c.args.workers c.args.schedule.now (g.P.Pmem.region c.args.memory.now) (g.P.Pmem.region c.start.new.memory) c.in_ok-started.started.sup c.in_ok-started.ensures.ok.sup c.in_ok-started.ensures.ok.rolled_back

pub returns-in_err-finish-clause-err : goal.returns-in_err-finish-clause-err
returns-in_err-finish-clause-err g c = memory_fails c.from_residual-in_err-finish.result c.from_residual-in_err-finish.ensures.1 c.args.workers c.args.schedule.now (g.P.Pmem.region c.args.memory.now) (g.P.Pmem.region c.start.new.memory) c.in_ok-started.started.sup c.in_ok-started.ensures.ok.sup c.in_ok-started.ensures.ok.rolled_back

pub returns-in_err-started-clause-first : goal.returns-in_err-started-clause-first
returns-in_err-started-clause-first g c = goes_by (c.is_worker_count.ensures.good c.if-not-is_worker_count.false) (sym c.first_stranger.ensures ∙ c.in_default.is)

pub returns-in_err-scanned-clause-first : goal.returns-in_err-scanned-clause-first
returns-in_err-scanned-clause-first g c = goes_by (c.is_worker_count.ensures.good c.if-not-is_worker_count.false) (sym c.first_stranger.ensures ∙ c.in_default.is)

pub returns-in_err-finish-clause-first : goal.returns-in_err-finish-clause-first
returns-in_err-finish-clause-first g c = goes_by (c.is_worker_count.ensures.good c.if-not-is_worker_count.false) (sym c.first_stranger.ensures ∙ c.in_default.is)

pub returns-clause-first : goal.returns-clause-first
returns-clause-first g c = goes_by (c.is_worker_count.ensures.good c.if-not-is_worker_count.false) (sym c.first_stranger.ensures ∙ c.in_default.is)

pub returns-in-Some-clause-first : goal.returns-in-Some-clause-first
returns-in-Some-clause-first g c = stranger_first (c.is_worker_count.ensures.good c.if-not-is_worker_count.false) (sym c.first_stranger.ensures ∙ c.in-Some.is)

pub returns-then-not-is_worker_count-clause-first : goal.returns-then-not-is_worker_count-clause-first
returns-then-not-is_worker_count-clause-first g c = record { count = λ bad. (tt, refl); stranger = λ place good is. absurd (good (c.is_worker_count.ensures.bad c.if-not-is_worker_count.true)) }

pub returns-then-not-is_worker_count-clause-err : goal.returns-then-not-is_worker_count-clause-err
returns-then-not-is_worker_count-clause-err g c = (c.is_worker_count.ensures.bad c.if-not-is_worker_count.true, refl)
