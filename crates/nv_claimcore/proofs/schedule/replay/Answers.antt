use Rattle.std.proofs.Common.{length, sym, ap, subst, ◌∙◌}
use Rattle.std.proofs.lemmas.Result.{err_from_is_err_and}
use Rattle.nv_claimcore.specs.declared.view.Sizes.{Sizes}
use Rattle.nv_claimcore.specs.Replay.{lists}
use Rattle.nv_claimcore.specs.Pace.{Running}
use Rattle.nv_claimcore.proofs.Courses.{replayed, replayed_legal, replayed_finished}
use Rattle.nv_claimcore.proofs.schedule.replay.Goals as goal

pub returns-clause-replayed : goal.returns-clause-replayed
returns-clause-replayed c =
    let z : Sizes = record { blocks = c.args.blocks; tickets = length c.args.work.now; workers = c.args.workers } in
    replayed z (lists c.args.work.now) c.args.schedule.now c.in_ok-progress.progress c.follow.new.self c.run_out.new.self c.in_ok-progress.ensures.0 c.in_ok-progress.ensures.1 c.in_ok-follow.ensures c.in_ok-run_out.ensures (sym c.first_stranger.ensures ∙ c.in_default.is)

pub returns-clause-legal : goal.returns-clause-legal
returns-clause-legal c =
    let z : Sizes = record { blocks = c.args.blocks; tickets = length c.args.work.now; workers = c.args.workers } in
    replayed_legal z (lists c.args.work.now) c.args.schedule.now c.in_ok-progress.progress c.follow.new.self c.run_out.new.self c.in_ok-progress.ensures.0 c.in_ok-progress.ensures.1 c.in_ok-follow.ensures c.in_ok-run_out.ensures

pub returns-clause-finished : goal.returns-clause-finished
returns-clause-finished c =
    let z : Sizes = record { blocks = c.args.blocks; tickets = length c.args.work.now; workers = c.args.workers } in
    replayed_finished z (lists c.args.work.now) c.args.schedule.now c.in_ok-progress.progress c.follow.new.self c.run_out.new.self c.in_ok-progress.ensures.0 c.in_ok-progress.ensures.1 c.in_ok-follow.ensures c.in_ok-run_out.ensures c.requires.some_worker

pub returns-in_err-progress-clause-replayed : goal.returns-in_err-progress-clause-replayed
returns-in_err-progress-clause-replayed c = let w = err_from_is_err_and c.from_residual.result c.from_residual.ensures.1 in rw w.1 tt

pub returns-in_err-progress-clause-legal : goal.returns-in_err-progress-clause-legal
returns-in_err-progress-clause-legal c = let w = err_from_is_err_and c.from_residual.result c.from_residual.ensures.1 in rw w.1 tt

pub returns-in_err-progress-clause-finished : goal.returns-in_err-progress-clause-finished
returns-in_err-progress-clause-finished c = let w = err_from_is_err_and c.from_residual.result c.from_residual.ensures.1 in rw w.1 tt

pub returns-in_err-progress-clause-refused : goal.returns-in_err-progress-clause-refused
returns-in_err-progress-clause-refused c = let w = err_from_is_err_and c.from_residual.result c.from_residual.ensures.1 in rw (w.1, w.2) (sym c.first_stranger.ensures ∙ c.in_default.is)

pub returns-in_err-follow-clause-replayed : goal.returns-in_err-follow-clause-replayed
returns-in_err-follow-clause-replayed c = let w = err_from_is_err_and c.from_residual-in_err-follow.result c.from_residual-in_err-follow.ensures.1 in rw w.1 tt

pub returns-in_err-follow-clause-legal : goal.returns-in_err-follow-clause-legal
returns-in_err-follow-clause-legal c = let w = err_from_is_err_and c.from_residual-in_err-follow.result c.from_residual-in_err-follow.ensures.1 in rw w.1 tt

pub returns-in_err-follow-clause-finished : goal.returns-in_err-follow-clause-finished
returns-in_err-follow-clause-finished c = let w = err_from_is_err_and c.from_residual-in_err-follow.result c.from_residual-in_err-follow.ensures.1 in rw w.1 tt

pub returns-in_err-follow-clause-refused : goal.returns-in_err-follow-clause-refused
returns-in_err-follow-clause-refused c = let w = err_from_is_err_and c.from_residual-in_err-follow.result c.from_residual-in_err-follow.ensures.1 in rw (w.1, w.2) (sym c.first_stranger.ensures ∙ c.in_default.is)

pub returns-in_err-run_out-clause-replayed : goal.returns-in_err-run_out-clause-replayed
returns-in_err-run_out-clause-replayed c = let w = err_from_is_err_and c.from_residual-in_err-run_out.result c.from_residual-in_err-run_out.ensures.1 in rw w.1 tt

pub returns-in_err-run_out-clause-legal : goal.returns-in_err-run_out-clause-legal
returns-in_err-run_out-clause-legal c = let w = err_from_is_err_and c.from_residual-in_err-run_out.result c.from_residual-in_err-run_out.ensures.1 in rw w.1 tt

pub returns-in_err-run_out-clause-finished : goal.returns-in_err-run_out-clause-finished
returns-in_err-run_out-clause-finished c = let w = err_from_is_err_and c.from_residual-in_err-run_out.result c.from_residual-in_err-run_out.ensures.1 in rw w.1 tt

pub returns-in_err-run_out-clause-refused : goal.returns-in_err-run_out-clause-refused
returns-in_err-run_out-clause-refused c = let w = err_from_is_err_and c.from_residual-in_err-run_out.result c.from_residual-in_err-run_out.ensures.1 in rw (w.1, w.2) (sym c.first_stranger.ensures ∙ c.in_default.is)

pub new-requires-clause-inside : goal.new-requires-clause-inside
new-requires-clause-inside c = c.requires.inside

pub follow-requires-clause-running : goal.follow-requires-clause-running
follow-requires-clause-running c = subst (λ (z : Sizes). Running z (lists c.args.work.now) c.in_ok-progress.progress.state c.in_ok-progress.progress.paces.items) (sym c.in_ok-progress.ensures.0) c.in_ok-progress.ensures.2

pub run_out-requires-clause-running : goal.run_out-requires-clause-running
run_out-requires-clause-running c = c.in_ok-follow.ensures.goes_on.running

pub run_out-requires-clause-all : goal.run_out-requires-clause-all
run_out-requires-clause-all c = ap (λ (z : Sizes). z.workers) (c.in_ok-follow.ensures.goes_on.sizes ∙ c.in_ok-progress.ensures.0)
