use Rattle.std.proofs.Common.{ap, ◌∙◌}
use Rattle.nv_radix.specs.Runs.{Runs, block_by}
use Rattle.nv_radix.proofs.Clearing.{stays_none, cut_run, cut_run_fewer, cut_run_twice}
use Rattle.nv_radix.proofs.runs.cut_out.Goals as goal

pub returns-in_ok-put-clause-ok : goal.returns-in_ok-put-clause-ok
returns-in_ok-put-clause-ok c = cut_run_twice c.args.runs.now.entries c.keep_front.new.runs.entries c.put.new.runs.entries c.args.page c.args.first c.args.end c.saturating_sub.result c.args.blocks
    c.requires.runs c.requires.is c.requires.begins c.requires.some c.if-end-behind.true c.saturating_sub.ensures c.in_ok-keep_front.ensures.ok c.in_ok-put.ensures.ok

pub returns-in_ok-put-clause-fewer : goal.returns-in_ok-put-clause-fewer
returns-in_ok-put-clause-fewer c = λ p. stays_none _ _ _ (cut_run_twice c.args.runs.now.entries c.keep_front.new.runs.entries c.put.new.runs.entries c.args.page c.args.first c.args.end c.saturating_sub.result c.args.blocks
    c.requires.runs c.requires.is c.requires.begins c.requires.some c.if-end-behind.true c.saturating_sub.ensures c.in_ok-keep_front.ensures.ok c.in_ok-put.ensures.ok p)

pub returns-in_err-put-clause-fewer : goal.returns-in_err-put-clause-fewer
returns-in_err-put-clause-fewer c = λ p h. ap (λ (r : Runs). block_by r p) c.in_err-put.ensures.err
    ∙ cut_run_fewer c.args.runs.now.entries c.keep_front.new.runs.entries c.args.page c.args.first c.saturating_sub.result c.args.blocks c.requires.runs c.requires.is c.requires.ends c.saturating_sub.ensures c.in_ok-keep_front.ensures.ok p h

pub returns-else-end-behind-clause-ok : goal.returns-else-end-behind-clause-ok
returns-else-end-behind-clause-ok c = cut_run c.args.runs.now.entries c.keep_front.new.runs.entries c.args.page c.args.first c.args.end c.saturating_sub.result c.args.blocks
    c.requires.runs c.requires.is c.requires.ends c.if-end-behind.false c.saturating_sub.ensures c.in_ok-keep_front.ensures.ok

pub returns-else-end-behind-clause-fewer : goal.returns-else-end-behind-clause-fewer
returns-else-end-behind-clause-fewer c = cut_run_fewer c.args.runs.now.entries c.keep_front.new.runs.entries c.args.page c.args.first c.saturating_sub.result c.args.blocks
    c.requires.runs c.requires.is c.requires.ends c.saturating_sub.ensures c.in_ok-keep_front.ensures.ok
