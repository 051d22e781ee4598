use Rattle.std.proofs.Common.{rules, arith}
use Rattle.nv_radix.proofs.Clearing.{cleared, cleared_more, behind_last, before_all}
use Rattle.nv_radix.proofs.runs.clear.Goals as goal

pub loop-rest-preserved : goal.loop-rest-preserved
loop-rest-preserved c = cleared_more c.args.runs.now.entries c.loop-rest.runs.entries c.cut_out.new.runs.entries c.args.first c.args.end c.loop-rest.rest (c.in-Some.page, c.in-Some.blocks)
    c.loop-rest.invariant c.in-Some.ensures.some c.in_ok-cut_out-in-Some.ensures.runs c.in_ok-cut_out-in-Some.ensures.ok

pub returns-in_default-clause-ok : goal.returns-in_default-clause-ok
returns-in_default-clause-ok c = cleared c.args.runs.now.entries c.loop-rest.runs.entries c.args.first c.args.end c.loop-rest.rest c.loop-rest.invariant
    (λ p from below. behind_last c.loop-rest.runs.entries c.loop-rest.rest p (c.in-Some.page, c.in-Some.blocks) c.loop-rest.invariant.runs c.in-Some.ensures.some below (let ends = c.if-first-page.false in omega (arith, ends, from)))

pub returns-in_default-2-clause-ok : goal.returns-in_default-2-clause-ok
returns-in_default-2-clause-ok c = cleared c.args.runs.now.entries c.loop-rest.runs.entries c.args.first c.args.end c.loop-rest.rest c.loop-rest.invariant
    (λ p from below. before_all c.loop-rest.runs.entries c.loop-rest.rest p c.loop-rest.invariant.runs (search rules) below)
