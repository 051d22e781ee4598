use Rattle.std.proofs.Common.{◌≡◌, ◌+◌, ◌<◌, ◌≤◌, true, arith, sym, ◌∙◌}
use Rattle.std.proofs.lemmas.Bool.Decides.{nat_tests}
use Rattle.nv_radix.specs.Pages.{in_run}
use Rattle.nv_radix.proofs.RunLemmas.{mapped}
use Rattle.nv_radix.proofs.Clearing.{behind_last, before_all}
use Rattle.nv_radix.proofs.runs.block_of.Goals as goal

pub returns-in_err-first : goal.returns-in_err-first
returns-in_err-first c = c.from_residual.ensures ∙ sym (before_all c.args.runs.now.entries (c.args.page + 1) c.args.page c.requires.runs c.in_err-first.ensures.none (omega arith))

pub returns-then-page-first : goal.returns-then-page-first
returns-then-page-first c =
    let before : c.in_ok-first.first < c.args.page + 1 = c.in_ok-first.ensures.some.before in
    let below = c.if-page-first.true in
    let within : in_run c.in_ok-first.first c.in_ok-first.blocks.count c.args.page ≡ true = grind (arith, nat_tests, before, below) in
    sym (mapped c.args.runs.now.entries c.args.page c.in_ok-first.first c.in_ok-first.blocks c.requires.runs c.in_ok-first.ensures.some.is within)

pub returns : goal.returns
returns c =
    let before : c.in_ok-first.first < c.args.page + 1 = c.in_ok-first.ensures.some.before in
    let past = c.if-page-first.false in
    let over : c.in_ok-first.first + c.in_ok-first.blocks.count ≤ c.args.page = omega (arith, before, past) in
    sym (behind_last c.args.runs.now.entries (c.args.page + 1) c.args.page (c.in_ok-first.first, c.in_ok-first.blocks) c.requires.runs c.in_ok-first.ensures.some (omega arith) over)
