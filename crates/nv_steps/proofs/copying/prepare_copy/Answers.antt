use Rattle.std.proofs.Common.{arith, refl}
use Rattle.std.proofs.lemmas.Result.{IfOk-from_err}
use Rattle.nv_steps.proofs.GivenPages.{first_taken}
use Rattle.nv_steps.proofs.copying.prepare_copy.Goals as goal

pub returns-clause-taken : goal.returns-clause-taken
returns-clause-taken c =
    first_taken c.reserve-else-is_err.ensures.same c.in_ok-blocks.ensures.taken.each (omega (arith, c.in_ok-blocks.ensures.taken.count_is)) c.remove-to.ensures.value c.remove-to.ensures.items

pub returns-in_err-blocks-clause-taken : goal.returns-in_err-blocks-clause-taken
returns-in_err-blocks-clause-taken c = IfOk-from_err c.from_residual.result _ c.from_residual.ensures.0

pub returns-then-free_blocks-count-clause-taken : goal.returns-then-free_blocks-count-clause-taken
returns-then-free_blocks-count-clause-taken c = tt

pub returns-then-is_err-clause-taken : goal.returns-then-is_err-clause-taken
returns-then-is_err-clause-taken c = tt

pub returns-in_err-blocks-clause-count : goal.returns-in_err-blocks-clause-count
returns-in_err-blocks-clause-count c = IfOk-from_err c.from_residual.result _ c.from_residual.ensures.0

pub returns-then-free_blocks-count-clause-count : goal.returns-then-free_blocks-count-clause-count
returns-then-free_blocks-count-clause-count c = tt

pub returns-then-is_err-clause-count : goal.returns-then-is_err-clause-count
returns-then-is_err-clause-count c = tt

pub returns-in_err-blocks-clause-room : goal.returns-in_err-blocks-clause-room
returns-in_err-blocks-clause-room c = IfOk-from_err c.from_residual.result _ c.from_residual.ensures.0

pub returns-then-free_blocks-count-clause-room : goal.returns-then-free_blocks-count-clause-room
returns-then-free_blocks-count-clause-room c = tt

pub returns-then-is_err-clause-room : goal.returns-then-is_err-clause-room
returns-then-is_err-clause-room c = tt

pub returns-in_err-blocks-clause-given_back : goal.returns-in_err-blocks-clause-given_back
returns-in_err-blocks-clause-given_back c = IfOk-from_err c.from_residual.result _ c.from_residual.ensures.0

pub returns-then-free_blocks-count-clause-given_back : goal.returns-then-free_blocks-count-clause-given_back
returns-then-free_blocks-count-clause-given_back c = tt

pub returns-then-is_err-clause-given_back : goal.returns-then-is_err-clause-given_back
returns-then-is_err-clause-given_back c = tt

pub returns-in_err-blocks-clause-enough : goal.returns-in_err-blocks-clause-enough
returns-in_err-blocks-clause-enough c = IfOk-from_err c.from_residual.result _ c.from_residual.ensures.0

pub returns-then-free_blocks-count-clause-enough : goal.returns-then-free_blocks-count-clause-enough
returns-then-free_blocks-count-clause-enough c = tt

pub returns-then-is_err-clause-enough : goal.returns-then-is_err-clause-enough
returns-then-is_err-clause-enough c = tt

pub returns-clause-err : goal.returns-clause-err
returns-clause-err c = tt

pub returns-clause-unchanged : goal.returns-clause-unchanged
returns-clause-unchanged c = tt

pub returns-then-free_blocks-count-clause-unchanged : goal.returns-then-free_blocks-count-clause-unchanged
returns-then-free_blocks-count-clause-unchanged c = record { sup = refl; pools = refl }

pub returns-then-free_blocks-count-clause-pages : goal.returns-then-free_blocks-count-clause-pages
returns-then-free_blocks-count-clause-pages c = refl
