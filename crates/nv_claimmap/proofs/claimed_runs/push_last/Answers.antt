use Rattle.std.proofs.Common.{◌≡◌, ◌+◌, ◌-◌, length, arith}
use Rattle.std.proofs.lemmas.Result.{err_from_is_err_and}
use Rattle.nv_claimmap.proofs.RunLists.{lists_pairs-push, lists_pairs-same}
use Rattle.nv_claimmap.proofs.claimed_runs.push_last.Goals as goal

pub returns-in_err-push-clause-err : goal.returns-in_err-push-clause-err
returns-in_err-push-clause-err c =
    let lists = c.args.lists.now in
    let last : c.len-last.result - 1 + 1 ≡ length lists.items = omega (arith, lists.ok.0) in
    let w = err_from_is_err_and c.from_residual.result c.from_residual.ensures.1 in
    rw w.1 (lists_pairs-same lists.items (c.len-last.result - 1) c.index_mut.result.now c.push.new.self last c.index_mut.ensures.value c.in_err-push.ensures.items)

pub returns-clause-ok : goal.returns-clause-ok
returns-clause-ok c =
    let lists = c.args.lists.now in
    let last : c.len-last.result - 1 + 1 ≡ length lists.items = omega (arith, lists.ok.0) in
    lists_pairs-push lists.items (c.len-last.result - 1) c.index_mut.result.now c.push.new.self c.args.run last c.index_mut.ensures.value c.in_ok-push.ensures.items
