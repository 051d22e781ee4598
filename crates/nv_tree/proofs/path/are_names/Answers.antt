use Rattle.std.proofs.Common.{◌≡◌, [], get_or, sym, subst}
use Rattle.std.proofs.lemmas.Bool.{both_ways}
use Rattle.nv_tree.specs.Path.{IsPathName, first_name}
use Rattle.nv_tree.proofs.Spelled.{step_more, step_rest, step_none, has_bytes, has_no_bytes}
use Rattle.nv_tree.proofs.path.are_names.Goals as goal
use Rattle.nv_tree.proofs.path.are_names.Goals.{then-rest-ne47-via-then-rest-ne47, then-rest-ne47-via-else-rest-ne47+then-not-is_path_name}

pub returns-then-rest-ne47-clause-none : goal.returns-then-rest-ne47-clause-none
returns-then-rest-ne47-clause-none c _ names s =
    let rest = c.loop-rest.rest.now in
    let left = c.loop-rest.invariant.1 names s in
    let some = has_bytes rest c.is_empty.result c.is_empty.ensures c.loop-rest-test.true in
    let bad : get_or rest 0 0 ≡ 47 → IsPathName (first_name rest) → ⊥ = λ slash good.
    elim c.then-rest-ne47.branch [
      | then-rest-ne47-via-then-rest-ne47 w ↦ w.if-rest-ne47.true slash
      | then-rest-ne47-via-else-rest-ne47+then-not-is_path_name w ↦ both_ways w.is_path_name.result w.if-not-is_path_name.true (w.is_path_name.ensures.1 (subst IsPathName (sym c.split_name.ensures.first) good))
    ] in
    step_none rest some bad left.0 left.1

pub loop-rest-preserved : goal.loop-rest-preserved
loop-rest-preserved c =
    let rest = c.loop-rest.rest.now in
    let others = c.split_name.result.1.now in
    let some = has_bytes rest c.is_empty.result c.is_empty.ensures c.loop-rest-test.true in
    let good = subst IsPathName c.split_name.ensures.first (c.is_path_name.ensures.0 c.if-not-is_path_name.false) in (
      λ names s. let more = step_more rest others some c.if-rest-ne47.false good c.split_name.ensures.others names s in c.loop-rest.invariant.0 more.0 more.1,
      λ all s. let left = c.loop-rest.invariant.1 all s in step_rest rest others some c.split_name.ensures.others left.0 left.1,
    )

pub returns-clause-some : goal.returns-clause-some
returns-clause-some c _ = c.loop-rest.invariant.0 [] (has_no_bytes c.loop-rest.rest.now c.is_empty.result c.is_empty.ensures c.loop-rest-test.false)
