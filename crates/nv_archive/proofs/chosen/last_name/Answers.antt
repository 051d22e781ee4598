use Rattle.std.proofs.Common.{refl, sym, ◌∙◌}
use Rattle.nv_tree.proofs.Spelled.{has_bytes}
use Rattle.nv_paths.proofs.Walks.{cut, no_names, some_names, same_last}
use Rattle.nv_archive.proofs.chosen.last_name.Goals as goal

pub returns-then-is_empty : goal.returns-then-is_empty
returns-then-is_empty c names s =
    let left = c.loop-others.invariant.1 names s in
    let parts = cut c.loop-others.rest.now c.split_name.result.0.now c.split_name.result.1.now left.0 c.loop-others.invariant.0 c.split_name.ensures.names left.1 in
    let none = no_names c.split_name.result.1.now c.is_empty.result c.is_empty.ensures c.if-is_empty.true parts.names parts.rest in
    sym (left.2 ∙ rw parts.is (rw none refl))

pub loop-others-preserved : goal.loop-others-preserved
loop-others-preserved c =
    let some = has_bytes c.split_name.result.1.now c.is_empty.result c.is_empty.ensures c.if-is_empty.false in (
      some,
      λ names s.
          let left = c.loop-others.invariant.1 names s in
          let parts = cut c.loop-others.rest.now c.split_name.result.0.now c.split_name.result.1.now left.0 c.loop-others.invariant.0 c.split_name.ensures.names left.1 in
          let more = some_names c.split_name.result.1.now parts.names some parts.rest in (
            parts.names,
            parts.rest,
            left.2 ∙ same_last left.0 c.split_name.result.0.now parts.names more.0 more.1 parts.is more.2,
          ),
    )

pub loop-others-init : goal.loop-others-init
loop-others-init c = (c.requires, λ names s. (names, s, refl))
