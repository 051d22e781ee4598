use Rattle.std.proofs.Common.{◌+◌, ◌≤◌, ◌∙◌, [], ◌∷◌, ◌++◌, ap, arith, vec_capacity}
use Rattle.nv_numbered.proofs.LeavedLemmas.{IsLeaved-spare, room_spare, spares_low}
use Rattle.nv_numbered.proofs.leaves.Leaves.add_spare.Goals as goal

pub invariant_of-self-2 : goal.invariant_of-self-2
invariant_of-self-2 c =
    let t = c.self.inside in
    let items = c.push_reserved.ensures.items ∙ ap (λ xs. xs ++ c.in_ok-vec.field-0 ∷ []) c.reserve.ensures.items in
    let roomy : t.total + 1 ≤ vec_capacity c.push_reserved.new.self = omega (arith, c.push_reserved.ensures.capacity, c.in_ok-reserve.ensures.ok, c.len.ensures, t.spares.ok.0, spares_low t.leaves.items t.used.items t.spares t.total t.count t.len c.self.invariant) in
    IsLeaved-spare t.leaves.items t.used.items t.spares t.total t.count t.len c.self.invariant c.push_reserved.new.self c.in_ok-vec.field-0 (c.in_ok-vec.ensures.items_if_clones_equal (λ y same. same)) items roomy

pub returns-clause-ok : goal.returns-clause-ok
returns-clause-ok c =
    let t = c.self.inside in
    rw (← c.self.view_is) (room_spare t.leaves.items t.used.items t.spares t.total t.count t.len c.self.invariant (rw (← c.self.view_is) at c.requires))
