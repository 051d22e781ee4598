use Rattle.std.proofs.Common.{◌≡◌, ◌+◌, ◌≤◌, ◌++◌, ◌∷◌, [], ◌∙◌, List, ℕ, ap, arith, vec_capacity}
use Rattle.nv_numbered.specs.Leaved.{leaves_of}
use Rattle.nv_numbered.proofs.LeavedLemmas.{spares_low}
use Rattle.nv_numbered.proofs.LongerLemmas.{IsLeaved-leaf, IsLeaved-longer, leaf_room, leaf_within, leaf_words, longer_words, words_enough}
use Rattle.nv_numbered.proofs.leaves.Leaves.lengthen.Goals as goal

pub returns-then-len-self-clause-ok : goal.returns-then-len-self-clause-ok
returns-then-len-self-clause-ok c =
    let t = c.self.inside in
    rw (← c.self.view_is) (words_enough (leaves_of t.leaves.items) t.len c.args.len (omega (arith, c.if-len-self.true)))

pub invariant_of-self : goal.invariant_of-self
invariant_of-self c =
    let t = c.self.inside in
    IsLeaved-longer t.leaves.items t.used.items t.spares t.total t.count t.len c.self.invariant c.args.len (omega (arith, c.if-len-self.false)) (omega (arith, c.if-len.true, c.len.ensures, t.leaves.ok.0))

pub returns-then-len-clause-ok : goal.returns-then-len-clause-ok
returns-then-len-clause-ok c =
    let t = c.self.inside in
    rw (← c.self.view_is) (longer_words t.leaves.items t.used.items t.spares t.total t.count t.len c.self.invariant c.args.len (omega (arith, c.if-len-self.false)))

pub invariant_of-self-2 : goal.invariant_of-self-2
invariant_of-self-2 c =
    let t = c.self.inside in
    let leaves : c.push_reserved-2.new.self.items ≡ t.leaves.items ++ c.new.result ∷ [] = c.push_reserved-2.ensures.items ∙ ap (λ xs. xs ++ c.new.result ∷ []) c.reserve.ensures.items in
    let used : c.push_reserved-3.new.self.items ≡ t.used.items ++ 0 ∷ [] = c.push_reserved-3.ensures.items ∙ ap (λ (xs : List ℕ). xs ++ 0 ∷ []) c.reserve-2.ensures.items in
    let spares = c.push_reserved.ensures.items ∙ ap (λ xs. xs ++ c.in_ok-vec.field-0 ∷ []) c.reserve-3.ensures.items in
    let roomy : t.total + 1 ≤ vec_capacity c.push_reserved.new.self = omega (arith, c.push_reserved.ensures.capacity, c.in_ok-reserve-3.ensures.ok, c.len-2.ensures, t.spares.ok.0, spares_low t.leaves.items t.used.items t.spares t.total t.count t.len c.self.invariant) in
    let few = rw (← c.self.view_is) at c.requires.few in
    rw (leaves, used)
    (IsLeaved-leaf t.leaves.items t.used.items t.spares t.total t.count t.len c.self.invariant c.args.len (omega (arith, c.if-len-self.false)) c.new.result c.new.ensures.items c.in_ok-vec.field-0 c.push_reserved.new.self (c.in_ok-vec.ensures.items_if_clones_equal (λ y same. same)) spares roomy
    (omega (arith, c.if-len.false, c.len.ensures, t.leaves.ok.0)) (leaf_within t.leaves.items t.used.items t.spares t.total t.count t.len c.self.invariant c.args.len (omega (arith, c.if-len-self.false)) few) c.requires.small)

pub returns-clause-ok : goal.returns-clause-ok
returns-clause-ok c =
    let t = c.self.inside in
    let leaves : c.push_reserved-2.new.self.items ≡ t.leaves.items ++ c.new.result ∷ [] = c.push_reserved-2.ensures.items ∙ ap (λ xs. xs ++ c.new.result ∷ []) c.reserve.ensures.items in
    rw (leaves, ← c.self.view_is) (leaf_words t.leaves.items t.used.items t.spares t.total t.count t.len c.self.invariant c.args.len (omega (arith, c.if-len-self.false)) c.new.result c.new.ensures.items)

pub returns-clause-room : goal.returns-clause-room
returns-clause-room c =
    let t = c.self.inside in
    let leaves : c.push_reserved-2.new.self.items ≡ t.leaves.items ++ c.new.result ∷ [] = c.push_reserved-2.ensures.items ∙ ap (λ xs. xs ++ c.new.result ∷ []) c.reserve.ensures.items in
    rw (leaves, ← c.self.view_is) (leaf_room t.leaves.items t.used.items t.spares t.total t.count t.len c.self.invariant c.args.len (omega (arith, c.if-len-self.false)) c.new.result c.new.ensures.items)
