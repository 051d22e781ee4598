use Rattle.std.proofs.Common.{◌∙◌, ◌<◌, sym, arith, inl, inr}
use Rattle.std.proofs.lemmas.Bool.{cases_lt}
use Rattle.nv_numbered.specs.Leaved.{leaves_of}
use Rattle.nv_numbered.proofs.WordLemmas.{length-words_of}
use Rattle.nv_numbered.proofs.LeavedLemmas.{leaf_short, leaf_zeros, word_found, words_passed}
use Rattle.nv_numbered.proofs.leaves.Leaves.next_used.Goals as goal

pub returns-then-found-self-clause-some : goal.returns-then-found-self-clause-some
returns-then-found-self-clause-some c =
    let t = c.self.inside in
    let at = c.in-Some.ensures.some in
    let there = rw c.deref.ensures.value at at.1 in
    let some = rw c.deref.ensures.value at at.2 in
    let long = length-words_of (leaves_of t.leaves.items) t.len in
    rw (← c.self.view_is) (
      omega (arith, c.loop-place.invariant.0, at.0),
      omega (arith, c.if-found-self.true, long),
      λ none. some (sym (word_found t.leaves.items t.used.items t.spares t.total t.count t.len c.self.invariant c.loop-place.place c.loop-place-test.true c.index-leaf.result.now c.index-leaf.ensures c.in-Some.offset there c.if-found-self.true) ∙ none),
    )

pub returns-then-found-self-clause-none_before : goal.returns-then-found-self-clause-none_before
returns-then-found-self-clause-none_before c k from to =
    let t = c.self.inside in
    let there = rw c.deref.ensures.value at c.in-Some.ensures.some.1 in
    let short = leaf_short t.leaves.items t.used.items t.spares t.total t.count t.len c.self.invariant c.loop-place.place c.loop-place-test.true c.index-leaf.result.now c.index-leaf.ensures in
    let zeros = rw c.deref.ensures.value at c.in-Some.ensures.none_before in
    elim (cases_lt k c.loop-place.place) [
      | inl early ↦ c.loop-place.invariant.1 k from early
      | inr behind ↦ rw (← c.self.view_is) (words_passed t.leaves.items t.used.items t.spares t.total t.count t.len c.self.invariant c.loop-place.place c.loop-place-test.true c.index-leaf.result.now c.index-leaf.ensures c.in-Some.offset (omega (arith, there, short)) zeros k behind to)
    ]

pub returns-else-found-self-clause-none_before : goal.returns-else-found-self-clause-none_before
returns-else-found-self-clause-none_before c k from to =
    let t = c.self.inside in
    let there = rw c.deref.ensures.value at c.in-Some.ensures.some.1 in
    let short = leaf_short t.leaves.items t.used.items t.spares t.total t.count t.len c.self.invariant c.loop-place.place c.loop-place-test.true c.index-leaf.result.now c.index-leaf.ensures in
    let zeros = rw c.deref.ensures.value at c.in-Some.ensures.none_before in
    let low : k < t.len = omega (arith, rw (← c.self.view_is) at to, length-words_of (leaves_of t.leaves.items) t.len) in
    elim (cases_lt k c.loop-place.place) [
      | inl early ↦ c.loop-place.invariant.1 k from early
      | inr behind ↦ rw (← c.self.view_is) (words_passed t.leaves.items t.used.items t.spares t.total t.count t.len c.self.invariant c.loop-place.place c.loop-place-test.true c.index-leaf.result.now c.index-leaf.ensures c.in-Some.offset (omega (arith, there, short)) zeros k behind (omega (arith, low, c.if-found-self.false)))
    ]

pub loop-place-preserved : goal.loop-place-preserved
loop-place-preserved c =
    let t = c.self.inside in
    let zeros = rw c.deref.ensures.value at c.in_default.ensures.none_before in (
      omega (arith, c.loop-place.invariant.0),
      λ k from to. elim (cases_lt k c.loop-place.place) [
        | inl early ↦ c.loop-place.invariant.1 k from early
        | inr behind ↦ rw (← c.self.view_is) (words_passed t.leaves.items t.used.items t.spares t.total t.count t.len c.self.invariant c.loop-place.place c.loop-place-test.true c.index-leaf.result.now c.index-leaf.ensures 4096 (omega arith) (leaf_zeros t.leaves.items t.used.items t.spares t.total t.count t.len c.self.invariant c.loop-place.place c.loop-place-test.true c.index-leaf.result.now c.index-leaf.ensures zeros) k behind to)
      ],
    )

pub returns-clause-none_before : goal.returns-clause-none_before
returns-clause-none_before c k from to =
    let t = c.self.inside in
    let low : k < t.len = omega (arith, rw (← c.self.view_is) at to, length-words_of (leaves_of t.leaves.items) t.len) in
    c.loop-place.invariant.1 k from (omega (arith, low, c.loop-place-test.false))
