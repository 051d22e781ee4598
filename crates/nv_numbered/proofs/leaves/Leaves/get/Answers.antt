use Rattle.std.proofs.Common.{◌<◌, ◌%◌, ◌∙◌, sym, arith}
use Rattle.std.proofs.lemmas.List.{get_or_past}
use Rattle.nv_numbered.specs.Leaved.{leaves_of}
use Rattle.nv_numbered.proofs.WordLemmas.{word_past}
use Rattle.nv_numbered.proofs.LeavedLemmas.{word_is}
use Rattle.nv_numbered.proofs.leaves.Leaves.get.Goals as goal

pub returns-then-place-self : goal.returns-then-place-self
returns-then-place-self c =
    let t = c.self.inside in
    rw (← c.self.view_is) (sym (word_past (leaves_of t.leaves.items) t.len c.args.place c.if-place-self.true))

pub returns-in-Some : goal.returns-in-Some
returns-in-Some c =
    let t = c.self.inside in
    let within : c.args.place < t.len = omega (arith, c.if-place-self.false) in
    let read = word_is t.leaves.items t.used.items t.spares t.total t.count t.len c.self.invariant c.args.place within c.index-leaf.result.now c.index-leaf.ensures in
    let word = rw c.deref.ensures.value at c.in-Some.ensures.lookup.3 in
    rw (← c.self.view_is) (sym (read ∙ sym (word.1 0)))

pub returns-in-None : goal.returns-in-None
returns-in-None c =
    let t = c.self.inside in
    let within : c.args.place < t.len = omega (arith, c.if-place-self.false) in
    let read = word_is t.leaves.items t.used.items t.spares t.total t.count t.len c.self.invariant c.args.place within c.index-leaf.result.now c.index-leaf.ensures in
    rw (← c.self.view_is) (sym (read ∙ get_or_past c.index-leaf.result.now.items (c.args.place % 4096) 0 (rw c.deref.ensures.value at c.in-None.ensures.lookup.3)))
