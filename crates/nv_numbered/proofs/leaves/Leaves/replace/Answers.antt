use Rattle.std.proofs.Common.{◌<◌, refl, arith}
use Rattle.nv_numbered.specs.Leaved.{leaves_of}
use Rattle.nv_numbered.proofs.WordLemmas.{length-words_of}
use Rattle.nv_numbered.proofs.LeavedLemmas.{leaf_inside, leaf_long, write_words, IsLeaved-replace}
use Rattle.nv_numbered.proofs.leaves.Leaves.replace.Goals as goal

pub index_mut-words-requires : goal.index_mut-words-requires
index_mut-words-requires c =
    let t = c.self.inside in
    let within : c.args.place < t.len = omega (arith, rw (← c.self.view_is) at c.requires.within, length-words_of (leaves_of t.leaves.items) t.len) in
    omega (arith, leaf_inside t.leaves.items t.used.items t.spares t.total t.count t.len c.self.invariant c.args.place within, t.leaves.ok.0)

pub index_mut-requires : goal.index_mut-requires
index_mut-requires c =
    let t = c.self.inside in
    let within : c.args.place < t.len = omega (arith, rw (← c.self.view_is) at c.requires.within, length-words_of (leaves_of t.leaves.items) t.len) in
    let words = c.index_mut-words.result.now in
    omega (arith, leaf_long t.leaves.items t.used.items t.spares t.total t.count t.len c.self.invariant c.args.place within words c.index_mut-words.ensures.value (rw (← c.self.view_is) at c.requires.taken), words.ok.0)

pub invariant_of-self : goal.invariant_of-self
invariant_of-self c =
    let t = c.self.inside in
    let within : c.args.place < t.len = omega (arith, rw (← c.self.view_is) at c.requires.within, length-words_of (leaves_of t.leaves.items) t.len) in
    IsLeaved-replace t.leaves.items t.used.items t.spares t.total t.count t.len c.self.invariant c.args.place within c.index_mut-words.result.now c.index_mut-words.ensures.value (rw (← c.self.view_is) at c.requires.taken) _ c.args.word refl c.requires.some

pub returns-clause-items : goal.returns-clause-items
returns-clause-items c =
    let t = c.self.inside in
    let within : c.args.place < t.len = omega (arith, rw (← c.self.view_is) at c.requires.within, length-words_of (leaves_of t.leaves.items) t.len) in
    rw (← c.self.view_is) (write_words t.leaves.items t.used.items t.spares t.total t.count t.len c.self.invariant c.args.place within c.index_mut-words.result.now c.index_mut-words.ensures.value (rw (← c.self.view_is) at c.requires.taken) _ c.args.word refl)
