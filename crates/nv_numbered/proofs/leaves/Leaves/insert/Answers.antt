use Rattle.std.proofs.Common.{◌<◌, ◌+◌, ℕ, refl, ap, arith}
use Rattle.nv_numbered.specs.Leaved.{leaves_of}
use Rattle.nv_numbered.proofs.WordLemmas.{length-words_of}
use Rattle.nv_numbered.proofs.LeavedLemmas.{count_few, leaf_inside, used_inside, used_few, used_read, spare_for, room_inserted, made_long, insert_words, IsLeaved-insert}
use Rattle.nv_numbered.proofs.leaves.Leaves.insert.Goals as goal

pub index_mut-words-requires : goal.index_mut-words-requires
index_mut-words-requires c =
    let t = c.self.inside in
    let within : c.args.place < t.len = omega (arith, rw (← c.self.view_is) at c.requires.within, length-words_of (leaves_of t.leaves.items) t.len) in
    omega (arith, leaf_inside t.leaves.items t.used.items t.spares t.total t.count t.len c.self.invariant c.args.place within, t.leaves.ok.0)

pub make_leaf-requires : goal.make_leaf-requires
make_leaf-requires c =
    let t = c.self.inside in
    let within : c.args.place < t.len = omega (arith, rw (← c.self.view_is) at c.requires.within, length-words_of (leaves_of t.leaves.items) t.len) in
    λ none. omega (arith, spare_for t.leaves.items t.used.items t.spares t.total t.count t.len c.self.invariant c.args.place within c.index_mut-words.result.now c.index_mut-words.ensures.value (rw (← c.self.view_is) at c.requires.vacant) (rw (← c.self.view_is) at c.requires.room) none, t.spares.ok.0)

pub index_mut-requires : goal.index_mut-requires
index_mut-requires c =
    let t = c.self.inside in
    let within : c.args.place < t.len = omega (arith, rw (← c.self.view_is) at c.requires.within, length-words_of (leaves_of t.leaves.items) t.len) in
    omega (arith, made_long t.leaves.items t.used.items t.spares t.total t.count t.len c.self.invariant c.args.place within c.index_mut-words.result.now c.index_mut-words.ensures.value (rw (← c.self.view_is) at c.requires.vacant) (rw (← c.self.view_is) at c.requires.room) c.make_leaf.new.leaf c.make_leaf.new.spares c.make_leaf.ensures.bare c.make_leaf.ensures.made c.make_leaf.ensures.capacity, c.make_leaf.new.leaf.ok.0)

pub index_mut-requires-2 : goal.index_mut-requires-2
index_mut-requires-2 c =
    let t = c.self.inside in
    let within : c.args.place < t.len = omega (arith, rw (← c.self.view_is) at c.requires.within, length-words_of (leaves_of t.leaves.items) t.len) in
    omega (arith, used_inside t.leaves.items t.used.items t.spares t.total t.count t.len c.self.invariant c.args.place within, t.used.ok.0)

pub overflow_add-index_mut : goal.overflow_add-index_mut
overflow_add-index_mut c =
    let t = c.self.inside in
    let within : c.args.place < t.len = omega (arith, rw (← c.self.view_is) at c.requires.within, length-words_of (leaves_of t.leaves.items) t.len) in
    omega (arith, used_few t.leaves.items t.used.items t.spares t.total t.count t.len c.self.invariant c.args.place within c.index_mut-2.result.now c.index_mut-2.ensures.value)

pub overflow_add-self : goal.overflow_add-self
overflow_add-self c =
    let t = c.self.inside in
    let within : c.args.place < t.len = omega (arith, rw (← c.self.view_is) at c.requires.within, length-words_of (leaves_of t.leaves.items) t.len) in
    omega (arith, count_few t.leaves.items t.used.items t.spares t.total t.count t.len c.self.invariant)

pub invariant_of-self : goal.invariant_of-self
invariant_of-self c =
    let t = c.self.inside in
    let within : c.args.place < t.len = omega (arith, rw (← c.self.view_is) at c.requires.within, length-words_of (leaves_of t.leaves.items) t.len) in
    IsLeaved-insert t.leaves.items t.used.items t.spares t.total t.count t.len c.self.invariant c.args.place within c.index_mut-words.result.now c.index_mut-words.ensures.value (rw (← c.self.view_is) at c.requires.vacant) (rw (← c.self.view_is) at c.requires.room) c.make_leaf.new.leaf c.make_leaf.new.spares c.make_leaf.ensures.bare c.make_leaf.ensures.made c.make_leaf.ensures.capacity _ c.args.word (c.index_mut-2.result.now + 1) refl c.requires.some (ap (λ (n : ℕ). n + 1) (used_read t.leaves.items t.used.items t.spares t.total t.count t.len c.self.invariant c.args.place within c.index_mut-2.result.now c.index_mut-2.ensures.value))

pub returns-clause-items : goal.returns-clause-items
returns-clause-items c =
    let t = c.self.inside in
    let within : c.args.place < t.len = omega (arith, rw (← c.self.view_is) at c.requires.within, length-words_of (leaves_of t.leaves.items) t.len) in
    rw (← c.self.view_is) (insert_words t.leaves.items t.used.items t.spares t.total t.count t.len c.self.invariant c.args.place within c.index_mut-words.result.now c.index_mut-words.ensures.value (rw (← c.self.view_is) at c.requires.vacant) (rw (← c.self.view_is) at c.requires.room) c.make_leaf.new.leaf c.make_leaf.new.spares c.make_leaf.ensures.bare c.make_leaf.ensures.made c.make_leaf.ensures.capacity _ c.args.word refl)

pub returns-clause-room : goal.returns-clause-room
returns-clause-room c =
    let t = c.self.inside in
    let within : c.args.place < t.len = omega (arith, rw (← c.self.view_is) at c.requires.within, length-words_of (leaves_of t.leaves.items) t.len) in
    rw (← c.self.view_is) (room_inserted t.leaves.items t.used.items t.spares t.total t.count t.len c.self.invariant c.args.place within _ (rw (← c.self.view_is) at c.requires.room))
