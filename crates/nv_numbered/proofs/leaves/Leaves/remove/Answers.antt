use Rattle.std.proofs.Common.{◌<◌, ◌-◌, ◌%◌, ℕ, refl, ap, arith}
use Rattle.nv_numbered.specs.Leaved.{leaves_of}
use Rattle.nv_numbered.proofs.WordLemmas.{length-words_of}
use Rattle.nv_numbered.proofs.LeavedLemmas.{leaf_inside, leaf_long, leaf_made, used_inside, used_read, some_counted, room_for_spare, room_removed, write_words, bare_words, IsLeaved-less, IsLeaved-last}
use Rattle.std.specs.Vec.{with_item}
use Rattle.nv_numbered.proofs.leaves.Leaves.remove.Goals as goal

pub index_mut-words-requires : goal.index_mut-words-requires
index_mut-words-requires c =
    let t = c.self.inside in
    let within : c.args.place < t.len = omega (arith, rw (← c.self.view_is) at c.requires.within, length-words_of (leaves_of t.leaves.items) t.len) in
    omega (arith, leaf_inside t.leaves.items t.used.items t.spares t.total t.count t.len c.self.invariant c.args.place within, t.leaves.ok.0)

pub index_mut-requires : goal.index_mut-requires
index_mut-requires c =
    let t = c.self.inside in
    let within : c.args.place < t.len = omega (arith, rw (← c.self.view_is) at c.requires.within, length-words_of (leaves_of t.leaves.items) t.len) in
    omega (arith, leaf_long t.leaves.items t.used.items t.spares t.total t.count t.len c.self.invariant c.args.place within c.index_mut-words.result.now c.index_mut-words.ensures.value (rw (← c.self.view_is) at c.requires.taken), c.index_mut-words.result.now.ok.0)

pub index-requires : goal.index-requires
index-requires c =
    let t = c.self.inside in
    let within : c.args.place < t.len = omega (arith, rw (← c.self.view_is) at c.requires.within, length-words_of (leaves_of t.leaves.items) t.len) in
    omega (arith, used_inside t.leaves.items t.used.items t.spares t.total t.count t.len c.self.invariant c.args.place within, t.used.ok.0)

pub overflow_sub-others : goal.overflow_sub-others
overflow_sub-others c =
    let t = c.self.inside in
    let within : c.args.place < t.len = omega (arith, rw (← c.self.view_is) at c.requires.within, length-words_of (leaves_of t.leaves.items) t.len) in
    omega (arith, leaf_made t.leaves.items t.used.items t.spares t.total t.count t.len c.self.invariant c.args.place within c.index_mut-words.result.now c.index_mut-words.ensures.value (rw (← c.self.view_is) at c.requires.taken), used_read t.leaves.items t.used.items t.spares t.total t.count t.len c.self.invariant c.args.place within c.index.result.now c.index.ensures)

pub index_mut-requires-2 : goal.index_mut-requires-2
index_mut-requires-2 c =
    let t = c.self.inside in
    let within : c.args.place < t.len = omega (arith, rw (← c.self.view_is) at c.requires.within, length-words_of (leaves_of t.leaves.items) t.len) in
    omega (arith, used_inside t.leaves.items t.used.items t.spares t.total t.count t.len c.self.invariant c.args.place within, t.used.ok.0)

pub overflow_sub-self : goal.overflow_sub-self
overflow_sub-self c =
    let t = c.self.inside in
    let within : c.args.place < t.len = omega (arith, rw (← c.self.view_is) at c.requires.within, length-words_of (leaves_of t.leaves.items) t.len) in
    omega (arith, some_counted t.leaves.items t.used.items t.spares t.total t.count t.len c.self.invariant c.args.place within c.index_mut-words.result.now c.index_mut-words.ensures.value (rw (← c.self.view_is) at c.requires.taken))

pub give_back-requires : goal.give_back-requires
give_back-requires c =
    let t = c.self.inside in
    let within : c.args.place < t.len = omega (arith, rw (← c.self.view_is) at c.requires.within, length-words_of (leaves_of t.leaves.items) t.len) in
    omega (arith, room_for_spare t.leaves.items t.used.items t.spares t.total t.count t.len c.self.invariant c.args.place within c.index_mut-words.result.now c.index_mut-words.ensures.value (rw (← c.self.view_is) at c.requires.taken), t.spares.ok.0)

pub invariant_of-self : goal.invariant_of-self
invariant_of-self c =
    let t = c.self.inside in
    let within : c.args.place < t.len = omega (arith, rw (← c.self.view_is) at c.requires.within, length-words_of (leaves_of t.leaves.items) t.len) in
    IsLeaved-last t.leaves.items t.used.items t.spares t.total t.count t.len c.self.invariant c.args.place within c.index_mut-words.result.now c.index_mut-words.ensures.value (rw (← c.self.view_is) at c.requires.taken) _ c.give_back.new.leaf c.give_back.new.spares (c.index.result.now - 1) refl c.give_back.ensures.leaf c.give_back.ensures.spares c.give_back.ensures.capacity (ap (λ (n : ℕ). n - 1) (used_read t.leaves.items t.used.items t.spares t.total t.count t.len c.self.invariant c.args.place within c.index.result.now c.index.ensures)) c.if-others-eq0.true

pub invariant_of-self-else-others-eq0 : goal.invariant_of-self-else-others-eq0
invariant_of-self-else-others-eq0 c =
    let t = c.self.inside in
    let within : c.args.place < t.len = omega (arith, rw (← c.self.view_is) at c.requires.within, length-words_of (leaves_of t.leaves.items) t.len) in
    IsLeaved-less t.leaves.items t.used.items t.spares t.total t.count t.len c.self.invariant c.args.place within c.index_mut-words.result.now c.index_mut-words.ensures.value (rw (← c.self.view_is) at c.requires.taken) _ (c.index.result.now - 1) refl (ap (λ (n : ℕ). n - 1) (used_read t.leaves.items t.used.items t.spares t.total t.count t.len c.self.invariant c.args.place within c.index.result.now c.index.ensures)) c.if-others-eq0.false

pub returns-then-others-eq0-clause-items : goal.returns-then-others-eq0-clause-items
returns-then-others-eq0-clause-items c =
    let t = c.self.inside in
    let within : c.args.place < t.len = omega (arith, rw (← c.self.view_is) at c.requires.within, length-words_of (leaves_of t.leaves.items) t.len) in
    rw (← c.self.view_is) (bare_words t.leaves.items t.used.items t.spares t.total t.count t.len c.self.invariant c.args.place within c.index_mut-words.result.now c.index_mut-words.ensures.value (rw (← c.self.view_is) at c.requires.taken) (with_item c.index_mut-words.result.now (c.args.place % 4096) 0) c.give_back.new.leaf (c.index.result.now - 1) refl c.give_back.ensures.leaf (ap (λ (n : ℕ). n - 1) (used_read t.leaves.items t.used.items t.spares t.total t.count t.len c.self.invariant c.args.place within c.index.result.now c.index.ensures)) c.if-others-eq0.true)

pub returns-then-others-eq0-clause-room : goal.returns-then-others-eq0-clause-room
returns-then-others-eq0-clause-room c =
    let t = c.self.inside in
    let within : c.args.place < t.len = omega (arith, rw (← c.self.view_is) at c.requires.within, length-words_of (leaves_of t.leaves.items) t.len) in
    rw (← c.self.view_is) (room_removed t.leaves.items t.used.items t.spares t.total t.count t.len c.self.invariant c.args.place within c.index_mut-words.result.now c.index_mut-words.ensures.value (rw (← c.self.view_is) at c.requires.taken) _)

pub returns-else-others-eq0-clause-items : goal.returns-else-others-eq0-clause-items
returns-else-others-eq0-clause-items c =
    let t = c.self.inside in
    let within : c.args.place < t.len = omega (arith, rw (← c.self.view_is) at c.requires.within, length-words_of (leaves_of t.leaves.items) t.len) in
    rw (← c.self.view_is) (write_words t.leaves.items t.used.items t.spares t.total t.count t.len c.self.invariant c.args.place within c.index_mut-words.result.now c.index_mut-words.ensures.value (rw (← c.self.view_is) at c.requires.taken) _ 0 refl)

pub returns-else-others-eq0-clause-room : goal.returns-else-others-eq0-clause-room
returns-else-others-eq0-clause-room c =
    let t = c.self.inside in
    let within : c.args.place < t.len = omega (arith, rw (← c.self.view_is) at c.requires.within, length-words_of (leaves_of t.leaves.items) t.len) in
    rw (← c.self.view_is) (room_removed t.leaves.items t.used.items t.spares t.total t.count t.len c.self.invariant c.args.place within c.index_mut-words.result.now c.index_mut-words.ensures.value (rw (← c.self.view_is) at c.requires.taken) _)
