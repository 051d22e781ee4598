use Rattle.std.proofs.Common.{◌≡◌, ◌-◌, ◌≤◌, ◌<◌, List, length, arith, sym, subst}
use Rattle.std.proofs.lemmas.List.{with_items_is}
use Rattle.std.specs.Vec.{with_items}
use Rattle.nv_super.specs.Layout.{system_blocks}
use Rattle.nv_alloc.specs.PoolValue.{PoolState}
use Rattle.nv_alloc.specs.FreeValue.{FreeLists}
use Rattle.nv_alloc.specs.FreeLists.{IsSound, IsFreeIn, Joins}
use Rattle.nv_alloc.specs.Whole.{view_of}
use Rattle.nv_alloc.proofs.Sound.{gave}
use Rattle.nv_alloc.proofs.allocators.Allocators.give.Goals as goal

pub join_all-requires-clause-blocks : goal.join_all-requires-clause-blocks
join_all-requires-clause-blocks c = λ b i. (let P : FreeLists → Type 0 = λ v. (system_blocks v.sup ≤ b) × (b < v.sup.blocks) in subst P (sym c.self.view_is) (c.requires.can_join.data b i))

pub join_all-requires-clause-used : goal.join_all-requires-clause-used
join_all-requires-clause-used c = λ d b i h.
    (let P : FreeLists → Type 0 = λ v. IsFreeIn v d b in let Q : List PoolState → Type 0 = λ x. IsFreeIn (view_of c.self.inside.sup x c.self.inside.room) d b in
    c.requires.can_join.used d b i (subst P c.self.view_is (subst Q c.as_mut_slice.ensures.value h)))

pub invariant_of-self : goal.invariant_of-self
invariant_of-self c =
    let len : length c.join_all.new.pools ≡ c.self.inside.pools.len = omega arith in
    (gave _ c.self.inside.pools.items c.self.inside.room _ c.join_all.new.pools _ c.args.run c.self.invariant (with_items_is c.self.inside.pools c.join_all.new.pools len) c.as_mut_slice.ensures.value (omega arith) c.join_all.ensures.joined).0

pub returns-then-not-is_empty-clause-joined : goal.returns-then-not-is_empty-clause-joined
returns-then-not-is_empty-clause-joined c =
    let len : length c.join_all.new.pools ≡ c.self.inside.pools.len = omega arith in
    let P : FreeLists → Type 0 = λ v. Joins v c.args.run (view_of c.self.inside.sup (with_items c.self.inside.pools c.join_all.new.pools).items (c.self.inside.room - 1)) in
    subst P c.self.view_is (gave _ c.self.inside.pools.items c.self.inside.room _ c.join_all.new.pools _ c.args.run c.self.invariant (with_items_is c.self.inside.pools c.join_all.new.pools len) c.as_mut_slice.ensures.value (omega arith) c.join_all.ensures.joined).1

pub returns-then-not-is_empty-clause-sound_before : goal.returns-then-not-is_empty-clause-sound_before
returns-then-not-is_empty-clause-sound_before c =
    let P : FreeLists → Type 0 = λ v. IsSound v in
    subst P c.self.view_is c.self.invariant.sound

pub returns-then-not-is_empty-clause-sound : goal.returns-then-not-is_empty-clause-sound
returns-then-not-is_empty-clause-sound c =
    let len : length c.join_all.new.pools ≡ c.self.inside.pools.len = omega arith in
    (gave _ c.self.inside.pools.items c.self.inside.room _ c.join_all.new.pools _ c.args.run c.self.invariant (with_items_is c.self.inside.pools c.join_all.new.pools len) c.as_mut_slice.ensures.value (omega arith) c.join_all.ensures.joined).0.sound
