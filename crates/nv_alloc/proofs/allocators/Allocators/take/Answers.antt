use Rattle.std.proofs.Common.{◌≡◌, IfOk, length, arith, ap, subst}
use Rattle.std.proofs.lemmas.List.{with_items_is}
use Rattle.std.specs.Vec.{with_items}
use Rattle.nv_alloc.specs.FreeValue.{FreeLists}
use Rattle.nv_alloc.specs.FreeLists.{IsSound, Leave}
use Rattle.nv_alloc.specs.Whole.{view_of}
use Rattle.nv_alloc.proofs.Sound.{took}
use Rattle.nv_alloc.proofs.allocators.Allocators.take.Goals as goal

pub invariant_of-self : goal.invariant_of-self
invariant_of-self c =
    let len : length c.take_from.new.pools ≡ c.self.inside.pools.len = omega arith in
    let cpus = ap (λ (v : FreeLists). v.sup.cpus) c.self.view_is in
    (took _ c.self.inside.pools.items c.self.inside.room _ c.take_from.new.pools _ c.args.cpu c.args.n c.take_from.result c.self.invariant (with_items_is c.self.inside.pools c.take_from.new.pools len) c.as_mut_slice.ensures.value (omega (arith, cpus))
    c.take_from.ensures.bounds c.take_from.ensures.ok c.take_from.ensures.err).0

pub returns-clause-leave : goal.returns-clause-leave
returns-clause-leave c =
    let len : length c.take_from.new.pools ≡ c.self.inside.pools.len = omega arith in
    let cpus = ap (λ (v : FreeLists). v.sup.cpus) c.self.view_is in
    let P : FreeLists → Type 0 = λ v. IfOk c.take_from.result (λ runs. Leave v c.args.n runs.items (view_of c.self.inside.sup (with_items c.self.inside.pools c.take_from.new.pools).items c.self.inside.room)) in
    subst P c.self.view_is (took _ c.self.inside.pools.items c.self.inside.room _ c.take_from.new.pools _ c.args.cpu c.args.n c.take_from.result c.self.invariant (with_items_is c.self.inside.pools c.take_from.new.pools len) c.as_mut_slice.ensures.value (omega (arith, cpus))
    c.take_from.ensures.bounds c.take_from.ensures.ok c.take_from.ensures.err).1

pub returns-clause-sound_before : goal.returns-clause-sound_before
returns-clause-sound_before c =
    let P : FreeLists → Type 0 = λ v. IsSound v in
    subst P c.self.view_is c.self.invariant.sound

pub returns-clause-sound : goal.returns-clause-sound
returns-clause-sound c =
    let len : length c.take_from.new.pools ≡ c.self.inside.pools.len = omega arith in
    let cpus = ap (λ (v : FreeLists). v.sup.cpus) c.self.view_is in
    (took _ c.self.inside.pools.items c.self.inside.room _ c.take_from.new.pools _ c.args.cpu c.args.n c.take_from.result c.self.invariant (with_items_is c.self.inside.pools c.take_from.new.pools len) c.as_mut_slice.ensures.value (omega (arith, cpus))
    c.take_from.ensures.bounds c.take_from.ensures.ok c.take_from.ensures.err).0.sound
