use Rattle.std.proofs.Common.{◌≡◌, ◌+◌, ◌∙◌, ℕ, ap, set, sym, get_or, arith}
use Rattle.std.proofs.lemmas.List.{get_or_default}
use Rattle.nv_inode.specs.Tables.{lists_of}
use Rattle.nv_rows.proofs.MoreRoom.{room_grown}
use Rattle.nv_rows.proofs.used.UsedNumbers.grow.Goals as goal

pub index_mut-requires : goal.index_mut-requires
index_mut-requires c = (let t = c.self.inside in let below = rw (← c.self.view_is) at c.requires.cpu in omega (arith, below, t.sizes.ok.0))

pub overflow_add-index_mut : goal.overflow_add-index_mut
overflow_add-index_mut c =
    let t = c.self.inside in
    let below = rw (← c.self.view_is) at c.requires.cpu in
    omega (arith, c.self.invariant.small c.args.cpu below, get_or_default t.sizes.items c.args.cpu 0 c.index_mut.result.now below, c.index_mut.ensures.value)

pub invariant_of-self : goal.invariant_of-self
invariant_of-self c =
    let t = c.self.inside in
    let below = rw (← c.self.view_is) at c.requires.cpu in
    let fits = rw (← c.self.view_is) at c.requires.room in
    let small = rw (← c.self.view_is) at c.requires.small in
    let is : get_or t.sizes.items c.args.cpu 0 ≡ c.index_mut.result.now = get_or_default t.sizes.items c.args.cpu 0 c.index_mut.result.now below ∙ sym c.index_mut.ensures.value in
    room_grown t.sizes.items c.args.cpu (c.index_mut.result.now + 31) below (omega (arith, is)) (lists_of t.sets.items) c.self.invariant (omega (arith, is, small)) (omega (arith, is, fits))

pub returns-clause-sizes : goal.returns-clause-sizes
returns-clause-sizes c =
    let t = c.self.inside in
    let below = rw (← c.self.view_is) at c.requires.cpu in
    let is : c.index_mut.result.now ≡ get_or t.sizes.items c.args.cpu 0 = c.index_mut.ensures.value ∙ sym (get_or_default t.sizes.items c.args.cpu 0 c.index_mut.result.now below) in
    rw (← c.self.view_is) (ap (λ (n : ℕ). set t.sizes.items c.args.cpu (n + 31)) is)
