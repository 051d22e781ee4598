use Rattle.std.proofs.Common.{◌∙◌, ℕ, List, ap, sym, subst, arith}
use Rattle.nv_inode.specs.Tables.{lists_of}
use Rattle.nv_rows.specs.InUse.{has_number, HaveRoom, UsedSets}
use Rattle.nv_rows.proofs.UsedPlaces.{put_without, room_without, without_number_same, without_number_other}
use Rattle.nv_rows.proofs.used.UsedNumbers.remove.Goals as goal

pub invariant_of-self : goal.invariant_of-self
invariant_of-self c =
    let t = c.self.inside in
    subst (HaveRoom t.sizes.items)
    (sym (put_without t.sizes.items t.sets.items c.self.invariant c.len-cpus.result c.args.number (let is = c.len-cpus.ensures in let whole = t.sets.ok in omega (arith, is, whole)) c.index_mut.result.now c.index_mut.ensures.value c.deref_mut.result.now c.remove.new.words c.deref_mut.ensures.value c.remove.ensures))
    (room_without t.sizes.items (lists_of t.sets.items) c.args.number c.self.invariant (rw (← c.self.view_is) at c.requires))

pub returns-clause-gone : goal.returns-clause-gone
returns-clause-gone c =
    let t = c.self.inside in
    ap (λ (sets : List (List ℕ)). has_number sets c.args.number)
    (put_without t.sizes.items t.sets.items c.self.invariant c.len-cpus.result c.args.number (let is = c.len-cpus.ensures in let whole = t.sets.ok in omega (arith, is, whole)) c.index_mut.result.now c.index_mut.ensures.value c.deref_mut.result.now c.remove.new.words c.deref_mut.ensures.value c.remove.ensures)
    ∙ without_number_same t.sizes.items (lists_of t.sets.items) c.args.number c.self.invariant (rw (← c.self.view_is) at c.requires)

pub returns-clause-others : goal.returns-clause-others
returns-clause-others c i differs =
    let t = c.self.inside in
    ap (λ (sets : List (List ℕ)). has_number sets i)
    (put_without t.sizes.items t.sets.items c.self.invariant c.len-cpus.result c.args.number (let is = c.len-cpus.ensures in let whole = t.sets.ok in omega (arith, is, whole)) c.index_mut.result.now c.index_mut.ensures.value c.deref_mut.result.now c.remove.new.words c.deref_mut.ensures.value c.remove.ensures)
    ∙ without_number_other t.sizes.items (lists_of t.sets.items) c.args.number c.self.invariant (rw (← c.self.view_is) at c.requires) i differs
    ∙ ap (λ (u : UsedSets). has_number u.sets i) c.self.view_is
