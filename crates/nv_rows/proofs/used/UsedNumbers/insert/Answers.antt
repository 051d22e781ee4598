use Rattle.std.proofs.Common.{◌∙◌, ℕ, List, ap, sym, subst, arith}
use Rattle.nv_inode.specs.Tables.{lists_of}
use Rattle.nv_rows.specs.InUse.{has_number, HaveRoom, UsedSets}
use Rattle.nv_rows.proofs.UsedPlaces.{put_with, room_with, with_same, with_other}
use Rattle.nv_rows.proofs.used.UsedNumbers.insert.Goals as goal

pub invariant_of-self : goal.invariant_of-self
invariant_of-self c =
    let t = c.self.inside in
    subst (HaveRoom t.sizes.items)
    (sym (put_with t.sizes.items t.sets.items c.self.invariant c.len-cpus.result c.args.number (let is = c.len-cpus.ensures in let whole = t.sets.ok in omega (arith, is, whole)) c.index_mut.result.now c.index_mut.ensures.value c.deref_mut.result.now c.insert.new.words c.deref_mut.ensures.value c.insert.ensures))
    (room_with t.sizes.items (lists_of t.sets.items) c.args.number c.self.invariant (rw (← c.self.view_is) at c.requires))

pub returns-clause-there : goal.returns-clause-there
returns-clause-there c =
    let t = c.self.inside in
    ap (λ (sets : List (List ℕ)). has_number sets c.args.number)
    (put_with t.sizes.items t.sets.items c.self.invariant c.len-cpus.result c.args.number (let is = c.len-cpus.ensures in let whole = t.sets.ok in omega (arith, is, whole)) c.index_mut.result.now c.index_mut.ensures.value c.deref_mut.result.now c.insert.new.words c.deref_mut.ensures.value c.insert.ensures)
    ∙ with_same t.sizes.items (lists_of t.sets.items) c.args.number c.self.invariant (rw (← c.self.view_is) at c.requires)

pub returns-clause-others : goal.returns-clause-others
returns-clause-others c i differs =
    let t = c.self.inside in
    ap (λ (sets : List (List ℕ)). has_number sets i)
    (put_with t.sizes.items t.sets.items c.self.invariant c.len-cpus.result c.args.number (let is = c.len-cpus.ensures in let whole = t.sets.ok in omega (arith, is, whole)) c.index_mut.result.now c.index_mut.ensures.value c.deref_mut.result.now c.insert.new.words c.deref_mut.ensures.value c.insert.ensures)
    ∙ with_other t.sizes.items (lists_of t.sets.items) c.args.number c.self.invariant (rw (← c.self.view_is) at c.requires) i differs
    ∙ ap (λ (u : UsedSets). has_number u.sets i) c.self.view_is
