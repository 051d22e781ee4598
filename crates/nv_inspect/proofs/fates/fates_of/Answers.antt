use Rattle.std.proofs.Common.{◌≡◌, ◌∙◌, ℕ, List, length, drop, arith, Option, None, sym, subst}
use Rattle.std.specs.Prelude.{replicate}
use Rattle.nv_inspect.specs.Held.{AreTakers, HoldsOne, Marks}
use Rattle.nv_inspect.proofs.Dying.{are_fates, front_only}
use Rattle.nv_inspect.proofs.fates.fates_of.Goals as goal

pub returns : goal.returns
returns c =
    let s = c.args.sup.now in
    let kind = c.args.kind in
    let created = c.args.created in
    let entries = c.args.entries.now in
    let held = c.in_ok-held.held in
    let long : c.in_ok-takers.takers.len ≡ length c.take_all.new.takers = omega (arith, c.in_ok-held.ensures.long, c.deref_mut.ensures.len) in
    let takers : c.deref.result.now ≡ c.take_all.new.takers = c.deref.ensures.value ∙ front_only c.in_ok-takers.takers.len c.take_all.new.takers (drop (length c.take_all.new.takers) c.in_ok-takers.takers.items) long in
    let long_marks : c.in_ok-holders.holders.len ≡ length c.mark_holders.new.marks = omega (arith, c.in_ok-mark_holders.ensures.long, c.deref_mut-2.ensures.len) in
    let holders : c.deref-2.result.now ≡ c.mark_holders.new.marks = c.deref-2.ensures.value ∙ front_only c.in_ok-holders.holders.len c.mark_holders.new.marks (drop (length c.mark_holders.new.marks) c.in_ok-holders.holders.items) long_marks in
    let marks : Marks 0 (HoldsOne held) (replicate (length entries) None) c.mark_holders.new.marks =
    subst (λ (old : List (Option ℕ)). Marks 0 (HoldsOne held) old c.mark_holders.new.marks) (c.deref_mut-2.ensures.value ∙ c.in_ok-holders.ensures) c.in_ok-mark_holders.ensures in
    are_fates s kind created entries held c.deref.result.now c.deref-2.result.now c.in_ok-fates.fates.items c.in_ok-held.ensures.held
    (subst (λ (t : List (Option ℕ)). AreTakers s kind created entries t) (sym takers) c.in_ok-held.ensures.takers)
    (subst (λ (t : List (Option ℕ)). Marks 0 (HoldsOne held) (replicate (length entries) None) t) (sym holders) marks)
    c.in_ok-fates.ensures.long c.in_ok-fates.ensures.each
