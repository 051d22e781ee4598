use Rattle.std.proofs.Common.{◌≡◌, sym, ap, ◌∙◌, subst}
use Rattle.std.proofs.lemmas.Bool.{true≢false}
use Rattle.nv_inode.specs.declared.slot.Slot.{Slot}
use Rattle.nv_inode.specs.Slot.{kind_in, kind_of, is_right_log, nth_slot, slot_at}
use Rattle.nv_metadata.proofs.SameLogs.{one_log, slot_log}
use Rattle.nv_metadata.proofs.logs.right_log.Goals as goal

pub returns-in-InUse-clause-only : goal.returns-in-InUse-clause-only
returns-in-InUse-clause-only g c =
    let U = g.P.Pmem.region c.args.memory.now in
    let s = c.args.sup.now in
    let is = subst (λ (a : _). c.read_slot_at-slot.result ≡ slot_at U a) c.nth_slot.ensures c.read_slot_at-slot.ensures in
    slot_log U s c.args.place c.read_slot_at-slot.result.head c.read_slot_at-slot.result.tail c.in-InUse.field-0 c.requires.layout c.requires.place.0 c.requires.place.1
    (ap kind_of (sym is) ∙ sym c.state.ensures.in_use ∙ ap kind_in c.in-InUse.is) (ap (λ (x : Slot). x.head) is) (ap (λ (x : Slot). x.tail) is) (sym c.has_right_log.ensures ∙ c.if-has_right_log.true)

pub returns-in_default-clause-all : goal.returns-in_default-clause-all
returns-in_default-clause-all g c i head tail l =
    let U = g.P.Pmem.region c.args.memory.now in
    let s = c.args.sup.now in
    let slot_is = subst (λ (a : _). c.read_slot_at-slot.result ≡ slot_at U a) c.nth_slot.ensures c.read_slot_at-slot.ensures in
    let is = one_log U s i (nth_slot s c.args.place) head tail c.read_slot_at-slot.result slot_is l in
    absurd (true≢false (sym l.right ∙ (λ i. is_right_log s (is.0 i) (is.1 i)) ∙ sym c.has_right_log.ensures ∙ c.if-has_right_log.false))
