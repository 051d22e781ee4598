use Rattle.std.proofs.Common.{inl, inr, ap, arith, subst, ◌∙◌, ℕ}
use Rattle.std.proofs.lemmas.Result.{on_ok_weaker}
use Rattle.nv_region.proofs.Fuses.{keeps_within}
use Rattle.nv_region.specs.Region.{put}
use Rattle.nv_region.specs.Stops.{One}
use Rattle.nv_region.specs.Stored.{StoresOnly}
use Rattle.nv_journal.specs.Undo.{enqueue}
use Rattle.nv_journal.proofs.Emptied.{emptied}
use Rattle.nv_journal.proofs.committing.commit.Goals as goal

pub returns-clause-done : goal.returns-clause-done
returns-clause-done g c =
    let value = ap (λ (p : _). p.enqueue) c.read-pending.ensures.is in
    on_ok_weaker c.commit_word.result (λ done. done ∙ (λ i. put (g.P.Pmem.region c.args.memory.now) (c.dequeue_word.ensures i) (value i))) c.commit_word.ensures.done

pub returns-clause-empty : goal.returns-clause-empty
returns-clause-empty g c =
    let value = ap (λ (p : _). p.enqueue) c.read-pending.ensures.is in
    on_ok_weaker c.commit_word.result
    (λ done. emptied (g.P.Pmem.region c.args.memory.now) (g.P.Pmem.region c.commit_word.new.memory) c.args.cpu c.read-pending.ensures.whole (done ∙ (λ i. put (g.P.Pmem.region c.args.memory.now) (c.dequeue_word.ensures i) (value i))))
    c.commit_word.ensures.done

pub returns-clause-reads : goal.returns-clause-reads
returns-clause-reads g c =
    let value = ap (λ (p : _). p.enqueue) c.read-pending.ensures.is in
    elim c.commit_word.ensures.reads [
      | inl same ↦ inl same
      | inr stored ↦ inr (stored ∙ (λ i. put (g.P.Pmem.region c.args.memory.now) (c.dequeue_word.ensures i) (value i)))
    ]

pub returns-clause-any_stop : goal.returns-clause-any_stop
returns-clause-any_stop g c settled left may =
    let value = ap (λ (p : _). p.enqueue) c.read-pending.ensures.is in
    elim (c.commit_word.ensures.any_stop settled left may) [
      | inl same ↦ inl same
      | inr stored ↦ inr (stored ∙ (λ i. put (g.P.Pmem.region c.args.memory.now) (c.dequeue_word.ensures i) (value i)))
    ]

pub returns-clause-wrote : goal.returns-clause-wrote
returns-clause-wrote g c =
    let value = ap (λ (p : _). p.enqueue) c.read-pending.ensures.is in
    subst (λ (at : ℕ). StoresOnly (One at (enqueue (g.P.Pmem.region c.args.memory.now) c.args.cpu)) (g.P.Pmem.region c.args.memory.now) (g.P.Pmem.region c.commit_word.new.memory) (g.P.Pmem.may_hold c.args.memory.now) (g.P.Pmem.may_hold c.commit_word.new.memory)) c.dequeue_word.ensures
    (subst (λ (n : ℕ). StoresOnly (One c.dequeue_word.result n) (g.P.Pmem.region c.args.memory.now) (g.P.Pmem.region c.commit_word.new.memory) (g.P.Pmem.may_hold c.args.memory.now) (g.P.Pmem.may_hold c.commit_word.new.memory)) value c.commit_word.ensures.wrote)

pub returns-clause-settled : goal.returns-clause-settled
returns-clause-settled g c = c.commit_word.ensures.settled

pub returns-clause-keeps_fuse : goal.returns-clause-keeps_fuse
returns-clause-keeps_fuse g c = keeps_within (λ limit past. omega (arith, c.dequeue_word.ensures)) c.commit_word.ensures.keeps_fuse
