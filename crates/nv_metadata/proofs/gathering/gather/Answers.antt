use Rattle.std.proofs.Common.{ℕ, List, sym, subst}
use Rattle.nv_region.specs.Region.{region_of}
use Rattle.nv_journal.specs.Undo.{undone}
use Rattle.nv_metadata.specs.Blocks.{AreBytesAt}
use Rattle.nv_metadata.specs.Fronts.{IsFrontOf, IsSoundFront}
use Rattle.nv_metadata.specs.Walk.{AreLogs}
use Rattle.nv_metadata.specs.declared.gathering.Front.{Front}
use Rattle.nv_metadata.specs.declared.gathering.Front.TheVariants.{Accepted, Whole}
use Rattle.nv_metadata.specs.declared.logs.LogEnds.{LogEnds}
use Rattle.nv_metadata.proofs.Ready.{ready_part}
use Rattle.nv_metadata.proofs.Whole.{gathered_of}
use Rattle.nv_metadata.proofs.gathering.gather.Goals as goal

pub returns-in_ok-memory-in-Accepted-clause-gathered : goal.returns-in_ok-memory-in-Accepted-clause-gathered
returns-in_ok-memory-in-Accepted-clause-gathered g c image known =
    let s = c.in-Accepted.sup in
    let are : IsFrontOf image (Accepted s c.in-Accepted.front) = subst (λ (f : Front). IsFrontOf image f) c.in-Accepted.is (c.in_ok-sup.ensures.read image known) in
    let sound : IsSoundFront (Accepted s c.in-Accepted.front) = subst (λ (f : Front). IsSoundFront f) c.in-Accepted.is c.in_ok-sup.ensures.sound in
    let logs = c.in_ok-logs-in-Accepted.ensures.logs image (subst (λ (l : List ℕ). AreBytesAt image 0 l) (sym c.deref.ensures.value) are.1) are.0 in
    let logs_are : AreLogs (undone s (region_of image)) s c.deref-in-Accepted.result.now = subst (λ (l : List LogEnds). AreLogs (undone s (region_of image)) s l) (sym c.deref-in-Accepted.ensures.value) logs in
    let part = c.in_ok-memory-in-Accepted.ensures in
    gathered_of s image c.in-Accepted.front.items c.deref-in-Accepted.result.now c.in_ok-memory-in-Accepted.memory sound.1 are.0 are.1 sound.2 sound.3 part.opens.0 logs_are (part.fetched image known are.0 are.1)

pub returns-in_ok-memory-in-Accepted-clause-open : goal.returns-in_ok-memory-in-Accepted-clause-open
returns-in_ok-memory-in-Accepted-clause-open g c =
    let s = c.in-Accepted.sup in
    let sound : IsSoundFront (Accepted s c.in-Accepted.front) = subst (λ (f : Front). IsSoundFront f) c.in-Accepted.is c.in_ok-sup.ensures.sound in
    let part = c.in_ok-memory-in-Accepted.ensures in
    ready_part s c.in_ok-memory-in-Accepted.memory _ part.can sound.1 part.opens sound.3

pub returns-in_ok-memory-in-Whole-clause-gathered : goal.returns-in_ok-memory-in-Whole-clause-gathered
returns-in_ok-memory-in-Whole-clause-gathered g c image known =
    let are : IsFrontOf image (Whole c.in-Whole.sup c.in-Whole.bytes) = subst (λ (f : Front). IsFrontOf image f) c.in-Whole.is (c.in_ok-sup.ensures.read image known) in
    c.in_ok-memory-in-Whole.ensures.gathered image are.0 are.1
