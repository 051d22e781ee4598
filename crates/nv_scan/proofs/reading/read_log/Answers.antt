use Rattle.std.proofs.Common.{◌≡◌, ap, ◌∙◌, refl}
use Rattle.std.proofs.lemmas.Result.{IfOk-from_err}
use Rattle.nv_logpage.specs.Progress.{Progress, after}
use Rattle.nv_logpage.specs.declared.found.Finding.TheVariants.{Entry}
use Rattle.nv_logpage.specs.Light.{placed_in, finding_in}
use Rattle.nv_scan.proofs.ReadSoFar.{read_none, read_more, read_whole}
use Rattle.nv_scan.proofs.reading.read_log.Goals as goal

pub reading-init : goal.reading-init
reading-init g c = record {
  sup = rw c.requires.start refl;
  tail = rw c.requires.start refl;
  so_far = rw c.requires.start (read_none _ _ _ _ _ _ _ _ c.requires.none);
}

pub reading-preserved-in-Continue-branch-4 : goal.reading-preserved-in-Continue-branch-4
reading-preserved-in-Continue-branch-4 g c =
    let R = g.P.Pmem.region c.args.memory.now in
    let is = ap (finding_in R) c.in-Entry.is in
    let before : c.take_writes.new.reader.sup ≡ c.args.sup.now = c.take_writes.ensures.same_log.0 ∙ c.reading.invariant.sup in
    let moved : c.next_light.new.self ≡ after c.take_writes.new.reader (Entry (placed_in R c.in-Entry.placed)) = c.in_ok-placed.ensures.moves ∙ ap (after c.take_writes.new.reader) is in
    let sup : c.next_light.new.self.sup ≡ c.args.sup.now = ap (λ (r : Progress). r.sup) moved ∙ before in
    record {
      sup = sup;
      tail = ap (λ (r : Progress). r.tail) moved ∙ c.take_writes.ensures.same_log.1 ∙ c.reading.invariant.tail;
      so_far = read_more _ _ c.args.sup.now _ _ _ c.take_writes.new.reader _ c.take_writes.new.fold _ (finding_in R _) (placed_in R c.in-Entry.placed)
          (c.in_ok-take_writes.ensures.read _ _ c.reading.invariant.so_far) c.in_ok-placed.ensures.leads is before sup c.in_ok-take-in-Entry.ensures;
    }

pub returns-in-End-clause-read : goal.returns-in-End-clause-read
returns-in-End-clause-read g c =
    let R = g.P.Pmem.region c.args.memory.now in
    let is = ap (finding_in R) c.in-End.is in
    let before : c.take_writes.new.reader.sup ≡ c.args.sup.now = c.take_writes.ensures.same_log.0 ∙ c.reading.invariant.sup in
    let moved : c.next_light.new.self ≡ c.take_writes.new.reader = c.in_ok-placed.ensures.moves ∙ ap (after c.take_writes.new.reader) is in
    read_whole R c.args.sup.now c.args.used.now.kind c.args.used.now.inode c.args.used.now.slot c.take_writes.new.reader c.next_light.new.self c.take_writes.new.fold (finding_in R _) _
    (c.in_ok-take_writes.ensures.read _ _ c.reading.invariant.so_far) c.in_ok-placed.ensures.leads is before (ap (λ (r : Progress). r.sup) moved ∙ before)
    (ap (λ (r : Progress). r.tail) moved ∙ c.take_writes.ensures.same_log.1 ∙ c.reading.invariant.tail)

pub returns-in-End-clause-reader : goal.returns-in-End-clause-reader
returns-in-End-clause-reader g c = c.next_light.ensures.same_log.0 ∙ c.take_writes.ensures.same_log.0 ∙ c.reading.invariant.sup

pub returns-in_err-take_writes-clause-read : goal.returns-in_err-take_writes-clause-read
returns-in_err-take_writes-clause-read g c = IfOk-from_err c.from_residual.result _ c.from_residual.ensures.0

pub returns-in_err-take_writes-clause-reader : goal.returns-in_err-take_writes-clause-reader
returns-in_err-take_writes-clause-reader g c = c.take_writes.ensures.same_log.0 ∙ c.reading.invariant.sup

pub returns-in_err-placed-clause-read : goal.returns-in_err-placed-clause-read
returns-in_err-placed-clause-read g c = IfOk-from_err c.from_residual-in_err-placed.result _ c.from_residual-in_err-placed.ensures.0

pub returns-in_err-placed-clause-reader : goal.returns-in_err-placed-clause-reader
returns-in_err-placed-clause-reader g c = c.next_light.ensures.same_log.0 ∙ c.take_writes.ensures.same_log.0 ∙ c.reading.invariant.sup

pub returns-in_err-take-in-Entry-clause-read : goal.returns-in_err-take-in-Entry-clause-read
returns-in_err-take-in-Entry-clause-read g c = IfOk-from_err c.from_residual-in_err-take-in-Entry.result _ c.from_residual-in_err-take-in-Entry.ensures.0

pub returns-in_err-take-in-Entry-clause-reader : goal.returns-in_err-take-in-Entry-clause-reader
returns-in_err-take-in-Entry-clause-reader g c = c.next_light.ensures.same_log.0 ∙ c.take_writes.ensures.same_log.0 ∙ c.reading.invariant.sup
