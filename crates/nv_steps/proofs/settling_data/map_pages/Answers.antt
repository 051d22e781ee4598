use Rattle.std.proofs.Common.{◌≡◌, ◌+◌, ◌-◌, ℕ, List, cond, Some, drop, subst, sym, ap, ◌∙◌, arith}
use Rattle.nv_logpage.proofs.Placing.{entries_from}
use Rattle.nv_alloc.specs.Taking.{Disjoint}
use Rattle.nv_entry.specs.declared.entry.Entry.{Entry}
use Rattle.nv_entry.specs.declared.entry.Entry.TheVariants.{Write}
use Rattle.nv_radix.specs.Pages.{Pages, block_at, in_run}
use Rattle.nv_super.proofs.Rising.{Contains-head, Contains-tail}
use Rattle.nv_steps.specs.Written.{AreSettled, MapsEntries, entry_pages}
use Rattle.nv_steps.proofs.EntrySteps.{maps_skip, maps_step, settled_step, skip_once}
use Rattle.nv_steps.proofs.StoredEntries.{writes_from}
use Rattle.nv_steps.proofs.settling_data.map_pages.Goals as goal
use Rattle.nv_steps.proofs.settling_data.map_pages.Goals.{in-Write, in_default}

pub set_run-requires-clause-ready : goal.set_run-requires-clause-ready
set_run-requires-clause-ready c p low high =
    let entries = c.args.entries.now in
    let i = c.loop-entry.entry-index in
    let left = writes_from entries i c.entry-item.result c.in-Write.write c.loop-entry-test.true c.entry-item.is c.in-Write.is in
    let settled = subst (AreSettled c.loop-entry.index) left c.loop-entry.invariant.1 c.in-Write.write (Contains-head (Write c.in-Write.write) (drop (i + 1) entries)) in
    settled.0 p low (omega (arith, high, c.from.ensures))

pub set_run-requires-clause-blocks : goal.set_run-requires-clause-blocks
set_run-requires-clause-blocks c some =
    let entries = c.args.entries.now in
    let i = c.loop-entry.entry-index in
    let left = writes_from entries i c.entry-item.result c.in-Write.write c.loop-entry-test.true c.entry-item.is c.in-Write.is in
    let settled = subst (AreSettled c.loop-entry.index) left c.loop-entry.invariant.1 c.in-Write.write (Contains-head (Write c.in-Write.write) (drop (i + 1) entries)) in
    let top = settled.1 in
    omega (arith, top, c.from.ensures)

pub loop-entry-preserved : goal.loop-entry-preserved
loop-entry-preserved c =
    let entries = c.args.entries.now in
    let i = c.loop-entry.entry-index in
    let kept = c.loop-entry.invariant in
    let rest = drop (i + 1) entries in
    elim c.match-entry.branch [
      | in-Write w ↦
          let e = w.in-Write.write in
          let left = writes_from entries i c.entry-item.result e c.loop-entry-test.true c.entry-item.is w.in-Write.is in
          let once = subst (λ (xs : List Entry). Disjoint (entry_pages xs)) left kept.2 in
          let stepped : (p : ℕ) → block_at w.set_run.new.self p ≡ cond (in_run e.offset e.count p) (Some (e.block + (p - e.offset))) (block_at c.loop-entry.index p) =
          λ p. w.set_run.ensures.blocks p ∙ ap (λ (n : ℕ). cond (in_run e.offset n p) (Some (e.block + (p - e.offset))) (block_at c.loop-entry.index p)) w.from.ensures in (
            λ final maps. kept.0 final (subst (λ (xs : List Entry). MapsEntries c.loop-entry.index xs final) (sym left)
                (maps_step c.loop-entry.index w.set_run.new.self final e rest once stepped (subst (λ (m : Pages). MapsEntries m rest final) w.index-is maps))),
            subst (λ (m : Pages). AreSettled m rest) (sym w.index-is) (settled_step c.loop-entry.index w.set_run.new.self e rest (subst (AreSettled c.loop-entry.index) left kept.1) w.set_run.ensures.ready),
            once.1,
          )
      | in_default w ↦
          let left = entries_from entries i c.entry-item.result c.loop-entry-test.true c.entry-item.is in (
            λ final maps. kept.0 final (subst (λ (xs : List Entry). MapsEntries c.loop-entry.index xs final) (sym left)
                (maps_skip c.loop-entry.index final c.entry-item.result rest w.in_default.not-Write (subst (λ (m : Pages). MapsEntries m rest final) w.index-is maps))),
            subst (λ (m : Pages). AreSettled m rest) (sym w.index-is) (λ v c'. subst (AreSettled c.loop-entry.index) left kept.1 v (Contains-tail c.entry-item.result rest (Write v) c')),
            skip_once c.entry-item.result rest w.in_default.not-Write (subst (λ (xs : List Entry). Disjoint (entry_pages xs)) left kept.2),
          )
    ]
