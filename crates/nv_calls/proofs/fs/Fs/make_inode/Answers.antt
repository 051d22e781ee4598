use Rattle.std.proofs.Common.{◌≡◌, ◌∙◌, ◌<◌, ◌∷◌, [], Some, None, inr, inl, ap, refl, subst, sym}
use Rattle.std.proofs.lemmas.Result.{err_from_is_err_and, IfOk-from_err}
use Rattle.nv_tree.specs.declared.refusal.Refusal.{Refusal}
use Rattle.nv_rows.specs.Rows.{place_in}
use Rattle.nv_rows.proofs.Places.{at_place, row_in_use}
use Rattle.nv_mounted.specs.Mounted.{ShowsSound}
use Rattle.nv_tree.specs.Tree.{SameTree}
use Rattle.nv_tree.specs.Refusals.{first_refusal, has_no_space, IsRefusedBy}
use Rattle.nv_tree.proofs.Replies.{refused_by}
use Rattle.nv_steps.specs.Fronts.{SameFrontBut}
use Rattle.nv_paths.specs.Directories.{spot_tests}
use Rattle.nv_paths.specs.Seen.{tree_of}
use Rattle.nv_paths.specs.Spots.{new_number}
use Rattle.nv_calls.specs.Mount.{Mount}
use Rattle.nv_calls.specs.NameCalls.{ShowsCreated}
use Rattle.nv_calls.specs.NamesByNumber.{create_inode_blocks, create_inode_tests, created_in, logs_created_in}
use Rattle.nv_calls.specs.Same.{IsLaidFor}
use Rattle.nv_calls.specs.World.{world_of}
use Rattle.nv_calls.proofs.Stopped.{settled_or_stopped, stays_mounted}
use Rattle.nv_calls.proofs.StoppedNames.{create_left, still_grows}
use Rattle.nv_calls.proofs.CreateCall.{create_allowed, create_refused, created_kept, created_log, created_tree}
use Rattle.nv_calls.proofs.GrownCall.{able_as, grew_for, grown_done, grown_refused, grown_sup, laid_for, may_grow, own_sup, tables_or_stopped, unchanged_tables}
use Rattle.nv_calls.proofs.NewNumbers.{can_create, can_get, growth_is, new_unused}
use Rattle.nv_calls.proofs.SetAttr.{not_stop}
use Rattle.nv_calls.proofs.Tests.{writing_goes_on}
use Rattle.nv_calls.proofs.TwoWords.{create_ordered, create_stored}
use Rattle.nv_calls.proofs.FrontsKept.{created_front}
use Rattle.nv_calls.proofs.CallKept.{refused_first, refused_later}
use Rattle.nv_calls.proofs.fs.Fs.make_inode.Goals as goal

pub returns-in_err-writable-clause-refused : goal.returns-in_err-writable-clause-refused
returns-in_err-writable-clause-refused g c =
    rw (← c.cpu.view_is) (λ runs.
    let tree = tree_of (g.P.Pmem.region c.args.self.now.memory) c.args.self.now.rows in
    let count = create_inode_blocks c.args.self.now.layout c.args.self.now.rows c.cpu.inside.0 c.args.directory c.args.name.now in
    let w = err_from_is_err_and c.from_residual.result c.from_residual.ensures.1 in
    refused_by c.from_residual.result c.in_err-writable.field-0.0 w.0 (IsRefusedBy (first_refusal (create_inode_tests (world_of c.args.self.now) tree c.cpu.inside.0 c.args.directory c.args.name.now count))) w.1 w.2
    (inr (inr (c.in_err-writable.ensures.refused runs (spot_tests tree (new_number c.args.self.now.layout c.args.self.now.rows c.cpu.inside.0) c.args.directory c.args.name.now (has_no_space (world_of c.args.self.now) count ∷ [])))))
    )

pub returns-in_err-writable-clause-call : goal.returns-in_err-writable-clause-call
returns-in_err-writable-clause-call g c =
    record {
      call =
          let w = err_from_is_err_and c.from_residual.result c.from_residual.ensures.1 in
          may_grow c.args.cpu (refused_first g.P.Pmem.region g.P.Pmem.fuse c.args.self.now c.from_residual.result c.in_err-writable.field-0.0 w.0 w.1 w.2 c.in_err-writable.ensures.stopped
          (λ runs is. writing_goes_on (world_of c.args.self.now) c.cpu.inside.0 (c.in_err-writable.ensures.refused runs [] ∙ ap (λ (e : Refusal). Some e) is)));
      settled = IfOk-from_err c.from_residual.result _ c.from_residual.ensures.0;
    }

pub returns-in_err-writable-clause-stores : goal.returns-in_err-writable-clause-stores
returns-in_err-writable-clause-stores g c =
    record {
      journals = IfOk-from_err c.from_residual.result _ c.from_residual.ensures.0;
      wrote = λ j held number sound. λ at whole away. refl;
      in_order = λ j number. ∣ inl refl ∣₁;
    }

pub spot_in-requires-clause-cpu : goal.spot_in-requires-clause-cpu
spot_in-requires-clause-cpu g c = subst (λ (m : Mount g.row.P.Denot). c.cpu.inside.0 < m.sup.cpus) (sym c.self.view_is) c.in_ok-writable.ensures.cpu

pub spot_in-requires-clause-numbers : goal.spot_in-requires-clause-numbers
spot_in-requires-clause-numbers g c = c.self.invariant.1

pub returns-in_err-inode-clause-refused : goal.returns-in_err-inode-clause-refused
returns-in_err-inode-clause-refused g c =
    rw (← c.cpu.view_is) (λ still.
    let tree = tree_of (g.P.Pmem.region c.args.self.now.memory) c.args.self.now.rows in
    let count = create_inode_blocks c.args.self.now.layout c.args.self.now.rows c.cpu.inside.0 c.args.directory c.args.name.now in
    let space = has_no_space (world_of c.args.self.now) count ∷ [] in
    let told : first_refusal (spot_tests tree (new_number c.args.self.now.layout c.args.self.now.rows c.cpu.inside.0) c.args.directory c.args.name.now space) ≡ Some c.in_err-inode.field-0.0 =
    subst (λ (m : Mount g.row.P.Denot). first_refusal (spot_tests (tree_of (g.P.Pmem.region m.memory) m.rows) (new_number m.layout m.rows c.cpu.inside.0) c.args.directory c.args.name.now space) ≡ Some c.in_err-inode.field-0.0) c.self.view_is
    (c.in_err-inode.ensures.refused (g.P.Pmem.region c.self.inside.memory) space) in
    let w = err_from_is_err_and c.from_residual-in_err-inode.result c.from_residual-in_err-inode.ensures.1 in
    refused_by c.from_residual-in_err-inode.result c.in_err-inode.field-0.0 w.0 (IsRefusedBy (first_refusal (create_inode_tests (world_of c.args.self.now) tree c.cpu.inside.0 c.args.directory c.args.name.now count))) w.1 w.2
    (inr (inr (c.in_ok-writable.ensures.passed (spot_tests tree (new_number c.args.self.now.layout c.args.self.now.rows c.cpu.inside.0) c.args.directory c.args.name.now space) ∙ told)))
    )

pub returns-in_err-inode-clause-call : goal.returns-in_err-inode-clause-call
returns-in_err-inode-clause-call g c =
    record {
      call =
          let w = err_from_is_err_and c.from_residual-in_err-inode.result c.from_residual-in_err-inode.ensures.1 in
          may_grow c.args.cpu (refused_later g.P.Pmem.region g.P.Pmem.fuse c.args.self.now c.from_residual-in_err-inode.result c.in_err-inode.field-0.0 w.0 w.1 w.2 c.in_ok-writable.ensures.runs c.in_err-inode.ensures.goes_on);
      settled = IfOk-from_err c.from_residual-in_err-inode.result _ c.from_residual-in_err-inode.ensures.0;
    }

pub returns-in_err-inode-clause-stores : goal.returns-in_err-inode-clause-stores
returns-in_err-inode-clause-stores g c =
    record {
      journals = IfOk-from_err c.from_residual-in_err-inode.result _ c.from_residual-in_err-inode.ensures.0;
      wrote = λ j held number sound. λ at whole away. refl;
      in_order = λ j number. ∣ inl refl ∣₁;
    }

pub create_at-requires-clause-can : goal.create_at-requires-clause-can
create_at-requires-clause-can g c =
    let able = able_as c.self.view_is c.in_ok-writable.ensures.runs c.in_ok-writable.ensures.writes c.in_ok-writable.ensures.cpu in
    can_create c.self.inside.rows c.self.invariant.0 able.runs able.writes c.cpu.inside.0 able.low c.self.invariant.1 c.args.directory c.in_ok-inode.ensures.in_use c.in_ok-inode.inode c.in_ok-inode.ensures.spot.unused c.args.name.now c.in_ok-inode.ensures.name

pub create_at-requires-clause-slot : goal.create_at-requires-clause-slot
create_at-requires-clause-slot g c =
    let able = able_as c.self.view_is c.in_ok-writable.ensures.runs c.in_ok-writable.ensures.writes c.in_ok-writable.ensures.cpu in
    can_get c.self.invariant.0 able.runs able.writes c.cpu.inside.0 c.in_ok-inode.inode able.low c.in_ok-inode.ensures.spot.unused

pub invariant_of-self : goal.invariant_of-self
invariant_of-self g c =
    let able = able_as c.self.view_is c.in_ok-writable.ensures.runs c.in_ok-writable.ensures.writes c.in_ok-writable.ensures.cpu in
    (own_sup (created_kept c.self.invariant.0 able.runs able.writes c.in-Ok.ensures.created able.low c.in_ok-inode.ensures.name c.args.directory c.in_ok-inode.ensures.spot c.self.inside.stopped), c.create_at.ensures.kept.numbers, λ on. c.in-Ok.ensures.kept.settled)

pub invariant_of-self-in-Err : goal.invariant_of-self-in-Err
invariant_of-self-in-Err g c =
    let able = able_as c.self.view_is c.in_ok-writable.ensures.runs c.in_ok-writable.ensures.writes c.in_ok-writable.ensures.cpu in
    let grew = grew_for able refl c.in_ok-inode.ensures.spot.unused c.create_at.ensures.kept.grown in (
      tables_or_stopped g.P.Pmem.region c.self.invariant.0 able.runs able.writes c.in-Err.refusal c.is_stop-self-inside.result c.is_stop-self-inside.ensures.yes c.is_stop-self-inside.ensures.no
          (grown_sup able grew) c.create_at.ensures.kept.lists c.in-Err.ensures.kept.unchanged,
      c.create_at.ensures.kept.numbers,
      settled_or_stopped g.P.Pmem.region g.P.Pmem.may_hold c.in-Err.refusal c.is_stop-self-inside.result c.is_stop-self-inside.ensures.no (λ off. (let left = c.in-Err.ensures.kept.unchanged off in left.0.memory)) (c.self.invariant.2 able.runs),
    )

pub returns-in-Ok-clause-allowed : goal.returns-in-Ok-clause-allowed
returns-in-Ok-clause-allowed g c =
    rw (← c.cpu.view_is) (
    let able = able_as c.self.view_is c.in_ok-writable.ensures.runs c.in_ok-writable.ensures.writes c.in_ok-writable.ensures.cpu in
    let r = row_in_use c.self.inside.rows.items c.args.directory c.in_ok-inode.ensures.in_use in
    create_allowed g.P.Pmem.region c.self.view_is c.cpu.inside.0 c.in_ok-writable.ensures.passed c.args.directory r.0 r.1 c.args.name.now c.in_ok-inode.inode c.time.inside.0 (c.in_ok-inode.ensures.passed (g.P.Pmem.region c.self.inside.memory))
    (growth_is c.self.invariant.0 able.runs able.writes c.cpu.inside.0 c.in_ok-inode.inode able.low c.in_ok-inode.ensures.spot.unused) (c.in-Ok.ensures.enough r.0 r.1)
    )

pub returns-in-Ok-clause-number : goal.returns-in-Ok-clause-number
returns-in-Ok-clause-number g c =
    rw (← c.cpu.view_is) (subst (λ (m : Mount g.row.P.Denot). new_number m.layout m.rows c.cpu.inside.0 ≡ Some c.in_ok-inode.inode) c.self.view_is c.in_ok-inode.ensures.spot.unused)

pub returns-in-Ok-clause-changed : goal.returns-in-Ok-clause-changed
returns-in-Ok-clause-changed g c =
    rw (← c.cpu.view_is, ← c.time.view_is) (
    let able = able_as c.self.view_is c.in_ok-writable.ensures.runs c.in_ok-writable.ensures.writes c.in_ok-writable.ensures.cpu in
    subst (λ (m : Mount g.row.P.Denot). SameTree (tree_of (g.P.Pmem.region c.create_at.new.memory) c.create_at.new.rows.items) (created_in c.args.kind (new_number m.layout m.rows c.cpu.inside.0) c.args.directory c.args.name.now c.args.mode c.time.inside.0 (tree_of (g.P.Pmem.region m.memory) m.rows))) c.self.view_is
    (created_tree c.self.invariant.0 able.runs able.writes c.in-Ok.ensures.created able.low c.in_ok-inode.ensures.name c.args.directory c.in_ok-inode.ensures.spot)
    )

pub returns-in-Ok-clause-tables : goal.returns-in-Ok-clause-tables
returns-in-Ok-clause-tables g c =
    rw (← c.cpu.view_is) (
    let grown = c.in-Ok.ensures.created in
    subst (λ (m : Mount g.row.P.Denot). IsLaidFor m.layout c.cpu.inside.0 (new_number m.layout m.rows c.cpu.inside.0) c.create_at.new.tables.layout) c.self.view_is
    (laid_for c.self.inside.rows.items c.in_ok-inode.ensures.spot.unused grown.got)
    )

pub returns-in-Ok-clause-log : goal.returns-in-Ok-clause-log
returns-in-Ok-clause-log g c =
    rw (← c.cpu.view_is, ← c.time.view_is) (λ j held h number sound is.
    let able = able_as c.self.view_is c.in_ok-writable.ensures.runs c.in_ok-writable.ensures.writes c.in_ok-writable.ensures.cpu in
    subst (λ (m : Mount g.row.P.Denot). new_number m.layout m.rows c.cpu.inside.0 ≡ Some j → ShowsSound (g.P.Pmem.region m.memory) m.layout held → ShowsCreated (g.P.Pmem.region c.create_at.new.memory) m.layout m.free.pools c.cpu.inside.0 held c.args.kind c.args.mode c.time.inside.0 j c.args.directory h c.args.name.now) c.self.view_is
    (λ free_number shown. created_log c.self.invariant.0 able.runs able.writes c.in-Ok.ensures.created able.low c.in_ok-inode.ensures.name c.args.directory c.in_ok-inode.ensures.spot j held h free_number shown is) number sound
    )

pub returns-in-Ok-clause-call : goal.returns-in-Ok-clause-call
returns-in-Ok-clause-call g c =
    record {
      call =
          let able = able_as c.self.view_is c.in_ok-writable.ensures.runs c.in_ok-writable.ensures.writes c.in_ok-writable.ensures.cpu in
          let grew = grew_for able refl c.in_ok-inode.ensures.spot.unused c.create_at.ensures.kept.grown in
          rw (← c.cpu.view_is) (grown_done g.P.Pmem.region g.P.Pmem.fuse c.cpu.inside.0 c.self.view_is c.create_at.new.memory c.create_at.new.tables.layout c.create_at.new.rows.items c.create_at.new.free able refl grew _ _ c.in-Ok.ensures.kept.keeps);
      settled = c.in-Ok.ensures.kept.settled;
    }

pub returns-in-Ok-clause-stores : goal.returns-in-Ok-clause-stores
returns-in-Ok-clause-stores g c =
    record {
      journals = rw (← c.cpu.view_is) (
          let able = able_as c.self.view_is c.in_ok-writable.ensures.runs c.in_ok-writable.ensures.writes c.in_ok-writable.ensures.cpu in
          subst (λ (m : Mount g.row.P.Denot). SameFrontBut m.sup.cpus c.cpu.inside.0 (g.P.Pmem.region m.memory) (g.P.Pmem.region c.create_at.new.memory)) c.self.view_is
          (created_front c.self.invariant.0 able.runs able.writes c.in-Ok.ensures.created able.low (new_unused c.self.invariant.0 able.runs able.writes c.cpu.inside.0 c.in_ok-inode.inode able.low c.in_ok-inode.ensures.spot.unused) c.create_at.ensures.kept.length)
          );
      wrote = rw (← c.cpu.view_is) (λ j held number sound.
          create_stored g.P.Pmem.region c.self.view_is c.self.invariant.0 c.in_ok-writable.ensures.runs (g.P.Pmem.region c.create_at.new.memory) c.cpu.inside.0 c.in_ok-writable.ensures.writes c.args.directory c.in_ok-inode.inode c.in_ok-inode.ensures.in_use c.in_ok-writable.ensures.cpu
          c.args.name.now c.in_ok-inode.ensures.spot c.create_at.ensures.wrote j held number sound
          );
      in_order = rw (← c.cpu.view_is) (λ j number.
          create_ordered g.P.Pmem.region c.self.view_is c.self.invariant.0 c.in_ok-writable.ensures.runs (g.P.Pmem.region c.create_at.new.memory) c.cpu.inside.0 c.in_ok-writable.ensures.writes c.args.directory c.in_ok-inode.inode c.in_ok-inode.ensures.in_use c.in_ok-writable.ensures.cpu
          c.args.name.now c.in_ok-inode.ensures.spot c.create_at.new.tables.layout c.create_at.ensures.in_order j number
          );
    }

pub returns-in-Err-clause-refused : goal.returns-in-Err-clause-refused
returns-in-Err-clause-refused g c =
    rw (← c.cpu.view_is) (λ still.
    let able = able_as c.self.view_is c.in_ok-writable.ensures.runs c.in_ok-writable.ensures.writes c.in_ok-writable.ensures.cpu in
    let r = row_in_use c.self.inside.rows.items c.args.directory c.in_ok-inode.ensures.in_use in
    create_refused g.P.Pmem.region c.self.view_is c.cpu.inside.0 c.in_ok-writable.ensures.passed c.args.directory r.0 r.1 c.args.name.now c.in_ok-inode.inode c.time.inside.0 (c.in_ok-inode.ensures.passed (g.P.Pmem.region c.self.inside.memory))
    (growth_is c.self.invariant.0 able.runs able.writes c.cpu.inside.0 c.in_ok-inode.inode able.low c.in_ok-inode.ensures.spot.unused) c.in-Err.refusal (c.in-Err.ensures.refused r.0 r.1)
    )

pub returns-in-Err-clause-call : goal.returns-in-Err-clause-call
returns-in-Err-clause-call g c =
    record {
      call =
          let able = able_as c.self.view_is c.in_ok-writable.ensures.runs c.in_ok-writable.ensures.writes c.in_ok-writable.ensures.cpu in
          let grew = grew_for able refl c.in_ok-inode.ensures.spot.unused c.create_at.ensures.kept.grown in
          rw (← c.cpu.view_is) (grown_refused g.P.Pmem.region g.P.Pmem.fuse c.cpu.inside.0 c.self.view_is c.create_at.new.memory c.create_at.new.tables.layout c.create_at.new.rows.items c.create_at.new.free able refl grew c.in-Err.refusal c.is_stop-self-inside.result c.is_stop-self-inside.ensures.yes c.is_stop-self-inside.ensures.no c.in-Err.ensures.kept.keeps
          (λ off. unchanged_tables c.self.view_is refl c.create_at.new.memory c.create_at.new.tables.layout c.create_at.new.rows.items c.create_at.new.free c.is_stop-self-inside.result able.runs (not_stop c.in-Err.refusal c.is_stop-self-inside.result c.is_stop-self-inside.ensures.yes off) (c.in-Err.ensures.kept.unchanged off)));
      settled = tt;
    }

pub returns-in-Err-clause-stores : goal.returns-in-Err-clause-stores
returns-in-Err-clause-stores g c =
    record {
      journals = tt;
      wrote = rw (← c.cpu.view_is) (λ j held number sound.
          create_stored g.P.Pmem.region c.self.view_is c.self.invariant.0 c.in_ok-writable.ensures.runs (g.P.Pmem.region c.create_at.new.memory) c.cpu.inside.0 c.in_ok-writable.ensures.writes c.args.directory c.in_ok-inode.inode c.in_ok-inode.ensures.in_use c.in_ok-writable.ensures.cpu
          c.args.name.now c.in_ok-inode.ensures.spot c.create_at.ensures.wrote j held number sound
          );
      in_order = rw (← c.cpu.view_is) (λ j number.
          create_ordered g.P.Pmem.region c.self.view_is c.self.invariant.0 c.in_ok-writable.ensures.runs (g.P.Pmem.region c.create_at.new.memory) c.cpu.inside.0 c.in_ok-writable.ensures.writes c.args.directory c.in_ok-inode.inode c.in_ok-inode.ensures.in_use c.in_ok-writable.ensures.cpu
          c.args.name.now c.in_ok-inode.ensures.spot c.create_at.new.tables.layout c.create_at.ensures.in_order j number
          );
    }

pub returns-in_err-writable-clause-any_stop : goal.returns-in_err-writable-clause-any_stop
returns-in_err-writable-clause-any_stop g c on able left may =
    still_grows c.args.self.now (g.P.Pmem.region c.args.self.now.memory) (stays_mounted c.in_err-writable.ensures.kept on able _
    (created_in c.args.kind (new_number c.args.self.now.layout c.args.self.now.rows c.args.cpu) c.args.directory c.args.name.now c.args.mode c.args.time (tree_of (g.P.Pmem.region c.args.self.now.memory) c.args.self.now.rows))
    (logs_created_in c.args.kind c.args.cpu c.args.mode c.args.time c.args.directory c.args.name.now (g.P.Pmem.region c.args.self.now.memory) c.args.self.now) (c.in_err-writable.ensures.settled on) left may)

pub returns-in_err-inode-clause-any_stop : goal.returns-in_err-inode-clause-any_stop
returns-in_err-inode-clause-any_stop g c on able left may =
    still_grows c.args.self.now (g.P.Pmem.region c.args.self.now.memory) (stays_mounted c.in_ok-writable.ensures.kept on able _
    (created_in c.args.kind (new_number c.args.self.now.layout c.args.self.now.rows c.args.cpu) c.args.directory c.args.name.now c.args.mode c.args.time (tree_of (g.P.Pmem.region c.args.self.now.memory) c.args.self.now.rows))
    (logs_created_in c.args.kind c.args.cpu c.args.mode c.args.time c.args.directory c.args.name.now (g.P.Pmem.region c.args.self.now.memory) c.args.self.now) (c.in_ok-writable.ensures.settled on) left may)

pub returns-in-Ok-clause-any_stop : goal.returns-in-Ok-clause-any_stop
returns-in-Ok-clause-any_stop g c =
    rw (← c.cpu.view_is, ← c.time.view_is) (λ on able.
    let able = able_as c.self.view_is c.in_ok-writable.ensures.runs c.in_ok-writable.ensures.writes c.in_ok-writable.ensures.cpu in
    let r = row_in_use c.self.inside.rows.items c.args.directory c.in_ok-inode.ensures.in_use in
    create_left g.P.Pmem.region c.self.view_is c.self.invariant.0 able.runs able.writes (place_in c.self.inside.rows.items c.args.directory) r.0 (at_place c.self.inside.rows.items c.args.directory ∙ r.1) c.args.kind c.args.mode c.time.inside.0 c.in_ok-inode.inode c.args.name.now c.cpu.inside.0 able.low c.in_ok-inode.ensures.name c.args.directory c.in_ok-inode.ensures.spot _ _ _
    (λ held h shows out absent pending. c.create_at.ensures.any_stop r.0 held h r.1 shows out absent pending) (c.self.invariant.2 able.runs)
    )

pub returns-in-Err-clause-any_stop : goal.returns-in-Err-clause-any_stop
returns-in-Err-clause-any_stop g c =
    rw (← c.cpu.view_is, ← c.time.view_is) (λ on able.
    let able = able_as c.self.view_is c.in_ok-writable.ensures.runs c.in_ok-writable.ensures.writes c.in_ok-writable.ensures.cpu in
    let r = row_in_use c.self.inside.rows.items c.args.directory c.in_ok-inode.ensures.in_use in
    create_left g.P.Pmem.region c.self.view_is c.self.invariant.0 able.runs able.writes (place_in c.self.inside.rows.items c.args.directory) r.0 (at_place c.self.inside.rows.items c.args.directory ∙ r.1) c.args.kind c.args.mode c.time.inside.0 c.in_ok-inode.inode c.args.name.now c.cpu.inside.0 able.low c.in_ok-inode.ensures.name c.args.directory c.in_ok-inode.ensures.spot _ _ _
    (λ held h shows out absent pending. c.create_at.ensures.any_stop r.0 held h r.1 shows out absent pending) (c.self.invariant.2 able.runs)
    )

pub returns-in_err-writable-clause-allowed : goal.returns-in_err-writable-clause-allowed
returns-in_err-writable-clause-allowed g c = IfOk-from_err c.from_residual.result _ c.from_residual.ensures.0

pub returns-in_err-writable-clause-number : goal.returns-in_err-writable-clause-number
returns-in_err-writable-clause-number g c = IfOk-from_err c.from_residual.result _ c.from_residual.ensures.0

pub returns-in_err-writable-clause-changed : goal.returns-in_err-writable-clause-changed
returns-in_err-writable-clause-changed g c = IfOk-from_err c.from_residual.result _ c.from_residual.ensures.0

pub returns-in_err-writable-clause-tables : goal.returns-in_err-writable-clause-tables
returns-in_err-writable-clause-tables g c = IfOk-from_err c.from_residual.result _ c.from_residual.ensures.0

pub returns-in_err-writable-clause-log : goal.returns-in_err-writable-clause-log
returns-in_err-writable-clause-log g c j held h number sound is = IfOk-from_err c.from_residual.result _ c.from_residual.ensures.0

pub returns-in_err-inode-clause-allowed : goal.returns-in_err-inode-clause-allowed
returns-in_err-inode-clause-allowed g c = IfOk-from_err c.from_residual-in_err-inode.result _ c.from_residual-in_err-inode.ensures.0

pub returns-in_err-inode-clause-number : goal.returns-in_err-inode-clause-number
returns-in_err-inode-clause-number g c = IfOk-from_err c.from_residual-in_err-inode.result _ c.from_residual-in_err-inode.ensures.0

pub returns-in_err-inode-clause-changed : goal.returns-in_err-inode-clause-changed
returns-in_err-inode-clause-changed g c = IfOk-from_err c.from_residual-in_err-inode.result _ c.from_residual-in_err-inode.ensures.0

pub returns-in_err-inode-clause-tables : goal.returns-in_err-inode-clause-tables
returns-in_err-inode-clause-tables g c = IfOk-from_err c.from_residual-in_err-inode.result _ c.from_residual-in_err-inode.ensures.0

pub returns-in_err-inode-clause-log : goal.returns-in_err-inode-clause-log
returns-in_err-inode-clause-log g c j held h number sound is = IfOk-from_err c.from_residual-in_err-inode.result _ c.from_residual-in_err-inode.ensures.0

pub returns-in-Ok-clause-refused : goal.returns-in-Ok-clause-refused
returns-in-Ok-clause-refused g c still = tt

pub returns-in-Err-clause-allowed : goal.returns-in-Err-clause-allowed
returns-in-Err-clause-allowed g c = tt

pub returns-in-Err-clause-number : goal.returns-in-Err-clause-number
returns-in-Err-clause-number g c = tt

pub returns-in-Err-clause-changed : goal.returns-in-Err-clause-changed
returns-in-Err-clause-changed g c = tt

pub returns-in-Err-clause-tables : goal.returns-in-Err-clause-tables
returns-in-Err-clause-tables g c = tt

pub returns-in-Err-clause-log : goal.returns-in-Err-clause-log
returns-in-Err-clause-log g c j held h number sound is = tt
