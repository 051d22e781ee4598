use Rattle.std.proofs.Common.{◌≡◌, ◌∙◌, ◌%◌, ◌∷◌, [], Some, inl, inr, ap, slice_get, subst, sym, refl}
use Rattle.nv_logpage.specs.Append.{needed}
use Rattle.nv_steps.specs.Stores.{one_less}
use Rattle.nv_paths.specs.Directories.{rmdir_spot_tests}
use Rattle.nv_calls.specs.AtPlaces.{CanGo, cut_of}
use Rattle.nv_calls.specs.NamesByNumber.{StandsFor, entry_blocks, logs_removed_in, removed_in, rmdir_inode_tests}
use Rattle.nv_calls.proofs.FrontsKept.{cut_front}
use Rattle.nv_calls.proofs.OneRow.{stands_right}
use Rattle.nv_calls.proofs.RemoveCall.{can_cut, removed_kept, removed_log, rmdir_last, rmdir_refusal, rmdir_tree}
use Rattle.nv_calls.proofs.StoppedRemovals.{rmdir_left}
use Rattle.std.proofs.lemmas.Result.{err_from_is_err_and, IfOk-from_err}
use Rattle.nv_rows.specs.Rows.{place_in}
use Rattle.nv_rows.proofs.Places.{at_place, row_in_use}
use Rattle.nv_rows.proofs.TableNumbers.{numbers_kept}
use Rattle.nv_scan.specs.declared.piece.Row.{Row}
use Rattle.nv_super.proofs.Members.{stands}
use Rattle.nv_entry.specs.declared.entry.Operation.TheVariants.{Remove}
use Rattle.nv_mounted.specs.Mounted.{ShowsSound}
use Rattle.nv_tree.specs.declared.refusal.Refusal.{Refusal}
use Rattle.nv_tree.specs.Tree.{SameTree}
use Rattle.nv_tree.specs.Refusals.{first_refusal, has_no_space, IsRefusedBy}
use Rattle.nv_tree.proofs.Replies.{refused_by}
use Rattle.nv_steps.specs.Fronts.{SameFrontBut}
use Rattle.nv_steps.specs.NameEntries.{name_entries}
use Rattle.nv_steps.specs.Slots.{slot_in}
use Rattle.nv_paths.specs.Seen.{tree_of}
use Rattle.nv_calls.specs.Mount.{Mount}
use Rattle.nv_calls.specs.RemoveCalls.{ShowsRemoved}
use Rattle.nv_calls.specs.World.{world_of}
use Rattle.nv_calls.proofs.CallKept.{call_done, refused_first, refused_late, refused_later}
use Rattle.nv_calls.proofs.CreateCall.{kept_or_stopped, unchanged_rows}
use Rattle.nv_calls.proofs.GrownCall.{able_as}
use Rattle.nv_calls.proofs.OwnedRow.{owns_blocks}
use Rattle.nv_calls.proofs.SetAttr.{not_stop}
use Rattle.nv_calls.proofs.Stopped.{settled_or_stopped, stays_mounted}
use Rattle.nv_calls.proofs.Tests.{space_allows, space_refuses, writing_goes_on}
use Rattle.nv_calls.proofs.TwoWords.{gone_ordered, gone_stored}
use Rattle.nv_calls.proofs.fs.Fs.rmdir_inode.Goals as goal

pub remove_named-requires-clause-stands : goal.remove_named-requires-clause-stands
remove_named-requires-clause-stands g c row at =
    let able = able_as c.self.view_is c.in_ok-writable.ensures.runs c.in_ok-writable.ensures.writes c.in_ok-writable.ensures.cpu in
    stands_right c.self.invariant.0 able.runs able.writes row (stands c.self.inside.rows.items (place_in c.self.inside.rows.items c.args.directory) row (at_place c.self.inside.rows.items c.args.directory ∙ at))

pub remove_named-requires-clause-can : goal.remove_named-requires-clause-can
remove_named-requires-clause-can g c row gone at there =
    let able = able_as c.self.view_is c.in_ok-writable.ensures.runs c.in_ok-writable.ensures.writes c.in_ok-writable.ensures.cpu in
    let can_go : (gone : Row) → slice_get c.self.inside.rows.items (place_in c.self.inside.rows.items c.in_ok-target.target) ≡ Some gone → CanGo gone = λ gone at. inl (c.in_ok-target.ensures.empty gone (sym (at_place c.self.inside.rows.items c.in_ok-target.target) ∙ at)) in
    can_cut c.self.invariant.0 able.runs able.writes c.cpu.inside.0 able.low (place_in c.self.inside.rows.items c.args.directory) (place_in c.self.inside.rows.items c.in_ok-target.target) c.args.name.now c.args.directory (c.in_ok-target.ensures.spot (g.P.Pmem.region c.self.inside.memory)) row gone (at_place c.self.inside.rows.items c.args.directory ∙ at) (at_place c.self.inside.rows.items c.in_ok-target.target ∙ there) (can_go gone (at_place c.self.inside.rows.items c.in_ok-target.target ∙ there))

pub remove_named-requires-clause-owns : goal.remove_named-requires-clause-owns
remove_named-requires-clause-owns g c gone at =
    let able = able_as c.self.view_is c.in_ok-writable.ensures.runs c.in_ok-writable.ensures.writes c.in_ok-writable.ensures.cpu in
    owns_blocks c.self.invariant.0 able.runs able.writes gone (stands c.self.inside.rows.items (place_in c.self.inside.rows.items c.in_ok-target.target) gone (at_place c.self.inside.rows.items c.in_ok-target.target ∙ at))

pub invariant_of-self : goal.invariant_of-self
invariant_of-self g c =
    let able = able_as c.self.view_is c.in_ok-writable.ensures.runs c.in_ok-writable.ensures.writes c.in_ok-writable.ensures.cpu in
    let can_go : (gone : Row) → slice_get c.self.inside.rows.items (place_in c.self.inside.rows.items c.in_ok-target.target) ≡ Some gone → CanGo gone = λ gone at. inl (c.in_ok-target.ensures.empty gone (sym (at_place c.self.inside.rows.items c.in_ok-target.target) ∙ at)) in
    let step = c.in-Ok.ensures.removed in
    (removed_kept c.self.invariant.0 able.runs able.writes (cut_of step) c.in_ok-target.ensures.name (can_go step.gone step.gone_at) c.args.directory (c.in_ok-target.ensures.spot (g.P.Pmem.region c.self.inside.memory)) step.given c.self.inside.stopped, numbers_kept c.remove_named.ensures.kept.tables.0 c.remove_named.ensures.kept.tables.1 c.self.invariant.1, λ on. c.in-Ok.ensures.kept.settled)

pub returns-in-Ok-clause-allowed : goal.returns-in-Ok-clause-allowed
returns-in-Ok-clause-allowed g c =
    rw (← c.cpu.view_is) (
    let r = row_in_use c.self.inside.rows.items c.args.directory c.in_ok-target.ensures.in_use in
    let i = row_in_use c.self.inside.rows.items c.in_ok-target.target c.in_ok-target.ensures.target in
    let last = rmdir_last g.P.Pmem.region c.self.view_is c.cpu.inside.0 c.in_ok-writable.ensures.passed c.args.directory r.0 i.0 r.1 c.args.name.now c.time.inside.0 (c.in_ok-target.ensures.passed (g.P.Pmem.region c.self.inside.memory)) in
    let tests = rmdir_refusal g.P.Pmem.region c.self.view_is c.cpu.inside.0 c.in_ok-writable.ensures.passed c.args.directory r.0 i.0 r.1 c.args.name.now c.time.inside.0 (c.in_ok-target.ensures.passed (g.P.Pmem.region c.self.inside.memory)) in
    space_allows c.self.view_is tests (needed (r.0.tail % 4096) (name_entries Remove i.0.inode c.args.name.now c.time.inside.0)) last (c.in-Ok.ensures.enough r.0 i.0 r.1 i.1)
    )

pub returns-in-Err-clause-refused : goal.returns-in-Err-clause-refused
returns-in-Err-clause-refused g c =
    rw (← c.cpu.view_is) (λ still.
    let r = row_in_use c.self.inside.rows.items c.args.directory c.in_ok-target.ensures.in_use in
    let i = row_in_use c.self.inside.rows.items c.in_ok-target.target c.in_ok-target.ensures.target in
    let last = rmdir_last g.P.Pmem.region c.self.view_is c.cpu.inside.0 c.in_ok-writable.ensures.passed c.args.directory r.0 i.0 r.1 c.args.name.now c.time.inside.0 (c.in_ok-target.ensures.passed (g.P.Pmem.region c.self.inside.memory)) in
    let tests = rmdir_refusal g.P.Pmem.region c.self.view_is c.cpu.inside.0 c.in_ok-writable.ensures.passed c.args.directory r.0 i.0 r.1 c.args.name.now c.time.inside.0 (c.in_ok-target.ensures.passed (g.P.Pmem.region c.self.inside.memory)) in
    space_refuses c.self.view_is tests (needed (r.0.tail % 4096) (name_entries Remove i.0.inode c.args.name.now c.time.inside.0)) last c.in-Err.refusal (c.in-Err.ensures.refused r.0 i.0 r.1 i.1)
    )

pub returns-in-Ok-clause-changed : goal.returns-in-Ok-clause-changed
returns-in-Ok-clause-changed g c =
    rw (← c.time.view_is) (
    let able = able_as c.self.view_is c.in_ok-writable.ensures.runs c.in_ok-writable.ensures.writes c.in_ok-writable.ensures.cpu in
    let can_go : (gone : Row) → slice_get c.self.inside.rows.items (place_in c.self.inside.rows.items c.in_ok-target.target) ≡ Some gone → CanGo gone = λ gone at. inl (c.in_ok-target.ensures.empty gone (sym (at_place c.self.inside.rows.items c.in_ok-target.target) ∙ at)) in
    let step = c.in-Ok.ensures.removed in
    subst (λ (m : Mount g.row.P.Denot). SameTree (tree_of (g.P.Pmem.region c.remove_named.new.memory) c.remove_named.new.rows.items) (removed_in c.args.directory c.args.name.now c.time.inside.0 (tree_of (g.P.Pmem.region m.memory) m.rows))) c.self.view_is
    (rmdir_tree c.self.invariant.0 able.runs able.writes (cut_of step) c.in_ok-target.ensures.name (can_go step.gone step.gone_at) c.args.directory (c.in_ok-target.ensures.spot (g.P.Pmem.region c.self.inside.memory)))
    )

pub returns-in-Ok-clause-log : goal.returns-in-Ok-clause-log
returns-in-Ok-clause-log g c =
    rw (← c.cpu.view_is, ← c.time.view_is) (λ i node held h led sound is.
    let able = able_as c.self.view_is c.in_ok-writable.ensures.runs c.in_ok-writable.ensures.writes c.in_ok-writable.ensures.cpu in
    let can_go : (gone : Row) → slice_get c.self.inside.rows.items (place_in c.self.inside.rows.items c.in_ok-target.target) ≡ Some gone → CanGo gone = λ gone at. inl (c.in_ok-target.ensures.empty gone (sym (at_place c.self.inside.rows.items c.in_ok-target.target) ∙ at)) in
    let step = c.in-Ok.ensures.removed in
    subst (λ (m : Mount g.row.P.Denot). StandsFor (tree_of (g.P.Pmem.region m.memory) m.rows) c.args.directory c.args.name.now i node → ShowsSound (g.P.Pmem.region m.memory) m.layout held → ShowsRemoved (g.P.Pmem.region c.remove_named.new.memory) m.layout m.free.pools c.cpu.inside.0 held c.args.directory h (name_entries Remove i c.args.name.now c.time.inside.0) i) c.self.view_is
    (λ leads shown. removed_log c.self.invariant.0 able.runs able.writes (cut_of step) c.in_ok-target.ensures.name (can_go step.gone step.gone_at) c.args.directory (c.in_ok-target.ensures.spot (g.P.Pmem.region c.self.inside.memory)) i node held h leads shown is) led sound
    )

pub returns-in-Ok-clause-stores : goal.returns-in-Ok-clause-stores
returns-in-Ok-clause-stores g c =
    record {
      journals = rw (← c.cpu.view_is) (
          let able = able_as c.self.view_is c.in_ok-writable.ensures.runs c.in_ok-writable.ensures.writes c.in_ok-writable.ensures.cpu in
          subst (λ (m : Mount g.row.P.Denot). SameFrontBut m.sup.cpus c.cpu.inside.0 (g.P.Pmem.region m.memory) (g.P.Pmem.region c.remove_named.new.memory)) c.self.view_is
          (cut_front c.self.invariant.0 able.runs able.writes (cut_of c.in-Ok.ensures.removed))
          );
      wrote = rw (← c.cpu.view_is) (λ k node held led sound.
          gone_stored g.P.Pmem.region c.self.view_is c.self.invariant.0 c.in_ok-writable.ensures.runs (g.P.Pmem.region c.remove_named.new.memory) c.cpu.inside.0 c.args.directory c.in_ok-target.target c.in_ok-target.ensures.in_use c.in_ok-target.ensures.target
          c.time.inside.0 c.args.name.now (c.in_ok-target.ensures.spot (g.P.Pmem.region c.self.inside.memory)) (λ count. Unit {0}) (λ t. one_less t c.cpu.inside.0) (λ row gone st h f at gone_at here there any. c.remove_named.ensures.wrote row gone st h at gone_at here) k node held led sound tt
          );
      in_order = rw (← c.cpu.view_is, ← c.time.view_is) (λ k node held h led sound is.
          gone_ordered g.P.Pmem.region c.self.view_is c.self.invariant.0 c.in_ok-writable.ensures.runs (g.P.Pmem.region c.remove_named.new.memory) c.cpu.inside.0 c.args.directory c.in_ok-target.target c.in_ok-target.ensures.in_use c.in_ok-target.ensures.target
          c.time.inside.0 c.args.name.now (c.in_ok-target.ensures.spot (g.P.Pmem.region c.self.inside.memory)) (λ count. Unit {0}) slot_in (λ row gone st h f at gone_at here there any. c.remove_named.ensures.in_order row gone st h at gone_at here) k node held h led sound is tt
          );
    }

pub returns-in-Err-clause-stores : goal.returns-in-Err-clause-stores
returns-in-Err-clause-stores g c =
    record {
      journals = tt;
      wrote = rw (← c.cpu.view_is) (λ k node held led sound.
          gone_stored g.P.Pmem.region c.self.view_is c.self.invariant.0 c.in_ok-writable.ensures.runs (g.P.Pmem.region c.remove_named.new.memory) c.cpu.inside.0 c.args.directory c.in_ok-target.target c.in_ok-target.ensures.in_use c.in_ok-target.ensures.target
          c.time.inside.0 c.args.name.now (c.in_ok-target.ensures.spot (g.P.Pmem.region c.self.inside.memory)) (λ count. Unit {0}) (λ t. one_less t c.cpu.inside.0) (λ row gone st h f at gone_at here there any. c.remove_named.ensures.wrote row gone st h at gone_at here) k node held led sound tt
          );
      in_order = rw (← c.cpu.view_is, ← c.time.view_is) (λ k node held h led sound is.
          gone_ordered g.P.Pmem.region c.self.view_is c.self.invariant.0 c.in_ok-writable.ensures.runs (g.P.Pmem.region c.remove_named.new.memory) c.cpu.inside.0 c.args.directory c.in_ok-target.target c.in_ok-target.ensures.in_use c.in_ok-target.ensures.target
          c.time.inside.0 c.args.name.now (c.in_ok-target.ensures.spot (g.P.Pmem.region c.self.inside.memory)) (λ count. Unit {0}) slot_in (λ row gone st h f at gone_at here there any. c.remove_named.ensures.in_order row gone st h at gone_at here) k node held h led sound is tt
          );
    }

pub returns-in-Ok-clause-any_stop : goal.returns-in-Ok-clause-any_stop
returns-in-Ok-clause-any_stop g c =
    rw (← c.cpu.view_is, ← c.time.view_is) (λ on able.
    let able = able_as c.self.view_is c.in_ok-writable.ensures.runs c.in_ok-writable.ensures.writes c.in_ok-writable.ensures.cpu in
    let r = row_in_use c.self.inside.rows.items c.args.directory c.in_ok-target.ensures.in_use in
    let i = row_in_use c.self.inside.rows.items c.in_ok-target.target c.in_ok-target.ensures.target in
    rmdir_left g.P.Pmem.region c.self.view_is c.self.invariant.0 able.runs able.writes c.args.directory c.in_ok-target.target r.0 i.0 r.1 i.1 c.args.name.now c.cpu.inside.0 c.time.inside.0 c.in_ok-target.ensures.name
    (c.in_ok-target.ensures.spot (g.P.Pmem.region c.self.inside.memory)) (inl (c.in_ok-target.ensures.empty i.0 i.1)) _ _ _
    (λ held h here pending. c.remove_named.ensures.any_stop r.0 i.0 held h r.1 i.1 here pending) (c.self.invariant.2 able.runs)
    )

pub returns-in-Err-clause-any_stop : goal.returns-in-Err-clause-any_stop
returns-in-Err-clause-any_stop g c =
    rw (← c.cpu.view_is, ← c.time.view_is) (λ on able.
    let able = able_as c.self.view_is c.in_ok-writable.ensures.runs c.in_ok-writable.ensures.writes c.in_ok-writable.ensures.cpu in
    let r = row_in_use c.self.inside.rows.items c.args.directory c.in_ok-target.ensures.in_use in
    let i = row_in_use c.self.inside.rows.items c.in_ok-target.target c.in_ok-target.ensures.target in
    rmdir_left g.P.Pmem.region c.self.view_is c.self.invariant.0 able.runs able.writes c.args.directory c.in_ok-target.target r.0 i.0 r.1 i.1 c.args.name.now c.cpu.inside.0 c.time.inside.0 c.in_ok-target.ensures.name
    (c.in_ok-target.ensures.spot (g.P.Pmem.region c.self.inside.memory)) (inl (c.in_ok-target.ensures.empty i.0 i.1)) _ _ _
    (λ held h here pending. c.remove_named.ensures.any_stop r.0 i.0 held h r.1 i.1 here pending) (c.self.invariant.2 able.runs)
    )

pub invariant_of-self-in-Err : goal.invariant_of-self-in-Err
invariant_of-self-in-Err g c =
    let able = able_as c.self.view_is c.in_ok-writable.ensures.runs c.in_ok-writable.ensures.writes c.in_ok-writable.ensures.cpu in (
      kept_or_stopped g.P.Pmem.region c.self.invariant.0 able.runs able.writes c.in-Err.refusal c.is_stop-self-inside.result c.is_stop-self-inside.ensures.yes c.is_stop-self-inside.ensures.no c.remove_named.ensures.kept.lists c.in-Err.ensures.kept.unchanged,
      numbers_kept c.remove_named.ensures.kept.tables.0 c.remove_named.ensures.kept.tables.1 c.self.invariant.1,
      settled_or_stopped g.P.Pmem.region g.P.Pmem.may_hold c.in-Err.refusal c.is_stop-self-inside.result c.is_stop-self-inside.ensures.no (λ off. (c.in-Err.ensures.kept.unchanged off).memory) (c.self.invariant.2 able.runs),
    )

pub returns-in-Ok-clause-call : goal.returns-in-Ok-clause-call
returns-in-Ok-clause-call g c =
    let able = able_as c.self.view_is c.in_ok-writable.ensures.runs c.in_ok-writable.ensures.writes c.in_ok-writable.ensures.cpu in
    call_done g.P.Pmem.region g.P.Pmem.fuse c.self.view_is c.remove_named.new.memory c.remove_named.new.rows.items c.remove_named.new.free able.runs able.writes _ _ c.in-Ok.ensures.kept.keeps

pub returns-in-Ok-clause-settled : goal.returns-in-Ok-clause-settled
returns-in-Ok-clause-settled g c = c.in-Ok.ensures.kept.settled

pub returns-in-Err-clause-call : goal.returns-in-Err-clause-call
returns-in-Err-clause-call g c =
    let able = able_as c.self.view_is c.in_ok-writable.ensures.runs c.in_ok-writable.ensures.writes c.in_ok-writable.ensures.cpu in
    refused_late g.P.Pmem.region g.P.Pmem.fuse c.self.view_is c.remove_named.new.memory c.remove_named.new.rows.items c.remove_named.new.free able.runs able.writes c.in-Err.refusal c.is_stop-self-inside.result c.is_stop-self-inside.ensures.yes c.is_stop-self-inside.ensures.no c.in-Err.ensures.kept.keeps
    (λ off. unchanged_rows c.self.view_is c.remove_named.new.memory c.remove_named.new.rows.items c.remove_named.new.free c.is_stop-self-inside.result able.runs (not_stop c.in-Err.refusal c.is_stop-self-inside.result c.is_stop-self-inside.ensures.yes off) (c.in-Err.ensures.kept.unchanged off))

pub returns-in_err-writable-clause-refused : goal.returns-in_err-writable-clause-refused
returns-in_err-writable-clause-refused g c =
    rw (← c.cpu.view_is) (λ runs.
    let tree = tree_of (g.P.Pmem.region c.args.self.now.memory) c.args.self.now.rows in
    let count = entry_blocks c.args.self.now.rows c.args.directory c.args.name.now in
    let w = err_from_is_err_and c.from_residual.result c.from_residual.ensures.1 in
    refused_by c.from_residual.result c.in_err-writable.field-0.0 w.0 (IsRefusedBy (first_refusal (rmdir_inode_tests (world_of c.args.self.now) tree c.cpu.inside.0 c.args.directory c.args.name.now count))) w.1 w.2
    (inr (inr (c.in_err-writable.ensures.refused runs (rmdir_spot_tests tree c.args.directory c.args.name.now (has_no_space (world_of c.args.self.now) count ∷ [])))))
    )

pub returns-in_err-writable-clause-call : goal.returns-in_err-writable-clause-call
returns-in_err-writable-clause-call g c =
    let w = err_from_is_err_and c.from_residual.result c.from_residual.ensures.1 in
    refused_first g.P.Pmem.region g.P.Pmem.fuse c.args.self.now c.from_residual.result c.in_err-writable.field-0.0 w.0 w.1 w.2 c.in_err-writable.ensures.stopped
    (λ runs is. writing_goes_on (world_of c.args.self.now) c.cpu.inside.0 (c.in_err-writable.ensures.refused runs [] ∙ ap (λ (e : Refusal). Some e) is))

pub returns-in_err-target-clause-refused : goal.returns-in_err-target-clause-refused
returns-in_err-target-clause-refused g c =
    rw (← c.cpu.view_is) (λ still.
    let tree = tree_of (g.P.Pmem.region c.args.self.now.memory) c.args.self.now.rows in
    let count = entry_blocks c.args.self.now.rows c.args.directory c.args.name.now in
    let space = has_no_space (world_of c.args.self.now) count ∷ [] in
    let told = subst (λ (m : Mount g.row.P.Denot). first_refusal (rmdir_spot_tests (tree_of (g.P.Pmem.region m.memory) m.rows) c.args.directory c.args.name.now space) ≡ Some c.in_err-target.field-0.0) c.self.view_is
    (c.in_err-target.ensures.refused (g.P.Pmem.region c.self.inside.memory) space) in
    let w = err_from_is_err_and c.from_residual-in_err-target.result c.from_residual-in_err-target.ensures.1 in
    refused_by c.from_residual-in_err-target.result c.in_err-target.field-0.0 w.0 (IsRefusedBy (first_refusal (rmdir_inode_tests (world_of c.args.self.now) tree c.cpu.inside.0 c.args.directory c.args.name.now count))) w.1 w.2
    (inr (inr (c.in_ok-writable.ensures.passed (rmdir_spot_tests tree c.args.directory c.args.name.now space) ∙ told)))
    )

pub returns-in_err-target-clause-call : goal.returns-in_err-target-clause-call
returns-in_err-target-clause-call g c =
    let w = err_from_is_err_and c.from_residual-in_err-target.result c.from_residual-in_err-target.ensures.1 in
    refused_later g.P.Pmem.region g.P.Pmem.fuse c.args.self.now c.from_residual-in_err-target.result c.in_err-target.field-0.0 w.0 w.1 w.2 c.in_ok-writable.ensures.runs c.in_err-target.ensures.goes_on

pub returns-in_err-writable-clause-allowed : goal.returns-in_err-writable-clause-allowed
returns-in_err-writable-clause-allowed g c = IfOk-from_err c.from_residual.result _ c.from_residual.ensures.0

pub returns-in_err-writable-clause-changed : goal.returns-in_err-writable-clause-changed
returns-in_err-writable-clause-changed g c = IfOk-from_err c.from_residual.result _ c.from_residual.ensures.0

pub returns-in_err-writable-clause-log : goal.returns-in_err-writable-clause-log
returns-in_err-writable-clause-log g c = IfOk-from_err c.from_residual.result _ c.from_residual.ensures.0

pub returns-in_err-writable-clause-settled : goal.returns-in_err-writable-clause-settled
returns-in_err-writable-clause-settled g c = IfOk-from_err c.from_residual.result _ c.from_residual.ensures.0

pub returns-in_err-writable-clause-stores : goal.returns-in_err-writable-clause-stores
returns-in_err-writable-clause-stores g c =
    record {
      journals = IfOk-from_err c.from_residual.result _ c.from_residual.ensures.0;
      wrote = λ k node held led sound. λ at whole away. refl;
      in_order = λ k node held h led sound is. ∣ inl refl ∣₁;
    }

pub returns-in_err-writable-clause-any_stop : goal.returns-in_err-writable-clause-any_stop
returns-in_err-writable-clause-any_stop g c on able =
    stays_mounted c.in_err-writable.ensures.kept on able _ (removed_in c.args.directory c.args.name.now c.args.time (tree_of (g.P.Pmem.region c.args.self.now.memory) c.args.self.now.rows))
    (logs_removed_in c.args.cpu c.args.time c.args.directory c.args.name.now (g.P.Pmem.region c.args.self.now.memory) c.args.self.now) (c.in_err-writable.ensures.settled on)

pub returns-in_err-target-clause-allowed : goal.returns-in_err-target-clause-allowed
returns-in_err-target-clause-allowed g c = IfOk-from_err c.from_residual-in_err-target.result _ c.from_residual-in_err-target.ensures.0

pub returns-in_err-target-clause-changed : goal.returns-in_err-target-clause-changed
returns-in_err-target-clause-changed g c = IfOk-from_err c.from_residual-in_err-target.result _ c.from_residual-in_err-target.ensures.0

pub returns-in_err-target-clause-log : goal.returns-in_err-target-clause-log
returns-in_err-target-clause-log g c = IfOk-from_err c.from_residual-in_err-target.result _ c.from_residual-in_err-target.ensures.0

pub returns-in_err-target-clause-settled : goal.returns-in_err-target-clause-settled
returns-in_err-target-clause-settled g c = IfOk-from_err c.from_residual-in_err-target.result _ c.from_residual-in_err-target.ensures.0

pub returns-in_err-target-clause-stores : goal.returns-in_err-target-clause-stores
returns-in_err-target-clause-stores g c =
    record {
      journals = IfOk-from_err c.from_residual-in_err-target.result _ c.from_residual-in_err-target.ensures.0;
      wrote = λ k node held led sound. λ at whole away. refl;
      in_order = λ k node held h led sound is. ∣ inl refl ∣₁;
    }

pub returns-in_err-target-clause-any_stop : goal.returns-in_err-target-clause-any_stop
returns-in_err-target-clause-any_stop g c on able =
    stays_mounted c.in_ok-writable.ensures.kept on able _ (removed_in c.args.directory c.args.name.now c.args.time (tree_of (g.P.Pmem.region c.args.self.now.memory) c.args.self.now.rows))
    (logs_removed_in c.args.cpu c.args.time c.args.directory c.args.name.now (g.P.Pmem.region c.args.self.now.memory) c.args.self.now) (c.in_ok-writable.ensures.settled on)

pub returns-in-Ok-clause-refused : goal.returns-in-Ok-clause-refused
returns-in-Ok-clause-refused g c still = tt

pub returns-in-Err-clause-allowed : goal.returns-in-Err-clause-allowed
returns-in-Err-clause-allowed g c = tt

pub returns-in-Err-clause-changed : goal.returns-in-Err-clause-changed
returns-in-Err-clause-changed g c = tt

pub returns-in-Err-clause-log : goal.returns-in-Err-clause-log
returns-in-Err-clause-log g c = tt

pub returns-in-Err-clause-settled : goal.returns-in-Err-clause-settled
returns-in-Err-clause-settled g c = tt
