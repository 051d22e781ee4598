use Rattle.std.proofs.Common.{◌≡◌, ◌∙◌, ◌<◌, ◌≤◌, ◌-◌, ◌∷◌, [], Some, inl, inr, ap, slice_get, subst, sym, refl}
use Rattle.nv_super.specs.declared.kind.Kind.TheVariants.{File}
use Rattle.nv_steps.specs.InOrder.{tail_address}
use Rattle.nv_steps.specs.Stores.{one_less, two_logs}
use Rattle.nv_paths.specs.Directories.{unlink_spot_tests}
use Rattle.nv_calls.specs.AtPlaces.{release_blocks}
use Rattle.nv_calls.specs.LinkCalls.{ShowsBothGrew}
use Rattle.nv_calls.specs.NamesByNumber.{LogsUnlinkedIn, StandsFor, unlink_inode_blocks, unlink_inode_tests, unlinked_in}
use Rattle.nv_calls.proofs.FrontsKept.{released_front}
use Rattle.nv_calls.proofs.Kept.{rows_rise}
use Rattle.nv_calls.proofs.LinkedHeld.{kinds_apart, kinds_differ}
use Rattle.nv_calls.proofs.NewNumbers.{can_name}
use Rattle.nv_calls.proofs.RowNumbers.{row_commits, row_number}
use Rattle.nv_calls.proofs.StoppedRemovals.{unlink_left}
use Rattle.nv_calls.proofs.UnlinkCall.{released_at, unlink_kept, unlink_last, unlink_last_test, unlink_logs, unlink_refusal, unlink_tree}
use Rattle.std.proofs.lemmas.Result.{err_from_is_err_and, IfOk-from_err}
use Rattle.nv_rows.specs.Rows.{place_in}
use Rattle.nv_rows.proofs.Places.{at_place, own_row, row_in_use}
use Rattle.nv_rows.proofs.TableNumbers.{numbers_kept}
use Rattle.nv_scan.specs.declared.piece.Row.{Row}
use Rattle.nv_super.proofs.Members.{stands}
use Rattle.nv_entry.specs.declared.entry.Operation.TheVariants.{Remove}
use Rattle.nv_mounted.specs.Mounted.{ShowsSound}
use Rattle.nv_tree.specs.declared.refusal.Refusal.{Refusal}
use Rattle.nv_tree.specs.Tree.{SameTree}
use Rattle.nv_tree.specs.Refusals.{first_refusal, has_no_space, IsRefusedBy}
use Rattle.nv_tree.proofs.Replies.{refused_by}
use Rattle.nv_steps.specs.Fronts.{SameFrontBut}
use Rattle.nv_steps.specs.NameEntries.{links_entries, name_entries}
use Rattle.nv_steps.specs.Slots.{slot_in}
use Rattle.nv_paths.specs.Seen.{tree_of}
use Rattle.nv_calls.specs.Mount.{Mount}
use Rattle.nv_calls.specs.RemoveCalls.{ShowsRemoved}
use Rattle.nv_calls.specs.World.{world_of}
use Rattle.nv_calls.proofs.CallKept.{call_done, refused_first, refused_late, refused_later}
use Rattle.nv_calls.proofs.CreateCall.{kept_or_stopped, unchanged_rows}
use Rattle.nv_calls.proofs.GrownCall.{able_as}
use Rattle.nv_calls.proofs.OwnedRow.{owns_blocks}
use Rattle.nv_calls.proofs.SetAttr.{not_stop}
use Rattle.nv_calls.proofs.Stopped.{settled_or_stopped, stays_mounted}
use Rattle.nv_calls.proofs.Tests.{space_allows, space_refuses, writing_goes_on}
use Rattle.nv_calls.proofs.TwoWords.{gone_ordered, gone_stored}
use Rattle.nv_calls.proofs.fs.Fs.unlink_inode.Goals as goal

pub release_at-requires-clause-stands : goal.release_at-requires-clause-stands
release_at-requires-clause-stands g c row at =
    let able = able_as c.self.view_is c.in_ok-writable.ensures.runs c.in_ok-writable.ensures.writes c.in_ok-writable.ensures.cpu in
    row_commits c.self.invariant.0 able.runs able.writes row (stands c.self.inside.rows.items (place_in c.self.inside.rows.items c.args.directory) row (at_place c.self.inside.rows.items c.args.directory ∙ at)) c.cpu.inside.0 able.low

pub release_at-requires-clause-file_stands : goal.release_at-requires-clause-file_stands
release_at-requires-clause-file_stands g c file at =
    let able = able_as c.self.view_is c.in_ok-writable.ensures.runs c.in_ok-writable.ensures.writes c.in_ok-writable.ensures.cpu in
    row_commits c.self.invariant.0 able.runs able.writes file (stands c.self.inside.rows.items (place_in c.self.inside.rows.items c.in_ok-target.target) file (at_place c.self.inside.rows.items c.in_ok-target.target ∙ at)) c.cpu.inside.0 able.low

pub release_at-requires-clause-apart : goal.release_at-requires-clause-apart
release_at-requires-clause-apart g c =
    let r = row_in_use c.self.inside.rows.items c.args.directory c.in_ok-target.ensures.in_use in
    let i = row_in_use c.self.inside.rows.items c.in_ok-target.target c.in_ok-target.ensures.target in
    let here = at_place c.self.inside.rows.items c.args.directory ∙ r.1 in
    (λ same. kinds_apart c.self.inside.rows.items (place_in c.self.inside.rows.items c.in_ok-target.target) (place_in c.self.inside.rows.items c.args.directory) i.0 r.0 (at_place c.self.inside.rows.items c.in_ok-target.target ∙ i.1) here (c.in_ok-target.ensures.file i.0 i.1) (((c.in_ok-target.ensures.spot (g.P.Pmem.region c.self.inside.memory))).directory r.0 here).1 (ap (place_in c.self.inside.rows.items) (sym same)))

pub release_at-requires-clause-can : goal.release_at-requires-clause-can
release_at-requires-clause-can g c row file at there =
    let able = able_as c.self.view_is c.in_ok-writable.ensures.runs c.in_ok-writable.ensures.writes c.in_ok-writable.ensures.cpu in
    let rises = rows_rise (g.P.Pmem.region c.self.inside.memory) c.self.inside.tables.layout.sup c.self.inside.tables.layout c.self.inside.rows.items c.self.inside.free c.self.inside.faults.items c.self.inside.read_only c.self.inside.stopped c.self.invariant.0 able.runs in
    let here = at_place c.self.inside.rows.items c.args.directory ∙ at in
    let file_at = at_place c.self.inside.rows.items c.in_ok-target.target ∙ there in (
      can_name c.self.invariant.0 able.runs able.writes c.cpu.inside.0 file.inode able.low (row_number c.self.invariant.0 able.runs able.writes file (stands c.self.inside.rows.items (place_in c.self.inside.rows.items c.in_ok-target.target) file file_at)) row (stands c.self.inside.rows.items (place_in c.self.inside.rows.items c.args.directory) row here),
      (λ same. kinds_differ c.self.inside.rows.items (place_in c.self.inside.rows.items c.in_ok-target.target) (place_in c.self.inside.rows.items c.args.directory) file row rises file_at here (c.in_ok-target.ensures.file file there) (((c.in_ok-target.ensures.spot (g.P.Pmem.region c.self.inside.memory))).directory row here).1 (sym same)),
    )

pub release_at-requires-clause-owns : goal.release_at-requires-clause-owns
release_at-requires-clause-owns g c gone at =
    let able = able_as c.self.view_is c.in_ok-writable.ensures.runs c.in_ok-writable.ensures.writes c.in_ok-writable.ensures.cpu in
    owns_blocks c.self.invariant.0 able.runs able.writes gone (stands c.self.inside.rows.items (place_in c.self.inside.rows.items c.in_ok-target.target) gone (at_place c.self.inside.rows.items c.in_ok-target.target ∙ at))

pub invariant_of-self : goal.invariant_of-self
invariant_of-self g c =
    let able = able_as c.self.view_is c.in_ok-writable.ensures.runs c.in_ok-writable.ensures.writes c.in_ok-writable.ensures.cpu in
    let files : (row : Row) → slice_get c.self.inside.rows.items (place_in c.self.inside.rows.items c.in_ok-target.target) ≡ Some row → row.kind ≡ File = λ row at. c.in_ok-target.ensures.file row (sym (at_place c.self.inside.rows.items c.in_ok-target.target) ∙ at) in
    (unlink_kept c.self.invariant.0 able.runs able.writes c.in-Ok.ensures.released c.in_ok-target.ensures.name files c.args.directory (c.in_ok-target.ensures.spot (g.P.Pmem.region c.self.inside.memory)) c.self.inside.stopped, numbers_kept c.release_at.ensures.kept.tables.0 c.release_at.ensures.kept.tables.1 c.self.invariant.1, λ on. c.in-Ok.ensures.kept.settled)

pub returns-in-Ok-clause-allowed : goal.returns-in-Ok-clause-allowed
returns-in-Ok-clause-allowed g c =
    rw (← c.cpu.view_is) (
    let r = row_in_use c.self.inside.rows.items c.args.directory c.in_ok-target.ensures.in_use in
    let i = row_in_use c.self.inside.rows.items c.in_ok-target.target c.in_ok-target.ensures.target in
    let own = own_row c.self.inside.rows.items c.in_ok-target.target i.0 i.1 in
    let leads = ((c.in_ok-target.ensures.spot (g.P.Pmem.region c.self.inside.memory))).leads i.0 (at_place c.self.inside.rows.items c.in_ok-target.target ∙ i.1) in
    let last = unlink_last_test g.P.Pmem.region c.self.view_is c.cpu.inside.0 c.in_ok-writable.ensures.passed c.args.directory r.0 i.0 r.1 own c.args.name.now c.time.inside.0 leads (c.in_ok-target.ensures.passed (g.P.Pmem.region c.self.inside.memory)) in
    let tests = unlink_refusal g.P.Pmem.region c.self.view_is c.cpu.inside.0 c.in_ok-writable.ensures.passed c.args.directory r.0 i.0 r.1 own c.args.name.now c.time.inside.0 leads (c.in_ok-target.ensures.passed (g.P.Pmem.region c.self.inside.memory)) in
    space_allows c.self.view_is tests (release_blocks r.0 i.0 c.args.name.now c.time.inside.0) last (c.in-Ok.ensures.enough r.0 i.0 r.1 i.1)
    )

pub returns-in-Err-clause-refused : goal.returns-in-Err-clause-refused
returns-in-Err-clause-refused g c =
    rw (← c.cpu.view_is) (λ still.
    let r = row_in_use c.self.inside.rows.items c.args.directory c.in_ok-target.ensures.in_use in
    let i = row_in_use c.self.inside.rows.items c.in_ok-target.target c.in_ok-target.ensures.target in
    let own = own_row c.self.inside.rows.items c.in_ok-target.target i.0 i.1 in
    let leads = ((c.in_ok-target.ensures.spot (g.P.Pmem.region c.self.inside.memory))).leads i.0 (at_place c.self.inside.rows.items c.in_ok-target.target ∙ i.1) in
    let last = unlink_last_test g.P.Pmem.region c.self.view_is c.cpu.inside.0 c.in_ok-writable.ensures.passed c.args.directory r.0 i.0 r.1 own c.args.name.now c.time.inside.0 leads (c.in_ok-target.ensures.passed (g.P.Pmem.region c.self.inside.memory)) in
    let tests = unlink_refusal g.P.Pmem.region c.self.view_is c.cpu.inside.0 c.in_ok-writable.ensures.passed c.args.directory r.0 i.0 r.1 own c.args.name.now c.time.inside.0 leads (c.in_ok-target.ensures.passed (g.P.Pmem.region c.self.inside.memory)) in
    space_refuses c.self.view_is tests (release_blocks r.0 i.0 c.args.name.now c.time.inside.0) last c.in-Err.refusal (c.in-Err.ensures.refused r.0 i.0 r.1 i.1)
    )

pub returns-in-Ok-clause-changed : goal.returns-in-Ok-clause-changed
returns-in-Ok-clause-changed g c =
    rw (← c.time.view_is) (
    let able = able_as c.self.view_is c.in_ok-writable.ensures.runs c.in_ok-writable.ensures.writes c.in_ok-writable.ensures.cpu in
    let files : (row : Row) → slice_get c.self.inside.rows.items (place_in c.self.inside.rows.items c.in_ok-target.target) ≡ Some row → row.kind ≡ File = λ row at. c.in_ok-target.ensures.file row (sym (at_place c.self.inside.rows.items c.in_ok-target.target) ∙ at) in
    subst (λ (m : Mount g.row.P.Denot). SameTree (tree_of (g.P.Pmem.region c.release_at.new.memory) c.release_at.new.rows.items) (unlinked_in c.args.directory c.args.name.now c.time.inside.0 (tree_of (g.P.Pmem.region m.memory) m.rows))) c.self.view_is
    (unlink_tree c.self.invariant.0 able.runs able.writes c.in-Ok.ensures.released c.in_ok-target.ensures.name files c.args.directory (c.in_ok-target.ensures.spot (g.P.Pmem.region c.self.inside.memory)))
    )

pub returns-in-Ok-clause-log : goal.returns-in-Ok-clause-log
returns-in-Ok-clause-log g c =
    rw (← c.cpu.view_is, ← c.time.view_is) (
    let able = able_as c.self.view_is c.in_ok-writable.ensures.runs c.in_ok-writable.ensures.writes c.in_ok-writable.ensures.cpu in
    let files : (row : Row) → slice_get c.self.inside.rows.items (place_in c.self.inside.rows.items c.in_ok-target.target) ≡ Some row → row.kind ≡ File = λ row at. c.in_ok-target.ensures.file row (sym (at_place c.self.inside.rows.items c.in_ok-target.target) ∙ at) in
    subst (λ (m : Mount g.row.P.Denot). LogsUnlinkedIn c.cpu.inside.0 c.time.inside.0 c.args.directory c.args.name.now (g.P.Pmem.region m.memory) m (g.P.Pmem.region c.release_at.new.memory)) c.self.view_is
    (record {
      more = λ i node held h f led sound is other_is some. unlink_logs c.self.invariant.0 able.runs able.writes (released_at c.in-Ok.ensures.released) c.in_ok-target.ensures.name files c.args.directory (c.in_ok-target.ensures.spot (g.P.Pmem.region c.self.inside.memory)) i node held h f led sound is other_is some;
      last = λ i node held h led sound is few. unlink_last c.self.invariant.0 able.runs able.writes (released_at c.in-Ok.ensures.released) c.in_ok-target.ensures.name files c.args.directory (c.in_ok-target.ensures.spot (g.P.Pmem.region c.self.inside.memory)) i node held h led sound is few;
    })
    )

pub returns-in-Ok-clause-stores : goal.returns-in-Ok-clause-stores
returns-in-Ok-clause-stores g c =
    record {
      journals = rw (← c.cpu.view_is) (
          let able = able_as c.self.view_is c.in_ok-writable.ensures.runs c.in_ok-writable.ensures.writes c.in_ok-writable.ensures.cpu in
          subst (λ (m : Mount g.row.P.Denot). SameFrontBut m.sup.cpus c.cpu.inside.0 (g.P.Pmem.region m.memory) (g.P.Pmem.region c.release_at.new.memory)) c.self.view_is
          (released_front c.self.invariant.0 able.runs able.writes c.in-Ok.ensures.released)
          );
      wrote = rw (← c.cpu.view_is) (λ k node held led sound some.
          gone_stored g.P.Pmem.region c.self.view_is c.self.invariant.0 c.in_ok-writable.ensures.runs (g.P.Pmem.region c.release_at.new.memory) c.cpu.inside.0 c.args.directory c.in_ok-target.target c.in_ok-target.ensures.in_use c.in_ok-target.ensures.target
          c.time.inside.0 c.args.name.now (c.in_ok-target.ensures.spot (g.P.Pmem.region c.self.inside.memory)) (λ count. 1 < count) (λ t. two_logs t c.cpu.inside.0) c.release_at.ensures.wrote k node held led sound some
          );
      last_wrote = rw (← c.cpu.view_is) (λ k node held led sound few.
          gone_stored g.P.Pmem.region c.self.view_is c.self.invariant.0 c.in_ok-writable.ensures.runs (g.P.Pmem.region c.release_at.new.memory) c.cpu.inside.0 c.args.directory c.in_ok-target.target c.in_ok-target.ensures.in_use c.in_ok-target.ensures.target
          c.time.inside.0 c.args.name.now (c.in_ok-target.ensures.spot (g.P.Pmem.region c.self.inside.memory)) (λ count. count ≤ 1) (λ t. one_less t c.cpu.inside.0) c.release_at.ensures.last_wrote k node held led sound few
          );
      in_order = rw (← c.cpu.view_is, ← c.time.view_is) (λ k node held h led sound is some.
          gone_ordered g.P.Pmem.region c.self.view_is c.self.invariant.0 c.in_ok-writable.ensures.runs (g.P.Pmem.region c.release_at.new.memory) c.cpu.inside.0 c.args.directory c.in_ok-target.target c.in_ok-target.ensures.in_use c.in_ok-target.ensures.target
          c.time.inside.0 c.args.name.now (c.in_ok-target.ensures.spot (g.P.Pmem.region c.self.inside.memory)) (λ count. 1 < count) tail_address c.release_at.ensures.in_order k node held h led sound is some
          );
      last_in_order = rw (← c.cpu.view_is, ← c.time.view_is) (λ k node held h led sound is few.
          gone_ordered g.P.Pmem.region c.self.view_is c.self.invariant.0 c.in_ok-writable.ensures.runs (g.P.Pmem.region c.release_at.new.memory) c.cpu.inside.0 c.args.directory c.in_ok-target.target c.in_ok-target.ensures.in_use c.in_ok-target.ensures.target
          c.time.inside.0 c.args.name.now (c.in_ok-target.ensures.spot (g.P.Pmem.region c.self.inside.memory)) (λ count. count ≤ 1) slot_in c.release_at.ensures.last_in_order k node held h led sound is few
          );
    }

pub returns-in-Err-clause-stores : goal.returns-in-Err-clause-stores
returns-in-Err-clause-stores g c =
    record {
      journals = tt;
      wrote = rw (← c.cpu.view_is) (λ k node held led sound some.
          gone_stored g.P.Pmem.region c.self.view_is c.self.invariant.0 c.in_ok-writable.ensures.runs (g.P.Pmem.region c.release_at.new.memory) c.cpu.inside.0 c.args.directory c.in_ok-target.target c.in_ok-target.ensures.in_use c.in_ok-target.ensures.target
          c.time.inside.0 c.args.name.now (c.in_ok-target.ensures.spot (g.P.Pmem.region c.self.inside.memory)) (λ count. 1 < count) (λ t. two_logs t c.cpu.inside.0) c.release_at.ensures.wrote k node held led sound some
          );
      last_wrote = rw (← c.cpu.view_is) (λ k node held led sound few.
          gone_stored g.P.Pmem.region c.self.view_is c.self.invariant.0 c.in_ok-writable.ensures.runs (g.P.Pmem.region c.release_at.new.memory) c.cpu.inside.0 c.args.directory c.in_ok-target.target c.in_ok-target.ensures.in_use c.in_ok-target.ensures.target
          c.time.inside.0 c.args.name.now (c.in_ok-target.ensures.spot (g.P.Pmem.region c.self.inside.memory)) (λ count. count ≤ 1) (λ t. one_less t c.cpu.inside.0) c.release_at.ensures.last_wrote k node held led sound few
          );
      in_order = rw (← c.cpu.view_is, ← c.time.view_is) (λ k node held h led sound is some.
          gone_ordered g.P.Pmem.region c.self.view_is c.self.invariant.0 c.in_ok-writable.ensures.runs (g.P.Pmem.region c.release_at.new.memory) c.cpu.inside.0 c.args.directory c.in_ok-target.target c.in_ok-target.ensures.in_use c.in_ok-target.ensures.target
          c.time.inside.0 c.args.name.now (c.in_ok-target.ensures.spot (g.P.Pmem.region c.self.inside.memory)) (λ count. 1 < count) tail_address c.release_at.ensures.in_order k node held h led sound is some
          );
      last_in_order = rw (← c.cpu.view_is, ← c.time.view_is) (λ k node held h led sound is few.
          gone_ordered g.P.Pmem.region c.self.view_is c.self.invariant.0 c.in_ok-writable.ensures.runs (g.P.Pmem.region c.release_at.new.memory) c.cpu.inside.0 c.args.directory c.in_ok-target.target c.in_ok-target.ensures.in_use c.in_ok-target.ensures.target
          c.time.inside.0 c.args.name.now (c.in_ok-target.ensures.spot (g.P.Pmem.region c.self.inside.memory)) (λ count. count ≤ 1) slot_in c.release_at.ensures.last_in_order k node held h led sound is few
          );
    }

pub returns-in-Ok-clause-any_stop : goal.returns-in-Ok-clause-any_stop
returns-in-Ok-clause-any_stop g c =
    rw (← c.cpu.view_is, ← c.time.view_is) (λ on able.
    let able = able_as c.self.view_is c.in_ok-writable.ensures.runs c.in_ok-writable.ensures.writes c.in_ok-writable.ensures.cpu in
    let r = row_in_use c.self.inside.rows.items c.args.directory c.in_ok-target.ensures.in_use in
    let i = row_in_use c.self.inside.rows.items c.in_ok-target.target c.in_ok-target.ensures.target in
    unlink_left g.P.Pmem.region c.self.view_is c.self.invariant.0 able.runs able.writes c.args.directory c.in_ok-target.target r.0 i.0 r.1 i.1 c.args.name.now c.cpu.inside.0 c.time.inside.0 c.in_ok-target.ensures.name
    (c.in_ok-target.ensures.spot (g.P.Pmem.region c.self.inside.memory)) (c.in_ok-target.ensures.file i.0 i.1) _ _ _
    (λ held h f here other pending. c.release_at.ensures.any_stop r.0 i.0 held h f r.1 i.1 here other pending) (c.self.invariant.2 able.runs)
    )

pub returns-in-Err-clause-any_stop : goal.returns-in-Err-clause-any_stop
returns-in-Err-clause-any_stop g c =
    rw (← c.cpu.view_is, ← c.time.view_is) (λ on able.
    let able = able_as c.self.view_is c.in_ok-writable.ensures.runs c.in_ok-writable.ensures.writes c.in_ok-writable.ensures.cpu in
    let r = row_in_use c.self.inside.rows.items c.args.directory c.in_ok-target.ensures.in_use in
    let i = row_in_use c.self.inside.rows.items c.in_ok-target.target c.in_ok-target.ensures.target in
    unlink_left g.P.Pmem.region c.self.view_is c.self.invariant.0 able.runs able.writes c.args.directory c.in_ok-target.target r.0 i.0 r.1 i.1 c.args.name.now c.cpu.inside.0 c.time.inside.0 c.in_ok-target.ensures.name
    (c.in_ok-target.ensures.spot (g.P.Pmem.region c.self.inside.memory)) (c.in_ok-target.ensures.file i.0 i.1) _ _ _
    (λ held h f here other pending. c.release_at.ensures.any_stop r.0 i.0 held h f r.1 i.1 here other pending) (c.self.invariant.2 able.runs)
    )

pub invariant_of-self-in-Err : goal.invariant_of-self-in-Err
invariant_of-self-in-Err g c =
    let able = able_as c.self.view_is c.in_ok-writable.ensures.runs c.in_ok-writable.ensures.writes c.in_ok-writable.ensures.cpu in (
      kept_or_stopped g.P.Pmem.region c.self.invariant.0 able.runs able.writes c.in-Err.refusal c.is_stop-self-inside.result c.is_stop-self-inside.ensures.yes c.is_stop-self-inside.ensures.no c.release_at.ensures.kept.lists c.in-Err.ensures.kept.unchanged,
      numbers_kept c.release_at.ensures.kept.tables.0 c.release_at.ensures.kept.tables.1 c.self.invariant.1,
      settled_or_stopped g.P.Pmem.region g.P.Pmem.may_hold c.in-Err.refusal c.is_stop-self-inside.result c.is_stop-self-inside.ensures.no (λ off. (c.in-Err.ensures.kept.unchanged off).memory) (c.self.invariant.2 able.runs),
    )

pub returns-in-Ok-clause-call : goal.returns-in-Ok-clause-call
returns-in-Ok-clause-call g c =
    let able = able_as c.self.view_is c.in_ok-writable.ensures.runs c.in_ok-writable.ensures.writes c.in_ok-writable.ensures.cpu in
    call_done g.P.Pmem.region g.P.Pmem.fuse c.self.view_is c.release_at.new.memory c.release_at.new.rows.items c.release_at.new.free able.runs able.writes _ _ c.in-Ok.ensures.kept.keeps

pub returns-in-Ok-clause-settled : goal.returns-in-Ok-clause-settled
returns-in-Ok-clause-settled g c = c.in-Ok.ensures.kept.settled

pub returns-in-Err-clause-call : goal.returns-in-Err-clause-call
returns-in-Err-clause-call g c =
    let able = able_as c.self.view_is c.in_ok-writable.ensures.runs c.in_ok-writable.ensures.writes c.in_ok-writable.ensures.cpu in
    refused_late g.P.Pmem.region g.P.Pmem.fuse c.self.view_is c.release_at.new.memory c.release_at.new.rows.items c.release_at.new.free able.runs able.writes c.in-Err.refusal c.is_stop-self-inside.result c.is_stop-self-inside.ensures.yes c.is_stop-self-inside.ensures.no c.in-Err.ensures.kept.keeps
    (λ off. unchanged_rows c.self.view_is c.release_at.new.memory c.release_at.new.rows.items c.release_at.new.free c.is_stop-self-inside.result able.runs (not_stop c.in-Err.refusal c.is_stop-self-inside.result c.is_stop-self-inside.ensures.yes off) (c.in-Err.ensures.kept.unchanged off))

pub returns-in_err-writable-clause-refused : goal.returns-in_err-writable-clause-refused
returns-in_err-writable-clause-refused g c =
    rw (← c.cpu.view_is) (λ runs.
    let tree = tree_of (g.P.Pmem.region c.args.self.now.memory) c.args.self.now.rows in
    let count = unlink_inode_blocks c.args.self.now.rows tree c.args.directory c.args.name.now in
    let w = err_from_is_err_and c.from_residual.result c.from_residual.ensures.1 in
    refused_by c.from_residual.result c.in_err-writable.field-0.0 w.0 (IsRefusedBy (first_refusal (unlink_inode_tests (world_of c.args.self.now) tree c.cpu.inside.0 c.args.directory c.args.name.now count))) w.1 w.2
    (inr (inr (c.in_err-writable.ensures.refused runs (unlink_spot_tests tree c.args.directory c.args.name.now (has_no_space (world_of c.args.self.now) count ∷ [])))))
    )

pub returns-in_err-writable-clause-call : goal.returns-in_err-writable-clause-call
returns-in_err-writable-clause-call g c =
    let w = err_from_is_err_and c.from_residual.result c.from_residual.ensures.1 in
    refused_first g.P.Pmem.region g.P.Pmem.fuse c.args.self.now c.from_residual.result c.in_err-writable.field-0.0 w.0 w.1 w.2 c.in_err-writable.ensures.stopped
    (λ runs is. writing_goes_on (world_of c.args.self.now) c.cpu.inside.0 (c.in_err-writable.ensures.refused runs [] ∙ ap (λ (e : Refusal). Some e) is))

pub returns-in_err-target-clause-refused : goal.returns-in_err-target-clause-refused
returns-in_err-target-clause-refused g c =
    rw (← c.cpu.view_is) (λ still.
    let tree = tree_of (g.P.Pmem.region c.args.self.now.memory) c.args.self.now.rows in
    let count = unlink_inode_blocks c.args.self.now.rows tree c.args.directory c.args.name.now in
    let space = has_no_space (world_of c.args.self.now) count ∷ [] in
    let told = subst (λ (m : Mount g.row.P.Denot). first_refusal (unlink_spot_tests (tree_of (g.P.Pmem.region m.memory) m.rows) c.args.directory c.args.name.now space) ≡ Some c.in_err-target.field-0.0) c.self.view_is
    (c.in_err-target.ensures.refused (g.P.Pmem.region c.self.inside.memory) space) in
    let w = err_from_is_err_and c.from_residual-in_err-target.result c.from_residual-in_err-target.ensures.1 in
    refused_by c.from_residual-in_err-target.result c.in_err-target.field-0.0 w.0 (IsRefusedBy (first_refusal (unlink_inode_tests (world_of c.args.self.now) tree c.cpu.inside.0 c.args.directory c.args.name.now count))) w.1 w.2
    (inr (inr (c.in_ok-writable.ensures.passed (unlink_spot_tests tree c.args.directory c.args.name.now space) ∙ told)))
    )

pub returns-in_err-target-clause-call : goal.returns-in_err-target-clause-call
returns-in_err-target-clause-call g c =
    let w = err_from_is_err_and c.from_residual-in_err-target.result c.from_residual-in_err-target.ensures.1 in
    refused_later g.P.Pmem.region g.P.Pmem.fuse c.args.self.now c.from_residual-in_err-target.result c.in_err-target.field-0.0 w.0 w.1 w.2 c.in_ok-writable.ensures.runs c.in_err-target.ensures.goes_on

pub returns-in_err-writable-clause-allowed : goal.returns-in_err-writable-clause-allowed
returns-in_err-writable-clause-allowed g c = IfOk-from_err c.from_residual.result _ c.from_residual.ensures.0

pub returns-in_err-writable-clause-changed : goal.returns-in_err-writable-clause-changed
returns-in_err-writable-clause-changed g c = IfOk-from_err c.from_residual.result _ c.from_residual.ensures.0

pub returns-in_err-writable-clause-log : goal.returns-in_err-writable-clause-log
returns-in_err-writable-clause-log g c = IfOk-from_err c.from_residual.result _ c.from_residual.ensures.0

pub returns-in_err-writable-clause-settled : goal.returns-in_err-writable-clause-settled
returns-in_err-writable-clause-settled g c = IfOk-from_err c.from_residual.result _ c.from_residual.ensures.0

pub returns-in_err-writable-clause-stores : goal.returns-in_err-writable-clause-stores
returns-in_err-writable-clause-stores g c =
    record {
      journals = IfOk-from_err c.from_residual.result _ c.from_residual.ensures.0;
      wrote = λ k node held led sound some. λ at whole away. refl;
      last_wrote = λ k node held led sound few. λ at whole away. refl;
      in_order = λ k node held h led sound is some. ∣ inl refl ∣₁;
      last_in_order = λ k node held h led sound is few. ∣ inl refl ∣₁;
    }

pub returns-in_err-writable-clause-any_stop : goal.returns-in_err-writable-clause-any_stop
returns-in_err-writable-clause-any_stop g c on able =
    stays_mounted c.in_err-writable.ensures.kept on able _ (unlinked_in c.args.directory c.args.name.now c.args.time (tree_of (g.P.Pmem.region c.args.self.now.memory) c.args.self.now.rows))
    (LogsUnlinkedIn c.args.cpu c.args.time c.args.directory c.args.name.now (g.P.Pmem.region c.args.self.now.memory) c.args.self.now) (c.in_err-writable.ensures.settled on)

pub returns-in_err-target-clause-allowed : goal.returns-in_err-target-clause-allowed
returns-in_err-target-clause-allowed g c = IfOk-from_err c.from_residual-in_err-target.result _ c.from_residual-in_err-target.ensures.0

pub returns-in_err-target-clause-changed : goal.returns-in_err-target-clause-changed
returns-in_err-target-clause-changed g c = IfOk-from_err c.from_residual-in_err-target.result _ c.from_residual-in_err-target.ensures.0

pub returns-in_err-target-clause-log : goal.returns-in_err-target-clause-log
returns-in_err-target-clause-log g c = IfOk-from_err c.from_residual-in_err-target.result _ c.from_residual-in_err-target.ensures.0

pub returns-in_err-target-clause-settled : goal.returns-in_err-target-clause-settled
returns-in_err-target-clause-settled g c = IfOk-from_err c.from_residual-in_err-target.result _ c.from_residual-in_err-target.ensures.0

pub returns-in_err-target-clause-stores : goal.returns-in_err-target-clause-stores
returns-in_err-target-clause-stores g c =
    record {
      journals = IfOk-from_err c.from_residual-in_err-target.result _ c.from_residual-in_err-target.ensures.0;
      wrote = λ k node held led sound some. λ at whole away. refl;
      last_wrote = λ k node held led sound few. λ at whole away. refl;
      in_order = λ k node held h led sound is some. ∣ inl refl ∣₁;
      last_in_order = λ k node held h led sound is few. ∣ inl refl ∣₁;
    }

pub returns-in_err-target-clause-any_stop : goal.returns-in_err-target-clause-any_stop
returns-in_err-target-clause-any_stop g c on able =
    stays_mounted c.in_ok-writable.ensures.kept on able _ (unlinked_in c.args.directory c.args.name.now c.args.time (tree_of (g.P.Pmem.region c.args.self.now.memory) c.args.self.now.rows))
    (LogsUnlinkedIn c.args.cpu c.args.time c.args.directory c.args.name.now (g.P.Pmem.region c.args.self.now.memory) c.args.self.now) (c.in_ok-writable.ensures.settled on)

pub returns-in-Ok-clause-refused : goal.returns-in-Ok-clause-refused
returns-in-Ok-clause-refused g c still = tt

pub returns-in-Err-clause-allowed : goal.returns-in-Err-clause-allowed
returns-in-Err-clause-allowed g c = tt

pub returns-in-Err-clause-changed : goal.returns-in-Err-clause-changed
returns-in-Err-clause-changed g c = tt

pub returns-in-Err-clause-log : goal.returns-in-Err-clause-log
returns-in-Err-clause-log g c = tt

pub returns-in-Err-clause-settled : goal.returns-in-Err-clause-settled
returns-in-Err-clause-settled g c = tt
