use Rattle.std.proofs.Common.{◌≡◌, ◌∙◌, ◌+◌, ◌∷◌, [], Some, inl, inr, ap, subst, sym, refl}
use Rattle.std.proofs.lemmas.Result.{err_from_is_err_and, IfOk-from_err}
use Rattle.nv_rows.specs.Rows.{place_in}
use Rattle.nv_rows.proofs.Places.{at_place, row_in_use}
use Rattle.nv_rows.proofs.TableNumbers.{numbers_kept}
use Rattle.nv_super.proofs.Members.{stands}
use Rattle.nv_entry.specs.declared.entry.Operation.TheVariants.{Add}
use Rattle.nv_mounted.specs.Mounted.{ShowsSound}
use Rattle.nv_tree.specs.declared.refusal.Refusal.{Refusal}
use Rattle.nv_tree.specs.Tree.{SameTree}
use Rattle.nv_tree.specs.Refusals.{first_refusal, has_no_space, IsRefusedBy}
use Rattle.nv_tree.proofs.Replies.{refused_by}
use Rattle.nv_steps.specs.Fronts.{SameFrontBut}
use Rattle.nv_steps.specs.NameEntries.{links_entries, name_entries}
use Rattle.nv_paths.specs.Directories.{link_spot_tests}
use Rattle.nv_paths.specs.Seen.{tree_of}
use Rattle.nv_calls.specs.LinkCalls.{ShowsBothGrew}
use Rattle.nv_calls.specs.Mount.{Mount}
use Rattle.nv_calls.specs.NamesByNumber.{link_inode_blocks, link_inode_tests, linked_in, logs_linked_in}
use Rattle.nv_calls.specs.World.{world_of}
use Rattle.nv_calls.proofs.CallKept.{call_done, refused_first, refused_late, refused_later}
use Rattle.nv_calls.proofs.CreateCall.{kept_or_stopped, unchanged_rows}
use Rattle.nv_calls.proofs.FrontsKept.{both_front}
use Rattle.nv_calls.proofs.GrownCall.{able_as}
use Rattle.nv_calls.proofs.LinkCall.{link_allowed, link_refused, linked_kept, linked_logs, linked_tree}
use Rattle.nv_calls.proofs.LinkedHeld.{kinds_apart}
use Rattle.nv_calls.proofs.RowNumbers.{row_commits}
use Rattle.nv_calls.proofs.SetAttr.{not_stop}
use Rattle.nv_calls.proofs.Stopped.{settled_or_stopped, stays_mounted}
use Rattle.nv_calls.proofs.StoppedLinks.{link_left}
use Rattle.nv_calls.proofs.Tests.{writing_goes_on}
use Rattle.nv_calls.proofs.TwoWords.{link_ordered, link_stored}
use Rattle.nv_calls.proofs.fs.Fs.link_inode.Goals as goal

pub link_at-requires-clause-apart : goal.link_at-requires-clause-apart
link_at-requires-clause-apart g c =
    let file = row_in_use c.self.inside.rows.items c.args.inode c.in_ok-link_in.ensures.target in
    let directory = row_in_use c.self.inside.rows.items c.args.directory c.in_ok-link_in.ensures.in_use in
    let file_at = at_place c.self.inside.rows.items c.args.inode ∙ file.1 in
    let here = at_place c.self.inside.rows.items c.args.directory ∙ directory.1 in
    (λ same. kinds_apart c.self.inside.rows.items (place_in c.self.inside.rows.items c.args.inode) (place_in c.self.inside.rows.items c.args.directory) file.0 directory.0 file_at here (c.in_ok-link_in.ensures.spot.file file.0 file_at).1 (c.in_ok-link_in.ensures.spot.directory directory.0 here).1 (ap (place_in c.self.inside.rows.items) same))

pub link_at-requires-clause-few : goal.link_at-requires-clause-few
link_at-requires-clause-few g c row at = (c.in_ok-link_in.ensures.spot.file row (at_place c.self.inside.rows.items c.args.inode ∙ at)).2

pub link_at-requires-clause-stands : goal.link_at-requires-clause-stands
link_at-requires-clause-stands g c row at =
    let able = able_as c.self.view_is c.in_ok-writable.ensures.runs c.in_ok-writable.ensures.writes c.in_ok-writable.ensures.cpu in
    row_commits c.self.invariant.0 able.runs able.writes row (stands c.self.inside.rows.items (place_in c.self.inside.rows.items c.args.inode) row (at_place c.self.inside.rows.items c.args.inode ∙ at)) c.cpu.inside.0 able.low

pub link_at-requires-clause-directory_stands : goal.link_at-requires-clause-directory_stands
link_at-requires-clause-directory_stands g c row at =
    let able = able_as c.self.view_is c.in_ok-writable.ensures.runs c.in_ok-writable.ensures.writes c.in_ok-writable.ensures.cpu in
    row_commits c.self.invariant.0 able.runs able.writes row (stands c.self.inside.rows.items (place_in c.self.inside.rows.items c.args.directory) row (at_place c.self.inside.rows.items c.args.directory ∙ at)) c.cpu.inside.0 able.low

pub invariant_of-self : goal.invariant_of-self
invariant_of-self g c =
    let able = able_as c.self.view_is c.in_ok-writable.ensures.runs c.in_ok-writable.ensures.writes c.in_ok-writable.ensures.cpu in
    (linked_kept c.self.invariant.0 able.runs able.writes c.in-Ok.ensures.linked c.in_ok-link_in.ensures.name c.args.inode c.args.directory c.in_ok-link_in.ensures.spot c.self.inside.stopped, numbers_kept c.link_at.ensures.kept.tables.0 c.link_at.ensures.kept.tables.1 c.self.invariant.1, λ on. c.in-Ok.ensures.kept.settled)

pub returns-in-Ok-clause-allowed : goal.returns-in-Ok-clause-allowed
returns-in-Ok-clause-allowed g c =
    rw (← c.cpu.view_is) (
    let file = row_in_use c.self.inside.rows.items c.args.inode c.in_ok-link_in.ensures.target in
    let directory = row_in_use c.self.inside.rows.items c.args.directory c.in_ok-link_in.ensures.in_use in
    link_allowed g.P.Pmem.region c.self.view_is c.cpu.inside.0 c.in_ok-writable.ensures.passed c.args.inode c.args.directory file.0 directory.0 file.1 directory.1 c.args.name.now c.time.inside.0 (c.in_ok-link_in.ensures.passed (g.P.Pmem.region c.self.inside.memory)) (c.in-Ok.ensures.enough file.0 directory.0 file.1 directory.1)
    )

pub returns-in-Err-clause-refused : goal.returns-in-Err-clause-refused
returns-in-Err-clause-refused g c =
    rw (← c.cpu.view_is) (λ still.
    let file = row_in_use c.self.inside.rows.items c.args.inode c.in_ok-link_in.ensures.target in
    let directory = row_in_use c.self.inside.rows.items c.args.directory c.in_ok-link_in.ensures.in_use in
    link_refused g.P.Pmem.region c.self.view_is c.cpu.inside.0 c.in_ok-writable.ensures.passed c.args.inode c.args.directory file.0 directory.0 file.1 directory.1 c.args.name.now c.time.inside.0 (c.in_ok-link_in.ensures.passed (g.P.Pmem.region c.self.inside.memory)) c.in-Err.refusal (c.in-Err.ensures.refused file.0 directory.0 file.1 directory.1)
    )

pub returns-in-Ok-clause-changed : goal.returns-in-Ok-clause-changed
returns-in-Ok-clause-changed g c =
    rw (← c.time.view_is) (
    let able = able_as c.self.view_is c.in_ok-writable.ensures.runs c.in_ok-writable.ensures.writes c.in_ok-writable.ensures.cpu in
    subst (λ (m : Mount g.row.P.Denot). SameTree (tree_of (g.P.Pmem.region c.link_at.new.memory) c.link_at.new.rows.items) (linked_in c.args.inode c.args.directory c.args.name.now c.time.inside.0 (tree_of (g.P.Pmem.region m.memory) m.rows))) c.self.view_is
    (linked_tree c.self.invariant.0 able.runs able.writes c.in-Ok.ensures.linked c.in_ok-link_in.ensures.name c.args.inode c.args.directory c.in_ok-link_in.ensures.spot)
    )

pub returns-in-Ok-clause-log : goal.returns-in-Ok-clause-log
returns-in-Ok-clause-log g c =
    rw (← c.cpu.view_is, ← c.time.view_is) (λ node held f h shows sound is other_is.
    let able = able_as c.self.view_is c.in_ok-writable.ensures.runs c.in_ok-writable.ensures.writes c.in_ok-writable.ensures.cpu in
    subst (λ (m : Mount g.row.P.Denot). tree_of (g.P.Pmem.region m.memory) m.rows c.args.inode ≡ Some node → ShowsSound (g.P.Pmem.region m.memory) m.layout held
    → ShowsBothGrew (g.P.Pmem.region c.link_at.new.memory) m.layout m.free.pools c.cpu.inside.0 held c.args.inode f (links_entries (node.links + 1) c.time.inside.0) c.args.directory h (name_entries Add c.args.inode c.args.name.now c.time.inside.0)) c.self.view_is
    (λ seen shown. linked_logs c.self.invariant.0 able.runs able.writes c.in-Ok.ensures.linked c.in_ok-link_in.ensures.name c.args.inode c.args.directory c.in_ok-link_in.ensures.spot node held f h seen shown is other_is) shows sound
    )

pub returns-in-Ok-clause-stores : goal.returns-in-Ok-clause-stores
returns-in-Ok-clause-stores g c =
    record {
      journals = rw (← c.cpu.view_is) (
          let able = able_as c.self.view_is c.in_ok-writable.ensures.runs c.in_ok-writable.ensures.writes c.in_ok-writable.ensures.cpu in
          let linked = c.in-Ok.ensures.linked in
          subst (λ (m : Mount g.row.P.Denot). SameFrontBut m.sup.cpus c.cpu.inside.0 (g.P.Pmem.region m.memory) (g.P.Pmem.region c.link_at.new.memory)) c.self.view_is
          (both_front c.self.invariant.0 able.runs able.writes linked.step)
          );
      wrote = rw (← c.cpu.view_is) (λ node held shows sound.
          link_stored g.P.Pmem.region c.self.view_is c.self.invariant.0 c.in_ok-writable.ensures.runs (g.P.Pmem.region c.link_at.new.memory) c.cpu.inside.0 c.args.inode c.args.directory c.in_ok-link_in.ensures.target c.in_ok-link_in.ensures.in_use
          c.time.inside.0 c.link_at.ensures.wrote held sound
          );
      in_order = rw (← c.cpu.view_is, ← c.time.view_is) (λ node held f shows sound is.
          link_ordered g.P.Pmem.region c.self.view_is c.self.invariant.0 c.in_ok-writable.ensures.runs (g.P.Pmem.region c.link_at.new.memory) c.cpu.inside.0 c.args.inode c.args.directory c.in_ok-link_in.ensures.target c.in_ok-link_in.ensures.in_use
          c.time.inside.0 c.link_at.ensures.in_order node held f shows sound is
          );
    }

pub returns-in-Err-clause-stores : goal.returns-in-Err-clause-stores
returns-in-Err-clause-stores g c =
    record {
      journals = tt;
      wrote = rw (← c.cpu.view_is) (λ node held shows sound.
          link_stored g.P.Pmem.region c.self.view_is c.self.invariant.0 c.in_ok-writable.ensures.runs (g.P.Pmem.region c.link_at.new.memory) c.cpu.inside.0 c.args.inode c.args.directory c.in_ok-link_in.ensures.target c.in_ok-link_in.ensures.in_use
          c.time.inside.0 c.link_at.ensures.wrote held sound
          );
      in_order = rw (← c.cpu.view_is, ← c.time.view_is) (λ node held f shows sound is.
          link_ordered g.P.Pmem.region c.self.view_is c.self.invariant.0 c.in_ok-writable.ensures.runs (g.P.Pmem.region c.link_at.new.memory) c.cpu.inside.0 c.args.inode c.args.directory c.in_ok-link_in.ensures.target c.in_ok-link_in.ensures.in_use
          c.time.inside.0 c.link_at.ensures.in_order node held f shows sound is
          );
    }

pub returns-in-Ok-clause-any_stop : goal.returns-in-Ok-clause-any_stop
returns-in-Ok-clause-any_stop g c =
    rw (← c.cpu.view_is, ← c.time.view_is) (λ on able.
    let able = able_as c.self.view_is c.in_ok-writable.ensures.runs c.in_ok-writable.ensures.writes c.in_ok-writable.ensures.cpu in
    let file = row_in_use c.self.inside.rows.items c.args.inode c.in_ok-link_in.ensures.target in
    let directory = row_in_use c.self.inside.rows.items c.args.directory c.in_ok-link_in.ensures.in_use in
    link_left g.P.Pmem.region c.self.view_is c.self.invariant.0 able.runs able.writes c.args.inode c.args.directory file.0 directory.0 file.1 directory.1 c.args.name.now c.cpu.inside.0 c.time.inside.0 c.in_ok-link_in.ensures.name
    c.in_ok-link_in.ensures.spot _ _ _
    (λ held f h here other absent pending. c.link_at.ensures.any_stop file.0 directory.0 held f h file.1 directory.1 here other absent pending) (c.self.invariant.2 able.runs)
    )

pub returns-in-Err-clause-any_stop : goal.returns-in-Err-clause-any_stop
returns-in-Err-clause-any_stop g c =
    rw (← c.cpu.view_is, ← c.time.view_is) (λ on able.
    let able = able_as c.self.view_is c.in_ok-writable.ensures.runs c.in_ok-writable.ensures.writes c.in_ok-writable.ensures.cpu in
    let file = row_in_use c.self.inside.rows.items c.args.inode c.in_ok-link_in.ensures.target in
    let directory = row_in_use c.self.inside.rows.items c.args.directory c.in_ok-link_in.ensures.in_use in
    link_left g.P.Pmem.region c.self.view_is c.self.invariant.0 able.runs able.writes c.args.inode c.args.directory file.0 directory.0 file.1 directory.1 c.args.name.now c.cpu.inside.0 c.time.inside.0 c.in_ok-link_in.ensures.name
    c.in_ok-link_in.ensures.spot _ _ _
    (λ held f h here other absent pending. c.link_at.ensures.any_stop file.0 directory.0 held f h file.1 directory.1 here other absent pending) (c.self.invariant.2 able.runs)
    )

pub invariant_of-self-in-Err : goal.invariant_of-self-in-Err
invariant_of-self-in-Err g c =
    let able = able_as c.self.view_is c.in_ok-writable.ensures.runs c.in_ok-writable.ensures.writes c.in_ok-writable.ensures.cpu in (
      kept_or_stopped g.P.Pmem.region c.self.invariant.0 able.runs able.writes c.in-Err.refusal c.is_stop-self-inside.result c.is_stop-self-inside.ensures.yes c.is_stop-self-inside.ensures.no c.link_at.ensures.kept.lists c.in-Err.ensures.kept.unchanged,
      numbers_kept c.link_at.ensures.kept.tables.0 c.link_at.ensures.kept.tables.1 c.self.invariant.1,
      settled_or_stopped g.P.Pmem.region g.P.Pmem.may_hold c.in-Err.refusal c.is_stop-self-inside.result c.is_stop-self-inside.ensures.no (λ off. (c.in-Err.ensures.kept.unchanged off).memory) (c.self.invariant.2 able.runs),
    )

pub returns-in-Ok-clause-call : goal.returns-in-Ok-clause-call
returns-in-Ok-clause-call g c =
    let able = able_as c.self.view_is c.in_ok-writable.ensures.runs c.in_ok-writable.ensures.writes c.in_ok-writable.ensures.cpu in
    call_done g.P.Pmem.region g.P.Pmem.fuse c.self.view_is c.link_at.new.memory c.link_at.new.rows.items c.link_at.new.free able.runs able.writes _ _ c.in-Ok.ensures.kept.keeps

pub returns-in-Ok-clause-settled : goal.returns-in-Ok-clause-settled
returns-in-Ok-clause-settled g c = c.in-Ok.ensures.kept.settled

pub returns-in-Err-clause-call : goal.returns-in-Err-clause-call
returns-in-Err-clause-call g c =
    let able = able_as c.self.view_is c.in_ok-writable.ensures.runs c.in_ok-writable.ensures.writes c.in_ok-writable.ensures.cpu in
    refused_late g.P.Pmem.region g.P.Pmem.fuse c.self.view_is c.link_at.new.memory c.link_at.new.rows.items c.link_at.new.free able.runs able.writes c.in-Err.refusal c.is_stop-self-inside.result c.is_stop-self-inside.ensures.yes c.is_stop-self-inside.ensures.no c.in-Err.ensures.kept.keeps
    (λ off. unchanged_rows c.self.view_is c.link_at.new.memory c.link_at.new.rows.items c.link_at.new.free c.is_stop-self-inside.result able.runs (not_stop c.in-Err.refusal c.is_stop-self-inside.result c.is_stop-self-inside.ensures.yes off) (c.in-Err.ensures.kept.unchanged off))

pub returns-in_err-writable-clause-refused : goal.returns-in_err-writable-clause-refused
returns-in_err-writable-clause-refused g c =
    rw (← c.cpu.view_is) (λ runs.
    let tree = tree_of (g.P.Pmem.region c.args.self.now.memory) c.args.self.now.rows in
    let count = link_inode_blocks c.args.self.now.rows c.args.inode c.args.directory c.args.name.now in
    let w = err_from_is_err_and c.from_residual.result c.from_residual.ensures.1 in
    refused_by c.from_residual.result c.in_err-writable.field-0.0 w.0 (IsRefusedBy (first_refusal (link_inode_tests (world_of c.args.self.now) tree c.cpu.inside.0 c.args.inode c.args.directory c.args.name.now count))) w.1 w.2
    (inr (inr (c.in_err-writable.ensures.refused runs (link_spot_tests tree c.args.inode c.args.directory c.args.name.now (has_no_space (world_of c.args.self.now) count ∷ [])))))
    )

pub returns-in_err-writable-clause-call : goal.returns-in_err-writable-clause-call
returns-in_err-writable-clause-call g c =
    let w = err_from_is_err_and c.from_residual.result c.from_residual.ensures.1 in
    refused_first g.P.Pmem.region g.P.Pmem.fuse c.args.self.now c.from_residual.result c.in_err-writable.field-0.0 w.0 w.1 w.2 c.in_err-writable.ensures.stopped
    (λ runs is. writing_goes_on (world_of c.args.self.now) c.cpu.inside.0 (c.in_err-writable.ensures.refused runs [] ∙ ap (λ (e : Refusal). Some e) is))

pub returns-in_err-link_in-clause-refused : goal.returns-in_err-link_in-clause-refused
returns-in_err-link_in-clause-refused g c =
    rw (← c.cpu.view_is) (λ still.
    let tree = tree_of (g.P.Pmem.region c.args.self.now.memory) c.args.self.now.rows in
    let count = link_inode_blocks c.args.self.now.rows c.args.inode c.args.directory c.args.name.now in
    let space = has_no_space (world_of c.args.self.now) count ∷ [] in
    let told = subst (λ (m : Mount g.row.P.Denot). first_refusal (link_spot_tests (tree_of (g.P.Pmem.region m.memory) m.rows) c.args.inode c.args.directory c.args.name.now space) ≡ Some c.in_err-link_in.field-0.0) c.self.view_is
    (c.in_err-link_in.ensures.refused (g.P.Pmem.region c.self.inside.memory) space) in
    let w = err_from_is_err_and c.from_residual-in_err-link_in.result c.from_residual-in_err-link_in.ensures.1 in
    refused_by c.from_residual-in_err-link_in.result c.in_err-link_in.field-0.0 w.0 (IsRefusedBy (first_refusal (link_inode_tests (world_of c.args.self.now) tree c.cpu.inside.0 c.args.inode c.args.directory c.args.name.now count))) w.1 w.2
    (inr (inr (c.in_ok-writable.ensures.passed (link_spot_tests tree c.args.inode c.args.directory c.args.name.now space) ∙ told)))
    )

pub returns-in_err-link_in-clause-call : goal.returns-in_err-link_in-clause-call
returns-in_err-link_in-clause-call g c =
    let w = err_from_is_err_and c.from_residual-in_err-link_in.result c.from_residual-in_err-link_in.ensures.1 in
    refused_later g.P.Pmem.region g.P.Pmem.fuse c.args.self.now c.from_residual-in_err-link_in.result c.in_err-link_in.field-0.0 w.0 w.1 w.2 c.in_ok-writable.ensures.runs c.in_err-link_in.ensures.goes_on

pub returns-in_err-writable-clause-allowed : goal.returns-in_err-writable-clause-allowed
returns-in_err-writable-clause-allowed g c = IfOk-from_err c.from_residual.result _ c.from_residual.ensures.0

pub returns-in_err-writable-clause-changed : goal.returns-in_err-writable-clause-changed
returns-in_err-writable-clause-changed g c = IfOk-from_err c.from_residual.result _ c.from_residual.ensures.0

pub returns-in_err-writable-clause-log : goal.returns-in_err-writable-clause-log
returns-in_err-writable-clause-log g c = IfOk-from_err c.from_residual.result _ c.from_residual.ensures.0

pub returns-in_err-writable-clause-settled : goal.returns-in_err-writable-clause-settled
returns-in_err-writable-clause-settled g c = IfOk-from_err c.from_residual.result _ c.from_residual.ensures.0

pub returns-in_err-writable-clause-stores : goal.returns-in_err-writable-clause-stores
returns-in_err-writable-clause-stores g c =
    record {
      journals = IfOk-from_err c.from_residual.result _ c.from_residual.ensures.0;
      wrote = λ node held shows sound. λ at whole away. refl;
      in_order = λ node held f shows sound is. ∣ inl refl ∣₁;
    }

pub returns-in_err-writable-clause-any_stop : goal.returns-in_err-writable-clause-any_stop
returns-in_err-writable-clause-any_stop g c on able =
    stays_mounted c.in_err-writable.ensures.kept on able _ (linked_in c.args.inode c.args.directory c.args.name.now c.args.time (tree_of (g.P.Pmem.region c.args.self.now.memory) c.args.self.now.rows))
    (logs_linked_in c.args.cpu c.args.time c.args.inode c.args.directory c.args.name.now (g.P.Pmem.region c.args.self.now.memory) c.args.self.now) (c.in_err-writable.ensures.settled on)

pub returns-in_err-link_in-clause-allowed : goal.returns-in_err-link_in-clause-allowed
returns-in_err-link_in-clause-allowed g c = IfOk-from_err c.from_residual-in_err-link_in.result _ c.from_residual-in_err-link_in.ensures.0

pub returns-in_err-link_in-clause-changed : goal.returns-in_err-link_in-clause-changed
returns-in_err-link_in-clause-changed g c = IfOk-from_err c.from_residual-in_err-link_in.result _ c.from_residual-in_err-link_in.ensures.0

pub returns-in_err-link_in-clause-log : goal.returns-in_err-link_in-clause-log
returns-in_err-link_in-clause-log g c = IfOk-from_err c.from_residual-in_err-link_in.result _ c.from_residual-in_err-link_in.ensures.0

pub returns-in_err-link_in-clause-settled : goal.returns-in_err-link_in-clause-settled
returns-in_err-link_in-clause-settled g c = IfOk-from_err c.from_residual-in_err-link_in.result _ c.from_residual-in_err-link_in.ensures.0

pub returns-in_err-link_in-clause-stores : goal.returns-in_err-link_in-clause-stores
returns-in_err-link_in-clause-stores g c =
    record {
      journals = IfOk-from_err c.from_residual-in_err-link_in.result _ c.from_residual-in_err-link_in.ensures.0;
      wrote = λ node held shows sound. λ at whole away. refl;
      in_order = λ node held f shows sound is. ∣ inl refl ∣₁;
    }

pub returns-in_err-link_in-clause-any_stop : goal.returns-in_err-link_in-clause-any_stop
returns-in_err-link_in-clause-any_stop g c on able =
    stays_mounted c.in_ok-writable.ensures.kept on able _ (linked_in c.args.inode c.args.directory c.args.name.now c.args.time (tree_of (g.P.Pmem.region c.args.self.now.memory) c.args.self.now.rows))
    (logs_linked_in c.args.cpu c.args.time c.args.inode c.args.directory c.args.name.now (g.P.Pmem.region c.args.self.now.memory) c.args.self.now) (c.in_ok-writable.ensures.settled on)

pub returns-in-Ok-clause-refused : goal.returns-in-Ok-clause-refused
returns-in-Ok-clause-refused g c still = tt

pub returns-in-Err-clause-allowed : goal.returns-in-Err-clause-allowed
returns-in-Err-clause-allowed g c = tt

pub returns-in-Err-clause-changed : goal.returns-in-Err-clause-changed
returns-in-Err-clause-changed g c = tt

pub returns-in-Err-clause-log : goal.returns-in-Err-clause-log
returns-in-Err-clause-log g c = tt

pub returns-in-Err-clause-settled : goal.returns-in-Err-clause-settled
returns-in-Err-clause-settled g c = tt
