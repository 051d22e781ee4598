use Rattle.std.proofs.Common.{◌≡◌, ◌∙◌, ◌<◌, ◌≤◌, ◌++◌, ◌∷◌, [], List, ℕ, IsTrue, Option, Some, false, inl, inr, refl, ap, subst, sym, slice_get}
use Rattle.std.specs.Option.{option_and_then}
use Rattle.std.proofs.lemmas.Result.{err_from_is_err_and, IfOk-from_err}
use Rattle.nv_region.specs.Stops.{LeavesOnly}
use Rattle.nv_inode.specs.Numbers.{has_slot}
use Rattle.nv_super.proofs.Members.{stands}
use Rattle.nv_alloc.specs.Taking.{all_blocks}
use Rattle.nv_rows.specs.Rows.{place_in, row_of}
use Rattle.nv_rows.proofs.Places.{at_place, numbered, row_in_use}
use Rattle.nv_rows.proofs.TableNumbers.{numbers_kept}
use Rattle.nv_commit.specs.Stopped.{LeavesEither}
use Rattle.nv_tree.specs.declared.refusal.Refusal.{Refusal}
use Rattle.nv_tree.specs.Path.{IsPath}
use Rattle.nv_tree.specs.Tree.{SameTree}
use Rattle.nv_tree.specs.Refusals.{first_refusal, has_no_space, is_bad_name, is_into_itself, is_missing, walk_tests, IsRefusedBy}
use Rattle.nv_tree.specs.Replace.{is_over_directory, is_over_file, is_over_names, replace_tests, replaced}
use Rattle.nv_tree.proofs.Replies.{refused_by}
use Rattle.nv_tree.proofs.Texts.{text_says}
use Rattle.nv_paths.specs.ReplaceSpots.{IsReplaceSpot, replace_spot_tests}
use Rattle.nv_paths.specs.Seen.{tree_of}
use Rattle.nv_paths.proofs.CreateTests.{long_text}
use Rattle.nv_paths.proofs.Walks.{longer}
use Rattle.nv_steps.specs.Fronts.{SameFrontBut}
use Rattle.nv_steps.specs.Steps.{RefusesStep}
use Rattle.nv_calls.specs.Effects.{LogsReplace, logs_replace, makes_replace}
use Rattle.nv_calls.specs.Mount.{Mount}
use Rattle.nv_calls.specs.ReplaceBlocks.{replace_blocks}
use Rattle.nv_calls.specs.ReplaceCalls.{ReplacedAt, ReplacesAt, replace_count}
use Rattle.nv_calls.specs.Stopped.{LeavesCall}
use Rattle.nv_calls.specs.World.{world_of}
use Rattle.nv_calls.proofs.CreateCall.{kept_or_stopped, unchanged_rows}
use Rattle.nv_calls.proofs.Kept.{rows_rise}
use Rattle.nv_calls.proofs.NewNumbers.{can_name}
use Rattle.nv_calls.proofs.OwnedRow.{owns_blocks}
use Rattle.nv_calls.proofs.ReplaceBlocks.{replace_allowed, replace_refused}
use Rattle.nv_calls.proofs.ReplaceCall.{ends_apart, replaced_front, replaced_kept, replaced_tree}
use Rattle.nv_calls.proofs.ReplaceStores.{free_ordered, one_inode, over_ordered, replace_stored, within_ordered}
use Rattle.nv_calls.proofs.ReplaceTests.{replace_goes_on, replace_refuses}
use Rattle.nv_calls.proofs.RowChange.{same_mount}
use Rattle.nv_calls.proofs.RowNumbers.{row_commits, row_number}
use Rattle.nv_calls.proofs.SetAttr.{not_stop}
use Rattle.nv_calls.proofs.Stopped.{call_stays, settled_or_stopped}
use Rattle.nv_calls.proofs.StoppedReplace.{replace_left, replaced_logs}
use Rattle.nv_calls.proofs.Tests.{writing_goes_on}
use Rattle.nv_calls.proofs.CallKept.{call_done, refused_first, refused_late, refused_later}
use Rattle.nv_calls.proofs.fs.Fs.replace.Goals as goal

pub returns-in_err-writable-clause-refused : goal.returns-in_err-writable-clause-refused
returns-in_err-writable-clause-refused g c =
    rw (← c.cpu.view_is) (λ runs p q says says_new.
    let w = err_from_is_err_and c.from_residual.result c.from_residual.ensures.1 in
    refused_by c.from_residual.result c.in_err-writable.field-0.0 w.0 (IsRefusedBy (first_refusal (replace_tests (world_of c.args.self.now) (tree_of (g.P.Pmem.region c.args.self.now.memory) c.args.self.now.rows) c.cpu.inside.0 p q (replace_blocks c.args.self.now.rows (tree_of (g.P.Pmem.region c.args.self.now.memory) c.args.self.now.rows) p q)))) w.1 w.2
    (inr (inr (c.in_err-writable.ensures.refused runs (is_bad_name p ∷ is_bad_name q ∷ walk_tests (tree_of (g.P.Pmem.region c.args.self.now.memory) c.args.self.now.rows) p ++ walk_tests (tree_of (g.P.Pmem.region c.args.self.now.memory) c.args.self.now.rows) q ++ is_missing (tree_of (g.P.Pmem.region c.args.self.now.memory) c.args.self.now.rows) p ∷ is_into_itself (tree_of (g.P.Pmem.region c.args.self.now.memory) c.args.self.now.rows) p q ∷ is_over_directory (tree_of (g.P.Pmem.region c.args.self.now.memory) c.args.self.now.rows) p q ∷ is_over_file (tree_of (g.P.Pmem.region c.args.self.now.memory) c.args.self.now.rows) p q ∷ is_over_names (tree_of (g.P.Pmem.region c.args.self.now.memory) c.args.self.now.rows) p q ∷ has_no_space (world_of c.args.self.now) (replace_blocks c.args.self.now.rows (tree_of (g.P.Pmem.region c.args.self.now.memory) c.args.self.now.rows) p q) ∷ []))))
    )

pub returns-in_err-writable-clause-call : goal.returns-in_err-writable-clause-call
returns-in_err-writable-clause-call g c =
    let w = err_from_is_err_and c.from_residual.result c.from_residual.ensures.1 in
    record {
      of_path = record {
        call = refused_first g.P.Pmem.region g.P.Pmem.fuse c.args.self.now c.from_residual.result c.in_err-writable.field-0.0 w.0 w.1 w.2 c.in_err-writable.ensures.stopped
            (λ runs is. writing_goes_on (world_of c.args.self.now) c.cpu.inside.0 (c.in_err-writable.ensures.refused runs [] ∙ ap (λ (e : Refusal). Some e) is));
        bad_text = λ bad. same_mount c.args.self.now;
      };
      settled = IfOk-from_err c.from_residual.result _ c.from_residual.ensures.0;
    }

pub returns-in_err-writable-clause-stores : goal.returns-in_err-writable-clause-stores
returns-in_err-writable-clause-stores g c =
    record {
      journals = IfOk-from_err c.from_residual.result _ c.from_residual.ensures.0;
      wrote = λ names others i d e held path other_path led walked ended sound. λ at whole away. refl;
      free_in_order = λ names others i d e held h path other_path led none walked ended differ sound is. ∣ inl refl ∣₁;
      within_in_order = λ names others i j d node held h path other_path takes sound is. ∣ inl refl ∣₁;
      in_order = λ names others i j d e node held h k path other_path takes differ sound is other_is. ∣ (inl refl, inl refl) ∣₁;
    }

pub returns-in_err-planned-clause-refused : goal.returns-in_err-planned-clause-refused
returns-in_err-planned-clause-refused g c =
    rw (← c.cpu.view_is) (λ still p q says says_new.
    let told : first_refusal (replace_spot_tests (tree_of (g.P.Pmem.region c.args.self.now.memory) c.args.self.now.rows) p q) ≡ Some c.in_err-planned.field-0.0 =
    subst (λ (m : Mount g.row.P.Denot). first_refusal (replace_spot_tests (tree_of (g.P.Pmem.region m.memory) m.rows) p q) ≡ Some c.in_err-planned.field-0.0) c.self.view_is
    (c.in_err-planned.ensures.refused (g.P.Pmem.region c.self.inside.memory) p q says says_new) in
    let w = err_from_is_err_and c.from_residual-in_err-planned.result c.from_residual-in_err-planned.ensures.1 in
    refused_by c.from_residual-in_err-planned.result c.in_err-planned.field-0.0 w.0 (IsRefusedBy (first_refusal (replace_tests (world_of c.args.self.now) (tree_of (g.P.Pmem.region c.args.self.now.memory) c.args.self.now.rows) c.cpu.inside.0 p q (replace_blocks c.args.self.now.rows (tree_of (g.P.Pmem.region c.args.self.now.memory) c.args.self.now.rows) p q)))) w.1 w.2
    (inr (inr (replace_refuses (world_of c.args.self.now) (tree_of (g.P.Pmem.region c.args.self.now.memory) c.args.self.now.rows) c.cpu.inside.0 c.in_ok-writable.ensures.passed p q (replace_blocks c.args.self.now.rows (tree_of (g.P.Pmem.region c.args.self.now.memory) c.args.self.now.rows) p q) c.in_err-planned.field-0.0 told)))
    )

pub returns-in_err-planned-clause-call : goal.returns-in_err-planned-clause-call
returns-in_err-planned-clause-call g c =
    let w = err_from_is_err_and c.from_residual-in_err-planned.result c.from_residual-in_err-planned.ensures.1 in
    let said = text_says c.args.old.now in
    let said_new = text_says c.args.new.now in
    let told = c.in_err-planned.ensures.refused (g.P.Pmem.region c.self.inside.memory) said.0 said_new.0 said.1 said_new.1 in
    record {
      of_path = record {
        call = refused_later g.P.Pmem.region g.P.Pmem.fuse c.args.self.now c.from_residual-in_err-planned.result c.in_err-planned.field-0.0 w.0 w.1 w.2 c.in_ok-writable.ensures.runs
            (λ is. replace_goes_on (tree_of (g.P.Pmem.region c.self.inside.memory) c.self.inside.rows.items) said.0 said_new.0 (told ∙ ap (λ (e : Refusal). Some e) is));
        bad_text = λ bad. same_mount c.args.self.now;
      };
      settled = IfOk-from_err c.from_residual-in_err-planned.result _ c.from_residual-in_err-planned.ensures.0;
    }

pub returns-in_err-planned-clause-stores : goal.returns-in_err-planned-clause-stores
returns-in_err-planned-clause-stores g c =
    record {
      journals = IfOk-from_err c.from_residual-in_err-planned.result _ c.from_residual-in_err-planned.ensures.0;
      wrote = λ names others i d e held path other_path led walked ended sound. λ at whole away. refl;
      free_in_order = λ names others i d e held h path other_path led none walked ended differ sound is. ∣ inl refl ∣₁;
      within_in_order = λ names others i j d node held h path other_path takes sound is. ∣ inl refl ∣₁;
      in_order = λ names others i j d e node held h k path other_path takes differ sound is other_is. ∣ (inl refl, inl refl) ∣₁;
    }

pub returns-in-Err-clause-call : goal.returns-in-Err-clause-call
returns-in-Err-clause-call g c =
    let runs : c.self.inside.stopped ≡ false = ap (λ (m : Mount g.row.P.Denot). m.stopped) c.self.view_is ∙ c.in_ok-writable.ensures.runs in
    let writes : c.self.inside.read_only ≡ false = ap (λ (m : Mount g.row.P.Denot). m.read_only) c.self.view_is ∙ c.in_ok-writable.ensures.writes in
    record {
      of_path = record {
        call = refused_late g.P.Pmem.region g.P.Pmem.fuse c.self.view_is c.replace_at.new.memory c.replace_at.new.rows.items c.replace_at.new.free runs writes c.in-Err.refusal c.is_stop-self-inside.result c.is_stop-self-inside.ensures.yes c.is_stop-self-inside.ensures.no c.in-Err.ensures.kept.keeps
            (λ off. unchanged_rows c.self.view_is c.replace_at.new.memory c.replace_at.new.rows.items c.replace_at.new.free c.is_stop-self-inside.result runs (not_stop c.in-Err.refusal c.is_stop-self-inside.result c.is_stop-self-inside.ensures.yes off) (c.in-Err.ensures.kept.unchanged off));
        bad_text = λ bad. absurd (let paths = c.in_ok-planned.ensures.paths in let old_path = paths.0 in let new_path = paths.1 in bad (old_path.0 ∷ old_path.1) (new_path.0 ∷ new_path.1) old_path.2 new_path.2);
      };
      settled = tt;
    }

pub returns-in-Err-clause-stores : goal.returns-in-Err-clause-stores
returns-in-Err-clause-stores g c =
    record {
      journals = tt;
      wrote = rw (← c.cpu.view_is) (λ names others i d e held path other_path led walked ended sound.
          replace_stored g.P.Pmem.region c.self.view_is c.self.invariant.0 c.in_ok-writable.ensures.runs (g.P.Pmem.region c.replace_at.new.memory) c.cpu.inside.0 c.in_ok-planned.planned.moved.from.directory c.in_ok-planned.planned.moved.directory c.in_ok-planned.planned.moved.from.target c.in_ok-planned.ensures.in_use.from c.in_ok-planned.ensures.in_use.directory c.in_ok-planned.ensures.in_use.target
          c.in_ok-planned.planned.there c.in_ok-planned.ensures.there c.time.inside.0 c.in_ok-planned.planned.moved.from.name.now c.in_ok-planned.planned.moved.name.now names others (c.in_ok-planned.ensures.spot (g.P.Pmem.region c.self.inside.memory) names others path other_path) c.replace_at.ensures.wrote i d e held led walked ended sound
          );
      free_in_order = rw (← c.cpu.view_is, ← c.time.view_is) (λ names others i d e held h path other_path led none walked ended differ sound is.
          free_ordered g.P.Pmem.region c.self.view_is c.self.invariant.0 c.in_ok-writable.ensures.runs (g.P.Pmem.region c.replace_at.new.memory) c.cpu.inside.0 c.in_ok-planned.planned.moved.from.directory c.in_ok-planned.planned.moved.directory c.in_ok-planned.planned.moved.from.target c.in_ok-planned.ensures.in_use.from c.in_ok-planned.ensures.in_use.directory c.in_ok-planned.ensures.in_use.target
          c.in_ok-planned.planned.there c.in_ok-planned.ensures.there c.time.inside.0 c.in_ok-planned.planned.moved.from.name.now c.in_ok-planned.planned.moved.name.now names others (c.in_ok-planned.ensures.spot (g.P.Pmem.region c.self.inside.memory) names others path other_path) c.replace_at.ensures.free_in_order i d e held h led none walked ended differ sound is
          );
      within_in_order = rw (← c.cpu.view_is, ← c.time.view_is) (λ names others i j d node held h path other_path takes sound is.
          within_ordered g.P.Pmem.region c.self.view_is c.self.invariant.0 c.in_ok-writable.ensures.runs (g.P.Pmem.region c.replace_at.new.memory) c.cpu.inside.0 c.in_ok-planned.planned.moved.from.directory c.in_ok-planned.planned.moved.directory c.in_ok-planned.planned.moved.from.target c.in_ok-planned.ensures.in_use.from c.in_ok-planned.ensures.in_use.directory c.in_ok-planned.ensures.in_use.target
          c.in_ok-planned.planned.there c.in_ok-planned.ensures.there c.time.inside.0 c.in_ok-planned.planned.moved.from.name.now c.in_ok-planned.planned.moved.name.now names others (c.in_ok-planned.ensures.spot (g.P.Pmem.region c.self.inside.memory) names others path other_path) c.replace_at.ensures.within_in_order i j d node held h takes sound is
          );
      in_order = rw (← c.cpu.view_is, ← c.time.view_is) (λ names others i j d e node held h k path other_path takes differ sound is other_is.
          over_ordered g.P.Pmem.region c.self.view_is c.self.invariant.0 c.in_ok-writable.ensures.runs (g.P.Pmem.region c.replace_at.new.memory) c.cpu.inside.0 c.in_ok-planned.planned.moved.from.directory c.in_ok-planned.planned.moved.directory c.in_ok-planned.planned.moved.from.target c.in_ok-planned.ensures.in_use.from c.in_ok-planned.ensures.in_use.directory c.in_ok-planned.ensures.in_use.target
          c.in_ok-planned.planned.there c.in_ok-planned.ensures.there c.time.inside.0 c.in_ok-planned.planned.moved.from.name.now c.in_ok-planned.planned.moved.name.now names others (c.in_ok-planned.ensures.spot (g.P.Pmem.region c.self.inside.memory) names others path other_path) c.replace_at.ensures.in_order i j d e node held h k takes differ sound is other_is
          );
    }

pub returns-in-Ok-clause-call : goal.returns-in-Ok-clause-call
returns-in-Ok-clause-call g c =
    let runs : c.self.inside.stopped ≡ false = ap (λ (m : Mount g.row.P.Denot). m.stopped) c.self.view_is ∙ c.in_ok-writable.ensures.runs in
    let writes : c.self.inside.read_only ≡ false = ap (λ (m : Mount g.row.P.Denot). m.read_only) c.self.view_is ∙ c.in_ok-writable.ensures.writes in
    record {
      of_path = record {
        call = call_done g.P.Pmem.region g.P.Pmem.fuse c.self.view_is c.replace_at.new.memory c.replace_at.new.rows.items c.replace_at.new.free runs writes _ _ c.in-Ok.ensures.kept.keeps;
        bad_text = λ bad. absurd (let paths = c.in_ok-planned.ensures.paths in let old_path = paths.0 in let new_path = paths.1 in bad (old_path.0 ∷ old_path.1) (new_path.0 ∷ new_path.1) old_path.2 new_path.2);
      };
      settled = c.in-Ok.ensures.kept.settled;
    }

pub returns-in-Ok-clause-stores : goal.returns-in-Ok-clause-stores
returns-in-Ok-clause-stores g c =
    record {
      journals = rw (← c.cpu.view_is) (
          let runs : c.self.inside.stopped ≡ false = ap (λ (m : Mount g.row.P.Denot). m.stopped) c.self.view_is ∙ c.in_ok-writable.ensures.runs in
          let writes : c.self.inside.read_only ≡ false = ap (λ (m : Mount g.row.P.Denot). m.read_only) c.self.view_is ∙ c.in_ok-writable.ensures.writes in
          let spot = c.in_ok-planned.ensures.spot (g.P.Pmem.region c.self.inside.memory) in
          let paths = c.in_ok-planned.ensures.paths in
          let old_path = paths.0 in
          let new_path = paths.1 in
          let inode = row_in_use c.self.inside.rows.items c.in_ok-planned.planned.moved.from.target c.in_ok-planned.ensures.in_use.target in
          let inode_at : slice_get c.self.inside.rows.items (place_in c.self.inside.rows.items c.in_ok-planned.planned.moved.from.target) ≡ Some inode.0 = at_place c.self.inside.rows.items c.in_ok-planned.planned.moved.from.target ∙ inode.1 in
          let number = numbered c.self.inside.rows.items c.in_ok-planned.planned.moved.from.target inode.0 inode.1 in
          subst (λ (m : Mount g.row.P.Denot). SameFrontBut m.sup.cpus c.cpu.inside.0 (g.P.Pmem.region m.memory) (g.P.Pmem.region c.replace_at.new.memory)) c.self.view_is
          (replaced_front c.self.invariant.0 runs writes (place_in c.self.inside.rows.items c.in_ok-planned.planned.moved.from.directory) (place_in c.self.inside.rows.items c.in_ok-planned.planned.moved.from.target) (place_in c.self.inside.rows.items c.in_ok-planned.planned.moved.directory) c.in_ok-planned.ensures.former c.in_ok-planned.ensures.name old_path.0 old_path.1 new_path.0 new_path.1 inode.0 inode_at (g.P.Pmem.region c.replace_at.new.memory) c.replace_at.new.rows.items c.replace_at.new.free c.cpu.inside.0 c.time.inside.0 c.in_ok-planned.planned.there (subst (λ (n : ℕ). ReplacesAt (g.P.Pmem.region c.self.inside.memory) (g.P.Pmem.region c.replace_at.new.memory) c.self.inside.tables.layout c.self.inside.free c.replace_at.new.free c.cpu.inside.0 c.self.inside.rows.items c.replace_at.new.rows.items (place_in c.self.inside.rows.items c.in_ok-planned.planned.moved.from.directory) (place_in c.self.inside.rows.items c.in_ok-planned.planned.moved.from.target) (place_in c.self.inside.rows.items c.in_ok-planned.planned.moved.directory) c.in_ok-planned.planned.there n c.in_ok-planned.planned.moved.from.name.now c.in_ok-planned.planned.moved.name.now c.time.inside.0) (sym number) c.in-Ok.ensures.replaced))
          );
      wrote = rw (← c.cpu.view_is) (λ names others i d e held path other_path led walked ended sound.
          replace_stored g.P.Pmem.region c.self.view_is c.self.invariant.0 c.in_ok-writable.ensures.runs (g.P.Pmem.region c.replace_at.new.memory) c.cpu.inside.0 c.in_ok-planned.planned.moved.from.directory c.in_ok-planned.planned.moved.directory c.in_ok-planned.planned.moved.from.target c.in_ok-planned.ensures.in_use.from c.in_ok-planned.ensures.in_use.directory c.in_ok-planned.ensures.in_use.target
          c.in_ok-planned.planned.there c.in_ok-planned.ensures.there c.time.inside.0 c.in_ok-planned.planned.moved.from.name.now c.in_ok-planned.planned.moved.name.now names others (c.in_ok-planned.ensures.spot (g.P.Pmem.region c.self.inside.memory) names others path other_path) c.replace_at.ensures.wrote i d e held led walked ended sound
          );
      free_in_order = rw (← c.cpu.view_is, ← c.time.view_is) (λ names others i d e held h path other_path led none walked ended differ sound is.
          free_ordered g.P.Pmem.region c.self.view_is c.self.invariant.0 c.in_ok-writable.ensures.runs (g.P.Pmem.region c.replace_at.new.memory) c.cpu.inside.0 c.in_ok-planned.planned.moved.from.directory c.in_ok-planned.planned.moved.directory c.in_ok-planned.planned.moved.from.target c.in_ok-planned.ensures.in_use.from c.in_ok-planned.ensures.in_use.directory c.in_ok-planned.ensures.in_use.target
          c.in_ok-planned.planned.there c.in_ok-planned.ensures.there c.time.inside.0 c.in_ok-planned.planned.moved.from.name.now c.in_ok-planned.planned.moved.name.now names others (c.in_ok-planned.ensures.spot (g.P.Pmem.region c.self.inside.memory) names others path other_path) c.replace_at.ensures.free_in_order i d e held h led none walked ended differ sound is
          );
      within_in_order = rw (← c.cpu.view_is, ← c.time.view_is) (λ names others i j d node held h path other_path takes sound is.
          within_ordered g.P.Pmem.region c.self.view_is c.self.invariant.0 c.in_ok-writable.ensures.runs (g.P.Pmem.region c.replace_at.new.memory) c.cpu.inside.0 c.in_ok-planned.planned.moved.from.directory c.in_ok-planned.planned.moved.directory c.in_ok-planned.planned.moved.from.target c.in_ok-planned.ensures.in_use.from c.in_ok-planned.ensures.in_use.directory c.in_ok-planned.ensures.in_use.target
          c.in_ok-planned.planned.there c.in_ok-planned.ensures.there c.time.inside.0 c.in_ok-planned.planned.moved.from.name.now c.in_ok-planned.planned.moved.name.now names others (c.in_ok-planned.ensures.spot (g.P.Pmem.region c.self.inside.memory) names others path other_path) c.replace_at.ensures.within_in_order i j d node held h takes sound is
          );
      in_order = rw (← c.cpu.view_is, ← c.time.view_is) (λ names others i j d e node held h k path other_path takes differ sound is other_is.
          over_ordered g.P.Pmem.region c.self.view_is c.self.invariant.0 c.in_ok-writable.ensures.runs (g.P.Pmem.region c.replace_at.new.memory) c.cpu.inside.0 c.in_ok-planned.planned.moved.from.directory c.in_ok-planned.planned.moved.directory c.in_ok-planned.planned.moved.from.target c.in_ok-planned.ensures.in_use.from c.in_ok-planned.ensures.in_use.directory c.in_ok-planned.ensures.in_use.target
          c.in_ok-planned.planned.there c.in_ok-planned.ensures.there c.time.inside.0 c.in_ok-planned.planned.moved.from.name.now c.in_ok-planned.planned.moved.name.now names others (c.in_ok-planned.ensures.spot (g.P.Pmem.region c.self.inside.memory) names others path other_path) c.replace_at.ensures.in_order i j d e node held h k takes differ sound is other_is
          );
    }

pub returns-in_err-writable-clause-any_stop : goal.returns-in_err-writable-clause-any_stop
returns-in_err-writable-clause-any_stop g c names others path other_path on able = call_stays g.P.Pmem.region c.args.self.now (makes_replace c.args.time (Some others)) (logs_replace c.args.cpu c.args.time (Some others)) names c.in_err-writable.ensures.kept on able _ (c.in_err-writable.ensures.settled on)

pub returns-in_err-planned-clause-any_stop : goal.returns-in_err-planned-clause-any_stop
returns-in_err-planned-clause-any_stop g c names others path other_path on able = call_stays g.P.Pmem.region c.args.self.now (makes_replace c.args.time (Some others)) (logs_replace c.args.cpu c.args.time (Some others)) names c.in_ok-writable.ensures.kept on able _ (c.in_ok-writable.ensures.settled on)

pub replace_at-requires-clause-stands : goal.replace_at-requires-clause-stands
replace_at-requires-clause-stands g c row at =
    let runs : c.self.inside.stopped ≡ false = ap (λ (m : Mount g.row.P.Denot). m.stopped) c.self.view_is ∙ c.in_ok-writable.ensures.runs in
    let writes : c.self.inside.read_only ≡ false = ap (λ (m : Mount g.row.P.Denot). m.read_only) c.self.view_is ∙ c.in_ok-writable.ensures.writes in
    let low : c.cpu.inside.0 < c.self.inside.tables.layout.sup.cpus = subst (λ (m : Mount g.row.P.Denot). c.cpu.inside.0 < m.sup.cpus) (sym c.self.view_is) c.in_ok-writable.ensures.cpu in
    row_commits c.self.invariant.0 runs writes row (stands c.self.inside.rows.items (place_in c.self.inside.rows.items c.in_ok-planned.planned.moved.from.directory) row (at_place c.self.inside.rows.items c.in_ok-planned.planned.moved.from.directory ∙ at)) c.cpu.inside.0 low

pub replace_at-requires-clause-other_stands : goal.replace_at-requires-clause-other_stands
replace_at-requires-clause-other_stands g c row at =
    let runs : c.self.inside.stopped ≡ false = ap (λ (m : Mount g.row.P.Denot). m.stopped) c.self.view_is ∙ c.in_ok-writable.ensures.runs in
    let writes : c.self.inside.read_only ≡ false = ap (λ (m : Mount g.row.P.Denot). m.read_only) c.self.view_is ∙ c.in_ok-writable.ensures.writes in
    let low : c.cpu.inside.0 < c.self.inside.tables.layout.sup.cpus = subst (λ (m : Mount g.row.P.Denot). c.cpu.inside.0 < m.sup.cpus) (sym c.self.view_is) c.in_ok-writable.ensures.cpu in
    row_commits c.self.invariant.0 runs writes row (stands c.self.inside.rows.items (place_in c.self.inside.rows.items c.in_ok-planned.planned.moved.directory) row (at_place c.self.inside.rows.items c.in_ok-planned.planned.moved.directory ∙ at)) c.cpu.inside.0 low

pub replace_at-requires-clause-there_stands : goal.replace_at-requires-clause-there_stands
replace_at-requires-clause-there_stands g c i row is at =
    let runs : c.self.inside.stopped ≡ false = ap (λ (m : Mount g.row.P.Denot). m.stopped) c.self.view_is ∙ c.in_ok-writable.ensures.runs in
    let writes : c.self.inside.read_only ≡ false = ap (λ (m : Mount g.row.P.Denot). m.read_only) c.self.view_is ∙ c.in_ok-writable.ensures.writes in
    let low : c.cpu.inside.0 < c.self.inside.tables.layout.sup.cpus = subst (λ (m : Mount g.row.P.Denot). c.cpu.inside.0 < m.sup.cpus) (sym c.self.view_is) c.in_ok-writable.ensures.cpu in
    row_commits c.self.invariant.0 runs writes row (stands c.self.inside.rows.items (place_in c.self.inside.rows.items i) row (at_place c.self.inside.rows.items i ∙ at)) c.cpu.inside.0 low

pub replace_at-requires-clause-number : goal.replace_at-requires-clause-number
replace_at-requires-clause-number g c i is =
    let runs : c.self.inside.stopped ≡ false = ap (λ (m : Mount g.row.P.Denot). m.stopped) c.self.view_is ∙ c.in_ok-writable.ensures.runs in
    let writes : c.self.inside.read_only ≡ false = ap (λ (m : Mount g.row.P.Denot). m.read_only) c.self.view_is ∙ c.in_ok-writable.ensures.writes in
    let had = row_in_use c.self.inside.rows.items i (c.in_ok-planned.ensures.there i is) in
    subst (λ (n : ℕ). IsTrue (has_slot c.self.inside.tables.layout n)) (numbered c.self.inside.rows.items i had.0 had.1) (row_number c.self.invariant.0 runs writes had.0 (stands c.self.inside.rows.items (place_in c.self.inside.rows.items i) had.0 (at_place c.self.inside.rows.items i ∙ had.1)))

pub replace_at-requires-clause-can : goal.replace_at-requires-clause-can
replace_at-requires-clause-can g c i row is at =
    let runs : c.self.inside.stopped ≡ false = ap (λ (m : Mount g.row.P.Denot). m.stopped) c.self.view_is ∙ c.in_ok-writable.ensures.runs in
    let writes : c.self.inside.read_only ≡ false = ap (λ (m : Mount g.row.P.Denot). m.read_only) c.self.view_is ∙ c.in_ok-writable.ensures.writes in
    let low : c.cpu.inside.0 < c.self.inside.tables.layout.sup.cpus = subst (λ (m : Mount g.row.P.Denot). c.cpu.inside.0 < m.sup.cpus) (sym c.self.view_is) c.in_ok-writable.ensures.cpu in
    let had = row_in_use c.self.inside.rows.items i (c.in_ok-planned.ensures.there i is) in
    let number = subst (λ (n : ℕ). IsTrue (has_slot c.self.inside.tables.layout n)) (numbered c.self.inside.rows.items i had.0 had.1) (row_number c.self.invariant.0 runs writes had.0 (stands c.self.inside.rows.items (place_in c.self.inside.rows.items i) had.0 (at_place c.self.inside.rows.items i ∙ had.1))) in
    can_name c.self.invariant.0 runs writes c.cpu.inside.0 i low number row (stands c.self.inside.rows.items (place_in c.self.inside.rows.items c.in_ok-planned.planned.moved.directory) row (at_place c.self.inside.rows.items c.in_ok-planned.planned.moved.directory ∙ at))

pub replace_at-requires-clause-owns : goal.replace_at-requires-clause-owns
replace_at-requires-clause-owns g c i row is at =
    let runs : c.self.inside.stopped ≡ false = ap (λ (m : Mount g.row.P.Denot). m.stopped) c.self.view_is ∙ c.in_ok-writable.ensures.runs in
    let writes : c.self.inside.read_only ≡ false = ap (λ (m : Mount g.row.P.Denot). m.read_only) c.self.view_is ∙ c.in_ok-writable.ensures.writes in
    owns_blocks c.self.invariant.0 runs writes row (stands c.self.inside.rows.items (place_in c.self.inside.rows.items i) row (at_place c.self.inside.rows.items i ∙ at))

pub replace_at-requires-clause-settled_before : goal.replace_at-requires-clause-settled_before
replace_at-requires-clause-settled_before g c =
    let runs : c.self.inside.stopped ≡ false = ap (λ (m : Mount g.row.P.Denot). m.stopped) c.self.view_is ∙ c.in_ok-writable.ensures.runs in
    c.self.invariant.2 runs

pub replace_at-requires-clause-apart : goal.replace_at-requires-clause-apart
replace_at-requires-clause-apart g c i is other =
    let runs : c.self.inside.stopped ≡ false = ap (λ (m : Mount g.row.P.Denot). m.stopped) c.self.view_is ∙ c.in_ok-writable.ensures.runs in
    let writes : c.self.inside.read_only ≡ false = ap (λ (m : Mount g.row.P.Denot). m.read_only) c.self.view_is ∙ c.in_ok-writable.ensures.writes in
    let spot = c.in_ok-planned.ensures.spot (g.P.Pmem.region c.self.inside.memory) in
    let paths = c.in_ok-planned.ensures.paths in
    let old_path = paths.0 in
    let new_path = paths.1 in
    let inode = row_in_use c.self.inside.rows.items c.in_ok-planned.planned.moved.from.target c.in_ok-planned.ensures.in_use.target in
    let inode_at : slice_get c.self.inside.rows.items (place_in c.self.inside.rows.items c.in_ok-planned.planned.moved.from.target) ≡ Some inode.0 = at_place c.self.inside.rows.items c.in_ok-planned.planned.moved.from.target ∙ inode.1 in
    let number = numbered c.self.inside.rows.items c.in_ok-planned.planned.moved.from.target inode.0 inode.1 in
    let from = row_in_use c.self.inside.rows.items c.in_ok-planned.planned.moved.from.directory c.in_ok-planned.ensures.in_use.from in
    let from_at : slice_get c.self.inside.rows.items (place_in c.self.inside.rows.items c.in_ok-planned.planned.moved.from.directory) ≡ Some from.0 = at_place c.self.inside.rows.items c.in_ok-planned.planned.moved.from.directory ∙ from.1 in
    let to = row_in_use c.self.inside.rows.items c.in_ok-planned.planned.moved.directory c.in_ok-planned.ensures.in_use.directory in
    let to_at : slice_get c.self.inside.rows.items (place_in c.self.inside.rows.items c.in_ok-planned.planned.moved.directory) ≡ Some to.0 = at_place c.self.inside.rows.items c.in_ok-planned.planned.moved.directory ∙ to.1 in
    let apart = ends_apart c.self.invariant.0 runs writes (place_in c.self.inside.rows.items c.in_ok-planned.planned.moved.from.directory) (place_in c.self.inside.rows.items c.in_ok-planned.planned.moved.from.target) (place_in c.self.inside.rows.items c.in_ok-planned.planned.moved.directory) c.in_ok-planned.ensures.former c.in_ok-planned.ensures.name old_path.0 old_path.1 new_path.0 new_path.1 inode.0 inode_at i (c.in_ok-planned.ensures.there i is) (subst (λ (o : Option ℕ). IsReplaceSpot (tree_of (g.P.Pmem.region c.self.inside.memory) c.self.inside.rows.items) c.self.inside.rows.items (old_path.0 ∷ old_path.1) (new_path.0 ∷ new_path.1) (place_in c.self.inside.rows.items c.in_ok-planned.planned.moved.from.directory) c.in_ok-planned.planned.moved.from.name.now (place_in c.self.inside.rows.items c.in_ok-planned.planned.moved.from.target) (place_in c.self.inside.rows.items c.in_ok-planned.planned.moved.directory) c.in_ok-planned.planned.moved.name.now o) is (spot (old_path.0 ∷ old_path.1) (new_path.0 ∷ new_path.1) old_path.2 new_path.2)) (λ same. other (same ∙ number)) from.0 to.0 from_at to_at in
    (λ same. apart.0 (numbered c.self.inside.rows.items c.in_ok-planned.planned.moved.from.directory from.0 from.1 ∙ same), λ same. apart.1 (numbered c.self.inside.rows.items c.in_ok-planned.planned.moved.directory to.0 to.1 ∙ same))

pub invariant_of-self : goal.invariant_of-self
invariant_of-self g c =
    let runs : c.self.inside.stopped ≡ false = ap (λ (m : Mount g.row.P.Denot). m.stopped) c.self.view_is ∙ c.in_ok-writable.ensures.runs in
    let writes : c.self.inside.read_only ≡ false = ap (λ (m : Mount g.row.P.Denot). m.read_only) c.self.view_is ∙ c.in_ok-writable.ensures.writes in
    let spot = c.in_ok-planned.ensures.spot (g.P.Pmem.region c.self.inside.memory) in
    let paths = c.in_ok-planned.ensures.paths in
    let old_path = paths.0 in
    let new_path = paths.1 in
    let inode = row_in_use c.self.inside.rows.items c.in_ok-planned.planned.moved.from.target c.in_ok-planned.ensures.in_use.target in
    let inode_at : slice_get c.self.inside.rows.items (place_in c.self.inside.rows.items c.in_ok-planned.planned.moved.from.target) ≡ Some inode.0 = at_place c.self.inside.rows.items c.in_ok-planned.planned.moved.from.target ∙ inode.1 in
    let number = numbered c.self.inside.rows.items c.in_ok-planned.planned.moved.from.target inode.0 inode.1 in
    (replaced_kept c.self.invariant.0 runs writes (place_in c.self.inside.rows.items c.in_ok-planned.planned.moved.from.directory) (place_in c.self.inside.rows.items c.in_ok-planned.planned.moved.from.target) (place_in c.self.inside.rows.items c.in_ok-planned.planned.moved.directory) c.in_ok-planned.ensures.former c.in_ok-planned.ensures.name old_path.0 old_path.1 new_path.0 new_path.1 inode.0 inode_at (g.P.Pmem.region c.replace_at.new.memory) c.replace_at.new.rows.items c.replace_at.new.free c.cpu.inside.0 c.time.inside.0 c.in_ok-planned.planned.there c.in_ok-planned.ensures.there (spot (old_path.0 ∷ old_path.1) (new_path.0 ∷ new_path.1) old_path.2 new_path.2) (subst (λ (n : ℕ). ReplacesAt (g.P.Pmem.region c.self.inside.memory) (g.P.Pmem.region c.replace_at.new.memory) c.self.inside.tables.layout c.self.inside.free c.replace_at.new.free c.cpu.inside.0 c.self.inside.rows.items c.replace_at.new.rows.items (place_in c.self.inside.rows.items c.in_ok-planned.planned.moved.from.directory) (place_in c.self.inside.rows.items c.in_ok-planned.planned.moved.from.target) (place_in c.self.inside.rows.items c.in_ok-planned.planned.moved.directory) c.in_ok-planned.planned.there n c.in_ok-planned.planned.moved.from.name.now c.in_ok-planned.planned.moved.name.now c.time.inside.0) (sym number) c.in-Ok.ensures.replaced) c.self.inside.stopped, numbers_kept c.replace_at.ensures.kept.tables.0 c.replace_at.ensures.kept.tables.1 c.self.invariant.1, λ on. c.in-Ok.ensures.kept.settled)

pub invariant_of-self-in-Err : goal.invariant_of-self-in-Err
invariant_of-self-in-Err g c =
    let runs : c.self.inside.stopped ≡ false = ap (λ (m : Mount g.row.P.Denot). m.stopped) c.self.view_is ∙ c.in_ok-writable.ensures.runs in
    let writes : c.self.inside.read_only ≡ false = ap (λ (m : Mount g.row.P.Denot). m.read_only) c.self.view_is ∙ c.in_ok-writable.ensures.writes in (
      kept_or_stopped g.P.Pmem.region c.self.invariant.0 runs writes c.in-Err.refusal c.is_stop-self-inside.result c.is_stop-self-inside.ensures.yes c.is_stop-self-inside.ensures.no c.replace_at.ensures.kept.lists c.in-Err.ensures.kept.unchanged,
      numbers_kept c.replace_at.ensures.kept.tables.0 c.replace_at.ensures.kept.tables.1 c.self.invariant.1,
      settled_or_stopped g.P.Pmem.region g.P.Pmem.may_hold c.in-Err.refusal c.is_stop-self-inside.result c.is_stop-self-inside.ensures.no (λ off. (c.in-Err.ensures.kept.unchanged off).memory) (c.self.invariant.2 runs),
    )

pub returns-in-Ok-clause-allowed : goal.returns-in-Ok-clause-allowed
returns-in-Ok-clause-allowed g c =
    rw (← c.cpu.view_is) (λ p q says says_new.
    let runs : c.self.inside.stopped ≡ false = ap (λ (m : Mount g.row.P.Denot). m.stopped) c.self.view_is ∙ c.in_ok-writable.ensures.runs in
    let spot = c.in_ok-planned.ensures.spot (g.P.Pmem.region c.self.inside.memory) in
    let from = row_in_use c.self.inside.rows.items c.in_ok-planned.planned.moved.from.directory c.in_ok-planned.ensures.in_use.from in
    let from_at : slice_get c.self.inside.rows.items (place_in c.self.inside.rows.items c.in_ok-planned.planned.moved.from.directory) ≡ Some from.0 = at_place c.self.inside.rows.items c.in_ok-planned.planned.moved.from.directory ∙ from.1 in
    let to = row_in_use c.self.inside.rows.items c.in_ok-planned.planned.moved.directory c.in_ok-planned.ensures.in_use.directory in
    let to_at : slice_get c.self.inside.rows.items (place_in c.self.inside.rows.items c.in_ok-planned.planned.moved.directory) ≡ Some to.0 = at_place c.self.inside.rows.items c.in_ok-planned.planned.moved.directory ∙ to.1 in
    let inode = row_in_use c.self.inside.rows.items c.in_ok-planned.planned.moved.from.target c.in_ok-planned.ensures.in_use.target in
    let inode_at : slice_get c.self.inside.rows.items (place_in c.self.inside.rows.items c.in_ok-planned.planned.moved.from.target) ≡ Some inode.0 = at_place c.self.inside.rows.items c.in_ok-planned.planned.moved.from.target ∙ inode.1 in
    let number = numbered c.self.inside.rows.items c.in_ok-planned.planned.moved.from.target inode.0 inode.1 in
    let rises = rows_rise (g.P.Pmem.region c.self.inside.memory) c.self.inside.tables.layout.sup c.self.inside.tables.layout c.self.inside.rows.items c.self.inside.free c.self.inside.faults.items c.self.inside.read_only c.self.inside.stopped c.self.invariant.0 runs in
    let none = c.in_ok-planned.ensures.allowed (g.P.Pmem.region c.self.inside.memory) p q says says_new in
    replace_allowed g.P.Pmem.region c.self.view_is c.cpu.inside.0 c.in_ok-writable.ensures.passed (place_in c.self.inside.rows.items c.in_ok-planned.planned.moved.from.directory) (place_in c.self.inside.rows.items c.in_ok-planned.planned.moved.from.target) (place_in c.self.inside.rows.items c.in_ok-planned.planned.moved.directory) c.in_ok-planned.planned.there from.0 to.0 inode.0 rises from_at to_at inode_at (λ j is. row_in_use c.self.inside.rows.items j (c.in_ok-planned.ensures.there j is)) c.in_ok-planned.planned.moved.from.name.now c.in_ok-planned.planned.moved.name.now c.time.inside.0 c.args.old.now c.args.new.now spot p q says says_new none (subst (λ (n : ℕ). replace_count (place_in c.self.inside.rows.items c.in_ok-planned.planned.moved.from.directory) (place_in c.self.inside.rows.items c.in_ok-planned.planned.moved.directory) from.0 to.0 (option_and_then (row_of c.self.inside.rows.items) c.in_ok-planned.planned.there) n c.in_ok-planned.planned.moved.from.name.now c.in_ok-planned.planned.moved.name.now c.time.inside.0 ≤ all_blocks c.self.inside.free.pools) (sym number) (c.in-Ok.ensures.needs from.0 to.0 from.1 to.1).enough)
    )

pub returns-in-Err-clause-refused : goal.returns-in-Err-clause-refused
returns-in-Err-clause-refused g c =
    rw (← c.cpu.view_is) (λ still p q says says_new.
    let runs : c.self.inside.stopped ≡ false = ap (λ (m : Mount g.row.P.Denot). m.stopped) c.self.view_is ∙ c.in_ok-writable.ensures.runs in
    let spot = c.in_ok-planned.ensures.spot (g.P.Pmem.region c.self.inside.memory) in
    let from = row_in_use c.self.inside.rows.items c.in_ok-planned.planned.moved.from.directory c.in_ok-planned.ensures.in_use.from in
    let from_at : slice_get c.self.inside.rows.items (place_in c.self.inside.rows.items c.in_ok-planned.planned.moved.from.directory) ≡ Some from.0 = at_place c.self.inside.rows.items c.in_ok-planned.planned.moved.from.directory ∙ from.1 in
    let to = row_in_use c.self.inside.rows.items c.in_ok-planned.planned.moved.directory c.in_ok-planned.ensures.in_use.directory in
    let to_at : slice_get c.self.inside.rows.items (place_in c.self.inside.rows.items c.in_ok-planned.planned.moved.directory) ≡ Some to.0 = at_place c.self.inside.rows.items c.in_ok-planned.planned.moved.directory ∙ to.1 in
    let inode = row_in_use c.self.inside.rows.items c.in_ok-planned.planned.moved.from.target c.in_ok-planned.ensures.in_use.target in
    let inode_at : slice_get c.self.inside.rows.items (place_in c.self.inside.rows.items c.in_ok-planned.planned.moved.from.target) ≡ Some inode.0 = at_place c.self.inside.rows.items c.in_ok-planned.planned.moved.from.target ∙ inode.1 in
    let number = numbered c.self.inside.rows.items c.in_ok-planned.planned.moved.from.target inode.0 inode.1 in
    let rises = rows_rise (g.P.Pmem.region c.self.inside.memory) c.self.inside.tables.layout.sup c.self.inside.tables.layout c.self.inside.rows.items c.self.inside.free c.self.inside.faults.items c.self.inside.read_only c.self.inside.stopped c.self.invariant.0 runs in
    let none = c.in_ok-planned.ensures.allowed (g.P.Pmem.region c.self.inside.memory) p q says says_new in
    replace_refused g.P.Pmem.region c.self.view_is c.cpu.inside.0 c.in_ok-writable.ensures.passed (place_in c.self.inside.rows.items c.in_ok-planned.planned.moved.from.directory) (place_in c.self.inside.rows.items c.in_ok-planned.planned.moved.from.target) (place_in c.self.inside.rows.items c.in_ok-planned.planned.moved.directory) c.in_ok-planned.planned.there from.0 to.0 inode.0 rises from_at to_at inode_at (λ j is. row_in_use c.self.inside.rows.items j (c.in_ok-planned.ensures.there j is)) c.in_ok-planned.planned.moved.from.name.now c.in_ok-planned.planned.moved.name.now c.time.inside.0 c.args.old.now c.args.new.now spot p q says says_new none c.in-Err.refusal (subst (λ (n : ℕ). RefusesStep c.in-Err.refusal (replace_count (place_in c.self.inside.rows.items c.in_ok-planned.planned.moved.from.directory) (place_in c.self.inside.rows.items c.in_ok-planned.planned.moved.directory) from.0 to.0 (option_and_then (row_of c.self.inside.rows.items) c.in_ok-planned.planned.there) n c.in_ok-planned.planned.moved.from.name.now c.in_ok-planned.planned.moved.name.now c.time.inside.0) c.self.inside.free) (sym number) (c.in-Err.ensures.needs from.0 to.0 from.1 to.1).refused)
    )

pub returns-in-Ok-clause-changed : goal.returns-in-Ok-clause-changed
returns-in-Ok-clause-changed g c =
    rw (← c.time.view_is) (λ names others path other_path.
    let runs : c.self.inside.stopped ≡ false = ap (λ (m : Mount g.row.P.Denot). m.stopped) c.self.view_is ∙ c.in_ok-writable.ensures.runs in
    let writes : c.self.inside.read_only ≡ false = ap (λ (m : Mount g.row.P.Denot). m.read_only) c.self.view_is ∙ c.in_ok-writable.ensures.writes in
    let spot = c.in_ok-planned.ensures.spot (g.P.Pmem.region c.self.inside.memory) in
    let inode = row_in_use c.self.inside.rows.items c.in_ok-planned.planned.moved.from.target c.in_ok-planned.ensures.in_use.target in
    let inode_at : slice_get c.self.inside.rows.items (place_in c.self.inside.rows.items c.in_ok-planned.planned.moved.from.target) ≡ Some inode.0 = at_place c.self.inside.rows.items c.in_ok-planned.planned.moved.from.target ∙ inode.1 in
    let number = numbered c.self.inside.rows.items c.in_ok-planned.planned.moved.from.target inode.0 inode.1 in
    let old_long = long_text c.args.old.now c.in_ok-planned.ensures.paths.0 in
    let u = longer c.args.old.now names path old_long in
    let names_path : IsPath c.args.old.now (u.0 ∷ u.1) = subst (IsPath c.args.old.now) u.2 path in
    let long = long_text c.args.new.now c.in_ok-planned.ensures.paths.1 in
    let v = longer c.args.new.now others other_path long in
    let others_path : IsPath c.args.new.now (v.0 ∷ v.1) = subst (IsPath c.args.new.now) v.2 other_path in
    subst (λ (xs : List (List ℕ)). SameTree (tree_of (g.P.Pmem.region c.replace_at.new.memory) c.replace_at.new.rows.items) (replaced xs others c.time.inside.0 (tree_of (g.P.Pmem.region c.args.self.now.memory) c.args.self.now.rows))) (sym u.2)
    (subst (λ (xs : List (List ℕ)). SameTree (tree_of (g.P.Pmem.region c.replace_at.new.memory) c.replace_at.new.rows.items) (replaced (u.0 ∷ u.1) xs c.time.inside.0 (tree_of (g.P.Pmem.region c.args.self.now.memory) c.args.self.now.rows))) (sym v.2)
    (subst (λ (m : Mount g.row.P.Denot). SameTree (tree_of (g.P.Pmem.region c.replace_at.new.memory) c.replace_at.new.rows.items) (replaced (u.0 ∷ u.1) (v.0 ∷ v.1) c.time.inside.0 (tree_of (g.P.Pmem.region m.memory) m.rows))) c.self.view_is (replaced_tree c.self.invariant.0 runs writes (place_in c.self.inside.rows.items c.in_ok-planned.planned.moved.from.directory) (place_in c.self.inside.rows.items c.in_ok-planned.planned.moved.from.target) (place_in c.self.inside.rows.items c.in_ok-planned.planned.moved.directory) c.in_ok-planned.ensures.former c.in_ok-planned.ensures.name u.0 u.1 v.0 v.1 inode.0 inode_at (g.P.Pmem.region c.replace_at.new.memory) c.replace_at.new.rows.items c.replace_at.new.free c.cpu.inside.0 c.time.inside.0 c.in_ok-planned.planned.there c.in_ok-planned.ensures.there (spot (u.0 ∷ u.1) (v.0 ∷ v.1) names_path others_path) (subst (λ (n : ℕ). ReplacesAt (g.P.Pmem.region c.self.inside.memory) (g.P.Pmem.region c.replace_at.new.memory) c.self.inside.tables.layout c.self.inside.free c.replace_at.new.free c.cpu.inside.0 c.self.inside.rows.items c.replace_at.new.rows.items (place_in c.self.inside.rows.items c.in_ok-planned.planned.moved.from.directory) (place_in c.self.inside.rows.items c.in_ok-planned.planned.moved.from.target) (place_in c.self.inside.rows.items c.in_ok-planned.planned.moved.directory) c.in_ok-planned.planned.there n c.in_ok-planned.planned.moved.from.name.now c.in_ok-planned.planned.moved.name.now c.time.inside.0) (sym number) c.in-Ok.ensures.replaced))))
    )

pub returns-in-Ok-clause-any_stop : goal.returns-in-Ok-clause-any_stop
returns-in-Ok-clause-any_stop g c =
    rw (← c.cpu.view_is, ← c.time.view_is) (λ names others path other_path on able.
    let runs : c.self.inside.stopped ≡ false = ap (λ (m : Mount g.row.P.Denot). m.stopped) c.self.view_is ∙ c.in_ok-writable.ensures.runs in
    let writes : c.self.inside.read_only ≡ false = ap (λ (m : Mount g.row.P.Denot). m.read_only) c.self.view_is ∙ c.in_ok-writable.ensures.writes in
    let old_long = long_text c.args.old.now c.in_ok-planned.ensures.paths.0 in
    let u = longer c.args.old.now names path old_long in
    let names_path : IsPath c.args.old.now (u.0 ∷ u.1) = subst (IsPath c.args.old.now) u.2 path in
    let long = long_text c.args.new.now c.in_ok-planned.ensures.paths.1 in
    let v = longer c.args.new.now others other_path long in
    let others_path : IsPath c.args.new.now (v.0 ∷ v.1) = subst (IsPath c.args.new.now) v.2 other_path in
    let from = row_in_use c.self.inside.rows.items c.in_ok-planned.planned.moved.from.directory c.in_ok-planned.ensures.in_use.from in
    let from_at : slice_get c.self.inside.rows.items (place_in c.self.inside.rows.items c.in_ok-planned.planned.moved.from.directory) ≡ Some from.0 = at_place c.self.inside.rows.items c.in_ok-planned.planned.moved.from.directory ∙ from.1 in
    let to = row_in_use c.self.inside.rows.items c.in_ok-planned.planned.moved.directory c.in_ok-planned.ensures.in_use.directory in
    let to_at : slice_get c.self.inside.rows.items (place_in c.self.inside.rows.items c.in_ok-planned.planned.moved.directory) ≡ Some to.0 = at_place c.self.inside.rows.items c.in_ok-planned.planned.moved.directory ∙ to.1 in
    let inode = row_in_use c.self.inside.rows.items c.in_ok-planned.planned.moved.from.target c.in_ok-planned.ensures.in_use.target in
    let inode_at : slice_get c.self.inside.rows.items (place_in c.self.inside.rows.items c.in_ok-planned.planned.moved.from.target) ≡ Some inode.0 = at_place c.self.inside.rows.items c.in_ok-planned.planned.moved.from.target ∙ inode.1 in
    let number = numbered c.self.inside.rows.items c.in_ok-planned.planned.moved.from.target inode.0 inode.1 in
    subst (λ (ys : List (List ℕ)). LeavesOnly (g.P.Pmem.region c.replace_at.new.memory) (g.P.Pmem.may_hold c.replace_at.new.memory) (LeavesCall (makes_replace c.time.inside.0 (Some others)) (logs_replace c.cpu.inside.0 c.time.inside.0 (Some others)) (g.P.Pmem.region c.args.self.now.memory) c.args.self.now ys)) (sym u.2)
    (subst (λ (xs : List (List ℕ)). LeavesOnly (g.P.Pmem.region c.replace_at.new.memory) (g.P.Pmem.may_hold c.replace_at.new.memory) (LeavesCall (makes_replace c.time.inside.0 (Some xs)) (logs_replace c.cpu.inside.0 c.time.inside.0 (Some xs)) (g.P.Pmem.region c.args.self.now.memory) c.args.self.now (u.0 ∷ u.1))) (sym v.2)
    (replace_left g.P.Pmem.region c.self.view_is c.self.invariant.0 runs writes c.in_ok-planned.planned.moved.from.directory c.in_ok-planned.planned.moved.from.target c.in_ok-planned.planned.moved.directory from.0 inode.0 to.0 from.1 inode.1 to.1 c.in_ok-planned.planned.there c.in_ok-planned.planned.moved.from.name.now c.in_ok-planned.planned.moved.name.now c.cpu.inside.0 c.time.inside.0 c.in_ok-planned.ensures.former c.in_ok-planned.ensures.name u.0 u.1 v.0 v.1 (c.in_ok-planned.ensures.spot (g.P.Pmem.region c.self.inside.memory) (u.0 ∷ u.1) (v.0 ∷ v.1) names_path others_path) (λ j is. row_in_use c.self.inside.rows.items j (c.in_ok-planned.ensures.there j is)) _ _
    (λ held h k here other none seen. subst (λ (n : ℕ). LeavesOnly (g.P.Pmem.region c.replace_at.new.memory) (g.P.Pmem.may_hold c.replace_at.new.memory) (LeavesEither (g.P.Pmem.region c.self.inside.memory) c.self.inside.tables.layout held (ReplacedAt (g.P.Pmem.region c.self.inside.memory) c.self.inside.tables.layout c.self.inside.free c.cpu.inside.0 (place_in c.self.inside.rows.items c.in_ok-planned.planned.moved.from.directory) (place_in c.self.inside.rows.items c.in_ok-planned.planned.moved.directory) from.0 to.0 (option_and_then (row_of c.self.inside.rows.items) c.in_ok-planned.planned.there) n c.in_ok-planned.planned.moved.from.name.now c.in_ok-planned.planned.moved.name.now c.time.inside.0))) (sym number) (c.replace_at.ensures.any_stop from.0 to.0 held h k from.1 to.1 here other none seen))))
    )

pub returns-in-Err-clause-any_stop : goal.returns-in-Err-clause-any_stop
returns-in-Err-clause-any_stop g c =
    rw (← c.cpu.view_is, ← c.time.view_is) (λ names others path other_path on able.
    let runs : c.self.inside.stopped ≡ false = ap (λ (m : Mount g.row.P.Denot). m.stopped) c.self.view_is ∙ c.in_ok-writable.ensures.runs in
    let writes : c.self.inside.read_only ≡ false = ap (λ (m : Mount g.row.P.Denot). m.read_only) c.self.view_is ∙ c.in_ok-writable.ensures.writes in
    let old_long = long_text c.args.old.now c.in_ok-planned.ensures.paths.0 in
    let u = longer c.args.old.now names path old_long in
    let names_path : IsPath c.args.old.now (u.0 ∷ u.1) = subst (IsPath c.args.old.now) u.2 path in
    let long = long_text c.args.new.now c.in_ok-planned.ensures.paths.1 in
    let v = longer c.args.new.now others other_path long in
    let others_path : IsPath c.args.new.now (v.0 ∷ v.1) = subst (IsPath c.args.new.now) v.2 other_path in
    let from = row_in_use c.self.inside.rows.items c.in_ok-planned.planned.moved.from.directory c.in_ok-planned.ensures.in_use.from in
    let from_at : slice_get c.self.inside.rows.items (place_in c.self.inside.rows.items c.in_ok-planned.planned.moved.from.directory) ≡ Some from.0 = at_place c.self.inside.rows.items c.in_ok-planned.planned.moved.from.directory ∙ from.1 in
    let to = row_in_use c.self.inside.rows.items c.in_ok-planned.planned.moved.directory c.in_ok-planned.ensures.in_use.directory in
    let to_at : slice_get c.self.inside.rows.items (place_in c.self.inside.rows.items c.in_ok-planned.planned.moved.directory) ≡ Some to.0 = at_place c.self.inside.rows.items c.in_ok-planned.planned.moved.directory ∙ to.1 in
    let inode = row_in_use c.self.inside.rows.items c.in_ok-planned.planned.moved.from.target c.in_ok-planned.ensures.in_use.target in
    let inode_at : slice_get c.self.inside.rows.items (place_in c.self.inside.rows.items c.in_ok-planned.planned.moved.from.target) ≡ Some inode.0 = at_place c.self.inside.rows.items c.in_ok-planned.planned.moved.from.target ∙ inode.1 in
    let number = numbered c.self.inside.rows.items c.in_ok-planned.planned.moved.from.target inode.0 inode.1 in
    subst (λ (ys : List (List ℕ)). LeavesOnly (g.P.Pmem.region c.replace_at.new.memory) (g.P.Pmem.may_hold c.replace_at.new.memory) (LeavesCall (makes_replace c.time.inside.0 (Some others)) (logs_replace c.cpu.inside.0 c.time.inside.0 (Some others)) (g.P.Pmem.region c.args.self.now.memory) c.args.self.now ys)) (sym u.2)
    (subst (λ (xs : List (List ℕ)). LeavesOnly (g.P.Pmem.region c.replace_at.new.memory) (g.P.Pmem.may_hold c.replace_at.new.memory) (LeavesCall (makes_replace c.time.inside.0 (Some xs)) (logs_replace c.cpu.inside.0 c.time.inside.0 (Some xs)) (g.P.Pmem.region c.args.self.now.memory) c.args.self.now (u.0 ∷ u.1))) (sym v.2)
    (replace_left g.P.Pmem.region c.self.view_is c.self.invariant.0 runs writes c.in_ok-planned.planned.moved.from.directory c.in_ok-planned.planned.moved.from.target c.in_ok-planned.planned.moved.directory from.0 inode.0 to.0 from.1 inode.1 to.1 c.in_ok-planned.planned.there c.in_ok-planned.planned.moved.from.name.now c.in_ok-planned.planned.moved.name.now c.cpu.inside.0 c.time.inside.0 c.in_ok-planned.ensures.former c.in_ok-planned.ensures.name u.0 u.1 v.0 v.1 (c.in_ok-planned.ensures.spot (g.P.Pmem.region c.self.inside.memory) (u.0 ∷ u.1) (v.0 ∷ v.1) names_path others_path) (λ j is. row_in_use c.self.inside.rows.items j (c.in_ok-planned.ensures.there j is)) _ _
    (λ held h k here other none seen. subst (λ (n : ℕ). LeavesOnly (g.P.Pmem.region c.replace_at.new.memory) (g.P.Pmem.may_hold c.replace_at.new.memory) (LeavesEither (g.P.Pmem.region c.self.inside.memory) c.self.inside.tables.layout held (ReplacedAt (g.P.Pmem.region c.self.inside.memory) c.self.inside.tables.layout c.self.inside.free c.cpu.inside.0 (place_in c.self.inside.rows.items c.in_ok-planned.planned.moved.from.directory) (place_in c.self.inside.rows.items c.in_ok-planned.planned.moved.directory) from.0 to.0 (option_and_then (row_of c.self.inside.rows.items) c.in_ok-planned.planned.there) n c.in_ok-planned.planned.moved.from.name.now c.in_ok-planned.planned.moved.name.now c.time.inside.0))) (sym number) (c.replace_at.ensures.any_stop from.0 to.0 held h k from.1 to.1 here other none seen))))
    )

pub returns-in-Ok-clause-log : goal.returns-in-Ok-clause-log
returns-in-Ok-clause-log g c =
    rw (← c.cpu.view_is, ← c.time.view_is) (λ names others path other_path.
    let runs : c.self.inside.stopped ≡ false = ap (λ (m : Mount g.row.P.Denot). m.stopped) c.self.view_is ∙ c.in_ok-writable.ensures.runs in
    let writes : c.self.inside.read_only ≡ false = ap (λ (m : Mount g.row.P.Denot). m.read_only) c.self.view_is ∙ c.in_ok-writable.ensures.writes in
    let old_long = long_text c.args.old.now c.in_ok-planned.ensures.paths.0 in
    let u = longer c.args.old.now names path old_long in
    let names_path : IsPath c.args.old.now (u.0 ∷ u.1) = subst (IsPath c.args.old.now) u.2 path in
    let long = long_text c.args.new.now c.in_ok-planned.ensures.paths.1 in
    let v = longer c.args.new.now others other_path long in
    let others_path : IsPath c.args.new.now (v.0 ∷ v.1) = subst (IsPath c.args.new.now) v.2 other_path in
    let from = row_in_use c.self.inside.rows.items c.in_ok-planned.planned.moved.from.directory c.in_ok-planned.ensures.in_use.from in
    let from_at : slice_get c.self.inside.rows.items (place_in c.self.inside.rows.items c.in_ok-planned.planned.moved.from.directory) ≡ Some from.0 = at_place c.self.inside.rows.items c.in_ok-planned.planned.moved.from.directory ∙ from.1 in
    let to = row_in_use c.self.inside.rows.items c.in_ok-planned.planned.moved.directory c.in_ok-planned.ensures.in_use.directory in
    let to_at : slice_get c.self.inside.rows.items (place_in c.self.inside.rows.items c.in_ok-planned.planned.moved.directory) ≡ Some to.0 = at_place c.self.inside.rows.items c.in_ok-planned.planned.moved.directory ∙ to.1 in
    let inode = row_in_use c.self.inside.rows.items c.in_ok-planned.planned.moved.from.target c.in_ok-planned.ensures.in_use.target in
    let inode_at : slice_get c.self.inside.rows.items (place_in c.self.inside.rows.items c.in_ok-planned.planned.moved.from.target) ≡ Some inode.0 = at_place c.self.inside.rows.items c.in_ok-planned.planned.moved.from.target ∙ inode.1 in
    let number = numbered c.self.inside.rows.items c.in_ok-planned.planned.moved.from.target inode.0 inode.1 in
    subst (λ (ys : List (List ℕ)). LogsReplace c.cpu.inside.0 c.time.inside.0 others (g.P.Pmem.region c.args.self.now.memory) c.args.self.now ys (g.P.Pmem.region c.replace_at.new.memory)) (sym u.2)
    (subst (λ (xs : List (List ℕ)). LogsReplace c.cpu.inside.0 c.time.inside.0 xs (g.P.Pmem.region c.args.self.now.memory) c.args.self.now (u.0 ∷ u.1) (g.P.Pmem.region c.replace_at.new.memory)) (sym v.2)
    (replaced_logs g.P.Pmem.region c.self.view_is c.self.invariant.0 runs writes c.in_ok-planned.planned.moved.from.directory c.in_ok-planned.planned.moved.from.target c.in_ok-planned.planned.moved.directory from.0 inode.0 to.0 from.1 inode.1 to.1 c.in_ok-planned.planned.there c.in_ok-planned.planned.moved.from.name.now c.in_ok-planned.planned.moved.name.now c.cpu.inside.0 c.time.inside.0 c.in_ok-planned.ensures.former c.in_ok-planned.ensures.name u.0 u.1 v.0 v.1 (c.in_ok-planned.ensures.spot (g.P.Pmem.region c.self.inside.memory) (u.0 ∷ u.1) (v.0 ∷ v.1) names_path others_path) (g.P.Pmem.region c.replace_at.new.memory) c.replace_at.new.rows.items c.replace_at.new.free (λ j is. row_in_use c.self.inside.rows.items j (c.in_ok-planned.ensures.there j is))
    (subst (λ (n : ℕ). ReplacesAt (g.P.Pmem.region c.self.inside.memory) (g.P.Pmem.region c.replace_at.new.memory) c.self.inside.tables.layout c.self.inside.free c.replace_at.new.free c.cpu.inside.0 c.self.inside.rows.items c.replace_at.new.rows.items (place_in c.self.inside.rows.items c.in_ok-planned.planned.moved.from.directory) (place_in c.self.inside.rows.items c.in_ok-planned.planned.moved.from.target) (place_in c.self.inside.rows.items c.in_ok-planned.planned.moved.directory) c.in_ok-planned.planned.there n c.in_ok-planned.planned.moved.from.name.now c.in_ok-planned.planned.moved.name.now c.time.inside.0) (sym number) c.in-Ok.ensures.replaced)))
    )

pub returns-in_err-writable-clause-one : goal.returns-in_err-writable-clause-one
returns-in_err-writable-clause-one g c names others i path other_path led leads_too = same_mount c.args.self.now

pub returns-in_err-planned-clause-one : goal.returns-in_err-planned-clause-one
returns-in_err-planned-clause-one g c names others i path other_path led leads_too = same_mount c.args.self.now

pub returns-in-Ok-clause-one : goal.returns-in-Ok-clause-one
returns-in-Ok-clause-one g c names others i path other_path led leads_too =
    let runs : c.self.inside.stopped ≡ false = ap (λ (m : Mount g.row.P.Denot). m.stopped) c.self.view_is ∙ c.in_ok-writable.ensures.runs in
    unchanged_rows c.self.view_is c.replace_at.new.memory c.replace_at.new.rows.items c.replace_at.new.free c.self.inside.stopped runs runs
    (c.replace_at.ensures.same (one_inode g.P.Pmem.region c.self.view_is c.self.invariant.0 c.in_ok-writable.ensures.runs (g.P.Pmem.region c.replace_at.new.memory) c.args.cpu c.in_ok-planned.planned.moved.from.directory c.in_ok-planned.planned.moved.directory c.in_ok-planned.planned.moved.from.target c.in_ok-planned.ensures.in_use.from c.in_ok-planned.ensures.in_use.directory c.in_ok-planned.ensures.in_use.target
    c.in_ok-planned.planned.there c.in_ok-planned.ensures.there c.args.time c.in_ok-planned.planned.moved.from.name.now c.in_ok-planned.planned.moved.name.now names others (c.in_ok-planned.ensures.spot (g.P.Pmem.region c.self.inside.memory) names others path other_path) i led leads_too)).1

pub returns-in-Err-clause-one : goal.returns-in-Err-clause-one
returns-in-Err-clause-one g c names others i path other_path led leads_too = absurd ((c.in-Err.ensures.same (one_inode g.P.Pmem.region c.self.view_is c.self.invariant.0 c.in_ok-writable.ensures.runs (g.P.Pmem.region c.replace_at.new.memory) c.args.cpu c.in_ok-planned.planned.moved.from.directory c.in_ok-planned.planned.moved.directory c.in_ok-planned.planned.moved.from.target c.in_ok-planned.ensures.in_use.from c.in_ok-planned.ensures.in_use.directory c.in_ok-planned.ensures.in_use.target
    c.in_ok-planned.planned.there c.in_ok-planned.ensures.there c.args.time c.in_ok-planned.planned.moved.from.name.now c.in_ok-planned.planned.moved.name.now names others (c.in_ok-planned.ensures.spot (g.P.Pmem.region c.self.inside.memory) names others path other_path) i led leads_too)).0)
