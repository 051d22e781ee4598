use Rattle.std.proofs.Common.{◌≡◌, ◌∙◌, ◌<◌, ◌++◌, ◌∷◌, [], List, ℕ, Some, Ok, false, inr, ap, subst, sym, slice_get, inl, refl}
use Rattle.std.proofs.lemmas.Result.{err_from_is_err_and, IfOk-from_err}
use Rattle.nv_rows.proofs.TableNumbers.{numbers_kept}
use Rattle.nv_tree.specs.declared.refusal.Refusal.{Refusal}
use Rattle.nv_mounted.specs.Mounted.{ShowsSound}
use Rattle.nv_rows.specs.Rows.{place_in}
use Rattle.nv_rows.proofs.Places.{at_place, own_row, row_in_use}
use Rattle.nv_entry.specs.declared.entry.Operation.TheVariants.{Add, Remove}
use Rattle.nv_tree.specs.Path.{IsPath, last_name}
use Rattle.nv_tree.specs.Tree.{SameTree, walk}
use Rattle.nv_tree.specs.Calls.{renamed}
use Rattle.nv_tree.specs.Refusals.{first_refusal, has_no_space, is_bad_name, is_into_itself, is_missing, is_there, rename_tests, walk_tests, IsRefusedBy}
use Rattle.nv_tree.proofs.Texts.{text_says}
use Rattle.nv_calls.specs.Stopped.{LeavesCall}
use Rattle.nv_calls.specs.Effects.{logs_rename, makes_rename}
use Rattle.nv_calls.specs.GrownLogs.{ShowsGrownLog}
use Rattle.nv_calls.specs.LinkCalls.{ShowsBothGrew}
use Rattle.nv_calls.specs.MoveCalls.{rename_blocks}
use Rattle.nv_paths.specs.MoveSpots.{rename_spot_tests}
use Rattle.nv_steps.specs.Moves.{move_entries}
use Rattle.nv_calls.specs.Mount.{Mount}
use Rattle.nv_steps.specs.NameEntries.{name_entries}
use Rattle.nv_steps.specs.Fronts.{SameFrontBut}
use Rattle.nv_paths.specs.Seen.{LeadsTo, tree_of}
use Rattle.nv_region.specs.Stops.{LeavesOnly}
use Rattle.nv_calls.specs.World.{world_of}
use Rattle.nv_calls.proofs.Stopped.{call_stays, settled_or_stopped}
use Rattle.nv_calls.proofs.StoppedMoves.{rename_left}
use Rattle.nv_calls.proofs.CreateCall.{kept_or_stopped, unchanged_rows}
use Rattle.nv_paths.proofs.CreateTests.{long_text}
use Rattle.nv_calls.proofs.Kept.{rows_rise}
use Rattle.nv_tree.proofs.Replies.{refused_by}
use Rattle.nv_calls.proofs.MoveCall.{moved_kept, moved_log, moved_logs, moved_tree, rename_allowed, rename_refused}
use Rattle.nv_paths.proofs.MoveSpots.{move_goes_on}
use Rattle.nv_calls.proofs.MoveTests.{rename_refuses}
use Rattle.nv_super.proofs.Members.{stands}
use Rattle.nv_calls.proofs.RowChange.{same_mount}
use Rattle.nv_calls.proofs.RowNumbers.{row_commits}
use Rattle.nv_calls.proofs.SetAttr.{not_stop}
use Rattle.nv_calls.proofs.Tests.{writing_goes_on}
use Rattle.nv_paths.proofs.Walks.{longer}
use Rattle.nv_calls.proofs.TwoWords.{rename_ordered, rename_stored, within_stored}
use Rattle.nv_calls.proofs.fs.Fs.rename.Goals as goal
use Rattle.nv_calls.proofs.FrontsKept.{moved_front}
use Rattle.nv_calls.proofs.CallKept.{call_done, refused_first, refused_late, refused_later}

pub returns-in_err-writable-clause-refused : goal.returns-in_err-writable-clause-refused
returns-in_err-writable-clause-refused g c =
    rw (← c.cpu.view_is) (λ runs p q says says_new.
    let w = err_from_is_err_and c.from_residual.result c.from_residual.ensures.1 in
    refused_by c.from_residual.result c.in_err-writable.field-0.0 w.0 (IsRefusedBy (first_refusal (rename_tests (world_of c.args.self.now) (tree_of (g.P.Pmem.region c.args.self.now.memory) c.args.self.now.rows) c.cpu.inside.0 p q (rename_blocks c.args.self.now.rows (tree_of (g.P.Pmem.region c.args.self.now.memory) c.args.self.now.rows) p q)))) w.1 w.2
    (inr (inr (c.in_err-writable.ensures.refused runs (is_bad_name p ∷ is_bad_name q ∷ walk_tests (tree_of (g.P.Pmem.region c.args.self.now.memory) c.args.self.now.rows) p ++ walk_tests (tree_of (g.P.Pmem.region c.args.self.now.memory) c.args.self.now.rows) q ++ is_missing (tree_of (g.P.Pmem.region c.args.self.now.memory) c.args.self.now.rows) p ∷ is_into_itself (tree_of (g.P.Pmem.region c.args.self.now.memory) c.args.self.now.rows) p q ∷ is_there (tree_of (g.P.Pmem.region c.args.self.now.memory) c.args.self.now.rows) q ∷ has_no_space (world_of c.args.self.now) (rename_blocks c.args.self.now.rows (tree_of (g.P.Pmem.region c.args.self.now.memory) c.args.self.now.rows) p q) ∷ []))))
    )

pub returns-in_err-writable-clause-call : goal.returns-in_err-writable-clause-call
returns-in_err-writable-clause-call g c =
    let w = err_from_is_err_and c.from_residual.result c.from_residual.ensures.1 in
    record {
      of_path = record {
        call = refused_first g.P.Pmem.region g.P.Pmem.fuse c.args.self.now c.from_residual.result c.in_err-writable.field-0.0 w.0 w.1 w.2 c.in_err-writable.ensures.stopped
            (λ runs is. writing_goes_on (world_of c.args.self.now) c.cpu.inside.0 (c.in_err-writable.ensures.refused runs [] ∙ ap (λ (e : Refusal). Some e) is));
        bad_text = λ bad. same_mount c.args.self.now;
      };
      settled = IfOk-from_err c.from_residual.result _ c.from_residual.ensures.0;
    }

pub returns-in_err-writable-clause-stores : goal.returns-in_err-writable-clause-stores
returns-in_err-writable-clause-stores g c =
    record {
      journals = IfOk-from_err c.from_residual.result _ c.from_residual.ensures.0;
      wrote = λ names others i d e node held path other_path led walked ended differ sound. λ at whole away. refl;
      within_wrote = λ names others d held path other_path walked ended sound. λ at whole away. refl;
      in_order = λ names others i d e node held h path other_path led walked ended differ sound is. ∣ inl refl ∣₁;
    }

pub returns-in_err-moved-clause-refused : goal.returns-in_err-moved-clause-refused
returns-in_err-moved-clause-refused g c =
    rw (← c.cpu.view_is) (λ still p q says says_new.
    let told : first_refusal (rename_spot_tests (tree_of (g.P.Pmem.region c.args.self.now.memory) c.args.self.now.rows) p q) ≡ Some c.in_err-moved.field-0.0 =
    subst (λ (m : Mount g.row.P.Denot). first_refusal (rename_spot_tests (tree_of (g.P.Pmem.region m.memory) m.rows) p q) ≡ Some c.in_err-moved.field-0.0) c.self.view_is
    (c.in_err-moved.ensures.refused (g.P.Pmem.region c.self.inside.memory) p q says says_new) in
    let w = err_from_is_err_and c.from_residual-in_err-moved.result c.from_residual-in_err-moved.ensures.1 in
    refused_by c.from_residual-in_err-moved.result c.in_err-moved.field-0.0 w.0 (IsRefusedBy (first_refusal (rename_tests (world_of c.args.self.now) (tree_of (g.P.Pmem.region c.args.self.now.memory) c.args.self.now.rows) c.cpu.inside.0 p q (rename_blocks c.args.self.now.rows (tree_of (g.P.Pmem.region c.args.self.now.memory) c.args.self.now.rows) p q)))) w.1 w.2
    (inr (inr (rename_refuses (world_of c.args.self.now) (tree_of (g.P.Pmem.region c.args.self.now.memory) c.args.self.now.rows) c.cpu.inside.0 c.in_ok-writable.ensures.passed p q (rename_blocks c.args.self.now.rows (tree_of (g.P.Pmem.region c.args.self.now.memory) c.args.self.now.rows) p q) c.in_err-moved.field-0.0 told)))
    )

pub returns-in_err-moved-clause-call : goal.returns-in_err-moved-clause-call
returns-in_err-moved-clause-call g c =
    let w = err_from_is_err_and c.from_residual-in_err-moved.result c.from_residual-in_err-moved.ensures.1 in
    let said = text_says c.args.old.now in
    let said_new = text_says c.args.new.now in
    let told = c.in_err-moved.ensures.refused (g.P.Pmem.region c.self.inside.memory) said.0 said_new.0 said.1 said_new.1 in
    record {
      of_path = record {
        call = refused_later g.P.Pmem.region g.P.Pmem.fuse c.args.self.now c.from_residual-in_err-moved.result c.in_err-moved.field-0.0 w.0 w.1 w.2 c.in_ok-writable.ensures.runs
            (λ is. move_goes_on (tree_of (g.P.Pmem.region c.self.inside.memory) c.self.inside.rows.items) said.0 said_new.0 (told ∙ ap (λ (e : Refusal). Some e) is));
        bad_text = λ bad. same_mount c.args.self.now;
      };
      settled = IfOk-from_err c.from_residual-in_err-moved.result _ c.from_residual-in_err-moved.ensures.0;
    }

pub returns-in_err-moved-clause-stores : goal.returns-in_err-moved-clause-stores
returns-in_err-moved-clause-stores g c =
    record {
      journals = IfOk-from_err c.from_residual-in_err-moved.result _ c.from_residual-in_err-moved.ensures.0;
      wrote = λ names others i d e node held path other_path led walked ended differ sound. λ at whole away. refl;
      within_wrote = λ names others d held path other_path walked ended sound. λ at whole away. refl;
      in_order = λ names others i d e node held h path other_path led walked ended differ sound is. ∣ inl refl ∣₁;
    }

pub move_at-requires-clause-stands : goal.move_at-requires-clause-stands
move_at-requires-clause-stands g c row at =
    let runs : c.self.inside.stopped ≡ false = ap (λ (m : Mount g.row.P.Denot). m.stopped) c.self.view_is ∙ c.in_ok-writable.ensures.runs in
    let writes : c.self.inside.read_only ≡ false = ap (λ (m : Mount g.row.P.Denot). m.read_only) c.self.view_is ∙ c.in_ok-writable.ensures.writes in
    let low : c.cpu.inside.0 < c.self.inside.tables.layout.sup.cpus = subst (λ (m : Mount g.row.P.Denot). c.cpu.inside.0 < m.sup.cpus) (sym c.self.view_is) c.in_ok-writable.ensures.cpu in
    row_commits c.self.invariant.0 runs writes row (stands c.self.inside.rows.items (place_in c.self.inside.rows.items c.in_ok-moved.moved.from.directory) row (at_place c.self.inside.rows.items c.in_ok-moved.moved.from.directory ∙ at)) c.cpu.inside.0 low

pub move_at-requires-clause-other_stands : goal.move_at-requires-clause-other_stands
move_at-requires-clause-other_stands g c row at =
    let runs : c.self.inside.stopped ≡ false = ap (λ (m : Mount g.row.P.Denot). m.stopped) c.self.view_is ∙ c.in_ok-writable.ensures.runs in
    let writes : c.self.inside.read_only ≡ false = ap (λ (m : Mount g.row.P.Denot). m.read_only) c.self.view_is ∙ c.in_ok-writable.ensures.writes in
    let low : c.cpu.inside.0 < c.self.inside.tables.layout.sup.cpus = subst (λ (m : Mount g.row.P.Denot). c.cpu.inside.0 < m.sup.cpus) (sym c.self.view_is) c.in_ok-writable.ensures.cpu in
    row_commits c.self.invariant.0 runs writes row (stands c.self.inside.rows.items (place_in c.self.inside.rows.items c.in_ok-moved.moved.directory) row (at_place c.self.inside.rows.items c.in_ok-moved.moved.directory ∙ at)) c.cpu.inside.0 low

pub invariant_of-self : goal.invariant_of-self
invariant_of-self g c =
    let runs : c.self.inside.stopped ≡ false = ap (λ (m : Mount g.row.P.Denot). m.stopped) c.self.view_is ∙ c.in_ok-writable.ensures.runs in
    let writes : c.self.inside.read_only ≡ false = ap (λ (m : Mount g.row.P.Denot). m.read_only) c.self.view_is ∙ c.in_ok-writable.ensures.writes in
    let spot = c.in_ok-moved.ensures.spot (g.P.Pmem.region c.self.inside.memory) in
    let paths = c.in_ok-moved.ensures.paths in
    let old_path = paths.0 in
    let new_path = paths.1 in
    (moved_kept c.self.invariant.0 runs writes c.in_ok-moved.ensures.former c.in_ok-moved.ensures.name old_path.0 new_path.0 new_path.1 (spot old_path.0 (new_path.0 ∷ new_path.1) old_path.1 new_path.2) c.in-Ok.ensures.moved c.self.inside.stopped, numbers_kept c.move_at.ensures.kept.tables.0 c.move_at.ensures.kept.tables.1 c.self.invariant.1, λ on. c.in-Ok.ensures.kept.settled)

pub invariant_of-self-in-Err : goal.invariant_of-self-in-Err
invariant_of-self-in-Err g c =
    let runs : c.self.inside.stopped ≡ false = ap (λ (m : Mount g.row.P.Denot). m.stopped) c.self.view_is ∙ c.in_ok-writable.ensures.runs in
    let writes : c.self.inside.read_only ≡ false = ap (λ (m : Mount g.row.P.Denot). m.read_only) c.self.view_is ∙ c.in_ok-writable.ensures.writes in (
      kept_or_stopped g.P.Pmem.region c.self.invariant.0 runs writes c.in-Err.refusal c.is_stop-self-inside.result c.is_stop-self-inside.ensures.yes c.is_stop-self-inside.ensures.no c.move_at.ensures.kept.lists c.in-Err.ensures.kept.unchanged,
      numbers_kept c.move_at.ensures.kept.tables.0 c.move_at.ensures.kept.tables.1 c.self.invariant.1,
      settled_or_stopped g.P.Pmem.region g.P.Pmem.may_hold c.in-Err.refusal c.is_stop-self-inside.result c.is_stop-self-inside.ensures.no (λ off. (c.in-Err.ensures.kept.unchanged off).memory) (c.self.invariant.2 runs),
    )

pub returns-in-Ok-clause-allowed : goal.returns-in-Ok-clause-allowed
returns-in-Ok-clause-allowed g c =
    rw (← c.cpu.view_is) (λ p q says says_new.
    let runs : c.self.inside.stopped ≡ false = ap (λ (m : Mount g.row.P.Denot). m.stopped) c.self.view_is ∙ c.in_ok-writable.ensures.runs in
    let spot = c.in_ok-moved.ensures.spot (g.P.Pmem.region c.self.inside.memory) in
    let from = row_in_use c.self.inside.rows.items c.in_ok-moved.moved.from.directory c.in_ok-moved.ensures.in_use.from in
    let from_at : slice_get c.self.inside.rows.items (place_in c.self.inside.rows.items c.in_ok-moved.moved.from.directory) ≡ Some from.0 = at_place c.self.inside.rows.items c.in_ok-moved.moved.from.directory ∙ from.1 in
    let to = row_in_use c.self.inside.rows.items c.in_ok-moved.moved.directory c.in_ok-moved.ensures.in_use.directory in
    let to_at : slice_get c.self.inside.rows.items (place_in c.self.inside.rows.items c.in_ok-moved.moved.directory) ≡ Some to.0 = at_place c.self.inside.rows.items c.in_ok-moved.moved.directory ∙ to.1 in
    let inode = row_in_use c.self.inside.rows.items c.in_ok-moved.moved.from.target c.in_ok-moved.ensures.in_use.target in
    let rises = rows_rise (g.P.Pmem.region c.self.inside.memory) c.self.inside.tables.layout.sup c.self.inside.tables.layout c.self.inside.rows.items c.self.inside.free c.self.inside.faults.items c.self.inside.read_only c.self.inside.stopped c.self.invariant.0 runs in
    let is = own_row c.self.inside.rows.items c.in_ok-moved.moved.from.directory from.0 from.1 in
    let other_is = own_row c.self.inside.rows.items c.in_ok-moved.moved.directory to.0 to.1 in
    let none = c.in_ok-moved.ensures.allowed (g.P.Pmem.region c.self.inside.memory) p q says says_new in
    rename_allowed g.P.Pmem.region c.self.view_is c.cpu.inside.0 c.in_ok-writable.ensures.passed (place_in c.self.inside.rows.items c.in_ok-moved.moved.from.directory) (place_in c.self.inside.rows.items c.in_ok-moved.moved.from.target) (place_in c.self.inside.rows.items c.in_ok-moved.moved.directory) from.0 to.0 inode.0 rises from_at to_at is other_is c.in_ok-moved.moved.from.name.now c.in_ok-moved.moved.name.now c.time.inside.0 c.args.old.now c.args.new.now spot p q says says_new none (c.in-Ok.ensures.enough from.0 to.0 inode.0 from.1 to.1 inode.1)
    )

pub returns-in-Ok-clause-changed : goal.returns-in-Ok-clause-changed
returns-in-Ok-clause-changed g c =
    rw (← c.time.view_is) (λ names others path other_path.
    let runs : c.self.inside.stopped ≡ false = ap (λ (m : Mount g.row.P.Denot). m.stopped) c.self.view_is ∙ c.in_ok-writable.ensures.runs in
    let writes : c.self.inside.read_only ≡ false = ap (λ (m : Mount g.row.P.Denot). m.read_only) c.self.view_is ∙ c.in_ok-writable.ensures.writes in
    let spot = c.in_ok-moved.ensures.spot (g.P.Pmem.region c.self.inside.memory) in
    let long = long_text c.args.new.now c.in_ok-moved.ensures.paths.1 in
    let v = longer c.args.new.now others other_path long in
    let others_path : IsPath c.args.new.now (v.0 ∷ v.1) = subst (IsPath c.args.new.now) v.2 other_path in
    subst (λ (xs : List (List ℕ)). SameTree (tree_of (g.P.Pmem.region c.move_at.new.memory) c.move_at.new.rows.items) (renamed names xs c.time.inside.0 (tree_of (g.P.Pmem.region c.args.self.now.memory) c.args.self.now.rows))) (sym v.2)
    (subst (λ (m : Mount g.row.P.Denot). SameTree (tree_of (g.P.Pmem.region c.move_at.new.memory) c.move_at.new.rows.items) (renamed names (v.0 ∷ v.1) c.time.inside.0 (tree_of (g.P.Pmem.region m.memory) m.rows))) c.self.view_is (moved_tree c.self.invariant.0 runs writes c.in_ok-moved.ensures.former c.in_ok-moved.ensures.name names v.0 v.1 (spot names (v.0 ∷ v.1) path others_path) c.in-Ok.ensures.moved))
    )

pub returns-in-Ok-clause-log : goal.returns-in-Ok-clause-log
returns-in-Ok-clause-log g c =
    rw (← c.cpu.view_is, ← c.time.view_is) (λ names others i d e node held h k path other_path led walked ended differ sound is other_is.
    let runs : c.self.inside.stopped ≡ false = ap (λ (m : Mount g.row.P.Denot). m.stopped) c.self.view_is ∙ c.in_ok-writable.ensures.runs in
    let writes : c.self.inside.read_only ≡ false = ap (λ (m : Mount g.row.P.Denot). m.read_only) c.self.view_is ∙ c.in_ok-writable.ensures.writes in
    let spot = c.in_ok-moved.ensures.spot (g.P.Pmem.region c.self.inside.memory) in
    let long = long_text c.args.new.now c.in_ok-moved.ensures.paths.1 in
    let v = longer c.args.new.now others other_path long in
    let others_path : IsPath c.args.new.now (v.0 ∷ v.1) = subst (IsPath c.args.new.now) v.2 other_path in
    subst (λ (xs : List (List ℕ)). walk (tree_of (g.P.Pmem.region c.args.self.now.memory) c.args.self.now.rows) 1 xs ≡ Ok e → ShowsBothGrew (g.P.Pmem.region c.move_at.new.memory) c.args.self.now.layout c.args.self.now.free.pools c.cpu.inside.0 held d h (name_entries Remove i (last_name names) c.time.inside.0) e k (name_entries Add i (last_name xs) c.time.inside.0)) (sym v.2)
    (subst (λ (m : Mount g.row.P.Denot). LeadsTo (tree_of (g.P.Pmem.region m.memory) m.rows) names i node → walk (tree_of (g.P.Pmem.region m.memory) m.rows) 1 names ≡ Ok d → ShowsSound (g.P.Pmem.region m.memory) m.layout held → walk (tree_of (g.P.Pmem.region m.memory) m.rows) 1 (v.0 ∷ v.1) ≡ Ok e
    → ShowsBothGrew (g.P.Pmem.region c.move_at.new.memory) m.layout m.free.pools c.cpu.inside.0 held d h (name_entries Remove i (last_name names) c.time.inside.0) e k (name_entries Add i (last_name (v.0 ∷ v.1)) c.time.inside.0)) c.self.view_is
    (λ leads first shown second. moved_logs c.self.invariant.0 runs writes c.in_ok-moved.ensures.former c.in_ok-moved.ensures.name names v.0 v.1 (spot names (v.0 ∷ v.1) path others_path) c.in-Ok.ensures.moved i d e node held h k leads first second differ shown is other_is) led walked sound) ended
    )

pub returns-in-Ok-clause-call : goal.returns-in-Ok-clause-call
returns-in-Ok-clause-call g c =
    let runs : c.self.inside.stopped ≡ false = ap (λ (m : Mount g.row.P.Denot). m.stopped) c.self.view_is ∙ c.in_ok-writable.ensures.runs in
    let writes : c.self.inside.read_only ≡ false = ap (λ (m : Mount g.row.P.Denot). m.read_only) c.self.view_is ∙ c.in_ok-writable.ensures.writes in
    record {
      of_path = record {
        call = call_done g.P.Pmem.region g.P.Pmem.fuse c.self.view_is c.move_at.new.memory c.move_at.new.rows.items c.move_at.new.free runs writes _ _ c.in-Ok.ensures.kept.keeps;
        bad_text = λ bad. absurd (let paths = c.in_ok-moved.ensures.paths in let old_path = paths.0 in let new_path = paths.1 in bad old_path.0 (new_path.0 ∷ new_path.1) old_path.1 new_path.2);
      };
      settled = c.in-Ok.ensures.kept.settled;
    }

pub returns-in-Ok-clause-stores : goal.returns-in-Ok-clause-stores
returns-in-Ok-clause-stores g c =
    record {
      journals = rw (← c.cpu.view_is) (
          let runs : c.self.inside.stopped ≡ false = ap (λ (m : Mount g.row.P.Denot). m.stopped) c.self.view_is ∙ c.in_ok-writable.ensures.runs in
          let writes : c.self.inside.read_only ≡ false = ap (λ (m : Mount g.row.P.Denot). m.read_only) c.self.view_is ∙ c.in_ok-writable.ensures.writes in
          subst (λ (m : Mount g.row.P.Denot). SameFrontBut m.sup.cpus c.cpu.inside.0 (g.P.Pmem.region m.memory) (g.P.Pmem.region c.move_at.new.memory)) c.self.view_is
          (moved_front c.self.invariant.0 runs writes c.in-Ok.ensures.moved)
          );
      wrote = rw (← c.cpu.view_is) (λ names others i d e node held path other_path led walked ended differ sound.
          rename_stored g.P.Pmem.region c.self.view_is c.self.invariant.0 c.in_ok-writable.ensures.runs (g.P.Pmem.region c.move_at.new.memory) c.cpu.inside.0 c.in_ok-moved.moved.from.directory c.in_ok-moved.moved.directory c.in_ok-moved.ensures.in_use.from c.in_ok-moved.ensures.in_use.directory c.in_ok-moved.moved.from.target c.in_ok-moved.ensures.in_use.target
          c.time.inside.0 c.in_ok-moved.moved.from.name.now c.in_ok-moved.moved.name.now names others (c.in_ok-moved.ensures.spot (g.P.Pmem.region c.self.inside.memory) names others path other_path) c.move_at.ensures.wrote d e held walked ended differ sound
          );
      within_wrote = λ names others d held path other_path walked ended sound. within_stored g.P.Pmem.region c.self.view_is c.self.invariant.0 c.in_ok-writable.ensures.runs (g.P.Pmem.region c.move_at.new.memory) c.args.cpu c.in_ok-moved.moved.from.directory c.in_ok-moved.moved.directory c.in_ok-moved.ensures.in_use.from c.in_ok-moved.ensures.in_use.directory c.in_ok-moved.moved.from.target c.in_ok-moved.ensures.in_use.target
          c.args.time c.in_ok-moved.moved.from.name.now c.in_ok-moved.moved.name.now names others (c.in_ok-moved.ensures.spot (g.P.Pmem.region c.self.inside.memory) names others path other_path) c.move_at.ensures.within_wrote d held walked ended sound;
      in_order = rw (← c.cpu.view_is, ← c.time.view_is) (λ names others i d e node held h path other_path led walked ended differ sound is.
          rename_ordered g.P.Pmem.region c.self.view_is c.self.invariant.0 c.in_ok-writable.ensures.runs (g.P.Pmem.region c.move_at.new.memory) c.cpu.inside.0 c.in_ok-moved.moved.from.directory c.in_ok-moved.moved.directory c.in_ok-moved.ensures.in_use.from c.in_ok-moved.ensures.in_use.directory c.in_ok-moved.moved.from.target c.in_ok-moved.ensures.in_use.target
          c.time.inside.0 c.in_ok-moved.moved.from.name.now c.in_ok-moved.moved.name.now names others (c.in_ok-moved.ensures.spot (g.P.Pmem.region c.self.inside.memory) names others path other_path) c.move_at.ensures.in_order i d e node held h led walked ended differ sound is
          );
    }

pub returns-in-Ok-clause-within : goal.returns-in-Ok-clause-within
returns-in-Ok-clause-within g c =
    rw (← c.cpu.view_is, ← c.time.view_is) (λ names others i d node held h path other_path led walked ended sound is.
    let runs : c.self.inside.stopped ≡ false = ap (λ (m : Mount g.row.P.Denot). m.stopped) c.self.view_is ∙ c.in_ok-writable.ensures.runs in
    let writes : c.self.inside.read_only ≡ false = ap (λ (m : Mount g.row.P.Denot). m.read_only) c.self.view_is ∙ c.in_ok-writable.ensures.writes in
    let spot = c.in_ok-moved.ensures.spot (g.P.Pmem.region c.self.inside.memory) in
    let long = long_text c.args.new.now c.in_ok-moved.ensures.paths.1 in
    let v = longer c.args.new.now others other_path long in
    let others_path : IsPath c.args.new.now (v.0 ∷ v.1) = subst (IsPath c.args.new.now) v.2 other_path in
    subst (λ (xs : List (List ℕ)). walk (tree_of (g.P.Pmem.region c.args.self.now.memory) c.args.self.now.rows) 1 xs ≡ Ok d → ShowsGrownLog (g.P.Pmem.region c.move_at.new.memory) c.args.self.now.layout c.args.self.now.free.pools c.cpu.inside.0 held d h (move_entries i (last_name names) (last_name xs) c.time.inside.0)) (sym v.2)
    (subst (λ (m : Mount g.row.P.Denot). LeadsTo (tree_of (g.P.Pmem.region m.memory) m.rows) names i node → walk (tree_of (g.P.Pmem.region m.memory) m.rows) 1 names ≡ Ok d → ShowsSound (g.P.Pmem.region m.memory) m.layout held → walk (tree_of (g.P.Pmem.region m.memory) m.rows) 1 (v.0 ∷ v.1) ≡ Ok d
    → ShowsGrownLog (g.P.Pmem.region c.move_at.new.memory) m.layout m.free.pools c.cpu.inside.0 held d h (move_entries i (last_name names) (last_name (v.0 ∷ v.1)) c.time.inside.0)) c.self.view_is
    (λ leads first shown second. moved_log c.self.invariant.0 runs writes c.in_ok-moved.ensures.former c.in_ok-moved.ensures.name names v.0 v.1 (spot names (v.0 ∷ v.1) path others_path) c.in-Ok.ensures.moved i d node held h leads first second shown is) led walked sound) ended
    )

pub returns-in-Err-clause-refused : goal.returns-in-Err-clause-refused
returns-in-Err-clause-refused g c =
    rw (← c.cpu.view_is) (λ still p q says says_new.
    let runs : c.self.inside.stopped ≡ false = ap (λ (m : Mount g.row.P.Denot). m.stopped) c.self.view_is ∙ c.in_ok-writable.ensures.runs in
    let spot = c.in_ok-moved.ensures.spot (g.P.Pmem.region c.self.inside.memory) in
    let from = row_in_use c.self.inside.rows.items c.in_ok-moved.moved.from.directory c.in_ok-moved.ensures.in_use.from in
    let from_at : slice_get c.self.inside.rows.items (place_in c.self.inside.rows.items c.in_ok-moved.moved.from.directory) ≡ Some from.0 = at_place c.self.inside.rows.items c.in_ok-moved.moved.from.directory ∙ from.1 in
    let to = row_in_use c.self.inside.rows.items c.in_ok-moved.moved.directory c.in_ok-moved.ensures.in_use.directory in
    let to_at : slice_get c.self.inside.rows.items (place_in c.self.inside.rows.items c.in_ok-moved.moved.directory) ≡ Some to.0 = at_place c.self.inside.rows.items c.in_ok-moved.moved.directory ∙ to.1 in
    let inode = row_in_use c.self.inside.rows.items c.in_ok-moved.moved.from.target c.in_ok-moved.ensures.in_use.target in
    let rises = rows_rise (g.P.Pmem.region c.self.inside.memory) c.self.inside.tables.layout.sup c.self.inside.tables.layout c.self.inside.rows.items c.self.inside.free c.self.inside.faults.items c.self.inside.read_only c.self.inside.stopped c.self.invariant.0 runs in
    let is = own_row c.self.inside.rows.items c.in_ok-moved.moved.from.directory from.0 from.1 in
    let other_is = own_row c.self.inside.rows.items c.in_ok-moved.moved.directory to.0 to.1 in
    let none = c.in_ok-moved.ensures.allowed (g.P.Pmem.region c.self.inside.memory) p q says says_new in
    rename_refused g.P.Pmem.region c.self.view_is c.cpu.inside.0 c.in_ok-writable.ensures.passed (place_in c.self.inside.rows.items c.in_ok-moved.moved.from.directory) (place_in c.self.inside.rows.items c.in_ok-moved.moved.from.target) (place_in c.self.inside.rows.items c.in_ok-moved.moved.directory) from.0 to.0 inode.0 rises from_at to_at is other_is c.in_ok-moved.moved.from.name.now c.in_ok-moved.moved.name.now c.time.inside.0 c.args.old.now c.args.new.now spot p q says says_new none c.in-Err.refusal (c.in-Err.ensures.refused from.0 to.0 inode.0 from.1 to.1 inode.1)
    )

pub returns-in-Err-clause-call : goal.returns-in-Err-clause-call
returns-in-Err-clause-call g c =
    let runs : c.self.inside.stopped ≡ false = ap (λ (m : Mount g.row.P.Denot). m.stopped) c.self.view_is ∙ c.in_ok-writable.ensures.runs in
    let writes : c.self.inside.read_only ≡ false = ap (λ (m : Mount g.row.P.Denot). m.read_only) c.self.view_is ∙ c.in_ok-writable.ensures.writes in
    record {
      of_path = record {
        call = refused_late g.P.Pmem.region g.P.Pmem.fuse c.self.view_is c.move_at.new.memory c.move_at.new.rows.items c.move_at.new.free runs writes c.in-Err.refusal c.is_stop-self-inside.result c.is_stop-self-inside.ensures.yes c.is_stop-self-inside.ensures.no c.in-Err.ensures.kept.keeps
            (λ off. unchanged_rows c.self.view_is c.move_at.new.memory c.move_at.new.rows.items c.move_at.new.free c.is_stop-self-inside.result runs (not_stop c.in-Err.refusal c.is_stop-self-inside.result c.is_stop-self-inside.ensures.yes off) (c.in-Err.ensures.kept.unchanged off));
        bad_text = λ bad. absurd (let paths = c.in_ok-moved.ensures.paths in let old_path = paths.0 in let new_path = paths.1 in bad old_path.0 (new_path.0 ∷ new_path.1) old_path.1 new_path.2);
      };
      settled = tt;
    }

pub returns-in-Err-clause-stores : goal.returns-in-Err-clause-stores
returns-in-Err-clause-stores g c =
    record {
      journals = tt;
      wrote = rw (← c.cpu.view_is) (λ names others i d e node held path other_path led walked ended differ sound.
          rename_stored g.P.Pmem.region c.self.view_is c.self.invariant.0 c.in_ok-writable.ensures.runs (g.P.Pmem.region c.move_at.new.memory) c.cpu.inside.0 c.in_ok-moved.moved.from.directory c.in_ok-moved.moved.directory c.in_ok-moved.ensures.in_use.from c.in_ok-moved.ensures.in_use.directory c.in_ok-moved.moved.from.target c.in_ok-moved.ensures.in_use.target
          c.time.inside.0 c.in_ok-moved.moved.from.name.now c.in_ok-moved.moved.name.now names others (c.in_ok-moved.ensures.spot (g.P.Pmem.region c.self.inside.memory) names others path other_path) c.move_at.ensures.wrote d e held walked ended differ sound
          );
      within_wrote = λ names others d held path other_path walked ended sound. within_stored g.P.Pmem.region c.self.view_is c.self.invariant.0 c.in_ok-writable.ensures.runs (g.P.Pmem.region c.move_at.new.memory) c.args.cpu c.in_ok-moved.moved.from.directory c.in_ok-moved.moved.directory c.in_ok-moved.ensures.in_use.from c.in_ok-moved.ensures.in_use.directory c.in_ok-moved.moved.from.target c.in_ok-moved.ensures.in_use.target
          c.args.time c.in_ok-moved.moved.from.name.now c.in_ok-moved.moved.name.now names others (c.in_ok-moved.ensures.spot (g.P.Pmem.region c.self.inside.memory) names others path other_path) c.move_at.ensures.within_wrote d held walked ended sound;
      in_order = rw (← c.cpu.view_is, ← c.time.view_is) (λ names others i d e node held h path other_path led walked ended differ sound is.
          rename_ordered g.P.Pmem.region c.self.view_is c.self.invariant.0 c.in_ok-writable.ensures.runs (g.P.Pmem.region c.move_at.new.memory) c.cpu.inside.0 c.in_ok-moved.moved.from.directory c.in_ok-moved.moved.directory c.in_ok-moved.ensures.in_use.from c.in_ok-moved.ensures.in_use.directory c.in_ok-moved.moved.from.target c.in_ok-moved.ensures.in_use.target
          c.time.inside.0 c.in_ok-moved.moved.from.name.now c.in_ok-moved.moved.name.now names others (c.in_ok-moved.ensures.spot (g.P.Pmem.region c.self.inside.memory) names others path other_path) c.move_at.ensures.in_order i d e node held h led walked ended differ sound is
          );
    }

pub returns-in_err-writable-clause-any_stop : goal.returns-in_err-writable-clause-any_stop
returns-in_err-writable-clause-any_stop g c names others path other_path on able = call_stays g.P.Pmem.region c.args.self.now (makes_rename c.args.time (Some others)) (logs_rename c.args.cpu c.args.time (Some others)) names c.in_err-writable.ensures.kept on able _ (c.in_err-writable.ensures.settled on)

pub returns-in_err-moved-clause-any_stop : goal.returns-in_err-moved-clause-any_stop
returns-in_err-moved-clause-any_stop g c names others path other_path on able = call_stays g.P.Pmem.region c.args.self.now (makes_rename c.args.time (Some others)) (logs_rename c.args.cpu c.args.time (Some others)) names c.in_ok-writable.ensures.kept on able _ (c.in_ok-writable.ensures.settled on)

pub returns-in-Ok-clause-any_stop : goal.returns-in-Ok-clause-any_stop
returns-in-Ok-clause-any_stop g c =
    rw (← c.cpu.view_is, ← c.time.view_is) (λ names others path other_path on able.
    let runs : c.self.inside.stopped ≡ false = ap (λ (m : Mount g.row.P.Denot). m.stopped) c.self.view_is ∙ c.in_ok-writable.ensures.runs in
    let writes : c.self.inside.read_only ≡ false = ap (λ (m : Mount g.row.P.Denot). m.read_only) c.self.view_is ∙ c.in_ok-writable.ensures.writes in
    let long = long_text c.args.new.now c.in_ok-moved.ensures.paths.1 in
    let v = longer c.args.new.now others other_path long in
    let others_path : IsPath c.args.new.now (v.0 ∷ v.1) = subst (IsPath c.args.new.now) v.2 other_path in
    let from = row_in_use c.self.inside.rows.items c.in_ok-moved.moved.from.directory c.in_ok-moved.ensures.in_use.from in
    let to = row_in_use c.self.inside.rows.items c.in_ok-moved.moved.directory c.in_ok-moved.ensures.in_use.directory in
    let inode = row_in_use c.self.inside.rows.items c.in_ok-moved.moved.from.target c.in_ok-moved.ensures.in_use.target in
    subst (λ (xs : List (List ℕ)). LeavesOnly (g.P.Pmem.region c.move_at.new.memory) (g.P.Pmem.may_hold c.move_at.new.memory) (LeavesCall (makes_rename c.time.inside.0 (Some xs)) (logs_rename c.cpu.inside.0 c.time.inside.0 (Some xs)) (g.P.Pmem.region c.args.self.now.memory) c.args.self.now names)) (sym v.2)
    (rename_left g.P.Pmem.region c.self.view_is c.self.invariant.0 runs writes c.in_ok-moved.moved.from.directory c.in_ok-moved.moved.from.target c.in_ok-moved.moved.directory from.0 inode.0 to.0 from.1 inode.1 to.1 c.in_ok-moved.moved.from.name.now c.in_ok-moved.moved.name.now c.cpu.inside.0 c.time.inside.0 c.in_ok-moved.ensures.former c.in_ok-moved.ensures.name
    names v.0 v.1 (c.in_ok-moved.ensures.spot (g.P.Pmem.region c.self.inside.memory) names (v.0 ∷ v.1) path others_path) _ _ _
    (λ held h k here other absent pending. c.move_at.ensures.any_stop from.0 to.0 inode.0 held h k from.1 to.1 inode.1 here other absent pending) (c.self.invariant.2 runs))
    )

pub returns-in-Err-clause-any_stop : goal.returns-in-Err-clause-any_stop
returns-in-Err-clause-any_stop g c =
    rw (← c.cpu.view_is, ← c.time.view_is) (λ names others path other_path on able.
    let runs : c.self.inside.stopped ≡ false = ap (λ (m : Mount g.row.P.Denot). m.stopped) c.self.view_is ∙ c.in_ok-writable.ensures.runs in
    let writes : c.self.inside.read_only ≡ false = ap (λ (m : Mount g.row.P.Denot). m.read_only) c.self.view_is ∙ c.in_ok-writable.ensures.writes in
    let long = long_text c.args.new.now c.in_ok-moved.ensures.paths.1 in
    let v = longer c.args.new.now others other_path long in
    let others_path : IsPath c.args.new.now (v.0 ∷ v.1) = subst (IsPath c.args.new.now) v.2 other_path in
    let from = row_in_use c.self.inside.rows.items c.in_ok-moved.moved.from.directory c.in_ok-moved.ensures.in_use.from in
    let to = row_in_use c.self.inside.rows.items c.in_ok-moved.moved.directory c.in_ok-moved.ensures.in_use.directory in
    let inode = row_in_use c.self.inside.rows.items c.in_ok-moved.moved.from.target c.in_ok-moved.ensures.in_use.target in
    subst (λ (xs : List (List ℕ)). LeavesOnly (g.P.Pmem.region c.move_at.new.memory) (g.P.Pmem.may_hold c.move_at.new.memory) (LeavesCall (makes_rename c.time.inside.0 (Some xs)) (logs_rename c.cpu.inside.0 c.time.inside.0 (Some xs)) (g.P.Pmem.region c.args.self.now.memory) c.args.self.now names)) (sym v.2)
    (rename_left g.P.Pmem.region c.self.view_is c.self.invariant.0 runs writes c.in_ok-moved.moved.from.directory c.in_ok-moved.moved.from.target c.in_ok-moved.moved.directory from.0 inode.0 to.0 from.1 inode.1 to.1 c.in_ok-moved.moved.from.name.now c.in_ok-moved.moved.name.now c.cpu.inside.0 c.time.inside.0 c.in_ok-moved.ensures.former c.in_ok-moved.ensures.name
    names v.0 v.1 (c.in_ok-moved.ensures.spot (g.P.Pmem.region c.self.inside.memory) names (v.0 ∷ v.1) path others_path) _ _ _
    (λ held h k here other absent pending. c.move_at.ensures.any_stop from.0 to.0 inode.0 held h k from.1 to.1 inode.1 here other absent pending) (c.self.invariant.2 runs))
    )
