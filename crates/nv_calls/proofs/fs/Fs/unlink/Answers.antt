use Rattle.std.proofs.Common.{◌≡◌, ◌∙◌, ◌-◌, ◌++◌, ◌∷◌, [], Option, Some, None, inl, inr, ap, subst, sym, refl, IfErr, OnOk}
use Rattle.std.proofs.lemmas.Result.{err_from_is_err_and, IfOk-from_err}
use Rattle.nv_entry.specs.declared.entry.Operation.TheVariants.{Remove}
use Rattle.nv_tree.specs.declared.refusal.Refusal.{Refusal}
use Rattle.nv_tree.specs.Tree.{SameTree, Tree}
use Rattle.nv_tree.specs.Refusals.{first_refusal, has_no_space, is_bad_name, is_dir, is_missing, unlink_tests, walk_tests, IsRefusedBy}
use Rattle.nv_tree.proofs.Replies.{refused_by}
use Rattle.nv_steps.specs.InOrder.{tail_address}
use Rattle.nv_steps.specs.NameEntries.{links_entries, name_entries}
use Rattle.nv_steps.specs.Slots.{slot_in}
use Rattle.nv_steps.specs.Stores.{StoresIn, one_less, two_logs}
use Rattle.nv_paths.specs.Seen.{tree_of}
use Rattle.nv_calls.specs.Effects.{LogsUnlink, makes_unlink}
use Rattle.nv_calls.specs.InOrder.{ShowsTailFirst}
use Rattle.nv_calls.specs.LinkCalls.{ShowsBothGrew}
use Rattle.nv_calls.specs.Mount.{Mount}
use Rattle.nv_calls.specs.NamesByNumber.{LogsUnlinkedIn}
use Rattle.nv_calls.specs.RemoveCalls.{ShowsRemoved}
use Rattle.nv_calls.specs.UnlinkCalls.{unlink_blocks}
use Rattle.nv_calls.specs.World.{world_of}
use Rattle.nv_calls.proofs.ByPath.{left_by}
use Rattle.nv_calls.proofs.CallKept.{refused_first, refused_later}
use Rattle.nv_calls.proofs.NamesByPath.{at_ended, found_here, ok_then, same_end, stands_for, unlink_by_path, unlinked_by_path}
use Rattle.nv_calls.proofs.RowChange.{same_mount}
use Rattle.nv_calls.proofs.Stopped.{call_stays}
use Rattle.nv_calls.proofs.Tests.{writing_goes_on}
use Rattle.nv_calls.proofs.fs.Fs.unlink.Goals as goal

pub returns-in_err-writable-clause-refused : goal.returns-in_err-writable-clause-refused
returns-in_err-writable-clause-refused g c =
    rw (← c.cpu.view_is) (λ runs p says.
    let tree = tree_of (g.P.Pmem.region c.args.self.now.memory) c.args.self.now.rows in
    let count = unlink_blocks c.args.self.now.rows tree p in
    let w = err_from_is_err_and c.from_residual.result c.from_residual.ensures.1 in
    refused_by c.from_residual.result c.in_err-writable.field-0.0 w.0 (IsRefusedBy (first_refusal (unlink_tests (world_of c.args.self.now) tree c.cpu.inside.0 p count))) w.1 w.2
    (inr (inr (c.in_err-writable.ensures.refused runs (is_bad_name p ∷ walk_tests tree p ++ is_missing tree p ∷ is_dir tree p ∷ has_no_space (world_of c.args.self.now) count ∷ []))))
    )

pub returns-in_err-writable-clause-call : goal.returns-in_err-writable-clause-call
returns-in_err-writable-clause-call g c =
    let w = err_from_is_err_and c.from_residual.result c.from_residual.ensures.1 in
    record {
      of_path = record {
        call = refused_first g.P.Pmem.region g.P.Pmem.fuse c.args.self.now c.from_residual.result c.in_err-writable.field-0.0 w.0 w.1 w.2 c.in_err-writable.ensures.stopped
            (λ runs is. writing_goes_on (world_of c.args.self.now) c.cpu.inside.0 (c.in_err-writable.ensures.refused runs [] ∙ ap (λ (e : Refusal). Some e) is));
        bad_text = λ bad. same_mount c.args.self.now;
      };
      settled = IfOk-from_err c.from_residual.result _ c.from_residual.ensures.0;
    }

pub returns-in_err-writable-clause-stores : goal.returns-in_err-writable-clause-stores
returns-in_err-writable-clause-stores g c =
    record {
      journals = IfOk-from_err c.from_residual.result _ c.from_residual.ensures.0;
      wrote = λ names k d node held path led ended sound some. λ at whole away. refl;
      last_wrote = λ names k d node held path led ended sound few. λ at whole away. refl;
      in_order = λ names k d node held h path led ended sound is some. ∣ inl refl ∣₁;
      last_in_order = λ names k d node held h path led ended sound is few. ∣ inl refl ∣₁;
    }

pub returns-in_err-writable-clause-any_stop : goal.returns-in_err-writable-clause-any_stop
returns-in_err-writable-clause-any_stop g c names path on able = call_stays g.P.Pmem.region c.args.self.now (makes_unlink c.args.time) (LogsUnlink c.args.cpu c.args.time) names c.in_err-writable.ensures.kept on able _ (c.in_err-writable.ensures.settled on)

pub returns-in_err-directory-clause-refused : goal.returns-in_err-directory-clause-refused
returns-in_err-directory-clause-refused g c =
    rw (← c.cpu.view_is) (λ still p says.
    let tree = tree_of (g.P.Pmem.region c.args.self.now.memory) c.args.self.now.rows in
    let count = unlink_blocks c.args.self.now.rows tree p in
    let more = is_missing tree p ∷ is_dir tree p ∷ has_no_space (world_of c.args.self.now) count ∷ [] in
    let told = subst (λ (m : Mount g.row.P.Denot). first_refusal (is_bad_name p ∷ walk_tests (tree_of (g.P.Pmem.region m.memory) m.rows) p ++ more) ≡ Some c.in_err-directory.field-0.0) c.self.view_is
    (c.in_err-directory.ensures.refused (g.P.Pmem.region c.self.inside.memory) p more says) in
    let w = err_from_is_err_and c.from_residual-in_err-directory.result c.from_residual-in_err-directory.ensures.1 in
    refused_by c.from_residual-in_err-directory.result c.in_err-directory.field-0.0 w.0 (IsRefusedBy (first_refusal (unlink_tests (world_of c.args.self.now) tree c.cpu.inside.0 p count))) w.1 w.2
    (inr (inr (c.in_ok-writable.ensures.passed (is_bad_name p ∷ walk_tests tree p ++ more) ∙ told)))
    )

pub returns-in_err-directory-clause-call : goal.returns-in_err-directory-clause-call
returns-in_err-directory-clause-call g c =
    let w = err_from_is_err_and c.from_residual-in_err-directory.result c.from_residual-in_err-directory.ensures.1 in
    record {
      of_path = record {
        call = refused_later g.P.Pmem.region g.P.Pmem.fuse c.args.self.now c.from_residual-in_err-directory.result c.in_err-directory.field-0.0 w.0 w.1 w.2 c.in_ok-writable.ensures.runs c.in_err-directory.ensures.goes_on;
        bad_text = λ bad. same_mount c.args.self.now;
      };
      settled = IfOk-from_err c.from_residual-in_err-directory.result _ c.from_residual-in_err-directory.ensures.0;
    }

pub returns-in_err-directory-clause-stores : goal.returns-in_err-directory-clause-stores
returns-in_err-directory-clause-stores g c =
    record {
      journals = IfOk-from_err c.from_residual-in_err-directory.result _ c.from_residual-in_err-directory.ensures.0;
      wrote = λ names k d node held path led ended sound some. λ at whole away. refl;
      last_wrote = λ names k d node held path led ended sound few. λ at whole away. refl;
      in_order = λ names k d node held h path led ended sound is some. ∣ inl refl ∣₁;
      last_in_order = λ names k d node held h path led ended sound is few. ∣ inl refl ∣₁;
    }

pub returns-in_err-directory-clause-any_stop : goal.returns-in_err-directory-clause-any_stop
returns-in_err-directory-clause-any_stop g c names path on able = call_stays g.P.Pmem.region c.args.self.now (makes_unlink c.args.time) (LogsUnlink c.args.cpu c.args.time) names c.in_ok-writable.ensures.kept on able _ (c.in_ok-writable.ensures.settled on)

pub returns-clause-allowed : goal.returns-clause-allowed
returns-clause-allowed g c p says = subst (λ (o : Option Refusal). OnOk c.unlink_inode.result (o ≡ None)) (sym (unlink_by_path g.P.Pmem.region c.args.self.now c.args.cpu c.in_ok-directory.directory c.args.path.now c.in_ok-directory.name.now c.in_ok-directory.ensures.path (same_end g.P.Pmem.region c.self.view_is c.in_ok-directory.directory c.args.path.now (c.in_ok-directory.ensures.walked (g.P.Pmem.region c.self.inside.memory))) c.in_ok-directory.ensures.name p says)) c.unlink_inode.ensures.allowed

pub returns-clause-refused : goal.returns-clause-refused
returns-clause-refused g c runs p says = subst (λ (o : Option Refusal). IfErr c.unlink_inode.result (IsRefusedBy o)) (sym (unlink_by_path g.P.Pmem.region c.args.self.now c.args.cpu c.in_ok-directory.directory c.args.path.now c.in_ok-directory.name.now c.in_ok-directory.ensures.path (same_end g.P.Pmem.region c.self.view_is c.in_ok-directory.directory c.args.path.now (c.in_ok-directory.ensures.walked (g.P.Pmem.region c.self.inside.memory))) c.in_ok-directory.ensures.name p says)) (c.unlink_inode.ensures.refused runs)

pub returns-clause-changed : goal.returns-clause-changed
returns-clause-changed g c names path =
    subst (λ (t : Tree). OnOk c.unlink_inode.result (SameTree (tree_of (g.P.Pmem.region c.unlink_inode.new.self.memory) c.unlink_inode.new.self.rows) t)) (unlinked_by_path (tree_of (g.P.Pmem.region c.args.self.now.memory) c.args.self.now.rows) c.in_ok-directory.directory c.in_ok-directory.name.now c.args.time names (found_here (tree_of (g.P.Pmem.region c.args.self.now.memory) c.args.self.now.rows) c.args.path.now c.in_ok-directory.ensures.path c.in_ok-directory.directory c.in_ok-directory.name.now names path ((same_end g.P.Pmem.region c.self.view_is c.in_ok-directory.directory c.args.path.now (c.in_ok-directory.ensures.walked (g.P.Pmem.region c.self.inside.memory))) names path) (c.in_ok-directory.ensures.name names path)) ((same_end g.P.Pmem.region c.self.view_is c.in_ok-directory.directory c.args.path.now (c.in_ok-directory.ensures.walked (g.P.Pmem.region c.self.inside.memory))) names path) (c.in_ok-directory.ensures.name names path)) c.unlink_inode.ensures.changed

pub returns-clause-call : goal.returns-clause-call
returns-clause-call g c =
    record {
      of_path = record {
        call = c.unlink_inode.ensures.call;
        bad_text = λ bad. absurd (let w = c.in_ok-directory.ensures.path in bad (w.0 ∷ w.1) w.2);
      };
      settled = c.unlink_inode.ensures.settled;
    }

pub returns-clause-log : goal.returns-clause-log
returns-clause-log g c names i d node held h f path led ended sound is other_is some = ok_then c.unlink_inode.result (λ (logs : LogsUnlinkedIn c.args.cpu c.args.time c.in_ok-directory.directory c.in_ok-directory.name.now (g.P.Pmem.region c.args.self.now.memory) c.args.self.now (g.P.Pmem.region c.unlink_inode.new.self.memory)).
    at_ended (tree_of (g.P.Pmem.region c.args.self.now.memory) c.args.self.now.rows) names ((same_end g.P.Pmem.region c.self.view_is c.in_ok-directory.directory c.args.path.now (c.in_ok-directory.ensures.walked (g.P.Pmem.region c.self.inside.memory))) names path) ended (c.in_ok-directory.ensures.name names path)
    (λ k q. held k ≡ Some h → ShowsBothGrew (g.P.Pmem.region c.unlink_inode.new.self.memory) c.args.self.now.layout c.args.self.now.free.pools c.args.cpu held k h (name_entries Remove i q c.args.time) i f (links_entries (node.links - 1) c.args.time))
    (λ here. logs.more i node held h f (stands_for (found_here (tree_of (g.P.Pmem.region c.args.self.now.memory) c.args.self.now.rows) c.args.path.now c.in_ok-directory.ensures.path c.in_ok-directory.directory c.in_ok-directory.name.now names path ((same_end g.P.Pmem.region c.self.view_is c.in_ok-directory.directory c.args.path.now (c.in_ok-directory.ensures.walked (g.P.Pmem.region c.self.inside.memory))) names path) (c.in_ok-directory.ensures.name names path)) led) sound here other_is some) is) c.unlink_inode.ensures.log

pub returns-clause-last : goal.returns-clause-last
returns-clause-last g c names i d node held h path led ended sound is few = ok_then c.unlink_inode.result (λ (logs : LogsUnlinkedIn c.args.cpu c.args.time c.in_ok-directory.directory c.in_ok-directory.name.now (g.P.Pmem.region c.args.self.now.memory) c.args.self.now (g.P.Pmem.region c.unlink_inode.new.self.memory)).
    at_ended (tree_of (g.P.Pmem.region c.args.self.now.memory) c.args.self.now.rows) names ((same_end g.P.Pmem.region c.self.view_is c.in_ok-directory.directory c.args.path.now (c.in_ok-directory.ensures.walked (g.P.Pmem.region c.self.inside.memory))) names path) ended (c.in_ok-directory.ensures.name names path)
    (λ k q. held k ≡ Some h → ShowsRemoved (g.P.Pmem.region c.unlink_inode.new.self.memory) c.args.self.now.layout c.args.self.now.free.pools c.args.cpu held k h (name_entries Remove i q c.args.time) i)
    (λ here. logs.last i node held h (stands_for (found_here (tree_of (g.P.Pmem.region c.args.self.now.memory) c.args.self.now.rows) c.args.path.now c.in_ok-directory.ensures.path c.in_ok-directory.directory c.in_ok-directory.name.now names path ((same_end g.P.Pmem.region c.self.view_is c.in_ok-directory.directory c.args.path.now (c.in_ok-directory.ensures.walked (g.P.Pmem.region c.self.inside.memory))) names path) (c.in_ok-directory.ensures.name names path)) led) sound here few) is) c.unlink_inode.ensures.log

pub returns-clause-stores : goal.returns-clause-stores
returns-clause-stores g c =
    let stores = c.unlink_inode.ensures.stores in
    record {
      journals = stores.journals;
      wrote = λ names i d node held path led ended sound some. at_ended (tree_of (g.P.Pmem.region c.args.self.now.memory) c.args.self.now.rows) names ((same_end g.P.Pmem.region c.self.view_is c.in_ok-directory.directory c.args.path.now (c.in_ok-directory.ensures.walked (g.P.Pmem.region c.self.inside.memory))) names path) ended (c.in_ok-directory.ensures.name names path)
          (λ k q. StoresIn c.args.self.now.layout held (two_logs c.args.self.now.layout c.args.cpu k i) (g.P.Pmem.region c.args.self.now.memory) (g.P.Pmem.region c.unlink_inode.new.self.memory)) (stores.wrote i node held (stands_for (found_here (tree_of (g.P.Pmem.region c.args.self.now.memory) c.args.self.now.rows) c.args.path.now c.in_ok-directory.ensures.path c.in_ok-directory.directory c.in_ok-directory.name.now names path ((same_end g.P.Pmem.region c.self.view_is c.in_ok-directory.directory c.args.path.now (c.in_ok-directory.ensures.walked (g.P.Pmem.region c.self.inside.memory))) names path) (c.in_ok-directory.ensures.name names path)) led) sound some);
      last_wrote = λ names i d node held path led ended sound few. at_ended (tree_of (g.P.Pmem.region c.args.self.now.memory) c.args.self.now.rows) names ((same_end g.P.Pmem.region c.self.view_is c.in_ok-directory.directory c.args.path.now (c.in_ok-directory.ensures.walked (g.P.Pmem.region c.self.inside.memory))) names path) ended (c.in_ok-directory.ensures.name names path)
          (λ k q. StoresIn c.args.self.now.layout held (one_less c.args.self.now.layout c.args.cpu k i) (g.P.Pmem.region c.args.self.now.memory) (g.P.Pmem.region c.unlink_inode.new.self.memory)) (stores.last_wrote i node held (stands_for (found_here (tree_of (g.P.Pmem.region c.args.self.now.memory) c.args.self.now.rows) c.args.path.now c.in_ok-directory.ensures.path c.in_ok-directory.directory c.in_ok-directory.name.now names path ((same_end g.P.Pmem.region c.self.view_is c.in_ok-directory.directory c.args.path.now (c.in_ok-directory.ensures.walked (g.P.Pmem.region c.self.inside.memory))) names path) (c.in_ok-directory.ensures.name names path)) led) sound few);
      in_order = λ names i d node held h path led ended sound is some. at_ended (tree_of (g.P.Pmem.region c.args.self.now.memory) c.args.self.now.rows) names ((same_end g.P.Pmem.region c.self.view_is c.in_ok-directory.directory c.args.path.now (c.in_ok-directory.ensures.walked (g.P.Pmem.region c.self.inside.memory))) names path) ended (c.in_ok-directory.ensures.name names path)
          (λ k q. held k ≡ Some h → ShowsTailFirst (g.P.Pmem.region c.args.self.now.memory) (g.P.Pmem.region c.unlink_inode.new.self.memory) c.args.self.now.layout c.args.self.now.free.pools c.args.cpu k h (name_entries Remove i q c.args.time) (tail_address c.args.self.now.layout i)) (λ here. stores.in_order i node held h (stands_for (found_here (tree_of (g.P.Pmem.region c.args.self.now.memory) c.args.self.now.rows) c.args.path.now c.in_ok-directory.ensures.path c.in_ok-directory.directory c.in_ok-directory.name.now names path ((same_end g.P.Pmem.region c.self.view_is c.in_ok-directory.directory c.args.path.now (c.in_ok-directory.ensures.walked (g.P.Pmem.region c.self.inside.memory))) names path) (c.in_ok-directory.ensures.name names path)) led) sound here some) is;
      last_in_order = λ names i d node held h path led ended sound is few. at_ended (tree_of (g.P.Pmem.region c.args.self.now.memory) c.args.self.now.rows) names ((same_end g.P.Pmem.region c.self.view_is c.in_ok-directory.directory c.args.path.now (c.in_ok-directory.ensures.walked (g.P.Pmem.region c.self.inside.memory))) names path) ended (c.in_ok-directory.ensures.name names path)
          (λ k q. held k ≡ Some h → ShowsTailFirst (g.P.Pmem.region c.args.self.now.memory) (g.P.Pmem.region c.unlink_inode.new.self.memory) c.args.self.now.layout c.args.self.now.free.pools c.args.cpu k h (name_entries Remove i q c.args.time) (slot_in c.args.self.now.layout i)) (λ here. stores.last_in_order i node held h (stands_for (found_here (tree_of (g.P.Pmem.region c.args.self.now.memory) c.args.self.now.rows) c.args.path.now c.in_ok-directory.ensures.path c.in_ok-directory.directory c.in_ok-directory.name.now names path ((same_end g.P.Pmem.region c.self.view_is c.in_ok-directory.directory c.args.path.now (c.in_ok-directory.ensures.walked (g.P.Pmem.region c.self.inside.memory))) names path) (c.in_ok-directory.ensures.name names path)) led) sound here few) is;
    }

pub returns-clause-any_stop : goal.returns-clause-any_stop
returns-clause-any_stop g c names path on able =
    left_by (g.P.Pmem.region c.args.self.now.memory) (LogsUnlinkedIn c.args.cpu c.args.time c.in_ok-directory.directory c.in_ok-directory.name.now (g.P.Pmem.region c.args.self.now.memory) c.args.self.now) (LogsUnlink c.args.cpu c.args.time (g.P.Pmem.region c.args.self.now.memory) c.args.self.now names)
    (unlinked_by_path (tree_of (g.P.Pmem.region c.args.self.now.memory) c.args.self.now.rows) c.in_ok-directory.directory c.in_ok-directory.name.now c.args.time names (found_here (tree_of (g.P.Pmem.region c.args.self.now.memory) c.args.self.now.rows) c.args.path.now c.in_ok-directory.ensures.path c.in_ok-directory.directory c.in_ok-directory.name.now names path ((same_end g.P.Pmem.region c.self.view_is c.in_ok-directory.directory c.args.path.now (c.in_ok-directory.ensures.walked (g.P.Pmem.region c.self.inside.memory))) names path) (c.in_ok-directory.ensures.name names path)) ((same_end g.P.Pmem.region c.self.view_is c.in_ok-directory.directory c.args.path.now (c.in_ok-directory.ensures.walked (g.P.Pmem.region c.self.inside.memory))) names path) (c.in_ok-directory.ensures.name names path))
    (λ T logs. record {
      more = λ i d node held h f led ended sound is other_is some. at_ended (tree_of (g.P.Pmem.region c.args.self.now.memory) c.args.self.now.rows) names ((same_end g.P.Pmem.region c.self.view_is c.in_ok-directory.directory c.args.path.now (c.in_ok-directory.ensures.walked (g.P.Pmem.region c.self.inside.memory))) names path) ended (c.in_ok-directory.ensures.name names path)
          (λ k q. held k ≡ Some h → ShowsBothGrew T c.args.self.now.layout c.args.self.now.free.pools c.args.cpu held k h (name_entries Remove i q c.args.time) i f (links_entries (node.links - 1) c.args.time))
          (λ here. logs.more i node held h f (stands_for (found_here (tree_of (g.P.Pmem.region c.args.self.now.memory) c.args.self.now.rows) c.args.path.now c.in_ok-directory.ensures.path c.in_ok-directory.directory c.in_ok-directory.name.now names path ((same_end g.P.Pmem.region c.self.view_is c.in_ok-directory.directory c.args.path.now (c.in_ok-directory.ensures.walked (g.P.Pmem.region c.self.inside.memory))) names path) (c.in_ok-directory.ensures.name names path)) led) sound here other_is some) is;
      last = λ i d node held h led ended sound is few. at_ended (tree_of (g.P.Pmem.region c.args.self.now.memory) c.args.self.now.rows) names ((same_end g.P.Pmem.region c.self.view_is c.in_ok-directory.directory c.args.path.now (c.in_ok-directory.ensures.walked (g.P.Pmem.region c.self.inside.memory))) names path) ended (c.in_ok-directory.ensures.name names path)
          (λ k q. held k ≡ Some h → ShowsRemoved T c.args.self.now.layout c.args.self.now.free.pools c.args.cpu held k h (name_entries Remove i q c.args.time) i)
          (λ here. logs.last i node held h (stands_for (found_here (tree_of (g.P.Pmem.region c.args.self.now.memory) c.args.self.now.rows) c.args.path.now c.in_ok-directory.ensures.path c.in_ok-directory.directory c.in_ok-directory.name.now names path ((same_end g.P.Pmem.region c.self.view_is c.in_ok-directory.directory c.args.path.now (c.in_ok-directory.ensures.walked (g.P.Pmem.region c.self.inside.memory))) names path) (c.in_ok-directory.ensures.name names path)) led) sound here few) is;
    })
    (c.unlink_inode.ensures.any_stop on able)

pub returns-in_err-writable-clause-allowed : goal.returns-in_err-writable-clause-allowed
returns-in_err-writable-clause-allowed g c p says = IfOk-from_err c.from_residual.result _ c.from_residual.ensures.0

pub returns-in_err-writable-clause-changed : goal.returns-in_err-writable-clause-changed
returns-in_err-writable-clause-changed g c names path = IfOk-from_err c.from_residual.result _ c.from_residual.ensures.0

pub returns-in_err-writable-clause-log : goal.returns-in_err-writable-clause-log
returns-in_err-writable-clause-log g c names i d node held h f path led ended sound is other_is some = IfOk-from_err c.from_residual.result _ c.from_residual.ensures.0

pub returns-in_err-writable-clause-last : goal.returns-in_err-writable-clause-last
returns-in_err-writable-clause-last g c names i d node held h path led ended sound is few = IfOk-from_err c.from_residual.result _ c.from_residual.ensures.0

pub returns-in_err-directory-clause-allowed : goal.returns-in_err-directory-clause-allowed
returns-in_err-directory-clause-allowed g c p says = IfOk-from_err c.from_residual-in_err-directory.result _ c.from_residual-in_err-directory.ensures.0

pub returns-in_err-directory-clause-changed : goal.returns-in_err-directory-clause-changed
returns-in_err-directory-clause-changed g c names path = IfOk-from_err c.from_residual-in_err-directory.result _ c.from_residual-in_err-directory.ensures.0

pub returns-in_err-directory-clause-log : goal.returns-in_err-directory-clause-log
returns-in_err-directory-clause-log g c names i d node held h f path led ended sound is other_is some = IfOk-from_err c.from_residual-in_err-directory.result _ c.from_residual-in_err-directory.ensures.0

pub returns-in_err-directory-clause-last : goal.returns-in_err-directory-clause-last
returns-in_err-directory-clause-last g c names i d node held h path led ended sound is few = IfOk-from_err c.from_residual-in_err-directory.result _ c.from_residual-in_err-directory.ensures.0
