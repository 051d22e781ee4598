use Rattle.std.proofs.Common.{◌≡◌, ◌∙◌, ◌++◌, ◌+◌, ◌∷◌, [], Option, Some, None, inl, inr, ap, subst, sym, refl, IfErr, OnOk}
use Rattle.std.proofs.lemmas.Result.{err_from_is_err_and, IfOk-from_err}
use Rattle.nv_entry.specs.declared.entry.Operation.TheVariants.{Add}
use Rattle.nv_tree.specs.declared.refusal.Refusal.{Refusal}
use Rattle.nv_tree.specs.Tree.{SameTree, Tree}
use Rattle.nv_tree.specs.Refusals.{first_refusal, has_most_links, has_no_space, is_bad, is_bad_name, is_dir, is_missing, is_there, link_tests, walk_tests, IsRefusedBy}
use Rattle.nv_tree.proofs.Replies.{refused_by}
use Rattle.nv_steps.specs.InOrder.{tail_address}
use Rattle.nv_steps.specs.NameEntries.{links_entries, name_entries}
use Rattle.nv_steps.specs.Stores.{StoresIn, two_logs}
use Rattle.nv_paths.specs.Seen.{tree_of}
use Rattle.nv_calls.specs.Effects.{logs_link, makes_link}
use Rattle.nv_calls.specs.InOrder.{ShowsTailFirst}
use Rattle.nv_calls.specs.LinkCalls.{ShowsBothGrew, link_blocks}
use Rattle.nv_calls.specs.Mount.{Mount}
use Rattle.nv_calls.specs.NamesByNumber.{logs_linked_in}
use Rattle.nv_calls.specs.World.{world_of}
use Rattle.nv_calls.proofs.ByPath.{left_by}
use Rattle.nv_calls.proofs.CallKept.{refused_first, refused_later}
use Rattle.nv_calls.proofs.LinkByPath.{at_linked, link_by_path, linked_by_path, same_found, same_walk}
use Rattle.nv_calls.proofs.NamesByPath.{ok_then, same_end}
use Rattle.nv_calls.proofs.RowChange.{same_mount}
use Rattle.nv_calls.proofs.Stopped.{call_stays}
use Rattle.nv_calls.proofs.Tests.{writing_goes_on}
use Rattle.nv_calls.proofs.fs.Fs.link.Goals as goal

pub returns-in_err-writable-clause-refused : goal.returns-in_err-writable-clause-refused
returns-in_err-writable-clause-refused g c =
    rw (← c.cpu.view_is) (λ runs p q says says_new.
    let w = err_from_is_err_and c.from_residual.result c.from_residual.ensures.1 in
    refused_by c.from_residual.result c.in_err-writable.field-0.0 w.0 (IsRefusedBy (first_refusal (link_tests (world_of c.args.self.now) (tree_of (g.P.Pmem.region c.args.self.now.memory) c.args.self.now.rows) c.cpu.inside.0 p q (link_blocks c.args.self.now.rows (tree_of (g.P.Pmem.region c.args.self.now.memory) c.args.self.now.rows) p q)))) w.1 w.2
    (inr (inr (c.in_err-writable.ensures.refused runs (is_bad p ∷ is_bad_name q ∷ walk_tests (tree_of (g.P.Pmem.region c.args.self.now.memory) c.args.self.now.rows) p ++ walk_tests (tree_of (g.P.Pmem.region c.args.self.now.memory) c.args.self.now.rows) q ++ is_missing (tree_of (g.P.Pmem.region c.args.self.now.memory) c.args.self.now.rows) p ∷ is_dir (tree_of (g.P.Pmem.region c.args.self.now.memory) c.args.self.now.rows) p ∷ is_there (tree_of (g.P.Pmem.region c.args.self.now.memory) c.args.self.now.rows) q ∷ has_most_links (tree_of (g.P.Pmem.region c.args.self.now.memory) c.args.self.now.rows) p ∷ has_no_space (world_of c.args.self.now) (link_blocks c.args.self.now.rows (tree_of (g.P.Pmem.region c.args.self.now.memory) c.args.self.now.rows) p q) ∷ []))))
    )

pub returns-in_err-writable-clause-call : goal.returns-in_err-writable-clause-call
returns-in_err-writable-clause-call g c =
    let w = err_from_is_err_and c.from_residual.result c.from_residual.ensures.1 in
    record {
      of_path = record {
        call = refused_first g.P.Pmem.region g.P.Pmem.fuse c.args.self.now c.from_residual.result c.in_err-writable.field-0.0 w.0 w.1 w.2 c.in_err-writable.ensures.stopped
            (λ runs is. writing_goes_on (world_of c.args.self.now) c.cpu.inside.0 (c.in_err-writable.ensures.refused runs [] ∙ ap (λ (e : Refusal). Some e) is));
        bad_text = λ bad. same_mount c.args.self.now;
      };
      settled = IfOk-from_err c.from_residual.result _ c.from_residual.ensures.0;
    }

pub returns-in_err-writable-clause-stores : goal.returns-in_err-writable-clause-stores
returns-in_err-writable-clause-stores g c =
    record {
      journals = IfOk-from_err c.from_residual.result _ c.from_residual.ensures.0;
      wrote = λ names others i d node held path other_path led ended sound. λ at whole away. refl;
      in_order = λ names others i d node held f path other_path led ended sound is. ∣ inl refl ∣₁;
    }

pub returns-in_err-named-clause-refused : goal.returns-in_err-named-clause-refused
returns-in_err-named-clause-refused g c =
    rw (← c.cpu.view_is) (λ still p q says says_new.
    let tree = (tree_of (g.P.Pmem.region c.args.self.now.memory) c.args.self.now.rows) in
    let count = link_blocks c.args.self.now.rows tree p q in
    let more = is_dir tree p ∷ is_there tree q ∷ has_most_links tree p ∷ has_no_space (world_of c.args.self.now) count ∷ [] in
    let told = subst (λ (m : Mount g.row.P.Denot). first_refusal (is_bad p ∷ is_bad_name q ∷ walk_tests (tree_of (g.P.Pmem.region m.memory) m.rows) p ++ walk_tests (tree_of (g.P.Pmem.region m.memory) m.rows) q ++ is_missing (tree_of (g.P.Pmem.region m.memory) m.rows) p ∷ more) ≡ Some c.in_err-named.field-0.0) c.self.view_is
    (c.in_err-named.ensures.refused (g.P.Pmem.region c.self.inside.memory) p q more says says_new) in
    let w = err_from_is_err_and c.from_residual-in_err-named.result c.from_residual-in_err-named.ensures.1 in
    refused_by c.from_residual-in_err-named.result c.in_err-named.field-0.0 w.0 (IsRefusedBy (first_refusal (link_tests (world_of c.args.self.now) tree c.cpu.inside.0 p q count))) w.1 w.2
    (inr (inr (c.in_ok-writable.ensures.passed (is_bad p ∷ is_bad_name q ∷ walk_tests tree p ++ walk_tests tree q ++ is_missing tree p ∷ more) ∙ told)))
    )

pub returns-in_err-named-clause-call : goal.returns-in_err-named-clause-call
returns-in_err-named-clause-call g c =
    let w = err_from_is_err_and c.from_residual-in_err-named.result c.from_residual-in_err-named.ensures.1 in
    record {
      of_path = record {
        call = refused_later g.P.Pmem.region g.P.Pmem.fuse c.args.self.now c.from_residual-in_err-named.result c.in_err-named.field-0.0 w.0 w.1 w.2 c.in_ok-writable.ensures.runs c.in_err-named.ensures.goes_on;
        bad_text = λ bad. same_mount c.args.self.now;
      };
      settled = IfOk-from_err c.from_residual-in_err-named.result _ c.from_residual-in_err-named.ensures.0;
    }

pub returns-in_err-named-clause-stores : goal.returns-in_err-named-clause-stores
returns-in_err-named-clause-stores g c =
    record {
      journals = IfOk-from_err c.from_residual-in_err-named.result _ c.from_residual-in_err-named.ensures.0;
      wrote = λ names others i d node held path other_path led ended sound. λ at whole away. refl;
      in_order = λ names others i d node held f path other_path led ended sound is. ∣ inl refl ∣₁;
    }

pub returns-in_err-writable-clause-any_stop : goal.returns-in_err-writable-clause-any_stop
returns-in_err-writable-clause-any_stop g c names others path other_path on able = call_stays g.P.Pmem.region c.args.self.now (makes_link c.args.time (Some others)) (logs_link c.args.cpu c.args.time (Some others)) names c.in_err-writable.ensures.kept on able _ (c.in_err-writable.ensures.settled on)

pub returns-in_err-named-clause-any_stop : goal.returns-in_err-named-clause-any_stop
returns-in_err-named-clause-any_stop g c names others path other_path on able = call_stays g.P.Pmem.region c.args.self.now (makes_link c.args.time (Some others)) (logs_link c.args.cpu c.args.time (Some others)) names c.in_ok-writable.ensures.kept on able _ (c.in_ok-writable.ensures.settled on)

pub returns-clause-allowed : goal.returns-clause-allowed
returns-clause-allowed g c p q says says_new = subst (λ (o : Option Refusal). OnOk c.link_inode.result (o ≡ None)) (sym (link_by_path g.P.Pmem.region c.args.self.now c.args.cpu c.in_ok-named.named.target c.in_ok-named.named.directory c.args.old.now c.args.new.now c.in_ok-named.named.name.now c.in_ok-named.ensures.paths (same_walk g.P.Pmem.region c.self.view_is c.args.old.now (c.in_ok-named.ensures.walked (g.P.Pmem.region c.self.inside.memory))) (same_found g.P.Pmem.region c.self.view_is c.in_ok-named.named.target c.args.old.now (c.in_ok-named.ensures.leads (g.P.Pmem.region c.self.inside.memory))) (same_end g.P.Pmem.region c.self.view_is c.in_ok-named.named.directory c.args.new.now (c.in_ok-named.ensures.ended (g.P.Pmem.region c.self.inside.memory))) c.in_ok-named.ensures.name p q says says_new)) c.link_inode.ensures.allowed

pub returns-clause-refused : goal.returns-clause-refused
returns-clause-refused g c runs p q says says_new = subst (λ (o : Option Refusal). IfErr c.link_inode.result (IsRefusedBy o)) (sym (link_by_path g.P.Pmem.region c.args.self.now c.args.cpu c.in_ok-named.named.target c.in_ok-named.named.directory c.args.old.now c.args.new.now c.in_ok-named.named.name.now c.in_ok-named.ensures.paths (same_walk g.P.Pmem.region c.self.view_is c.args.old.now (c.in_ok-named.ensures.walked (g.P.Pmem.region c.self.inside.memory))) (same_found g.P.Pmem.region c.self.view_is c.in_ok-named.named.target c.args.old.now (c.in_ok-named.ensures.leads (g.P.Pmem.region c.self.inside.memory))) (same_end g.P.Pmem.region c.self.view_is c.in_ok-named.named.directory c.args.new.now (c.in_ok-named.ensures.ended (g.P.Pmem.region c.self.inside.memory))) c.in_ok-named.ensures.name p q says says_new)) (c.link_inode.ensures.refused runs)

pub returns-clause-changed : goal.returns-clause-changed
returns-clause-changed g c names others path other_path =
    subst (λ (t : Tree). OnOk c.link_inode.result (SameTree (tree_of (g.P.Pmem.region c.link_inode.new.self.memory) c.link_inode.new.self.rows) t)) (linked_by_path (tree_of (g.P.Pmem.region c.args.self.now.memory) c.args.self.now.rows) c.in_ok-named.named.target c.in_ok-named.named.directory c.in_ok-named.named.name.now c.args.time names others ((same_found g.P.Pmem.region c.self.view_is c.in_ok-named.named.target c.args.old.now (c.in_ok-named.ensures.leads (g.P.Pmem.region c.self.inside.memory))) names path) ((same_end g.P.Pmem.region c.self.view_is c.in_ok-named.named.directory c.args.new.now (c.in_ok-named.ensures.ended (g.P.Pmem.region c.self.inside.memory))) others other_path) (c.in_ok-named.ensures.name others other_path)) c.link_inode.ensures.changed

pub returns-clause-log : goal.returns-clause-log
returns-clause-log g c names others i d node held f h path other_path led ended sound is other_is = ok_then c.link_inode.result (λ (logs : logs_linked_in c.args.cpu c.args.time c.in_ok-named.named.target c.in_ok-named.named.directory c.in_ok-named.named.name.now (g.P.Pmem.region c.args.self.now.memory) c.args.self.now (g.P.Pmem.region c.link_inode.new.self.memory)).
    at_linked (tree_of (g.P.Pmem.region c.args.self.now.memory) c.args.self.now.rows) names others ((same_found g.P.Pmem.region c.self.view_is c.in_ok-named.named.target c.args.old.now (c.in_ok-named.ensures.leads (g.P.Pmem.region c.self.inside.memory))) names path) led ((same_end g.P.Pmem.region c.self.view_is c.in_ok-named.named.directory c.args.new.now (c.in_ok-named.ensures.ended (g.P.Pmem.region c.self.inside.memory))) others other_path) ended (c.in_ok-named.ensures.name others other_path)
    (λ j k q. held j ≡ Some f → held k ≡ Some h → ShowsBothGrew (g.P.Pmem.region c.link_inode.new.self.memory) c.args.self.now.layout c.args.self.now.free.pools c.args.cpu held j f (links_entries (node.links + 1) c.args.time) k h (name_entries Add j q c.args.time))
    (λ shows here there. logs node held f h shows sound here there) is other_is) c.link_inode.ensures.log

pub returns-clause-call : goal.returns-clause-call
returns-clause-call g c =
    record {
      of_path = record {
        call = c.link_inode.ensures.call;
        bad_text = λ bad. absurd (let w = c.in_ok-named.ensures.paths in bad w.0.0 (w.1.0 ∷ w.1.1) w.0.1 w.1.2);
      };
      settled = c.link_inode.ensures.settled;
    }

pub returns-clause-stores : goal.returns-clause-stores
returns-clause-stores g c =
    let stores = c.link_inode.ensures.stores in
    record {
      journals = stores.journals;
      wrote = λ names others i d node held path other_path led ended sound. at_linked (tree_of (g.P.Pmem.region c.args.self.now.memory) c.args.self.now.rows) names others ((same_found g.P.Pmem.region c.self.view_is c.in_ok-named.named.target c.args.old.now (c.in_ok-named.ensures.leads (g.P.Pmem.region c.self.inside.memory))) names path) led ((same_end g.P.Pmem.region c.self.view_is c.in_ok-named.named.directory c.args.new.now (c.in_ok-named.ensures.ended (g.P.Pmem.region c.self.inside.memory))) others other_path) ended (c.in_ok-named.ensures.name others other_path)
          (λ j k q. StoresIn c.args.self.now.layout held (two_logs c.args.self.now.layout c.args.cpu j k) (g.P.Pmem.region c.args.self.now.memory) (g.P.Pmem.region c.link_inode.new.self.memory)) (λ shows. stores.wrote node held shows sound);
      in_order = λ names others i d node held f path other_path led ended sound is. at_linked (tree_of (g.P.Pmem.region c.args.self.now.memory) c.args.self.now.rows) names others ((same_found g.P.Pmem.region c.self.view_is c.in_ok-named.named.target c.args.old.now (c.in_ok-named.ensures.leads (g.P.Pmem.region c.self.inside.memory))) names path) led ((same_end g.P.Pmem.region c.self.view_is c.in_ok-named.named.directory c.args.new.now (c.in_ok-named.ensures.ended (g.P.Pmem.region c.self.inside.memory))) others other_path) ended (c.in_ok-named.ensures.name others other_path)
          (λ j k q. held j ≡ Some f → ShowsTailFirst (g.P.Pmem.region c.args.self.now.memory) (g.P.Pmem.region c.link_inode.new.self.memory) c.args.self.now.layout c.args.self.now.free.pools c.args.cpu j f (links_entries (node.links + 1) c.args.time) (tail_address c.args.self.now.layout k)) (λ shows here. stores.in_order node held f shows sound here) is;
    }

pub returns-clause-any_stop : goal.returns-clause-any_stop
returns-clause-any_stop g c names others path other_path on able =
    left_by (g.P.Pmem.region c.args.self.now.memory) (logs_linked_in c.args.cpu c.args.time c.in_ok-named.named.target c.in_ok-named.named.directory c.in_ok-named.named.name.now (g.P.Pmem.region c.args.self.now.memory) c.args.self.now) (logs_link c.args.cpu c.args.time (Some others) (g.P.Pmem.region c.args.self.now.memory) c.args.self.now names)
    (linked_by_path (tree_of (g.P.Pmem.region c.args.self.now.memory) c.args.self.now.rows) c.in_ok-named.named.target c.in_ok-named.named.directory c.in_ok-named.named.name.now c.args.time names others ((same_found g.P.Pmem.region c.self.view_is c.in_ok-named.named.target c.args.old.now (c.in_ok-named.ensures.leads (g.P.Pmem.region c.self.inside.memory))) names path) ((same_end g.P.Pmem.region c.self.view_is c.in_ok-named.named.directory c.args.new.now (c.in_ok-named.ensures.ended (g.P.Pmem.region c.self.inside.memory))) others other_path) (c.in_ok-named.ensures.name others other_path))
    (λ T logs i d node held f h led ended sound is other_is. at_linked (tree_of (g.P.Pmem.region c.args.self.now.memory) c.args.self.now.rows) names others ((same_found g.P.Pmem.region c.self.view_is c.in_ok-named.named.target c.args.old.now (c.in_ok-named.ensures.leads (g.P.Pmem.region c.self.inside.memory))) names path) led ((same_end g.P.Pmem.region c.self.view_is c.in_ok-named.named.directory c.args.new.now (c.in_ok-named.ensures.ended (g.P.Pmem.region c.self.inside.memory))) others other_path) ended (c.in_ok-named.ensures.name others other_path)
    (λ j k q. held j ≡ Some f → held k ≡ Some h → ShowsBothGrew T c.args.self.now.layout c.args.self.now.free.pools c.args.cpu held j f (links_entries (node.links + 1) c.args.time) k h (name_entries Add j q c.args.time))
    (λ shows here there. logs node held f h shows sound here there) is other_is)
    (c.link_inode.ensures.any_stop on able)

pub returns-in_err-writable-clause-allowed : goal.returns-in_err-writable-clause-allowed
returns-in_err-writable-clause-allowed g c p q says says_new = IfOk-from_err c.from_residual.result _ c.from_residual.ensures.0

pub returns-in_err-writable-clause-changed : goal.returns-in_err-writable-clause-changed
returns-in_err-writable-clause-changed g c names others path other_path = IfOk-from_err c.from_residual.result _ c.from_residual.ensures.0

pub returns-in_err-writable-clause-log : goal.returns-in_err-writable-clause-log
returns-in_err-writable-clause-log g c names others i d node held f h path other_path led ended sound is other_is = IfOk-from_err c.from_residual.result _ c.from_residual.ensures.0

pub returns-in_err-named-clause-allowed : goal.returns-in_err-named-clause-allowed
returns-in_err-named-clause-allowed g c p q says says_new = IfOk-from_err c.from_residual-in_err-named.result _ c.from_residual-in_err-named.ensures.0

pub returns-in_err-named-clause-changed : goal.returns-in_err-named-clause-changed
returns-in_err-named-clause-changed g c names others path other_path = IfOk-from_err c.from_residual-in_err-named.result _ c.from_residual-in_err-named.ensures.0

pub returns-in_err-named-clause-log : goal.returns-in_err-named-clause-log
returns-in_err-named-clause-log g c names others i d node held f h path other_path led ended sound is other_is = IfOk-from_err c.from_residual-in_err-named.result _ c.from_residual-in_err-named.ensures.0
