use Rattle.std.proofs.Common.{◌≡◌, ◌∙◌, ◌++◌, ◌∷◌, [], Option, Some, inl, inr, ap, refl, subst, sym}
use Rattle.std.proofs.lemmas.Result.{err_from_is_err_and, IfOk-from_err}
use Rattle.nv_tree.specs.declared.refusal.Refusal.{Refusal}
use Rattle.nv_tree.specs.Tree.{SameTree, Tree}
use Rattle.nv_tree.specs.Refusals.{create_tests, first_refusal, has_no_slot, has_no_space, is_bad_name, is_there, walk_tests, IsRefusedBy}
use Rattle.nv_tree.proofs.Replies.{refused_by}
use Rattle.nv_steps.specs.Stores.{StoresIn}
use Rattle.nv_paths.specs.Seen.{tree_of}
use Rattle.nv_paths.specs.Spots.{new_number}
use Rattle.nv_calls.specs.Effects.{logs_inode, makes_inode}
use Rattle.nv_calls.specs.Growing.{create_places}
use Rattle.nv_calls.specs.InOrder.{ShowsValidFirst}
use Rattle.nv_calls.specs.Mount.{Mount}
use Rattle.nv_calls.specs.NameCalls.{ShowsCreated, create_blocks}
use Rattle.nv_calls.specs.NamesByNumber.{logs_created_in}
use Rattle.nv_calls.specs.World.{world_of}
use Rattle.nv_calls.proofs.CallKept.{as_done, as_refused, refused_first, refused_later}
use Rattle.nv_calls.proofs.GrownCall.{may_grow}
use Rattle.nv_calls.proofs.NamesByPath.{at_ended, create_by_path, created_by_path, grown_by, same_end}
use Rattle.nv_calls.proofs.RowChange.{same_mount}
use Rattle.nv_calls.proofs.Stopped.{call_stays}
use Rattle.nv_calls.proofs.StoppedNames.{still_grows}
use Rattle.nv_calls.proofs.Tests.{writing_goes_on}
use Rattle.nv_calls.proofs.fs.Fs.make.Goals as goal

pub returns-in_err-writable-clause-refused : goal.returns-in_err-writable-clause-refused
returns-in_err-writable-clause-refused g c =
    rw (← c.cpu.view_is) (λ runs p says.
    let tree = tree_of (g.P.Pmem.region c.args.self.now.memory) c.args.self.now.rows in
    let count = create_blocks c.args.self.now.layout c.args.self.now.rows c.cpu.inside.0 tree p in
    let w = err_from_is_err_and c.from_residual.result c.from_residual.ensures.1 in
    refused_by c.from_residual.result c.in_err-writable.field-0.0 w.0 (IsRefusedBy (first_refusal (create_tests (world_of c.args.self.now) tree c.cpu.inside.0 p count))) w.1 w.2
    (inr (inr (c.in_err-writable.ensures.refused runs (is_bad_name p ∷ walk_tests tree p ++ is_there tree p ∷ has_no_slot (world_of c.args.self.now) c.cpu.inside.0 ∷ has_no_space (world_of c.args.self.now) count ∷ []))))
    )

pub returns-in_err-writable-clause-call : goal.returns-in_err-writable-clause-call
returns-in_err-writable-clause-call g c =
    let w = err_from_is_err_and c.from_residual.result c.from_residual.ensures.1 in
    record {
      of_path = record {
        call = may_grow c.args.cpu (refused_first g.P.Pmem.region g.P.Pmem.fuse c.args.self.now c.from_residual.result c.in_err-writable.field-0.0 w.0 w.1 w.2 c.in_err-writable.ensures.stopped
            (λ runs is. writing_goes_on (world_of c.args.self.now) c.cpu.inside.0 (c.in_err-writable.ensures.refused runs [] ∙ ap (λ (e : Refusal). Some e) is)));
        bad_text = λ bad. same_mount c.args.self.now;
      };
      settled = IfOk-from_err c.from_residual.result _ c.from_residual.ensures.0;
    }

pub returns-in_err-writable-clause-stores : goal.returns-in_err-writable-clause-stores
returns-in_err-writable-clause-stores g c =
    record {
      journals = IfOk-from_err c.from_residual.result _ c.from_residual.ensures.0;
      wrote = λ names d j held path ended number sound. λ at whole away. refl;
      in_order = λ names d j path ended number. ∣ inl refl ∣₁;
    }

pub returns-in_err-directory-clause-refused : goal.returns-in_err-directory-clause-refused
returns-in_err-directory-clause-refused g c =
    rw (← c.cpu.view_is) (λ still p says.
    let tree = tree_of (g.P.Pmem.region c.args.self.now.memory) c.args.self.now.rows in
    let count = create_blocks c.args.self.now.layout c.args.self.now.rows c.cpu.inside.0 tree p in
    let more = is_there tree p ∷ has_no_slot (world_of c.args.self.now) c.cpu.inside.0 ∷ has_no_space (world_of c.args.self.now) count ∷ [] in
    let told = subst (λ (m : Mount g.row.P.Denot). first_refusal (is_bad_name p ∷ walk_tests (tree_of (g.P.Pmem.region m.memory) m.rows) p ++ more) ≡ Some c.in_err-directory.field-0.0) c.self.view_is
    (c.in_err-directory.ensures.refused (g.P.Pmem.region c.self.inside.memory) p more says) in
    let w = err_from_is_err_and c.from_residual-in_err-directory.result c.from_residual-in_err-directory.ensures.1 in
    refused_by c.from_residual-in_err-directory.result c.in_err-directory.field-0.0 w.0 (IsRefusedBy (first_refusal (create_tests (world_of c.args.self.now) tree c.cpu.inside.0 p count))) w.1 w.2
    (inr (inr (c.in_ok-writable.ensures.passed (is_bad_name p ∷ walk_tests tree p ++ more) ∙ told)))
    )

pub returns-in_err-directory-clause-call : goal.returns-in_err-directory-clause-call
returns-in_err-directory-clause-call g c =
    let w = err_from_is_err_and c.from_residual-in_err-directory.result c.from_residual-in_err-directory.ensures.1 in
    record {
      of_path = record {
        call = may_grow c.args.cpu (refused_later g.P.Pmem.region g.P.Pmem.fuse c.args.self.now c.from_residual-in_err-directory.result c.in_err-directory.field-0.0 w.0 w.1 w.2 c.in_ok-writable.ensures.runs c.in_err-directory.ensures.goes_on);
        bad_text = λ bad. same_mount c.args.self.now;
      };
      settled = IfOk-from_err c.from_residual-in_err-directory.result _ c.from_residual-in_err-directory.ensures.0;
    }

pub returns-in_err-directory-clause-stores : goal.returns-in_err-directory-clause-stores
returns-in_err-directory-clause-stores g c =
    record {
      journals = IfOk-from_err c.from_residual-in_err-directory.result _ c.from_residual-in_err-directory.ensures.0;
      wrote = λ names d j held path ended number sound. λ at whole away. refl;
      in_order = λ names d j path ended number. ∣ inl refl ∣₁;
    }

pub returns-in_err-writable-clause-any_stop : goal.returns-in_err-writable-clause-any_stop
returns-in_err-writable-clause-any_stop g c names path on able left may =
    still_grows c.args.self.now (g.P.Pmem.region c.args.self.now.memory) (call_stays g.P.Pmem.region c.args.self.now (makes_inode c.args.kind c.args.cpu c.args.mode c.args.time) (logs_inode c.args.kind c.args.cpu c.args.mode c.args.time) names c.in_err-writable.ensures.kept on able _ (c.in_err-writable.ensures.settled on) left may)

pub returns-in_err-directory-clause-any_stop : goal.returns-in_err-directory-clause-any_stop
returns-in_err-directory-clause-any_stop g c names path on able left may =
    still_grows c.args.self.now (g.P.Pmem.region c.args.self.now.memory) (call_stays g.P.Pmem.region c.args.self.now (makes_inode c.args.kind c.args.cpu c.args.mode c.args.time) (logs_inode c.args.kind c.args.cpu c.args.mode c.args.time) names c.in_ok-writable.ensures.kept on able _ (c.in_ok-writable.ensures.settled on) left may)

pub returns-in-Ok-clause-allowed : goal.returns-in-Ok-clause-allowed
returns-in-Ok-clause-allowed g c p says =
    create_by_path g.P.Pmem.region c.args.self.now c.args.cpu c.in_ok-directory.directory c.args.path.now c.in_ok-directory.name.now c.in_ok-directory.ensures.path (same_end g.P.Pmem.region c.self.view_is c.in_ok-directory.directory c.args.path.now (c.in_ok-directory.ensures.walked (g.P.Pmem.region c.self.inside.memory))) c.in_ok-directory.ensures.name p says
    ∙ c.in-Ok.ensures.allowed

pub returns-in-Err-clause-refused : goal.returns-in-Err-clause-refused
returns-in-Err-clause-refused g c runs p says =
    subst (λ (o : Option Refusal). IsRefusedBy o c.in-Err.refusal)
    (sym (create_by_path g.P.Pmem.region c.args.self.now c.args.cpu c.in_ok-directory.directory c.args.path.now c.in_ok-directory.name.now c.in_ok-directory.ensures.path (same_end g.P.Pmem.region c.self.view_is c.in_ok-directory.directory c.args.path.now (c.in_ok-directory.ensures.walked (g.P.Pmem.region c.self.inside.memory))) c.in_ok-directory.ensures.name p says))
    (c.in-Err.ensures.refused runs)

pub returns-in-Ok-clause-changed : goal.returns-in-Ok-clause-changed
returns-in-Ok-clause-changed g c names path =
    let tree = tree_of (g.P.Pmem.region c.args.self.now.memory) c.args.self.now.rows in
    subst (λ (t : Tree). SameTree (tree_of (g.P.Pmem.region c.make_inode.new.self.memory) c.make_inode.new.self.rows) t)
    (created_by_path tree c.args.kind (new_number c.args.self.now.layout c.args.self.now.rows c.args.cpu) c.in_ok-directory.directory c.in_ok-directory.name.now c.args.mode c.args.time names ((same_end g.P.Pmem.region c.self.view_is c.in_ok-directory.directory c.args.path.now (c.in_ok-directory.ensures.walked (g.P.Pmem.region c.self.inside.memory))) names path) (c.in_ok-directory.ensures.name names path)) c.in-Ok.ensures.changed

pub returns-in-Ok-clause-tables : goal.returns-in-Ok-clause-tables
returns-in-Ok-clause-tables g c = c.in-Ok.ensures.tables

pub returns-in-Ok-clause-log : goal.returns-in-Ok-clause-log
returns-in-Ok-clause-log g c names d j held h path led number sound is =
    at_ended (tree_of (g.P.Pmem.region c.args.self.now.memory) c.args.self.now.rows) names ((same_end g.P.Pmem.region c.self.view_is c.in_ok-directory.directory c.args.path.now (c.in_ok-directory.ensures.walked (g.P.Pmem.region c.self.inside.memory))) names path) led (c.in_ok-directory.ensures.name names path)
    (λ k q. held k ≡ Some h → ShowsCreated (g.P.Pmem.region c.make_inode.new.self.memory) c.args.self.now.layout c.args.self.now.free.pools c.args.cpu held c.args.kind c.args.mode c.args.time j k h q)
    (λ here. c.in-Ok.ensures.log j held h number sound here) is

pub returns-in-Ok-clause-call : goal.returns-in-Ok-clause-call
returns-in-Ok-clause-call g c =
    record {
      of_path = record {
        call = as_done c.in-Ok.ensures.call.call;
        bad_text = λ bad. absurd (let w = c.in_ok-directory.ensures.path in bad (w.0 ∷ w.1) w.2);
      };
      settled = c.in-Ok.ensures.call.settled;
    }

pub returns-in-Err-clause-call : goal.returns-in-Err-clause-call
returns-in-Err-clause-call g c =
    record {
      of_path = record {
        call = as_refused c.in-Err.ensures.call.call;
        bad_text = λ bad. absurd (let w = c.in_ok-directory.ensures.path in bad (w.0 ∷ w.1) w.2);
      };
      settled = tt;
    }

pub returns-in-Ok-clause-stores : goal.returns-in-Ok-clause-stores
returns-in-Ok-clause-stores g c =
    record {
      journals = (let stores = c.in-Ok.ensures.stores in stores.journals);
      wrote = λ names d j held path led number sound. (let stores = c.make_inode.ensures.stores in
          at_ended (tree_of (g.P.Pmem.region c.args.self.now.memory) c.args.self.now.rows) names ((same_end g.P.Pmem.region c.self.view_is c.in_ok-directory.directory c.args.path.now (c.in_ok-directory.ensures.walked (g.P.Pmem.region c.self.inside.memory))) names path) led (c.in_ok-directory.ensures.name names path)
          (λ k q. StoresIn c.args.self.now.layout held (create_places c.args.self.now.layout c.args.cpu j k) (g.P.Pmem.region c.args.self.now.memory) (g.P.Pmem.region c.make_inode.new.self.memory)) (stores.wrote j held number sound));
      in_order = λ names d j path led number. (let stores = c.make_inode.ensures.stores in
          at_ended (tree_of (g.P.Pmem.region c.args.self.now.memory) c.args.self.now.rows) names ((same_end g.P.Pmem.region c.self.view_is c.in_ok-directory.directory c.args.path.now (c.in_ok-directory.ensures.walked (g.P.Pmem.region c.self.inside.memory))) names path) led (c.in_ok-directory.ensures.name names path)
          (λ k q. ShowsValidFirst (g.P.Pmem.region c.args.self.now.memory) (g.P.Pmem.region c.make_inode.new.self.memory) c.make_inode.new.self.layout j k) (stores.in_order j number));
    }

pub returns-in-Err-clause-stores : goal.returns-in-Err-clause-stores
returns-in-Err-clause-stores g c =
    record {
      journals = tt;
      wrote = λ names d j held path led number sound. (let stores = c.make_inode.ensures.stores in
          at_ended (tree_of (g.P.Pmem.region c.args.self.now.memory) c.args.self.now.rows) names ((same_end g.P.Pmem.region c.self.view_is c.in_ok-directory.directory c.args.path.now (c.in_ok-directory.ensures.walked (g.P.Pmem.region c.self.inside.memory))) names path) led (c.in_ok-directory.ensures.name names path)
          (λ k q. StoresIn c.args.self.now.layout held (create_places c.args.self.now.layout c.args.cpu j k) (g.P.Pmem.region c.args.self.now.memory) (g.P.Pmem.region c.make_inode.new.self.memory)) (stores.wrote j held number sound));
      in_order = λ names d j path led number. (let stores = c.make_inode.ensures.stores in
          at_ended (tree_of (g.P.Pmem.region c.args.self.now.memory) c.args.self.now.rows) names ((same_end g.P.Pmem.region c.self.view_is c.in_ok-directory.directory c.args.path.now (c.in_ok-directory.ensures.walked (g.P.Pmem.region c.self.inside.memory))) names path) led (c.in_ok-directory.ensures.name names path)
          (λ k q. ShowsValidFirst (g.P.Pmem.region c.args.self.now.memory) (g.P.Pmem.region c.make_inode.new.self.memory) c.make_inode.new.self.layout j k) (stores.in_order j number));
    }

pub returns-in-Ok-clause-any_stop : goal.returns-in-Ok-clause-any_stop
returns-in-Ok-clause-any_stop g c names path on able =
    let tree = tree_of (g.P.Pmem.region c.args.self.now.memory) c.args.self.now.rows in
    grown_by (g.P.Pmem.region c.args.self.now.memory) c.args.self.now c.args.cpu (logs_created_in c.args.kind c.args.cpu c.args.mode c.args.time c.in_ok-directory.directory c.in_ok-directory.name.now (g.P.Pmem.region c.args.self.now.memory) c.args.self.now)
    (logs_inode c.args.kind c.args.cpu c.args.mode c.args.time (g.P.Pmem.region c.args.self.now.memory) c.args.self.now names)
    (created_by_path tree c.args.kind (new_number c.args.self.now.layout c.args.self.now.rows c.args.cpu) c.in_ok-directory.directory c.in_ok-directory.name.now c.args.mode c.args.time names ((same_end g.P.Pmem.region c.self.view_is c.in_ok-directory.directory c.args.path.now (c.in_ok-directory.ensures.walked (g.P.Pmem.region c.self.inside.memory))) names path) (c.in_ok-directory.ensures.name names path))
    (λ T logs d j held h led number sound is. at_ended (tree_of (g.P.Pmem.region c.args.self.now.memory) c.args.self.now.rows) names ((same_end g.P.Pmem.region c.self.view_is c.in_ok-directory.directory c.args.path.now (c.in_ok-directory.ensures.walked (g.P.Pmem.region c.self.inside.memory))) names path) led (c.in_ok-directory.ensures.name names path)
    (λ k q. held k ≡ Some h → ShowsCreated T c.args.self.now.layout c.args.self.now.free.pools c.args.cpu held c.args.kind c.args.mode c.args.time j k h q) (λ here. logs j held h number sound here) is)
    (c.make_inode.ensures.any_stop on able)

pub returns-in-Err-clause-any_stop : goal.returns-in-Err-clause-any_stop
returns-in-Err-clause-any_stop g c names path on able =
    let tree = tree_of (g.P.Pmem.region c.args.self.now.memory) c.args.self.now.rows in
    grown_by (g.P.Pmem.region c.args.self.now.memory) c.args.self.now c.args.cpu (logs_created_in c.args.kind c.args.cpu c.args.mode c.args.time c.in_ok-directory.directory c.in_ok-directory.name.now (g.P.Pmem.region c.args.self.now.memory) c.args.self.now)
    (logs_inode c.args.kind c.args.cpu c.args.mode c.args.time (g.P.Pmem.region c.args.self.now.memory) c.args.self.now names)
    (created_by_path tree c.args.kind (new_number c.args.self.now.layout c.args.self.now.rows c.args.cpu) c.in_ok-directory.directory c.in_ok-directory.name.now c.args.mode c.args.time names ((same_end g.P.Pmem.region c.self.view_is c.in_ok-directory.directory c.args.path.now (c.in_ok-directory.ensures.walked (g.P.Pmem.region c.self.inside.memory))) names path) (c.in_ok-directory.ensures.name names path))
    (λ T logs d j held h led number sound is. at_ended (tree_of (g.P.Pmem.region c.args.self.now.memory) c.args.self.now.rows) names ((same_end g.P.Pmem.region c.self.view_is c.in_ok-directory.directory c.args.path.now (c.in_ok-directory.ensures.walked (g.P.Pmem.region c.self.inside.memory))) names path) led (c.in_ok-directory.ensures.name names path)
    (λ k q. held k ≡ Some h → ShowsCreated T c.args.self.now.layout c.args.self.now.free.pools c.args.cpu held c.args.kind c.args.mode c.args.time j k h q) (λ here. logs j held h number sound here) is)
    (c.make_inode.ensures.any_stop on able)

pub returns-in_err-writable-clause-allowed : goal.returns-in_err-writable-clause-allowed
returns-in_err-writable-clause-allowed g c p says = IfOk-from_err c.from_residual.result _ c.from_residual.ensures.0

pub returns-in_err-writable-clause-changed : goal.returns-in_err-writable-clause-changed
returns-in_err-writable-clause-changed g c names path = IfOk-from_err c.from_residual.result _ c.from_residual.ensures.0

pub returns-in_err-writable-clause-tables : goal.returns-in_err-writable-clause-tables
returns-in_err-writable-clause-tables g c = IfOk-from_err c.from_residual.result _ c.from_residual.ensures.0

pub returns-in_err-writable-clause-log : goal.returns-in_err-writable-clause-log
returns-in_err-writable-clause-log g c names d j held h path led number sound is = IfOk-from_err c.from_residual.result _ c.from_residual.ensures.0

pub returns-in_err-directory-clause-allowed : goal.returns-in_err-directory-clause-allowed
returns-in_err-directory-clause-allowed g c p says = IfOk-from_err c.from_residual-in_err-directory.result _ c.from_residual-in_err-directory.ensures.0

pub returns-in_err-directory-clause-changed : goal.returns-in_err-directory-clause-changed
returns-in_err-directory-clause-changed g c names path = IfOk-from_err c.from_residual-in_err-directory.result _ c.from_residual-in_err-directory.ensures.0

pub returns-in_err-directory-clause-tables : goal.returns-in_err-directory-clause-tables
returns-in_err-directory-clause-tables g c = IfOk-from_err c.from_residual-in_err-directory.result _ c.from_residual-in_err-directory.ensures.0

pub returns-in_err-directory-clause-log : goal.returns-in_err-directory-clause-log
returns-in_err-directory-clause-log g c names d j held h path led number sound is = IfOk-from_err c.from_residual-in_err-directory.result _ c.from_residual-in_err-directory.ensures.0

pub returns-in-Ok-clause-refused : goal.returns-in-Ok-clause-refused
returns-in-Ok-clause-refused g c still p says = tt

pub returns-in-Err-clause-allowed : goal.returns-in-Err-clause-allowed
returns-in-Err-clause-allowed g c p says = tt

pub returns-in-Err-clause-changed : goal.returns-in-Err-clause-changed
returns-in-Err-clause-changed g c names path = tt

pub returns-in-Err-clause-tables : goal.returns-in-Err-clause-tables
returns-in-Err-clause-tables g c = tt

pub returns-in-Err-clause-log : goal.returns-in-Err-clause-log
returns-in-Err-clause-log g c names d j held h path led number sound is = tt
