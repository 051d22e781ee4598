use Rattle.std.proofs.Common.{◌≡◌, ◌∙◌, ◌++◌, ◌∷◌, [], ℕ, Option, Some, None, inr, ap, subst, sym, refl, IfErr, OnOk}
use Rattle.std.proofs.lemmas.Result.{err_from_is_err_and, IfOk-from_err}
use Rattle.nv_tree.specs.declared.refusal.Refusal.{Refusal}
use Rattle.nv_tree.specs.Tree.{SameTree, Tree}
use Rattle.nv_tree.proofs.Replies.{refused_by}
use Rattle.nv_tree.proofs.Texts.{text_says}
use Rattle.nv_steps.specs.Stores.{StoresIn, one_log}
use Rattle.nv_paths.specs.Seen.{LeadsTo, node_of, tree_of}
use Rattle.nv_calls.specs.Mount.{Mount}
use Rattle.nv_calls.specs.World.{world_of}
use Rattle.nv_calls.proofs.RowChange.{same_mount}
use Rattle.nv_calls.proofs.SetSize.{front_goes_on}
use Rattle.nv_calls.proofs.Stopped.{call_stays}
use Rattle.nv_calls.proofs.Tests.{writing_goes_on}
use Rattle.nv_calls.proofs.TextPaths.{front_path}
use Rattle.nv_calls.proofs.CallKept.{refused_first, refused_later}
use Rattle.nv_tree.specs.Refusals.{first_refusal, has_no_space, is_bad, is_dir, is_missing, is_too_large, set_size_tests, walk_tests, IsRefusedBy}
use Rattle.nv_calls.specs.ChangesByNumber.{logs_inode_size}
use Rattle.nv_calls.specs.Effects.{logs_size, makes_size}
use Rattle.nv_calls.specs.SizeCall.{ShowsResizedLog, resized_blocks}
use Rattle.nv_calls.proofs.ByPath.{at_number, front_by_path, left_by, size_by_path, sized_at}
use Rattle.nv_calls.proofs.fs.Fs.set_size.Goals as goal

pub returns-in_err-writable-clause-refused : goal.returns-in_err-writable-clause-refused
returns-in_err-writable-clause-refused g c =
    rw (← c.cpu.view_is) (λ runs p says.
    let tree = tree_of (g.P.Pmem.region c.args.self.now.memory) c.args.self.now.rows in
    let count = resized_blocks c.args.self.now.rows tree p c.args.size in
    let w = err_from_is_err_and c.from_residual.result c.from_residual.ensures.1 in
    refused_by c.from_residual.result c.in_err-writable.field-0.0 w.0 (IsRefusedBy (first_refusal (set_size_tests (world_of c.args.self.now) tree c.cpu.inside.0 p c.args.size count))) w.1 w.2
    (inr (inr (c.in_err-writable.ensures.refused runs (is_bad p ∷ walk_tests tree p ++ is_missing tree p ∷ is_dir tree p ∷ is_too_large c.args.size ∷ has_no_space (world_of c.args.self.now) count ∷ []))))
    )

pub returns-in_err-writable-clause-call : goal.returns-in_err-writable-clause-call
returns-in_err-writable-clause-call g c =
    let w = err_from_is_err_and c.from_residual.result c.from_residual.ensures.1 in
    record {
      of_path = record {
        call = refused_first g.P.Pmem.region g.P.Pmem.fuse c.args.self.now c.from_residual.result c.in_err-writable.field-0.0 w.0 w.1 w.2 c.in_err-writable.ensures.stopped
            (λ runs is. writing_goes_on (world_of c.args.self.now) c.cpu.inside.0 (c.in_err-writable.ensures.refused runs [] ∙ ap (λ (e : Refusal). Some e) is));
        bad_text = λ bad. same_mount c.args.self.now;
      };
      settled = IfOk-from_err c.from_residual.result _ c.from_residual.ensures.0;
    }

pub returns-in_err-inode-clause-refused : goal.returns-in_err-inode-clause-refused
returns-in_err-inode-clause-refused g c =
    rw (← c.cpu.view_is) (λ runs p says.
    let tree = tree_of (g.P.Pmem.region c.args.self.now.memory) c.args.self.now.rows in
    let w = err_from_is_err_and c.from_residual-in_err-inode.result c.from_residual-in_err-inode.ensures.1 in
    let told = c.in_err-inode.ensures.refused (g.P.Pmem.region c.self.inside.memory) p says in
    refused_by c.from_residual-in_err-inode.result c.in_err-inode.field-0.0 w.0 (IsRefusedBy (first_refusal (set_size_tests (world_of c.args.self.now) tree c.cpu.inside.0 p c.args.size (resized_blocks c.args.self.now.rows tree p c.args.size)))) w.1 w.2
    (inr (inr (front_by_path g.P.Pmem.region c.self.view_is c.cpu.inside.0 c.in_ok-writable.ensures.passed p c.args.size (resized_blocks c.args.self.now.rows tree p c.args.size) c.in_err-inode.field-0.0 told)))
    )

pub returns-in_err-inode-clause-call : goal.returns-in_err-inode-clause-call
returns-in_err-inode-clause-call g c =
    let w = err_from_is_err_and c.from_residual-in_err-inode.result c.from_residual-in_err-inode.ensures.1 in
    let said = text_says c.args.path.now in
    let told = c.in_err-inode.ensures.refused (g.P.Pmem.region c.self.inside.memory) said.0 said.1 in
    record {
      of_path = record {
        call = refused_later g.P.Pmem.region g.P.Pmem.fuse c.args.self.now c.from_residual-in_err-inode.result c.in_err-inode.field-0.0 w.0 w.1 w.2 c.in_ok-writable.ensures.runs
            (λ is. front_goes_on (tree_of (g.P.Pmem.region c.self.inside.memory) c.self.inside.rows.items) said.0 c.args.size (told ∙ ap (λ (e : Refusal). Some e) is));
        bad_text = λ bad. same_mount c.args.self.now;
      };
      settled = IfOk-from_err c.from_residual-in_err-inode.result _ c.from_residual-in_err-inode.ensures.0;
    }

pub returns-in_err-writable-clause-any_stop : goal.returns-in_err-writable-clause-any_stop
returns-in_err-writable-clause-any_stop g c names path on able = call_stays g.P.Pmem.region c.args.self.now (makes_size c.args.size c.args.time) (logs_size c.args.cpu c.args.size c.args.time) names c.in_err-writable.ensures.kept on able _ (c.in_err-writable.ensures.settled on)

pub returns-in_err-inode-clause-any_stop : goal.returns-in_err-inode-clause-any_stop
returns-in_err-inode-clause-any_stop g c names path on able = call_stays g.P.Pmem.region c.args.self.now (makes_size c.args.size c.args.time) (logs_size c.args.cpu c.args.size c.args.time) names c.in_ok-writable.ensures.kept on able _ (c.in_ok-writable.ensures.settled on)

pub returns-in_err-writable-clause-wrote : goal.returns-in_err-writable-clause-wrote
returns-in_err-writable-clause-wrote g c names i node held path led sound = λ at whole away. refl

pub returns-in_err-inode-clause-wrote : goal.returns-in_err-inode-clause-wrote
returns-in_err-inode-clause-wrote g c names i node held path led sound = λ at whole away. refl

pub returns-clause-allowed : goal.returns-clause-allowed
returns-clause-allowed g c p says =
    let tests = size_by_path g.P.Pmem.region c.self.view_is c.args.cpu (rw c.cpu.view_is at c.in_ok-writable.ensures.passed) p c.args.path.now c.in_ok-inode.field-0.now (c.in_ok-inode.ensures.row (g.P.Pmem.region c.self.inside.memory)) says c.args.size (c.in_ok-inode.ensures.refused (g.P.Pmem.region c.self.inside.memory) p says) in
    subst (λ (o : Option Refusal). OnOk c.set_size_inode.result (o ≡ None)) (sym tests) c.set_size_inode.ensures.allowed

pub returns-clause-refused : goal.returns-clause-refused
returns-clause-refused g c runs p says =
    let tests = size_by_path g.P.Pmem.region c.self.view_is c.args.cpu (rw c.cpu.view_is at c.in_ok-writable.ensures.passed) p c.args.path.now c.in_ok-inode.field-0.now (c.in_ok-inode.ensures.row (g.P.Pmem.region c.self.inside.memory)) says c.args.size (c.in_ok-inode.ensures.refused (g.P.Pmem.region c.self.inside.memory) p says) in
    subst (λ (o : Option Refusal). IfErr c.set_size_inode.result (IsRefusedBy o)) (sym tests) (c.set_size_inode.ensures.refused runs)

pub returns-clause-changed : goal.returns-clause-changed
returns-clause-changed g c names path =
    let own = subst (λ (m : Mount g.row.P.Denot). LeadsTo (tree_of (g.P.Pmem.region m.memory) m.rows) names c.in_ok-inode.field-0.now.inode (node_of (g.P.Pmem.region m.memory) c.in_ok-inode.field-0.now)) c.self.view_is
    (c.in_ok-inode.ensures.row (g.P.Pmem.region c.self.inside.memory) names path) in
    subst (λ (t : Tree). OnOk c.set_size_inode.result (SameTree (tree_of (g.P.Pmem.region c.set_size_inode.new.self.memory) c.set_size_inode.new.self.rows) t))
    (sized_at (tree_of (g.P.Pmem.region c.args.self.now.memory) c.args.self.now.rows) names c.in_ok-inode.field-0.now.inode c.args.size c.args.time own.leads) c.set_size_inode.ensures.changed

pub returns-clause-log : goal.returns-clause-log
returns-clause-log g c names i node held h path led sound is =
    let own = subst (λ (m : Mount g.row.P.Denot). LeadsTo (tree_of (g.P.Pmem.region m.memory) m.rows) names c.in_ok-inode.field-0.now.inode (node_of (g.P.Pmem.region m.memory) c.in_ok-inode.field-0.now)) c.self.view_is
    (c.in_ok-inode.ensures.row (g.P.Pmem.region c.self.inside.memory) names path) in
    at_number own led (λ (k : ℕ). held k ≡ Some h → OnOk c.set_size_inode.result (ShowsResizedLog (g.P.Pmem.region c.set_size_inode.new.self.memory) c.args.self.now.layout c.args.self.now.free.pools c.args.cpu held k h node c.args.size c.args.time))
    (λ shows here. c.set_size_inode.ensures.log node held h shows sound here) is

pub returns-clause-call : goal.returns-clause-call
returns-clause-call g c =
    record {
      of_path = record {
        call = c.set_size_inode.ensures.call;
        bad_text = λ bad. absurd (let said = text_says c.args.path.now in let path = front_path (tree_of (g.P.Pmem.region c.self.inside.memory) c.self.inside.rows.items) c.args.path.now said.0 c.args.size said.1 (c.in_ok-inode.ensures.refused (g.P.Pmem.region c.self.inside.memory) said.0 said.1) in bad path.0 path.1);
      };
      settled = c.set_size_inode.ensures.settled;
    }

pub returns-clause-any_stop : goal.returns-clause-any_stop
returns-clause-any_stop g c names path on able =
    let own = subst (λ (m : Mount g.row.P.Denot). LeadsTo (tree_of (g.P.Pmem.region m.memory) m.rows) names c.in_ok-inode.field-0.now.inode (node_of (g.P.Pmem.region m.memory) c.in_ok-inode.field-0.now)) c.self.view_is
    (c.in_ok-inode.ensures.row (g.P.Pmem.region c.self.inside.memory) names path) in
    left_by (g.P.Pmem.region c.args.self.now.memory) (logs_inode_size c.args.cpu c.args.size c.args.time c.in_ok-inode.field-0.now.inode (g.P.Pmem.region c.args.self.now.memory) c.args.self.now) (logs_size c.args.cpu c.args.size c.args.time (g.P.Pmem.region c.args.self.now.memory) c.args.self.now names)
    (sized_at (tree_of (g.P.Pmem.region c.args.self.now.memory) c.args.self.now.rows) names c.in_ok-inode.field-0.now.inode c.args.size c.args.time own.leads)
    (λ T logs i node held h led sound is. at_number own led (λ (k : ℕ). held k ≡ Some h → ShowsResizedLog T c.args.self.now.layout c.args.self.now.free.pools c.args.cpu held k h node c.args.size c.args.time) (λ shows here. logs node held h shows sound here) is)
    (c.set_size_inode.ensures.any_stop on able)

pub returns-clause-wrote : goal.returns-clause-wrote
returns-clause-wrote g c names i node held path led sound =
    let own = subst (λ (m : Mount g.row.P.Denot). LeadsTo (tree_of (g.P.Pmem.region m.memory) m.rows) names c.in_ok-inode.field-0.now.inode (node_of (g.P.Pmem.region m.memory) c.in_ok-inode.field-0.now)) c.self.view_is
    (c.in_ok-inode.ensures.row (g.P.Pmem.region c.self.inside.memory) names path) in
    at_number own led (λ (k : ℕ). StoresIn c.args.self.now.layout held (one_log c.args.self.now.layout k) (g.P.Pmem.region c.args.self.now.memory) (g.P.Pmem.region c.set_size_inode.new.self.memory)) (λ shows. c.set_size_inode.ensures.wrote held sound)
