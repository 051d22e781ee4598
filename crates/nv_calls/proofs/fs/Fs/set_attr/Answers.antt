use Rattle.std.proofs.Common.{◌≡◌, ◌∙◌, ◌++◌, ◌∷◌, [], ℕ, Option, Some, None, inr, ap, subst, sym, refl, IfErr, OnOk}
use Rattle.std.proofs.lemmas.Result.{err_from_is_err_and, IfOk-from_err}
use Rattle.nv_tree.specs.declared.refusal.Refusal.{Refusal}
use Rattle.nv_tree.specs.Tree.{SameTree, Tree}
use Rattle.nv_tree.specs.Refusals.{first_refusal, has_no_space, is_bad, is_missing, set_attr_tests, walk_tests, IsRefusedBy}
use Rattle.nv_tree.proofs.Replies.{refused_by}
use Rattle.nv_tree.proofs.Texts.{text_says}
use Rattle.nv_steps.specs.Attributes.{attributes}
use Rattle.nv_steps.specs.Stores.{StoresIn, one_log}
use Rattle.nv_paths.specs.Seen.{LeadsTo, node_of, tree_of}
use Rattle.nv_calls.specs.AttributesCall.{attributes_blocks}
use Rattle.nv_calls.specs.ChangesByNumber.{logs_inode_attributes}
use Rattle.nv_calls.specs.Effects.{logs_attributes, makes_attributes}
use Rattle.nv_calls.specs.GrownLogs.{ShowsGrownLog}
use Rattle.nv_calls.specs.Mount.{Mount}
use Rattle.nv_calls.specs.World.{world_of}
use Rattle.nv_calls.proofs.ByPath.{at_number, attr_by_path, attributed_at, left_by}
use Rattle.nv_calls.proofs.Kept.{refused_as}
use Rattle.nv_calls.proofs.RowChange.{same_mount}
use Rattle.nv_calls.proofs.Stopped.{call_stays}
use Rattle.nv_calls.proofs.Tests.{stat_goes_on, stat_refuses, writing_goes_on}
use Rattle.nv_calls.proofs.TextPaths.{stat_path}
use Rattle.nv_calls.proofs.CallKept.{refused_first, refused_later}
use Rattle.nv_calls.proofs.fs.Fs.set_attr.Goals as goal

pub returns-in_err-writable-clause-refused : goal.returns-in_err-writable-clause-refused
returns-in_err-writable-clause-refused g c =
    rw (← c.cpu.view_is) (λ runs p says.
    let tree = tree_of (g.P.Pmem.region c.args.self.now.memory) c.args.self.now.rows in
    let count = attributes_blocks c.args.self.now.rows tree p in
    let w = err_from_is_err_and c.from_residual.result c.from_residual.ensures.1 in
    refused_by c.from_residual.result c.in_err-writable.field-0.0 w.0 (IsRefusedBy (first_refusal (set_attr_tests (world_of c.args.self.now) tree c.cpu.inside.0 p count))) w.1 w.2
    (inr (inr (c.in_err-writable.ensures.refused runs (is_bad p ∷ walk_tests tree p ++ is_missing tree p ∷ has_no_space (world_of c.args.self.now) count ∷ []))))
    )

pub returns-in_err-writable-clause-call : goal.returns-in_err-writable-clause-call
returns-in_err-writable-clause-call g c =
    let w = err_from_is_err_and c.from_residual.result c.from_residual.ensures.1 in
    record {
      of_path = record {
        call = refused_first g.P.Pmem.region g.P.Pmem.fuse c.args.self.now c.from_residual.result c.in_err-writable.field-0.0 w.0 w.1 w.2 c.in_err-writable.ensures.stopped
            (λ runs is. writing_goes_on (world_of c.args.self.now) c.cpu.inside.0 (c.in_err-writable.ensures.refused runs [] ∙ ap (λ (e : Refusal). Some e) is));
        bad_text = λ bad. same_mount c.args.self.now;
      };
      settled = IfOk-from_err c.from_residual.result _ c.from_residual.ensures.0;
    }

pub returns-in_err-inode-clause-refused : goal.returns-in_err-inode-clause-refused
returns-in_err-inode-clause-refused g c =
    rw (← c.cpu.view_is) (λ runs p says.
    let tree = tree_of (g.P.Pmem.region c.args.self.now.memory) c.args.self.now.rows in
    let count = attributes_blocks c.args.self.now.rows tree p in
    let w = err_from_is_err_and c.from_residual-in_err-inode.result c.from_residual-in_err-inode.ensures.1 in
    let told = c.in_err-inode.ensures.refused (g.P.Pmem.region c.self.inside.memory) p says in
    let refused = refused_as g.P.Pmem.region p (Some c.in_err-inode.field-0.0) c.self.view_is told in
    refused_by c.from_residual-in_err-inode.result c.in_err-inode.field-0.0 w.0 (IsRefusedBy (first_refusal (set_attr_tests (world_of c.args.self.now) tree c.cpu.inside.0 p count))) w.1 w.2
    (inr (inr (stat_refuses (world_of c.args.self.now) tree c.cpu.inside.0 c.in_ok-writable.ensures.passed p (has_no_space (world_of c.args.self.now) count ∷ []) c.in_err-inode.field-0.0 refused)))
    )

pub returns-in_err-inode-clause-call : goal.returns-in_err-inode-clause-call
returns-in_err-inode-clause-call g c =
    let w = err_from_is_err_and c.from_residual-in_err-inode.result c.from_residual-in_err-inode.ensures.1 in
    let said = text_says c.args.path.now in
    let told = c.in_err-inode.ensures.refused (g.P.Pmem.region c.self.inside.memory) said.0 said.1 in
    record {
      of_path = record {
        call = refused_later g.P.Pmem.region g.P.Pmem.fuse c.args.self.now c.from_residual-in_err-inode.result c.in_err-inode.field-0.0 w.0 w.1 w.2 c.in_ok-writable.ensures.runs
            (λ is. stat_goes_on (tree_of (g.P.Pmem.region c.self.inside.memory) c.self.inside.rows.items) said.0 (told ∙ ap (λ (e : Refusal). Some e) is));
        bad_text = λ bad. same_mount c.args.self.now;
      };
      settled = IfOk-from_err c.from_residual-in_err-inode.result _ c.from_residual-in_err-inode.ensures.0;
    }

pub returns-in_err-writable-clause-allowed : goal.returns-in_err-writable-clause-allowed
returns-in_err-writable-clause-allowed g c p says = IfOk-from_err c.from_residual.result _ c.from_residual.ensures.0

pub returns-in_err-writable-clause-changed : goal.returns-in_err-writable-clause-changed
returns-in_err-writable-clause-changed g c names path = IfOk-from_err c.from_residual.result _ c.from_residual.ensures.0

pub returns-in_err-writable-clause-log : goal.returns-in_err-writable-clause-log
returns-in_err-writable-clause-log g c names i node held h path led sound is = IfOk-from_err c.from_residual.result _ c.from_residual.ensures.0

pub returns-in_err-inode-clause-allowed : goal.returns-in_err-inode-clause-allowed
returns-in_err-inode-clause-allowed g c p says = IfOk-from_err c.from_residual-in_err-inode.result _ c.from_residual-in_err-inode.ensures.0

pub returns-in_err-inode-clause-changed : goal.returns-in_err-inode-clause-changed
returns-in_err-inode-clause-changed g c names path = IfOk-from_err c.from_residual-in_err-inode.result _ c.from_residual-in_err-inode.ensures.0

pub returns-in_err-inode-clause-log : goal.returns-in_err-inode-clause-log
returns-in_err-inode-clause-log g c names i node held h path led sound is = IfOk-from_err c.from_residual-in_err-inode.result _ c.from_residual-in_err-inode.ensures.0

pub returns-in_err-writable-clause-any_stop : goal.returns-in_err-writable-clause-any_stop
returns-in_err-writable-clause-any_stop g c names path on able = call_stays g.P.Pmem.region c.args.self.now (makes_attributes c.args.mode c.args.owner c.args.group c.args.time) (logs_attributes c.args.cpu c.args.mode c.args.owner c.args.group c.args.time) names c.in_err-writable.ensures.kept on able _ (c.in_err-writable.ensures.settled on)

pub returns-in_err-inode-clause-any_stop : goal.returns-in_err-inode-clause-any_stop
returns-in_err-inode-clause-any_stop g c names path on able = call_stays g.P.Pmem.region c.args.self.now (makes_attributes c.args.mode c.args.owner c.args.group c.args.time) (logs_attributes c.args.cpu c.args.mode c.args.owner c.args.group c.args.time) names c.in_ok-writable.ensures.kept on able _ (c.in_ok-writable.ensures.settled on)

pub returns-in_err-writable-clause-wrote : goal.returns-in_err-writable-clause-wrote
returns-in_err-writable-clause-wrote g c names i node held path led sound = λ at whole away. refl

pub returns-in_err-inode-clause-wrote : goal.returns-in_err-inode-clause-wrote
returns-in_err-inode-clause-wrote g c names i node held path led sound = λ at whole away. refl

pub returns-clause-allowed : goal.returns-clause-allowed
returns-clause-allowed g c p says =
    let tests = attr_by_path g.P.Pmem.region c.self.view_is c.args.cpu (rw c.cpu.view_is at c.in_ok-writable.ensures.passed) p c.args.path.now c.in_ok-inode.field-0.now (c.in_ok-inode.ensures.row (g.P.Pmem.region c.self.inside.memory)) says (c.in_ok-inode.ensures.refused (g.P.Pmem.region c.self.inside.memory) p says) in
    subst (λ (o : Option Refusal). OnOk c.set_attr_inode.result (o ≡ None)) (sym tests) c.set_attr_inode.ensures.allowed

pub returns-clause-refused : goal.returns-clause-refused
returns-clause-refused g c runs p says =
    let tests = attr_by_path g.P.Pmem.region c.self.view_is c.args.cpu (rw c.cpu.view_is at c.in_ok-writable.ensures.passed) p c.args.path.now c.in_ok-inode.field-0.now (c.in_ok-inode.ensures.row (g.P.Pmem.region c.self.inside.memory)) says (c.in_ok-inode.ensures.refused (g.P.Pmem.region c.self.inside.memory) p says) in
    subst (λ (o : Option Refusal). IfErr c.set_attr_inode.result (IsRefusedBy o)) (sym tests) (c.set_attr_inode.ensures.refused runs)

pub returns-clause-changed : goal.returns-clause-changed
returns-clause-changed g c names path =
    let own = subst (λ (m : Mount g.row.P.Denot). LeadsTo (tree_of (g.P.Pmem.region m.memory) m.rows) names c.in_ok-inode.field-0.now.inode (node_of (g.P.Pmem.region m.memory) c.in_ok-inode.field-0.now)) c.self.view_is
    (c.in_ok-inode.ensures.row (g.P.Pmem.region c.self.inside.memory) names path) in
    subst (λ (t : Tree). OnOk c.set_attr_inode.result (SameTree (tree_of (g.P.Pmem.region c.set_attr_inode.new.self.memory) c.set_attr_inode.new.self.rows) t))
    (attributed_at (tree_of (g.P.Pmem.region c.args.self.now.memory) c.args.self.now.rows) names c.in_ok-inode.field-0.now.inode c.args.mode c.args.owner c.args.group c.args.time own.leads) c.set_attr_inode.ensures.changed

pub returns-clause-log : goal.returns-clause-log
returns-clause-log g c names i node held h path led sound is =
    let own = subst (λ (m : Mount g.row.P.Denot). LeadsTo (tree_of (g.P.Pmem.region m.memory) m.rows) names c.in_ok-inode.field-0.now.inode (node_of (g.P.Pmem.region m.memory) c.in_ok-inode.field-0.now)) c.self.view_is
    (c.in_ok-inode.ensures.row (g.P.Pmem.region c.self.inside.memory) names path) in
    at_number own led (λ (k : ℕ). held k ≡ Some h → OnOk c.set_attr_inode.result (ShowsGrownLog (g.P.Pmem.region c.set_attr_inode.new.self.memory) c.args.self.now.layout c.args.self.now.free.pools c.args.cpu held k h (attributes node.size c.args.mode c.args.owner c.args.group c.args.time)))
    (λ shows here. c.set_attr_inode.ensures.log node held h shows sound here) is

pub returns-clause-call : goal.returns-clause-call
returns-clause-call g c =
    record {
      of_path = record {
        call = c.set_attr_inode.ensures.call;
        bad_text = λ bad. absurd (let said = text_says c.args.path.now in let path = stat_path (tree_of (g.P.Pmem.region c.self.inside.memory) c.self.inside.rows.items) c.args.path.now said.0 said.1 (c.in_ok-inode.ensures.refused (g.P.Pmem.region c.self.inside.memory) said.0 said.1) in bad path.0 path.1);
      };
      settled = c.set_attr_inode.ensures.settled;
    }

pub returns-clause-any_stop : goal.returns-clause-any_stop
returns-clause-any_stop g c names path on able =
    let own = subst (λ (m : Mount g.row.P.Denot). LeadsTo (tree_of (g.P.Pmem.region m.memory) m.rows) names c.in_ok-inode.field-0.now.inode (node_of (g.P.Pmem.region m.memory) c.in_ok-inode.field-0.now)) c.self.view_is
    (c.in_ok-inode.ensures.row (g.P.Pmem.region c.self.inside.memory) names path) in
    left_by (g.P.Pmem.region c.args.self.now.memory) (logs_inode_attributes c.args.cpu c.args.mode c.args.owner c.args.group c.args.time c.in_ok-inode.field-0.now.inode (g.P.Pmem.region c.args.self.now.memory) c.args.self.now) (logs_attributes c.args.cpu c.args.mode c.args.owner c.args.group c.args.time (g.P.Pmem.region c.args.self.now.memory) c.args.self.now names)
    (attributed_at (tree_of (g.P.Pmem.region c.args.self.now.memory) c.args.self.now.rows) names c.in_ok-inode.field-0.now.inode c.args.mode c.args.owner c.args.group c.args.time own.leads)
    (λ T logs i node held h led sound is. at_number own led (λ (k : ℕ). held k ≡ Some h → ShowsGrownLog T c.args.self.now.layout c.args.self.now.free.pools c.args.cpu held k h (attributes node.size c.args.mode c.args.owner c.args.group c.args.time)) (λ shows here. logs node held h shows sound here) is)
    (c.set_attr_inode.ensures.any_stop on able)

pub returns-clause-wrote : goal.returns-clause-wrote
returns-clause-wrote g c names i node held path led sound =
    let own = subst (λ (m : Mount g.row.P.Denot). LeadsTo (tree_of (g.P.Pmem.region m.memory) m.rows) names c.in_ok-inode.field-0.now.inode (node_of (g.P.Pmem.region m.memory) c.in_ok-inode.field-0.now)) c.self.view_is
    (c.in_ok-inode.ensures.row (g.P.Pmem.region c.self.inside.memory) names path) in
    at_number own led (λ (k : ℕ). StoresIn c.args.self.now.layout held (one_log c.args.self.now.layout k) (g.P.Pmem.region c.args.self.now.memory) (g.P.Pmem.region c.set_attr_inode.new.self.memory)) (λ shows. c.set_attr_inode.ensures.wrote held sound)
