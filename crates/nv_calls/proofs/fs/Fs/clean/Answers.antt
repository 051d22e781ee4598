use Rattle.std.proofs.Common.{◌≡◌, ◌∙◌, [], ℕ, Some, false, inr, ap, subst, sym, refl, IfOk}
use Rattle.std.proofs.lemmas.Option.{same_Some}
use Rattle.std.proofs.lemmas.Result.{err_from_is_err_and, IfOk-from_err}
use Rattle.nv_tree.specs.declared.refusal.Refusal.{Refusal}
use Rattle.nv_tree.specs.Refusals.{clean_tests, first_refusal, stat_tests, IsRefusedBy}
use Rattle.nv_tree.proofs.Replies.{refused_by}
use Rattle.nv_tree.proofs.Texts.{text_says}
use Rattle.nv_paths.specs.Seen.{LeadsTo, node_of, tree_of}
use Rattle.nv_calls.specs.CleanCall.{ShowsCleaned}
use Rattle.nv_calls.specs.Effects.{logs_page_less, makes_no_change}
use Rattle.nv_calls.specs.Mount.{Mount}
use Rattle.nv_calls.specs.World.{world_of}
use Rattle.nv_calls.proofs.Stopped.{call_stays}
use Rattle.nv_calls.proofs.StoppedCleaning.{left_by_path}
use Rattle.nv_calls.proofs.TextPaths.{stat_path}
use Rattle.nv_calls.proofs.CleanCall.{no_stop, tests_said}
use Rattle.nv_calls.proofs.RowChange.{same_mount}
use Rattle.nv_calls.proofs.Tests.{stat_goes_on}
use Rattle.nv_calls.proofs.Stores.{page_less_by_path}
use Rattle.nv_calls.proofs.CallKept.{refused_first, refused_later}
use Rattle.nv_calls.proofs.fs.Fs.clean.Goals as goal

pub returns-in_err-cleanable-clause-refused : goal.returns-in_err-cleanable-clause-refused
returns-in_err-cleanable-clause-refused g c runs p says =
    let tree = tree_of (g.P.Pmem.region c.args.self.now.memory) c.args.self.now.rows in
    let w = err_from_is_err_and c.from_residual.result c.from_residual.ensures.1 in
    refused_by c.from_residual.result c.in_err-cleanable.field-0.0 w.0 (IsRefusedBy (first_refusal (clean_tests (world_of c.args.self.now) tree p))) w.1 w.2 (inr (inr (c.in_err-cleanable.ensures.refused runs (stat_tests tree p))))

pub returns-in_err-cleanable-clause-call : goal.returns-in_err-cleanable-clause-call
returns-in_err-cleanable-clause-call g c =
    let w = err_from_is_err_and c.from_residual.result c.from_residual.ensures.1 in
    record {
      of_path = record {
        call = refused_first g.P.Pmem.region g.P.Pmem.fuse c.args.self.now c.from_residual.result c.in_err-cleanable.field-0.0 w.0 w.1 w.2 c.in_err-cleanable.ensures.stopped
            (λ runs is. no_stop c.args.self.now.read_only (c.in_err-cleanable.ensures.refused runs [] ∙ ap (λ (e : Refusal). Some e) is));
        bad_text = λ bad. same_mount c.args.self.now;
      };
      settled = IfOk-from_err c.from_residual.result _ c.from_residual.ensures.0;
    }

pub returns-in_err-inode-clause-refused : goal.returns-in_err-inode-clause-refused
returns-in_err-inode-clause-refused g c runs p says =
    let tree = tree_of (g.P.Pmem.region c.args.self.now.memory) c.args.self.now.rows in
    let writes : c.self.inside.read_only ≡ false = ap (λ (m : Mount g.row.P.Denot). m.read_only) c.self.view_is ∙ c.in_ok-cleanable.ensures.writes in
    let w = err_from_is_err_and c.from_residual-in_err-inode.result c.from_residual-in_err-inode.ensures.1 in
    let told = c.in_err-inode.ensures.refused (g.P.Pmem.region c.self.inside.memory) p says in
    refused_by c.from_residual-in_err-inode.result c.in_err-inode.field-0.0 w.0 (IsRefusedBy (first_refusal (clean_tests (world_of c.args.self.now) tree p))) w.1 w.2 (inr (inr (tests_said g.P.Pmem.region c.self.view_is writes p (Some c.in_err-inode.field-0.0) told)))

pub returns-in_err-inode-clause-call : goal.returns-in_err-inode-clause-call
returns-in_err-inode-clause-call g c =
    let w = err_from_is_err_and c.from_residual-in_err-inode.result c.from_residual-in_err-inode.ensures.1 in
    let said = text_says c.args.path.now in
    let told = c.in_err-inode.ensures.refused (g.P.Pmem.region c.self.inside.memory) said.0 said.1 in
    record {
      of_path = record {
        call = refused_later g.P.Pmem.region g.P.Pmem.fuse c.args.self.now c.from_residual-in_err-inode.result c.in_err-inode.field-0.0 w.0 w.1 w.2 c.in_ok-cleanable.ensures.runs
            (λ is. stat_goes_on (tree_of (g.P.Pmem.region c.self.inside.memory) c.self.inside.rows.items) said.0 (told ∙ ap (λ (e : Refusal). Some e) is));
        bad_text = λ bad. same_mount c.args.self.now;
      };
      settled = IfOk-from_err c.from_residual-in_err-inode.result _ c.from_residual-in_err-inode.ensures.0;
    }

pub returns-in_err-cleanable-clause-allowed : goal.returns-in_err-cleanable-clause-allowed
returns-in_err-cleanable-clause-allowed g c p says = IfOk-from_err c.from_residual.result _ c.from_residual.ensures.0

pub returns-in_err-cleanable-clause-same_tree : goal.returns-in_err-cleanable-clause-same_tree
returns-in_err-cleanable-clause-same_tree g c = IfOk-from_err c.from_residual.result _ c.from_residual.ensures.0

pub returns-in_err-cleanable-clause-log : goal.returns-in_err-cleanable-clause-log
returns-in_err-cleanable-clause-log g c names i node held h path led sound is = IfOk-from_err c.from_residual.result _ c.from_residual.ensures.0

pub returns-in_err-inode-clause-allowed : goal.returns-in_err-inode-clause-allowed
returns-in_err-inode-clause-allowed g c p says = IfOk-from_err c.from_residual-in_err-inode.result _ c.from_residual-in_err-inode.ensures.0

pub returns-in_err-inode-clause-same_tree : goal.returns-in_err-inode-clause-same_tree
returns-in_err-inode-clause-same_tree g c = IfOk-from_err c.from_residual-in_err-inode.result _ c.from_residual-in_err-inode.ensures.0

pub returns-in_err-inode-clause-log : goal.returns-in_err-inode-clause-log
returns-in_err-inode-clause-log g c names i node held h path led sound is = IfOk-from_err c.from_residual-in_err-inode.result _ c.from_residual-in_err-inode.ensures.0

pub returns-in_err-cleanable-clause-any_stop : goal.returns-in_err-cleanable-clause-any_stop
returns-in_err-cleanable-clause-any_stop g c names path on able = call_stays g.P.Pmem.region c.args.self.now makes_no_change logs_page_less names c.in_err-cleanable.ensures.kept on able _ (c.in_err-cleanable.ensures.settled on)

pub returns-in_err-inode-clause-any_stop : goal.returns-in_err-inode-clause-any_stop
returns-in_err-inode-clause-any_stop g c names path on able = call_stays g.P.Pmem.region c.args.self.now makes_no_change logs_page_less names c.in_ok-cleanable.ensures.kept on able _ (c.in_ok-cleanable.ensures.settled on)

pub returns-clause-log : goal.returns-clause-log
returns-clause-log g c names i node held h path led sound is =
    let own = subst (λ (m : Mount g.row.P.Denot). LeadsTo (tree_of (g.P.Pmem.region m.memory) m.rows) names c.in_ok-inode.field-0.now.inode (node_of (g.P.Pmem.region m.memory) c.in_ok-inode.field-0.now)) c.self.view_is
    (c.in_ok-inode.ensures.row (g.P.Pmem.region c.self.inside.memory) names path) in
    subst (λ (k : ℕ). held k ≡ Some h → IfOk c.clean_inode.result (ShowsCleaned (g.P.Pmem.region c.args.self.now.memory) (g.P.Pmem.region c.clean_inode.new.self.memory) c.args.self.now.layout held k h)) (same_Some _ _ (sym own.leads ∙ led.leads))
    (c.clean_inode.ensures.log held h sound) is

pub returns-clause-call : goal.returns-clause-call
returns-clause-call g c =
    record {
      of_path = record {
        call = c.clean_inode.ensures.call;
        bad_text = λ bad. absurd (let said = text_says c.args.path.now in let path = stat_path (tree_of (g.P.Pmem.region c.self.inside.memory) c.self.inside.rows.items) c.args.path.now said.0 said.1 (c.in_ok-inode.ensures.refused (g.P.Pmem.region c.self.inside.memory) said.0 said.1) in bad path.0 path.1);
      };
      settled = c.clean_inode.ensures.settled;
    }

pub returns-clause-any_stop : goal.returns-clause-any_stop
returns-clause-any_stop g c names path on able =
    let own = subst (λ (m : Mount g.row.P.Denot). LeadsTo (tree_of (g.P.Pmem.region m.memory) m.rows) names c.in_ok-inode.field-0.now.inode (node_of (g.P.Pmem.region m.memory) c.in_ok-inode.field-0.now)) c.self.view_is
    (c.in_ok-inode.ensures.row (g.P.Pmem.region c.self.inside.memory) names path) in
    left_by_path names c.in_ok-inode.field-0.now.inode (node_of (g.P.Pmem.region c.args.self.now.memory) c.in_ok-inode.field-0.now) own (c.clean_inode.ensures.any_stop on able)

pub returns-in_err-cleanable-clause-wrote : goal.returns-in_err-cleanable-clause-wrote
returns-in_err-cleanable-clause-wrote g c names i node held h o path led sound is first = λ at whole away. refl

pub returns-in_err-inode-clause-wrote : goal.returns-in_err-inode-clause-wrote
returns-in_err-inode-clause-wrote g c names i node held h o path led sound is first = λ at whole away. refl

pub returns-clause-wrote : goal.returns-clause-wrote
returns-clause-wrote g c names i node held h o path led sound is first =
    let own = subst (λ (m : Mount g.row.P.Denot). LeadsTo (tree_of (g.P.Pmem.region m.memory) m.rows) names c.in_ok-inode.field-0.now.inode (node_of (g.P.Pmem.region m.memory) c.in_ok-inode.field-0.now)) c.self.view_is
    (c.in_ok-inode.ensures.row (g.P.Pmem.region c.self.inside.memory) names path) in
    page_less_by_path (g.P.Pmem.region c.args.self.now.memory) (g.P.Pmem.region c.clean_inode.new.self.memory) c.args.self.now.layout c.args.self.now.rows names c.in_ok-inode.field-0.now.inode (node_of (g.P.Pmem.region c.args.self.now.memory) c.in_ok-inode.field-0.now) own (λ st k p there known dead. c.clean_inode.ensures.wrote st k p there known dead) i node held h o led sound is first
