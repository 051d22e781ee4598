use Rattle.std.proofs.Common.{◌≡◌, ◌∙◌, [], ◌∷◌, Some, false, inr, ap, set, subst, sym, refl, is_none}
use Rattle.std.proofs.lemmas.Result.{err_from_is_err_and, IfOk-from_err}
use Rattle.nv_rows.proofs.TableNumbers.{numbers_kept}
use Rattle.nv_super.proofs.Members.{stands}
use Rattle.nv_tree.specs.declared.refusal.Refusal.{Refusal}
use Rattle.nv_tree.specs.declared.refusal.Refusal.TheVariants.{NotFound, Stopped}
use Rattle.nv_tree.specs.Refusals.{first_refusal, IsRefusedBy}
use Rattle.nv_tree.proofs.Replies.{refused_by}
use Rattle.nv_rows.specs.Rows.{IsInUse, place_in}
use Rattle.nv_rows.proofs.Places.{at_place, back_one, in_use}
use Rattle.nv_paths.specs.Seen.{tree_of}
use Rattle.nv_calls.specs.CleanCall.{LosesPage, clean_inode_tests}
use Rattle.nv_calls.specs.Mount.{Mount}
use Rattle.nv_calls.specs.World.{world_of}
use Rattle.nv_calls.proofs.Stopped.{settled_or_stopped, stays_mounted}
use Rattle.nv_calls.proofs.StoppedCleaning.{clean_left, left_by_number}
use Rattle.nv_calls.proofs.CleanCall.{inode_missing, inode_there, known_here, no_stop, number_told, step_refused, tree_stays}
use Rattle.nv_calls.proofs.CleanedMount.{kept_cleaned, log_cleaned, tree_cleaned}
use Rattle.nv_calls.proofs.CleanedRow.{end_inside, has_blocks, known_before_last, own_pages, right_log}
use Rattle.nv_calls.proofs.OneRow.{stands_right}
use Rattle.nv_calls.proofs.SetAttr.{kept_or_stopped, not_stop, unchanged_step}
use Rattle.nv_calls.proofs.TwoRows.{last_used}
use Rattle.nv_calls.proofs.Stores.{page_less_stores}
use Rattle.nv_calls.proofs.CallKept.{call_done, refused_first, refused_late, refused_later}
use Rattle.nv_calls.proofs.fs.Fs.clean_page.Goals as goal

pub lend-row-requires : goal.lend-row-requires
lend-row-requires g c = subst (λ (m : Mount g.row.P.Denot). IsInUse m.rows c.args.inode) (sym c.self.view_is) c.in_ok-in_use.ensures.found

pub give_back-requires : goal.give_back-requires
give_back-requires g c =
    last_used c.self.inside.rows.items c.lend-row.new.self.items c.args.inode c.clean_log-cleaned.new.row (in_use c.self.inside.rows.items c.args.inode c.lend-row.result c.lend-row.ensures.row) c.lend-row.ensures.lent (c.clean_log-cleaned.ensures.file.inode ∙ c.lend-row.ensures.number)

pub clean_log-cleaned-requires : goal.clean_log-cleaned-requires
clean_log-cleaned-requires g c =
    record {
      stands = (let runs : c.self.inside.stopped ≡ false = ap (λ (m : Mount g.row.P.Denot). m.stopped) c.self.view_is ∙ c.in_ok-cleanable.ensures.runs in
          let writes : c.self.inside.read_only ≡ false = ap (λ (m : Mount g.row.P.Denot). m.read_only) c.self.view_is ∙ c.in_ok-cleanable.ensures.writes in
          let rows = c.self.inside.rows.items in
          let inode = c.args.inode in
          let at = at_place rows inode ∙ c.lend-row.ensures.row in
          let there = stands rows (place_in rows inode) c.lend-row.result at in
          stands_right c.self.invariant.0 runs writes c.lend-row.result there);
      blocks = (let runs : c.self.inside.stopped ≡ false = ap (λ (m : Mount g.row.P.Denot). m.stopped) c.self.view_is ∙ c.in_ok-cleanable.ensures.runs in
          let writes : c.self.inside.read_only ≡ false = ap (λ (m : Mount g.row.P.Denot). m.read_only) c.self.view_is ∙ c.in_ok-cleanable.ensures.writes in
          has_blocks c.self.invariant.0 runs writes c.len-end.ensures.short);
      right = (let runs : c.self.inside.stopped ≡ false = ap (λ (m : Mount g.row.P.Denot). m.stopped) c.self.view_is ∙ c.in_ok-cleanable.ensures.runs in
          let writes : c.self.inside.read_only ≡ false = ap (λ (m : Mount g.row.P.Denot). m.read_only) c.self.view_is ∙ c.in_ok-cleanable.ensures.writes in
          let rows = c.self.inside.rows.items in
          let inode = c.args.inode in
          let at = at_place rows inode ∙ c.lend-row.ensures.row in
          let there = stands rows (place_in rows inode) c.lend-row.result at in
          right_log c.self.invariant.0 runs writes c.lend-row.result there);
      inside = (let runs : c.self.inside.stopped ≡ false = ap (λ (m : Mount g.row.P.Denot). m.stopped) c.self.view_is ∙ c.in_ok-cleanable.ensures.runs in
          let writes : c.self.inside.read_only ≡ false = ap (λ (m : Mount g.row.P.Denot). m.read_only) c.self.view_is ∙ c.in_ok-cleanable.ensures.writes in
          let rows = c.self.inside.rows.items in
          let inode = c.args.inode in
          let at = at_place rows inode ∙ c.lend-row.ensures.row in
          let there = stands rows (place_in rows inode) c.lend-row.result at in
          end_inside c.self.invariant.0 runs writes c.lend-row.result there);
      own = (let runs : c.self.inside.stopped ≡ false = ap (λ (m : Mount g.row.P.Denot). m.stopped) c.self.view_is ∙ c.in_ok-cleanable.ensures.runs in
          let writes : c.self.inside.read_only ≡ false = ap (λ (m : Mount g.row.P.Denot). m.read_only) c.self.view_is ∙ c.in_ok-cleanable.ensures.writes in
          let rows = c.self.inside.rows.items in
          let inode = c.args.inode in
          let at = at_place rows inode ∙ c.lend-row.ensures.row in
          let there = stands rows (place_in rows inode) c.lend-row.result at in
          own_pages c.self.invariant.0 runs writes c.lend-row.result there);
      before_last = (let runs : c.self.inside.stopped ≡ false = ap (λ (m : Mount g.row.P.Denot). m.stopped) c.self.view_is ∙ c.in_ok-cleanable.ensures.runs in
          let writes : c.self.inside.read_only ≡ false = ap (λ (m : Mount g.row.P.Denot). m.read_only) c.self.view_is ∙ c.in_ok-cleanable.ensures.writes in
          let rows = c.self.inside.rows.items in
          let inode = c.args.inode in
          let at = at_place rows inode ∙ c.lend-row.ensures.row in
          let there = stands rows (place_in rows inode) c.lend-row.result at in
          known_before_last c.self.invariant.0 runs writes c.lend-row.result there c.args.known (known_here g.P.Pmem.region c.self.view_is c.args.known c.lend-row.ensures.number c.requires));
    }

pub invariant_of-self : goal.invariant_of-self
invariant_of-self g c =
    let runs : c.self.inside.stopped ≡ false = ap (λ (m : Mount g.row.P.Denot). m.stopped) c.self.view_is ∙ c.in_ok-cleanable.ensures.runs in
    let writes : c.self.inside.read_only ≡ false = ap (λ (m : Mount g.row.P.Denot). m.read_only) c.self.view_is ∙ c.in_ok-cleanable.ensures.writes in
    let rows = c.self.inside.rows.items in
    let inode = c.args.inode in
    let at = at_place rows inode ∙ c.lend-row.ensures.row in
    let put = back_one rows c.lend-row.new.self.items c.give_back.new.self.items inode c.clean_log-cleaned.new.row c.lend-row.ensures.lent (c.clean_log-cleaned.ensures.file.inode ∙ c.lend-row.ensures.number) c.give_back.ensures.rows in
    (rw put (kept_cleaned c.self.invariant.0 runs writes (place_in rows inode) c.lend-row.result c.clean_log-cleaned.new.row at (g.P.Pmem.region c.clean_log-cleaned.new.memory) c.clean_log-cleaned.new.free c.in-Ok.block (λ held h shows. c.in-Ok.ensures.log held h shows (known_here g.P.Pmem.region c.self.view_is c.args.known c.lend-row.ensures.number c.requires held h shows.sound shows.holds)) c.clean_log-cleaned.ensures.kept.lists c.self.inside.stopped), numbers_kept (c.give_back.ensures.sup ∙ c.lend-row.ensures.sup) (c.give_back.ensures.sizes ∙ c.lend-row.ensures.sizes) c.self.invariant.1, λ on. c.in-Ok.ensures.settled (c.self.invariant.2 runs))

pub invariant_of-self-in-Err : goal.invariant_of-self-in-Err
invariant_of-self-in-Err g c =
    let runs : c.self.inside.stopped ≡ false = ap (λ (m : Mount g.row.P.Denot). m.stopped) c.self.view_is ∙ c.in_ok-cleanable.ensures.runs in
    let writes : c.self.inside.read_only ≡ false = ap (λ (m : Mount g.row.P.Denot). m.read_only) c.self.view_is ∙ c.in_ok-cleanable.ensures.writes in
    let rows = c.self.inside.rows.items in
    let inode = c.args.inode in
    let at = at_place rows inode ∙ c.lend-row.ensures.row in
    let put = back_one rows c.lend-row.new.self.items c.give_back.new.self.items inode c.clean_log-cleaned.new.row c.lend-row.ensures.lent (c.clean_log-cleaned.ensures.file.inode ∙ c.lend-row.ensures.number) c.give_back.ensures.rows in (
      rw put (kept_or_stopped g.P.Pmem.region c.self.invariant.0 runs writes (place_in rows inode) c.lend-row.result c.clean_log-cleaned.new.row at c.in-Err.refusal c.is_stop-self-inside.result c.is_stop-self-inside.ensures.yes c.is_stop-self-inside.ensures.no c.clean_log-cleaned.ensures.kept.lists c.in-Err.ensures.unchanged),
      numbers_kept (c.give_back.ensures.sup ∙ c.lend-row.ensures.sup) (c.give_back.ensures.sizes ∙ c.lend-row.ensures.sizes) c.self.invariant.1,
      settled_or_stopped g.P.Pmem.region g.P.Pmem.may_hold c.in-Err.refusal c.is_stop-self-inside.result c.is_stop-self-inside.ensures.no (λ off. (c.in-Err.ensures.unchanged off).memory) (c.self.invariant.2 runs),
    )

pub returns-in_err-cleanable-clause-refused : goal.returns-in_err-cleanable-clause-refused
returns-in_err-cleanable-clause-refused g c runs =
    let tree = tree_of (g.P.Pmem.region c.args.self.now.memory) c.args.self.now.rows in
    let w = err_from_is_err_and c.from_residual.result c.from_residual.ensures.1 in
    refused_by c.from_residual.result c.in_err-cleanable.field-0.0 w.0 (IsRefusedBy (first_refusal (clean_inode_tests (world_of c.args.self.now) tree c.args.inode))) w.1 w.2 (inr (inr (c.in_err-cleanable.ensures.refused runs ((is_none (tree c.args.inode), NotFound) ∷ []))))

pub returns-in_err-cleanable-clause-call : goal.returns-in_err-cleanable-clause-call
returns-in_err-cleanable-clause-call g c =
    let w = err_from_is_err_and c.from_residual.result c.from_residual.ensures.1 in
    refused_first g.P.Pmem.region g.P.Pmem.fuse c.args.self.now c.from_residual.result c.in_err-cleanable.field-0.0 w.0 w.1 w.2 c.in_err-cleanable.ensures.stopped
    (λ runs is. no_stop c.args.self.now.read_only (c.in_err-cleanable.ensures.refused runs [] ∙ ap (λ (e : Refusal). Some e) is))

pub returns-in_err-in_use-clause-refused : goal.returns-in_err-in_use-clause-refused
returns-in_err-in_use-clause-refused g c runs =
    let tree = tree_of (g.P.Pmem.region c.args.self.now.memory) c.args.self.now.rows in
    let writes : c.self.inside.read_only ≡ false = ap (λ (m : Mount g.row.P.Denot). m.read_only) c.self.view_is ∙ c.in_ok-cleanable.ensures.writes in
    let w = err_from_is_err_and c.from_residual-in_err-in_use.result c.from_residual-in_err-in_use.ensures.1 in
    let missing = inode_missing g.P.Pmem.region {n = c.args.self.now} {m = c.args.self.now} refl c.in_ok-cleanable.ensures.writes c.args.inode c.in_err-in_use.ensures.missing.1 in
    refused_by c.from_residual-in_err-in_use.result c.in_err-in_use.field-0.0 w.0 (IsRefusedBy (first_refusal (clean_inode_tests (world_of c.args.self.now) tree c.args.inode))) w.1 w.2
    (inr (inr (missing ∙ ap (λ (e : Refusal). Some e) (sym c.in_err-in_use.ensures.missing.0))))

pub returns-in_err-in_use-clause-call : goal.returns-in_err-in_use-clause-call
returns-in_err-in_use-clause-call g c =
    let w = err_from_is_err_and c.from_residual-in_err-in_use.result c.from_residual-in_err-in_use.ensures.1 in
    refused_later g.P.Pmem.region g.P.Pmem.fuse c.args.self.now c.from_residual-in_err-in_use.result c.in_err-in_use.field-0.0 w.0 w.1 w.2 c.in_ok-cleanable.ensures.runs
    (λ is. let clash : NotFound ≡ Stopped = sym c.in_err-in_use.ensures.missing.0 ∙ is in cc)

pub returns-in_err-cleanable-clause-allowed : goal.returns-in_err-cleanable-clause-allowed
returns-in_err-cleanable-clause-allowed g c = IfOk-from_err c.from_residual.result _ c.from_residual.ensures.0

pub returns-in_err-cleanable-clause-same_tree : goal.returns-in_err-cleanable-clause-same_tree
returns-in_err-cleanable-clause-same_tree g c = IfOk-from_err c.from_residual.result _ c.from_residual.ensures.0

pub returns-in_err-cleanable-clause-log : goal.returns-in_err-cleanable-clause-log
returns-in_err-cleanable-clause-log g c held h sound is = IfOk-from_err c.from_residual.result _ c.from_residual.ensures.0

pub returns-in_err-cleanable-clause-settled : goal.returns-in_err-cleanable-clause-settled
returns-in_err-cleanable-clause-settled g c = IfOk-from_err c.from_residual.result _ c.from_residual.ensures.0

pub returns-in_err-in_use-clause-allowed : goal.returns-in_err-in_use-clause-allowed
returns-in_err-in_use-clause-allowed g c = IfOk-from_err c.from_residual-in_err-in_use.result _ c.from_residual-in_err-in_use.ensures.0

pub returns-in_err-in_use-clause-same_tree : goal.returns-in_err-in_use-clause-same_tree
returns-in_err-in_use-clause-same_tree g c = IfOk-from_err c.from_residual-in_err-in_use.result _ c.from_residual-in_err-in_use.ensures.0

pub returns-in_err-in_use-clause-log : goal.returns-in_err-in_use-clause-log
returns-in_err-in_use-clause-log g c held h sound is = IfOk-from_err c.from_residual-in_err-in_use.result _ c.from_residual-in_err-in_use.ensures.0

pub returns-in_err-in_use-clause-settled : goal.returns-in_err-in_use-clause-settled
returns-in_err-in_use-clause-settled g c = IfOk-from_err c.from_residual-in_err-in_use.result _ c.from_residual-in_err-in_use.ensures.0

pub returns-in-Ok-clause-call : goal.returns-in-Ok-clause-call
returns-in-Ok-clause-call g c =
    let runs : c.self.inside.stopped ≡ false = ap (λ (m : Mount g.row.P.Denot). m.stopped) c.self.view_is ∙ c.in_ok-cleanable.ensures.runs in
    let writes : c.self.inside.read_only ≡ false = ap (λ (m : Mount g.row.P.Denot). m.read_only) c.self.view_is ∙ c.in_ok-cleanable.ensures.writes in
    call_done g.P.Pmem.region g.P.Pmem.fuse c.self.view_is c.clean_log-cleaned.new.memory c.give_back.new.self.items c.clean_log-cleaned.new.free runs writes _ _ c.in-Ok.ensures.kept

pub returns-in-Err-clause-call : goal.returns-in-Err-clause-call
returns-in-Err-clause-call g c =
    let runs : c.self.inside.stopped ≡ false = ap (λ (m : Mount g.row.P.Denot). m.stopped) c.self.view_is ∙ c.in_ok-cleanable.ensures.runs in
    let writes : c.self.inside.read_only ≡ false = ap (λ (m : Mount g.row.P.Denot). m.read_only) c.self.view_is ∙ c.in_ok-cleanable.ensures.writes in
    refused_late g.P.Pmem.region g.P.Pmem.fuse c.self.view_is c.clean_log-cleaned.new.memory c.give_back.new.self.items c.clean_log-cleaned.new.free runs writes c.in-Err.refusal c.is_stop-self-inside.result c.is_stop-self-inside.ensures.yes c.is_stop-self-inside.ensures.no c.in-Err.ensures.kept
    (λ off.
    let rows = c.self.inside.rows.items in
    let inode = c.args.inode in
    let at = at_place rows inode ∙ c.lend-row.ensures.row in
    let put = back_one rows c.lend-row.new.self.items c.give_back.new.self.items inode c.clean_log-cleaned.new.row c.lend-row.ensures.lent (c.clean_log-cleaned.ensures.file.inode ∙ c.lend-row.ensures.number) c.give_back.ensures.rows in
    rw put (unchanged_step c.self.view_is c.clean_log-cleaned.new.memory c.clean_log-cleaned.new.free (place_in rows inode) c.lend-row.result c.clean_log-cleaned.new.row c.is_stop-self-inside.result at runs (not_stop c.in-Err.refusal c.is_stop-self-inside.result c.is_stop-self-inside.ensures.yes off) (c.in-Err.ensures.unchanged off)))

pub returns-in-Ok-clause-allowed : goal.returns-in-Ok-clause-allowed
returns-in-Ok-clause-allowed g c =
    let writes : c.self.inside.read_only ≡ false = ap (λ (m : Mount g.row.P.Denot). m.read_only) c.self.view_is ∙ c.in_ok-cleanable.ensures.writes in
    inode_there g.P.Pmem.region c.self.view_is writes c.args.inode c.lend-row.result c.lend-row.ensures.row

pub returns-in-Ok-clause-same_tree : goal.returns-in-Ok-clause-same_tree
returns-in-Ok-clause-same_tree g c =
    let runs : c.self.inside.stopped ≡ false = ap (λ (m : Mount g.row.P.Denot). m.stopped) c.self.view_is ∙ c.in_ok-cleanable.ensures.runs in
    let writes : c.self.inside.read_only ≡ false = ap (λ (m : Mount g.row.P.Denot). m.read_only) c.self.view_is ∙ c.in_ok-cleanable.ensures.writes in
    let rows = c.self.inside.rows.items in
    let inode = c.args.inode in
    let at = at_place rows inode ∙ c.lend-row.ensures.row in
    let put = back_one rows c.lend-row.new.self.items c.give_back.new.self.items inode c.clean_log-cleaned.new.row c.lend-row.ensures.lent (c.clean_log-cleaned.ensures.file.inode ∙ c.lend-row.ensures.number) c.give_back.ensures.rows in
    rw put (tree_stays g.P.Pmem.region c.self.view_is (g.P.Pmem.region c.clean_log-cleaned.new.memory) (set c.self.inside.rows.items (place_in rows inode) c.clean_log-cleaned.new.row) (tree_cleaned c.self.invariant.0 runs writes (place_in rows inode) c.lend-row.result c.clean_log-cleaned.new.row at (g.P.Pmem.region c.clean_log-cleaned.new.memory) c.clean_log-cleaned.new.free c.in-Ok.block (λ held h shows. c.in-Ok.ensures.log held h shows (known_here g.P.Pmem.region c.self.view_is c.args.known c.lend-row.ensures.number c.requires held h shows.sound shows.holds)) c.clean_log-cleaned.ensures.file))

pub returns-in-Ok-clause-log : goal.returns-in-Ok-clause-log
returns-in-Ok-clause-log g c held h sound is =
    let runs : c.self.inside.stopped ≡ false = ap (λ (m : Mount g.row.P.Denot). m.stopped) c.self.view_is ∙ c.in_ok-cleanable.ensures.runs in
    let writes : c.self.inside.read_only ≡ false = ap (λ (m : Mount g.row.P.Denot). m.read_only) c.self.view_is ∙ c.in_ok-cleanable.ensures.writes in
    let rows = c.self.inside.rows.items in
    let inode = c.args.inode in
    let at = at_place rows inode ∙ c.lend-row.ensures.row in
    number_told g.P.Pmem.region c.self.view_is (g.P.Pmem.region c.clean_log-cleaned.new.memory) c.lend-row.result inode held h c.in-Ok.block c.lend-row.ensures.number
    (λ st k shown holds. log_cleaned c.self.invariant.0 runs writes (place_in rows inode) c.lend-row.result c.clean_log-cleaned.new.row at (g.P.Pmem.region c.clean_log-cleaned.new.memory) c.clean_log-cleaned.new.free c.in-Ok.block (λ first g' shows. c.in-Ok.ensures.log first g' shows (known_here g.P.Pmem.region c.self.view_is c.args.known c.lend-row.ensures.number c.requires first g' shows.sound shows.holds)) st k shown holds) sound is

pub returns-in-Ok-clause-refused : goal.returns-in-Ok-clause-refused
returns-in-Ok-clause-refused g c still = tt

pub returns-in-Ok-clause-settled : goal.returns-in-Ok-clause-settled
returns-in-Ok-clause-settled g c = c.in-Ok.ensures.settled (c.self.invariant.2 (ap (λ (m : Mount g.row.P.Denot). m.stopped) c.self.view_is ∙ c.in_ok-cleanable.ensures.runs))

pub returns-in-Err-clause-refused : goal.returns-in-Err-clause-refused
returns-in-Err-clause-refused g c still =
    let writes : c.self.inside.read_only ≡ false = ap (λ (m : Mount g.row.P.Denot). m.read_only) c.self.view_is ∙ c.in_ok-cleanable.ensures.writes in
    step_refused _ c.in-Err.refusal (inode_there g.P.Pmem.region c.self.view_is writes c.args.inode c.lend-row.result c.lend-row.ensures.row) c.in-Err.ensures.refused.why

pub returns-in-Err-clause-allowed : goal.returns-in-Err-clause-allowed
returns-in-Err-clause-allowed g c = tt

pub returns-in-Err-clause-same_tree : goal.returns-in-Err-clause-same_tree
returns-in-Err-clause-same_tree g c = tt

pub returns-in-Err-clause-log : goal.returns-in-Err-clause-log
returns-in-Err-clause-log g c held h sound is = tt

pub returns-in-Err-clause-settled : goal.returns-in-Err-clause-settled
returns-in-Err-clause-settled g c = tt

pub returns-in_err-cleanable-clause-any_stop : goal.returns-in_err-cleanable-clause-any_stop
returns-in_err-cleanable-clause-any_stop g c on able = stays_mounted c.in_err-cleanable.ensures.kept on able _ (tree_of (g.P.Pmem.region c.args.self.now.memory) c.args.self.now.rows) (LosesPage (g.P.Pmem.region c.args.self.now.memory) c.args.self.now.layout c.args.inode) (c.in_err-cleanable.ensures.settled on)

pub returns-in_err-in_use-clause-any_stop : goal.returns-in_err-in_use-clause-any_stop
returns-in_err-in_use-clause-any_stop g c on able = stays_mounted c.in_ok-cleanable.ensures.kept on able _ (tree_of (g.P.Pmem.region c.args.self.now.memory) c.args.self.now.rows) (LosesPage (g.P.Pmem.region c.args.self.now.memory) c.args.self.now.layout c.args.inode) (c.in_ok-cleanable.ensures.settled on)

pub returns-in-Ok-clause-any_stop : goal.returns-in-Ok-clause-any_stop
returns-in-Ok-clause-any_stop g c on able =
    let runs : c.self.inside.stopped ≡ false = ap (λ (m : Mount g.row.P.Denot). m.stopped) c.self.view_is ∙ c.in_ok-cleanable.ensures.runs in
    let writes : c.self.inside.read_only ≡ false = ap (λ (m : Mount g.row.P.Denot). m.read_only) c.self.view_is ∙ c.in_ok-cleanable.ensures.writes in
    let rows = c.self.inside.rows.items in
    let inode = c.args.inode in
    let at = at_place rows inode ∙ c.lend-row.ensures.row in
    left_by_number g.P.Pmem.region c.self.view_is (g.P.Pmem.region c.clean_log-cleaned.new.memory) (g.P.Pmem.may_hold c.clean_log-cleaned.new.memory) c.lend-row.ensures.number
    (clean_left c.self.invariant.0 runs writes (place_in rows inode) c.lend-row.result at _ _ _ (λ held h shows pending. c.clean_log-cleaned.ensures.any_stop held h shows (known_here g.P.Pmem.region c.self.view_is c.args.known c.lend-row.ensures.number c.requires held h shows.sound shows.holds) pending) (c.self.invariant.2 runs))

pub returns-in-Err-clause-any_stop : goal.returns-in-Err-clause-any_stop
returns-in-Err-clause-any_stop g c on able =
    let runs : c.self.inside.stopped ≡ false = ap (λ (m : Mount g.row.P.Denot). m.stopped) c.self.view_is ∙ c.in_ok-cleanable.ensures.runs in
    let writes : c.self.inside.read_only ≡ false = ap (λ (m : Mount g.row.P.Denot). m.read_only) c.self.view_is ∙ c.in_ok-cleanable.ensures.writes in
    let rows = c.self.inside.rows.items in
    let inode = c.args.inode in
    let at = at_place rows inode ∙ c.lend-row.ensures.row in
    left_by_number g.P.Pmem.region c.self.view_is (g.P.Pmem.region c.clean_log-cleaned.new.memory) (g.P.Pmem.may_hold c.clean_log-cleaned.new.memory) c.lend-row.ensures.number
    (clean_left c.self.invariant.0 runs writes (place_in rows inode) c.lend-row.result at _ _ _ (λ held h shows pending. c.clean_log-cleaned.ensures.any_stop held h shows (known_here g.P.Pmem.region c.self.view_is c.args.known c.lend-row.ensures.number c.requires held h shows.sound shows.holds) pending) (c.self.invariant.2 runs))

pub returns-in_err-cleanable-clause-wrote : goal.returns-in_err-cleanable-clause-wrote
returns-in_err-cleanable-clause-wrote g c held h o sound is first = λ at whole away. refl

pub returns-in_err-in_use-clause-wrote : goal.returns-in_err-in_use-clause-wrote
returns-in_err-in_use-clause-wrote g c held h o sound is first = λ at whole away. refl

pub returns-in-Ok-clause-wrote : goal.returns-in-Ok-clause-wrote
returns-in-Ok-clause-wrote g c held h o sound is first =
    page_less_stores g.P.Pmem.region c.self.view_is c.self.invariant.0 c.in_ok-cleanable.ensures.runs (g.P.Pmem.region c.clean_log-cleaned.new.memory) c.args.inode c.lend-row.result c.lend-row.ensures.row (λ st k p shows dead. c.clean_log-cleaned.ensures.wrote st k p shows (known_here g.P.Pmem.region c.self.view_is c.args.known c.lend-row.ensures.number c.requires st k shows.sound shows.holds) dead) held h o sound is first

pub returns-in-Err-clause-wrote : goal.returns-in-Err-clause-wrote
returns-in-Err-clause-wrote g c held h o sound is first =
    page_less_stores g.P.Pmem.region c.self.view_is c.self.invariant.0 c.in_ok-cleanable.ensures.runs (g.P.Pmem.region c.clean_log-cleaned.new.memory) c.args.inode c.lend-row.result c.lend-row.ensures.row (λ st k p shows dead. c.clean_log-cleaned.ensures.wrote st k p shows (known_here g.P.Pmem.region c.self.view_is c.args.known c.lend-row.ensures.number c.requires st k shows.sound shows.holds) dead) held h o sound is first
