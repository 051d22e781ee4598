use Rattle.std.proofs.Common.{◌≡◌, ◌∙◌, ◌<◌, ◌∷◌, [], Some, false, inr, ap, set, subst, sym, refl}
use Rattle.std.proofs.lemmas.Result.{err_from_is_err_and, IfOk-from_err}
use Rattle.nv_rows.specs.Rows.{IsInUse, place_in}
use Rattle.nv_rows.proofs.Places.{at_place, back_one, in_use}
use Rattle.nv_rows.proofs.TableNumbers.{numbers_kept}
use Rattle.nv_mounted.specs.Held.{Held, Store}
use Rattle.nv_super.proofs.Members.{stands}
use Rattle.nv_tree.specs.declared.refusal.Refusal.{Refusal}
use Rattle.nv_tree.specs.declared.refusal.Refusal.TheVariants.{NotFound, Stopped}
use Rattle.nv_tree.specs.Calls.{edit, with_attributes}
use Rattle.nv_tree.specs.Refusals.{first_refusal, has_no_space, IsRefusedBy}
use Rattle.nv_tree.proofs.Replies.{refused_by}
use Rattle.nv_steps.specs.Attributes.{attributes}
use Rattle.nv_steps.specs.Steps.{ShowsRow}
use Rattle.nv_paths.specs.Seen.{tree_of}
use Rattle.nv_calls.specs.ByNumber.{is_unused}
use Rattle.nv_calls.specs.ChangesByNumber.{attributes_inode_blocks, logs_inode_attributes, set_attr_inode_tests}
use Rattle.nv_calls.specs.Mount.{Mount}
use Rattle.nv_calls.specs.World.{world_of}
use Rattle.nv_calls.proofs.OneRow.{stands_right}
use Rattle.nv_calls.proofs.RowChange.{kept_after, log_grew, row_bytes, tree_after}
use Rattle.nv_calls.proofs.SetAttr.{attr_allowed, attr_logged, attr_refused, attributed_node, kept_or_stopped, not_stop, unchanged_step}
use Rattle.nv_calls.proofs.Numbered.{inode_changed, missing_refuses}
use Rattle.nv_calls.proofs.Stopped.{attributes_left, settled_or_stopped, stays_mounted}
use Rattle.nv_calls.proofs.Stores.{inode_stores}
use Rattle.nv_calls.proofs.Tests.{writing_goes_on}
use Rattle.nv_calls.proofs.TwoRows.{last_used}
use Rattle.nv_calls.proofs.Asked.{low_bits, low_pools}
use Rattle.nv_calls.proofs.CallKept.{call_done, refused_first, refused_late, refused_later}
use Rattle.nv_calls.proofs.fs.Fs.set_attr_inode.Goals as goal

pub lend-row-requires : goal.lend-row-requires
lend-row-requires g c = subst (λ (m : Mount g.row.P.Denot). IsInUse m.rows c.args.inode) (sym c.self.view_is) c.in_ok-in_use.ensures.found

pub give_back-requires : goal.give_back-requires
give_back-requires g c =
    last_used c.self.inside.rows.items c.lend-row.new.self.items c.args.inode c.change_attributes-changed.new.row (in_use c.self.inside.rows.items c.args.inode c.lend-row.result c.lend-row.ensures.row) c.lend-row.ensures.lent (c.change_attributes-changed.ensures.inode ∙ c.lend-row.ensures.number)

pub returns-in_err-writable-clause-refused : goal.returns-in_err-writable-clause-refused
returns-in_err-writable-clause-refused g c =
    rw (← c.cpu.view_is) (λ runs.
    let tree = tree_of (g.P.Pmem.region c.args.self.now.memory) c.args.self.now.rows in
    let count = attributes_inode_blocks c.args.self.now.rows c.args.inode in
    let w = err_from_is_err_and c.from_residual.result c.from_residual.ensures.1 in
    refused_by c.from_residual.result c.in_err-writable.field-0.0 w.0 (IsRefusedBy (first_refusal (set_attr_inode_tests (world_of c.args.self.now) tree c.cpu.inside.0 c.args.inode count))) w.1 w.2
    (inr (inr (c.in_err-writable.ensures.refused runs (is_unused tree c.args.inode ∷ has_no_space (world_of c.args.self.now) count ∷ []))))
    )

pub returns-in_err-writable-clause-call : goal.returns-in_err-writable-clause-call
returns-in_err-writable-clause-call g c =
    let w = err_from_is_err_and c.from_residual.result c.from_residual.ensures.1 in
    refused_first g.P.Pmem.region g.P.Pmem.fuse c.args.self.now c.from_residual.result c.in_err-writable.field-0.0 w.0 w.1 w.2 c.in_err-writable.ensures.stopped
    (λ runs is. writing_goes_on (world_of c.args.self.now) c.cpu.inside.0 (c.in_err-writable.ensures.refused runs [] ∙ ap (λ (e : Refusal). Some e) is))

pub returns-in_err-in_use-clause-refused : goal.returns-in_err-in_use-clause-refused
returns-in_err-in_use-clause-refused g c =
    rw (← c.cpu.view_is) (λ runs.
    let tree = tree_of (g.P.Pmem.region c.args.self.now.memory) c.args.self.now.rows in
    let count = attributes_inode_blocks c.args.self.now.rows c.args.inode in
    let w = err_from_is_err_and c.from_residual-in_err-in_use.result c.from_residual-in_err-in_use.ensures.1 in
    let why = c.in_err-in_use.ensures.missing in
    refused_by c.from_residual-in_err-in_use.result c.in_err-in_use.field-0.0 w.0 (IsRefusedBy (first_refusal (set_attr_inode_tests (world_of c.args.self.now) tree c.cpu.inside.0 c.args.inode count))) w.1 w.2
    (inr (inr (missing_refuses g.P.Pmem.region c.args.self.now c.cpu.inside.0 c.in_ok-writable.ensures.passed c.args.inode (has_no_space (world_of c.args.self.now) count ∷ []) c.in_err-in_use.field-0.0 why.0 why.1)))
    )

pub returns-in_err-in_use-clause-call : goal.returns-in_err-in_use-clause-call
returns-in_err-in_use-clause-call g c =
    let w = err_from_is_err_and c.from_residual-in_err-in_use.result c.from_residual-in_err-in_use.ensures.1 in
    refused_later g.P.Pmem.region g.P.Pmem.fuse c.args.self.now c.from_residual-in_err-in_use.result c.in_err-in_use.field-0.0 w.0 w.1 w.2 c.in_ok-writable.ensures.runs
    (λ is. let clash : NotFound ≡ Stopped = sym c.in_err-in_use.ensures.missing.0 ∙ is in cc)

pub invariant_of-self : goal.invariant_of-self
invariant_of-self g c =
    let runs : c.self.inside.stopped ≡ false = ap (λ (m : Mount g.row.P.Denot). m.stopped) c.self.view_is ∙ c.in_ok-writable.ensures.runs in
    let writes : c.self.inside.read_only ≡ false = ap (λ (m : Mount g.row.P.Denot). m.read_only) c.self.view_is ∙ c.in_ok-writable.ensures.writes in
    let rows = c.self.inside.rows.items in
    let inode = c.args.inode in
    let at = at_place rows inode ∙ c.lend-row.ensures.row in
    let put = back_one rows c.lend-row.new.self.items c.give_back.new.self.items inode c.change_attributes-changed.new.row c.lend-row.ensures.lent (c.change_attributes-changed.ensures.inode ∙ c.lend-row.ensures.number) c.give_back.ensures.rows in
    (rw put (kept_after c.self.invariant.0 runs writes (place_in rows inode) c.lend-row.result c.change_attributes-changed.new.row at (attributes c.lend-row.result.numbers.size c.args.mode c.args.owner c.args.group c.time.inside.0) (λ held h shows. c.in-Ok.ensures.log held h shows) c.change_attributes-changed.ensures.kept.lists c.self.inside.stopped), numbers_kept (c.give_back.ensures.sup ∙ c.lend-row.ensures.sup) (c.give_back.ensures.sizes ∙ c.lend-row.ensures.sizes) c.self.invariant.1, λ on. c.in-Ok.ensures.kept.settled)

pub invariant_of-self-in-Err : goal.invariant_of-self-in-Err
invariant_of-self-in-Err g c =
    let runs : c.self.inside.stopped ≡ false = ap (λ (m : Mount g.row.P.Denot). m.stopped) c.self.view_is ∙ c.in_ok-writable.ensures.runs in
    let writes : c.self.inside.read_only ≡ false = ap (λ (m : Mount g.row.P.Denot). m.read_only) c.self.view_is ∙ c.in_ok-writable.ensures.writes in
    let rows = c.self.inside.rows.items in
    let inode = c.args.inode in
    let at = at_place rows inode ∙ c.lend-row.ensures.row in
    let put = back_one rows c.lend-row.new.self.items c.give_back.new.self.items inode c.change_attributes-changed.new.row c.lend-row.ensures.lent (c.change_attributes-changed.ensures.inode ∙ c.lend-row.ensures.number) c.give_back.ensures.rows in (
      rw put (kept_or_stopped g.P.Pmem.region c.self.invariant.0 runs writes (place_in rows inode) c.lend-row.result c.change_attributes-changed.new.row at c.in-Err.refusal c.is_stop-self-inside.result c.is_stop-self-inside.ensures.yes c.is_stop-self-inside.ensures.no c.change_attributes-changed.ensures.kept.lists c.in-Err.ensures.unchanged),
      numbers_kept (c.give_back.ensures.sup ∙ c.lend-row.ensures.sup) (c.give_back.ensures.sizes ∙ c.lend-row.ensures.sizes) c.self.invariant.1,
      settled_or_stopped g.P.Pmem.region g.P.Pmem.may_hold c.in-Err.refusal c.is_stop-self-inside.result c.is_stop-self-inside.ensures.no (λ off. (c.in-Err.ensures.unchanged off).memory) (c.self.invariant.2 runs),
    )

pub change_attributes-changed-requires : goal.change_attributes-changed-requires
change_attributes-changed-requires g c =
    record {
      cpu_below = (let low : c.cpu.inside.0 < c.self.inside.tables.layout.sup.cpus = subst (λ (m : Mount g.row.P.Denot). c.cpu.inside.0 < m.sup.cpus) (sym c.self.view_is) c.in_ok-writable.ensures.cpu in
          low_pools c.self.invariant.0 c.cpu.inside.0 low);
      stands = (let runs : c.self.inside.stopped ≡ false = ap (λ (m : Mount g.row.P.Denot). m.stopped) c.self.view_is ∙ c.in_ok-writable.ensures.runs in
          let writes : c.self.inside.read_only ≡ false = ap (λ (m : Mount g.row.P.Denot). m.read_only) c.self.view_is ∙ c.in_ok-writable.ensures.writes in
          let rows = c.self.inside.rows.items in
          let inode = c.args.inode in
          let at = at_place rows inode ∙ c.lend-row.ensures.row in
          stands_right c.self.invariant.0 runs writes c.lend-row.result (stands c.self.inside.rows.items (place_in rows inode) c.lend-row.result at));
      given = ((low_bits c.args.mode), refl);
    }

pub returns-in-Ok-clause-allowed : goal.returns-in-Ok-clause-allowed
returns-in-Ok-clause-allowed g c =
    rw (← c.cpu.view_is)
    (attr_allowed g.P.Pmem.region c.self.view_is c.cpu.inside.0 c.in_ok-writable.ensures.passed c.args.inode c.lend-row.result c.lend-row.ensures.row c.in-Ok.ensures.needs.enough)

pub returns-in-Err-clause-refused : goal.returns-in-Err-clause-refused
returns-in-Err-clause-refused g c =
    rw (← c.cpu.view_is) (λ still.
    attr_refused g.P.Pmem.region c.self.view_is c.cpu.inside.0 c.in_ok-writable.ensures.passed c.args.inode c.lend-row.result c.lend-row.ensures.row c.in-Err.refusal c.in-Err.ensures.needs.refused
    )

pub returns-in-Ok-clause-changed : goal.returns-in-Ok-clause-changed
returns-in-Ok-clause-changed g c =
    rw (← c.time.view_is) (
    let runs : c.self.inside.stopped ≡ false = ap (λ (m : Mount g.row.P.Denot). m.stopped) c.self.view_is ∙ c.in_ok-writable.ensures.runs in
    let writes : c.self.inside.read_only ≡ false = ap (λ (m : Mount g.row.P.Denot). m.read_only) c.self.view_is ∙ c.in_ok-writable.ensures.writes in
    let rows = c.self.inside.rows.items in
    let inode = c.args.inode in
    let at = at_place rows inode ∙ c.lend-row.ensures.row in
    let follows = λ (held : Store) (h : Held) (shows : ShowsRow (g.P.Pmem.region c.self.inside.memory) c.self.inside.tables.layout held h c.lend-row.result c.self.inside.free). c.in-Ok.ensures.log held h shows in
    let has = c.in-Ok.ensures.row in
    let put = back_one rows c.lend-row.new.self.items c.give_back.new.self.items inode c.change_attributes-changed.new.row c.lend-row.ensures.lent (c.change_attributes-changed.ensures.inode ∙ c.lend-row.ensures.number) c.give_back.ensures.rows in
    rw put (inode_changed g.P.Pmem.region c.self.view_is (with_attributes c.args.mode c.args.owner c.args.group c.time.inside.0) (tree_of (g.P.Pmem.region c.change_attributes-changed.new.memory) (set c.self.inside.rows.items (place_in rows inode) c.change_attributes-changed.new.row)) c.lend-row.ensures.number
    (tree_after c.self.invariant.0 runs writes (place_in rows inode) c.lend-row.result c.change_attributes-changed.new.row at (attributes c.lend-row.result.numbers.size c.args.mode c.args.owner c.args.group c.time.inside.0) follows (with_attributes c.args.mode c.args.owner c.args.group c.time.inside.0) has.inode
    (attributed_node (g.P.Pmem.region c.self.inside.memory) (g.P.Pmem.region c.change_attributes-changed.new.memory) c.args.mode c.args.owner c.args.group c.time.inside.0 c.lend-row.result.numbers.size has
    (λ x. row_bytes c.self.invariant.0 runs writes (place_in rows inode) c.lend-row.result c.change_attributes-changed.new.row at (attributes c.lend-row.result.numbers.size c.args.mode c.args.owner c.args.group c.time.inside.0) follows c.lend-row.result (stands c.self.inside.rows.items (place_in rows inode) c.lend-row.result at) x))))
    )

pub returns-in-Ok-clause-log : goal.returns-in-Ok-clause-log
returns-in-Ok-clause-log g c =
    rw (← c.cpu.view_is, ← c.time.view_is) (
    let runs : c.self.inside.stopped ≡ false = ap (λ (m : Mount g.row.P.Denot). m.stopped) c.self.view_is ∙ c.in_ok-writable.ensures.runs in
    let writes : c.self.inside.read_only ≡ false = ap (λ (m : Mount g.row.P.Denot). m.read_only) c.self.view_is ∙ c.in_ok-writable.ensures.writes in
    let rows = c.self.inside.rows.items in
    let inode = c.args.inode in
    let at = at_place rows inode ∙ c.lend-row.ensures.row in
    attr_logged g.P.Pmem.region c.self.view_is (g.P.Pmem.region c.change_attributes-changed.new.memory) c.lend-row.result c.args.mode c.args.owner c.args.group c.time.inside.0 inode c.lend-row.ensures.row c.lend-row.ensures.number
    (λ st k shown holds. log_grew c.self.invariant.0 runs writes (place_in rows inode) c.lend-row.result c.change_attributes-changed.new.row at (attributes c.lend-row.result.numbers.size c.args.mode c.args.owner c.args.group c.time.inside.0) (λ first g' shows. c.in-Ok.ensures.log first g' shows) st k shown holds)
    )

pub returns-in-Ok-clause-call : goal.returns-in-Ok-clause-call
returns-in-Ok-clause-call g c =
    let runs : c.self.inside.stopped ≡ false = ap (λ (m : Mount g.row.P.Denot). m.stopped) c.self.view_is ∙ c.in_ok-writable.ensures.runs in
    let writes : c.self.inside.read_only ≡ false = ap (λ (m : Mount g.row.P.Denot). m.read_only) c.self.view_is ∙ c.in_ok-writable.ensures.writes in
    call_done g.P.Pmem.region g.P.Pmem.fuse c.self.view_is c.change_attributes-changed.new.memory c.give_back.new.self.items c.change_attributes-changed.new.free runs writes _ _ c.in-Ok.ensures.kept.keeps

pub returns-in-Err-clause-call : goal.returns-in-Err-clause-call
returns-in-Err-clause-call g c =
    let runs : c.self.inside.stopped ≡ false = ap (λ (m : Mount g.row.P.Denot). m.stopped) c.self.view_is ∙ c.in_ok-writable.ensures.runs in
    let writes : c.self.inside.read_only ≡ false = ap (λ (m : Mount g.row.P.Denot). m.read_only) c.self.view_is ∙ c.in_ok-writable.ensures.writes in
    refused_late g.P.Pmem.region g.P.Pmem.fuse c.self.view_is c.change_attributes-changed.new.memory c.give_back.new.self.items c.change_attributes-changed.new.free runs writes c.in-Err.refusal c.is_stop-self-inside.result c.is_stop-self-inside.ensures.yes c.is_stop-self-inside.ensures.no c.in-Err.ensures.kept.keeps
    (λ off.
    let rows = c.self.inside.rows.items in
    let inode = c.args.inode in
    let at = at_place rows inode ∙ c.lend-row.ensures.row in
    let put = back_one rows c.lend-row.new.self.items c.give_back.new.self.items inode c.change_attributes-changed.new.row c.lend-row.ensures.lent (c.change_attributes-changed.ensures.inode ∙ c.lend-row.ensures.number) c.give_back.ensures.rows in
    rw put (unchanged_step c.self.view_is c.change_attributes-changed.new.memory c.change_attributes-changed.new.free (place_in rows inode) c.lend-row.result c.change_attributes-changed.new.row c.is_stop-self-inside.result at runs (not_stop c.in-Err.refusal c.is_stop-self-inside.result c.is_stop-self-inside.ensures.yes off) (c.in-Err.ensures.unchanged off)))

pub returns-in-Ok-clause-settled : goal.returns-in-Ok-clause-settled
returns-in-Ok-clause-settled g c = c.in-Ok.ensures.kept.settled

pub returns-in_err-writable-clause-allowed : goal.returns-in_err-writable-clause-allowed
returns-in_err-writable-clause-allowed g c = IfOk-from_err c.from_residual.result _ c.from_residual.ensures.0

pub returns-in_err-writable-clause-changed : goal.returns-in_err-writable-clause-changed
returns-in_err-writable-clause-changed g c = IfOk-from_err c.from_residual.result _ c.from_residual.ensures.0

pub returns-in_err-writable-clause-log : goal.returns-in_err-writable-clause-log
returns-in_err-writable-clause-log g c node held h shows sound is = IfOk-from_err c.from_residual.result _ c.from_residual.ensures.0

pub returns-in_err-writable-clause-settled : goal.returns-in_err-writable-clause-settled
returns-in_err-writable-clause-settled g c = IfOk-from_err c.from_residual.result _ c.from_residual.ensures.0

pub returns-in_err-writable-clause-wrote : goal.returns-in_err-writable-clause-wrote
returns-in_err-writable-clause-wrote g c held sound = λ at whole away. refl

pub returns-in_err-writable-clause-any_stop : goal.returns-in_err-writable-clause-any_stop
returns-in_err-writable-clause-any_stop g c on able =
    stays_mounted c.in_err-writable.ensures.kept on able _ (edit c.args.inode (with_attributes c.args.mode c.args.owner c.args.group c.args.time) (tree_of (g.P.Pmem.region c.args.self.now.memory) c.args.self.now.rows)) (logs_inode_attributes c.args.cpu c.args.mode c.args.owner c.args.group c.args.time c.args.inode (g.P.Pmem.region c.args.self.now.memory) c.args.self.now) (c.in_err-writable.ensures.settled on)

pub returns-in_err-in_use-clause-allowed : goal.returns-in_err-in_use-clause-allowed
returns-in_err-in_use-clause-allowed g c = IfOk-from_err c.from_residual-in_err-in_use.result _ c.from_residual-in_err-in_use.ensures.0

pub returns-in_err-in_use-clause-changed : goal.returns-in_err-in_use-clause-changed
returns-in_err-in_use-clause-changed g c = IfOk-from_err c.from_residual-in_err-in_use.result _ c.from_residual-in_err-in_use.ensures.0

pub returns-in_err-in_use-clause-log : goal.returns-in_err-in_use-clause-log
returns-in_err-in_use-clause-log g c node held h shows sound is = IfOk-from_err c.from_residual-in_err-in_use.result _ c.from_residual-in_err-in_use.ensures.0

pub returns-in_err-in_use-clause-settled : goal.returns-in_err-in_use-clause-settled
returns-in_err-in_use-clause-settled g c = IfOk-from_err c.from_residual-in_err-in_use.result _ c.from_residual-in_err-in_use.ensures.0

pub returns-in_err-in_use-clause-wrote : goal.returns-in_err-in_use-clause-wrote
returns-in_err-in_use-clause-wrote g c held sound = λ at whole away. refl

pub returns-in_err-in_use-clause-any_stop : goal.returns-in_err-in_use-clause-any_stop
returns-in_err-in_use-clause-any_stop g c on able =
    stays_mounted c.in_ok-writable.ensures.kept on able _ (edit c.args.inode (with_attributes c.args.mode c.args.owner c.args.group c.args.time) (tree_of (g.P.Pmem.region c.args.self.now.memory) c.args.self.now.rows)) (logs_inode_attributes c.args.cpu c.args.mode c.args.owner c.args.group c.args.time c.args.inode (g.P.Pmem.region c.args.self.now.memory) c.args.self.now) (c.in_ok-writable.ensures.settled on)

pub returns-in-Ok-clause-refused : goal.returns-in-Ok-clause-refused
returns-in-Ok-clause-refused g c still = tt

pub returns-in-Err-clause-allowed : goal.returns-in-Err-clause-allowed
returns-in-Err-clause-allowed g c = tt

pub returns-in-Err-clause-changed : goal.returns-in-Err-clause-changed
returns-in-Err-clause-changed g c = tt

pub returns-in-Err-clause-log : goal.returns-in-Err-clause-log
returns-in-Err-clause-log g c node held h shows sound is = tt

pub returns-in-Err-clause-settled : goal.returns-in-Err-clause-settled
returns-in-Err-clause-settled g c = tt

pub returns-in-Ok-clause-any_stop : goal.returns-in-Ok-clause-any_stop
returns-in-Ok-clause-any_stop g c =
    rw (← c.cpu.view_is, ← c.time.view_is) (λ on able.
    let runs : c.self.inside.stopped ≡ false = ap (λ (m : Mount g.row.P.Denot). m.stopped) c.self.view_is ∙ c.in_ok-writable.ensures.runs in
    let writes : c.self.inside.read_only ≡ false = ap (λ (m : Mount g.row.P.Denot). m.read_only) c.self.view_is ∙ c.in_ok-writable.ensures.writes in
    let rows = c.self.inside.rows.items in
    let inode = c.args.inode in
    let at = at_place rows inode ∙ c.lend-row.ensures.row in
    attributes_left g.P.Pmem.region c.self.view_is c.self.invariant.0 runs writes (place_in rows inode) c.lend-row.result at c.cpu.inside.0 c.args.mode c.args.owner c.args.group c.time.inside.0 inode c.lend-row.ensures.row c.lend-row.ensures.number _ _ _
    (λ held h shows pending. c.change_attributes-changed.ensures.any_stop held h shows pending) (c.self.invariant.2 runs)
    )

pub returns-in-Ok-clause-wrote : goal.returns-in-Ok-clause-wrote
returns-in-Ok-clause-wrote g c held sound =
    inode_stores g.P.Pmem.region c.self.view_is c.self.invariant.0 c.in_ok-writable.ensures.runs (g.P.Pmem.region c.change_attributes-changed.new.memory) c.args.inode c.lend-row.result c.lend-row.ensures.row
    (λ st h shows. c.change_attributes-changed.ensures.wrote st h shows) held sound

pub returns-in-Err-clause-any_stop : goal.returns-in-Err-clause-any_stop
returns-in-Err-clause-any_stop g c =
    rw (← c.cpu.view_is, ← c.time.view_is) (λ on able.
    let runs : c.self.inside.stopped ≡ false = ap (λ (m : Mount g.row.P.Denot). m.stopped) c.self.view_is ∙ c.in_ok-writable.ensures.runs in
    let writes : c.self.inside.read_only ≡ false = ap (λ (m : Mount g.row.P.Denot). m.read_only) c.self.view_is ∙ c.in_ok-writable.ensures.writes in
    let rows = c.self.inside.rows.items in
    let inode = c.args.inode in
    let at = at_place rows inode ∙ c.lend-row.ensures.row in
    attributes_left g.P.Pmem.region c.self.view_is c.self.invariant.0 runs writes (place_in rows inode) c.lend-row.result at c.cpu.inside.0 c.args.mode c.args.owner c.args.group c.time.inside.0 inode c.lend-row.ensures.row c.lend-row.ensures.number _ _ _
    (λ held h shows pending. c.change_attributes-changed.ensures.any_stop held h shows pending) (c.self.invariant.2 runs)
    )

pub returns-in-Err-clause-wrote : goal.returns-in-Err-clause-wrote
returns-in-Err-clause-wrote g c held sound =
    inode_stores g.P.Pmem.region c.self.view_is c.self.invariant.0 c.in_ok-writable.ensures.runs (g.P.Pmem.region c.change_attributes-changed.new.memory) c.args.inode c.lend-row.result c.lend-row.ensures.row
    (λ st h shows. c.change_attributes-changed.ensures.wrote st h shows) held sound
