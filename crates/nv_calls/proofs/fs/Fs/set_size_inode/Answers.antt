use Rattle.std.proofs.Common.{◌≡◌, ◌∙◌, ◌≤◌, ◌++◌, ◌∷◌, [], ℕ, Some, false, inr, ap, set, subst, sym, refl}
use Rattle.std.proofs.lemmas.Result.{err_from_is_err_and, IfOk-from_err}
use Rattle.std.proofs.lemmas.Option.{same_Some}
use Rattle.nv_rows.specs.Rows.{place_in}
use Rattle.nv_rows.proofs.Places.{at_place, back_one, in_use}
use Rattle.nv_rows.proofs.TableNumbers.{numbers_kept}
use Rattle.nv_alloc.specs.Taking.{all_blocks}
use Rattle.nv_radix.specs.Pages.{block_at}
use Rattle.nv_mounted.specs.Held.{Held, Store}
use Rattle.nv_scan.specs.declared.piece.Row.{Row}
use Rattle.nv_super.specs.declared.kind.Kind.TheVariants.{File}
use Rattle.nv_tree.specs.declared.refusal.Refusal.{Refusal}
use Rattle.nv_tree.specs.Calls.{edit, with_size}
use Rattle.nv_tree.specs.Refusals.{first_refusal, has_no_space, IsRefusedBy}
use Rattle.nv_tree.proofs.Replies.{refused_by}
use Rattle.nv_paths.specs.Seen.{node_of, tree_of}
use Rattle.nv_steps.specs.Sizes.{end_block, resizing, sized}
use Rattle.nv_steps.specs.Steps.{RefusesStep, ShowsRow}
use Rattle.nv_calls.specs.ChangesByNumber.{logs_inode_size, resize_inode_tests, resized_inode_blocks, set_size_inode_tests}
use Rattle.nv_calls.specs.Mount.{Mount}
use Rattle.nv_calls.specs.World.{world_of}
use Rattle.nv_calls.proofs.Numbered.{file_goes_on, inode_changed}
use Rattle.nv_calls.proofs.RowChange.{kept_after, tree_after}
use Rattle.nv_calls.proofs.SetAttr.{kept_or_stopped, not_stop, unchanged_step}
use Rattle.nv_calls.proofs.SetSize.{resized_node, size_allowed, size_front, size_logged, size_refused}
use Rattle.nv_calls.proofs.SizeKept.{blocks_same, bytes_after, can_resize, log_after}
use Rattle.nv_calls.proofs.Stopped.{settled_or_stopped, stays_mounted}
use Rattle.nv_calls.proofs.StoppedSizes.{size_left}
use Rattle.nv_calls.proofs.Stores.{inode_stores}
use Rattle.nv_calls.proofs.Tests.{writing_goes_on}
use Rattle.nv_calls.proofs.TwoRows.{last_used}
use Rattle.nv_calls.proofs.CallKept.{call_done, refused_first, refused_late, refused_later}
use Rattle.nv_calls.proofs.fs.Fs.set_size_inode.Goals as goal

pub lend-row-requires : goal.lend-row-requires
lend-row-requires g c = in_use c.self.inside.rows.items c.args.inode c.in_ok-resizable_inode.field-0.now c.in_ok-resizable_inode.ensures.row

pub give_back-requires : goal.give_back-requires
give_back-requires g c =
    last_used c.self.inside.rows.items c.lend-row.new.self.items c.args.inode c.resize-resized.new.row (in_use c.self.inside.rows.items c.args.inode c.lend-row.result c.lend-row.ensures.row) c.lend-row.ensures.lent (c.resize-resized.ensures.inode ∙ c.lend-row.ensures.number)

pub returns-in_err-writable-clause-refused : goal.returns-in_err-writable-clause-refused
returns-in_err-writable-clause-refused g c =
    rw (← c.cpu.view_is) (λ runs.
    let tree = tree_of (g.P.Pmem.region c.args.self.now.memory) c.args.self.now.rows in
    let count = resized_inode_blocks c.args.self.now.rows c.args.inode c.args.size in
    let w = err_from_is_err_and c.from_residual.result c.from_residual.ensures.1 in
    refused_by c.from_residual.result c.in_err-writable.field-0.0 w.0 (IsRefusedBy (first_refusal (set_size_inode_tests (world_of c.args.self.now) tree c.cpu.inside.0 c.args.inode c.args.size count))) w.1 w.2
    (inr (inr (c.in_err-writable.ensures.refused runs (resize_inode_tests tree c.args.inode c.args.size ++ has_no_space (world_of c.args.self.now) count ∷ []))))
    )

pub returns-in_err-writable-clause-call : goal.returns-in_err-writable-clause-call
returns-in_err-writable-clause-call g c =
    let w = err_from_is_err_and c.from_residual.result c.from_residual.ensures.1 in
    refused_first g.P.Pmem.region g.P.Pmem.fuse c.args.self.now c.from_residual.result c.in_err-writable.field-0.0 w.0 w.1 w.2 c.in_err-writable.ensures.stopped
    (λ runs is. writing_goes_on (world_of c.args.self.now) c.cpu.inside.0 (c.in_err-writable.ensures.refused runs [] ∙ ap (λ (e : Refusal). Some e) is))

pub returns-in_err-resizable_inode-clause-refused : goal.returns-in_err-resizable_inode-clause-refused
returns-in_err-resizable_inode-clause-refused g c =
    rw (← c.cpu.view_is) (λ runs.
    let tree = tree_of (g.P.Pmem.region c.args.self.now.memory) c.args.self.now.rows in
    let count = resized_inode_blocks c.args.self.now.rows c.args.inode c.args.size in
    let w = err_from_is_err_and c.from_residual-in_err-resizable_inode.result c.from_residual-in_err-resizable_inode.ensures.1 in
    let told = c.in_err-resizable_inode.ensures.refused (g.P.Pmem.region c.self.inside.memory) in
    refused_by c.from_residual-in_err-resizable_inode.result c.in_err-resizable_inode.field-0.0 w.0 (IsRefusedBy (first_refusal (set_size_inode_tests (world_of c.args.self.now) tree c.cpu.inside.0 c.args.inode c.args.size count))) w.1 w.2
    (inr (inr (size_front g.P.Pmem.region c.self.view_is c.cpu.inside.0 c.args.size c.in_ok-writable.ensures.passed c.args.inode c.in_err-resizable_inode.field-0.0 told)))
    )

pub returns-in_err-resizable_inode-clause-call : goal.returns-in_err-resizable_inode-clause-call
returns-in_err-resizable_inode-clause-call g c =
    let w = err_from_is_err_and c.from_residual-in_err-resizable_inode.result c.from_residual-in_err-resizable_inode.ensures.1 in
    let told = c.in_err-resizable_inode.ensures.refused (g.P.Pmem.region c.self.inside.memory) in
    refused_later g.P.Pmem.region g.P.Pmem.fuse c.args.self.now c.from_residual-in_err-resizable_inode.result c.in_err-resizable_inode.field-0.0 w.0 w.1 w.2 c.in_ok-writable.ensures.runs
    (λ is. file_goes_on (tree_of (g.P.Pmem.region c.self.inside.memory) c.self.inside.rows.items) c.args.inode c.args.size (told ∙ ap (λ (e : Refusal). Some e) is))

pub resize-resized-requires-clause-can : goal.resize-resized-requires-clause-can
resize-resized-requires-clause-can g c =
    let runs : c.self.inside.stopped ≡ false = ap (λ (m : Mount g.row.P.Denot). m.stopped) c.self.view_is ∙ c.in_ok-writable.ensures.runs in
    let writes : c.self.inside.read_only ≡ false = ap (λ (m : Mount g.row.P.Denot). m.read_only) c.self.view_is ∙ c.in_ok-writable.ensures.writes in
    let rows = c.self.inside.rows.items in
    let inode = c.args.inode in
    let at = at_place rows inode ∙ c.lend-row.ensures.row in
    let file = subst (λ (r : Row). r.kind ≡ File) (same_Some _ _ (sym c.in_ok-resizable_inode.ensures.row ∙ c.lend-row.ensures.row)) c.in_ok-resizable_inode.ensures.file in
    can_resize c.self.invariant.0 runs writes (place_in rows inode) c.lend-row.result at c.args.size c.time.inside.0 file c.in_ok-resizable_inode.ensures.most

pub invariant_of-self : goal.invariant_of-self
invariant_of-self g c =
    let runs : c.self.inside.stopped ≡ false = ap (λ (m : Mount g.row.P.Denot). m.stopped) c.self.view_is ∙ c.in_ok-writable.ensures.runs in
    let writes : c.self.inside.read_only ≡ false = ap (λ (m : Mount g.row.P.Denot). m.read_only) c.self.view_is ∙ c.in_ok-writable.ensures.writes in
    let rows = c.self.inside.rows.items in
    let inode = c.args.inode in
    let at = at_place rows inode ∙ c.lend-row.ensures.row in
    let put = back_one rows c.lend-row.new.self.items c.give_back.new.self.items inode c.resize-resized.new.row c.lend-row.ensures.lent (c.resize-resized.ensures.inode ∙ c.lend-row.ensures.number) c.give_back.ensures.rows in (
      rw put (kept_after c.self.invariant.0 runs writes (place_in rows inode) c.lend-row.result c.resize-resized.new.row at (resizing c.lend-row.result.numbers.size (sized (node_of (g.P.Pmem.region c.self.inside.memory) c.lend-row.result) c.args.size c.time.inside.0) c.in-Ok.ensures.resized.to)
          (λ held h shows. c.in-Ok.ensures.resized.follows held h shows) c.resize-resized.ensures.kept.lists c.self.inside.stopped),
      numbers_kept (c.give_back.ensures.sup ∙ c.lend-row.ensures.sup) (c.give_back.ensures.sizes ∙ c.lend-row.ensures.sizes) c.self.invariant.1,
      λ on. c.in-Ok.ensures.kept.settled,
    )

pub invariant_of-self-in-Err : goal.invariant_of-self-in-Err
invariant_of-self-in-Err g c =
    let runs : c.self.inside.stopped ≡ false = ap (λ (m : Mount g.row.P.Denot). m.stopped) c.self.view_is ∙ c.in_ok-writable.ensures.runs in
    let writes : c.self.inside.read_only ≡ false = ap (λ (m : Mount g.row.P.Denot). m.read_only) c.self.view_is ∙ c.in_ok-writable.ensures.writes in
    let rows = c.self.inside.rows.items in
    let inode = c.args.inode in
    let at = at_place rows inode ∙ c.lend-row.ensures.row in
    let put = back_one rows c.lend-row.new.self.items c.give_back.new.self.items inode c.resize-resized.new.row c.lend-row.ensures.lent (c.resize-resized.ensures.inode ∙ c.lend-row.ensures.number) c.give_back.ensures.rows in (
      rw put (kept_or_stopped g.P.Pmem.region c.self.invariant.0 runs writes (place_in rows inode) c.lend-row.result c.resize-resized.new.row at c.in-Err.refusal c.is_stop-self-inside.result c.is_stop-self-inside.ensures.yes c.is_stop-self-inside.ensures.no c.resize-resized.ensures.kept.lists c.in-Err.ensures.unchanged),
      numbers_kept (c.give_back.ensures.sup ∙ c.lend-row.ensures.sup) (c.give_back.ensures.sizes ∙ c.lend-row.ensures.sizes) c.self.invariant.1,
      settled_or_stopped g.P.Pmem.region g.P.Pmem.may_hold c.in-Err.refusal c.is_stop-self-inside.result c.is_stop-self-inside.ensures.no (λ off. (c.in-Err.ensures.unchanged off).memory) (c.self.invariant.2 runs),
    )

pub returns-in-Ok-clause-allowed : goal.returns-in-Ok-clause-allowed
returns-in-Ok-clause-allowed g c =
    rw (← c.cpu.view_is) (
    let count = blocks_same c.lend-row.result.tail (sized (node_of (g.P.Pmem.region c.self.inside.memory) c.lend-row.result) c.args.size c.time.inside.0) (record { mode = 0; size = 0; time = 0; owner = 0; group = 0 })
    (end_block (block_at c.lend-row.result.index) c.lend-row.result.numbers.size c.args.size) in
    size_allowed g.P.Pmem.region c.self.view_is c.cpu.inside.0 c.args.size c.in_ok-writable.ensures.passed c.args.inode c.lend-row.result c.lend-row.ensures.row (c.in_ok-resizable_inode.ensures.refused (g.P.Pmem.region c.self.inside.memory))
    (subst (λ (n : ℕ). n ≤ all_blocks c.self.inside.free.pools) count c.in-Ok.ensures.needs.enough)
    )

pub returns-in-Err-clause-refused : goal.returns-in-Err-clause-refused
returns-in-Err-clause-refused g c =
    rw (← c.cpu.view_is) (λ still.
    let count = blocks_same c.lend-row.result.tail (sized (node_of (g.P.Pmem.region c.self.inside.memory) c.lend-row.result) c.args.size c.time.inside.0) (record { mode = 0; size = 0; time = 0; owner = 0; group = 0 })
    (end_block (block_at c.lend-row.result.index) c.lend-row.result.numbers.size c.args.size) in
    size_refused g.P.Pmem.region c.self.view_is c.cpu.inside.0 c.args.size c.in_ok-writable.ensures.passed c.args.inode c.lend-row.result c.lend-row.ensures.row (c.in_ok-resizable_inode.ensures.refused (g.P.Pmem.region c.self.inside.memory)) c.in-Err.refusal
    (subst (λ (n : ℕ). RefusesStep c.in-Err.refusal n c.self.inside.free) count c.in-Err.ensures.needs.refused)
    )

pub returns-in-Ok-clause-changed : goal.returns-in-Ok-clause-changed
returns-in-Ok-clause-changed g c =
    rw (← c.time.view_is) (
    let runs : c.self.inside.stopped ≡ false = ap (λ (m : Mount g.row.P.Denot). m.stopped) c.self.view_is ∙ c.in_ok-writable.ensures.runs in
    let writes : c.self.inside.read_only ≡ false = ap (λ (m : Mount g.row.P.Denot). m.read_only) c.self.view_is ∙ c.in_ok-writable.ensures.writes in
    let rows = c.self.inside.rows.items in
    let inode = c.args.inode in
    let at = at_place rows inode ∙ c.lend-row.ensures.row in
    let follows = λ (held : Store) (h : Held) (shows : ShowsRow (g.P.Pmem.region c.self.inside.memory) c.self.inside.tables.layout held h c.lend-row.result c.self.inside.free). c.in-Ok.ensures.resized.follows held h shows in
    let resized = c.in-Ok.ensures.resized in
    let has = resized.numbers in
    let put = back_one rows c.lend-row.new.self.items c.give_back.new.self.items inode c.resize-resized.new.row c.lend-row.ensures.lent (c.resize-resized.ensures.inode ∙ c.lend-row.ensures.number) c.give_back.ensures.rows in
    rw put (inode_changed g.P.Pmem.region c.self.view_is (with_size c.args.size c.time.inside.0) (tree_of (g.P.Pmem.region c.resize-resized.new.memory) (set c.self.inside.rows.items (place_in rows inode) c.resize-resized.new.row)) c.lend-row.ensures.number
    (tree_after c.self.invariant.0 runs writes (place_in rows inode) c.lend-row.result c.resize-resized.new.row at (resizing c.lend-row.result.numbers.size (sized (node_of (g.P.Pmem.region c.self.inside.memory) c.lend-row.result) c.args.size c.time.inside.0) c.in-Ok.ensures.resized.to) follows (with_size c.args.size c.time.inside.0) has.inode
    (resized_node (g.P.Pmem.region c.self.inside.memory) (g.P.Pmem.region c.resize-resized.new.memory) c.args.size c.time.inside.0 has
    (bytes_after c.self.invariant.0 runs writes (place_in rows inode) c.lend-row.result at c.args.size c.time.inside.0 resized))))
    )

pub returns-in-Ok-clause-log : goal.returns-in-Ok-clause-log
returns-in-Ok-clause-log g c =
    rw (← c.cpu.view_is, ← c.time.view_is) (
    let runs : c.self.inside.stopped ≡ false = ap (λ (m : Mount g.row.P.Denot). m.stopped) c.self.view_is ∙ c.in_ok-writable.ensures.runs in
    let writes : c.self.inside.read_only ≡ false = ap (λ (m : Mount g.row.P.Denot). m.read_only) c.self.view_is ∙ c.in_ok-writable.ensures.writes in
    let rows = c.self.inside.rows.items in
    let inode = c.args.inode in
    let at = at_place rows inode ∙ c.lend-row.ensures.row in
    size_logged g.P.Pmem.region c.self.view_is (g.P.Pmem.region c.resize-resized.new.memory) c.lend-row.result c.args.size c.time.inside.0 inode c.lend-row.ensures.row c.lend-row.ensures.number
    (λ st k shown holds. log_after c.self.invariant.0 runs writes (place_in rows inode) c.lend-row.result at c.args.size c.time.inside.0 c.in-Ok.ensures.resized st k shown holds)
    )

pub returns-in-Ok-clause-call : goal.returns-in-Ok-clause-call
returns-in-Ok-clause-call g c =
    let runs : c.self.inside.stopped ≡ false = ap (λ (m : Mount g.row.P.Denot). m.stopped) c.self.view_is ∙ c.in_ok-writable.ensures.runs in
    let writes : c.self.inside.read_only ≡ false = ap (λ (m : Mount g.row.P.Denot). m.read_only) c.self.view_is ∙ c.in_ok-writable.ensures.writes in
    call_done g.P.Pmem.region g.P.Pmem.fuse c.self.view_is c.resize-resized.new.memory c.give_back.new.self.items c.resize-resized.new.free runs writes _ _ c.in-Ok.ensures.kept.keeps

pub returns-in-Err-clause-call : goal.returns-in-Err-clause-call
returns-in-Err-clause-call g c =
    let runs : c.self.inside.stopped ≡ false = ap (λ (m : Mount g.row.P.Denot). m.stopped) c.self.view_is ∙ c.in_ok-writable.ensures.runs in
    let writes : c.self.inside.read_only ≡ false = ap (λ (m : Mount g.row.P.Denot). m.read_only) c.self.view_is ∙ c.in_ok-writable.ensures.writes in
    refused_late g.P.Pmem.region g.P.Pmem.fuse c.self.view_is c.resize-resized.new.memory c.give_back.new.self.items c.resize-resized.new.free runs writes c.in-Err.refusal c.is_stop-self-inside.result c.is_stop-self-inside.ensures.yes c.is_stop-self-inside.ensures.no c.in-Err.ensures.kept.keeps
    (λ off.
    let rows = c.self.inside.rows.items in
    let inode = c.args.inode in
    let at = at_place rows inode ∙ c.lend-row.ensures.row in
    let put = back_one rows c.lend-row.new.self.items c.give_back.new.self.items inode c.resize-resized.new.row c.lend-row.ensures.lent (c.resize-resized.ensures.inode ∙ c.lend-row.ensures.number) c.give_back.ensures.rows in
    rw put (unchanged_step c.self.view_is c.resize-resized.new.memory c.resize-resized.new.free (place_in rows inode) c.lend-row.result c.resize-resized.new.row c.is_stop-self-inside.result at runs (not_stop c.in-Err.refusal c.is_stop-self-inside.result c.is_stop-self-inside.ensures.yes off) (c.in-Err.ensures.unchanged off)))

pub returns-in-Ok-clause-settled : goal.returns-in-Ok-clause-settled
returns-in-Ok-clause-settled g c = c.in-Ok.ensures.kept.settled

pub returns-in_err-writable-clause-allowed : goal.returns-in_err-writable-clause-allowed
returns-in_err-writable-clause-allowed g c = IfOk-from_err c.from_residual.result _ c.from_residual.ensures.0

pub returns-in_err-writable-clause-changed : goal.returns-in_err-writable-clause-changed
returns-in_err-writable-clause-changed g c = IfOk-from_err c.from_residual.result _ c.from_residual.ensures.0

pub returns-in_err-writable-clause-log : goal.returns-in_err-writable-clause-log
returns-in_err-writable-clause-log g c node held h shows sound is = IfOk-from_err c.from_residual.result _ c.from_residual.ensures.0

pub returns-in_err-writable-clause-settled : goal.returns-in_err-writable-clause-settled
returns-in_err-writable-clause-settled g c = IfOk-from_err c.from_residual.result _ c.from_residual.ensures.0

pub returns-in_err-writable-clause-wrote : goal.returns-in_err-writable-clause-wrote
returns-in_err-writable-clause-wrote g c held sound = λ at whole away. refl

pub returns-in_err-writable-clause-any_stop : goal.returns-in_err-writable-clause-any_stop
returns-in_err-writable-clause-any_stop g c on able =
    stays_mounted c.in_err-writable.ensures.kept on able _ (edit c.args.inode (with_size c.args.size c.args.time) (tree_of (g.P.Pmem.region c.args.self.now.memory) c.args.self.now.rows)) (logs_inode_size c.args.cpu c.args.size c.args.time c.args.inode (g.P.Pmem.region c.args.self.now.memory) c.args.self.now) (c.in_err-writable.ensures.settled on)

pub returns-in_err-resizable_inode-clause-allowed : goal.returns-in_err-resizable_inode-clause-allowed
returns-in_err-resizable_inode-clause-allowed g c = IfOk-from_err c.from_residual-in_err-resizable_inode.result _ c.from_residual-in_err-resizable_inode.ensures.0

pub returns-in_err-resizable_inode-clause-changed : goal.returns-in_err-resizable_inode-clause-changed
returns-in_err-resizable_inode-clause-changed g c = IfOk-from_err c.from_residual-in_err-resizable_inode.result _ c.from_residual-in_err-resizable_inode.ensures.0

pub returns-in_err-resizable_inode-clause-log : goal.returns-in_err-resizable_inode-clause-log
returns-in_err-resizable_inode-clause-log g c node held h shows sound is = IfOk-from_err c.from_residual-in_err-resizable_inode.result _ c.from_residual-in_err-resizable_inode.ensures.0

pub returns-in_err-resizable_inode-clause-settled : goal.returns-in_err-resizable_inode-clause-settled
returns-in_err-resizable_inode-clause-settled g c = IfOk-from_err c.from_residual-in_err-resizable_inode.result _ c.from_residual-in_err-resizable_inode.ensures.0

pub returns-in_err-resizable_inode-clause-wrote : goal.returns-in_err-resizable_inode-clause-wrote
returns-in_err-resizable_inode-clause-wrote g c held sound = λ at whole away. refl

pub returns-in_err-resizable_inode-clause-any_stop : goal.returns-in_err-resizable_inode-clause-any_stop
returns-in_err-resizable_inode-clause-any_stop g c on able =
    stays_mounted c.in_ok-writable.ensures.kept on able _ (edit c.args.inode (with_size c.args.size c.args.time) (tree_of (g.P.Pmem.region c.args.self.now.memory) c.args.self.now.rows)) (logs_inode_size c.args.cpu c.args.size c.args.time c.args.inode (g.P.Pmem.region c.args.self.now.memory) c.args.self.now) (c.in_ok-writable.ensures.settled on)

pub returns-in-Ok-clause-refused : goal.returns-in-Ok-clause-refused
returns-in-Ok-clause-refused g c still = tt

pub returns-in-Err-clause-allowed : goal.returns-in-Err-clause-allowed
returns-in-Err-clause-allowed g c = tt

pub returns-in-Err-clause-changed : goal.returns-in-Err-clause-changed
returns-in-Err-clause-changed g c = tt

pub returns-in-Err-clause-log : goal.returns-in-Err-clause-log
returns-in-Err-clause-log g c node held h shows sound is = tt

pub returns-in-Err-clause-settled : goal.returns-in-Err-clause-settled
returns-in-Err-clause-settled g c = tt

pub returns-in-Ok-clause-any_stop : goal.returns-in-Ok-clause-any_stop
returns-in-Ok-clause-any_stop g c =
    rw (← c.cpu.view_is, ← c.time.view_is) (λ on able.
    let runs : c.self.inside.stopped ≡ false = ap (λ (m : Mount g.row.P.Denot). m.stopped) c.self.view_is ∙ c.in_ok-writable.ensures.runs in
    let writes : c.self.inside.read_only ≡ false = ap (λ (m : Mount g.row.P.Denot). m.read_only) c.self.view_is ∙ c.in_ok-writable.ensures.writes in
    let rows = c.self.inside.rows.items in
    let inode = c.args.inode in
    let at = at_place rows inode ∙ c.lend-row.ensures.row in
    size_left g.P.Pmem.region c.self.view_is c.self.invariant.0 runs writes (place_in rows inode) c.lend-row.result at c.cpu.inside.0 c.args.size c.time.inside.0 inode c.lend-row.ensures.row c.lend-row.ensures.number _ _ _
    (λ held h shows pending. c.resize-resized.ensures.any_stop held h shows pending) (c.self.invariant.2 runs)
    )

pub returns-in-Ok-clause-wrote : goal.returns-in-Ok-clause-wrote
returns-in-Ok-clause-wrote g c held sound =
    inode_stores g.P.Pmem.region c.self.view_is c.self.invariant.0 c.in_ok-writable.ensures.runs (g.P.Pmem.region c.resize-resized.new.memory) c.args.inode c.lend-row.result c.lend-row.ensures.row
    (λ st h shows. c.resize-resized.ensures.wrote st h shows) held sound

pub returns-in-Err-clause-any_stop : goal.returns-in-Err-clause-any_stop
returns-in-Err-clause-any_stop g c =
    rw (← c.cpu.view_is, ← c.time.view_is) (λ on able.
    let runs : c.self.inside.stopped ≡ false = ap (λ (m : Mount g.row.P.Denot). m.stopped) c.self.view_is ∙ c.in_ok-writable.ensures.runs in
    let writes : c.self.inside.read_only ≡ false = ap (λ (m : Mount g.row.P.Denot). m.read_only) c.self.view_is ∙ c.in_ok-writable.ensures.writes in
    let rows = c.self.inside.rows.items in
    let inode = c.args.inode in
    let at = at_place rows inode ∙ c.lend-row.ensures.row in
    size_left g.P.Pmem.region c.self.view_is c.self.invariant.0 runs writes (place_in rows inode) c.lend-row.result at c.cpu.inside.0 c.args.size c.time.inside.0 inode c.lend-row.ensures.row c.lend-row.ensures.number _ _ _
    (λ held h shows pending. c.resize-resized.ensures.any_stop held h shows pending) (c.self.invariant.2 runs)
    )

pub returns-in-Err-clause-wrote : goal.returns-in-Err-clause-wrote
returns-in-Err-clause-wrote g c held sound =
    inode_stores g.P.Pmem.region c.self.view_is c.self.invariant.0 c.in_ok-writable.ensures.runs (g.P.Pmem.region c.resize-resized.new.memory) c.args.inode c.lend-row.result c.lend-row.ensures.row
    (λ st h shows. c.resize-resized.ensures.wrote st h shows) held sound
