use Rattle.std.proofs.Common.{◌≡◌, ◌∙◌, ◌+◌, ◌<◌, ◌≤◌, ◌++◌, ◌∷◌, [], ℕ, Some, false, inr, length, ap, set, subst, sym, arith, refl}
use Rattle.std.proofs.lemmas.Result.{err_from_is_err_and, IfOk-from_err}
use Rattle.std.proofs.lemmas.Option.{same_Some}
use Rattle.nv_rows.specs.Rows.{place_in}
use Rattle.nv_rows.proofs.Places.{at_place, back_one, in_use}
use Rattle.nv_rows.proofs.TableNumbers.{numbers_kept}
use Rattle.nv_alloc.specs.Taking.{all_blocks}
use Rattle.nv_bytes.specs.Data.{data_bytes}
use Rattle.nv_radix.specs.Pages.{block_at}
use Rattle.nv_mounted.specs.Held.{Held, Store}
use Rattle.nv_scan.specs.declared.piece.Row.{Row}
use Rattle.nv_super.specs.declared.kind.Kind.TheVariants.{File}
use Rattle.nv_super.proofs.Members.{stands}
use Rattle.nv_tree.specs.declared.refusal.Refusal.{Refusal}
use Rattle.nv_tree.specs.Calls.{with_bytes}
use Rattle.nv_tree.specs.Refusals.{first_refusal, has_no_space, IsRefusedBy}
use Rattle.nv_tree.proofs.Replies.{refused_by}
use Rattle.nv_paths.specs.Seen.{tree_of}
use Rattle.nv_steps.specs.Steps.{ShowsRow}
use Rattle.nv_steps.specs.Writes.{NeedsBlocks, data_entries}
use Rattle.nv_steps.specs.Written.{RefusesWrite}
use Rattle.nv_steps.specs.declared.planning.Plan.{Plan}
use Rattle.nv_calls.specs.ChangesByNumber.{LogsInodeBytes, resize_inode_tests, write_inode_tests, written_inode}
use Rattle.nv_calls.specs.Mount.{Mount}
use Rattle.nv_calls.specs.World.{world_of}
use Rattle.nv_calls.proofs.Asked.{ends_small, low_pools, planned}
use Rattle.nv_calls.proofs.FileStanding.{file_stands}
use Rattle.nv_calls.proofs.Numbered.{file_goes_on, inode_changed}
use Rattle.nv_calls.proofs.OneRow.{stands_right}
use Rattle.nv_calls.proofs.RowChange.{kept_after, tree_after}
use Rattle.nv_calls.proofs.SetAttr.{kept_or_stopped, not_stop, unchanged_step}
use Rattle.nv_calls.proofs.Stopped.{settled_or_stopped, stays_mounted}
use Rattle.nv_calls.proofs.StoppedFiles.{write_left}
use Rattle.nv_calls.proofs.Stores.{inode_stores}
use Rattle.nv_calls.proofs.Tests.{writing_goes_on}
use Rattle.nv_calls.proofs.TwoRows.{last_used}
use Rattle.nv_calls.proofs.WriteReply.{large_of_inode, none_written, some_written, write_allowed, write_bytes, write_front, write_log, write_logged, write_none, write_refused, written_node}
use Rattle.nv_calls.proofs.CallKept.{call_done, nothing_to_do, refused_first, refused_late, refused_later}
use Rattle.nv_calls.proofs.fs.Fs.write_data_inode.Goals as goal

pub lend-row-requires : goal.lend-row-requires
lend-row-requires g c = in_use c.self.inside.rows.items c.args.inode c.in_ok-resizable_inode.field-0.now c.in_ok-resizable_inode.ensures.row

pub give_back-requires : goal.give_back-requires
give_back-requires g c =
    last_used c.self.inside.rows.items c.lend-row.new.self.items c.args.inode c.change_bytes-changed.new.row (in_use c.self.inside.rows.items c.args.inode c.lend-row.result c.lend-row.ensures.row) c.lend-row.ensures.lent (c.change_bytes-changed.ensures.inode ∙ c.lend-row.ensures.number)

pub returns-in_err-writable-clause-refused : goal.returns-in_err-writable-clause-refused
returns-in_err-writable-clause-refused g c =
    rw (← c.cpu.view_is) (λ runs count needs.
    let tree = tree_of (g.P.Pmem.region c.args.self.now.memory) c.args.self.now.rows in
    let w = err_from_is_err_and c.from_residual.result c.from_residual.ensures.1 in
    refused_by c.from_residual.result c.in_err-writable.field-0.0 w.0 (IsRefusedBy (first_refusal (write_inode_tests (world_of c.args.self.now) tree c.cpu.inside.0 c.args.inode (c.args.offset + length (data_bytes c.args.content)) count))) w.1 w.2
    (inr (inr (c.in_err-writable.ensures.refused runs (resize_inode_tests tree c.args.inode (c.args.offset + length (data_bytes c.args.content)) ++ has_no_space (world_of c.args.self.now) count ∷ []))))
    )

pub returns-in_err-writable-clause-call : goal.returns-in_err-writable-clause-call
returns-in_err-writable-clause-call g c =
    let w = err_from_is_err_and c.from_residual.result c.from_residual.ensures.1 in
    refused_first g.P.Pmem.region g.P.Pmem.fuse c.args.self.now c.from_residual.result c.in_err-writable.field-0.0 w.0 w.1 w.2 c.in_err-writable.ensures.stopped
    (λ runs is. writing_goes_on (world_of c.args.self.now) c.cpu.inside.0 (c.in_err-writable.ensures.refused runs [] ∙ ap (λ (e : Refusal). Some e) is))

pub returns-in_err-resizable_inode-clause-refused : goal.returns-in_err-resizable_inode-clause-refused
returns-in_err-resizable_inode-clause-refused g c =
    rw (← c.cpu.view_is) (λ runs count needs.
    let tree = tree_of (g.P.Pmem.region c.args.self.now.memory) c.args.self.now.rows in
    let w = err_from_is_err_and c.from_residual-in_err-resizable_inode.result c.from_residual-in_err-resizable_inode.ensures.1 in
    let told = c.in_err-resizable_inode.ensures.refused (g.P.Pmem.region c.self.inside.memory) in
    refused_by c.from_residual-in_err-resizable_inode.result c.in_err-resizable_inode.field-0.0 w.0 (IsRefusedBy (first_refusal (write_inode_tests (world_of c.args.self.now) tree c.cpu.inside.0 c.args.inode (c.args.offset + length (data_bytes c.args.content)) count))) w.1 w.2
    (inr (inr (write_front g.P.Pmem.region c.self.view_is c.cpu.inside.0 (c.args.offset + length (data_bytes c.args.content)) count c.in_ok-writable.ensures.passed c.args.inode c.in_err-resizable_inode.field-0.0 (large_of_inode c.args.offset (length (data_bytes c.args.content)) c.saturating_add.result (rw c.len-count.ensures at c.saturating_add.ensures) (tree_of (g.P.Pmem.region c.self.inside.memory) c.self.inside.rows.items) c.args.inode ∙ told))))
    )

pub returns-in_err-resizable_inode-clause-call : goal.returns-in_err-resizable_inode-clause-call
returns-in_err-resizable_inode-clause-call g c =
    let w = err_from_is_err_and c.from_residual-in_err-resizable_inode.result c.from_residual-in_err-resizable_inode.ensures.1 in
    let told = c.in_err-resizable_inode.ensures.refused (g.P.Pmem.region c.self.inside.memory) in
    refused_later g.P.Pmem.region g.P.Pmem.fuse c.args.self.now c.from_residual-in_err-resizable_inode.result c.in_err-resizable_inode.field-0.0 w.0 w.1 w.2 c.in_ok-writable.ensures.runs
    (λ is. file_goes_on (tree_of (g.P.Pmem.region c.self.inside.memory) c.self.inside.rows.items) c.args.inode c.saturating_add.result (told ∙ ap (λ (e : Refusal). Some e) is))

pub returns-then-count-eq0-clause-allowed : goal.returns-then-count-eq0-clause-allowed
returns-then-count-eq0-clause-allowed g c =
    rw (← c.cpu.view_is) (λ count needs.
    write_none g.P.Pmem.region c.self.view_is c.cpu.inside.0 (c.args.offset + length (data_bytes c.args.content)) count c.in_ok-writable.ensures.passed c.args.inode (large_of_inode c.args.offset (length (data_bytes c.args.content)) c.saturating_add.result (rw c.len-count.ensures at c.saturating_add.ensures) (tree_of (g.P.Pmem.region c.self.inside.memory) c.self.inside.rows.items) c.args.inode ∙ c.in_ok-resizable_inode.ensures.refused (g.P.Pmem.region c.self.inside.memory)) (needs.none (rw c.len-count.ensures at c.if-count-eq0.true))
    )

pub invariant_of-self : goal.invariant_of-self
invariant_of-self g c =
    let runs : c.self.inside.stopped ≡ false = ap (λ (m : Mount g.row.P.Denot). m.stopped) c.self.view_is ∙ c.in_ok-writable.ensures.runs in
    let writes : c.self.inside.read_only ≡ false = ap (λ (m : Mount g.row.P.Denot). m.read_only) c.self.view_is ∙ c.in_ok-writable.ensures.writes in
    let rows = c.self.inside.rows.items in
    let inode = c.args.inode in
    let at = at_place rows inode ∙ c.lend-row.ensures.row in
    let plan = c.new-plan.result in
    let put = back_one rows c.lend-row.new.self.items c.give_back.new.self.items inode c.change_bytes-changed.new.row c.lend-row.ensures.lent (c.change_bytes-changed.ensures.inode ∙ c.lend-row.ensures.number) c.give_back.ensures.rows in
    (rw put (kept_after c.self.invariant.0 runs writes (place_in rows inode) c.lend-row.result c.change_bytes-changed.new.row at (data_entries plan c.in-Ok.ensures.writes.runs) (λ held h shows. c.in-Ok.ensures.writes.follows held h shows) c.change_bytes-changed.ensures.kept.lists c.self.inside.stopped), numbers_kept (c.give_back.ensures.sup ∙ c.lend-row.ensures.sup) (c.give_back.ensures.sizes ∙ c.lend-row.ensures.sizes) c.self.invariant.1, λ on. c.in-Ok.ensures.kept.settled)

pub invariant_of-self-in-Err : goal.invariant_of-self-in-Err
invariant_of-self-in-Err g c =
    let runs : c.self.inside.stopped ≡ false = ap (λ (m : Mount g.row.P.Denot). m.stopped) c.self.view_is ∙ c.in_ok-writable.ensures.runs in
    let writes : c.self.inside.read_only ≡ false = ap (λ (m : Mount g.row.P.Denot). m.read_only) c.self.view_is ∙ c.in_ok-writable.ensures.writes in
    let rows = c.self.inside.rows.items in
    let inode = c.args.inode in
    let at = at_place rows inode ∙ c.lend-row.ensures.row in
    let put = back_one rows c.lend-row.new.self.items c.give_back.new.self.items inode c.change_bytes-changed.new.row c.lend-row.ensures.lent (c.change_bytes-changed.ensures.inode ∙ c.lend-row.ensures.number) c.give_back.ensures.rows in (
      rw put (kept_or_stopped g.P.Pmem.region c.self.invariant.0 runs writes (place_in rows inode) c.lend-row.result c.change_bytes-changed.new.row at c.in-Err.refusal c.is_stop-self-inside.result c.is_stop-self-inside.ensures.yes c.is_stop-self-inside.ensures.no c.change_bytes-changed.ensures.kept.lists c.in-Err.ensures.unchanged),
      numbers_kept (c.give_back.ensures.sup ∙ c.lend-row.ensures.sup) (c.give_back.ensures.sizes ∙ c.lend-row.ensures.sizes) c.self.invariant.1,
      settled_or_stopped g.P.Pmem.region g.P.Pmem.may_hold c.in-Err.refusal c.is_stop-self-inside.result c.is_stop-self-inside.ensures.no (λ off. (c.in-Err.ensures.unchanged off).memory) (c.self.invariant.2 runs),
    )

pub new-plan-requires-clause-some : goal.new-plan-requires-clause-some
new-plan-requires-clause-some g c = omega (arith, c.if-count-eq0.false)

pub new-plan-requires-clause-small : goal.new-plan-requires-clause-small
new-plan-requires-clause-small g c =
    let ends = ends_small c.args.offset (length (data_bytes c.args.content)) c.saturating_add.result (rw c.len-count.ensures at c.saturating_add.ensures) c.in_ok-resizable_inode.ensures.most in
    omega (arith, ends, c.len-count.ensures)

pub change_bytes-changed-requires : goal.change_bytes-changed-requires
change_bytes-changed-requires g c =
    record {
      cpu_below = (let low : c.cpu.inside.0 < c.self.inside.tables.layout.sup.cpus = subst (λ (m : Mount g.row.P.Denot). c.cpu.inside.0 < m.sup.cpus) (sym c.self.view_is) c.in_ok-writable.ensures.cpu in
          low_pools c.self.invariant.0 c.cpu.inside.0 low);
      stands = (let runs : c.self.inside.stopped ≡ false = ap (λ (m : Mount g.row.P.Denot). m.stopped) c.self.view_is ∙ c.in_ok-writable.ensures.runs in
          let writes : c.self.inside.read_only ≡ false = ap (λ (m : Mount g.row.P.Denot). m.read_only) c.self.view_is ∙ c.in_ok-writable.ensures.writes in
          let rows = c.self.inside.rows.items in
          let inode = c.args.inode in
          let at = at_place rows inode ∙ c.lend-row.ensures.row in
          stands_right c.self.invariant.0 runs writes c.lend-row.result (stands c.self.inside.rows.items (place_in rows inode) c.lend-row.result at));
      kind = (let rows = c.self.inside.rows.items in
          let inode = c.args.inode in
          let at = at_place rows inode ∙ c.lend-row.ensures.row in
          subst (λ (r : Row). r.kind ≡ File) (same_Some _ _ (sym c.in_ok-resizable_inode.ensures.row ∙ c.lend-row.ensures.row)) c.in_ok-resizable_inode.ensures.file);
      file = (let runs : c.self.inside.stopped ≡ false = ap (λ (m : Mount g.row.P.Denot). m.stopped) c.self.view_is ∙ c.in_ok-writable.ensures.runs in
          let writes : c.self.inside.read_only ≡ false = ap (λ (m : Mount g.row.P.Denot). m.read_only) c.self.view_is ∙ c.in_ok-writable.ensures.writes in
          let rows = c.self.inside.rows.items in
          let inode = c.args.inode in
          let at = at_place rows inode ∙ c.lend-row.ensures.row in
          file_stands c.self.invariant.0 runs writes c.lend-row.result (stands c.self.inside.rows.items (place_in rows inode) c.lend-row.result at));
      some = (omega (arith, c.if-count-eq0.false, c.len-count.ensures));
      fits = (ends_small c.args.offset (length (data_bytes c.args.content)) c.saturating_add.result (rw c.len-count.ensures at c.saturating_add.ensures) c.in_ok-resizable_inode.ensures.most);
      size_is = refl;
      plan_is = (planned (block_at c.lend-row.result.index) c.lend-row.result.numbers.size c.args.offset (length (data_bytes c.args.content)) c.time.inside.0 c.new-plan.result (rw c.len-count.ensures at c.new-plan.ensures));
    }

pub returns-in-Ok-clause-allowed : goal.returns-in-Ok-clause-allowed
returns-in-Ok-clause-allowed g c =
    rw (← c.cpu.view_is, ← c.time.view_is) (λ count needs.
    write_allowed g.P.Pmem.region c.self.view_is c.cpu.inside.0 (c.args.offset + length (data_bytes c.args.content)) count c.in_ok-writable.ensures.passed c.args.inode (large_of_inode c.args.offset (length (data_bytes c.args.content)) c.saturating_add.result (rw c.len-count.ensures at c.saturating_add.ensures) (tree_of (g.P.Pmem.region c.self.inside.memory) c.self.inside.rows.items) c.args.inode ∙ c.in_ok-resizable_inode.ensures.refused (g.P.Pmem.region c.self.inside.memory)) c.lend-row.result c.lend-row.ensures.row c.args.offset (length (data_bytes c.args.content)) c.time.inside.0 (omega (arith, c.if-count-eq0.false, c.len-count.ensures)) needs
    (subst (λ (q : Plan). (k : ℕ) → NeedsBlocks c.self.inside.free.pools c.cpu.inside.0 c.lend-row.result.tail q k → k ≤ all_blocks c.self.inside.free.pools) (rw c.len-count.ensures at c.new-plan.ensures) c.in-Ok.ensures.enough)
    )

pub returns-in-Err-clause-refused : goal.returns-in-Err-clause-refused
returns-in-Err-clause-refused g c =
    rw (← c.cpu.view_is, ← c.time.view_is) (λ still count needs.
    write_refused g.P.Pmem.region c.self.view_is c.cpu.inside.0 (c.args.offset + length (data_bytes c.args.content)) count c.in_ok-writable.ensures.passed c.args.inode (large_of_inode c.args.offset (length (data_bytes c.args.content)) c.saturating_add.result (rw c.len-count.ensures at c.saturating_add.ensures) (tree_of (g.P.Pmem.region c.self.inside.memory) c.self.inside.rows.items) c.args.inode ∙ c.in_ok-resizable_inode.ensures.refused (g.P.Pmem.region c.self.inside.memory)) c.lend-row.result c.lend-row.ensures.row c.args.offset (length (data_bytes c.args.content)) c.time.inside.0 (omega (arith, c.if-count-eq0.false, c.len-count.ensures)) needs c.in-Err.refusal
    (subst (λ (q : Plan). RefusesWrite c.in-Err.refusal c.self.inside.free c.cpu.inside.0 c.lend-row.result.tail q) (rw c.len-count.ensures at c.new-plan.ensures) c.in-Err.ensures.refused)
    )

pub returns-in-Ok-clause-changed : goal.returns-in-Ok-clause-changed
returns-in-Ok-clause-changed g c =
    rw (← c.time.view_is) (
    let runs : c.self.inside.stopped ≡ false = ap (λ (m : Mount g.row.P.Denot). m.stopped) c.self.view_is ∙ c.in_ok-writable.ensures.runs in
    let writes : c.self.inside.read_only ≡ false = ap (λ (m : Mount g.row.P.Denot). m.read_only) c.self.view_is ∙ c.in_ok-writable.ensures.writes in
    let rows = c.self.inside.rows.items in
    let inode = c.args.inode in
    let at = at_place rows inode ∙ c.lend-row.ensures.row in
    let plan = c.new-plan.result in
    let follows = λ (held : Store) (h : Held) (shows : ShowsRow (g.P.Pmem.region c.self.inside.memory) c.self.inside.tables.layout held h c.lend-row.result c.self.inside.free). c.in-Ok.ensures.writes.follows held h shows in
    let put = back_one rows c.lend-row.new.self.items c.give_back.new.self.items inode c.change_bytes-changed.new.row c.lend-row.ensures.lent (c.change_bytes-changed.ensures.inode ∙ c.lend-row.ensures.number) c.give_back.ensures.rows in
    rw put (some_written inode c.args.offset (data_bytes c.args.content) c.time.inside.0 (tree_of (g.P.Pmem.region c.args.self.now.memory) c.args.self.now.rows) (tree_of (g.P.Pmem.region c.change_bytes-changed.new.memory) (set c.self.inside.rows.items (place_in rows inode) c.change_bytes-changed.new.row)) (omega (arith, c.if-count-eq0.false, c.len-count.ensures))
    (inode_changed g.P.Pmem.region c.self.view_is (with_bytes c.args.offset (data_bytes c.args.content) c.time.inside.0) (tree_of (g.P.Pmem.region c.change_bytes-changed.new.memory) (set c.self.inside.rows.items (place_in rows inode) c.change_bytes-changed.new.row)) c.lend-row.ensures.number
    (tree_after c.self.invariant.0 runs writes (place_in rows inode) c.lend-row.result c.change_bytes-changed.new.row at (data_entries plan c.in-Ok.ensures.writes.runs) follows (with_bytes c.args.offset (data_bytes c.args.content) c.time.inside.0) c.in-Ok.ensures.writes.inode
    (written_node (g.P.Pmem.region c.self.inside.memory) (g.P.Pmem.region c.change_bytes-changed.new.memory) c.time.inside.0 c.in-Ok.ensures.writes (rw c.len-count.ensures at c.new-plan.ensures)
    (write_bytes c.self.invariant.0 runs writes (place_in rows inode) c.lend-row.result at c.in-Ok.ensures.writes)))))
    )

pub returns-in-Ok-clause-log : goal.returns-in-Ok-clause-log
returns-in-Ok-clause-log g c =
    rw (← c.cpu.view_is, ← c.time.view_is) (λ node held h shows sound is some.
    let runs : c.self.inside.stopped ≡ false = ap (λ (m : Mount g.row.P.Denot). m.stopped) c.self.view_is ∙ c.in_ok-writable.ensures.runs in
    let writes : c.self.inside.read_only ≡ false = ap (λ (m : Mount g.row.P.Denot). m.read_only) c.self.view_is ∙ c.in_ok-writable.ensures.writes in
    let rows = c.self.inside.rows.items in
    let inode = c.args.inode in
    let at = at_place rows inode ∙ c.lend-row.ensures.row in
    write_logged g.P.Pmem.region c.self.view_is c.time.inside.0 inode node held h c.self.invariant.0 runs (stands c.self.inside.rows.items (place_in rows inode) c.lend-row.result at) c.lend-row.ensures.row c.lend-row.ensures.number c.in-Ok.ensures.writes (rw c.len-count.ensures at c.new-plan.ensures)
    (λ st k shown holds. write_log c.self.invariant.0 runs writes (place_in rows inode) c.lend-row.result at c.in-Ok.ensures.writes st k shown holds) shows sound is
    )

pub returns-in-Ok-clause-call : goal.returns-in-Ok-clause-call
returns-in-Ok-clause-call g c =
    let runs : c.self.inside.stopped ≡ false = ap (λ (m : Mount g.row.P.Denot). m.stopped) c.self.view_is ∙ c.in_ok-writable.ensures.runs in
    let writes : c.self.inside.read_only ≡ false = ap (λ (m : Mount g.row.P.Denot). m.read_only) c.self.view_is ∙ c.in_ok-writable.ensures.writes in
    call_done g.P.Pmem.region g.P.Pmem.fuse c.self.view_is c.change_bytes-changed.new.memory c.give_back.new.self.items c.change_bytes-changed.new.free runs writes _ _ c.in-Ok.ensures.kept.keeps

pub returns-in-Err-clause-call : goal.returns-in-Err-clause-call
returns-in-Err-clause-call g c =
    let runs : c.self.inside.stopped ≡ false = ap (λ (m : Mount g.row.P.Denot). m.stopped) c.self.view_is ∙ c.in_ok-writable.ensures.runs in
    let writes : c.self.inside.read_only ≡ false = ap (λ (m : Mount g.row.P.Denot). m.read_only) c.self.view_is ∙ c.in_ok-writable.ensures.writes in
    refused_late g.P.Pmem.region g.P.Pmem.fuse c.self.view_is c.change_bytes-changed.new.memory c.give_back.new.self.items c.change_bytes-changed.new.free runs writes c.in-Err.refusal c.is_stop-self-inside.result c.is_stop-self-inside.ensures.yes c.is_stop-self-inside.ensures.no c.in-Err.ensures.kept.keeps
    (λ off.
    let rows = c.self.inside.rows.items in
    let inode = c.args.inode in
    let at = at_place rows inode ∙ c.lend-row.ensures.row in
    let put = back_one rows c.lend-row.new.self.items c.give_back.new.self.items inode c.change_bytes-changed.new.row c.lend-row.ensures.lent (c.change_bytes-changed.ensures.inode ∙ c.lend-row.ensures.number) c.give_back.ensures.rows in
    rw put (unchanged_step c.self.view_is c.change_bytes-changed.new.memory c.change_bytes-changed.new.free (place_in rows inode) c.lend-row.result c.change_bytes-changed.new.row c.is_stop-self-inside.result at runs (not_stop c.in-Err.refusal c.is_stop-self-inside.result c.is_stop-self-inside.ensures.yes off) (c.in-Err.ensures.unchanged off)))

pub returns-in_err-writable-clause-allowed : goal.returns-in_err-writable-clause-allowed
returns-in_err-writable-clause-allowed g c count needs = IfOk-from_err c.from_residual.result _ c.from_residual.ensures.0

pub returns-in_err-writable-clause-changed : goal.returns-in_err-writable-clause-changed
returns-in_err-writable-clause-changed g c = IfOk-from_err c.from_residual.result _ c.from_residual.ensures.0

pub returns-in_err-writable-clause-log : goal.returns-in_err-writable-clause-log
returns-in_err-writable-clause-log g c node held h shows sound is some = IfOk-from_err c.from_residual.result _ c.from_residual.ensures.0

pub returns-in_err-writable-clause-settled : goal.returns-in_err-writable-clause-settled
returns-in_err-writable-clause-settled g c some = IfOk-from_err c.from_residual.result _ c.from_residual.ensures.0

pub returns-in_err-writable-clause-nothing : goal.returns-in_err-writable-clause-nothing
returns-in_err-writable-clause-nothing g c none = IfOk-from_err c.from_residual.result _ c.from_residual.ensures.0

pub returns-in_err-writable-clause-wrote : goal.returns-in_err-writable-clause-wrote
returns-in_err-writable-clause-wrote g c held sound = λ at whole away. refl

pub returns-in_err-writable-clause-any_stop : goal.returns-in_err-writable-clause-any_stop
returns-in_err-writable-clause-any_stop g c on able =
    stays_mounted c.in_err-writable.ensures.kept on able _ (written_inode c.args.inode c.args.offset (data_bytes c.args.content) c.args.time (tree_of (g.P.Pmem.region c.args.self.now.memory) c.args.self.now.rows)) (LogsInodeBytes c.args.cpu c.args.offset (length (data_bytes c.args.content)) c.args.time c.args.inode (g.P.Pmem.region c.args.self.now.memory) c.args.self.now) (c.in_err-writable.ensures.settled on)

pub returns-in_err-resizable_inode-clause-allowed : goal.returns-in_err-resizable_inode-clause-allowed
returns-in_err-resizable_inode-clause-allowed g c count needs = IfOk-from_err c.from_residual-in_err-resizable_inode.result _ c.from_residual-in_err-resizable_inode.ensures.0

pub returns-in_err-resizable_inode-clause-changed : goal.returns-in_err-resizable_inode-clause-changed
returns-in_err-resizable_inode-clause-changed g c = IfOk-from_err c.from_residual-in_err-resizable_inode.result _ c.from_residual-in_err-resizable_inode.ensures.0

pub returns-in_err-resizable_inode-clause-log : goal.returns-in_err-resizable_inode-clause-log
returns-in_err-resizable_inode-clause-log g c node held h shows sound is some = IfOk-from_err c.from_residual-in_err-resizable_inode.result _ c.from_residual-in_err-resizable_inode.ensures.0

pub returns-in_err-resizable_inode-clause-settled : goal.returns-in_err-resizable_inode-clause-settled
returns-in_err-resizable_inode-clause-settled g c some = IfOk-from_err c.from_residual-in_err-resizable_inode.result _ c.from_residual-in_err-resizable_inode.ensures.0

pub returns-in_err-resizable_inode-clause-nothing : goal.returns-in_err-resizable_inode-clause-nothing
returns-in_err-resizable_inode-clause-nothing g c none = IfOk-from_err c.from_residual-in_err-resizable_inode.result _ c.from_residual-in_err-resizable_inode.ensures.0

pub returns-in_err-resizable_inode-clause-wrote : goal.returns-in_err-resizable_inode-clause-wrote
returns-in_err-resizable_inode-clause-wrote g c held sound = λ at whole away. refl

pub returns-in_err-resizable_inode-clause-any_stop : goal.returns-in_err-resizable_inode-clause-any_stop
returns-in_err-resizable_inode-clause-any_stop g c on able =
    stays_mounted c.in_ok-writable.ensures.kept on able _ (written_inode c.args.inode c.args.offset (data_bytes c.args.content) c.args.time (tree_of (g.P.Pmem.region c.args.self.now.memory) c.args.self.now.rows)) (LogsInodeBytes c.args.cpu c.args.offset (length (data_bytes c.args.content)) c.args.time c.args.inode (g.P.Pmem.region c.args.self.now.memory) c.args.self.now) (c.in_ok-writable.ensures.settled on)

pub returns-in-Ok-clause-refused : goal.returns-in-Ok-clause-refused
returns-in-Ok-clause-refused g c still count needs = tt

pub returns-in-Ok-clause-settled : goal.returns-in-Ok-clause-settled
returns-in-Ok-clause-settled g c some = c.in-Ok.ensures.kept.settled

pub returns-in-Ok-clause-nothing : goal.returns-in-Ok-clause-nothing
returns-in-Ok-clause-nothing g c none = absurd (c.if-count-eq0.false (c.len-count.ensures ∙ none))

pub returns-in-Err-clause-allowed : goal.returns-in-Err-clause-allowed
returns-in-Err-clause-allowed g c count needs = tt

pub returns-in-Err-clause-changed : goal.returns-in-Err-clause-changed
returns-in-Err-clause-changed g c = tt

pub returns-in-Err-clause-log : goal.returns-in-Err-clause-log
returns-in-Err-clause-log g c node held h shows sound is some = tt

pub returns-in-Err-clause-nothing : goal.returns-in-Err-clause-nothing
returns-in-Err-clause-nothing g c none = tt

pub returns-in-Err-clause-settled : goal.returns-in-Err-clause-settled
returns-in-Err-clause-settled g c some = tt

pub returns-then-count-eq0-clause-call : goal.returns-then-count-eq0-clause-call
returns-then-count-eq0-clause-call g c = nothing_to_do g.P.Pmem.region g.P.Pmem.fuse c.args.self.now _ c.in_ok-writable.ensures.runs

pub returns-then-count-eq0-clause-refused : goal.returns-then-count-eq0-clause-refused
returns-then-count-eq0-clause-refused g c still count needs = tt

pub returns-then-count-eq0-clause-changed : goal.returns-then-count-eq0-clause-changed
returns-then-count-eq0-clause-changed g c = none_written c.args.inode c.args.offset (data_bytes c.args.content) c.args.time (tree_of (g.P.Pmem.region c.args.self.now.memory) c.args.self.now.rows) (rw c.len-count.ensures at c.if-count-eq0.true)

pub returns-then-count-eq0-clause-log : goal.returns-then-count-eq0-clause-log
returns-then-count-eq0-clause-log g c node held h shows sound is some = absurd (omega (arith, some, (rw c.len-count.ensures at c.if-count-eq0.true)))

pub returns-then-count-eq0-clause-nothing : goal.returns-then-count-eq0-clause-nothing
returns-then-count-eq0-clause-nothing g c none = refl

pub returns-then-count-eq0-clause-settled : goal.returns-then-count-eq0-clause-settled
returns-then-count-eq0-clause-settled g c some = absurd (omega (arith, some, (rw c.len-count.ensures at c.if-count-eq0.true)))

pub returns-then-count-eq0-clause-wrote : goal.returns-then-count-eq0-clause-wrote
returns-then-count-eq0-clause-wrote g c held sound = λ at whole away. refl

pub returns-then-count-eq0-clause-any_stop : goal.returns-then-count-eq0-clause-any_stop
returns-then-count-eq0-clause-any_stop g c on able =
    stays_mounted c.in_ok-writable.ensures.kept on able _ (written_inode c.args.inode c.args.offset (data_bytes c.args.content) c.args.time (tree_of (g.P.Pmem.region c.args.self.now.memory) c.args.self.now.rows)) (LogsInodeBytes c.args.cpu c.args.offset (length (data_bytes c.args.content)) c.args.time c.args.inode (g.P.Pmem.region c.args.self.now.memory) c.args.self.now) (c.in_ok-writable.ensures.settled on)

pub returns-in-Ok-clause-any_stop : goal.returns-in-Ok-clause-any_stop
returns-in-Ok-clause-any_stop g c =
    rw (← c.cpu.view_is, ← c.time.view_is) (λ on able.
    let runs : c.self.inside.stopped ≡ false = ap (λ (m : Mount g.row.P.Denot). m.stopped) c.self.view_is ∙ c.in_ok-writable.ensures.runs in
    let writes : c.self.inside.read_only ≡ false = ap (λ (m : Mount g.row.P.Denot). m.read_only) c.self.view_is ∙ c.in_ok-writable.ensures.writes in
    let rows = c.self.inside.rows.items in
    let inode = c.args.inode in
    let at = at_place rows inode ∙ c.lend-row.ensures.row in
    write_left g.P.Pmem.region c.self.view_is c.self.invariant.0 runs writes (place_in rows inode) c.lend-row.result at c.cpu.inside.0 c.new-plan.result c.args.offset (data_bytes c.args.content) c.time.inside.0 (rw c.len-count.ensures at c.new-plan.ensures) (omega (arith, c.if-count-eq0.false, c.len-count.ensures)) inode c.lend-row.ensures.row c.lend-row.ensures.number _ _ _
    (λ held h shows pending. c.change_bytes-changed.ensures.any_stop held h shows pending) (c.self.invariant.2 runs)
    )

pub returns-in-Ok-clause-wrote : goal.returns-in-Ok-clause-wrote
returns-in-Ok-clause-wrote g c held sound =
    inode_stores g.P.Pmem.region c.self.view_is c.self.invariant.0 c.in_ok-writable.ensures.runs (g.P.Pmem.region c.change_bytes-changed.new.memory) c.args.inode c.lend-row.result c.lend-row.ensures.row
    (λ st h shows. c.change_bytes-changed.ensures.wrote st h shows) held sound

pub returns-in-Err-clause-any_stop : goal.returns-in-Err-clause-any_stop
returns-in-Err-clause-any_stop g c =
    rw (← c.cpu.view_is, ← c.time.view_is) (λ on able.
    let runs : c.self.inside.stopped ≡ false = ap (λ (m : Mount g.row.P.Denot). m.stopped) c.self.view_is ∙ c.in_ok-writable.ensures.runs in
    let writes : c.self.inside.read_only ≡ false = ap (λ (m : Mount g.row.P.Denot). m.read_only) c.self.view_is ∙ c.in_ok-writable.ensures.writes in
    let rows = c.self.inside.rows.items in
    let inode = c.args.inode in
    let at = at_place rows inode ∙ c.lend-row.ensures.row in
    write_left g.P.Pmem.region c.self.view_is c.self.invariant.0 runs writes (place_in rows inode) c.lend-row.result at c.cpu.inside.0 c.new-plan.result c.args.offset (data_bytes c.args.content) c.time.inside.0 (rw c.len-count.ensures at c.new-plan.ensures) (omega (arith, c.if-count-eq0.false, c.len-count.ensures)) inode c.lend-row.ensures.row c.lend-row.ensures.number _ _ _
    (λ held h shows pending. c.change_bytes-changed.ensures.any_stop held h shows pending) (c.self.invariant.2 runs)
    )

pub returns-in-Err-clause-wrote : goal.returns-in-Err-clause-wrote
returns-in-Err-clause-wrote g c held sound =
    inode_stores g.P.Pmem.region c.self.view_is c.self.invariant.0 c.in_ok-writable.ensures.runs (g.P.Pmem.region c.change_bytes-changed.new.memory) c.args.inode c.lend-row.result c.lend-row.ensures.row
    (λ st h shows. c.change_bytes-changed.ensures.wrote st h shows) held sound
