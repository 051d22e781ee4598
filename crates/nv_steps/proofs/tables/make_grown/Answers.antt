use Rattle.std.proofs.Common.{arith, ◌≡◌, ◌+◌, ◌%◌, ◌<◌, ◌≤◌, ◌∙◌, ◌∷◌, [], None, List, ℕ, ap, drop, inl, inr, length, refl, subst, sym, IsTrue}
use Rattle.std.proofs.lemmas.Result.{err_from_is_err_and, IfErr-weaker, IfOk-from_err, IfOk-weaker}
use Rattle.nv_super.specs.declared.superblock.Super.{Super}
use Rattle.nv_super.specs.Layout.{Layout}
use Rattle.nv_inode.specs.Numbers.{has_slot, next_number}
use Rattle.nv_region.specs.Region.{word}
use Rattle.nv_alloc.specs.Taking.{all_blocks}
use Rattle.nv_entry.specs.declared.entry.Entry.{Entry}
use Rattle.nv_entry.specs.declared.entry.Operation.TheVariants.{Add}
use Rattle.nv_logpage.specs.Append.{needed}
use Rattle.nv_scan.specs.declared.piece.Row.{Row}
use Rattle.nv_tree.specs.declared.refusal.Refusal.{Refusal}
use Rattle.nv_tree.specs.declared.refusal.Refusal.TheVariants.{Stopped}
use Rattle.nv_tree.proofs.Replies.{refused_by}
use Rattle.nv_steps.specs.GrownTables.{GrowsAndNames, GrowsTable, LeavesTables, ShowsFree, TableGrown, grown_more}
use Rattle.nv_steps.specs.InOrder.{tail_address}
use Rattle.nv_steps.specs.NameEntries.{name_entries}
use Rattle.nv_steps.specs.NewNames.{MakesNamed}
use Rattle.nv_steps.specs.Steps.{RefusesStep}
use Rattle.nv_steps.specs.Taken.{TakesEach}
use Rattle.nv_steps.proofs.AppendedLogs.{needed_one}
use Rattle.nv_commit.proofs.Left.{still}
use Rattle.nv_steps.proofs.GrownNames.{grown_left, kept_then, link_in, rest_count, split_taken, tail_stays, then_commits, then_first, then_has, then_kept, then_stores}
use Rattle.nv_steps.proofs.GrownTable.{row_shown}
use Rattle.nv_steps.proofs.Kept.{kept_refused, nothing_stored, on_ok_always}
use Rattle.nv_steps.proofs.MadeNamed.{all_others}
use Rattle.nv_steps.proofs.Stores.{stores_nothing}
use Rattle.nv_steps.proofs.TakenBlocks.{taken_sup}
use Rattle.nv_steps.proofs.tables.make_grown.Goals as goal

pub name_entry-requires : goal.name_entry-requires
name_entry-requires g c = record { some = c.requires.is_name.some; fits = c.requires.is_name.short }

pub overflow_add-count : goal.overflow_add-count
overflow_add-count g c = let few = needed_one (c.args.directory.now.tail % 4096) (c.name_entry.result ∷ []) refl in omega (arith, few, c.pages_needed-count.ensures)

pub prepare_name-requires : goal.prepare_name-requires
prepare_name-requires g c = (let grow = c.requires.can.grow in record { cpu = subst (λ (s : Super). c.args.cpu < s.cpus) (sym grow.lists) grow.cpu_below })

pub link_table-requires : goal.link_table-requires
link_table-requires g c =
    record {
      can = (let pages : c.pages_needed-count.result ≡ needed (c.args.directory.now.tail % 4096) (name_entries Add c.args.new.now.inode c.args.new.now.name.now c.args.new.now.time) = c.pages_needed-count.ensures ∙ ap (λ (e : Entry). needed (c.args.directory.now.tail % 4096) (e ∷ [])) c.name_entry.ensures in
          let w = split_taken c.in_ok-blocks.blocks.items (1 + needed (c.args.directory.now.tail % 4096) (name_entries Add c.args.new.now.inode c.args.new.now.name.now c.args.new.now.time)) c.index.result.now c.in_ok-blocks.ensures.taken.each (omega (arith, c.in_ok-blocks.ensures.taken.count_is, pages)) c.index.ensures in
          (c.args.free.now, w.0, c.requires.can.grow, w.1));
      room = c.requires.room;
    }

pub slot_of_row-slot-requires : goal.slot_of_row-slot-requires
slot_of_row-slot-requires g c =
    let pages : c.pages_needed-count.result ≡ needed (c.args.directory.now.tail % 4096) (name_entries Add c.args.new.now.inode c.args.new.now.name.now c.args.new.now.time) = c.pages_needed-count.ensures ∙ ap (λ (e : Entry). needed (c.args.directory.now.tail % 4096) (e ∷ [])) c.name_entry.ensures in
    let w = split_taken c.in_ok-blocks.blocks.items (1 + needed (c.args.directory.now.tail % 4096) (name_entries Add c.args.new.now.inode c.args.new.now.name.now c.args.new.now.time)) c.index.result.now c.in_ok-blocks.ensures.taken.each (omega (arith, c.in_ok-blocks.ensures.taken.count_is, pages)) c.index.ensures in
    let grows = c.in_ok-link_table.ensures.grown c.args.free.now w.0 c.requires.can.grow w.1 in
    let linked = c.in_ok-link_table.ensures.kept c.args.free.now w.0 (taken_sup w.1) in
    then_has c.are_laid.ensures c.requires.can.grow grows c.args.new.now.inode c.requires.number

pub slot_of_row-parent-requires : goal.slot_of_row-parent-requires
slot_of_row-parent-requires g c =
    let pages : c.pages_needed-count.result ≡ needed (c.args.directory.now.tail % 4096) (name_entries Add c.args.new.now.inode c.args.new.now.name.now c.args.new.now.time) = c.pages_needed-count.ensures ∙ ap (λ (e : Entry). needed (c.args.directory.now.tail % 4096) (e ∷ [])) c.name_entry.ensures in
    let w = split_taken c.in_ok-blocks.blocks.items (1 + needed (c.args.directory.now.tail % 4096) (name_entries Add c.args.new.now.inode c.args.new.now.name.now c.args.new.now.time)) c.index.result.now c.in_ok-blocks.ensures.taken.each (omega (arith, c.in_ok-blocks.ensures.taken.count_is, pages)) c.index.ensures in
    let grows = c.in_ok-link_table.ensures.grown c.args.free.now w.0 c.requires.can.grow w.1 in
    let linked = c.in_ok-link_table.ensures.kept c.args.free.now w.0 (taken_sup w.1) in
    subst (λ (i : ℕ). IsTrue (has_slot c.link_table.new.tables.layout i)) (sym c.in_ok-blocks.ensures.row.inode) (then_kept c.are_laid.ensures c.requires.can.grow grows c.args.directory.now.inode c.requires.stands.number)

pub slice_bounds-commit_name-count : goal.slice_bounds-commit_name-count
slice_bounds-commit_name-count g c = subst (λ (xs : List ℕ). 1 ≤ length xs) (sym c.deref.ensures.value) (omega (arith, c.in_ok-blocks.ensures.taken.count_is))

pub commit_name-requires-clause-can : goal.commit_name-requires-clause-can
commit_name-requires-clause-can g c =
    let pages : c.pages_needed-count.result ≡ needed (c.args.directory.now.tail % 4096) (name_entries Add c.args.new.now.inode c.args.new.now.name.now c.args.new.now.time) = c.pages_needed-count.ensures ∙ ap (λ (e : Entry). needed (c.args.directory.now.tail % 4096) (e ∷ [])) c.name_entry.ensures in
    let w = split_taken c.in_ok-blocks.blocks.items (1 + needed (c.args.directory.now.tail % 4096) (name_entries Add c.args.new.now.inode c.args.new.now.name.now c.args.new.now.time)) c.index.result.now c.in_ok-blocks.ensures.taken.each (omega (arith, c.in_ok-blocks.ensures.taken.count_is, pages)) c.index.ensures in
    let grows = c.in_ok-link_table.ensures.grown c.args.free.now w.0 c.requires.can.grow w.1 in
    let linked = c.in_ok-link_table.ensures.kept c.args.free.now w.0 (taken_sup w.1) in
    let others = all_others c.deref.result.now (length c.deref.result.now) refl ∙ ap (λ (xs : List ℕ). drop 1 xs) c.deref.ensures.value in
    let can = then_commits c.are_laid.ensures c.requires.can.grow grows {time = c.args.new.now.time} {row = c.args.directory.now} {ready = c.prepare_name.new.directory} {name = c.args.new.now.name.now} linked.length c.requires.stands c.requires.can.journal_empty c.requires.can.in_data c.requires.number c.slot_of_row-slot.ensures.value c.slot_of_row-parent.ensures.value
    (subst (λ (xs : List ℕ). TakesEach w.0 c.args.cpu xs c.prepare_name.new.free) (sym others) w.2) (ap (λ (xs : List ℕ). length xs) others ∙ rest_count c.in_ok-blocks.blocks.items (1 + needed (c.args.directory.now.tail % 4096) (name_entries Add c.args.new.now.inode c.args.new.now.name.now c.args.new.now.time)) (omega (arith, c.in_ok-blocks.ensures.taken.count_is, pages))) c.in_ok-blocks.ensures.row c.in_ok-blocks.ensures.once in
    (c.link_table.new.tables.layout, w.0, c.prepare_name.new.free, c.args.directory.now, can)

pub commit_name-requires-clause-row : goal.commit_name-requires-clause-row
commit_name-requires-clause-row g c =
    record {
      pages = (let pages : c.pages_needed-count.result ≡ needed (c.args.directory.now.tail % 4096) (name_entries Add c.args.new.now.inode c.args.new.now.name.now c.args.new.now.time) = c.pages_needed-count.ensures ∙ ap (λ (e : Entry). needed (c.args.directory.now.tail % 4096) (e ∷ [])) c.name_entry.ensures in
          let others = all_others c.deref.result.now (length c.deref.result.now) refl ∙ ap (λ (xs : List ℕ). drop 1 xs) c.deref.ensures.value in
          let count = ap (λ (xs : List ℕ). length xs) others ∙ rest_count c.in_ok-blocks.blocks.items (1 + needed (c.args.directory.now.tail % 4096) (name_entries Add c.args.new.now.inode c.args.new.now.name.now c.args.new.now.time)) (omega (arith, c.in_ok-blocks.ensures.taken.count_is, pages)) in
          let room = c.in_ok-blocks.ensures.room in
          omega (arith, room, count, pages));
      names = c.in_ok-blocks.ensures.names_room;
      is_name = c.requires.is_name;
    }

pub returns-in_err-blocks-clause-made : goal.returns-in_err-blocks-clause-made
returns-in_err-blocks-clause-made g c = IfOk-from_err c.from_residual.result _ c.from_residual.ensures.0

pub returns-in_err-blocks-clause-needs : goal.returns-in_err-blocks-clause-needs
returns-in_err-blocks-clause-needs g c =
    let pages : c.pages_needed-count.result ≡ needed (c.args.directory.now.tail % 4096) (name_entries Add c.args.new.now.inode c.args.new.now.name.now c.args.new.now.time) = c.pages_needed-count.ensures ∙ ap (λ (e : Entry). needed (c.args.directory.now.tail % 4096) (e ∷ [])) c.name_entry.ensures in
    record {
      enough = IfOk-from_err c.from_residual.result _ c.from_residual.ensures.0;
      refused = let w = err_from_is_err_and c.from_residual.result c.from_residual.ensures.1 in
          refused_by c.from_residual.result c.in_err-blocks.field-0.0 w.0 (λ (e : Refusal). RefusesStep e (2 + needed (c.args.directory.now.tail % 4096) (name_entries Add c.args.new.now.inode c.args.new.now.name.now c.args.new.now.time)) c.args.free.now) w.1 w.2
          (subst (λ (n : ℕ). RefusesStep c.in_err-blocks.field-0.0 (2 + n) c.args.free.now) pages c.in_err-blocks.ensures.needs.refused);
    }

pub returns-in_err-blocks-clause-kept : goal.returns-in_err-blocks-clause-kept
returns-in_err-blocks-clause-kept g c =
    nothing_stored (IfOk-from_err c.from_residual.result _ c.from_residual.ensures.0) (let w = err_from_is_err_and c.from_residual.result c.from_residual.ensures.1 in
    refused_by c.from_residual.result c.in_err-blocks.field-0.0 w.0 (λ (e : Refusal). e ≡ Stopped → IsTrue (g.P.Pmem.fuse c.args.memory.now).has_burnt) w.1 w.2 (λ is. absurd (c.in_err-blocks.ensures.goes_on is))) (c.in_err-blocks.ensures.unchanged.sup)

pub returns-in_err-blocks-clause-unchanged : goal.returns-in_err-blocks-clause-unchanged
returns-in_err-blocks-clause-unchanged g c =
    let w = err_from_is_err_and c.from_residual.result c.from_residual.ensures.1 in
    refused_by c.from_residual.result c.in_err-blocks.field-0.0 w.0 (λ (e : Refusal). (e ≡ Stopped → ⊥) → LeavesTables c.args.memory.now c.args.memory.now c.args.free.now c.prepare_name.new.free c.args.directory.now c.prepare_name.new.directory c.args.tables.now.layout c.args.tables.now.layout) w.1 w.2
    (λ _. record { step = record { memory = refl; free = c.in_err-blocks.ensures.unchanged; row = c.in_err-blocks.ensures.row }; layout = refl })

pub returns-in_err-blocks-clause-tables : goal.returns-in_err-blocks-clause-tables
returns-in_err-blocks-clause-tables g c =
    record {
      tables = record { layout = inl refl; faults = refl };
      inode = c.in_err-blocks.ensures.row.inode;
    }

pub returns-in_err-blocks-clause-wrote : goal.returns-in_err-blocks-clause-wrote
returns-in_err-blocks-clause-wrote g c held h shows = stores_nothing c.args.tables.now.layout held (grown_more c.args.tables.now.layout c.args.cpu c.args.directory.now.inode) (g.P.Pmem.region c.args.memory.now)

pub returns-in_err-blocks-clause-in_order : goal.returns-in_err-blocks-clause-in_order
returns-in_err-blocks-clause-in_order g c held h shows = inl refl

pub returns-in_err-blocks-clause-any_stop : goal.returns-in_err-blocks-clause-any_stop
returns-in_err-blocks-clause-any_stop g c held h shows absent settled left may =
    let free_shows : ShowsFree (g.P.Pmem.region c.args.memory.now) c.args.tables.now.layout held c.args.free.now = record { sound = shows.sound; lists = shows.lists } in
    grown_left c.args.directory.now c.args.new.now.kind c.args.new.now.mode c.args.new.now.time c.args.new.now.name.now free_shows c.requires.number left (still _ _ c.args.tables.now.layout held (TableGrown (g.P.Pmem.region c.args.memory.now) c.args.tables.now.layout c.args.free.now c.args.cpu) shows.sound settled left may)

pub returns-in_err-link_table-clause-made : goal.returns-in_err-link_table-clause-made
returns-in_err-link_table-clause-made g c = IfOk-from_err c.from_residual-in_err-link_table.result _ c.from_residual-in_err-link_table.ensures.0

pub returns-in_err-link_table-clause-needs : goal.returns-in_err-link_table-clause-needs
returns-in_err-link_table-clause-needs g c =
    record {
      enough = IfOk-from_err c.from_residual-in_err-link_table.result _ c.from_residual-in_err-link_table.ensures.0;
      refused = let w = err_from_is_err_and c.from_residual-in_err-link_table.result c.from_residual-in_err-link_table.ensures.1 in
          refused_by c.from_residual-in_err-link_table.result c.in_err-link_table.field-0.0 w.0 (λ (e : Refusal). RefusesStep e (2 + needed (c.args.directory.now.tail % 4096) (name_entries Add c.args.new.now.inode c.args.new.now.name.now c.args.new.now.time)) c.args.free.now) w.1 w.2 (inr (inl c.in_err-link_table.ensures.stopped));
    }

pub returns-in_err-link_table-clause-kept : goal.returns-in_err-link_table-clause-kept
returns-in_err-link_table-clause-kept g c =
    let w = err_from_is_err_and c.from_residual-in_err-link_table.result c.from_residual-in_err-link_table.ensures.1 in
    kept_refused c.from_residual-in_err-link_table.result c.in_err-link_table.field-0.0 w.0 w.1 w.2 (c.in_err-link_table.ensures.kept c.args.free.now c.prepare_name.new.free (taken_sup c.in_ok-blocks.ensures.taken.each))

pub returns-in_err-link_table-clause-unchanged : goal.returns-in_err-link_table-clause-unchanged
returns-in_err-link_table-clause-unchanged g c =
    let w = err_from_is_err_and c.from_residual-in_err-link_table.result c.from_residual-in_err-link_table.ensures.1 in
    refused_by c.from_residual-in_err-link_table.result c.in_err-link_table.field-0.0 w.0 (λ (e : Refusal). (e ≡ Stopped → ⊥) → LeavesTables c.args.memory.now c.link_table.new.memory c.args.free.now c.prepare_name.new.free c.args.directory.now c.prepare_name.new.directory c.args.tables.now.layout c.link_table.new.tables.layout) w.1 w.2
    (λ off. absurd (off c.in_err-link_table.ensures.stopped))

pub returns-in_err-link_table-clause-tables : goal.returns-in_err-link_table-clause-tables
returns-in_err-link_table-clause-tables g c =
    record {
      tables = record { layout = inl c.in_err-link_table.ensures.tables; faults = c.link_table.ensures.faults };
      inode = c.in_ok-blocks.ensures.row.inode;
    }

pub returns-in_err-link_table-clause-wrote : goal.returns-in_err-link_table-clause-wrote
returns-in_err-link_table-clause-wrote g c held h shows =
    let pages : c.pages_needed-count.result ≡ needed (c.args.directory.now.tail % 4096) (name_entries Add c.args.new.now.inode c.args.new.now.name.now c.args.new.now.time) = c.pages_needed-count.ensures ∙ ap (λ (e : Entry). needed (c.args.directory.now.tail % 4096) (e ∷ [])) c.name_entry.ensures in
    let w = split_taken c.in_ok-blocks.blocks.items (1 + needed (c.args.directory.now.tail % 4096) (name_entries Add c.args.new.now.inode c.args.new.now.name.now c.args.new.now.time)) c.index.result.now c.in_ok-blocks.ensures.taken.each (omega (arith, c.in_ok-blocks.ensures.taken.count_is, pages)) c.index.ensures in
    let free_shows : ShowsFree (g.P.Pmem.region c.args.memory.now) c.args.tables.now.layout held c.args.free.now = record { sound = shows.sound; lists = shows.lists } in
    link_in c.are_laid.ensures c.requires.can.grow w.1 free_shows (g.P.Pmem.region c.link_table.new.memory) c.args.directory.now.inode (c.link_table.ensures.wrote c.args.free.now w.0 c.requires.can.grow w.1 held free_shows)

pub returns-in_err-link_table-clause-in_order : goal.returns-in_err-link_table-clause-in_order
returns-in_err-link_table-clause-in_order g c held h shows =
    let pages : c.pages_needed-count.result ≡ needed (c.args.directory.now.tail % 4096) (name_entries Add c.args.new.now.inode c.args.new.now.name.now c.args.new.now.time) = c.pages_needed-count.ensures ∙ ap (λ (e : Entry). needed (c.args.directory.now.tail % 4096) (e ∷ [])) c.name_entry.ensures in
    let w = split_taken c.in_ok-blocks.blocks.items (1 + needed (c.args.directory.now.tail % 4096) (name_entries Add c.args.new.now.inode c.args.new.now.name.now c.args.new.now.time)) c.index.result.now c.in_ok-blocks.ensures.taken.each (omega (arith, c.in_ok-blocks.ensures.taken.count_is, pages)) c.index.ensures in
    let free_shows : ShowsFree (g.P.Pmem.region c.args.memory.now) c.args.tables.now.layout held c.args.free.now = record { sound = shows.sound; lists = shows.lists } in
    inl (subst (λ (x : Layout). word (g.P.Pmem.region c.link_table.new.memory) (tail_address x c.args.directory.now.inode) ≡ word (g.P.Pmem.region c.args.memory.now) (tail_address x c.args.directory.now.inode)) (sym c.in_err-link_table.ensures.tables)
    (tail_stays c.are_laid.ensures c.requires.can.grow w.1 free_shows c.args.directory.now.inode c.requires.stands.number (g.P.Pmem.region c.link_table.new.memory) (c.link_table.ensures.wrote c.args.free.now w.0 c.requires.can.grow w.1 held free_shows)))

pub returns-in_err-link_table-clause-any_stop : goal.returns-in_err-link_table-clause-any_stop
returns-in_err-link_table-clause-any_stop g c held h shows absent settled left may =
    let pages : c.pages_needed-count.result ≡ needed (c.args.directory.now.tail % 4096) (name_entries Add c.args.new.now.inode c.args.new.now.name.now c.args.new.now.time) = c.pages_needed-count.ensures ∙ ap (λ (e : Entry). needed (c.args.directory.now.tail % 4096) (e ∷ [])) c.name_entry.ensures in
    let w = split_taken c.in_ok-blocks.blocks.items (1 + needed (c.args.directory.now.tail % 4096) (name_entries Add c.args.new.now.inode c.args.new.now.name.now c.args.new.now.time)) c.index.result.now c.in_ok-blocks.ensures.taken.each (omega (arith, c.in_ok-blocks.ensures.taken.count_is, pages)) c.index.ensures in
    let free_shows : ShowsFree (g.P.Pmem.region c.args.memory.now) c.args.tables.now.layout held c.args.free.now = record { sound = shows.sound; lists = shows.lists } in
    grown_left c.args.directory.now c.args.new.now.kind c.args.new.now.mode c.args.new.now.time c.args.new.now.name.now free_shows c.requires.number left (c.link_table.ensures.any_stop c.args.free.now w.0 c.requires.can.grow w.1 held free_shows settled left may)

pub returns-clause-made : goal.returns-clause-made
returns-clause-made g c =
    let pages : c.pages_needed-count.result ≡ needed (c.args.directory.now.tail % 4096) (name_entries Add c.args.new.now.inode c.args.new.now.name.now c.args.new.now.time) = c.pages_needed-count.ensures ∙ ap (λ (e : Entry). needed (c.args.directory.now.tail % 4096) (e ∷ [])) c.name_entry.ensures in
    let w = split_taken c.in_ok-blocks.blocks.items (1 + needed (c.args.directory.now.tail % 4096) (name_entries Add c.args.new.now.inode c.args.new.now.name.now c.args.new.now.time)) c.index.result.now c.in_ok-blocks.ensures.taken.each (omega (arith, c.in_ok-blocks.ensures.taken.count_is, pages)) c.index.ensures in
    let grows = c.in_ok-link_table.ensures.grown c.args.free.now w.0 c.requires.can.grow w.1 in
    let linked = c.in_ok-link_table.ensures.kept c.args.free.now w.0 (taken_sup w.1) in
    let others = all_others c.deref.result.now (length c.deref.result.now) refl ∙ ap (λ (xs : List ℕ). drop 1 xs) c.deref.ensures.value in
    let can = then_commits c.are_laid.ensures c.requires.can.grow grows {time = c.args.new.now.time} {row = c.args.directory.now} {ready = c.prepare_name.new.directory} {name = c.args.new.now.name.now} linked.length c.requires.stands c.requires.can.journal_empty c.requires.can.in_data c.requires.number c.slot_of_row-slot.ensures.value c.slot_of_row-parent.ensures.value
    (subst (λ (xs : List ℕ). TakesEach w.0 c.args.cpu xs c.prepare_name.new.free) (sym others) w.2) (ap (λ (xs : List ℕ). length xs) others ∙ rest_count c.in_ok-blocks.blocks.items (1 + needed (c.args.directory.now.tail % 4096) (name_entries Add c.args.new.now.inode c.args.new.now.name.now c.args.new.now.time)) (omega (arith, c.in_ok-blocks.ensures.taken.count_is, pages))) c.in_ok-blocks.ensures.row c.in_ok-blocks.ensures.once in
    IfOk-weaker c.commit_name.result
    (λ (made : Row). MakesNamed (g.P.Pmem.region c.link_table.new.memory) (g.P.Pmem.region c.commit_name.new.memory) c.link_table.new.tables.layout w.0 c.prepare_name.new.free c.args.cpu c.args.directory.now c.commit_name.new.directory c.args.new.now.kind c.args.new.now.mode c.args.new.now.time c.args.new.now.inode c.args.new.now.name.now made)
    (λ (made : Row). GrowsAndNames (g.P.Pmem.region c.args.memory.now) (g.P.Pmem.region c.commit_name.new.memory) c.args.tables.now.layout c.link_table.new.tables.layout c.args.free.now c.prepare_name.new.free c.args.cpu c.args.directory.now c.commit_name.new.directory c.args.new.now.kind c.args.new.now.mode c.args.new.now.time c.args.new.now.inode c.args.new.now.name.now made)
    (λ made makes. record { middle = g.P.Pmem.region c.link_table.new.memory; mid = w.0; grows = subst (λ (n : ℕ). GrowsTable (g.P.Pmem.region c.args.memory.now) (g.P.Pmem.region c.link_table.new.memory) c.args.tables.now.layout c.link_table.new.tables.layout c.args.free.now w.0 c.args.cpu n) (sym c.requires.number) grows; makes = makes })
    (c.commit_name.ensures.made c.link_table.new.tables.layout w.0 c.prepare_name.new.free c.args.directory.now can)

pub returns-clause-needs : goal.returns-clause-needs
returns-clause-needs g c =
    let pages : c.pages_needed-count.result ≡ needed (c.args.directory.now.tail % 4096) (name_entries Add c.args.new.now.inode c.args.new.now.name.now c.args.new.now.time) = c.pages_needed-count.ensures ∙ ap (λ (e : Entry). needed (c.args.directory.now.tail % 4096) (e ∷ [])) c.name_entry.ensures in
    record {
      enough = on_ok_always c.commit_name.result (subst (λ (n : ℕ). 2 + n ≤ all_blocks c.args.free.now.pools) pages c.in_ok-blocks.ensures.needs.enough);
      refused = IfErr-weaker c.commit_name.result (λ e. e ≡ Stopped) (λ (e : Refusal). RefusesStep e (2 + needed (c.args.directory.now.tail % 4096) (name_entries Add c.args.new.now.inode c.args.new.now.name.now c.args.new.now.time)) c.args.free.now) (λ e is. inr (inl is)) c.commit_name.ensures.stopped;
    }

pub returns-clause-kept : goal.returns-clause-kept
returns-clause-kept g c =
    let pages : c.pages_needed-count.result ≡ needed (c.args.directory.now.tail % 4096) (name_entries Add c.args.new.now.inode c.args.new.now.name.now c.args.new.now.time) = c.pages_needed-count.ensures ∙ ap (λ (e : Entry). needed (c.args.directory.now.tail % 4096) (e ∷ [])) c.name_entry.ensures in
    let w = split_taken c.in_ok-blocks.blocks.items (1 + needed (c.args.directory.now.tail % 4096) (name_entries Add c.args.new.now.inode c.args.new.now.name.now c.args.new.now.time)) c.index.result.now c.in_ok-blocks.ensures.taken.each (omega (arith, c.in_ok-blocks.ensures.taken.count_is, pages)) c.index.ensures in
    let grows = c.in_ok-link_table.ensures.grown c.args.free.now w.0 c.requires.can.grow w.1 in
    let linked = c.in_ok-link_table.ensures.kept c.args.free.now w.0 (taken_sup w.1) in
    kept_then linked (c.commit_name.ensures.kept w.0 c.prepare_name.new.free (taken_sup w.2))

pub returns-clause-unchanged : goal.returns-clause-unchanged
returns-clause-unchanged g c =
    IfErr-weaker c.commit_name.result (λ e. e ≡ Stopped) (λ (e : Refusal). (e ≡ Stopped → ⊥) → LeavesTables c.args.memory.now c.commit_name.new.memory c.args.free.now c.prepare_name.new.free c.args.directory.now c.commit_name.new.directory c.args.tables.now.layout c.link_table.new.tables.layout) (λ e is off. absurd (off is)) c.commit_name.ensures.stopped

pub returns-clause-tables : goal.returns-clause-tables
returns-clause-tables g c =
    record {
      tables = let pages : c.pages_needed-count.result ≡ needed (c.args.directory.now.tail % 4096) (name_entries Add c.args.new.now.inode c.args.new.now.name.now c.args.new.now.time) = c.pages_needed-count.ensures ∙ ap (λ (e : Entry). needed (c.args.directory.now.tail % 4096) (e ∷ [])) c.name_entry.ensures in
          let w = split_taken c.in_ok-blocks.blocks.items (1 + needed (c.args.directory.now.tail % 4096) (name_entries Add c.args.new.now.inode c.args.new.now.name.now c.args.new.now.time)) c.index.result.now c.in_ok-blocks.ensures.taken.each (omega (arith, c.in_ok-blocks.ensures.taken.count_is, pages)) c.index.ensures in
          let grows = c.in_ok-link_table.ensures.grown c.args.free.now w.0 c.requires.can.grow w.1 in
          let linked = c.in_ok-link_table.ensures.kept c.args.free.now w.0 (taken_sup w.1) in
          record { layout = inr (grows.block, grows.layout); faults = c.link_table.ensures.faults };
      inode = c.commit_name.ensures.inode ∙ c.in_ok-blocks.ensures.row.inode;
    }

pub returns-clause-wrote : goal.returns-clause-wrote
returns-clause-wrote g c held h shows =
    let pages : c.pages_needed-count.result ≡ needed (c.args.directory.now.tail % 4096) (name_entries Add c.args.new.now.inode c.args.new.now.name.now c.args.new.now.time) = c.pages_needed-count.ensures ∙ ap (λ (e : Entry). needed (c.args.directory.now.tail % 4096) (e ∷ [])) c.name_entry.ensures in
    let w = split_taken c.in_ok-blocks.blocks.items (1 + needed (c.args.directory.now.tail % 4096) (name_entries Add c.args.new.now.inode c.args.new.now.name.now c.args.new.now.time)) c.index.result.now c.in_ok-blocks.ensures.taken.each (omega (arith, c.in_ok-blocks.ensures.taken.count_is, pages)) c.index.ensures in
    let grows = c.in_ok-link_table.ensures.grown c.args.free.now w.0 c.requires.can.grow w.1 in
    let linked = c.in_ok-link_table.ensures.kept c.args.free.now w.0 (taken_sup w.1) in
    let others = all_others c.deref.result.now (length c.deref.result.now) refl ∙ ap (λ (xs : List ℕ). drop 1 xs) c.deref.ensures.value in
    let can = then_commits c.are_laid.ensures c.requires.can.grow grows {time = c.args.new.now.time} {row = c.args.directory.now} {ready = c.prepare_name.new.directory} {name = c.args.new.now.name.now} linked.length c.requires.stands c.requires.can.journal_empty c.requires.can.in_data c.requires.number c.slot_of_row-slot.ensures.value c.slot_of_row-parent.ensures.value
    (subst (λ (xs : List ℕ). TakesEach w.0 c.args.cpu xs c.prepare_name.new.free) (sym others) w.2) (ap (λ (xs : List ℕ). length xs) others ∙ rest_count c.in_ok-blocks.blocks.items (1 + needed (c.args.directory.now.tail % 4096) (name_entries Add c.args.new.now.inode c.args.new.now.name.now c.args.new.now.time)) (omega (arith, c.in_ok-blocks.ensures.taken.count_is, pages))) c.in_ok-blocks.ensures.row c.in_ok-blocks.ensures.once in
    let free_shows : ShowsFree (g.P.Pmem.region c.args.memory.now) c.args.tables.now.layout held c.args.free.now = record { sound = shows.sound; lists = shows.lists } in
    let there = row_shown (g.P.Pmem.region c.args.memory.now) (g.P.Pmem.region c.link_table.new.memory) c.args.tables.now.layout c.link_table.new.tables.layout c.args.free.now w.0 c.args.cpu (next_number c.args.tables.now.layout c.args.cpu) held h c.args.directory.now grows shows in
    let out : held c.args.new.now.inode ≡ None = ap held c.requires.number ∙ there.1 in
    then_stores c.are_laid.ensures c.requires.can.grow grows free_shows c.args.directory.now.inode c.args.new.now.inode c.requires.stands.number (c.link_table.ensures.wrote c.args.free.now w.0 c.requires.can.grow w.1 held free_shows) (g.P.Pmem.region c.commit_name.new.memory) c.requires.number
    (c.commit_name.ensures.wrote c.link_table.new.tables.layout w.0 c.prepare_name.new.free c.args.directory.now can held h there.0 out)

pub returns-clause-in_order : goal.returns-clause-in_order
returns-clause-in_order g c held h shows =
    let pages : c.pages_needed-count.result ≡ needed (c.args.directory.now.tail % 4096) (name_entries Add c.args.new.now.inode c.args.new.now.name.now c.args.new.now.time) = c.pages_needed-count.ensures ∙ ap (λ (e : Entry). needed (c.args.directory.now.tail % 4096) (e ∷ [])) c.name_entry.ensures in
    let w = split_taken c.in_ok-blocks.blocks.items (1 + needed (c.args.directory.now.tail % 4096) (name_entries Add c.args.new.now.inode c.args.new.now.name.now c.args.new.now.time)) c.index.result.now c.in_ok-blocks.ensures.taken.each (omega (arith, c.in_ok-blocks.ensures.taken.count_is, pages)) c.index.ensures in
    let grows = c.in_ok-link_table.ensures.grown c.args.free.now w.0 c.requires.can.grow w.1 in
    let linked = c.in_ok-link_table.ensures.kept c.args.free.now w.0 (taken_sup w.1) in
    let others = all_others c.deref.result.now (length c.deref.result.now) refl ∙ ap (λ (xs : List ℕ). drop 1 xs) c.deref.ensures.value in
    let can = then_commits c.are_laid.ensures c.requires.can.grow grows {time = c.args.new.now.time} {row = c.args.directory.now} {ready = c.prepare_name.new.directory} {name = c.args.new.now.name.now} linked.length c.requires.stands c.requires.can.journal_empty c.requires.can.in_data c.requires.number c.slot_of_row-slot.ensures.value c.slot_of_row-parent.ensures.value
    (subst (λ (xs : List ℕ). TakesEach w.0 c.args.cpu xs c.prepare_name.new.free) (sym others) w.2) (ap (λ (xs : List ℕ). length xs) others ∙ rest_count c.in_ok-blocks.blocks.items (1 + needed (c.args.directory.now.tail % 4096) (name_entries Add c.args.new.now.inode c.args.new.now.name.now c.args.new.now.time)) (omega (arith, c.in_ok-blocks.ensures.taken.count_is, pages))) c.in_ok-blocks.ensures.row c.in_ok-blocks.ensures.once in
    let free_shows : ShowsFree (g.P.Pmem.region c.args.memory.now) c.args.tables.now.layout held c.args.free.now = record { sound = shows.sound; lists = shows.lists } in
    let there = row_shown (g.P.Pmem.region c.args.memory.now) (g.P.Pmem.region c.link_table.new.memory) c.args.tables.now.layout c.link_table.new.tables.layout c.args.free.now w.0 c.args.cpu (next_number c.args.tables.now.layout c.args.cpu) held h c.args.directory.now grows shows in
    let out : held c.args.new.now.inode ≡ None = ap held c.requires.number ∙ there.1 in
    then_first c.are_laid.ensures c.requires.can.grow grows free_shows c.args.directory.now.inode c.args.new.now.inode c.requires.stands.number (c.link_table.ensures.wrote c.args.free.now w.0 c.requires.can.grow w.1 held free_shows) (g.P.Pmem.region c.commit_name.new.memory)
    (c.commit_name.ensures.in_order c.link_table.new.tables.layout w.0 c.prepare_name.new.free c.args.directory.now can held h there.0 out)

pub returns-clause-any_stop : goal.returns-clause-any_stop
returns-clause-any_stop g c held h shows absent settled left may =
    let pages : c.pages_needed-count.result ≡ needed (c.args.directory.now.tail % 4096) (name_entries Add c.args.new.now.inode c.args.new.now.name.now c.args.new.now.time) = c.pages_needed-count.ensures ∙ ap (λ (e : Entry). needed (c.args.directory.now.tail % 4096) (e ∷ [])) c.name_entry.ensures in
    let w = split_taken c.in_ok-blocks.blocks.items (1 + needed (c.args.directory.now.tail % 4096) (name_entries Add c.args.new.now.inode c.args.new.now.name.now c.args.new.now.time)) c.index.result.now c.in_ok-blocks.ensures.taken.each (omega (arith, c.in_ok-blocks.ensures.taken.count_is, pages)) c.index.ensures in
    let grows = c.in_ok-link_table.ensures.grown c.args.free.now w.0 c.requires.can.grow w.1 in
    let linked = c.in_ok-link_table.ensures.kept c.args.free.now w.0 (taken_sup w.1) in
    let others = all_others c.deref.result.now (length c.deref.result.now) refl ∙ ap (λ (xs : List ℕ). drop 1 xs) c.deref.ensures.value in
    let can = then_commits c.are_laid.ensures c.requires.can.grow grows {time = c.args.new.now.time} {row = c.args.directory.now} {ready = c.prepare_name.new.directory} {name = c.args.new.now.name.now} linked.length c.requires.stands c.requires.can.journal_empty c.requires.can.in_data c.requires.number c.slot_of_row-slot.ensures.value c.slot_of_row-parent.ensures.value
    (subst (λ (xs : List ℕ). TakesEach w.0 c.args.cpu xs c.prepare_name.new.free) (sym others) w.2) (ap (λ (xs : List ℕ). length xs) others ∙ rest_count c.in_ok-blocks.blocks.items (1 + needed (c.args.directory.now.tail % 4096) (name_entries Add c.args.new.now.inode c.args.new.now.name.now c.args.new.now.time)) (omega (arith, c.in_ok-blocks.ensures.taken.count_is, pages))) c.in_ok-blocks.ensures.row c.in_ok-blocks.ensures.once in
    let there = row_shown (g.P.Pmem.region c.args.memory.now) (g.P.Pmem.region c.link_table.new.memory) c.args.tables.now.layout c.link_table.new.tables.layout c.args.free.now w.0 c.args.cpu (next_number c.args.tables.now.layout c.args.cpu) held h c.args.directory.now grows shows in
    let out : held c.args.new.now.inode ≡ None = ap held c.requires.number ∙ there.1 in
    inr (g.P.Pmem.region c.link_table.new.memory, c.link_table.new.tables.layout, w.0, subst (λ (n : ℕ). GrowsTable (g.P.Pmem.region c.args.memory.now) (g.P.Pmem.region c.link_table.new.memory) c.args.tables.now.layout c.link_table.new.tables.layout c.args.free.now w.0 c.args.cpu n) (sym c.requires.number) grows, c.commit_name.ensures.any_stop c.link_table.new.tables.layout w.0 c.prepare_name.new.free c.args.directory.now can held h there.0 out absent linked.settled left may)
