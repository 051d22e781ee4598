use Rattle.std.proofs.Common.{◌≡◌, ◌∙◌, ◌+◌, ◌%◌, ◌≤◌, List, ℕ, None, ap, refl, subst, sym, inl}
use Rattle.std.proofs.lemmas.Result.{err_from_is_err_and}
use Rattle.nv_region.specs.Stops.{LeavesOnly}
use Rattle.nv_journal.specs.InOrder.{FirstIsFirst}
use Rattle.nv_alloc.specs.Taking.{all_blocks}
use Rattle.nv_entry.specs.declared.entry.Operation.TheVariants.{Add}
use Rattle.nv_logpage.specs.Append.{needed}
use Rattle.nv_names.specs.Names.{name_at}
use Rattle.nv_scan.specs.declared.piece.Row.{Row}
use Rattle.nv_rows.specs.Rows.{IsInUse, HasInserted, row_of}
use Rattle.nv_rows.specs.Unused.{IsTableNumber}
use Rattle.nv_rows.proofs.Places.{at_place, in_use}
use Rattle.nv_rows.proofs.TableNumbers.{numbers_kept}
use Rattle.nv_tree.specs.declared.refusal.Refusal.{Refusal}
use Rattle.nv_tree.specs.declared.refusal.Refusal.TheVariants.{Stopped}
use Rattle.nv_tree.proofs.Replies.{refused_by}
use Rattle.nv_commit.specs.Stopped.{LeavesEither}
use Rattle.nv_commit.proofs.Left.{still}
use Rattle.nv_steps.specs.InOrder.{tail_address}
use Rattle.nv_steps.specs.NameEntries.{name_entries}
use Rattle.nv_steps.specs.Slots.{slot_in}
use Rattle.nv_steps.specs.Steps.{RefusesStep, ShowsRow}
use Rattle.nv_steps.specs.Stopped.{Named}
use Rattle.nv_steps.specs.Stores.{StoresIn, one_more}
use Rattle.nv_steps.proofs.Kept.{kept_refused, nothing_stored}
use Rattle.nv_steps.proofs.Stores.{stores_nothing}
use Rattle.nv_calls.specs.AtPlaces.{LeavesRows}
use Rattle.nv_calls.proofs.GrowingPlaces.{fits_table}
use Rattle.nv_calls.proofs.OneOut.{gave_back, left_back, told_row}
use Rattle.nv_calls.proofs.PutRow.{leaves_all}
use Rattle.nv_calls.proofs.TwoRows.{last_used}
use Rattle.nv_calls.proofs.creating.create_in_table.Goals as goal

pub row-requires : goal.row-requires
row-requires g c = c.requires.can.in_use

pub lend-row-requires : goal.lend-row-requires
lend-row-requires g c = subst (λ (rows : List Row). IsInUse rows c.args.directory) (sym c.reserve.ensures.rows) c.requires.can.in_use

pub make_named-made-requires : goal.make_named-made-requires
make_named-made-requires g c =
    record {
      stands = (c.requires.can.stands c.lend-row.result (ap (λ (rows : List Row). row_of rows c.args.directory) (sym c.reserve.ensures.rows) ∙ c.lend-row.ensures.row));
      can = (let can = c.requires.can.can c.lend-row.result (ap (λ (rows : List Row). row_of rows c.args.directory) (sym c.reserve.ensures.rows) ∙ c.lend-row.ensures.row) in
          record { cpu_below = can.cpu_below; journal_empty = can.journal_empty; number = c.requires.slot; in_data = can.in_data });
      given = c.requires.can.good;
    }

pub give_back-requires : goal.give_back-requires
give_back-requires g c =
    last_used c.reserve.new.self.items c.lend-row.new.self.items c.args.directory c.make_named-made.new.directory (in_use c.reserve.new.self.items c.args.directory c.lend-row.result c.lend-row.ensures.row) c.lend-row.ensures.lent (c.make_named-made.ensures.inode ∙ c.lend-row.ensures.number)

pub insert-requires-clause-within : goal.insert-requires-clause-within
insert-requires-clause-within g c =
    subst (λ (i : ℕ). IsTableNumber c.give_back.new.self.sup.cpus c.give_back.new.self.sizes i) (sym c.in_ok-made.ensures.made.row.inode)
    (fits_table c.are_laid.ensures (numbers_kept {new = c.give_back.new.self} (c.give_back.ensures.sup ∙ c.lend-row.ensures.sup ∙ c.reserve.ensures.sup) (c.give_back.ensures.sizes ∙ c.lend-row.ensures.sizes ∙ c.reserve.ensures.sizes) c.requires.can.numbers) c.args.new.now.inode c.requires.slot)

pub insert-requires-clause-vacant : goal.insert-requires-clause-vacant
insert-requires-clause-vacant g c =
    let back = gave_back c.reserve.ensures.rows c.lend-row.ensures.row c.lend-row.ensures.lent c.give_back.ensures.rows (c.make_named-made.ensures.inode ∙ c.lend-row.ensures.number) in
    ap (row_of c.give_back.new.self.items) c.in_ok-made.ensures.made.row.inode ∙ back.vacant c.args.new.now.inode c.requires.can.unused

-- ---- too few blocks

pub returns-then-free_blocks-pages_needed-clause-kept : goal.returns-then-free_blocks-pages_needed-clause-kept
returns-then-free_blocks-pages_needed-clause-kept g c =
    record {
      step = nothing_stored tt (λ is. absurd (cc)) refl;
      unchanged = λ off. leaves_all c.args.memory.now c.args.free.now c.args.rows.now.items c.args.rows.now.items refl;
      tables = (refl, refl);
    }

pub returns-then-free_blocks-pages_needed-clause-wrote : goal.returns-then-free_blocks-pages_needed-clause-wrote
returns-then-free_blocks-pages_needed-clause-wrote g c row held h is shows out = stores_nothing c.args.tables.now.layout held (one_more c.args.tables.now.layout c.args.cpu c.args.new.now.inode row.inode) (g.P.Pmem.region c.args.memory.now)

pub returns-then-free_blocks-pages_needed-clause-in_order : goal.returns-then-free_blocks-pages_needed-clause-in_order
returns-then-free_blocks-pages_needed-clause-in_order g c row held h is shows out = inl refl

pub returns-then-free_blocks-pages_needed-clause-any_stop : goal.returns-then-free_blocks-pages_needed-clause-any_stop
returns-then-free_blocks-pages_needed-clause-any_stop g c row held h is shows out absent settled = still _ _ c.args.tables.now.layout held (Named (g.P.Pmem.region c.args.memory.now) c.args.tables.now.layout c.args.free.now c.args.cpu row c.args.new.now.kind c.args.new.now.mode c.args.new.now.time c.args.new.now.inode c.args.new.now.name.now) shows.sound settled

-- ---- no memory

pub returns-then-is_err-clause-kept : goal.returns-then-is_err-clause-kept
returns-then-is_err-clause-kept g c =
    record {
      step = nothing_stored tt (λ is. absurd (cc)) refl;
      unchanged = λ off. leaves_all c.args.memory.now c.args.free.now c.args.rows.now.items c.reserve.new.self.items c.reserve.ensures.rows;
      tables = (c.reserve.ensures.sup, c.reserve.ensures.sizes);
    }

pub returns-then-is_err-clause-wrote : goal.returns-then-is_err-clause-wrote
returns-then-is_err-clause-wrote g c row held h is shows out = stores_nothing c.args.tables.now.layout held (one_more c.args.tables.now.layout c.args.cpu c.args.new.now.inode row.inode) (g.P.Pmem.region c.args.memory.now)

pub returns-then-is_err-clause-in_order : goal.returns-then-is_err-clause-in_order
returns-then-is_err-clause-in_order g c row held h is shows out = inl refl

pub returns-then-is_err-clause-any_stop : goal.returns-then-is_err-clause-any_stop
returns-then-is_err-clause-any_stop g c row held h is shows out absent settled = still _ _ c.args.tables.now.layout held (Named (g.P.Pmem.region c.args.memory.now) c.args.tables.now.layout c.args.free.now c.args.cpu row c.args.new.now.kind c.args.new.now.mode c.args.new.now.time c.args.new.now.inode c.args.new.now.name.now) shows.sound settled

-- ---- the step was refused

pub returns-in_err-made-clause-refused : goal.returns-in_err-made-clause-refused
returns-in_err-made-clause-refused g c row is =
    let w = err_from_is_err_and c.from_residual.result c.from_residual.ensures.1 in
    refused_by c.from_residual.result c.in_err-made.field-0.0 w.0
    (λ (e : Refusal). RefusesStep e (1 + needed (row.tail % 4096) (name_entries Add c.args.new.now.inode c.args.new.now.name.now c.args.new.now.time)) c.args.free.now) w.1 w.2
    (told_row c.args.directory (λ (r : Row). RefusesStep c.in_err-made.field-0.0 (1 + needed (r.tail % 4096) (name_entries Add c.args.new.now.inode c.args.new.now.name.now c.args.new.now.time)) c.args.free.now) c.reserve.ensures.rows c.lend-row.ensures.row is c.in_err-made.ensures.needs.refused)

pub returns-in_err-made-clause-kept : goal.returns-in_err-made-clause-kept
returns-in_err-made-clause-kept g c =
    let w = err_from_is_err_and c.from_residual.result c.from_residual.ensures.1 in
    record {
      step = kept_refused c.from_residual.result c.in_err-made.field-0.0 w.0 w.1 w.2 c.in_err-made.ensures.kept;
      unchanged = refused_by c.from_residual.result c.in_err-made.field-0.0 w.0
          (λ (e : Refusal). (e ≡ Stopped → ⊥) → LeavesRows c.args.memory.now c.make_named-made.new.memory c.args.free.now c.make_named-made.new.free c.args.rows.now.items c.give_back.new.self.items) w.1 w.2
          (λ off. left_back (gave_back c.reserve.ensures.rows c.lend-row.ensures.row c.lend-row.ensures.lent c.give_back.ensures.rows (c.make_named-made.ensures.inode ∙ c.lend-row.ensures.number)) (c.in_err-made.ensures.unchanged off));
      tables = (c.give_back.ensures.sup ∙ c.lend-row.ensures.sup ∙ c.reserve.ensures.sup, c.give_back.ensures.sizes ∙ c.lend-row.ensures.sizes ∙ c.reserve.ensures.sizes);
    }

pub returns-in_err-made-clause-wrote : goal.returns-in_err-made-clause-wrote
returns-in_err-made-clause-wrote g c row held h is shows out =
    told_row c.args.directory (λ (r : Row). ShowsRow (g.P.Pmem.region c.args.memory.now) c.args.tables.now.layout held h r c.args.free.now → StoresIn c.args.tables.now.layout held (one_more c.args.tables.now.layout c.args.cpu c.args.new.now.inode r.inode) (g.P.Pmem.region c.args.memory.now) (g.P.Pmem.region c.make_named-made.new.memory))
    c.reserve.ensures.rows c.lend-row.ensures.row is (λ seen. c.make_named-made.ensures.wrote held h seen out) shows

pub returns-in_err-made-clause-in_order : goal.returns-in_err-made-clause-in_order
returns-in_err-made-clause-in_order g c row held h is shows out =
    told_row c.args.directory (λ (r : Row). ShowsRow (g.P.Pmem.region c.args.memory.now) c.args.tables.now.layout held h r c.args.free.now → FirstIsFirst (g.P.Pmem.region c.args.memory.now) (slot_in c.args.tables.now.layout c.args.new.now.inode) 1 (tail_address c.args.tables.now.layout r.inode) (g.P.Pmem.region c.make_named-made.new.memory))
    c.reserve.ensures.rows c.lend-row.ensures.row is (λ seen. c.make_named-made.ensures.in_order held h seen out) shows

pub returns-in_err-made-clause-any_stop : goal.returns-in_err-made-clause-any_stop
returns-in_err-made-clause-any_stop g c row held h is shows out absent settled =
    told_row c.args.directory (λ (r : Row). ShowsRow (g.P.Pmem.region c.args.memory.now) c.args.tables.now.layout held h r c.args.free.now → name_at r.names c.args.new.now.name.now ≡ None
    → LeavesOnly (g.P.Pmem.region c.make_named-made.new.memory) (g.P.Pmem.may_hold c.make_named-made.new.memory) (LeavesEither (g.P.Pmem.region c.args.memory.now) c.args.tables.now.layout held (Named (g.P.Pmem.region c.args.memory.now) c.args.tables.now.layout c.args.free.now c.args.cpu r c.args.new.now.kind c.args.new.now.mode c.args.new.now.time c.args.new.now.inode c.args.new.now.name.now)))
    c.reserve.ensures.rows c.lend-row.ensures.row is (λ seen none. c.make_named-made.ensures.any_stop held h seen out none settled) shows absent

-- ---- it was done

pub returns-clause-created : goal.returns-clause-created
returns-clause-created g c =
    let back = gave_back c.reserve.ensures.rows c.lend-row.ensures.row c.lend-row.ensures.lent c.give_back.ensures.rows (c.make_named-made.ensures.inode ∙ c.lend-row.ensures.number) in
    record {
      row = c.lend-row.result;
      now = c.make_named-made.new.directory;
      made = c.in_ok-made.field-0;
      at = at_place c.args.rows.now.items c.args.directory ∙ back.row;
      step = c.in_ok-made.ensures.made;
      put = subst (λ (rows : List Row). HasInserted rows c.insert.new.self.items c.in_ok-made.field-0) back.put c.insert.ensures.rows;
    }

pub returns-clause-enough : goal.returns-clause-enough
returns-clause-enough g c row is =
    told_row c.args.directory (λ (r : Row). 1 + needed (r.tail % 4096) (name_entries Add c.args.new.now.inode c.args.new.now.name.now c.args.new.now.time) ≤ all_blocks c.args.free.now.pools)
    c.reserve.ensures.rows c.lend-row.ensures.row is c.in_ok-made.ensures.needs.enough

pub returns-clause-wrote : goal.returns-clause-wrote
returns-clause-wrote g c row held h is shows out =
    told_row c.args.directory (λ (r : Row). ShowsRow (g.P.Pmem.region c.args.memory.now) c.args.tables.now.layout held h r c.args.free.now → StoresIn c.args.tables.now.layout held (one_more c.args.tables.now.layout c.args.cpu c.args.new.now.inode r.inode) (g.P.Pmem.region c.args.memory.now) (g.P.Pmem.region c.make_named-made.new.memory))
    c.reserve.ensures.rows c.lend-row.ensures.row is (λ seen. c.make_named-made.ensures.wrote held h seen out) shows

pub returns-clause-in_order : goal.returns-clause-in_order
returns-clause-in_order g c row held h is shows out =
    told_row c.args.directory (λ (r : Row). ShowsRow (g.P.Pmem.region c.args.memory.now) c.args.tables.now.layout held h r c.args.free.now → FirstIsFirst (g.P.Pmem.region c.args.memory.now) (slot_in c.args.tables.now.layout c.args.new.now.inode) 1 (tail_address c.args.tables.now.layout r.inode) (g.P.Pmem.region c.make_named-made.new.memory))
    c.reserve.ensures.rows c.lend-row.ensures.row is (λ seen. c.make_named-made.ensures.in_order held h seen out) shows

pub returns-clause-any_stop : goal.returns-clause-any_stop
returns-clause-any_stop g c row held h is shows out absent settled =
    told_row c.args.directory (λ (r : Row). ShowsRow (g.P.Pmem.region c.args.memory.now) c.args.tables.now.layout held h r c.args.free.now → name_at r.names c.args.new.now.name.now ≡ None
    → LeavesOnly (g.P.Pmem.region c.make_named-made.new.memory) (g.P.Pmem.may_hold c.make_named-made.new.memory) (LeavesEither (g.P.Pmem.region c.args.memory.now) c.args.tables.now.layout held (Named (g.P.Pmem.region c.args.memory.now) c.args.tables.now.layout c.args.free.now c.args.cpu r c.args.new.now.kind c.args.new.now.mode c.args.new.now.time c.args.new.now.inode c.args.new.now.name.now)))
    c.reserve.ensures.rows c.lend-row.ensures.row is (λ seen none. c.make_named-made.ensures.any_stop held h seen out none settled) shows absent
