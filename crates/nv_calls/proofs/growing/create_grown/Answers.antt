use Rattle.std.proofs.Common.{◌≡◌, ◌∙◌, ◌+◌, ◌%◌, ◌<◌, ◌≤◌, List, ℕ, None, ap, refl, subst, sym, inl, inr}
use Rattle.std.proofs.lemmas.Result.{err_from_is_err_and}
use Rattle.nv_region.specs.Stops.{LeavesOnly}
use Rattle.nv_journal.specs.InOrder.{FirstIsFirst}
use Rattle.nv_super.specs.declared.superblock.Super.{Super}
use Rattle.nv_super.specs.Layout.{Layout}
use Rattle.nv_inode.specs.Chains.{IsLaid}
use Rattle.nv_inode.specs.Numbers.{next_number}
use Rattle.nv_alloc.specs.Taking.{all_blocks}
use Rattle.nv_entry.specs.declared.entry.Operation.TheVariants.{Add}
use Rattle.nv_logpage.specs.Append.{needed}
use Rattle.nv_names.specs.Names.{name_at}
use Rattle.nv_scan.specs.declared.piece.Row.{Row}
use Rattle.nv_rows.specs.RowList.{HasNumbersOf}
use Rattle.nv_rows.specs.Rows.{IsInUse, HasInserted, row_of}
use Rattle.nv_rows.specs.Unused.{IsTableNumber}
use Rattle.nv_rows.proofs.MoreRoom.{next_in_table}
use Rattle.nv_rows.proofs.Places.{at_place, in_use}
use Rattle.nv_rows.proofs.TableNumbers.{numbers_kept}
use Rattle.nv_tree.specs.declared.refusal.Refusal.{Refusal}
use Rattle.nv_tree.specs.declared.refusal.Refusal.TheVariants.{Stopped}
use Rattle.nv_tree.proofs.Replies.{refused_by}
use Rattle.nv_steps.specs.Grown.{StandsRight}
use Rattle.nv_steps.specs.GrownTables.{CanNameNext, GrowsTable, LeavesGrown, grown_more}
use Rattle.nv_steps.specs.InOrder.{tail_address}
use Rattle.nv_steps.specs.NameEntries.{name_entries}
use Rattle.nv_steps.specs.Slots.{slot_in}
use Rattle.nv_steps.specs.Steps.{RefusesStep, ShowsRow}
use Rattle.nv_steps.specs.Stores.{StoresIn}
use Rattle.nv_steps.proofs.Kept.{kept_done, kept_refused, nothing_stored}
use Rattle.nv_steps.proofs.Refusals.{not_refused}
use Rattle.nv_steps.proofs.Stores.{stores_nothing}
use Rattle.nv_calls.specs.AtPlaces.{LeavesRows}
use Rattle.nv_calls.proofs.GrowingPlaces.{grown_as, left_after_growth, left_as_was, space_kept, sup_kept}
use Rattle.nv_calls.proofs.OneOut.{gave_back, left_back, told_by, told_row}
use Rattle.nv_calls.proofs.PutRow.{leaves_all}
use Rattle.nv_calls.proofs.TwoRows.{last_used}
use Rattle.nv_calls.proofs.growing.create_grown.Goals as goal

pub row-requires : goal.row-requires
row-requires g c = c.requires.can.in_use

pub reserve_growth-requires-clause-cpu : goal.reserve_growth-requires-clause-cpu
reserve_growth-requires-clause-cpu g c = let can = c.requires.slot.1 in can.cpu_below

pub reserve_growth-requires-clause-numbers : goal.reserve_growth-requires-clause-numbers
reserve_growth-requires-clause-numbers g c = c.requires.can.numbers

pub lend-row-requires : goal.lend-row-requires
lend-row-requires g c = subst (λ (rows : List Row). IsInUse rows c.args.directory) (sym c.reserve_growth.ensures.rows) c.requires.can.in_use

pub make_grown-made-requires : goal.make_grown-made-requires
make_grown-made-requires g c =
    record {
      stands = (subst (λ (x : Layout). StandsRight (g.P.Pmem.region c.args.memory.now) x c.args.free.now c.lend-row.result) (sym c.reserve_growth.ensures.layout)
          (c.requires.can.stands c.lend-row.result (ap (λ (rows : List Row). row_of rows c.args.directory) (sym c.reserve_growth.ensures.rows) ∙ c.lend-row.ensures.row)));
      can = (let can = c.requires.can.can c.lend-row.result (ap (λ (rows : List Row). row_of rows c.args.directory) (sym c.reserve_growth.ensures.rows) ∙ c.lend-row.ensures.row) in
          subst (λ (x : Layout). CanNameNext (g.P.Pmem.region c.args.memory.now) x c.args.free.now c.args.cpu c.lend-row.result) (sym c.reserve_growth.ensures.layout) (record { grow = c.requires.slot.1; journal_empty = can.journal_empty; in_data = can.in_data }));
      number = (c.requires.slot.0 ∙ ap (λ (x : Layout). next_number x c.args.cpu) (sym c.reserve_growth.ensures.layout));
      is_name = c.requires.can.good;
      room = (not_refused c.reserve_growth.result c.is_err.result c.is_err.ensures.value c.if-is_err.false c.reserve_growth.ensures.table_room);
    }

pub give_back-requires : goal.give_back-requires
give_back-requires g c =
    last_used c.reserve_growth.new.rows.items c.lend-row.new.self.items c.args.directory c.make_grown-made.new.directory (in_use c.reserve_growth.new.rows.items c.args.directory c.lend-row.result c.lend-row.ensures.row) c.lend-row.ensures.lent (c.make_grown-made.ensures.tables.inode ∙ c.lend-row.ensures.number)

pub grow_rows-requires-clause-cpu : goal.grow_rows-requires-clause-cpu
grow_rows-requires-clause-cpu g c =
    let can = c.requires.slot.1 in
    let grew = c.make_grown-made.ensures.tables.tables in
    subst (λ (s : Super). c.args.cpu < s.cpus) (sym (sup_kept c.args.cpu grew.layout ∙ ap (λ (x : Layout). x.sup) c.reserve_growth.ensures.layout)) can.cpu_below

pub grow_rows-requires-clause-numbers : goal.grow_rows-requires-clause-numbers
grow_rows-requires-clause-numbers g c =
    let grew = c.make_grown-made.ensures.tables.tables in
    (c.reserve_growth.new.tables.layout, subst (λ (x : Layout). IsLaid x) (sym c.reserve_growth.ensures.layout) c.are_laid.ensures, subst (λ (x : Layout). HasNumbersOf x c.give_back.new.self) (sym c.reserve_growth.ensures.layout) (numbers_kept (c.give_back.ensures.sup ∙ c.lend-row.ensures.sup ∙ c.reserve_growth.ensures.sup) (c.give_back.ensures.sizes ∙ c.lend-row.ensures.sizes ∙ c.reserve_growth.ensures.sizes) c.requires.can.numbers), grew.layout)

pub grow_rows-requires-clause-space : goal.grow_rows-requires-clause-space
grow_rows-requires-clause-space g c = space_kept c.reserve_growth.new.rows c.give_back.new.self c.args.cpu (c.give_back.ensures.sizes ∙ c.lend-row.ensures.sizes) (c.give_back.ensures.space ∙ c.lend-row.ensures.space) (not_refused c.reserve_growth.result c.is_err.result c.is_err.ensures.value c.if-is_err.false c.reserve_growth.ensures.space)

pub insert-requires-clause-within : goal.insert-requires-clause-within
insert-requires-clause-within g c =
    let grows = c.in_ok-made.ensures.made.grows in
    let can = c.requires.slot.1 in
    let laid = subst (λ (x : Layout). IsLaid x) (sym c.reserve_growth.ensures.layout) c.are_laid.ensures in
    let number : c.in_ok-made.field-0.inode ≡ next_number c.reserve_growth.new.tables.layout c.args.cpu = c.in_ok-made.ensures.made.makes.row.inode ∙ c.requires.slot.0 ∙ ap (λ (x : Layout). next_number x c.args.cpu) (sym c.reserve_growth.ensures.layout) in
    subst (λ (i : ℕ). IsTableNumber c.grow_rows.new.rows.sup.cpus c.grow_rows.new.rows.sizes i) (sym number)
    (next_in_table c.args.cpu grows.block laid (subst (λ (x : Layout). c.args.cpu < x.sup.cpus) (sym c.reserve_growth.ensures.layout) can.cpu_below) (subst (λ (x : Layout). HasNumbersOf x c.grow_rows.new.rows) grows.layout c.grow_rows.ensures.numbers))

pub insert-requires-clause-vacant : goal.insert-requires-clause-vacant
insert-requires-clause-vacant g c =
    let back = gave_back c.reserve_growth.ensures.rows c.lend-row.ensures.row c.lend-row.ensures.lent (c.grow_rows.ensures.rows ∙ c.give_back.ensures.rows) (c.make_grown-made.ensures.tables.inode ∙ c.lend-row.ensures.number) in
    ap (row_of c.grow_rows.new.rows.items) c.in_ok-made.ensures.made.makes.row.inode ∙ back.vacant c.args.new.now.inode c.requires.can.unused

-- ---- too few blocks

pub returns-then-free_blocks-pages_needed-clause-kept : goal.returns-then-free_blocks-pages_needed-clause-kept
returns-then-free_blocks-pages_needed-clause-kept g c =
    record {
      step = nothing_stored tt (λ is. absurd (cc)) refl;
      unchanged = λ off. (leaves_all c.args.memory.now c.args.free.now c.args.rows.now.items c.args.rows.now.items refl, refl);
      numbers = c.requires.can.numbers;
      grown = inl refl;
    }

pub returns-then-free_blocks-pages_needed-clause-wrote : goal.returns-then-free_blocks-pages_needed-clause-wrote
returns-then-free_blocks-pages_needed-clause-wrote g c row held h is shows = stores_nothing c.args.tables.now.layout held (grown_more c.args.tables.now.layout c.args.cpu row.inode) (g.P.Pmem.region c.args.memory.now)

pub returns-then-free_blocks-pages_needed-clause-in_order : goal.returns-then-free_blocks-pages_needed-clause-in_order
returns-then-free_blocks-pages_needed-clause-in_order g c row held h is shows = inl refl

pub returns-then-free_blocks-pages_needed-clause-any_stop : goal.returns-then-free_blocks-pages_needed-clause-any_stop
returns-then-free_blocks-pages_needed-clause-any_stop g c row held h is shows absent settled = left_as_was row c.args.new.now.kind c.args.new.now.mode c.args.new.now.time c.args.new.now.inode c.args.new.now.name.now shows.sound settled

-- ---- no memory

pub returns-then-is_err-clause-kept : goal.returns-then-is_err-clause-kept
returns-then-is_err-clause-kept g c =
    record {
      step = nothing_stored tt (λ is. absurd (cc)) refl;
      unchanged = λ off. (leaves_all c.args.memory.now c.args.free.now c.args.rows.now.items c.reserve_growth.new.rows.items c.reserve_growth.ensures.rows, c.reserve_growth.ensures.layout);
      numbers = subst (λ (x : Layout). HasNumbersOf x c.reserve_growth.new.rows) (sym c.reserve_growth.ensures.layout) (numbers_kept c.reserve_growth.ensures.sup c.reserve_growth.ensures.sizes c.requires.can.numbers);
      grown = inl c.reserve_growth.ensures.layout;
    }

pub returns-then-is_err-clause-wrote : goal.returns-then-is_err-clause-wrote
returns-then-is_err-clause-wrote g c row held h is shows = stores_nothing c.args.tables.now.layout held (grown_more c.args.tables.now.layout c.args.cpu row.inode) (g.P.Pmem.region c.args.memory.now)

pub returns-then-is_err-clause-in_order : goal.returns-then-is_err-clause-in_order
returns-then-is_err-clause-in_order g c row held h is shows = inl refl

pub returns-then-is_err-clause-any_stop : goal.returns-then-is_err-clause-any_stop
returns-then-is_err-clause-any_stop g c row held h is shows absent settled = left_as_was row c.args.new.now.kind c.args.new.now.mode c.args.new.now.time c.args.new.now.inode c.args.new.now.name.now shows.sound settled

-- ---- the step was refused

pub returns-in_err-made-clause-refused : goal.returns-in_err-made-clause-refused
returns-in_err-made-clause-refused g c row is =
    let w = err_from_is_err_and c.from_residual.result c.from_residual.ensures.1 in
    refused_by c.from_residual.result c.in_err-made.field-0.0 w.0
    (λ (e : Refusal). RefusesStep e (2 + needed (row.tail % 4096) (name_entries Add c.args.new.now.inode c.args.new.now.name.now c.args.new.now.time)) c.args.free.now) w.1 w.2
    (told_row c.args.directory (λ (r : Row). RefusesStep c.in_err-made.field-0.0 (2 + needed (r.tail % 4096) (name_entries Add c.args.new.now.inode c.args.new.now.name.now c.args.new.now.time)) c.args.free.now) c.reserve_growth.ensures.rows c.lend-row.ensures.row is c.in_err-made.ensures.needs.refused)

pub returns-in_err-made-clause-kept : goal.returns-in_err-made-clause-kept
returns-in_err-made-clause-kept g c =
    let w = err_from_is_err_and c.from_residual.result c.from_residual.ensures.1 in
    let can = c.requires.slot.1 in
    let grew = c.make_grown-made.ensures.tables.tables in
    record {
      step = kept_refused c.from_residual.result c.in_err-made.field-0.0 w.0 w.1 w.2 c.in_err-made.ensures.kept;
      unchanged = refused_by c.from_residual.result c.in_err-made.field-0.0 w.0
          (λ (e : Refusal). (e ≡ Stopped → ⊥) → LeavesRows c.args.memory.now c.make_grown-made.new.memory c.args.free.now c.make_grown-made.new.free c.args.rows.now.items c.grow_rows.new.rows.items × (c.make_grown-made.new.tables.layout ≡ c.args.tables.now.layout)) w.1 w.2
          (λ off. (let left = c.in_err-made.ensures.unchanged off in (
            left_back (gave_back c.reserve_growth.ensures.rows c.lend-row.ensures.row c.lend-row.ensures.lent (c.grow_rows.ensures.rows ∙ c.give_back.ensures.rows) (c.make_grown-made.ensures.tables.inode ∙ c.lend-row.ensures.number)) left.step,
            left.layout ∙ c.reserve_growth.ensures.layout,
          )));
      numbers = c.grow_rows.ensures.numbers;
      grown = grown_as c.args.cpu c.are_laid.ensures can.cpu_below c.requires.slot.0 c.reserve_growth.ensures.layout grew.layout;
    }

pub returns-in_err-made-clause-wrote : goal.returns-in_err-made-clause-wrote
returns-in_err-made-clause-wrote g c row held h is shows =
    told_by c.args.directory (λ (x : Layout) (r : Row). ShowsRow (g.P.Pmem.region c.args.memory.now) x held h r c.args.free.now → StoresIn x held (grown_more x c.args.cpu r.inode) (g.P.Pmem.region c.args.memory.now) (g.P.Pmem.region c.make_grown-made.new.memory))
    c.reserve_growth.ensures.layout c.reserve_growth.ensures.rows c.lend-row.ensures.row is (λ seen. c.make_grown-made.ensures.wrote held h seen) shows

pub returns-in_err-made-clause-in_order : goal.returns-in_err-made-clause-in_order
returns-in_err-made-clause-in_order g c row held h is shows =
    told_by c.args.directory (λ (x : Layout) (r : Row). ShowsRow (g.P.Pmem.region c.args.memory.now) x held h r c.args.free.now → FirstIsFirst (g.P.Pmem.region c.args.memory.now) (slot_in c.make_grown-made.new.tables.layout c.args.new.now.inode) 1 (tail_address c.make_grown-made.new.tables.layout r.inode) (g.P.Pmem.region c.make_grown-made.new.memory))
    c.reserve_growth.ensures.layout c.reserve_growth.ensures.rows c.lend-row.ensures.row is (λ seen. c.make_grown-made.ensures.in_order held h seen) shows

pub returns-in_err-made-clause-any_stop : goal.returns-in_err-made-clause-any_stop
returns-in_err-made-clause-any_stop g c row held h is shows absent settled left may =
    left_after_growth row c.args.new.now.kind c.args.new.now.mode c.args.new.now.time c.args.new.now.inode c.args.new.now.name.now left
    (told_by c.args.directory (λ (x : Layout) (r : Row). ShowsRow (g.P.Pmem.region c.args.memory.now) x held h r c.args.free.now → name_at r.names c.args.new.now.name.now ≡ None → LeavesOnly (g.P.Pmem.region c.make_grown-made.new.memory) (g.P.Pmem.may_hold c.make_grown-made.new.memory) (LeavesGrown (g.P.Pmem.region c.args.memory.now) x held c.args.free.now c.args.cpu r c.args.new.now.kind c.args.new.now.mode c.args.new.now.time c.args.new.now.inode c.args.new.now.name.now))
    c.reserve_growth.ensures.layout c.reserve_growth.ensures.rows c.lend-row.ensures.row is (λ seen none. c.make_grown-made.ensures.any_stop held h seen none settled) shows absent left may)

-- ---- it was done

pub returns-clause-created : goal.returns-clause-created
returns-clause-created g c =
    let back = gave_back c.reserve_growth.ensures.rows c.lend-row.ensures.row c.lend-row.ensures.lent (c.grow_rows.ensures.rows ∙ c.give_back.ensures.rows) (c.make_grown-made.ensures.tables.inode ∙ c.lend-row.ensures.number) in
    let made = c.in_ok-made.ensures.made in
    record {
      mid = made.middle;
      between = made.mid;
      got = inr (subst (λ (x : Layout). GrowsTable (g.P.Pmem.region c.args.memory.now) made.middle x c.make_grown-made.new.tables.layout c.args.free.now made.mid c.args.cpu c.args.new.now.inode) c.reserve_growth.ensures.layout made.grows);
      step = record {
        row = c.lend-row.result;
        now = c.make_grown-made.new.directory;
        made = c.in_ok-made.field-0;
        at = at_place c.args.rows.now.items c.args.directory ∙ back.row;
        step = made.makes;
        put = subst (λ (rows : List Row). HasInserted rows c.insert.new.self.items c.in_ok-made.field-0) back.put c.insert.ensures.rows;
      };
    }

pub returns-clause-enough : goal.returns-clause-enough
returns-clause-enough g c row is =
    told_row c.args.directory (λ (r : Row). 2 + needed (r.tail % 4096) (name_entries Add c.args.new.now.inode c.args.new.now.name.now c.args.new.now.time) ≤ all_blocks c.args.free.now.pools)
    c.reserve_growth.ensures.rows c.lend-row.ensures.row is c.in_ok-made.ensures.needs.enough

pub returns-clause-kept : goal.returns-clause-kept
returns-clause-kept g c =
    let can = c.requires.slot.1 in
    let grew = c.make_grown-made.ensures.tables.tables in
    record {
      step = kept_done c.in_ok-made.ensures.kept;
      unchanged = tt;
      numbers = numbers_kept c.insert.ensures.sup c.insert.ensures.sizes c.grow_rows.ensures.numbers;
      grown = grown_as c.args.cpu c.are_laid.ensures can.cpu_below c.requires.slot.0 c.reserve_growth.ensures.layout grew.layout;
    }

pub returns-clause-wrote : goal.returns-clause-wrote
returns-clause-wrote g c row held h is shows =
    told_by c.args.directory (λ (x : Layout) (r : Row). ShowsRow (g.P.Pmem.region c.args.memory.now) x held h r c.args.free.now → StoresIn x held (grown_more x c.args.cpu r.inode) (g.P.Pmem.region c.args.memory.now) (g.P.Pmem.region c.make_grown-made.new.memory))
    c.reserve_growth.ensures.layout c.reserve_growth.ensures.rows c.lend-row.ensures.row is (λ seen. c.make_grown-made.ensures.wrote held h seen) shows

pub returns-clause-in_order : goal.returns-clause-in_order
returns-clause-in_order g c row held h is shows =
    told_by c.args.directory (λ (x : Layout) (r : Row). ShowsRow (g.P.Pmem.region c.args.memory.now) x held h r c.args.free.now → FirstIsFirst (g.P.Pmem.region c.args.memory.now) (slot_in c.make_grown-made.new.tables.layout c.args.new.now.inode) 1 (tail_address c.make_grown-made.new.tables.layout r.inode) (g.P.Pmem.region c.make_grown-made.new.memory))
    c.reserve_growth.ensures.layout c.reserve_growth.ensures.rows c.lend-row.ensures.row is (λ seen. c.make_grown-made.ensures.in_order held h seen) shows

pub returns-clause-any_stop : goal.returns-clause-any_stop
returns-clause-any_stop g c row held h is shows absent settled left may =
    left_after_growth row c.args.new.now.kind c.args.new.now.mode c.args.new.now.time c.args.new.now.inode c.args.new.now.name.now left
    (told_by c.args.directory (λ (x : Layout) (r : Row). ShowsRow (g.P.Pmem.region c.args.memory.now) x held h r c.args.free.now → name_at r.names c.args.new.now.name.now ≡ None → LeavesOnly (g.P.Pmem.region c.make_grown-made.new.memory) (g.P.Pmem.may_hold c.make_grown-made.new.memory) (LeavesGrown (g.P.Pmem.region c.args.memory.now) x held c.args.free.now c.args.cpu r c.args.new.now.kind c.args.new.now.mode c.args.new.now.time c.args.new.now.inode c.args.new.now.name.now))
    c.reserve_growth.ensures.layout c.reserve_growth.ensures.rows c.lend-row.ensures.row is (λ seen none. c.make_grown-made.ensures.any_stop held h seen none settled) shows absent left may)
