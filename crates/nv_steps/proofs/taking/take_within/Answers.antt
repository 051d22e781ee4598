use Rattle.std.proofs.Common.{◌≡◌, ◌∙◌, ◌∷◌, [], ◌≤◌, ◌%◌, List, ap, refl, subst, sym, inl, arith}
use Rattle.std.proofs.lemmas.Result.{err_from_is_err_and, IfOk-from_err}
use Rattle.nv_alloc.specs.Taking.{all_blocks}
use Rattle.nv_entry.specs.declared.entry.Entry.{Entry}
use Rattle.nv_entry.specs.Spelling.{entry_length}
use Rattle.nv_logpage.specs.Append.{AreGiven, needed}
use Rattle.nv_tree.specs.declared.refusal.Refusal.{Refusal}
use Rattle.nv_tree.specs.declared.refusal.Refusal.TheVariants.{Stopped}
use Rattle.nv_tree.proofs.Replies.{refused_by}
use Rattle.nv_commit.specs.Stopped.{LeavesEither}
use Rattle.nv_commit.proofs.Left.{still}
use Rattle.nv_steps.specs.InOrder.{TailIsFirst}
use Rattle.nv_steps.specs.Steps.{LeavesStep, RefusesStep}
use Rattle.nv_steps.specs.Takes.{AppendedLess, AppendsLess, TookWithin, take_entries}
use Rattle.nv_steps.proofs.MovedRow.{leaves_after, more_names, shows_same}
use Rattle.nv_steps.proofs.Refusals.{memory_goes_on, not_refused}
use Rattle.nv_steps.proofs.Kept.{kept_done, kept_refused, nothing_stored}
use Rattle.nv_steps.proofs.Took.{left_taken, takes_within}
use Rattle.nv_steps.specs.Slots.{slot_in}
use Rattle.nv_steps.proofs.taking.take_within.Goals as goal

pub name_entry-requires : goal.name_entry-requires
name_entry-requires g c = record { some = c.requires.given.1.some; fits = c.requires.given.1.short }

pub name_entry-requires-2 : goal.name_entry-requires-2
name_entry-requires-2 g c = record { some = c.requires.given.2.some; fits = c.requires.given.2.short }

pub name_entry-requires-3 : goal.name_entry-requires-3
name_entry-requires-3 g c = record { some = c.requires.given.2.some; fits = c.requires.given.2.short }

pub append_less-requires : goal.append_less-requires
append_less-requires g c =
    record {
      stands = (let s = c.requires.stands in record { laid = s.laid; lists = s.lists; number = s.number; whole = s.whole; inside = s.inside; aligned = s.aligned; offset = s.offset; blocks = s.blocks; in_blocks = s.in_blocks; used = s.used });
      can = (let a = c.requires.can in record { cpu_below = a.cpu_below; journal_empty = a.journal_empty; number = a.number; in_data = a.in_data });
      given = (
        c.requires.given.0,
        (let three : c.name_entry.result ∷ c.name_entry-2.result ∷ c.name_entry-3.result ∷ [] ≡ take_entries c.args.moved.now.inode c.args.gone.inode c.args.moved.now.name.now c.args.moved.now.other.now c.args.moved.now.time = (λ t. c.name_entry.ensures t ∷ c.name_entry-2.ensures t ∷ c.name_entry-3.ensures t ∷ []) in
            subst AreGiven (sym three) (refl, (refl, (refl, tt)))),
        omega arith,
      );
    }

pub returns-clause-taken : goal.returns-clause-taken
returns-clause-taken g c =
    let three : c.name_entry.result ∷ c.name_entry-2.result ∷ c.name_entry-3.result ∷ [] ≡ take_entries c.args.moved.now.inode c.args.gone.inode c.args.moved.now.name.now c.args.moved.now.other.now c.args.moved.now.time = (λ t. c.name_entry.ensures t ∷ c.name_entry-2.ensures t ∷ c.name_entry-3.ensures t ∷ []) in
    let grew = subst (λ (es : List Entry). AppendsLess (g.P.Pmem.region c.args.memory.now) (g.P.Pmem.region c.append_less.new.memory) c.args.tables.now.layout c.args.free.now c.append_less.new.free c.args.cpu (record c.args.directory.now { names = c.reserve.new.self }) c.append_less.new.row c.args.gone.inode es) three c.in_ok-append_less.ensures.appended in
    takes_within c.args.moved.now.inode c.args.gone.inode c.args.moved.now.name.now c.args.moved.now.other.now c.args.moved.now.time (more_names c.args.directory.now c.reserve.new.self c.reserve.ensures.names) grew c.length.result (c.length.ensures.value ∙ ap entry_length c.name_entry-3.ensures)
    c.remove_name.ensures.row c.remove_name.ensures.once c.remove_name-2.ensures.row c.add_name.ensures.row c.add_name.ensures.once c.len-names.ensures.each_once

pub returns-clause-needs : goal.returns-clause-needs
returns-clause-needs g c =
    record {
      needs = record {
        enough = let three : c.name_entry.result ∷ c.name_entry-2.result ∷ c.name_entry-3.result ∷ [] ≡ take_entries c.args.moved.now.inode c.args.gone.inode c.args.moved.now.name.now c.args.moved.now.other.now c.args.moved.now.time = (λ t. c.name_entry.ensures t ∷ c.name_entry-2.ensures t ∷ c.name_entry-3.ensures t ∷ []) in
            subst (λ (es : List Entry). needed (c.args.directory.now.tail % 4096) es ≤ all_blocks c.args.free.now.pools) three c.in_ok-append_less.ensures.needs.enough;
        refused = tt;
      };
      room = c.in_ok-append_less.ensures.needs.room;
    }

pub returns-clause-kept : goal.returns-clause-kept
returns-clause-kept g c = kept_done c.in_ok-append_less.ensures.kept

pub returns-clause-unchanged : goal.returns-clause-unchanged
returns-clause-unchanged g c = tt

pub returns-clause-inode : goal.returns-clause-inode
returns-clause-inode g c = c.add_name.ensures.row.rest.inode ∙ c.remove_name-2.ensures.row.rest.inode ∙ c.remove_name.ensures.row.rest.inode ∙ c.in_ok-append_less.ensures.row.0

pub returns-clause-wrote : goal.returns-clause-wrote
returns-clause-wrote g c held h shows = c.append_less.ensures.wrote held h (shows_same (more_names c.args.directory.now c.reserve.new.self c.reserve.ensures.names) shows)

pub returns-clause-in_order : goal.returns-clause-in_order
returns-clause-in_order g c held h shows =
    let three : c.name_entry.result ∷ c.name_entry-2.result ∷ c.name_entry-3.result ∷ [] ≡ take_entries c.args.moved.now.inode c.args.gone.inode c.args.moved.now.name.now c.args.moved.now.other.now c.args.moved.now.time = (λ t. c.name_entry.ensures t ∷ c.name_entry-2.ensures t ∷ c.name_entry-3.ensures t ∷ []) in
    subst (λ (es : List Entry). TailIsFirst (g.P.Pmem.region c.args.memory.now) (g.P.Pmem.region c.append_less.new.memory) c.args.tables.now.layout c.args.free.now.pools c.args.cpu c.args.directory.now.inode c.args.directory.now.tail es (slot_in c.args.tables.now.layout c.args.gone.inode)) three (c.append_less.ensures.in_order held h (shows_same (more_names c.args.directory.now c.reserve.new.self c.reserve.ensures.names) shows))

pub returns-clause-any_stop : goal.returns-clause-any_stop
returns-clause-any_stop g c held h shows settled left may =
    let same = more_names c.args.directory.now c.reserve.new.self c.reserve.ensures.names in
    let three : c.name_entry.result ∷ c.name_entry-2.result ∷ c.name_entry-3.result ∷ [] ≡ take_entries c.args.moved.now.inode c.args.gone.inode c.args.moved.now.name.now c.args.moved.now.other.now c.args.moved.now.time = (λ t. c.name_entry.ensures t ∷ c.name_entry-2.ensures t ∷ c.name_entry-3.ensures t ∷ []) in
    let there = c.append_less.ensures.any_stop held h (shows_same same shows) settled left may in
    left_taken c.args.directory.now (record c.args.directory.now { names = c.reserve.new.self }) c.args.moved.now.inode c.args.gone.inode c.args.moved.now.name.now c.args.moved.now.other.now c.args.moved.now.time same c.len-names.ensures.each_once left
    (subst (λ (es : List Entry). LeavesEither (g.P.Pmem.region c.args.memory.now) c.args.tables.now.layout held (AppendedLess (g.P.Pmem.region c.args.memory.now) c.args.tables.now.layout c.args.free.now c.args.cpu (record c.args.directory.now { names = c.reserve.new.self }) c.args.gone.inode es) left) three there)

pub returns-in_err-append_less-clause-taken : goal.returns-in_err-append_less-clause-taken
returns-in_err-append_less-clause-taken g c = IfOk-from_err c.from_residual.result _ c.from_residual.ensures.0

pub returns-in_err-append_less-clause-needs : goal.returns-in_err-append_less-clause-needs
returns-in_err-append_less-clause-needs g c =
    record {
      needs = record {
        enough = IfOk-from_err c.from_residual.result _ c.from_residual.ensures.0;
        refused = let three : c.name_entry.result ∷ c.name_entry-2.result ∷ c.name_entry-3.result ∷ [] ≡ take_entries c.args.moved.now.inode c.args.gone.inode c.args.moved.now.name.now c.args.moved.now.other.now c.args.moved.now.time = (λ t. c.name_entry.ensures t ∷ c.name_entry-2.ensures t ∷ c.name_entry-3.ensures t ∷ []) in
            let w = err_from_is_err_and c.from_residual.result c.from_residual.ensures.1 in
            refused_by c.from_residual.result c.in_err-append_less.field-0.0 w.0 (λ (e : Refusal). RefusesStep e (needed (c.args.directory.now.tail % 4096) (take_entries c.args.moved.now.inode c.args.gone.inode c.args.moved.now.name.now c.args.moved.now.other.now c.args.moved.now.time)) c.args.free.now) w.1 w.2
            (subst (λ (es : List Entry). RefusesStep c.in_err-append_less.field-0.0 (needed (c.args.directory.now.tail % 4096) es) c.args.free.now) three c.in_err-append_less.ensures.needs.refused);
      };
      room = IfOk-from_err c.from_residual.result _ c.from_residual.ensures.0;
    }

pub returns-in_err-append_less-clause-kept : goal.returns-in_err-append_less-clause-kept
returns-in_err-append_less-clause-kept g c =
    let w = err_from_is_err_and c.from_residual.result c.from_residual.ensures.1 in
    kept_refused c.from_residual.result c.in_err-append_less.field-0.0 w.0 w.1 w.2 c.in_err-append_less.ensures.kept

pub returns-in_err-append_less-clause-unchanged : goal.returns-in_err-append_less-clause-unchanged
returns-in_err-append_less-clause-unchanged g c =
    let w = err_from_is_err_and c.from_residual.result c.from_residual.ensures.1 in
    refused_by c.from_residual.result c.in_err-append_less.field-0.0 w.0 (λ (e : Refusal). (e ≡ Stopped → ⊥) → LeavesStep c.args.memory.now c.append_less.new.memory c.args.free.now c.append_less.new.free c.args.directory.now c.append_less.new.row) w.1 w.2
    (λ off. leaves_after (more_names c.args.directory.now c.reserve.new.self c.reserve.ensures.names) (c.in_err-append_less.ensures.unchanged off))

pub returns-in_err-append_less-clause-inode : goal.returns-in_err-append_less-clause-inode
returns-in_err-append_less-clause-inode g c = c.in_err-append_less.ensures.row.0

pub returns-in_err-append_less-clause-wrote : goal.returns-in_err-append_less-clause-wrote
returns-in_err-append_less-clause-wrote g c held h shows = c.append_less.ensures.wrote held h (shows_same (more_names c.args.directory.now c.reserve.new.self c.reserve.ensures.names) shows)

pub returns-in_err-append_less-clause-in_order : goal.returns-in_err-append_less-clause-in_order
returns-in_err-append_less-clause-in_order g c held h shows =
    let three : c.name_entry.result ∷ c.name_entry-2.result ∷ c.name_entry-3.result ∷ [] ≡ take_entries c.args.moved.now.inode c.args.gone.inode c.args.moved.now.name.now c.args.moved.now.other.now c.args.moved.now.time = (λ t. c.name_entry.ensures t ∷ c.name_entry-2.ensures t ∷ c.name_entry-3.ensures t ∷ []) in
    subst (λ (es : List Entry). TailIsFirst (g.P.Pmem.region c.args.memory.now) (g.P.Pmem.region c.append_less.new.memory) c.args.tables.now.layout c.args.free.now.pools c.args.cpu c.args.directory.now.inode c.args.directory.now.tail es (slot_in c.args.tables.now.layout c.args.gone.inode)) three (c.append_less.ensures.in_order held h (shows_same (more_names c.args.directory.now c.reserve.new.self c.reserve.ensures.names) shows))

pub returns-in_err-append_less-clause-any_stop : goal.returns-in_err-append_less-clause-any_stop
returns-in_err-append_less-clause-any_stop g c held h shows settled left may =
    let same = more_names c.args.directory.now c.reserve.new.self c.reserve.ensures.names in
    let three : c.name_entry.result ∷ c.name_entry-2.result ∷ c.name_entry-3.result ∷ [] ≡ take_entries c.args.moved.now.inode c.args.gone.inode c.args.moved.now.name.now c.args.moved.now.other.now c.args.moved.now.time = (λ t. c.name_entry.ensures t ∷ c.name_entry-2.ensures t ∷ c.name_entry-3.ensures t ∷ []) in
    let there = c.append_less.ensures.any_stop held h (shows_same same shows) settled left may in
    left_taken c.args.directory.now (record c.args.directory.now { names = c.reserve.new.self }) c.args.moved.now.inode c.args.gone.inode c.args.moved.now.name.now c.args.moved.now.other.now c.args.moved.now.time same c.len-names.ensures.each_once left
    (subst (λ (es : List Entry). LeavesEither (g.P.Pmem.region c.args.memory.now) c.args.tables.now.layout held (AppendedLess (g.P.Pmem.region c.args.memory.now) c.args.tables.now.layout c.args.free.now c.args.cpu (record c.args.directory.now { names = c.reserve.new.self }) c.args.gone.inode es) left) three there)

pub returns-then-is_err-clause-taken : goal.returns-then-is_err-clause-taken
returns-then-is_err-clause-taken g c = tt

pub returns-then-is_err-clause-needs : goal.returns-then-is_err-clause-needs
returns-then-is_err-clause-needs g c =
    record {
      needs = record {
        enough = tt;
        refused = inl refl;
      };
      room = tt;
    }

pub returns-then-is_err-clause-kept : goal.returns-then-is_err-clause-kept
returns-then-is_err-clause-kept g c =
    nothing_stored tt (λ is. absurd (memory_goes_on is)) refl

pub returns-then-is_err-clause-unchanged : goal.returns-then-is_err-clause-unchanged
returns-then-is_err-clause-unchanged g c = λ _. record { memory = refl; free = record { sup = refl; pools = refl }; row = more_names c.args.directory.now c.reserve.new.self c.reserve.ensures.names }

pub returns-then-is_err-clause-inode : goal.returns-then-is_err-clause-inode
returns-then-is_err-clause-inode g c = refl

pub returns-then-is_err-clause-wrote : goal.returns-then-is_err-clause-wrote
returns-then-is_err-clause-wrote g c held h shows at whole away = refl

pub returns-then-is_err-clause-in_order : goal.returns-then-is_err-clause-in_order
returns-then-is_err-clause-in_order g c held h shows = inl refl

pub returns-then-is_err-clause-any_stop : goal.returns-then-is_err-clause-any_stop
returns-then-is_err-clause-any_stop g c held h shows settled = still _ _ c.args.tables.now.layout held (TookWithin (g.P.Pmem.region c.args.memory.now) c.args.tables.now.layout c.args.free.now c.args.cpu c.args.directory.now c.args.moved.now.inode c.args.gone.inode c.args.moved.now.name.now c.args.moved.now.other.now c.args.moved.now.time) shows.sound settled

pub add_name-requires-clause-room : goal.add_name-requires-clause-room
add_name-requires-clause-room g c =
    let kept = not_refused c.reserve.result c.is_err.result c.is_err.ensures.value c.if-is_err.false c.reserve.ensures.ready in
    omega (arith, kept, c.append_less.ensures.row.1, c.remove_name.ensures.room, c.remove_name-2.ensures.room)
