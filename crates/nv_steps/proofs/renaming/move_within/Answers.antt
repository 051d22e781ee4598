use Rattle.std.proofs.Common.{ℕ, ◌<◌, ◌∙◌, ◌∷◌, [], ap, refl, subst, ◌≤◌, ◌%◌, sym, inl, inr, arith}
use Rattle.std.proofs.lemmas.Result.{err_from_is_err_and, IfOk-from_err}
use Rattle.nv_alloc.specs.Taking.{all_blocks}
use Rattle.nv_logpage.specs.Append.{AreGiven, needed}
use Rattle.nv_tree.specs.declared.refusal.Refusal.{Refusal}
use Rattle.nv_tree.proofs.Replies.{refused_by}
use Rattle.nv_steps.specs.Moves.{move_entries}
use Rattle.nv_entry.specs.declared.entry.Entry.{Entry}
use Rattle.nv_entry.specs.declared.entry.Entry.TheVariants.{Name}
use Rattle.nv_entry.specs.declared.entry.Operation.TheVariants.{Remove}
use Rattle.nv_entry.specs.Spelling.{entry_length}
use Rattle.nv_commit.specs.Stopped.{LeavesEither}
use Rattle.nv_commit.proofs.Left.{still}
use Rattle.nv_steps.specs.Stopped.{Appended, MovedHere}
use Rattle.nv_steps.specs.Steps.{AppendsLog, RefusesStep}
use Rattle.nv_steps.proofs.Kept.{kept_done, kept_refused, nothing_stored}
use Rattle.nv_steps.proofs.Refusals.{no_space_goes_on, memory_goes_on}
use Rattle.nv_steps.proofs.MovedRow.{left_here, more_names, moves_within, shows_same}
use Rattle.nv_steps.proofs.renaming.move_within.Goals as goal

pub returns-clause-moved : goal.returns-clause-moved
returns-clause-moved g c =
    let same = more_names c.args.directory.now c.reserve.new.self c.reserve.ensures.names in
    let one = subst (λ (x : Entry). AppendsLog (g.P.Pmem.region c.args.memory.now) (g.P.Pmem.region c.append_log.new.memory) c.args.tables.now.layout c.args.free.now c.append_log.new.free c.args.cpu (record c.args.directory.now { names = c.reserve.new.self }) c.append_log.new.row (x ∷ c.name_entry-2.result ∷ [])) c.name_entry.ensures c.in_ok-append_log.ensures.appended in
    let both = subst (λ (x : Entry). AppendsLog (g.P.Pmem.region c.args.memory.now) (g.P.Pmem.region c.append_log.new.memory) c.args.tables.now.layout c.args.free.now c.append_log.new.free c.args.cpu (record c.args.directory.now { names = c.reserve.new.self }) c.append_log.new.row (Name (record { operation = Remove; inode = c.args.moved.now.inode; time = c.args.moved.now.time; name = c.args.moved.now.name.now }) ∷ x ∷ [])) c.name_entry-2.ensures one in
    moves_within c.args.moved.now.inode c.args.moved.now.name.now c.args.moved.now.other.now c.args.moved.now.time same both c.length.result (c.length.ensures.value ∙ ap entry_length c.name_entry-2.ensures) c.remove_name.ensures.row c.remove_name.ensures.once c.add_name.ensures.row c.add_name.ensures.once c.len-names.ensures.each_once

pub name_entry-requires : goal.name_entry-requires
name_entry-requires g c = record { some = c.requires.given.0.some; fits = c.requires.given.0.short }

pub name_entry-requires-2 : goal.name_entry-requires-2
name_entry-requires-2 g c = record { some = c.requires.given.1.some; fits = c.requires.given.1.short }

pub append_log-requires : goal.append_log-requires
append_log-requires g c =
    record {
      cpu_below = c.requires.cpu_below;
      stands = record { laid = c.requires.stands.laid; lists = c.requires.stands.lists; number = c.requires.stands.number; whole = c.requires.stands.whole; inside = c.requires.stands.inside; aligned = c.requires.stands.aligned; offset = c.requires.stands.offset; blocks = c.requires.stands.blocks; in_blocks = c.requires.stands.in_blocks; used = c.requires.stands.used };
      given = (subst (λ (x : Entry). AreGiven (x ∷ c.name_entry-2.result ∷ [])) (sym c.name_entry.ensures) (subst (λ (x : Entry). AreGiven (Name (record { operation = Remove; inode = c.args.moved.now.inode; time = c.args.moved.now.time; name = c.args.moved.now.name.now }) ∷ x ∷ [])) (sym c.name_entry-2.ensures) (refl, (refl, tt))));
    }

pub returns-in_err-append_log-clause-needs : goal.returns-in_err-append_log-clause-needs
returns-in_err-append_log-clause-needs g c =
    record {
      enough = IfOk-from_err c.from_residual.result _ c.from_residual.ensures.0;
      refused = let w = err_from_is_err_and c.from_residual.result c.from_residual.ensures.1 in
          refused_by c.from_residual.result c.in_err-append_log.field-0.0 w.0 (λ (e : Refusal). RefusesStep e (needed (c.args.directory.now.tail % 4096) (move_entries c.args.moved.now.inode c.args.moved.now.name.now c.args.moved.now.other.now c.args.moved.now.time)) c.args.free.now) w.1 w.2
          (subst (λ (x : Entry). RefusesStep c.in_err-append_log.field-0.0 (needed (c.args.directory.now.tail % 4096) (Name (record { operation = Remove; inode = c.args.moved.now.inode; time = c.args.moved.now.time; name = c.args.moved.now.name.now }) ∷ x ∷ [])) c.args.free.now) c.name_entry-2.ensures
          (subst (λ (x : Entry). RefusesStep c.in_err-append_log.field-0.0 (needed (c.args.directory.now.tail % 4096) (x ∷ c.name_entry-2.result ∷ [])) c.args.free.now) c.name_entry.ensures c.in_err-append_log.ensures.needs.refused));
    }

pub returns-in_err-append_log-clause-kept : goal.returns-in_err-append_log-clause-kept
returns-in_err-append_log-clause-kept g c =
    let w = err_from_is_err_and c.from_residual.result c.from_residual.ensures.1 in
    kept_refused c.from_residual.result c.in_err-append_log.field-0.0 w.0 w.1 w.2 c.in_err-append_log.ensures.kept

pub returns-in_err-append_log-clause-inode : goal.returns-in_err-append_log-clause-inode
returns-in_err-append_log-clause-inode g c = c.in_err-append_log.ensures.inode

pub returns-clause-needs : goal.returns-clause-needs
returns-clause-needs g c =
    record {
      enough = subst (λ (x : Entry). needed (c.args.directory.now.tail % 4096) (Name (record { operation = Remove; inode = c.args.moved.now.inode; time = c.args.moved.now.time; name = c.args.moved.now.name.now }) ∷ x ∷ []) ≤ all_blocks c.args.free.now.pools) c.name_entry-2.ensures
          (subst (λ (x : Entry). needed (c.args.directory.now.tail % 4096) (x ∷ c.name_entry-2.result ∷ []) ≤ all_blocks c.args.free.now.pools) c.name_entry.ensures c.in_ok-append_log.ensures.needs.enough);
      refused = tt;
    }

pub returns-clause-kept : goal.returns-clause-kept
returns-clause-kept g c = kept_done c.in_ok-append_log.ensures.kept

pub returns-clause-unchanged : goal.returns-clause-unchanged
returns-clause-unchanged g c = tt

pub returns-clause-inode : goal.returns-clause-inode
returns-clause-inode g c = c.add_name.ensures.row.rest.inode ∙ c.remove_name.ensures.row.rest.inode ∙ c.in_ok-append_log.ensures.inode

pub returns-in_err-append_log-clause-moved : goal.returns-in_err-append_log-clause-moved
returns-in_err-append_log-clause-moved g c = IfOk-from_err c.from_residual.result _ c.from_residual.ensures.0

pub returns-then-not-are_enough-clause-moved : goal.returns-then-not-are_enough-clause-moved
returns-then-not-are_enough-clause-moved g c = tt

pub returns-then-not-are_enough-clause-needs : goal.returns-then-not-are_enough-clause-needs
returns-then-not-are_enough-clause-needs g c =
    record {
      enough = tt;
      refused = let few = subst (λ (m : ℕ). all_blocks c.args.free.now.pools < m) c.pages_needed.ensures (c.are_enough.ensures.no c.if-not-are_enough.true) in
          inr (inr (refl, subst (λ (x : Entry). all_blocks c.args.free.now.pools < needed (c.args.directory.now.tail % 4096) (Name (record { operation = Remove; inode = c.args.moved.now.inode; time = c.args.moved.now.time; name = c.args.moved.now.name.now }) ∷ x ∷ [])) c.name_entry-2.ensures (subst (λ (x : Entry). all_blocks c.args.free.now.pools < needed (c.args.directory.now.tail % 4096) (x ∷ c.name_entry-2.result ∷ [])) c.name_entry.ensures few)));
    }

pub returns-then-not-are_enough-clause-kept : goal.returns-then-not-are_enough-clause-kept
returns-then-not-are_enough-clause-kept g c =
    nothing_stored tt (λ is. absurd (no_space_goes_on is)) refl

pub returns-then-not-are_enough-clause-unchanged : goal.returns-then-not-are_enough-clause-unchanged
returns-then-not-are_enough-clause-unchanged g c = λ _. record { memory = refl; free = record { sup = refl; pools = refl }; row = record { inode = refl; kind = refl; numbers = refl; head = refl; tail = refl; pages = refl; index = λ p. refl; names = λ q. refl } }

pub returns-then-not-are_enough-clause-inode : goal.returns-then-not-are_enough-clause-inode
returns-then-not-are_enough-clause-inode g c = refl

pub returns-then-is_err-clause-moved : goal.returns-then-is_err-clause-moved
returns-then-is_err-clause-moved g c = tt

pub returns-then-is_err-clause-needs : goal.returns-then-is_err-clause-needs
returns-then-is_err-clause-needs g c =
    record {
      enough = tt;
      refused = inl refl;
    }

pub returns-then-is_err-clause-kept : goal.returns-then-is_err-clause-kept
returns-then-is_err-clause-kept g c =
    nothing_stored tt (λ is. absurd (memory_goes_on is)) refl

pub returns-then-is_err-clause-unchanged : goal.returns-then-is_err-clause-unchanged
returns-then-is_err-clause-unchanged g c = λ _. record { memory = refl; free = record { sup = refl; pools = refl }; row = more_names c.args.directory.now c.reserve.new.self c.reserve.ensures.names }

pub returns-then-is_err-clause-inode : goal.returns-then-is_err-clause-inode
returns-then-is_err-clause-inode g c = refl

pub returns-then-not-are_enough-clause-any_stop : goal.returns-then-not-are_enough-clause-any_stop
returns-then-not-are_enough-clause-any_stop g c held h shows absent settled = still _ _ c.args.tables.now.layout held (MovedHere (g.P.Pmem.region c.args.memory.now) c.args.tables.now.layout c.args.free.now c.args.cpu c.args.directory.now c.args.moved.now.inode c.args.moved.now.name.now c.args.moved.now.other.now c.args.moved.now.time) shows.sound settled

pub returns-then-is_err-clause-any_stop : goal.returns-then-is_err-clause-any_stop
returns-then-is_err-clause-any_stop g c held h shows absent settled = still _ _ c.args.tables.now.layout held (MovedHere (g.P.Pmem.region c.args.memory.now) c.args.tables.now.layout c.args.free.now c.args.cpu c.args.directory.now c.args.moved.now.inode c.args.moved.now.name.now c.args.moved.now.other.now c.args.moved.now.time) shows.sound settled

pub returns-in_err-append_log-clause-any_stop : goal.returns-in_err-append_log-clause-any_stop
returns-in_err-append_log-clause-any_stop g c held h shows absent settled left may =
    let same = more_names c.args.directory.now c.reserve.new.self c.reserve.ensures.names in
    let there = c.append_log.ensures.any_stop held h (shows_same same shows) (omega arith) settled left may in
    let one = subst (λ (x : Entry). LeavesEither (g.P.Pmem.region c.args.memory.now) c.args.tables.now.layout held (Appended (g.P.Pmem.region c.args.memory.now) c.args.tables.now.layout c.args.free.now c.args.cpu (record c.args.directory.now { names = c.reserve.new.self }) (x ∷ c.name_entry-2.result ∷ [])) left) c.name_entry.ensures there in
    left_here c.args.directory.now (record c.args.directory.now { names = c.reserve.new.self }) c.args.moved.now.inode c.args.moved.now.name.now c.args.moved.now.other.now c.args.moved.now.time same c.len-names.ensures.each_once absent left
    (subst (λ (x : Entry). LeavesEither (g.P.Pmem.region c.args.memory.now) c.args.tables.now.layout held (Appended (g.P.Pmem.region c.args.memory.now) c.args.tables.now.layout c.args.free.now c.args.cpu (record c.args.directory.now { names = c.reserve.new.self }) (Name (record { operation = Remove; inode = c.args.moved.now.inode; time = c.args.moved.now.time; name = c.args.moved.now.name.now }) ∷ x ∷ [])) left) c.name_entry-2.ensures one)

pub returns-clause-any_stop : goal.returns-clause-any_stop
returns-clause-any_stop g c held h shows absent settled left may =
    let same = more_names c.args.directory.now c.reserve.new.self c.reserve.ensures.names in
    let there = c.append_log.ensures.any_stop held h (shows_same same shows) (omega arith) settled left may in
    let one = subst (λ (x : Entry). LeavesEither (g.P.Pmem.region c.args.memory.now) c.args.tables.now.layout held (Appended (g.P.Pmem.region c.args.memory.now) c.args.tables.now.layout c.args.free.now c.args.cpu (record c.args.directory.now { names = c.reserve.new.self }) (x ∷ c.name_entry-2.result ∷ [])) left) c.name_entry.ensures there in
    left_here c.args.directory.now (record c.args.directory.now { names = c.reserve.new.self }) c.args.moved.now.inode c.args.moved.now.name.now c.args.moved.now.other.now c.args.moved.now.time same c.len-names.ensures.each_once absent left
    (subst (λ (x : Entry). LeavesEither (g.P.Pmem.region c.args.memory.now) c.args.tables.now.layout held (Appended (g.P.Pmem.region c.args.memory.now) c.args.tables.now.layout c.args.free.now c.args.cpu (record c.args.directory.now { names = c.reserve.new.self }) (Name (record { operation = Remove; inode = c.args.moved.now.inode; time = c.args.moved.now.time; name = c.args.moved.now.name.now }) ∷ x ∷ [])) left) c.name_entry-2.ensures one)

pub returns-then-not-are_enough-clause-wrote : goal.returns-then-not-are_enough-clause-wrote
returns-then-not-are_enough-clause-wrote g c held h shows at whole away = refl

pub returns-then-is_err-clause-wrote : goal.returns-then-is_err-clause-wrote
returns-then-is_err-clause-wrote g c held h shows at whole away = refl

pub returns-in_err-append_log-clause-wrote : goal.returns-in_err-append_log-clause-wrote
returns-in_err-append_log-clause-wrote g c held h shows = c.append_log.ensures.wrote held h (shows_same (more_names c.args.directory.now c.reserve.new.self c.reserve.ensures.names) shows) (omega arith)

pub returns-clause-wrote : goal.returns-clause-wrote
returns-clause-wrote g c held h shows = c.append_log.ensures.wrote held h (shows_same (more_names c.args.directory.now c.reserve.new.self c.reserve.ensures.names) shows) (omega arith)
