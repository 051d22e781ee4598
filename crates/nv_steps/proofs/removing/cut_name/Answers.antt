use Rattle.std.proofs.Common.{◌≡◌, ◌∙◌, ◌∷◌, [], ◌≤◌, ◌%◌, refl, subst, sym, arith}
use Rattle.std.proofs.lemmas.Result.{err_from_is_err_and, IfOk-from_err}
use Rattle.nv_alloc.specs.Taking.{all_blocks}
use Rattle.nv_entry.specs.declared.entry.Entry.{Entry}
use Rattle.nv_entry.specs.declared.entry.Operation.TheVariants.{Remove}
use Rattle.nv_logpage.specs.Append.{AreGiven, needed}
use Rattle.nv_tree.specs.declared.refusal.Refusal.{Refusal}
use Rattle.nv_tree.specs.declared.refusal.Refusal.TheVariants.{Stopped}
use Rattle.nv_tree.proofs.Replies.{refused_by}
use Rattle.nv_commit.specs.Stopped.{LeavesEither}
use Rattle.nv_steps.specs.InOrder.{TailIsFirst}
use Rattle.nv_steps.specs.NameEntries.{name_entries}
use Rattle.nv_steps.specs.Steps.{LeavesStep, RefusesStep}
use Rattle.nv_steps.specs.Takes.{AppendedLess, AppendsLess}
use Rattle.nv_steps.proofs.Kept.{kept_done, kept_refused}
use Rattle.nv_steps.proofs.CutNames.{cuts_name, left_cut}
use Rattle.nv_steps.specs.Slots.{slot_in}
use Rattle.nv_steps.proofs.removing.cut_name.Goals as goal

pub name_entry-requires : goal.name_entry-requires
name_entry-requires g c = record { some = c.requires.given.1.some; fits = c.requires.given.1.short }

pub append_less-requires : goal.append_less-requires
append_less-requires g c =
    record {
      stands = c.requires.stands;
      can = c.requires.can;
      given = (c.requires.given.0, (subst (λ (x : Entry). AreGiven (x ∷ [])) (sym c.name_entry.ensures) (refl, tt)), omega arith);
    }

pub returns-clause-cut : goal.returns-clause-cut
returns-clause-cut g c =
    cuts_name c.args.gone.now.inode c.args.gone.now.name.now c.args.gone.now.time (subst (λ (x : Entry). AppendsLess (g.P.Pmem.region c.args.memory.now) (g.P.Pmem.region c.append_less.new.memory) c.args.tables.now.layout c.args.free.now c.append_less.new.free c.args.cpu c.args.directory.now c.append_less.new.row c.args.gone.now.inode (x ∷ [])) c.name_entry.ensures c.in_ok-append_less.ensures.appended)
    c.remove_name.ensures.row c.remove_name.ensures.once

pub returns-clause-needs : goal.returns-clause-needs
returns-clause-needs g c =
    record {
      needs = record {
        enough = subst (λ (x : Entry). needed (c.args.directory.now.tail % 4096) (x ∷ []) ≤ all_blocks c.args.free.now.pools) c.name_entry.ensures c.in_ok-append_less.ensures.needs.enough;
        refused = tt;
      };
      room = c.in_ok-append_less.ensures.needs.room;
    }

pub returns-clause-kept : goal.returns-clause-kept
returns-clause-kept g c = kept_done c.in_ok-append_less.ensures.kept

pub returns-clause-unchanged : goal.returns-clause-unchanged
returns-clause-unchanged g c = tt

pub returns-clause-inode : goal.returns-clause-inode
returns-clause-inode g c = c.remove_name.ensures.row.rest.inode ∙ c.in_ok-append_less.ensures.row.0

pub returns-in_err-append_less-clause-cut : goal.returns-in_err-append_less-clause-cut
returns-in_err-append_less-clause-cut g c = IfOk-from_err c.from_residual.result _ c.from_residual.ensures.0

pub returns-in_err-append_less-clause-needs : goal.returns-in_err-append_less-clause-needs
returns-in_err-append_less-clause-needs g c =
    record {
      needs = record {
        enough = IfOk-from_err c.from_residual.result _ c.from_residual.ensures.0;
        refused = let w = err_from_is_err_and c.from_residual.result c.from_residual.ensures.1 in
            refused_by c.from_residual.result c.in_err-append_less.field-0.0 w.0 (λ (e : Refusal). RefusesStep e (needed (c.args.directory.now.tail % 4096) (name_entries Remove c.args.gone.now.inode c.args.gone.now.name.now c.args.gone.now.time)) c.args.free.now) w.1 w.2
            (subst (λ (x : Entry). RefusesStep c.in_err-append_less.field-0.0 (needed (c.args.directory.now.tail % 4096) (x ∷ [])) c.args.free.now) c.name_entry.ensures c.in_err-append_less.ensures.needs.refused);
      };
      room = IfOk-from_err c.from_residual.result _ c.from_residual.ensures.0;
    }

pub returns-in_err-append_less-clause-kept : goal.returns-in_err-append_less-clause-kept
returns-in_err-append_less-clause-kept g c =
    let w = err_from_is_err_and c.from_residual.result c.from_residual.ensures.1 in
    kept_refused c.from_residual.result c.in_err-append_less.field-0.0 w.0 w.1 w.2 c.in_err-append_less.ensures.kept

pub returns-in_err-append_less-clause-unchanged : goal.returns-in_err-append_less-clause-unchanged
returns-in_err-append_less-clause-unchanged g c =
    let w = err_from_is_err_and c.from_residual.result c.from_residual.ensures.1 in
    refused_by c.from_residual.result c.in_err-append_less.field-0.0 w.0 (λ (e : Refusal). (e ≡ Stopped → ⊥) → LeavesStep c.args.memory.now c.append_less.new.memory c.args.free.now c.append_less.new.free c.args.directory.now c.append_less.new.row) w.1 w.2 c.in_err-append_less.ensures.unchanged

pub returns-in_err-append_less-clause-inode : goal.returns-in_err-append_less-clause-inode
returns-in_err-append_less-clause-inode g c = c.in_err-append_less.ensures.row.0

pub returns-in_err-append_less-clause-wrote : goal.returns-in_err-append_less-clause-wrote
returns-in_err-append_less-clause-wrote g c held h shows = c.append_less.ensures.wrote held h shows

pub returns-in_err-append_less-clause-in_order : goal.returns-in_err-append_less-clause-in_order
returns-in_err-append_less-clause-in_order g c held h shows =
    subst (λ (x : Entry). TailIsFirst (g.P.Pmem.region c.args.memory.now) (g.P.Pmem.region c.append_less.new.memory) c.args.tables.now.layout c.args.free.now.pools c.args.cpu c.args.directory.now.inode c.args.directory.now.tail (x ∷ []) (slot_in c.args.tables.now.layout c.args.gone.now.inode)) c.name_entry.ensures (c.append_less.ensures.in_order held h shows)

pub returns-in_err-append_less-clause-any_stop : goal.returns-in_err-append_less-clause-any_stop
returns-in_err-append_less-clause-any_stop g c held h shows settled left may =
    left_cut c.args.directory.now c.args.gone.now.inode c.args.gone.now.name.now c.args.gone.now.time left
    (subst (λ (x : Entry). LeavesEither (g.P.Pmem.region c.args.memory.now) c.args.tables.now.layout held (AppendedLess (g.P.Pmem.region c.args.memory.now) c.args.tables.now.layout c.args.free.now c.args.cpu c.args.directory.now c.args.gone.now.inode (x ∷ [])) left) c.name_entry.ensures (c.append_less.ensures.any_stop held h shows settled left may))

pub returns-clause-wrote : goal.returns-clause-wrote
returns-clause-wrote g c held h shows = c.append_less.ensures.wrote held h shows

pub returns-clause-in_order : goal.returns-clause-in_order
returns-clause-in_order g c held h shows =
    subst (λ (x : Entry). TailIsFirst (g.P.Pmem.region c.args.memory.now) (g.P.Pmem.region c.append_less.new.memory) c.args.tables.now.layout c.args.free.now.pools c.args.cpu c.args.directory.now.inode c.args.directory.now.tail (x ∷ []) (slot_in c.args.tables.now.layout c.args.gone.now.inode)) c.name_entry.ensures (c.append_less.ensures.in_order held h shows)

pub returns-clause-any_stop : goal.returns-clause-any_stop
returns-clause-any_stop g c held h shows settled left may =
    left_cut c.args.directory.now c.args.gone.now.inode c.args.gone.now.name.now c.args.gone.now.time left
    (subst (λ (x : Entry). LeavesEither (g.P.Pmem.region c.args.memory.now) c.args.tables.now.layout held (AppendedLess (g.P.Pmem.region c.args.memory.now) c.args.tables.now.layout c.args.free.now c.args.cpu c.args.directory.now c.args.gone.now.inode (x ∷ [])) left) c.name_entry.ensures (c.append_less.ensures.any_stop held h shows settled left may))
