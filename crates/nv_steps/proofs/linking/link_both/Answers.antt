use Rattle.std.proofs.Common.{◌∙◌, ◌+◌, ◌%◌, ◌∷◌, [], ap, refl, subst, arith, ◌≡◌, ◌≤◌, sym}
use Rattle.std.proofs.lemmas.Result.{err_from_is_err_and, IfOk-from_err}
use Rattle.nv_entry.specs.declared.entry.Entry.{Entry}
use Rattle.nv_entry.specs.declared.entry.Operation.TheVariants.{Add}
use Rattle.nv_entry.specs.Spelling.{entry_length}
use Rattle.nv_logpage.specs.Append.{needed}
use Rattle.nv_alloc.specs.Taking.{all_blocks}
use Rattle.nv_outcome.specs.Same.{SameRow}
use Rattle.nv_tree.specs.declared.refusal.Refusal.TheVariants.{Stopped}
use Rattle.nv_tree.specs.declared.refusal.Refusal.{Refusal}
use Rattle.nv_steps.specs.NameEntries.{links_entries, name_entries}
use Rattle.nv_steps.specs.MoreNames.{AppendsLogs, AreFew}
use Rattle.nv_commit.specs.Stopped.{LeavesEither}
use Rattle.nv_steps.specs.Stopped.{AppendedBoth}
use Rattle.nv_steps.specs.Steps.{LeavesStep, RefusesStep}
use Rattle.nv_steps.proofs.LinkedAt.{left_linked, links_at_places}
use Rattle.nv_tree.proofs.Replies.{refused_by}
use Rattle.nv_steps.proofs.Kept.{kept_done, kept_refused}
use Rattle.nv_steps.proofs.AppendedLogs.{few_one}
use Rattle.nv_steps.proofs.linking.link_both.Goals as goal

pub returns-in_err-append_logs-clause-needs : goal.returns-in_err-append_logs-clause-needs
returns-in_err-append_logs-clause-needs g c =
    record {
      enough = IfOk-from_err c.from_residual.result _ c.from_residual.ensures.0;
      refused = let w = err_from_is_err_and c.from_residual.result c.from_residual.ensures.1 in
          refused_by c.from_residual.result c.in_err-append_logs.field-0.0 w.0
          (λ (e : Refusal). RefusesStep e (needed (c.args.file.now.tail % 4096) (links_entries (c.args.file.now.numbers.links + 1) c.args.time) + needed (c.args.directory.now.tail % 4096) (name_entries Add c.args.file.now.inode c.args.name.now c.args.time)) c.args.free.now) w.1 w.2
          (subst (λ (x : Entry). RefusesStep c.in_err-append_logs.field-0.0 (needed (c.args.file.now.tail % 4096) (links_entries (c.args.file.now.numbers.links + 1) c.args.time) + needed (c.args.directory.now.tail % 4096) (x ∷ [])) c.args.free.now) c.name_entry.ensures c.in_err-append_logs.ensures.needs.refused);
    }

pub returns-clause-linked : goal.returns-clause-linked
returns-clause-linked g c =
    let grew = c.in_ok-append_logs.ensures.appended in
    let both = subst (λ (x : Entry). AppendsLogs (g.P.Pmem.region c.args.memory.now) (g.P.Pmem.region c.append_logs.new.memory) c.args.tables.now.layout c.args.free.now c.append_logs.new.free c.args.cpu (c.args.file.now ∷ c.args.directory.now ∷ []) (c.append_logs.new.row ∷ c.append_logs.new.other ∷ []) 0 (links_entries (c.args.file.now.numbers.links + 1) c.args.time) 1 (x ∷ [])) c.name_entry.ensures grew in
    links_at_places c.args.file.now both refl (λ e. omega (arith, e)) c.append_logs.new.row c.append_logs.new.other c.append_logs.new.other c.length.result refl c.set_links.ensures refl (c.length.ensures.value ∙ ap entry_length c.name_entry.ensures) refl c.add_name.ensures.row c.add_name.ensures.once

pub append_logs-requires : goal.append_logs-requires
append_logs-requires g c =
    record {
      apart = c.requires.apart;
      stands = c.requires.stands;
      other_stands = c.requires.other_stands;
      given = ((few_one _ refl), (subst (λ (x : Entry). AreFew (x ∷ [])) (sym c.name_entry.ensures) (few_one _ refl)));
    }

pub returns-in_err-append_logs-clause-unchanged : goal.returns-in_err-append_logs-clause-unchanged
returns-in_err-append_logs-clause-unchanged g c =
    let w = err_from_is_err_and c.from_residual.result c.from_residual.ensures.1 in
    refused_by c.from_residual.result c.in_err-append_logs.field-0.0 w.0 (λ (e : Refusal). (e ≡ Stopped → ⊥) → LeavesStep c.args.memory.now c.append_logs.new.memory c.args.free.now c.append_logs.new.free c.args.file.now c.append_logs.new.row × SameRow c.args.directory.now c.append_logs.new.other) w.1 w.2 c.in_err-append_logs.ensures.unchanged

pub returns-in_err-append_logs-clause-kept : goal.returns-in_err-append_logs-clause-kept
returns-in_err-append_logs-clause-kept g c =
    let w = err_from_is_err_and c.from_residual.result c.from_residual.ensures.1 in
    kept_refused c.from_residual.result c.in_err-append_logs.field-0.0 w.0 w.1 w.2 c.in_err-append_logs.ensures.kept

pub returns-in_err-append_logs-clause-inodes : goal.returns-in_err-append_logs-clause-inodes
returns-in_err-append_logs-clause-inodes g c = (c.in_err-append_logs.ensures.inodes.0, c.in_err-append_logs.ensures.inodes.1)

pub returns-clause-needs : goal.returns-clause-needs
returns-clause-needs g c =
    record {
      enough = subst (λ (x : Entry). needed (c.args.file.now.tail % 4096) (links_entries (c.args.file.now.numbers.links + 1) c.args.time) + needed (c.args.directory.now.tail % 4096) (x ∷ []) ≤ all_blocks c.args.free.now.pools) c.name_entry.ensures c.in_ok-append_logs.ensures.needs.enough;
      refused = tt;
    }

pub returns-clause-kept : goal.returns-clause-kept
returns-clause-kept g c = kept_done c.in_ok-append_logs.ensures.kept

pub returns-clause-unchanged : goal.returns-clause-unchanged
returns-clause-unchanged g c = tt

pub returns-clause-inodes : goal.returns-clause-inodes
returns-clause-inodes g c = ((c.set_links.ensures.rest.inode ∙ c.in_ok-append_logs.ensures.inodes.0), (c.add_name.ensures.row.rest.inode ∙ c.in_ok-append_logs.ensures.inodes.1))

pub returns-in_err-append_logs-clause-linked : goal.returns-in_err-append_logs-clause-linked
returns-in_err-append_logs-clause-linked g c = IfOk-from_err c.from_residual.result _ c.from_residual.ensures.0

pub name_entry-requires : goal.name_entry-requires
name_entry-requires g c = record { some = c.requires.given.1.some; fits = c.requires.given.1.short }

pub returns-in_err-append_logs-clause-any_stop : goal.returns-in_err-append_logs-clause-any_stop
returns-in_err-append_logs-clause-any_stop g c held h k here there absent settled left may =
    left_linked c.args.file.now c.args.directory.now c.args.name.now c.args.time absent left
    (subst (λ (x : Entry). LeavesEither (g.P.Pmem.region c.args.memory.now) c.args.tables.now.layout held (AppendedBoth (g.P.Pmem.region c.args.memory.now) c.args.tables.now.layout c.args.free.now c.args.cpu c.args.file.now (links_entries (c.args.file.now.numbers.links + 1) c.args.time) c.args.directory.now (x ∷ [])) left) c.name_entry.ensures
    (c.append_logs.ensures.any_stop held h k here there settled left may))

pub returns-clause-any_stop : goal.returns-clause-any_stop
returns-clause-any_stop g c held h k here there absent settled left may =
    left_linked c.args.file.now c.args.directory.now c.args.name.now c.args.time absent left
    (subst (λ (x : Entry). LeavesEither (g.P.Pmem.region c.args.memory.now) c.args.tables.now.layout held (AppendedBoth (g.P.Pmem.region c.args.memory.now) c.args.tables.now.layout c.args.free.now c.args.cpu c.args.file.now (links_entries (c.args.file.now.numbers.links + 1) c.args.time) c.args.directory.now (x ∷ [])) left) c.name_entry.ensures
    (c.append_logs.ensures.any_stop held h k here there settled left may))

pub returns-in_err-append_logs-clause-in_order : goal.returns-in_err-append_logs-clause-in_order
returns-in_err-append_logs-clause-in_order g c held h k here there = c.append_logs.ensures.in_order held h k here there

pub returns-clause-in_order : goal.returns-clause-in_order
returns-clause-in_order g c held h k here there = c.append_logs.ensures.in_order held h k here there

pub returns-in_err-append_logs-clause-wrote : goal.returns-in_err-append_logs-clause-wrote
returns-in_err-append_logs-clause-wrote g c held h k here there = c.append_logs.ensures.wrote held h k here there

pub returns-clause-wrote : goal.returns-clause-wrote
returns-clause-wrote g c held h k here there = c.append_logs.ensures.wrote held h k here there
