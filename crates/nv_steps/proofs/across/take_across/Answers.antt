use Rattle.std.proofs.Common.{◌∙◌, ◌+◌, ◌%◌, ◌∷◌, [], ap, subst, ◌≡◌, ◌≤◌, sym, refl, List, arith}
use Rattle.std.proofs.lemmas.Result.{err_from_is_err_and, IfOk-from_err}
use Rattle.nv_entry.specs.declared.entry.Entry.{Entry}
use Rattle.nv_entry.specs.declared.entry.Operation.TheVariants.{Remove}
use Rattle.nv_entry.specs.Spelling.{entry_length}
use Rattle.nv_logpage.specs.Append.{needed}
use Rattle.nv_alloc.specs.Taking.{all_blocks}
use Rattle.nv_outcome.specs.Same.{SameRow}
use Rattle.nv_tree.specs.declared.refusal.Refusal.TheVariants.{Stopped}
use Rattle.nv_tree.specs.declared.refusal.Refusal.{Refusal}
use Rattle.nv_tree.proofs.Replies.{refused_by}
use Rattle.nv_commit.specs.Stopped.{LeavesEither}
use Rattle.nv_steps.specs.Across.{AppendedLogsLess, AppendsLogsLess, handed_entries}
use Rattle.nv_steps.specs.InOrder.{TailIsFirst, TailIsNext, tail_address}
use Rattle.nv_steps.specs.MoreNames.{AreFew}
use Rattle.nv_steps.specs.NameEntries.{name_entries}
use Rattle.nv_steps.specs.Steps.{LeavesStep, RefusesStep}
use Rattle.nv_steps.proofs.AppendedLogs.{few_one}
use Rattle.nv_steps.proofs.Kept.{kept_done, kept_refused}
use Rattle.nv_steps.proofs.TookAcross.{both_as, few_two, left_across, takes_across}
use Rattle.nv_steps.specs.Slots.{slot_in}
use Rattle.nv_steps.proofs.across.take_across.Goals as goal

pub append_logs_less-requires : goal.append_logs_less-requires
append_logs_less-requires g c =
    record {
      logs = record {
        apart = c.requires.apart;
        stands = c.requires.stands;
        other_stands = c.requires.other_stands;
        given = (
          (subst (λ (x : Entry). AreFew (x ∷ [])) (sym c.name_entry.ensures) (few_one _ refl)),
          (let two : c.name_entry-2.result ∷ c.name_entry-3.result ∷ [] ≡ handed_entries c.args.moved.now.inode c.args.gone.inode c.args.moved.now.other.now c.args.moved.now.time = (λ t. c.name_entry-2.ensures t ∷ c.name_entry-3.ensures t ∷ []) in
              subst AreFew (sym two) (few_two _ _ refl refl)),
        );
      };
      number = c.requires.number;
      differ = c.requires.differ;
      other_differs = c.requires.other_differs;
    }

pub name_entry-requires : goal.name_entry-requires
name_entry-requires g c = record { some = c.requires.given.0.some; fits = c.requires.given.0.short }

pub name_entry-requires-2 : goal.name_entry-requires-2
name_entry-requires-2 g c = record { some = c.requires.given.1.some; fits = c.requires.given.1.short }

pub name_entry-requires-3 : goal.name_entry-requires-3
name_entry-requires-3 g c = record { some = c.requires.given.1.some; fits = c.requires.given.1.short }

pub returns-clause-taken : goal.returns-clause-taken
returns-clause-taken g c =
    let one : c.name_entry.result ∷ [] ≡ name_entries Remove c.args.moved.now.inode c.args.moved.now.name.now c.args.moved.now.time = (λ t. c.name_entry.ensures t ∷ []) in
    let two : c.name_entry-2.result ∷ c.name_entry-3.result ∷ [] ≡ handed_entries c.args.moved.now.inode c.args.gone.inode c.args.moved.now.other.now c.args.moved.now.time = (λ t. c.name_entry-2.ensures t ∷ c.name_entry-3.ensures t ∷ []) in
    takes_across c.args.moved.now.inode c.args.gone.inode c.args.moved.now.name.now c.args.moved.now.other.now c.args.moved.now.time c.length.result
    (both_as (λ (es fs : List Entry). AppendsLogsLess (g.P.Pmem.region c.args.memory.now) (g.P.Pmem.region c.append_logs_less.new.memory) c.args.tables.now.layout c.args.free.now c.append_logs_less.new.free c.args.cpu c.args.from.now c.append_logs_less.new.row es c.args.to.now c.append_logs_less.new.other fs c.args.gone.inode) one two c.in_ok-append_logs_less.ensures.appended)
    (c.length.ensures.value ∙ ap entry_length c.name_entry-3.ensures) c.remove_name.ensures.row c.remove_name.ensures.once c.remove_name-2.ensures.row c.remove_name-2.ensures.once c.add_name.ensures.row c.add_name.ensures.once

pub returns-clause-needs : goal.returns-clause-needs
returns-clause-needs g c =
    record {
      needs = record {
        enough = let one : c.name_entry.result ∷ [] ≡ name_entries Remove c.args.moved.now.inode c.args.moved.now.name.now c.args.moved.now.time = (λ t. c.name_entry.ensures t ∷ []) in
            let two : c.name_entry-2.result ∷ c.name_entry-3.result ∷ [] ≡ handed_entries c.args.moved.now.inode c.args.gone.inode c.args.moved.now.other.now c.args.moved.now.time = (λ t. c.name_entry-2.ensures t ∷ c.name_entry-3.ensures t ∷ []) in
            both_as (λ (es fs : List Entry). needed (c.args.from.now.tail % 4096) es + needed (c.args.to.now.tail % 4096) fs ≤ all_blocks c.args.free.now.pools) one two c.in_ok-append_logs_less.ensures.needs.enough;
        refused = tt;
      };
      room = c.in_ok-append_logs_less.ensures.needs.room.1;
    }

pub returns-clause-kept : goal.returns-clause-kept
returns-clause-kept g c = kept_done c.in_ok-append_logs_less.ensures.kept

pub returns-clause-unchanged : goal.returns-clause-unchanged
returns-clause-unchanged g c = tt

pub returns-clause-inodes : goal.returns-clause-inodes
returns-clause-inodes g c = (c.remove_name.ensures.row.rest.inode ∙ c.in_ok-append_logs_less.ensures.inodes.0, c.add_name.ensures.row.rest.inode ∙ c.remove_name-2.ensures.row.rest.inode ∙ c.in_ok-append_logs_less.ensures.inodes.1)

pub returns-in_err-append_logs_less-clause-kept : goal.returns-in_err-append_logs_less-clause-kept
returns-in_err-append_logs_less-clause-kept g c =
    let w = err_from_is_err_and c.from_residual.result c.from_residual.ensures.1 in
    kept_refused c.from_residual.result c.in_err-append_logs_less.field-0.0 w.0 w.1 w.2 c.in_err-append_logs_less.ensures.kept

pub returns-in_err-append_logs_less-clause-inodes : goal.returns-in_err-append_logs_less-clause-inodes
returns-in_err-append_logs_less-clause-inodes g c = (c.in_err-append_logs_less.ensures.inodes.0, c.in_err-append_logs_less.ensures.inodes.1)

pub returns-in_err-append_logs_less-clause-taken : goal.returns-in_err-append_logs_less-clause-taken
returns-in_err-append_logs_less-clause-taken g c = IfOk-from_err c.from_residual.result _ c.from_residual.ensures.0

pub returns-in_err-append_logs_less-clause-needs : goal.returns-in_err-append_logs_less-clause-needs
returns-in_err-append_logs_less-clause-needs g c =
    record {
      needs = record {
        enough = IfOk-from_err c.from_residual.result _ c.from_residual.ensures.0;
        refused = let w = err_from_is_err_and c.from_residual.result c.from_residual.ensures.1 in
            let one : c.name_entry.result ∷ [] ≡ name_entries Remove c.args.moved.now.inode c.args.moved.now.name.now c.args.moved.now.time = (λ t. c.name_entry.ensures t ∷ []) in
            let two : c.name_entry-2.result ∷ c.name_entry-3.result ∷ [] ≡ handed_entries c.args.moved.now.inode c.args.gone.inode c.args.moved.now.other.now c.args.moved.now.time = (λ t. c.name_entry-2.ensures t ∷ c.name_entry-3.ensures t ∷ []) in
            refused_by c.from_residual.result c.in_err-append_logs_less.field-0.0 w.0 (λ (e : Refusal). RefusesStep e (needed (c.args.from.now.tail % 4096) (name_entries Remove c.args.moved.now.inode c.args.moved.now.name.now c.args.moved.now.time) + needed (c.args.to.now.tail % 4096) (handed_entries c.args.moved.now.inode c.args.gone.inode c.args.moved.now.other.now c.args.moved.now.time)) c.args.free.now) w.1 w.2
            (both_as (λ (es fs : List Entry). RefusesStep c.in_err-append_logs_less.field-0.0 (needed (c.args.from.now.tail % 4096) es + needed (c.args.to.now.tail % 4096) fs) c.args.free.now) one two c.in_err-append_logs_less.ensures.needs.refused);
      };
      room = IfOk-from_err c.from_residual.result _ c.from_residual.ensures.0;
    }

pub returns-in_err-append_logs_less-clause-unchanged : goal.returns-in_err-append_logs_less-clause-unchanged
returns-in_err-append_logs_less-clause-unchanged g c =
    let w = err_from_is_err_and c.from_residual.result c.from_residual.ensures.1 in
    refused_by c.from_residual.result c.in_err-append_logs_less.field-0.0 w.0 (λ (e : Refusal). (e ≡ Stopped → ⊥) → LeavesStep c.args.memory.now c.append_logs_less.new.memory c.args.free.now c.append_logs_less.new.free c.args.from.now c.append_logs_less.new.row × SameRow c.args.to.now c.append_logs_less.new.other) w.1 w.2 c.in_err-append_logs_less.ensures.unchanged

pub returns-clause-wrote : goal.returns-clause-wrote
returns-clause-wrote g c held h k here there = c.append_logs_less.ensures.wrote held h k here there

pub returns-clause-in_order : goal.returns-clause-in_order
returns-clause-in_order g c held h k here there =
    let one : c.name_entry.result ∷ [] ≡ name_entries Remove c.args.moved.now.inode c.args.moved.now.name.now c.args.moved.now.time = (λ t. c.name_entry.ensures t ∷ []) in
    let two : c.name_entry-2.result ∷ c.name_entry-3.result ∷ [] ≡ handed_entries c.args.moved.now.inode c.args.gone.inode c.args.moved.now.other.now c.args.moved.now.time = (λ t. c.name_entry-2.ensures t ∷ c.name_entry-3.ensures t ∷ []) in
    both_as (λ (es fs : List Entry). TailIsFirst (g.P.Pmem.region c.args.memory.now) (g.P.Pmem.region c.append_logs_less.new.memory) c.args.tables.now.layout c.args.free.now.pools c.args.cpu c.args.from.now.inode c.args.from.now.tail es (tail_address c.args.tables.now.layout c.args.to.now.inode)
    × TailIsNext (g.P.Pmem.region c.args.memory.now) (g.P.Pmem.region c.append_logs_less.new.memory) c.args.tables.now.layout c.args.free.now.pools c.args.cpu (needed (c.args.from.now.tail % 4096) es) c.args.to.now.inode c.args.to.now.tail fs (slot_in c.args.tables.now.layout c.args.gone.inode)) one two (c.append_logs_less.ensures.in_order held h k here there)

pub returns-clause-any_stop : goal.returns-clause-any_stop
returns-clause-any_stop g c held h k here there settled left may =
    let one : c.name_entry.result ∷ [] ≡ name_entries Remove c.args.moved.now.inode c.args.moved.now.name.now c.args.moved.now.time = (λ t. c.name_entry.ensures t ∷ []) in
    let two : c.name_entry-2.result ∷ c.name_entry-3.result ∷ [] ≡ handed_entries c.args.moved.now.inode c.args.gone.inode c.args.moved.now.other.now c.args.moved.now.time = (λ t. c.name_entry-2.ensures t ∷ c.name_entry-3.ensures t ∷ []) in
    left_across c.args.from.now c.args.to.now c.args.moved.now.inode c.args.gone.inode c.args.moved.now.name.now c.args.moved.now.other.now c.args.moved.now.time left
    (both_as (λ (es fs : List Entry). LeavesEither (g.P.Pmem.region c.args.memory.now) c.args.tables.now.layout held (AppendedLogsLess (g.P.Pmem.region c.args.memory.now) c.args.tables.now.layout c.args.free.now c.args.cpu c.args.from.now es c.args.to.now fs c.args.gone.inode) left) one two (c.append_logs_less.ensures.any_stop held h k here there settled left may))

pub returns-in_err-append_logs_less-clause-wrote : goal.returns-in_err-append_logs_less-clause-wrote
returns-in_err-append_logs_less-clause-wrote g c held h k here there = c.append_logs_less.ensures.wrote held h k here there

pub returns-in_err-append_logs_less-clause-in_order : goal.returns-in_err-append_logs_less-clause-in_order
returns-in_err-append_logs_less-clause-in_order g c held h k here there =
    let one : c.name_entry.result ∷ [] ≡ name_entries Remove c.args.moved.now.inode c.args.moved.now.name.now c.args.moved.now.time = (λ t. c.name_entry.ensures t ∷ []) in
    let two : c.name_entry-2.result ∷ c.name_entry-3.result ∷ [] ≡ handed_entries c.args.moved.now.inode c.args.gone.inode c.args.moved.now.other.now c.args.moved.now.time = (λ t. c.name_entry-2.ensures t ∷ c.name_entry-3.ensures t ∷ []) in
    both_as (λ (es fs : List Entry). TailIsFirst (g.P.Pmem.region c.args.memory.now) (g.P.Pmem.region c.append_logs_less.new.memory) c.args.tables.now.layout c.args.free.now.pools c.args.cpu c.args.from.now.inode c.args.from.now.tail es (tail_address c.args.tables.now.layout c.args.to.now.inode)
    × TailIsNext (g.P.Pmem.region c.args.memory.now) (g.P.Pmem.region c.append_logs_less.new.memory) c.args.tables.now.layout c.args.free.now.pools c.args.cpu (needed (c.args.from.now.tail % 4096) es) c.args.to.now.inode c.args.to.now.tail fs (slot_in c.args.tables.now.layout c.args.gone.inode)) one two (c.append_logs_less.ensures.in_order held h k here there)

pub returns-in_err-append_logs_less-clause-any_stop : goal.returns-in_err-append_logs_less-clause-any_stop
returns-in_err-append_logs_less-clause-any_stop g c held h k here there settled left may =
    let one : c.name_entry.result ∷ [] ≡ name_entries Remove c.args.moved.now.inode c.args.moved.now.name.now c.args.moved.now.time = (λ t. c.name_entry.ensures t ∷ []) in
    let two : c.name_entry-2.result ∷ c.name_entry-3.result ∷ [] ≡ handed_entries c.args.moved.now.inode c.args.gone.inode c.args.moved.now.other.now c.args.moved.now.time = (λ t. c.name_entry-2.ensures t ∷ c.name_entry-3.ensures t ∷ []) in
    left_across c.args.from.now c.args.to.now c.args.moved.now.inode c.args.gone.inode c.args.moved.now.name.now c.args.moved.now.other.now c.args.moved.now.time left
    (both_as (λ (es fs : List Entry). LeavesEither (g.P.Pmem.region c.args.memory.now) c.args.tables.now.layout held (AppendedLogsLess (g.P.Pmem.region c.args.memory.now) c.args.tables.now.layout c.args.free.now c.args.cpu c.args.from.now es c.args.to.now fs c.args.gone.inode) left) one two (c.append_logs_less.ensures.any_stop held h k here there settled left may))

pub add_name-requires-clause-room : goal.add_name-requires-clause-room
add_name-requires-clause-room g c = omega (arith, c.in_ok-append_logs_less.ensures.needs.room.0, c.remove_name-2.ensures.room)
