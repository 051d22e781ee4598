use Rattle.std.proofs.Common.{◌+◌, ◌-◌, ◌%◌, ◌∷◌, [], List, ap, refl, subst, arith, ◌∙◌, ◌≡◌, ◌≤◌, sym}
use Rattle.std.proofs.lemmas.Result.{err_from_is_err_and, IfOk-from_err}
use Rattle.nv_entry.specs.declared.entry.Entry.{Entry}
use Rattle.nv_entry.specs.Spelling.{entry_length}
use Rattle.nv_logpage.specs.Append.{needed}
use Rattle.nv_alloc.specs.Taking.{all_blocks}
use Rattle.nv_outcome.specs.Same.{SameRow}
use Rattle.nv_tree.specs.declared.refusal.Refusal.TheVariants.{Stopped}
use Rattle.nv_tree.specs.declared.refusal.Refusal.{Refusal}
use Rattle.nv_steps.specs.NameEntries.{links_entries}
use Rattle.nv_steps.specs.MoreNames.{AppendsLogs, AreFew}
use Rattle.nv_commit.specs.Stopped.{LeavesEither}
use Rattle.nv_steps.specs.Stopped.{AppendedBoth}
use Rattle.nv_steps.specs.InOrder.{TailIsFirst, tail_address}
use Rattle.nv_steps.specs.Steps.{LeavesStep, RefusesStep}
use Rattle.nv_steps.specs.Takes.{take_entries}
use Rattle.nv_tree.proofs.Replies.{refused_by}
use Rattle.nv_steps.proofs.AppendedLogs.{few_one}
use Rattle.nv_steps.proofs.Kept.{kept_done, kept_refused}
use Rattle.nv_steps.proofs.Lessened.{left_lessened, lessens_at_places}
use Rattle.nv_steps.proofs.taking.lessen_within.Goals as goal

pub returns-in_err-append_logs-clause-needs : goal.returns-in_err-append_logs-clause-needs
returns-in_err-append_logs-clause-needs g c =
    record {
      enough = IfOk-from_err c.from_residual.result _ c.from_residual.ensures.0;
      refused = let three : c.name_entry.result ∷ c.name_entry-2.result ∷ c.name_entry-3.result ∷ [] ≡ take_entries c.args.moved.now.inode c.args.file.now.inode c.args.moved.now.name.now c.args.moved.now.other.now c.args.moved.now.time = (λ t. c.name_entry.ensures t ∷ c.name_entry-2.ensures t ∷ c.name_entry-3.ensures t ∷ []) in
          let w = err_from_is_err_and c.from_residual.result c.from_residual.ensures.1 in
          refused_by c.from_residual.result c.in_err-append_logs.field-0.0 w.0
          (λ (e : Refusal). RefusesStep e (needed (c.args.directory.now.tail % 4096) (take_entries c.args.moved.now.inode c.args.file.now.inode c.args.moved.now.name.now c.args.moved.now.other.now c.args.moved.now.time) + needed (c.args.file.now.tail % 4096) (links_entries (c.args.file.now.numbers.links - 1) c.args.moved.now.time)) c.args.free.now) w.1 w.2
          (subst (λ (es : List Entry). RefusesStep c.in_err-append_logs.field-0.0 (needed (c.args.directory.now.tail % 4096) es + needed (c.args.file.now.tail % 4096) (links_entries (c.args.file.now.numbers.links - 1) c.args.moved.now.time)) c.args.free.now) three c.in_err-append_logs.ensures.needs.refused);
    }

pub returns-clause-lessened : goal.returns-clause-lessened
returns-clause-lessened g c =
    let three : c.name_entry.result ∷ c.name_entry-2.result ∷ c.name_entry-3.result ∷ [] ≡ take_entries c.args.moved.now.inode c.args.file.now.inode c.args.moved.now.name.now c.args.moved.now.other.now c.args.moved.now.time = (λ t. c.name_entry.ensures t ∷ c.name_entry-2.ensures t ∷ c.name_entry-3.ensures t ∷ []) in
    let grew = c.in_ok-append_logs.ensures.appended in
    let both = subst (λ (es : List Entry). AppendsLogs (g.P.Pmem.region c.args.memory.now) (g.P.Pmem.region c.append_logs.new.memory) c.args.tables.now.layout c.args.free.now c.append_logs.new.free c.args.cpu (c.args.directory.now ∷ c.args.file.now ∷ []) (c.append_logs.new.row ∷ c.append_logs.new.other ∷ []) 0 es 1 (links_entries (c.args.file.now.numbers.links - 1) c.args.moved.now.time)) three grew in
    lessens_at_places c.args.file.now both refl (λ e. omega (arith, e)) c.append_logs.new.row c.append_logs.new.other c.length.result refl (c.length.ensures.value ∙ ap entry_length c.name_entry-3.ensures) c.remove_name.ensures.row c.remove_name.ensures.once c.remove_name-2.ensures.row c.add_name.ensures.row c.add_name.ensures.once refl c.set_links.ensures

pub append_logs-requires : goal.append_logs-requires
append_logs-requires g c =
    record {
      apart = c.requires.apart;
      stands = c.requires.stands;
      other_stands = c.requires.other_stands;
      given = (
        (let three : c.name_entry.result ∷ c.name_entry-2.result ∷ c.name_entry-3.result ∷ [] ≡ take_entries c.args.moved.now.inode c.args.file.now.inode c.args.moved.now.name.now c.args.moved.now.other.now c.args.moved.now.time = (λ t. c.name_entry.ensures t ∷ c.name_entry-2.ensures t ∷ c.name_entry-3.ensures t ∷ []) in
            subst AreFew (sym three) (record { given = (refl, (refl, (refl, tt))); some = omega arith; few = omega arith })),
        (few_one _ refl),
      );
    }

pub returns-in_err-append_logs-clause-unchanged : goal.returns-in_err-append_logs-clause-unchanged
returns-in_err-append_logs-clause-unchanged g c =
    let w = err_from_is_err_and c.from_residual.result c.from_residual.ensures.1 in
    refused_by c.from_residual.result c.in_err-append_logs.field-0.0 w.0 (λ (e : Refusal). (e ≡ Stopped → ⊥) → LeavesStep c.args.memory.now c.append_logs.new.memory c.args.free.now c.append_logs.new.free c.args.directory.now c.append_logs.new.row × SameRow c.args.file.now c.append_logs.new.other) w.1 w.2 c.in_err-append_logs.ensures.unchanged

pub returns-in_err-append_logs-clause-kept : goal.returns-in_err-append_logs-clause-kept
returns-in_err-append_logs-clause-kept g c =
    let w = err_from_is_err_and c.from_residual.result c.from_residual.ensures.1 in
    kept_refused c.from_residual.result c.in_err-append_logs.field-0.0 w.0 w.1 w.2 c.in_err-append_logs.ensures.kept

pub returns-in_err-append_logs-clause-inodes : goal.returns-in_err-append_logs-clause-inodes
returns-in_err-append_logs-clause-inodes g c = (c.in_err-append_logs.ensures.inodes.0, c.in_err-append_logs.ensures.inodes.1)

pub returns-clause-needs : goal.returns-clause-needs
returns-clause-needs g c =
    record {
      enough = let three : c.name_entry.result ∷ c.name_entry-2.result ∷ c.name_entry-3.result ∷ [] ≡ take_entries c.args.moved.now.inode c.args.file.now.inode c.args.moved.now.name.now c.args.moved.now.other.now c.args.moved.now.time = (λ t. c.name_entry.ensures t ∷ c.name_entry-2.ensures t ∷ c.name_entry-3.ensures t ∷ []) in
          subst (λ (es : List Entry). needed (c.args.directory.now.tail % 4096) es + needed (c.args.file.now.tail % 4096) (links_entries (c.args.file.now.numbers.links - 1) c.args.moved.now.time) ≤ all_blocks c.args.free.now.pools) three c.in_ok-append_logs.ensures.needs.enough;
      refused = tt;
    }

pub returns-clause-kept : goal.returns-clause-kept
returns-clause-kept g c = kept_done c.in_ok-append_logs.ensures.kept

pub returns-clause-unchanged : goal.returns-clause-unchanged
returns-clause-unchanged g c = tt

pub returns-clause-inodes : goal.returns-clause-inodes
returns-clause-inodes g c =
    ((c.add_name.ensures.row.rest.inode ∙ c.remove_name-2.ensures.row.rest.inode ∙ c.remove_name.ensures.row.rest.inode ∙ c.in_ok-append_logs.ensures.inodes.0), (c.set_links.ensures.rest.inode ∙ c.in_ok-append_logs.ensures.inodes.1))

pub returns-in_err-append_logs-clause-lessened : goal.returns-in_err-append_logs-clause-lessened
returns-in_err-append_logs-clause-lessened g c = IfOk-from_err c.from_residual.result _ c.from_residual.ensures.0

pub name_entry-requires : goal.name_entry-requires
name_entry-requires g c = record { some = c.requires.given.1.some; fits = c.requires.given.1.short }

pub name_entry-requires-2 : goal.name_entry-requires-2
name_entry-requires-2 g c = record { some = c.requires.given.2.some; fits = c.requires.given.2.short }

pub name_entry-requires-3 : goal.name_entry-requires-3
name_entry-requires-3 g c = record { some = c.requires.given.2.some; fits = c.requires.given.2.short }

pub add_name-requires-clause-room : goal.add_name-requires-clause-room
add_name-requires-clause-room g c = omega (arith, c.in_ok-append_logs.ensures.needs.room.0, c.remove_name.ensures.room, c.remove_name-2.ensures.room)

pub returns-in_err-append_logs-clause-any_stop : goal.returns-in_err-append_logs-clause-any_stop
returns-in_err-append_logs-clause-any_stop g c held h f here there settled left may =
    let three : c.name_entry.result ∷ c.name_entry-2.result ∷ c.name_entry-3.result ∷ [] ≡ take_entries c.args.moved.now.inode c.args.file.now.inode c.args.moved.now.name.now c.args.moved.now.other.now c.args.moved.now.time = (λ t. c.name_entry.ensures t ∷ c.name_entry-2.ensures t ∷ c.name_entry-3.ensures t ∷ []) in
    left_lessened c.args.directory.now c.args.file.now c.args.moved.now.inode c.args.moved.now.name.now c.args.moved.now.other.now c.args.moved.now.time left
    (subst (λ (es : List Entry). LeavesEither (g.P.Pmem.region c.args.memory.now) c.args.tables.now.layout held (AppendedBoth (g.P.Pmem.region c.args.memory.now) c.args.tables.now.layout c.args.free.now c.args.cpu c.args.directory.now es c.args.file.now (links_entries (c.args.file.now.numbers.links - 1) c.args.moved.now.time)) left) three
    (c.append_logs.ensures.any_stop held h f here there settled left may))

pub returns-clause-any_stop : goal.returns-clause-any_stop
returns-clause-any_stop g c held h f here there settled left may =
    let three : c.name_entry.result ∷ c.name_entry-2.result ∷ c.name_entry-3.result ∷ [] ≡ take_entries c.args.moved.now.inode c.args.file.now.inode c.args.moved.now.name.now c.args.moved.now.other.now c.args.moved.now.time = (λ t. c.name_entry.ensures t ∷ c.name_entry-2.ensures t ∷ c.name_entry-3.ensures t ∷ []) in
    left_lessened c.args.directory.now c.args.file.now c.args.moved.now.inode c.args.moved.now.name.now c.args.moved.now.other.now c.args.moved.now.time left
    (subst (λ (es : List Entry). LeavesEither (g.P.Pmem.region c.args.memory.now) c.args.tables.now.layout held (AppendedBoth (g.P.Pmem.region c.args.memory.now) c.args.tables.now.layout c.args.free.now c.args.cpu c.args.directory.now es c.args.file.now (links_entries (c.args.file.now.numbers.links - 1) c.args.moved.now.time)) left) three
    (c.append_logs.ensures.any_stop held h f here there settled left may))

pub returns-in_err-append_logs-clause-in_order : goal.returns-in_err-append_logs-clause-in_order
returns-in_err-append_logs-clause-in_order g c held h f here there =
    let three : c.name_entry.result ∷ c.name_entry-2.result ∷ c.name_entry-3.result ∷ [] ≡ take_entries c.args.moved.now.inode c.args.file.now.inode c.args.moved.now.name.now c.args.moved.now.other.now c.args.moved.now.time = (λ t. c.name_entry.ensures t ∷ c.name_entry-2.ensures t ∷ c.name_entry-3.ensures t ∷ []) in
    subst (λ (es : List Entry). TailIsFirst (g.P.Pmem.region c.args.memory.now) (g.P.Pmem.region c.append_logs.new.memory) c.args.tables.now.layout c.args.free.now.pools c.args.cpu c.args.directory.now.inode c.args.directory.now.tail es (tail_address c.args.tables.now.layout c.args.file.now.inode)) three (c.append_logs.ensures.in_order held h f here there)

pub returns-clause-in_order : goal.returns-clause-in_order
returns-clause-in_order g c held h f here there =
    let three : c.name_entry.result ∷ c.name_entry-2.result ∷ c.name_entry-3.result ∷ [] ≡ take_entries c.args.moved.now.inode c.args.file.now.inode c.args.moved.now.name.now c.args.moved.now.other.now c.args.moved.now.time = (λ t. c.name_entry.ensures t ∷ c.name_entry-2.ensures t ∷ c.name_entry-3.ensures t ∷ []) in
    subst (λ (es : List Entry). TailIsFirst (g.P.Pmem.region c.args.memory.now) (g.P.Pmem.region c.append_logs.new.memory) c.args.tables.now.layout c.args.free.now.pools c.args.cpu c.args.directory.now.inode c.args.directory.now.tail es (tail_address c.args.tables.now.layout c.args.file.now.inode)) three (c.append_logs.ensures.in_order held h f here there)

pub returns-in_err-append_logs-clause-wrote : goal.returns-in_err-append_logs-clause-wrote
returns-in_err-append_logs-clause-wrote g c held h f here there = c.append_logs.ensures.wrote held h f here there

pub returns-clause-wrote : goal.returns-clause-wrote
returns-clause-wrote g c held h f here there = c.append_logs.ensures.wrote held h f here there
