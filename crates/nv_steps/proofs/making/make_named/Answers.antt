use Rattle.std.proofs.Common.{arith, ◌≡◌, ◌+◌, ◌%◌, ◌<◌, ◌≤◌, ◌∙◌, ◌∷◌, [], List, ℕ, ap, inl, inr, length, refl, subst, sym, IsTrue}
use Rattle.std.proofs.lemmas.Result.{err_from_is_err_and, IfErr-weaker, IfOk-from_err}
use Rattle.smallvec.specs.SmallVec.{HasRoomFor}
use Rattle.nv_super.specs.declared.superblock.Super.{Super}
use Rattle.nv_inode.specs.Numbers.{has_slot}
use Rattle.nv_alloc.specs.Taking.{all_blocks}
use Rattle.nv_entry.specs.declared.entry.Entry.{Entry}
use Rattle.nv_entry.specs.declared.entry.Operation.TheVariants.{Add}
use Rattle.nv_logpage.specs.Append.{needed}
use Rattle.nv_tree.specs.declared.refusal.Refusal.{Refusal}
use Rattle.nv_tree.specs.declared.refusal.Refusal.TheVariants.{Stopped}
use Rattle.nv_tree.proofs.Replies.{refused_by}
use Rattle.nv_steps.specs.NameEntries.{name_entries}
use Rattle.nv_steps.specs.NewNames.{CanCommitName}
use Rattle.nv_steps.specs.Steps.{LeavesStep, RefusesStep}
use Rattle.nv_steps.specs.Stopped.{Named}
use Rattle.nv_steps.specs.Stores.{one_more}
use Rattle.nv_steps.specs.Taken.{TakesEach}
use Rattle.nv_steps.proofs.AppendedLogs.{needed_one}
use Rattle.nv_commit.proofs.Left.{still}
use Rattle.nv_steps.proofs.Kept.{nothing_stored, on_ok_always}
use Rattle.nv_steps.proofs.Stores.{stores_nothing}
use Rattle.nv_steps.proofs.TakenBlocks.{taken_sup}
use Rattle.nv_steps.proofs.making.make_named.Goals as goal

pub name_entry-requires : goal.name_entry-requires
name_entry-requires g c = record { some = c.requires.given.some; fits = c.requires.given.short }

pub overflow_add-count : goal.overflow_add-count
overflow_add-count g c = let few = needed_one (c.args.directory.now.tail % 4096) (c.name_entry.result ∷ []) refl in omega (arith, few, c.pages_needed-count.ensures)

pub prepare_name-requires : goal.prepare_name-requires
prepare_name-requires g c = record { cpu = subst (λ (s : Super). c.args.cpu < s.cpus) (sym c.requires.stands.lists) c.requires.can.cpu_below }

pub returns-in_err-blocks-clause-needs : goal.returns-in_err-blocks-clause-needs
returns-in_err-blocks-clause-needs g c =
    record {
      enough = IfOk-from_err c.from_residual.result _ c.from_residual.ensures.0;
      refused = let w = err_from_is_err_and c.from_residual.result c.from_residual.ensures.1 in
          refused_by c.from_residual.result c.in_err-blocks.field-0.0 w.0 (λ (e : Refusal). RefusesStep e (1 + needed (c.args.directory.now.tail % 4096) (name_entries Add c.args.new.now.inode c.args.new.now.name.now c.args.new.now.time)) c.args.free.now) w.1 w.2
          (subst (λ (n : ℕ). RefusesStep c.in_err-blocks.field-0.0 n c.args.free.now) (ap (λ (n : ℕ). 1 + n) (c.pages_needed-count.ensures ∙ ap (λ (e : Entry). needed (c.args.directory.now.tail % 4096) (e ∷ [])) c.name_entry.ensures)) c.in_err-blocks.ensures.needs.refused);
    }

pub returns-in_err-blocks-clause-unchanged : goal.returns-in_err-blocks-clause-unchanged
returns-in_err-blocks-clause-unchanged g c =
    let w = err_from_is_err_and c.from_residual.result c.from_residual.ensures.1 in
    refused_by c.from_residual.result c.in_err-blocks.field-0.0 w.0 (λ (e : Refusal). (e ≡ Stopped → ⊥) → LeavesStep c.args.memory.now c.args.memory.now c.args.free.now c.prepare_name.new.free c.args.directory.now c.prepare_name.new.directory) w.1 w.2
    (λ _. record { memory = refl; free = c.in_err-blocks.ensures.unchanged; row = c.in_err-blocks.ensures.row })

pub returns-in_err-blocks-clause-kept : goal.returns-in_err-blocks-clause-kept
returns-in_err-blocks-clause-kept g c =
    nothing_stored (IfOk-from_err c.from_residual.result _ c.from_residual.ensures.0) (let w = err_from_is_err_and c.from_residual.result c.from_residual.ensures.1 in
    refused_by c.from_residual.result c.in_err-blocks.field-0.0 w.0 (λ (e : Refusal). e ≡ Stopped → IsTrue (g.P.Pmem.fuse c.args.memory.now).has_burnt) w.1 w.2 (λ is. absurd (c.in_err-blocks.ensures.goes_on is))) (c.in_err-blocks.ensures.unchanged.sup)

pub returns-in_err-blocks-clause-inode : goal.returns-in_err-blocks-clause-inode
returns-in_err-blocks-clause-inode g c = c.in_err-blocks.ensures.row.inode

pub returns-in_err-blocks-clause-made : goal.returns-in_err-blocks-clause-made
returns-in_err-blocks-clause-made g c = IfOk-from_err c.from_residual.result _ c.from_residual.ensures.0

pub returns-in_err-blocks-clause-any_stop : goal.returns-in_err-blocks-clause-any_stop
returns-in_err-blocks-clause-any_stop g c held h shows out absent settled =
    still _ _ c.args.tables.now.layout held (Named (g.P.Pmem.region c.args.memory.now) c.args.tables.now.layout c.args.free.now c.args.cpu c.args.directory.now c.args.new.now.kind c.args.new.now.mode c.args.new.now.time c.args.new.now.inode c.args.new.now.name.now) shows.sound settled

pub returns-in_err-blocks-clause-in_order : goal.returns-in_err-blocks-clause-in_order
returns-in_err-blocks-clause-in_order g c held h shows out = inl refl

pub returns-in_err-blocks-clause-wrote : goal.returns-in_err-blocks-clause-wrote
returns-in_err-blocks-clause-wrote g c held h shows out = stores_nothing c.args.tables.now.layout held (one_more c.args.tables.now.layout c.args.cpu c.args.new.now.inode c.args.directory.now.inode) (g.P.Pmem.region c.args.memory.now)

pub slot_of_row-slot-requires : goal.slot_of_row-slot-requires
slot_of_row-slot-requires g c = c.requires.can.number

pub slot_of_row-parent-requires : goal.slot_of_row-parent-requires
slot_of_row-parent-requires g c = subst (λ (i : ℕ). IsTrue (has_slot c.args.tables.now.layout i)) (sym c.in_ok-blocks.ensures.row.inode) c.requires.stands.number

pub commit_name-requires-clause-can : goal.commit_name-requires-clause-can
commit_name-requires-clause-can g c =
    let count : length c.deref.result.now ≡ 1 + needed (c.args.directory.now.tail % 4096) (name_entries Add c.args.new.now.inode c.args.new.now.name.now c.args.new.now.time) =
    ap (λ (xs : List ℕ). length xs) c.deref.ensures.value ∙ c.in_ok-blocks.ensures.taken.count_is ∙ ap (λ (n : ℕ). 1 + n) (c.pages_needed-count.ensures ∙ ap (λ (e : Entry). needed (c.args.directory.now.tail % 4096) (e ∷ [])) c.name_entry.ensures) in
    let can : CanCommitName (g.P.Pmem.region c.args.memory.now) c.args.tables.now.layout c.args.free.now c.prepare_name.new.free c.args.cpu c.slot_of_row-slot.result c.slot_of_row-parent.result c.args.directory.now c.prepare_name.new.directory c.args.new.now.inode c.args.new.now.name.now c.args.new.now.time c.deref.result.now = record {
      stands = c.requires.stands;
      can = c.requires.can;
      slot_is = c.slot_of_row-slot.ensures.value;
      parent_is = c.slot_of_row-parent.ensures.value;
      taken = subst (λ (xs : List ℕ). TakesEach c.args.free.now c.args.cpu xs c.prepare_name.new.free) (sym c.deref.ensures.value) c.in_ok-blocks.ensures.taken.each;
      count = count;
      same = c.in_ok-blocks.ensures.row;
      once = c.in_ok-blocks.ensures.once;
    } in
    (c.args.tables.now.layout, c.args.free.now, c.prepare_name.new.free, c.args.directory.now, can)

pub commit_name-requires-clause-row : goal.commit_name-requires-clause-row
commit_name-requires-clause-row g c =
    record { pages = (subst (λ (n : ℕ). HasRoomFor c.prepare_name.new.directory.pages n) (sym (ap (λ (xs : List ℕ). length xs) c.deref.ensures.value ∙ c.in_ok-blocks.ensures.taken.count_is)) c.in_ok-blocks.ensures.room); names = c.in_ok-blocks.ensures.names_room; is_name = c.requires.given }

pub returns-clause-made : goal.returns-clause-made
returns-clause-made g c =
    let count : length c.deref.result.now ≡ 1 + needed (c.args.directory.now.tail % 4096) (name_entries Add c.args.new.now.inode c.args.new.now.name.now c.args.new.now.time) =
    ap (λ (xs : List ℕ). length xs) c.deref.ensures.value ∙ c.in_ok-blocks.ensures.taken.count_is ∙ ap (λ (n : ℕ). 1 + n) (c.pages_needed-count.ensures ∙ ap (λ (e : Entry). needed (c.args.directory.now.tail % 4096) (e ∷ [])) c.name_entry.ensures) in
    let can : CanCommitName (g.P.Pmem.region c.args.memory.now) c.args.tables.now.layout c.args.free.now c.prepare_name.new.free c.args.cpu c.slot_of_row-slot.result c.slot_of_row-parent.result c.args.directory.now c.prepare_name.new.directory c.args.new.now.inode c.args.new.now.name.now c.args.new.now.time c.deref.result.now = record {
      stands = c.requires.stands;
      can = c.requires.can;
      slot_is = c.slot_of_row-slot.ensures.value;
      parent_is = c.slot_of_row-parent.ensures.value;
      taken = subst (λ (xs : List ℕ). TakesEach c.args.free.now c.args.cpu xs c.prepare_name.new.free) (sym c.deref.ensures.value) c.in_ok-blocks.ensures.taken.each;
      count = count;
      same = c.in_ok-blocks.ensures.row;
      once = c.in_ok-blocks.ensures.once;
    } in
    c.commit_name.ensures.made c.args.tables.now.layout c.args.free.now c.prepare_name.new.free c.args.directory.now can

pub returns-clause-needs : goal.returns-clause-needs
returns-clause-needs g c =
    record {
      enough = on_ok_always c.commit_name.result (subst (λ (n : ℕ). n ≤ all_blocks c.args.free.now.pools) (ap (λ (n : ℕ). 1 + n) (c.pages_needed-count.ensures ∙ ap (λ (e : Entry). needed (c.args.directory.now.tail % 4096) (e ∷ [])) c.name_entry.ensures)) c.in_ok-blocks.ensures.needs.enough);
      refused = IfErr-weaker c.commit_name.result (λ e. e ≡ Stopped) (λ (e : Refusal). RefusesStep e (1 + needed (c.args.directory.now.tail % 4096) (name_entries Add c.args.new.now.inode c.args.new.now.name.now c.args.new.now.time)) c.args.free.now) (λ e is. inr (inl is)) c.commit_name.ensures.stopped;
    }

pub returns-clause-kept : goal.returns-clause-kept
returns-clause-kept g c = c.commit_name.ensures.kept c.args.free.now c.prepare_name.new.free (taken_sup c.in_ok-blocks.ensures.taken.each)

pub returns-clause-unchanged : goal.returns-clause-unchanged
returns-clause-unchanged g c =
    IfErr-weaker c.commit_name.result (λ e. e ≡ Stopped) (λ (e : Refusal). (e ≡ Stopped → ⊥) → LeavesStep c.args.memory.now c.commit_name.new.memory c.args.free.now c.prepare_name.new.free c.args.directory.now c.commit_name.new.directory) (λ e is off. absurd (off is)) c.commit_name.ensures.stopped

pub returns-clause-inode : goal.returns-clause-inode
returns-clause-inode g c = c.commit_name.ensures.inode ∙ c.in_ok-blocks.ensures.row.inode

pub returns-clause-wrote : goal.returns-clause-wrote
returns-clause-wrote g c held h shows out =
    let count : length c.deref.result.now ≡ 1 + needed (c.args.directory.now.tail % 4096) (name_entries Add c.args.new.now.inode c.args.new.now.name.now c.args.new.now.time) =
    ap (λ (xs : List ℕ). length xs) c.deref.ensures.value ∙ c.in_ok-blocks.ensures.taken.count_is ∙ ap (λ (n : ℕ). 1 + n) (c.pages_needed-count.ensures ∙ ap (λ (e : Entry). needed (c.args.directory.now.tail % 4096) (e ∷ [])) c.name_entry.ensures) in
    let can : CanCommitName (g.P.Pmem.region c.args.memory.now) c.args.tables.now.layout c.args.free.now c.prepare_name.new.free c.args.cpu c.slot_of_row-slot.result c.slot_of_row-parent.result c.args.directory.now c.prepare_name.new.directory c.args.new.now.inode c.args.new.now.name.now c.args.new.now.time c.deref.result.now = record {
      stands = c.requires.stands;
      can = c.requires.can;
      slot_is = c.slot_of_row-slot.ensures.value;
      parent_is = c.slot_of_row-parent.ensures.value;
      taken = subst (λ (xs : List ℕ). TakesEach c.args.free.now c.args.cpu xs c.prepare_name.new.free) (sym c.deref.ensures.value) c.in_ok-blocks.ensures.taken.each;
      count = count;
      same = c.in_ok-blocks.ensures.row;
      once = c.in_ok-blocks.ensures.once;
    } in
    c.commit_name.ensures.wrote c.args.tables.now.layout c.args.free.now c.prepare_name.new.free c.args.directory.now can held h shows out

pub returns-clause-in_order : goal.returns-clause-in_order
returns-clause-in_order g c held h shows out =
    let count : length c.deref.result.now ≡ 1 + needed (c.args.directory.now.tail % 4096) (name_entries Add c.args.new.now.inode c.args.new.now.name.now c.args.new.now.time) =
    ap (λ (xs : List ℕ). length xs) c.deref.ensures.value ∙ c.in_ok-blocks.ensures.taken.count_is ∙ ap (λ (n : ℕ). 1 + n) (c.pages_needed-count.ensures ∙ ap (λ (e : Entry). needed (c.args.directory.now.tail % 4096) (e ∷ [])) c.name_entry.ensures) in
    let can : CanCommitName (g.P.Pmem.region c.args.memory.now) c.args.tables.now.layout c.args.free.now c.prepare_name.new.free c.args.cpu c.slot_of_row-slot.result c.slot_of_row-parent.result c.args.directory.now c.prepare_name.new.directory c.args.new.now.inode c.args.new.now.name.now c.args.new.now.time c.deref.result.now = record {
      stands = c.requires.stands;
      can = c.requires.can;
      slot_is = c.slot_of_row-slot.ensures.value;
      parent_is = c.slot_of_row-parent.ensures.value;
      taken = subst (λ (xs : List ℕ). TakesEach c.args.free.now c.args.cpu xs c.prepare_name.new.free) (sym c.deref.ensures.value) c.in_ok-blocks.ensures.taken.each;
      count = count;
      same = c.in_ok-blocks.ensures.row;
      once = c.in_ok-blocks.ensures.once;
    } in
    c.commit_name.ensures.in_order c.args.tables.now.layout c.args.free.now c.prepare_name.new.free c.args.directory.now can held h shows out

pub returns-clause-any_stop : goal.returns-clause-any_stop
returns-clause-any_stop g c held h shows out absent settled =
    let count : length c.deref.result.now ≡ 1 + needed (c.args.directory.now.tail % 4096) (name_entries Add c.args.new.now.inode c.args.new.now.name.now c.args.new.now.time) =
    ap (λ (xs : List ℕ). length xs) c.deref.ensures.value ∙ c.in_ok-blocks.ensures.taken.count_is ∙ ap (λ (n : ℕ). 1 + n) (c.pages_needed-count.ensures ∙ ap (λ (e : Entry). needed (c.args.directory.now.tail % 4096) (e ∷ [])) c.name_entry.ensures) in
    let can : CanCommitName (g.P.Pmem.region c.args.memory.now) c.args.tables.now.layout c.args.free.now c.prepare_name.new.free c.args.cpu c.slot_of_row-slot.result c.slot_of_row-parent.result c.args.directory.now c.prepare_name.new.directory c.args.new.now.inode c.args.new.now.name.now c.args.new.now.time c.deref.result.now = record {
      stands = c.requires.stands;
      can = c.requires.can;
      slot_is = c.slot_of_row-slot.ensures.value;
      parent_is = c.slot_of_row-parent.ensures.value;
      taken = subst (λ (xs : List ℕ). TakesEach c.args.free.now c.args.cpu xs c.prepare_name.new.free) (sym c.deref.ensures.value) c.in_ok-blocks.ensures.taken.each;
      count = count;
      same = c.in_ok-blocks.ensures.row;
      once = c.in_ok-blocks.ensures.once;
    } in
    c.commit_name.ensures.any_stop c.args.tables.now.layout c.args.free.now c.prepare_name.new.free c.args.directory.now can held h shows out absent settled
