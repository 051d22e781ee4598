use Rattle.std.proofs.lemmas.Grind.{common_steps}
use Rattle.std.proofs.Common.{arith, ◌≡◌, ◌+◌, ◌%◌, ◌<◌, ◌≤◌, ◌∙◌, ℕ, ap, inl, inr, length, refl, subst, sym, IsTrue, List}
use Rattle.std.proofs.lemmas.Result.{err_from_is_err_and, IfOk-from_err}
use Rattle.smallvec.specs.SmallVec.{HasRoomFor}
use Rattle.nv_region.specs.Region.{size}
use Rattle.nv_region.proofs.Fuses.{keeps_within}
use Rattle.nv_super.specs.declared.superblock.Super.{Super}
use Rattle.nv_inode.specs.Numbers.{has_slot}
use Rattle.nv_journal.specs.Undo.{journal}
use Rattle.nv_logpage.specs.Append.{needed}
use Rattle.nv_names.specs.Names.{Names}
use Rattle.nv_mounted.proofs.BytesKept.{mixed_size}
use Rattle.nv_tree.specs.declared.refusal.Refusal.{Refusal}
use Rattle.nv_tree.specs.declared.refusal.Refusal.TheVariants.{Stopped}
use Rattle.nv_tree.proofs.Replies.{refused_by}
use Rattle.nv_steps.specs.Steps.{LeavesStep, RefusesStep}
use Rattle.nv_commit.proofs.Left.{still}
use Rattle.nv_steps.specs.Takes.{AppendedLess}
use Rattle.nv_steps.proofs.Less.{appends_less, commits, left_less, less_told, less_within, slot_behind, slot_inside, slot_whole}
use Rattle.nv_steps.proofs.TakenBlocks.{taken_sup}
use Rattle.nv_steps.proofs.lessening.append_less.Goals as goal
use Rattle.nv_steps.specs.Stores.{one_less}
use Rattle.nv_steps.proofs.Kept.{nothing_stored}
use Rattle.nv_steps.proofs.Stores.{stores_nothing}

pub prepare_cut-requires : goal.prepare_cut-requires
prepare_cut-requires g c = record { cpu = subst (λ (s : Super). c.args.cpu < s.cpus) (sym c.requires.stands.lists) c.requires.can.cpu_below }

pub returns-in_err-fresh-clause-needs : goal.returns-in_err-fresh-clause-needs
returns-in_err-fresh-clause-needs g c =
    record {
      needs = record {
        enough = IfOk-from_err c.from_residual.result _ c.from_residual.ensures.0;
        refused = let w = err_from_is_err_and c.from_residual.result c.from_residual.ensures.1 in
            refused_by c.from_residual.result c.in_err-fresh.field-0.0 w.0 (λ (e : Refusal). RefusesStep e (needed (c.args.row.now.tail % 4096) c.args.entries.now) c.args.free.now) w.1 w.2
            c.in_err-fresh.ensures.needs.refused;
      };
      room = IfOk-from_err c.from_residual.result _ c.from_residual.ensures.0;
    }

pub returns-in_err-fresh-clause-unchanged : goal.returns-in_err-fresh-clause-unchanged
returns-in_err-fresh-clause-unchanged g c =
    let w = err_from_is_err_and c.from_residual.result c.from_residual.ensures.1 in
    refused_by c.from_residual.result c.in_err-fresh.field-0.0 w.0 (λ (e : Refusal). (e ≡ Stopped → ⊥) → LeavesStep c.args.memory.now c.args.memory.now c.args.free.now c.prepare_cut.new.free c.args.row.now c.prepare_cut.new.row) w.1 w.2
    (λ _. record { memory = refl; free = c.in_err-fresh.ensures.unchanged; row = c.in_err-fresh.ensures.row.0 })

pub returns-in_err-fresh-clause-kept : goal.returns-in_err-fresh-clause-kept
returns-in_err-fresh-clause-kept g c =
    nothing_stored (IfOk-from_err c.from_residual.result _ c.from_residual.ensures.0) (let w = err_from_is_err_and c.from_residual.result c.from_residual.ensures.1 in
    refused_by c.from_residual.result c.in_err-fresh.field-0.0 w.0 (λ (e : Refusal). e ≡ Stopped → IsTrue (g.P.Pmem.fuse c.args.memory.now).has_burnt) w.1 w.2 (λ is. absurd (c.in_err-fresh.ensures.goes_on is))) (c.in_err-fresh.ensures.unchanged.sup)

pub returns-in_err-fresh-clause-row : goal.returns-in_err-fresh-clause-row
returns-in_err-fresh-clause-row g c = (c.in_err-fresh.ensures.row.0.inode, c.prepare_cut.ensures.row.1)

pub slot_of_row-requires : goal.slot_of_row-requires
slot_of_row-requires g c = subst (λ (i : ℕ). IsTrue (has_slot c.args.tables.now.layout i)) (sym c.in_ok-fresh.ensures.row.0.inode) c.requires.stands.number

pub slot_of_row-requires-2 : goal.slot_of_row-requires-2
slot_of_row-requires-2 g c = c.requires.can.number

pub remove_inode-requires-clause-empty : goal.remove_inode-requires-clause-empty
remove_inode-requires-clause-empty g c = c.requires.can.journal_empty

pub remove_inode-requires-clause-slot : goal.remove_inode-requires-clause-slot
remove_inode-requires-clause-slot g c =
    record {
      whole = (let count : length c.in_ok-fresh.fresh.items ≡ needed (c.args.row.now.tail % 4096) c.args.entries.now = c.in_ok-fresh.ensures.taken.count_is in
          subst (λ (a : ℕ). a % 8 ≡ 0) (sym c.slot_of_row-2.ensures.value) (slot_whole c.requires.stands c.requires.can c.in_ok-fresh.ensures.taken.each c.args.entries.now c.requires.given.1 c.requires.given.2 count c.in_ok-fresh.ensures.row.0));
      inside = (let count : length c.in_ok-fresh.fresh.items ≡ needed (c.args.row.now.tail % 4096) c.args.entries.now = c.in_ok-fresh.ensures.taken.count_is in
          subst (λ (a : ℕ). a + 8 ≤ size (g.P.Pmem.region c.args.memory.now)) (sym c.slot_of_row-2.ensures.value) (slot_inside c.requires.stands c.requires.can c.in_ok-fresh.ensures.taken.each c.args.entries.now c.requires.given.1 c.requires.given.2 count c.in_ok-fresh.ensures.row.0));
      behind = (let count : length c.in_ok-fresh.fresh.items ≡ needed (c.args.row.now.tail % 4096) c.args.entries.now = c.in_ok-fresh.ensures.taken.count_is in
          subst (λ (a : ℕ). journal c.args.cpu + 4096 ≤ a) (sym c.slot_of_row-2.ensures.value) (slot_behind c.requires.stands c.requires.can c.in_ok-fresh.ensures.taken.each c.args.entries.now c.requires.given.1 c.requires.given.2 count c.in_ok-fresh.ensures.row.0));
    }

pub returns-in_default-clause-appended : goal.returns-in_default-clause-appended
returns-in_default-clause-appended g c = tt

pub returns-in_default-clause-needs : goal.returns-in_default-clause-needs
returns-in_default-clause-needs g c =
    record {
      needs = record {
        enough = tt;
        refused = inr (inl refl);
      };
      room = tt;
    }

pub returns-in_default-clause-kept : goal.returns-in_default-clause-kept
returns-in_default-clause-kept g c =
    record {
      keeps = record {
        stopped = grind (arith, common_steps);
        lists = taken_sup c.in_ok-fresh.ensures.taken.each;
        length = mixed_size c.remove_inode.ensures.kept.wrote.mixed;
        keeps_fuse = let count : length c.in_ok-fresh.fresh.items ≡ needed (c.args.row.now.tail % 4096) c.args.entries.now = c.in_ok-fresh.ensures.taken.count_is in
            keeps_within (less_within c.requires.stands c.requires.can c.in_ok-fresh.ensures.taken.each c.args.entries.now c.requires.given.1 c.requires.given.2 count c.in_ok-fresh.ensures.row.0 c.slot_of_row-2.result c.slot_of_row.result c.prepare_cut.new.row.tail _
            c.slot_of_row-2.ensures.value c.slot_of_row.ensures.value refl c.deref.ensures.value) c.remove_inode.ensures.kept.keeps_fuse;
      };
      settled = tt;
    }

pub returns-in_default-clause-unchanged : goal.returns-in_default-clause-unchanged
returns-in_default-clause-unchanged g c = λ goes_on. absurd (goes_on refl)

pub returns-in_default-clause-row : goal.returns-in_default-clause-row
returns-in_default-clause-row g c = (c.in_ok-fresh.ensures.row.0.inode, c.prepare_cut.ensures.row.1)

pub settle_less-requires : goal.settle_less-requires
settle_less-requires g c =
    subst (λ (bs : List ℕ). HasRoomFor c.prepare_cut.new.row.pages (length bs)) (sym c.deref-2.ensures.value) c.in_ok-fresh.ensures.pages_room

pub returns-clause-needs : goal.returns-clause-needs
returns-clause-needs g c =
    record {
      needs = record {
        enough = c.in_ok-fresh.ensures.needs.enough;
        refused = tt;
      };
      room = c.in_ok-fresh.ensures.room;
    }

pub returns-clause-kept : goal.returns-clause-kept
returns-clause-kept g c =
    record {
      keeps = record {
        stopped = tt;
        lists = taken_sup c.in_ok-fresh.ensures.taken.each;
        length = mixed_size c.remove_inode.ensures.kept.wrote.mixed;
        keeps_fuse = let count : length c.in_ok-fresh.fresh.items ≡ needed (c.args.row.now.tail % 4096) c.args.entries.now = c.in_ok-fresh.ensures.taken.count_is in
            keeps_within (less_within c.requires.stands c.requires.can c.in_ok-fresh.ensures.taken.each c.args.entries.now c.requires.given.1 c.requires.given.2 count c.in_ok-fresh.ensures.row.0 c.slot_of_row-2.result c.slot_of_row.result c.prepare_cut.new.row.tail _
            c.slot_of_row-2.ensures.value c.slot_of_row.ensures.value refl c.deref.ensures.value) c.remove_inode.ensures.kept.keeps_fuse;
      };
      settled = c.in-Ok.ensures.kept.settled;
    }

pub returns-clause-unchanged : goal.returns-clause-unchanged
returns-clause-unchanged g c = tt

pub returns-clause-row : goal.returns-clause-row
returns-clause-row g c = (c.settle_less.ensures.row.inode ∙ c.in_ok-fresh.ensures.row.0.inode, ap (λ (m : Names). m.room) c.settle_less.ensures.row.names ∙ c.prepare_cut.ensures.row.1)

pub remove_inode-requires-clause-directory : goal.remove_inode-requires-clause-directory
remove_inode-requires-clause-directory g c =
    let count : length c.in_ok-fresh.fresh.items ≡ needed (c.args.row.now.tail % 4096) c.args.entries.now = c.in_ok-fresh.ensures.taken.count_is in
    commits c.requires.stands c.requires.can c.in_ok-fresh.ensures.taken.each c.args.entries.now c.requires.given.1 c.requires.given.2 count c.in_ok-fresh.ensures.row.0 _ c.slot_of_row.ensures.value refl refl c.deref.ensures.value

pub returns-clause-appended : goal.returns-clause-appended
returns-clause-appended g c =
    let count : length c.in_ok-fresh.fresh.items ≡ needed (c.args.row.now.tail % 4096) c.args.entries.now = c.in_ok-fresh.ensures.taken.count_is in
    appends_less c.requires.stands c.requires.can c.in_ok-fresh.ensures.taken.each c.args.entries.now c.requires.given.1 c.requires.given.2 count c.in_ok-fresh.ensures.row.0 _ c.slot_of_row.ensures.value refl refl c.deref.ensures.value
    c.slot_of_row-2.result c.in-Ok.end _ c.slot_of_row-2.ensures.value c.requires.given.0 c.deref-2.ensures.value c.in-Ok.ensures.end c.settle_less.ensures.row c.in_ok-fresh.ensures.once c.settle_less.ensures.once
    (λ held h can. c.in-Ok.ensures.shows c.args.tables.now.layout held c.prepare_cut.new.row.inode c.args.gone h can) c.remove_inode.ensures.kept.wrote.mixed

pub returns-in_err-fresh-clause-appended : goal.returns-in_err-fresh-clause-appended
returns-in_err-fresh-clause-appended g c = IfOk-from_err c.from_residual.result _ c.from_residual.ensures.0

pub returns-in_err-fresh-clause-any_stop : goal.returns-in_err-fresh-clause-any_stop
returns-in_err-fresh-clause-any_stop g c held h shows settled =
    still _ _ c.args.tables.now.layout held (AppendedLess (g.P.Pmem.region c.args.memory.now) c.args.tables.now.layout c.args.free.now c.args.cpu c.args.row.now c.args.gone c.args.entries.now) shows.sound settled

pub returns-in_default-clause-any_stop : goal.returns-in_default-clause-any_stop
returns-in_default-clause-any_stop g c held h shows settled =
    let count : length c.in_ok-fresh.fresh.items ≡ needed (c.args.row.now.tail % 4096) c.args.entries.now = c.in_ok-fresh.ensures.taken.count_is in
    left_less c.requires.stands c.requires.can c.in_ok-fresh.ensures.taken.each c.args.entries.now c.requires.given.1 c.requires.given.2 count c.in_ok-fresh.ensures.row.0 _ c.slot_of_row.ensures.value refl refl c.deref.ensures.value
    c.slot_of_row-2.result c.slot_of_row-2.ensures.value c.requires.given.0 shows c.in_ok-fresh.ensures.once _ _ _ c.remove_inode.ensures.kept.wrote settled
    (λ can pending. (c.remove_inode.ensures.moments c.args.tables.now.layout held c.prepare_cut.new.row.inode c.args.gone h can).any_stop pending)

pub returns-clause-any_stop : goal.returns-clause-any_stop
returns-clause-any_stop g c held h shows settled =
    let count : length c.in_ok-fresh.fresh.items ≡ needed (c.args.row.now.tail % 4096) c.args.entries.now = c.in_ok-fresh.ensures.taken.count_is in
    left_less c.requires.stands c.requires.can c.in_ok-fresh.ensures.taken.each c.args.entries.now c.requires.given.1 c.requires.given.2 count c.in_ok-fresh.ensures.row.0 _ c.slot_of_row.ensures.value refl refl c.deref.ensures.value
    c.slot_of_row-2.result c.slot_of_row-2.ensures.value c.requires.given.0 shows c.in_ok-fresh.ensures.once _ _ _ c.remove_inode.ensures.kept.wrote settled
    (λ can pending. (c.remove_inode.ensures.moments c.args.tables.now.layout held c.prepare_cut.new.row.inode c.args.gone h can).any_stop pending)

pub returns-in_err-fresh-clause-in_order : goal.returns-in_err-fresh-clause-in_order
returns-in_err-fresh-clause-in_order g c held h shows = inl refl

pub returns-in_default-clause-in_order : goal.returns-in_default-clause-in_order
returns-in_default-clause-in_order g c held h shows =
    let count : length c.in_ok-fresh.fresh.items ≡ needed (c.args.row.now.tail % 4096) c.args.entries.now = c.in_ok-fresh.ensures.taken.count_is in
    (less_told c.requires.stands c.requires.can c.in_ok-fresh.ensures.taken.each c.args.entries.now c.requires.given.1 c.requires.given.2 count c.in_ok-fresh.ensures.row.0 _ c.slot_of_row.ensures.value refl refl c.deref.ensures.value
    (g.P.Pmem.region c.remove_inode.new.memory) c.slot_of_row-2.result c.slot_of_row-2.ensures.value c.requires.given.0 shows (c.remove_inode.ensures.in_order c.args.tables.now.layout held c.prepare_cut.new.row.inode c.args.gone h) c.remove_inode.ensures.kept.wrote.mixed).0

pub returns-clause-in_order : goal.returns-clause-in_order
returns-clause-in_order g c held h shows =
    let count : length c.in_ok-fresh.fresh.items ≡ needed (c.args.row.now.tail % 4096) c.args.entries.now = c.in_ok-fresh.ensures.taken.count_is in
    (less_told c.requires.stands c.requires.can c.in_ok-fresh.ensures.taken.each c.args.entries.now c.requires.given.1 c.requires.given.2 count c.in_ok-fresh.ensures.row.0 _ c.slot_of_row.ensures.value refl refl c.deref.ensures.value
    (g.P.Pmem.region c.remove_inode.new.memory) c.slot_of_row-2.result c.slot_of_row-2.ensures.value c.requires.given.0 shows (c.remove_inode.ensures.in_order c.args.tables.now.layout held c.prepare_cut.new.row.inode c.args.gone h) c.remove_inode.ensures.kept.wrote.mixed).0

pub returns-in_err-fresh-clause-wrote : goal.returns-in_err-fresh-clause-wrote
returns-in_err-fresh-clause-wrote g c held h shows = stores_nothing c.args.tables.now.layout held (one_less c.args.tables.now.layout c.args.cpu c.args.row.now.inode c.args.gone) (g.P.Pmem.region c.args.memory.now)

pub returns-in_default-clause-wrote : goal.returns-in_default-clause-wrote
returns-in_default-clause-wrote g c held h shows =
    let count : length c.in_ok-fresh.fresh.items ≡ needed (c.args.row.now.tail % 4096) c.args.entries.now = c.in_ok-fresh.ensures.taken.count_is in
    (less_told c.requires.stands c.requires.can c.in_ok-fresh.ensures.taken.each c.args.entries.now c.requires.given.1 c.requires.given.2 count c.in_ok-fresh.ensures.row.0 _ c.slot_of_row.ensures.value refl refl c.deref.ensures.value
    (g.P.Pmem.region c.remove_inode.new.memory) c.slot_of_row-2.result c.slot_of_row-2.ensures.value c.requires.given.0 shows (c.remove_inode.ensures.in_order c.args.tables.now.layout held c.prepare_cut.new.row.inode c.args.gone h) c.remove_inode.ensures.kept.wrote.mixed).1

pub returns-clause-wrote : goal.returns-clause-wrote
returns-clause-wrote g c held h shows =
    let count : length c.in_ok-fresh.fresh.items ≡ needed (c.args.row.now.tail % 4096) c.args.entries.now = c.in_ok-fresh.ensures.taken.count_is in
    (less_told c.requires.stands c.requires.can c.in_ok-fresh.ensures.taken.each c.args.entries.now c.requires.given.1 c.requires.given.2 count c.in_ok-fresh.ensures.row.0 _ c.slot_of_row.ensures.value refl refl c.deref.ensures.value
    (g.P.Pmem.region c.remove_inode.new.memory) c.slot_of_row-2.result c.slot_of_row-2.ensures.value c.requires.given.0 shows (c.remove_inode.ensures.in_order c.args.tables.now.layout held c.prepare_cut.new.row.inode c.args.gone h) c.remove_inode.ensures.kept.wrote.mixed).1
