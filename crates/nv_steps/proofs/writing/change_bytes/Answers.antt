use Rattle.std.proofs.lemmas.Grind.{common_steps}
use Rattle.std.proofs.Common.{arith, ◌∙◌, ℕ, List, length, inr, sym, subst, refl, inl}
use Rattle.std.specs.Prelude.{IsTrue}
use Rattle.nv_region.specs.Region.{Region}
use Rattle.nv_super.specs.declared.owners.Run.{Run}
use Rattle.nv_inode.specs.Numbers.{has_slot}
use Rattle.nv_alloc.specs.FreeLists.{JoinAll}
use Rattle.nv_bytes.specs.Bytes.{byte_after, file_byte}
use Rattle.nv_logpage.specs.Append.{CanAppend}
use Rattle.nv_radix.specs.Pages.{block_at}
use Rattle.nv_steps.specs.Writes.{CanGive}
use Rattle.nv_steps.proofs.PlanRight.{ending_inside, plan_right}
use Rattle.nv_steps.proofs.Refusals.{memory_goes_on, no_space_goes_on}
use Rattle.nv_steps.proofs.PreparedBlocks.{prepared_sup}
use Rattle.nv_steps.proofs.WriteFollows.{IsRight}
use Rattle.nv_steps.proofs.WriteSteps.{blocks_fresh, can_append_entries, can_give_replaced, entries_small, pages_settled, told}
use Rattle.nv_commit.proofs.Left.{still}
use Rattle.nv_steps.specs.Stopped.{Wrote}
use Rattle.nv_steps.proofs.WriteStops.{can_there, data_free, left_write}
use Rattle.nv_steps.proofs.WritesFile.{bytes_as, commits_as, has_written, inside_as, writes_file}
use Rattle.nv_steps.proofs.writing.change_bytes.Goals as goal
use Rattle.nv_steps.proofs.Kept.{nothing_stored}
use Rattle.nv_bytes.specs.Data.{data_bytes}

pub returns-in-Err-NoSpace-clause-refused : goal.returns-in-Err-NoSpace-clause-refused
returns-in-Err-NoSpace-clause-refused g c = inr (inr (refl, c.in-Err-NoSpace.ensures.refused c.in-Err-NoSpace.field-0-is))

pub commit_data-requires : goal.commit_data-requires
commit_data-requires g c =
    record {
      can = (let right = subst (IsRight c.args.row.now) (sym c.requires.plan_is) (plan_right c.args.row.now (block_at c.args.row.now.index) c.args.change.now.offset (length (data_bytes c.args.change.now.content)) c.args.plan.now.time c.requires.file.small c.requires.some c.requires.fits) in
          subst (λ (t : ℕ). CanAppend (g.P.Pmem.region c.args.memory.now) t c.in-Ok.ready.log.entries.items c.in-Ok.ready.log.fresh.items) (sym c.prepare_data.ensures.row.0.tail) (can_append_entries c.requires.stands c.requires.file right c.requires.cpu_below c.in-Ok.ensures.prepared));
      whole = omega (arith, c.slot_of_row-slot.ensures.whole);
      inside = omega (arith, c.slot_of_row-slot.ensures.inside, c.requires.stands.blocks);
      given = record {
        mapped = (inside_as (g.P.Pmem.region c.args.memory.now) c.args.row.now.index c.prepare_data.new.row.index c.prepare_data.ensures.row.0.index c.requires.file.inside);
        fresh = (let right = subst (IsRight c.args.row.now) (sym c.requires.plan_is) (plan_right c.args.row.now (block_at c.args.row.now.index) c.args.change.now.offset (length (data_bytes c.args.change.now.content)) c.args.plan.now.time c.requires.file.small c.requires.some c.requires.fits) in
            blocks_fresh c.requires.stands c.requires.file right c.requires.cpu_below c.in-Ok.ensures.prepared c.prepare_data.new.row.index c.prepare_data.ensures.row.0.index);
        pages = (let right = subst (IsRight c.args.row.now) (sym c.requires.plan_is) (plan_right c.args.row.now (block_at c.args.row.now.index) c.args.change.now.offset (length (data_bytes c.args.change.now.content)) c.args.plan.now.time c.requires.file.small c.requires.some c.requires.fits) in
            entries_small c.requires.stands c.requires.file right c.requires.cpu_below c.in-Ok.ensures.prepared);
        small = omega (arith, c.requires.fits);
      };
    }

pub settle_data-requires-clause-ready : goal.settle_data-requires-clause-ready
settle_data-requires-clause-ready g c =
    let right = subst (IsRight c.args.row.now) (sym c.requires.plan_is) (plan_right c.args.row.now (block_at c.args.row.now.index) c.args.change.now.offset (length (data_bytes c.args.change.now.content)) c.args.plan.now.time c.requires.file.small c.requires.some c.requires.fits) in
    pages_settled c.requires.stands c.requires.file right c.requires.cpu_below c.in-Ok.ensures.prepared c.prepare_data.new.row.index c.in-Ok.ensures.ready.0 c.in-Ok.ensures.ready.1

pub settle_data-requires-clause-once : goal.settle_data-requires-clause-once
settle_data-requires-clause-once g c =
    let right = subst (IsRight c.args.row.now) (sym c.requires.plan_is) (plan_right c.args.row.now (block_at c.args.row.now.index) c.args.change.now.offset (length (data_bytes c.args.change.now.content)) c.args.plan.now.time c.requires.file.small c.requires.some c.requires.fits) in
    (told c.requires.stands c.requires.file right c.requires.cpu_below c.in-Ok.ensures.prepared).pages_once

pub give_all-requires-clause-can : goal.give_all-requires-clause-can
give_all-requires-clause-can g c =
    let right = subst (IsRight c.args.row.now) (sym c.requires.plan_is) (plan_right c.args.row.now (block_at c.args.row.now.index) c.args.change.now.offset (length (data_bytes c.args.change.now.content)) c.args.plan.now.time c.requires.file.small c.requires.some c.requires.fits) in
    subst (CanGive c.prepare_data.new.free) (sym (c.deref.ensures.value ∙ c.in-Ok.ensures.replaced.0)) (can_give_replaced c.requires.stands c.requires.file right c.requires.cpu_below c.in-Ok.ensures.prepared)

pub returns-in-Ok-commit_data-clause-writes : goal.returns-in-Ok-commit_data-clause-writes
returns-in-Ok-commit_data-clause-writes g c =
    let R : Region = g.P.Pmem.region c.args.memory.now in
    let S : Region = g.P.Pmem.region c.commit_data.new.memory in
    let row = c.args.row.now in
    let mid = c.prepare_data.new.row in
    let same = c.prepare_data.ensures.row.0 in
    let n = c.args.change.now in
    let right = subst (IsRight row) (sym c.requires.plan_is) (plan_right row (block_at row.index) n.offset (length (data_bytes n.content)) c.args.plan.now.time c.requires.file.small c.requires.some c.requires.fits) in
    let entries = c.in-Ok.ready.log.entries.items in
    let fresh = c.in-Ok.ready.log.fresh.items in
    let bytes : ℕ → ℕ = byte_after n.offset (data_bytes n.content) n.size (file_byte R mid.index) in
    let done = commits_as R S c.args.tables.now.layout row.inode mid.inode c.slot_of_row-slot.result row.tail mid.tail bytes entries fresh same.inode same.tail c.slot_of_row-slot.ensures.value (c.in-Ok-commit_data.ensures.commits c.args.tables.now.layout row.inode) in
    let has = has_written row mid c.settle_data.new.row c.args.plan.now entries fresh c.in-Ok-commit_data.end same c.prepare_data.ensures.row.1 c.in-Ok-commit_data.ensures.end c.settle_data.ensures in
    let joins = subst (λ (xs : List Run). JoinAll c.prepare_data.new.free xs c.give_all.new.free) (c.deref.ensures.value ∙ c.in-Ok.ensures.replaced.0) c.give_all.ensures.given in
    writes_file c.requires.stands c.requires.kind c.requires.file c.requires.cpu_below right c.in-Ok.ensures.prepared done has c.give_all.new.free joins n.offset c.args.plan.now.time (data_bytes n.content) c.requires.some c.requires.plan_is
    (λ x. bytes_as R row.index mid.index n.offset n.size row.numbers.size (data_bytes n.content) same.index c.requires.size_is x)

pub returns-in-Ok-commit_data-clause-kept : goal.returns-in-Ok-commit_data-clause-kept
returns-in-Ok-commit_data-clause-kept g c =
    record {
      keeps = record {
        stopped = tt;
        lists = c.give_all.ensures.lists ∙ prepared_sup c.in-Ok.ensures.prepared;
        length = c.in-Ok-commit_data.ensures.length;
        keeps_fuse = c.in-Ok-commit_data.ensures.keeps_fuse;
      };
      settled = c.in-Ok-commit_data.ensures.settled;
    }

pub returns-clause-kept : goal.returns-clause-kept
returns-clause-kept g c =
    record {
      keeps = record {
        stopped = grind (arith, common_steps);
        lists = prepared_sup c.in-Ok.ensures.prepared;
        length = c.commit_data.ensures.length;
        keeps_fuse = c.commit_data.ensures.keeps_fuse;
      };
      settled = tt;
    }

pub returns-in-Ok-commit_data-clause-enough : goal.returns-in-Ok-commit_data-clause-enough
returns-in-Ok-commit_data-clause-enough g c = c.in-Ok.ensures.enough

pub returns-in-Ok-commit_data-clause-refused : goal.returns-in-Ok-commit_data-clause-refused
returns-in-Ok-commit_data-clause-refused g c = tt

pub returns-in-Ok-commit_data-clause-unchanged : goal.returns-in-Ok-commit_data-clause-unchanged
returns-in-Ok-commit_data-clause-unchanged g c = tt

pub returns-clause-writes : goal.returns-clause-writes
returns-clause-writes g c = tt

pub returns-clause-enough : goal.returns-clause-enough
returns-clause-enough g c = tt

pub returns-clause-refused : goal.returns-clause-refused
returns-clause-refused g c = inr (inl refl)

pub returns-clause-unchanged : goal.returns-clause-unchanged
returns-clause-unchanged g c = λ goes_on. absurd (goes_on refl)

pub returns-clause-inode : goal.returns-clause-inode
returns-clause-inode g c = c.in-Ok.ensures.row.0.inode

pub returns-in-Err-NoSpace-clause-writes : goal.returns-in-Err-NoSpace-clause-writes
returns-in-Err-NoSpace-clause-writes g c = tt

pub returns-in-Err-NoSpace-clause-enough : goal.returns-in-Err-NoSpace-clause-enough
returns-in-Err-NoSpace-clause-enough g c = tt

pub returns-in-Err-NoSpace-clause-kept : goal.returns-in-Err-NoSpace-clause-kept
returns-in-Err-NoSpace-clause-kept g c =
    nothing_stored tt (λ is. absurd (no_space_goes_on is)) (c.in-Err-NoSpace.ensures.unchanged.sup)

pub returns-in-Err-NoSpace-clause-unchanged : goal.returns-in-Err-NoSpace-clause-unchanged
returns-in-Err-NoSpace-clause-unchanged g c = λ _. record { memory = refl; free = c.in-Err-NoSpace.ensures.unchanged; row = c.in-Err-NoSpace.ensures.row.0 }

pub returns-in-Err-NoSpace-clause-inode : goal.returns-in-Err-NoSpace-clause-inode
returns-in-Err-NoSpace-clause-inode g c = c.in-Err-NoSpace.ensures.row.0.inode

pub returns-in-Err-Memory-clause-writes : goal.returns-in-Err-Memory-clause-writes
returns-in-Err-Memory-clause-writes g c = tt

pub returns-in-Err-Memory-clause-enough : goal.returns-in-Err-Memory-clause-enough
returns-in-Err-Memory-clause-enough g c = tt

pub returns-in-Err-Memory-clause-kept : goal.returns-in-Err-Memory-clause-kept
returns-in-Err-Memory-clause-kept g c =
    nothing_stored tt (λ is. absurd (memory_goes_on is)) (c.in-Err-Memory.ensures.unchanged.sup)

pub returns-in-Err-Memory-clause-refused : goal.returns-in-Err-Memory-clause-refused
returns-in-Err-Memory-clause-refused g c = inl refl

pub returns-in-Err-Memory-clause-unchanged : goal.returns-in-Err-Memory-clause-unchanged
returns-in-Err-Memory-clause-unchanged g c = λ _. record { memory = refl; free = c.in-Err-Memory.ensures.unchanged; row = c.in-Err-Memory.ensures.row.0 }

pub returns-in-Err-Memory-clause-inode : goal.returns-in-Err-Memory-clause-inode
returns-in-Err-Memory-clause-inode g c = c.in-Err-Memory.ensures.row.0.inode

pub slot_of_row-slot-requires : goal.slot_of_row-slot-requires
slot_of_row-slot-requires g c = subst (λ (i : ℕ). IsTrue (has_slot c.args.tables.now.layout i)) (sym c.in-Ok.ensures.row.0.inode) c.requires.stands.number

pub returns-in-Ok-commit_data-clause-inode : goal.returns-in-Ok-commit_data-clause-inode
returns-in-Ok-commit_data-clause-inode g c = c.settle_data.ensures.inode ∙ c.in-Ok.ensures.row.0.inode

pub returns-in-Err-NoSpace-clause-any_stop : goal.returns-in-Err-NoSpace-clause-any_stop
returns-in-Err-NoSpace-clause-any_stop g c held h shows settled = still _ _ c.args.tables.now.layout held (Wrote (g.P.Pmem.region c.args.memory.now) c.args.tables.now.layout c.args.free.now c.args.cpu c.args.plan.now c.args.change.now.offset (data_bytes c.args.change.now.content) c.args.row.now) shows.sound settled

pub returns-in-Err-Memory-clause-any_stop : goal.returns-in-Err-Memory-clause-any_stop
returns-in-Err-Memory-clause-any_stop g c held h shows settled = still _ _ c.args.tables.now.layout held (Wrote (g.P.Pmem.region c.args.memory.now) c.args.tables.now.layout c.args.free.now c.args.cpu c.args.plan.now c.args.change.now.offset (data_bytes c.args.change.now.content) c.args.row.now) shows.sound settled

pub returns-in-Ok-commit_data-clause-any_stop : goal.returns-in-Ok-commit_data-clause-any_stop
returns-in-Ok-commit_data-clause-any_stop g c held h shows settled left may =
    let R : Region = g.P.Pmem.region c.args.memory.now in
    let row = c.args.row.now in
    let mid = c.prepare_data.new.row in
    let same = c.prepare_data.ensures.row.0 in
    let n = c.args.change.now in
    let right = subst (IsRight row) (sym c.requires.plan_is) (plan_right row (block_at row.index) n.offset (length (data_bytes n.content)) c.args.plan.now.time c.requires.file.small c.requires.some c.requires.fits) in
    let p = c.in-Ok.ensures.prepared in
    left_write c.requires.stands c.requires.kind c.requires.file c.requires.cpu_below right p shows c.slot_of_row-slot.result mid.tail mid.inode same.inode same.tail c.slot_of_row-slot.ensures.value
    (byte_after n.offset (data_bytes n.content) n.size (file_byte R mid.index)) n.offset c.args.plan.now.time (data_bytes n.content) c.requires.some c.requires.plan_is (λ x. bytes_as R row.index mid.index n.offset n.size row.numbers.size (data_bytes n.content) same.index c.requires.size_is x) left
    (c.commit_data.ensures.any_stop c.args.tables.now.layout held row.inode h (can_there c.requires.stands c.requires.kind c.requires.file c.requires.cpu_below right p shows c.slot_of_row-slot.result mid.tail mid.inode same.inode same.tail c.slot_of_row-slot.ensures.value) (data_free shows c.requires.stands.lists c.requires.cpu_below right p) settled left may)

pub returns-clause-any_stop : goal.returns-clause-any_stop
returns-clause-any_stop g c held h shows settled left may =
    let R : Region = g.P.Pmem.region c.args.memory.now in
    let row = c.args.row.now in
    let mid = c.prepare_data.new.row in
    let same = c.prepare_data.ensures.row.0 in
    let n = c.args.change.now in
    let right = subst (IsRight row) (sym c.requires.plan_is) (plan_right row (block_at row.index) n.offset (length (data_bytes n.content)) c.args.plan.now.time c.requires.file.small c.requires.some c.requires.fits) in
    let p = c.in-Ok.ensures.prepared in
    left_write c.requires.stands c.requires.kind c.requires.file c.requires.cpu_below right p shows c.slot_of_row-slot.result mid.tail mid.inode same.inode same.tail c.slot_of_row-slot.ensures.value
    (byte_after n.offset (data_bytes n.content) n.size (file_byte R mid.index)) n.offset c.args.plan.now.time (data_bytes n.content) c.requires.some c.requires.plan_is (λ x. bytes_as R row.index mid.index n.offset n.size row.numbers.size (data_bytes n.content) same.index c.requires.size_is x) left
    (c.commit_data.ensures.any_stop c.args.tables.now.layout held row.inode h (can_there c.requires.stands c.requires.kind c.requires.file c.requires.cpu_below right p shows c.slot_of_row-slot.result mid.tail mid.inode same.inode same.tail c.slot_of_row-slot.ensures.value) (data_free shows c.requires.stands.lists c.requires.cpu_below right p) settled left may)

pub returns-in-Err-NoSpace-clause-wrote : goal.returns-in-Err-NoSpace-clause-wrote
returns-in-Err-NoSpace-clause-wrote g c held h shows at whole away = refl

pub returns-in-Err-Memory-clause-wrote : goal.returns-in-Err-Memory-clause-wrote
returns-in-Err-Memory-clause-wrote g c held h shows at whole away = refl

pub returns-in-Ok-commit_data-clause-wrote : goal.returns-in-Ok-commit_data-clause-wrote
returns-in-Ok-commit_data-clause-wrote g c held h shows =
    let row = c.args.row.now in
    let mid = c.prepare_data.new.row in
    let same = c.prepare_data.ensures.row.0 in
    let n = c.args.change.now in
    let right = subst (IsRight row) (sym c.requires.plan_is) (plan_right row (block_at row.index) n.offset (length (data_bytes n.content)) c.args.plan.now.time c.requires.file.small c.requires.some c.requires.fits) in
    let p = c.in-Ok.ensures.prepared in
    c.commit_data.ensures.wrote c.args.tables.now.layout held row.inode h (can_there c.requires.stands c.requires.kind c.requires.file c.requires.cpu_below right p shows c.slot_of_row-slot.result mid.tail mid.inode same.inode same.tail c.slot_of_row-slot.ensures.value) (data_free shows c.requires.stands.lists c.requires.cpu_below right p)

pub returns-clause-wrote : goal.returns-clause-wrote
returns-clause-wrote g c held h shows =
    let row = c.args.row.now in
    let mid = c.prepare_data.new.row in
    let same = c.prepare_data.ensures.row.0 in
    let n = c.args.change.now in
    let right = subst (IsRight row) (sym c.requires.plan_is) (plan_right row (block_at row.index) n.offset (length (data_bytes n.content)) c.args.plan.now.time c.requires.file.small c.requires.some c.requires.fits) in
    let p = c.in-Ok.ensures.prepared in
    c.commit_data.ensures.wrote c.args.tables.now.layout held row.inode h (can_there c.requires.stands c.requires.kind c.requires.file c.requires.cpu_below right p shows c.slot_of_row-slot.result mid.tail mid.inode same.inode same.tail c.slot_of_row-slot.ensures.value) (data_free shows c.requires.stands.lists c.requires.cpu_below right p)

pub prepare_data-requires : goal.prepare_data-requires
prepare_data-requires g c =
    let right = subst (IsRight c.args.row.now) (sym c.requires.plan_is) (plan_right c.args.row.now (block_at c.args.row.now.index) c.args.change.now.offset (length (data_bytes c.args.change.now.content)) c.args.plan.now.time c.requires.file.small c.requires.some c.requires.fits) in
    record { cpu_below = c.requires.cpu_below; pages = right.top; ending = ending_inside right; given = right.some }
