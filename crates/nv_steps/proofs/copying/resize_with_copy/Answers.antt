use Rattle.std.proofs.lemmas.Grind.{common_steps}
use Rattle.std.proofs.Common.{◌++◌, ◌∙◌, List, ℕ, ap, arith, refl, inl, inr}
use Rattle.nv_commit.proofs.Left.{still}
use Rattle.nv_steps.specs.Stopped.{Resized}
use Rattle.nv_steps.proofs.CopiedEnd.{copy_resizes}
use Rattle.nv_steps.proofs.CopyStops.{copied_stores, left_copied}
use Rattle.nv_steps.proofs.CopyOwed.{copies_as, copy_appends, end_ready, ends_as, from_inside, from_joins, numbered, page_small, to_differs, to_inside}
use Rattle.nv_steps.proofs.Refusals.{memory_goes_on, no_space_goes_on}
use Rattle.nv_steps.proofs.Kept.{nothing_stored}
use Rattle.nv_steps.proofs.TakenBlocks.{taken_sup}
use Rattle.nv_steps.proofs.copying.resize_with_copy.Goals as goal

pub copy_end-requires : goal.copy_end-requires
copy_end-requires g c =
    record {
      can = (rw (c.deref.ensures.value, c.copy_entries-entries.ensures) (copy_appends c.requires.can.can c.in-Ok.ensures.taken _ (let count = c.in-Ok.ensures.count in omega (arith, count)) (refl, (refl, tt))));
      whole = omega (arith, c.slot_of_row-slot.ensures.whole);
      inside = (let stands = c.requires.can.can.stands in let blocks = stands.blocks in omega (arith, c.slot_of_row-slot.ensures.inside, blocks));
      given = record { from_inside = from_inside c.requires.can.can c.in-Ok.ensures.taken c.requires.can.ends; apart = (to_differs c.requires.can.can c.in-Ok.ensures.taken c.requires.can.ends); to_inside = (to_inside c.requires.can.can c.in-Ok.ensures.taken); page = page_small c.requires.can.can c.in-Ok.ensures.taken c.requires.can.ends };
    }

pub give_block-requires-clause-can : goal.give_block-requires-clause-can
give_block-requires-clause-can g c = from_joins c.requires.can.can c.in-Ok.ensures.taken c.requires.can.ends

pub set_run-requires-clause-ready : goal.set_run-requires-clause-ready
set_run-requires-clause-ready g c = end_ready c.requires.can.can c.in-Ok.ensures.taken c.requires.can.ends c.settle_log.ensures.index

pub returns-in-Ok-copy_end-clause-resized : goal.returns-in-Ok-copy_end-clause-resized
returns-in-Ok-copy_end-clause-resized g c =
    let settled = c.settle_log.ensures in
    copy_resizes c.args.attributes c.requires.can.can c.args.from _ c.in-Ok-copy_end.end c.requires.can.ends c.in-Ok.ensures.taken (let count = c.in-Ok.ensures.count in omega (arith, count))
    (copies_as c.slot_of_row-slot.ensures.value c.copy_entries-entries.ensures c.deref.ensures.value c.in-Ok-copy_end.ensures.copies)
    (ends_as c.args.row.now.tail c.deref.ensures.value c.copy_entries-entries.ensures c.in-Ok-copy_end.ensures.end)
    (record {
      inode = settled.inode;
      kind = settled.kind;
      numbers = settled.numbers;
      head = settled.head;
      tail = settled.tail;
      pages = settled.pages ∙ ap (λ (pages : List ℕ). pages ++ c.deref-in-Ok-copy_end.result.now) c.in-Ok.ensures.pages ∙ ap (λ (more : List ℕ). c.args.row.now.pages.items ++ more) c.deref-in-Ok-copy_end.ensures.value;
      index = settled.index;
      names = settled.names;
    }) (record { has = numbered c.numbers_with-row.ensures; head = refl; tail = refl; pages = refl }) c.set_run.ensures.blocks c.give_block.ensures.given

pub returns-in-Ok-copy_end-clause-kept : goal.returns-in-Ok-copy_end-clause-kept
returns-in-Ok-copy_end-clause-kept g c =
    record {
      keeps = record {
        stopped = tt;
        lists = c.give_block.ensures.lists ∙ taken_sup c.in-Ok.ensures.taken;
        length = c.in-Ok-copy_end.ensures.length;
        keeps_fuse = c.in-Ok-copy_end.ensures.keeps_fuse;
      };
      settled = c.in-Ok-copy_end.ensures.settled;
    }

pub returns-clause-kept : goal.returns-clause-kept
returns-clause-kept g c =
    record {
      keeps = record {
        stopped = grind (arith, common_steps);
        lists = taken_sup c.in-Ok.ensures.taken;
        length = c.copy_end.ensures.length;
        keeps_fuse = c.copy_end.ensures.keeps_fuse;
      };
      settled = tt;
    }

pub returns-in-Ok-copy_end-clause-needs : goal.returns-in-Ok-copy_end-clause-needs
returns-in-Ok-copy_end-clause-needs g c =
    record {
      enough = grind (arith, common_steps);
      refused = tt;
    }

pub returns-in-Ok-copy_end-clause-unchanged : goal.returns-in-Ok-copy_end-clause-unchanged
returns-in-Ok-copy_end-clause-unchanged g c = tt

pub returns-in-Ok-copy_end-clause-inode : goal.returns-in-Ok-copy_end-clause-inode
returns-in-Ok-copy_end-clause-inode g c = c.settle_log.ensures.inode

pub returns-clause-resized : goal.returns-clause-resized
returns-clause-resized g c = tt

pub returns-clause-needs : goal.returns-clause-needs
returns-clause-needs g c =
    record {
      enough = tt;
      refused = inr (inl refl);
    }

pub returns-clause-unchanged : goal.returns-clause-unchanged
returns-clause-unchanged g c = λ goes_on. absurd (goes_on refl)

pub returns-clause-inode : goal.returns-clause-inode
returns-clause-inode g c = refl

pub returns-in-Err-NoSpace-clause-resized : goal.returns-in-Err-NoSpace-clause-resized
returns-in-Err-NoSpace-clause-resized g c = tt

pub returns-in-Err-NoSpace-clause-needs : goal.returns-in-Err-NoSpace-clause-needs
returns-in-Err-NoSpace-clause-needs g c =
    record {
      enough = tt;
      refused = grind (arith, common_steps);
    }

pub returns-in-Err-NoSpace-clause-kept : goal.returns-in-Err-NoSpace-clause-kept
returns-in-Err-NoSpace-clause-kept g c =
    nothing_stored tt (λ is. absurd (no_space_goes_on is)) (c.in-Err-NoSpace.ensures.unchanged.sup)

pub returns-in-Err-NoSpace-clause-unchanged : goal.returns-in-Err-NoSpace-clause-unchanged
returns-in-Err-NoSpace-clause-unchanged g c = λ _. record { memory = refl; free = c.in-Err-NoSpace.ensures.unchanged; row = record { inode = refl; kind = refl; numbers = refl; head = refl; tail = refl; pages = c.in-Err-NoSpace.ensures.pages; index = λ p. refl; names = λ q. refl } }

pub returns-in-Err-NoSpace-clause-inode : goal.returns-in-Err-NoSpace-clause-inode
returns-in-Err-NoSpace-clause-inode g c = refl

pub returns-in-Err-Memory-clause-resized : goal.returns-in-Err-Memory-clause-resized
returns-in-Err-Memory-clause-resized g c = tt

pub returns-in-Err-Memory-clause-needs : goal.returns-in-Err-Memory-clause-needs
returns-in-Err-Memory-clause-needs g c =
    record {
      enough = tt;
      refused = inl refl;
    }

pub returns-in-Err-Memory-clause-kept : goal.returns-in-Err-Memory-clause-kept
returns-in-Err-Memory-clause-kept g c =
    nothing_stored tt (λ is. absurd (memory_goes_on is)) (c.in-Err-Memory.ensures.unchanged.sup)

pub returns-in-Err-Memory-clause-unchanged : goal.returns-in-Err-Memory-clause-unchanged
returns-in-Err-Memory-clause-unchanged g c = λ _. record { memory = refl; free = c.in-Err-Memory.ensures.unchanged; row = record { inode = refl; kind = refl; numbers = refl; head = refl; tail = refl; pages = c.in-Err-Memory.ensures.pages; index = λ p. refl; names = λ q. refl } }

pub returns-in-Err-Memory-clause-inode : goal.returns-in-Err-Memory-clause-inode
returns-in-Err-Memory-clause-inode g c = refl

pub slot_of_row-slot-requires : goal.slot_of_row-slot-requires
slot_of_row-slot-requires g c = c.requires.can.can.stands.number

pub returns-in-Err-NoSpace-clause-any_stop : goal.returns-in-Err-NoSpace-clause-any_stop
returns-in-Err-NoSpace-clause-any_stop g c held h shows settled = still _ _ c.args.tables.now.layout held (Resized (g.P.Pmem.region c.args.memory.now) c.args.tables.now.layout c.args.free.now c.args.cpu c.args.row.now c.args.attributes) shows.sound settled

pub returns-in-Err-Memory-clause-any_stop : goal.returns-in-Err-Memory-clause-any_stop
returns-in-Err-Memory-clause-any_stop g c held h shows settled = still _ _ c.args.tables.now.layout held (Resized (g.P.Pmem.region c.args.memory.now) c.args.tables.now.layout c.args.free.now c.args.cpu c.args.row.now c.args.attributes) shows.sound settled

pub returns-in-Ok-copy_end-clause-any_stop : goal.returns-in-Ok-copy_end-clause-any_stop
returns-in-Ok-copy_end-clause-any_stop g c held h shows settled =
    left_copied c.args.attributes c.requires.can.can c.args.from _ c.requires.can.ends c.in-Ok.ensures.taken (let count = c.in-Ok.ensures.count in omega (arith, count)) shows c.slot_of_row-slot.ensures.value c.copy_entries-entries.ensures c.deref.ensures.value _ _
    (λ can free. c.copy_end.ensures.any_stop c.args.tables.now.layout held c.args.row.now.inode h can free settled)

pub returns-clause-any_stop : goal.returns-clause-any_stop
returns-clause-any_stop g c held h shows settled =
    left_copied c.args.attributes c.requires.can.can c.args.from _ c.requires.can.ends c.in-Ok.ensures.taken (let count = c.in-Ok.ensures.count in omega (arith, count)) shows c.slot_of_row-slot.ensures.value c.copy_entries-entries.ensures c.deref.ensures.value _ _
    (λ can free. c.copy_end.ensures.any_stop c.args.tables.now.layout held c.args.row.now.inode h can free settled)

pub returns-in-Err-NoSpace-clause-wrote : goal.returns-in-Err-NoSpace-clause-wrote
returns-in-Err-NoSpace-clause-wrote g c held h shows at whole away = refl

pub returns-in-Err-Memory-clause-wrote : goal.returns-in-Err-Memory-clause-wrote
returns-in-Err-Memory-clause-wrote g c held h shows at whole away = refl

pub returns-in-Ok-copy_end-clause-wrote : goal.returns-in-Ok-copy_end-clause-wrote
returns-in-Ok-copy_end-clause-wrote g c held h shows =
    copied_stores c.args.attributes c.requires.can.can c.args.from _ c.requires.can.ends c.in-Ok.ensures.taken (let count = c.in-Ok.ensures.count in omega (arith, count)) shows c.slot_of_row-slot.ensures.value c.copy_entries-entries.ensures c.deref.ensures.value (g.P.Pmem.region c.copy_end.new.memory)
    (λ can free. c.copy_end.ensures.wrote c.args.tables.now.layout held c.args.row.now.inode h can free)

pub returns-clause-wrote : goal.returns-clause-wrote
returns-clause-wrote g c held h shows =
    copied_stores c.args.attributes c.requires.can.can c.args.from _ c.requires.can.ends c.in-Ok.ensures.taken (let count = c.in-Ok.ensures.count in omega (arith, count)) shows c.slot_of_row-slot.ensures.value c.copy_entries-entries.ensures c.deref.ensures.value (g.P.Pmem.region c.copy_end.new.memory)
    (λ can free. c.copy_end.ensures.wrote c.args.tables.now.layout held c.args.row.now.inode h can free)
