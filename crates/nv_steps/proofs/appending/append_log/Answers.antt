use Rattle.std.proofs.lemmas.Grind.{common_steps}
use Rattle.std.proofs.Common.{arith, ◌++◌, ◌∙◌, List, ℕ, ap, inl, inr, length, refl, subst, sym}
use Rattle.smallvec.specs.SmallVec.{HasRoomFor}
use Rattle.nv_region.proofs.Fuses.{keeps_within}
use Rattle.nv_mounted.proofs.BytesKept.{mixed_size}
use Rattle.nv_commit.proofs.Left.{still}
use Rattle.nv_steps.specs.Stopped.{Appended}
use Rattle.nv_steps.proofs.LogGrows.{appends_log, can_append, stores_within_region}
use Rattle.nv_steps.proofs.NumbersOwed.{slot_word_inside, slot_word_whole}
use Rattle.nv_steps.proofs.Refusals.{no_space, memory_goes_on, no_space_goes_on}
use Rattle.nv_steps.proofs.Stopped.{left_log, log_stores}
use Rattle.nv_steps.proofs.Kept.{nothing_stored}
use Rattle.nv_steps.proofs.TakenBlocks.{taken_sup}
use Rattle.nv_steps.proofs.appending.append_log.Goals as goal

pub extend_log-requires-clause-can : goal.extend_log-requires-clause-can
extend_log-requires-clause-can g c = rw c.deref.ensures.value (can_append c.args.entries.now c.requires.stands c.in-Ok.ensures.taken.each c.in-Ok.ensures.taken.count_is c.requires.given)

pub returns-in-Ok-extend_log-clause-appended : goal.returns-in-Ok-extend_log-clause-appended
returns-in-Ok-extend_log-clause-appended g c =
    let settled = c.settle_log.ensures in
    appends_log c.args.entries.now c.in-Ok.fresh.items c.deref.result.now c.slot_of_row-slot.result c.in-Ok-extend_log.end c.deref.ensures.value c.slot_of_row-slot.ensures.value c.in-Ok.ensures.taken.each c.in-Ok.ensures.taken.count_is c.in-Ok-extend_log.ensures.end
    (record {
      inode = settled.inode;
      kind = settled.kind;
      numbers = settled.numbers;
      head = settled.head;
      tail = settled.tail;
      pages = settled.pages ∙ ap (λ (pages : List ℕ). pages ++ c.deref-in-Ok-extend_log.result.now) c.in-Ok.ensures.pages ∙ ap (λ (more : List ℕ). c.args.row.now.pages.items ++ more) c.deref-in-Ok-extend_log.ensures.value;
      index = settled.index;
      names = settled.names;
    })
    (λ held h can. c.in-Ok-extend_log.ensures.shows c.args.tables.now.layout held c.args.row.now.inode h can) c.in-Ok-extend_log.ensures.kept.wrote.mixed

pub returns-in-Ok-extend_log-clause-kept : goal.returns-in-Ok-extend_log-clause-kept
returns-in-Ok-extend_log-clause-kept g c =
    record {
      keeps = record {
        stopped = tt;
        lists = taken_sup c.in-Ok.ensures.taken.each;
        length = mixed_size c.extend_log.ensures.kept.wrote.mixed;
        keeps_fuse = keeps_within (stores_within_region c.args.entries.now c.deref.result.now c.slot_of_row-slot.result c.requires.stands c.in-Ok.ensures.taken.each c.in-Ok.ensures.taken.count_is c.requires.given c.deref.ensures.value c.slot_of_row-slot.ensures.value) c.extend_log.ensures.kept.keeps_fuse;
      };
      settled = c.in-Ok-extend_log.ensures.kept.settled;
    }

pub returns-clause-kept : goal.returns-clause-kept
returns-clause-kept g c =
    record {
      keeps = record {
        stopped = grind (arith, common_steps);
        lists = taken_sup c.in-Ok.ensures.taken.each;
        length = mixed_size c.extend_log.ensures.kept.wrote.mixed;
        keeps_fuse = keeps_within (stores_within_region c.args.entries.now c.deref.result.now c.slot_of_row-slot.result c.requires.stands c.in-Ok.ensures.taken.each c.in-Ok.ensures.taken.count_is c.requires.given c.deref.ensures.value c.slot_of_row-slot.ensures.value) c.extend_log.ensures.kept.keeps_fuse;
      };
      settled = tt;
    }

pub slot_of_row-slot-requires : goal.slot_of_row-slot-requires
slot_of_row-slot-requires g c = c.requires.stands.number

pub extend_log-requires-clause-inside : goal.extend_log-requires-clause-inside
extend_log-requires-clause-inside g c = slot_word_inside c.slot_of_row-slot.result _ _ c.slot_of_row-slot.ensures.value c.requires.stands.inside

pub settle_log-requires : goal.settle_log-requires
settle_log-requires g c = subst (λ (blocks : List ℕ). HasRoomFor c.prepare_log.new.pages (length blocks)) (sym c.deref-in-Ok-extend_log.ensures.value) c.in-Ok.ensures.room

pub returns-in-Err-NoSpace-clause-appended : goal.returns-in-Err-NoSpace-clause-appended
returns-in-Err-NoSpace-clause-appended g c = tt

pub returns-in-Err-NoSpace-clause-needs : goal.returns-in-Err-NoSpace-clause-needs
returns-in-Err-NoSpace-clause-needs g c =
    record {
      enough = tt;
      refused = inr (inr (refl, no_space _ _ _ c.in-Err-NoSpace.ensures.err c.in-Err-NoSpace.field-0-is));
    }

pub returns-in-Err-NoSpace-clause-room : goal.returns-in-Err-NoSpace-clause-room
returns-in-Err-NoSpace-clause-room g c = tt

pub returns-in-Err-NoSpace-clause-kept : goal.returns-in-Err-NoSpace-clause-kept
returns-in-Err-NoSpace-clause-kept g c =
    nothing_stored tt (λ is. absurd (no_space_goes_on is)) (c.in-Err-NoSpace.ensures.unchanged.sup)

pub returns-in-Err-NoSpace-clause-unchanged : goal.returns-in-Err-NoSpace-clause-unchanged
returns-in-Err-NoSpace-clause-unchanged g c = λ _. record { memory = refl; free = c.in-Err-NoSpace.ensures.unchanged; row = record { inode = refl; kind = refl; numbers = refl; head = refl; tail = refl; pages = c.in-Err-NoSpace.ensures.pages; index = λ p. refl; names = λ q. refl } }

pub returns-in-Err-NoSpace-clause-inode : goal.returns-in-Err-NoSpace-clause-inode
returns-in-Err-NoSpace-clause-inode g c = refl

pub returns-in-Err-Memory-clause-appended : goal.returns-in-Err-Memory-clause-appended
returns-in-Err-Memory-clause-appended g c = tt

pub returns-in-Err-Memory-clause-needs : goal.returns-in-Err-Memory-clause-needs
returns-in-Err-Memory-clause-needs g c =
    record {
      enough = tt;
      refused = inl refl;
    }

pub returns-in-Err-Memory-clause-room : goal.returns-in-Err-Memory-clause-room
returns-in-Err-Memory-clause-room g c = tt

pub returns-in-Err-Memory-clause-kept : goal.returns-in-Err-Memory-clause-kept
returns-in-Err-Memory-clause-kept g c =
    nothing_stored tt (λ is. absurd (memory_goes_on is)) (c.in-Err-Memory.ensures.unchanged.sup)

pub returns-in-Err-Memory-clause-unchanged : goal.returns-in-Err-Memory-clause-unchanged
returns-in-Err-Memory-clause-unchanged g c = λ _. record { memory = refl; free = c.in-Err-Memory.ensures.unchanged; row = record { inode = refl; kind = refl; numbers = refl; head = refl; tail = refl; pages = c.in-Err-Memory.ensures.pages; index = λ p. refl; names = λ q. refl } }

pub returns-in-Err-Memory-clause-inode : goal.returns-in-Err-Memory-clause-inode
returns-in-Err-Memory-clause-inode g c = refl

pub returns-in-Ok-extend_log-clause-needs : goal.returns-in-Ok-extend_log-clause-needs
returns-in-Ok-extend_log-clause-needs g c =
    record {
      enough = c.in-Ok.ensures.enough;
      refused = tt;
    }

pub returns-in-Ok-extend_log-clause-room : goal.returns-in-Ok-extend_log-clause-room
returns-in-Ok-extend_log-clause-room g c = c.in-Ok.ensures.given_back

pub returns-in-Ok-extend_log-clause-unchanged : goal.returns-in-Ok-extend_log-clause-unchanged
returns-in-Ok-extend_log-clause-unchanged g c = tt

pub returns-in-Ok-extend_log-clause-inode : goal.returns-in-Ok-extend_log-clause-inode
returns-in-Ok-extend_log-clause-inode g c = c.settle_log.ensures.inode

pub returns-clause-appended : goal.returns-clause-appended
returns-clause-appended g c = tt

pub returns-clause-needs : goal.returns-clause-needs
returns-clause-needs g c =
    record {
      enough = tt;
      refused = inr (inl refl);
    }

pub returns-clause-room : goal.returns-clause-room
returns-clause-room g c = tt

pub returns-clause-unchanged : goal.returns-clause-unchanged
returns-clause-unchanged g c = λ goes_on. absurd (goes_on refl)

pub returns-clause-inode : goal.returns-clause-inode
returns-clause-inode g c = refl

pub extend_log-requires-clause-whole : goal.extend_log-requires-clause-whole
extend_log-requires-clause-whole g c = slot_word_whole c.slot_of_row-slot.result _ c.slot_of_row-slot.ensures.value c.requires.stands.whole

pub returns-in-Err-NoSpace-clause-any_stop : goal.returns-in-Err-NoSpace-clause-any_stop
returns-in-Err-NoSpace-clause-any_stop g c held h shows some settled = still _ _ c.args.tables.now.layout held (Appended (g.P.Pmem.region c.args.memory.now) c.args.tables.now.layout c.args.free.now c.args.cpu c.args.row.now c.args.entries.now) shows.sound settled

pub returns-in-Err-Memory-clause-any_stop : goal.returns-in-Err-Memory-clause-any_stop
returns-in-Err-Memory-clause-any_stop g c held h shows some settled = still _ _ c.args.tables.now.layout held (Appended (g.P.Pmem.region c.args.memory.now) c.args.tables.now.layout c.args.free.now c.args.cpu c.args.row.now c.args.entries.now) shows.sound settled

pub returns-in-Ok-extend_log-clause-any_stop : goal.returns-in-Ok-extend_log-clause-any_stop
returns-in-Ok-extend_log-clause-any_stop g c held h shows some settled =
    left_log c.args.entries.now c.in-Ok.fresh.items c.deref.result.now c.slot_of_row-slot.result c.deref.ensures.value c.slot_of_row-slot.ensures.value shows c.requires.stands.lists c.in-Ok.ensures.taken.each c.in-Ok.ensures.taken.count_is c.requires.given some
    _ _ _ c.extend_log.ensures.kept.wrote settled (λ can. (c.extend_log.ensures.moments c.args.tables.now.layout held c.args.row.now.inode h can).any_stop)

pub returns-clause-any_stop : goal.returns-clause-any_stop
returns-clause-any_stop g c held h shows some settled =
    left_log c.args.entries.now c.in-Ok.fresh.items c.deref.result.now c.slot_of_row-slot.result c.deref.ensures.value c.slot_of_row-slot.ensures.value shows c.requires.stands.lists c.in-Ok.ensures.taken.each c.in-Ok.ensures.taken.count_is c.requires.given some
    _ _ _ c.extend_log.ensures.kept.wrote settled (λ can. (c.extend_log.ensures.moments c.args.tables.now.layout held c.args.row.now.inode h can).any_stop)

pub returns-in-Err-NoSpace-clause-wrote : goal.returns-in-Err-NoSpace-clause-wrote
returns-in-Err-NoSpace-clause-wrote g c held h shows some at whole away = refl

pub returns-in-Err-Memory-clause-wrote : goal.returns-in-Err-Memory-clause-wrote
returns-in-Err-Memory-clause-wrote g c held h shows some at whole away = refl

pub returns-in-Ok-extend_log-clause-wrote : goal.returns-in-Ok-extend_log-clause-wrote
returns-in-Ok-extend_log-clause-wrote g c held h shows some =
    log_stores c.args.entries.now c.in-Ok.fresh.items c.deref.result.now c.slot_of_row-slot.result c.deref.ensures.value c.slot_of_row-slot.ensures.value shows c.requires.stands.lists c.in-Ok.ensures.taken.each c.in-Ok.ensures.taken.count_is c.requires.given some (g.P.Pmem.region c.extend_log.new.memory) c.extend_log.ensures.kept.wrote.mixed

pub returns-clause-wrote : goal.returns-clause-wrote
returns-clause-wrote g c held h shows some =
    log_stores c.args.entries.now c.in-Ok.fresh.items c.deref.result.now c.slot_of_row-slot.result c.deref.ensures.value c.slot_of_row-slot.ensures.value shows c.requires.stands.lists c.in-Ok.ensures.taken.each c.in-Ok.ensures.taken.count_is c.requires.given some (g.P.Pmem.region c.extend_log.new.memory) c.extend_log.ensures.kept.wrote.mixed
