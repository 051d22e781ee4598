use Rattle.std.proofs.lemmas.Grind.{common_steps}
use Rattle.std.proofs.Common.{◌≡◌, ◌⊎◌, refl, ◌+◌, ◌<◌, ap, sym, ◌∙◌, subst, arith, get_or, length, List, ℕ, Option}
use Rattle.nv_region.specs.Region.{put}
use Rattle.nv_region.specs.Stops.{LeavesOnly}
use Rattle.nv_region.proofs.Fuses.{keeps_within}
use Rattle.nv_alloc.specs.FreeLists.{CanJoin}
use Rattle.nv_alloc.specs.Taking.{block_run}
use Rattle.nv_logpage.specs.Unlinked.{page_behind, word_to}
use Rattle.nv_deadpages.specs.Dead.{IsFirstDead}
use Rattle.nv_commit.proofs.Left.{still}
use Rattle.nv_steps.specs.Stopped.{PageLess}
use Rattle.nv_steps.proofs.CleanedLog as made
use Rattle.nv_steps.proofs.cleaning.clean_log.Goals as goal

pub returns-in-None-clause-log : goal.returns-in-None-clause-log
returns-in-None-clause-log g c held h shows dead = (
  subst (λ (o : Option ℕ). IsFirstDead c.args.tables.now.layout.sup h.kind c.args.row.now.inode h.created h.entries h.pages o) c.in-None.is
      (made.first_held shows c.load-created.result c.slot_of_row-slot.result c.load-created.ensures c.slot_of_row-slot.ensures.value c.sup.ensures c.args.known c.in-Ok.found dead (c.in-Ok.ensures.first h.entries)),
  made.nothing_lost _ _ _,
)

pub returns-in_default-unlink_page-clause-kept : goal.returns-in_default-unlink_page-clause-kept
returns-in_default-unlink_page-clause-kept g c =
    record {
      stopped = grind (arith, common_steps);
      lists = grind (arith, common_steps);
      length = grind (arith, common_steps);
      keeps_fuse = keeps_within (λ limit long. made.within_region _ c.slot_of_row-slot.result limit c.requires.stands c.requires.inside c.deref-3.ensures c.slot_of_row-slot.ensures.value long) c.unlink_page.ensures.kept.keeps_fuse;
    }

pub returns-clause-kept : goal.returns-clause-kept
returns-clause-kept g c =
    record {
      stopped = tt;
      lists = grind (arith, common_steps);
      length = grind (arith, common_steps);
      keeps_fuse = keeps_within (λ limit long. made.within_region _ c.slot_of_row-slot.result limit c.requires.stands c.requires.inside c.deref-3.ensures c.slot_of_row-slot.ensures.value long) c.unlink_page.ensures.kept.keeps_fuse;
    }

pub give_block-requires-clause-can : goal.give_block-requires-clause-can
give_block-requires-clause-can g c =
    let more = made.there_is c.in-Ok.found (λ (k : ℕ). k + 1 < length c.args.row.now.pages.items) c.in-Some.place c.in-Some.is c.in-Ok.ensures.before_last in
    subst (λ (ps : List ℕ). CanJoin c.reserve.new.self (block_run (get_or ps c.in-Some.place 0))) (sym c.deref.ensures)
    (made.can_give c.args.free.now c.reserve.new.self c.args.row.now.pages.items c.in-Some.place c.requires.own c.reserve.ensures.same.pools c.reserve.ensures.same.sup (omega (arith, more)))

pub returns-clause-log : goal.returns-clause-log
returns-clause-log g c held h shows dead =
    let R = g.P.Pmem.region c.args.memory.now in
    let S = g.P.Pmem.region c.unlink_page.new.memory in
    let k = c.in-Some.place in
    let more = made.there_is c.in-Ok.found (λ (n : ℕ). n + 1 < length c.args.row.now.pages.items) k c.in-Some.is c.in-Ok.ensures.before_last in
    let first = subst (λ (o : Option ℕ). IsFirstDead c.args.tables.now.layout.sup h.kind c.args.row.now.inode h.created h.entries h.pages o) c.in-Some.is
    (made.first_held shows c.load-created.result c.slot_of_row-slot.result c.load-created.ensures c.slot_of_row-slot.ensures.value c.sup.ensures c.args.known c.in-Ok.found dead (c.in-Ok.ensures.first h.entries)) in
    let fits = made.word_fits c.slot_of_row-slot.result k c.requires.stands c.requires.inside c.slot_of_row-slot.ensures.value more in
    let done = subst (λ (ps : List ℕ). S ≡ put R (word_to (c.slot_of_row-slot.result + 16) ps k) (page_behind ps k)) c.deref-3.ensures c.in-Ok-unlink_page.ensures.done in
    let stored = made.word_stored k c.slot_of_row-slot.result shows c.slot_of_row-slot.ensures.value done fits.0 fits.1 (let none = c.requires.blocks.1 in omega (arith, none)) in
    let told = shows.told in (
      k,
      first,
      made.page_lost shows S c.leave_page.new.row c.reserve.new.self c.give_block.new.free k _ first stored c.leave_page.ensures
          (ap (λ (ps : List ℕ). get_or ps k 0) (c.deref.ensures ∙ told.pages)) c.reserve.ensures.same.pools (c.reserve.ensures.same.sup ∙ c.requires.stands.lists) c.give_block.ensures.given,
    )

pub returns-in_default-unlink_page-clause-any_stop : goal.returns-in_default-unlink_page-clause-any_stop
returns-in_default-unlink_page-clause-any_stop g c held h shows dead none =
    let R = g.P.Pmem.region c.args.memory.now in
    let now = g.P.Pmem.region c.unlink_page.new.memory in
    let choices = g.P.Pmem.may_hold c.unlink_page.new.memory in
    let k = c.in-Some.place in
    let at = c.slot_of_row-slot.result + 16 in
    let pages = c.args.row.now.pages.items in
    let more = made.there_is c.in-Ok.found (λ (n : ℕ). n + 1 < length pages) k c.in-Some.is c.in-Ok.ensures.before_last in
    let first = subst (λ (o : Option ℕ). IsFirstDead c.args.tables.now.layout.sup h.kind c.args.row.now.inode h.created h.entries h.pages o) c.in-Some.is
    (made.first_held shows c.load-created.result c.slot_of_row-slot.result c.load-created.ensures c.slot_of_row-slot.ensures.value c.sup.ensures c.args.known c.in-Ok.found dead (c.in-Ok.ensures.first h.entries)) in
    let fits = made.word_fits c.slot_of_row-slot.result k c.requires.stands c.requires.inside c.slot_of_row-slot.ensures.value more in
    let stored = made.word_stored k c.slot_of_row-slot.result shows c.slot_of_row-slot.ensures.value refl fits.0 fits.1 (let none_behind = c.requires.blocks.1 in omega (arith, none_behind)) in
    let leaves = subst (λ (ps : List ℕ). LeavesOnly now choices (λ left. (left ≡ R) ⊎ (left ≡ put R (word_to at ps k) (page_behind ps k)))) c.deref-3.ensures (c.unlink_page.ensures.any_stop none) in
    made.left_cleaned shows (put R (word_to at pages k) (page_behind pages k)) k first stored now choices leaves

pub returns-clause-any_stop : goal.returns-clause-any_stop
returns-clause-any_stop g c held h shows dead none =
    let R = g.P.Pmem.region c.args.memory.now in
    let now = g.P.Pmem.region c.unlink_page.new.memory in
    let choices = g.P.Pmem.may_hold c.unlink_page.new.memory in
    let k = c.in-Some.place in
    let at = c.slot_of_row-slot.result + 16 in
    let pages = c.args.row.now.pages.items in
    let more = made.there_is c.in-Ok.found (λ (n : ℕ). n + 1 < length pages) k c.in-Some.is c.in-Ok.ensures.before_last in
    let first = subst (λ (o : Option ℕ). IsFirstDead c.args.tables.now.layout.sup h.kind c.args.row.now.inode h.created h.entries h.pages o) c.in-Some.is
    (made.first_held shows c.load-created.result c.slot_of_row-slot.result c.load-created.ensures c.slot_of_row-slot.ensures.value c.sup.ensures c.args.known c.in-Ok.found dead (c.in-Ok.ensures.first h.entries)) in
    let fits = made.word_fits c.slot_of_row-slot.result k c.requires.stands c.requires.inside c.slot_of_row-slot.ensures.value more in
    let stored = made.word_stored k c.slot_of_row-slot.result shows c.slot_of_row-slot.ensures.value refl fits.0 fits.1 (let none_behind = c.requires.blocks.1 in omega (arith, none_behind)) in
    let leaves = subst (λ (ps : List ℕ). LeavesOnly now choices (λ left. (left ≡ R) ⊎ (left ≡ put R (word_to at ps k) (page_behind ps k)))) c.deref-3.ensures (c.unlink_page.ensures.any_stop none) in
    made.left_cleaned shows (put R (word_to at pages k) (page_behind pages k)) k first stored now choices leaves

pub returns-in_default-clause-any_stop : goal.returns-in_default-clause-any_stop
returns-in_default-clause-any_stop g c held h shows dead none = still (g.P.Pmem.region c.args.memory.now) (g.P.Pmem.may_hold c.args.memory.now) c.args.tables.now.layout held (PageLess (g.P.Pmem.region c.args.memory.now) c.args.tables.now.layout c.args.free.now c.args.row.now) shows.sound none

pub returns-in_default-reserve-clause-any_stop : goal.returns-in_default-reserve-clause-any_stop
returns-in_default-reserve-clause-any_stop g c held h shows dead none = still (g.P.Pmem.region c.args.memory.now) (g.P.Pmem.may_hold c.args.memory.now) c.args.tables.now.layout held (PageLess (g.P.Pmem.region c.args.memory.now) c.args.tables.now.layout c.args.free.now c.args.row.now) shows.sound none

pub returns-in-None-clause-any_stop : goal.returns-in-None-clause-any_stop
returns-in-None-clause-any_stop g c held h shows dead none = still (g.P.Pmem.region c.args.memory.now) (g.P.Pmem.may_hold c.args.memory.now) c.args.tables.now.layout held (PageLess (g.P.Pmem.region c.args.memory.now) c.args.tables.now.layout c.args.free.now c.args.row.now) shows.sound none

pub returns-in_default-clause-wrote : goal.returns-in_default-clause-wrote
returns-in_default-clause-wrote g c held h o shows dead first at whole away = refl

pub returns-in_default-reserve-clause-wrote : goal.returns-in_default-reserve-clause-wrote
returns-in_default-reserve-clause-wrote g c held h o shows dead first at whole away = refl

pub returns-in-None-clause-wrote : goal.returns-in-None-clause-wrote
returns-in-None-clause-wrote g c held h o shows dead first at whole away = refl

pub returns-in_default-unlink_page-clause-wrote : goal.returns-in_default-unlink_page-clause-wrote
returns-in_default-unlink_page-clause-wrote g c held h o shows dead first =
    let there = subst (λ (p : Option ℕ). IsFirstDead c.args.tables.now.layout.sup h.kind c.args.row.now.inode h.created h.entries h.pages p) c.in-Some.is
    (made.first_held shows c.load-created.result c.slot_of_row-slot.result c.load-created.ensures c.slot_of_row-slot.ensures.value c.sup.ensures c.args.known c.in-Ok.found dead (c.in-Ok.ensures.first h.entries)) in
    made.page_stores shows (g.P.Pmem.region c.unlink_page.new.memory) c.slot_of_row-slot.result c.in-Some.place _ c.deref-3.result.now o c.slot_of_row-slot.ensures.value c.requires.stands.whole c.deref-3.ensures there first c.unlink_page.ensures.kept.wrote.mixed

pub returns-clause-wrote : goal.returns-clause-wrote
returns-clause-wrote g c held h o shows dead first =
    let there = subst (λ (p : Option ℕ). IsFirstDead c.args.tables.now.layout.sup h.kind c.args.row.now.inode h.created h.entries h.pages p) c.in-Some.is
    (made.first_held shows c.load-created.result c.slot_of_row-slot.result c.load-created.ensures c.slot_of_row-slot.ensures.value c.sup.ensures c.args.known c.in-Ok.found dead (c.in-Ok.ensures.first h.entries)) in
    made.page_stores shows (g.P.Pmem.region c.unlink_page.new.memory) c.slot_of_row-slot.result c.in-Some.place _ c.deref-3.result.now o c.slot_of_row-slot.ensures.value c.requires.stands.whole c.deref-3.ensures there first c.unlink_page.ensures.kept.wrote.mixed
