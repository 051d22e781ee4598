use Rattle.std.proofs.Common.{◌≡◌, ◌+◌, ◌*◌, ap, ℕ, subst, sym, arith}
use Rattle.std.proofs.lemmas.Result.{on_ok_weaker, IfOk-from_err}
use Rattle.nv_region.proofs.Wordwise.{stores_more, stores_within}
use Rattle.nv_region.specs.Region.{put}
use Rattle.nv_region.specs.Stops.{IsMixed}
use Rattle.nv_region.specs.Stored.{Within}
use Rattle.nv_format.specs.Format.{root_page}
use Rattle.nv_format.proofs.Root.{root_written, entry_words, slot_words, valid_word, page_inside}
use Rattle.nv_region.proofs.Fuses.{keeps_more, keeps_within}
use Rattle.nv_region.proofs.Told.{told_err, burnt_told}
use Rattle.nv_region.proofs.Puts.{blocks_stay}
use Rattle.nv_format.proofs.Tables.{slot_to, root_below}
use Rattle.nv_format.proofs.formatting.write_root.Goals as goal

pub write_root_entry-requires-clause-within : goal.write_root_entry-requires-clause-within
write_root_entry-requires-clause-within g c =
    let s = c.args.sup.now in
    let page : 4096 * c.system_blocks-page.result ≡ root_page s = ap (λ (n : ℕ). 4096 * n) c.system_blocks-page.ensures in
    let inside = page_inside s c.args.time c.requires.layout in
    let size = c.requires.blocks.0 in
    omega (arith, page, inside, size)

pub returns-in_err-write_root_entry-clause-done : goal.returns-in_err-write_root_entry-clause-done
returns-in_err-write_root_entry-clause-done g c = IfOk-from_err c.from_residual.result _ c.from_residual.ensures.0

pub returns-in_err-write_root_entry-clause-blocks : goal.returns-in_err-write_root_entry-clause-blocks
returns-in_err-write_root_entry-clause-blocks g c = blocks_stay _ _ _ _ c.write_root_entry.ensures.wrote.mixed c.requires.blocks

pub returns-in_err-write_root_entry-clause-wrote : goal.returns-in_err-write_root_entry-clause-wrote
returns-in_err-write_root_entry-clause-wrote g c =
    let s = c.args.sup.now in
    let page : 4096 * c.system_blocks-page.result ≡ root_page s = ap (λ (n : ℕ). 4096 * n) c.system_blocks-page.ensures in
    stores_within _ _ _ _ _ _ (λ i x. entry_words s c.args.time c.requires.layout (4096 * c.system_blocks-page.result) i x page) c.write_root_entry.ensures.wrote

pub returns-in_err-write_root_entry-clause-stopped : goal.returns-in_err-write_root_entry-clause-stopped
returns-in_err-write_root_entry-clause-stopped g c = told_err c.from_residual.result c.in_err-write_root_entry.ensures.stopped

pub returns-in_err-write_root_entry-clause-keeps_fuse : goal.returns-in_err-write_root_entry-clause-keeps_fuse
returns-in_err-write_root_entry-clause-keeps_fuse g c =
    let s = c.args.sup.now in
    let page : 4096 * c.system_blocks-page.result ≡ root_page s = ap (λ (n : ℕ). 4096 * n) c.system_blocks-page.ensures in
    keeps_within (λ limit past. omega (arith, page, past)) c.write_root_entry.ensures.keeps_fuse

pub set_word-requires-clause-within : goal.set_word-requires-clause-within
set_word-requires-clause-within g c = let long = c.write_root_entry.ensures.wrote.mixed.as_long in let size = c.requires.blocks.0 in let inside = c.slot_address-at.ensures.inside in omega (arith, long, size, inside)

pub returns-in_err-set_word-clause-done : goal.returns-in_err-set_word-clause-done
returns-in_err-set_word-clause-done g c = IfOk-from_err c.from_residual-in_err-set_word.result _ c.from_residual-in_err-set_word.ensures.0

pub returns-in_err-set_word-clause-blocks : goal.returns-in_err-set_word-clause-blocks
returns-in_err-set_word-clause-blocks g c = blocks_stay _ _ _ _ c.set_word.ensures.wrote.mixed (blocks_stay _ _ _ _ c.write_root_entry.ensures.wrote.mixed c.requires.blocks)

pub returns-in_err-set_word-clause-wrote : goal.returns-in_err-set_word-clause-wrote
returns-in_err-set_word-clause-wrote g c =
    let s = c.args.sup.now in
    let page : 4096 * c.system_blocks-page.result ≡ root_page s = ap (λ (n : ℕ). 4096 * n) c.system_blocks-page.ensures in
    stores_more _ _ _ _ _ _ _ _ (λ i x. valid_word s c.args.time c.requires.layout c.slot_address-at.result i x c.slot_address-at.ensures.value) (stores_within _ _ _ _ _ _ (λ i x. entry_words s c.args.time c.requires.layout (4096 * c.system_blocks-page.result) i x page) c.write_root_entry.ensures.wrote) c.set_word.ensures.wrote

pub returns-in_err-set_word-clause-stopped : goal.returns-in_err-set_word-clause-stopped
returns-in_err-set_word-clause-stopped g c = told_err c.from_residual-in_err-set_word.result (sym c.in_err-set_word.ensures.stopped)

pub returns-in_err-set_word-clause-keeps_fuse : goal.returns-in_err-set_word-clause-keeps_fuse
returns-in_err-set_word-clause-keeps_fuse g c =
    let s = c.args.sup.now in
    let page : 4096 * c.system_blocks-page.result ≡ root_page s = ap (λ (n : ℕ). 4096 * n) c.system_blocks-page.ensures in
    let to = slot_to s 1 c.requires.layout (root_below s c.requires.layout) in let at = c.slot_address-at.ensures.value in
    keeps_more (λ limit past. omega (arith, to, at, past)) (keeps_within (λ limit past. omega (arith, page, past)) c.write_root_entry.ensures.keeps_fuse) c.set_word.ensures.keeps_fuse

pub store_slot-requires-clause-inside : goal.store_slot-requires-clause-inside
store_slot-requires-clause-inside g c =
    let blocks = blocks_stay _ _ _ _ c.set_word.ensures.wrote.mixed (blocks_stay _ _ _ _ c.write_root_entry.ensures.wrote.mixed c.requires.blocks) in
    let size = blocks.0 in
    let inside = c.slot_address-at.ensures.inside in
    omega (arith, size, inside)

pub returns-clause-blocks : goal.returns-clause-blocks
returns-clause-blocks g c = blocks_stay _ _ _ _ c.store_slot.ensures.wrote.mixed (blocks_stay _ _ _ _ c.set_word.ensures.wrote.mixed (blocks_stay _ _ _ _ c.write_root_entry.ensures.wrote.mixed c.requires.blocks))

pub returns-clause-stopped : goal.returns-clause-stopped
returns-clause-stopped g c = burnt_told c.store_slot.result c.store_slot.ensures.stopped

pub returns-clause-keeps_fuse : goal.returns-clause-keeps_fuse
returns-clause-keeps_fuse g c =
    let s = c.args.sup.now in
    let page : 4096 * c.system_blocks-page.result ≡ root_page s = ap (λ (n : ℕ). 4096 * n) c.system_blocks-page.ensures in
    let to = slot_to s 1 c.requires.layout (root_below s c.requires.layout) in let at = c.slot_address-at.ensures.value in
    keeps_more (λ limit past. omega (arith, to, at, past))
    (keeps_more (λ limit past. omega (arith, to, at, past)) (keeps_within (λ limit past. omega (arith, page, past)) c.write_root_entry.ensures.keeps_fuse) c.set_word.ensures.keeps_fuse)
    c.store_slot.ensures.keeps_fuse

pub returns-clause-done : goal.returns-clause-done
returns-clause-done g c =
    let s = c.args.sup.now in
    let head = 4096 * c.system_blocks-page.result in
    let page : head ≡ root_page s = ap (λ (n : ℕ). 4096 * n) c.system_blocks-page.ensures in
    let V = g.P.Pmem.region c.set_word.new.memory in
    let S = g.P.Pmem.region c.store_slot.new.memory in
    on_ok_weaker c.store_slot.result
    (λ stored. root_written s c.args.time c.requires.layout (g.P.Pmem.region c.args.memory.now) (g.P.Pmem.region c.write_root_entry.new.memory) (g.P.Pmem.region c.set_word.new.memory) (g.P.Pmem.region c.store_slot.new.memory)
    (4096 * c.system_blocks-page.result) c.number.result c.slot_address-at.result c.requires.blocks page c.number.ensures c.slot_address-at.ensures.value c.in_ok-write_root_entry.ensures.done c.write_root_entry.ensures.wrote.mixed
    c.in_ok-set_word.ensures.done c.set_word.ensures.wrote.mixed
    (subst (λ (a : ℕ). S ≡ put (put (put (put V (a + 8) c.number.result) (a + 16) head) (a + 24) (head + 32)) (a + 32) c.args.time) c.slot_address-at.ensures.value stored)
    (subst (λ (a : ℕ). IsMixed V (Within (a + 8) 32) S) c.slot_address-at.ensures.value c.store_slot.ensures.wrote.mixed))
    c.store_slot.ensures.done

pub returns-clause-wrote : goal.returns-clause-wrote
returns-clause-wrote g c =
    let s = c.args.sup.now in
    let page : 4096 * c.system_blocks-page.result ≡ root_page s = ap (λ (n : ℕ). 4096 * n) c.system_blocks-page.ensures in
    stores_more _ _ _ _ _ _ _ _ (λ i x within. slot_words s c.args.time c.requires.layout i x (subst (λ (a : ℕ). Within (a + 8) 32 i x) c.slot_address-at.ensures.value within))
    (stores_more _ _ _ _ _ _ _ _ (λ i x. valid_word s c.args.time c.requires.layout c.slot_address-at.result i x c.slot_address-at.ensures.value)
    (stores_within _ _ _ _ _ _ (λ i x. entry_words s c.args.time c.requires.layout (4096 * c.system_blocks-page.result) i x page) c.write_root_entry.ensures.wrote) c.set_word.ensures.wrote)
    c.store_slot.ensures.wrote
