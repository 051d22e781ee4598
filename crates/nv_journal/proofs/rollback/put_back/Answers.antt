use Rattle.std.proofs.Common.{◌≡◌, ◌≤◌, ◌+◌, ◌-◌, ◌*◌, ◌%◌, ◌∙◌, ℕ, Fits, w64, arith, sym}
use Rattle.std.proofs.lemmas.Result.{on_ok_weaker}
use Rattle.nv_region.specs.Region.{Region, HasBlocks, size}
use Rattle.nv_region.proofs.Fuses.{keeps_within}
use Rattle.nv_region.proofs.Told.{burnt_told}
use Rattle.nv_region.proofs.Wordwise.{stores_none}
use Rattle.nv_inode.specs.Permitted.{is_permitted_by, slots_end}
use Rattle.nv_inode.proofs.LayoutWords.{end_least}
use Rattle.nv_journal.proofs.Stored.{stands}
use Rattle.nv_journal.proofs.Turns.{by_record, either_of, not_named, outside_either, outside_same, record_stored}
use Rattle.nv_journal.proofs.rollback.put_back.Goals as goal

-- words within the blocks lie within the region
in_region : (at n : ℕ) (R : Region) → at ≤ 4096 * n → HasBlocks R n → at ≤ size R
in_region at n R inside blocks = omega (arith, blocks.0, blocks.1)

first_word : (place n : ℕ) → place + 16 ≤ 4096 * n → place + 8 ≤ 4096 * n
first_word place n inside = omega arith

second_word : (place n : ℕ) → place + 16 ≤ 4096 * n → place + 8 + 8 ≤ 4096 * n
second_word place n inside = omega arith

second_aligned : (place : ℕ) → place % 8 ≡ 0 → (place + 8) % 8 ≡ 0
second_aligned place whole = omega arith

place_fits : (place n : ℕ) → place + 16 ≤ 4096 * n → n ≤ 262144 → Fits w64 (place + 8)
place_fits place n inside few = omega arith

-- the tables stand behind the superblock and before the data blocks
behind_start : (at cpus : ℕ) → (1 + cpus) * 4096 ≤ at → 4096 ≤ at
behind_start at cpus behind = omega arith

before_data : (at blocks : ℕ) → 1 ≤ blocks → at + 8 ≤ blocks * 4096 → at + 8 ≤ 4096 + 4096 * (blocks - 1)
before_data at blocks some before = omega arith

before_limit : (at blocks limit : ℕ) → at + 8 ≤ blocks * 4096 → 4096 * blocks ≤ limit → at + 8 ≤ limit
before_limit at blocks limit before past = omega arith

some_end : (n m end : ℕ) → 1 + n + m ≤ end → 1 ≤ end
some_end n m end far = omega arith

pub store-requires-clause-within : goal.store-requires-clause-within
store-requires-clause-within g c =
    let named = sym c.permits.ensures.value ∙ c.if-not-permits.false in
    in_region _ c.args.tables.now.layout.sup.blocks (g.P.Pmem.region c.args.memory.now) (stands c.args.tables.now.layout c.load-at.result c.requires.layout named).within c.requires.blocks

pub returns-then-not-permits-clause-done : goal.returns-then-not-permits-clause-done
returns-then-not-permits-clause-done g c =
    not_named (is_permitted_by c.args.tables.now.layout) (g.P.Pmem.region c.args.memory.now) c.args.place c.load-at.result c.load-at.ensures (sym c.permits.ensures.value ∙ c.if-not-permits.true)

pub returns-then-not-permits-clause-kept : goal.returns-then-not-permits-clause-kept
returns-then-not-permits-clause-kept g c = record {
  wrote = stores_none _ _ _;
  outside = outside_same _ _ _;
  stopped = tt;
  keeps_fuse = record { burnt = λ on. on; steady = λ on. on; stays_open = λ limit past on. on };
}

pub returns-clause-kept : goal.returns-clause-kept
returns-clause-kept g c = record {
  wrote = let named = sym c.permits.ensures.value ∙ c.if-not-permits.false in
      record_stored (is_permitted_by c.args.tables.now.layout) (g.P.Pmem.region c.args.memory.now) c.args.place c.load-at.result c.load-at.ensures c.load-before.result c.load-before.ensures named c.store.result _ _ _
      c.store.ensures.stored c.store.ensures.refused c.store.ensures.may_keep c.store.ensures.refused_keep;
  outside = let lies = c.permits.ensures.lies c.if-not-permits.false in
      outside_either _ _ _ 4096 (4096 * (slots_end c.args.tables.now.layout.sup - 1)) c.load-at.result c.load-before.result lies.aligned (behind_start c.load-at.result c.args.tables.now.layout.sup.cpus lies.behind) (before_data c.load-at.result (slots_end c.args.tables.now.layout.sup) (some_end c.args.tables.now.layout.sup.cpus (c.args.tables.now.layout.sup.cpus * c.args.tables.now.layout.sup.table_blocks) (slots_end c.args.tables.now.layout.sup) (end_least c.args.tables.now.layout.sup c.requires.layout.layout)) lies.before) (outside_same _ _ _)
      (either_of c.store.result _ _ _ _ c.store.ensures.stored c.store.ensures.refused);
  stopped = burnt_told c.store.result c.store.ensures.stopped;
  keeps_fuse = let lies = c.permits.ensures.lies c.if-not-permits.false in
      keeps_within (λ limit past. before_limit c.load-at.result (slots_end c.args.tables.now.layout.sup) limit lies.before past) c.store.ensures.keeps_fuse;
}

pub returns-clause-done : goal.returns-clause-done
returns-clause-done g c =
    let named = sym c.permits.ensures.value ∙ c.if-not-permits.false in
    on_ok_weaker c.store.result
    (λ stored. stored ∙ by_record (is_permitted_by c.args.tables.now.layout) (g.P.Pmem.region c.args.memory.now) c.args.place c.load-at.result c.load-at.ensures c.load-before.result c.load-before.ensures named)
    c.store.ensures.stored

pub load-at-requires-clause-aligned : goal.load-at-requires-clause-aligned
load-at-requires-clause-aligned g c = c.requires.aligned

pub load-at-requires-clause-within : goal.load-at-requires-clause-within
load-at-requires-clause-within g c = in_region _ c.args.tables.now.layout.sup.blocks (g.P.Pmem.region c.args.memory.now) (first_word c.args.place c.args.tables.now.layout.sup.blocks c.requires.inside) c.requires.blocks

pub overflow_add-place : goal.overflow_add-place
overflow_add-place g c = place_fits c.args.place c.args.tables.now.layout.sup.blocks c.requires.inside c.requires.layout.layout.areas.blocks_to

pub load-before-requires-clause-aligned : goal.load-before-requires-clause-aligned
load-before-requires-clause-aligned g c = second_aligned c.args.place c.requires.aligned

pub load-before-requires-clause-within : goal.load-before-requires-clause-within
load-before-requires-clause-within g c = in_region _ c.args.tables.now.layout.sup.blocks (g.P.Pmem.region c.args.memory.now) (second_word c.args.place c.args.tables.now.layout.sup.blocks c.requires.inside) c.requires.blocks

pub store-requires-clause-aligned : goal.store-requires-clause-aligned
store-requires-clause-aligned g c = (c.permits.ensures.lies c.if-not-permits.false).aligned
