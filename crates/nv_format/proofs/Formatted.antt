-- The formatted region: the magic over a region that is laid out.
use Rattle.std.proofs.Common.{◌≡◌, ◌≢◌, ◌⊎◌, inl, inr, ℕ, ◌+◌, ◌*◌, ◌%◌, ◌≤◌, ap, sym, ◌∙◌, arith, length-set}
use Rattle.nv_region.specs.Region.{Region, HasBlocks, size, word, put}
use Rattle.nv_region.specs.Stops.{IsMixed}
use Rattle.nv_super.specs.declared.superblock.Super.{Super}
use Rattle.nv_super.specs.declared.superblock.SuperFault.{SuperFault}
use Rattle.nv_super.specs.declared.superblock.SuperFault.TheVariants.{Length, Magic, Version, Cpus, Blocks, Tables, State}
use Rattle.nv_super.specs.Layout.{IsLayout, slot_address}
use Rattle.nv_super.specs.Super.{IsSuper, Applies, magic}
use Rattle.nv_inode.specs.Slot.{slot_at}
use Rattle.nv_format.specs.Format.{AnyAt, IsSystemWord, IsRootWord, HasNumbers, HasRoot, IsRootEntry, IsLaidOut, IsFormatted, root_page, root_slot}
use Rattle.nv_format.proofs.Kept.{journals_kept, kept_at, numbers_kept, put_blocks}
use Rattle.nv_region.proofs.Puts.{put_here, put_other}
use Rattle.nv_inode.proofs.Places.{slot_from}
use Rattle.nv_format.proofs.Tables.{slot_to, root_below}

-- the words of a laid-out superblock and the magic are accepted
accepted : (s : Super) (R : Region) → IsLayout s → s.version ≡ 1 → HasBlocks R s.blocks → word R 0 ≡ magic → HasNumbers R s → IsSuper R s
accepted s R layout one blocks first numbers = record {
  sound = sound;
  version = sym numbers.version;
  cpus = sym numbers.cpus;
  blocks = sym numbers.blocks;
  table_blocks = sym numbers.table_blocks;
  state = sym numbers.state;
}
  where
    long : size R ≡ 4096 * s.blocks
    long = let words = blocks.0 in let rest = blocks.1 in omega (arith, words, rest)

    crowded : (c n t : ℕ) → c ≡ s.cpus → n ≡ s.blocks → t ≡ s.table_blocks → n ≤ 1 + c + c * t → ⊥
    crowded c n t is_c is_n is_t full =
        let product : c * t ≡ s.cpus * s.table_blocks = ap (λ (k : ℕ). k * t) is_c ∙ ap (λ (k : ℕ). s.cpus * k) is_t in
        let room = layout.areas.room in omega (arith, product, room, is_c, is_n, full)

    sound : (fault : SuperFault) → Applies R fault → ⊥
    sound Length applies = let e = long in let from = layout.blocks_from in let to = layout.blocks_to in elim applies [
      | inl part ↦ part (omega (arith, e))
      | inr other ↦ elim other [ inl few ↦ omega (arith, e, few, from) | inr many ↦ omega (arith, e, many, to) ]
    ]
    sound Magic applies = applies first
    sound Version applies = applies.0 (numbers.version ∙ one)
    sound Cpus applies = let cpus = numbers.cpus in let from = layout.cpus_from in let to = layout.areas.cpus_to in elim applies [ inl few ↦ omega (arith, few, cpus, from) | inr many ↦ omega (arith, many, cpus, to) ]
    sound Blocks applies = let e = long in let count = numbers.blocks in applies (omega (arith, e, count))
    sound Tables applies = let tables = numbers.table_blocks in let from = layout.tables_from in let to = layout.areas.tables_to in elim applies [
      | inl number ↦ elim number [ inl few ↦ omega (arith, few, tables, from) | inr many ↦ omega (arith, many, tables, to) ]
      | inr full ↦ crowded (word R 16) (word R 24) (word R 32) numbers.cpus numbers.blocks tables full
    ]
    sound State applies = let state = numbers.state in let to = layout.state in omega (arith, applies, state, to)

module _ (s : Super) (time : ℕ) (layout : IsLayout s) (one : s.version ≡ 1) (R Q : Region) where
  -- a word but the first stays when the magic is stored
  stays : (a : ℕ) → 8 ≤ a → word (put Q 0 magic) a ≡ word Q a
  stays a above = put_other Q 0 magic a (λ e. omega (arith, e, above))

  first_word : HasBlocks Q s.blocks → word (put Q 0 magic) 0 ≡ magic
  first_word blocks = put_here Q 0 magic (let words = blocks.0 in let from = layout.blocks_from in omega (arith, words, from))

  slot_above : 4096 ≤ slot_address s 1
  slot_above = let from = slot_from s 1 in omega (arith, from)

  page_above : 4096 ≤ root_page s
  page_above = let above = slot_above in let to = slot_to s 1 layout (root_below s layout) in omega (arith, above, to)

  root_stays : HasRoot Q s time → slot_at (put Q 0 magic) (slot_address s 1) ≡ root_slot s time
  root_stays root = (λ i. record {
    valid = stays (slot_address s 1) (let above = slot_above in omega (arith, above)) i;
    kind = stays (slot_address s 1 + 8) (omega arith) i;
    head = stays (slot_address s 1 + 16) (omega arith) i;
    tail = stays (slot_address s 1 + 24) (omega arith) i;
    created = stays (slot_address s 1 + 32) (omega arith) i;
  }) ∙ root.slot

  entry_stays : HasRoot Q s time → IsRootEntry (put Q 0 magic) (root_page s) time
  entry_stays root = record {
    attributes = stays (root_page s) (let above = page_above in omega (arith, above)) ∙ root.entry.attributes;
    empty = stays (root_page s + 8) (omega arith) ∙ root.entry.empty;
    made = stays (root_page s + 16) (omega arith) ∙ root.entry.made;
    owner = stays (root_page s + 24) (omega arith) ∙ root.entry.owner;
  }

  -- without the magic, laid out, with the magic
  pub formatted : HasBlocks Q s.blocks → IsMixed (put R 0 0) (AnyAt (λ a. IsSystemWord s a ⊎ IsRootWord s a)) Q → IsLaidOut Q s time → IsFormatted R (put Q 0 magic) s time
  formatted blocks mixed laid = record {
    as_long = length-set Q.words 0 magic ∙ mixed.as_long ∙ length-set R.words 0 0;
    same_rest = mixed.same_rest;
    super = accepted s (put Q 0 magic) layout one (put_blocks Q 0 magic s.blocks blocks) (first_word blocks)
        (numbers_kept s Q (put Q 0 magic) (λ a whole above low. stays a above) laid.numbers);
    layout = layout;
    blocks = put_blocks Q 0 magic s.blocks blocks;
    journals = journals_kept s Q (put Q 0 magic) (λ a whole above low. stays a above) laid.journals;
    unused = λ i below differ. stays (slot_address s i) (let from = slot_from s i in omega (arith, from)) ∙ laid.unused i below differ;
    root = root_stays laid.root;
    entry = entry_stays laid.root;
    others = λ a whole away. (let above : 8 ≤ a = not_first a whole (λ e. away (inl e)) in
        stays a above ∙ kept_at (put R 0 0) Q (λ b. IsSystemWord s b ⊎ IsRootWord s b) a whole (λ here. away (inr here)) mixed ∙ put_other R 0 0 a (λ e. omega (arith, e, above)));
  }
    where
      not_first : (a : ℕ) → a % 8 ≡ 0 → a ≢ 0 → 8 ≤ a
      not_first a whole differ = omega (arith, whole, differ)
