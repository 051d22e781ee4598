-- From where the bytes of files are read, where the metadata of a region are mounted: the region's data blocks, or in version 2 the
-- memory, which holds all of them.
use Rattle.std.proofs.Common.{◌≡◌, ◌∙◌, ◌+◌, ◌*◌, ◌/◌, ◌%◌, ◌^◌, ◌==◌, ◌<◌, ◌≤◌, ℕ, inl, inr, Bool, true, false, IsTrue, List, length, drop, Option, Some, refl, sym, ap, subst, arith, eqb-true}
use Rattle.std.specs.List.{Contains}
use Rattle.std.proofs.lemmas.Bool.{true≢false}
use Rattle.std.proofs.lemmas.Bool.Decides.{nat_tests}
use Rattle.byteorder.specs.Endian.{little_number}
use Rattle.nv_region.specs.Region.{Region, region_of, word}
use Rattle.nv_region.specs.ImageState.{ImageState, is_open_to}
use Rattle.nv_region.proofs.Bytes.{size_of_bytes, word_of_bytes}
use Rattle.nv_super.specs.Layout.{IsLayout, system_blocks}
use Rattle.nv_super.specs.Super.{IsSuper}
use Rattle.nv_super.specs.declared.superblock.Super.{Super}
use Rattle.nv_inode.specs.Permitted.{slots_end}
use Rattle.nv_journal.specs.Undo.{undone}
use Rattle.nv_journal.proofs.High.{data_word}
use Rattle.nv_outcome.specs.Outcome.{Outcome, IsOutcome}
use Rattle.nv_outcome.proofs.Metadata.{end_two, word_undone}
use Rattle.nv_outcome.proofs.SuperOf.{blocks_of_super, layout_of_super, one_super, version_of_super}
use Rattle.nv_metadata.specs.Memory.{MetadataState}
use Rattle.nv_metadata.specs.Gathered.{AreGathered, IsGathered}
use Rattle.nv_metadata.specs.declared.gathering.Gathered.{Gathered}
use Rattle.nv_metadata.specs.declared.gathering.Gathered.TheVariants as gatherings
use Rattle.nv_metadata.proofs.Same.{gathered_super, has_metadata, whole_outcome}
use Rattle.nv_radix.specs.Pages.{block_at}
use Rattle.nv_mounted.specs.Bytes.{byte_in}
use Rattle.nv_scan.specs.declared.piece.Row.{Row}
use Rattle.nv_scan.proofs.Blocks.{data_pages}
use Rattle.nv_calls.specs.Mount.{Mount}
use Rattle.nv_looks.specs.Gathered.{IsOpenedOf, is_whole}
use Rattle.nv_looks.specs.Catting.{AreHeldIn, AreReadFrom, AreShownAs}
use Rattle.nv_looks.specs.declared.gathered.OpenedMetadata.TheVariants as opened

-- ---- rows of an outcome

module _ (S : Region) (o : Outcome) (is : IsOutcome S o) where
  layout : IsLayout o.sup
  layout = layout_of_super S o.sup is.sup

  -- the blocks of their files are data blocks
  pub bounds : (row : Row) → Contains o.rows row → (p b : ℕ) → block_at row.index p ≡ Some b → (system_blocks o.sup ≤ b) × (b < o.sup.blocks)
  bounds row c p b at = let r = is.rows.each row c in let inside = data_pages o.sup r.1.kind r.1.entries p b (sym (r.2.index p) ∙ at) in (inside.1, inside.2)

  -- no journal names a word of a data block in version 1
  pub shown_as : o.sup.version ≡ 1 → AreShownAs (undone o.sup S) S o.rows
  shown_as one = record {
    inside = λ row c p b at. (let high = (bounds row c p b at).1 in let blocks = blocks_of_super S o.sup is.sup in omega (arith, high, blocks));
    same = λ row p b x c at. ap (λ (w : ℕ). w / 256 ^ (x % 8) % 256) (let low = (bounds row c p b at).0 in data_word o.sup S layout one (b * 4096 + x % 4096 / 8 * 8) (omega arith) (omega (arith, low)));
  }

-- ---- of what was gathered of a region

-- a memory that takes a store has it in its front
in_front : (m : ImageState) (limit : ℕ) → IsTrue (is_open_to m limit) → limit ≤ m.front
in_front m limit opens = grind (arith, nat_tests)

-- a word that was gathered is rolled back as that of the region
word_rolled_back : (s t : Super) (R S : Region) → IsSuper R s → IsGathered s R S → t ≡ s → (a : ℕ) → a % 8 ≡ 0 → a < 4096 * slots_end t → word (undone t R) a ≡ word (undone t S) a
word_rolled_back s t R S is g same a aligned low =
    let sup : IsSuper R t = subst (λ (x : Super). IsSuper R x) (sym same) is in
    let all : IsGathered t R S = subst (λ (x : Super). IsGathered x R S) (sym same) g in
    sym (word_undone t R S sup (has_metadata t R S sup all) a aligned (all.front a aligned low))

module _ (bytes : List ℕ) (s : Super) (held : MetadataState) (are : AreGathered (region_of bytes) (gatherings.Metadata s held)) (m : Mount MetadataState) (is : IsOpenedOf (gatherings.Metadata s held) (opened.Mounted m)) where
  abbrev R : Region
  R = region_of bytes

  abbrev S : Region
  S = held.memory.region

  abbrev o : Outcome
  o = is.0

  same_sup : o.sup ≡ s
  same_sup = one_super S s o.sup (gathered_super s R S are.0 are.1) is.1.sup

  of_region : IsOutcome R o
  of_region = whole_outcome s R S are.0 are.1 o same_sup is.1

  -- in version 2 all blocks are held
  blocks_held : o.sup.version ≡ 2 → 4096 * o.sup.blocks ≤ m.memory.memory.front
  blocks_held two = subst (λ (n : ℕ). 4096 * n ≤ m.memory.memory.front) (end_two o.sup two) (in_front m.memory.memory (4096 * slots_end o.sup) (is.6 o.sup is.1.sup))

  held_in : o.sup.version ≡ 2 → AreHeldIn m.memory (undone o.sup R) o.rows
  held_in two = record {
    inside = λ row p b c at. (let low = (bounds S o is.1 row c p b at).1 in let all = blocks_held two in omega (arith, low, all));
    same = λ row p b x c at. ap (λ (w : ℕ). w / 256 ^ (x % 8) % 256) (
        let low = (bounds S o is.1 row c p b at).1 in
        let before : b * 4096 + x % 4096 / 8 * 8 < 4096 * o.sup.blocks = omega (arith, low) in
        word_rolled_back s o.sup R S are.0 are.1 same_sup (b * 4096 + x % 4096 / 8 * 8) (omega arith) (subst (λ (n : ℕ). b * 4096 + x % 4096 / 8 * 8 < 4096 * n) (sym (end_two o.sup two)) before)
        ∙ sym (ap (λ (Q : Region). word Q (b * 4096 + x % 4096 / 8 * 8)) is.2));
  }

  version_1 : (s.version == 2) ≡ false → o.sup.version ≡ 1
  version_1 other = ap (λ (x : Super). x.version) same_sup ∙ elim (version_of_super R s are.0) [
    | inl one ↦ one
    | inr two ↦ absurd (true≢false (sym (ap (λ (v : ℕ). v == 2) two) ∙ other))
  ]

  read_by : (b : Bool) → (s.version == 2) ≡ b → AreReadFrom b (Some bytes) m.memory (undone o.sup R) m.rows
  read_by true two = subst (λ (rows : List Row). AreHeldIn m.memory (undone o.sup R) rows) (sym is.3) (held_in (ap (λ (x : Super). x.version) same_sup ∙ eqb-true s.version 2 two))
  read_by false other = (bytes, refl, subst (λ (rows : List Row). AreShownAs (undone o.sup R) R rows) (sym is.3) (shown_as R o of_region (version_1 other)))

-- What was mounted is the region's outcome, and the bytes of the files are read from where the region has them, rolled back.
pub read_from : (bytes : List ℕ) (g : Gathered) → AreGathered (region_of bytes) g → (m : Mount MetadataState) → IsOpenedOf g (opened.Mounted m)
    → (o : Outcome) × IsOutcome (region_of bytes) o × (m.rows ≡ o.rows) × (m.faults ≡ o.faults) × AreReadFrom (is_whole g) (Some bytes) m.memory (undone o.sup (region_of bytes)) m.rows
read_from bytes (gatherings.Metadata s held) are m is = (is.0, of_region bytes s held are m is, is.3, is.4, read_by bytes s held are m is (s.version == 2) refl)
read_from bytes (gatherings.Refused fault) are m is = absurd is

-- the same, by a flag and bytes that are equal
pub read_there : (whole flag : Bool) (known : Option (List ℕ)) (bytes : List ℕ) (memory : MetadataState) (Q : Region) (rows : List Row) → whole ≡ flag → known ≡ Some bytes → AreReadFrom flag (Some bytes) memory Q rows → AreReadFrom whole known memory Q rows
read_there whole flag known bytes memory Q rows is same reads =
    subst (λ (b : Bool). AreReadFrom b known memory Q rows) (sym is) (subst (λ (k : Option (List ℕ)). AreReadFrom flag k memory Q rows) (sym same) reads)

-- ---- from the bytes of a memory's front

-- they show what is held there
pub front_shown : (memory : MetadataState) (front : List ℕ) (R : Region) (rows : List Row) → length front ≡ memory.memory.front
    → ((at : ℕ) → at % 8 ≡ 0 → at + 8 ≤ length front → word memory.memory.region at ≡ little_number 8 (drop at front)) → AreHeldIn memory R rows → AreShownAs R (region_of front) rows
front_shown memory front R rows count words held = record {
  inside = λ row c p b at. (let low = held.inside row p b c at in let size = size_of_bytes front in omega (arith, low, size, count));
  same = λ row p b x c at. held.same row p b x c at ∙ ap (λ (w : ℕ). w / 256 ^ (x % 8) % 256) (
      let low = held.inside row p b c at in
      let within : b * 4096 + x % 4096 / 8 * 8 + 8 ≤ length front = omega (arith, low, count) in
      words (b * 4096 + x % 4096 / 8 * 8) (omega arith) within ∙ sym (word_of_bytes front (b * 4096 + x % 4096 / 8 * 8) (omega arith) within));
}

-- the same of what a mount lends of its memory
pub held_shown : (memory lent : MetadataState) (front held : List ℕ) (R : Region) (rows : List Row) → lent ≡ memory → held ≡ front → length front ≡ lent.memory.front
    → ((at : ℕ) → at % 8 ≡ 0 → at + 8 ≤ length front → word lent.memory.region at ≡ little_number 8 (drop at front)) → AreHeldIn memory R rows → AreShownAs R (region_of held) rows
held_shown memory lent front held R rows same is count words reads =
    subst (λ (bytes : List ℕ). AreShownAs R (region_of bytes) rows) (sym is) (front_shown lent front R rows count words (subst (λ (m : MetadataState). AreHeldIn m R rows) (sym same) reads))
