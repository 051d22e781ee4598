-- What is fetched of all logs, with the front, is what is to be gathered.
use Rattle.std.proofs.Common.{◌≡◌, ◌<◌, ◌≤◌, inl, inr, ◌+◌, ◌*◌, ◌/◌, ◌%◌, ℕ, List, length, take, refl, sym, ap, ◌∙◌, arith, min}
use Rattle.std.proofs.lemmas.Bool.{cases_eq, eq-eqb, ne_eqb}
use Rattle.nv_region.specs.Region.{Region, region_of, word}
use Rattle.nv_super.specs.declared.superblock.Super.{Super}
use Rattle.nv_super.specs.Layout.{IsLayout, system_blocks}
use Rattle.nv_inode.specs.Permitted.{slots_end}
use Rattle.nv_journal.specs.Undo.{undone}
use Rattle.nv_journal.proofs.Fixed.{end_fixed}
use Rattle.nv_outcome.proofs.Metadata.{end_two}
use Rattle.nv_metadata.specs.Linked.{IsLogBlock, wanted}
use Rattle.nv_metadata.specs.Memory.{MetadataState, Shows, held}
use Rattle.nv_metadata.specs.Walk.{AreLogs}
use Rattle.nv_metadata.specs.Parts.{HasFetched, IsFront}
use Rattle.nv_super.specs.Super.{IsSuper}
use Rattle.nv_metadata.specs.Blocks.{AreBytesAt}
use Rattle.nv_metadata.specs.Fronts.{IsWhole}
use Rattle.nv_metadata.specs.Gathered.{IsGathered, SaysSuper}
use Rattle.nv_metadata.specs.declared.logs.LogEnds.{LogEnds}
use Rattle.nv_metadata.proofs.Joined.{linked_inside}
use Rattle.nv_metadata.proofs.Ready.{read_first}
use Rattle.nv_metadata.proofs.Same.{linked_behind, right_head_behind}
use Rattle.nv_metadata.proofs.Shown.{whole_words, word_read}

-- what is wanted of a log's block has the words that a reading looks at
within_wanted : (tail b at : ℕ) → at / 4096 ≡ b → (b ≡ tail / 4096 → at < tail + 280) → at % 4096 < wanted tail b
within_wanted tail b at here before = elim (cases_eq b (tail / 4096)) [
  | inl same ↦ (let low = before same in rw (eq-eqb b (tail / 4096) same) (in_tail low same))
  | inr apart ↦ rw (ne_eqb b (tail / 4096) apart) (omega arith)
] where
  in_tail : at < tail + 280 → b ≡ tail / 4096 → at % 4096 < min (tail % 4096 + 280) 4096
  in_tail low same = omega (arith, low, same, here)

pub all_gathered : (s : Super) (R : Region) (logs : List LogEnds) (m : MetadataState) → s.version ≡ 1 → m.memory.front ≡ 4096 * system_blocks s → AreLogs (undone s R) s logs → HasFetched s R logs m → IsGathered s R m.memory.region
all_gathered s R logs m one front are f = record {
  as_long = f.shows.as_long;
  rest_as_long = f.shows.rest_as_long;
  front = λ at aligned low. f.shows.front at aligned (omega (arith, low, ends));
  logs = λ head tail b log linked at aligned here before.
      (let some = f.all b (record { head = head; tail = tail }) (are.all head tail log) linked in
      let within = within_wanted tail b at here before in
      let count : held m (at / 4096) ≡ held m b = ap (held m) here in
      let high = linked_behind R s head tail b (right_head_behind s head tail log.2.right) linked in
      f.shows.pieces at aligned (omega (arith, high, here, front)) (omega (arith, some, within, count)));
  zeros = λ at aligned high other. f.shows.zeros at aligned (omega (arith, high, ends)) (let n = unheld (at / 4096) other in omega (arith, n));
} where
  ends : m.memory.front ≡ 4096 * slots_end s
  ends = front ∙ ap (λ (b : ℕ). 4096 * b) (sym (end_fixed s one))

  unheld : (b : ℕ) → (IsLogBlock s R b → ⊥) → held m b ≡ 0
  unheld b other = elim (f.only b) [
    | inl none ↦ none
    | inr l ↦ absurd (other (l.0.head, l.0.tail, are.only l.0 l.1, l.2))
  ]

-- an image that was read from its start on has the superblock that its first block says
super_read : (s : Super) (image front : List ℕ) → SaysSuper (take 4096 front) s → 4096 ≤ length front → length image ≡ 4096 * s.blocks → AreBytesAt image 0 front → IsSuper (region_of image) s
super_read s image front says begins long are =
    says (region_of image) (whole_words image s.blocks long)
    (λ at aligned within. sym (word_read image (take 4096 front) 0 at (read_first image front 4096 are begins) refl aligned within ∙ ap (word (region_of image)) (let same : 0 + at ≡ at = omega arith in same)))

-- What was fetched of an image's logs, with all bytes in front of its data blocks, is gathered.
pub gathered_of : (s : Super) (image front : List ℕ) (logs : List LogEnds) (m : MetadataState) → s.version ≡ 1 → length image ≡ 4096 * s.blocks → AreBytesAt image 0 front → IsFront s front → length front ≡ 4096 * system_blocks s → m.memory.front ≡ length front
    → AreLogs (undone s (region_of image)) s logs → HasFetched s (region_of image) logs m → IsSuper (region_of image) s × IsGathered s (region_of image) m.memory.region
gathered_of s image front logs m one long are is count as_long of fetched = (
  super_read s image front is.superblock is.begins long are,
  all_gathered s (region_of image) logs m one (as_long ∙ count) of fetched,
)

-- And so are all bytes of an image in version 2.
pub gathered_whole : (s : Super) (image bytes : List ℕ) (m : MetadataState) → IsLayout s → IsWhole s bytes → length image ≡ 4096 * s.blocks → AreBytesAt image 0 bytes → m.memory.front ≡ length bytes → Shows (region_of image) m
    → ((at : ℕ) → at % 8 ≡ 0 → length bytes ≤ at → word m.memory.region at ≡ 0) → IsSuper (region_of image) s × IsGathered s (region_of image) m.memory.region
gathered_whole s image bytes m layout is long are as_long shows zeros = (
  super_read s image bytes is.superblock (let count = is.count in let some = layout.blocks_from in omega (arith, count, some)) long are,
  record {
    as_long = shows.as_long;
    rest_as_long = shows.rest_as_long;
    front = λ at aligned low. shows.front at aligned (omega (arith, low, ends, as_long));
    logs = λ head tail b log linked at aligned here before. (
        let inside : b < s.blocks = (linked_inside (region_of image) s head tail b log.2.right linked).1 in
        let count = is.count in
        shows.front at aligned (omega (arith, here, inside, count, as_long)));
    zeros = λ at aligned high other. zeros at aligned (omega (arith, high, ends));
  },
) where
  ends : length bytes ≡ 4096 * slots_end s
  ends = is.count ∙ ap (λ (b : ℕ). 4096 * b) (sym (end_two s is.version))
