-- What is fetched by several threads is put together.
use Rattle.std.proofs.Common.{Result, Err, IsTrue, ◌≡◌, ◌⊎◌, ◌≤◌, ◌<◌, inl, inr, ◌*◌, ◌/◌, ◌%◌, ℕ, List, ◌++◌, length, refl, sym, ap, ◌∙◌, subst, arith}
use Rattle.std.proofs.lemmas.Bool.{cases_lt}
use Rattle.std.specs.List.{Contains}
use Rattle.std.proofs.lemmas.List.Elements.{Contains-append_left, Contains-append_right, Contains-append_cases}
use Rattle.nv_region.specs.Region.{Region, word}
use Rattle.nv_super.specs.declared.superblock.Super.{Super}
use Rattle.nv_super.specs.Layout.{system_blocks}
use Rattle.nv_inode.specs.Slot.{is_right_log}
use Rattle.nv_journal.specs.Undone.{SameBefore}
use Rattle.nv_logpage.proofs.Steps.{start_inside}
use Rattle.nv_metadata.specs.Linked.{IsLinked, first, next, link_in}
use Rattle.nv_metadata.specs.Memory.{MetadataState, held}
use Rattle.nv_metadata.specs.Walk.{AreFetched}
use Rattle.nv_metadata.specs.Parts.{HasFetched, IsJoined, IsPart}
use Rattle.nv_metadata.specs.declared.errors.GatherError.{GatherError}
use Rattle.nv_metadata.specs.declared.errors.GatherError.TheVariants.{Memory}
use Rattle.nv_metadata.specs.declared.logs.LogEnds.{LogEnds}
use Rattle.nv_metadata.proofs.Same.{start_behind}
use Rattle.nv_metadata.proofs.SameLogs.{right_start}

-- a block has the same words in both
abbrev pub SameWords : ℕ → Region → Region → Type 0
SameWords b R S = (at : ℕ) → at % 8 ≡ 0 → at / 4096 ≡ b → word S at ≡ word R at

-- A memory is put together where each block from one on is as it was or as it is in the other memory, of which so much more is held
-- there, and where all before is as it was.
pub joined_by : (from to : ℕ) (old other new : MetadataState) → new.memory.front ≡ old.memory.front → old.memory.front ≤ 4096 * from → other.memory.front ≤ 4096 * from
    → length new.memory.region.words ≡ length old.memory.region.words → new.memory.region.rest ≡ old.memory.region.rest
    → SameBefore (4096 * from) old.memory.region new.memory.region → ((b : ℕ) → b < from → held new b ≡ held old b)
    → ((b : ℕ) → from ≤ b → ((held new b ≡ held old b) × (held other b ≤ held old b) × SameWords b old.memory.region new.memory.region)
    ⊎ ((held new b ≡ held other b) × (held old b ≤ held other b) × SameWords b other.memory.region new.memory.region))
    → IsJoined from to old other new
joined_by from to old other new front behind there long rest before early each = record {
  shows = λ R a b. record {
    as_long = long ∙ a.as_long;
    rest_as_long = ap length rest ∙ a.rest_as_long;
    front = λ at aligned low. before at aligned (omega (arith, low, front, behind)) ∙ a.front at aligned (omega (arith, low, front));
    pieces = λ at aligned high some. elim (cases_lt (at / 4096) from) [
      | inl is ↦ before at aligned (omega (arith, is)) ∙ a.pieces at aligned (omega (arith, high, front)) (let n = early (at / 4096) is in omega (arith, n, some))
      | inr late ↦ elim (each (at / 4096) late) [
        | inl kept ↦ kept.2 at aligned refl ∙ a.pieces at aligned (omega (arith, high, front)) (let n = kept.0 in omega (arith, n, some))
        | inr taken ↦ taken.2 at aligned refl ∙ b.pieces at aligned (omega (arith, late, there)) (let n = taken.0 in omega (arith, n, some))
      ]
    ];
    zeros = λ at aligned high past. elim (cases_lt (at / 4096) from) [
      | inl is ↦ before at aligned (omega (arith, is)) ∙ a.zeros at aligned (omega (arith, high, front)) (let n = early (at / 4096) is in omega (arith, n, past))
      | inr late ↦ elim (each (at / 4096) late) [
        | inl kept ↦ kept.2 at aligned refl ∙ a.zeros at aligned (omega (arith, high, front)) (let n = kept.0 in omega (arith, n, past))
        | inr taken ↦ taken.2 at aligned refl ∙ b.zeros at aligned (omega (arith, late, there)) (let n = taken.0 in omega (arith, n, past))
      ]
    ];
  };
  keeps = λ b. elim (cases_lt b from) [
    | inl is ↦ (let n = early b is in omega (arith, n))
    | inr late ↦ elim (each b late) [ inl kept ↦ (let n = kept.0 in omega (arith, n)) | inr taken ↦ (let n = taken.0 in let less = taken.1 in omega (arith, n, less)) ]
  ];
  more = λ b late _. elim (each b late) [ inl kept ↦ (let n = kept.0 in let less = kept.1 in omega (arith, n, less)) | inr taken ↦ (let n = taken.0 in omega (arith, n)) ];
  only = λ b. elim (cases_lt b from) [
    | inl is ↦ inl (early b is)
    | inr late ↦ elim (each b late) [ inl kept ↦ inl kept.0 | inr taken ↦ inr taken.0 ]
  ];
}

-- a memory that held nothing has what was fetched
pub fetched_first : (s : Super) (R : Region) (logs : List LogEnds) (old new : MetadataState) → ((b : ℕ) → held old b ≡ 0) → AreFetched s R logs old new → HasFetched s R logs new
fetched_first s R logs old new none f = record {
  shows = f.shows;
  all = λ b log has linked. f.all log b has linked;
  only = λ b. elim (f.only b) [ inl same ↦ inl (same ∙ none b) | inr linked ↦ inr linked ];
}

-- What two memories have fetched is fetched in the one that they were put together in.
pub fetched_both : (s : Super) (R : Region) (here more : List LogEnds) (old other new : MetadataState) → ((log : LogEnds) (b : ℕ) → Contains more log → IsLinked R s log.head log.tail b → (system_blocks s ≤ b) × (b < s.blocks))
    → HasFetched s R here old → HasFetched s R more other → IsJoined (system_blocks s) s.blocks old other new → HasFetched s R (here ++ more) new
fetched_both s R here more old other new inside a b joined = record {
  shows = joined.shows R a.shows b.shows;
  all = λ block log has linked. elim (Contains-append_cases here more log has) [
    | inl among ↦ (let was = a.all block log among linked in let now = joined.keeps block in omega (arith, was, now))
    | inr there ↦ (let was = b.all block log there linked in let place = inside log block there linked in let now = joined.more block place.0 place.1 in omega (arith, was, now))
  ];
  only = λ block. elim (joined.only block) [
    | inl same ↦ elim (a.only block) [ inl none ↦ inl (same ∙ none) | inr l ↦ inr (l.0, Contains-append_left here more l.0 l.1, l.2) ]
    | inr same ↦ elim (b.only block) [ inl none ↦ inl (same ∙ none) | inr l ↦ inr (l.0, Contains-append_right here more l.0 l.1, l.2) ]
  ];
}

-- What fails has fetched nothing.
pub part_failed : (IsKnown : List ℕ → Type 0) (s : Super) (front : List ℕ) (logs : List LogEnds) (r : Result MetadataState GatherError) (e : GatherError) → r ≡ Err e → ((image : List ℕ) → IsKnown image → length image ≡ 4096 * s.blocks → e ≡ Memory) → IsPart IsKnown s front logs r
part_failed IsKnown s front logs r e is memory = subst (IsPart IsKnown s front logs) (sym is) (record { can = tt; opens = tt; fetched = λ image known long are. tt; known = memory })

-- the linked blocks of a log that is right are data blocks
pub linked_inside : (R : Region) (s : Super) (head tail b : ℕ) → IsTrue (is_right_log s head tail) → IsLinked R s head tail b → (system_blocks s ≤ b) × (b < s.blocks)
linked_inside R s head tail _ right first = (let start = right_start s head tail right in (start_behind s head start, start_inside s head start))
linked_inside R s head tail _ right (next {b} linked apart start) = (start_behind s (link_in R b) start, start_inside s (link_in R b) start)
