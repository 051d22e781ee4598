-- The logs of regions with the same words in front of the data blocks, and of the inodes whose slots have some places.
use Rattle.std.proofs.Common.{◌≡◌, ◌≢◌, inl, inr, ◌+◌, ◌*◌, ◌/◌, ◌%◌, ◌<◌, ◌≤◌, ℕ, IsTrue, List, [], ◌∷◌, ◌++◌, length, Some, sym, ap, ◌∙◌, subst, arith, true}
use Rattle.std.proofs.lemmas.Bool.Decides.{nat_tests}
use Rattle.std.specs.List.{Contains}
use Rattle.std.proofs.lemmas.Bool.{cases_eq, cases_lt}
use Rattle.std.proofs.lemmas.List.Elements.{Contains-append_left, Contains-append_right, Contains-append_cases, Contains-push, Contains-push_cases}
use Rattle.std.proofs.lemmas.Option.{same_Some}
use Rattle.nv_region.specs.Region.{Region, word}
use Rattle.nv_super.specs.declared.superblock.Super.{Super}
use Rattle.nv_super.specs.declared.kind.Kind.{Kind}
use Rattle.nv_super.specs.Layout.{IsLayout, SlotsApart, fixed_layout, slot_of, slot_address, inode_limit, is_number, system_blocks, is_page_start}
use Rattle.nv_super.proofs.Members.{none_in}
use Rattle.nv_super.proofs.Slots.{slots_apart}
use Rattle.nv_inode.specs.declared.slot.Slot.{Slot}
use Rattle.nv_inode.specs.Chains.{layout_of}
use Rattle.nv_inode.specs.Permitted.{is_permitted_by}
use Rattle.nv_inode.specs.Slot.{is_right_log, kind_at, nth_slot, slot_at}
use Rattle.nv_inode.proofs.Places.{one_place, place, place_below, slot_at_place, slot_place}
use Rattle.nv_scan.proofs.Pieces.{slot_is}
use Rattle.nv_outcome.proofs.Tickets.{slot_number}
use Rattle.nv_journal.specs.Undo.{undone}
use Rattle.nv_journal.specs.Undone.{AllQuiet, SameBefore}
use Rattle.nv_journal.proofs.AnyLength.{quiet_same}
use Rattle.nv_journal.proofs.Fixed.{front_undone}
use Rattle.nv_journal.proofs.KeptLinks.{own_rule}
use Rattle.nv_metadata.specs.Linked.{IsLogOf, IsLog}
use Rattle.nv_metadata.specs.Walk.{AreLogs, AreLogsAmong}
use Rattle.nv_metadata.specs.declared.logs.LogEnds.{LogEnds}

-- rolled back, they have the same words there still
pub same_rolled_back : (s : Super) (R S : Region) → IsLayout s → s.version ≡ 1 → length S.words ≡ length R.words → SameBefore (4096 * system_blocks s) R S → SameBefore (4096 * system_blocks s) (undone s R) (undone s S)
same_rolled_back s R S layout one long same at aligned before =
    front_undone s R S layout one (λ a whole low. same a whole (omega (arith, low))) long at aligned (same at aligned before)

-- and with nothing to roll back, a region is as it was
pub quiet_undone : (s : Super) (R : Region) → IsLayout s → AllQuiet s.cpus R → undone s R ≡ R
quiet_undone s R layout quiet = quiet_same (is_permitted_by (layout_of s R)) s.cpus (own_rule s R layout) R quiet

-- the same inodes have the same logs
log_there : (s : Super) (U V : Region) → IsLayout s → SameBefore (4096 * system_blocks s) U V → (i a head tail : ℕ) → IsLogOf U s i a head tail → IsLogOf V s i a head tail
log_there s U V layout same i a head tail l = record {
  kind = l.kind;
  slot = l.slot;
  used = used;
  head_is = l.head_is ∙ sym (same (a + 16) (omega (arith, whole)) (omega (arith, before)));
  tail_is = l.tail_is ∙ sym (same (a + 24) (omega (arith, whole)) (omega (arith, before)));
  right = l.right;
} where
  apart : SlotsApart (fixed_layout s)
  apart = slots_apart s layout

  whole : a % 128 ≡ 0
  whole = apart.whole i a l.slot

  before : a + 128 ≤ 4096 * system_blocks s
  before = apart.before i a l.slot

  valid_word : word V a ≡ word U a
  valid_word = same a (omega (arith, whole)) (omega (arith, before))

  kind_word : word V (a + 8) ≡ word U (a + 8)
  kind_word = same (a + 8) (omega (arith, whole)) (omega (arith, before))

  used : kind_at V a ≡ Some l.kind
  used = rw (valid_word, kind_word) l.used

pub logs_there : (s : Super) (U V : Region) → IsLayout s → SameBefore (4096 * system_blocks s) U V → (logs : List LogEnds) → AreLogs V s logs → AreLogs U s logs
logs_there s U V layout same logs are = record {
  all = λ head tail l. are.all head tail (l.0, l.1, log_there s U V layout same l.0 l.1 head tail l.2);
  only = λ log c. (let l = are.only log c in (l.0, l.1, log_there s V U layout (λ at aligned low. sym (same at aligned low)) l.0 l.1 log.head log.tail l.2));
}

-- the head and the tail of each are right
pub ends_are_right : (U : Region) (s : Super) (logs : List LogEnds) → AreLogs U s logs → (log : LogEnds) → Contains logs log → IsTrue (is_right_log s log.head log.tail)
ends_are_right U s logs are log c = (let l = are.only log c in l.2.right)

-- such a log begins at the start of a data block
pub right_start : (s : Super) (head tail : ℕ) → IsTrue (is_right_log s head tail) → IsTrue (is_page_start s head)
right_start s head tail h = grind (arith, nat_tests)

-- ---- one slot after another

-- the first place is that of number 0
place_of_first : (s : Super) → IsLayout s → place s 0 ≡ 0
place_of_first s layout = at s.cpus layout.cpus_from
  where
    at : (C : ℕ) → 1 ≤ C → 0 % C * (32 * s.table_blocks) + 0 / C ≡ 0
    at C some =
        let cpu : 0 % C ≡ 0 = omega arith in
        let row : 0 / C ≡ 0 = omega arith in
        let table : 0 % C * (32 * s.table_blocks) ≡ 0 * (32 * s.table_blocks) = ap (λ (c : ℕ). c * (32 * s.table_blocks)) cpu in
        omega (arith, table, row)

is_a_number : (s : Super) (i : ℕ) → 0 < i → i < inode_limit s → IsTrue (is_number s i)
is_a_number s i some low = grind (arith, nat_tests)

-- the slot of a number lies behind the first place and before the last one's end
place_between : (s : Super) (i a : ℕ) → IsLayout s → slot_of (fixed_layout s) i ≡ Some a → (nth_slot s 1 ≤ a) × (a < nth_slot s (inode_limit s))
place_between s i a layout slot =
    let number = slot_number s i a layout slot in
    let some = number.0 in
    let low = number.1 in
    let here : a ≡ slot_address s i = same_Some a (slot_address s i) (sym slot ∙ slot_is s i layout (is_a_number s i some low)) in
    let at = slot_place s i in
    let below = place_below s i layout low in (
      elim (cases_eq (place s i) 0) [
        | inl first ↦ absurd (let same = one_place s i 0 layout low (omega (arith, some, low)) (first ∙ sym (place_of_first s layout)) in omega (arith, same, some))
        | inr other ↦ (let later : 1 ≤ place s i = omega (arith, other) in omega (arith, here, at, later))
      ],
      omega (arith, here, at, below),
    )

-- the slot at an address says what the log is of the inode that has it
pub one_log : (U : Region) (s : Super) (i a head tail : ℕ) (slot : Slot) → slot ≡ slot_at U a → IsLogOf U s i a head tail → (head ≡ slot.head) × (tail ≡ slot.tail)
one_log U s i a head tail slot is l = (l.head_is ∙ ap (λ (x : Slot). x.head) (sym is), l.tail_is ∙ ap (λ (x : Slot). x.tail) (sym is))

-- and where it is in use, some inode has it, but for the first one
pub slot_log : (U : Region) (s : Super) (k head tail : ℕ) (kind : Kind) → IsLayout s → 1 ≤ k → k < inode_limit s → kind_at U (nth_slot s k) ≡ Some kind → head ≡ word U (nth_slot s k + 16) → tail ≡ word U (nth_slot s k + 24)
    → is_right_log s head tail ≡ true → (i : ℕ) × IsLogOf U s i (nth_slot s k) head tail
slot_log U s k head tail kind layout later below used head_is tail_is right =
    let there = slot_at_place s k layout below in
    let i : ℕ = there.0 in
    let low = there.1 in
    let same = there.2 in
    let some : 0 < i = elim (cases_eq i 0) [
      | inl first ↦ absurd (let one = slot_place s 0 in let zero = place_of_first s layout in let at = ap (slot_address s) first in omega (arith, same, at, one, zero, later))
      | inr other ↦ omega (arith, other)
    ] in
    (i, record { kind = kind; slot = slot_is s i layout (is_a_number s i some low) ∙ ap (λ (x : ℕ). Some x) (sym same); used = used; head_is = head_is; tail_is = tail_is; right = right })

-- among the slots from one place to itself there is none
pub among_none : (U : Region) (s : Super) (n : ℕ) (logs : List LogEnds) → logs ≡ [] → AreLogsAmong U s n n logs
among_none U s n logs none = record {
  all = λ i a head tail high low l. absurd (omega (arith, high, low));
  only = λ log c. absurd (none_in log (subst (λ (x : List LogEnds). Contains x log) none c));
}

-- slots are whole
below_or_at : (s : Super) (U : Region) (i a head tail n : ℕ) → IsLayout s → a < nth_slot s (n + 1) → a ≢ nth_slot s n → IsLogOf U s i a head tail → a < nth_slot s n
below_or_at s U i a head tail n layout low other l = (let whole = (slots_apart s layout).whole i a l.slot in omega (arith, low, other, whole))

pub among_some : (U : Region) (s : Super) (from n : ℕ) (logs : List LogEnds) (log : LogEnds) → IsLayout s → AreLogsAmong U s from n logs
    → ((i head tail : ℕ) → IsLogOf U s i (nth_slot s n) head tail → log ≡ record { head = head; tail = tail }) → IsLog U s log.head log.tail → AreLogsAmong U s from (n + 1) (logs ++ log ∷ [])
among_some U s from n logs log layout before is has = record {
  all = λ i a head tail high low l. elim (cases_eq a (nth_slot s n)) [
    | inl same ↦ subst (λ (x : LogEnds). Contains (logs ++ log ∷ []) x) (is i head tail (subst (λ (x : ℕ). IsLogOf U s i x head tail) same l)) (Contains-push logs log)
    | inr other ↦ Contains-append_left logs (log ∷ []) (record { head = head; tail = tail }) (before.all i a head tail high (below_or_at s U i a head tail n layout low other l) l)
  ];
  only = λ x c. elim (Contains-push_cases logs log x c) [
    | inl old ↦ before.only x old
    | inr same ↦ subst (λ (y : LogEnds). IsLog U s y.head y.tail) same has
  ];
}

pub among_no_more : (U : Region) (s : Super) (from n : ℕ) (logs : List LogEnds) → IsLayout s → AreLogsAmong U s from n logs → ((i head tail : ℕ) → IsLogOf U s i (nth_slot s n) head tail → ⊥) → AreLogsAmong U s from (n + 1) logs
among_no_more U s from n logs layout before none = record {
  all = λ i a head tail high low l. elim (cases_eq a (nth_slot s n)) [
    | inl same ↦ absurd (none i head tail (subst (λ (x : ℕ). IsLogOf U s i x head tail) same l))
    | inr other ↦ before.all i a head tail high (below_or_at s U i a head tail n layout low other l) l
  ];
  only = before.only;
}

-- up to an earlier place
pub among_fewer : (U : Region) (s : Super) (from to n : ℕ) (logs : List LogEnds) → to ≤ n → AreLogsAmong U s from n logs → AreLogsAmong U s from to logs
among_fewer U s from to n logs before are = record {
  all = λ i a head tail high low l. are.all i a head tail high (omega (arith, low, before)) l;
  only = are.only;
}

-- those of slots side by side
pub among_both : (U : Region) (s : Super) (from middle to : ℕ) (logs more : List LogEnds) → AreLogsAmong U s from middle logs → AreLogsAmong U s middle to more → AreLogsAmong U s from to (logs ++ more)
among_both U s from middle to logs more first second = record {
  all = λ i a head tail high low l. elim (cases_lt a (nth_slot s middle)) [
    | inl under ↦ Contains-append_left logs more (record { head = head; tail = tail }) (first.all i a head tail high under l)
    | inr over ↦ Contains-append_right logs more (record { head = head; tail = tail }) (second.all i a head tail over low l)
  ];
  only = λ log c. elim (Contains-append_cases logs more log c) [
    | inl old ↦ first.only log old
    | inr new ↦ second.only log new
  ];
}

-- no inode has the first place, and all others lie before the limit's
pub among_all : (U : Region) (s : Super) (logs : List LogEnds) → IsLayout s → AreLogsAmong U s 1 (inode_limit s) logs → AreLogs U s logs
among_all U s logs layout are = record {
  all = λ head tail l. (let m = place_between s l.0 l.1 layout l.2.slot in are.all l.0 l.1 head tail m.0 m.1 l.2);
  only = are.only;
}
