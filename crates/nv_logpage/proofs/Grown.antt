-- A log to which entries were appended.
use Rattle.std.proofs.Common.{◌*◌, ◌≡◌, ℕ, zero, suc, ◌+◌, ◌/◌, ◌%◌, ◌<◌, ◌≤◌, IsTrue, false, ◌⊎◌, inl, inr, List, [], ◌∷◌, ◌++◌, length, get_or, take, refl, ap, sym, ◌∙◌, subst, arith, None, append-nil}
use Rattle.std.specs.List.{Contains, list_any}
use Rattle.std.proofs.lemmas.Bool.Decides.{eqb_tells, nat_tests}
use Rattle.std.proofs.Math.Dec.{eqb}
use Rattle.nv_region.specs.Region.{Region}
use Rattle.nv_region.specs.Stops.{Choices, IsMixed, LeavesOnly, NothingPending}
use Rattle.nv_region.specs.Stored.{StoresOnly}
use Rattle.nv_region.proofs.Stops.{mixed_left}
use Rattle.nv_region.proofs.Wordwise.{mixed_word}
use Rattle.nv_super.specs.declared.superblock.Super.{Super}
use Rattle.nv_super.specs.Layout.{is_data_address, is_page_start}
use Rattle.nv_inode.specs.Slot.{is_right_log}
use Rattle.nv_entry.specs.declared.entry.Entry.{Entry}
use Rattle.nv_logpage.specs.declared.found.Placed.{Placed}
use Rattle.nv_logpage.specs.Reads.{ReadsOn, Reads, ends}
use Rattle.nv_logpage.specs.Append.{AllDiffer, AppendWords, CanBePages, FreshFor, Laid, Linked, appended, end_of, needed}
use Rattle.nv_logpage.specs.Grows.{GoesPast}
use Rattle.nv_logpage.specs.Writing.{FitPages}
use Rattle.nv_logpage.proofs.Steps.{start_whole}
use Rattle.nv_logpage.proofs.Longer.{eqb_yes, longer}
use Rattle.nv_logpage.proofs.Laid.{IsPlace, ends_right, ends_where, laid_reads}

-- what a list doesn't contain is none of its elements
pub not_any : (q : ℕ) (xs : List ℕ) → (Contains xs q → ⊥) → list_any (eqb q) xs ≡ false
not_any q [] h = refl
not_any q (x ∷ xs) h = elim (eqb_tells q x) [ inl w ↦ absurd (h (0, omega arith, sym w.1)) | inr w ↦ rw w.0 (not_any q xs (λ c. h (suc c.0, (let l = c.1 in omega arith), c.2))) ]

-- what is stored behind the tail and in fresh pages leaves the log as it was before its tail
pub goes_past : (R S : Region) (tail new : ℕ) (s : Super) (fresh all : List ℕ) → AllDiffer (tail / 4096 ∷ fresh) → IsMixed R (AppendWords tail fresh) S → FreshFor s fresh all → ((tail ≤ new) × (new / 4096 ≡ tail / 4096)) ⊎ (Contains all (new / 4096) → ⊥) → GoesPast R S tail new all
goes_past R S tail new s fresh all differ mixed free later = record {
  pages = λ b in_all away a whole page. mixed_word R S (AppendWords tail fresh) a whole mixed (λ x w. elim w [
    | inl v ↦ away (omega (arith, v.0))
    | inr v ↦ free.apart v.0 v.1 (subst (λ (q : ℕ). Contains all q) (let e : b ≡ get_or fresh v.0 0 = omega (arith, v.2) in e) in_all)
  ]);
  before = λ a whole page low. mixed_word R S (AppendWords tail fresh) a whole mixed (λ x w. elim w [
    | inl v ↦ omega (arith, v.1)
    | inr v ↦ apart_tail v.0 v.1 (omega (arith, v.2))
  ]);
  later = later;
}
  where
    apart_tail : (j : ℕ) → j < length fresh → tail / 4096 ≡ get_or fresh j 0 → ⊥
    apart_tail j h e = differ 0 (suc j) (omega arith) (omega arith) e

in_head : (b : ℕ) → Contains (b ∷ []) b
in_head b = (0, omega arith, refl)

-- What is written behind the tail, and in fresh pages, isn't read.
pub unread : (R S : Region) (s : Super) (head tail : ℕ) (fresh all : List ℕ) (es : List Placed) → AllDiffer (tail / 4096 ∷ fresh) → tail % 4096 ≤ 4064 → IsTrue (is_page_start s head)
    → IsMixed R (AppendWords tail fresh) S → FreshFor s fresh all → Reads R s head tail es all None → Reads S s head tail es all None
unread R S s head tail fresh all es differ offset start mixed free read =
    let whole = start_whole s head start in
    let here : ReadsOn S s tail all tail [] all None = ends (rw (eqb_yes tail tail refl) refl) in
    subst (λ (xs : List Placed). Reads S s head tail xs all None) (append-nil es)
    (longer S tail [] all None refl (goes_past R S tail tail s fresh all differ mixed free (inl (omega arith, refl))) (in_head (head / 4096)) (omega arith) (omega arith) (λ same. omega arith) offset read here)

-- So a stop leaves the log as it was.
pub left_unread : (R Q : Region) (before after : Choices) (s : Super) (head tail : ℕ) (fresh all : List ℕ) (es : List Placed) → AllDiffer (tail / 4096 ∷ fresh) → tail % 4096 ≤ 4064 → IsTrue (is_page_start s head)
    → StoresOnly (AppendWords tail fresh) R Q before after → FreshFor s fresh all → Reads R s head tail es all None → NothingPending R before → LeavesOnly Q after (λ left. Reads left s head tail es all None)
left_unread R Q before after s head tail fresh all es differ offset start wrote free read settled left may =
    unread R left s head tail fresh all es differ offset start (mixed_left R Q (AppendWords tail fresh) before after wrote.mixed.as_long wrote.mixed.same_rest settled wrote.adds left may) free read

-- Up to the new tail the old entries are read, and then the given ones.
pub grown : (R S : Region) (s : Super) (head tail : ℕ) (entries : List Entry) (fresh all : List ℕ) (es : List Placed) → AllDiffer (tail / 4096 ∷ fresh) → FitPages entries → needed (tail % 4096) entries ≤ length fresh
    → tail % 8 ≡ 0 → tail % 4096 ≤ 4064 → IsTrue (is_page_start s head) → IsMixed R (AppendWords tail fresh) S → Laid S fresh 0 tail entries → Linked S (tail / 4096 ∷ fresh) (needed (tail % 4096) entries) → FreshFor s fresh all
    → Reads R s head tail es all None → Reads S s head (end_of fresh 0 tail entries) (es ++ appended fresh 0 tail entries) (all ++ take (needed (tail % 4096) entries) fresh) None
grown R S s head tail entries fresh all es differ given enough whole offset start mixed laid linked free read =
    let m = needed (tail % 4096) entries in
    let new = end_of fresh 0 tail entries in
    let starts_whole = start_whole s head start in
    let w = ends_where fresh (tail / 4096) entries given 0 tail refl offset in
    let zero_m : 0 + m ≡ m = omega arith in
    let page : new / 4096 ≡ get_or (tail / 4096 ∷ fresh) m 0 = w.0 ∙ ap (λ (n : ℕ). get_or (tail / 4096 ∷ fresh) n 0) zero_m in
    let rest = laid_reads S s fresh (tail / 4096) all m differ enough free.starts (λ j h. not_any (get_or fresh j 0) all (free.apart j h)) linked entries given 0 tail refl offset whole (sym zero_m) laid in
    let rest' : ReadsOn S s new all tail (appended fresh 0 tail entries) (all ++ take m fresh) None = subst (λ (ps : List ℕ). ReadsOn S s new ps tail (appended fresh 0 tail entries) (all ++ take m fresh) None) (append-nil all) rest in
    longer S new (appended fresh 0 tail entries) (all ++ take m fresh) None refl
    (goes_past R S tail new s fresh all differ mixed free (later m page w.1 refl)) (in_head (head / 4096)) (omega arith) (omega arith) (λ same. omega arith) offset read rest'
  where
    later : (m : ℕ) → end_of fresh 0 tail entries / 4096 ≡ get_or (tail / 4096 ∷ fresh) m 0 → (needed (tail % 4096) entries ≡ 0 → tail ≤ end_of fresh 0 tail entries) → needed (tail % 4096) entries ≡ m
        → ((tail ≤ end_of fresh 0 tail entries) × (end_of fresh 0 tail entries / 4096 ≡ tail / 4096)) ⊎ (Contains all (end_of fresh 0 tail entries / 4096) → ⊥)
    later zero page behind is = inl (behind is, page)
    later (suc k) page behind is = inr (λ in_all. free.apart k (omega arith) (subst (λ (q : ℕ). Contains all q) page in_all))

right_of : (s : Super) (head new : ℕ) → IsTrue (is_page_start s head) → IsTrue (is_data_address s new) → IsPlace new → 8 ≤ new % 4096 → IsTrue (is_right_log s head new)
right_of s head new start in_data is low =
    let a = is.0 in let b = is.1 in grind (arith, nat_tests)

same_page : (s : Super) (a b : ℕ) → a / 4096 ≡ b / 4096 → IsTrue (is_data_address s b) → IsTrue (is_data_address s a)
same_page s a b same in_data = grind (arith, nat_tests)

start_data : (s : Super) (a : ℕ) → IsTrue (is_page_start s a) → IsTrue (is_data_address s a)
start_data s a start = grind (arith, nat_tests)

-- The new tail is that of a right log, where the old one lies in a data block, and so do the fresh pages.
pub right_after : (s : Super) (head tail : ℕ) (entries : List Entry) (fresh : List ℕ) → FitPages entries → needed (tail % 4096) entries ≤ length fresh → tail % 8 ≡ 0 → tail % 4096 ≤ 4064
    → IsTrue (is_page_start s head) → IsTrue (is_data_address s tail) → CanBePages s fresh → (8 ≤ tail % 4096) ⊎ (0 < length entries) → IsTrue (is_right_log s head (end_of fresh 0 tail entries))
right_after s head tail entries fresh given enough whole offset start in_data starts either = right_of s head (end_of fresh 0 tail entries) start (by (needed (tail % 4096) entries) refl) is.0 is.1
  where
    is : IsPlace (end_of fresh 0 tail entries) × (8 ≤ end_of fresh 0 tail entries % 4096)
    is = ends_right fresh entries given 0 tail (whole, offset) either

    page : end_of fresh 0 tail entries / 4096 ≡ get_or (tail / 4096 ∷ fresh) (0 + needed (tail % 4096) entries) 0
    page = (ends_where fresh (tail / 4096) entries given 0 tail refl offset).0

    by : (m : ℕ) → needed (tail % 4096) entries ≡ m → IsTrue (is_data_address s (end_of fresh 0 tail entries))
    by zero e = same_page s (end_of fresh 0 tail entries) tail (page ∙ ap (λ (n : ℕ). get_or (tail / 4096 ∷ fresh) (0 + n) 0) e) in_data
    by (suc k) e =
        let last : end_of fresh 0 tail entries / 4096 ≡ get_or fresh k 0 = page ∙ ap (λ (n : ℕ). get_or (tail / 4096 ∷ fresh) n 0) (let z : 0 + needed (tail % 4096) entries ≡ suc k = omega arith in z) in
        let block : 4096 * get_or fresh k 0 / 4096 ≡ get_or fresh k 0 = omega arith in
        same_page s (end_of fresh 0 tail entries) (4096 * get_or fresh k 0) (last ∙ sym block) (start_data s (4096 * get_or fresh k 0) (starts k (omega arith)))
