-- Pages stored anew: line by line, block by block, and run by run.
use Rattle.std.proofs.Common.{◌≡◌, inl, inr, ℕ, ◌+◌, ◌-◌, ◌*◌, ◌/◌, ◌%◌, ◌<◌, ◌≤◌, Bool, true, false, nat_lt, cond, List, ◌∷◌, length, get_or, set, drop, drop_of_length-le, Option, Some, None, IfSome, Result, Ok, Err, OnOk, refl, sym, ap, ◌∙◌, subst, arith, add-one}
use Rattle.std.proofs.Math.Seq.{drop-cons}
use Rattle.std.proofs.lemmas.Bool.{cases_eq, cases_lt}
use Rattle.std.proofs.lemmas.Bool.Decides.{nat_tests}
use Rattle.std.proofs.lemmas.List.{get_or-set_same, get_or-set_other}
use Rattle.std.proofs.lemmas.Option.{same_Some}
use Rattle.std.proofs.lemmas.List.Elements.{Contains-get_or}
use Rattle.nv_region.specs.Region.{Region, size, word}
use Rattle.nv_region.specs.Stops.{Choices, IsMixed}
use Rattle.nv_region.specs.Lines.{put_words}
use Rattle.nv_region.proofs.Stops.{mixed_same}
use Rattle.nv_region.proofs.Wordwise.{mixed_more}
use Rattle.nv_region.proofs.Lines.{words_elsewhere, words_here}
use Rattle.nv_super.specs.declared.owners.Run.{Run}
use Rattle.nv_super.specs.Runs.{InRun}
use Rattle.nv_radix.specs.Pages.{Pages, block_at}
use Rattle.nv_alloc.specs.Taking.{HasBlock, blocks_in}
use Rattle.nv_alloc.proofs.Fronts.{blocks_cons}
use Rattle.nv_alloc.proofs.Leaving.{first_block, later_block}
use Rattle.nv_mounted.specs.Bytes.{byte_in}
use Rattle.nv_mounted.proofs.BytesKept.{byte_stays}
use Rattle.nv_bytes.specs.Bytes.{byte_of_word, byte_after, file_byte}
use Rattle.nv_bytes.specs.Storing.{HoldsPage, block_given, HoldPages, InBlocks, AreFresh}

-- what is said of a value, of that value
pub at_some : {X : Type 0} (P : X → Type 0) (o : Option X) (x : X) → IfSome o P → o ≡ Some x → P x
at_some P (Some y) x h e = subst P (same_Some y x e) h
at_some P None x h e = absurd (cc)

-- ---- what stays

-- a page whose block isn't stored to
pub page_stays : (R S : Region) (these : Choices) (bytes : ℕ → ℕ) (b page : ℕ) → IsMixed R these S → ((i v : ℕ) → 8 * i / 4096 ≡ b → these i v → ⊥) → HoldsPage R bytes b page → HoldsPage S bytes b page
page_stays R S these bytes b page mixed away holds x at =
    byte_stays R S these (Some b) x mixed (λ c e i v w t. away i v (w ∙ sym (same_Some b c e)) t) ∙ holds x at

-- ---- one page, line by line

-- the first k words of the block are those of a file's page
abbrev pub HoldsWords : Region → (ℕ → ℕ) → ℕ → ℕ → ℕ → Type 0
HoldsWords R bytes to page k = (j i : ℕ) → j < k → i < 8 → byte_of_word (word R (to * 4096 + 8 * j)) i ≡ bytes (page * 4096 + 8 * j + i)

-- one word more of a line is made
pub line_more : (bytes : ℕ → ℕ) (line : List ℕ) (x n w : ℕ) → length line ≡ 8 → n < 8 → ((j k : ℕ) → j < n → k < 8 → byte_of_word (get_or line j 0) k ≡ bytes (x + 8 * j + k)) → ((k : ℕ) → k < 8 → byte_of_word w k ≡ bytes (x + 8 * n + k))
    → (j k : ℕ) → j < n + 1 → k < 8 → byte_of_word (get_or (set line n w) j 0) k ≡ bytes (x + 8 * j + k)
line_more bytes line x n w eight few made is j k below small = elim (cases_eq j n) [
  | inl same ↦
      subst (λ (m : ℕ). byte_of_word (get_or (set line n w) m 0) k ≡ bytes (x + 8 * m + k)) (sym same) (ap (λ (v : ℕ). byte_of_word v k) (get_or-set_same line n w 0 (omega (arith, eight, few))) ∙ is k small)
  | inr differ ↦ ap (λ (v : ℕ). byte_of_word v k) (get_or-set_other line n j w 0 differ) ∙ made j k (omega (arith, below, differ)) small
]

-- one line more is stored
pub words_more : (R S : Region) (bytes : ℕ → ℕ) (to page k : ℕ) (line : List ℕ) → HoldsWords R bytes to page (8 * k) → S ≡ put_words R (to * 4096 + 64 * k) line 8 → to * 4096 + 64 * k + 64 ≤ size R → length R.rest < 8
    → ((j i : ℕ) → j < 8 → i < 8 → byte_of_word (get_or line j 0) i ≡ bytes (page * 4096 + 64 * k + 8 * j + i)) → HoldsWords S bytes to page (8 * (k + 1))
words_more R S bytes to page k line holds stored within short is j i below few = ap (λ (Q : Region). byte_of_word (word Q (to * 4096 + 8 * j)) i) stored ∙ elim (cases_lt j (8 * k)) [
  | inl low ↦
      ap (λ (v : ℕ). byte_of_word v i) (words_elsewhere R (to * 4096 + 64 * k) line 8 ((to * 4096 + 8 * j) / 8) (omega arith) (λ n before. λ e. absurd (omega (arith, e, low)))) ∙ holds j i low few
  | inr high ↦
      let place : (to * 4096 + 8 * j) / 8 ≡ (to * 4096 + 64 * k) / 8 + (j - 8 * k) = omega (arith, high) in
      let of : page * 4096 + 64 * k + 8 * (j - 8 * k) + i ≡ page * 4096 + 8 * j + i = omega (arith, high) in
      ap (λ (n : ℕ). byte_of_word (get_or (put_words R (to * 4096 + 64 * k) line 8).words n 0) i) place
      ∙ ap (λ (v : ℕ). byte_of_word v i) (words_here R (to * 4096 + 64 * k) line 8 (j - 8 * k) (omega arith) (omega (arith, within, short)) (omega (arith, below, high)))
      ∙ is (j - 8 * k) i (omega (arith, below, high)) few ∙ ap bytes of
]

pub words_hold : (R : Region) (bytes : ℕ → ℕ) (to page : ℕ) → HoldsWords R bytes to page 512 → HoldsPage R bytes to page
words_hold R bytes to page holds x at =
    let place : x % 4096 / 8 * 8 ≡ 8 * (x % 4096 / 8) = omega arith in
    let back : page * 4096 + 8 * (x % 4096 / 8) + x % 8 ≡ x = omega (arith, at) in
    ap (λ (a : ℕ). byte_of_word (word R (to * 4096 + a)) (x % 8)) place ∙ holds (x % 4096 / 8) (x % 8) (omega arith) (omega arith) ∙ ap bytes back

-- a page whose words are stored in one row
pub page_stored : {T E : Type 0} (result : Result T E) (R S : Region) (bytes : ℕ → ℕ) (to page : ℕ) (words : List ℕ) → length words ≡ 512 → to * 4096 + 4096 ≤ size R → length R.rest < 8
    → ((j i : ℕ) → j < 512 → i < 8 → byte_of_word (get_or words j 0) i ≡ bytes (page * 4096 + 8 * j + i)) → OnOk result (S ≡ put_words R (to * 4096) words (length words)) → OnOk result (HoldsPage S bytes to page)
page_stored (Ok done) R S bytes to page words all within short is stored = words_hold S bytes to page (λ j i below few.
    let place : (to * 4096 + 8 * j) / 8 ≡ to * 4096 / 8 + j = omega arith in
    ap (λ (Q : Region). byte_of_word (word Q (to * 4096 + 8 * j)) i) stored
    ∙ ap (λ (n : ℕ). byte_of_word (get_or (put_words R (to * 4096) words (length words)).words n 0) i) place
    ∙ ap (λ (v : ℕ). byte_of_word v i) (words_here R (to * 4096) words (length words) j (omega arith) (omega (arith, within, short, all)) (omega (arith, below, all)))
    ∙ is j i below few)
page_stored (Err burnt) R S bytes to page words all within short is stored = tt

-- ---- block by block

-- one page more is stored
pub page_next : (R S : Region) (bytes : ℕ → ℕ) (start page k : ℕ) → ((j : ℕ) → j < k → HoldsPage R bytes (start + j) (page + j)) → IsMixed R (InBlocks (λ b. b ≡ start + k)) S → HoldsPage S bytes (start + k) (page + k)
    → (j : ℕ) → j < k + 1 → HoldsPage S bytes (start + j) (page + j)
page_next R S bytes start page k holds mixed here j below = elim (cases_eq j k) [
  | inl same ↦ subst (λ (n : ℕ). HoldsPage S bytes (start + n) (page + n)) (sym same) here
  | inr differ ↦ page_stays R S (InBlocks (λ b. b ≡ start + k)) bytes (start + j) (page + j) mixed (λ i v at t. differ (omega (arith, at, t))) (holds j (omega (arith, below, differ)))
]

-- what was stored of a file by a later region, whose blocks of the file are as before
pub same_pages : (R0 R S : Region) (m : Pages) (these : Choices) (offset old_size : ℕ) (new : List ℕ) (to page : ℕ) → IsMixed R0 these R → ((p b : ℕ) → block_at m p ≡ Some b → (i v : ℕ) → 8 * i / 4096 ≡ b → these i v → ⊥)
    → HoldsPage S (byte_after offset new old_size (file_byte R m)) to page → HoldsPage S (byte_after offset new old_size (file_byte R0 m)) to page
same_pages R0 R S m these offset old_size new to page mixed away holds x at =
    holds x at ∙ ap (λ (b : ℕ). byte_after offset new old_size (λ y. b) x) (byte_stays R0 R these (block_at m (x / 4096)) x mixed (away (x / 4096)))

-- the block of a page is the one that the index has
pub of_file : (R S : Region) (m : Pages) (o : Option ℕ) (offset old_size : ℕ) (new : List ℕ) (to page : ℕ) → o ≡ block_at m page → HoldsPage S (byte_after offset new old_size (byte_in R o)) to page → HoldsPage S (byte_after offset new old_size (file_byte R m)) to page
of_file R S m o offset old_size new to page is holds x at =
    holds x at ∙ ap (λ (b : ℕ). byte_after offset new old_size (λ y. b) x) (ap (λ (p : Option ℕ). byte_in R p x) (is ∙ ap (block_at m) (sym at)))

-- ---- runs, one after the other

-- The pages of the runs are stored but for those left, whatever is stored into the blocks of these.
pub record Storing (R0 : Region) (m : Pages) (bytes : ℕ → ℕ) (first : ℕ) (runs : List Run) (R : Region) (page : ℕ) (left : List Run) : Type 0 where
  pub told : (S : Region) → IsMixed R (InBlocks (HasBlock left)) S → HoldPages S bytes page left → HoldPages S bytes first runs
  pub fresh : AreFresh R0 m left

-- the blocks of the first run hold its pages, and those of the others theirs
both_hold : (S : Region) (bytes : ℕ → ℕ) (page : ℕ) (r : Run) (rest : List Run) → ((k : ℕ) → k < r.count → HoldsPage S bytes (r.start + k) (page + k)) → HoldPages S bytes (page + r.count) rest → HoldPages S bytes page (r ∷ rest)
both_hold S bytes page r rest here others k b = by (nat_lt k r.count) refl
  where
    by : (t : Bool) → nat_lt k r.count ≡ t → cond t (Some (r.start + k)) (block_given rest (k - r.count)) ≡ Some b → HoldsPage S bytes b (page + k)
    by true test given =
        let low : k < r.count = grind (arith, nat_tests) in
        subst (λ (c : ℕ). HoldsPage S bytes c (page + k)) (same_Some (r.start + k) b given) (here k low)
    by false test given =
        let high : r.count ≤ k = grind (arith, nat_tests) in
        subst (λ (p : ℕ). HoldsPage S bytes b p) (let e : (page + r.count) + (k - r.count) ≡ page + k = omega arith in e) (others (k - r.count) b given)

pub storing_goes_on : (R0 : Region) (m : Pages) (bytes : ℕ → ℕ) (first : ℕ) (runs : List Run) (R Q : Region) (page : ℕ) (r : Run) (rest : List Run) → Storing R0 m bytes first runs R page (r ∷ rest)
    → IsMixed R (InBlocks (InRun r)) Q → ((k : ℕ) → k < r.count → HoldsPage Q bytes (r.start + k) (page + k)) → Storing R0 m bytes first runs Q (page + r.count) rest
storing_goes_on R0 m bytes first runs R Q page r rest s mixed here = record {
  told = λ S then holds.
      s.told S
      (mixed_more (InBlocks (HasBlock (r ∷ rest))) (InBlocks (HasBlock rest)) R Q S (λ i v h. later_block r rest (8 * i / 4096) h)
      (mixed_more (InBlocks (HasBlock (r ∷ rest))) (InBlocks (InRun r)) R R Q (λ i v h. first_block r rest (8 * i / 4096) h) (mixed_same R (InBlocks (HasBlock (r ∷ rest)))) mixed) then)
      (both_hold S bytes page r rest
      (λ k low. page_stays Q S (InBlocks (HasBlock rest)) bytes (r.start + k) (page + k) then (λ i v at h. s.fresh.once.0 (8 * i / 4096) (omega (arith, at), omega (arith, at, low)) h) (here k low)) holds);
  fresh = record {
    inside = λ b h. s.fresh.inside b (later_block r rest b h);
    once = s.fresh.once.1;
    apart = λ p b at h. s.fresh.apart p b at (later_block r rest b h);
  };
}

-- ---- the runs that are left, one less

pub runs_from : (runs : List Run) (i : ℕ) (d : Run) → i < length runs → drop i runs ≡ get_or runs i d ∷ drop (i + 1) runs
runs_from runs i d h = drop-cons runs i d h ∙ ap (λ (n : ℕ). get_or runs i d ∷ drop n runs) (sym (add-one i))

pub run_inside : (R : Region) (m : Pages) (runs : List Run) (i : ℕ) (d : Run) → i < length runs → AreFresh R m (drop i runs) → (b : ℕ) → InRun (get_or runs i d) b → b * 4096 + 4096 ≤ size R
run_inside R m runs i d h fresh b of =
    (subst (AreFresh R m) (runs_from runs i d h) fresh).inside b (first_block (get_or runs i d) (drop (i + 1) runs) b of)

pub pages_from : (runs : List Run) (i page total : ℕ) (d : Run) → i < length runs → page + blocks_in (drop i runs) ≡ total → (page + (get_or runs i d).count) + blocks_in (drop (i + 1) runs) ≡ total
pages_from runs i page total d h is =
    let cut = ap blocks_in (runs_from runs i d h) ∙ blocks_cons (get_or runs i d) (drop (i + 1) runs) in
    omega (arith, is, cut)

pub run_held : (runs : List Run) (i b : ℕ) (d : Run) → i < length runs → InRun (get_or runs i d) b → HasBlock runs b
run_held runs i b d h of = (get_or runs i d, Contains-get_or runs i d h, of.0, of.1)

-- ---- what the next block takes

-- what holds of each block of an index holds of the one that it has for a page
pub of_index : (m : Pages) (p : ℕ) (P : ℕ → Type 0) (o : Option ℕ) → o ≡ block_at m p → ((b : ℕ) → block_at m p ≡ Some b → P b) → IfSome o P
of_index m p P (Some b) is each = each b (sym is)
of_index m p P None is each = tt

pub in_run_of : (r : Run) (k : ℕ) → k < r.count → InRun r (r.start + k)
in_run_of r k low = (omega arith, omega (arith, low))

-- a part of what is few is few
pub less_of : (page : ℕ) {k count most : ℕ} → k < count → page + count ≤ most → page + k < most
less_of page low few = omega arith

pub part_of : (page count rest : ℕ) {total most : ℕ} → page + count + rest ≡ total → total ≤ most → page + count ≤ most
part_of page count rest is few = omega arith

pub none_below : (P : ℕ → Type 0) (j : ℕ) → j < 0 → P j
none_below P j below = absurd (omega (arith, below))

-- no run is left
pub all_held : (R : Region) (bytes : ℕ → ℕ) (page : ℕ) (runs : List Run) (i : ℕ) → length runs ≤ i → HoldPages R bytes page (drop i runs)
all_held R bytes page runs i past = subst (HoldPages R bytes page) (sym (drop_of_length-le runs past)) (λ k b given. absurd (cc))
