-- The free blocks and the pages of logs once a page went out of a log.
use Rattle.std.proofs.Common.{◌≡◌, ◌≢◌, ◌↔◌, ◌⊎◌, inl, inr, ℕ, suc, ◌+◌, ◌-◌, ◌<◌, ◌≤◌, true, false, eqb, List, [], ◌∷◌, ◌++◌, length, get_or, slice_get, refl, ap, sym, ◌∙◌, subst, arith, Option, Some, None}
use Rattle.std.proofs.Math.Logic.{∥∥₁_elim, ∥∥₁_map}
use Rattle.std.proofs.Props.{props}
use Rattle.std.specs.List.{AllByRecursion, Contains, IsDistinct, remove}
use Rattle.std.proofs.lemmas.Bool.{cases_eq, cases_lt, eqb-true, ne_eqb, true≢false}
use Rattle.std.proofs.lemmas.Bool.Decides.{eqb_tells}
use Rattle.std.proofs.lemmas.List.{get_or_default}
use Rattle.std.proofs.lemmas.List.Edits.{length-remove, get_or-remove_above, get_or-remove_below}
use Rattle.std.proofs.lemmas.List.Elements.{Contains-append_cases, Contains-append_left, Contains-append_right}
use Rattle.std.proofs.lemmas.Map.Keys.{IsDistinct-cons, IsDistinct-head, IsDistinct-tail, apart_from_distinct}
use Rattle.std.proofs.lemmas.Map.Steps.{length-le_from_distinct_below}
use Rattle.std.proofs.lemmas.Map.Views.{Contains-from_any}
use Rattle.nv_region.specs.Region.{Region}
use Rattle.nv_super.specs.declared.owners.Owner.TheVariants as owners
use Rattle.nv_super.specs.Layout.{Layout}
use Rattle.nv_super.proofs.Members.{none_in, stands}
use Rattle.nv_super.proofs.Options.{some_is}
use Rattle.nv_super.proofs.Rising.{Contains-cons}
use Rattle.nv_logpage.specs.DataBlocks.{AreDataBlocks}
use Rattle.nv_logpage.proofs.DataBlocks.{one_page, pages_are}
use Rattle.nv_logpage.proofs.RightLogs.{head_starts}
use Rattle.nv_deadpages.specs.Dead.{IsDead}
use Rattle.nv_scan.proofs.Work.{AllByRecursion-append}
use Rattle.nv_outcome.specs.Outcome.{IsFree}
use Rattle.nv_mounted.specs.Held.{Held, Shows, Store, with_inode}
use Rattle.nv_mounted.specs.Blocks.{IsUnowned, NoneDoubled, OwnsIn}
use Rattle.nv_mounted.specs.Cleaned.{LosesPage, cleaned}
use Rattle.nv_mounted.specs.Grows.{SameFile}
use Rattle.nv_mounted.specs.Mounted.{ShowsSound}
use Rattle.nv_mounted.proofs.Cleaning.{free_and_page}
use Rattle.nv_mounted.proofs.Growing.{log_owned}
use Rattle.nv_mounted.proofs.Kept.{page_owner}
use Rattle.nv_mounted.proofs.Owning.{owned_before, same_held}
use Rattle.nv_mounted.proofs.Shown.{free_back, free_there, owns_back, owns_there, stands_at}
use Rattle.nv_calls.specs.CleanCall.{PageWent}
use Rattle.nv_script.specs.Cleaning.{CameBack, IsPageOf}

-- ---- lists of blocks

-- a list without a place has its elements, but for the one there
removed_from : (xs : List ℕ) (k : ℕ) → k < length xs → IsDistinct eqb xs → (q : ℕ) → Contains (remove xs k) q → Contains xs q × (q ≢ get_or xs k 0)
removed_from xs k inside once q c = elim (cases_lt c.0 k) [
  | inl low ↦ (
      let here : get_or xs c.0 q ≡ q = sym (get_or-remove_below xs k q c.0 low inside) ∙ c.2 in
      ((c.0, omega (arith, low, inside), here), λ e. differs c.0 k low inside (get_or_default xs c.0 0 q (omega (arith, low, inside)) ∙ here ∙ e)))
  | inr high ↦ (
      let long : length (remove xs k) + 1 ≡ length xs = length-remove xs k inside in
      let short = c.1 in
      let below : c.0 + 1 < length xs = omega (arith, long, short) in
      let here : get_or xs (c.0 + 1) q ≡ q = sym (get_or-remove_above xs k q c.0 high inside) ∙ c.2 in
      ((c.0 + 1, below, here), λ e. differs k (c.0 + 1) (omega (arith, high)) below (sym (get_or_default xs (c.0 + 1) 0 q below ∙ here ∙ e))))
] where
  differs : (m n : ℕ) → m < n → n < length xs → get_or xs m 0 ≡ get_or xs n 0 → ⊥
  differs m n less below same = elim (eqb_tells (get_or xs m 0) (get_or xs n 0)) [ inl w ↦ true≢false (sym w.0 ∙ apart_from_distinct eqb xs m n 0 once less below) | inr w ↦ w.1 same ]

-- and each of them
others_left : (xs : List ℕ) (k : ℕ) → k < length xs → (q : ℕ) → Contains xs q → q ≢ get_or xs k 0 → Contains (remove xs k) q
others_left xs k inside q c differs =
    let long : length (remove xs k) + 1 ≡ length xs = length-remove xs k inside in
    let short = c.1 in
    elim (cases_lt c.0 k) [
      | inl low ↦ (c.0, omega (arith, long, low, inside), get_or-remove_below xs k q c.0 low inside ∙ c.2)
      | inr high ↦ elim (cases_eq c.0 k) [
        | inl same ↦ absurd (differs (sym c.2 ∙ get_or_default xs c.0 q 0 short ∙ ap (λ (n : ℕ). get_or xs n 0) same))
        | inr other ↦ (
            let from : k ≤ c.0 - 1 = omega (arith, high, other) in
            let back : c.0 - 1 + 1 ≡ c.0 = omega (arith, high, other) in
            (c.0 - 1, omega (arith, long, short, high, other), get_or-remove_above xs k q (c.0 - 1) from inside ∙ ap (λ (n : ℕ). get_or xs n q) back ∙ c.2))
      ]
    ]

no_blocks : IsDistinct eqb []
unfolding IsDistinct
no_blocks = tt

one_block : (b : ℕ) → IsDistinct eqb (b ∷ [])
unfolding IsDistinct
one_block b = (tt, tt)

differs_from_all : (x : ℕ) (ys : List ℕ) → (Contains ys x → ⊥) → AllByRecursion (λ y. eqb x y ≡ false) ys
differs_from_all x [] none = tt
differs_from_all x (y ∷ ys) none = (ne_eqb x y (λ e. none (0, omega arith, sym e)), differs_from_all x ys (λ c. none (suc c.0, omega (arith, c.1), c.2)))

-- lists of blocks that have none in common
joined_once : (xs ys : List ℕ) → IsDistinct eqb xs → IsDistinct eqb ys → ((q : ℕ) → Contains xs q → Contains ys q → ⊥) → IsDistinct eqb (xs ++ ys)
joined_once [] ys first second apart = second
joined_once (x ∷ xs) ys first second apart = IsDistinct-cons eqb x (xs ++ ys)
    (AllByRecursion-append (λ y. eqb x y ≡ false) xs ys (IsDistinct-head eqb x xs first) (differs_from_all x ys (λ c. apart x (0, omega arith, refl) c)))
    (joined_once xs ys (IsDistinct-tail eqb x xs first) second (λ q c d. apart q (suc c.0, omega (arith, c.1), c.2) d))

-- ---- a page went

module _ (R S : Region) (l : Layout) (held : Store) (i b k : ℕ) (h : Held) (sound : ShowsSound R l held) (is : held i ≡ Some h) (went : PageWent S l held i h b k) where
  abbrev after : Store
  after = with_inode held i (Some (cleaned h k))

  abbrev page : ℕ
  page = get_or h.pages k 0

  dead : IsDead l.sup h.kind i h.created h.entries h.pages k
  dead = let first = went.first in first.0

  now : after i ≡ Some (cleaned h k)
  now = same_held held i (Some (cleaned h k))

  data_blocks : (T : Region) (st : Store) (g : Held) → ShowsSound T l st → st i ≡ Some g → AreDataBlocks l.sup g.pages
  data_blocks T st g shown there =
      let w = stands_at shown.shows i g there in
      let holds = w.is in
      pages_are (one_page l.sup g.head (head_starts l.sup g.head g.tail holds.right)) holds.reads

  before_once : IsDistinct eqb h.pages
  before_once = (data_blocks R held h sound is).once

  inside : k < length h.pages
  inside = omega (arith, dead.more)

  less : LosesPage h (cleaned h k) page
  less = record {
    there = (k, inside, get_or_default h.pages k page 0 inside);
    from = removed_from h.pages k inside before_once;
    rest = others_left h.pages k inside;
    once = (data_blocks S after (cleaned h k) went.sound now).once;
  }

  file : SameFile l h (cleaned h k)
  file = dead.same.blocks

  unowned_now : (q : ℕ) → IsUnowned l after q ↔ (IsUnowned l held q ⊎ (q ≡ page))
  unowned_now =
      let blocks = data_blocks R held h sound is in
      free_and_page l held i h (cleaned h k) is page less file sound.faultless.undoubled (blocks.behind page less.there) (blocks.within page less.there)

  -- The free blocks are those of before and the page.
  pub freed : (q : ℕ) → IsFree S l q ↔ (IsFree R l q ⊎ (q ≡ page))
  freed q = (
    (λ free. elim ((unowned_now q).0 (free_back went.sound.shows q free)) [ inl old ↦ inl (free_there sound.shows q old) | inr same ↦ inr same ]),
    (λ either. free_there went.sound.shows q ((unowned_now q).1 (elim either [ inl free ↦ inl (free_back sound.shows q free) | inr same ↦ inr same ]))),
  )

  -- The page was one of the log.
  pub was_page : IsPageOf R l i page
  was_page = let w = page_owner l held i page h is less.there in ∣ (w.0, owns_there sound.shows page (owners.Log i w.0) w.1) ∣₁

  owner_before : (j q m : ℕ) → OwnsIn l after q (owners.Log j m) → (n : ℕ) × OwnsIn l held q (owners.Log j n)
  owner_before j q m owns = elim (cases_eq j i) [
    | inl same ↦ (
        let w = log_owned owns in
        let there : slice_get (remove h.pages k) m ≡ Some q = subst (λ (g : Held). slice_get g.pages m ≡ Some q) (some_is w.0 (cleaned h k) (after i) (ap after (sym same) ∙ w.1) now) w.2 in
        subst (λ (x : ℕ). (n : ℕ) × OwnsIn l held q (owners.Log x n)) (sym same)
        (page_owner l held i q h is (less.from q (stands (remove h.pages k) m q there)).0))
    | inr other ↦ (m, owned_before l held i (Some (cleaned h k)) q (owners.Log j m) owns other)
  ]

  -- A page of a log has been one before.
  pub page_before : (j q : ℕ) → IsPageOf S l j q → IsPageOf R l j q
  page_before j q known = ∥∥₁_map known (λ w.
      let v = owner_before j q w.0 (owns_back went.sound.shows q (owners.Log j w.0) w.1) in
      (v.0, owns_there sound.shows q (owners.Log j v.0) v.1))

-- ---- blocks that came back

-- none
pub none_came : (R : Region) (l : Layout) (Asked : ℕ → Type 0) → CameBack R R l Asked []
none_came R l Asked = record {
  once = no_blocks;
  were_pages = λ b c. absurd (none_in b c);
  free = λ b. ((λ free. inl free), (λ either. elim either [ inl free ↦ free | inr c ↦ absurd (none_in b c) ]));
  still_pages = λ i b page. page;
}

-- one
pub one_came : (R S : Region) (l : Layout) (i b : ℕ) → ((q : ℕ) → q ≢ b → IsFree S l q → IsFree R l q) → ((q : ℕ) → IsFree R l q → IsFree S l q) → IsFree S l b
    → IsPageOf R l i b → ((j q : ℕ) → IsPageOf S l j q → IsPageOf R l j q) → CameBack R S l (λ j. j ≡ i) (b ∷ [])
one_came R S l i b was still free page before = record {
  once = one_block b;
  were_pages = λ q c. ∣ (i, refl, subst (λ (x : ℕ). IsPageOf R l i x) (sym (only q c)) page) ∣₁;
  free = λ q. (
    (λ now. elim (cases_eq q b) [ inl same ↦ inr (0, omega arith, sym same) | inr differs ↦ inl (was q differs now) ]),
    (λ either. elim either [ inl old ↦ still q old | inr c ↦ subst (IsFree S l) (sym (only q c)) free ]),
  );
  still_pages = before;
} where
  only : (q : ℕ) → Contains (b ∷ []) q → q ≡ b
  only q c = elim (Contains-cons b [] q c) [ inl same ↦ same | inr none ↦ absurd (none_in q none) ]

-- a free block is no page of a log
free_or_page : (R : Region) (l : Layout) (i b : ℕ) → IsFree R l b → IsPageOf R l i b → ⊥
free_or_page R l i b free known = ∥∥₁_elim known never (λ w. free.unowned (owners.Log i w.0) w.1) where
  never : IsProp ⊥
  never = hlevel props

-- some, and then others
pub more_came : (R S T : Region) (l : Layout) (Asked : ℕ → Type 0) (xs ys : List ℕ) → CameBack R S l Asked xs → CameBack S T l Asked ys → CameBack R T l Asked (xs ++ ys)
more_came R S T l Asked xs ys first second = record {
  once = joined_once xs ys first.once second.once apart;
  were_pages = λ b c. elim (Contains-append_cases xs ys b c) [
    | inl old ↦ first.were_pages b old
    | inr new ↦ ∥∥₁_map (second.were_pages b new) (λ w. (w.0, w.1, first.still_pages w.0 b w.2))
  ];
  free = λ b. (
    (λ free. elim ((second.free b).0 free) [
      | inl mid ↦ elim ((first.free b).0 mid) [ inl old ↦ inl old | inr c ↦ inr (Contains-append_left xs ys b c) ]
      | inr c ↦ inr (Contains-append_right xs ys b c)
    ]),
    (λ either. (second.free b).1 (elim either [
      | inl old ↦ inl ((first.free b).1 (inl old))
      | inr c ↦ elim (Contains-append_cases xs ys b c) [ inl x ↦ inl ((first.free b).1 (inr x)) | inr y ↦ inr y ]
    ])),
  );
  still_pages = λ i b page. first.still_pages i b (second.still_pages i b page);
} where
  never : IsProp ⊥
  never = hlevel props

  apart : (q : ℕ) → Contains xs q → Contains ys q → ⊥
  apart q c d = ∥∥₁_elim (second.were_pages q d) never (λ w. free_or_page S l w.0 q ((first.free q).1 (inr c)) w.2)

-- of fewer logs
pub came_of_all : (R S : Region) (l : Layout) (Few Many : ℕ → Type 0) (blocks : List ℕ) → ((i : ℕ) → Few i → Many i) → CameBack R S l Few blocks → CameBack R S l Many blocks
came_of_all R S l Few Many blocks wider came = record {
  once = came.once;
  were_pages = λ b c. ∥∥₁_map (came.were_pages b c) (λ w. (w.0, wider w.0 w.1, w.2));
  free = came.free;
  still_pages = came.still_pages;
}

-- they are no more than the region has
pub few_came : (R S : Region) (l : Layout) (Asked : ℕ → Type 0) (blocks : List ℕ) → CameBack R S l Asked blocks → length blocks ≤ l.sup.blocks
few_came R S l Asked blocks came = length-le_from_distinct_below blocks l.sup.blocks came.once (λ q found. ((came.free q).1 (inr (Contains-from_any (λ x y e. eqb-true x y e) q blocks found))).below)
