-- The owners and the free blocks once one log grew.
use Rattle.std.proofs.Common.{◌≡◌, ◌↔◌, ℕ, ◌<◌, false, ◌⊎◌, inl, inr, List, ◌++◌, length, eqb, get_or, slice_get, refl, ap, sym, ◌∙◌, subst, arith, Option, Some, None}
use Rattle.std.specs.List.{Contains, IsDistinct}
use Rattle.std.proofs.lemmas.Bool.{cases_eq, cases_lt, true≢false}
use Rattle.std.proofs.lemmas.Bool.Decides.{eqb_tells}
use Rattle.std.proofs.lemmas.List.Elements.{Contains-append_cases, Contains-append_left, Contains-append_right}
use Rattle.std.proofs.lemmas.Map.Keys.{apart_from_distinct}
use Rattle.std.proofs.lemmas.Option.{slice_get_within, get_or_from_slice_get}
use Rattle.nv_super.specs.declared.owners.Owner.{Owner}
use Rattle.nv_super.specs.declared.owners.Owner.TheVariants as owners
use Rattle.nv_super.specs.Layout.{Layout}
use Rattle.nv_super.proofs.Members.{stands}
use Rattle.nv_super.proofs.Options.{some_is}
use Rattle.nv_scan.specs.State.{block_of}
use Rattle.nv_scan.proofs.Blocks.{data_pages}
use Rattle.nv_outcome.proofs.Finite.{Decided, number_is, numbers, those, some, told_as}
use Rattle.nv_mounted.specs.Held.{Held, Store, with_inode, good_in}
use Rattle.nv_mounted.specs.Blocks.{OwnsIn, by_log, by_page, IsOf, IsUnowned, NoneDoubled, OwnsNew}
use Rattle.nv_mounted.specs.Grows.{AreFree, SameFile, Maps, LetsGo, GrowsByData}
use Rattle.nv_mounted.proofs.Owning.{is_of, same_held, owned_before, owned_after}
use Rattle.nv_mounted.proofs.Kept.{page_owner}

-- ---- what an owner says

pub log_owned : {l : Layout} {held : Store} {i k b : ℕ} → OwnsIn l held b (owners.Log i k) → (h : Held) × (held i ≡ Some h) × (slice_get h.pages k ≡ Some b)
log_owned (by_log {h = h} is page) = (h, is, page)

pub page_owned : {l : Layout} {held : Store} {i p b : ℕ} → OwnsIn l held b (owners.Data i p) → (h : Held) × (held i ≡ Some h) × (block_of (good_in l h) p ≡ Some b)
page_owned (by_page {h = h} is maps) = (h, is, maps)

-- a place of a list of numbers that differ
pub one_place : (xs : List ℕ) (j k b : ℕ) → IsDistinct eqb xs → slice_get xs j ≡ Some b → slice_get xs k ≡ Some b → j ≡ k
one_place xs j k b once e f = elim (cases_eq j k) [
  | inl same ↦ same
  | inr differ ↦ absurd (elim (cases_lt j k) [
    | inl less ↦ apart j k less (slice_get_within xs k b f) e f
    | inr more ↦ apart k j (omega (arith, more, differ)) (slice_get_within xs j b e) f e
  ])
] where
  apart : (m n : ℕ) → m < n → n < length xs → slice_get xs m ≡ Some b → slice_get xs n ≡ Some b → ⊥
  apart m n less inside p q =
      let off : eqb (get_or xs m 0) (get_or xs n 0) ≡ false = apart_from_distinct eqb xs m n 0 once less inside in
      let first : get_or xs m 0 ≡ b = get_or_from_slice_get xs m b 0 p in
      let second : get_or xs n 0 ≡ b = get_or_from_slice_get xs n b 0 q in
      elim (eqb_tells (get_or xs m 0) (get_or xs n 0)) [ inl w ↦ true≢false (sym w.0 ∙ off) | inr w ↦ w.1 (first ∙ sym second) ]

-- ---- whether a file has a block

maps_to : (o : Option ℕ) (b : ℕ) → Decided (o ≡ Some b)
maps_to None b = inr (λ e. (cc))
maps_to (Some a) b = elim (number_is a b) [ inl same ↦ inl (ap Some same) | inr differ ↦ inr (λ e. differ (some_is a b (Some a) refl e)) ]

pub has_block : (l : Layout) (h : Held) (b : ℕ) → Decided (Maps l h b)
has_block l h b = told_as (λ w. (w.0, w.1.1)) (λ w. (w.0, ((data_pages l.sup h.kind h.entries w.0 b w.1).0, w.1)))
    (some (those (λ p. block_of (good_in l h) p ≡ Some b) (numbers 262144) (λ p. maps_to (block_of (good_in l h) p) b)))

-- ---- a log that grew

module _ (l : Layout) (held : Store) (i : ℕ) (h new : Held) (is : held i ≡ Some h) (fresh : List ℕ) (by : GrowsByData l held h new fresh) where
  abbrev after : Store
  after = with_inode held i (Some new)

  now : after i ≡ Some new
  now = same_held held i (Some new)

  -- owners of this inode, under its number
  of_log : (b j k : ℕ) → j ≡ i → OwnsIn l after b (owners.Log j k) → slice_get new.pages k ≡ Some b
  of_log b j k mine owns = let w = log_owned owns in subst (λ (g : Held). slice_get g.pages k ≡ Some b) (some_is w.0 new (after i) (ap after (sym mine) ∙ w.1) now) w.2

  of_page : (b j p : ℕ) → j ≡ i → OwnsIn l after b (owners.Data j p) → block_of (good_in l new) p ≡ Some b
  of_page b j p mine owns = let w = page_owned owns in subst (λ (g : Held). block_of (good_in l g) p ≡ Some b) (some_is w.0 new (after i) (ap after (sym mine) ∙ w.1) now) w.2

  of_old_log : (b j k : ℕ) → j ≡ i → OwnsIn l held b (owners.Log j k) → slice_get h.pages k ≡ Some b
  of_old_log b j k mine owns = let w = log_owned owns in subst (λ (g : Held). slice_get g.pages k ≡ Some b) (some_is w.0 h (held i) (ap held (sym mine) ∙ w.1) is) w.2

  of_old_page : (b j p : ℕ) → j ≡ i → OwnsIn l held b (owners.Data j p) → block_of (good_in l h) p ≡ Some b
  of_old_page b j p mine owns = let w = page_owned owns in subst (λ (g : Held). block_of (good_in l g) p ≡ Some b) (some_is w.0 h (held i) (ap held (sym mine) ∙ w.1) is) w.2

  -- a page of the log was its own, or is fresh
  log_was : (b k : ℕ) → slice_get new.pages k ≡ Some b → ((m : ℕ) × OwnsIn l held b (owners.Log i m)) ⊎ Contains fresh b
  log_was b k page = elim (Contains-append_cases h.pages fresh b (subst (λ (xs : List ℕ). Contains xs b) by.pages (stands new.pages k b page))) [
    | inl old ↦ inl (page_owner l held i b h is old)
    | inr one ↦ inr one
  ]

  -- each page of the log of before and each fresh one is owned
  log_now : (b : ℕ) → Contains (h.pages ++ fresh) b → (k : ℕ) × OwnsIn l after b (owners.Log i k)
  log_now b c = page_owner l after i b new now (subst (λ (xs : List ℕ). Contains xs b) (sym by.pages) c)

  -- each block that the inode owns was its own or free
  each_was : (b : ℕ) (o : Owner) → OwnsIn l after b o → IsOf i o → ((before : Owner) × OwnsIn l held b before × IsOf i before) ⊎ IsUnowned l held b
  each_was b (owners.Table c k) owns mine = absurd mine
  each_was b (owners.Log j k) owns mine = elim (log_was b k (of_log b j k mine owns)) [ inl w ↦ inl (owners.Log i w.0, w.1, refl) | inr w ↦ inr (by.free b w) ]
  each_was b (owners.Data j p) owns mine = elim (by.from p b (of_page b j p mine owns)) [ inl old ↦ inl (owners.Data i p, by_page is old, refl) | inr w ↦ inr w.0 ]

  -- what is free now
  unowned_now : (b : ℕ) → IsUnowned l held b → (Contains fresh b → ⊥) → (Maps l new b → ⊥) → (o : Owner) → OwnsIn l after b o → IsOf i o → ⊥
  unowned_now b free out away (owners.Table c k) owns mine = mine
  unowned_now b free out away (owners.Log j k) owns mine = elim (log_was b k (of_log b j k mine owns)) [ inl w ↦ free.unowned (owners.Log i w.0) w.1 | inr one ↦ out one ]
  unowned_now b free out away (owners.Data j p) owns mine = away (p, of_page b j p mine owns)

  -- a free block that wasn't taken is free
  still_free : (b : ℕ) → IsUnowned l held b → (Contains fresh b → ⊥) → (Maps l new b → ⊥) → IsUnowned l after b
  still_free b free out away = record {
    from = free.from;
    below = free.below;
    unowned = λ o owns. elim (is_of i o) [ inl mine ↦ unowned_now b free out away o owns mine | inr n ↦ free.unowned o (owned_before l held i (Some new) b o owns n) ];
  }

  -- what was free
  was_free : (b : ℕ) → IsUnowned l after b → (Maps l h b → ⊥) → (o : Owner) → OwnsIn l held b o → IsOf i o → ⊥
  was_free b free none (owners.Table c k) owns mine = mine
  was_free b free none (owners.Log j k) owns mine = let w = log_now b (Contains-append_left h.pages fresh b (stands h.pages k b (of_old_log b j k mine owns))) in free.unowned (owners.Log i w.0) w.1
  was_free b free none (owners.Data j p) owns mine = none (p, of_old_page b j p mine owns)

  data_free : (b : ℕ) → IsUnowned l after b → (IsUnowned l held b × (Contains fresh b → ⊥) × (Maps l new b → ⊥)) ⊎ LetsGo l h new b
  data_free b free = elim (has_block l h b) [
    | inl had ↦ inr (had, away)
    | inr none ↦ inl (
      record {
        from = free.from;
        below = free.below;
        unowned = λ o owns. elim (is_of i o) [ inl mine ↦ was_free b free none o owns mine | inr n ↦ free.unowned o (owned_after l held i (Some new) b o owns n) ];
      },
      (λ one. (let w = log_now b (Contains-append_right h.pages fresh b one) in free.unowned (owners.Log i w.0) w.1)),
      away,
    )
  ] where
    away : Maps l new b → ⊥
    away w = free.unowned (owners.Data i w.0) (by_page now w.1)

  module _ (undoubled : NoneDoubled l held) where
    -- no page of the log is a block of the file
    log_and_page : (b k p : ℕ) → slice_get new.pages k ≡ Some b → block_of (good_in l new) p ≡ Some b → ⊥
    log_and_page b k p page maps = elim (by.from p b maps) [
      | inl old ↦ elim (log_was b k page) [
        | inl w ↦ (let clash : owners.Log i w.0 ≡ owners.Data i p = undoubled b (owners.Log i w.0) (owners.Data i p) w.1 (by_page is old) in cc)
        | inr one ↦ (by.free b one).unowned (owners.Data i p) (by_page is old)
      ]
      | inr w ↦ elim (log_was b k page) [ inl v ↦ w.0.unowned (owners.Log i v.0) v.1 | inr one ↦ w.1 one ]
    ]

    -- no block has two pages
    two_pages : (b p q : ℕ) → block_of (good_in l new) p ≡ Some b → block_of (good_in l new) q ≡ Some b → p ≡ q
    two_pages b p q first second = elim (by.from p b first) [
      | inr w ↦ by.once p q b w.0 first second
      | inl old ↦ elim (by.from q b second) [
        | inr w ↦ by.once p q b w.0 first second
        | inl other ↦ same_page (undoubled b (owners.Data i p) (owners.Data i q) (by_page is old) (by_page is other))
      ]
    ] where
      same_page : owners.Data i p ≡ owners.Data i q → p ≡ q
      same_page e = cc

    mine_once : IsDistinct eqb new.pages → (b : ℕ) (o other : Owner) → OwnsIn l after b o → OwnsIn l after b other → IsOf i o → IsOf i other → o ≡ other
    mine_once differ b (owners.Table c k) other x y mine theirs = absurd mine
    mine_once differ b o (owners.Table c k) x y mine theirs = absurd theirs
    mine_once differ b (owners.Log j k) (owners.Log m n) x y mine theirs =
        let place : k ≡ n = one_place new.pages k n b differ (of_log b j k mine x) (of_log b m n theirs y) in
        λ t. owners.Log ((mine ∙ sym theirs) t) (place t)
    mine_once differ b (owners.Log j k) (owners.Data m p) x y mine theirs = absurd (log_and_page b k p (of_log b j k mine x) (of_page b m p theirs y))
    mine_once differ b (owners.Data j p) (owners.Log m k) x y mine theirs = absurd (log_and_page b k p (of_log b m k theirs y) (of_page b j p mine x))
    mine_once differ b (owners.Data j p) (owners.Data m q) x y mine theirs =
        let page : p ≡ q = two_pages b p q (of_page b j p mine x) (of_page b m q theirs y) in
        λ t. owners.Data ((mine ∙ sym theirs) t) (page t)

    -- What the inode owns.
    pub data_owns : IsDistinct eqb new.pages → OwnsNew l held i (Some new)
    data_owns differ = record { each = each_was; once = mine_once differ }

    -- what the file let go is free
    gone_now : (b p : ℕ) → block_of (good_in l h) p ≡ Some b → (Maps l new b → ⊥) → (o : Owner) → OwnsIn l after b o → IsOf i o → ⊥
    gone_now b p old away (owners.Table c k) owns mine = mine
    gone_now b p old away (owners.Log j k) owns mine = elim (log_was b k (of_log b j k mine owns)) [
      | inl w ↦ (let clash : owners.Log i w.0 ≡ owners.Data i p = undoubled b (owners.Log i w.0) (owners.Data i p) w.1 (by_page is old) in cc)
      | inr one ↦ (by.free b one).unowned (owners.Data i p) (by_page is old)
    ]
    gone_now b p old away (owners.Data j q) owns mine = away (q, of_page b j q mine owns)

    let_go : (b : ℕ) → LetsGo l h new b → IsUnowned l after b
    let_go b w =
        let inside = data_pages l.sup h.kind h.entries w.0.0 b w.0.1 in
        record {
          from = inside.1;
          below = inside.2;
          unowned = λ o owns. elim (is_of i o) [
            | inl mine ↦ gone_now b w.0.0 w.0.1 w.1 o owns mine
            | inr n ↦ n (subst (IsOf i) (undoubled b (owners.Data i w.0.0) o (by_page is w.0.1) (owned_before l held i (Some new) b o owns n)) refl)
          ];
        }

    -- The free blocks are those of before that it didn't take, and those that it let go.
    pub free_with_data : (b : ℕ) → IsUnowned l after b ↔ ((IsUnowned l held b × (Contains fresh b → ⊥) × (Maps l new b → ⊥)) ⊎ LetsGo l h new b)
    free_with_data b = (data_free b, λ either. elim either [ inl w ↦ still_free b w.0 w.1 w.2 | inr w ↦ let_go b w ])

-- ---- a file that stays

module _ (l : Layout) (held : Store) (i : ℕ) (h new : Held) (is : held i ≡ Some h) (fresh : List ℕ) (pages : new.pages ≡ h.pages ++ fresh) (free : AreFree l held fresh) (file : SameFile l h new) where
  by : GrowsByData l held h new fresh
  by = record {
    pages = pages;
    free = free;
    from = λ p b maps. inl (sym (file p) ∙ maps);
    once = λ p q b was first second. absurd (was.unowned (owners.Data i p) (by_page is (sym (file p) ∙ first)));
  }

  -- What a log that grew owns.
  pub grown_owns : NoneDoubled l held → IsDistinct eqb new.pages → OwnsNew l held i (Some new)
  grown_owns = data_owns l held i h new is fresh by

  -- The free blocks are those of before but for its pages.
  pub free_but : (b : ℕ) → IsUnowned l (with_inode held i (Some new)) b ↔ (IsUnowned l held b × (Contains fresh b → ⊥))
  free_but b = (
    (λ now. elim (data_free l held i h new is fresh by b now) [ inl w ↦ (w.0, w.1) | inr gone ↦ absurd (gone.1 (gone.0.0, file gone.0.0 ∙ gone.0.1)) ]),
    (λ was. still_free l held i h new is fresh by b was.0 was.1 (λ w. was.0.unowned (owners.Data i w.0) (by_page is (sym (file w.0) ∙ w.1)))),
  )
