-- The owners and the free blocks once a page went from a log.
use Rattle.std.proofs.Common.{◌≡◌, ◌≢◌, ◌↔◌, ◌⊎◌, inl, inr, ℕ, ◌<◌, ◌≤◌, slice_get, refl, ap, sym, ◌∙◌, subst, Some}
use Rattle.std.proofs.lemmas.Bool.{cases_eq}
use Rattle.nv_super.specs.declared.owners.Owner.{Owner}
use Rattle.nv_super.specs.declared.owners.Owner.TheVariants as owners
use Rattle.nv_super.specs.Layout.{Layout, system_blocks}
use Rattle.nv_super.proofs.Members.{stands}
use Rattle.nv_super.proofs.Options.{some_is}
use Rattle.nv_scan.specs.State.{block_of}
use Rattle.nv_mounted.specs.Held.{Held, Store, with_inode, good_in}
use Rattle.nv_mounted.specs.Blocks.{OwnsIn, by_page, IsOf, IsUnowned, NoneDoubled, OwnsNew}
use Rattle.nv_mounted.specs.Grows.{SameFile}
use Rattle.nv_mounted.specs.Cleaned.{LosesPage}
use Rattle.nv_mounted.proofs.Owning.{is_of, same_held, owned_before, owned_after}
use Rattle.nv_mounted.proofs.Kept.{page_owner}
use Rattle.nv_mounted.proofs.Growing.{log_owned, page_owned, one_place}

module _ (l : Layout) (held : Store) (i : ℕ) (h new : Held) (is : held i ≡ Some h) (b : ℕ) (less : LosesPage h new b) (file : SameFile l h new) where
  abbrev after : Store
  after = with_inode held i (Some new)

  now : after i ≡ Some new
  now = same_held held i (Some new)

  -- owners of this inode, under its number
  of_log : (q j k : ℕ) → j ≡ i → OwnsIn l after q (owners.Log j k) → slice_get new.pages k ≡ Some q
  of_log q j k mine owns = let w = log_owned owns in subst (λ (g : Held). slice_get g.pages k ≡ Some q) (some_is w.0 new (after i) (ap after (sym mine) ∙ w.1) now) w.2

  of_page : (q j p : ℕ) → j ≡ i → OwnsIn l after q (owners.Data j p) → block_of (good_in l h) p ≡ Some q
  of_page q j p mine owns = let w = page_owned owns in sym (file p) ∙ subst (λ (g : Held). block_of (good_in l g) p ≡ Some q) (some_is w.0 new (after i) (ap after (sym mine) ∙ w.1) now) w.2

  of_old_log : (q j k : ℕ) → j ≡ i → OwnsIn l held q (owners.Log j k) → slice_get h.pages k ≡ Some q
  of_old_log q j k mine owns = let w = log_owned owns in subst (λ (g : Held). slice_get g.pages k ≡ Some q) (some_is w.0 h (held i) (ap held (sym mine) ∙ w.1) is) w.2

  of_old_page : (q j p : ℕ) → j ≡ i → OwnsIn l held q (owners.Data j p) → block_of (good_in l h) p ≡ Some q
  of_old_page q j p mine owns = let w = page_owned owns in subst (λ (g : Held). block_of (good_in l g) p ≡ Some q) (some_is w.0 h (held i) (ap held (sym mine) ∙ w.1) is) w.2

  -- a page of the log was its own
  log_was : (q k : ℕ) → slice_get new.pages k ≡ Some q → (m : ℕ) × OwnsIn l held q (owners.Log i m)
  log_was q k page = page_owner l held i q h is (less.from q (stands new.pages k q page)).0

  -- what the inode owns it has owned
  was : (q : ℕ) (o : Owner) → OwnsIn l after q o → IsOf i o → (before : Owner) × OwnsIn l held q before × IsOf i before
  was q (owners.Table c k) owns mine = absurd mine
  was q (owners.Log j k) owns mine = let w = log_was q k (of_log q j k mine owns) in (owners.Log i w.0, w.1, refl)
  was q (owners.Data j p) owns mine = (owners.Data i p, by_page is (of_page q j p mine owns), refl)

  -- a free block is free still
  still_free : (q : ℕ) → IsUnowned l held q → IsUnowned l after q
  still_free q free = record {
    from = free.from;
    below = free.below;
    unowned = λ o owns. elim (is_of i o) [
      | inl mine ↦ (let w = was q o owns mine in free.unowned w.0 w.1)
      | inr n ↦ free.unowned o (owned_before l held i (Some new) q o owns n)
    ];
  }

  -- a block of the inode but for the page is its own still
  own_still : (q : ℕ) → q ≢ b → (o : Owner) → OwnsIn l held q o → IsOf i o → (later : Owner) × OwnsIn l after q later
  own_still q differs (owners.Table c k) owns mine = absurd mine
  own_still q differs (owners.Log j k) owns mine = let w = page_owner l after i q new now (less.rest q (stands h.pages k q (of_old_log q j k mine owns)) differs) in (owners.Log i w.0, w.1)
  own_still q differs (owners.Data j p) owns mine = (owners.Data i p, by_page now (file p ∙ of_old_page q j p mine owns))

  -- a block that is free was free, or is the page
  was_free : (q : ℕ) → IsUnowned l after q → q ≢ b → IsUnowned l held q
  was_free q free differs = record {
    from = free.from;
    below = free.below;
    unowned = λ o owns. elim (is_of i o) [
      | inl mine ↦ (let w = own_still q differs o owns mine in free.unowned w.0 w.1)
      | inr n ↦ free.unowned o (owned_after l held i (Some new) q o owns n)
    ];
  }

  module _ (undoubled : NoneDoubled l held) where
    page : (m : ℕ) × OwnsIn l held b (owners.Log i m)
    page = page_owner l held i b h is less.there

    -- no page of the log is a block of the file
    log_and_page : (q k p : ℕ) → slice_get new.pages k ≡ Some q → block_of (good_in l h) p ≡ Some q → ⊥
    log_and_page q k p there maps = let w = log_was q k there in let clash : owners.Log i w.0 ≡ owners.Data i p = undoubled q (owners.Log i w.0) (owners.Data i p) w.1 (by_page is maps) in cc

    -- no block has two pages
    two_pages : (q p r : ℕ) → block_of (good_in l h) p ≡ Some q → block_of (good_in l h) r ≡ Some q → p ≡ r
    two_pages q p r first second = let same : owners.Data i p ≡ owners.Data i r = undoubled q (owners.Data i p) (owners.Data i r) (by_page is first) (by_page is second) in cc

    mine_once : (q : ℕ) (o other : Owner) → OwnsIn l after q o → OwnsIn l after q other → IsOf i o → IsOf i other → o ≡ other
    mine_once q (owners.Table c k) other x y mine theirs = absurd mine
    mine_once q o (owners.Table c k) x y mine theirs = absurd theirs
    mine_once q (owners.Log j k) (owners.Log m n) x y mine theirs =
        let place : k ≡ n = one_place new.pages k n q less.once (of_log q j k mine x) (of_log q m n theirs y) in
        λ t. owners.Log ((mine ∙ sym theirs) t) (place t)
    mine_once q (owners.Log j k) (owners.Data m p) x y mine theirs = absurd (log_and_page q k p (of_log q j k mine x) (of_page q m p theirs y))
    mine_once q (owners.Data j p) (owners.Log m k) x y mine theirs = absurd (log_and_page q k p (of_log q m k theirs y) (of_page q j p mine x))
    mine_once q (owners.Data j p) (owners.Data m r) x y mine theirs =
        let same : p ≡ r = two_pages q p r (of_page q j p mine x) (of_page q m r theirs y) in
        λ t. owners.Data ((mine ∙ sym theirs) t) (same t)

    -- What the inode owns.
    pub less_owns : OwnsNew l held i (Some new)
    less_owns = record { each = λ q o owns mine. inl (was q o owns mine); once = mine_once }

    -- nothing of the inode owns the page
    page_gone : (o : Owner) → OwnsIn l after b o → IsOf i o → ⊥
    page_gone (owners.Table c k) owns mine = mine
    page_gone (owners.Log j k) owns mine = (less.from b (stands new.pages k b (of_log b j k mine owns))).1 refl
    page_gone (owners.Data j p) owns mine = let clash : owners.Log i page.0 ≡ owners.Data i p = undoubled b (owners.Log i page.0) (owners.Data i p) page.1 (by_page is (of_page b j p mine owns)) in cc

    page_free : system_blocks l.sup ≤ b → b < l.sup.blocks → IsUnowned l after b
    page_free from below = record {
      from = from;
      below = below;
      unowned = λ o owns. elim (is_of i o) [
        | inl mine ↦ page_gone o owns mine
        | inr n ↦ n (subst (IsOf i) (undoubled b (owners.Log i page.0) o page.1 (owned_before l held i (Some new) b o owns n)) refl)
      ];
    }

    -- The free blocks are those of before and the page.
    pub free_and_page : system_blocks l.sup ≤ b → b < l.sup.blocks → (q : ℕ) → IsUnowned l after q ↔ (IsUnowned l held q ⊎ (q ≡ b))
    free_and_page from below q = (
      (λ free. elim (cases_eq q b) [ inl same ↦ inr same | inr differs ↦ inl (was_free q free differs) ]),
      (λ either. elim either [ inl free ↦ still_free q free | inr same ↦ subst (IsUnowned l after) (sym same) (page_free from below) ]),
    )
