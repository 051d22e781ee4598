-- Who owns what, and what is free, once an inode came or went.
use Rattle.std.proofs.Common.{◌≡◌, ◌≢◌, ◌↔◌, ◌⊎◌, ℕ, zero, suc, ◌*◌, ◌<◌, ◌≤◌, Bool, true, false, cond, nat_le, inl, inr, List, [], ◌∷◌, slice_get, refl, ap, sym, ◌∙◌, subst, arith, Option, Some, None}
use Rattle.std.specs.List.{All, Contains}
use Rattle.std.proofs.lemmas.List.Elements.{All-contains}
use Rattle.std.proofs.lemmas.Option.{get_or_from_slice_get, slice_get_within}
use Rattle.nv_super.specs.declared.owners.Owner.{Owner}
use Rattle.nv_super.specs.declared.owners.Owner.TheVariants as owners
use Rattle.nv_super.specs.Layout.{Layout, system_blocks}
use Rattle.nv_super.proofs.Members.{none_in}
use Rattle.nv_super.proofs.Options.{some_is}
use Rattle.nv_super.proofs.Rising.{Contains-cons, Contains-head, Contains-tail}
use Rattle.nv_entry.specs.declared.entry.AttrEntry.{AttrEntry}
use Rattle.nv_entry.specs.declared.entry.Entry.TheVariants as entries
use Rattle.nv_entry.specs.Content.{is_good}
use Rattle.nv_logpage.specs.declared.found.Placed.{Placed}
use Rattle.nv_logpage.specs.Good.{good_entries}
use Rattle.nv_logpage.specs.Reads.{placed}
use Rattle.nv_scan.specs.State.{block_of, says_block}
use Rattle.nv_scan.specs.Fold.{word_after}
use Rattle.nv_scan.proofs.Blocks.{data_pages}
use Rattle.nv_scan.proofs.Words.{word-more}
use Rattle.nv_outcome.proofs.Finite.{Decided, number_is}
use Rattle.nv_graph.proofs.MoreEntries.{quiet_entries}
use Rattle.nv_mounted.specs.Held.{Held, Store, good_in, with_inode}
use Rattle.nv_mounted.specs.Blocks.{IsOf, IsUnowned, NoneDoubled, OwnsIn, OwnsNew, by_log, by_page}
use Rattle.nv_mounted.specs.Grows.{Maps, SameFile, grown}
use Rattle.nv_mounted.proofs.Growing.{has_block, log_owned, page_owned}
use Rattle.nv_mounted.proofs.Kept.{page_owner}
use Rattle.nv_mounted.proofs.Owning.{free_before, free_still, let_go, same_held}
use Rattle.nv_commit.specs.Pages.{MapsNothing, SaysNoPage}

-- entries that say nothing of pages leave the file's blocks
pub same_file : (l : Layout) (h : Held) (tail : ℕ) (more : List Placed) (fresh : List ℕ) → All SaysNoPage more → SameFile l h (grown h tail more fresh)
same_file l h tail more fresh quiet p = quiet_entries (says_block p) None l.sup h.kind h.entries more (λ x c. All-contains SaysNoPage more x quiet c p)

there_or_not : (xs : List ℕ) (b : ℕ) → Decided (Contains xs b)
there_or_not [] b = inr (λ c. none_in b c)
there_or_not (x ∷ xs) b = elim (number_is x b) [
  | inl same ↦ inl (subst (Contains (x ∷ xs)) same (Contains-head x xs))
  | inr differ ↦ elim (there_or_not xs b) [
    | inl c ↦ inl (Contains-tail x xs b c)
    | inr out ↦ inr (λ c. elim (Contains-cons x xs b c) [ inl e ↦ differ (sym e) | inr rest ↦ out rest ])
  ]
]

-- ---- an inode that came

one_place : (page k b : ℕ) → slice_get (page ∷ []) k ≡ Some b → (b ≡ page) × (k ≡ 0)
one_place page zero b e = (sym (get_or_from_slice_get (page ∷ []) 0 b 0 e), refl)
one_place page (suc k) b e = absurd (let below = slice_get_within (page ∷ []) (suc k) b e in omega (arith, below))

module _ (l : Layout) (held : Store) (i : ℕ) (new : Held) (page : ℕ) (out : held i ≡ None) (pages : new.pages ≡ page ∷ []) (free : IsUnowned l held page) (none : MapsNothing l new) where
  abbrev after : Store
  after = with_inode held i (Some new)

  now : after i ≡ Some new
  now = same_held held i (Some new)

  of_log : (b j k : ℕ) → j ≡ i → OwnsIn l after b (owners.Log j k) → (b ≡ page) × (k ≡ 0)
  of_log b j k mine owns =
      let w = log_owned owns in
      let same : w.0 ≡ new = some_is w.0 new (after i) (ap after (sym mine) ∙ w.1) now in
      one_place page k b (subst (λ (xs : List ℕ). slice_get xs k ≡ Some b) (ap (λ (h : Held). h.pages) same ∙ pages) w.2)

  of_page : (b j p : ℕ) → j ≡ i → OwnsIn l after b (owners.Data j p) → ⊥
  of_page b j p mine owns =
      let w = page_owned owns in
      let same : w.0 ≡ new = some_is w.0 new (after i) (ap after (sym mine) ∙ w.1) now in
      let clash : None ≡ Some b = sym (none p) ∙ ap (λ (h : Held). block_of (good_in l h) p) (sym same) ∙ w.2 in
      cc

  each_was : (b : ℕ) (o : Owner) → OwnsIn l after b o → IsOf i o → ((before : Owner) × OwnsIn l held b before × IsOf i before) ⊎ IsUnowned l held b
  each_was b (owners.Table c k) owns mine = absurd mine
  each_was b (owners.Log j k) owns mine = inr (subst (IsUnowned l held) (sym (of_log b j k mine owns).0) free)
  each_was b (owners.Data j p) owns mine = absurd (of_page b j p mine owns)

  once : (b : ℕ) (o other : Owner) → OwnsIn l after b o → OwnsIn l after b other → IsOf i o → IsOf i other → o ≡ other
  once b (owners.Table c k) other x y mine theirs = absurd mine
  once b o (owners.Table c k) x y mine theirs = absurd theirs
  once b (owners.Log j k) (owners.Log m n) x y mine theirs = λ t. owners.Log ((mine ∙ sym theirs) t) (((of_log b j k mine x).1 ∙ sym (of_log b m n theirs y).1) t)
  once b (owners.Log j k) (owners.Data m p) x y mine theirs = absurd (of_page b m p theirs y)
  once b (owners.Data j p) other x y mine theirs = absurd (of_page b j p mine x)

  pub begun_owns : OwnsNew l held i (Some new)
  begun_owns = record { each = each_was; once = once }

  not_before : (b : ℕ) (o : Owner) → OwnsIn l held b o → IsOf i o → ⊥
  not_before b (owners.Table c k) owns mine = mine
  not_before b (owners.Log j k) owns mine = let w = log_owned owns in let clash : None ≡ Some w.0 = sym out ∙ ap held (sym mine) ∙ w.1 in cc
  not_before b (owners.Data j p) owns mine = let w = page_owned owns in let clash : None ≡ Some w.0 = sym out ∙ ap held (sym mine) ∙ w.1 in cc

  not_now : (b : ℕ) → b ≢ page → (o : Owner) → OwnsIn l after b o → IsOf i o → ⊥
  not_now b differs (owners.Table c k) owns mine = mine
  not_now b differs (owners.Log j k) owns mine = differs (of_log b j k mine owns).0
  not_now b differs (owners.Data j p) owns mine = of_page b j p mine owns

  taken : OwnsIn l after page (owners.Log i 0)
  taken = by_log now (subst (λ (xs : List ℕ). slice_get xs 0 ≡ Some page) (sym pages) refl)

  -- The free blocks are those of before but for its page.
  pub begun_free : (b : ℕ) → IsUnowned l after b ↔ (IsUnowned l held b × (b ≢ page))
  begun_free b = (
    (λ is. (free_before l held i (Some new) b is (not_before b), λ same. (subst (IsUnowned l after) same is).unowned (owners.Log i 0) taken)),
    (λ was. free_still l held i (Some new) b was.0 (not_now b was.1)),
  )

quiet : (good cut : Bool) → word_after good (cond {A = Option (Option ℕ)} cut (Some None) None) None ≡ None
quiet true true = refl
quiet true false = refl
quiet false cut = refl

-- a log of one attributes entry maps no page
pub attributes_map_nothing : (l : Layout) (new : Held) (at : ℕ) (e : AttrEntry) → new.entries ≡ placed at (entries.Attr e) ∷ [] → MapsNothing l new
attributes_map_nothing l new at e one p =
    ap (λ (es : List Placed). block_of (good_entries l.sup new.kind es) p) one
    ∙ word-more (says_block p) None l.sup new.kind [] (placed at (entries.Attr e)) (is_good l.sup new.kind (entries.Attr e)) refl
    ∙ quiet (is_good l.sup new.kind (entries.Attr e)) (nat_le e.size (p * 4096))

-- ---- an inode that went

module _ (l : Layout) (held : Store) (i : ℕ) (f : Held) (is : held i ≡ Some f) (undoubled : NoneDoubled l held) (inside : (b : ℕ) → Contains f.pages b → (system_blocks l.sup ≤ b) × (b < l.sup.blocks)) where
  abbrev left : Store
  left = with_inode held i None

  gone : (b : ℕ) (o : Owner) → OwnsIn l left b o → IsOf i o → ⊥
  gone b (owners.Table c k) owns mine = mine
  gone b (owners.Log j k) owns mine = let w = log_owned owns in let clash : None ≡ Some w.0 = sym (same_held held i None) ∙ ap left (sym mine) ∙ w.1 in cc
  gone b (owners.Data j p) owns mine = let w = page_owned owns in let clash : None ≡ Some w.0 = sym (same_held held i None) ∙ ap left (sym mine) ∙ w.1 in cc

  owned_page : (b : ℕ) → Contains f.pages b → (k : ℕ) × OwnsIn l held b (owners.Log i k)
  owned_page b c = page_owner l held i b f is c

  page_free : (b : ℕ) → Contains f.pages b → IsUnowned l left b
  page_free b c = let o = owned_page b c in let d = inside b c in
      let_go l held i None undoubled b (owners.Log i o.0) o.1 refl d.0 d.1 (gone b)

  data_free : (b : ℕ) → Maps l f b → IsUnowned l left b
  data_free b w = let d = data_pages l.sup f.kind f.entries w.0 b w.1 in
      let_go l held i None undoubled b (owners.Data i w.0) (by_page is w.1) refl d.1 d.2 (gone b)

  -- its own owners
  mine_was : (b : ℕ) → (Contains f.pages b → ⊥) → (Maps l f b → ⊥) → (o : Owner) → OwnsIn l held b o → IsOf i o → ⊥
  mine_was b no_page no_data (owners.Table c k) owns mine = mine
  mine_was b no_page no_data (owners.Log j k) owns mine =
      let w = log_owned owns in
      let same : w.0 ≡ f = some_is w.0 f (held i) (ap held (sym mine) ∙ w.1) is in
      no_page (subst (λ (h : Held). Contains h.pages b) same (k, slice_get_within w.0.pages k b w.2, get_or_from_slice_get w.0.pages k b b w.2))
  mine_was b no_page no_data (owners.Data j p) owns mine =
      let w = page_owned owns in
      let same : w.0 ≡ f = some_is w.0 f (held i) (ap held (sym mine) ∙ w.1) is in
      no_data (p, subst (λ (h : Held). block_of (good_in l h) p ≡ Some b) same w.2)

  back : (b : ℕ) → IsUnowned l left b → IsUnowned l held b ⊎ (Contains f.pages b ⊎ Maps l f b)
  back b free = elim (there_or_not f.pages b) [
    | inl page ↦ inr (inl page)
    | inr no_page ↦ elim (has_block l f b) [
      | inl mapped ↦ inr (inr mapped)
      | inr no_data ↦ inl (free_before l held i None b free (mine_was b no_page no_data))
    ]
  ]

  -- The free blocks are those of before and those that it owned.
  pub gone_free : (b : ℕ) → IsUnowned l left b ↔ (IsUnowned l held b ⊎ (Contains f.pages b ⊎ Maps l f b))
  gone_free b = (back b, λ either. elim either [ inl was ↦ free_still l held i None b was (gone b) | inr own ↦ elim own [ inl page ↦ page_free b page | inr mapped ↦ data_free b mapped ] ])
