-- The row of a file that was written: it is what is held then, and its bytes are the new ones.
use Rattle.std.proofs.Common.{◌≡◌, ℕ, ◌+◌, ◌-◌, ◌*◌, ◌<◌, ◌≤◌, inl, inr, true, List, [], ◌∷◌, length, refl, ap, sym, ◌∙◌, subst, arith, Option, Some, None, unwrap_or}
use Rattle.std.specs.List.{Contains}
use Rattle.std.proofs.lemmas.Bool.{cases_lt}
use Rattle.nv_super.specs.declared.owners.Run.{Run}
use Rattle.nv_super.specs.Layout.{Layout}
use Rattle.nv_super.proofs.Rising.{Contains-head, Contains-tail}
use Rattle.nv_alloc.specs.Taking.{HasBlock}
use Rattle.nv_entry.specs.declared.entry.WriteEntry.{WriteEntry}
use Rattle.nv_entry.specs.declared.entry.Entry.{Entry}
use Rattle.nv_entry.specs.declared.entry.Entry.TheVariants.{Write}
use Rattle.nv_logpage.specs.declared.found.Placed.{Placed}
use Rattle.nv_logpage.specs.Append.{appended}
use Rattle.nv_logpage.specs.Reads.{placed}
use Rattle.nv_radix.specs.Pages.{Pages, block_at, in_run}
use Rattle.nv_scan.specs.LastWord.{last_word}
use Rattle.nv_scan.specs.State.{block_of, says_group, says_mode, says_owner, says_size, says_time}
use Rattle.nv_scan.specs.Rows.{AreNumbers}
use Rattle.nv_scan.specs.declared.numbers.Numbers.{Numbers}
use Rattle.nv_scan.proofs.Words.{last_word-cons, words-more}
use Rattle.nv_graph.proofs.MoreEntries.{quiet_entries}
use Rattle.nv_mounted.specs.Held.{Held, Store, good_in}
use Rattle.nv_mounted.specs.Grows.{SameNames, grown}
use Rattle.nv_mounted.specs.Writes.{WritesData, written_pages}
use Rattle.nv_mounted.proofs.DataGrows.{all_count, cut, in_run_from, kept, written}
use Rattle.nv_mounted.proofs.Written.{EntryOf, in_runs, page_entry}
use Rattle.nv_steps.specs.Written.{MapsEntries}
use Rattle.nv_steps.proofs.WriteGood.{placed_entry, placed_pages}

-- ---- the last word

stays : {A V : Type 0} (says : A → Option V) (v : V) (xs : List A) → ((x : A) → Contains xs x → says x ≡ Some v) → last_word says v xs ≡ v
stays says v [] each = refl
stays {A} {V} says v (x ∷ xs) each = last_word-cons says v x xs ∙ ap (λ (o : Option V). last_word says (unwrap_or o v) xs) (each x (Contains-head x xs)) ∙ stays says v xs (λ y c. each y (Contains-tail x xs y c))

-- where each says the same it is that
all_say : {A V : Type 0} (says : A → Option V) (v d : V) (xs : List A) → 0 < length xs → ((x : A) → Contains xs x → says x ≡ Some v) → last_word says d xs ≡ v
all_say says v d [] some each = absurd (omega (arith, some))
all_say {A} {V} says v d (x ∷ xs) some each =
    last_word-cons says d x xs ∙ ap (λ (o : Option V). last_word says (unwrap_or o d) xs) (each x (Contains-head x xs)) ∙ stays says v xs (λ y c. each y (Contains-tail x xs y c))

module _ (l : Layout) (held : Store) (h : Held) (end : ℕ) (more : List Placed) (others : List ℕ) (size time : ℕ) (writes : WritesData l held h more others size) (some : 0 < length more)
    (timed : (x : Placed) → Contains more x → says_time x ≡ Some time) (same : (x : Placed) → Contains more x → (w : WriteEntry) × (x.entry ≡ Write w)) where
  abbrev new : Held
  new = grown h end more others

  said : {V : Type 0} (says : Placed → Option V) (v d : V) → ((x : Placed) → Contains more x → says x ≡ Some v) → last_word says d (good_in l new) ≡ v
  said says v d each =
      words-more says d l.sup h.kind h.entries more ∙ ap (last_word says (last_word says d (good_in l h))) (all_count l.sup h.kind more writes.good) ∙ all_say says v (last_word says d (good_in l h)) more some each

  unsaid : {V : Type 0} (says : Placed → Option V) (d : V) → ((x : Placed) (w : WriteEntry) → x.entry ≡ Write w → says x ≡ None) → last_word says d (good_in l new) ≡ last_word says d (good_in l h)
  unsaid says d none = quiet_entries says d l.sup h.kind h.entries more (λ x c. (let w = same x c in none x w.0 w.1))

  -- The numbers are as before but for size and time.
  pub written_numbers : (old : Numbers) → AreNumbers h.created (good_in l h) old → SameNames l h new → AreNumbers h.created (good_in l new) (record old { size = size; time = time })
  written_numbers old are names = record {
    size = sym (said says_size size 0 writes.sized);
    mode = are.mode ∙ sym (unsaid says_mode 0 (λ x w is. ap (λ (e : Entry). says_mode (placed x.at e)) is));
    owner = are.owner ∙ sym (unsaid says_owner 0 (λ x w is. ap (λ (e : Entry). says_owner (placed x.at e)) is));
    group = are.group ∙ sym (unsaid says_group 0 (λ x w is. ap (λ (e : Entry). says_group (placed x.at e)) is));
    links = are.links ∙ sym names.links;
    time = sym (said says_time time h.created timed);
  }

-- ---- the pages

module _ (l : Layout) (held : Store) (h : Held) (end : ℕ) (fresh : List ℕ) (entries : List Entry) (others : List ℕ) (size : ℕ) (writes : WritesData l held h (appended fresh 0 h.tail entries) others size) (some : 0 < length (appended fresh 0 h.tail entries))
    (old now : Pages) (was : (p : ℕ) → block_at old p ≡ block_of (good_in l h) p) (below : (p b : ℕ) → block_of (good_in l h) p ≡ Some b → p * 4096 < size) (maps : MapsEntries old entries now) where
  abbrev placed_there : List Placed
  placed_there = appended fresh 0 h.tail entries

  at_written : (p : ℕ) → EntryOf placed_there (λ e. record { start = e.offset; count = e.count }) p → block_at now p ≡ block_of (good_in l (grown h end placed_there others)) p
  at_written p v =
      let e = v.e in
      let k : ℕ = p - e.offset in
      let inside = v.in_it in
      let page : e.offset + k ≡ p = (let low = inside.0 in omega (arith, low)) in
      let run : in_run e.offset e.count p ≡ true = in_run_from e.offset e.count p inside.0 inside.1 in
      let there : Contains entries (Write e) = subst (λ (x : Entry). Contains entries x) v.is (placed_entry fresh 0 h.tail entries v.x v.here) in
      ap (block_at now) (sym page) ∙ maps.here e there k (let low = inside.0 in let high = inside.1 in omega (arith, low, high)) ∙ sym (written l held h end placed_there others size writes v.x e p v.here v.is run)

  elsewhere : (p : ℕ) → (HasBlock (written_pages placed_there) p → ⊥) → block_at now p ≡ block_of (good_in l (grown h end placed_there others)) p
  elsewhere p away =
      maps.others p (λ w. away (subst (λ (xs : List Run). HasBlock xs p) (sym (placed_pages fresh 0 h.tail entries)) w)) ∙ was p
      ∙ elim (cases_lt (p * 4096) size) [
        | inl low ↦ sym (kept l held h end placed_there others size writes p away low)
        | inr high ↦ none_there (block_of (good_in l h) p) refl high ∙ sym (cut l held h end placed_there others size writes p some away high)
      ]
    where
      none_there : (o : Option ℕ) → block_of (good_in l h) p ≡ o → size ≤ p * 4096 → o ≡ None
      none_there None is high = refl
      none_there (Some b) is high = absurd (let low = below p b is in omega (arith, low, high))

  -- The index has the blocks of the entries' pages, and the others as before.
  pub written_index : (p : ℕ) → block_at now p ≡ block_of (good_in l (grown h end placed_there others)) p
  written_index p = elim (in_runs (written_pages placed_there) p) [ inl here ↦ at_written p (page_entry placed_there p here) | inr away ↦ elsewhere p away ]
