-- The blocks of a file, and the free blocks, once its log grew by entries that write blocks and set its size.
use Rattle.std.proofs.Common.{◌≡◌, ◌↔◌, ℕ, ◌+◌, ◌-◌, ◌*◌, ◌<◌, ◌≤◌, ◌⊎◌, inl, inr, true, cond, List, [], ◌∷◌, length, refl, ap, sym, ◌∙◌, subst, arith, Bool, Some, None}
use Rattle.std.specs.List.{Contains}
use Rattle.std.proofs.lemmas.Bool.{cases_lt}
use Rattle.std.proofs.lemmas.Bool.Decides.{nat_tests}
use Rattle.std.proofs.lemmas.Option.{none-some}
use Rattle.nv_super.specs.declared.superblock.Super.{Super}
use Rattle.nv_super.specs.declared.kind.Kind.{Kind}
use Rattle.nv_super.specs.declared.owners.Owner.TheVariants as owners
use Rattle.nv_super.specs.Layout.{Layout}
use Rattle.nv_super.proofs.Options.{some_is}
use Rattle.nv_super.proofs.Rising.{Contains-head, Contains-tail}
use Rattle.nv_alloc.specs.Taking.{HasBlock}
use Rattle.nv_entry.specs.declared.entry.WriteEntry.{WriteEntry}
use Rattle.nv_entry.specs.declared.entry.Entry.TheVariants.{Write}
use Rattle.nv_entry.specs.Content.{is_good}
use Rattle.nv_logpage.specs.declared.found.Placed.{Placed}
use Rattle.nv_logpage.specs.Good.{good_entries}
use Rattle.nv_radix.specs.Pages.{in_run}
use Rattle.nv_scan.specs.LastWord.{last_word}
use Rattle.nv_scan.specs.State.{block_of, says_block}
use Rattle.nv_scan.proofs.Words.{words-more}
use Rattle.nv_mounted.specs.Held.{Held, Store, with_inode, good_in}
use Rattle.nv_mounted.specs.Blocks.{by_page, IsUnowned, NoneDoubled}
use Rattle.nv_mounted.specs.Grows.{grown, AreFree, Maps, LetsGo, GrowsByData}
use Rattle.nv_mounted.specs.Writes.{written_blocks, written_pages, WritesData, IsReplaced}
use Rattle.nv_mounted.proofs.Growing.{free_with_data}
use Rattle.nv_mounted.proofs.Written.{EntryOf, in_runs, maps_from, maps_written, maps_once, page_stays, page_cut, page_written, block_there, block_entry, page_entry}

-- good entries all count
pub all_count : (s : Super) (k : Kind) (xs : List Placed) → ((x : Placed) → Contains xs x → is_good s k x.entry ≡ true) → good_entries s k xs ≡ xs
all_count s k [] good = refl
all_count s k (x ∷ xs) good =
    ap (λ (t : Bool). cond t (x ∷ good_entries s k xs) (good_entries s k xs)) (good x (Contains-head x xs)) ∙ ap (λ (ys : List Placed). x ∷ ys) (all_count s k xs (λ y c. good y (Contains-tail x xs y c)))

-- a page of a run is in it
pub in_run_from : (first count p : ℕ) → first ≤ p → p < first + count → in_run first count p ≡ true
in_run_from first count p low high = grind (arith, nat_tests)

module _ (l : Layout) (held : Store) (h : Held) (tail : ℕ) (more : List Placed) (fresh : List ℕ) (size : ℕ) (w : WritesData l held h more fresh size) where
  abbrev new : Held
  new = grown h tail more fresh

  block_now : (p : ℕ) → block_of (good_in l new) p ≡ last_word (says_block p) (block_of (good_in l h) p) more
  block_now p = words-more (says_block p) None l.sup h.kind h.entries more ∙ ap (last_word (says_block p) (block_of (good_in l h) p)) (all_count l.sup h.kind more w.good)

  -- ---- each page

  pub written : (x : Placed) (e : WriteEntry) (p : ℕ) → Contains more x → x.entry ≡ Write e → in_run e.offset e.count p ≡ true → block_of (good_in l new) p ≡ Some (e.block + (p - e.offset))
  written x e p c entry run = block_now p ∙ page_written l.sup h.kind more p size (block_of (good_in l h) p) x e w.good w.sized w.pages_once c entry run

  pub kept : (p : ℕ) → (HasBlock (written_pages more) p → ⊥) → p * 4096 < size → block_of (good_in l new) p ≡ block_of (good_in l h) p
  kept p away below = block_now p ∙ page_stays more p size (block_of (good_in l h) p) w.sized away below

  pub cut : (p : ℕ) → 0 < length more → (HasBlock (written_pages more) p → ⊥) → size ≤ p * 4096 → block_of (good_in l new) p ≡ None
  cut p some away past = block_now p ∙ page_cut more p size (block_of (good_in l h) p) some w.sized away past

  -- ---- each block

  -- each written block is mapped
  mapped : (b : ℕ) → HasBlock (written_blocks more) b → Maps l new b
  mapped b here = of_entry (block_entry more b here) where
    of_entry : EntryOf more (λ e. record { start = e.block; count = e.count }) b → Maps l new b
    of_entry v =
        let p : ℕ = v.e.offset + (b - v.e.block) in
        let run : in_run v.e.offset v.e.count p ≡ true = in_run_from v.e.offset v.e.count p (omega arith) (let inside = v.in_it in omega (arith, inside.0, inside.1)) in
        let block : v.e.block + (p - v.e.offset) ≡ b = (let inside = v.in_it in omega (arith, inside.0)) in
        (p, written v.x v.e p v.here v.is run ∙ ap Some block)

  -- the block of a written page is one of them
  page_block : (p : ℕ) → HasBlock (written_pages more) p → (c : ℕ) × (block_of (good_in l new) p ≡ Some c) × HasBlock (written_blocks more) c
  page_block p here = of_entry (page_entry more p here) where
    of_entry : EntryOf more (λ e. record { start = e.offset; count = e.count }) p → (c : ℕ) × (block_of (good_in l new) p ≡ Some c) × HasBlock (written_blocks more) c
    of_entry v =
        let inside = v.in_it in
        let run : in_run v.e.offset v.e.count p ≡ true = in_run_from v.e.offset v.e.count p inside.0 inside.1 in
        (v.e.block + (p - v.e.offset), written v.x v.e p v.here v.is run, block_there more v.x v.e (v.e.block + (p - v.e.offset)) v.here v.is (omega arith, omega (arith, inside.0, inside.1)))

  module _ (i : ℕ) (is : held i ≡ Some h) where
    -- a free block is no page's
    unmapped : (p b : ℕ) → IsUnowned l held b → block_of (good_in l h) p ≡ Some b → ⊥
    unmapped p b free old = free.unowned (owners.Data i p) (by_page is old)

    pub grows : AreFree l held fresh → GrowsByData l held h new fresh
    grows free = record {
      pages = refl;
      free = free;
      from = λ p b maps. elim (maps_from more p b (block_of (good_in l h) p) (sym (block_now p) ∙ maps)) [ inl old ↦ inl old | inr m ↦ (let here = maps_written more p b m in inr (w.free b here, w.apart b here)) ];
      once = λ p q b was first second. elim (maps_from more p b (block_of (good_in l h) p) (sym (block_now p) ∙ first)) [
        | inl old ↦ absurd (unmapped p b was old)
        | inr m ↦ elim (maps_from more q b (block_of (good_in l h) q) (sym (block_now q) ∙ second)) [ inl old ↦ absurd (unmapped q b was old) | inr n ↦ maps_once more p q b w.blocks_once m n ]
      ];
    }

    -- no other block that was free is mapped
    mapped_from : (b : ℕ) → IsUnowned l held b → Maps l new b → HasBlock (written_blocks more) b
    mapped_from b free m = elim (maps_from more m.0 b (block_of (good_in l h) m.0) (sym (block_now m.0) ∙ m.1)) [ inl old ↦ absurd (unmapped m.0 b free old) | inr here ↦ maps_written more m.0 b here ]

    module _ (undoubled : NoneDoubled l held) (free : AreFree l held fresh) where
      -- The free blocks are those of before that weren't taken, and those that the file let go.
      pub free_then : (b : ℕ) → IsUnowned l (with_inode held i (Some new)) b ↔ ((IsUnowned l held b × (Contains fresh b → ⊥) × (HasBlock (written_blocks more) b → ⊥)) ⊎ LetsGo l h new b)
      free_then b =
          let both = free_with_data l held i h new is fresh (grows free) undoubled b in (
            (λ now. elim (both.0 now) [ inl v ↦ inl (v.0, v.1, λ here. v.2 (mapped b here)) | inr gone ↦ inr gone ]),
            (λ either. both.1 (elim either [ inl v ↦ inl (v.0, v.1, λ m. v.2 (mapped_from b v.0 m)) | inr gone ↦ inr gone ])),
          )

      -- a page that was written
      not_written : (p b : ℕ) → block_of (good_in l h) p ≡ Some b → HasBlock (written_pages more) p → block_of (good_in l new) p ≡ Some b → ⊥
      not_written p b old here now =
          let v = page_block p here in
          unmapped p b (subst (IsUnowned l held) (some_is v.0 b (block_of (good_in l new) p) v.1 now) (w.free v.0 v.2)) old

      -- or cut
      is_gone : 0 < length more → (p b : ℕ) → block_of (good_in l h) p ≡ Some b → HasBlock (written_pages more) p ⊎ (size ≤ p * 4096) → block_of (good_in l new) p ≡ Some b → ⊥
      is_gone some p b old (inl here) now = not_written p b old here now
      is_gone some p b old (inr past) now = elim (in_runs (written_pages more) p) [
        | inl here ↦ not_written p b old here now
        | inr away ↦ none-some b (sym (cut p some away past) ∙ now)
      ]

      same_page : (p q b : ℕ) → block_of (good_in l h) p ≡ Some b → block_of (good_in l h) q ≡ Some b → q ≡ p
      same_page p q b first second = of_owner (undoubled b (owners.Data i q) (owners.Data i p) (by_page is second) (by_page is first)) where
        of_owner : owners.Data i q ≡ owners.Data i p → q ≡ p
        of_owner e = cc

      -- What the file let go are the blocks of pages that were written or cut.
      pub gone_is : 0 < length more → (b : ℕ) → LetsGo l h new b ↔ IsReplaced l h more size b
      gone_is some b = (
        (λ gone. elim (in_runs (written_pages more) gone.0.0) [
          | inl here ↦ (gone.0.0, gone.0.1, inl here)
          | inr away ↦ elim (cases_lt (gone.0.0 * 4096) size) [
            | inl below ↦ absurd (gone.1 (gone.0.0, kept gone.0.0 away below ∙ gone.0.1))
            | inr past ↦ (gone.0.0, gone.0.1, inr past)
          ]
        ]),
        (λ replaced. (
          (replaced.0, replaced.1),
          λ m. elim (maps_from more m.0 b (block_of (good_in l h) m.0) (sym (block_now m.0) ∙ m.1)) [
            | inl old ↦ (let same = same_page replaced.0 m.0 b replaced.1 old in
                is_gone some replaced.0 b replaced.1 replaced.2 (subst (λ (q : ℕ). block_of (good_in l new) q ≡ Some b) same m.1))
            | inr here ↦ unmapped replaced.0 b (w.free b (maps_written more m.0 b here)) replaced.1
          ],
        )),
      )
