-- The pages of write entries, stored one entry after the other.
use Rattle.std.proofs.Common.{◌≡◌, ℕ, ◌+◌, ◌*◌, ◌/◌, ◌<◌, inl, inr, List, [], ◌∷◌, length, get_or, drop, refl, ap, sym, ◌∙◌, subst, arith, Option, Some, None}
use Rattle.std.specs.List.{Contains, cons_option}
use Rattle.std.proofs.lemmas.Bool.Decides.{nat_tests}
use Rattle.nv_region.specs.Region.{Region, size}
use Rattle.nv_region.specs.Stops.{IsMixed}
use Rattle.nv_region.proofs.Stops.{mixed_same}
use Rattle.nv_region.proofs.Wordwise.{mixed_more}
use Rattle.nv_super.specs.declared.owners.Run.{Run}
use Rattle.nv_super.proofs.Members.{none_in}
use Rattle.nv_super.proofs.Rising.{Contains-cons, Contains-tail}
use Rattle.nv_logpage.proofs.Placing.{entries_from}
use Rattle.nv_alloc.specs.Taking.{HasBlock}
use Rattle.nv_alloc.proofs.Leaving.{block_cases, first_block, later_block}
use Rattle.nv_entry.specs.declared.entry.WriteEntry.{WriteEntry}
use Rattle.nv_entry.specs.declared.entry.Entry.{Entry}
use Rattle.nv_entry.specs.declared.entry.Entry.TheVariants.{NextPage, Write, Attr, Name, Links}
use Rattle.nv_radix.specs.Pages.{Pages}
use Rattle.nv_bytes.specs.Storing.{AreFresh, HoldPages, HoldsPage, InBlocks, block_given}
use Rattle.nv_bytes.proofs.StoredPages.{page_stays}
use Rattle.nv_mounted.specs.Writes.{blocks_in_entry, pages_in_entry}
use Rattle.nv_steps.specs.Written.{HoldEntries, entry_blocks}

-- the first of them is a write entry
pub writes_from : (entries : List Entry) (i : ℕ) (e : Entry) (w : WriteEntry) → i < length entries → e ≡ get_or entries i e → e ≡ Write w → drop i entries ≡ Write w ∷ drop (i + 1) entries
writes_from entries i e w inside is write = entries_from entries i e inside is ∙ ap (λ (x : Entry). x ∷ drop (i + 1) entries) write

-- the blocks of an entry
abbrev pub blocks_of : WriteEntry → Run
blocks_of w = record { start = w.block; count = w.count }

-- the blocks of the first entry
pub entry_block : (w : WriteEntry) (rest : List Entry) (b : ℕ) → HasBlock (blocks_of w ∷ []) b → HasBlock (entry_blocks (Write w ∷ rest)) b
entry_block w rest b h = elim (block_cases (blocks_of w) [] b h) [ inl v ↦ first_block (blocks_of w) (entry_blocks rest) b v | inr none ↦ absurd (none_in none.0 none.1) ]

-- they are fresh where all are
pub entry_fresh : (R0 R : Region) (m : Pages) (w : WriteEntry) (rest : List Entry) → size R ≡ size R0 → AreFresh R0 m (entry_blocks (Write w ∷ rest)) → AreFresh R m (blocks_of w ∷ [])
entry_fresh R0 R m w rest large fresh = record {
  inside = λ b h. (let inside = fresh.inside b (entry_block w rest b h) in omega (arith, inside, large));
  once = ((λ b v none. none_in none.0 none.1), tt);
  apart = λ p b at h. fresh.apart p b at (entry_block w rest b h);
}

-- The pages of the entries are stored but for those left, whatever is stored into the blocks of these.
pub record Storing (R0 : Region) (m : Pages) (bytes : ℕ → ℕ) (entries : List Entry) (R : Region) (left : List Entry) : Type 0 where
  pub told : (S : Region) → IsMixed R (InBlocks (HasBlock (entry_blocks left))) S → HoldEntries S bytes left → HoldEntries S bytes entries
  pub fresh : AreFresh R0 m (entry_blocks left)
  pub within : (b : ℕ) → HasBlock (entry_blocks left) b → HasBlock (entry_blocks entries) b
  pub among : (w : WriteEntry) → Contains left (Write w) → Contains entries (Write w)

pub some_write : (w v : WriteEntry) → Write w ≡ Write v → w ≡ v
some_write w v e = cc

-- an entry's pages were stored
pub storing_goes_on : (R0 : Region) (m : Pages) (bytes : ℕ → ℕ) (entries : List Entry) (R Q : Region) (w : WriteEntry) (rest : List Entry) → Storing R0 m bytes entries R (Write w ∷ rest)
    → IsMixed R (InBlocks (HasBlock (blocks_of w ∷ []))) Q → ((k : ℕ) → k < w.count → HoldsPage Q bytes (w.block + k) (w.offset + k)) → Storing R0 m bytes entries Q rest
storing_goes_on R0 m bytes entries R Q w rest s mixed here = record {
  told = λ S then holds.
      s.told S
      (mixed_more (InBlocks (HasBlock (blocks_of w ∷ entry_blocks rest))) (InBlocks (HasBlock (entry_blocks rest))) R Q S (λ i v h. later_block (blocks_of w) (entry_blocks rest) (8 * i / 4096) h)
      (mixed_more (InBlocks (HasBlock (blocks_of w ∷ entry_blocks rest))) (InBlocks (HasBlock (blocks_of w ∷ []))) R R Q (λ i v h. entry_block w rest (8 * i / 4096) h) (mixed_same R (InBlocks (HasBlock (blocks_of w ∷ entry_blocks rest)))) mixed) then)
      (λ v c k low. elim (Contains-cons (Write w) rest (Write v) c) [
        | inl same ↦ subst (λ (u : WriteEntry). (j : ℕ) → j < u.count → HoldsPage S bytes (u.block + j) (u.offset + j)) (sym (some_write v w same))
            (λ j less. page_stays Q S (InBlocks (HasBlock (entry_blocks rest))) bytes (w.block + j) (w.offset + j) then (λ i x at h. s.fresh.once.0 (8 * i / 4096) (omega (arith, at), omega (arith, at, less)) h) (here j less)) k low
        | inr c ↦ holds v c k low
      ]);
  fresh = record {
    inside = λ b h. s.fresh.inside b (later_block (blocks_of w) (entry_blocks rest) b h);
    once = s.fresh.once.1;
    apart = λ p b at h. s.fresh.apart p b at (later_block (blocks_of w) (entry_blocks rest) b h);
  };
  within = λ b h. s.within b (later_block (blocks_of w) (entry_blocks rest) b h);
  among = λ v c. s.among v (Contains-tail (Write w) rest (Write v) c);
}

-- an entry that isn't a write entry names no blocks and no pages
pub no_blocks : (e : Entry) → ((w : WriteEntry) → e ≡ Write w → ⊥) → blocks_in_entry e ≡ None
no_blocks (Write w) other = absurd (other w refl)
no_blocks NextPage other = refl
no_blocks (Attr w) other = refl
no_blocks (Name w) other = refl
no_blocks (Links w) other = refl

pub no_pages : (e : Entry) → ((w : WriteEntry) → e ≡ Write w → ⊥) → pages_in_entry e ≡ None
no_pages (Write w) other = absurd (other w refl)
no_pages NextPage other = refl
no_pages (Attr w) other = refl
no_pages (Name w) other = refl
no_pages (Links w) other = refl

-- it is passed over
pub storing_skips : (R0 : Region) (m : Pages) (bytes : ℕ → ℕ) (entries : List Entry) (R : Region) (e : Entry) (rest : List Entry) → ((w : WriteEntry) → e ≡ Write w → ⊥) → Storing R0 m bytes entries R (e ∷ rest) → Storing R0 m bytes entries R rest
storing_skips R0 m bytes entries R e rest other s =
    let same : entry_blocks (e ∷ rest) ≡ entry_blocks rest = ap (λ (o : Option Run). cons_option o (entry_blocks rest)) (no_blocks e other) in
    record {
      told = λ S mixed holds. s.told S (subst (λ (xs : List Run). IsMixed R (InBlocks (HasBlock xs)) S) (sym same) mixed) (λ w c. elim (Contains-cons e rest (Write w) c) [ inl is ↦ absurd (other w (sym is)) | inr c ↦ holds w c ]);
      fresh = subst (AreFresh R0 m) same s.fresh;
      within = λ b h. s.within b (subst (λ (xs : List Run). HasBlock xs b) (sym same) h);
      among = λ w c. s.among w (Contains-tail e rest (Write w) c);
    }

-- a run as pages of one entry
pub run_holds : (S : Region) (bytes : ℕ → ℕ) (w : WriteEntry) → HoldPages S bytes w.offset (blocks_of w ∷ []) → (k : ℕ) → k < w.count → HoldsPage S bytes (w.block + k) (w.offset + k)
run_holds S bytes w holds k low = holds k (w.block + k) (given w k low) where
  given : (w : WriteEntry) (k : ℕ) → k < w.count → block_given (blocks_of w ∷ []) k ≡ Some (w.block + k)
  given w k low = grind (arith, nat_tests)
