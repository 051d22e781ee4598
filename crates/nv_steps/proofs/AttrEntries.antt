-- An attributes entry behind a log: it counts with any size that its inode can have, and with the size as it is names and pages stay.
use Rattle.std.proofs.Common.{◌≡◌, ℕ, ◌*◌, ◌≤◌, true, false, List, [], ◌∷◌, ◌++◌, refl, sym, ◌∙◌, subst, arith, Option, Some, None, inl, inr}
use Rattle.std.specs.List.{Contains}
use Rattle.std.proofs.lemmas.Bool.{cases_lt}
use Rattle.std.proofs.lemmas.Bool.Decides.{nat_tests}
use Rattle.std.proofs.lemmas.Option.{same_Some}
use Rattle.nv_super.specs.declared.superblock.Super.{Super}
use Rattle.nv_super.specs.declared.kind.Kind.{Kind}
use Rattle.nv_super.specs.declared.kind.Kind.TheVariants.{File, Directory}
use Rattle.nv_super.specs.Layout.{Layout, most_size}
use Rattle.nv_super.proofs.Members.{none_in}
use Rattle.nv_super.proofs.Rising.{Contains-cons}
use Rattle.nv_entry.specs.declared.entry.AttrEntry.{AttrEntry}
use Rattle.nv_entry.specs.declared.entry.WriteEntry.{WriteEntry}
use Rattle.nv_entry.specs.declared.entry.Entry.{Entry}
use Rattle.nv_entry.specs.declared.entry.Entry.TheVariants.{NextPage, Write, Attr, Name, Links}
use Rattle.nv_entry.specs.Content.{is_good, is_write_out_of_range, is_attr_out_of_range}
use Rattle.nv_logpage.specs.declared.found.Placed.{Placed}
use Rattle.nv_logpage.specs.Reads.{placed}
use Rattle.nv_logpage.specs.Good.{good_entries}
use Rattle.nv_scan.specs.State.{size_in, says_size, size_of, block_of}
use Rattle.nv_scan.specs.declared.numbers.Numbers.{Numbers}
use Rattle.nv_scan.specs.Rows.{AreNumbers}
use Rattle.nv_scan.proofs.Blocks.{last_word-all, good_is_good, in_range}
use Rattle.nv_scan.proofs.Sizes.{page_below}
use Rattle.nv_mounted.specs.Held.{Held, Store, good_in}
use Rattle.nv_mounted.specs.Grows.{NoEntryFault, SameFile, SameNames, grown}
use Rattle.nv_mounted.specs.Writes.{WritesData}
use Rattle.nv_mounted.proofs.DataGrows.{cut, kept}
use Rattle.nv_steps.proofs.SizedEntries.{EndsWith, data_clean, data_names, data_numbers}

write_size : (s : Super) (e : WriteEntry) → is_write_out_of_range s e ≡ false → e.size ≤ most_size
write_size s e good = grind (arith, nat_tests)

attr_size : (e : AttrEntry) → is_attr_out_of_range File e ≡ false → e.size ≤ most_size
attr_size e good = grind (arith, nat_tests)

attr_none : (e : AttrEntry) → is_attr_out_of_range Directory e ≡ false → e.size ≡ 0
attr_none e good = grind (arith, nat_tests)

file_says : (s : Super) (e : Entry) (v : ℕ) → is_good s File e ≡ true → size_in e ≡ Some v → v ≤ most_size
file_says s (Write e) v good h = subst (λ (n : ℕ). n ≤ most_size) (same_Some _ _ h) (write_size s e (in_range s File (Write e) good))
file_says s (Attr e) v good h = subst (λ (n : ℕ). n ≤ most_size) (same_Some _ _ h) (attr_size e (in_range s File (Attr e) good))
file_says s NextPage v good h = absurd (cc)
file_says s (Name e) v good h = absurd (cc)
file_says s (Links e) v good h = absurd (cc)

directory_says : (s : Super) (e : Entry) (v : ℕ) → is_good s Directory e ≡ true → size_in e ≡ Some v → v ≡ 0
directory_says s (Write e) v good h = absurd (cc)
directory_says s (Attr e) v good h = sym (same_Some _ _ h) ∙ attr_none e (in_range s Directory (Attr e) good)
directory_says s NextPage v good h = absurd (cc)
directory_says s (Name e) v good h = absurd (cc)
directory_says s (Links e) v good h = absurd (cc)

pub file_size : (s : Super) (es : List Placed) → size_of (good_entries s File es) ≤ most_size
file_size s es = last_word-all says_size (λ (n : ℕ). n ≤ most_size) 0 (good_entries s File es) (omega arith) (λ x v c e. file_says s x.entry v (good_is_good s File es x c) e)

directory_size : (s : Super) (es : List Placed) → size_of (good_entries s Directory es) ≡ 0
directory_size s es = last_word-all says_size (λ (n : ℕ). n ≡ 0) 0 (good_entries s Directory es) refl (λ x v c e. directory_says s x.entry v (good_is_good s Directory es x c) e)

-- the sizes that an inode can have
abbrev pub Allows : Kind → ℕ → Type 0
Allows File size = size ≤ most_size
Allows Directory size = size ≡ 0

size_allowed : (s : Super) (k : Kind) (es : List Placed) → Allows k (size_of (good_entries s k es))
size_allowed s File es = file_size s es
size_allowed s Directory es = directory_size s es

-- Attributes with a size that the inode can have count.
pub attr_allowed : (s : Super) (k : Kind) (x : AttrEntry) → x.mode ≤ 4095 → Allows k x.size → is_good s k (Attr x) ≡ true
attr_allowed s File x mode small = grind (arith, nat_tests)
attr_allowed s Directory x mode none = grind (arith, nat_tests)

-- and so with the size that it has
pub attr_good : (s : Super) (k : Kind) (es : List Placed) (x : AttrEntry) → x.mode ≤ 4095 → x.size ≡ size_of (good_entries s k es) → is_good s k (Attr x) ≡ true
attr_good s k es x mode size = attr_allowed s k x mode (subst (Allows k) (sym size) (size_allowed s k es))

pub one_there : {x y : Placed} → Contains (x ∷ []) y → y ≡ x
one_there {x} {y} c = elim (Contains-cons x [] y c) [ inl same ↦ same | inr none ↦ absurd (none_in y none) ]

-- Alone they write nothing.
pub attr_writes : (l : Layout) (held : Store) (h : Held) (x : AttrEntry) → is_good l.sup h.kind (Attr x) ≡ true → (fresh : List ℕ) (at : ℕ) → WritesData l held h (placed at (Attr x) ∷ []) fresh x.size
attr_writes l held h x good fresh at = record {
  good = λ y c. subst (λ (z : Placed). is_good l.sup h.kind z.entry ≡ true) (sym (one_there c)) good;
  sized = λ y c. subst (λ (z : Placed). says_size z ≡ Some x.size) (sym (one_there c)) refl;
  free = λ b w. absurd (none_in w.0 w.1);
  apart = λ b w c. none_in w.0 w.1;
  blocks_once = tt;
  pages_once = tt;
}

pub one_ends : (at : ℕ) (x : AttrEntry) → EndsWith (placed at (Attr x) ∷ []) x
one_ends at x = record { size = λ d. refl; mode = λ d. refl; owner = λ d. refl; group = λ d. refl; links = λ d. refl; time = λ d. refl }

-- ---- one entry more, with the size as it is

module _ (l : Layout) (h : Held) (x : AttrEntry) (mode : x.mode ≤ 4095) (size : x.size ≡ size_of (good_in l h)) (tail at : ℕ) (fresh : List ℕ) where
  abbrev new : Held
  new = grown h tail (placed at (Attr x) ∷ []) fresh

  writes : WritesData l (λ i. None) h (placed at (Attr x) ∷ []) fresh x.size
  writes = attr_writes l (λ i. None) h x (attr_good l.sup h.kind h.entries x mode size) fresh at

  pub attr_file : SameFile l h new
  attr_file p = elim (cases_lt (p * 4096) x.size) [
    | inl below ↦ kept l (λ i. None) h tail (placed at (Attr x) ∷ []) fresh x.size writes p (λ w. none_in w.0 w.1) below
    | inr past ↦ cut l (λ i. None) h tail (placed at (Attr x) ∷ []) fresh x.size writes p (omega arith) (λ w. none_in w.0 w.1) past ∙ sym (none past (block_of (good_in l h) p) refl)
  ] where
    none : x.size ≤ p * 4096 → (o : Option ℕ) → block_of (good_in l h) p ≡ o → block_of (good_in l h) p ≡ None
    none past None e = e
    none past (Some b) e = absurd (let below = page_below l.sup h.kind h.entries p b e in omega (arith, below, past, size))

  pub attr_names : SameNames l h new
  attr_names = data_names l (λ i. None) h tail (placed at (Attr x) ∷ []) fresh x.size writes

  pub attr_clean : (i : ℕ) → NoEntryFault l.sup h.kind i h.entries → NoEntryFault l.sup h.kind i (h.entries ++ placed at (Attr x) ∷ [])
  attr_clean = data_clean l (λ i. None) h tail (placed at (Attr x) ∷ []) fresh x.size writes

  -- the numbers after it
  pub attr_numbers : (old now : Numbers) → AreNumbers h.created (good_in l h) old → now.size ≡ x.size → now.mode ≡ x.mode → now.owner ≡ x.owner → now.group ≡ x.group → now.links ≡ old.links → now.time ≡ x.time
      → AreNumbers h.created (good_in l new) now
  attr_numbers = data_numbers l (λ i. None) h tail (placed at (Attr x) ∷ []) fresh x.size writes x (one_ends at x)
