-- The entries that give a file a size: they count, and what they write.
use Rattle.std.proofs.Common.{◌≡◌, ℕ, ◌+◌, ◌*◌, ◌/◌, ◌<◌, ◌≤◌, true, false, List, [], ◌∷◌, refl, sym, subst, arith, Some, inl, inr}
use Rattle.std.specs.List.{Contains}
use Rattle.std.proofs.lemmas.Bool.Decides.{nat_tests}
use Rattle.std.proofs.lemmas.Option.{same_Some}
use Rattle.nv_super.specs.declared.superblock.Super.{Super}
use Rattle.nv_super.specs.declared.kind.Kind.{Kind}
use Rattle.nv_super.specs.declared.kind.Kind.TheVariants.{File, Directory}
use Rattle.nv_super.specs.Layout.{Layout, system_blocks, most_size}
use Rattle.nv_super.proofs.Members.{none_in}
use Rattle.nv_super.proofs.Rising.{Contains-cons}
use Rattle.nv_entry.specs.declared.entry.AttrEntry.{AttrEntry}
use Rattle.nv_entry.specs.declared.entry.WriteEntry.{WriteEntry}
use Rattle.nv_entry.specs.declared.entry.Entry.{Entry}
use Rattle.nv_entry.specs.declared.entry.Entry.TheVariants.{NextPage, Write, Attr, Name, Links}
use Rattle.nv_entry.specs.Content.{is_attr_out_of_range, is_good}
use Rattle.nv_alloc.proofs.Singly.{single_is}
use Rattle.nv_logpage.specs.declared.found.Placed.{Placed}
use Rattle.nv_logpage.specs.Reads.{placed}
use Rattle.nv_logpage.specs.Good.{good_entries}
use Rattle.nv_scan.specs.State.{mode_in, mode_of, says_mode, says_size}
use Rattle.nv_scan.proofs.Blocks.{good_is_good, in_range, last_word-all}
use Rattle.nv_mounted.specs.Held.{Held, Store}
use Rattle.nv_mounted.specs.Blocks.{IsUnowned}
use Rattle.nv_mounted.specs.Writes.{WritesData}
use Rattle.nv_steps.proofs.AttrEntries.{Allows, attr_allowed, one_there}
use Rattle.nv_steps.proofs.SizedEntries.{EndsWith}

-- ---- entries that count

attr_mode : (k : Kind) (e : AttrEntry) → is_attr_out_of_range k e ≡ false → e.mode ≤ 4095
attr_mode File e good = grind (arith, nat_tests)
attr_mode Directory e good = grind (arith, nat_tests)

mode_says : (s : Super) (k : Kind) (e : Entry) (v : ℕ) → is_good s k e ≡ true → mode_in e ≡ Some v → v ≤ 4095
mode_says s k (Attr e) v good h = subst (λ (n : ℕ). n ≤ 4095) (same_Some _ _ h) (attr_mode k e (in_range s k (Attr e) good))
mode_says s k (Write e) v good h = absurd (cc)
mode_says s k NextPage v good h = absurd (cc)
mode_says s k (Name e) v good h = absurd (cc)
mode_says s k (Links e) v good h = absurd (cc)

-- no mode has more than twelve bits
pub small_mode : (s : Super) (k : Kind) (es : List Placed) → mode_of (good_entries s k es) ≤ 4095
small_mode s k es = last_word-all says_mode (λ (n : ℕ). n ≤ 4095) 0 (good_entries s k es) (omega arith) (λ x v c e. mode_says s k x.entry v (good_is_good s k es x c) e)

-- attributes of a file, of any size that a file can have
pub file_attr : (s : Super) (k : Kind) (x : AttrEntry) → k ≡ File → x.mode ≤ 4095 → x.size ≤ most_size → is_good s k (Attr x) ≡ true
file_attr s k x file mode size = attr_allowed s k x mode (subst (λ (kind : Kind). Allows kind x.size) (sym file) size)

-- a page that is written, in which the file ended
pub file_write : (s : Super) (k : Kind) (old b size time : ℕ) → k ≡ File → system_blocks s ≤ b → b < s.blocks → old < size → size ≤ most_size → is_good s k (Write (record { offset = old / 4096; count = 1; block = b; size = size; time = time })) ≡ true
file_write s k old b size time file from below more small = subst (λ (kind : Kind). is_good s kind (Write (record { offset = old / 4096; count = 1; block = b; size = size; time = time })) ≡ true) (sym file) (here (old / 4096) (omega (arith, more, small)) (omega (arith, more))) where
  here : (page : ℕ) → page + 1 ≤ 262144 → page * 4096 < size → is_good s File (Write (record { offset = page; count = 1; block = b; size = size; time = time })) ≡ true
  here page few inside = grind (arith, nat_tests)

-- ---- lists of one and of two

pub two_there : (P : Placed → Type 0) {x z : Placed} → P x → P z → (y : Placed) → Contains (x ∷ z ∷ []) y → P y
two_there P {x} {z} first second y c = elim (Contains-cons x (z ∷ []) y c) [ inl same ↦ subst P (sym same) first | inr rest ↦ subst P (sym (one_there rest)) second ]

module _ (l : Layout) (held : Store) (h : Held) (x : AttrEntry) (file : h.kind ≡ File) (mode : x.mode ≤ 4095) (most : x.size ≤ most_size) (fresh : List ℕ) where
  -- with the page that was copied, attributes write its block
  pub copy_writes : (old b at then : ℕ) → old < x.size → IsUnowned l held b → (Contains fresh b → ⊥)
      → WritesData l held h (placed at (Write (record { offset = old / 4096; count = 1; block = b; size = x.size; time = x.time })) ∷ placed then (Attr x) ∷ []) fresh x.size
  copy_writes old b at then more free away = record {
    good = two_there (λ z. is_good l.sup h.kind z.entry ≡ true) (file_write l.sup h.kind old b x.size x.time file free.from free.below more most) (file_attr l.sup h.kind x file mode most);
    sized = two_there (λ z. says_size z ≡ Some x.size) refl refl;
    free = λ c w. subst (IsUnowned l held) (sym (single_is b c w)) free;
    apart = λ c w there. away (subst (Contains fresh) (single_is b c w) there);
    blocks_once = ((λ c here none. none_in none.0 none.1), tt);
    pages_once = ((λ c here none. none_in none.0 none.1), tt);
  }

pub two_end : (at then : ℕ) (w : WriteEntry) (x : AttrEntry) → EndsWith (placed at (Write w) ∷ placed then (Attr x) ∷ []) x
two_end at then w x = record { size = λ d. refl; mode = λ d. refl; owner = λ d. refl; group = λ d. refl; links = λ d. refl; time = λ d. refl }
