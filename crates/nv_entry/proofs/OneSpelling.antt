-- Each entry has one spelling.
use Rattle.std.proofs.Common.{◌≡◌, ℕ, zero, suc, ◌+◌, ◌*◌, ◌%◌, ◌<◌, List, ◌++◌, length, take, refl, ap, sym, ◌∙◌, arith}
use Rattle.nv_region.specs.Region.{Region, word, region_of}
use Rattle.nv_entry.specs.Spelling.{words_for, IsWriteAt, IsAttrAt, IsNameAt, IsLinksAt, Stands, entry_length, Spells}
use Rattle.std.proofs.Math.Seq.{take-append_seam}
use Rattle.nv_entry.proofs.Bytes.{bytes_by_words, front_word}
use Rattle.nv_entry.proofs.Same.{Stands-same, Stands-only, entry_length_words}
use Rattle.nv_entry.specs.declared.entry.WriteEntry.{WriteEntry}
use Rattle.nv_entry.specs.declared.entry.AttrEntry.{AttrEntry}
use Rattle.nv_entry.specs.declared.entry.NameEntry.{NameEntry}
use Rattle.nv_entry.specs.declared.entry.LinksEntry.{LinksEntry}
use Rattle.nv_entry.specs.declared.entry.Entry.{Entry}
use Rattle.nv_entry.specs.declared.entry.Entry.TheVariants.{NextPage, Write, Attr, Name, Links}

-- the word at 0
at_zero : (R R' : Region) (p : ℕ) (v : ℕ) → word R p ≡ v → word R' p ≡ v → word R (p + 0) ≡ word R' (p + 0)
at_zero R R' p v h k = let e : p + 0 ≡ p = omega arith in ap (word R) e ∙ h ∙ sym k ∙ sym (ap (word R') e)

write_words : (R R' : Region) (p : ℕ) (e : WriteEntry) → IsWriteAt R p e → IsWriteAt R' p e → (k : ℕ) → 8 * k < 40 → word R (p + 8 * k) ≡ word R' (p + 8 * k)
write_words R R' p e s t zero h = at_zero R R' p _ s.first t.first
write_words R R' p e s t (suc zero) h = s.offset ∙ sym t.offset
write_words R R' p e s t (suc (suc zero)) h = s.block ∙ sym t.block
write_words R R' p e s t (suc (suc (suc zero))) h = s.size ∙ sym t.size
write_words R R' p e s t (suc (suc (suc (suc zero)))) h = s.time ∙ sym t.time
write_words R R' p e s t (suc (suc (suc (suc (suc k))))) h = absurd (omega arith)

attr_words : (R R' : Region) (p : ℕ) (e : AttrEntry) → IsAttrAt R p e → IsAttrAt R' p e → (k : ℕ) → 8 * k < 32 → word R (p + 8 * k) ≡ word R' (p + 8 * k)
attr_words R R' p e s t zero h = at_zero R R' p _ s.first t.first
attr_words R R' p e s t (suc zero) h = s.size ∙ sym t.size
attr_words R R' p e s t (suc (suc zero)) h = s.time ∙ sym t.time
attr_words R R' p e s t (suc (suc (suc zero))) h = s.owners ∙ sym t.owners
attr_words R R' p e s t (suc (suc (suc (suc k)))) h = absurd (omega arith)

links_words : (R R' : Region) (p : ℕ) (e : LinksEntry) → IsLinksAt R p e → IsLinksAt R' p e → (k : ℕ) → 8 * k < 24 → word R (p + 8 * k) ≡ word R' (p + 8 * k)
links_words R R' p e s t zero h = at_zero R R' p _ s.first t.first
links_words R R' p e s t (suc zero) h = s.time ∙ sym t.time
links_words R R' p e s t (suc (suc zero)) h = s.zero_word ∙ sym t.zero_word
links_words R R' p e s t (suc (suc (suc k))) h = absurd (omega arith)

name_words : (R R' : Region) (p : ℕ) (e : NameEntry) → IsNameAt R p e → IsNameAt R' p e → (k : ℕ) → 8 * k < 24 + 8 * words_for (length e.name) → word R (p + 8 * k) ≡ word R' (p + 8 * k)
name_words R R' p e s t zero h = at_zero R R' p _ s.first t.first
name_words R R' p e s t (suc zero) h = s.inode ∙ sym t.inode
name_words R R' p e s t (suc (suc zero)) h = s.time ∙ sym t.time
name_words R R' p e s t (suc (suc (suc k))) h =
    let place : p + 8 * suc (suc (suc k)) ≡ p + 24 + 8 * k = omega arith in
    let in_name : 8 * k < length e.name = omega arith in
    ap (word R) place ∙ s.name k in_name ∙ sym (t.name k in_name) ∙ sym (ap (word R') place)

next_words : (R R' : Region) (p : ℕ) → word R p ≡ word R' p → (k : ℕ) → 8 * k < 8 → word R (p + 8 * k) ≡ word R' (p + 8 * k)
next_words R R' p h zero l = at_zero R R' p _ h refl
next_words R R' p h (suc k) l = absurd (omega arith)

-- two regions where an entry stands have the same words there
pub Stands-words : (R R' : Region) (p : ℕ) (e : Entry) → Stands R p e → Stands R' p e → (k : ℕ) → 8 * k < entry_length e → word R (p + 8 * k) ≡ word R' (p + 8 * k)
Stands-words R R' p NextPage s t = next_words R R' p (s ∙ sym t)
Stands-words R R' p (Write e) s t = write_words R R' p e s t
Stands-words R R' p (Attr e) s t = attr_words R R' p e s t
Stands-words R R' p (Name e) s t = name_words R R' p e s t
Stands-words R R' p (Links e) s t = links_words R R' p e s t

-- each entry has one spelling, in bytes
pub one_spelling : (a b : List ℕ) (e : Entry) → Spells a e → Spells b e → a ≡ b
one_spelling a b e s t =
    let whole : length a % 8 ≡ 0 = omega (arith, s.len, entry_length_words e) in
    bytes_by_words a b (s.len ∙ sym t.len) whole s.each_byte t.each_byte
    (λ k h.
    let e0 : 8 * k ≡ 0 + 8 * k = omega arith in
    ap (word (region_of a)) e0 ∙ Stands-words (region_of a) (region_of b) 0 e s.words t.words k (omega (arith, s.len)) ∙ sym (ap (word (region_of b)) e0))

-- a spelling is one whatever follows it
front_stands : (a x : List ℕ) (e : Entry) → Spells a e → Stands (region_of (a ++ x)) 0 e
front_stands a x e s = Stands-same (region_of a) (region_of (a ++ x)) 0 0 e (λ d whole below. front_word a x (0 + d) (omega arith) (omega (arith, s.len, entry_length_words e))) s.words

-- no spelling begins another
pub no_spelling_begins_another : (a b x y : List ℕ) (e f : Entry) → Spells a e → Spells b f → a ++ x ≡ b ++ y → (a ≡ b) × (e ≡ f)
no_spelling_begins_another a b x y e f s t h =
    let same : e ≡ f = Stands-only (region_of (a ++ x)) 0 e f (front_stands a x e s) (rw h (front_stands b y f t)) in
    let len : length a ≡ length b = s.len ∙ ap entry_length same ∙ sym t.len in
    (sym (take-append_seam a x) ∙ ap (take (length a)) h ∙ ap (λ (n : ℕ). take n (b ++ y)) len ∙ take-append_seam b y, same)
