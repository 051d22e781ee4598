-- Entries are the same where their words are.
use Rattle.std.proofs.Common.{◌≡◌, ℕ, zero, suc, ◌+◌, ◌*◌, ◌%◌, ◌<◌, ◌≤◌, List, [], ◌∷◌, ◌++◌, length, take, drop, get_or, refl, ap, sym, ◌∙◌, arith, length-drop, length-take}
use Rattle.std.proofs.lemmas.List.{take-append-drop, drop-drop}
use Rattle.nv_region.specs.Region.{Region, word}
use Rattle.nv_entry.specs.Text.{number_of, text_word}
use Rattle.nv_entry.specs.Spelling.{operation_code, words_for, IsNameAt, Stands, entry_length}
use Rattle.nv_entry.proofs.Words.{fits_take, fits_drop}
use Rattle.nv_entry.proofs.ByKind.{Stands-kind, small_operation}
use Rattle.nv_entry.specs.declared.entry.Operation.{Operation}
use Rattle.nv_entry.specs.declared.entry.Operation.TheVariants.{Add, Remove}
use Rattle.nv_entry.specs.declared.entry.WriteEntry.{WriteEntry}
use Rattle.nv_entry.specs.declared.entry.AttrEntry.{AttrEntry}
use Rattle.nv_entry.specs.declared.entry.NameEntry.{NameEntry}
use Rattle.nv_entry.specs.declared.entry.LinksEntry.{LinksEntry}
use Rattle.nv_entry.specs.declared.entry.Entry.{Entry}
use Rattle.nv_entry.specs.declared.entry.Entry.TheVariants.{NextPage, Write, Attr, Name, Links}

-- the words of n bytes from p on in one region are those from q on in the other
abbrev pub SameWords : Region → ℕ → Region → ℕ → ℕ → Type 0
SameWords R p R' q n = (d : ℕ) → d % 8 ≡ 0 → d < n → word R' (q + d) ≡ word R (p + d)

first_same : (R R' : Region) (p q n : ℕ) → 0 < n → SameWords R p R' q n → word R' q ≡ word R p
first_same R R' p q n h same =
    let left : q ≡ q + 0 = omega arith in
    let right : p + 0 ≡ p = omega arith in
    ap (word R') left ∙ same 0 (omega arith) h ∙ ap (word R) right

-- An entry stands wherever its words do.
pub Stands-same : (R R' : Region) (p q : ℕ) (e : Entry) → SameWords R p R' q (entry_length e) → Stands R p e → Stands R' q e
Stands-same R R' p q NextPage same s = first_same R R' p q 8 (omega arith) same ∙ s
Stands-same R R' p q (Write e) same s = record {
  first = first_same R R' p q 40 (omega arith) same ∙ s.first;
  offset = same 8 (omega arith) (omega arith) ∙ s.offset;
  block = same 16 (omega arith) (omega arith) ∙ s.block;
  size = same 24 (omega arith) (omega arith) ∙ s.size;
  time = same 32 (omega arith) (omega arith) ∙ s.time;
}
Stands-same R R' p q (Attr e) same s = record {
  first = first_same R R' p q 32 (omega arith) same ∙ s.first;
  size = same 8 (omega arith) (omega arith) ∙ s.size;
  time = same 16 (omega arith) (omega arith) ∙ s.time;
  owners = same 24 (omega arith) (omega arith) ∙ s.owners;
  owner = s.owner;
}
Stands-same R R' p q (Name e) same s = record {
  first = first_same R R' p q (24 + 8 * words_for (length e.name)) (omega arith) same ∙ s.first;
  inode = same 8 (omega arith) (omega arith) ∙ s.inode;
  time = same 16 (omega arith) (omega arith) ∙ s.time;
  name = λ k h.
      let there : word R' (q + (24 + 8 * k)) ≡ word R (p + (24 + 8 * k)) = same (24 + 8 * k) (omega arith) (omega arith) in
      let left : q + 24 + 8 * k ≡ q + (24 + 8 * k) = omega arith in
      let right : p + (24 + 8 * k) ≡ p + 24 + 8 * k = omega arith in
      ap (word R') left ∙ there ∙ ap (word R) right ∙ s.name k h;
  is_name = s.is_name;
}
Stands-same R R' p q (Links e) same s = record {
  first = first_same R R' p q 24 (omega arith) same ∙ s.first;
  time = same 8 (omega arith) (omega arith) ∙ s.time;
  zero_word = same 16 (omega arith) (omega arith) ∙ s.zero_word;
}

pub number_of-same : (xs ys : List ℕ) → length xs ≡ length ys → ((i : ℕ) → get_or xs i 0 < 256) → ((i : ℕ) → get_or ys i 0 < 256) → number_of xs ≡ number_of ys → xs ≡ ys
number_of-same [] [] l f g e = refl
number_of-same [] (y ∷ ys) l f g e = cc
number_of-same (x ∷ xs) [] l f g e = cc
number_of-same (x ∷ xs) (y ∷ ys) l f g e =
    let fx : x < 256 = f 0 in
    let fy : y < 256 = g 0 in
    let head : x ≡ y = omega arith in
    let rest : number_of xs ≡ number_of ys = omega arith in
    let tail : xs ≡ ys = number_of-same xs ys (omega arith) (λ i. f (suc i)) (λ i. g (suc i)) rest in
    cc

drop-8 : (k : ℕ) (xs : List ℕ) → drop (8 * (k + 1)) xs ≡ drop (8 * k) (drop 8 xs)
drop-8 k xs = ap (λ (n : ℕ). drop n xs) (let e : 8 * (k + 1) ≡ 8 + 8 * k = omega arith in e) ∙ sym (drop-drop (8 * k) 8 xs)

-- bytes of one length are the same where their words are
pub same_by_words : (m : ℕ) (xs ys : List ℕ) → length xs ≤ 8 * m → length xs ≡ length ys → ((i : ℕ) → get_or xs i 0 < 256) → ((i : ℕ) → get_or ys i 0 < 256)
    → ((k : ℕ) → 8 * k < length xs → text_word xs (8 * k) ≡ text_word ys (8 * k)) → xs ≡ ys
unfolding text_word
same_by_words zero [] [] few l f g same = refl
same_by_words zero (x ∷ xs) ys few l f g same = absurd (omega arith)
same_by_words zero [] (y ∷ ys) few l f g same = cc
same_by_words (suc m) [] [] few l f g same = refl
same_by_words (suc m) [] (y ∷ ys) few l f g same = cc
same_by_words (suc m) (x ∷ xs) ys few l f g same =
    let xs' = x ∷ xs in
    let some : 8 * 0 < length xs' = omega arith in
    let front_len : length (take 8 xs') ≡ length (take 8 ys) = simp length-take (omega arith) in
    let front : take 8 xs' ≡ take 8 ys = number_of-same (take 8 xs') (take 8 ys) front_len (fits_take 8 xs' f) (fits_take 8 ys g) (same 0 some) in
    let back : drop 8 xs' ≡ drop 8 ys =
    same_by_words m (drop 8 xs') (drop 8 ys) (simp length-drop (omega arith)) (simp length-drop (omega arith)) (fits_drop 8 xs' f) (fits_drop 8 ys g)
    (λ k h.
    let h' : 8 * (k + 1) < length xs' = omega (arith, length-drop 8 xs') in
    let e = same (k + 1) h' in
    sym (ap (λ (zs : List ℕ). number_of (take 8 zs)) (drop-8 k xs')) ∙ e ∙ ap (λ (zs : List ℕ). number_of (take 8 zs)) (drop-8 k ys)) in
    sym (take-append-drop 8 xs') ∙ ap (λ (zs : List ℕ). zs ++ drop 8 xs') front ∙ ap (λ (zs : List ℕ). take 8 ys ++ zs) back ∙ take-append-drop 8 ys

same_write : (e f : WriteEntry) → e.count ≡ f.count → e.offset ≡ f.offset → e.block ≡ f.block → e.size ≡ f.size → e.time ≡ f.time → e ≡ f
same_write e f a b c d t = λ i. record { count = a i; offset = b i; block = c i; size = d i; time = t i }

same_attr : (e f : AttrEntry) → e.mode ≡ f.mode → e.size ≡ f.size → e.time ≡ f.time → e.owner ≡ f.owner → e.group ≡ f.group → e ≡ f
same_attr e f a b c d t = λ i. record { mode = a i; size = b i; time = c i; owner = d i; group = t i }

same_name : (e f : NameEntry) → e.operation ≡ f.operation → e.inode ≡ f.inode → e.time ≡ f.time → e.name ≡ f.name → e ≡ f
same_name e f a b c d = λ i. record { operation = a i; inode = b i; time = c i; name = d i }

same_links : (e f : LinksEntry) → e.count ≡ f.count → e.time ≡ f.time → e ≡ f
same_links e f a b = λ i. record { count = a i; time = b i }

same_operation : (a b : Operation) → operation_code a ≡ operation_code b → a ≡ b
same_operation Add Add h = refl
same_operation Add Remove h = absurd (omega arith)
same_operation Remove Add h = absurd (omega arith)
same_operation Remove Remove h = refl

-- a name and its operation are one where their words are
name_parts : (R : Region) (at : ℕ) (e f : NameEntry) → IsNameAt R at e → IsNameAt R at f → (operation_code e.operation ≡ operation_code f.operation) × (length e.name ≡ length f.name)
name_parts R at e f s t = (omega (arith, s.first, t.first, s.is_name.fits, t.is_name.fits, small_operation e.operation, small_operation f.operation), omega (arith, s.first, t.first, s.is_name.fits, t.is_name.fits, small_operation e.operation, small_operation f.operation))

-- at most one entry stands at a place
pub Stands-only : (R : Region) (at : ℕ) (e f : Entry) → Stands R at e → Stands R at f → e ≡ f
Stands-only R at NextPage NextPage s t = refl
Stands-only R at (Write e) (Write f) s t = ap Write (same_write e f (omega (arith, s.first, t.first)) (sym s.offset ∙ t.offset) (sym s.block ∙ t.block) (sym s.size ∙ t.size) (sym s.time ∙ t.time))
Stands-only R at (Attr e) (Attr f) s t = ap Attr (same_attr e f (omega (arith, s.first, t.first)) (sym s.size ∙ t.size) (sym s.time ∙ t.time) (omega (arith, s.owners, t.owners, s.owner, t.owner)) (omega (arith, s.owners, t.owners, s.owner, t.owner)))
Stands-only R at (Name e) (Name f) s t =
    let p = name_parts R at e f s t in
    let text : e.name ≡ f.name = same_by_words (length e.name) e.name f.name (omega arith) p.1 s.is_name.bytes t.is_name.bytes
    (λ k h. sym (s.name k h) ∙ t.name k (omega (arith, p.1))) in
    ap Name (same_name e f (same_operation e.operation f.operation p.0) (sym s.inode ∙ t.inode) (sym s.time ∙ t.time) text)
Stands-only R at (Links e) (Links f) s t = ap Links (same_links e f (omega (arith, s.first, t.first)) (sym s.time ∙ t.time))
Stands-only R at e f s t = absurd (omega (arith, Stands-kind R at e s, Stands-kind R at f t))

pub entry_length_positive : (e : Entry) → 8 ≤ entry_length e
entry_length_positive NextPage = omega arith
entry_length_positive (Write e) = omega arith
entry_length_positive (Attr e) = omega arith
entry_length_positive (Name e) = omega arith
entry_length_positive (Links e) = omega arith

pub entry_length_words : (e : Entry) → entry_length e % 8 ≡ 0
entry_length_words NextPage = omega arith
entry_length_words (Write e) = omega arith
entry_length_words (Attr e) = omega arith
entry_length_words (Name e) = omega arith
entry_length_words (Links e) = omega arith
