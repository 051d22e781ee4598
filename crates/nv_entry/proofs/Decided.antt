-- At each place an entry is spelled, or none is.
use Rattle.std.proofs.Common.{◌≡◌, ◌⊎◌, inl, inr, ℕ, zero, suc, ◌+◌, ◌-◌, ◌*◌, ◌/◌, ◌%◌, ◌<◌, ◌≤◌, List, [], ◌++◌, length, min, get_or, refl, sym, ◌∙◌, ap, arith, length-append}
use Rattle.std.proofs.lemmas.Bool.{cases_eq, cases_lt}
use Rattle.nv_region.specs.Region.{Region, word}
use Rattle.nv_entry.specs.Digits.{low_bytes, high_part}
use Rattle.nv_entry.specs.Name.{IsName}
use Rattle.nv_entry.specs.Spelling.{first_word, operation_code, words_for, IsTextAt, IsWriteAt, IsAttrAt, IsNameAt, IsLinksAt, Stands}
use Rattle.nv_entry.proofs.Words.{TextBelow, text_more, name_refused, fits_append, low_bytes_fit, length-low_bytes}
use Rattle.nv_entry.proofs.ByKind.{small_operation}
use Rattle.nv_entry.specs.declared.entry.Operation.{Operation}
use Rattle.nv_entry.specs.declared.entry.Operation.TheVariants.{Add, Remove}
use Rattle.nv_entry.specs.declared.entry.WriteEntry.{WriteEntry}
use Rattle.nv_entry.specs.declared.entry.AttrEntry.{AttrEntry}
use Rattle.nv_entry.specs.declared.entry.NameEntry.{NameEntry}
use Rattle.nv_entry.specs.declared.entry.LinksEntry.{LinksEntry}
use Rattle.nv_entry.specs.declared.entry.Entry.{Entry}
use Rattle.nv_entry.specs.declared.entry.Entry.TheVariants.{NextPage, Write, Attr, Name, Links}

-- something has the property, or nothing has
abbrev SomeOrNone : (A : Type 0) → (A → Type 0) → Type 0
SomeOrNone A P = ((x : A) × P x) ⊎ ((x : A) → P x → ⊥)

-- a name of n bytes stands in the words from a place on
record IsNameOf (R : Region) (at n : ℕ) (name : List ℕ) : Type 0 where
  text : IsTextAt R at name
  is : IsName name
  len : length name ≡ n

module _ (R : Region) (at n : ℕ) (some : 0 < n) (fits : n ≤ 255) where
  -- a byte above the name's in its word k
  no_name : (k : ℕ) → 8 * k < n → 0 < high_part (min (n - 8 * k) 8) (word R (at + 8 * k)) → (name : List ℕ) → IsNameOf R at n name → ⊥
  no_name k within high name is =
      let e : n ≡ length name = sym is.len in
      let in_name : 8 * k < length name = omega (arith, is.len, within) in
      name_refused R at k (word R (at + 8 * k)) (min (n - 8 * k) 8) name is.text is.is in_name refl (ap (λ (m : ℕ). min (m - 8 * k) 8) e) high

  -- with one word more, the bytes of the words so far
  more : (k : ℕ) (items : List ℕ) → length items ≡ 8 * k → high_part (min (n - 8 * k) 8) (word R (at + 8 * k)) ≡ 0 → TextBelow R at items k
      → TextBelow R at (items ++ low_bytes (min (n - 8 * k) 8) (word R (at + 8 * k))) (k + 1)
  more k items len none below = text_more R at k (word R (at + 8 * k)) (min (n - 8 * k) 8) items _ len (omega arith) refl refl none below

  length_more : (k w : ℕ) (items : List ℕ) → length items ≡ 8 * k → length (items ++ low_bytes (min (n - 8 * k) 8) w) ≡ 8 * k + min (n - 8 * k) 8
  length_more k w items len = length-append items (low_bytes (min (n - 8 * k) 8) w) ∙ (rw (length-low_bytes (min (n - 8 * k) 8) w, len) refl)

  whole : (k : ℕ) (name : List ℕ) → n ≤ 8 * (k + 1) → length name ≡ n → ((i : ℕ) → get_or name i 0 < 256) → TextBelow R at name (k + 1) → IsNameOf R at n name
  whole k name few len bytes below = record {
    text = λ j h. below j (omega (arith, h, len, few));
    is = record { some = omega (arith, len, some); fits = omega (arith, len, fits); bytes = bytes };
    len = len;
  }

  -- whether a name goes on from its word k, with so many words left
  name_from : (m k : ℕ) (items : List ℕ) → n ≤ 8 * (k + m) → 8 * k < n → length items ≡ 8 * k → ((i : ℕ) → get_or items i 0 < 256) → TextBelow R at items k → SomeOrNone (List ℕ) (IsNameOf R at n)
  name_from zero k items left within len bytes below = absurd (omega arith)
  name_from (suc m) k items left within len bytes below =
      let part = min (n - 8 * k) 8 in
      let w = word R (at + 8 * k) in
      let new = items ++ low_bytes part w in
      elim (cases_eq (high_part part w) 0) [
        | inr high ↦ inr (no_name k within (omega (arith, high)))
        | inl none ↦
            let below' : TextBelow R at new (k + 1) = more k items len none below in
            let len' : length new ≡ 8 * k + part = length_more k w items len in
            let bytes' : (i : ℕ) → get_or new i 0 < 256 = fits_append items (low_bytes part w) bytes (low_bytes_fit part w) in
            elim (cases_lt (8 * (k + 1)) n) [
              | inl goes_on ↦ name_from m (k + 1) new (omega (arith, left)) goes_on (omega (arith, len', goes_on)) bytes' below'
              | inr last ↦ inl (new, whole k new last (omega (arith, len', last, within)) bytes' below')
            ]
      ]

  name_or_none : SomeOrNone (List ℕ) (IsNameOf R at n)
  name_or_none = name_from n 0 [] (omega arith) (omega arith) refl (λ i. omega arith) (λ j h. absurd (omega arith))

write_or_none : (R : Region) (at : ℕ) → SomeOrNone WriteEntry (IsWriteAt R at)
write_or_none R at = elim (cases_eq (word R at % 4294967296) 2621441) [
  | inl is ↦ inl (
    record { count = word R at / 4294967296; offset = word R (at + 8); block = word R (at + 16); size = word R (at + 24); time = word R (at + 32) },
    record { first = omega (arith, is); offset = refl; block = refl; size = refl; time = refl },
  )
  | inr differs ↦ inr (λ e s. differs (omega (arith, s.first)))
]

attr_or_none : (R : Region) (at : ℕ) → SomeOrNone AttrEntry (IsAttrAt R at)
attr_or_none R at = elim (cases_eq (word R at % 4294967296) 2097154) [
  | inl is ↦ inl (
    record { mode = word R at / 4294967296; size = word R (at + 8); time = word R (at + 16); owner = word R (at + 24) % 4294967296; group = word R (at + 24) / 4294967296 },
    record { first = omega (arith, is); size = refl; time = refl; owners = omega arith; owner = omega arith },
  )
  | inr differs ↦ inr (λ e s. differs (omega (arith, s.first)))
]

links_or_none : (R : Region) (at : ℕ) → SomeOrNone LinksEntry (IsLinksAt R at)
links_or_none R at = elim (cases_eq (word R at % 4294967296) 1572868) [
  | inr differs ↦ inr (λ e s. differs (omega (arith, s.first)))
  | inl is ↦ elim (cases_eq (word R (at + 16)) 0) [
    | inl zero_word ↦ inl (record { count = word R at / 4294967296; time = word R (at + 8) }, record { first = omega (arith, is); time = refl; zero_word = zero_word })
    | inr differs ↦ inr (λ e s. differs s.zero_word)
  ]
]

-- a name entry with this operation
record IsNameBy (R : Region) (at : ℕ) (o : Operation) (e : NameEntry) : Type 0 where
  stands : IsNameAt R at e
  by : e.operation ≡ o

-- the length of an entry's name, by its first word
name_length : (R : Region) (at : ℕ) (e : NameEntry) → IsNameAt R at e → length e.name ≡ word R at / 4294967296
name_length R at e s = omega (arith, s.first, s.is_name.fits, small_operation e.operation)

-- the first word of a name entry with this operation and a name of so many bytes
abbrev first_by : Operation → ℕ → ℕ
first_by o n = first_word 3 (operation_code o) (24 + 8 * words_for n) n

first_is : (R : Region) (at n : ℕ) (o : Operation) (e : NameEntry) → n ≡ word R at / 4294967296 → IsNameBy R at o e → word R at ≡ first_by o n
first_is R at n o e same s =
    let len : length e.name ≡ n = name_length R at e s.stands ∙ sym same in
    s.stands.first ∙ ap (λ (b : Operation). first_by b (length e.name)) s.by ∙ ap (first_by o) len

module _ (R : Region) (at n : ℕ) (o : Operation) (same : n ≡ word R at / 4294967296) where
  len_is : (e : NameEntry) → IsNameBy R at o e → length e.name ≡ n
  len_is e s = name_length R at e s.stands ∙ sym same

  -- the entry that this name makes, where the first word is right
  with_name : word R at ≡ first_by o n → SomeOrNone (List ℕ) (IsNameOf R (at + 24) n) → SomeOrNone NameEntry (IsNameBy R at o)
  with_name first (inl name) = inl (
    record { operation = o; inode = word R (at + 8); time = word R (at + 16); name = name.0 },
    record {
      stands = record {
        first = first ∙ sym (ap (first_by o) name.1.len);
        inode = refl;
        time = refl;
        name = name.1.text;
        is_name = name.1.is;
      };
      by = refl;
    },
  )
  with_name first (inr none) = inr (λ e s. none e.name (record { text = s.stands.name; is = s.stands.is_name; len = len_is e s }))

  named_or_none : SomeOrNone NameEntry (IsNameBy R at o)
  named_or_none = elim (cases_eq (word R at) (first_by o n)) [
    | inr differs ↦ inr (λ e s. differs (first_is R at n o e same s))
    | inl is ↦ elim (cases_lt 0 n) [
      | inr empty ↦ inr (λ e s. absurd (omega (arith, len_is e s, empty, s.stands.is_name.some)))
      | inl some ↦ elim (cases_lt n 256) [
        | inr long ↦ inr (λ e s. absurd (omega (arith, len_is e s, long, s.stands.is_name.fits)))
        | inl short ↦ with_name is (name_or_none R (at + 24) n some (omega (arith, short)))
      ]
    ]
  ]

either_operation : (R : Region) (at : ℕ) (e : NameEntry) (o : Operation) → IsNameAt R at e → e.operation ≡ o
    → ((x : NameEntry) → IsNameBy R at Add x → ⊥) → ((x : NameEntry) → IsNameBy R at Remove x → ⊥) → ⊥
either_operation R at e Add s by no_add no_remove = no_add e (record { stands = s; by = by })
either_operation R at e Remove s by no_add no_remove = no_remove e (record { stands = s; by = by })

name_entry_or_none : (R : Region) (at : ℕ) → SomeOrNone NameEntry (IsNameAt R at)
name_entry_or_none R at = elim (named_or_none R at (word R at / 4294967296) Add refl) [
  | inl add ↦ inl (add.0, add.1.stands)
  | inr no_add ↦ elim (named_or_none R at (word R at / 4294967296) Remove refl) [
    | inl remove ↦ inl (remove.0, remove.1.stands)
    | inr no_remove ↦ inr (λ e s. either_operation R at e e.operation s refl no_add no_remove)
  ]
]

-- at each place an entry is spelled, or none is
pub entry_or_none : (R : Region) (at : ℕ) → ((e : Entry) × Stands R at e) ⊎ ((e : Entry) → Stands R at e → ⊥)
entry_or_none R at =
    first_found (cases_eq (word R at) (first_word 0 0 8 0)) (write_or_none R at) (attr_or_none R at) (name_entry_or_none R at) (links_or_none R at)
  where
    no_entry : (word R at ≡ first_word 0 0 8 0 → ⊥) → ((e : WriteEntry) → IsWriteAt R at e → ⊥) → ((e : AttrEntry) → IsAttrAt R at e → ⊥) → ((e : NameEntry) → IsNameAt R at e → ⊥)
        → ((e : LinksEntry) → IsLinksAt R at e → ⊥) → (e : Entry) → Stands R at e → ⊥
    no_entry next write attr name links NextPage s = next s
    no_entry next write attr name links (Write e) s = write e s
    no_entry next write attr name links (Attr e) s = attr e s
    no_entry next write attr name links (Name e) s = name e s
    no_entry next write attr name links (Links e) s = links e s

    first_found : (word R at ≡ first_word 0 0 8 0) ⊎ (word R at ≡ first_word 0 0 8 0 → ⊥) → SomeOrNone WriteEntry (IsWriteAt R at) → SomeOrNone AttrEntry (IsAttrAt R at)
        → SomeOrNone NameEntry (IsNameAt R at) → SomeOrNone LinksEntry (IsLinksAt R at) → SomeOrNone Entry (Stands R at)
    first_found (inl s) write attr name links = inl (NextPage, s)
    first_found (inr next) (inl s) attr name links = inl (Write s.0, s.1)
    first_found (inr next) (inr write) (inl s) name links = inl (Attr s.0, s.1)
    first_found (inr next) (inr write) (inr attr) (inl s) links = inl (Name s.0, s.1)
    first_found (inr next) (inr write) (inr attr) (inr name) (inl s) = inl (Links s.0, s.1)
    first_found (inr next) (inr write) (inr attr) (inr name) (inr links) = inr (no_entry next write attr name links)
