-- Each text says one path, or that it is none.
use Rattle.std.proofs.Common.{◌≡◌, ℕ, zero, suc, ◌<◌, ◌≤◌, ◌⊎◌, Bool, true, false, eqb, List, [], ◌∷◌, length, slice_index, Some, None, refl, sym, ◌∙◌, ap, inl, inr, arith, length-drop}
use Rattle.std.specs.Cmp.Lexicographic.{pointwise, bytes_decides}
use Rattle.std.specs.List.{position_or_len}
use Rattle.std.proofs.lemmas.Bool.{cases_eq, cases_lt, cases_Bool, both_ways}
use Rattle.std.proofs.lemmas.List.Elements.{All-nil, All-head}
use Rattle.nv_entry.specs.Content.{has_bad_byte, is_dots}
use Rattle.nv_tree.specs.Path.{IsPathName, spelled, IsPath, Says, is_slash, first_name, behind_name}
use Rattle.nv_tree.specs.Names.{Spells}
use Rattle.nv_tree.specs.Refusals.{Path}
use Rattle.nv_tree.proofs.Spelled.{one_spelling, spells_none, step_more, step_rest, step_none}

-- ---- one path at most

-- a path that begins with a name isn't `/`
longer_than_root : (name : List ℕ) (names : List (List ℕ)) → IsPathName name → 47 ∷ [] ≡ spelled (name ∷ names) → ⊥
longer_than_root [] names good same = let some = good.fits.some in omega (arith, some)
longer_than_root (b ∷ name) names good same = cc

one_path : (text : List ℕ) (a b : List (List ℕ)) → IsPath text a → IsPath text b → a ≡ b
one_path text [] [] s r = refl
one_path text [] (n ∷ b) s r = absurd (longer_than_root n b (All-head IsPathName n b r.good) (sym s.spells ∙ r.spells))
one_path text (m ∷ a) [] s r = absurd (longer_than_root m a (All-head IsPathName m a s.good) (sym r.spells ∙ s.spells))
one_path text (m ∷ a) (n ∷ b) s r = one_spelling (m ∷ a) (n ∷ b) s.good r.good (sym s.spells ∙ r.spells)

pub says_one : (text : List ℕ) (p q : Path) → Says text p → Says text q → p ≡ q
says_one text None None s r = refl
says_one text None (Some b) s r = absurd (s b r)
says_one text (Some a) None s r = absurd (r a s)
says_one text (Some a) (Some b) s r = ap (λ (names : List (List ℕ)). Some names) (one_path text a b s r)

-- ---- whether a name is one

byte_first : (b : ℕ) (bytes : List ℕ) → b < 256 → ((i : ℕ) → slice_index bytes i < 256) → (i : ℕ) → slice_index (b ∷ bytes) i < 256
byte_first b bytes low rest zero = low
byte_first b bytes low rest (suc i) = rest i

bytes_or_not : (bytes : List ℕ) → ((i : ℕ) → slice_index bytes i < 256) ⊎ (((i : ℕ) → slice_index bytes i < 256) → ⊥)
bytes_or_not [] = inl (λ i. omega arith)
bytes_or_not (b ∷ bytes) = by (cases_lt b 256) (bytes_or_not bytes)
  where
    by : (b < 256) ⊎ (256 ≤ b) → ((i : ℕ) → slice_index bytes i < 256) ⊎ (((i : ℕ) → slice_index bytes i < 256) → ⊥) → ((i : ℕ) → slice_index (b ∷ bytes) i < 256) ⊎ (((i : ℕ) → slice_index (b ∷ bytes) i < 256) → ⊥)
    by (inr high) rest = inr (λ all. let low : b < 256 = all 0 in omega arith)
    by (inl low) (inl rest) = inl (byte_first b bytes low rest)
    by (inl low) (inr none) = inr (λ all. none (λ i. all (suc i)))

pub name_or_not : (name : List ℕ) → IsPathName name ⊎ (IsPathName name → ⊥)
name_or_not name = by (cases_lt 0 (length name)) (cases_lt 255 (length name)) (bytes_or_not name) (cases_Bool (has_bad_byte name)) (cases_Bool (is_dots name))
  where
    by : (0 < length name) ⊎ (length name ≤ 0) → (255 < length name) ⊎ (length name ≤ 255) → ((i : ℕ) → slice_index name i < 256) ⊎ (((i : ℕ) → slice_index name i < 256) → ⊥)
        → (has_bad_byte name ≡ true) ⊎ (has_bad_byte name ≡ false) → (is_dots name ≡ true) ⊎ (is_dots name ≡ false) → IsPathName name ⊎ (IsPathName name → ⊥)
    by (inr none) length_is bytes bad dots = inr (λ good. let some = good.fits.some in omega (arith, some, none))
    by (inl some) (inl long) bytes bad dots = inr (λ good. let fits = good.fits.fits in omega (arith, fits, long))
    by (inl some) (inr fits) (inr no_bytes) bad dots = inr (λ good. no_bytes good.fits.bytes)
    by (inl some) (inr fits) (inl bytes) (inl bad) dots = inr (λ good. both_ways (has_bad_byte name) good.bytes bad)
    by (inl some) (inr fits) (inl bytes) (inr clean) (inl dots) = inr (λ good. both_ways (is_dots name) good.no_dots dots)
    by (inl some) (inr fits) (inl bytes) (inr clean) (inr named) = inl (record { fits = record { some = some; fits = fits; bytes = bytes }; bytes = clean; no_dots = named })

-- ---- whether a text is names

names_by : (b : ℕ) (bytes : List ℕ) → (b ≡ 47) ⊎ (b ≡ 47 → ⊥) → IsPathName (first_name (b ∷ bytes)) ⊎ (IsPathName (first_name (b ∷ bytes)) → ⊥)
    → ((names : List (List ℕ)) × Spells (behind_name (b ∷ bytes)) names) ⊎ ((names : List (List ℕ)) → Spells (behind_name (b ∷ bytes)) names → ⊥)
    → ((names : List (List ℕ)) × Spells (b ∷ bytes) names) ⊎ ((names : List (List ℕ)) → Spells (b ∷ bytes) names → ⊥)
names_by b bytes (inr other) name rest = inr (step_none (b ∷ bytes) (omega arith) (λ slash good. other slash))
names_by b bytes (inl slash) (inr bad) rest = inr (step_none (b ∷ bytes) (omega arith) (λ is good. bad good))
names_by b bytes (inl slash) (inl good) (inr none) = inr (λ all s. let r = step_rest (b ∷ bytes) (behind_name (b ∷ bytes)) (omega arith) refl all s in none r.0 r.1)
names_by b bytes (inl slash) (inl good) (inl rest) = inl (step_more (b ∷ bytes) (behind_name (b ∷ bytes)) (omega arith) slash good refl rest.0 rest.1)

names_or_not : (n : ℕ) (text : List ℕ) → length text ≤ n → ((names : List (List ℕ)) × Spells text names) ⊎ ((names : List (List ℕ)) → Spells text names → ⊥)
names_or_not zero [] short = inl ([], spells_none)
names_or_not zero (b ∷ bytes) short = absurd (omega (arith, short))
names_or_not (suc n) [] short = inl ([], spells_none)
names_or_not (suc n) (b ∷ bytes) short =
    let less : length (behind_name (b ∷ bytes)) ≤ n = omega (arith, short, length-drop (position_or_len is_slash bytes) bytes) in
    names_by b bytes (cases_eq b 47) (name_or_not (first_name (b ∷ bytes))) (names_or_not n (behind_name (b ∷ bytes)) less)

-- ---- whether a text is a path

-- neither `/` nor names
pub no_path : (text : List ℕ) → (text ≡ 47 ∷ [] → ⊥) → ((name : List ℕ) (names : List (List ℕ)) → Spells text (name ∷ names) → ⊥) → (names : List (List ℕ)) → IsPath text names → ⊥
no_path text root none [] s = root s.spells
no_path text root none (name ∷ names) s = none name names (record { spells = s.spells; good = s.good })

pub root_path : (text : List ℕ) → text ≡ 47 ∷ [] → IsPath text []
root_path text root = record { spells = root; short = let e = ap length root in omega (arith, e); good = All-nil IsPathName }

pub names_path : (text name : List ℕ) (names : List (List ℕ)) → length text ≤ 4096 → Spells text (name ∷ names) → IsPath text (name ∷ names)
names_path text name names short s = record { spells = s.spells; short = short; good = s.good }

-- an empty text is no path
pub empty_none : (text : List ℕ) → text ≡ [] → (names : List (List ℕ)) → IsPath text names → ⊥
empty_none text empty [] s = let e = s.spells in cc
empty_none text empty (name ∷ names) s = let e = s.spells in cc

path_by : (text : List ℕ) → length text ≤ 4096 → (text ≡ 47 ∷ []) ⊎ (text ≡ 47 ∷ [] → ⊥) → ((names : List (List ℕ)) × Spells text names) ⊎ ((names : List (List ℕ)) → Spells text names → ⊥) → (p : Path) × Says text p
path_by text short (inl root) names = (Some [], root_path text root)
path_by text short (inr other) (inr none) = (None, no_path text other (λ name names s. none (name ∷ names) s))
path_by text short (inr other) (inl names) = spelled_by names.0 names.1
  where
    spelled_by : (names : List (List ℕ)) → Spells text names → (p : Path) × Says text p
    spelled_by [] s = (None, empty_none text s.spells)
    spelled_by (name ∷ names) s = (Some (name ∷ names), names_path text name names short s)

is_root : (text : List ℕ) → (text ≡ 47 ∷ []) ⊎ (text ≡ 47 ∷ [] → ⊥)
is_root text = by (pointwise eqb text (47 ∷ [])) refl
  where
    by : (b : Bool) → pointwise eqb text (47 ∷ []) ≡ b → (text ≡ 47 ∷ []) ⊎ (text ≡ 47 ∷ [] → ⊥)
    by true e = inl ((bytes_decides text (47 ∷ [])).0 e)
    by false e = inr (λ root. both_ways (pointwise eqb text (47 ∷ [])) e ((bytes_decides text (47 ∷ [])).1 root))

pub text_says : (text : List ℕ) → (p : Path) × Says text p
text_says text = by (cases_lt 4096 (length text))
  where
    by : (4096 < length text) ⊎ (length text ≤ 4096) → (p : Path) × Says text p
    by (inl long) = (None, λ names s. let short = s.short in omega (arith, short, long))
    by (inr short) = path_by text short (is_root text) (names_or_not (length text) text (omega arith))
