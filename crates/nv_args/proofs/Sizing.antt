-- Which size a text is: the letter behind its digits is the only one.
use Rattle.std.proofs.Common.{rules, ◌≡◌, ◌∙◌, ◌*◌, ◌^◌, ◌<◌, ◌==◌, inl, inr, ℕ, Bool, true, false, cond, refl, sym, ap, subst, List, [], ◌∷◌, ◌++◌, drop, slice_index, Option, Some, None, IfSome, Bor, append-nil, codes, is_some}
use Rattle.std.specs.Char.{digit_value}
use Rattle.std.specs.Str.Parse.{AllDigits, IsNumeral}
use Rattle.std.specs.Str.Pattern.{FindsCharSuffix}
use Rattle.std.proofs.lemmas.Str.Pattern.{strip_suffix_char}
use Rattle.std.proofs.lemmas.Bool.{true≢false}
use Rattle.std.proofs.lemmas.List.{append_cancel_right}
use Rattle.clap.specs.Walk.{Row, Text, first_of}
use Rattle.nv_args.specs.declared.todo.LayoutVersion.{LayoutVersion}
use Rattle.nv_args.specs.declared.todo.Todo.{Todo}
use Rattle.nv_args.specs.declared.todo.Todo.TheVariants.{Mkfs}
use Rattle.nv_args.specs.Words.{AreNumbers, Asks, IsLayout, IsNumber, IsSize, MayBeNumber, SizeOf, version_number}
use Rattle.nv_args.proofs.Spelling.{IsBefore}

abbrev is_nil : Text → Bool
is_nil [] = true
is_nil (x ∷ xs) = false

last_digit : (front : Text) (c : ℕ) → AllDigits 10 (front ++ c ∷ []) → digit_value c < 10
last_digit [] c all = all.0
last_digit (x ∷ front) c all = last_digit front c all.1

after_plus : (front : Text) (c : ℕ) (plus : Bool) → IsNumeral 10 (drop (cond plus 1 0) (front ++ c ∷ [])) → digit_value c < 10
after_plus front c false is = last_digit front c is.1
after_plus [] c true is = absurd (search rules)
after_plus (x ∷ front) c true is = last_digit front c is.1

-- a number ends with a digit
ends_with_digit : (front : Text) (c n : ℕ) → IsNumber (Some (front ++ c ∷ [])) n → digit_value c < 10
ends_with_digit front c n is = after_plus front c (slice_index (front ++ c ∷ []) 0 == 43) is.0

never_empty : (ys : Text) (b : ℕ) → [] ≡ ys ++ b ∷ [] → ⊥
never_empty [] b same = true≢false (ap is_nil same)
never_empty (y ∷ ys) b same = true≢false (ap is_nil same)

same_last : (xs ys : Text) (a b : ℕ) → xs ++ a ∷ [] ≡ ys ++ b ∷ [] → a ≡ b
same_last [] [] a b same = ap (λ l. slice_index l 0) same
same_last [] (y ∷ ys) a b same = absurd (never_empty ys b (ap (drop 1) same))
same_last (x ∷ xs) [] a b same = absurd (never_empty xs a (ap (drop 1) (sym same)))
same_last (x ∷ xs) (y ∷ ys) a b same = same_last xs ys a b (ap (drop 1) same)

by_letter : (text : Text) (x : Bor Text) (c u blocks : ℕ) (s : SizeOf text blocks)
    → ((number blocks : ℕ) → IsNumber (Some x.now) number → number * u ≡ blocks * 4096 → number * u < 2 ^ 64 → ⊥)
    → (d v : ℕ) → text ≡ x.now ++ c ∷ [] → s.digits ++ d ∷ [] ≡ s.digits ++ s.letter → (c ≡ d → u ≡ v) → s.unit ≡ v → ⊥
by_letter text x c u blocks s none d v is behind unit_is unit =
    let both : s.digits ++ d ∷ [] ≡ x.now ++ c ∷ [] = behind ∙ sym s.parts ∙ is in
    let d_is : d ≡ c = same_last s.digits x.now d c both in
    let digits_are : s.digits ≡ x.now = append_cancel_right _ _ (c ∷ []) (ap (λ e. s.digits ++ e ∷ []) (sym d_is) ∙ both) in
    let u_is : s.unit ≡ u = unit ∙ sym (unit_is (sym d_is)) in
    none s.number blocks (subst (λ t. IsNumber (Some t) s.number) digits_are s.is_number) (subst (λ w. s.number * w ≡ blocks * 4096) u_is s.whole) (subst (λ w. s.number * w < 2 ^ 64) u_is s.fits)

-- the letter that a size ends with is the one behind its digits
pub ends_with : (text : Text) (x : Bor Text) (c u blocks : ℕ) → c < 128 → IsBefore c text x.now → (digit_value c < 10 → ⊥)
    → (c ≡ 75 → u ≡ 2 ^ 10) → (c ≡ 77 → u ≡ 2 ^ 20) → (c ≡ 71 → u ≡ 2 ^ 30) → SizeOf text blocks
    → ((number blocks : ℕ) → IsNumber (Some x.now) number → number * u ≡ blocks * 4096 → number * u < 2 ^ 64 → ⊥) → ⊥
ends_with text x c u blocks ascii before not_digit k m g s none =
    let is : text ≡ x.now ++ c ∷ [] = strip_suffix_char c text (Some x) before ascii in
    elim s.is_unit [
      | inl bare ↦ (
          let same : s.digits ≡ x.now ++ c ∷ [] = sym (append-nil s.digits) ∙ ap (λ l. s.digits ++ l) (sym bare.0) ∙ sym s.parts ∙ is in
          not_digit (ends_with_digit x.now c s.number (subst (λ d. IsNumber (Some d) s.number) same s.is_number)))
      | inr (inl l) ↦ by_letter text x c u blocks s none 75 (2 ^ 10) is (ap (λ l. s.digits ++ l) (sym l.0)) k l.1
      | inr (inr (inl l)) ↦ by_letter text x c u blocks s none 77 (2 ^ 20) is (ap (λ l. s.digits ++ l) (sym l.0)) m l.1
      | inr (inr (inr l)) ↦ by_letter text x c u blocks s none 71 (2 ^ 30) is (ap (λ l. s.digits ++ l) (sym l.0)) g l.1
    ]

without : (text : Text) (c : ℕ) → c < 128 → FindsCharSuffix c text None → (s : Text) (l : Text) → text ≡ s ++ l → l ≡ c ∷ [] → ⊥
without text c ascii finds s l is letter = strip_suffix_char c text None finds ascii s (is ∙ ap (λ l. s ++ l) letter)

-- a size that ends with none of the letters has none
pub ends_bare : (text : Text) (blocks : ℕ) → FindsCharSuffix 75 text None → FindsCharSuffix 77 text None → FindsCharSuffix 71 text None → SizeOf text blocks
    → ((number blocks : ℕ) → IsNumber (Some text) number → number * 1 ≡ blocks * 4096 → number * 1 < 2 ^ 64 → ⊥) → ⊥
ends_bare text blocks k m g s none = elim s.is_unit [
  | inl bare ↦ (
      let same : s.digits ≡ text = sym (append-nil s.digits) ∙ ap (λ l. s.digits ++ l) (sym bare.0) ∙ sym s.parts in
      none s.number blocks (subst (λ d. IsNumber (Some d) s.number) same s.is_number) (subst (λ u. s.number * u ≡ blocks * 4096) bare.1 s.whole)
      (subst (λ u. s.number * u < 2 ^ 64) bare.1 s.fits))
  | inr (inl l) ↦ without text 75 (search rules) k s.digits s.letter s.parts l.0
  | inr (inr (inl l)) ↦ without text 77 (search rules) m s.digits s.letter s.parts l.0
  | inr (inr (inr l)) ↦ without text 71 (search rules) g s.digits s.letter s.parts l.0
]

-- the size of so many bytes
pub bare_size : (text : Text) (r : Option ℕ)
    → IfSome r (λ blocks. (number : ℕ) × IsNumber (Some text) number × (number * 1 ≡ blocks * 4096) × (number * 1 < 2 ^ 64)) → IfSome r (SizeOf text)
bare_size text (Some blocks) of = record {
  digits = text;
  letter = [];
  number = of.0;
  unit = 1;
  parts = sym (append-nil text);
  is_number = of.1;
  is_unit = inl (refl, refl);
  whole = of.2;
  fits = of.3;
}
bare_size text None of = tt

some_is_none : {T : Type 0} {x : T} → Some x ≡ None → ⊥
some_is_none same = true≢false (ap is_some same)

-- where a size is written, the numbers are those by size
pub no_numbers : (values : List Row) (blocks : ℕ) (cpus tables : Option ℕ) (size : Text) → first_of (codes "size") values ≡ Some size
    → AreNumbers values blocks cpus tables
    → ((blocks : ℕ) (cpus tables : Option ℕ) → SizeOf size blocks → MayBeNumber (first_of (codes "cpus") values) cpus
    → ¬ MayBeNumber (first_of (codes "tables") values) tables) → ⊥
no_numbers values blocks cpus tables size given (inl all) none = absurd (some_is_none (sym given ∙ all.0))
no_numbers values blocks cpus tables size given (inr by_size) none =
    none blocks cpus tables (subst (λ written. IsSize written blocks) given by_size.1) by_size.2 by_size.3

-- and where no numbers are written, no new image is asked for
pub no_image : (values : List Row) → ((blocks : ℕ) (cpus tables : Option ℕ) → ¬ AreNumbers values blocks cpus tables) → (todo : Todo)
    → ¬ Asks (codes "mkfs") values todo
no_image values none (Mkfs image blocks cpus tables layout force) asks = none blocks cpus tables asks.1.1
no_image values none _ asks = search rules

-- nor is one where no layout is written
pub no_layout : (values : List Row) → ((layout : LayoutVersion) → ¬ IsLayout (first_of (codes "layout") values) layout) → (todo : Todo)
    → ¬ Asks (codes "mkfs") values todo
no_layout values none (Mkfs image blocks cpus tables layout force) asks = none layout asks.1.2
no_layout values none _ asks = search rules

-- what is neither left out nor a number is no layout
pub no_version : (written : Option Text) → ((number : Option ℕ) → ¬ MayBeNumber written number) → (layout : LayoutVersion) → ¬ IsLayout written layout
no_version None none layout is = none None refl
no_version (Some text) none layout is = none (Some (version_number layout)) is
