-- How many names an index has, by what each stands for.
use Rattle.std.proofs.Common.{◌≡◌, ℕ, ◌+◌, ◌-◌, Bool, true, false, cond, ◌||◌, nat_eq, List, [], ◌∷◌, length, is_some, refl, ap, sym, ◌∙◌, arith, Option, Some, None}
use Rattle.std.specs.Cmp.Lexicographic.{pointwise, nat_list_eq_equiv}
use Rattle.std.specs.List.{IsDistinct, AllByRecursion}
use Rattle.std.specs.Option.{option_map}
use Rattle.std.specs.Set.{is_member}
use Rattle.std.proofs.lemmas.List.{length-map}
use Rattle.std.proofs.lemmas.Map.Keys.{IsDistinct-cons}
use Rattle.std.proofs.lemmas.Map.Made.{length-from_same_keys}
use Rattle.nv_super.proofs.Sorted.{same_keys}
use Rattle.nv_names.specs.Names.{EachOnce, Names, found_in, name_at, names_of}
use Rattle.nv_commit.proofs.Called.{first_some}

-- a name is found where it is one of the names
found_member : (es : List (List ℕ × ℕ × ℕ)) (q : List ℕ) → is_member (pointwise nat_eq) (names_of es) q ≡ is_some (found_in es q)
found_member [] q = refl
found_member (e ∷ es) q = by (pointwise nat_eq q e.0) (found_member es q) where
  by : (b : Bool) → is_member (pointwise nat_eq) (names_of es) q ≡ is_some (found_in es q) → (b || is_member (pointwise nat_eq) (names_of es) q) ≡ is_some (cond b (Some (e.1, e.2)) (found_in es q))
  by true rest = refl
  by false rest = rest

-- a name that isn't found is none of the names
apart : (es : List (List ℕ × ℕ × ℕ)) (name : List ℕ) → found_in es name ≡ None → AllByRecursion (λ (k : List ℕ). pointwise nat_eq name k ≡ false) (names_of es)
apart [] name none = tt
apart (e ∷ es) name none = by (pointwise nat_eq name e.0) refl (apart es name) none where
  by : (b : Bool) → pointwise nat_eq name e.0 ≡ b → (found_in es name ≡ None → AllByRecursion (λ (k : List ℕ). pointwise nat_eq name k ≡ false) (names_of es)) → cond b (Some (e.1, e.2)) (found_in es name) ≡ None
      → (pointwise nat_eq name e.0 ≡ false) × AllByRecursion (λ (k : List ℕ). pointwise nat_eq name k ≡ false) (names_of es)
  by true is rest none = absurd (cc)
  by false is rest none = (is, rest none)

some_either : (b : Bool) (x : ℕ × ℕ) (o : Option (ℕ × ℕ)) → is_some (cond b (Some x) o) ≡ (b || is_some o)
some_either true x o = refl
some_either false x o = refl

-- An index that has one name more has one more.
pub one_more : (old new : Names) (name : List ℕ) (x : ℕ × ℕ) → EachOnce old → EachOnce new → name_at old name ≡ None → ((q : List ℕ) → name_at new q ≡ cond (pointwise nat_eq q name) (Some x) (name_at old q)) → length new.names ≡ length old.names + 1
one_more old new name x once once_now none names =
    let more : IsDistinct (pointwise nat_eq) (name ∷ names_of old.names) = IsDistinct-cons (pointwise nat_eq) name (names_of old.names) (apart old.names name none) once in
    let same : (q : List ℕ) → is_member (pointwise nat_eq) (names_of new.names) q ≡ is_member (pointwise nat_eq) (name ∷ names_of old.names) q =
    λ q. found_member new.names q ∙ ap (λ (o : Option (ℕ × ℕ)). is_some o) (names q) ∙ some_either (pointwise nat_eq q name) x (name_at old q) ∙ ap (λ (b : Bool). pointwise nat_eq q name || b) (sym (found_member old.names q)) in
    let counted : length (names_of new.names) ≡ length (name ∷ names_of old.names) = length-from_same_keys nat_list_eq_equiv (names_of new.names) (name ∷ names_of old.names) once_now more same in
    let there : length (names_of new.names) ≡ length new.names = length-map new.names (λ e. e.0) in
    let before : length (names_of old.names) ≡ length old.names = length-map old.names (λ e. e.0) in
    omega (arith, counted, there, before)

-- An index with the same names has as many.
pub as_many : (old new : Names) → EachOnce old → EachOnce new → ((q : List ℕ) → name_at new q ≡ name_at old q) → length new.names ≡ length old.names
as_many old new once once_now names =
    let same : (q : List ℕ) → is_member (pointwise nat_eq) (names_of new.names) q ≡ is_member (pointwise nat_eq) (names_of old.names) q =
    λ q. found_member new.names q ∙ ap (λ (o : Option (ℕ × ℕ)). is_some o) (names q) ∙ sym (found_member old.names q) in
    let counted : length (names_of new.names) ≡ length (names_of old.names) = length-from_same_keys nat_list_eq_equiv (names_of new.names) (names_of old.names) once_now once same in
    sym (length-map new.names (λ e. e.0)) ∙ counted ∙ length-map old.names (λ e. e.0)

-- a name is the one that it is equal to
same_name : (o old : Option (ℕ × ℕ)) (b : Bool) (x : ℕ × ℕ) → (b ≡ true → old ≡ Some x) → o ≡ cond b None old → old ≡ cond b (Some x) o
same_name o old true x is now = is refl
same_name o old false x is now = sym now

-- An index that has one name less has one less.
pub one_less : (old new : Names) (name : List ℕ) (j : ℕ) → EachOnce old → EachOnce new → option_map (λ (x : ℕ × ℕ). x.0) (name_at old name) ≡ Some j → ((q : List ℕ) → name_at new q ≡ cond (pointwise nat_eq q name) None (name_at old q)) → length new.names ≡ length old.names - 1
one_less old new name j once once_now there names =
    let x = first_some (name_at old name) j there in
    let same : (q : List ℕ) → pointwise nat_eq q name ≡ true → q ≡ name = λ q e. same_keys q name e in
    let none : name_at new name ≡ None = names name ∙ ap (λ (b : Bool). cond b None (name_at old name)) (nat_list_eq_equiv.refl name) in
    let back : (q : List ℕ) → name_at old q ≡ cond (pointwise nat_eq q name) (Some x.0) (name_at new q) = λ q. same_name (name_at new q) (name_at old q) (pointwise nat_eq q name) x.0 (λ e. ap (name_at old) (same q e) ∙ x.1) (names q) in
    let more = one_more new old name x.0 once_now once none back in
    omega (arith, more)
