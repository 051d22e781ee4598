-- Texts of names, each behind a `/`: where the first name ends, and that a text spells one list of names at most.
use Rattle.std.proofs.Common.{◌≡◌, ℕ, suc, ◌+◌, ◌<◌, Bool, true, false, not, ◌||◌, cond, All, List, [], ◌∷◌, ◌++◌, length, get_or, take, nat_lt, Some, None, refl, sym, ◌∙◌, ap, subst, arith, eqb}
use Rattle.std.proofs.Math.Dec.{eqb-suc-zero}
use Rattle.std.specs.List.{position, position_or_len}
use Rattle.std.specs.Option.{unwrap_or}
use Rattle.std.proofs.lemmas.Bool.{ltb-false}
use Rattle.std.proofs.lemmas.List.Sums.{prefix_len-le-length}
use Rattle.std.proofs.lemmas.List.{take_at, drop_at, take-append-drop}
use Rattle.std.proofs.lemmas.List.Elements.{All-nil, All-cons, All-head, All-tail}
use Rattle.nv_entry.specs.Content.{has_bad_byte}
use Rattle.nv_tree.specs.Path.{IsPathName, spelled, is_slash, first_name, behind_name}
use Rattle.nv_tree.specs.Names.{Spells}

-- neither of two tests
neither : (x y : Bool) → (x || y) ≡ false → (x ≡ false) × (y ≡ false)
neither true y h = absurd (cc)
neither false y h = (refl, h)

-- a name without `/` ends where the next one begins
name_ends : (name : List ℕ) (names : List (List ℕ)) → has_bad_byte name ≡ false → position_or_len is_slash (name ++ spelled names) ≡ length name
name_ends [] [] h = refl
name_ends [] (n ∷ names) h = refl
name_ends (b ∷ name) names h =
    let parts = neither (eqb b 0 || eqb b 47) (has_bad_byte name) h in
    let other = neither (eqb b 0) (eqb b 47) parts.0 in
    ap (λ t. cond (not t) (1 + position_or_len is_slash (name ++ spelled names)) 0) other.1 ∙ omega (arith, name_ends name names parts.1)

-- the first name of a text of names, and the text of the others
pub first_spelled : (text name : List ℕ) (names : List (List ℕ)) → All IsPathName (name ∷ names) → text ≡ spelled (name ∷ names) → (first_name text ≡ name) × (behind_name text ≡ spelled names)
first_spelled text name names good whole =
    let here = All-head IsPathName name names good in
    let end = name_ends name names here.bytes in
    (ap first_name whole ∙ take_at name (spelled names) _ (sym end), ap behind_name whole ∙ drop_at name (spelled names) _ (sym end))

-- a text of names tells them
pub one_spelling : (a b : List (List ℕ)) → All IsPathName a → All IsPathName b → spelled a ≡ spelled b → a ≡ b
one_spelling [] [] f g h = refl
one_spelling [] (n ∷ b) f g h = cc
one_spelling (m ∷ a) [] f g h = cc
one_spelling (m ∷ a) (n ∷ b) f g h =
    let left = first_spelled (spelled (m ∷ a)) m a f refl in
    let right = first_spelled (spelled (m ∷ a)) n b g h in
    let names : m ≡ n = sym left.0 ∙ right.0 in
    let rest : spelled a ≡ spelled b = sym left.1 ∙ right.1 in
    let others = one_spelling a b (All-tail IsPathName m a f) (All-tail IsPathName n b g) rest in
    cc

-- ---- one name more

-- no name
pub spells_none : Spells [] []
spells_none = record { spells = refl; good = All-nil IsPathName }

-- a name before those that the rest spells
pub spells_more : (bytes : List ℕ) (names : List (List ℕ)) → IsPathName (first_name (47 ∷ bytes)) → Spells (behind_name (47 ∷ bytes)) names → Spells (47 ∷ bytes) (first_name (47 ∷ bytes) ∷ names)
spells_more bytes names name rest = record {
  spells = ap (λ t. 47 ∷ t) (sym (take-append-drop (position_or_len is_slash bytes) bytes) ∙ ap (λ t. take (position_or_len is_slash bytes) bytes ++ t) rest.spells);
  good = All-cons IsPathName _ names name rest.good;
}

-- what a text of names that has a byte begins with, and what the rest spells
pub spells_rest : (b : ℕ) (bytes : List ℕ) (names : List (List ℕ)) → Spells (b ∷ bytes) names → (b ≡ 47) × IsPathName (first_name (b ∷ bytes)) × (others : List (List ℕ)) × Spells (behind_name (b ∷ bytes)) others
spells_rest b bytes [] s = let e : b ∷ bytes ≡ [] = s.spells in absurd (cc)
spells_rest b bytes (name ∷ names) s =
    let cut = first_spelled (b ∷ bytes) name names s.good s.spells in
    let e = s.spells in
    let byte : b ≡ 47 = cc in
    (byte, subst IsPathName (sym cut.0) (All-head IsPathName name names s.good), names, record { spells = cut.1; good = All-tail IsPathName name names s.good })

-- ---- a step of the loop over the names

-- where what was cut off is a name, the rest goes on with it
pub step_more : (rest others : List ℕ) → 0 < length rest → get_or rest 0 0 ≡ 47 → IsPathName (first_name rest) → others ≡ behind_name rest → (names : List (List ℕ)) → Spells others names → (all : List (List ℕ)) × Spells rest all
step_more [] others some byte name cut names s = absurd (omega (arith, some))
step_more (b ∷ bytes) others some byte name cut names s =
    let r : b ∷ bytes ≡ 47 ∷ bytes = ap (λ t. t ∷ bytes) byte in
    let good : IsPathName (first_name (47 ∷ bytes)) = name in
    let left : Spells (behind_name (47 ∷ bytes)) names = subst (λ t. Spells t names) cut s in
    (first_name (47 ∷ bytes) ∷ names, subst (λ t. Spells t (first_name (47 ∷ bytes) ∷ names)) (sym r) (spells_more bytes names good left))

-- what spells the rest spells what was left behind the cut
pub step_rest : (rest others : List ℕ) → 0 < length rest → others ≡ behind_name rest → (all : List (List ℕ)) → Spells rest all → (names : List (List ℕ)) × Spells others names
step_rest [] others some cut all s = absurd (omega (arith, some))
step_rest (b ∷ bytes) others some cut all s =
    let r = spells_rest b bytes all s in
    (r.2, subst (λ t. Spells t r.2) (sym cut) r.3)

-- what begins with no `/`, or with no name, spells nothing
pub step_none : (rest : List ℕ) → 0 < length rest → ((get_or rest 0 0 ≡ 47) → IsPathName (first_name rest) → ⊥) → (all : List (List ℕ)) → Spells rest all → ⊥
step_none [] some bad all s = omega (arith, some)
step_none (b ∷ bytes) some bad all s =
    let r = spells_rest b bytes all s in
    bad r.0 r.1

-- the place of the next `/`, as the code finds it
pub slash_or_end : (bytes : List ℕ) → unwrap_or (position is_slash bytes) (length bytes) ≡ position_or_len is_slash bytes
slash_or_end bytes = by (nat_lt (position_or_len is_slash bytes) (length bytes)) refl
  where
    by : (t : Bool) → nat_lt (position_or_len is_slash bytes) (length bytes) ≡ t → unwrap_or (cond t (Some (position_or_len is_slash bytes)) None) (length bytes) ≡ position_or_len is_slash bytes
    by true e = refl
    by false e = omega (arith, ltb-false _ _ e, prefix_len-le-length (λ b. not (is_slash b)) bytes)

-- ---- the end of the loop

pub has_bytes : (rest : List ℕ) (b : Bool) → b ≡ eqb (length rest) 0 → b ≡ false → 0 < length rest
has_bytes [] b is some = absurd (cc)
has_bytes (x ∷ rest) b is some = omega arith

pub has_no_bytes : (rest : List ℕ) (b : Bool) → b ≡ eqb (length rest) 0 → b ≡ true → Spells rest []
has_no_bytes [] b is none = spells_none
has_no_bytes (x ∷ rest) b is none = let some : eqb (suc (length rest)) 0 ≡ false = eqb-suc-zero (length rest) in absurd (cc)
