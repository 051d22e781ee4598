-- Where the path of a member leads below the root, and what the directories above it are.
use Rattle.std.proofs.Common.{◌≡◌, ℕ, zero, suc, ◌+◌, ◌-◌, ◌<◌, ◌≤◌, ◌⊎◌, Bool, true, false, not, ◌||◌, cond, eqb, All, List, [], ◌∷◌, ◌++◌, length, get_or, take, codes, Some, None, refl, sym, ◌∙◌, ap, inl, inr, arith}
use Rattle.std.specs.List.{position, position_or_len}
use Rattle.std.proofs.Math.Seq.{take-append-add}
use Rattle.std.proofs.lemmas.Bool.{cases_lt, le-ltb}
use Rattle.std.proofs.lemmas.List.{get_or-append-add, get_or_append_left}
use Rattle.std.proofs.lemmas.List.Elements.{All-head, All-tail}
use Rattle.nv_entry.specs.Content.{has_bad_byte}
use Rattle.nv_tree.specs.Path.{IsPathName, is_slash, path_text, spelled}
use Rattle.nv_unpack.specs.Places.{or_root, part_text, parts_text, place, says_nothing}
use Rattle.nv_unpack.proofs.Parts.{parts_joined, parts_whole}

-- neither of two tests
neither : (x y : Bool) → (x || y) ≡ false → (x ≡ false) × (y ≡ false)
neither true y h = absurd (cc)
neither false y h = (refl, h)

-- ---- bytes of names

no_slash_at : (name : List ℕ) → has_bad_byte name ≡ false → (k : ℕ) → k < length name → get_or name k 0 ≡ 47 → ⊥
no_slash_at [] clean k below is = omega (arith, below)
no_slash_at (b ∷ name) clean zero below is =
    let parts = neither (eqb b 0 || eqb b 47) (has_bad_byte name) clean in
    let other = (neither (eqb b 0) (eqb b 47) parts.0).1 in
    let slash : eqb b 47 ≡ true = ap (λ (x : ℕ). eqb x 47) is in
    cc
no_slash_at (b ∷ name) clean (suc k) below is = no_slash_at name (neither (eqb b 0 || eqb b 47) (has_bad_byte name) clean).1 k (omega (arith, below)) is

no_slash_in : (name : List ℕ) → has_bad_byte name ≡ false → position_or_len is_slash name ≡ length name
no_slash_in [] clean = refl
no_slash_in (b ∷ name) clean =
    let parts = neither (eqb b 0 || eqb b 47) (has_bad_byte name) clean in
    let other = (neither (eqb b 0) (eqb b 47) parts.0).1 in
    ap (λ (t : Bool). cond (not t) (1 + position_or_len is_slash name) 0) other ∙ omega (arith, no_slash_in name parts.1)

no_slash : (name : List ℕ) → has_bad_byte name ≡ false → position is_slash name ≡ None
no_slash name clean =
    let past : length name ≤ position_or_len is_slash name = omega (arith, no_slash_in name clean) in
    ap (λ (x : Bool). cond x (Some (position_or_len is_slash name)) None) (le-ltb (position_or_len is_slash name) (length name) past)

-- ---- the place of a path

said : (name : List ℕ) → IsPathName name → says_nothing name ≡ false
said [] good = let some = good.fits.some in absurd (omega (arith, some))
said (b ∷ []) good = good.no_dots
said (b ∷ c ∷ name) good = refl

part_said : (name : List ℕ) → IsPathName name → part_text name ≡ 47 ∷ name
part_said name good = ap (λ (x : Bool). cond x [] (47 ∷ name)) (said name good)

behind_none : (l : List ℕ) → l ++ [] ≡ l
behind_none [] = refl
behind_none (b ∷ l) = ap (λ (x : List ℕ). b ∷ x) (behind_none l)

parts_spelled : (b : ℕ) (front : List ℕ) (names : List (List ℕ)) → position is_slash (b ∷ front) ≡ None → All IsPathName names → parts_text ((b ∷ front) ++ spelled names) ≡ part_text (b ∷ front) ++ spelled names
parts_spelled b front [] clean good = ap parts_text (behind_none (b ∷ front)) ∙ parts_whole (b ∷ front) clean ∙ sym (behind_none (part_text (b ∷ front)))
parts_spelled b front (name ∷ names) clean good = parts_joined (b ∷ front) (name ++ spelled names) ∙ ap (λ (x : List ℕ). x ++ parts_text (name ++ spelled names)) (parts_whole (b ∷ front) clean)
    ∙ ap (λ (x : List ℕ). part_text (b ∷ front) ++ x) (rest name (All-head IsPathName name names good) (λ c n. parts_spelled c n names))
  where
    rest : (first : List ℕ) → IsPathName first → ((c : ℕ) (n : List ℕ) → position is_slash (c ∷ n) ≡ None → All IsPathName names → parts_text ((c ∷ n) ++ spelled names) ≡ part_text (c ∷ n) ++ spelled names)
        → parts_text (first ++ spelled names) ≡ (47 ∷ first) ++ spelled names
    rest [] is next = let some = is.fits.some in absurd (omega (arith, some))
    rest (c ∷ n) is next = next c n (no_slash (c ∷ n) is.bytes) (All-tail IsPathName name names good) ∙ ap (λ (x : List ℕ). x ++ spelled names) (part_said (c ∷ n) is)

spelled_or_root : (names : List (List ℕ)) → or_root (spelled names) ≡ path_text names
spelled_or_root [] = refl
spelled_or_root (name ∷ names) = refl

-- a file's path, and a directory's, which ends with a `/`
pub file_place : (names : List (List ℕ)) → All IsPathName names → place (codes "/") (46 ∷ spelled names) ≡ path_text names
file_place names good = ap (λ (x : List ℕ). or_root x) (parts_spelled 46 [] names refl good) ∙ spelled_or_root names

pub directory_place : (names : List (List ℕ)) → All IsPathName names → place (codes "/") ((46 ∷ spelled names) ++ codes "/") ≡ path_text names
directory_place names good = ap (λ (x : List ℕ). or_root x) (parts_joined (46 ∷ spelled names) [] ∙ behind_none (parts_text (46 ∷ spelled names)) ∙ parts_spelled 46 [] names refl good) ∙ spelled_or_root names

-- ---- directories above a place

-- a front of the names, with one name at least in front and one behind
pub record IsFront (names : List (List ℕ)) (text : List ℕ) : Type 0 where
  pub first : List ℕ
  pub front : List (List ℕ)
  pub next : List ℕ
  pub behind : List (List ℕ)
  pub whole : names ≡ (first ∷ front) ++ next ∷ behind
  pub says : text ≡ spelled (first ∷ front)

-- a `/` in a text of names, but for the first one, ends a front
pub front_at : (names : List (List ℕ)) → All IsPathName names → (k : ℕ) → 0 < k → get_or (spelled names) k 0 ≡ 47 → IsFront names (take k (spelled names))
front_at [] good k some slash = absurd (omega (arith, slash))
front_at (name ∷ names) good zero some slash = absurd (omega (arith, some))
front_at (name ∷ names) good (suc k) some slash = by (cases_lt k (length name)) (λ r some slash. front_at names (All-tail IsPathName name names good) r some slash)
  where
    behind : (r : ℕ) → k ≡ length name + r → get_or (spelled names) r 0 ≡ 47
    behind r is = sym (get_or-append-add name (spelled names) r 0) ∙ ap (λ (x : ℕ). get_or (name ++ spelled names) x 0) (sym is) ∙ slash

    taken : (r : ℕ) → k ≡ length name + r → take (suc k) (47 ∷ (name ++ spelled names)) ≡ 47 ∷ (name ++ take r (spelled names))
    taken r is = ap (λ (x : ℕ). 47 ∷ take x (name ++ spelled names)) is ∙ ap (λ (x : List ℕ). 47 ∷ x) (take-append-add name (spelled names) r)

    here : (rest : List (List ℕ)) → rest ≡ names → get_or (spelled rest) 0 0 ≡ 47 → (next : List ℕ) × (more : List (List ℕ)) × (rest ≡ next ∷ more)
    here [] is slash = absurd (omega (arith, slash))
    here (next ∷ more) is slash = (next, more, refl)

    at : (r : ℕ) → k ≡ length name + r → ((r : ℕ) → 0 < r → get_or (spelled names) r 0 ≡ 47 → IsFront names (take r (spelled names))) → IsFront (name ∷ names) (take (suc k) (47 ∷ (name ++ spelled names)))
    at zero is earlier =
        let n = here names refl (behind zero is) in
        record { first = name; front = []; next = n.0; behind = n.1; whole = ap (λ (x : List (List ℕ)). name ∷ x) n.2; says = taken zero is }
    at (suc r) is earlier =
        let f = earlier (suc r) (omega arith) (behind (suc r) is) in
        record {
          first = name;
          front = f.first ∷ f.front;
          next = f.next;
          behind = f.behind;
          whole = ap (λ (x : List (List ℕ)). name ∷ x) f.whole;
          says = taken (suc r) is ∙ ap (λ (x : List ℕ). 47 ∷ (name ++ x)) f.says;
        }

    by : (k < length name) ⊎ (length name ≤ k) → ((r : ℕ) → 0 < r → get_or (spelled names) r 0 ≡ 47 → IsFront names (take r (spelled names))) → IsFront (name ∷ names) (take (suc k) (47 ∷ (name ++ spelled names)))
    by (inl below) earlier = absurd (no_slash_at name (All-head IsPathName name names good).bytes k below (sym (get_or_append_left name (spelled names) 0 k below) ∙ slash))
    by (inr past) earlier = at (k - length name) (omega (arith, past)) earlier
