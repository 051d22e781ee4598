-- Further names of a file, and what is kept of first ones.
use Rattle.std.proofs.Common.{◌≡◌, ◌∙◌, ap₂, eqb-true, ℕ, ◌&&◌, nat_eq, Bool, true, false, cond, refl, sym, ap, List, [], ◌∷◌, ◌++◌, Option, Some, None, Bor, string_bytes, arith}
use Rattle.std.specs.BTreeMap.{BTreeMap, Updates, get}
use Rattle.std.specs.Ordering.{is_eq}
use Rattle.std.proofs.lemmas.Bool.{true≢false}
use Rattle.std.proofs.lemmas.Bool.Decides.{nat_tests}
use Rattle.nv_host.specs.declared.found.Found.{Found}
use Rattle.nv_host.specs.declared.walking.HostEntry.{HostEntry}
use Rattle.nv_host.specs.Links.{Keeps, are_one_file, first_name, is_shared, pair_cmp, path_of}

abbrev Firsts : Type 0
Firsts = BTreeMap (ℕ × ℕ) (Bor (List ℕ))

-- the first, or where there is none the second
abbrev or_else : Option (List ℕ) → Option (List ℕ) → Option (List ℕ)
or_else None other = other
or_else (Some path) other = Some path

nothing_more : (path : Option (List ℕ)) → or_else path None ≡ path
nothing_more None = refl
nothing_more (Some path) = refl

-- the first name among entries and one more
first_of_more : (es : List HostEntry) (e : HostEntry) (found : Found)
    → first_name (es ++ e ∷ []) found ≡ or_else (first_name es found) (cond (are_one_file found e.found) (Some (string_bytes e.path)) None)
first_of_more [] e found = refl
first_of_more (x ∷ es) e found = by (are_one_file found x.found) refl (first_of_more es e found)
  where
    by : (b : Bool) → are_one_file found x.found ≡ b
        → first_name (es ++ e ∷ []) found ≡ or_else (first_name es found) (cond (are_one_file found e.found) (Some (string_bytes e.path)) None)
        → first_name ((x ∷ es) ++ e ∷ []) found ≡ or_else (first_name (x ∷ es) found) (cond (are_one_file found e.found) (Some (string_bytes e.path)) None)
    by true is rest = rw is refl
    by false is rest = rw is rest

-- what has one name alone has no first one
pub none_first : (es : List HostEntry) (found : Found) → is_shared found ≡ false → first_name es found ≡ None
none_first [] found alone = refl
none_first (e ∷ es) found alone = rw alone (none_first es found alone)

not_one : (found other : Found) → is_shared other ≡ false → are_one_file found other ≡ false
not_one found other alone = rw alone (by (is_shared found))
  where
    by : (b : Bool) → (b && false) ≡ false
    by true = refl
    by false = refl

-- an entry that has one name alone changes nothing of what is kept
pub kept_alone : (es : List HostEntry) (e : HostEntry) (firsts : Firsts) → is_shared e.found ≡ false → Keeps es firsts → Keeps (es ++ e ∷ []) firsts
kept_alone es e firsts alone keeps found shared =
    keeps found shared ∙ sym (nothing_more (first_name es found))
    ∙ ap (λ b. or_else (first_name es found) (cond b (Some (string_bytes e.path)) None)) (sym (not_one found e.found alone)) ∙ sym (first_of_more es e found)

numbers_of_both : (a b c d : ℕ) (x y : Bool) → (x && (y && (nat_eq a c && nat_eq b d))) ≡ true → (a ≡ c) × (b ≡ d)
numbers_of_both a b c d true true one = let both = split (nat_eq a c) (nat_eq b d) one in (eqb-true a c both.0, eqb-true b d both.1)
  where
    split : (p q : Bool) → (p && q) ≡ true → (p ≡ true) × (q ≡ true)
    split true q is = (refl, is)
    split false q is = absurd (true≢false (sym is))
numbers_of_both a b c d true false one = absurd (true≢false (sym one))
numbers_of_both a b c d false y one = absurd (true≢false (sym one))

same_numbers : (found other : Found) → are_one_file found other ≡ true → (found.device ≡ other.device) × (found.inode ≡ other.inode)
same_numbers found other one = numbers_of_both found.device found.inode other.device other.inode (is_shared found) (is_shared other) one

pairs_apart : (a b c d : ℕ) → (nat_eq a c && nat_eq b d) ≡ false → is_eq (pair_cmp (c, d) (a, b)) ≡ false
pairs_apart a b c d apart = grind (arith, nat_tests)

keys_apart : (found other : Found) → is_shared found ≡ true → is_shared other ≡ true → are_one_file found other ≡ false
    → is_eq (pair_cmp (other.device, other.inode) (found.device, found.inode)) ≡ false
keys_apart found other one two apart = pairs_apart found.device found.inode other.device other.inode (rw (one, two) at apart)

-- a further name of a file changes nothing of what is kept
pub kept_again : (es : List HostEntry) (e : HostEntry) (firsts : Firsts) (path : Bor (List ℕ)) → get pair_cmp firsts (e.found.device, e.found.inode) ≡ Some path
    → Keeps es firsts → Keeps (es ++ e ∷ []) firsts
kept_again es e firsts path met keeps found shared = by (are_one_file found e.found) refl
  where
    by : (b : Bool) → are_one_file found e.found ≡ b → path_of (get pair_cmp firsts (found.device, found.inode)) ≡ first_name (es ++ e ∷ []) found
    by true is =
        let n = same_numbers found e.found is in
        let here : path_of (get pair_cmp firsts (found.device, found.inode)) ≡ Some path.now = ap₂ (λ d i. path_of (get pair_cmp firsts (d, i))) n.0 n.1 ∙ ap path_of met in
        here ∙ sym (first_of_more es e found ∙ ap (λ p. or_else p (cond (are_one_file found e.found) (Some (string_bytes e.path)) None)) (sym (keeps found shared) ∙ here))
    by false is =
        keeps found shared
        ∙ sym (first_of_more es e found ∙ ap (λ b. or_else (first_name es found) (cond b (Some (string_bytes e.path)) None)) is ∙ nothing_more (first_name es found))

-- the first name of a file is kept
pub kept_first : (es : List HostEntry) (e : HostEntry) (old new : Firsts) (path : Bor (List ℕ)) → is_shared e.found ≡ true
    → get pair_cmp old (e.found.device, e.found.inode) ≡ None → path.now ≡ string_bytes e.path → Updates pair_cmp old new (e.found.device, e.found.inode) (Some path)
    → Keeps es old → Keeps (es ++ e ∷ []) new
kept_first es e old new path two none is_path updates keeps found shared = by (are_one_file found e.found) refl
  where
    by : (b : Bool) → are_one_file found e.found ≡ b → path_of (get pair_cmp new (found.device, found.inode)) ≡ first_name (es ++ e ∷ []) found
    by true is =
        let n = same_numbers found e.found is in
        let before : first_name es found ≡ None = sym (keeps found shared) ∙ ap₂ (λ d i. path_of (get pair_cmp old (d, i))) n.0 n.1 ∙ ap path_of none in
        ap₂ (λ d i. path_of (get pair_cmp new (d, i))) n.0 n.1 ∙ ap path_of updates.1 ∙ ap Some is_path
        ∙ sym (first_of_more es e found ∙ ap₂ (λ p b. or_else p (cond b (Some (string_bytes e.path)) None)) before is)
    by false is =
        ap path_of (updates.2 (found.device, found.inode) (keys_apart found e.found shared two is)) ∙ keeps found shared
        ∙ sym (first_of_more es e found ∙ ap (λ b. or_else (first_name es found) (cond b (Some (string_bytes e.path)) None)) is ∙ nothing_more (first_name es found))
