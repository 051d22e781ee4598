-- What the names find that came first with their keys, through a change of them.
use Rattle.std.proofs.Common.{◌≡◌, ℕ, Bool, true, false, cond, nat_eq, List, [], ◌∷◌, map, Option, Some, None, Result, Ok, Err, IfOk, OnErr, refl, sym, ap, subst, ◌∙◌}
use Rattle.std.specs.Map.{lookup, keys_of, remove_entry, set_value}
use Rattle.std.specs.List.{AllByRecursion, IsDistinct}
use Rattle.std.specs.List.Sorted.{IsPermutation}
use Rattle.std.specs.Option.{MatchOption}
use Rattle.std.specs.Cmp.Lexicographic.{pointwise, bytes_decides}
use Rattle.std.proofs.lemmas.Bool.{eq-eqb, true≢false}
use Rattle.std.proofs.lemmas.List.Elements.{All-cons, All-from_recursion, recursion_from_All}
use Rattle.std.proofs.lemmas.List.Sorted.{All-permutation}
use Rattle.std.proofs.lemmas.Map.Keys.{IsDistinct-head, IsDistinct-tail}
use Rattle.std.proofs.lemmas.Map.Views.{exact_unsigned_eq}
use Rattle.std.proofs.lemmas.Option.{none-some}
use Rattle.nv_names.specs.Keys.{key_of}
use Rattle.nv_names.specs.Names.{found_in}
use Rattle.nv_names.specs.Table.{PutsAt, FindSame}
use Rattle.nv_names.specs.Bucket.{first_line, AreKeyed}

-- an entry: a key, and its name with the inode and the place
abbrev pub Entry : Type 0
Entry = ℕ × (List ℕ × ℕ × ℕ)

-- its key is that of its name
abbrev pub HasKey : Entry → Type 0
HasKey e = e.0 ≡ key_of e.1.0

-- each key is that of its name
abbrev pub Keyed : List Entry → Type 0
Keyed es = AllByRecursion HasKey es

-- no key is there twice
abbrev pub Once : List Entry → Type 0
Once es = IsDistinct nat_eq (keys_of es)

-- Where old is what a key had, its entry is put in its place, or there is one more entry somewhere.
abbrev pub PutsIn : List Entry → List Entry → ℕ → (List ℕ × ℕ × ℕ) → Option (List ℕ × ℕ × ℕ) → Type 0
PutsIn es en k h old = MatchOption old (IsPermutation ((k, h) ∷ es) en) (λ _. en ≡ set_value (nat_eq k) es h)

-- whether two keys are one
abbrev pub same_key : ℕ → ℕ → Bool
same_key k = nat_eq k

-- what a name has of the entry that stands by its key
abbrev pub at_name : List ℕ → Option (List ℕ × ℕ × ℕ) → Option (ℕ × ℕ)
at_name q None = None
at_name q (Some h) = cond (pointwise nat_eq q h.0) (Some (h.1, h.2)) None

-- two keys that are one are equal
pub key_is : (a b : ℕ) → same_key a b ≡ true → a ≡ b
key_is a b is = exact_unsigned_eq a b is

-- a key is itself
key_self : (a b : ℕ) → a ≡ b → same_key a b ≡ true
key_self a b is = eq-eqb a b is

-- no other entry has the key of the first
none_past : (k : ℕ) (es : List Entry) → AllByRecursion (λ y. same_key k y ≡ false) (keys_of es) → lookup (same_key k) es ≡ None
none_past k [] all = refl
none_past k (e ∷ es) all = ap (λ b. cond b (Some e.1) (lookup (same_key k) es)) all.0 ∙ none_past k es all.1

-- a search by the key finds what the list does
pub found_first : (es : List Entry) (q : List ℕ) → Keyed es → Once es → found_in (map first_line es) q ≡ at_name q (lookup (same_key (key_of q)) es)
found_first [] q keyed once = refl
found_first (e ∷ es) q keyed once = decide (found_first es q keyed.1 (IsDistinct-tail nat_eq e.0 (keys_of es) once)) (same_key (key_of q) e.0) refl
  where
    rest : Option (ℕ × ℕ)
    rest = found_in (map first_line es) q

    other : same_key (key_of q) e.0 ≡ false → (b : Bool) → pointwise nat_eq q e.1.0 ≡ b → cond b (Some (e.1.1, e.1.2)) rest ≡ rest
    other apart true is = absurd (true≢false (sym (key_self (key_of q) e.0 (ap key_of ((bytes_decides q e.1.0).0 is) ∙ sym keyed.0)) ∙ apart))
    other apart false is = refl

    decide : rest ≡ at_name q (lookup (same_key (key_of q)) es) → (b : Bool) → same_key (key_of q) e.0 ≡ b
        → found_in (map first_line (e ∷ es)) q ≡ at_name q (cond b (Some e.1) (lookup (same_key (key_of q)) es))
    decide same true is =
        ap (cond (pointwise nat_eq q e.1.0) (Some (e.1.1, e.1.2)))
        (same ∙ ap (at_name q) (ap (λ k. lookup (same_key k) es) (key_is (key_of q) e.0 is) ∙ none_past e.0 es (IsDistinct-head nat_eq e.0 (keys_of es) once)))
    decide same false is = other is (pointwise nat_eq q e.1.0) refl ∙ same

-- the names of two keys differ
pub other_names : (e x : Entry) → e.0 ≡ key_of e.1.0 → x.0 ≡ key_of x.1.0 → same_key e.0 x.0 ≡ false → pointwise nat_eq e.1.0 x.1.0 ≡ false
other_names e x is is' apart = decide (pointwise nat_eq e.1.0 x.1.0) refl
  where
    decide : (b : Bool) → pointwise nat_eq e.1.0 x.1.0 ≡ b → b ≡ false
    decide true same = absurd (true≢false (sym (key_self e.0 x.0 (is ∙ ap key_of ((bytes_decides e.1.0 x.1.0).0 same) ∙ sym is')) ∙ apart))
    decide false same = refl

-- only this name is found there
abbrev pub Only : List ℕ → Option (List ℕ × ℕ × ℕ) → Type 0
Only name o = (q : List ℕ) → pointwise nat_eq q name ≡ false → at_name q o ≡ None

-- an entry of the name
pub only_it : (name : List ℕ) (h : List ℕ × ℕ × ℕ) → h.0 ≡ name → Only name (Some h)
only_it name h is q apart = ap (λ b. cond b (Some (h.1, h.2)) None) (ap (pointwise nat_eq q) is ∙ apart)

-- nor where it is found
pub only_found : (name : List ℕ) (o : Option (List ℕ × ℕ × ℕ)) (v : ℕ × ℕ) → at_name name o ≡ Some v → Only name o
only_found name None v found = λ q apart. refl
only_found name (Some h) v found = decide (pointwise nat_eq name h.0) refl
  where
    decide : (b : Bool) → pointwise nat_eq name h.0 ≡ b → Only name (Some h)
    decide true is = only_it name h (sym ((bytes_decides name h.0).0 is))
    decide false is = absurd (let none : at_name name (Some h) ≡ None = ap (λ b. cond b (Some (h.1, h.2)) None) is in none-some _ (sym none ∙ found))

-- the key of an entry that is found is that of its name
pub key_found : (es : List Entry) (k : ℕ) (h : List ℕ × ℕ × ℕ) → Keyed es → lookup (same_key k) es ≡ Some h → k ≡ key_of h.0
key_found [] k h keyed found = absurd (none-some _ found)
key_found (e ∷ es) k h keyed found = decide (key_found es k h keyed.1) (same_key k e.0) refl
  where
    decide : (lookup (same_key k) es ≡ Some h → k ≡ key_of h.0) → (b : Bool) → same_key k e.0 ≡ b → k ≡ key_of h.0
    decide rest true is =
        let same : Some e.1 ≡ Some h = sym (ap (λ b. cond b (Some e.1) (lookup (same_key k) es)) is) ∙ found in
        let it : e.1 ≡ h = cc in
        key_is k e.0 is ∙ keyed.0 ∙ ap (λ x. key_of x.0) it
    decide rest false is = rest (sym (ap (λ b. cond b (Some e.1) (lookup (same_key k) es)) is) ∙ found)

-- what is found after a name's key got another entry
pub first_changed : (es en : List Entry) (name : List ℕ) (w : Option (List ℕ × ℕ × ℕ)) → Keyed es → Once es → Keyed en → Once en
    → ((k : ℕ) → lookup (same_key k) en ≡ cond (same_key (key_of name) k) w (lookup (same_key k) es)) → Only name w → Only name (lookup (same_key (key_of name)) es)
    → PutsAt (map first_line es) (map first_line en) name (at_name name w)
first_changed es en name w keyed once keyed' once' changed new old q = found_first en q keyed' once' ∙ ap (at_name q) (changed (key_of q)) ∙ decide (same_key (key_of name) (key_of q)) refl
  where
    was : found_in (map first_line es) q ≡ at_name q (lookup (same_key (key_of q)) es)
    was = found_first es q keyed once

    here : key_of name ≡ key_of q → (c : Bool) → pointwise nat_eq q name ≡ c → at_name q w ≡ cond c (at_name name w) (found_in (map first_line es) q)
    here is true same = ap (λ n. at_name n w) ((bytes_decides q name).0 same)
    here is false same = new q same ∙ sym (was ∙ ap (λ k. at_name q (lookup (same_key k) es)) (sym is) ∙ old q same)

    there : same_key (key_of name) (key_of q) ≡ false → (c : Bool) → pointwise nat_eq q name ≡ c
        → at_name q (lookup (same_key (key_of q)) es) ≡ cond c (at_name name w) (found_in (map first_line es) q)
    there apart true same = absurd (true≢false (sym (key_self (key_of name) (key_of q) (sym (ap key_of ((bytes_decides q name).0 same)))) ∙ apart))
    there apart false same = sym was

    decide : (b : Bool) → same_key (key_of name) (key_of q) ≡ b
        → at_name q (cond b w (lookup (same_key (key_of q)) es)) ≡ cond (pointwise nat_eq q name) (at_name name w) (found_in (map first_line es) q)
    decide true is = here (key_is (key_of name) (key_of q) is) (pointwise nat_eq q name) refl
    decide false is = there is (pointwise nat_eq q name) refl

-- what is found where each key has the entry that it had
pub first_same : (es en : List Entry) → Keyed es → Once es → Keyed en → Once en
    → ((k : ℕ) → lookup (same_key k) en ≡ lookup (same_key k) es) → FindSame (map first_line es) (map first_line en)
first_same es en keyed once keyed' once' same q = found_first en q keyed' once' ∙ ap (at_name q) (same (key_of q)) ∙ sym (found_first es q keyed once)

-- a search by the key of a name
pub first_at : (es : List Entry) (key : ℕ) (q : List ℕ) (o : Option (List ℕ × ℕ × ℕ)) → Keyed es → Once es → key ≡ key_of q → o ≡ lookup (same_key key) es
    → found_in (map first_line es) q ≡ at_name q o
first_at es key q o keyed once is same = found_first es q keyed once ∙ ap (λ k. at_name q (lookup (same_key k) es)) (sym is) ∙ ap (at_name q) (sym same)

-- each key is that of its name after a key's entry was changed
keyed-set : (es : List Entry) (k : ℕ) (h : List ℕ × ℕ × ℕ) → Keyed es → k ≡ key_of h.0 → Keyed (set_value (nat_eq k) es h)
keyed-set [] k h keyed is = tt
keyed-set (e ∷ es) k h keyed is = place (keyed-set es k h keyed.1 is) (nat_eq k e.0) refl
  where
    place : Keyed (set_value (nat_eq k) es h) → (b : Bool) → nat_eq k e.0 ≡ b → Keyed (cond b ((e.0, h) ∷ es) (e ∷ set_value (nat_eq k) es h))
    place rest true same = (sym (key_is k e.0 same) ∙ is, keyed.1)
    place rest false same = (keyed.0, rest)

-- and after an entry was put in
pub keyed-put : (old : Option (List ℕ × ℕ × ℕ)) (es en : List Entry) (k : ℕ) (h : List ℕ × ℕ × ℕ) → PutsIn es en k h old → AreKeyed es → k ≡ key_of h.0 → AreKeyed en
keyed-put None es en k h puts keyed is = All-permutation HasKey ((k, h) ∷ es) en puts (All-cons HasKey (k, h) es is keyed)
keyed-put (Some x) es en k h puts keyed is = subst AreKeyed (sym puts) (All-from_recursion HasKey (set_value (nat_eq k) es h) (keyed-set es k h (recursion_from_All HasKey es keyed) is))

-- and after one was taken out
keyed-removed : (es : List Entry) (test : ℕ → Bool) → Keyed es → Keyed (remove_entry test es)
keyed-removed [] test keyed = tt
keyed-removed (e ∷ es) test keyed = place (keyed-removed es test keyed.1) (test e.0)
  where
    place : Keyed (remove_entry test es) → (b : Bool) → Keyed (cond b es (e ∷ remove_entry test es))
    place rest true = keyed.1
    place rest false = (keyed.0, rest)

pub keyed-taken : (es en : List Entry) (test : ℕ → Bool) → IsPermutation (remove_entry test es) en → AreKeyed es → AreKeyed en
keyed-taken es en test taken keyed = All-permutation HasKey (remove_entry test es) en taken (All-from_recursion HasKey (remove_entry test es) (keyed-removed es test (recursion_from_All HasKey es keyed)))

-- also where the entry may have been refused
pub keyed-asked : {E : Type 0} (r : Result (Option (List ℕ × ℕ × ℕ)) E) (es en : List Entry) (k : ℕ) (h : List ℕ × ℕ × ℕ) → IfOk r (PutsIn es en k h) → OnErr r (en ≡ es) → AreKeyed es → k ≡ key_of h.0 → AreKeyed en
keyed-asked (Ok old) es en k h puts rest keyed is = keyed-put old es en k h puts keyed is
keyed-asked (Err x) es en k h puts rest keyed is = subst AreKeyed (sym rest) keyed
