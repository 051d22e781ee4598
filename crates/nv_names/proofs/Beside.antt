-- The buckets of a table and the list beside it, through the calls of the table.
use Rattle.std.proofs.Common.{◌≡◌, ℕ, Bool, true, false, cond, not, nat_eq, List, [], ◌∷◌, ◌++◌, map, Option, Some, None, IsSome, Vec, refl, sym, ap, subst, ◌∙◌, append_assoc}
use Rattle.std.specs.declared.alloc.Global.{Global}
use Rattle.std.specs.List.{IsDistinct, AllByRecursion, filter}
use Rattle.std.specs.List.Sorted.{IsStrictlySortedBy}
use Rattle.std.specs.Option.{option_or}
use Rattle.std.specs.declared.cmp.Ordering.TheVariants.{Less}
use Rattle.std.specs.Ordering.{is_eq}
use Rattle.std.specs.Map.{keys_of}
use Rattle.std.specs.Cmp.Lexicographic.{pointwise, nat_list_eq_equiv, texts_ties, bytes_decides}
use Rattle.std.proofs.lemmas.Map.Keys.{IsDistinct-head, IsDistinct-tail, IsDistinct-cons, sorted_head, sorted_tail}
use Rattle.std.proofs.lemmas.Map.Made.{IsDistinct-keys_filter}
use Rattle.std.proofs.lemmas.Option.{none-some}
use Rattle.nv_names.specs.declared.target.Target.{Target}
use Rattle.nv_names.specs.Keys.{key_of}
use Rattle.nv_names.specs.Names.{found_in, names_of}
use Rattle.nv_names.specs.Table.{fresh_line, PutsAt, FindSame, AreApart, AreBeside}
use Rattle.nv_names.specs.Bucket.{first_line, other_line}
use Rattle.nv_names.proofs.Entries.{by_bytes, found_in-append}
use Rattle.nv_names.proofs.First.{Entry, Keyed, other_names}
use Rattle.nv_names.proofs.Listing.{each_found}

-- nothing that is found is none
pub not_none : {X : Type 0} {o : Option X} → IsSome o → o ≡ None → ⊥
not_none some none = cc

-- nothing before what is found
pub option_or-None : {X : Type 0} (o : Option X) → option_or o None ≡ o
option_or-None None = refl
option_or-None (Some x) = refl

-- new holds a name's new meaning, and one that was put in later
pub PutsAt-twice : (a b d : List (List ℕ × ℕ × ℕ)) (name : List ℕ) (v w : Option (ℕ × ℕ)) → PutsAt a b name v → PutsAt b d name w → PutsAt a d name w
PutsAt-twice a b d name v w first second q = second q ∙ ap (cond (pointwise nat_eq q name) w) (first q) ∙ choose (pointwise nat_eq q name)
  where
    choose : (c : Bool) → cond c w (cond c v (found_in a q)) ≡ cond c w (found_in a q)
    choose true = refl
    choose false = refl

-- a change of lists that find the same
pub PutsAt-after : (a b d : List (List ℕ × ℕ × ℕ)) (name : List ℕ) (w : Option (ℕ × ℕ)) → FindSame a b → PutsAt b d name w → PutsAt a d name w
PutsAt-after a b d name w same puts q = puts q ∙ ap (cond (pointwise nat_eq q name) w) (same q)

-- what is found at the name itself
pub found_here : (old new : List (List ℕ × ℕ × ℕ)) (name : List ℕ) (w : Option (ℕ × ℕ)) → PutsAt old new name w → found_in new name ≡ w
found_here old new name w puts = puts name ∙ ap (λ b. cond b w (found_in old name)) (nat_list_eq_equiv.refl name)

-- a name gets its meaning in the first list, and is taken out of the second
pub PutsAt-both : (a b d e : List (List ℕ × ℕ × ℕ)) (name : List ℕ) (w : Option (ℕ × ℕ)) → PutsAt a b name w → PutsAt d e name None → PutsAt (a ++ d) (b ++ e) name w
PutsAt-both a b d e name w first second q =
    found_in-append b e q
    ∙ (λ i. option_or (first q i) (second q i))
    ∙ choose (pointwise nat_eq q name)
    ∙ ap (cond (pointwise nat_eq q name) w) (sym (found_in-append a d q))
  where
    choose : (c : Bool) → option_or (cond c w (found_in a q)) (cond c None (found_in d q)) ≡ cond c w (option_or (found_in a q) (found_in d q))
    choose true = option_or-None w
    choose false = refl

-- which leaves them apart
pub AreApart-both : (a b d e : List (List ℕ × ℕ × ℕ)) (name : List ℕ) (w : Option (ℕ × ℕ)) → PutsAt a b name w → PutsAt d e name None → AreApart a d → AreApart b e
AreApart-both a b d e name w first second apart q some = decide (pointwise nat_eq q name) refl
  where
    decide : (c : Bool) → pointwise nat_eq q name ≡ c → found_in b q ≡ None
    decide true is = absurd (not_none some (second q ∙ ap (λ c. cond c None (found_in d q)) is))
    decide false is = first q ∙ ap (λ c. cond c w (found_in a q)) is ∙ apart q (subst IsSome (second q ∙ ap (λ c. cond c None (found_in d q)) is) some)

-- a name that the first list lacks gets its meaning in the second
pub PutsAt-second : (a b d e : List (List ℕ × ℕ × ℕ)) (name : List ℕ) (w : Option (ℕ × ℕ)) → FindSame a b → found_in a name ≡ None → PutsAt d e name w → PutsAt (a ++ d) (b ++ e) name w
PutsAt-second a b d e name w same none second q =
    found_in-append b e q
    ∙ (λ i. option_or (same q i) (second q i))
    ∙ choose (pointwise nat_eq q name) refl
    ∙ ap (cond (pointwise nat_eq q name) w) (sym (found_in-append a d q))
  where
    choose : (c : Bool) → pointwise nat_eq q name ≡ c → option_or (found_in a q) (cond c w (found_in d q)) ≡ cond c w (option_or (found_in a q) (found_in d q))
    choose true is = ap (λ o. option_or o w) (ap (found_in a) ((bytes_decides q name).0 is) ∙ none)
    choose false is = refl

-- which leaves them apart too
pub AreApart-second : (a b d e : List (List ℕ × ℕ × ℕ)) (name : List ℕ) (w : Option (ℕ × ℕ)) → FindSame a b → found_in a name ≡ None → PutsAt d e name w → AreApart a d → AreApart b e
AreApart-second a b d e name w same none second apart q some = same q ∙ decide (pointwise nat_eq q name) refl
  where
    decide : (c : Bool) → pointwise nat_eq q name ≡ c → found_in a q ≡ None
    decide true is = ap (found_in a) ((bytes_decides q name).0 is) ∙ none
    decide false is = apart q (subst IsSome (second q ∙ ap (λ c. cond c w (found_in d q)) is) some)

-- two lists that find the same stand apart from the same
pub AreApart-same : (a b d : List (List ℕ × ℕ × ℕ)) → FindSame a b → AreApart a d → AreApart b d
AreApart-same a b d same apart q some = same q ∙ apart q some

-- and find the same in front of another
pub FindSame-front : (a b d : List (List ℕ × ℕ × ℕ)) → FindSame a b → FindSame (a ++ d) (b ++ d)
FindSame-front a b d same q = found_in-append b d q ∙ ap (λ o. option_or o (found_in d q)) (same q) ∙ sym (found_in-append a d q)

-- a name that a list lacks is taken out of it by nothing
pub PutsAt-nothing : (a : List (List ℕ × ℕ × ℕ)) (name : List ℕ) → found_in a name ≡ None → PutsAt a a name None
PutsAt-nothing a name none q = decide (pointwise nat_eq q name) refl
  where
    decide : (c : Bool) → pointwise nat_eq q name ≡ c → found_in a q ≡ cond c None (found_in a q)
    decide true is = ap (found_in a) ((bytes_decides q name).0 is) ∙ none
    decide false is = refl

-- a name of the first list isn't in the second
pub second_lacks : (a d : List (List ℕ × ℕ × ℕ)) (name : List ℕ) (v : ℕ × ℕ) → AreApart a d → found_in a name ≡ Some v → found_in d name ≡ None
second_lacks a d name v apart found = decide (found_in d name) refl
  where
    decide : (o : Option (ℕ × ℕ)) → found_in d name ≡ o → o ≡ None
    decide None is = refl
    decide (Some w) is = absurd (none-some _ (sym (apart name (subst IsSome (sym is) refl)) ∙ found))

-- the names of a list beside the bucket
names_of-fresh : (fs : List (List ℕ × Target)) → names_of (map fresh_line fs) ≡ keys_of fs
names_of-fresh [] = refl
names_of-fresh (f ∷ fs) = ap (λ ks. f.0 ∷ ks) (names_of-fresh fs)

-- a bucket and the list beside it stay so where a name is taken out of both
pub AreBeside-removed : (a b : List (List ℕ × ℕ × ℕ)) (fs : List (List ℕ × Target)) (name : List ℕ) → AreBeside a (map fresh_line fs)
    → PutsAt a b name None → PutsAt (map fresh_line fs) (map fresh_line (filter (λ e. not (pointwise nat_eq e.0 name)) fs)) name None
    → AreBeside b (map fresh_line (filter (λ e. not (pointwise nat_eq e.0 name)) fs))
AreBeside-removed a b fs name beside first second = record {
  once = rw names_of-fresh (IsDistinct-keys_filter (pointwise nat_eq) (λ (e : List ℕ × Target). not (pointwise nat_eq e.0 name)) fs (rw names_of-fresh at beside.once));
  apart = λ q some. decide q (pointwise nat_eq q name) refl some;
}
  where
    decide : (q : List ℕ) (c : Bool) → pointwise nat_eq q name ≡ c → IsSome (found_in (map fresh_line (filter (λ e. not (pointwise nat_eq e.0 name)) fs)) q) → found_in b q ≡ None
    decide q true is some = first q ∙ ap (λ c. cond c None (found_in a q)) is
    decide q false is some =
        first q
        ∙ ap (λ c. cond c None (found_in a q)) is
        ∙ beside.apart q (subst IsSome (second q ∙ ap (λ c. cond c None (found_in (map fresh_line fs) q)) is) some)

-- all names of two lists
all_both : (P : List ℕ → Type 0) (xs ys : List (List ℕ × ℕ × ℕ)) → AllByRecursion P (names_of xs) → AllByRecursion P (names_of ys) → AllByRecursion P (names_of (xs ++ ys))
all_both P [] ys first second = second
all_both P (x ∷ xs) ys first second = (first.0, all_both P xs ys first.1 second)

-- all names of a list's front, and the last
all_front : (P : List ℕ → Type 0) (xs : List (List ℕ × ℕ × ℕ)) (y : List ℕ × ℕ × ℕ) → AllByRecursion P (names_of (xs ++ y ∷ [])) → AllByRecursion P (names_of xs) × P y.0
all_front P [] y all = (tt, all.0)
all_front P (x ∷ xs) y all = let rest = all_front P xs y all.1 in ((all.0, rest.0), rest.1)

-- a name that isn't found differs from the first, and isn't found after it
other_head : (x : List ℕ × ℕ × ℕ) (xs : List (List ℕ × ℕ × ℕ)) (name : List ℕ) → found_in (x ∷ xs) name ≡ None → (pointwise nat_eq name x.0 ≡ false) × (found_in xs name ≡ None)
other_head x xs name none = decide (pointwise nat_eq name x.0) refl
  where
    decide : (b : Bool) → pointwise nat_eq name x.0 ≡ b → (pointwise nat_eq name x.0 ≡ false) × (found_in xs name ≡ None)
    decide true is = absurd (none-some _ (sym none ∙ ap (λ c. cond c (Some (x.1, x.2)) (found_in xs name)) is))
    decide false is = (is, sym (ap (λ c. cond c (Some (x.1, x.2)) (found_in xs name)) is) ∙ none)

-- a name that isn't found differs from each
all_other : (xs : List (List ℕ × ℕ × ℕ)) (name : List ℕ) → found_in xs name ≡ None → AllByRecursion (λ y. pointwise nat_eq name y ≡ false) (names_of xs)
all_other [] name none = tt
all_other (x ∷ xs) name none = let head = other_head x xs name none in (head.0, all_other xs name head.1)

-- two lists without repeats, where no name of the first is found in the second
distinct-append : (xs ys : List (List ℕ × ℕ × ℕ)) → AllByRecursion (λ x. found_in ys x.0 ≡ None) xs → IsDistinct (pointwise nat_eq) (names_of xs) → IsDistinct (pointwise nat_eq) (names_of ys)
    → IsDistinct (pointwise nat_eq) (names_of (xs ++ ys))
distinct-append [] ys lacks first second = second
distinct-append (x ∷ xs) ys lacks first second =
    IsDistinct-cons (pointwise nat_eq) x.0 (names_of (xs ++ ys))
    (all_both (λ y. pointwise nat_eq x.0 y ≡ false) xs ys (IsDistinct-head (pointwise nat_eq) x.0 (names_of xs) first) (all_other ys x.0 lacks.0))
    (distinct-append xs ys lacks.1 (IsDistinct-tail (pointwise nat_eq) x.0 (names_of xs) first) second)

-- one more name, which the list lacks
distinct-push : (xs : List (List ℕ × ℕ × ℕ)) (y : List ℕ × ℕ × ℕ) → IsDistinct (pointwise nat_eq) (names_of xs) → found_in xs y.0 ≡ None → IsDistinct (pointwise nat_eq) (names_of (xs ++ y ∷ []))
unfolding IsDistinct
distinct-push [] y once none = (tt, tt)
distinct-push (x ∷ xs) y once none =
    let head = other_head x xs y.0 none in
    IsDistinct-cons (pointwise nat_eq) x.0 (names_of (xs ++ y ∷ []))
    (all_both (λ k. pointwise nat_eq x.0 k ≡ false) xs (y ∷ []) (IsDistinct-head (pointwise nat_eq) x.0 (names_of xs) once) (nat_list_eq_equiv.symm x.0 y.0 ∙ head.0, tt))
    (distinct-push xs y (IsDistinct-tail (pointwise nat_eq) x.0 (names_of xs) once) head.1)

-- the other names of a list without repeats have none, and lack its last name
distinct-front : (xs : List (List ℕ × ℕ × ℕ)) (y : List ℕ × ℕ × ℕ) → IsDistinct (pointwise nat_eq) (names_of (xs ++ y ∷ [])) → IsDistinct (pointwise nat_eq) (names_of xs) × (found_in xs y.0 ≡ None)
unfolding IsDistinct
distinct-front [] y once = (tt, refl)
distinct-front (x ∷ xs) y once =
    let front = all_front (λ k. pointwise nat_eq x.0 k ≡ false) xs y (IsDistinct-head (pointwise nat_eq) x.0 (names_of (xs ++ y ∷ [])) once) in
    let rest = distinct-front xs y (IsDistinct-tail (pointwise nat_eq) x.0 (names_of (xs ++ y ∷ [])) once) in
    (IsDistinct-cons (pointwise nat_eq) x.0 (names_of xs) front.0 rest.0, ap (λ b. cond b (Some (x.1, x.2)) (found_in xs y.0)) (nat_list_eq_equiv.symm y.0 x.0 ∙ front.1) ∙ rest.1)

-- what one more name at the end changes
found_in-push : (es : List (List ℕ × ℕ × ℕ)) (x : List ℕ × ℕ × ℕ) (q : List ℕ) → found_in (es ++ x ∷ []) q ≡ option_or (found_in es q) (cond (pointwise nat_eq q x.0) (Some (x.1, x.2)) None)
found_in-push es x q = found_in-append es (x ∷ []) q

-- a name that neither has is put into the list
pub PutsAt-pushed : (a b : List (List ℕ × ℕ × ℕ)) (x : List ℕ × ℕ × ℕ) → found_in (a ++ b) x.0 ≡ None → PutsAt (a ++ b) (a ++ (b ++ x ∷ [])) x.0 (Some (x.1, x.2))
PutsAt-pushed a b x none q = ap (λ es. found_in es q) (sym (append_assoc a b (x ∷ []))) ∙ found_in-push (a ++ b) x q ∙ decide (pointwise nat_eq q x.0) refl
  where
    decide : (c : Bool) → pointwise nat_eq q x.0 ≡ c → option_or (found_in (a ++ b) q) (cond c (Some (x.1, x.2)) None) ≡ cond c (Some (x.1, x.2)) (found_in (a ++ b) q)
    decide true is = ap (λ o. option_or o (Some (x.1, x.2))) (ap (found_in (a ++ b)) ((bytes_decides q x.0).0 is) ∙ none)
    decide false is = option_or-None (found_in (a ++ b) q)

-- and the list still stands beside the bucket
pub AreBeside-pushed : (a b : List (List ℕ × ℕ × ℕ)) (x : List ℕ × ℕ × ℕ) → AreBeside a b → found_in a x.0 ≡ None → found_in b x.0 ≡ None → AreBeside a (b ++ x ∷ [])
AreBeside-pushed a b x beside first second = record {
  once = distinct-push b x beside.once second;
  apart = λ q some. decide q (pointwise nat_eq q x.0) refl some;
}
  where
    decide : (q : List ℕ) (c : Bool) → pointwise nat_eq q x.0 ≡ c → IsSome (found_in (b ++ x ∷ []) q) → found_in a q ≡ None
    decide q true is some = ap (found_in a) ((bytes_decides q x.0).0 is) ∙ first
    decide q false is some = beside.apart q (subst IsSome (found_in-push b x q ∙ ap (λ c. option_or (found_in b q) (cond c (Some (x.1, x.2)) None)) is ∙ option_or-None (found_in b q)) some)

-- the last name of the list moves into the bucket
pub moved : (a d b : List (List ℕ × ℕ × ℕ)) (x : List ℕ × ℕ × ℕ) → AreBeside a (b ++ x ∷ []) → PutsAt a d x.0 (Some (x.1, x.2)) → AreBeside d b × FindSame (a ++ (b ++ x ∷ [])) (d ++ b)
moved a d b x beside puts = (
  record { once = front.0; apart = λ q some. without q (pointwise nat_eq q x.0) refl some },
  λ q. found_in-append d b q ∙ same q (pointwise nat_eq q x.0) refl ∙ sym (found_in-append a (b ++ x ∷ []) q ∙ ap (option_or (found_in a q)) (found_in-push b x q)),
)
  where
    front : IsDistinct (pointwise nat_eq) (names_of b) × (found_in b x.0 ≡ None)
    front = distinct-front b x beside.once

    lacks : (q : List ℕ) → pointwise nat_eq q x.0 ≡ true → found_in b q ≡ None
    lacks q is = ap (found_in b) ((bytes_decides q x.0).0 is) ∙ front.1

    listed : (q : List ℕ) (c : Bool) → pointwise nat_eq q x.0 ≡ c → found_in (b ++ x ∷ []) q ≡ option_or (found_in b q) (cond c (Some (x.1, x.2)) None)
    listed q c is = found_in-push b x q ∙ ap (λ c. option_or (found_in b q) (cond c (Some (x.1, x.2)) None)) is

    at : (q : List ℕ) (c : Bool) → pointwise nat_eq q x.0 ≡ c → found_in d q ≡ cond c (Some (x.1, x.2)) (found_in a q)
    at q c is = puts q ∙ ap (λ c. cond c (Some (x.1, x.2)) (found_in a q)) is

    without : (q : List ℕ) (c : Bool) → pointwise nat_eq q x.0 ≡ c → IsSome (found_in b q) → found_in d q ≡ None
    without q true is some = absurd (not_none some (lacks q is))
    without q false is some = at q false is ∙ beside.apart q (subst IsSome (sym (listed q false is ∙ option_or-None (found_in b q))) some)

    same : (q : List ℕ) (c : Bool) → pointwise nat_eq q x.0 ≡ c
        → option_or (found_in d q) (found_in b q) ≡ option_or (found_in a q) (option_or (found_in b q) (cond (pointwise nat_eq q x.0) (Some (x.1, x.2)) None))
    same q true is =
        ap (λ o. option_or o (found_in b q)) (at q true is)
        ∙ sym ((λ i. option_or (gone i) (option_or (lacks q is i) (cond (is i) (Some (x.1, x.2)) None))))
      where
        gone : found_in a q ≡ None
        gone = beside.apart q (subst IsSome (sym (listed q true is ∙ ap (λ o. option_or o (Some (x.1, x.2))) (lacks q is))) refl)
    same q false is =
        ap (λ o. option_or o (found_in b q)) (at q false is)
        ∙ ap (option_or (found_in a q)) (sym (ap (λ c. option_or (found_in b q) (cond c (Some (x.1, x.2)) None)) is ∙ option_or-None (found_in b q)))

-- the names of others that rise are apart
all_apart : (k : Vec ℕ Global) (es : List (Vec ℕ Global × Target)) → AllByRecursion (λ y. by_bytes k y ≡ Less) (keys_of es) → AllByRecursion (λ y. pointwise nat_eq k.items y ≡ false) (names_of (map other_line es))
all_apart k [] all = tt
all_apart k (e ∷ es) all = (texts_ties k.items e.0.items ∙ ap is_eq all.0, all_apart k es all.1)

-- so none of them is there twice
pub distinct-others : (es : List (Vec ℕ Global × Target)) → IsStrictlySortedBy by_bytes (keys_of es) → IsDistinct (pointwise nat_eq) (names_of (map other_line es))
unfolding IsDistinct
distinct-others [] sorted = tt
distinct-others (e ∷ es) sorted =
    IsDistinct-cons (pointwise nat_eq) e.0.items (names_of (map other_line es)) (all_apart e.0 es (sorted_head by_bytes e.0 (keys_of es) sorted)) (distinct-others es (sorted_tail by_bytes e.0 (keys_of es) sorted))

-- the names of different keys are apart
keys_apart : (e : Entry) (es : List Entry) → e.0 ≡ key_of e.1.0 → Keyed es → AllByRecursion (λ y. nat_eq e.0 y ≡ false) (keys_of es) → AllByRecursion (λ y. pointwise nat_eq e.1.0 y ≡ false) (names_of (map first_line es))
keys_apart e [] is keyed all = tt
keys_apart e (x ∷ xs) is keyed all = (other_names e x is keyed.0 all.0, keys_apart e xs is keyed.1 all.1)

-- so no name is there twice
pub distinct-first : (es : List Entry) → Keyed es → IsDistinct nat_eq (keys_of es) → IsDistinct (pointwise nat_eq) (names_of (map first_line es))
unfolding IsDistinct
distinct-first [] keyed once = tt
distinct-first (e ∷ es) keyed once =
    IsDistinct-cons (pointwise nat_eq) e.1.0 (names_of (map first_line es)) (keys_apart e es keyed.0 keyed.1 (IsDistinct-head nat_eq e.0 (keys_of es) once))
    (distinct-first es keyed.1 (IsDistinct-tail nat_eq e.0 (keys_of es) once))

-- no name is twice in two lists together that stand apart
pub distinct-both : (a b : List (List ℕ × ℕ × ℕ)) → IsDistinct (pointwise nat_eq) (names_of a) → IsDistinct (pointwise nat_eq) (names_of b) → AreApart a b → IsDistinct (pointwise nat_eq) (names_of (a ++ b))
distinct-both a b once once' apart = distinct-append a b (without a (each_found a once)) once once'
  where
    without : (xs : List (List ℕ × ℕ × ℕ)) → AllByRecursion (λ x. found_in a x.0 ≡ Some (x.1, x.2)) xs → AllByRecursion (λ x. found_in b x.0 ≡ None) xs
    without [] all = tt
    without (x ∷ xs) all = (second_lacks a b x.0 (x.1, x.2) apart all.0, without xs all.1)
