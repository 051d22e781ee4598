-- What a list of names finds, through a change of the others of a bucket or of the list beside it.
use Rattle.std.proofs.Common.{◌≡◌, ℕ, Bool, true, false, cond, not, nat_eq, List, [], ◌∷◌, ◌++◌, map, Option, Some, None, is_some, Vec, refl, sym, ap, ◌∙◌}
use Rattle.std.specs.declared.alloc.Global.{Global}
use Rattle.std.specs.declared.cmp.Ordering.{Ordering}
use Rattle.std.specs.declared.cmp.Ordering.TheVariants.{Less, Equal, Greater}
use Rattle.std.specs.Ordering.{nat_cmp, is_eq, match_ordering}
use Rattle.std.specs.BTreeMap.{insert_entry, is_at}
use Rattle.std.specs.List.{filter}
use Rattle.std.specs.Option.{option_map, option_or}
use Rattle.std.specs.Map.{lookup, remove_entry}
use Rattle.std.specs.Cmp.Lexicographic.{pointwise, slice_cmp, nat_list_eq_equiv, texts_ties, bytes_decides}
use Rattle.std.proofs.lemmas.Option.{none-some}
use Rattle.nv_names.specs.declared.target.Target.{Target}
use Rattle.nv_names.specs.Names.{found_in, inode_and_place}
use Rattle.nv_names.specs.Table.{fresh_line, PutsAt}
use Rattle.nv_names.specs.Bucket.{other_line}

-- the order of the others
abbrev pub by_bytes : Vec ℕ Global → Vec ℕ Global → Ordering
by_bytes x y = slice_cmp nat_cmp x.items y.items

-- whether one of them has these bytes
abbrev pub has_bytes : List ℕ → Vec ℕ Global → Bool
has_bytes q = is_at (λ (k : Vec ℕ Global). slice_cmp nat_cmp q k.items)

-- a name that is one of two equal ones is the other, and else is neither
pub same_test : (q a b : List ℕ) → pointwise nat_eq a b ≡ true → pointwise nat_eq q a ≡ pointwise nat_eq q b
same_test q a b e = ap (pointwise nat_eq q) ((bytes_decides a b).0 e)

-- a name that is equal to one of two different names isn't the other
pub other_test : (q a b : List ℕ) → pointwise nat_eq q a ≡ true → pointwise nat_eq a b ≡ false → pointwise nat_eq q b ≡ false
other_test q a b is apart = ap (λ r. pointwise nat_eq r b) ((bytes_decides q a).0 is) ∙ apart

-- a search of the others finds what their list does
pub found_other : (es : List (Vec ℕ Global × Target)) (q : List ℕ) → found_in (map other_line es) q ≡ option_map inode_and_place (lookup (has_bytes q) es)
found_other [] q = refl
found_other (e ∷ es) q =
    ap (λ b. cond b (Some (e.1.inode, e.1.place)) (found_in (map other_line es) q)) (texts_ties q e.0.items)
    ∙ ap (cond (has_bytes q e.0) (Some (e.1.inode, e.1.place))) (found_other es q)
    ∙ choose (has_bytes q e.0)
  where
    choose : (b : Bool) → cond b (Some (inode_and_place e.1)) (option_map inode_and_place (lookup (has_bytes q) es)) ≡ option_map inode_and_place (cond b (Some e.1) (lookup (has_bytes q) es))
    choose true = refl
    choose false = refl

-- what the others find after a name was put among them
other-inserted : (es : List (Vec ℕ Global × Target)) (k : Vec ℕ Global) (v : Target) → PutsAt (map other_line es) (map other_line (insert_entry by_bytes es k v)) k.items (Some (inode_and_place v))
other-inserted [] k v q = refl
other-inserted (e ∷ es) k v q = place (other-inserted es k v q) (by_bytes k e.0) refl
  where
    n : List ℕ
    n = k.items

    m : List ℕ
    m = e.0.items

    old : Option (ℕ × ℕ)
    old = found_in (map other_line (e ∷ es)) q

    ties : (r : Ordering) → by_bytes k e.0 ≡ r → pointwise nat_eq n m ≡ is_eq r
    ties r is = texts_ties n m ∙ ap is_eq is

    decide : (b : Bool) → pointwise nat_eq q m ≡ b → pointwise nat_eq n m ≡ false
        → cond b (Some (inode_and_place e.1)) (cond (pointwise nat_eq q n) (Some (inode_and_place v)) (found_in (map other_line es) q))
        ≡ cond (pointwise nat_eq q n) (Some (inode_and_place v)) (cond b (Some (inode_and_place e.1)) (found_in (map other_line es) q))
    decide true is apart = ap (λ c. cond c (Some (inode_and_place v)) (Some (inode_and_place e.1))) (sym (other_test q m n is (nat_list_eq_equiv.symm m n ∙ apart)))
    decide false is apart = refl

    again : (b : Bool) → cond b (Some (inode_and_place v)) (found_in (map other_line es) q) ≡ cond b (Some (inode_and_place v)) (cond b (Some (inode_and_place e.1)) (found_in (map other_line es) q))
    again true = refl
    again false = refl

    place : found_in (map other_line (insert_entry by_bytes es k v)) q ≡ cond (pointwise nat_eq q n) (Some (inode_and_place v)) (found_in (map other_line es) q)
        → (r : Ordering) → by_bytes k e.0 ≡ r
        → found_in (map other_line (match_ordering r ((k, v) ∷ e ∷ es) ((e.0, v) ∷ es) (e ∷ insert_entry by_bytes es k v))) q ≡ cond (pointwise nat_eq q n) (Some (inode_and_place v)) old
    place rest Less is = refl
    place rest Equal is =
        again (pointwise nat_eq q m)
        ∙ ap (λ c. cond c (Some (inode_and_place v)) old) (sym (same_test q n m (ties Equal is)))
    place rest Greater is =
        ap (cond (pointwise nat_eq q m) (Some (inode_and_place e.1))) rest
        ∙ decide (pointwise nat_eq q m) refl (ties Greater is)

-- the same, of a key with the bytes of a name
pub other_put : (es en : List (Vec ℕ Global × Target)) (k : Vec ℕ Global) (v : Target) (name : List ℕ) → k.items ≡ name → en ≡ insert_entry by_bytes es k v
    → PutsAt (map other_line es) (map other_line en) name (Some (inode_and_place v))
other_put es en k v name is made q =
    ap (λ ns. found_in (map other_line ns) q) made
    ∙ other-inserted es k v q
    ∙ ap (λ n. cond (pointwise nat_eq q n) (Some (inode_and_place v)) (found_in (map other_line es) q)) is

-- what the others find of other names after one was taken out
others_stay : (es : List (Vec ℕ Global × Target)) (name q : List ℕ) → pointwise nat_eq q name ≡ false → found_in (map other_line (remove_entry (has_bytes name) es)) q ≡ found_in (map other_line es) q
others_stay [] name q apart = refl
others_stay (e ∷ es) name q apart = keep (others_stay es name q apart) (has_bytes name e.0) refl
  where
    keep : found_in (map other_line (remove_entry (has_bytes name) es)) q ≡ found_in (map other_line es) q
        → (b : Bool) → has_bytes name e.0 ≡ b → found_in (map other_line (cond b es (e ∷ remove_entry (has_bytes name) es))) q ≡ found_in (map other_line (e ∷ es)) q
    keep rest true is = ap (λ c. cond c (Some (inode_and_place e.1)) (found_in (map other_line es) q)) (sym apart ∙ same_test q name e.0.items (texts_ties name e.0.items ∙ is))
    keep rest false is = ap (cond (pointwise nat_eq q e.0.items) (Some (inode_and_place e.1))) rest

-- what they find after a name was taken out
pub other_taken : (es en : List (Vec ℕ Global × Target)) (name : List ℕ) → en ≡ remove_entry (has_bytes name) es → lookup (has_bytes name) en ≡ None → PutsAt (map other_line es) (map other_line en) name None
other_taken es en name made none q = decide (pointwise nat_eq q name) refl
  where
    decide : (b : Bool) → pointwise nat_eq q name ≡ b → found_in (map other_line en) q ≡ cond b None (found_in (map other_line es) q)
    decide true is = ap (found_in (map other_line en)) ((bytes_decides q name).0 is) ∙ found_other en name ∙ ap (option_map inode_and_place) none
    decide false is = ap (λ ns. found_in (map other_line ns) q) made ∙ others_stay es name q is

-- what the list beside the bucket finds after a name was taken out of it
pub fresh-removed : (fs : List (List ℕ × Target)) (name : List ℕ) → PutsAt (map fresh_line fs) (map fresh_line (filter (λ e. not (pointwise nat_eq e.0 name)) fs)) name None
fresh-removed [] name q = choose (pointwise nat_eq q name)
  where
    nothing : Option (ℕ × ℕ)
    nothing = None

    choose : (b : Bool) → nothing ≡ cond b None nothing
    choose true = refl
    choose false = refl
fresh-removed (e ∷ fs) name q = keep (fresh-removed fs name q) (pointwise nat_eq e.0 name) refl
  where
    left : List (List ℕ × Target)
    left = filter (λ d. not (pointwise nat_eq d.0 name)) fs

    gone : (b : Bool) → pointwise nat_eq q name ≡ b → pointwise nat_eq e.0 name ≡ true → cond b None (found_in (map fresh_line fs) q) ≡ cond b None (found_in (map fresh_line (e ∷ fs)) q)
    gone true is here = refl
    gone false is here = ap (λ c. cond c (Some (inode_and_place e.1)) (found_in (map fresh_line fs) q)) (sym (same_test q e.0 name here ∙ is))

    stays : (b : Bool) → pointwise nat_eq q e.0 ≡ b → pointwise nat_eq e.0 name ≡ false
        → cond b (Some (inode_and_place e.1)) (cond (pointwise nat_eq q name) None (found_in (map fresh_line fs) q))
        ≡ cond (pointwise nat_eq q name) None (cond b (Some (inode_and_place e.1)) (found_in (map fresh_line fs) q))
    stays true is apart = ap (λ c. cond c None (Some (inode_and_place e.1))) (sym (other_test q e.0 name is apart))
    stays false is apart = refl

    keep : found_in (map fresh_line left) q ≡ cond (pointwise nat_eq q name) None (found_in (map fresh_line fs) q)
        → (b : Bool) → pointwise nat_eq e.0 name ≡ b → found_in (map fresh_line (cond (not b) (e ∷ left) left)) q ≡ cond (pointwise nat_eq q name) None (found_in (map fresh_line (e ∷ fs)) q)
    keep rest true is = rest ∙ gone (pointwise nat_eq q name) refl is
    keep rest false is = ap (cond (pointwise nat_eq q e.0) (Some (inode_and_place e.1))) rest ∙ stays (pointwise nat_eq q e.0) refl is

-- a list without the name stays as it is
pub fresh-lacks : (fs : List (List ℕ × Target)) (name : List ℕ) → found_in (map fresh_line fs) name ≡ None → filter (λ e. not (pointwise nat_eq e.0 name)) fs ≡ fs
fresh-lacks [] name none = refl
fresh-lacks (e ∷ fs) name none = decide (fresh-lacks fs name) (pointwise nat_eq name e.0) refl
  where
    left : List (List ℕ × Target)
    left = filter (λ d. not (pointwise nat_eq d.0 name)) fs

    decide : (found_in (map fresh_line fs) name ≡ None → left ≡ fs) → (b : Bool) → pointwise nat_eq name e.0 ≡ b → filter (λ d. not (pointwise nat_eq d.0 name)) (e ∷ fs) ≡ e ∷ fs
    decide rest true is = absurd (none-some _ (sym none ∙ ap (λ b. cond b (Some (e.1.inode, e.1.place)) (found_in (map fresh_line fs) name)) is))
    decide rest false is =
        ap (λ b. cond (not b) (e ∷ left) left) (nat_list_eq_equiv.symm e.0 name ∙ is)
        ∙ ap (λ xs. e ∷ xs) (rest (sym (ap (λ b. cond b (Some (e.1.inode, e.1.place)) (found_in (map fresh_line fs) name)) is) ∙ none))

-- what two lists have together
pub found_in-append : (xs ys : List (List ℕ × ℕ × ℕ)) (q : List ℕ) → found_in (xs ++ ys) q ≡ option_or (found_in xs q) (found_in ys q)
found_in-append [] ys q = refl
found_in-append (x ∷ xs) ys q = ap (cond (pointwise nat_eq q x.0) (Some (x.1, x.2))) (found_in-append xs ys q) ∙ choose (pointwise nat_eq q x.0)
  where
    choose : (b : Bool) → cond b (Some (x.1, x.2)) (option_or (found_in xs q) (found_in ys q)) ≡ option_or (cond b (Some (x.1, x.2)) (found_in xs q)) (found_in ys q)
    choose true = refl
    choose false = refl

-- what the first of two lists has
pub found_in-first : (xs ys : List (List ℕ × ℕ × ℕ)) (q : List ℕ) (v : ℕ × ℕ) → Some v ≡ found_in xs q → Some v ≡ found_in (xs ++ ys) q
found_in-first xs ys q v is = sym (found_in-append xs ys q ∙ ap (λ o. option_or o (found_in ys q)) (sym is))

-- what only the second has
pub found_in-second : (xs ys : List (List ℕ × ℕ × ℕ)) (q : List ℕ) (o : Option (ℕ × ℕ)) → None ≡ found_in xs q → o ≡ found_in ys q → o ≡ found_in (xs ++ ys) q
found_in-second xs ys q o none is = is ∙ sym (found_in-append xs ys q ∙ ap (λ p. option_or p (found_in ys q)) (sym none))

-- a target is there as the pair that it stands for is
pub some_of : (o : Option Target) → is_some o ≡ is_some (option_map inode_and_place o)
some_of None = refl
some_of (Some t) = refl
