-- What the calls of a bucket make of its two maps.
use Rattle.std.proofs.Common.{◌≡◌, ℕ, ◌+◌, ◌<◌, ◌≤◌, ◌^◌, Bool, true, false, cond, nat_eq, List, length, map, Option, Some, None, IsSome, Result, Ok, Err, OnOk, OnErr, Vec, refl, sym, ap, subst, ◌∙◌, arith, length-append}
use Rattle.std.specs.declared.alloc.Global.{Global}
use Rattle.std.specs.Map.{lookup}
use Rattle.std.specs.Cmp.Lexicographic.{pointwise, nat_list_eq_equiv, bytes_decides}
use Rattle.std.proofs.lemmas.List.{length-map}
use Rattle.std.proofs.lemmas.List.Elements.{recursion_from_All}
use Rattle.nv_names.specs.declared.target.Target.{Target}
use Rattle.nv_names.specs.Keys.{key_of}
use Rattle.nv_names.specs.Names.{found_in}
use Rattle.nv_names.specs.Table.{PutsAt, FindSame, AreApart}
use Rattle.nv_names.specs.Bucket.{first_line, other_line, lines_of, AreKeyed, IsBucket}
use Rattle.nv_names.proofs.Entries.{found_in-first, found_in-second}
use Rattle.nv_names.proofs.First.{Entry, Once, PutsIn, same_key, at_name, Only, only_it, only_found, first_at, first_changed, first_same, key_is, keyed-put}
use Rattle.nv_names.proofs.Beside.{PutsAt-both, AreApart-both, PutsAt-second, AreApart-second, AreApart-same, FindSame-front, PutsAt-nothing, second_lacks}

-- the names by themselves, and what they stand for
abbrev pub Others : Type 0
Others = List (Vec ℕ Global × Target)

-- Where a name was put or taken out, the maps are a bucket again, in which the name stands for w.
pub record Changes (es en : List Entry) (os on : Others) (name : List ℕ) (w : Option (ℕ × ℕ)) : Type 0 where
  pub bucket : IsBucket en on
  pub names : PutsAt (lines_of es os) (lines_of en on) name w

-- the entry of a name's key in `first` changes, and the others lose the name
both_changed : (es en : List Entry) (os on : Others) (name : List ℕ) (w : Option (List ℕ × ℕ × ℕ)) → IsBucket es os → AreKeyed en → Once en
    → ((k : ℕ) → lookup (same_key k) en ≡ cond (same_key (key_of name) k) w (lookup (same_key k) es)) → Only name w → Only name (lookup (same_key (key_of name)) es)
    → PutsAt (map other_line os) (map other_line on) name None → length en + length on < 2 ^ 63 → Changes es en os on name (at_name name w)
both_changed es en os on name w bucket keyed once changed new old second few =
    let first : PutsAt (map first_line es) (map first_line en) name (at_name name w) = first_changed es en name w (recursion_from_All _ _ bucket.keyed) bucket.once (recursion_from_All _ _ keyed) once changed new old in record {
      bucket = record {
        keyed = keyed;
        once = once;
        apart = AreApart-both (map first_line es) (map first_line en) (map other_line os) (map other_line on) name (at_name name w) first second bucket.apart;
        few = few;
      };
      names = PutsAt-both (map first_line es) (map first_line en) (map other_line os) (map other_line on) name (at_name name w) first second;
    }

-- what stands by a name's key where it is found
found_there : (es : List Entry) (os : Others) (name : List ℕ) → IsBucket es os → found_in (map first_line es) name ≡ at_name name (lookup (same_key (key_of name)) es)
found_there es os name bucket = first_at es (key_of name) name (lookup (same_key (key_of name)) es) (recursion_from_All _ _ bucket.keyed) bucket.once refl refl

-- a name that is found by its key is taken out
pub first_taken : (es en : List Entry) (os : Others) (key : ℕ) (name : List ℕ) (v : ℕ × ℕ) → IsBucket es os → key ≡ key_of name → Some v ≡ found_in (map first_line es) name → AreKeyed en → Once en
    → length en ≤ length es → ((k : ℕ) → lookup (same_key k) en ≡ cond (same_key key k) None (lookup (same_key k) es)) → Changes es en os os name None
first_taken es en os key name v bucket is found keyed once fewer taken =
    both_changed es en os os name None bucket keyed once
    (λ k. taken k ∙ ap (λ n. cond (same_key n k) None (lookup (same_key k) es)) is)
    (λ q apart. refl)
    (only_found name (lookup (same_key (key_of name)) es) v (sym (found ∙ found_there es os name bucket)))
    (PutsAt-nothing (map other_line os) name (second_lacks (map first_line es) (map other_line os) name v bucket.apart (sym found)))
    (let few = bucket.few in omega (arith, few, fewer))

-- a name that isn't found by its key is taken out of the others
pub other_taken_out : (es : List Entry) (os on : Others) (name : List ℕ) → IsBucket es os → None ≡ found_in (map first_line es) name → length on ≤ length os
    → PutsAt (map other_line os) (map other_line on) name None → Changes es es os on name None
other_taken_out es os on name bucket none fewer second = record {
  bucket = record {
    keyed = bucket.keyed;
    once = bucket.once;
    apart = AreApart-second (map first_line es) (map first_line es) (map other_line os) (map other_line on) name None (λ q. refl) (sym none) second bucket.apart;
    few = let few = bucket.few in omega (arith, few, fewer);
  };
  names = PutsAt-second (map first_line es) (map first_line es) (map other_line os) (map other_line on) name None (λ q. refl) (sym none) second;
}

-- an entry stands by the key of a name that is found
pub first_there : (es : List Entry) (os : Others) (key : ℕ) (name : List ℕ) (v : ℕ × ℕ) → IsBucket es os → key ≡ key_of name → Some v ≡ found_in (map first_line es) name → IsSome (lookup (same_key key) es)
first_there es os key name v bucket is found = decide (lookup (same_key key) es) refl
  where
    decide : (o : Option (List ℕ × ℕ × ℕ)) → o ≡ lookup (same_key key) es → IsSome o
    decide None there = absurd (let none : Some v ≡ None = found ∙ first_at es key name None (recursion_from_All _ _ bucket.keyed) bucket.once is there in cc)
    decide (Some h) there = refl

-- how many names both maps have
lines_count : (es : List Entry) (os : Others) → length (lines_of es os) ≡ length es + length os
lines_count es os = omega (arith, length-append (map first_line es) (map other_line os), length-map es first_line, length-map os other_line)

-- one less where the key's name was taken out
pub first_less : (es en : List Entry) (os : Others) → length en + 1 ≡ length es → length (lines_of en os) + 1 ≡ length (lines_of es os)
first_less es en os less = omega (arith, less, lines_count es os, lines_count en os)

-- and where one of the others was, if it was there
pub other_less : (es : List Entry) (os on : Others) (n : ℕ) → length on + n ≡ length os → length (lines_of es on) + n ≡ length (lines_of es os)
other_less es os on n less = omega (arith, less, lines_count es os, lines_count es on)

-- one more where a key is new, but for a name that one of the others was
pub new_more : (es en : List Entry) (os on : Others) (b c : Bool) → b ≡ false → length en ≡ length es + cond b 0 1 → length on + cond c 1 0 ≡ length os → length (lines_of en on) ≡ length (lines_of es os) + cond c 0 1
new_more es en os on true c is first second = absurd (cc)
new_more es en os on false true is first second = omega (arith, first, second, lines_count es os, lines_count en on)
new_more es en os on false false is first second = omega (arith, first, second, lines_count es os, lines_count en on)

-- as many where the key had the name
pub again_more : (es en : List Entry) (os : Others) (b : Bool) → b ≡ true → length en ≡ length es + cond b 0 1 → length (lines_of en os) ≡ length (lines_of es os) + 0
again_more es en os true is first = omega (arith, first, lines_count es os, lines_count en os)
again_more es en os false is first = absurd (cc)

-- and where the key has again what it had, as many more as of the others
pub other_more : (es em en : List Entry) (os on : Others) (b : Bool) (n : ℕ) → b ≡ true → length em ≡ length es + cond b 0 1 → length en ≡ length em → length on ≡ length os + n → length (lines_of en on) ≡ length (lines_of es os) + n
other_more es em en os on true n is first back second = omega (arith, first, back, second, lines_count es os, lines_count en on)
other_more es em en os on false n is first back second = absurd (cc)

-- so as many where the others refused the name
pub no_other_more : (es em en : List Entry) (os on : Others) (b : Bool) → b ≡ true → length em ≡ length es + cond b 0 1 → length en ≡ length em → on ≡ os → length (lines_of en on) ≡ length (lines_of es os)
no_other_more es em en os on b is first back same =
    let stay : length on ≡ length os + 0 = (let e = ap length same in omega (arith, e)) in let all = other_more es em en os on b 0 is first back stay in omega (arith, all)

-- each key is that of its name after a name was put in
pub put_keyed : (old : Option (List ℕ × ℕ × ℕ)) (es en : List Entry) (key : ℕ) (name : List ℕ) (h : List ℕ × ℕ × ℕ) (v : ℕ × ℕ) → AreKeyed es → key ≡ key_of name → h ≡ (name, v.0, v.1) → PutsIn es en key h old → AreKeyed en
put_keyed old es en key name h v keyed is own made = keyed-put old es en key h made keyed (is ∙ ap (λ (x : List ℕ × ℕ × ℕ). key_of x.0) (sym own))

-- the entry of a name at its own name
at_own : (name : List ℕ) (h : List ℕ × ℕ × ℕ) (v : ℕ × ℕ) → h ≡ (name, v.0, v.1) → at_name name (Some h) ≡ Some v
at_own name h v is = ap (λ (x : List ℕ × ℕ × ℕ). at_name name (Some x)) is ∙ ap (λ b. cond b (Some v) None) (nat_list_eq_equiv.refl name)

-- a name is put in by its key, which no other name has
own_put : (was : Option (List ℕ × ℕ × ℕ)) (es en : List Entry) (os on : Others) (key : ℕ) (name : List ℕ) (h : List ℕ × ℕ × ℕ) (v : ℕ × ℕ) → IsBucket es os → key ≡ key_of name → h ≡ (name, v.0, v.1) → Only name (lookup (same_key key) es)
    → PutsIn es en key h was → Once en → ((k : ℕ) → lookup (same_key k) en ≡ cond (same_key key k) (Some h) (lookup (same_key k) es))
    → PutsAt (map other_line os) (map other_line on) name None → length en + length on < 2 ^ 63 → Changes es en os on name (Some v)
own_put was es en os on key name h v bucket is own old made once put second few =
    subst (Changes es en os on name) (at_own name h v own)
    (both_changed es en os on name (Some h) bucket (put_keyed was es en key name h v bucket.keyed is own made) once
    (λ k. put k ∙ ap (λ n. cond (same_key n k) (Some h) (lookup (same_key k) es)) is)
    (only_it name h (ap (λ (x : List ℕ × ℕ × ℕ). x.0) own))
    (subst (λ k. Only name (lookup (same_key k) es)) is old)
    second few)

-- a name whose key is new
pub new_put : (old : Option (List ℕ × ℕ × ℕ)) (es en : List Entry) (os on : Others) (key : ℕ) (name : List ℕ) (h : List ℕ × ℕ × ℕ) (v : ℕ × ℕ) → IsBucket es os → key ≡ key_of name → h ≡ (name, v.0, v.1) → None ≡ lookup (same_key key) es
    → PutsIn es en key h old → Once en → ((k : ℕ) → lookup (same_key k) en ≡ cond (same_key key k) (Some h) (lookup (same_key k) es))
    → PutsAt (map other_line os) (map other_line on) name None → length en + length on < 2 ^ 63 → Changes es en os on name (Some v)
new_put old es en os on key name h v bucket is own none made once put second few =
    own_put old es en os on key name h v bucket is own (subst (Only name) none (λ q apart. refl)) made once put second few

-- what a name has that no key finds
pub new_had : (es : List Entry) (os : Others) (key : ℕ) (name : List ℕ) (had : Option (ℕ × ℕ)) → IsBucket es os → key ≡ key_of name → None ≡ lookup (same_key key) es → had ≡ found_in (map other_line os) name → had ≡ found_in (lines_of es os) name
new_had es os key name had bucket is none found =
    found_in-second (map first_line es) (map other_line os) name had (sym (first_at es key name None (recursion_from_All _ _ bucket.keyed) bucket.once is none)) found

-- what a name stands for whose entry its key finds
own_found : (es : List Entry) (os : Others) (key : ℕ) (name : List ℕ) (before : List ℕ × ℕ × ℕ) → IsBucket es os → key ≡ key_of name → Some before ≡ lookup (same_key key) es → pointwise nat_eq name before.0 ≡ true
    → found_in (map first_line es) name ≡ Some (before.1, before.2)
own_found es os key name before bucket is was same =
    first_at es key name (Some before) (recursion_from_All _ _ bucket.keyed) bucket.once is was ∙ ap (λ b. cond b (Some (before.1, before.2)) None) same

-- a name that stands by its key is put in again
pub again_put : (old : Option (List ℕ × ℕ × ℕ)) (es en : List Entry) (os : Others) (key : ℕ) (name : List ℕ) (h before : List ℕ × ℕ × ℕ) (v : ℕ × ℕ) → IsBucket es os → key ≡ key_of name → h ≡ (name, v.0, v.1) → Some before ≡ lookup (same_key key) es
    → pointwise nat_eq name before.0 ≡ true → PutsIn es en key h old → Once en
    → ((k : ℕ) → lookup (same_key k) en ≡ cond (same_key key k) (Some h) (lookup (same_key k) es)) → length en + length os < 2 ^ 63 → Changes es en os os name (Some v)
again_put old es en os key name h before v bucket is own was same made once put few =
    own_put old es en os os key name h v bucket is own (subst (Only name) was (only_it name before (sym ((bytes_decides name before.0).0 same)))) made once put
    (PutsAt-nothing (map other_line os) name (second_lacks (map first_line es) (map other_line os) name (before.1, before.2) bucket.apart (own_found es os key name before bucket is was same)))
    few

-- and had what its entry tells
pub again_had : (es : List Entry) (os : Others) (key : ℕ) (name : List ℕ) (before : List ℕ × ℕ × ℕ) → IsBucket es os → key ≡ key_of name → Some before ≡ lookup (same_key key) es → pointwise nat_eq name before.0 ≡ true
    → Some (before.1, before.2) ≡ found_in (lines_of es os) name
again_had es os key name before bucket is was same = found_in-first (map first_line es) (map other_line os) name (before.1, before.2) (sym (own_found es os key name before bucket is was same))

-- how many entries there are at most after one was put in
pub one_more : (b : Bool) (n m : ℕ) → m ≡ n + cond b 0 1 → m ≤ n + 1
one_more true n m len = omega (arith, len)
one_more false n m len = omega (arith, len)

-- there are as many where the key had one
pub no_more : (b : Bool) (n m : ℕ) → b ≡ true → m ≡ n + cond b 0 1 → m ≡ n
no_more true n m is len = omega (arith, len)
no_more false n m is len = absurd (cc)

-- A name whose key another has is put among the others, or refused.
pub record Puts {X E : Type 0} (r : Result X E) (es en : List Entry) (os on : Others) (name : List ℕ) (w : Option (ℕ × ℕ)) : Type 0 where
  pub bucket : IsBucket en on
  pub ok : OnOk r (PutsAt (lines_of es os) (lines_of en on) name w)
  pub err : OnErr r (FindSame (lines_of es os) (lines_of en on))

-- the key has again what it had
key_again : (es em en : List Entry) (key : ℕ) (h before : List ℕ × ℕ × ℕ) → Some before ≡ lookup (same_key key) es
    → ((k : ℕ) → lookup (same_key k) em ≡ cond (same_key key k) (Some h) (lookup (same_key k) es))
    → ((k : ℕ) → lookup (same_key k) en ≡ cond (same_key key k) (Some before) (lookup (same_key k) em)) → (k : ℕ) → lookup (same_key k) en ≡ lookup (same_key k) es
key_again es em en key h before was put back k = back k ∙ ap (cond (same_key key k) (Some before)) (put k) ∙ decide (same_key key k) refl
  where
    decide : (b : Bool) → same_key key k ≡ b → cond b (Some before) (cond b (Some h) (lookup (same_key k) es)) ≡ lookup (same_key k) es
    decide true is = was ∙ ap (λ n. lookup (same_key n) es) (key_is key k is)
    decide false is = refl

-- another name stands by the key
other_there : (es : List Entry) (os : Others) (key : ℕ) (name : List ℕ) (before : List ℕ × ℕ × ℕ) → IsBucket es os → key ≡ key_of name → Some before ≡ lookup (same_key key) es → pointwise nat_eq name before.0 ≡ false
    → found_in (map first_line es) name ≡ None
other_there es os key name before bucket is was apart =
    first_at es key name (Some before) (recursion_from_All _ _ bucket.keyed) bucket.once is was ∙ ap (λ b. cond b (Some (before.1, before.2)) None) apart

-- so a name that no key finds is put among the others
beside_puts : {X E : Type 0} (r : Result X E) (es en : List Entry) (os on : Others) (name : List ℕ) (w : Option (ℕ × ℕ)) → IsBucket es os → AreKeyed en → Once en → FindSame (map first_line es) (map first_line en)
    → found_in (map first_line es) name ≡ None → length en + length on < 2 ^ 63 → OnOk r (PutsAt (map other_line os) (map other_line on) name w) → OnErr r (on ≡ os) → Puts r es en os on name w
beside_puts (Ok x) es en os on name w bucket keyed once same none few second rest = record {
  bucket = record {
    keyed = keyed;
    once = once;
    apart = AreApart-second (map first_line es) (map first_line en) (map other_line os) (map other_line on) name w same none second bucket.apart;
    few = few;
  };
  ok = PutsAt-second (map first_line es) (map first_line en) (map other_line os) (map other_line on) name w same none second;
  err = tt;
}
beside_puts (Err x) es en os on name w bucket keyed once same none few second rest = record {
  bucket = record {
    keyed = keyed;
    once = once;
    apart = subst (λ xs. AreApart (map first_line en) (map other_line xs)) (sym rest) (AreApart-same (map first_line es) (map first_line en) (map other_line os) same bucket.apart);
    few = few;
  };
  ok = tt;
  err = subst (λ xs. FindSame (lines_of es os) (lines_of en xs)) (sym rest) (FindSame-front (map first_line es) (map first_line en) (map other_line os) same);
}

-- where another name has its key
pub other_puts : {X E : Type 0} (r : Result X E) (es em en : List Entry) (os on : Others) (key : ℕ) (name : List ℕ) (h before : List ℕ × ℕ × ℕ) (w : Option (ℕ × ℕ)) → IsBucket es os → key ≡ key_of name → Some before ≡ lookup (same_key key) es
    → pointwise nat_eq name before.0 ≡ false → AreKeyed en → Once en
    → ((k : ℕ) → lookup (same_key k) em ≡ cond (same_key key k) (Some h) (lookup (same_key k) es))
    → ((k : ℕ) → lookup (same_key k) en ≡ cond (same_key key k) (Some before) (lookup (same_key k) em))
    → length en + length on < 2 ^ 63 → OnOk r (PutsAt (map other_line os) (map other_line on) name w) → OnErr r (on ≡ os) → Puts r es en os on name w
other_puts r es em en os on key name h before w bucket is was apart keyed once put back few second rest =
    beside_puts r es en os on name w bucket keyed once
    (first_same es en (recursion_from_All _ _ bucket.keyed) bucket.once (recursion_from_All _ _ keyed) once (key_again es em en key h before was put back))
    (other_there es os key name before bucket is was apart) few second rest

-- and where its key is new, and the keys take no more
pub full_puts : {X E : Type 0} (r : Result X E) (es : List Entry) (os on : Others) (key : ℕ) (name : List ℕ) (w : Option (ℕ × ℕ)) → IsBucket es os → key ≡ key_of name → lookup (same_key key) es ≡ None
    → length es + length on < 2 ^ 63 → OnOk r (PutsAt (map other_line os) (map other_line on) name w) → OnErr r (on ≡ os) → Puts r es es os on name w
full_puts r es os on key name w bucket is none few second rest =
    beside_puts r es es os on name w bucket bucket.keyed bucket.once (λ q. refl) (first_at es key name None (recursion_from_All _ _ bucket.keyed) bucket.once is (sym none)) few second rest

-- as many more as of the others
pub full_more : (es : List Entry) (os on : Others) (n : ℕ) → length on ≡ length os + n → length (lines_of es on) ≡ length (lines_of es os) + n
full_more es os on n second = omega (arith, second, lines_count es os, lines_count es on)

-- and had what the others tell
pub other_had : (es : List Entry) (os : Others) (key : ℕ) (name : List ℕ) (before : List ℕ × ℕ × ℕ) (had : Option (ℕ × ℕ)) → IsBucket es os → key ≡ key_of name → Some before ≡ lookup (same_key key) es → pointwise nat_eq name before.0 ≡ false
    → had ≡ found_in (map other_line os) name → had ≡ found_in (lines_of es os) name
other_had es os key name before had bucket is was apart found = found_in-second (map first_line es) (map other_line os) name had (sym (other_there es os key name before bucket is was apart)) found

-- Where each key finds what it did, the map of keys and the others are a bucket again, of the same names.
pub record Stays (es en : List Entry) (os : Others) : Type 0 where
  pub bucket : IsBucket en os
  pub names : FindSame (lines_of es os) (lines_of en os)

pub first_stays : (es en : List Entry) (os : Others) → IsBucket es os → AreKeyed en → Once en → length en ≡ length es → ((k : ℕ) → lookup (same_key k) en ≡ lookup (same_key k) es) → Stays es en os
first_stays es en os bucket keyed once len same =
    let first : FindSame (map first_line es) (map first_line en) = first_same es en (recursion_from_All _ _ bucket.keyed) bucket.once (recursion_from_All _ _ keyed) once same in record {
      bucket = record {
        keyed = keyed;
        once = once;
        apart = AreApart-same (map first_line es) (map first_line en) (map other_line os) first bucket.apart;
        few = let few = bucket.few in omega (arith, few, len);
      };
      names = FindSame-front (map first_line es) (map first_line en) (map other_line os) first;
    }
