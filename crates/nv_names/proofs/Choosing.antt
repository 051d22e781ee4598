-- What many buckets find together, through a change of one of them.
use Rattle.std.proofs.Common.{◌≡◌, ◌≢◌, ℕ, zero, suc, ◌+◌, ◌<◌, Bool, true, false, cond, nat_eq, List, [], ◌∷◌, ◌++◌, length, get_or, Option, Some, None, IsSome, is_some, Result, Ok, Err, IfOk, OnOk, OnErr, refl, sym, ap, subst, ◌∙◌, arith, length-append, eq-eqb}
use Rattle.std.proofs.lemmas.Bool.{eqb-true, true≢false}
use Rattle.std.proofs.lemmas.List.{append-nil, length-set}
use Rattle.std.proofs.Math.ListN.{set, replicate}
use Rattle.std.specs.List.{IsDistinct}
use Rattle.std.specs.Option.{option_map, option_or}
use Rattle.std.specs.Cmp.Lexicographic.{pointwise, bytes_decides}
use Rattle.nv_names.specs.declared.target.Target.{Target}
use Rattle.nv_names.specs.Buckets.{place_of, all_lines, lines_in, StandsAt, StandFrom, AreMany, AreBuckets, AreCounted}
use Rattle.nv_names.specs.Keys.{key_of}
use Rattle.nv_names.specs.Names.{found_in, names_of, inode_and_place}
use Rattle.nv_names.specs.Table.{PutsAt, FindSame}
use Rattle.nv_names.proofs.Entries.{found_in-append}
use Rattle.nv_names.proofs.Beside.{not_none, option_or-None, PutsAt-both, PutsAt-second, PutsAt-nothing, FindSame-front, distinct-both}

-- the names of a bucket, with what they stand for
abbrev pub Lines : Type 0
Lines = List (List ℕ × ℕ × ℕ)

-- a bucket lacks the names of other places
lacks : (at : List ℕ → ℕ) (place : ℕ) (t : Lines) (q : List ℕ) → StandsAt at place t → at q ≢ place → found_in t q ≡ None
lacks at place t q stands other = decide (found_in t q) refl
  where
    decide : (o : Option (ℕ × ℕ)) → found_in t q ≡ o → o ≡ None
    decide None is = refl
    decide (Some v) is = absurd (other (stands.placed q (subst IsSome (sym is) refl)))

-- buckets lack the names of the places before theirs
nowhere : (at : List ℕ → ℕ) (place : ℕ) (ts : List Lines) (q : List ℕ) → StandFrom at place ts → at q < place → found_in (all_lines ts) q ≡ None
nowhere at place [] q stand below = refl
nowhere at place (t ∷ ts) q stand below =
    found_in-append t (all_lines ts) q
    ∙ ap (λ o. option_or o (found_in (all_lines ts) q)) (lacks at place t q stand.0 (omega (arith, below)))
    ∙ nowhere at (place + 1) ts q stand.1 (omega (arith, below))

-- all buckets find what the bucket of a name's place does
pub found_among : (at : List ℕ → ℕ) (place : ℕ) (ts : List Lines) (i : ℕ) (q : List ℕ) (old : Lines) → i < length ts → old ≡ get_or ts i old → StandFrom at place ts → at q ≡ place + i
    → found_in old q ≡ found_in (all_lines ts) q
found_among at place [] i q old within is stand here = absurd (omega (arith, within))
found_among at place (t ∷ ts) zero q old within is stand here =
    ap (λ u. found_in u q) is
    ∙ sym (found_in-append t (all_lines ts) q ∙ ap (option_or (found_in t q)) (nowhere at (place + 1) ts q stand.1 (omega (arith, here))) ∙ option_or-None (found_in t q))
found_among at place (t ∷ ts) (suc i) q old within is stand here =
    found_among at (place + 1) ts i q old (omega (arith, within)) is stand.1 (omega (arith, here))
    ∙ sym (found_in-append t (all_lines ts) q ∙ ap (λ o. option_or o (found_in (all_lines ts) q)) (lacks at place t q stand.0 (omega (arith, here))))

-- a name that the bucket of its place gets or loses, all get or lose
pub puts_among : (at : List ℕ → ℕ) (place : ℕ) (ts : List Lines) (i : ℕ) (name : List ℕ) (old new : Lines) (w : Option (ℕ × ℕ)) → i < length ts → old ≡ get_or ts i old → StandFrom at place ts → at name ≡ place + i
    → PutsAt old new name w → PutsAt (all_lines ts) (all_lines (set ts i new)) name w
puts_among at place [] i name old new w within is stand here puts = absurd (omega (arith, within))
puts_among at place (t ∷ ts) zero name old new w within is stand here puts =
    PutsAt-both t new (all_lines ts) (all_lines ts) name w (subst (λ u. PutsAt u new name w) is puts)
    (PutsAt-nothing (all_lines ts) name (nowhere at (place + 1) ts name stand.1 (omega (arith, here))))
puts_among at place (t ∷ ts) (suc i) name old new w within is stand here puts =
    PutsAt-second t t (all_lines ts) (all_lines (set ts i new)) name w (λ q. refl) (lacks at place t name stand.0 (omega (arith, here)))
    (puts_among at (place + 1) ts i name old new w (omega (arith, within)) is stand.1 (omega (arith, here)) puts)

-- all buckets find the same where one does
pub same_among : (ts : List Lines) (i : ℕ) (old new : Lines) → i < length ts → old ≡ get_or ts i old → FindSame old new → FindSame (all_lines ts) (all_lines (set ts i new))
same_among [] i old new within is same = absurd (omega (arith, within))
same_among (t ∷ ts) zero old new within is same = FindSame-front t new (all_lines ts) (subst (λ u. FindSame u new) is same)
same_among (t ∷ ts) (suc i) old new within is same = λ q.
    found_in-append t (all_lines (set ts i new)) q
    ∙ ap (option_or (found_in t q)) (same_among ts i old new (omega (arith, within)) is same q)
    ∙ sym (found_in-append t (all_lines ts) q)

-- how many names all have after a change of one
pub length_among : (ts : List Lines) (i : ℕ) (old new : Lines) → i < length ts → old ≡ get_or ts i old → length (all_lines (set ts i new)) + length old ≡ length (all_lines ts) + length new
length_among [] i old new within is = absurd (omega (arith, within))
length_among (t ∷ ts) zero old new within is = omega (arith, length-append new (all_lines ts), length-append t (all_lines ts), ap length is)
length_among (t ∷ ts) (suc i) old new within is =
    omega (arith, length-append t (all_lines ts), length-append t (all_lines (set ts i new)), length_among ts i old new (omega (arith, within)) is)

-- the bucket at a place
pub stands_there : (at : List ℕ → ℕ) (place : ℕ) (ts : List Lines) (i : ℕ) (old : Lines) → i < length ts → old ≡ get_or ts i old → StandFrom at place ts → StandsAt at (place + i) old
stands_there at place [] i old within is stand = absurd (omega (arith, within))
stands_there at place (t ∷ ts) zero old within is stand = let there : place ≡ place + zero = omega arith in subst (λ p. StandsAt at p old) there (subst (StandsAt at place) (sym is) stand.0)
stands_there at place (t ∷ ts) (suc i) old within is stand =
    let there : place + 1 + i ≡ place + suc i = omega arith in subst (λ p. StandsAt at p old) there (stands_there at (place + 1) ts i old (omega (arith, within)) is stand.1)

-- buckets stand where one is replaced by another of its place
pub stand_changed : (at : List ℕ → ℕ) (place : ℕ) (ts : List Lines) (i : ℕ) (new : Lines) → StandFrom at place ts → StandsAt at (place + i) new → StandFrom at place (set ts i new)
stand_changed at place [] i new stand stands = tt
stand_changed at place (t ∷ ts) zero new stand stands = (let there : place + zero ≡ place = omega arith in subst (λ p. StandsAt at p new) there stands, stand.1)
stand_changed at place (t ∷ ts) (suc i) new stand stands =
    (stand.0, stand_changed at (place + 1) ts i new stand.1 (let there : place + suc i ≡ place + 1 + i = omega arith in subst (λ p. StandsAt at p new) there stands))

-- a bucket gets or loses a name of its place
pub stands_put : (at : List ℕ → ℕ) (place : ℕ) (name : List ℕ) (old new : Lines) (w : Option (ℕ × ℕ)) → StandsAt at place old → at name ≡ place → IsDistinct (pointwise nat_eq) (names_of new) → PutsAt old new name w → StandsAt at place new
stands_put at place name old new w stands here once puts = record { once = once; placed = λ q some. decide q (pointwise nat_eq q name) refl some }
  where
    decide : (q : List ℕ) (c : Bool) → pointwise nat_eq q name ≡ c → IsSome (found_in new q) → at q ≡ place
    decide q true is some = ap at ((bytes_decides q name).0 is) ∙ here
    decide q false is some = stands.placed q (subst IsSome (puts q ∙ ap (λ c. cond c w (found_in old q)) is) some)

-- a bucket finds the same by other means
pub stands_same : (at : List ℕ → ℕ) (place : ℕ) (old new : Lines) → StandsAt at place old → IsDistinct (pointwise nat_eq) (names_of new) → FindSame old new → StandsAt at place new
stands_same at place old new stands once same = record { once = once; placed = λ q some. stands.placed q (subst IsSome (same q) some) }

-- no name is twice in buckets that stand
pub distinct_all : (at : List ℕ → ℕ) (place : ℕ) (ts : List Lines) → StandFrom at place ts → IsDistinct (pointwise nat_eq) (names_of (all_lines ts))
unfolding IsDistinct
distinct_all at place [] stand = tt
distinct_all at place (t ∷ ts) stand = distinct-both t (all_lines ts) stand.0.once (distinct_all at (place + 1) ts stand.1) (λ q some. decide q (found_in t q) refl some)
  where
    decide : (q : List ℕ) (o : Option (ℕ × ℕ)) → found_in t q ≡ o → IsSome (found_in (all_lines ts) q) → o ≡ None
    decide q None is some = refl
    decide q (Some v) is some =
        absurd (not_none some (nowhere at (place + 1) ts q stand.1 (let here : at q ≡ place = stand.0.placed q (subst IsSome (sym is) refl) in omega (arith, here))))

-- A name is put into a list, which tells what it stood for, or is refused.
pub record PutIn {E : Type 0} (r : Result (Option Target) E) (old new : Lines) (name : List ℕ) (v : ℕ × ℕ) : Type 0 where
  pub had : IfOk r (λ had. option_map inode_and_place had ≡ found_in old name)
  pub ok : OnOk r (PutsAt old new name (Some v))
  pub err : OnErr r (FindSame old new)
  pub more : IfOk r (λ had. length new ≡ length old + cond (is_some had) 0 1)
  pub no_more : OnErr r (length new ≡ length old)

-- The buckets stand, and have the name too.
pub record PutAmong {E : Type 0} (r : Result (Option Target) E) (ts us : List Lines) (name : List ℕ) (v : ℕ × ℕ) : Type 0 where
  pub stand : AreMany us
  pub put : PutIn r (all_lines ts) (all_lines us) name v

-- buckets stand as before where as many stand by the same places
stand_again : (ts us : List Lines) → length us ≡ length ts → StandFrom (λ name. place_of (key_of name) (length ts)) 0 us → AreMany us
stand_again ts us same stand = subst (λ n. StandFrom (λ name. place_of (key_of name) n) 0 us) (sym same) stand

-- a name is put into the bucket of its place
put_at : {E : Type 0} (r : Result (Option Target) E) (at : List ℕ → ℕ) (ts : List Lines) (i : ℕ) (old new : Lines) (name : List ℕ) (v : ℕ × ℕ) → i < length ts → old ≡ get_or ts i old → StandFrom at 0 ts → at name ≡ 0 + i
    → IsDistinct (pointwise nat_eq) (names_of new) → PutIn r old new name v → StandFrom at 0 (set ts i new) × PutIn r (all_lines ts) (all_lines (set ts i new)) name v
put_at (Ok h) at ts i old new name v within is stand here once p = (
  stand_changed at 0 ts i new stand (stands_put at (0 + i) name old new (Some v) (stands_there at 0 ts i old within is stand) here once p.ok),
  record {
    had = p.had ∙ found_among at 0 ts i name old within is stand here;
    ok = puts_among at 0 ts i name old new (Some v) within is stand here p.ok;
    err = tt;
    more = let change = length_among ts i old new within is in let more = p.more in omega (arith, change, more);
    no_more = tt;
  },
)
put_at (Err e) at ts i old new name v within is stand here once p = (
  stand_changed at 0 ts i new stand (stands_same at (0 + i) old new (stands_there at 0 ts i old within is stand) once p.err),
  record {
    had = tt;
    ok = tt;
    err = same_among ts i old new within is p.err;
    more = tt;
    no_more = let change = length_among ts i old new within is in let no_more = p.no_more in omega (arith, change, no_more);
  },
)

-- the place of a name is that of its key
place_is : (n key i : ℕ) (name : List ℕ) → key ≡ key_of name → i ≡ place_of key n → place_of (key_of name) n ≡ 0 + i
place_is n key i name is there = ap (λ k. place_of k n) (sym is) ∙ sym there ∙ (let plain : i ≡ 0 + i = omega arith in plain)

-- so it is where the bucket of the key's place gets the name
pub put_among : {E : Type 0} (r : Result (Option Target) E) (ts : List Lines) (key i : ℕ) (old new : Lines) (name : List ℕ) (v : ℕ × ℕ) → AreMany ts → key ≡ key_of name → i ≡ place_of key (length ts) → i < length ts → old ≡ get_or ts i old
    → IsDistinct (pointwise nat_eq) (names_of new) → PutIn r old new name v → PutAmong r ts (set ts i new) name v
put_among r ts key i old new name v stand is there within held once p =
    let both = put_at r (λ n. place_of (key_of n) (length ts)) ts i old new name v within held stand (place_is (length ts) key i name is there) once p in
    record { stand = stand_again ts (set ts i new) (length-set ts i new) both.0; put = both.1 }

-- a name is looked for in the bucket of its key's place
pub found_by_key : (ts : List Lines) (key i : ℕ) (old : Lines) (name : List ℕ) → AreMany ts → key ≡ key_of name → i ≡ place_of key (length ts) → i < length ts → old ≡ get_or ts i old → found_in old name ≡ found_in (all_lines ts) name
found_by_key ts key i old name stand is there within held = found_among (λ n. place_of (key_of n) (length ts)) 0 ts i name old within held stand (place_is (length ts) key i name is there)

-- A name is taken out of a list.
pub record TakenOut (had : Bool) (old new : Lines) (name : List ℕ) : Type 0 where
  pub names : PutsAt old new name None
  pub less : length new + cond had 1 0 ≡ length old

-- The buckets stand, and have lost the name too.
pub record TakenFrom (had : Bool) (ts us : List Lines) (name : List ℕ) : Type 0 where
  pub stand : AreMany us
  pub taken : TakenOut had (all_lines ts) (all_lines us) name

-- so it is where the bucket of the key's place loses the name
pub taken_from : (had : Bool) (ts : List Lines) (key i : ℕ) (old new : Lines) (name : List ℕ) → AreMany ts → key ≡ key_of name → i ≡ place_of key (length ts) → i < length ts → old ≡ get_or ts i old
    → IsDistinct (pointwise nat_eq) (names_of new) → TakenOut had old new name → TakenFrom had ts (set ts i new) name
taken_from had ts key i old new name stand is there within held once t =
    let at : List ℕ → ℕ = λ n. place_of (key_of n) (length ts) in
    let here : at name ≡ 0 + i = place_is (length ts) key i name is there in
    record {
      stand = stand_again ts (set ts i new) (length-set ts i new) (stand_changed at 0 ts i new stand (stands_put at (0 + i) name old new None (stands_there at 0 ts i old within held stand) here once t.names));
      taken = record {
        names = puts_among at 0 ts i name old new None within held stand here t.names;
        less = let change = length_among ts i old new within held in let less = t.less in omega (arith, change, less);
      };
    }

-- where there are not many buckets, all names are in the one
pub lines_alone : (one : Lines) (many : List Lines) → many ≡ [] → lines_in one many ≡ one
lines_alone one many none = ap (λ ts. one ++ all_lines ts) none ∙ append-nil one

-- where the one has none, all are in the many
pub lines_many : (one : Lines) (many : List Lines) → one ≡ [] → lines_in one many ≡ all_lines many
lines_many one many none = ap (λ es. es ++ all_lines many) none

-- there are not many buckets
pub not_many : (many : List Lines) (n : ℕ) (b : Bool) → length many ≡ n → b ≡ nat_eq n 0 → b ≡ true → many ≡ []
not_many [] n b len is true' = refl
not_many (t ∷ ts) n b len is true' = let zero' = eqb-true n 0 (sym is ∙ true') in absurd (omega (arith, len, zero'))

-- there are some
pub some_many : (many : List Lines) (n : ℕ) (b : Bool) → length many ≡ n → b ≡ nat_eq n 0 → b ≡ false → 0 < length many
some_many [] n b len is false' = absurd (true≢false (sym (is ∙ eq-eqb n 0 (sym len)) ∙ false'))
some_many (t ∷ ts) n b len is false' = omega arith

-- no bucket but the one
pub only_one : (one : Lines) (many : List Lines) → many ≡ [] → IsDistinct (pointwise nat_eq) (names_of one) → AreBuckets one many
only_one one many none once = record {
  once = once;
  each = subst AreMany (sym none) tt;
  alone = λ some. absurd (let zero' = ap length none in omega (arith, some, zero'));
}

-- the one bucket has no name
pub only_many : (one : Lines) (many : List Lines) → one ≡ [] → AreMany many → AreBuckets one many
unfolding IsDistinct
only_many one many none stand = record {
  once = subst (λ es. IsDistinct (pointwise nat_eq) (names_of es)) (sym none) tt;
  each = stand;
  alone = λ some. none;
}

-- A name is put into the buckets.
pub record PutBuckets {E : Type 0} (r : Result (Option Target) E) (one new : Lines) (many news : List Lines) (name : List ℕ) (v : ℕ × ℕ) : Type 0 where
  pub buckets : AreBuckets new news
  pub put : PutIn r (lines_in one many) (lines_in new news) name v

-- it is put into the one
pub put_one : {E : Type 0} (r : Result (Option Target) E) (one new : Lines) (many : List Lines) (name : List ℕ) (v : ℕ × ℕ) → many ≡ [] → IsDistinct (pointwise nat_eq) (names_of new) → PutIn r one new name v → PutBuckets r one new many many name v
put_one r one new many name v none once p = record {
  buckets = only_one new many none once;
  put = subst (λ es. PutIn r es (lines_in new many) name v) (sym (lines_alone one many none)) (subst (λ es. PutIn r one es name v) (sym (lines_alone new many none)) p);
}

-- it is put into one of the many
pub put_many : {E : Type 0} (r : Result (Option Target) E) (one : Lines) (many news : List Lines) (name : List ℕ) (v : ℕ × ℕ) → one ≡ [] → PutAmong r many news name v → PutBuckets r one one many news name v
put_many r one many news name v none p = record {
  buckets = only_many one news none p.stand;
  put = subst (λ es. PutIn r es (lines_in one news) name v) (sym (lines_many one many none)) (subst (λ es. PutIn r (all_lines many) es name v) (sym (lines_many one news none)) p.put);
}

-- A name is taken out of the buckets.
pub record TakenBuckets (had : Bool) (one new : Lines) (many news : List Lines) (name : List ℕ) : Type 0 where
  pub buckets : AreBuckets new news
  pub taken : TakenOut had (lines_in one many) (lines_in new news) name

-- it is taken out of the one
pub taken_one : (had : Bool) (one new : Lines) (many : List Lines) (name : List ℕ) → many ≡ [] → IsDistinct (pointwise nat_eq) (names_of new) → TakenOut had one new name → TakenBuckets had one new many many name
taken_one had one new many name none once t = record {
  buckets = only_one new many none once;
  taken = subst (λ es. TakenOut had es (lines_in new many) name) (sym (lines_alone one many none)) (subst (λ es. TakenOut had one es name) (sym (lines_alone new many none)) t);
}

-- it is taken out of one of the many
pub taken_many : (had : Bool) (one : Lines) (many news : List Lines) (name : List ℕ) → one ≡ [] → TakenFrom had many news name → TakenBuckets had one one many news name
taken_many had one many news name none t = record {
  buckets = only_many one news none t.stand;
  taken = subst (λ es. TakenOut had es (lines_in one news) name) (sym (lines_many one many none)) (subst (λ es. TakenOut had (all_lines many) es name) (sym (lines_many one news none)) t.taken);
}

-- no name is twice in the buckets
pub distinct_buckets : (one : Lines) (many : List Lines) → AreBuckets one many → IsDistinct (pointwise nat_eq) (names_of (lines_in one many))
distinct_buckets one [] buckets = subst (λ es. IsDistinct (pointwise nat_eq) (names_of es)) (sym (append-nil one)) buckets.once
distinct_buckets one (t ∷ ts) buckets =
    let none : one ≡ [] = buckets.alone (omega arith) in
    subst (λ es. IsDistinct (pointwise nat_eq) (names_of es)) (sym (lines_many one (t ∷ ts) none)) (distinct_all (λ n. place_of (key_of n) (length (t ∷ ts))) 0 (t ∷ ts) buckets.each)

-- a buckets with no name
pub no_names : (one : Lines) (many : List Lines) → one ≡ [] → many ≡ [] → AreCounted one many 0
unfolding IsDistinct
no_names one many is none = subst (λ es. AreCounted es many 0) (sym is) (subst (λ ts. AreCounted [] ts 0) (sym none) (record {
  buckets = record { once = tt; each = tt; alone = λ some. refl };
  counted = refl;
  few = omega arith;
}))

-- buckets with no name
pub empty_stand : (at : List ℕ → ℕ) (place n : ℕ) → StandFrom at place (replicate n [])
unfolding IsDistinct
empty_stand at place zero = tt
empty_stand at place (suc n) = (record { once = tt; placed = λ q some. absurd (cc) }, empty_stand at (place + 1) n)

-- have none together
pub empty_lines : (n : ℕ) → all_lines (replicate n []) ≡ []
empty_lines zero = refl
empty_lines (suc n) = empty_lines n
