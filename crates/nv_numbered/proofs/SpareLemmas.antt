-- Spare leaves are there for each word that has room, as words come and go.
use Rattle.std.proofs.Common.{◌≡◌, ◌⊎◌, ℕ, ◌+◌, ◌-◌, ◌*◌, ◌<◌, ◌≤◌, ◌^◌, cond, List, [], ◌∷◌, ◌++◌, length, get_or, set, replicate, count_by, sym, ap, ◌∙◌, inl, inr, arith, length-set}
use Rattle.std.specs.List.{sum_by, All}
use Rattle.std.proofs.lemmas.Bool.{cases_eq, cases_lt, le-leb}
use Rattle.std.proofs.lemmas.Bool.Decides.{nat_tests}
use Rattle.std.proofs.lemmas.List.{length_push, get_or_append_left}
use Rattle.std.proofs.lemmas.List.Elements.{All-push, All-get_or, All-from_get_or}
use Rattle.std.proofs.lemmas.List.Sums.{sum_by-append, sum_by-set, sum_by-le, sum_by-le-sum_by, count_by-le-length}
use Rattle.nv_numbered.specs.Leaved.{is_some_word, room_of, AreLeaves, AreSpares}

abbrev one_of : ℕ → ℕ
one_of word = cond (is_some_word word) 1 0

one_cases : (word : ℕ) → ((word ≡ 0) × (one_of word ≡ 0)) ⊎ ((0 < word) × (one_of word ≡ 1))
one_cases word = elim (cases_eq word 0) [
  | inl none ↦ inl (none, ap one_of none)
  | inr some ↦ inr (omega (arith, some), grind (arith, nat_tests))
]

one_low : (word : ℕ) → one_of word ≤ word
one_low word = elim (one_cases word) [
  | inl none ↦ omega (arith, none.1)
  | inr some ↦ omega (arith, some.0, some.1)
]

-- ---- room

room_all : (all total count : ℕ) → all ≤ total → room_of all total count ≡ 2 ^ 65 - count
room_all all total count most = ap (λ b. cond b (2 ^ 65 - count) (total - count)) (le-leb all total most)

room_few : (all total count : ℕ) → total < all → room_of all total count ≡ total - count
room_few all total count few = grind (arith, nat_tests)

pub room_enough : (all total count : ℕ) → 0 < room_of all total count → (all ≤ total) ⊎ (count + 1 ≤ total)
room_enough all total count some = elim (cases_lt total all) [
  | inl few ↦ inr (let r = room_few all total count few in omega (arith, some, r))
  | inr most ↦ inl (omega (arith, most))
]

-- a word more takes one place of the room
pub room_more : (all total count : ℕ) → 0 < room_of all total count → count < 2 ^ 64 → room_of all total count ≡ room_of all total (count + 1) + 1
room_more all total count some low = elim (cases_lt total all) [
  | inl few ↦ (let r = room_few all total count few in let q = room_few all total (count + 1) few in omega (arith, some, r, q))
  | inr most ↦ (let r = room_all all total count most in let q = room_all all total (count + 1) most in omega (arith, low, r, q))
]

-- and a word less gives it back
pub room_less : (all total count : ℕ) → (all ≤ total) ⊎ (count ≤ total) → 0 < count → count < 2 ^ 64 → room_of all total (count - 1) ≡ room_of all total count + 1
room_less all total count enough some low = elim (cases_lt total all) [
  | inl few ↦
      let r = room_few all total count few in
      let q = room_few all total (count - 1) few in
      let held : count ≤ total = elim enough [ inl most ↦ absurd (omega (arith, most, few)) | inr held ↦ held ] in
      omega (arith, some, held, r, q)
  | inr most ↦ (let r = room_all all total count most in let q = room_all all total (count - 1) most in omega (arith, some, low, r, q))
]

-- there is little room where not each leaf has memory
pub room_little : (all total count : ℕ) → room_of all total count < 2 ^ 64 → count < 2 ^ 64 → total < all
room_little all total count little low = elim (cases_lt total all) [
  | inl few ↦ few
  | inr most ↦ absurd (let r = room_all all total count most in omega (arith, little, low, r))
]

-- a leaf more with memory
pub room_grown : (all total count : ℕ) → total < all → count ≤ total → count < 2 ^ 64 → room_of all total count < 2 ^ 64 → room_of all total count + 1 ≤ room_of all (total + 1) count
room_grown all total count few held low little =
    let r = room_few all total count few in
    elim (cases_lt (total + 1) all) [
      | inl still ↦ (let q = room_few all (total + 1) count still in omega (arith, held, r, q))
      | inr most ↦ (let q = room_all all (total + 1) count most in omega (arith, low, little, r, q))
    ]

-- a leaf more of all, and one with memory
pub room_leaf : (all total count : ℕ) → room_of all total count ≤ room_of (all + 1) (total + 1) count
room_leaf all total count = elim (cases_lt total all) [
  | inl few ↦ (let r = room_few all total count few in let q = room_few (all + 1) (total + 1) count (omega (arith, few)) in omega (arith, r, q))
  | inr most ↦ (let r = room_all all total count most in let q = room_all (all + 1) (total + 1) count (omega (arith, most)) in omega (arith, r, q))
]

-- ---- spare leaves

-- a leaf has no more words than places
pub used_low : (leaves : List (List ℕ)) (used : List ℕ) (len : ℕ) → AreLeaves leaves used len → (k : ℕ) → k < length leaves → get_or used k 0 ≤ 4096
used_low leaves used len are k inside =
    let leaf = are.each k inside in
    let within = count_by-le-length is_some_word (get_or leaves k []) in
    elim (one_cases (get_or used k 0)) [
      | inl none ↦ omega (arith, none.0)
      | inr some ↦ omega (arith, within, leaf.counted, leaf.made some.0)
    ]

-- and so all leaves
pub count_low : (leaves : List (List ℕ)) (used : List ℕ) (len : ℕ) → AreLeaves leaves used len → sum_by (λ (n : ℕ). n) used ≤ 4096 * length leaves
count_low leaves used len are =
    let most = sum_by-le (λ (n : ℕ). n) 4096 used (All-from_get_or (λ (n : ℕ). n ≤ 4096) used 0 (λ k inside. used_low leaves used len are k (omega (arith, inside, are.as_many)))) in
    omega (arith, most, are.as_many)

module _ (used : List ℕ) (spares : List (List ℕ)) (total count : ℕ) (are : AreSpares used spares total count) where
  made_low : count_by is_some_word used ≤ count
  made_low = let low = sum_by-le-sum_by one_of (λ (n : ℕ). n) used one_low in omega (arith, low, are.counted)

  module _ (k : ℕ) (inside : k < length used) where
    made_set : (n : ℕ) → count_by is_some_word (set used k n) + one_of (get_or used k 0) ≡ count_by is_some_word used + one_of n
    made_set n = sum_by-set one_of used k n 0 inside

    sum_set : (n : ℕ) → sum_by (λ (n : ℕ). n) (set used k n) + get_or used k 0 ≡ sum_by (λ (n : ℕ). n) used + n
    sum_set n = sum_by-set (λ (n : ℕ). n) used k n 0 inside

    -- a word more in a leaf that has words
    pub AreSpares-more : 0 < get_or used k 0 → 0 < room_of (length used) total count → AreSpares (set used k (get_or used k 0 + 1)) spares total (count + 1)
    AreSpares-more made room =
        let n = get_or used k 0 in
        record {
          zeros = are.zeros;
          together = elim (one_cases n) [ inl none ↦ absurd (omega (arith, none.0, made)) | inr some ↦ together some.1 ];
          counted = (let s = sum_set (n + 1) in omega (arith, s, are.counted));
          enough = elim (room_enough (length used) total count room) [ inl most ↦ inl (omega (arith, most, length-set used k (n + 1))) | inr held ↦ inr held ];
        }
      where
        together : one_of (get_or used k 0) ≡ 1 → count_by is_some_word (set used k (get_or used k 0 + 1)) + length spares ≡ total
        together one = (
            let m = made_set (get_or used k 0 + 1) in
            elim (one_cases (get_or used k 0 + 1)) [ inl none ↦ absurd (omega (arith, none.0)) | inr some ↦ omega (arith, m, one, some.1, are.together) ]
            )

    module _ (bare : get_or used k 0 ≡ 0) (room : 0 < room_of (length used) total count) where
      one_made : (n : ℕ) → 0 < n → count_by is_some_word (set used k n) ≡ count_by is_some_word used + 1
      one_made n some =
          let m = made_set n in
          let was : one_of (get_or used k 0) ≡ 0 = ap one_of bare in
          elim (one_cases n) [ inl none ↦ absurd (omega (arith, none.0, some)) | inr is ↦ omega (arith, m, was, is.1) ]

      -- there is a spare leaf
      pub spare_there : 0 < length spares
      spare_there = elim (room_enough (length used) total count room) [
        | inl most ↦ (let m = one_made 1 (omega arith) in let few = count_by-le-length is_some_word (set used k 1) in omega (arith, most, m, few, length-set used k 1, are.together))
        | inr held ↦ (let low = made_low in omega (arith, held, low, are.together))
      ]

      -- it is that of the leaf
      pub AreSpares-first : (rest : List (List ℕ)) (words : List ℕ) (n : ℕ) → spares ≡ rest ++ words ∷ [] → n ≡ 1 → AreSpares (set used k n) rest total (count + 1)
      AreSpares-first rest words n split one =
          record {
            zeros = rest_zeros rest words split;
            together = (let m = one_made n (omega (arith, one)) in let l = ap (λ (xs : List (List ℕ)). length xs) split in let p = length_push rest words in omega (arith, m, l, p, are.together));
            counted = (let s = sum_set n in omega (arith, s, bare, one, are.counted));
            enough = elim (room_enough (length used) total count room) [ inl most ↦ inl (omega (arith, most, length-set used k n)) | inr held ↦ inr held ];
          }
        where
          rest_zeros : (rest : List (List ℕ)) (words : List ℕ) → spares ≡ rest ++ words ∷ [] → All (λ words. words ≡ replicate 4096 0) rest
          rest_zeros rest words split = All-from_get_or (λ words. words ≡ replicate 4096 0) rest [] (λ i low.
              let l = ap (λ (xs : List (List ℕ)). length xs) split in
              let p = length_push rest words in
              let at : get_or spares i [] ≡ replicate 4096 0 = All-get_or (λ words. words ≡ replicate 4096 0) spares i [] (omega (arith, low, l, p)) are.zeros in
              sym (get_or_append_left rest (words ∷ []) [] i low) ∙ ap (λ (xs : List (List ℕ)). get_or xs i []) (sym split) ∙ at)

    -- a word less, where others are left
    pub AreSpares-less : (n : ℕ) → 1 < get_or used k 0 → n ≡ get_or used k 0 - 1 → AreSpares (set used k n) spares total (count - 1)
    AreSpares-less n more is =
        record {
          zeros = are.zeros;
          together = (let m = made_set n in
              elim (one_cases n) [
                | inl none ↦ absurd (omega (arith, none.0, is, more))
                | inr some ↦ elim (one_cases (get_or used k 0)) [ inl bare ↦ absurd (omega (arith, bare.0, more)) | inr was ↦ omega (arith, m, some.1, was.1, are.together) ]
              ]);
          counted = (let s = sum_set n in omega (arith, s, is, more, are.counted));
          enough = elim are.enough [ inl most ↦ inl (omega (arith, most, length-set used k n)) | inr held ↦ inr (omega (arith, held)) ];
        }

    -- the last word of a leaf
    pub AreSpares-last : (n : ℕ) (words : List ℕ) → get_or used k 0 ≡ 1 → n ≡ 0 → words ≡ replicate 4096 0 → AreSpares (set used k n) (spares ++ words ∷ []) total (count - 1)
    AreSpares-last n words one none zeros =
        record {
          zeros = All-push (λ words. words ≡ replicate 4096 0) spares words are.zeros zeros;
          together = (let m = made_set n in
              let is : one_of n ≡ 0 = ap one_of none in
              let was : one_of (get_or used k 0) ≡ 1 = ap one_of one in
              let p = length_push spares words in
              omega (arith, m, is, was, p, are.together));
          counted = (let s = sum_set n in omega (arith, s, none, one, are.counted));
          enough = elim are.enough [ inl most ↦ inl (omega (arith, most, length-set used k n)) | inr held ↦ inr (omega (arith, held)) ];
        }

    -- a leaf that has words is one
    pub some_made : 0 < get_or used k 0 → 0 < count_by is_some_word used
    some_made made =
        let m = made_set 0 in
        elim (one_cases (get_or used k 0)) [ inl none ↦ absurd (omega (arith, none.0, made)) | inr one ↦ omega (arith, m, one.1) ]

    -- a leaf with words is counted
    pub count_some : 0 < get_or used k 0 → 0 < count
    count_some made = let s = sum_set 0 in omega (arith, s, made, are.counted)

  -- one more spare leaf
  pub AreSpares-grown : (words : List ℕ) → words ≡ replicate 4096 0 → AreSpares used (spares ++ words ∷ []) (total + 1) count
  AreSpares-grown words zeros =
      record {
        zeros = All-push (λ words. words ≡ replicate 4096 0) spares words are.zeros zeros;
        together = (let p = length_push spares words in omega (arith, p, are.together));
        counted = are.counted;
        enough = elim are.enough [ inl most ↦ inl (omega (arith, most)) | inr held ↦ inr (omega (arith, held)) ];
      }

  -- one more leaf without words, and a spare one
  pub AreSpares-leaf : (words : List ℕ) → words ≡ replicate 4096 0 → AreSpares (used ++ 0 ∷ []) (spares ++ words ∷ []) (total + 1) count
  AreSpares-leaf words zeros =
      let made : count_by is_some_word (used ++ 0 ∷ []) ≡ count_by is_some_word used + 0 = sum_by-append one_of used (0 ∷ []) in
      let summed : sum_by (λ (n : ℕ). n) (used ++ 0 ∷ []) ≡ sum_by (λ (n : ℕ). n) used + 0 = sum_by-append (λ (n : ℕ). n) used (0 ∷ []) in
      let longer = length_push used 0 in
      record {
        zeros = All-push (λ words. words ≡ replicate 4096 0) spares words are.zeros zeros;
        together = (let p = length_push spares words in omega (arith, p, made, are.together));
        counted = omega (arith, summed, are.counted);
        enough = elim are.enough [ inl most ↦ inl (omega (arith, longer, most)) | inr held ↦ inr (omega (arith, held)) ];
      }
