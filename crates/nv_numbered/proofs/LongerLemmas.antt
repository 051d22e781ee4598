-- Words and places behind the last: in the leaves that are there, or in one more.
use Rattle.std.proofs.Common.{◌≡◌, ℕ, zero, suc, ◌+◌, ◌-◌, ◌*◌, ◌/◌, ◌%◌, ◌<◌, ◌≤◌, ◌^◌, List, [], ◌∷◌, ◌++◌, length, map, get_or, replicate, cond, count_by, is_some, Option, None, refl, sym, ap, ◌∙◌, subst, inl, inr, arith, length-append, vec_items, vec_capacity}
use Rattle.std.specs.List.{range_with_len}
use Rattle.std.specs.declared.vec.Vec.{Vec}
use Rattle.std.proofs.lemmas.Bool.{cases_eq, cases_lt}
use Rattle.std.proofs.lemmas.List.{append-nil, ext_get_or, length-map, map-append, get_or-append_right, get_or_append_left, get_or-replicate, get_or_past, get_or_push, length-replicate, length_push}
use Rattle.std.proofs.lemmas.List.Sums.{sum_by-append, sum_by-cons}
use Rattle.nv_numbered.specs.Leaved.{word_at, words_of, room_of, leaves_of, IsLeaf, IsLeaved}
use Rattle.nv_numbered.specs.Table.{slot_of, slots_of, IsSound}
use Rattle.nv_numbered.proofs.WordLemmas.{length-words_of, word_read}
use Rattle.nv_numbered.proofs.LeafLemmas.{IsLeaf-bare}
use Rattle.nv_numbered.proofs.SoundLemmas.{length-slots_of}
use Rattle.nv_numbered.proofs.SpareLemmas.{AreSpares-leaf, room_leaf}

-- what is read past the last may as well be there
pub more_read : {X : Type 0} (xs : List X) (n k : ℕ) (d : X) → get_or (xs ++ replicate n d) k d ≡ get_or xs k d
more_read xs n k d = elim (cases_lt k (length xs)) [
  | inl low ↦ get_or_append_left xs (replicate n d) d k low
  | inr past ↦ get_or-append_right xs (replicate n d) (length xs) k d refl past ∙ same_at (k - length xs) ∙ sym (get_or_past xs k d past)
]
  where
    same_at : (j : ℕ) → get_or (replicate n d) j d ≡ d
    same_at j = elim (cases_lt j n) [
      | inl low ↦ get_or-replicate n j d d low
      | inr past ↦ get_or_past (replicate n d) j d (omega (arith, past, length-replicate n d))
    ]

-- where all words behind are 0, more of them are the same words and zeros
words_more : (leaves : List (List ℕ)) (len longer : ℕ) → len ≤ longer → ((k : ℕ) → len ≤ k → word_at leaves k ≡ 0) → words_of leaves longer ≡ words_of leaves len ++ replicate (longer - len) 0
words_more leaves len longer more behind =
    let long = length-words_of leaves len in
    let whole : length (words_of leaves len ++ replicate (longer - len) 0) ≡ longer = (let both = length-append (words_of leaves len) (replicate (longer - len) 0) in let zeros = length-replicate {A = ℕ} (longer - len) 0 in omega (arith, both, zeros, long, more)) in
    ext_get_or 0 (words_of leaves longer) (words_of leaves len ++ replicate (longer - len) 0) (length-words_of leaves longer ∙ sym whole) (λ k inside.
    let within : k < longer = omega (arith, inside, length-words_of leaves longer) in
    word_read leaves longer k within ∙ elim (cases_lt k len) [
      | inl low ↦ sym (more_read (words_of leaves len) (longer - len) k 0 ∙ word_read leaves len k low)
      | inr past ↦ behind k past ∙ sym (more_read (words_of leaves len) (longer - len) k 0 ∙ get_or_past (words_of leaves len) k 0 (omega (arith, past, long)))
    ])

-- where there are enough they stay
pub words_enough : (leaves : List (List ℕ)) (len longer : ℕ) → longer ≤ len → words_of leaves len ≡ words_of leaves len ++ replicate (longer - length (words_of leaves len)) 0
words_enough leaves len longer enough =
    let none : longer - length (words_of leaves len) ≡ 0 = (let long = length-words_of leaves len in omega (arith, long, enough)) in
    sym (ap (λ (n : ℕ). words_of leaves len ++ replicate n 0) none ∙ append-nil (words_of leaves len))

-- a leaf without words reads as none
bare_read : (leaves : List (List ℕ)) (words : List ℕ) (q : ℕ) → words ≡ [] → get_or (leaves ++ words ∷ []) q [] ≡ get_or leaves q []
bare_read leaves words q none = elim (cases_lt q (length leaves)) [
  | inl low ↦ get_or_append_left leaves (words ∷ []) [] q low
  | inr past ↦ elim (cases_eq q (length leaves)) [
    | inl same ↦ get_or_push leaves words [] q (sym same) ∙ none ∙ sym (get_or_past leaves q [] past)
    | inr differs ↦ get_or_past (leaves ++ words ∷ []) q [] (let long = length_push leaves words in omega (arith, long, past, differs)) ∙ sym (get_or_past leaves q [] past)
  ]
]

module _ {A B : Type 0} (leaves : List (Vec ℕ A)) (used : List ℕ) (spares : Vec (Vec ℕ A) B) (total count len : ℕ) (is : IsLeaved leaves used spares total count len) (longer : ℕ) (more : len ≤ longer) where
  lists_long : length (leaves_of leaves) ≡ length leaves
  lists_long = length-map leaves vec_items

  -- more places in the same leaves
  pub IsLeaved-longer : longer ≤ 4096 * length leaves → IsLeaved leaves used spares total count longer
  IsLeaved-longer inside = record {
    words = record { as_many = is.words.as_many; each = is.words.each; reach = omega (arith, inside, lists_long); few = is.words.few };
    zeros = is.zeros;
    roomy = is.roomy;
    behind = λ k past. is.behind k (omega (arith, past, more));
  }

  pub longer_words : words_of (leaves_of leaves) longer ≡ words_of (leaves_of leaves) len ++ replicate (longer - length (words_of (leaves_of leaves) len)) 0
  longer_words = words_more (leaves_of leaves) len longer more is.behind ∙ ap (λ (n : ℕ). words_of (leaves_of leaves) len ++ replicate (longer - n) 0) (sym (length-words_of (leaves_of leaves) len))

  pub leaf_within : longer ≤ length (words_of (leaves_of leaves) len) + 4096 → longer ≤ 4096 * length leaves + 4096
  leaf_within few = let long = length-words_of (leaves_of leaves) len in let reach = is.words.reach in omega (arith, few, long, reach, lists_long)

  -- and in one leaf more
  module _ (bare : Vec ℕ A) (none : bare.items ≡ []) where
    lists : leaves_of (leaves ++ bare ∷ []) ≡ leaves_of leaves ++ bare.items ∷ []
    lists = map-append vec_items leaves (bare ∷ [])

    word_same : (k : ℕ) → word_at (leaves_of (leaves ++ bare ∷ [])) k ≡ word_at (leaves_of leaves) k
    word_same k =
        ap (λ (all : List (List ℕ)). word_at all k) lists
        ∙ ap (λ (words : List ℕ). get_or words (k % 4096) 0) (bare_read (leaves_of leaves) bare.items (k / 4096) none)

    pub leaf_words : words_of (leaves_of (leaves ++ bare ∷ [])) longer ≡ words_of (leaves_of leaves) len ++ replicate (longer - length (words_of (leaves_of leaves) len)) 0
    leaf_words = (λ i. map (λ k. word_same k i) (range_with_len 0 longer)) ∙ longer_words

    pub leaf_room : room_of (length leaves) total count ≤ room_of (length (leaves ++ bare ∷ [])) (total + 1) count
    leaf_room = subst (λ (n : ℕ). room_of (length leaves) total count ≤ room_of n (total + 1) count) (sym (length_push leaves bare)) (room_leaf (length leaves) total count)

    each_leaf : (k : ℕ) → k < length (leaves_of leaves) + 1 → IsLeaf (get_or (leaves_of leaves ++ bare.items ∷ []) k []) (get_or (used ++ 0 ∷ []) k 0)
    each_leaf k inside = elim (cases_lt k (length (leaves_of leaves))) [
      | inl low ↦ rw (get_or_append_left (leaves_of leaves) (bare.items ∷ []) [] k low, get_or_append_left used (0 ∷ []) 0 k (omega (arith, low, is.words.as_many))) (is.words.each k low)
      | inr past ↦ (
          let last : k ≡ length (leaves_of leaves) = omega (arith, inside, past) in
          rw (get_or_push (leaves_of leaves) bare.items [] k (sym last) ∙ none, get_or_push used 0 0 k (is.words.as_many ∙ sym last)) IsLeaf-bare)
    ]

    pub IsLeaved-leaf : (spare : Vec ℕ A) (left : Vec (Vec ℕ A) B) → spare.items ≡ replicate 4096 0 → left.items ≡ spares.items ++ spare ∷ [] → total + 1 ≤ vec_capacity left → 4096 * length leaves < longer → longer ≤ 4096 * length leaves + 4096 → longer < 2 ^ 32
        → IsLeaved (leaves ++ bare ∷ []) (used ++ 0 ∷ []) left (total + 1) count longer
    IsLeaved-leaf spare left zeros all roomy past within small =
        let long = length_push (leaves_of leaves) bare.items in
        let counts = length_push used 0 in
        let spared : leaves_of left.items ≡ leaves_of spares.items ++ spare.items ∷ [] = ap leaves_of all ∙ map-append vec_items spares.items (spare ∷ []) in
        record {
          words = rw lists (record {
            as_many = omega (arith, long, counts, is.words.as_many);
            each = λ k inside. each_leaf k (omega (arith, inside, long));
            reach = omega (arith, within, long, lists_long);
            few = omega (arith, past, small, long, lists_long);
          });
          zeros = rw spared (AreSpares-leaf used (leaves_of spares.items) total count is.zeros spare.items zeros);
          roomy = roomy;
          behind = λ k far. word_same k ∙ is.behind k (omega (arith, far, more));
        }

-- ---- numbers behind the last, which have no value

nothings : {T : Type 0} (values : List T) (n : ℕ) → map (slot_of values) (replicate n 0) ≡ replicate n None
nothings values zero = refl
nothings {T} values (suc n) = ap (λ (slots : List (Option T)). None ∷ slots) (nothings values n)

none_counted : (T : Type 0) (n : ℕ) → count_by is_some (replicate {A = Option T} n None) ≡ 0
none_counted T zero = refl
none_counted T (suc n) = omega (arith, none_counted T n, sum_by-cons (λ (slot : Option T). cond (is_some slot) 1 0) None (replicate n None))

module _ {T : Type 0} (places numbers : List ℕ) (values : List T) (n : ℕ) where
  longer_slots : slots_of (places ++ replicate n 0) values ≡ slots_of places values ++ replicate n None
  longer_slots = map-append (slot_of values) places (replicate n 0) ∙ ap (λ (slots : List (Option T)). slots_of places values ++ slots) (nothings values n)

  pub IsSound-longer : IsSound places numbers values → length places + n < 2 ^ 32 → IsSound (places ++ replicate n 0) numbers values
  IsSound-longer sound few = record {
    paired = record {
      numbered = λ number index is. sound.paired.numbered number index (sym (more_read places n number 0) ∙ is);
      placed = λ number index inside is. more_read places n number 0 ∙ sound.paired.placed number index inside is;
    };
    as_many = sound.as_many;
    counted = ap (count_by is_some) longer_slots
        ∙ (let both : count_by is_some (slots_of places values ++ replicate n None) ≡ count_by is_some (slots_of places values) + count_by is_some (replicate {A = Option T} n None) = sum_by-append (λ (slot : Option T). cond (is_some slot) 1 0) (slots_of places values) (replicate n None) in
        let none = none_counted T n in
        omega (arith, both, none, sound.counted));
    few = (let both = length-append places (replicate n 0) in let zeros = length-replicate {A = ℕ} n 0 in omega (arith, both, zeros, few));
  }

pub slots_longer : {T : Type 0} (places : List ℕ) (values : List T) (limit : ℕ) → slots_of (places ++ replicate (limit - length places) 0) values ≡ slots_of places values ++ replicate (limit - length (slots_of places values)) None
slots_longer places values limit =
    longer_slots places [] values (limit - length places)
    ∙ ap (λ (n : ℕ). slots_of places values ++ replicate (limit - n) None) (sym (length-slots_of places values))
