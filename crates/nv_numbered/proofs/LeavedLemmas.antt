-- Leaves and the spare ones, as a word is replaced, comes and goes.
use Rattle.std.proofs.Common.{◌≡◌, ◌≢◌, ◌⊎◌, ℕ, ◌+◌, ◌-◌, ◌/◌, ◌%◌, ◌<◌, ◌≤◌, ◌^◌, List, [], ◌∷◌, ◌++◌, length, get_or, set, replicate, refl, sym, ap, ◌∙◌, subst, inl, inr, arith, length-set, vec_items, vec_capacity}
use Rattle.std.specs.List.{All}
use Rattle.std.specs.declared.vec.Vec.{Vec}
use Rattle.std.proofs.lemmas.Bool.{cases_eq, cases_lt}
use Rattle.std.proofs.lemmas.List.{length-map, get_or-map, map-append, map-set, get_or-set_other, get_or-replicate, get_or_past, get_or_read_under, length-replicate, length_push, get_or_push}
use Rattle.std.proofs.lemmas.List.Elements.{All-get_or}
use Rattle.std.proofs.lemmas.Grind.{get_or-set_at}
use Rattle.nv_numbered.specs.Leaved.{word_at, words_of, room_of, leaves_of, IsLeaf, IsLeaved}
use Rattle.nv_numbered.proofs.WordLemmas.{at_other, word_read, word_past, words-set}
use Rattle.nv_numbered.proofs.LeafLemmas.{leaf_some, zeros_left, IsLeaf-bare, IsLeaf-first, IsLeaf-more, IsLeaf-replace, IsLeaf-less, AreLeaves-set, AreLeaves-write}
use Rattle.nv_numbered.proofs.SpareLemmas.{used_low, count_low, count_some, some_made, room_more, room_less, spare_there, AreSpares-more, AreSpares-first, AreSpares-less, AreSpares-last, AreSpares-grown, room_little, room_grown}

-- each word of a spare leaf is 0
zero_at : (j : ℕ) → ◌≡◌ {A = ℕ} (get_or (replicate 4096 0) j 0) 0
zero_at j = elim (cases_lt j 4096) [
  | inl low ↦ get_or-replicate 4096 j 0 0 low
  | inr past ↦ get_or_past (replicate 4096 0) j 0 (omega (arith, past, length-replicate {A = ℕ} 4096 0))
]

module _ {A B : Type 0} (leaves : List (Vec ℕ A)) (used : List ℕ) (spares : Vec (Vec ℕ A) B) (total count len : ℕ) (is : IsLeaved leaves used spares total count len) where
  -- words are counted in 33 digits
  pub count_few : count < 2 ^ 34
  count_few =
      let low = count_low (leaves_of leaves) used len is.words in
      omega (arith, low, is.zeros.counted, is.words.few)

  pub as_many_used : length used ≡ length leaves
  as_many_used = is.words.as_many ∙ length-map leaves vec_items

  -- one more leaf with memory
  pub IsLeaved-spare : (left : Vec (Vec ℕ A) B) (words : Vec ℕ A) → words.items ≡ replicate 4096 0 → left.items ≡ spares.items ++ words ∷ [] → total + 1 ≤ vec_capacity left → IsLeaved leaves used left (total + 1) count len
  IsLeaved-spare left words zeros more roomy =
      let lists : leaves_of left.items ≡ leaves_of spares.items ++ words.items ∷ [] = ap leaves_of more ∙ map-append vec_items spares.items (words ∷ []) in
      record {
        words = is.words;
        zeros = rw lists (AreSpares-grown used (leaves_of spares.items) total count is.zeros words.items zeros);
        roomy = roomy;
        behind = is.behind;
      }

  pub room_spare : room_of (length leaves) total count < 2 ^ 64 → room_of (length leaves) total count + 1 ≤ room_of (length leaves) (total + 1) count
  room_spare little =
      let few : total < length leaves = room_little (length leaves) total count little (omega (arith, count_few)) in
      let held : count ≤ total = elim is.zeros.enough [ inl most ↦ absurd (omega (arith, most, few, as_many_used)) | inr held ↦ held ] in
      room_grown (length leaves) total count few held (omega (arith, count_few)) little

  -- the spare leaves among those with memory
  pub spares_low : length spares.items ≤ total
  spares_low = omega (arith, is.zeros.together, length-map spares.items (vec_items {X = ℕ} {Z = A}))

  module _ (place : ℕ) (within : place < len) where
    -- the leaf of a place
    pub leaf_inside : place / 4096 < length leaves
    leaf_inside = omega (arith, within, is.words.reach, length-map leaves (vec_items {X = ℕ} {Z = A}))

    list_inside : place / 4096 < length (leaves_of leaves)
    list_inside = omega (arith, leaf_inside, length-map leaves (vec_items {X = ℕ} {Z = A}))

    pub used_inside : place / 4096 < length used
    used_inside = omega (arith, leaf_inside, as_many_used)

    -- the count of its words
    pub used_read : (n : ℕ) → n ≡ get_or used (place / 4096) n → n ≡ get_or used (place / 4096) 0
    used_read n read = get_or_read_under used (place / 4096) (length used) n 0 read used_inside refl

    pub used_few : (n : ℕ) → n ≡ get_or used (place / 4096) n → n ≤ 4096
    used_few n read = let low = used_low (leaves_of leaves) used len is.words (place / 4096) list_inside in omega (arith, low, used_read n read)

    -- the room, where a word comes
    pub room_inserted : (new : Vec ℕ A) → 0 < room_of (length leaves) total count → room_of (length leaves) total count ≡ room_of (length (set leaves (place / 4096) new)) total (count + 1) + 1
    room_inserted new room = rw (length-set leaves (place / 4096) new) (room_more (length leaves) total count room (omega (arith, count_few)))

    module _ (leaf : Vec ℕ A) (read : leaf ≡ get_or leaves (place / 4096) leaf) where
      leaf_read : get_or (leaves_of leaves) (place / 4096) [] ≡ leaf.items
      leaf_read = get_or-map vec_items leaves (place / 4096) leaf [] leaf_inside ∙ ap (λ (l : Vec ℕ A). l.items) (sym read)

      leaf_is : IsLeaf leaf.items (get_or used (place / 4096) 0)
      leaf_is = subst (λ (words : List ℕ). IsLeaf words (get_or used (place / 4096) 0)) leaf_read (is.words.each (place / 4096) list_inside)

      -- its word is the one there
      pub word_is : get_or (words_of (leaves_of leaves) len) place 0 ≡ get_or leaf.items (place % 4096) 0
      word_is = word_read (leaves_of leaves) len place within ∙ ap (λ (words : List ℕ). get_or words (place % 4096) 0) leaf_read

      pub leaf_short : length leaf.items ≤ 4096
      leaf_short = elim (cases_eq (get_or used (place / 4096) 0) 0) [
        | inl none ↦ omega (arith, leaf_is.bare none)
        | inr some ↦ omega (arith, leaf_is.made (omega (arith, some)))
      ]

      word_in : (k : ℕ) → k < len → k / 4096 ≡ place / 4096 → get_or (words_of (leaves_of leaves) len) k 0 ≡ get_or leaf.items (k % 4096) 0
      word_in k low same = word_read (leaves_of leaves) len k low ∙ ap (λ (q : ℕ). get_or (get_or (leaves_of leaves) q []) (k % 4096) 0) same ∙ ap (λ (words : List ℕ). get_or words (k % 4096) 0) leaf_read

      -- the word at an offset of the leaf
      pub word_found : (offset : ℕ) → offset < length leaf.items → place - place % 4096 + offset < len → get_or (words_of (leaves_of leaves) len) (place - place % 4096 + offset) 0 ≡ get_or leaf.items offset 0
      word_found offset there low =
          let short = leaf_short in
          word_in (place - place % 4096 + offset) low (omega (arith, there, short)) ∙ (let at : (place - place % 4096 + offset) % 4096 ≡ offset = omega (arith, there, short) in ap (λ (j : ℕ). get_or leaf.items j 0) at)

      -- those that are passed over, up to an offset of the leaf
      pub words_passed : (end : ℕ) → end ≤ 4096 → ((j : ℕ) → place % 4096 ≤ j → j < end → get_or leaf.items j 0 ≡ 0) → (k : ℕ) → place ≤ k → k < place - place % 4096 + end → get_or (words_of (leaves_of leaves) len) k 0 ≡ 0
      words_passed end most zeros k from to = elim (cases_lt k len) [
        | inl low ↦
            word_in k low (omega (arith, most, from, to))
            ∙ zeros (k % 4096) (omega (arith, most, from, to)) (omega (arith, most, from, to))
        | inr past ↦ word_past (leaves_of leaves) len k past
      ]

      -- a leaf's words behind its last are 0
      pub leaf_zeros : ((j : ℕ) → place % 4096 ≤ j → j < length leaf.items → get_or leaf.items j 0 ≡ 0) → (j : ℕ) → place % 4096 ≤ j → j < 4096 → get_or leaf.items j 0 ≡ 0
      leaf_zeros zeros j from low = elim (cases_lt j (length leaf.items)) [
        | inl there ↦ zeros j from there
        | inr past ↦ get_or_past leaf.items j 0 past
      ]

      -- the list, where a leaf of which the word at the place alone is another stands there
      pub words_written : (new : Vec ℕ A) (w : ℕ) → get_or new.items (place % 4096) 0 ≡ w → ((j : ℕ) → j ≢ place % 4096 → get_or new.items j 0 ≡ get_or leaf.items j 0) → words_of (leaves_of (set leaves (place / 4096) new)) len ≡ set (words_of (leaves_of leaves) len) place w
      words_written new w here others =
          ap (λ (lists : List (List ℕ)). words_of lists len) (map-set vec_items leaves (place / 4096) new)
          ∙ words-set (leaves_of leaves) len place w new.items within is.words.reach here (λ j differs. others j differs ∙ ap (λ (words : List ℕ). get_or words j 0) (sym leaf_read))

      -- the words behind the last are still 0
      behind_written : (new : Vec ℕ A) → ((j : ℕ) → j ≢ place % 4096 → get_or new.items j 0 ≡ get_or leaf.items j 0) → (k : ℕ) → len ≤ k → word_at (leaves_of (set leaves (place / 4096) new)) k ≡ 0
      behind_written new others k past =
          ap (λ (lists : List (List ℕ)). word_at lists k) (map-set vec_items leaves (place / 4096) new)
          ∙ at_other (leaves_of leaves) len place (get_or new.items (place % 4096) 0) new.items within is.words.reach refl (λ j differs. others j differs ∙ ap (λ (words : List ℕ). get_or words j 0) (sym leaf_read)) k (λ same. absurd (omega (arith, same, past, within)))
          ∙ is.behind k past

      module _ (told : get_or (words_of (leaves_of leaves) len) place 0 ≢ 0) where
        taken : get_or leaf.items (place % 4096) 0 ≢ 0
        taken none = told (word_is ∙ none)

        -- a leaf with a word has all
        pub leaf_made : 0 < get_or used (place / 4096) 0
        leaf_made = leaf_some leaf.items (get_or used (place / 4096) 0) (place % 4096) leaf_is taken

        pub leaf_long : length leaf.items ≡ 4096
        leaf_long = leaf_is.made leaf_made

        pub some_counted : 0 < count
        some_counted = count_some used (leaves_of spares.items) total count is.zeros (place / 4096) used_inside leaf_made

        -- the room, where a word goes
        pub room_removed : (new : Vec ℕ A) → room_of (length (set leaves (place / 4096) new)) total (count - 1) ≡ room_of (length leaves) total count + 1
        room_removed new =
            let enough : (length leaves ≤ total) ⊎ (count ≤ total) = elim is.zeros.enough [ inl most ↦ inl (omega (arith, most, as_many_used)) | inr held ↦ inr held ] in
            rw (length-set leaves (place / 4096) new) (room_less (length leaves) total count enough some_counted (omega (arith, count_few)))

        -- another spare leaf has room
        pub room_for_spare : length spares.items < vec_capacity spares
        room_for_spare =
            let made = some_made used (leaves_of spares.items) total count is.zeros (place / 4096) used_inside leaf_made in
            omega (arith, made, is.roomy, is.zeros.together, length-map spares.items (vec_items {X = ℕ} {Z = A}))

        pub write_words : (new : Vec ℕ A) (w : ℕ) → new.items ≡ set leaf.items (place % 4096) w → words_of (leaves_of (set leaves (place / 4096) new)) len ≡ set (words_of (leaves_of leaves) len) place w
        write_words new w e =
            words_written new w
            (ap (λ (words : List ℕ). get_or words (place % 4096) 0) e ∙ get_or-set_at leaf.items (place % 4096) (place % 4096) w 0 refl (omega (arith, leaf_long)))
            (λ j differs. ap (λ (words : List ℕ). get_or words j 0) e ∙ get_or-set_other leaf.items (place % 4096) j w 0 differs)

        -- another word
        pub IsLeaved-replace : (new : Vec ℕ A) (w : ℕ) → new.items ≡ set leaf.items (place % 4096) w → w ≢ 0 → IsLeaved (set leaves (place / 4096) new) used spares total count len
        IsLeaved-replace new w e some =
            let written = IsLeaf-replace leaf.items (get_or used (place / 4096) 0) (place % 4096) w leaf_is leaf_made (omega arith) taken some in
            record {
              words = rw map-set (AreLeaves-write (leaves_of leaves) used len is.words (place / 4096) new.items list_inside (rw (sym e) at written));
              zeros = is.zeros;
              roomy = is.roomy;
              behind = behind_written new (λ j differs. ap (λ (words : List ℕ). get_or words j 0) e ∙ get_or-set_other leaf.items (place % 4096) j w 0 differs);
            }

        -- where a word was the only one of its leaf, the others were 0
        bare_others : (bare : Vec ℕ A) → bare.items ≡ [] → get_or used (place / 4096) 0 ≡ 1 → (j : ℕ) → j ≢ place % 4096 → get_or bare.items j 0 ≡ get_or leaf.items j 0
        bare_others bare none one j differs =
            let zeros : set leaf.items (place % 4096) 0 ≡ replicate 4096 0 = zeros_left leaf.items (get_or used (place / 4096) 0) (place % 4096) 0 leaf_is leaf_made (omega arith) taken refl one in
            ap (λ (words : List ℕ). get_or words j 0) none
            ∙ sym (sym (get_or-set_other leaf.items (place % 4096) j 0 0 differs) ∙ ap (λ (words : List ℕ). get_or words j 0) zeros ∙ zero_at j)

        -- a word goes that is the last of its leaf: the words of the leaf become a spare one's
        pub IsLeaved-last : (new bare : Vec ℕ A) (left : Vec (Vec ℕ A) B) (n : ℕ) → new.items ≡ set leaf.items (place % 4096) 0 → bare.items ≡ [] → left.items ≡ spares.items ++ new ∷ [] → vec_capacity left ≡ vec_capacity spares → n ≡ get_or used (place / 4096) 0 - 1 → n ≡ 0
            → IsLeaved (set leaves (place / 4096) bare) (set used (place / 4096) n) left total (count - 1) len
        IsLeaved-last new bare left n e none more roomy is_less is_none =
            let one : get_or used (place / 4096) 0 ≡ 1 = omega (arith, leaf_made, is_less, is_none) in
            let zeros = e ∙ zeros_left leaf.items (get_or used (place / 4096) 0) (place % 4096) 0 leaf_is leaf_made (omega arith) taken refl one in
            let spare = AreSpares-last used (leaves_of spares.items) total count is.zeros (place / 4096) used_inside n new.items one is_none zeros in
            let lists : leaves_of left.items ≡ leaves_of spares.items ++ new.items ∷ [] = ap leaves_of more ∙ map-append vec_items spares.items (new ∷ []) in
            let empty : IsLeaf bare.items n = rw (none, is_none) IsLeaf-bare in
            record {
              words = rw map-set (AreLeaves-set (leaves_of leaves) used len is.words (place / 4096) bare.items n list_inside empty);
              zeros = rw lists spare;
              roomy = omega (arith, roomy, is.roomy);
              behind = behind_written bare (bare_others bare none one);
            }

        pub bare_words : (new bare : Vec ℕ A) (n : ℕ) → new.items ≡ set leaf.items (place % 4096) 0 → bare.items ≡ [] → n ≡ get_or used (place / 4096) 0 - 1 → n ≡ 0 → words_of (leaves_of (set leaves (place / 4096) bare)) len ≡ set (words_of (leaves_of leaves) len) place 0
        bare_words new bare n e none is_less is_none =
            let one : get_or used (place / 4096) 0 ≡ 1 = omega (arith, leaf_made, is_less, is_none) in
            words_written bare 0 (ap (λ (words : List ℕ). get_or words (place % 4096) 0) none) (bare_others bare none one)

        -- a word goes, and its leaf has others
        pub IsLeaved-less : (new : Vec ℕ A) (n : ℕ) → new.items ≡ set leaf.items (place % 4096) 0 → n ≡ get_or used (place / 4096) 0 - 1 → n ≢ 0 → IsLeaved (set leaves (place / 4096) new) (set used (place / 4096) n) spares total (count - 1) len
        IsLeaved-less new n e is_less some =
            let more : 1 < get_or used (place / 4096) 0 = omega (arith, is_less, some) in
            let written = IsLeaf-less leaf.items (get_or used (place / 4096) 0) (place % 4096) 0 leaf_is leaf_made (omega arith) taken refl more in
            record {
              words = rw map-set (AreLeaves-set (leaves_of leaves) used len is.words (place / 4096) new.items n list_inside (rw (e, is_less) written));
              zeros = AreSpares-less used (leaves_of spares.items) total count is.zeros (place / 4096) used_inside n more is_less;
              roomy = is.roomy;
              behind = behind_written new (λ j differs. ap (λ (words : List ℕ). get_or words j 0) e ∙ get_or-set_other leaf.items (place % 4096) j 0 0 differs);
            }

      module _ (vacant : get_or (words_of (leaves_of leaves) len) place 0 ≡ 0) (room : 0 < room_of (length leaves) total count) where
        free : get_or leaf.items (place % 4096) 0 ≡ 0
        free = sym word_is ∙ vacant

        room_used : 0 < room_of (length used) total count
        room_used = rw as_many_used room

        -- there is a spare leaf where this one has no words
        pub spare_for : length leaf.items ≡ 0 → 0 < length spares.items
        spare_for none =
            let there = spare_there used (leaves_of spares.items) total count is.zeros (place / 4096) used_inside (bare_used none) room_used in
            omega (arith, there, length-map spares.items (vec_items {X = ℕ} {Z = A}))
          where
            bare_used : length leaf.items ≡ 0 → get_or used (place / 4096) 0 ≡ 0
            bare_used none = elim (cases_eq (get_or used (place / 4096) 0) 0) [ inl zero ↦ zero | inr some ↦ absurd (omega (arith, none, leaf_is.made (omega (arith, some)))) ]

        module _ (made : Vec ℕ A) (left : Vec (Vec ℕ A) B) (bare : length leaf.items ≡ 0 → spares.items ≡ left.items ++ made ∷ []) (kept : 0 < length leaf.items → (made ≡ leaf) × (left.items ≡ spares.items)) (roomy : vec_capacity left ≡ vec_capacity spares) where
          bare_lists : length leaf.items ≡ 0 → leaves_of spares.items ≡ leaves_of left.items ++ made.items ∷ []
          bare_lists none = ap leaves_of (bare none) ∙ map-append vec_items left.items (made ∷ [])

          bare_zeros : length leaf.items ≡ 0 → made.items ≡ replicate 4096 0
          bare_zeros none =
              let lists = leaves_of left.items in
              let all = subst (All (λ words. words ≡ replicate 4096 0)) (bare_lists none) is.zeros.zeros in
              sym (get_or_push lists made.items [] (length lists) refl)
              ∙ All-get_or (λ words. words ≡ replicate 4096 0) (lists ++ made.items ∷ []) (length lists) [] (omega (arith, length_push lists made.items)) all

          made_items : 0 < length leaf.items → made.items ≡ leaf.items
          made_items some = ap (λ (l : Vec ℕ A). l.items) (kept some).0

          -- the made leaf has all words, and they are those of before
          pub made_long : length made.items ≡ 4096
          made_long = elim (cases_eq (length leaf.items) 0) [
            | inl none ↦ ap (λ (words : List ℕ). length words) (bare_zeros none) ∙ length-replicate {A = ℕ} 4096 0
            | inr some ↦ ap (λ (words : List ℕ). length words) (made_items (omega (arith, some))) ∙ full some
          ]
            where
              full : length leaf.items ≢ 0 → length leaf.items ≡ 4096
              full some = elim (cases_eq (get_or used (place / 4096) 0) 0) [ inl zero ↦ absurd (some (leaf_is.bare zero)) | inr more ↦ leaf_is.made (omega (arith, more)) ]

          made_same : (j : ℕ) → get_or made.items j 0 ≡ get_or leaf.items j 0
          made_same j = elim (cases_eq (length leaf.items) 0) [
            | inl none ↦ ap (λ (words : List ℕ). get_or words j 0) (bare_zeros none) ∙ zero_at j ∙ sym (get_or_past leaf.items j 0 (omega (arith, none)))
            | inr some ↦ ap (λ (words : List ℕ). get_or words j 0) (made_items (omega (arith, some)))
          ]

          -- the list with the word
          pub insert_words : (new : Vec ℕ A) (w : ℕ) → new.items ≡ set made.items (place % 4096) w → words_of (leaves_of (set leaves (place / 4096) new)) len ≡ set (words_of (leaves_of leaves) len) place w
          insert_words new w e =
              words_written new w
              (ap (λ (words : List ℕ). get_or words (place % 4096) 0) e ∙ get_or-set_at made.items (place % 4096) (place % 4096) w 0 refl (omega (arith, made_long)))
              (λ j differs. ap (λ (words : List ℕ). get_or words j 0) e ∙ get_or-set_other made.items (place % 4096) j w 0 differs ∙ made_same j)

          -- a word comes
          pub IsLeaved-insert : (new : Vec ℕ A) (w n : ℕ) → new.items ≡ set made.items (place % 4096) w → w ≢ 0 → n ≡ get_or used (place / 4096) 0 + 1 → IsLeaved (set leaves (place / 4096) new) (set used (place / 4096) n) left total (count + 1) len
          IsLeaved-insert new w n e some is_more = elim (cases_eq (length leaf.items) 0) [
            | inl none ↦
                let zero = used_none none in
                let one : n ≡ 1 = omega (arith, is_more, zero) in
                let items : new.items ≡ set (replicate 4096 0) (place % 4096) w = e ∙ ap (λ (words : List ℕ). set words (place % 4096) w) (bare_zeros none) in
                let first : IsLeaf new.items n = rw (items, one) (IsLeaf-first (place % 4096) w (omega arith) some) in
                record {
                  words = rw map-set (AreLeaves-set (leaves_of leaves) used len is.words (place / 4096) new.items n list_inside first);
                  zeros = AreSpares-first used (leaves_of spares.items) total count is.zeros (place / 4096) used_inside zero room_used (leaves_of left.items) made.items n (bare_lists none) one;
                  roomy = omega (arith, roomy, is.roomy);
                  behind = behind_written new (λ j differs. ap (λ (words : List ℕ). get_or words j 0) e ∙ get_or-set_other made.items (place % 4096) j w 0 differs ∙ made_same j);
                }
            | inr there ↦
                let positive = used_some there in
                let items : new.items ≡ set leaf.items (place % 4096) w = e ∙ ap (λ (words : List ℕ). set words (place % 4096) w) (made_items (omega (arith, there))) in
                let written = IsLeaf-more leaf.items (get_or used (place / 4096) 0) (place % 4096) w leaf_is positive (omega arith) free some in
                let more : IsLeaf new.items n = rw (items, is_more) written in
                let lists : leaves_of left.items ≡ leaves_of spares.items = ap leaves_of (kept (omega (arith, there))).1 in
                record {
                  words = rw map-set (AreLeaves-set (leaves_of leaves) used len is.words (place / 4096) new.items n list_inside more);
                  zeros = rw (lists, is_more) (AreSpares-more used (leaves_of spares.items) total count is.zeros (place / 4096) used_inside positive room_used);
                  roomy = omega (arith, roomy, is.roomy);
                  behind = behind_written new (λ j differs. ap (λ (words : List ℕ). get_or words j 0) e ∙ get_or-set_other made.items (place % 4096) j w 0 differs ∙ made_same j);
                }
          ]
            where
              used_none : length leaf.items ≡ 0 → get_or used (place / 4096) 0 ≡ 0
              used_none none = elim (cases_eq (get_or used (place / 4096) 0) 0) [ inl zero ↦ zero | inr more ↦ absurd (omega (arith, none, leaf_is.made (omega (arith, more)))) ]

              used_some : length leaf.items ≢ 0 → 0 < get_or used (place / 4096) 0
              used_some there = elim (cases_eq (get_or used (place / 4096) 0) 0) [ inl zero ↦ absurd (there (leaf_is.bare zero)) | inr more ↦ omega (arith, more) ]
