-- What a read, a write, a push and a pop do to chunks.
use Rattle.std.proofs.Common.{◌≡◌, ℕ, ◌+◌, ◌-◌, ◌*◌, ◌/◌, ◌%◌, ◌^◌, ◌<◌, ◌≤◌, min, List, [], ◌∷◌, ◌++◌, length, take, get_or, set, Some, slice_get, refl, sym, ap, subst, ◌∙◌, arith, length-append, length-set, vec_items, vec_capacity}
use Rattle.std.specs.List.{All}
use Rattle.std.specs.declared.vec.Vec.{Vec}
use Rattle.std.proofs.lemmas.List.{length-map, get_or-map, map-append, map-set, length_push, take_all, take-map}
use Rattle.std.proofs.lemmas.List.Elements.{All-append, All-get_or, All-map, All-push, All-set, All-take}
use Rattle.std.proofs.lemmas.Option.{get_or_from_slice_get, slice_get_read, slice_get_within}
use Rattle.nv_numbered.specs.Chunked.{with_value_at}
use Rattle.nv_numbered.specs.Filled.{joined, lists_of, HasRoom, IsFullChunk, AreChunks, seen_as}
use Rattle.nv_numbered.proofs.FilledLemmas.{length-joined, filled_few, length_at, get_or-joined, AreFilled-same, AreFilled-set, AreFilled-more, IsFull, AreFilled-front, All-full, joined-full, joined-write, joined-push, joined-pop}

module _ {X A : Type 0} (chunks : List (Vec X A)) (len : ℕ) (are : AreChunks chunks len) where
  -- there are as many values as told
  pub length-values : length (joined (lists_of chunks)) ≡ len
  length-values = length-joined (lists_of chunks) len are.filled

  -- there is room for them
  pub len_fits : len ≤ 256 * length chunks
  len_fits = omega (arith, filled_few (lists_of chunks) len are.filled, length-map chunks (vec_items {X = X} {Z = A}))

  module _ (i : ℕ) (chunk : Vec X A) (inside : i < length chunks) (read : chunk ≡ get_or chunks i chunk) where
    -- the list of a chunk that was read
    pub list_read : get_or (lists_of chunks) i [] ≡ chunk.items
    list_read = get_or-map vec_items chunks i chunk [] inside ∙ ap (λ (c : Vec X A). c.items) (sym read)

    pub chunk_room : HasRoom chunk
    chunk_room = subst HasRoom (sym read) (All-get_or HasRoom chunks i chunk inside are.roomy)

    -- another chunk stands in its place
    pub AreChunks-set : (other : Vec X A) (after : ℕ) → HasRoom other → 256 * i ≤ len → len ≤ 256 * i + 256 → 256 * i ≤ after → after ≤ 256 * i + 256 → length other.items ≡ after - 256 * i → AreChunks (set chunks i other) after
    AreChunks-set other after room low high above below is =
        record {
          filled = rw map-set (AreFilled-set (lists_of chunks) len after i other.items are.filled (omega (arith, inside, length-map chunks (vec_items {X = X} {Z = A}))) low high above below is);
          roomy = All-set HasRoom chunks i other room are.roomy;
          few = omega (arith, length-set chunks i other, are.few);
        }

    -- the chunk that has the last values
    pub joined-push_at : (other : Vec X A) (x : X) → other.items ≡ chunk.items ++ x ∷ [] → 256 * i ≤ len → len < 256 * i + 256 → joined (lists_of (set chunks i other)) ≡ joined (lists_of chunks) ++ x ∷ []
    joined-push_at other x is low high =
        ap joined (map-set vec_items chunks i other ∙ ap (λ l. set (lists_of chunks) i l) (is ∙ ap (λ l. l ++ x ∷ []) (sym list_read)))
        ∙ joined-push (lists_of chunks) len i x are.filled (omega (arith, inside, length-map chunks (vec_items {X = X} {Z = A}))) low high

    pub joined-pop_at : (other : Vec X A) (x : X) → chunk.items ≡ other.items ++ x ∷ [] → 256 * i < len → len ≤ 256 * i + 256 → joined (lists_of chunks) ≡ joined (lists_of (set chunks i other)) ++ x ∷ []
    joined-pop_at other x is low high =
        joined-pop (lists_of chunks) len i other.items x are.filled low high (list_read ∙ is)
        ∙ ap (λ l. joined l ++ x ∷ []) (sym (map-set vec_items chunks i other))

    -- how many values it has
    pub length_read : length chunk.items ≡ min (len - 256 * i) 256
    length_read = ap (λ (l : List X). length l) (sym list_read) ∙ length_at (lists_of chunks) len i are.filled

    pub AreChunks-push : (other : Vec X A) (x : X) → vec_capacity other ≡ vec_capacity chunk → other.items ≡ chunk.items ++ x ∷ [] → 256 * i ≤ len → len < 256 * i + 256 → AreChunks (set chunks i other) (len + 1)
    AreChunks-push other x room is low high =
        AreChunks-set other (len + 1) (omega (arith, chunk_room, room)) low (omega arith) (omega arith) (omega arith)
        (omega (arith, length_read, ap (λ (l : List X). length l) is, length_push chunk.items x))

    pub AreChunks-pop : (other : Vec X A) (x : X) → vec_capacity other ≡ vec_capacity chunk → chunk.items ≡ other.items ++ x ∷ [] → 256 * i < len → len ≤ 256 * i + 256 → AreChunks (set chunks i other) (len - 1)
    AreChunks-pop other x room is low high =
        AreChunks-set other (len - 1) (omega (arith, chunk_room, room)) (omega arith) high (omega arith) (omega arith)
        (omega (arith, length_read, ap (λ (l : List X). length l) is, length_push other.items x))

  -- one more chunk, without a value
  pub AreChunks-more : (chunk : Vec X A) → chunk.items ≡ [] → HasRoom chunk → 256 * (length chunks + 1) < 2 ^ 64 → AreChunks (chunks ++ chunk ∷ []) len
  AreChunks-more chunk empty room few =
      let lists : lists_of (chunks ++ chunk ∷ []) ≡ lists_of chunks ++ [] ∷ [] = map-append vec_items chunks (chunk ∷ []) ∙ ap (λ l. lists_of chunks ++ l ∷ []) empty in
      record {
        filled = rw lists (AreFilled-more (lists_of chunks) len are.filled);
        roomy = All-push HasRoom chunks chunk are.roomy room;
        few = omega (arith, length_push chunks chunk, few);
      }

  -- full chunks in front
  pub AreChunks-front : (front : List (Vec X A)) → All IsFullChunk front → 256 * (length front + length chunks) < 2 ^ 64 → AreChunks (front ++ chunks) (len + 256 * length front)
  AreChunks-front front full few =
      let lists : lists_of (front ++ chunks) ≡ lists_of front ++ lists_of chunks = map-append vec_items front chunks in
      let each : All IsFull (lists_of front) = All-map IsFull vec_items front (λ k d inside. (full k d inside).0) in
      let after : 256 * length (lists_of front) + len ≡ len + 256 * length front = omega (arith, length-map front (vec_items {X = X} {Z = A})) in
      record {
        filled = rw (lists, ← after) (AreFilled-front (lists_of front) (lists_of chunks) len each are.filled);
        roomy = All-append HasRoom front chunks (λ k d inside. (full k d inside).1) are.roomy;
        few = omega (arith, length-append front chunks, few);
      }

  module _ (i : ℕ) (low : 256 * i ≤ len) where
    -- the chunks before the last one that has values
    pub full_before : All IsFullChunk (take i chunks)
    full_before k d inside =
        let each : All IsFull (lists_of (take i chunks)) = rw (← take-map vec_items i chunks) (All-full (lists_of chunks) len i are.filled low) in
        let long : k < length (lists_of (take i chunks)) = omega (arith, inside, length-map (take i chunks) (vec_items {X = X} {Z = A})) in (
          ap (λ (l : List X). length l) (sym (get_or-map vec_items (take i chunks) k d [] inside)) ∙ each k [] long,
          All-take HasRoom i chunks are.roomy k d inside,
        )

    module _ (high : len < 256 * i + 256) where
      -- all values are in those and in that one
      pub joined-before : (chunk : Vec X A) → slice_get chunks i ≡ Some chunk → joined (lists_of chunks) ≡ joined (lists_of (take i chunks)) ++ chunk.items
      joined-before chunk there =
          let inside = slice_get_within chunks i chunk there in
          joined-full (lists_of chunks) len i are.filled low high
          ∙ ap (λ l. joined l ++ get_or (lists_of chunks) i []) (take-map vec_items i chunks)
          ∙ ap (λ l. joined (lists_of (take i chunks)) ++ l) (list_read i chunk inside (sym (get_or_from_slice_get chunks i chunk chunk there)))

      -- there are none in it
      pub joined-before_none : length chunks ≤ i → joined (lists_of chunks) ≡ joined (lists_of (take i chunks))
      joined-before_none none = ap (λ l. joined (lists_of l)) (sym (take_all i chunks none))

      pub length-behind : (chunk : Vec X A) → slice_get chunks i ≡ Some chunk → length chunk.items ≡ len - 256 * i
      length-behind chunk there =
          omega (arith, length_read i chunk (slice_get_within chunks i chunk there) (sym (get_or_from_slice_get chunks i chunk chunk there)))

  module _ (place : ℕ) (within : place < len) where
    -- the chunk of a place
    pub chunk_inside : place / 256 < length chunks
    chunk_inside = omega (arith, len_fits, within)

    module _ (chunk : Vec X A) (read : chunk ≡ get_or chunks (place / 256) chunk) where
      -- and the place in it
      pub inside_chunk : place % 256 < length chunk.items
      inside_chunk =
          omega (arith, length_at (lists_of chunks) len (place / 256) are.filled, ap (λ (l : List X). length l) (list_read (place / 256) chunk chunk_inside read), within)

      -- the value there
      pub value_read : (x : X) → x ≡ get_or chunk.items (place % 256) x → slice_get (joined (lists_of chunks)) place ≡ Some x
      value_read x is =
          let at : 256 * (place / 256) + place % 256 ≡ place = omega arith in
          let found = get_or-joined (lists_of chunks) len (place / 256) (place % 256) x are.filled (omega arith) (omega (arith, within)) in
          slice_get_read (joined (lists_of chunks)) len place x (sym length-values) within
          (is ∙ ap (λ l. get_or l (place % 256) x) (sym (list_read (place / 256) chunk chunk_inside read)) ∙ sym found ∙ ap (λ k. get_or (joined (lists_of chunks)) k x) at)

      module _ (other : Vec X A) (x : X) (is : other.items ≡ set chunk.items (place % 256) x) where
        -- it is written
        joined-write_at : joined (lists_of (set chunks (place / 256) other)) ≡ set (joined (lists_of chunks)) place x
        joined-write_at =
            let at : 256 * (place / 256) + place % 256 ≡ place = omega arith in
            ap joined (map-set vec_items chunks (place / 256) other ∙ ap (λ l. set (lists_of chunks) (place / 256) l) (is ∙ ap (λ l. set l (place % 256) x) (sym (list_read (place / 256) chunk chunk_inside read))))
            ∙ joined-write (lists_of chunks) len (place / 256) (place % 256) x are.filled (omega arith) (omega (arith, within))
            ∙ ap (λ k. set (joined (lists_of chunks)) k x) at

        pub AreChunks-write : HasRoom other → AreChunks (set chunks (place / 256) other) len
        AreChunks-write room =
            record {
              filled = rw map-set (AreFilled-same (lists_of chunks) len (place / 256) other.items are.filled
                  (ap (λ (l : List X). length l) is ∙ length-set chunk.items (place % 256) x ∙ ap (λ (l : List X). length l) (sym (list_read (place / 256) chunk chunk_inside read))));
              roomy = All-set HasRoom chunks (place / 256) other room are.roomy;
              few = omega (arith, length-set chunks (place / 256) other, are.few);
            }

        pub seen_as-write : seen_as (set chunks (place / 256) other) len ≡ with_value_at (seen_as chunks len) place x
        seen_as-write = rw (joined-write_at, length-set) refl
