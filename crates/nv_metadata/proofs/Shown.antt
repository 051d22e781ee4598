-- A memory shows an image's region: at first, and where it holds the bytes of one block more.
use Rattle.std.proofs.Common.{◌≡◌, ◌≢◌, inl, inr, ◌+◌, ◌*◌, ◌/◌, ◌%◌, ◌<◌, ◌≤◌, ℕ, List, ◌++◌, length, drop, take, [], false, refl, sym, ap, ◌∙◌, arith, length-drop, length-append}
use Rattle.std.proofs.lemmas.Bool.{cases_eq}
use Rattle.std.proofs.lemmas.List.{drop-drop, take-append-drop, take-take, drop-take, take_all, take_at}
use Rattle.byteorder.specs.Endian.{little_number}
use Rattle.nv_region.specs.Region.{Region, HasBlocks, word, words_of, region_of}
use Rattle.nv_journal.specs.Undone.{SameBefore}
use Rattle.nv_region.proofs.Fronted.{count_of_words}
use Rattle.nv_region.proofs.Bytes.{word_of_bytes, size_of_bytes}
use Rattle.nv_metadata.specs.Blocks.{AreBytesAt}
use Rattle.nv_metadata.specs.Memory.{MetadataState, Shows, held}
use Rattle.nv_metadata.proofs.Pieces.{number_taken}

-- a word of bytes that were read is that of the image
pub word_read : (bytes given : List ℕ) (from offset : ℕ) → AreBytesAt bytes from given → from % 8 ≡ 0 → offset % 8 ≡ 0 → offset + 8 ≤ length given → little_number 8 (drop offset given) ≡ word (region_of bytes) (from + offset)
word_read bytes given from offset are whole aligned within =
    ap (λ (l : List ℕ). little_number 8 (drop offset l)) are.same
    ∙ number_taken (length given) (drop from bytes) offset within (let w = are.within in omega (arith, w, length-drop from bytes))
    ∙ ap (little_number 8) (drop-drop offset from bytes)
    ∙ sym (word_of_bytes bytes (from + offset) (omega (arith, whole, aligned)) (let w = are.within in omega (arith, w, within)))

-- the length of an image in words
pub whole_words : (bytes : List ℕ) (blocks : ℕ) → length bytes ≡ 4096 * blocks → HasBlocks (region_of bytes) blocks
whole_words bytes blocks long = (let n : length (words_of bytes) ≡ 512 * blocks = omega (arith, count_of_words bytes, long) in (n, omega (arith, size_of_bytes bytes, long, n)))

-- at first
pub shows_first : (bytes front : List ℕ) (blocks : ℕ) (m : MetadataState) → length bytes ≡ 4096 * blocks → AreBytesAt bytes 0 front → m.memory.front ≡ length front → length front % 8 ≡ 0 → HasBlocks m.memory.region blocks
    → ((at : ℕ) → at % 8 ≡ 0 → at + 8 ≤ length front → word m.memory.region at ≡ little_number 8 (drop at front)) → ((at : ℕ) → at % 8 ≡ 0 → length front ≤ at → word m.memory.region at ≡ 0) → ((b : ℕ) → held m b ≡ 0)
    → Shows (region_of bytes) m
shows_first bytes front blocks m long are count whole has words zeros none = record {
  as_long = has.0 ∙ sym (whole_words bytes blocks long).0;
  rest_as_long = has.1 ∙ sym (whole_words bytes blocks long).1;
  front = λ at aligned low. words at aligned (omega (arith, aligned, low, count, whole)) ∙ word_read bytes front 0 at are refl aligned (omega (arith, aligned, low, count, whole)) ∙ ap (word (region_of bytes)) (let same : 0 + at ≡ at = omega arith in same);
  pieces = λ at aligned high some. absurd (let n = none (at / 4096) in omega (arith, n, some));
  zeros = λ at aligned high _. zeros at aligned (omega (arith, high, count));
}

-- a region that begins with an image's bytes is as long, and begins with its words
pub begins_alike : (bytes front : List ℕ) (blocks : ℕ) (S : Region) → length bytes ≡ 4096 * blocks → AreBytesAt bytes 0 front → length front % 8 ≡ 0 → HasBlocks S blocks
    → ((at : ℕ) → at % 8 ≡ 0 → at + 8 ≤ length front → word S at ≡ little_number 8 (drop at front)) → ((at : ℕ) → at % 8 ≡ 0 → length front ≤ at → word S at ≡ 0)
    → (length S.words ≡ length (region_of bytes).words) × SameBefore (length front) (region_of bytes) S
begins_alike bytes front blocks S long are whole has words zeros =
    let m : MetadataState = record { memory = record { region = S; front = length front; burnt = false }; counts = [] } in
    let shows = shows_first bytes front blocks m long are refl whole has words zeros (λ b. refl) in (shows.as_long, shows.front)

-- with a block more, of which so much as is held has the region's words, and the rest zeros
pub shows_more : (R : Region) (block : ℕ) (m new : MetadataState) → Shows R m → ((at : ℕ) → at % 8 ≡ 0 → at / 4096 ≡ block → at % 4096 < held new block → word new.memory.region at ≡ word R at)
    → m.memory.front ≤ 4096 * block → new.memory.front ≡ m.memory.front
    → ((at : ℕ) → at % 8 ≡ 0 → at / 4096 ≡ block → held new block ≤ at % 4096 → word new.memory.region at ≡ 0)
    → ((at : ℕ) → at % 8 ≡ 0 → at / 4096 ≢ block → word new.memory.region at ≡ word m.memory.region at)
    → ((b : ℕ) → b ≢ block → held new b ≡ held m b) → length new.memory.region.words ≡ length m.memory.region.words → new.memory.region.rest ≡ m.memory.region.rest
    → Shows R new
shows_more R block m new shows same behind front zeros others elsewhere long rest = record {
  as_long = long ∙ shows.as_long;
  rest_as_long = ap length rest ∙ shows.rest_as_long;
  front = λ at aligned low. others at aligned (λ is. omega (arith, is, low, behind, front)) ∙ shows.front at aligned (omega (arith, low, front));
  pieces = λ at aligned high some. elim (cases_eq (at / 4096) block) [
    | inl is ↦ (let within : at % 4096 < held new block = (let n = ap (held new) is in omega (arith, n, some)) in same at aligned is within)
    | inr other ↦ others at aligned other ∙ shows.pieces at aligned (let past : m.memory.front ≤ at = omega (arith, high, front) in past) (let n = elsewhere (at / 4096) other in omega (arith, n, some))
  ];
  zeros = λ at aligned high past. elim (cases_eq (at / 4096) block) [
    | inl is ↦ zeros at aligned is (let n = ap (held new) is in omega (arith, n, past))
    | inr other ↦ others at aligned other ∙ shows.zeros at aligned (let past_front : m.memory.front ≤ at = omega (arith, high, front) in past_front) (let n = elsewhere (at / 4096) other in omega (arith, n, past))
  ];
}

-- with the bytes of a block more, whose words are the region's
pub shows_with : (R : Region) (piece : List ℕ) (block : ℕ) (m new : MetadataState) → Shows R m → ((at : ℕ) → at % 8 ≡ 0 → at / 4096 ≡ block → at % 4096 < length piece → little_number 8 (drop (at % 4096) piece) ≡ word R at)
    → m.memory.front ≤ 4096 * block → new.memory.front ≡ m.memory.front
    → ((at : ℕ) → at % 8 ≡ 0 → at / 4096 ≡ block → at % 4096 < length piece → word new.memory.region at ≡ little_number 8 (drop (at % 4096) piece))
    → ((at : ℕ) → at % 8 ≡ 0 → at / 4096 ≡ block → length piece ≤ at % 4096 → word new.memory.region at ≡ 0)
    → ((at : ℕ) → at % 8 ≡ 0 → at / 4096 ≢ block → word new.memory.region at ≡ word m.memory.region at)
    → held new block ≡ length piece → ((b : ℕ) → b ≢ block → held new b ≡ held m b) → length new.memory.region.words ≡ length m.memory.region.words → new.memory.region.rest ≡ m.memory.region.rest
    → Shows R new
shows_with R piece block m new shows same behind front words zeros others here elsewhere long rest =
    shows_more R block m new shows (λ at aligned is within. (let some : at % 4096 < length piece = omega (arith, within, here) in words at aligned is some ∙ same at aligned is some)) behind front
    (λ at aligned is past. zeros at aligned is (omega (arith, past, here))) others elsewhere long rest

-- the words of bytes of a block that were read are those of the image
pub words_read : (bytes piece : List ℕ) (block : ℕ) → AreBytesAt bytes (4096 * block) piece → length piece % 8 ≡ 0 → (at : ℕ) → at % 8 ≡ 0 → at / 4096 ≡ block → at % 4096 < length piece → little_number 8 (drop (at % 4096) piece) ≡ word (region_of bytes) at
words_read bytes piece block are whole at aligned is within =
    word_read bytes piece (4096 * block) (at % 4096) are (omega arith) (omega (arith, aligned)) (omega (arith, aligned, within, whole))
    ∙ ap (word (region_of bytes)) (let at_is : 4096 * block + at % 4096 ≡ at = omega (arith, is) in at_is)

-- the first bytes, and those behind them
take_add : (n m : ℕ) (xs : List ℕ) → take (n + m) xs ≡ take n xs ++ take m (drop n xs)
take_add n m xs = sym (take-append-drop n (take (n + m) xs)) ∙ (λ i. take-take n (n + m) xs (omega arith) i ++ drop-take n m xs i)

-- bytes behind bytes that were read
pub read_on : (bytes first rest : List ℕ) (start at : ℕ) → AreBytesAt bytes start first → AreBytesAt bytes at rest → start + length first ≡ at → AreBytesAt bytes start (first ++ rest)
read_on bytes first rest start at begins goes here = record {
  within = (let w = goes.within in let n = length-append first rest in omega (arith, w, n, here));
  same = sym (ap (λ (n : ℕ). take n (drop start bytes)) (length-append first rest) ∙ take_add (length first) (length rest) (drop start bytes)
      ∙ ap (λ (l : List ℕ). l ++ take (length rest) (drop (length first) (drop start bytes))) (sym begins.same)
      ∙ ap (λ (l : List ℕ). first ++ take (length rest) l) (drop-drop (length first) start bytes)
      ∙ ap (λ (n : ℕ). first ++ take (length rest) (drop n bytes)) here ∙ ap (λ (l : List ℕ). first ++ l) (sym goes.same));
}

-- a block with more behind it begins with it
pub first_of_more : (first rest more : List ℕ) (n : ℕ) → more ≡ take n first ++ rest → length first ≡ 4096 → 4096 ≤ n → take 4096 more ≡ first
first_of_more first rest more n is long within = ap (take 4096) is ∙ ap (λ (l : List ℕ). take 4096 (l ++ rest)) (take_all n first (omega (arith, long, within))) ∙ take_at first rest 4096 long
