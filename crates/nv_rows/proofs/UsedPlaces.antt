-- The sets of the numbers in use as numbers come and go.
use Rattle.std.proofs.Common.{◌≡◌, ◌≢◌, ℕ, ◌+◌, ◌*◌, ◌/◌, ◌%◌, ◌<◌, List, [], ◌∷◌, ◌++◌, length, get_or, set, take, drop, refl, sym, ap, ◌∙◌, subst, inl, inr, arith, length-set}
use Rattle.std.proofs.lemmas.Bool.{cases_eq, cases_lt}
use Rattle.std.proofs.lemmas.List.{append-nil, drop_all, take_all, get_or-set_other, get_or_push, get_or_append_left, length_push, map-set}
use Rattle.std.proofs.lemmas.Grind.{get_or-set_at}
use Rattle.std.specs.Global.{Vec}
use Rattle.std.specs.Vec.{with_items}
use Rattle.std.proofs.lemmas.Nat.{div-add-mod', div-mul-add, mod_below, mod-mul-add}
use Rattle.std.proofs.lemmas.Option.{unwrap_or-slice_get}
use Rattle.nv_inode.specs.Tables.{lists_of}
use Rattle.nv_inode.proofs.TicketBlocks.{found_chain, lists_long}
use Rattle.nv_blockset.specs.BlockSet.{has, with_block}
use Rattle.nv_blockset.specs.WordRuns.{without_block}
use Rattle.nv_blockset.proofs.Sets.{has_same, has_other, with_block_long}
use Rattle.nv_blockset.proofs.TakenOut.{without_same, without_other, without_long}
use Rattle.nv_rows.specs.InUse.{has_number, set_of, with_number, without_number, HasUsed, HaveRoom}
use Rattle.nv_rows.specs.Unused.{IsTableNumber}

-- words that were all written
pub all_written : (n : ℕ) (old new : List ℕ) → n ≡ length old → length new ≡ length old → take n (new ++ drop (length new) old) ≡ new
all_written n old new count long =
    ap (λ (rest : List ℕ). take n (new ++ rest)) (drop_all (length new) old (omega (arith, long)))
    ∙ ap (take n) (append-nil new)
    ∙ take_all n new (omega (arith, count, long))

-- a number is told by its CPU and its place
pub same_number : (n i j : ℕ) → i % n ≡ j % n → i / n ≡ j / n → i ≡ j
same_number n i j cpu place = sym (div-add-mod' i n) ∙ (λ k. place k * n + cpu k) ∙ div-add-mod' j n

-- ---- another set for the CPU of a number

module _ (sets : List (List ℕ)) (i : ℕ) (some : 0 < length sets) (words : List ℕ) where
  abbrev n : ℕ
  n = length sets

  abbrev changed : List (List ℕ)
  changed = set sets (i % n) words

  long : length changed ≡ n
  long = length-set sets (i % n) words

  changed_in : (j : ℕ) → j % n ≡ i % n → has_number changed j ≡ has words (j / n)
  changed_in j same = ap (λ (m : ℕ). has (get_or changed (j % m) []) (j / m)) long ∙ ap (λ (w : List ℕ). has w (j / n)) (get_or-set_at sets (i % n) (j % n) words [] same (mod_below i n some))

  changed_out : (j : ℕ) → j % n ≢ i % n → has_number changed j ≡ has_number sets j
  changed_out j apart = ap (λ (m : ℕ). has (get_or changed (j % m) []) (j / m)) long ∙ ap (λ (w : List ℕ). has w (j / n)) (get_or-set_other sets (i % n) (j % n) words [] apart)

  room_kept : (sizes : List ℕ) → length words ≡ length (set_of sets (i % n)) → HaveRoom sizes sets → HaveRoom sizes changed
  room_kept sizes as_long had = record {
    as_many = long ∙ had.as_many;
    cpus = had.cpus;
    some = had.some;
    small = had.small;
    room = λ cpu below. elim (cases_eq cpu (i % n)) [
      | inl same ↦
          let is = ap (λ (w : List ℕ). length w) (get_or-set_at sets (i % n) cpu words [] same (mod_below i n some)) in
          let was = ap (λ (c : ℕ). length (set_of sets c)) same in
          let room = had.room cpu below in
          omega (arith, is, was, room, as_long)
      | inr apart ↦ (let is = ap (λ (w : List ℕ). length w) (get_or-set_other sets (i % n) cpu words [] apart) in let room = had.room cpu below in omega (arith, is, room))
    ];
  }

module _ (sizes : List ℕ) (sets : List (List ℕ)) (i : ℕ) (had : HaveRoom sizes sets) (number : IsTableNumber (length sizes) sizes i) where
  abbrev count : ℕ
  count = length sets

  some_sets : 0 < length sets
  some_sets = let e = had.as_many in let f = had.cpus in omega (arith, e, f)

  -- the CPU has a set, and the number a word there
  pub cpu_there : i % length sets < length sets
  cpu_there = mod_below i (length sets) some_sets

  pub word_there : i / length sets / 64 < length (set_of sets (i % length sets))
  word_there = subst (λ (m : ℕ). i / m / 64 < length (set_of sets (i % m))) (sym had.as_many)
      (let room = had.room (i % length sizes) (mod_below i (length sizes) had.cpus) in let low = number in omega (arith, room, low))

  abbrev words : List ℕ
  words = set_of sets (i % count)

  pub with_same : has_number (with_number sets i) i ≡ 1
  with_same = changed_in sets i some_sets (with_block words (i / count)) i refl ∙ has_same words (i / count) word_there

  pub with_other : (j : ℕ) → j ≢ i → has_number (with_number sets i) j ≡ has_number sets j
  with_other j differs = elim (cases_eq (j % count) (i % count)) [
    | inl same ↦
        changed_in sets i some_sets (with_block words (i / count)) j same ∙ has_other words (i / count) (j / count) word_there (λ e. differs (same_number count j i same e))
        ∙ ap (λ (c : ℕ). has (set_of sets c) (j / count)) (sym same)
    | inr apart ↦ changed_out sets i some_sets (with_block words (i / count)) j apart
  ]

  pub room_with : HaveRoom sizes (with_number sets i)
  room_with = room_kept sets i some_sets (with_block words (i / count)) sizes (with_block_long words (i / count)) had

  pub without_number_same : has_number (without_number sets i) i ≡ 0
  without_number_same = changed_in sets i some_sets (without_block words (i / count)) i refl ∙ without_same words (i / count) word_there

  pub without_number_other : (j : ℕ) → j ≢ i → has_number (without_number sets i) j ≡ has_number sets j
  without_number_other j differs = elim (cases_eq (j % count) (i % count)) [
    | inl same ↦
        changed_in sets i some_sets (without_block words (i / count)) j same ∙ without_other words (i / count) (j / count) word_there (λ e. differs (same_number count j i same e))
        ∙ ap (λ (c : ℕ). has (set_of sets c) (j / count)) (sym same)
    | inr apart ↦ changed_out sets i some_sets (without_block words (i / count)) j apart
  ]

  pub room_without : HaveRoom sizes (without_number sets i)
  room_without = room_kept sets i some_sets (without_block words (i / count)) sizes (without_long words (i / count)) had

-- ---- sets that are written

-- a set that was written in its vector
put_back : (sets : List (Vec ℕ)) (k : ℕ) (v : Vec ℕ) (new : List ℕ) → length new ≡ length v.items → lists_of (set sets k (with_items v new)) ≡ set (lists_of sets) k new
put_back sets k v new long = map-set (λ (w : Vec ℕ). w.items) sets k (with_items v new) ∙ ap (set (lists_of sets) k) (all_written v.len v.items new v.ok.0 long)

module _ (sizes : List ℕ) (sets : List (Vec ℕ)) (had : HaveRoom sizes (lists_of sets)) (cpus number : ℕ) (counted : cpus ≡ length sets) (v : Vec ℕ) (at : v ≡ get_or sets (number % cpus) v) where
  as_many : cpus ≡ length (lists_of sets)
  as_many = counted ∙ sym (lists_long sets)

  below : number % cpus < length sets
  below = (let some = had.cpus in let many = had.as_many in let e = as_many in let f = counted in let inside = mod_below number cpus (omega (arith, some, many, e)) in omega (arith, inside, f))

  here : v.items ≡ set_of (lists_of sets) (number % cpus)
  here = sym (found_chain sets (number % cpus) v at below) ∙ unwrap_or-slice_get (lists_of sets) (number % cpus) []

  pub put_with : (words new : List ℕ) → words ≡ v.items → new ≡ with_block words (number / cpus) → lists_of (set sets (number % cpus) (with_items v new)) ≡ with_number (lists_of sets) number
  put_with words new are is =
      put_back sets (number % cpus) v new (ap length is ∙ with_block_long words (number / cpus) ∙ ap length are)
      ∙ ap (set (lists_of sets) (number % cpus)) (is ∙ ap (λ (w : List ℕ). with_block w (number / cpus)) (are ∙ here))
      ∙ ap (λ (m : ℕ). set (lists_of sets) (number % m) (with_block (set_of (lists_of sets) (number % m)) (number / m))) as_many

  pub put_without : (words new : List ℕ) → words ≡ v.items → new ≡ without_block words (number / cpus) → lists_of (set sets (number % cpus) (with_items v new)) ≡ without_number (lists_of sets) number
  put_without words new are is =
      put_back sets (number % cpus) v new (ap length is ∙ without_long words (number / cpus) ∙ ap length are)
      ∙ ap (set (lists_of sets) (number % cpus)) (is ∙ ap (λ (w : List ℕ). without_block w (number / cpus)) (are ∙ here))
      ∙ ap (λ (m : ℕ). set (lists_of sets) (number % m) (without_block (set_of (lists_of sets) (number % m)) (number / m))) as_many

pub set_found : (sets : List (Vec ℕ)) (cpu : ℕ) (v : Vec ℕ) → v ≡ get_or sets cpu v → cpu < length sets → set_of (lists_of sets) cpu ≡ v.items
set_found sets cpu v at inside = sym (unwrap_or-slice_get (lists_of sets) cpu []) ∙ found_chain sets cpu v at inside

-- the bit of a number by its CPU and its place
pub bit_there : (sizes : List ℕ) (sets : List (List ℕ)) (cpu place : ℕ) → length sets ≡ length sizes → cpu < length sizes → has_number sets (place * length sizes + cpu) ≡ has (set_of sets cpu) place
bit_there sizes sets cpu place as_many below =
    ap (λ (m : ℕ). has (set_of sets ((place * length sizes + cpu) % m)) ((place * length sizes + cpu) / m)) as_many
    ∙ ap (λ (c : ℕ). has (set_of sets c) ((place * length sizes + cpu) / length sizes)) (mod-mul-add place (length sizes) cpu below)
    ∙ ap (has (set_of sets cpu)) (div-mul-add place (length sizes) cpu below)

-- ---- given numbers

pub HasUsed-none : (sets : List (List ℕ)) → ((i : ℕ) → has_number sets i ≡ 0) → HasUsed [] sets
HasUsed-none sets none = record { each = λ k inside. absurd (omega (arith, inside)); others = λ i other. none i }

-- one given number more
pub HasUsed-more : (numbers : List ℕ) (i : ℕ) (old new : List (List ℕ)) → has_number new i ≡ 1 → ((j : ℕ) → j ≢ i → has_number new j ≡ has_number old j) → HasUsed numbers old → HasUsed (numbers ++ i ∷ []) new
HasUsed-more numbers i old new there others used =
    let more = length_push numbers i in
    record {
      each = λ k inside. elim (cases_lt k (length numbers)) [
        | inl early ↦
            let is : get_or (numbers ++ i ∷ []) k 0 ≡ get_or numbers k 0 = get_or_append_left numbers (i ∷ []) 0 k early in
            elim (cases_eq (get_or numbers k 0) i) [
              | inl same ↦ ap (has_number new) (is ∙ same) ∙ there
              | inr differs ↦ ap (has_number new) is ∙ others (get_or numbers k 0) differs ∙ used.each k early
            ]
        | inr late ↦ ap (has_number new) (get_or_push numbers i 0 k (omega (arith, late, inside, more))) ∙ there
      ];
      others = λ j none.
          let differs : j ≢ i = λ e. none (length numbers) (omega (arith, more)) (get_or_push numbers i 0 (length numbers) refl ∙ sym e) in
          others j differs ∙ used.others j (λ k inside e. none k (omega (arith, inside, more)) (get_or_append_left numbers (i ∷ []) 0 k inside ∙ e));
    }
