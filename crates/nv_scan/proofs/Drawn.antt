-- The tickets' inodes: where each ticket stands once, so does each number that has a slot.
use Rattle.std.proofs.Common.{◌≡◌, ◌≢◌, ℕ, zero, suc, ◌+◌, ◌-◌, ◌*◌, ◌/◌, ◌<◌, ◌≤◌, ◌==◌, nat_lt, inl, inr, Bool, true, false, cond, Option, Some, None, List, [], ◌∷◌, ◌++◌, map, refl, ap, sym, ◌∙◌, subst, arith, eqb-true, eq-eqb}
use Rattle.std.specs.List.{Contains, count_by, filter, range_with_len}
use Rattle.std.proofs.lemmas.Bool.{cases_lt, cases_eq}
use Rattle.std.proofs.lemmas.Bool.Decides.{nat_tests}
use Rattle.std.proofs.lemmas.List.Sums.{sum_by-cons, sum_by-append}
use Rattle.std.specs.Prelude.{slice_get}
use Rattle.std.proofs.lemmas.Nat.{div-mul-add}
use Rattle.std.proofs.lemmas.Option.{slice_get-get_or}
use Rattle.nv_super.specs.Layout.{Layout, slot_of}
use Rattle.nv_super.proofs.Members.{none_in, into_map, from_map, into_flat, from_flat}
use Rattle.nv_super.proofs.Rising.{Contains-cons, Contains-head, Contains-tail}
use Rattle.nv_inode.specs.declared.blocks.SlotBlock.{SlotBlock}
use Rattle.nv_inode.specs.Chains.{IsLaid}
use Rattle.nv_inode.specs.SlotBlocks.{slot_blocks, IsIn}
use Rattle.nv_inode.proofs.BlocksOfSlots.{block_found}
use Rattle.nv_inode.proofs.TicketsOnce.{tickets_once}
use Rattle.nv_claimcore.specs.Claims.{times, below}
use Rattle.nv_scan.specs.Tickets.{ticket_count, number_in, numbers_to, numbers_by, numbers_of}
use Rattle.nv_scan.specs.Work.{tickets_among, numbers_in}

-- ---- how often a number stands in a list

pub count_cons : {A : Type 0} (p : A → Bool) (x : A) (xs : List A) → count_by p (x ∷ xs) ≡ cond (p x) 1 0 + count_by p xs
count_cons p x xs = sum_by-cons (λ y. cond (p y) 1 0) x xs

count_append : {A : Type 0} (p : A → Bool) (xs ys : List A) → count_by p (xs ++ ys) ≡ count_by p xs + count_by p ys
count_append p xs ys = sum_by-append (λ y. cond (p y) 1 0) xs ys

-- 1 where the numbers are the same
one_same : (a b : ℕ) → a ≡ b → cond {A = ℕ} (a == b) 1 0 ≡ 1
one_same a b same = ap (λ (t : Bool). cond {A = ℕ} t 1 0) (eq-eqb a b same)

stands_some : (x : ℕ) (xs : List ℕ) → Contains xs x → 0 < times x xs
stands_some x [] c = absurd (none_in x c)
stands_some x (y ∷ xs) c = let all = count_cons (λ z. z == x) y xs in elim (Contains-cons y xs x c) [
  | inl w ↦ (let one = one_same y x (sym w) in omega (arith, all, one))
  | inr w ↦ (let rest = stands_some x xs w in omega (arith, all, rest))
]

pub some_stands : (x : ℕ) (xs : List ℕ) → 0 < times x xs → Contains xs x
some_stands x [] some = absurd (omega arith)
some_stands x (y ∷ xs) some = elim (y == x) as (λ b. (y == x) ≡ b → Contains (y ∷ xs) x) [
  | true ↦ λ e. subst (λ (z : ℕ). Contains (y ∷ xs) z) (eqb-true y x e) (Contains-head y xs)
  | false ↦ λ e. Contains-tail y xs x (some_stands x xs (
      let all = count_cons (λ z. z == x) y xs in
      let none : cond {A = ℕ} (y == x) 1 0 ≡ 0 = ap (λ (b : Bool). cond {A = ℕ} b 1 0) e in omega (arith, some, all, none)))
] refl

-- a test takes numbers away
fewer : (i : ℕ) (p : ℕ → Bool) (xs : List ℕ) → times i (filter p xs) ≤ times i xs
fewer i p [] = omega arith
fewer i p (x ∷ xs) = test (p x) (fewer i p xs) where
  all : times i (x ∷ xs) ≡ cond {A = ℕ} (x == i) 1 0 + times i xs
  all = count_cons (λ y. y == i) x xs

  test : (b : Bool) → times i (filter p xs) ≤ times i xs → times i (cond b (x ∷ filter p xs) (filter p xs)) ≤ times i (x ∷ xs)
  test true less = let mine = count_cons (λ y. y == i) x (filter p xs) in omega (arith, all, mine, less)
  test false less = omega (arith, all, less)

-- where it passes, it stands as often
as_often : (i : ℕ) (p : ℕ → Bool) (xs : List ℕ) → p i ≡ true → times i (filter p xs) ≡ times i xs
as_often i p [] passes = refl
as_often i p (x ∷ xs) passes = test (p x) refl (as_often i p xs passes) where
  all : times i (x ∷ xs) ≡ cond {A = ℕ} (x == i) 1 0 + times i xs
  all = count_cons (λ y. y == i) x xs

  test : (b : Bool) → p x ≡ b → times i (filter p xs) ≡ times i xs → times i (cond b (x ∷ filter p xs) (filter p xs)) ≡ times i (x ∷ xs)
  test true e same = count_cons (λ y. y == i) x (filter p xs) ∙ ap (λ (n : ℕ). cond {A = ℕ} (x == i) 1 0 + n) same ∙ sym all
  test false e same = elim (cases_eq x i) [
    | inl is ↦ absurd (let clash : true ≡ false = sym passes ∙ ap p (sym is) ∙ e in cc)
    | inr other ↦ (let none : (x == i) ≡ false = grind (arith, nat_tests) in let zero_here : cond {A = ℕ} (x == i) 1 0 ≡ 0 = ap (λ (b : Bool). cond {A = ℕ} b 1 0) none in omega (arith, same, all, zero_here))
  ]

-- the numbers of a range stand once
pub range_times : (x a n : ℕ) → times x (range_with_len a n) + below x a ≡ below x (a + n)
range_times x a zero = omega arith
range_times x a (suc n) =
    let all = count_cons (λ y. y == x) a (range_with_len (a + 1) n) in
    let rest = range_times x (a + 1) n in
    elim (cases_eq a x) [
      | inl is ↦ (let one = one_same a x is in omega (arith, all, rest, one, is))
      | inr other ↦ (let none : (a == x) ≡ false = grind (arith, nat_tests) in let zero_here : cond {A = ℕ} (a == x) 1 0 ≡ 0 = ap (λ (b : Bool). cond {A = ℕ} b 1 0) none in omega (arith, all, rest, zero_here, other))
    ]

-- what a map with a way back makes of a range stands no more often
mapped_times : (f g : ℕ → ℕ) (top : ℕ) → ((m : ℕ) → m < top → g (f m) ≡ m) → (i a n : ℕ) → a + n ≤ top → times i (map f (range_with_len a n)) ≤ times (g i) (range_with_len a n)
mapped_times f g top back i a zero all = omega arith
mapped_times f g top back i a (suc n) all =
    let rest = mapped_times f g top back i (a + 1) n (omega (arith, all)) in
    let mine = count_cons (λ y. y == i) (f a) (map f (range_with_len (a + 1) n)) in
    let its = count_cons (λ y. y == g i) a (range_with_len (a + 1) n) in
    elim (cases_eq (f a) i) [
      | inl is ↦ (let one = one_same a (g i) (sym (back a (omega (arith, all))) ∙ ap g is) in let most : cond {A = ℕ} (f a == i) 1 0 ≤ 1 = at_most_one (f a == i) in omega (arith, rest, mine, its, one, most))
      | inr other ↦ (let none : (f a == i) ≡ false = grind (arith, nat_tests) in let zero_here : cond {A = ℕ} (f a == i) 1 0 ≡ 0 = ap (λ (b : Bool). cond {A = ℕ} b 1 0) none in omega (arith, rest, mine, its, zero_here))
    ] where
      at_most_one : (b : Bool) → cond {A = ℕ} b 1 0 ≤ 1
      at_most_one true = omega arith
      at_most_one false = omega arith

-- ---- the tickets drawn

-- the tickets among the numbers below some n, each once
pub among_times : (tickets n : ℕ) (numbers : List ℕ) → ((x : ℕ) → times x numbers ≡ below x n) → tickets ≤ n → (t : ℕ) → times t (tickets_among tickets numbers) ≡ below t tickets
among_times tickets n numbers drawn enough t = elim (cases_lt t tickets) [
  | inl less ↦ (let kept = as_often t (λ m. nat_lt m tickets) numbers (grind (arith, nat_tests)) in let once = drawn t in omega (arith, kept, once, less, enough))
  | inr more ↦ (let none = none_past more numbers in omega (arith, none, more))
] where
  none_past : tickets ≤ t → (ns : List ℕ) → times t (tickets_among tickets ns) ≡ 0
  none_past more [] = refl
  none_past more (m ∷ ns) = test (nat_lt m tickets) refl (none_past more ns) where
    test : (b : Bool) → nat_lt m tickets ≡ b → times t (tickets_among tickets ns) ≡ 0 → times t (cond b (m ∷ tickets_among tickets ns) (tickets_among tickets ns)) ≡ 0
    test true e none =
        let all = count_cons (λ y. y == t) m (tickets_among tickets ns) in
        let differ : (m == t) ≡ false = grind (arith, nat_tests, more) in
        let zero_here : cond {A = ℕ} (m == t) 1 0 ≡ 0 = ap (λ (b : Bool). cond {A = ℕ} b 1 0) differ in omega (arith, none, all, zero_here)
    test false e none = none

pub all_times : (tickets t : ℕ) → times t (range_with_len 0 tickets) ≡ below t tickets
all_times tickets t = let all = range_times t 0 tickets in omega (arith, all)

-- ---- their inodes

-- the number in a slot of a ticket's block of slots stands among the ticket's numbers
pub number_there : (l : Layout) (t j : ℕ) (x : SlotBlock) → slice_get (slot_blocks l) t ≡ Some x → j < x.slots → number_in l x j ≢ 0 → Contains (numbers_of l t) (number_in l x j)
unfolding numbers_of
number_there l t j x at less some = subst (λ (o : Option SlotBlock). Contains (numbers_by l o) (number_in l x j)) (sym at) kept where
  in_range : Contains (range_with_len 0 x.slots) j
  in_range = some_stands j (range_with_len 0 x.slots) (let all = all_times x.slots j in omega (arith, all, less))

  there : 0 < times (number_in l x j) (map (number_in l x) (range_with_len 0 x.slots))
  there = stands_some (number_in l x j) (map (number_in l x) (range_with_len 0 x.slots)) (into_map (number_in l x) (range_with_len 0 x.slots) j in_range)

  passes : nat_lt 0 (number_in l x j) ≡ true
  passes = grind (arith, nat_tests, some)

  kept : Contains (numbers_to l x x.slots) (number_in l x j)
  kept = some_stands (number_in l x j) (numbers_to l x x.slots) (let same = as_often (number_in l x j) (λ n. nat_lt 0 n) (map (number_in l x) (range_with_len 0 x.slots)) passes in let all = there in omega (arith, same, all))

-- and each of its numbers is in a slot
in_slot : (l : Layout) (x : SlotBlock) (i : ℕ) → Contains (numbers_to l x x.slots) i → (j : ℕ) × IsIn l x j i
in_slot l x i c = at (from_map (number_in l x) (range_with_len 0 x.slots) i (some_stands i (map (number_in l x) (range_with_len 0 x.slots)) there)) where
  there : 0 < times i (map (number_in l x) (range_with_len 0 x.slots))
  there = let some = stands_some i (numbers_to l x x.slots) c in let less = fewer i (λ n. nat_lt 0 n) (map (number_in l x) (range_with_len 0 x.slots)) in omega (arith, some, less)

  at : (j : ℕ) × Contains (range_with_len 0 x.slots) j × (i ≡ number_in l x j) → (j : ℕ) × IsIn l x j i
  at (j, within, is) = (j, record { within = (let some = stands_some j (range_with_len 0 x.slots) within in let all = all_times x.slots j in omega (arith, some, all)); number = is })

in_block : (l : Layout) (t i : ℕ) → Contains (numbers_of l t) i → (x : SlotBlock) × (slice_get (slot_blocks l) t ≡ Some x) × (j : ℕ) × IsIn l x j i
unfolding numbers_of
in_block l t i c = at (slice_get (slot_blocks l) t) refl c where
  at : (o : Option SlotBlock) → slice_get (slot_blocks l) t ≡ o → Contains (numbers_by l o) i → (x : SlotBlock) × (slice_get (slot_blocks l) t ≡ Some x) × (j : ℕ) × IsIn l x j i
  at None e c = absurd (none_in i c)
  at (Some x) e c = let here = in_slot l x i c in (x, e, here.0, here.1)

module _ (l : Layout) (laid : IsLaid l) where
  cpus_some : 0 < l.sup.cpus
  cpus_some = let from = laid.layout.cpus_from in omega (arith, from)

  -- the slot of a number in a block of slots
  abbrev slot_in : SlotBlock → ℕ → ℕ
  slot_in x i = (i - x.first) / l.sup.cpus

  slot_back : (x : SlotBlock) (j : ℕ) → slot_in x (number_in l x j) ≡ j
  slot_back x j =
      let rest : number_in l x j - x.first ≡ j * l.sup.cpus + 0 = omega arith in
      ap (λ (n : ℕ). n / l.sup.cpus) rest ∙ div-mul-add j l.sup.cpus 0 cpus_some

  -- a number stands in a block of slots once at most
  once_in : (x : SlotBlock) (i : ℕ) → times i (numbers_to l x x.slots) ≤ 1
  once_in x i =
      let kept = fewer i (λ n. nat_lt 0 n) (map (number_in l x) (range_with_len 0 x.slots)) in
      let slots = mapped_times (number_in l x) (slot_in x) x.slots (λ m less. slot_back x m) i 0 x.slots (omega arith) in
      let all = all_times x.slots (slot_in x i) in
      omega (arith, kept, slots, all)

  once_of : (t i : ℕ) → times i (numbers_of l t) ≤ 1
  unfolding numbers_of
  once_of t i = at (slice_get (slot_blocks l) t) where
    at : (o : Option SlotBlock) → times i (numbers_by l o) ≤ 1
    at None = omega arith
    at (Some x) = once_in x i

  -- and in that of one ticket
  one_ticket : (t u i : ℕ) → Contains (numbers_of l t) i → Contains (numbers_of l u) i → t ≡ u
  one_ticket t u i c d =
      let here = in_block l t i c in
      let there = in_block l u i d in
      tickets_once l t u here.2 there.2 i here.0 there.0 laid here.1 there.1 here.3 there.3

  not_of : (t u i : ℕ) → Contains (numbers_of l u) i → t ≢ u → times i (numbers_of l t) ≡ 0
  not_of t u i c other = elim (cases_lt 0 (times i (numbers_of l t))) [
    | inl some ↦ absurd (other (one_ticket t u i (some_stands i (numbers_of l t) some) c))
    | inr none ↦ omega (arith, none)
  ]

  in_times : (u i : ℕ) (ts : List ℕ) → Contains (numbers_of l u) i → times i (numbers_in l ts) ≤ times u ts
  in_times u i [] c = omega arith
  in_times u i (t ∷ ts) c =
      let both = count_append (λ j. j == i) (numbers_of l t) (numbers_in l ts) in
      let rest = in_times u i ts c in
      let all = count_cons (λ y. y == u) t ts in
      elim (cases_eq t u) [
        | inl is ↦ (let one = one_same t u is in let mine = once_of t i in omega (arith, both, mine, rest, all, one))
        | inr other ↦ (let none = not_of t u i c other in omega (arith, both, none, rest, all))
      ]

  module _ (ts : List ℕ) (each : (t : ℕ) → times t ts ≡ below t (ticket_count l)) where
    pub once : (i : ℕ) → times i (numbers_in l ts) ≤ 1
    once i = elim (cases_lt 0 (times i (numbers_in l ts))) [
      | inl some ↦ (
          let w = from_flat (numbers_of l) ts i (some_stands i (numbers_in l ts) some) in
          let most = in_times w.0 i ts w.2 in
          let all = each w.0 in
          omega (arith, most, all))
      | inr none ↦ omega (arith, none)
    ]

    pub stands : (i a : ℕ) → slot_of l i ≡ Some a → Contains (numbers_in l ts) i
    stands i a e = at (block_found l i a laid e) where
      some : (n : ℕ) → slot_of l n ≡ Some a → n ≢ 0
      some zero e = absurd (cc)
      some (suc n) e = omega arith

      at : (x : SlotBlock) × (j : ℕ) × Contains (slot_blocks l) x × IsIn l x j i × (a ≡ x.start + 128 * j) → Contains (numbers_in l ts) i
      at (x, j, c, is, _) =
          let there : slice_get (slot_blocks l) c.0 ≡ Some x = slice_get-get_or (slot_blocks l) c.0 x c.1 ∙ ap Some c.2 in
          let above : number_in l x j ≢ 0 = subst (λ (n : ℕ). n ≢ 0) is.number (some i e) in
          into_flat (numbers_of l) ts c.0 i (some_stands c.0 ts (let all = each c.0 in omega (arith, all, c.1))) (subst (Contains (numbers_of l c.0)) (sym is.number) (number_there l c.0 j x there is.within above))

  -- in the blocks of slots of all tickets each number that has a slot stands once
  pub each_once : (i a : ℕ) → slot_of l i ≡ Some a → times i (numbers_in l (range_with_len 0 (ticket_count l))) ≡ 1
  each_once i a e =
      let ts = range_with_len 0 (ticket_count l) in
      let most = once ts (all_times (ticket_count l)) i in
      let some = stands_some i (numbers_in l ts) (stands ts (all_times (ticket_count l)) i a e) in
      omega (arith, most, some)
