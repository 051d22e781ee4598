-- Each number is that of a slot in one block of slots alone.
use Rattle.std.proofs.Common.{◌≡◌, inl, inr, ◌≤◌, ◌<◌, ◌+◌, ◌-◌, ◌*◌, ◌/◌, ◌%◌, ℕ, zero, suc, List, [], ◌∷◌, length, get_or, Option, Some, refl, sym, ap, ◌∙◌, subst, arith}
use Rattle.std.proofs.lemmas.Bool.{cases_lt}
use Rattle.std.specs.Prelude.{slice_get}
use Rattle.std.proofs.lemmas.Nat.{div_below, mod_below, div-add-mod', div-mul-add, mod-mul-add}
use Rattle.nv_super.specs.declared.superblock.Super.{Super}
use Rattle.nv_super.specs.Layout.{Layout}
use Rattle.nv_inode.specs.declared.blocks.SlotBlock.{SlotBlock}
use Rattle.nv_inode.specs.Chains.{IsLaid}
use Rattle.nv_inode.specs.SlotBlocks.{fixed_block, extra_block, extra_blocks, slot_blocks, IsIn}
use Rattle.nv_inode.proofs.TicketBlocks.{fixed_at, extra_at, in_chain, behind_chain}

-- the place of a chain's block among those of all chains
abbrev place_of : List (List ℕ) → ℕ → ℕ → ℕ
place_of [] c k = k
place_of (chain ∷ rest) zero k = k
place_of (chain ∷ rest) (suc c) k = length chain + place_of rest c k

record IsExtra (s : Super) (from : ℕ) (chains : List (List ℕ)) (f : ℕ) (x : SlotBlock) : Type 0 where
  c : ℕ
  k : ℕ
  b : ℕ
  below : c < length chains
  is : x ≡ extra_block s (from + c) k b
  place : f ≡ place_of chains c k

some_same : {A : Type 0} (found : Option A) (x y : A) → found ≡ Some x → found ≡ Some y → x ≡ y
some_same found x y a b = let e : Some x ≡ Some y = sym a ∙ b in cc

extra_is : (s : Super) (from : ℕ) (chains : List (List ℕ)) (f : ℕ) (x : SlotBlock) → slice_get (extra_blocks s from chains) f ≡ Some x → IsExtra s from chains f x
extra_is s from [] f x e = absurd (cc)
extra_is s from (chain ∷ rest) f x e = elim (cases_lt f (length chain)) [
  | inl here ↦ record {
    c = 0;
    k = f;
    b = get_or chain f 0;
    below = omega arith;
    is = some_same (slice_get (extra_blocks s from (chain ∷ rest)) f) x (extra_block s from f (get_or chain f 0)) e (in_chain s from f chain rest here) ∙ ap (λ (n : ℕ). extra_block s n f (get_or chain f 0)) (let more : from ≡ from + 0 = omega arith in more);
    place = refl;
  }
  | inr past ↦ (
      let more = extra_is s (from + 1) rest (f - length chain) x (sym (behind_chain s from f chain rest past) ∙ e) in
      record {
        c = suc more.c;
        k = more.k;
        b = more.b;
        below = (let less = more.below in omega (arith, less));
        is = more.is ∙ ap (λ (n : ℕ). extra_block s n more.k more.b) (let same : from + 1 + more.c ≡ from + suc more.c = omega arith in same);
        place = (let rest_place = more.place in omega (arith, rest_place, past));
      })
]

-- what a number says of the ticket
data Says (l : Layout) (t i j : ℕ) : Type 0 where
  fixed : t < l.sup.cpus * l.sup.table_blocks → i / l.sup.cpus ≡ 32 * (t % l.sup.table_blocks) + j → i % l.sup.cpus ≡ t / l.sup.table_blocks → j < 32 → t % l.sup.table_blocks < l.sup.table_blocks → Says l t i j
  extra : (c k : ℕ) → l.sup.cpus * l.sup.table_blocks ≤ t → i / l.sup.cpus ≡ 32 * l.sup.table_blocks + 31 * k + j → i % l.sup.cpus ≡ c → j < 31 → t - l.sup.cpus * l.sup.table_blocks ≡ place_of l.chains c k → Says l t i j

row_number : (C T t j i : ℕ) → i ≡ 32 * (t % T) * C + t / T + j * C → i ≡ (32 * (t % T) + j) * C + t / T
row_number C T t j i is = omega (arith, is)

module _ (l : Layout) (laid : IsLaid l) (t i j : ℕ) (x : SlotBlock) (at : slice_get (slot_blocks l) t ≡ Some x) (has : IsIn l x j i) where
  fixed_says : t < l.sup.cpus * l.sup.table_blocks → Says l t i j
  fixed_says below =
      let block : x ≡ fixed_block l.sup t = some_same (slice_get (slot_blocks l) t) x (fixed_block l.sup t) at (fixed_at l t below) in
      let number : i ≡ (32 * (t % l.sup.table_blocks) + j) * l.sup.cpus + t / l.sup.table_blocks = row_number l.sup.cpus l.sup.table_blocks t j i (has.number ∙ ap (λ (y : SlotBlock). y.first + j * l.sup.cpus) block) in
      let tables : 0 < l.sup.table_blocks = (let from = laid.layout.tables_from in omega (arith, from)) in
      let cpu : t / l.sup.table_blocks < l.sup.cpus = div_below t l.sup.table_blocks l.sup.cpus tables below in
      fixed below
      (ap (λ (n : ℕ). n / l.sup.cpus) number ∙ div-mul-add (32 * (t % l.sup.table_blocks) + j) l.sup.cpus (t / l.sup.table_blocks) cpu)
      (ap (λ (n : ℕ). n % l.sup.cpus) number ∙ mod-mul-add (32 * (t % l.sup.table_blocks) + j) l.sup.cpus (t / l.sup.table_blocks) cpu)
      (subst (λ (n : ℕ). j < n) (ap (λ (y : SlotBlock). y.slots) block) has.within) (mod_below t l.sup.table_blocks tables)

  extra_says : l.sup.cpus * l.sup.table_blocks ≤ t → Says l t i j
  extra_says behind =
      let found = extra_is l.sup 0 l.chains (t - l.sup.cpus * l.sup.table_blocks) x (sym (extra_at l t behind) ∙ at) in
      let cpu : 0 + found.c < l.sup.cpus = (let less = found.below in let each = laid.each in omega (arith, less, each)) in
      let first : i ≡ (32 * l.sup.table_blocks + 31 * found.k) * l.sup.cpus + (0 + found.c) + j * l.sup.cpus = has.number ∙ ap (λ (y : SlotBlock). y.first + j * l.sup.cpus) found.is in
      let number : i ≡ (32 * l.sup.table_blocks + 31 * found.k + j) * l.sup.cpus + (0 + found.c) = omega (arith, first) in
      extra found.c found.k behind
      (ap (λ (n : ℕ). n / l.sup.cpus) number ∙ div-mul-add (32 * l.sup.table_blocks + 31 * found.k + j) l.sup.cpus (0 + found.c) cpu)
      (ap (λ (n : ℕ). n % l.sup.cpus) number ∙ mod-mul-add (32 * l.sup.table_blocks + 31 * found.k + j) l.sup.cpus (0 + found.c) cpu ∙ (let none : 0 + found.c ≡ found.c = omega arith in none))
      (subst (λ (n : ℕ). j < n) (ap (λ (y : SlotBlock). y.slots) found.is) has.within) found.place

  says : Says l t i j
  says = elim (cases_lt t (l.sup.cpus * l.sup.table_blocks)) [ inl below ↦ fixed_says below | inr behind ↦ extra_says behind ]

both_say : (l : Layout) (t u i j k : ℕ) → Says l t i j → Says l u i k → t ≡ u
both_say l t u i j k (fixed _ row cpu few low) (fixed _ other_row other_cpu other_few other_low) =
    let place : t % l.sup.table_blocks ≡ u % l.sup.table_blocks = (let rows = sym row ∙ other_row in omega (arith, rows, few, other_few)) in
    let table : t / l.sup.table_blocks * l.sup.table_blocks ≡ u / l.sup.table_blocks * l.sup.table_blocks = ap (λ (n : ℕ). n * l.sup.table_blocks) (sym cpu ∙ other_cpu) in
    sym (div-add-mod' t l.sup.table_blocks) ∙ (λ n. table n + place n) ∙ div-add-mod' u l.sup.table_blocks
both_say l t u i j k (fixed _ row cpu few low) (extra c at _ other_row other_cpu other_few place) = absurd (omega (arith, row, other_row, few, low))
both_say l t u i j k (extra c at _ row cpu few place) (fixed _ other_row other_cpu other_few low) = absurd (omega (arith, row, other_row, other_few, low))
both_say l t u i j k (extra c at behind row cpu few place) (extra d to other_behind other_row other_cpu other_few other_place) =
    let same_cpu : c ≡ d = sym cpu ∙ other_cpu in
    let same_at : at ≡ to = (let rows = sym row ∙ other_row in omega (arith, rows, few, other_few)) in
    let same : t - l.sup.cpus * l.sup.table_blocks ≡ u - l.sup.cpus * l.sup.table_blocks = place ∙ (λ n. place_of l.chains (same_cpu n) (same_at n)) ∙ sym other_place in
    omega (arith, same, behind, other_behind)

pub tickets_once : (l : Layout) (t u j k i : ℕ) (x y : SlotBlock) → IsLaid l → slice_get (slot_blocks l) t ≡ Some x → slice_get (slot_blocks l) u ≡ Some y → IsIn l x j i → IsIn l y k i → t ≡ u
tickets_once l t u j k i x y laid at to has also = both_say l t u i j k (says l laid t i j x at has) (says l laid u i k y to also)
