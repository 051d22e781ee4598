-- A number that has a slot is one that a name can say.
use Rattle.std.proofs.Common.{◌≡◌, ◌≤◌, ◌<◌, ◌+◌, ◌-◌, ◌*◌, ◌/◌, ◌%◌, ◌||◌, ℕ, zero, suc, Bool, true, false, true≢false, eqb, eqb-true, eq-eqb, ne_eqb, IsTrue, List, [], ◌∷◌, length, map, Some, refl, sym, ap, ◌∙◌, subst, arith}
use Rattle.std.specs.List.{list_any, AllByRecursion, IsDistinct}
use Rattle.std.proofs.Math.Nat.{zero-div}
use Rattle.std.proofs.lemmas.Nat.{div-add-mod', mod_below, mul-add-lt}
use Rattle.std.proofs.lemmas.List.{length-map}
use Rattle.std.proofs.lemmas.Option.{slice_get_within}
use Rattle.std.proofs.lemmas.Map.Steps.{length-le_from_distinct_below}
use Rattle.nv_super.specs.declared.superblock.Super.{Super}
use Rattle.nv_super.specs.Layout.{Layout, chain_of, is_name_number, is_number, slot_of, system_blocks}
use Rattle.nv_super.proofs.Names.{fixed_most, fixed_names, in_limit, limit_chains, number_below, number_parts}
use Rattle.nv_inode.specs.Chains.{IsLaid}
use Rattle.nv_inode.specs.Upgraded.{upgraded}
use Rattle.nv_inode.proofs.LayoutWords.{IsSlot, in_table, in_block, chain_version_at, found_at, number_of, slot_is}

-- ---- a chain has no more blocks than there are data blocks

abbrev lowered : ℕ → List ℕ → List ℕ
lowered low xs = map (λ (x : ℕ). x - low) xs

there : (a b : Bool) → b ≡ true → (a || b) ≡ true
there true b on = refl
there false b on = on

here : (x : ℕ) (xs : List ℕ) → list_any (eqb x) (x ∷ xs) ≡ true
here x xs = ap (λ (t : Bool). t || list_any (eqb x) xs) (eq-eqb x x refl)

differ : (x y : ℕ) → eqb x y ≡ false → x ≡ y → ⊥
differ x y off same = true≢false (sym (eq-eqb x y same) ∙ off)

-- a number of the lowered list is one of the list
lowered_any : (xs : List ℕ) (low q : ℕ) → ((x : ℕ) → list_any (eqb x) xs ≡ true → low ≤ x) → list_any (eqb q) (lowered low xs) ≡ true → list_any (eqb (q + low)) xs ≡ true
lowered_any [] low q from h = h
lowered_any (x ∷ xs) low q from h = by (eqb q (x - low)) refl (lowered_any xs low q (λ y on. from y (there (eqb y x) (list_any (eqb y) xs) on))) h
  where
    first : low ≤ x
    first = from x (here x xs)

    by : (t : Bool) → eqb q (x - low) ≡ t → (list_any (eqb q) (lowered low xs) ≡ true → list_any (eqb (q + low)) xs ≡ true) → (t || list_any (eqb q) (lowered low xs)) ≡ true → (eqb (q + low) x || list_any (eqb (q + low)) xs) ≡ true
    by true is later h = ap (λ (t : Bool). t || list_any (eqb (q + low)) xs) (eq-eqb (q + low) x (let e = eqb-true q (x - low) is in let f = first in omega (arith, e, f)))
    by false differs later h = there (eqb (q + low) x) (list_any (eqb (q + low)) xs) (later h)

lowered_apart : (x low : ℕ) (xs : List ℕ) → low ≤ x → ((y : ℕ) → list_any (eqb y) xs ≡ true → low ≤ y) → AllByRecursion (λ (y : ℕ). eqb x y ≡ false) xs → AllByRecursion (λ (y : ℕ). eqb (x - low) y ≡ false) (lowered low xs)
lowered_apart x low [] above from apart = tt
lowered_apart x low (y ∷ ys) above from apart = (
  ne_eqb (x - low) (y - low) (λ same. (let high = from y (here y ys) in let equal : x ≡ y = omega (arith, same, above, high) in differ x y apart.0 equal)),
  lowered_apart x low ys above (λ z on. from z (there (eqb z y) (list_any (eqb z) ys) on)) apart.1,
)

lowered_once : (xs : List ℕ) (low : ℕ) → ((x : ℕ) → list_any (eqb x) xs ≡ true → low ≤ x) → IsDistinct eqb xs → IsDistinct eqb (lowered low xs)
unfolding IsDistinct
lowered_once [] low from once = tt
lowered_once (x ∷ xs) low from once = (lowered_apart x low xs (from x (here x xs)) (λ z on. from z (there (eqb z x) (list_any (eqb z) xs) on)) once.0, lowered_once xs low (λ z on. from z (there (eqb z x) (list_any (eqb z) xs) on)) once.1)

module _ (l : Layout) (laid : IsLaid l) (c : ℕ) where
  data_from : (q : ℕ) → list_any (eqb q) (chain_of l c) ≡ true → (system_blocks l.sup ≤ q) × (q < l.sup.blocks)
  data_from q on = let at = found_at (chain_of l c) q on in laid.inside c at.0 q at.1

  -- so it has no more blocks than there are data blocks
  chain_few : length (chain_of l c) ≤ l.sup.blocks - system_blocks l.sup
  chain_few =
      let low = system_blocks l.sup in
      let few = length-le_from_distinct_below (lowered low (chain_of l c)) (l.sup.blocks - low) (lowered_once (chain_of l c) low (λ q on. (data_from q on).0) (laid.once c))
      (λ q on. (let inside = data_from (q + low) (lowered_any (chain_of l c) low q (λ x at. (data_from x at).0) on) in let below = inside.1 in omega (arith, below))) in
      let long = length-map (chain_of l c) (λ (x : ℕ). x - low) in
      omega (arith, few, long)

-- ---- the numbers

behind_limit : (s : Super) (i k j count : ℕ) → 0 < s.cpus → i / s.cpus ≡ 32 * s.table_blocks + 31 * k + j → j < 31 → k < count → count ≤ s.blocks - system_blocks s → i < s.cpus * (32 * s.table_blocks + 31 * (s.blocks - system_blocks s))
behind_limit s i k j count some place few less most =
    let whole = div-add-mod' i s.cpus in
    let part = mod_below i s.cpus some in
    let row = mul-add-lt (i / s.cpus) s.cpus (i % s.cpus) (32 * s.table_blocks + 31 * (s.blocks - system_blocks s)) (omega (arith, place, few, less, most)) part in
    let turned : (32 * s.table_blocks + 31 * (s.blocks - system_blocks s)) * s.cpus ≡ s.cpus * (32 * s.table_blocks + 31 * (s.blocks - system_blocks s)) = grind arith in
    omega (arith, whole, row, turned)

pub slot_named : (l : Layout) (i a : ℕ) → IsLaid l → slot_of l i ≡ Some a → IsTrue (is_name_number l.sup i)
slot_named l i a laid at = by (slot_is l i a at)
  where
    some : 0 < l.sup.cpus
    some = let from = laid.layout.cpus_from in omega (arith, from)

    by : IsSlot l i a → IsTrue (is_name_number l.sup i)
    by (in_table positive low is) = in_limit l.sup i (omega (arith, positive)) (number_of l.sup.cpus l.sup.table_blocks i some low)
    by (in_block b j k few place has is) =
        let within = slice_get_within (chain_of l (i % l.sup.cpus)) k b has in
        let most = chain_few l laid (i % l.sup.cpus) in
        let two = chain_version_at l laid (i % l.sup.cpus) k b has in
        number_below l.sup i _ (positive i l.sup.cpus (let tables = laid.layout.tables_from in omega (arith, place, tables))) (behind_limit l.sup i k j (length (chain_of l (i % l.sup.cpus))) some place few within most) (limit_chains l.sup two)
      where
        positive : (n d : ℕ) → 0 < n / d → 0 < n
        positive zero d h = absurd (let none : zero / d ≡ 0 = zero-div d in omega (arith, h, none))
        positive (suc n) d h = omega arith

-- the numbers stay so where the version becomes 2
pub grown_names : (s : Super) (i : ℕ) → s.version ≡ 1 → IsTrue (is_name_number s i) → IsTrue (is_name_number (upgraded s) i)
grown_names s i one named =
    let number : IsTrue (is_number s i) = subst (λ (b : Bool). IsTrue b) (fixed_names s i one) named in
    let parts = number_parts s i number in
    number_below (upgraded s) i _ parts.0 (fixed_most s i parts.1) (limit_chains (upgraded s) refl)
