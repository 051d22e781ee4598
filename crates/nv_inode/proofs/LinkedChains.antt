-- The chains of a region to which a block was linked, and of one in which words of the block changed.
use Rattle.std.proofs.Common.{◌≡◌, ◌≢◌, ◌⊎◌, inl, inr, ◌≤◌, ◌<◌, ◌+◌, ◌*◌, ◌%◌, ◌||◌, ℕ, zero, suc, Bool, true, false, eqb, List, [], ◌∷◌, ◌++◌, map, set, Option, Some, refl, sym, ap, ◌∙◌, arith, true≢false, eq-eqb}
use Rattle.std.proofs.lemmas.Bool.{cases_lt}
use Rattle.std.specs.List.{AllByRecursion}
use Rattle.std.specs.Prelude.{slice_get, unwrap_or}
use Rattle.std.specs.List.{list_any, range_with_len, IsDistinct}
use Rattle.nv_region.specs.Region.{Region, word}
use Rattle.nv_region.specs.Stops.{IsMixed}
use Rattle.nv_region.specs.Stored.{Within}
use Rattle.nv_super.specs.declared.superblock.Super.{Super}
use Rattle.nv_super.specs.Layout.{chain_of}
use Rattle.nv_inode.specs.Chains.{chain_in, chains_in, first_link, layout_of, link_behind, SameLinks}
use Rattle.nv_inode.specs.Growing.{CanLink, IsLinked, with_block}
use Rattle.nv_inode.proofs.ReadChains.{SameBehind, chain_alike, chains_alike, chain_once}
use Rattle.nv_inode.proofs.GrownChains.{chain_grown}
use Rattle.nv_inode.proofs.LinkedBlocks.{away_stays}

-- ---- the links of a chain but for the last one

-- the last link of a chain with blocks is the first word of one of them
last_among : (at b : ℕ) (blocks : List ℕ) → (c : ℕ) × (link_behind at (b ∷ blocks) ≡ 4096 * c) × (list_any (eqb c) (b ∷ blocks) ≡ true)
last_among at b [] = (b, refl, ap (λ (t : Bool). t || false) (eq-eqb b b refl))
last_among at b (d ∷ blocks) = let more = last_among (4096 * b) d blocks in (more.0, more.1, or_true (eqb more.0 b) (list_any (eqb more.0) (d ∷ blocks)) more.2)
  where
    or_true : (x y : Bool) → y ≡ true → (x || y) ≡ true
    or_true true y on = refl
    or_true false y on = on

-- of a block that stands once in a chain, its word isn't the last link
not_last : (at b : ℕ) (blocks : List ℕ) → (c : ℕ) × (link_behind at (b ∷ blocks) ≡ 4096 * c) × (list_any (eqb c) (b ∷ blocks) ≡ true) → (a : ℕ) → list_any (eqb a) (b ∷ blocks) ≡ false → 4096 * a ≢ link_behind at (b ∷ blocks)
not_last at b blocks (c, is, among) a apart same = true≢false (sym among ∙ ap (λ (x : ℕ). list_any (eqb x) (b ∷ blocks)) (let e : c ≡ a = omega (arith, is, same) in e) ∙ apart)

-- a value that differs from each element isn't among them
apart_any : (b : ℕ) (xs : List ℕ) → AllByRecursion (λ (y : ℕ). eqb b y ≡ false) xs → list_any (eqb b) xs ≡ false
apart_any b [] apart = refl
apart_any b (x ∷ xs) apart = ap (λ (t : Bool). t || list_any (eqb b) xs) apart.0 ∙ apart_any b xs apart.1

-- the first word of each of these blocks stays unless it is the last link
abbrev Stay : Region → Region → ℕ → List ℕ → Type 0
Stay R Q link [] = Unit {0}
Stay R Q link (b ∷ blocks) = (4096 * b ≢ link → word Q (4096 * b) ≡ word R (4096 * b)) × Stay R Q link blocks

module _ (R Q : Region) (link : ℕ) where
  same_rest : (b : ℕ) (blocks : List ℕ) → Stay R Q link (b ∷ blocks) → IsDistinct eqb (b ∷ blocks) → link ≡ link_behind (4096 * b) blocks → SameLinks R Q (4096 * b) blocks
  unfolding IsDistinct
  same_rest b [] stay once is = tt
  same_rest b (d ∷ blocks) stay once is =
      (stay.0 (λ same. not_last (4096 * b) d blocks (last_among (4096 * b) d blocks) b (apart_any b (d ∷ blocks) once.0) (same ∙ is)), same_rest d blocks stay.1 once.1 is)

  same_links : (at : ℕ) (blocks : List ℕ) → Stay R Q link blocks → IsDistinct eqb blocks → at % 4096 ≢ 0 → (at ≢ link → word Q at ≡ word R at) → link ≡ link_behind at blocks → SameLinks R Q at blocks
  same_links at [] stay once odd first is = tt
  same_links at (b ∷ blocks) stay once odd first is = (first (λ same. odd (whole (last_among at b blocks) same)), same_rest b blocks stay once is)
    where
      whole : (c : ℕ) × (link_behind at (b ∷ blocks) ≡ 4096 * c) × (list_any (eqb c) (b ∷ blocks) ≡ true) → at ≡ link → at % 4096 ≡ 0
      whole (c, last, among) same = omega (arith, same, is, last)

first_other : (cpu c : ℕ) (blocks : List ℕ) → c ≢ cpu → first_link c ≢ link_behind (first_link cpu) blocks
first_other cpu c [] differs same = differs (omega (arith, same))
first_other cpu c (b ∷ blocks) differs same = by (last_among (first_link cpu) b blocks)
  where
    by : (x : ℕ) × (link_behind (first_link cpu) (b ∷ blocks) ≡ 4096 * x) × (list_any (eqb x) (b ∷ blocks) ≡ true) → ⊥
    by (x, last, among) = omega (arith, same, last)

-- ---- rows of chains of which one differs

range_at : {A : Type 0} (f : ℕ → A) (a n k : ℕ) → k < n → slice_get (map f (range_with_len a n)) k ≡ Some (f (a + k))
range_at f a zero k less = absurd (omega (arith, less))
range_at f a (suc n) zero less = let same : a ≡ a + 0 = omega arith in ap (λ (i : ℕ). Some (f i)) same
range_at f a (suc n) (suc k) less = range_at f (a + 1) n k (omega (arith, less)) ∙ (let same : a + 1 + k ≡ a + suc k = omega arith in ap (λ (i : ℕ). Some (f i)) same)

rows_same : {A : Type 0} (f g : ℕ → A) (a n : ℕ) → ((k : ℕ) → a ≤ k → k < a + n → g k ≡ f k) → map g (range_with_len a n) ≡ map f (range_with_len a n)
rows_same f g a zero each = refl
rows_same f g a (suc n) each = let here = each a (omega arith) (omega arith) in let rest = rows_same f g (a + 1) n (λ k low high. each k (omega (arith, low)) (omega (arith, high))) in λ i. here i ∷ rest i

pub one_set : {A : Type 0} (f g : ℕ → A) (a n c : ℕ) → c < n → ((k : ℕ) → a ≤ k → k < a + n → k ≢ a + c → g k ≡ f k) → map g (range_with_len a n) ≡ set (map f (range_with_len a n)) c (g (a + c))
one_set f g a zero c less each = absurd (omega (arith, less))
one_set f g a (suc n) zero less each =
    let here : g a ≡ g (a + 0) = ap g (let e : a ≡ a + 0 = omega arith in e) in
    let rest = rows_same f g (a + 1) n (λ k low high. each k (omega (arith, low)) (omega (arith, high)) (λ same. omega (arith, same, low))) in
    λ i. here i ∷ rest i
one_set {A = A} f g a (suc n) (suc c) less each =
    let here = each a (omega arith) (omega arith) (λ same. omega (arith, same)) in
    let next : g (a + 1 + c) ≡ g (a + suc c) = ap g (let e : a + 1 + c ≡ a + suc c = omega arith in e) in
    let rest = one_set f g (a + 1) n c (omega (arith, less)) (λ k low high differs. each k (omega (arith, low)) (omega (arith, high)) (λ same. differs (omega (arith, same)))) in
    (λ i. here i ∷ rest i) ∙ ap (λ (x : A). f a ∷ set (map f (range_with_len (a + 1) n)) c x) next

-- ---- a block that was linked

module _ (s : Super) (R Q : Region) (cpu block : ℕ) (can : CanLink s R cpu block) where
  abbrev link : ℕ
  link = link_behind (first_link cpu) (chain_in s R cpu)

  module _ (is : IsLinked R link block Q) where
    block_away : (b : ℕ) → b ≢ block → (4096 * b < 4096 * block) ⊎ (4096 * block + 4096 ≤ 4096 * b)
    block_away b differs = elim (cases_lt b block) [ inl low ↦ inl (omega (arith, low)) | inr high ↦ inr (omega (arith, high, differs)) ]

    word_stays : (b : ℕ) → b ≢ block → 4096 * b ≢ link → word Q (4096 * b) ≡ word R (4096 * b)
    word_stays b differs other = is.others (4096 * b) (omega arith) other (block_away b differs)

    first_stays : (c : ℕ) → c < s.cpus → first_link c ≢ link → word Q (first_link c) ≡ word R (first_link c)
    first_stays c below other = is.others (first_link c) (omega arith) other (inl (let from = can.from in omega (arith, from, below)))

    -- the links of other CPUs' chains
    fresh_behind : (c : ℕ) → c < s.cpus → c ≢ cpu → (blocks : List ℕ) → ((b : ℕ) → list_any (eqb b) blocks ≡ true → (b ≢ block) × (4096 * b ≢ link)) → SameBehind R Q blocks
    fresh_behind c below differs [] each = tt
    fresh_behind c below differs (b ∷ blocks) each =
        let here = each b (or_left (eqb b b) (list_any (eqb b) blocks) (eq-eqb b b refl)) in
        (word_stays b here.0 here.1, fresh_behind c below differs blocks (λ x among. each x (or_right (eqb x b) (list_any (eqb x) blocks) among)))
      where
        or_left : (x y : Bool) → x ≡ true → (x || y) ≡ true
        or_left true y on = refl
        or_left false y on = absurd (true≢false (sym on))

        or_right : (x y : Bool) → y ≡ true → (x || y) ≡ true
        or_right true y on = refl
        or_right false y on = on

    other_chain : (c : ℕ) → c < s.cpus → c ≢ cpu → chain_in s Q c ≡ chain_in s R c
    other_chain c below differs =
        chain_alike s R Q c (first_stays c below (first_other cpu c (chain_in s R cpu) differs))
        (fresh_behind c below differs (chain_in s R c) (λ b among. (
          (λ same. true≢false (sym among ∙ ap (λ (x : ℕ). list_any (eqb x) (chain_in s R c)) same ∙ can.fresh c below)),
          (λ same. can.alone c b below differs among (sym same)),
        )))

    stay_all : (blocks : List ℕ) → list_any (eqb block) blocks ≡ false → Stay R Q link blocks
    stay_all [] fresh = tt
    stay_all (b ∷ blocks) fresh = let two = both_false (eqb block b) (list_any (eqb block) blocks) fresh in
        ((λ other. word_stays b (λ same. true≢false (sym (eq-eqb block b (sym same)) ∙ two.0)) other), stay_all blocks two.1)
      where
        both_false : (x y : Bool) → (x || y) ≡ false → (x ≡ false) × (y ≡ false)
        both_false false y off = (refl, off)
        both_false true y off = absurd (true≢false off)

    own_chain : chain_in s Q cpu ≡ chain_in s R cpu ++ block ∷ []
    own_chain =
        chain_grown s R Q cpu block can.version
        (same_links R Q link (first_link cpu) (chain_in s R cpu) (stay_all (chain_in s R cpu) (can.fresh cpu can.below)) (chain_once s R cpu) (λ even. omega (arith, even)) (λ other. first_stays cpu can.below other) refl)
        is.leads (ap (word Q) (let e : 4096 * block ≡ 4096 * block + 128 * 0 = omega arith in e) ∙ is.blank 0 (omega arith)) can.from can.to (can.fresh cpu can.below)

    old_chain : chain_of (layout_of s R) cpu ≡ chain_in s R cpu
    old_chain = ap (λ (found : Option (List ℕ)). unwrap_or found []) (range_at (chain_in s R) 0 s.cpus cpu can.below) ∙ ap (chain_in s R) (let e : 0 + cpu ≡ cpu = omega arith in e)

    pub linked_layout : layout_of s Q ≡ with_block (layout_of s R) cpu block
    linked_layout = ap (λ (xs : List (List ℕ)). record { sup = s; chains = xs })
        (one_set (chain_in s R) (chain_in s Q) 0 s.cpus cpu can.below (λ k low high differs. other_chain k (omega (arith, high)) (λ same. differs (omega (arith, same))))
        ∙ ap (λ (xs : List ℕ). set (chains_in s R) cpu xs)
        (ap (chain_in s Q) (let e : 0 + cpu ≡ cpu = omega arith in e) ∙ own_chain ∙ ap (λ (xs : List ℕ). xs ++ block ∷ []) (sym old_chain)))

  -- ---- words of the block alone

  module _ (mixed : IsMixed R (Within (4096 * block) 4096) Q) where
    behind_stays : (c : ℕ) → (blocks : List ℕ) → list_any (eqb block) blocks ≡ false → SameBehind R Q blocks
    behind_stays c [] fresh = tt
    behind_stays c (b ∷ blocks) fresh = let two = both_false (eqb block b) (list_any (eqb block) blocks) fresh in
        (away_stays R Q block mixed (4096 * b) (omega arith) (apart (cases_lt b block) (λ same. true≢false (sym (eq-eqb block b (sym same)) ∙ two.0))), behind_stays c blocks two.1)
      where
        both_false : (x y : Bool) → (x || y) ≡ false → (x ≡ false) × (y ≡ false)
        both_false false y off = (refl, off)
        both_false true y off = absurd (true≢false off)

        apart : (b < block) ⊎ (block ≤ b) → b ≢ block → (4096 * b < 4096 * block) ⊎ (4096 * block + 4096 ≤ 4096 * b)
        apart (inl low) differs = inl (omega (arith, low))
        apart (inr high) differs = inr (omega (arith, high, differs))

    pub cleared_layout : layout_of s Q ≡ layout_of s R
    cleared_layout = ap (λ (xs : List (List ℕ)). record { sup = s; chains = xs })
        (chains_alike s R Q (λ c below. away_stays R Q block mixed (first_link c) (omega arith) (inl (let from = can.from in omega (arith, from, below)))) (λ c below. behind_stays c (chain_in s R c) (can.fresh c below)))
