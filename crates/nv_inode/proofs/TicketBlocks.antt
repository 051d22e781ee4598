-- The block of slots at a ticket.
use Rattle.std.proofs.Common.{◌≡◌, ◌≤◌, ◌<◌, ◌+◌, ◌-◌, ◌*◌, ℕ, zero, suc, List, [], ◌∷◌, ◌++◌, length, length-append, drop, get_or, map, Some, refl, sym, ap, ◌∙◌, arith}
use Rattle.std.specs.Prelude.{slice_get, unwrap_or}
use Rattle.std.specs.List.{range_with_len}
use Rattle.std.specs.Global.{Vec}
use Rattle.std.proofs.lemmas.Map.Steps.{length-le_from_distinct_below}
use Rattle.nv_inode.specs.Chains.{IsLaid}
use Rattle.nv_inode.specs.Tables.{lists_of}
use Rattle.nv_inode.proofs.LayoutWords.{found_at}
use Rattle.std.proofs.lemmas.List.FromFn.{length-map-range_with_len}
use Rattle.nv_super.specs.declared.superblock.Super.{Super}
use Rattle.nv_super.specs.Layout.{Layout, chain_of}
use Rattle.nv_inode.specs.SlotBlocks.{fixed_block, extra_block, chain_blocks, extra_blocks, slot_blocks}

get_left : {A : Type 0} (xs ys : List A) (k : ℕ) → k < length xs → slice_get (xs ++ ys) k ≡ slice_get xs k
get_left [] ys k less = absurd (omega (arith, less))
get_left (x ∷ xs) ys zero less = refl
get_left (x ∷ xs) ys (suc k) less = get_left xs ys k (omega (arith, less))

get_right : {A : Type 0} (xs ys : List A) (k j : ℕ) → k ≡ length xs + j → slice_get (xs ++ ys) k ≡ slice_get ys j
get_right [] ys k j is = ap (slice_get ys) (omega (arith, is))
get_right (x ∷ xs) ys zero j is = absurd (omega (arith, is))
get_right (x ∷ xs) ys (suc k) j is = get_right xs ys k j (omega (arith, is))

pub range_at : {A : Type 0} (f : ℕ → A) (a n k : ℕ) → k < n → slice_get (map f (range_with_len a n)) k ≡ Some (f (a + k))
range_at f a zero k less = absurd (omega (arith, less))
range_at f a (suc n) zero less = let same : a ≡ a + 0 = omega arith in ap (λ (i : ℕ). Some (f i)) same
range_at f a (suc n) (suc k) less = range_at f (a + 1) n k (omega (arith, less)) ∙ (let same : a + 1 + k ≡ a + suc k = omega arith in ap (λ (i : ℕ). Some (f i)) same)

-- ---- by the number of the ticket

module _ (l : Layout) (t : ℕ) where
  abbrev fixed : ℕ
  fixed = l.sup.cpus * l.sup.table_blocks

  long : length (map (fixed_block l.sup) (range_with_len 0 fixed)) ≡ fixed
  long = length-map-range_with_len (fixed_block l.sup) 0 fixed

  pub fixed_at : t < l.sup.cpus * l.sup.table_blocks → slice_get (slot_blocks l) t ≡ Some (fixed_block l.sup t)
  fixed_at less = get_left (map (fixed_block l.sup) (range_with_len 0 fixed)) (extra_blocks l.sup 0 l.chains) t (let e = long in omega (arith, e, less)) ∙ range_at (fixed_block l.sup) 0 fixed t less ∙ (let same : 0 + t ≡ t = omega arith in ap (λ (i : ℕ). Some (fixed_block l.sup i)) same)

  pub extra_at : l.sup.cpus * l.sup.table_blocks ≤ t → slice_get (slot_blocks l) t ≡ slice_get (extra_blocks l.sup 0 l.chains) (t - l.sup.cpus * l.sup.table_blocks)
  extra_at more = get_right (map (fixed_block l.sup) (range_with_len 0 fixed)) (extra_blocks l.sup 0 l.chains) t (t - fixed) (let e = long in omega (arith, e, more))

  pub extra_less : l.sup.cpus * l.sup.table_blocks ≤ t → t < length (slot_blocks l) → t - l.sup.cpus * l.sup.table_blocks < length (extra_blocks l.sup 0 l.chains)
  extra_less more less = let e = long in let all = length-append (map (fixed_block l.sup) (range_with_len 0 fixed)) (extra_blocks l.sup 0 l.chains) in omega (arith, e, all, more, less)

  -- all of them, and those of the chains
  pub all_long : length (slot_blocks l) ≡ l.sup.cpus * l.sup.table_blocks + length (extra_blocks l.sup 0 l.chains)
  all_long = let e = long in let all = length-append (map (fixed_block l.sup) (range_with_len 0 fixed)) (extra_blocks l.sup 0 l.chains) in omega (arith, e, all)

-- ---- chain after chain

chain_long : (s : Super) (c from : ℕ) (blocks : List ℕ) → length (chain_blocks s c from blocks) ≡ length blocks
chain_long s c from [] = refl
chain_long s c from (b ∷ blocks) = ap suc (chain_long s c (from + 1) blocks)

chain_at : (s : Super) (c from : ℕ) (blocks : List ℕ) (k : ℕ) → k < length blocks → slice_get (chain_blocks s c from blocks) k ≡ Some (extra_block s c (from + k) (get_or blocks k 0))
chain_at s c from [] k less = absurd (omega (arith, less))
chain_at s c from (b ∷ blocks) zero less = let same : from ≡ from + 0 = omega arith in ap (λ (i : ℕ). Some (extra_block s c i b)) same
chain_at s c from (b ∷ blocks) (suc k) less = chain_at s c (from + 1) blocks k (omega (arith, less)) ∙ (let same : from + 1 + k ≡ from + suc k = omega arith in ap (λ (i : ℕ). Some (extra_block s c i (get_or blocks k 0))) same)

module _ (s : Super) (cpu left : ℕ) (chain : List ℕ) (rest : List (List ℕ)) where
  pub in_chain : left < length chain → slice_get (extra_blocks s cpu (chain ∷ rest)) left ≡ Some (extra_block s cpu left (get_or chain left 0))
  in_chain less = get_left (chain_blocks s cpu 0 chain) (extra_blocks s (cpu + 1) rest) left (let e = chain_long s cpu 0 chain in omega (arith, e, less)) ∙ chain_at s cpu 0 chain left less ∙ (let same : 0 + left ≡ left = omega arith in ap (λ (i : ℕ). Some (extra_block s cpu i (get_or chain left 0))) same)

  pub behind_chain : length chain ≤ left → slice_get (extra_blocks s cpu (chain ∷ rest)) left ≡ slice_get (extra_blocks s (cpu + 1) rest) (left - length chain)
  behind_chain more = get_right (chain_blocks s cpu 0 chain) (extra_blocks s (cpu + 1) rest) left (left - length chain) (let e = chain_long s cpu 0 chain in omega (arith, e, more))

  pub behind_less : length chain ≤ left → left < length (extra_blocks s cpu (chain ∷ rest)) → left - length chain < length (extra_blocks s (cpu + 1) rest)
  behind_less more less = let e = chain_long s cpu 0 chain in let all = length-append (chain_blocks s cpu 0 chain) (extra_blocks s (cpu + 1) rest) in omega (arith, e, all, more, less)

  pub chain_counts : length (extra_blocks s cpu (chain ∷ rest)) ≡ length chain + length (extra_blocks s (cpu + 1) rest)
  chain_counts = let e = chain_long s cpu 0 chain in let all = length-append (chain_blocks s cpu 0 chain) (extra_blocks s (cpu + 1) rest) in omega (arith, e, all)

-- where none is left there is no block
pub none_left : (s : Super) (cpu left : ℕ) (rest : List (List ℕ)) → rest ≡ [] → left < length (extra_blocks s cpu rest) → ⊥
none_left s cpu left rest none less = let e = ap (λ (xs : List (List ℕ)). length (extra_blocks s cpu xs)) none in omega (arith, e, less)

-- ---- a chain among those that a `Tables` keeps

pub drop_none : {A : Type 0} (xs : List A) (n : ℕ) → length xs ≤ n → drop n xs ≡ []
drop_none [] zero past = refl
drop_none [] (suc n) past = refl
drop_none (x ∷ xs) zero past = absurd (omega (arith, past))
drop_none (x ∷ xs) (suc n) past = drop_none xs n (omega (arith, past))

pub lists_long : (chains : List (Vec ℕ)) → length (lists_of chains) ≡ length chains
lists_long [] = refl
lists_long (x ∷ chains) = ap suc (lists_long chains)

pub split_at : (chains : List (Vec ℕ)) (cpu : ℕ) (v : Vec ℕ) → v ≡ get_or chains cpu v → cpu < length chains → drop cpu (lists_of chains) ≡ v.items ∷ drop (cpu + 1) (lists_of chains)
split_at [] cpu v is below = absurd (omega (arith, below))
split_at (x ∷ chains) zero v is below = ap (λ (w : Vec ℕ). w.items ∷ lists_of chains) (sym is)
split_at (x ∷ chains) (suc cpu) v is below =
    split_at chains cpu v is (omega (arith, below)) ∙ ap (λ (n : ℕ). v.items ∷ drop n (x.items ∷ lists_of chains)) (let more : suc (cpu + 1) ≡ suc cpu + 1 = omega arith in more)

pub found_chain : (chains : List (Vec ℕ)) (cpu : ℕ) (v : Vec ℕ) → v ≡ get_or chains cpu v → cpu < length chains → unwrap_or (slice_get (lists_of chains) cpu) [] ≡ v.items
found_chain [] cpu v is below = absurd (omega (arith, below))
found_chain (x ∷ chains) zero v is below = ap (λ (w : Vec ℕ). w.items) (sym is)
found_chain (x ∷ chains) (suc cpu) v is below = found_chain chains cpu v is (omega (arith, below))

get_at : (xs : List ℕ) (k b : ℕ) → k < length xs → b ≡ get_or xs k b → slice_get xs k ≡ Some b
get_at [] k b less is = absurd (omega (arith, less))
get_at (x ∷ xs) zero b less is = ap Some (sym is)
get_at (x ∷ xs) (suc k) b less is = get_at xs k b (omega (arith, less)) is

module _ (l : Layout) (laid_so : IsLaid l) (cpu : ℕ) where
  pub chain_small : length (chain_of l cpu) ≤ l.sup.blocks
  chain_small = length-le_from_distinct_below (chain_of l cpu) l.sup.blocks (laid_so.once cpu) (λ q h. (let at = found_at (chain_of l cpu) q h in (laid_so.inside cpu at.0 q at.1).1))

  -- a place of a chain, and the block there, have small numbers
  pub place_small : (chain : List ℕ) (k : ℕ) → chain_of l cpu ≡ chain → k < length chain → k < 262144
  place_small chain k are less = let long : length (chain_of l cpu) ≡ length chain = ap length are in let few = chain_small in let most = laid_so.layout.areas.blocks_to in omega (arith, long, few, most, less)

  pub block_small : (chain : List ℕ) (k b : ℕ) → chain_of l cpu ≡ chain → k < length chain → b ≡ get_or chain k b → b < 262144
  block_small chain k b are less is = let inside = laid_so.inside cpu k b (ap (λ (xs : List ℕ). slice_get xs k) are ∙ get_at chain k b less is) in let most = laid_so.layout.areas.blocks_to in omega (arith, inside.1, most)

pub default_any : (xs : List ℕ) (k b : ℕ) → k < length xs → b ≡ get_or xs k b → get_or xs k 0 ≡ b
default_any [] k b less is = absurd (omega (arith, less))
default_any (x ∷ xs) zero b less is = sym is
default_any (x ∷ xs) (suc k) b less is = default_any xs k b (omega (arith, less)) is
