-- Regions with the same links have the same tables, to the ends of their chains.
use Rattle.std.proofs.Common.{◌≡◌, ℕ, zero, suc, ◌+◌, ◌*◌, ◌≤◌, ◌<◌, ◌==◌, if◌then◌else◌, List, [], ◌∷◌, refl, ap, sym, ◌∙◌, arith, Option, Some, None, slice_get}
use Rattle.std.specs.Prelude.{unwrap_or}
use Rattle.std.specs.List.{cons_option, filter_map, range_with_len}
use Rattle.nv_region.specs.Region.{Region, word}
use Rattle.nv_super.specs.declared.superblock.Super.{Super}
use Rattle.nv_super.specs.Layout.{Layout, chain_of}
use Rattle.nv_inode.specs.Chains.{chain_faults, chain_in, end_fault, fault_behind, first_link, layout_of, link_behind, link_fault}
use Rattle.nv_inode.proofs.ReadChains.{SameBehind as SameAt, chain_alike, chains_alike}
use Rattle.nv_inode.proofs.TicketBlocks.{range_at}

-- a CPU's chain, by the layout
chain_here : (s : Super) (R : Region) (cpu : ℕ) → cpu < s.cpus → chain_of (layout_of s R) cpu ≡ chain_in s R cpu
chain_here s R cpu below = ap (λ (o : Option (List ℕ)). unwrap_or o []) (range_at (chain_in s R) 0 s.cpus cpu below ∙ (let same : 0 + cpu ≡ cpu = omega arith in ap (λ (c : ℕ). Some (chain_in s R c)) same))

-- so it is by a layout that is the region's
pub chain_is : (R : Region) (l : Layout) → l ≡ layout_of l.sup R → (c : ℕ) → c < l.sup.cpus → chain_of l c ≡ chain_in l.sup R c
chain_is R l laid c below = ap (λ (m : Layout). chain_of m c) laid ∙ chain_here l.sup R c below

-- the links of these blocks, one by one
each_behind : (R S : Region) (blocks : List ℕ) → ((k b : ℕ) → slice_get blocks k ≡ Some b → word S (4096 * b) ≡ word R (4096 * b)) → SameAt R S blocks
each_behind R S [] each = tt
each_behind R S (b ∷ blocks) each = (each 0 b refl, each_behind R S blocks (λ k c has. each (suc k) c has))

-- the link behind them
last_link : (R S : Region) (at : ℕ) (blocks : List ℕ) → word S at ≡ word R at → SameAt R S blocks → word S (link_behind at blocks) ≡ word R (link_behind at blocks)
last_link R S at [] here behind = here
last_link R S at (b ∷ blocks) here behind = last_link R S (4096 * b) blocks behind.0 behind.1

module _ (R S : Region) (l : Layout) (laid : l ≡ layout_of l.sup R) (firsts : (c : ℕ) → c < l.sup.cpus → word S (first_link c) ≡ word R (first_link c)) (links : (c k b : ℕ) → slice_get (chain_of l c) k ≡ Some b → word S (4096 * b) ≡ word R (4096 * b)) where
  behind : (c : ℕ) → c < l.sup.cpus → SameAt R S (chain_in l.sup R c)
  behind c below = each_behind R S (chain_in l.sup R c) (λ k b has. links c k b (ap (λ (blocks : List ℕ). slice_get blocks k) (chain_is R l laid c below) ∙ has))

  pub same_tables : layout_of l.sup S ≡ layout_of l.sup R
  same_tables = ap (λ (chains : List (List ℕ)). record { sup = l.sup; chains = chains }) (chains_alike l.sup R S firsts behind)

  pub laid_there : l ≡ layout_of l.sup S
  laid_there = laid ∙ sym same_tables

  end_same : (c : ℕ) → c < l.sup.cpus → end_fault l.sup S c ≡ end_fault l.sup R c
  end_same c below =
      let at = link_behind (first_link c) (chain_in l.sup R c) in
      ap (λ (blocks : List ℕ). if l.sup.version == 2 then fault_behind l.sup S c blocks else None) (chain_alike l.sup R S c (firsts c below) (behind c below))
      ∙ ap (λ (link : ℕ). if l.sup.version == 2 then link_fault l.sup c at link else None) (last_link R S (first_link c) (chain_in l.sup R c) (firsts c below) (behind c below))

  ends_same : (from n : ℕ) → from + n ≤ l.sup.cpus → filter_map (end_fault l.sup S) (range_with_len from n) ≡ filter_map (end_fault l.sup R) (range_with_len from n)
  ends_same from zero few = refl
  ends_same from (suc n) few = let here = end_same from (omega (arith, few)) in let rest = ends_same (from + 1) n (omega (arith, few)) in λ i. cons_option (here i) (rest i)

  pub same_ends : chain_faults l.sup S ≡ chain_faults l.sup R
  same_ends = ends_same 0 l.sup.cpus (omega arith)
