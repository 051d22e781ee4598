-- A region that becomes one of version 2: its chains are empty, and the slots are where they were.
use Rattle.std.proofs.Common.{◌≡◌, ◌≢◌, ◌⊎◌, inl, inr, ◌≤◌, ◌<◌, ◌+◌, ◌-◌, ◌*◌, ◌/◌, ◌%◌, ◌==◌, ℕ, zero, suc, Bool, true, false, cond, List, [], ◌∷◌, ◌++◌, length, length-set, Option, Some, None, refl, sym, ap, ◌∙◌, subst, arith}
use Rattle.std.proofs.lemmas.List.{get_or-set_same, get_or-set_other}
use Rattle.std.proofs.lemmas.Bool.{cases_eq}
use Rattle.std.specs.Prelude.{slice_get, unwrap_or, nat_lt, map, replicate}
use Rattle.std.specs.List.{cons_option, filter_map, range_with_len}
use Rattle.nv_region.specs.Region.{Region, put, size, word}
use Rattle.nv_region.specs.Stops.{IsMixed, One}
use Rattle.nv_region.proofs.Wordwise.{mixed_word}
use Rattle.nv_super.specs.declared.superblock.Super.{Super}
use Rattle.nv_super.specs.declared.superblock.SuperFault.{SuperFault}
use Rattle.nv_super.specs.declared.superblock.SuperFault.TheVariants.{Length, Magic, Version, Cpus, Blocks, Tables, State}
use Rattle.nv_super.specs.Super.{Applies, IsSuper}
use Rattle.nv_super.specs.declared.faults.Fault.{Fault}
use Rattle.nv_super.specs.Layout.{IsLayout, Layout, most_blocks, chain_of, extra_slot, slot_address, slot_of}
use Rattle.nv_inode.specs.Tables.{AreTables}
use Rattle.nv_inode.proofs.FixedLayout.{version_off}
use Rattle.nv_inode.proofs.ReadChains.{empty_chains, of_range, region_laid}
use Rattle.nv_inode.specs.Chains.{IsLaid, chain_faults, chain_in, chains_in, chain_on, end_fault, fault_behind, first_link, layout_of, leads_on, link_fault}
use Rattle.nv_inode.specs.Upgraded.{IsUpgraded, NoLinks, UpgradedOrNot, upgraded, upgraded_layout}
use Rattle.nv_inode.proofs.LinkedBlocks.{zero_stays, same_size}
use Rattle.nv_inode.proofs.GrownChains.{zero_leads}

pub one_link : (R S : Region) (cpu : ℕ) → IsMixed R (One (first_link cpu) 0) S → word S (first_link cpu) ≡ 0 → ((c : ℕ) → c < cpu → word R (first_link c) ≡ 0) → (c : ℕ) → c < cpu + 1 → word S (first_link c) ≡ 0
one_link R S cpu mixed here before c less = elim (cases_eq c cpu) [
  | inl is ↦ ap (λ (i : ℕ). word S (first_link i)) is ∙ here
  | inr differs ↦ zero_stays R S (first_link cpu) (first_link c) mixed (before c (omega (arith, less, differs)))
]

-- a word that is none of the links stays
link_away : (R Q : Region) (cpus : ℕ) → IsMixed R (NoLinks cpus) Q → (a : ℕ) → a % 8 ≡ 0 → ((c : ℕ) → c < cpus → a ≢ first_link c) → word Q a ≡ word R a
link_away R Q cpus mixed a even away = mixed_word R Q (NoLinks cpus) a even mixed (λ x here. clash x here)
  where
    clash : (x : ℕ) → NoLinks cpus (a / 8) x → ⊥
    clash x (c, below, one) = away c below (let same = one.0 in omega (arith, same, even))

module _ (old Q : Region) (cpus : ℕ) (long : 16 ≤ 8 * length Q.words) (mixed : IsMixed old (NoLinks cpus) Q) (cleared : (c : ℕ) → c < cpus → word Q (first_link c) ≡ 0) where
  other_word : (a : ℕ) → a % 8 ≡ 0 → a ≢ 8 → word (put Q 8 2) a ≡ word Q a
  other_word a even differs = get_or-set_other Q.words (8 / 8) (a / 8) 2 0 (λ same. differs (omega (arith, same, even)))

  pub is_upgraded : IsUpgraded old cpus (put Q 8 2)
  is_upgraded = record {
    len = ap (λ (n : ℕ). 8 * n + length Q.rest) (length-set Q.words (8 / 8) 2) ∙ same_size old Q (NoLinks cpus) mixed;
    version = get_or-set_same Q.words (8 / 8) 2 0 (omega (arith, long));
    links = λ c below. other_word (first_link c) (omega arith) (λ same. omega (arith, same)) ∙ cleared c below;
    others = λ a even differs away. other_word a even differs ∙ link_away old Q cpus mixed a even away;
  }

pub upgrading_leaves : (R Q S left : Region) (cpus : ℕ) → IsMixed R (NoLinks cpus) Q → S ≡ Q → IsUpgraded R cpus (put Q 8 2) → (left ≡ S) ⊎ (left ≡ put S 8 2) → UpgradedOrNot R cpus left
upgrading_leaves R Q S left cpus mixed same is (inl before) = inl (subst (λ (r : Region). IsMixed R (NoLinks cpus) r) (sym (before ∙ same)) mixed)
upgrading_leaves R Q S left cpus mixed same is (inr after) = inr (subst (λ (r : Region). IsUpgraded R cpus r) (sym (after ∙ ap (λ (r : Region). put r 8 2) same)) is)

-- ---- what such regions are

no_start_chain : (R : Region) (s : Super) (before : List ℕ) (at n : ℕ) → word R at ≡ 0 → chain_on R s before at n ≡ []
no_start_chain R s before at zero none = refl
no_start_chain R s before at (suc n) none = by (leads_on s before (word R at)) (ap (leads_on s before) none ∙ zero_leads s before)
  where
    by : (b : Bool) → b ≡ false → cond b (word R at / 4096 ∷ chain_on R s (before ++ word R at / 4096 ∷ []) (word R at) n) [] ≡ []
    by b off = ap (λ (t : Bool). cond t (word R at / 4096 ∷ chain_on R s (before ++ word R at / 4096 ∷ []) (word R at) n) []) off

empty_chain : (s : Super) (Q : Region) (c : ℕ) → word Q (first_link c) ≡ 0 → chain_in s Q c ≡ []
empty_chain s Q c none = by (s.version == 2)
  where
    by : (v : Bool) → cond v (chain_on Q s [] (first_link c) s.blocks) [] ≡ []
    by true = no_start_chain Q s [] (first_link c) s.blocks none
    by false = refl

-- all chains are empty
pub upgraded_chains : (s : Super) (R Q : Region) → IsUpgraded R s.cpus Q → (c : ℕ) → c < s.cpus → chain_in (upgraded s) Q c ≡ []
upgraded_chains s R Q is c below = empty_chain (upgraded s) Q c (is.links c below)

found_empty : (s : Super) (R Q : Region) → IsUpgraded R s.cpus Q → (c : ℕ) (found : Option (List ℕ)) → slice_get (chains_in (upgraded s) Q) c ≡ found → unwrap_or found [] ≡ []
found_empty s R Q is c None none = refl
found_empty s R Q is c (Some chain) some =
    let at = of_range (chain_in (upgraded s) Q) 0 s.cpus c chain some in
    at.1 ∙ upgraded_chains s R Q is (0 + c) (let less = at.0 in omega (arith, less))

pub no_blocks : (s : Super) (R Q : Region) → IsUpgraded R s.cpus Q → (c : ℕ) → chain_of (layout_of (upgraded s) Q) c ≡ []
no_blocks s R Q is c = found_empty s R Q is c (slice_get (chains_in (upgraded s) Q) c) refl

-- so no slot moves
pub same_slots : (s : Super) (R Q : Region) → IsLayout s → s.version ≡ 1 → IsUpgraded R s.cpus Q → (i : ℕ) → slot_of (layout_of (upgraded s) Q) i ≡ slot_of (layout_of s R) i
same_slots s R Q layout one is i =
    ap (λ (blocks : List ℕ). cond (i == 0) None (cond (nat_lt (i / s.cpus) (32 * s.table_blocks)) (Some (slot_address s i)) (extra_slot ((i / s.cpus - 32 * s.table_blocks) % 31) (slice_get blocks ((i / s.cpus - 32 * s.table_blocks) / 31)))))
    (no_blocks s R Q is (i % s.cpus) ∙ sym ((region_laid s R layout).fixed one (i % s.cpus)))

-- ---- the layouts

module _ (s : Super) (R Q : Region) (is : IsUpgraded R s.cpus Q) where
  rows_upgraded : (a n : ℕ) → a + n ≤ s.cpus → map (chain_in (upgraded s) Q) (range_with_len a n) ≡ replicate n []
  rows_upgraded a zero below = refl
  rows_upgraded a (suc n) below =
      let here : chain_in (upgraded s) Q a ≡ [] = upgraded_chains s R Q is a (omega (arith, below)) in
      let rest = rows_upgraded (a + 1) n (omega (arith, below)) in
      λ i. here i ∷ rest i

  pub layout_upgraded_as : s.version ≡ 1 → layout_of (upgraded s) Q ≡ upgraded_layout (layout_of s R)
  layout_upgraded_as one = ap (λ (chains : List (List ℕ)). record { sup = upgraded s; chains = chains })
      (rows_upgraded 0 s.cpus (omega arith) ∙ sym (empty_chains s R (version_off s one) 0 s.cpus))

  end_upgraded : (c : ℕ) → c < s.cpus → end_fault (upgraded s) Q c ≡ None
  end_upgraded c below = ap (fault_behind (upgraded s) Q c) (upgraded_chains s R Q is c below) ∙ ap (link_fault (upgraded s) c (first_link c)) (is.links c below)

  ends_upgraded : (a n : ℕ) → a + n ≤ s.cpus → filter_map (end_fault (upgraded s) Q) (range_with_len a n) ≡ []
  ends_upgraded a zero below = refl
  ends_upgraded a (suc n) below =
      ap (λ (f : Option Fault). cons_option f (filter_map (end_fault (upgraded s) Q) (range_with_len (a + 1) n))) (end_upgraded a (omega (arith, below)))
      ∙ ends_upgraded (a + 1) n (omega (arith, below))

pub layout_upgraded : (s : Super) (R Q : Region) → s.version ≡ 1 → IsUpgraded R s.cpus Q → layout_of (upgraded s) Q ≡ upgraded_layout (layout_of s R)
layout_upgraded s R Q one is = layout_upgraded_as s R Q is one

pub faults_upgraded : (s : Super) (R Q : Region) → IsUpgraded R s.cpus Q → chain_faults (upgraded s) Q ≡ []
faults_upgraded s R Q is = ends_upgraded s R Q is 0 s.cpus (omega arith)

-- a layout that a region can have stays one
pub upgraded_laid : (l : Layout) → IsLaid l → IsLaid (upgraded_layout l)
upgraded_laid l laid = record {
  layout = record {
    version_from = omega arith;
    version_to = omega arith;
    cpus_from = laid.layout.cpus_from;
    blocks_from = laid.layout.blocks_from;
    blocks_to = laid.layout.blocks_to;
    tables_from = laid.layout.tables_from;
    state = laid.layout.state;
    areas = record {
      cpus_to = laid.layout.areas.cpus_to;
      tables_to = laid.layout.areas.tables_to;
      blocks_to = laid.layout.areas.blocks_to;
      room = laid.layout.areas.room;
    };
  };
  each = laid.each;
  fixed = λ two c. absurd (omega (arith, two));
  inside = laid.inside;
  once = laid.once;
}

pub upgraded_tables_are : (l : Layout) (marks : List ℕ) → AreTables l marks → AreTables (upgraded_layout l) marks
upgraded_tables_are l marks are = record { laid = upgraded_laid l are.laid; marked = are.marked }

-- ---- the superblocks

module _ (s : Super) (R Q : Region) where
  super_same : (long : size Q ≡ size R) → ((a : ℕ) → a % 8 ≡ 0 → a < 48 → word Q a ≡ word R a) → IsSuper R s → IsSuper Q s
  super_same long same is = record {
    sound = λ fault applies. is.sound fault (back fault applies);
    version = is.version ∙ sym (same 8 refl (omega arith));
    cpus = is.cpus ∙ sym (same 16 refl (omega arith));
    blocks = is.blocks ∙ sym (same 24 refl (omega arith));
    table_blocks = is.table_blocks ∙ sym (same 32 refl (omega arith));
    state = is.state ∙ sym (same 40 refl (omega arith));
  }
    where
      back : (fault : SuperFault) → Applies Q fault → Applies R fault
      back Length applies = subst (λ (n : ℕ). (n % 4096 ≢ 0) ⊎ ((n / 4096 < 8) ⊎ (most_blocks < n / 4096))) long applies
      back Magic applies = λ e. applies (same 0 refl (omega arith) ∙ e)
      back Version applies = (λ e. applies.0 (same 8 refl (omega arith) ∙ e), λ e. applies.1 (same 8 refl (omega arith) ∙ e))
      back Cpus applies = subst (λ (n : ℕ). (n < 1) ⊎ (64 < n)) (same 16 refl (omega arith)) applies
      back Blocks applies = λ e. applies (same 24 refl (omega arith) ∙ e ∙ ap (λ (n : ℕ). n / 4096) (sym long))
      back Tables applies = let c = same 16 refl (omega arith) in let b = same 24 refl (omega arith) in let t = same 32 refl (omega arith) in elim applies [
        | inl few ↦ inl (subst (λ (n : ℕ). (n < 1) ⊎ (64 < n)) t few)
        | inr many ↦ inr (subst (λ (n : ℕ). n ≤ 1 + word R 16 + word R 16 * word R 32) b (subst (λ (n : ℕ). word Q 24 ≤ 1 + n + n * word R 32) c (subst (λ (n : ℕ). word Q 24 ≤ 1 + word Q 16 + word Q 16 * n) t many)))
      ]
      back State applies = subst (λ (n : ℕ). 1 < n) (same 40 refl (omega arith)) applies

  -- while links alone are cleared
  pub super_before : IsMixed R (NoLinks s.cpus) Q → IsSuper R s → IsSuper Q s
  super_before mixed = super_same (same_size R Q (NoLinks s.cpus) mixed) (λ a even low. link_away R Q s.cpus mixed a even (λ c below same. omega (arith, same, low)))

  pub super_after : IsUpgraded R s.cpus Q → IsSuper R s → IsSuper Q (upgraded s)
  super_after up is = record {
    sound = sound;
    version = sym up.version;
    cpus = is.cpus ∙ sym (same 16 refl (omega arith) (omega arith));
    blocks = is.blocks ∙ sym (same 24 refl (omega arith) (omega arith));
    table_blocks = is.table_blocks ∙ sym (same 32 refl (omega arith) (omega arith));
    state = is.state ∙ sym (same 40 refl (omega arith) (omega arith));
  }
    where
      same : (a : ℕ) → a % 8 ≡ 0 → a < 48 → a ≢ 8 → word Q a ≡ word R a
      same a even low differs = up.others a even differs (λ c below e. omega (arith, e, low))

      sound : (fault : SuperFault) → Applies Q fault → ⊥
      sound Length applies = is.sound Length (subst (λ (n : ℕ). (n % 4096 ≢ 0) ⊎ ((n / 4096 < 8) ⊎ (most_blocks < n / 4096))) up.len applies)
      sound Magic applies = is.sound Magic (λ e. applies (same 0 refl (omega arith) (omega arith) ∙ e))
      sound Version applies = applies.1 up.version
      sound Cpus applies = is.sound Cpus (subst (λ (n : ℕ). (n < 1) ⊎ (64 < n)) (same 16 refl (omega arith) (omega arith)) applies)
      sound Blocks applies = is.sound Blocks (λ e. applies (same 24 refl (omega arith) (omega arith) ∙ e ∙ ap (λ (n : ℕ). n / 4096) (sym up.len)))
      sound Tables applies = let c = same 16 refl (omega arith) (omega arith) in let b = same 24 refl (omega arith) (omega arith) in let t = same 32 refl (omega arith) (omega arith) in elim applies [
        | inl few ↦ is.sound Tables (inl (subst (λ (n : ℕ). (n < 1) ⊎ (64 < n)) t few))
        | inr many ↦ is.sound Tables (inr (subst (λ (n : ℕ). n ≤ 1 + word R 16 + word R 16 * word R 32) b (subst (λ (n : ℕ). word Q 24 ≤ 1 + n + n * word R 32) c (subst (λ (n : ℕ). word Q 24 ≤ 1 + word Q 16 + word Q 16 * n) t many))))
      ]
      sound State applies = is.sound State (subst (λ (n : ℕ). 1 < n) (same 40 refl (omega arith) (omega arith)) applies)
