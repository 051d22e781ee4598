-- The layout of fixed tables is that of each region in version 1, and by it the same words are permitted.
use Rattle.std.proofs.Common.{◌≡◌, ◌==◌, ◌&&◌, ◌||◌, ◌/◌, ◌%◌, ◌*◌, ◌+◌, nat_lt, ℕ, zero, suc, Bool, true, false, List, [], Some, nat_le, refl, ap, sym, subst, replicate, ne_eqb, eqb, ◌∙◌, arith}
use Rattle.std.specs.Prelude.{slice_get}
use Rattle.std.specs.List.{IsDistinct}
use Rattle.std.proofs.lemmas.List.{length-replicate}
use Rattle.nv_region.specs.Region.{Region}
use Rattle.nv_super.specs.declared.superblock.Super.{Super}
use Rattle.nv_super.specs.Layout.{IsLayout, fixed_layout, system_blocks}
use Rattle.nv_super.proofs.Slots.{no_chain}
use Rattle.nv_inode.specs.Chains.{IsLaid, chain_faults, in_chains, layout_of}
use Rattle.nv_inode.specs.Permitted.{is_permitted, is_permitted_by, is_key_offset, in_extra}
use Rattle.nv_inode.specs.SlotBlocks.{extra_blocks}
use Rattle.nv_inode.proofs.ReadChains.{empty_chains, no_faults, none_once}

-- no block stands in empty chains
pub none_in : (n b : ℕ) → in_chains (replicate n []) b ≡ false
none_in zero b = refl
none_in (suc n) b = none_in n b

pub version_off : (s : Super) → s.version ≡ 1 → (s.version == 2) ≡ false
version_off s one = ne_eqb s.version 2 (λ two. omega (arith, one, two))

pub layout_fixed : (s : Super) (R : Region) → s.version ≡ 1 → layout_of s R ≡ fixed_layout s
layout_fixed s R one = ap (λ (chains : List (List ℕ)). record { sup = s; chains = chains }) (empty_chains s R (version_off s one) 0 s.cpus)

pub fixed_faults : (s : Super) (R : Region) → s.version ≡ 1 → chain_faults s R ≡ []
fixed_faults s R one = no_faults s R (version_off s one) 0 s.cpus

none_at : (k b : ℕ) → slice_get [] k ≡ Some b → ⊥
none_at k b e = cc

pub fixed_laid : (s : Super) → IsLayout s → IsLaid (fixed_layout s)
fixed_laid s layout = record {
  layout = layout;
  each = length-replicate s.cpus [];
  fixed = λ one c. no_chain s c;
  inside = λ c k b e. absurd (none_at k b (ap (λ (blocks : List ℕ). slice_get blocks k) (sym (no_chain s c)) ∙ e));
  once = λ c. subst (λ (blocks : List ℕ). IsDistinct eqb blocks) (sym (no_chain s c)) none_once;
}

same_test : (a b key extra : Bool) → extra ≡ false → (key && ((a && b) || extra)) ≡ (a && b && key)
same_test a b key extra off = ap (λ (e : Bool). key && ((a && b) || e)) off ∙ by a b key
  where
    by : (a b key : Bool) → (key && ((a && b) || false)) ≡ (a && b && key)
    by true true true = refl
    by true true false = refl
    by true false true = refl
    by true false false = refl
    by false true true = refl
    by false true false = refl
    by false false true = refl
    by false false false = refl

no_extra : (s : Super) (at : ℕ) → in_extra (fixed_layout s) at ≡ false
no_extra s at = ap (λ (b : Bool). b && nat_le 128 (at % 4096)) (none_in s.cpus (at / 4096))

pub same_words : (s : Super) (at : ℕ) → is_permitted_by (fixed_layout s) at ≡ is_permitted s at
same_words s at = same_test (nat_le ((1 + s.cpus) * 4096 + 128) at) (nat_lt at (system_blocks s * 4096)) (is_key_offset at) (in_extra (fixed_layout s) at) (no_extra s at)

-- ---- its blocks of slots

no_blocks : (s : Super) (c n : ℕ) → extra_blocks s c (replicate n []) ≡ []
no_blocks s c zero = refl
no_blocks s c (suc n) = no_blocks s (c + 1) n
