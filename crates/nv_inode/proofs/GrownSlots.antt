-- The slots of a layout with one block more at the end of a chain.
use Rattle.std.proofs.Common.{◌≡◌, ◌⊎◌, inl, inr, ◌<◌, ◌+◌, ◌-◌, ◌*◌, ◌/◌, ◌%◌, ◌==◌, ℕ, zero, suc, Bool, true, false, cond, List, [], ◌∷◌, ◌++◌, length, set, Option, Some, None, refl, sym, ap, ◌∙◌, arith}
use Rattle.std.specs.Prelude.{slice_get, unwrap_or}
use Rattle.std.proofs.lemmas.Nat.{mod_below}
use Rattle.nv_region.specs.Region.{Region, word}
use Rattle.nv_super.specs.Layout.{Layout, chain_of, extra_slot, slot_address, slot_of}
use Rattle.nv_inode.specs.Growing.{IsLinked, with_block}

get_pushed : (xs : List ℕ) (k b : ℕ) → (slice_get (xs ++ b ∷ []) k ≡ slice_get xs k) ⊎ ((slice_get xs k ≡ None) × (slice_get (xs ++ b ∷ []) k ≡ Some b))
get_pushed [] zero b = inr (refl, refl)
get_pushed [] (suc k) b = inl refl
get_pushed (x ∷ xs) zero b = inl refl
get_pushed (x ∷ xs) (suc k) b = get_pushed xs k b

pub found_grown : (chains : List (List ℕ)) (c q k b : ℕ) → c < length chains
    → (slice_get (unwrap_or (slice_get (set chains c (unwrap_or (slice_get chains c) [] ++ b ∷ [])) q) []) k ≡ slice_get (unwrap_or (slice_get chains q) []) k)
    ⊎ ((slice_get (unwrap_or (slice_get chains q) []) k ≡ None) × (slice_get (unwrap_or (slice_get (set chains c (unwrap_or (slice_get chains c) [] ++ b ∷ [])) q) []) k ≡ Some b))
found_grown [] c q k b less = absurd (omega (arith, less))
found_grown (x ∷ xs) zero zero k b less = get_pushed x k b
found_grown (x ∷ xs) zero (suc q) k b less = inl refl
found_grown (x ∷ xs) (suc c) zero k b less = inl refl
found_grown (x ∷ xs) (suc c) (suc q) k b less = found_grown xs c q k b (omega (arith, less))

-- the address of one of the block's slots
abbrev pub IsOfBlock : ℕ → ℕ → Type 0
IsOfBlock b a = (j : ℕ) × (j < 31) × (a ≡ 4096 * b + 128 + 128 * j)

module _ (b r start : ℕ) (found more : Option ℕ) (grown : (more ≡ found) ⊎ ((found ≡ None) × (more ≡ Some b))) where
  new_at : (none fixed : Bool) (a : ℕ) → r < 31 → cond none None (cond fixed (Some start) (extra_slot r more)) ≡ Some a → (cond none None (cond fixed (Some start) (extra_slot r found)) ≡ Some a) ⊎ IsOfBlock b a
  new_at true fixed a few e = absurd (cc)
  new_at false true a few e = inl e
  new_at false false a few e = elim grown [
    | inl same ↦ inl (ap (extra_slot r) (sym same) ∙ e)
    | inr (none, some) ↦ (let here : Some (b * 4096 + 128 + 128 * r) ≡ Some a = sym (ap (extra_slot r) some) ∙ e in let same : b * 4096 + 128 + 128 * r ≡ a = cc in inr (r, few, omega (arith, same)))
  ]

  old_at : (none fixed : Bool) (a : ℕ) → cond none None (cond fixed (Some start) (extra_slot r found)) ≡ Some a → cond none None (cond fixed (Some start) (extra_slot r more)) ≡ Some a
  old_at true fixed a e = e
  old_at false true a e = e
  old_at false false a e = elim grown [
    | inl same ↦ ap (extra_slot r) same ∙ e
    | inr (none, some) ↦ (let here : None ≡ Some a = sym (ap (extra_slot r) none) ∙ e in absurd (cc))
  ]

module _ (l : Layout) (c b i : ℕ) (below : c < length l.chains) where
  grown : (slice_get (chain_of (with_block l c b) (i % l.sup.cpus)) ((i / l.sup.cpus - 32 * l.sup.table_blocks) / 31) ≡ slice_get (chain_of l (i % l.sup.cpus)) ((i / l.sup.cpus - 32 * l.sup.table_blocks) / 31))
      ⊎ ((slice_get (chain_of l (i % l.sup.cpus)) ((i / l.sup.cpus - 32 * l.sup.table_blocks) / 31) ≡ None) × (slice_get (chain_of (with_block l c b) (i % l.sup.cpus)) ((i / l.sup.cpus - 32 * l.sup.table_blocks) / 31) ≡ Some b))
  grown = found_grown l.chains c (i % l.sup.cpus) ((i / l.sup.cpus - 32 * l.sup.table_blocks) / 31) b below

  pub slots_stay : (a : ℕ) → slot_of l i ≡ Some a → slot_of (with_block l c b) i ≡ Some a
  slots_stay a e = old_at b ((i / l.sup.cpus - 32 * l.sup.table_blocks) % 31) (slot_address l.sup i) _ _ grown (i == 0) _ a e

  pub slots_new : (a : ℕ) → slot_of (with_block l c b) i ≡ Some a → (slot_of l i ≡ Some a) ⊎ IsOfBlock b a
  slots_new a e = new_at b ((i / l.sup.cpus - 32 * l.sup.table_blocks) % 31) (slot_address l.sup i) _ _ grown (i == 0) _ a (mod_below (i / l.sup.cpus - 32 * l.sup.table_blocks) 31 (omega arith)) e

-- none of the new ones is in use
pub slots_unused : (l : Layout) (R Q : Region) (link c b i a : ℕ) → c < length l.chains → IsLinked R link b Q → slot_of (with_block l c b) i ≡ Some a → (slot_of l i ≡ Some a) ⊎ (word Q a ≡ 0)
slots_unused l R Q link c b i a below is e = elim (slots_new l c b i below a e) [
  | inl old ↦ inl old
  | inr (j, few, at) ↦ inr (ap (word Q) (let same : a ≡ 4096 * b + 128 * (j + 1) = omega (arith, at) in same) ∙ is.blank (j + 1) (omega (arith, few)))
]
