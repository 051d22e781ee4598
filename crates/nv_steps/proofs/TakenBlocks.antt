-- Blocks that were taken one by one: they were free, they differ, and the free lists are those of before without them.
use Rattle.std.proofs.Common.{◌≡◌, ◌↔◌, ℕ, zero, suc, ◌<◌, ◌≤◌, inl, inr, List, [], ◌∷◌, ap, sym, ◌∙◌, subst, arith}
use Rattle.std.specs.List.{Contains}
use Rattle.std.proofs.lemmas.List.{get_or_default}
use Rattle.nv_super.specs.declared.superblock.Super.{Super}
use Rattle.nv_super.specs.declared.owners.Run.{Run}
use Rattle.nv_super.specs.Layout.{Layout, system_blocks}
use Rattle.nv_super.proofs.Members.{none_in}
use Rattle.nv_super.proofs.Rising.{Contains-cons, Contains-head, Contains-tail}
use Rattle.nv_alloc.specs.FreeValue.{FreeLists}
use Rattle.nv_alloc.specs.FreeLists.{IsFreeIn}
use Rattle.nv_alloc.specs.Taking.{HasBlock, pool_at, block_run}
use Rattle.nv_alloc.proofs.Sound.{data_block, free_within}
use Rattle.nv_alloc.proofs.Singly.{in_single, single_is}
use Rattle.nv_logpage.specs.Append.{AllDiffer}
use Rattle.nv_mounted.specs.Held.{Store}
use Rattle.nv_mounted.specs.Blocks.{KeepsFree}
use Rattle.nv_mounted.specs.Blocks as blocks
use Rattle.nv_mounted.specs.Grows.{AreFree}
use Rattle.nv_mounted.specs.Lists.{TakeAll, WasTaken}
use Rattle.nv_mounted.proofs.ListsKept.{pools_all_taken, pools_same}
use Rattle.nv_steps.specs.Taken.{TakesEach}
use Rattle.nv_steps.proofs.OneByOne.{single_takes, takes_of}

-- each of them was taken, and no other
pub was_taken : (blocks : List ℕ) (b : ℕ) → Contains blocks b → WasTaken (single_takes blocks) b
was_taken [] b c = absurd (none_in b c)
was_taken (a ∷ blocks) b c = elim (Contains-cons a blocks b c) [ inl same ↦ inl (subst (λ (n : ℕ). HasBlock (block_run a ∷ []) n) (sym same) (in_single a)) | inr later ↦ inr (was_taken blocks b later) ]

pub is_taken : (blocks : List ℕ) (b : ℕ) → WasTaken (single_takes blocks) b → Contains blocks b
is_taken [] b w = absurd w
is_taken (a ∷ blocks) b (inl here) = subst (λ (n : ℕ). Contains (a ∷ blocks) n) (sym (single_is a b here)) (Contains-head a blocks)
is_taken (a ∷ blocks) b (inr later) = Contains-tail a blocks b (is_taken blocks b later)

-- they were free
pub taken_free : (old new : FreeLists) (blocks : List ℕ) → TakeAll old (single_takes blocks) new → (b : ℕ) → Contains blocks b → (cpu : ℕ) × IsFreeIn old cpu b
taken_free old new [] w b c = absurd (none_in b c)
taken_free old new (a ∷ blocks) w b c = elim (Contains-cons a blocks b c) [
  | inl same ↦ subst (λ (n : ℕ). (cpu : ℕ) × IsFreeIn old cpu n) (sym same) (w.1.leave.free a (in_single a))
  | inr later ↦ (let f = taken_free w.0 new blocks w.2 b later in (f.0, w.1.leave.stays f.0 b f.1))
]

-- and no two are the same
pub taken_apart : (old new : FreeLists) (a : ℕ) (blocks : List ℕ) → TakeAll old (single_takes (a ∷ blocks)) new → Contains blocks a → ⊥
taken_apart old new a blocks w c = let f = taken_free w.0 new blocks w.2 a c in w.1.leave.gone f.0 a f.1 (in_single a)

taken_differ : (old new : FreeLists) (blocks : List ℕ) → TakeAll old (single_takes blocks) new → AllDiffer blocks
taken_differ old new [] w i j less inside = absurd (omega (arith, inside))
taken_differ old new (a ∷ blocks) w zero zero less inside = absurd (omega (arith, less))
taken_differ old new (a ∷ blocks) w zero (suc j) less inside = λ same. taken_apart old new a blocks w (j, omega (arith, inside), get_or_default blocks j a 0 (omega (arith, inside)) ∙ sym same)
taken_differ old new (a ∷ blocks) w (suc i) zero less inside = absurd (omega (arith, less))
taken_differ old new (a ∷ blocks) w (suc i) (suc j) less inside = taken_differ w.0 new blocks w.2 i j (omega (arith, less)) (omega (arith, inside))

-- without the second of them they differ too
pub differ_rest : (a b : ℕ) (xs : List ℕ) → AllDiffer (a ∷ b ∷ xs) → AllDiffer (a ∷ xs)
differ_rest a b xs differ zero zero less inside = absurd (omega (arith, less))
differ_rest a b xs differ zero (suc j) less inside = differ zero (suc (suc j)) (omega arith) (omega (arith, inside))
differ_rest a b xs differ (suc i) zero less inside = absurd (omega (arith, less))
differ_rest a b xs differ (suc i) (suc j) less inside = differ (suc (suc i)) (suc (suc j)) (omega (arith, less)) (omega (arith, inside))

-- no block is free that wasn't
pub stays_free : (old new : FreeLists) (fresh : List ℕ) → TakeAll old (single_takes fresh) new → (cpu b : ℕ) → IsFreeIn new cpu b → IsFreeIn old cpu b
stays_free old new [] same cpu b free = subst (λ (a : FreeLists). IsFreeIn a cpu b) (sym same) free
stays_free old new (a ∷ fresh) w cpu b free = w.1.leave.stays cpu b (stays_free w.0 new fresh w.2 cpu b free)

same_sup : (old new : FreeLists) (blocks : List ℕ) → TakeAll old (single_takes blocks) new → new.sup ≡ old.sup
same_sup old new [] e = ap (λ (a : FreeLists). a.sup) (sym e)
same_sup old new (a ∷ blocks) w = same_sup w.0 new blocks w.2 ∙ w.1.sup

module _ {old new : FreeLists} {cpu : ℕ} {fresh : List ℕ} (taken : TakesEach old cpu fresh new) where
  pub each_was_free : (b : ℕ) → Contains fresh b → (cpu : ℕ) × IsFreeIn old cpu b
  each_was_free b c = let f = taken_free taken.from new fresh (takes_of taken) b c in (f.0, subst (λ (pools : List (List Run)). HasBlock (pool_at pools f.0) b) taken.same.pools f.1)

  pub taken_sup : new.sup ≡ old.sup
  taken_sup = same_sup taken.from new fresh (takes_of taken) ∙ taken.same.sup

  pub all_differ : AllDiffer fresh
  all_differ = taken_differ taken.from new fresh (takes_of taken)

  -- they are data blocks
  pub each_in_data : (b : ℕ) → Contains fresh b → (system_blocks old.sup ≤ b) × (b < old.sup.blocks)
  each_in_data b c =
      let f = taken_free taken.from new fresh (takes_of taken) b c in
      subst (λ (s : Super). (system_blocks s ≤ b) × (b < s.blocks)) taken.same.sup (data_block taken.from taken.sound f.0 b f.1)

  -- with another page that isn't free they differ too
  pub differ_with : (a : ℕ) → ((cpu : ℕ) → IsFreeIn old cpu a → ⊥) → AllDiffer (a ∷ fresh)
  differ_with a used zero zero less inside = absurd (omega (arith, less))
  differ_with a used zero (suc j) less inside = λ same. (let f = each_was_free a (j, omega (arith, inside), get_or_default fresh j a 0 (omega (arith, inside)) ∙ sym same) in used f.0 f.1)
  differ_with a used (suc i) zero less inside = absurd (omega (arith, less))
  differ_with a used (suc i) (suc j) less inside = all_differ i j (omega (arith, less)) (omega (arith, inside))

  module _ (l : Layout) (held : Store) (kept : KeepsFree l held old.pools) (sup : old.sup ≡ l.sup) where
    from_kept : KeepsFree l held taken.from.pools
    from_kept = subst (λ (pools : List (List Run)). KeepsFree l held pools) (sym taken.same.pools) kept

    -- They are free blocks of what is held.
    pub are_free : AreFree l held fresh
    are_free b c =
        let f = each_was_free b c in
        let below : f.0 < l.sup.cpus = (let inside = free_within old.pools f.0 b f.1 in let n = kept.pools in omega (arith, inside, n)) in
        let run = f.1 in
        ((kept.each f.0 below).each run.0 b run.1 run.2 run.3).1

    -- The free lists are those of the free blocks without them.
    pub lists_without : (after : Store) → ((b : ℕ) → blocks.IsUnowned l after b ↔ (blocks.IsUnowned l held b × (Contains fresh b → ⊥))) → KeepsFree l after new.pools
    lists_without after free =
        let w = pools_all_taken l (blocks.IsUnowned l held) taken.from new (single_takes fresh) from_kept (taken.same.sup ∙ sup) (takes_of taken) in
        pools_same l (λ b. blocks.IsUnowned l held b × (WasTaken (single_takes fresh) b → ⊥)) (blocks.IsUnowned l after) new.pools
        (λ b. ((λ v. (free b).1 (v.0, λ c. v.1 (was_taken fresh b c))), (λ v. (let u = (free b).0 v in (u.0, λ t. u.1 (is_taken fresh b t)))))) w.0
