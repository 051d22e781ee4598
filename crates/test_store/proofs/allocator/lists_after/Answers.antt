use Rattle.std.proofs.Common.{◌≡◌, inl, inr, ◌+◌, ◌/◌, ◌%◌, ◌<◌, ◌≤◌, ℕ, List, [], ◌∷◌, ap, subst, ◌∙◌, arith}
use Rattle.std.specs.List.{slice_index}
use Rattle.std.specs.Int.{bit_at}
use Rattle.std.proofs.lemmas.Nat.Bits.{bit_at_ones}
use Rattle.nv_blockset.specs.BlockSet.{has}
use Rattle.nv_super.specs.declared.owners.Run.{Run}
use Rattle.nv_super.specs.declared.superblock.Super.{Super}
use Rattle.nv_super.specs.Layout.{system_blocks}
use Rattle.nv_super.specs.Runs.{InRun}
use Rattle.nv_alloc.specs.FreeValue.{FreeLists}
use Rattle.nv_alloc.specs.FreeLists.{IsFreeIn, IsSound, AreOutside, CanJoin, SameLists}
use Rattle.nv_alloc.specs.Taking.{HasBlock, pool_at}
use Rattle.nv_alloc.proofs.Sound.{free_within, data_block}
use Rattle.test_store.proofs.allocator.lists_after.Goals as goal

-- where all blocks are in use, none is free
none_free : (s : Super) (a : FreeLists) → IsSound a → AreOutside (18446744073709551615 ∷ []) s a → s.blocks ≤ 64 → (c b : ℕ) → IsFreeIn a c b → ⊥
none_free s a sound o small c b h =
    let lt : c < s.cpus = (let l = free_within a.pools c b h in let n = o.count in omega (arith, l, n)) in
    let clear = ((o.each c lt).each h.0 b h.1 h.2 h.3).1 in
    let d = (data_block a sound c b h).1 in let e = ap (λ (x : Super). x.blocks) o.sup in
    let first : b / 64 ≡ 0 = omega (arith, d, e, small) in let bit : b % 64 < 64 = omega arith in
    let set : has (18446744073709551615 ∷ []) b ≡ 1 = ap (λ (k : ℕ). bit_at (slice_index (18446744073709551615 ∷ []) k) (b % 64)) first ∙ bit_at_ones 64 (b % 64) bit in
    absurd (omega (arith, clear, set))

can : (a : FreeLists) (r : Run) → system_blocks a.sup ≡ 5 → a.sup.blocks ≡ 64 → 5 ≤ r.start → r.start + r.count ≤ 64 → ((c b : ℕ) → InRun r b → IsFreeIn a c b → ⊥) → CanJoin a r
can a r e f low high used = record { «data» = λ b i. (let lo = i.0 in let hi = i.1 in (omega (arith, e, low, lo), omega (arith, f, high, hi))); used = used }

none_same : (a b : FreeLists) → SameLists a b → ((c k : ℕ) → IsFreeIn a c k → ⊥) → (c k : ℕ) → IsFreeIn b c k → ⊥
none_same a b s h c k f = let P : List (List Run) → Type 0 = λ x. HasBlock (pool_at x c) k in h c k (subst P s.pools f)

pub give-requires-clause-can_join : goal.give-requires-clause-can_join
give-requires-clause-can_join c =
    let sup = c.reserve.ensures.same.sup ∙ c.in_ok-free.ensures.outside.sup in
    can _ _ (ap system_blocks sup) (ap (λ (x : Super). x.blocks) sup) (omega arith) (omega arith)
    (λ d b i h. none_same _ _ c.reserve.ensures.same (none_free _ _ c.in_ok-free.ensures.sound c.in_ok-free.ensures.outside (omega arith)) d b h)
