-- The free lists once blocks were taken or given back.
use Rattle.std.proofs.Common.{◌≡◌, ◌↔◌, ℕ, ◌<◌, ◌⊎◌, inl, inr, List, [], ◌∷◌, ap, sym, ◌∙◌, subst, arith}
use Rattle.nv_super.specs.declared.superblock.Super.{Super}
use Rattle.nv_super.specs.declared.owners.Run.{Run}
use Rattle.nv_super.specs.Layout.{Layout, InPool}
use Rattle.nv_super.specs.Runs.{InRun}
use Rattle.nv_super.proofs.Members.{none_in}
use Rattle.nv_super.proofs.Rising.{Contains-cons, Contains-head, Contains-tail}
use Rattle.nv_alloc.specs.FreeValue.{FreeLists}
use Rattle.nv_alloc.specs.FreeLists.{IsSound, Leave, Joins, JoinAll}
use Rattle.nv_alloc.specs.Taking.{HasBlock, pool_at}
use Rattle.nv_alloc.proofs.Changed.{AreRuns-same}
use Rattle.nv_mounted.specs.Held.{Store}
use Rattle.nv_mounted.specs.Blocks.{IsUnowned, ArePoolRuns, KeepsFree}
use Rattle.nv_mounted.specs.Lists.{TakeAll, WasTaken}

-- the same blocks, told in another way
pub pools_same : (l : Layout) (P Q : ℕ → Type 0) (free : List (List Run)) → ((b : ℕ) → P b ↔ Q b) → ArePoolRuns l P free → ArePoolRuns l Q free
pools_same l P Q free same kept = record { pools = kept.pools; each = λ cpu below. AreRuns-same _ _ _ (λ b w. (w.0, (same b).0 w.1)) (λ b w. (w.0, (same b).1 w.1)) (kept.each cpu below) }

-- Blocks were taken.
pub pools_taken : (l : Layout) (P : ℕ → Type 0) (old new : FreeLists) (n : ℕ) (runs : List Run) → ArePoolRuns l P old.pools → IsSound new → new.sup ≡ l.sup → Leave old n runs new → ArePoolRuns l (λ b. P b × (HasBlock runs b → ⊥)) new.pools
pools_taken l P old new n runs kept sound same leave = record {
  pools = sound.count ∙ ap (λ (s : Super). s.cpus) same;
  each = λ cpu below. record {
    apart = sound.apart cpu;
    each = λ x b c lo hi. there cpu below b (x, c, lo, hi);
    all = λ b w. back cpu below b w;
  };
} where
  there : (cpu : ℕ) → cpu < l.sup.cpus → (b : ℕ) → HasBlock (pool_at new.pools cpu) b → InPool l.sup cpu b × (P b × (HasBlock runs b → ⊥))
  there cpu below b stood =
      let was = leave.stays cpu b stood in
      let w = (kept.each cpu below).each was.0 b was.1 was.2 was.3 in
      (w.0, (w.1, leave.gone cpu b stood))

  back : (cpu : ℕ) → cpu < l.sup.cpus → (b : ℕ) → InPool l.sup cpu b × (P b × (HasBlock runs b → ⊥)) → HasBlock (pool_at new.pools cpu) b
  back cpu below b w = elim (leave.rest cpu b ((kept.each cpu below).all b (w.0, w.1.0))) [ inl gone ↦ absurd (w.1.1 gone) | inr stays ↦ stays ]

-- A run of blocks was given back.
pub pools_given : (l : Layout) (P : ℕ → Type 0) (old new : FreeLists) (run : Run) → ArePoolRuns l P old.pools → old.sup ≡ l.sup → Joins old run new → ArePoolRuns l (λ b. P b ⊎ InRun run b) new.pools
pools_given l P old new run kept same joins = record {
  pools = joins.count ∙ kept.pools;
  each = λ cpu below. AreRuns-same _ _ _ (there cpu below) (back cpu below) (joins.each cpu (let n = kept.pools in omega (arith, n, below)));
} where
  there : (cpu : ℕ) → cpu < l.sup.cpus → (b : ℕ) → HasBlock (pool_at old.pools cpu) b ⊎ (InPool old.sup cpu b × InRun run b) → InPool l.sup cpu b × (P b ⊎ InRun run b)
  there cpu below b (inl stood) = let w = (kept.each cpu below).each stood.0 b stood.1 stood.2 stood.3 in (w.0, inl w.1)
  there cpu below b (inr w) = (subst (λ (s : Super). InPool s cpu b) same w.0, inr w.1)

  back : (cpu : ℕ) → cpu < l.sup.cpus → (b : ℕ) → InPool l.sup cpu b × (P b ⊎ InRun run b) → HasBlock (pool_at old.pools cpu) b ⊎ (InPool old.sup cpu b × InRun run b)
  back cpu below b w = elim w.1 [ inl p ↦ inl ((kept.each cpu below).all b (w.0, p)) | inr run_has ↦ inr (subst (λ (s : Super). InPool s cpu b) (sym same) w.0, run_has) ]

-- And so were several.
pub pools_all_given : (l : Layout) (P : ℕ → Type 0) (old new : FreeLists) (runs : List Run) → ArePoolRuns l P old.pools → old.sup ≡ l.sup → JoinAll old runs new → ArePoolRuns l (λ b. P b ⊎ HasBlock runs b) new.pools
pools_all_given l P old new [] kept same e =
    pools_same l P (λ b. P b ⊎ HasBlock [] b) new.pools (λ b. ((λ p. inl p), (λ either. elim either [ inl p ↦ p | inr none ↦ absurd (none_in none.0 none.1) ])))
    (subst (λ (a : FreeLists). ArePoolRuns l P a.pools) e kept)
pools_all_given l P old new (run ∷ runs) kept same w =
    pools_same l (λ b. (P b ⊎ InRun run b) ⊎ HasBlock runs b) (λ b. P b ⊎ HasBlock (run ∷ runs) b) new.pools both_ways
    (pools_all_given l (λ b. P b ⊎ InRun run b) w.0 new runs (pools_given l P old w.0 run kept same w.1) (w.1.sup ∙ same) w.2) where
      both_ways : (b : ℕ) → ((P b ⊎ InRun run b) ⊎ HasBlock runs b) ↔ (P b ⊎ HasBlock (run ∷ runs) b)
      both_ways b = (
        (λ either. elim either [
          | inl first ↦ elim first [ inl p ↦ inl p | inr here ↦ inr (run, Contains-head run runs, here.0, here.1) ]
          | inr rest ↦ inr (rest.0, Contains-tail run runs rest.0 rest.1, rest.2, rest.3)
        ]),
        (λ either. elim either [
          | inl p ↦ inl (inl p)
          | inr has ↦ elim (Contains-cons run runs has.0 has.1) [
            | inl e ↦ inl (inr (subst (λ (r : Run). InRun r b) e (has.2, has.3)))
            | inr c ↦ inr (has.0, c, has.2, has.3)
          ]
        ]),
      )

-- Blocks were taken several times.
pub pools_all_taken : (l : Layout) (P : ℕ → Type 0) (old new : FreeLists) (takes : List (List Run)) → ArePoolRuns l P old.pools → old.sup ≡ l.sup → TakeAll old takes new → ArePoolRuns l (λ b. P b × (WasTaken takes b → ⊥)) new.pools × (new.sup ≡ l.sup)
pools_all_taken l P old new [] kept same e = (
  pools_same l P (λ b. P b × (WasTaken [] b → ⊥)) new.pools (λ b. ((λ p. (p, λ none. none)), (λ w. w.0))) (subst (λ (a : FreeLists). ArePoolRuns l P a.pools) e kept),
  subst (λ (a : FreeLists). a.sup ≡ l.sup) e same,
)
pools_all_taken l P old new (runs ∷ takes) kept same w =
    let first = pools_taken l P old w.0 w.1.blocks runs kept w.1.sound (w.1.sup ∙ same) w.1.leave in
    let rest = pools_all_taken l (λ b. P b × (HasBlock runs b → ⊥)) w.0 new takes first (w.1.sup ∙ same) w.2 in (
      pools_same l (λ b. (P b × (HasBlock runs b → ⊥)) × (WasTaken takes b → ⊥)) (λ b. P b × (WasTaken (runs ∷ takes) b → ⊥)) new.pools
          (λ b. ((λ v. (v.0.0, λ either. elim either [ inl here ↦ v.0.1 here | inr later ↦ v.1 later ])), (λ v. ((v.0, λ here. v.1 (inl here)), λ later. v.1 (inr later))))) rest.0,
      rest.1,
    )

-- The free lists are those of what is held, once the blocks were taken that aren't free any more.
pub lists_follow : (l : Layout) (held after : Store) (old new : FreeLists) (n : ℕ) (runs : List Run) → KeepsFree l held old.pools → IsSound new → new.sup ≡ l.sup → Leave old n runs new
    → ((b : ℕ) → IsUnowned l after b ↔ (IsUnowned l held b × (HasBlock runs b → ⊥))) → KeepsFree l after new.pools
lists_follow l held after old new n runs kept sound same leave free =
    pools_same l (λ b. IsUnowned l held b × (HasBlock runs b → ⊥)) (IsUnowned l after) new.pools (λ b. ((free b).1, (free b).0)) (pools_taken l (IsUnowned l held) old new n runs kept sound same leave)

-- And once blocks were given back that are free now.
pub lists_grow : (l : Layout) (held after : Store) (old new : FreeLists) (runs : List Run) → KeepsFree l held old.pools → old.sup ≡ l.sup → JoinAll old runs new
    → ((b : ℕ) → IsUnowned l after b ↔ (IsUnowned l held b ⊎ HasBlock runs b)) → KeepsFree l after new.pools
lists_grow l held after old new runs kept same joins free =
    pools_same l (λ b. IsUnowned l held b ⊎ HasBlock runs b) (IsUnowned l after) new.pools (λ b. ((free b).1, (free b).0)) (pools_all_given l (IsUnowned l held) old new runs kept same joins)

-- And once some were taken and others given back.
pub lists_change : (l : Layout) (held after : Store) (old mid new : FreeLists) (takes : List (List Run)) (runs : List Run) → KeepsFree l held old.pools → old.sup ≡ l.sup → TakeAll old takes mid → JoinAll mid runs new
    → ((b : ℕ) → IsUnowned l after b ↔ ((IsUnowned l held b × (WasTaken takes b → ⊥)) ⊎ HasBlock runs b)) → KeepsFree l after new.pools
lists_change l held after old mid new takes runs kept same taken joins free =
    let w = pools_all_taken l (IsUnowned l held) old mid takes kept same taken in
    pools_same l (λ b. (IsUnowned l held b × (WasTaken takes b → ⊥)) ⊎ HasBlock runs b) (IsUnowned l after) new.pools (λ b. ((free b).1, (free b).0))
    (pools_all_given l (λ b. IsUnowned l held b × (WasTaken takes b → ⊥)) mid new runs w.0 w.1 joins)
