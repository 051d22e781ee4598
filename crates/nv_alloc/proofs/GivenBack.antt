-- Giving back what a take gave, and sets that determine lists.
use Rattle.std.proofs.Common.{◌≡◌, ℕ, ◌<◌, ◌≤◌, ◌⊎◌, inl, inr, List, [], ◌∷◌, ◌++◌, length, refl, ap, sym, ◌∙◌, subst, arith}
use Rattle.nv_super.specs.declared.owners.Run.{Run}
use Rattle.nv_super.specs.declared.superblock.Super.{Super}
use Rattle.nv_super.specs.Layout.{system_blocks, InPool}
use Rattle.nv_super.specs.Runs.{InRun}
use Rattle.nv_super.proofs.Pools.{one_pool}
use Rattle.nv_alloc.specs.FreeValue.{FreeLists}
use Rattle.nv_alloc.specs.Taking.{HasBlock}
use Rattle.nv_alloc.specs.FreeLists.{IsFreeIn, IsSound, Took, JoinAll, TakeThenGiveRestores, TakenCanJoin, SetsDetermineLists}
use Rattle.nv_alloc.proofs.Leaving.{LeavesFrom, leaves, first_block, later_block, block_cases, block_right, disjoint_before}
use Rattle.nv_alloc.proofs.Sound.{free_within, pooled, data_block, sound_after, sound_joins, same_pools}

pub determined : SetsDetermineLists
determined a b s t e f = same_pools a.pools b.pools (s.count ∙ ap (λ (x : Super). x.cpus) e ∙ sym t.count) s.apart t.apart (λ c k. (f c k).0) (λ c k. (f c k).1)

-- What the pools have once runs were joined.
record AllJoined (old : FreeLists) (runs : List Run) (new : FreeLists) : Type 0 where
  sup : new.sup ≡ old.sup
  sound : IsSound new
  count : length new.pools ≡ length old.pools
  from : (c b : ℕ) → IsFreeIn new c b → IsFreeIn old c b ⊎ (InPool old.sup c b × HasBlock runs b)
  stays : (c b : ℕ) → IsFreeIn old c b → IsFreeIn new c b
  came : (c b : ℕ) → c < length old.pools → InPool old.sup c b → HasBlock runs b → IsFreeIn new c b

all_joined : (old : FreeLists) (runs : List Run) (new : FreeLists) → IsSound old → JoinAll old runs new → AllJoined old runs new
all_joined old [] new s j = (let P : FreeLists → Type 0 = λ x. AllJoined old [] x in subst P j (record {
  sup = refl;
  sound = s;
  count = refl;
  from = λ c b h. inl h;
  stays = λ c b h. h;
  came = λ c b lt p h. absurd (let z = h.1.1 in omega (arith, z));
}))
all_joined old (run ∷ runs) new s j =
    let k = j.1 in let next = sound_joins old s j.0 run k in let r = all_joined j.0 runs new next j.2 in record {
      sup = r.sup ∙ k.sup;
      sound = r.sound;
      count = r.count ∙ k.count;
      from = λ c b h. elim (r.from c b h) [
        | inl w ↦ (let lt : c < length old.pools = (let l = free_within j.0.pools c b w in let n = k.count in omega (arith, l, n)) in
            elim ((k.each c lt).each w.0 b w.1 w.2 w.3) [ inl v ↦ inl v | inr v ↦ inr (v.0, first_block run runs b v.1) ])
        | inr w ↦ inr ((let P : Super → Type 0 = λ x. InPool x c b in subst P k.sup w.0), later_block run runs b w.1)
      ];
      stays = λ c b h. r.stays c b ((k.each c (free_within old.pools c b h)).all b (inl h));
      came = λ c b lt p h. elim (block_cases run runs b h) [
        | inl w ↦ r.stays c b ((k.each c lt).all b (inr (p, w)))
        | inr w ↦ r.came c b (let n = k.count in omega (arith, lt, n)) (let P : Super → Type 0 = λ x. InPool x c b in subst P (sym k.sup) p) w
      ];
    }

took_leaves : (old mid : FreeLists) (cpu n : ℕ) (runs : List Run) → IsSound old → cpu < old.sup.cpus → Took old cpu n runs mid → LeavesFrom old.pools runs mid.pools
took_leaves old mid cpu n runs s lt t = leaves old.pools cpu n runs mid.pools (pooled old s) (let c = s.count in omega (arith, c, lt)) t.takes

pub restores : TakeThenGiveRestores
restores old mid back cpu n runs s lt t j =
    let l = took_leaves old mid cpu n runs s lt t in let m = sound_after old s mid runs t.sup l in let r = all_joined mid runs back m j in (
      r.sup ∙ t.sup,
      same_pools back.pools old.pools (r.count ∙ l.count) r.sound.apart s.apart
          (λ c b h. elim (r.from c b h) [
            | inl w ↦ l.stays c b w
            | inr w ↦ (let f = l.free b w.1 in let P : Super → Type 0 = λ x. InPool x c b in
                let same = one_pool old.sup b f.0 c s.layout.cpus_from (s.within f.0 b f.1) (subst P t.sup w.0) in let Q : ℕ → Type 0 = λ k. IsFreeIn old k b in subst Q same f.1)
          ])
          (λ c b h. elim (l.rest c b h) [
            | inl w ↦ r.came c b (let o = free_within old.pools c b h in let k = l.count in omega (arith, o, k)) (let P : Super → Type 0 = λ x. InPool x c b in subst P (sym t.sup) (s.within c b h)) w
            | inr w ↦ r.stays c b w
          ]),
    )

pub can_join : TakenCanJoin
can_join old mid now cpu n before run behind s lt t j =
    let l = took_leaves old mid cpu n (before ++ run ∷ behind) s lt t in let m = sound_after old s mid (before ++ run ∷ behind) t.sup l in let r = all_joined mid before now m j in
    let own : (b : ℕ) → InRun run b → HasBlock (before ++ run ∷ behind) b = λ b i. block_right before (run ∷ behind) b (first_block run behind b i) in
    record {
      «data» = λ b i. (let f = l.free b (own b i) in let P : Super → Type 0 = λ x. (system_blocks x ≤ b) × (b < x.blocks) in subst P (sym (r.sup ∙ t.sup)) (data_block old s f.0 b f.1));
      used = λ c b i h. elim (r.from c b h) [ inl w ↦ l.gone c b w (own b i) | inr w ↦ disjoint_before before run behind l.disjoint b w.1 i ];
    }
