-- Free lists stay sound.
use Rattle.std.proofs.Common.{◌≡◌, ℕ, ◌-◌, ◌<◌, ◌≤◌, ◌⊎◌, inl, inr, Result, Ok, Err, List, [], length, refl, ap, sym, ◌∙◌, subst, arith, Vec, Global, IfOk, IfErr}
use Rattle.std.proofs.lemmas.Bool.{cases_lt}
use Rattle.std.proofs.lemmas.List.{same_lists, get_or_default, get_or_past}
use Rattle.nv_super.specs.declared.owners.Run.{Run}
use Rattle.nv_super.specs.declared.superblock.Super.{Super}
use Rattle.nv_super.specs.Layout.{system_blocks, InPool, IsLayout}
use Rattle.nv_super.specs.Runs.{InRun, Apart}
use Rattle.nv_super.proofs.Pools.{one_pool, pools_from, pools_to}
use Rattle.nv_super.proofs.Runs.{AreRuns-only}
use Rattle.nv_alloc.specs.declared.allocators.AllocRefusal.{AllocRefusal}
use Rattle.nv_alloc.specs.PoolValue.{PoolState}
use Rattle.nv_alloc.specs.FreeValue.{FreeLists}
use Rattle.nv_alloc.specs.Taking.{HasBlock, blocks_in, all_blocks, pool_at, Takes}
use Rattle.nv_alloc.specs.FreeLists.{IsFreeIn, IsSound, AreOutside, Leave, Joins, Refuses}
use Rattle.nv_alloc.specs.Inside.{lists_of, bounds_of, AreBounds, JoinedUpTo, ArePools}
use Rattle.nv_alloc.specs.Whole.{view_of, IsWhole}
use Rattle.nv_alloc.proofs.Pools.{lists_length}
use Rattle.nv_alloc.proofs.Leaving.{Pooled, LeavesFrom, leaves, took_blocks}
use Rattle.nv_alloc.proofs.Changed.{AreRuns-same, AreRuns-own}

-- a pool that isn't there has no block
pub past_none : (pools : List (List Run)) (c : ℕ) → length pools ≤ c → pool_at pools c ≡ []
past_none pools c le = get_or_past pools c [] le

pub free_within : (pools : List (List Run)) (c b : ℕ) → HasBlock (pool_at pools c) b → c < length pools
free_within pools c b h = elim (cases_lt c (length pools)) [
  | inl w ↦ w
  | inr w ↦ absurd (let P : List Run → Type 0 = λ x. HasBlock x b in let z = subst P (past_none pools c w) h in let lt = z.1.1 in omega (arith, lt))
]

module _ (a : FreeLists) (s : IsSound a) where
  pub pooled : Pooled a.pools
  pooled = record { apart = s.apart; one = λ c d b h w. one_pool a.sup b c d s.layout.cpus_from (s.within c b h) (s.within d b w) }

  pub data_block : (c b : ℕ) → IsFreeIn a c b → (system_blocks a.sup ≤ b) × (b < a.sup.blocks)
  data_block c b h =
      let w = s.within c b h in let low = w.0 in let high = w.1 in let from = pools_from a.sup c in
      let lt : c < a.sup.cpus = (let l = free_within a.pools c b h in let n = s.count in omega (arith, l, n)) in
      let to = pools_to a.sup c lt (let r = s.layout.areas.room in omega (arith, r)) in (omega (arith, from, low), omega (arith, high, to))

  pub sound_after : (new : FreeLists) (runs : List Run) → new.sup ≡ a.sup → LeavesFrom a.pools runs new.pools → IsSound new
  sound_after new runs e l = record {
    layout = (let P : Super → Type 0 = λ x. IsLayout x in subst P (sym e) s.layout);
    count = l.count ∙ s.count ∙ ap (λ (x : Super). x.cpus) (sym e);
    apart = l.apart;
    within = λ c b h. (let P : Super → Type 0 = λ x. InPool x c b in subst P (sym e) (s.within c b (l.stays c b h)));
  }

  pub leave_of : (new : FreeLists) (n : ℕ) (runs : List Run) → blocks_in runs ≡ n → LeavesFrom a.pools runs new.pools → Leave a n runs new
  leave_of new n runs e l = record { blocks = e; free = l.free; disjoint = l.disjoint; gone = l.gone; stays = l.stays; rest = l.rest }

  pub sound_same : (new : FreeLists) → new.sup ≡ a.sup → new.pools ≡ a.pools → IsSound new
  sound_same new e f = record {
    layout = (let P : Super → Type 0 = λ x. IsLayout x in subst P (sym e) s.layout);
    count = ap (λ (x : List (List Run)). length x) f ∙ s.count ∙ ap (λ (x : Super). x.cpus) (sym e);
    apart = λ c. (let P : List (List Run) → Type 0 = λ x. Apart (pool_at x c) in subst P (sym f) (s.apart c));
    within = λ c b h. (let P : Super → Type 0 = λ x. InPool x c b in let Q : List (List Run) → Type 0 = λ x. HasBlock (pool_at x c) b in subst P (sym e) (s.within c b (subst Q f h)));
  }

  pub sound_joins : (new : FreeLists) (run : Run) → Joins a run new → IsSound new
  sound_joins new run j = record {
    layout = (let P : Super → Type 0 = λ x. IsLayout x in subst P (sym j.sup) s.layout);
    count = j.count ∙ s.count ∙ ap (λ (x : Super). x.cpus) (sym j.sup);
    apart = λ c. elim (cases_lt c (length a.pools)) [
      | inl w ↦ (j.each c w).apart
      | inr w ↦ (let P : List Run → Type 0 = λ x. Apart x in subst P (sym (past_none new.pools c (let n = j.count in omega (arith, n, w)))) tt)
    ];
    within = λ c b h.
        (let lt : c < length a.pools = (let l = free_within new.pools c b h in let n = j.count in omega (arith, l, n)) in
        let P : Super → Type 0 = λ x. InPool x c b in
        subst P (sym j.sup) (elim ((j.each c lt).each h.0 b h.1 h.2 h.3) [ inl w ↦ s.within c b w | inr w ↦ w.0 ]));
  }

-- lists of the same blocks are the same
pub same_pool : (xs ys : List Run) → Apart xs → Apart ys → ((b : ℕ) → HasBlock xs b → HasBlock ys b) → ((b : ℕ) → HasBlock ys b → HasBlock xs b) → xs ≡ ys
same_pool xs ys a e f g = AreRuns-only (λ b. HasBlock xs b) xs ys (AreRuns-own xs a) (AreRuns-same _ _ ys g f (AreRuns-own ys e))

pub same_pools : (ps qs : List (List Run)) → length ps ≡ length qs → ((c : ℕ) → Apart (pool_at ps c)) → ((c : ℕ) → Apart (pool_at qs c))
    → ((c b : ℕ) → HasBlock (pool_at ps c) b → HasBlock (pool_at qs c) b) → ((c b : ℕ) → HasBlock (pool_at qs c) b → HasBlock (pool_at ps c) b) → ps ≡ qs
same_pools ps qs l a e f g = same_lists ps qs l (λ k d lt.
    get_or_default ps k d [] lt ∙ same_pool (pool_at ps k) (pool_at qs k) (a k) (e k) (f k) (g k) ∙ sym (get_or_default qs k d [] (omega (arith, l, lt))))

-- what a take leaves of the fields
module _ (s : Super) (ps : List PoolState) (room : ℕ) (h : IsWhole s ps room) where
  pub whole_count : length ps ≡ s.cpus
  whole_count = sym (lists_length ps) ∙ h.sound.count

  same_bounds : (new : List PoolState) → bounds_of new ≡ bounds_of ps → AreBounds s s.cpus (bounds_of new)
  same_bounds new e = let B : List (ℕ × ℕ) → Type 0 = λ x. AreBounds s s.cpus x in subst B (sym e) h.bounds

  pub whole_room : (more : ℕ) → IsWhole s ps more
  whole_room more = record { sound = sound_same (view_of s ps room) h.sound (view_of s ps more) refl refl; bounds = h.bounds }

  pub took_all : (new : List PoolState) (cpu n : ℕ) (runs : List Run) → cpu < s.cpus → Takes (lists_of ps) cpu n runs (lists_of new) → LeavesFrom (lists_of ps) runs (lists_of new)
  took_all new cpu n runs lt t = leaves (lists_of ps) cpu n runs (lists_of new) (pooled (view_of s ps room) h.sound) (let c = h.sound.count in omega (arith, c, lt)) t

  pub took_whole : (new : List PoolState) (cpu n : ℕ) → cpu < s.cpus → bounds_of new ≡ bounds_of ps → (r : Result (Vec Run Global) AllocRefusal)
      → IfOk r (λ runs. (n ≤ all_blocks (lists_of ps)) × Takes (lists_of ps) cpu n runs.items (lists_of new)) → IfErr r (λ refusal. Refuses refusal n (lists_of ps) × (lists_of new ≡ lists_of ps)) → IsWhole s new room
  took_whole new cpu n lt place (Ok runs) t e = record {
    sound = sound_after (view_of s ps room) h.sound (view_of s new room) runs.items refl (took_all new cpu n runs.items lt t.1);
    bounds = same_bounds new place;
  }
  took_whole new cpu n lt place (Err refusal) t e = record { sound = sound_same (view_of s ps room) h.sound (view_of s new room) refl e.1; bounds = same_bounds new place }

  pub took_leave : (new : List PoolState) (cpu n : ℕ) → cpu < s.cpus → (r : Result (Vec Run Global) AllocRefusal)
      → IfOk r (λ runs. (n ≤ all_blocks (lists_of ps)) × Takes (lists_of ps) cpu n runs.items (lists_of new)) → IfOk r (λ runs. Leave (view_of s ps room) n runs.items (view_of s new room))
  took_leave new cpu n lt (Ok runs) t = leave_of (view_of s ps room) h.sound (view_of s new room) n runs.items (took_blocks (lists_of ps) cpu n runs.items (lists_of new) t.1) (took_all new cpu n runs.items lt t.1)
  took_leave new cpu n lt (Err refusal) t = tt

  pub joins_all : (new : List PoolState) (run : Run) (less : ℕ) → length new ≡ length ps → JoinedUpTo s run (length ps) ps new → Joins (view_of s ps room) run (view_of s new less)
  joins_all new run less l j = record {
    sup = refl;
    count = lists_length new ∙ l ∙ sym (lists_length ps);
    each = λ c lt. (let w : c < length ps = (let b = lists_length ps in omega (arith, lt, b)) in j.done c w w);
  }

  pub joined_whole : (new : List PoolState) (run : Run) → length new ≡ length ps → JoinedUpTo s run (length ps) ps new → IsWhole s new (room - 1)
  joined_whole new run l j = record {
    sound = sound_joins (view_of s ps room) h.sound (view_of s new (room - 1)) run (joins_all new run (room - 1) l j);
    bounds = same_bounds new j.bounds;
  }

-- what the words make
pub made_outside : (words : List ℕ) (s : Super) (n room : ℕ) (ps : List PoolState) → n ≡ s.cpus → ArePools words s n (lists_of ps) → AreOutside words s (view_of s ps room)
made_outside words s n room ps e a = record { sup = refl; count = a.count ∙ e; each = λ c lt. a.each c (omega (arith, lt, e)) }

pub outside_sound : (words : List ℕ) (s : Super) (a : FreeLists) → IsLayout s → AreOutside words s a → IsSound a
outside_sound words s a l o = record {
  layout = (let P : Super → Type 0 = λ x. IsLayout x in subst P (sym o.sup) l);
  count = o.count ∙ ap (λ (x : Super). x.cpus) (sym o.sup);
  apart = λ c. elim (cases_lt c s.cpus) [
    | inl w ↦ (o.each c w).apart
    | inr w ↦ (let P : List Run → Type 0 = λ x. Apart x in subst P (sym (past_none a.pools c (let n = o.count in omega (arith, n, w)))) tt)
  ];
  within = λ c b h.
      (let lt : c < s.cpus = (let f = free_within a.pools c b h in let n = o.count in omega (arith, f, n)) in
      let P : Super → Type 0 = λ x. InPool x c b in subst P (sym o.sup) ((o.each c lt).each h.0 b h.1 h.2 h.3).0);
}

pub made_whole : (words : List ℕ) (s : Super) (n : ℕ) (ps : List PoolState) → IsLayout s → n ≡ s.cpus → ArePools words s n (lists_of ps) → AreBounds s n (bounds_of ps) → IsWhole s ps 0
made_whole words s n ps l e a b = record { sound = outside_sound words s (view_of s ps 0) l (made_outside words s n 0 ps e a); bounds = λ c lt. b c (omega (arith, lt, e)) }

-- what giving a run makes of the fields
pub gave : (s : Super) (ps : List PoolState) (room : ℕ) (now new x : List PoolState) (run : Run) → IsWhole s ps room → x ≡ new → now ≡ ps → length new ≡ length now → JoinedUpTo s run (length now) now new
    → IsWhole s x (room - 1) × Joins (view_of s ps room) run (view_of s x (room - 1))
gave s ps room now new x run h e f l j =
    let P : List PoolState → Type 0 = λ y. IsWhole s y (room - 1) × Joins (view_of s ps room) run (view_of s y (room - 1)) in
    let J : List PoolState → Type 0 = λ y. JoinedUpTo s run (length y) y new in
    let len : length new ≡ length ps = l ∙ ap (λ (y : List PoolState). length y) f in
    subst P (sym e) (joined_whole s ps room h new run len (subst J f j), joins_all s ps room h new run (room - 1) len (subst J f j))

-- what a take makes of the fields
pub took : (s : Super) (ps : List PoolState) (room : ℕ) (now new x : List PoolState) (cpu n : ℕ) (r : Result (Vec Run Global) AllocRefusal) → IsWhole s ps room → x ≡ new → now ≡ ps → cpu < s.cpus → bounds_of new ≡ bounds_of now
    → IfOk r (λ runs. (n ≤ all_blocks (lists_of now)) × Takes (lists_of now) cpu n runs.items (lists_of new)) → IfErr r (λ refusal. Refuses refusal n (lists_of now) × (lists_of new ≡ lists_of now))
    → IsWhole s x room × IfOk r (λ runs. Leave (view_of s ps room) n runs.items (view_of s x room))
took s ps room now new x cpu n r h e f lt place ok err =
    let P : List PoolState → Type 0 = λ y. IsWhole s y room × IfOk r (λ runs. Leave (view_of s ps room) n runs.items (view_of s y room)) in
    let S : List PoolState → Type 0 = λ y. bounds_of new ≡ bounds_of y in
    let O : List PoolState → Type 0 = λ y. IfOk r (λ runs. (n ≤ all_blocks (lists_of y)) × Takes (lists_of y) cpu n runs.items (lists_of new)) in
    let E : List PoolState → Type 0 = λ y. IfErr r (λ refusal. Refuses refusal n (lists_of y) × (lists_of new ≡ lists_of y)) in
    subst P (sym e) (took_whole s ps room h new cpu n lt (subst S f place) r (subst O f ok) (subst E f err), took_leave s ps room h new cpu n lt r (subst O f ok))

-- what is free once a run is joined was free or is of the run
pub joins_from : (a b : FreeLists) (run : Run) → Joins a run b → (c k : ℕ) → IsFreeIn b c k → IsFreeIn a c k ⊎ InRun run k
joins_from a b run j c k h =
    let lt : c < length a.pools = (let l = free_within b.pools c k h in let n = j.count in omega (arith, l, n)) in
    elim ((j.each c lt).each h.0 k h.1 h.2 h.3) [ inl w ↦ inl w | inr w ↦ inr w.1 ]
