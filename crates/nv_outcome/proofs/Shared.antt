-- Without faults each data block is free once or owned once.
use Rattle.std.proofs.Common.{◌≡◌, inl, inr, ℕ, ◌<◌, List, [], sym, subst, arith}
use Rattle.std.specs.List.{Contains}
use Rattle.nv_region.specs.Region.{Region}
use Rattle.nv_super.specs.declared.faults.Fault.{Fault}
use Rattle.nv_super.specs.declared.faults.Fault.TheVariants as faults
use Rattle.nv_super.specs.Layout.{InPool, PoolsCover}
use Rattle.nv_super.proofs.Pools.{pools_cover}
use Rattle.nv_super.proofs.Sorted.{one_owner}
use Rattle.nv_super.proofs.Members.{none_in}
use Rattle.nv_inode.specs.Chains.{layout_of}
use Rattle.nv_journal.specs.Undo.{undone}
use Rattle.nv_alloc.specs.Taking.{HasBlock, pool_at}
use Rattle.nv_alloc.proofs.Sound.{free_within}
use Rattle.nv_outcome.specs.Outcome.{IsFree, double, Outcome, IsOutcome}
use Rattle.nv_outcome.specs.Shared.{SharesAll}
use Rattle.nv_outcome.proofs.OwnersOf.{owned_or_not}
use Rattle.nv_outcome.proofs.SuperOf.{layout_of_super}

module _ {R : Region} {o : Outcome} (is : IsOutcome R o) where
  -- a list of a block is that of a CPU, in whose pool the block is free
  listed_below : (c b : ℕ) → HasBlock (pool_at o.free c) b → c < o.sup.cpus
  listed_below c b w = let n = is.free.pools in let h = free_within o.free c b w in omega (arith, n, h)

  listed : (c b : ℕ) → HasBlock (pool_at o.free c) b → InPool o.sup c b × IsFree (undone o.sup R) (layout_of o.sup (undone o.sup R)) b
  listed c b w = (is.free.each c (listed_below c b w)).each w.0 b w.1 w.2 w.3

  pub shares_all : o.faults ≡ [] → SharesAll (undone o.sup R) (layout_of o.sup (undone o.sup R)) o.free
  shares_all none b low high = record {
    either = elim (owned_or_not is.rows b) [
      | inl w ↦ inr w
      | inr unowned ↦ inl (let p = cover.some_pool b low high in
          (p.0, (is.free.each p.0 p.1).all b (p.2, record { from = low; below = high; unowned = λ x q. unowned (x, q) })))
    ];
    never_both = λ c x w q. (listed c b w).1.unowned x q;
    one_list = λ c d w v. cover.one_pool b c d (listed c b w).0 (listed d b v).0;
    one_owner = λ x p q r. elim (one_owner x p) [
      | inl e ↦ e
      | inr differ ↦ absurd (none_in (faults.B1 b x) (subst (λ (fs : List Fault). Contains fs (faults.B1 b x)) none
          (is.faults.all (faults.B1 b x) (double (record { owns = q; another = (p, (λ e. differ (sym e)), r) })))))
    ];
  } where
    cover : PoolsCover o.sup
    cover = pools_cover o.sup (layout_of_super R o.sup is.sup)
