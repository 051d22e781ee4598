use Rattle.std.proofs.Common.{get_or, arith, ◌∙◌}
use Rattle.std.proofs.Math.ListN.{set}
use Rattle.nv_alloc.proofs.Pools.{bounds_set, took_ends, took_goes, took_enough, took_less, lists_length}
use Rattle.nv_alloc.proofs.Changed.{own_default}
use Rattle.nv_alloc.proofs.allocators.+take_on.Goals as goal

pub take_on-requires : goal.take_on-requires
take_on-requires t c =
    let pos = c.if-rest-gt0.true in
    let is = own_default c.args.pools.now c.args.cpu c.index-pools-cpu.result c.requires.cpu in
    let less = took_less _ _ _ _ _ (get_or c.args.pools.now c.args.cpu c.index-pools-cpu.result) _ _ c.requires.cpu is c.take-rest.ensures.taken c.fullest-next.result pos c.requires.enough c.fullest-next.ensures in
    let enough = took_enough _ _ _ _ _ (get_or c.args.pools.now c.args.cpu c.index-pools-cpu.result) _ _ c.requires.cpu is c.take-rest.ensures.taken c.requires.enough in (
      omega (arith, less, c.decreases),
      ((let w = c.fullest-next.ensures.within in let l = lists_length (set c.args.pools.now c.args.cpu c.take-rest.new.self) in omega (arith, w, l)), (enough, c.take-rest.ensures.room)),
    )

pub returns-then-rest-gt0-clause-takes : goal.returns-then-rest-gt0-clause-takes
returns-then-rest-gt0-clause-takes t c =
    took_goes _ _ _ _ _ (get_or c.args.pools.now c.args.cpu c.index-pools-cpu.result) _ _ c.requires.cpu (own_default _ _ _ c.requires.cpu) c.take-rest.ensures.taken _ _ _ c.if-rest-gt0.true c.fullest-next.ensures c.take_on.ensures.takes

pub returns-then-rest-gt0-clause-bounds : goal.returns-then-rest-gt0-clause-bounds
returns-then-rest-gt0-clause-bounds t c =
    c.take_on.ensures.bounds ∙ bounds_set c.args.pools.now c.args.cpu (get_or c.args.pools.now c.args.cpu c.index-pools-cpu.result) c.take-rest.new.self c.requires.cpu (own_default _ _ _ c.requires.cpu) c.take-rest.ensures.place

pub returns-else-rest-gt0-clause-takes : goal.returns-else-rest-gt0-clause-takes
returns-else-rest-gt0-clause-takes t c =
    took_ends _ _ _ _ _ (get_or c.args.pools.now c.args.cpu c.index-pools-cpu.result) _ _ c.requires.cpu (own_default _ _ _ c.requires.cpu) c.take-rest.ensures.taken (omega (arith, c.if-rest-gt0.false))

pub returns-else-rest-gt0-clause-bounds : goal.returns-else-rest-gt0-clause-bounds
returns-else-rest-gt0-clause-bounds t c =
    bounds_set c.args.pools.now c.args.cpu (get_or c.args.pools.now c.args.cpu c.index-pools-cpu.result) c.take-rest.new.self c.requires.cpu (own_default _ _ _ c.requires.cpu) c.take-rest.ensures.place
