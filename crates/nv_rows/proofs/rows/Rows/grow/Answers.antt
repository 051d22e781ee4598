use Rattle.std.proofs.Common.{◌+◌, ◌∙◌, ℕ, List, ap, length, length-set, get_or, refl, arith}
use Rattle.nv_rows.proofs.MoreRoom.{space_bound, tells_grown}
use Rattle.nv_rows.proofs.rows.Rows.grow.Goals as goal

pub grow-requires-clause-cpu : goal.grow-requires-clause-cpu
grow-requires-clause-cpu c = (let below = rw (← c.self.view_is) at c.requires.cpu in omega (arith, below, c.self.invariant.cpus))

pub grow-requires-clause-room : goal.grow-requires-clause-room
grow-requires-clause-room c =
    let t = c.self.inside in
    (space_bound t.rows.slots t.used.sets t.sup.cpus c.args.cpu (get_or t.used.sizes c.args.cpu 0) (rw (← c.self.view_is) at c.requires.space)).0

pub grow-requires-clause-small : goal.grow-requires-clause-small
grow-requires-clause-small c = rw (← c.self.view_is) at c.requires.small

pub invariant_of-self : goal.invariant_of-self
invariant_of-self c =
    let t = c.self.inside in
    let size = get_or t.used.sizes c.args.cpu 0 in
    let below = rw (← c.self.view_is) at c.requires.cpu in
    let fits = space_bound t.rows.slots t.used.sets t.sup.cpus c.args.cpu size (rw (← c.self.view_is) at c.requires.space) in
    record {
      layout = c.self.invariant.layout;
      cpus = ap (λ (sizes : List ℕ). length sizes) c.grow.ensures.sizes ∙ length-set t.used.sizes c.args.cpu (size + 31) ∙ c.self.invariant.cpus;
      stand = c.self.invariant.stand;
      tells = rw (c.grow.ensures.sizes, c.grow.ensures.sets)
          (tells_grown t.used.sizes c.args.cpu (size + 31) (omega (arith, below, c.self.invariant.cpus)) (omega arith) t.sup.cpus t.rows.slots t.used.sets (omega (arith, below)) fits.1 c.self.invariant.tells);
    }

pub returns : goal.returns
returns c = rw (c.grow.ensures.sizes, c.grow.ensures.sets, ← c.self.view_is) refl
