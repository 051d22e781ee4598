use Rattle.std.proofs.Common.{◌≡◌, ◌≤◌, ◌+◌, ◌-◌, ◌*◌, ◌∙◌, ℕ, List, ap, sym, subst, length, get_or, arith}
use Rattle.nv_rows.proofs.MoreRoom.{end_near, rows_longer, slots_longer, space_ready, stand_longer, tells_longer}
use Rattle.nv_rows.proofs.rows.Rows.reserve_numbers.Goals as goal

pub lengthen-requires-clause-few : goal.lengthen-requires-clause-few
lengthen-requires-clause-few c =
    let t = c.self.inside in
    let below = rw (← c.self.view_is) at c.requires.cpu in
    let size : c.size.result ≡ get_or t.used.sizes c.args.cpu 0 = c.size.ensures.value ∙ ap (λ (sizes : List ℕ). get_or sizes c.args.cpu 0) c.reserve.ensures.sizes in
    subst (λ (n : ℕ). (n + 31) * t.sup.cpus ≤ length t.rows.slots + 4096) (sym size) (end_near t.sup t.rows.slots t.used c.self.invariant c.args.cpu below (omega (arith, size, c.size.ensures.some)))

pub invariant_of-self-2 : goal.invariant_of-self-2
invariant_of-self-2 c =
    let t = c.self.inside in
    rw (c.in_ok-lengthen.ensures.ok)
    (record {
      layout = c.self.invariant.layout;
      cpus = ap (λ (sizes : List ℕ). length sizes) c.reserve.ensures.sizes ∙ c.self.invariant.cpus;
      stand = stand_longer t.rows.slots _ c.self.invariant.stand;
      tells = rw (c.reserve.ensures.sizes) (tells_longer t.rows.slots _ t.sup.cpus t.used.sizes t.used.sets c.reserve.new.self.sets c.reserve.ensures.same c.self.invariant.tells);
    })

pub returns-clause-rows : goal.returns-clause-rows
returns-clause-rows c = rw (c.in_ok-lengthen.ensures.ok, ← c.self.view_is) (rows_longer c.self.inside.rows.slots _)

pub returns-clause-ready : goal.returns-clause-ready
returns-clause-ready c =
    let t = c.self.inside in
    let below = rw (← c.self.view_is) at c.requires.cpu in
    let same : get_or c.reserve.new.self.sizes c.args.cpu 0 ≡ get_or t.used.sizes c.args.cpu 0 = ap (λ (sizes : List ℕ). get_or sizes c.args.cpu 0) c.reserve.ensures.sizes in
    let bits = c.in_ok-reserve.ensures.ready in
    let end : (c.size.result + 31) * t.sup.cpus ≡ (get_or c.reserve.new.self.sizes c.args.cpu 0 + 31) * t.sup.cpus = ap (λ (n : ℕ). (n + 31) * t.sup.cpus) c.size.ensures.value in
    rw (c.in_ok-lengthen.ensures.ok)
    (space_ready _ c.reserve.new.self.sets t.sup.cpus c.args.cpu (get_or c.reserve.new.self.sizes c.args.cpu 0) (omega (arith, below)) (omega (arith, same, bits))
    (let long = slots_longer t.rows.slots ((c.size.result + 31) * t.sup.cpus - length t.rows.slots) in omega (arith, long, end)))
