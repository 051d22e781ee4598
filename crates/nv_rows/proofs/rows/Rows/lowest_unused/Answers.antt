use Rattle.std.proofs.Common.{◌≡◌, ◌≢◌, ℕ, sym, ◌∙◌}
use Rattle.nv_rows.proofs.LowestPlace.{Begins, all_used, lowest}
use Rattle.nv_rows.proofs.rows.Rows.lowest_unused.Goals as goal
use Rattle.nv_rows.proofs.rows.Rows.lowest_unused.Goals.{then-cpu-eq0, else-cpu-eq0}

begins_one : (cpu from : ℕ) → cpu ≡ 0 → from ≡ 1 → Begins cpu from
begins_one cpu from zero is = record { first = λ z. is; later = λ d. absurd (d zero) }

begins_none : (cpu from : ℕ) → cpu ≢ 0 → from ≡ 0 → Begins cpu from
begins_none cpu from some is = record { first = λ z. absurd (some z); later = λ d. is }

pub returns-then-place-size : goal.returns-then-place-size
returns-then-place-size c =
    let t = c.self.inside in
    let cpu_below = rw (← c.self.view_is) at c.requires in
    let found = c.first_unused-place.ensures in
    let begins : Begins c.args.cpu c.if-cpu-eq0.from = elim c.if-cpu-eq0.branch [
      | then-cpu-eq0 w ↦ begins_one c.args.cpu c.if-cpu-eq0.from w.if-cpu-eq0.true w.from-is
      | else-cpu-eq0 w ↦ begins_none c.args.cpu c.if-cpu-eq0.from w.if-cpu-eq0.false w.from-is
    ] in
    rw (← c.self.view_is)
    (all_used t.sup t.rows.slots t.used c.self.invariant c.args.cpu cpu_below c.if-cpu-eq0.from begins c.first_unused-place.result found.order.0 found.order.1 found.used (c.if-place-size.true ∙ c.size-size.ensures.value))

pub returns : goal.returns
returns c =
    let t = c.self.inside in
    let cpu_below = rw (← c.self.view_is) at c.requires in
    let found = c.first_unused-place.ensures in
    let begins : Begins c.args.cpu c.if-cpu-eq0.from = elim c.if-cpu-eq0.branch [
      | then-cpu-eq0 w ↦ begins_one c.args.cpu c.if-cpu-eq0.from w.if-cpu-eq0.true w.from-is
      | else-cpu-eq0 w ↦ begins_none c.args.cpu c.if-cpu-eq0.from w.if-cpu-eq0.false w.from-is
    ] in
    rw (← c.self.view_is)
    (lowest t.sup t.rows.slots t.used c.self.invariant c.args.cpu cpu_below c.if-cpu-eq0.from begins c.first_unused-place.result found.order.0 found.order.1 found.used (λ e. c.if-place-size.false (e ∙ sym c.size-size.ensures.value)) found.unused)
