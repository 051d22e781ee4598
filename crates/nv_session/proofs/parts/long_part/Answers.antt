use Rattle.std.proofs.Common.{List, ℕ, ◌++◌, ◌∙◌, ap, refl, arith}
use Rattle.nv_session.proofs.parts.long_part.Goals as goal

pub returns : goal.returns
returns c =
    let size = c.in-Some.ensures.1 in
    let left = c.saturating_sub.ensures in
    let shown = c.min-shown.ensures in
    let long = c.if-shown.false in
    record {
      path_is = c.in_ok-extend_from_slice.ensures.items ∙ ap (λ (l : List ℕ). l ++ c.args.path.now) c.new-own.ensures.items;
      offset_is = refl;
      file = c.in-Some.ensures.0;
      within = omega (arith, size, left, shown, long);
      as_many = omega (arith, size, left, shown, long);
    }
