use Rattle.std.proofs.Common.{◌≡◌, refl, List, [], ◌∷◌, ◌++◌, length, reverse, sym, ap, ◌∙◌, arith}
use Rattle.std.proofs.lemmas.List.{length_push, length-reverse, reverse-reverse}
use Rattle.nv_numbered.proofs.ByChunks.{first_moves}
use Rattle.nv_numbered.proofs.chunks.Chunks.push_all.Goals as goal

pub loop-value-init : goal.loop-value-init
loop-value-init g c =
    let values = c.args.values.items in (
      rw (c.reverse.ensures.items, reverse-reverse values) refl,
      omega (arith, ap (λ (l : List g.row.T.Denot). length l) c.reverse.ensures.items, length-reverse values),
    )

pub loop-value-preserved : goal.loop-value-preserved
loop-value-preserved g c =
    let old = c.loop-value.self.items in
    let rest = c.pop.new.self.items in
    let x = c.in-Some.value in
    let split : c.loop-value.values.items ≡ rest ++ x ∷ [] = c.in-Some.ensures.items in (
      ap (λ l. l ++ reverse rest) c.push_reserved.ensures.items
          ∙ first_moves old rest x
          ∙ ap (λ l. old ++ reverse l) (sym split)
          ∙ c.loop-value.invariant.0,
      omega (arith, ap (λ (l : List g.row.T.Denot). length l) split, length_push rest x),
    )
