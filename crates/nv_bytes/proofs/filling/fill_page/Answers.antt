use Rattle.std.proofs.Common.{◌≡◌, ℕ, ◌+◌, ◌-◌, ◌++◌, ◌∙◌, List, ap, append_assoc, arith, drop, length, length-drop, length-take, map, refl, take}
use Rattle.std.specs.List.{range_with_len}
use Rattle.nv_mounted.specs.Bytes.{byte_in}
use Rattle.nv_bytes.proofs.Filled.{filled_more, still_as_long}
use Rattle.nv_bytes.proofs.filling.fill_page.Goals as goal

pub loop-done-preserved : goal.loop-done-preserved
loop-done-preserved g c =
    let f : ℕ → ℕ = byte_in (g.P.Pmem.region c.args.memory.now) c.args.block in
    let buffer = c.loop-done.buffer in
    let done = c.loop-done.done in
    let left = length buffer - done in
    let count = c.fill_some-done.result in
    let within = c.loop-done.invariant.within in
    let room : length (take left (drop done buffer)) ≡ left = simp (length-take, length-drop) (omega arith) in
    let as_long = still_as_long buffer c.fill_some-done.new.buffer done left (omega (arith, within)) (c.fill_some-done.auto.buffer ∙ room) in
    record {
      within = omega (arith, as_long, room, within, c.fill_some-done.ensures.count.1);
      as_long = as_long ∙ c.loop-done.invariant.as_long;
      filled =
          ap (λ (l : List ℕ). take (done + count) (take done buffer ++ (l ++ drop left (drop done buffer)))) c.fill_some-done.ensures.filled
          ∙ ap (λ (l : List ℕ). take (done + count) (take done buffer ++ l)) (append_assoc (map f (range_with_len (c.args.start + done) count)) (drop count (take left (drop done buffer))) (drop left (drop done buffer)))
          ∙ filled_more f c.args.start done count (take done buffer) (map f (range_with_len (c.args.start + done) count)) (drop count (take left (drop done buffer)) ++ drop left (drop done buffer)) c.loop-done.invariant.filled refl;
    }
