use Rattle.std.proofs.Common.{◌≡◌, ◌+◌, ◌-◌, ◌*◌, ◌/◌, ◌++◌, ◌∙◌, ℕ, List, ap, append_assoc, arith, drop, length, length-drop, length-take, map, take}
use Rattle.std.specs.List.{range_with_len}
use Rattle.nv_region.specs.Region.{region_of}
use Rattle.nv_bytes.specs.Bytes.{file_byte}
use Rattle.nv_bytes.proofs.Filled.{filled_more, still_as_long}
use Rattle.nv_pages.proofs.pages.fill_pages.Goals as goal

pub loop-done-preserved : goal.loop-done-preserved
loop-done-preserved g c =
    let buffer = c.loop-done.buffer in
    let done = c.loop-done.done in
    let left = length buffer - done in
    let run = c.fill_run.new.buffer in
    let count = c.in_ok-count.count in
    let within = c.loop-done.invariant.within in
    let room : length (take left (drop done buffer)) ≡ left = simp (length-take, length-drop) (omega arith) in
    let as_long = still_as_long buffer run done left (omega (arith, within)) (c.fill_run.auto.buffer ∙ room) in
    record {
      within = omega (arith, as_long, room, within, c.in_ok-count.ensures.count.1);
      page = omega (arith, c.loop-done.invariant.page, c.in_ok-count.ensures.count.2);
      as_long = as_long ∙ c.loop-done.invariant.as_long;
      filled = λ image known.
          let f = file_byte (region_of image) c.args.index.now in
          let first = c.args.first in
          ap (λ (l : List ℕ). take (done + count) (take done buffer ++ (l ++ drop left (drop done buffer)))) (c.in_ok-count.ensures.filled image known)
          ∙ ap (λ (l : List ℕ). take (done + count) (take done buffer ++ l)) (append_assoc (map f (range_with_len (4096 * (first + done / 4096)) count)) (drop count (take left (drop done buffer))) (drop left (drop done buffer)))
          ∙ filled_more f (4096 * first) done count (take done buffer) (map f (range_with_len (4096 * (first + done / 4096)) count)) (drop count (take left (drop done buffer)) ++ drop left (drop done buffer)) (c.loop-done.invariant.filled image known)
          (ap (λ (a : ℕ). map f (range_with_len a count)) (let e : 4096 * (first + done / 4096) ≡ 4096 * first + done = omega (arith, c.loop-done.invariant.page) in e));
    }
