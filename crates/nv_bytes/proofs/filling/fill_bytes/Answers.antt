use Rattle.std.proofs.Common.{◌≡◌, ℕ, ◌+◌, ◌-◌, ◌≤◌, ◌∙◌, List, Option, ap, arith, drop, length, length-drop, length-take, map, take}
use Rattle.std.specs.List.{range_with_len}
use Rattle.std.proofs.lemmas.List.FromFn.{length-map-range_with_len}
use Rattle.nv_radix.specs.Pages.{block_at}
use Rattle.nv_mounted.specs.Bytes.{byte_in}
use Rattle.nv_bytes.specs.Bytes.{file_byte}
use Rattle.nv_bytes.proofs.Filled.{on_page_up, page_filled, still_as_long}
use Rattle.nv_bytes.proofs.filling.fill_bytes.Goals as goal

pub loop-done-preserved : goal.loop-done-preserved
loop-done-preserved g c =
    let file : ℕ → ℕ = file_byte (g.P.Pmem.region c.args.memory.now) c.args.index.now in
    let page : ℕ → ℕ = byte_in (g.P.Pmem.region c.args.memory.now) c.get.result in
    let buffer = c.loop-done.buffer in
    let done = c.loop-done.done in
    let stop = c.min-stop.result in
    let at = c.args.offset + done in
    let rises : done ≤ stop = omega (arith, c.min-stop.ensures, c.loop-done-test.true) in
    let inside : stop ≤ length buffer = omega (arith, c.min-stop.ensures) in
    let room : length (take (stop - done) (drop done buffer)) ≡ stop - done = simp (length-take, length-drop) (omega (arith, inside)) in
    let piece : c.fill_page.new.buffer ≡ map page (range_with_len at (stop - done)) = c.fill_page.ensures ∙ ap (λ (n : ℕ). map page (range_with_len at n)) room in
    let as_long = still_as_long buffer c.fill_page.new.buffer done (stop - done) (omega (arith, rises, inside)) (ap (λ (l : List ℕ). length l) piece ∙ length-map-range_with_len page at (stop - done)) in
    record {
      within = omega (arith, as_long, inside);
      as_long = as_long ∙ c.loop-done.invariant.as_long;
      filled =
          page_filled file page c.args.offset done stop (take done buffer) c.fill_page.new.buffer (drop (stop - done) (drop done buffer)) rises c.loop-done.invariant.filled piece
          (λ x low high. ap (λ (o : Option ℕ). byte_in (g.P.Pmem.region c.args.memory.now) o x) (c.get.ensures ∙ ap (block_at c.args.index.now) (on_page_up c.args.offset done (length buffer) stop x c.min-stop.ensures c.loop-done-test.true low high)));
    }
