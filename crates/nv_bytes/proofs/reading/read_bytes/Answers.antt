use Rattle.std.proofs.Common.{ℕ, ◌+◌, ◌*◌, ◌≤◌, ◌-◌, ◌/◌, ap, map, [], Option, ◌∙◌, le_trans}
use Rattle.std.specs.List.{range_with_len}
use Rattle.nv_region.specs.Region.{size}
use Rattle.nv_radix.specs.Pages.{block_at}
use Rattle.nv_mounted.specs.Bytes.{byte_in}
use Rattle.nv_bytes.specs.Bytes.{file_byte}
use Rattle.nv_bytes.proofs.Ranges.{piece_more, same_range, page_on, page_high, page_smaller, on_page, all_read}
use Rattle.nv_bytes.proofs.StoredPages.{of_index}
use Rattle.nv_bytes.proofs.reading.read_bytes.Goals as goal

pub push_page-requires-clause-inside : goal.push_page-requires-clause-inside
push_page-requires-clause-inside g c =
    of_index c.args.index.now (c.loop-at.at / 4096) (λ (b : ℕ). b * 4096 + 4096 ≤ size (g.P.Pmem.region c.args.memory.now)) c.get.result c.get.ensures (c.requires.inside (c.loop-at.at / 4096))

pub push_page-requires-clause-rises : goal.push_page-requires-clause-rises
push_page-requires-clause-rises g c = page_on c.loop-at.at (c.args.offset + c.args.count) c.min-stop.result c.min-stop.ensures c.loop-at-test.true

pub push_page-requires-clause-small : goal.push_page-requires-clause-small
push_page-requires-clause-small g c = le_trans (page_high (c.args.offset + c.args.count) ((c.loop-at.at / 4096 + 1) * 4096) c.min-stop.result c.min-stop.ensures) c.requires.small

pub loop-at-smaller : goal.loop-at-smaller
loop-at-smaller g c = page_smaller c.loop-at.at (c.args.offset + c.args.count) c.min-stop.result c.min-stop.ensures c.loop-at-test.true

pub loop-at-preserved : goal.loop-at-preserved
loop-at-preserved g c =
    let at = c.loop-at.at in
    let end = c.args.offset + c.args.count in
    let stop = c.min-stop.result in
    let on = page_on at end stop c.min-stop.ensures c.loop-at-test.true in
    record {
      low = le_trans c.loop-at.invariant.low on;
      high = page_high end ((at / 4096 + 1) * 4096) stop c.min-stop.ensures;
      items =
          piece_more (file_byte (g.P.Pmem.region c.args.memory.now) c.args.index.now) [] c.loop-at.bytes.items c.push_page.new.bytes.items (map (byte_in (g.P.Pmem.region c.args.memory.now) c.get.result) (range_with_len at (stop - at))) c.args.offset at stop c.loop-at.invariant.low on c.loop-at.invariant.items c.in_ok-push_page.ensures
          (same_range _ _ at (stop - at) (λ x low high. ap (λ (o : Option ℕ). byte_in (g.P.Pmem.region c.args.memory.now) o x) (c.get.ensures ∙ ap (block_at c.args.index.now) (on_page at end stop x c.min-stop.ensures low high))));
    }

pub returns : goal.returns
returns g c =
    c.loop-at.invariant.items ∙ ap (λ (n : ℕ). map (file_byte (g.P.Pmem.region c.args.memory.now) c.args.index.now) (range_with_len c.args.offset n)) (all_read c.loop-at.at c.args.offset c.args.count c.loop-at-test.false c.loop-at.invariant.high)
