use Rattle.std.proofs.Common.{refl, arith, map, ◌-◌, ◌≤◌}
use Rattle.std.specs.List.{range_with_len}
use Rattle.nv_mounted.specs.Bytes.{byte_in}
use Rattle.nv_bytes.proofs.Ranges.{piece_more}
use Rattle.nv_bytes.proofs.reading.push_page.Goals as goal

pub loop-at-preserved : goal.loop-at-preserved
loop-at-preserved g c =
    let place = c.in_ok-at.ensures.place in
    let on : c.loop-at.at ≤ c.in_ok-at.at = omega (arith, place) in
    record {
      low = omega (arith, c.loop-at.invariant.low, on);
      high = place.1;
      items = piece_more (byte_in (g.P.Pmem.region c.args.memory.now) c.args.block) c.args.bytes.now.items c.loop-at.bytes.items c.push_some.new.bytes.items (map (byte_in (g.P.Pmem.region c.args.memory.now) c.args.block) (range_with_len c.loop-at.at (c.in_ok-at.at - c.loop-at.at))) c.args.start c.loop-at.at c.in_ok-at.at c.loop-at.invariant.low on c.loop-at.invariant.items c.in_ok-at.ensures.added
          (refl {a = map (byte_in (g.P.Pmem.region c.args.memory.now) c.args.block) (range_with_len c.loop-at.at (c.in_ok-at.at - c.loop-at.at))});
    }
