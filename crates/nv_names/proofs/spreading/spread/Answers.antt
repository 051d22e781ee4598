use Rattle.std.proofs.Common.{◌≡◌, ◌++◌, length, map, ap, ◌∙◌, arith}
use Rattle.std.proofs.lemmas.List.{with_items_is}
use Rattle.nv_names.specs.Buckets.{all_lines}
use Rattle.nv_names.specs.Names.{line_of}
use Rattle.nv_names.proofs.Spreads.{moves_begin, moves_on, moves_end}
use Rattle.nv_names.proofs.spreading.spread.Goals as goal

pub loop-line-init : goal.loop-line-init
loop-line-init c = record {
  moves = moves_begin c.args.one.now (all_lines c.in_ok-many.many.items) c.push_lines.new.listed.items c.in_ok-many.ensures.none
      (c.in_ok-push_lines.ensures ∙ ap (λ lines. map line_of lines ++ c.args.one.now) c.in_ok-listed.ensures.items) c.len.ensures.each_once;
  many = c.in_ok-many.ensures.many;
  some = c.in_ok-many.ensures.some;
}

pub put_among-requires-clause-many : goal.put_among-requires-clause-many
put_among-requires-clause-many c = rw c.as_mut_slice.ensures.value c.loop-line.invariant.many

pub loop-line-preserved : goal.loop-line-preserved
loop-line-preserved c =
    let same : length c.put_among.new.buckets ≡ c.loop-line.many.len = omega arith in
    let items = with_items_is c.loop-line.many c.put_among.new.buckets same in
    let a = ap all_lines c.as_mut_slice.ensures.value in
    record {
      moves = rw items (moves_on c.args.one.now (all_lines c.as_mut_slice.result.now) (all_lines c.put_among.new.buckets) c.loop-line.listed.items c.pop.new.self.items c.in-Some.line c.in_ok-_had._had
          (rw a c.loop-line.invariant.moves) c.in-Some.ensures.items c.in_ok-_had.ensures.had c.in_ok-_had.ensures.ok c.in_ok-_had.ensures.more);
      many = rw items c.put_among.ensures.many;
      some = c.loop-line.invariant.some;
    }

pub returns-clause-names : goal.returns-clause-names
returns-clause-names c = (moves_end c.args.one.now (all_lines c.loop-line.many.items) c.loop-line.listed.items c.loop-line.invariant.moves (omega (arith, c.in_default.ensures.cases))).0

pub returns-clause-len : goal.returns-clause-len
returns-clause-len c = (moves_end c.args.one.now (all_lines c.loop-line.many.items) c.loop-line.listed.items c.loop-line.invariant.moves (omega (arith, c.in_default.ensures.cases))).1
