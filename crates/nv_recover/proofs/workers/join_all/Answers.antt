use Rattle.std.proofs.Common.{List, ◌≡◌, ◌++◌, ◌+◌, ◌<◌, Some, vec_len, sym, ap, ◌∙◌, subst, arith}
use Rattle.std.specs.Prelude.{Vec}
use Rattle.std.specs.declared.alloc.Global.{Global}
use Rattle.std.specs.List.Sorted.{IsPermutation}
use Rattle.std.proofs.lemmas.List.Elements.{All-pop}
use Rattle.std.proofs.lemmas.List.Sorted.{IsPermutation-refl, IsPermutation-trans, IsPermutation-append_left}
use Rattle.nv_numbered.specs.Chunked.{Chunked, by_chunks}
use Rattle.nv_numbered.proofs.ByChunks.{by_chunks-permutes}
use Rattle.nv_region.specs.Region.{Region}
use Rattle.nv_super.specs.Layout.{Layout}
use Rattle.nv_super.specs.declared.faults.Fault.{Fault}
use Rattle.nv_claimcore.specs.declared.view.View.{View}
use Rattle.nv_claimcore.specs.Claims.{past, both_views}
use Rattle.nv_claimcore.proofs.Runs.{past_both}
use Rattle.nv_claimmap.specs.Held.{Held}
use Rattle.nv_scan.specs.Tickets.{ticket_count}
use Rattle.nv_scan.specs.Work.{Returned, IsWork}
use Rattle.nv_scan.specs.declared.piece.Row.{Row}
use Rattle.nv_scan.proofs.Work.{work_joins}
use Rattle.nv_recover.specs.Workers.{IsKeptWork}
use Rattle.nv_recover.proofs.workers.join_all.Goals as goal

-- the work of one seat, with its rows as they are listed
kept_first : {R : Region} {l : Layout} {v w : View} {rows new : List Row} {faults after : List Fault} → w ≡ v → new ≡ rows → after ≡ faults → IsWork R l v rows faults → IsKeptWork R l w new after
kept_first {R} {l} {v} {w} {rows} {new} {faults} {after} one two three work = record {
  listed = new;
  work = subst (λ (z : View × List Row × List Fault). IsWork R l z.0 z.1 z.2) (sym (λ i. (one i, two i, three i))) work;
  kept = IsPermutation-refl new;
}

-- with the work of another seat, whose rows come among the others
kept_more : {R : Region} {l : Layout} {v u w : View} {rows more new : List Row} {faults others after : List Fault} → w ≡ both_views v u → new ≡ by_chunks rows more → after ≡ faults ++ others
    → IsKeptWork R l v rows faults → IsWork R l u more others → IsKeptWork R l w new after
kept_more {R} {l} {v} {u} {w} {rows} {more} {new} {faults} {others} {after} one two three work next = record {
  listed = work.listed ++ more;
  work = subst (λ (z : View × List Fault). IsWork R l z.0 (work.listed ++ more) z.1) (sym (λ i. (one i, three i))) (work_joins R l v u work.listed more faults others work.work next);
  kept = IsPermutation-trans (work.listed ++ more) (rows ++ more) new (IsPermutation-append_left more work.listed rows work.kept) (subst (IsPermutation (rows ++ more)) (sym two) (by_chunks-permutes rows more));
}

items : {A : Type 0} {v w : Vec A Global} → v ≡ w → v.items ≡ w.items
items same = ap (λ v. v.items) same

pub loop-next-init : goal.loop-next-init
loop-next-init g c =
    let R = g.P.Pmem.region c.args._memory.now in
    let lay = c.args._tables.now.layout in
    let split = All-pop (Returned R lay c.args.map.now) c.args.results.items c.pop.new.self.items (Some c.in-Some.first) c.in-Some.ensures.items c.requires.each in
    let first = split.1 in
    let whole = c.in_ok-seat.ensures.whole in
    let same = c.in_ok-seat.ensures.seat in
    let one : c.in_ok-seat.seat.view.seats ≡ 1 = ap (λ (h : Held). h.view.seats) same ∙ first.seats in
    let len : vec_len c.args.results ≡ vec_len c.pop.new.self + 1 = sym c.in-Some.ensures.len in record {
      map = ap (λ (h : Held). h.map) same ∙ first.map;
      seats = omega (arith, one, len);
      rest = split.0;
      ended = subst (λ (h : Held). 0 < past (ticket_count lay) h.view.numbers) (sym same) (first.ended whole);
      work = kept_first (ap (λ (h : Held). h.view) same) (ap (λ (rows : Chunked Row). rows.items) c.in_ok-seat.ensures.rows) (items c.in_ok-seat.ensures.faults) (first.work whole);
    }

pub join_next-requires-clause-other : goal.join_next-requires-clause-other
join_next-requires-clause-other g c =
    let l = c.loop-next in
    (All-pop (Returned (g.P.Pmem.region c.args._memory.now) c.args._tables.now.layout c.args.map.now) l.results.items c.pop-in-loop-next.new.self.items (Some c.in-Some-pop.next) c.in-Some-pop.ensures.items l.invariant.rest).1.map

pub loop-next-preserved : goal.loop-next-preserved
loop-next-preserved g c =
    let R = g.P.Pmem.region c.args._memory.now in
    let lay = c.args._tables.now.layout in
    let l = c.loop-next in
    let joins = c.in_ok-seat-2.ensures in
    let pop = c.in-Some-pop.ensures in
    let split = All-pop (Returned R lay c.args.map.now) l.results.items c.pop-in-loop-next.new.self.items (Some c.in-Some-pop.next) pop.items l.invariant.rest in
    let next = split.1 in
    let seats : _ ≡ l.seat.view.seats + c.in-Some-pop.next.seat.view.seats = ap (λ (v : View). v.seats) joins.view in
    let one = next.seats in
    let len : vec_len l.results ≡ vec_len c.pop-in-loop-next.new.self + 1 = sym pop.len in record {
      map = joins.map ∙ l.invariant.map;
      seats = omega (arith, seats, one, len, l.invariant.seats);
      rest = split.0;
      ended = subst (λ (v : View). 0 < past (ticket_count lay) v.numbers) (sym joins.view) (let sum = past_both (ticket_count lay) l.seat.view.numbers c.in-Some-pop.next.seat.view.numbers in omega (arith, sum, l.invariant.ended));
      work = kept_more joins.view joins.rows joins.faults l.invariant.work (next.work joins.whole);
    }
