use Rattle.std.proofs.Common.{◌≡◌, ◌∙◌, ◌≤◌, ℕ, false, Option, Some, None, inl, inr, refl, ap, subst, sym, arith}
use Rattle.std.specs.Option.{option_and_then, option_map_or}
use Rattle.std.proofs.lemmas.Option.{same_Some}
use Rattle.std.proofs.lemmas.Result.{IfErr-weaker, on_ok_weaker}
use Rattle.nv_region.specs.Stops.{LeavesOnly}
use Rattle.nv_region.proofs.Stops.{fenced_leaves}
use Rattle.nv_alloc.specs.Taking.{all_blocks}
use Rattle.nv_entry.specs.declared.entry.Operation.TheVariants.{Remove}
use Rattle.nv_scan.specs.declared.piece.Row.{Row}
use Rattle.nv_rows.specs.Rows.{place_in, row_of}
use Rattle.nv_rows.proofs.Places.{numbered, places_apart, row_in_use}
use Rattle.nv_commit.specs.Stopped.{LeavesEither}
use Rattle.nv_commit.proofs.Left.{itself_recovers}
use Rattle.nv_tree.specs.declared.refusal.Refusal.{Refusal}
use Rattle.nv_steps.specs.InOrder.{TailIsFirst, tail_address}
use Rattle.nv_steps.specs.NameEntries.{name_entries}
use Rattle.nv_steps.specs.NewNames.{CanName}
use Rattle.nv_steps.specs.Steps.{RefusesStep}
use Rattle.nv_steps.specs.Stores.{Places, StoresIn, one_less, one_log, three_logs, two_less, two_logs}
use Rattle.nv_steps.specs.Takes.{take_entries}
use Rattle.nv_steps.proofs.RowsAt.{same_rows}
use Rattle.nv_calls.specs.MoveCalls.{move_blocks}
use Rattle.nv_calls.specs.ReplaceCalls.{HandsInOrder, ReplacedAt, ReplacedHere, ReplacedOver, ReplacesAt, ReplacesHere, keeps_others, keeps_others_at, replace_count}
use Rattle.nv_calls.specs.ReplaceStores.{last_word}
use Rattle.nv_calls.specs.Stopped.{Renamed}
use Rattle.nv_calls.proofs.ReplaceCount.{count_here, count_one, count_over, row_there}
use Rattle.nv_calls.proofs.ReplacePlaces.{free_places, here_places, last_by, over_places}
use Rattle.nv_calls.proofs.Stopped.{left_made}
use Rattle.nv_calls.proofs.replace.replace_at.Goals as goal

pub replace_over-requires : goal.replace_over-requires
replace_over-requires g c =
    record {
      take = record {
        move = record { from = c.requires.from; directory = c.requires.directory; stands = c.requires.stands; to_stands = c.requires.other_stands; name = c.requires.name; other = c.requires.other };
        there = c.requires.there c.in-Some.there c.in-Some.is;
        apart = (let both = c.requires.apart c.in-Some.there c.in-Some.is c.if-there-moved.false in (c.if-moved.true, both.0, both.1));
        number = c.requires.number c.in-Some.there c.in-Some.is;
        owns = λ row at. c.requires.owns c.in-Some.there row c.in-Some.is at;
      };
      there_stands = λ row at. c.requires.there_stands c.in-Some.there row c.in-Some.is at;
    }

pub replace_within-requires : goal.replace_within-requires
replace_within-requires g c =
    record {
      release = record {
        directory = c.requires.directory;
        target = c.requires.there c.in-Some.there c.in-Some.is;
        apart = (let both = c.requires.apart c.in-Some.there c.in-Some.is c.if-there-moved.false in both.1);
        stands = c.requires.other_stands;
        file_stands = λ row at. c.requires.there_stands c.in-Some.there row c.in-Some.is at;
        can = λ row file at file_at.
            let number = numbered c.args.rows.now.items c.in-Some.there file file_at in
            let both = c.requires.apart c.in-Some.there c.in-Some.is c.if-there-moved.false in
            (subst (λ (n : ℕ). CanName (g.P.Pmem.region c.args.memory.now) c.args.tables.now.layout c.args.cpu n row) (sym number) (c.requires.can c.in-Some.there row c.in-Some.is at), λ same. both.1 (sym (numbered c.args.rows.now.items c.args.moved.now.directory row at) ∙ same ∙ number));
        owns = λ row at. c.requires.owns c.in-Some.there row c.in-Some.is at;
        name = c.requires.name;
      };
      other = c.requires.other;
    }

pub returns-in_default-clause-replaced : goal.returns-in_default-clause-replaced
returns-in_default-clause-replaced g c =
    on_ok_weaker c.move_at.result (λ step. subst (λ (o : Option ℕ). ReplacesAt (g.P.Pmem.region c.args.memory.now) (g.P.Pmem.region c.move_at.new.memory) c.args.tables.now.layout c.args.free.now c.move_at.new.free c.args.cpu c.args.rows.now.items c.move_at.new.rows.items (place_in c.args.rows.now.items c.args.moved.now.from.directory) (place_in c.args.rows.now.items c.args.moved.now.from.target) (place_in c.args.rows.now.items c.args.moved.now.directory) o c.args.moved.now.from.target c.args.moved.now.from.name.now c.args.moved.now.name.now c.args.time) (sym c.in_default.is) step) c.move_at.ensures.moved

pub returns-then-there-moved-clause-replaced : goal.returns-then-there-moved-clause-replaced
returns-then-there-moved-clause-replaced g c =
    subst (λ (o : Option ℕ). ReplacesAt (g.P.Pmem.region c.args.memory.now) (g.P.Pmem.region c.args.memory.now) c.args.tables.now.layout c.args.free.now c.args.free.now c.args.cpu c.args.rows.now.items c.args.rows.now.items (place_in c.args.rows.now.items c.args.moved.now.from.directory) (place_in c.args.rows.now.items c.args.moved.now.from.target) (place_in c.args.rows.now.items c.args.moved.now.directory) o c.args.moved.now.from.target c.args.moved.now.from.name.now c.args.moved.now.name.now c.args.time) (sym c.in-Some.is) (inl (c.if-there-moved.true, (refl, refl, refl)))

pub returns-then-moved-clause-replaced : goal.returns-then-moved-clause-replaced
returns-then-moved-clause-replaced g c =
    on_ok_weaker c.replace_over.result (λ step. subst (λ (o : Option ℕ). ReplacesAt (g.P.Pmem.region c.args.memory.now) (g.P.Pmem.region c.replace_over.new.memory) c.args.tables.now.layout c.args.free.now c.replace_over.new.free c.args.cpu c.args.rows.now.items c.replace_over.new.rows.items (place_in c.args.rows.now.items c.args.moved.now.from.directory) (place_in c.args.rows.now.items c.args.moved.now.from.target) (place_in c.args.rows.now.items c.args.moved.now.directory) o c.args.moved.now.from.target c.args.moved.now.from.name.now c.args.moved.now.name.now c.args.time) (sym c.in-Some.is) (inr (c.if-there-moved.false, inr ((places_apart c.args.rows.now.items c.args.moved.now.from.directory c.args.moved.now.directory c.requires.from c.requires.directory c.if-moved.true), step)))) c.replace_over.ensures.replaced

pub returns-clause-replaced : goal.returns-clause-replaced
returns-clause-replaced g c =
    on_ok_weaker c.replace_within.result (λ step. subst (λ (o : Option ℕ). ReplacesAt (g.P.Pmem.region c.args.memory.now) (g.P.Pmem.region c.replace_within.new.memory) c.args.tables.now.layout c.args.free.now c.replace_within.new.free c.args.cpu c.args.rows.now.items c.replace_within.new.rows.items (place_in c.args.rows.now.items c.args.moved.now.from.directory) (place_in c.args.rows.now.items c.args.moved.now.from.target) (place_in c.args.rows.now.items c.args.moved.now.directory) o c.args.moved.now.from.target c.args.moved.now.from.name.now c.args.moved.now.name.now c.args.time) (sym c.in-Some.is) (inr (
      c.if-there-moved.false,
      inl (
        (ap (place_in c.args.rows.now.items) c.if-moved.false),
        subst (λ (p : ℕ). ReplacesHere (g.P.Pmem.region c.args.memory.now) (g.P.Pmem.region c.replace_within.new.memory) c.args.tables.now.layout c.args.free.now c.replace_within.new.free c.args.cpu c.args.rows.now.items c.replace_within.new.rows.items p (place_in c.args.rows.now.items c.in-Some.there) c.args.moved.now.from.target c.args.moved.now.from.name.now c.args.moved.now.name.now c.args.time) (sym (ap (place_in c.args.rows.now.items) c.if-moved.false)) step,
      ),
    ))) c.replace_within.ensures.replaced

pub returns-in_default-clause-needs : goal.returns-in_default-clause-needs
returns-in_default-clause-needs g c from to at to_at =
    record {
      enough =
          let inode = row_in_use c.args.rows.now.items c.args.moved.now.from.target c.requires.target in
          let number = numbered c.args.rows.now.items c.args.moved.now.from.target inode.0 inode.1 in
          let same : move_blocks (place_in c.args.rows.now.items c.args.moved.now.from.directory) (place_in c.args.rows.now.items c.args.moved.now.directory) from to inode.0.inode c.args.moved.now.from.name.now c.args.moved.now.name.now c.args.time ≡ replace_count (place_in c.args.rows.now.items c.args.moved.now.from.directory) (place_in c.args.rows.now.items c.args.moved.now.directory) from to (option_and_then (row_of c.args.rows.now.items) c.args.had) c.args.moved.now.from.target c.args.moved.now.from.name.now c.args.moved.now.name.now c.args.time = ap (λ (n : ℕ). move_blocks (place_in c.args.rows.now.items c.args.moved.now.from.directory) (place_in c.args.rows.now.items c.args.moved.now.directory) from to n c.args.moved.now.from.name.now c.args.moved.now.name.now c.args.time) number ∙ ap (λ (o : Option ℕ). replace_count (place_in c.args.rows.now.items c.args.moved.now.from.directory) (place_in c.args.rows.now.items c.args.moved.now.directory) from to (option_and_then (row_of c.args.rows.now.items) o) c.args.moved.now.from.target c.args.moved.now.from.name.now c.args.moved.now.name.now c.args.time) (sym c.in_default.is) in
          on_ok_weaker c.move_at.result (subst (λ (n : ℕ). n ≤ all_blocks c.args.free.now.pools) same) (c.move_at.ensures.enough from to inode.0 at to_at inode.1);
      refused =
          let inode = row_in_use c.args.rows.now.items c.args.moved.now.from.target c.requires.target in
          let number = numbered c.args.rows.now.items c.args.moved.now.from.target inode.0 inode.1 in
          let same : move_blocks (place_in c.args.rows.now.items c.args.moved.now.from.directory) (place_in c.args.rows.now.items c.args.moved.now.directory) from to inode.0.inode c.args.moved.now.from.name.now c.args.moved.now.name.now c.args.time ≡ replace_count (place_in c.args.rows.now.items c.args.moved.now.from.directory) (place_in c.args.rows.now.items c.args.moved.now.directory) from to (option_and_then (row_of c.args.rows.now.items) c.args.had) c.args.moved.now.from.target c.args.moved.now.from.name.now c.args.moved.now.name.now c.args.time = ap (λ (n : ℕ). move_blocks (place_in c.args.rows.now.items c.args.moved.now.from.directory) (place_in c.args.rows.now.items c.args.moved.now.directory) from to n c.args.moved.now.from.name.now c.args.moved.now.name.now c.args.time) number ∙ ap (λ (o : Option ℕ). replace_count (place_in c.args.rows.now.items c.args.moved.now.from.directory) (place_in c.args.rows.now.items c.args.moved.now.directory) from to (option_and_then (row_of c.args.rows.now.items) o) c.args.moved.now.from.target c.args.moved.now.from.name.now c.args.moved.now.name.now c.args.time) (sym c.in_default.is) in
          IfErr-weaker c.move_at.result _ _ (λ (e : Refusal) refused. subst (λ (n : ℕ). RefusesStep e n c.args.free.now) same refused) (c.move_at.ensures.refused from to inode.0 at to_at inode.1);
    }

pub returns-then-there-moved-clause-needs : goal.returns-then-there-moved-clause-needs
returns-then-there-moved-clause-needs g c from to at to_at =
    record {
      enough =
          let file = row_in_use c.args.rows.now.items c.in-Some.there (c.requires.there c.in-Some.there c.in-Some.is) in
          let number = numbered c.args.rows.now.items c.in-Some.there file.0 file.1 in
          subst (λ (n : ℕ). n ≤ all_blocks c.args.free.now.pools) (sym (sym (ap (λ (o : Option Row). replace_count (place_in c.args.rows.now.items c.args.moved.now.from.directory) (place_in c.args.rows.now.items c.args.moved.now.directory) from to o c.args.moved.now.from.target c.args.moved.now.from.name.now c.args.moved.now.name.now c.args.time) (sym (row_there c.args.rows.now.items c.args.had c.in-Some.there file.0 c.in-Some.is file.1))) ∙ count_one (place_in c.args.rows.now.items c.args.moved.now.from.directory) (place_in c.args.rows.now.items c.args.moved.now.directory) from to file.0 c.args.moved.now.from.target c.args.moved.now.from.name.now c.args.moved.now.name.now c.args.time (number ∙ c.if-there-moved.true))) (omega arith);
      refused =
          tt;
    }

pub returns-then-moved-clause-needs : goal.returns-then-moved-clause-needs
returns-then-moved-clause-needs g c from to at to_at =
    record {
      enough =
          let file = row_in_use c.args.rows.now.items c.in-Some.there (c.requires.there c.in-Some.there c.in-Some.is) in
          let number = numbered c.args.rows.now.items c.in-Some.there file.0 file.1 in
          let same = count_over (place_in c.args.rows.now.items c.args.moved.now.from.directory) (place_in c.args.rows.now.items c.args.moved.now.directory) from to file.0 c.args.moved.now.from.target c.args.moved.now.from.name.now c.args.moved.now.name.now c.args.time (λ same. c.if-there-moved.false (sym number ∙ same)) (places_apart c.args.rows.now.items c.args.moved.now.from.directory c.args.moved.now.directory c.requires.from c.requires.directory c.if-moved.true) ∙ ap (λ (o : Option Row). replace_count (place_in c.args.rows.now.items c.args.moved.now.from.directory) (place_in c.args.rows.now.items c.args.moved.now.directory) from to o c.args.moved.now.from.target c.args.moved.now.from.name.now c.args.moved.now.name.now c.args.time) (sym (row_there c.args.rows.now.items c.args.had c.in-Some.there file.0 c.in-Some.is file.1)) in
          on_ok_weaker c.replace_over.result (subst (λ (n : ℕ). n ≤ all_blocks c.args.free.now.pools) same) (c.replace_over.ensures.needs from to file.0 at to_at file.1).enough;
      refused =
          let file = row_in_use c.args.rows.now.items c.in-Some.there (c.requires.there c.in-Some.there c.in-Some.is) in
          let number = numbered c.args.rows.now.items c.in-Some.there file.0 file.1 in
          let same = count_over (place_in c.args.rows.now.items c.args.moved.now.from.directory) (place_in c.args.rows.now.items c.args.moved.now.directory) from to file.0 c.args.moved.now.from.target c.args.moved.now.from.name.now c.args.moved.now.name.now c.args.time (λ same. c.if-there-moved.false (sym number ∙ same)) (places_apart c.args.rows.now.items c.args.moved.now.from.directory c.args.moved.now.directory c.requires.from c.requires.directory c.if-moved.true) ∙ ap (λ (o : Option Row). replace_count (place_in c.args.rows.now.items c.args.moved.now.from.directory) (place_in c.args.rows.now.items c.args.moved.now.directory) from to o c.args.moved.now.from.target c.args.moved.now.from.name.now c.args.moved.now.name.now c.args.time) (sym (row_there c.args.rows.now.items c.args.had c.in-Some.there file.0 c.in-Some.is file.1)) in
          IfErr-weaker c.replace_over.result _ _ (λ (e : Refusal) refused. subst (λ (n : ℕ). RefusesStep e n c.args.free.now) same refused) (c.replace_over.ensures.needs from to file.0 at to_at file.1).refused;
    }

pub returns-clause-needs : goal.returns-clause-needs
returns-clause-needs g c from to at to_at =
    record {
      enough =
          let file = row_in_use c.args.rows.now.items c.in-Some.there (c.requires.there c.in-Some.there c.in-Some.is) in
          let number = numbered c.args.rows.now.items c.in-Some.there file.0 file.1 in
          let same = count_here (place_in c.args.rows.now.items c.args.moved.now.from.directory) (place_in c.args.rows.now.items c.args.moved.now.directory) from to file.0 c.args.moved.now.from.target c.args.moved.now.from.name.now c.args.moved.now.name.now c.args.time (λ same. c.if-there-moved.false (sym number ∙ same)) (ap (place_in c.args.rows.now.items) c.if-moved.false) ∙ ap (λ (o : Option Row). replace_count (place_in c.args.rows.now.items c.args.moved.now.from.directory) (place_in c.args.rows.now.items c.args.moved.now.directory) from to o c.args.moved.now.from.target c.args.moved.now.from.name.now c.args.moved.now.name.now c.args.time) (sym (row_there c.args.rows.now.items c.args.had c.in-Some.there file.0 c.in-Some.is file.1)) in
          on_ok_weaker c.replace_within.result (subst (λ (n : ℕ). n ≤ all_blocks c.args.free.now.pools) same) (c.replace_within.ensures.needs from file.0 (sym (ap (row_of c.args.rows.now.items) c.if-moved.false) ∙ at) file.1).enough;
      refused =
          let file = row_in_use c.args.rows.now.items c.in-Some.there (c.requires.there c.in-Some.there c.in-Some.is) in
          let number = numbered c.args.rows.now.items c.in-Some.there file.0 file.1 in
          let same = count_here (place_in c.args.rows.now.items c.args.moved.now.from.directory) (place_in c.args.rows.now.items c.args.moved.now.directory) from to file.0 c.args.moved.now.from.target c.args.moved.now.from.name.now c.args.moved.now.name.now c.args.time (λ same. c.if-there-moved.false (sym number ∙ same)) (ap (place_in c.args.rows.now.items) c.if-moved.false) ∙ ap (λ (o : Option Row). replace_count (place_in c.args.rows.now.items c.args.moved.now.from.directory) (place_in c.args.rows.now.items c.args.moved.now.directory) from to o c.args.moved.now.from.target c.args.moved.now.from.name.now c.args.moved.now.name.now c.args.time) (sym (row_there c.args.rows.now.items c.args.had c.in-Some.there file.0 c.in-Some.is file.1)) in
          IfErr-weaker c.replace_within.result _ _ (λ (e : Refusal) refused. subst (λ (n : ℕ). RefusesStep e n c.args.free.now) same refused) (c.replace_within.ensures.needs from file.0 (sym (ap (row_of c.args.rows.now.items) c.if-moved.false) ∙ at) file.1).refused;
    }

pub returns-in_default-clause-any_stop : goal.returns-in_default-clause-any_stop
returns-in_default-clause-any_stop g c from to held h k at to_at here other none seen =
    let inode = row_in_use c.args.rows.now.items c.args.moved.now.from.target c.requires.target in
    let number = numbered c.args.rows.now.items c.args.moved.now.from.target inode.0 inode.1 in
    subst (λ (o : Option ℕ). LeavesOnly (g.P.Pmem.region c.move_at.new.memory) (g.P.Pmem.may_hold c.move_at.new.memory) (LeavesEither (g.P.Pmem.region c.args.memory.now) c.args.tables.now.layout held (ReplacedAt (g.P.Pmem.region c.args.memory.now) c.args.tables.now.layout c.args.free.now c.args.cpu (place_in c.args.rows.now.items c.args.moved.now.from.directory) (place_in c.args.rows.now.items c.args.moved.now.directory) from to (option_and_then (row_of c.args.rows.now.items) o) c.args.moved.now.from.target c.args.moved.now.from.name.now c.args.moved.now.name.now c.args.time))) (sym c.in_default.is)
    (subst (λ (n : ℕ). LeavesOnly (g.P.Pmem.region c.move_at.new.memory) (g.P.Pmem.may_hold c.move_at.new.memory) (LeavesEither (g.P.Pmem.region c.args.memory.now) c.args.tables.now.layout held (Renamed (g.P.Pmem.region c.args.memory.now) c.args.tables.now.layout c.args.free.now c.args.cpu (place_in c.args.rows.now.items c.args.moved.now.from.directory) (place_in c.args.rows.now.items c.args.moved.now.directory) from to n c.args.moved.now.from.name.now c.args.moved.now.name.now c.args.time))) number
    (c.move_at.ensures.any_stop from to inode.0 held h k at to_at inode.1 here other (none c.in_default.is) c.requires.settled_before))

pub returns-then-there-moved-clause-any_stop : goal.returns-then-there-moved-clause-any_stop
returns-then-there-moved-clause-any_stop g c from to held h k at to_at here other none seen =
    fenced_leaves (g.P.Pmem.region c.args.memory.now) (g.P.Pmem.may_hold c.args.memory.now) (LeavesEither (g.P.Pmem.region c.args.memory.now) c.args.tables.now.layout held (ReplacedAt (g.P.Pmem.region c.args.memory.now) c.args.tables.now.layout c.args.free.now c.args.cpu (place_in c.args.rows.now.items c.args.moved.now.from.directory) (place_in c.args.rows.now.items c.args.moved.now.directory) from to (option_and_then (row_of c.args.rows.now.items) c.args.had) c.args.moved.now.from.target c.args.moved.now.from.name.now c.args.moved.now.name.now c.args.time)) c.requires.settled_before
    (inl (itself_recovers (g.P.Pmem.region c.args.memory.now) c.args.tables.now.layout held here.sound))

pub returns-then-moved-clause-any_stop : goal.returns-then-moved-clause-any_stop
returns-then-moved-clause-any_stop g c from to held h k at to_at here other none seen =
    let file = row_in_use c.args.rows.now.items c.in-Some.there (c.requires.there c.in-Some.there c.in-Some.is) in
    let number = numbered c.args.rows.now.items c.in-Some.there file.0 file.1 in
    let f = seen c.in-Some.there file.0 c.in-Some.is file.1 in
    subst (λ (o : Option Row). LeavesOnly (g.P.Pmem.region c.replace_over.new.memory) (g.P.Pmem.may_hold c.replace_over.new.memory) (LeavesEither (g.P.Pmem.region c.args.memory.now) c.args.tables.now.layout held (ReplacedAt (g.P.Pmem.region c.args.memory.now) c.args.tables.now.layout c.args.free.now c.args.cpu (place_in c.args.rows.now.items c.args.moved.now.from.directory) (place_in c.args.rows.now.items c.args.moved.now.directory) from to o c.args.moved.now.from.target c.args.moved.now.from.name.now c.args.moved.now.name.now c.args.time))) (sym (row_there c.args.rows.now.items c.args.had c.in-Some.there file.0 c.in-Some.is file.1))
    (λ left may. left_made (ReplacedOver (g.P.Pmem.region c.args.memory.now) c.args.tables.now.layout c.args.free.now c.args.cpu from to file.0 c.args.moved.now.from.target c.args.moved.now.from.name.now c.args.moved.now.name.now c.args.time) (ReplacedAt (g.P.Pmem.region c.args.memory.now) c.args.tables.now.layout c.args.free.now c.args.cpu (place_in c.args.rows.now.items c.args.moved.now.from.directory) (place_in c.args.rows.now.items c.args.moved.now.directory) from to (Some file.0) c.args.moved.now.from.target c.args.moved.now.from.name.now c.args.moved.now.name.now c.args.time) (λ T w. ((λ same. c.if-there-moved.false (sym number ∙ same)), inr ((places_apart c.args.rows.now.items c.args.moved.now.from.directory c.args.moved.now.directory c.requires.from c.requires.directory c.if-moved.true), w))) left
    (c.replace_over.ensures.any_stop from to file.0 held h k f.0 at to_at file.1 here other f.1 c.requires.settled_before left may))

pub returns-clause-any_stop : goal.returns-clause-any_stop
returns-clause-any_stop g c from to held h k at to_at here other none seen =
    let file = row_in_use c.args.rows.now.items c.in-Some.there (c.requires.there c.in-Some.there c.in-Some.is) in
    let number = numbered c.args.rows.now.items c.in-Some.there file.0 file.1 in
    let f = seen c.in-Some.there file.0 c.in-Some.is file.1 in
    subst (λ (o : Option Row). LeavesOnly (g.P.Pmem.region c.replace_within.new.memory) (g.P.Pmem.may_hold c.replace_within.new.memory) (LeavesEither (g.P.Pmem.region c.args.memory.now) c.args.tables.now.layout held (ReplacedAt (g.P.Pmem.region c.args.memory.now) c.args.tables.now.layout c.args.free.now c.args.cpu (place_in c.args.rows.now.items c.args.moved.now.from.directory) (place_in c.args.rows.now.items c.args.moved.now.directory) from to o c.args.moved.now.from.target c.args.moved.now.from.name.now c.args.moved.now.name.now c.args.time))) (sym (row_there c.args.rows.now.items c.args.had c.in-Some.there file.0 c.in-Some.is file.1))
    (λ left may. left_made (ReplacedHere (g.P.Pmem.region c.args.memory.now) c.args.tables.now.layout c.args.free.now c.args.cpu from file.0 c.args.moved.now.from.target c.args.moved.now.from.name.now c.args.moved.now.name.now c.args.time) (ReplacedAt (g.P.Pmem.region c.args.memory.now) c.args.tables.now.layout c.args.free.now c.args.cpu (place_in c.args.rows.now.items c.args.moved.now.from.directory) (place_in c.args.rows.now.items c.args.moved.now.directory) from to (Some file.0) c.args.moved.now.from.target c.args.moved.now.from.name.now c.args.moved.now.name.now c.args.time) (λ T w. ((λ same. c.if-there-moved.false (sym number ∙ same)), inl ((ap (place_in c.args.rows.now.items) c.if-moved.false), w))) left
    (c.replace_within.ensures.any_stop from file.0 held h f.0 (sym (ap (row_of c.args.rows.now.items) c.if-moved.false) ∙ at) file.1 here f.1 c.requires.settled_before left may))

pub returns-in_default-clause-same : goal.returns-in_default-clause-same
returns-in_default-clause-same g c is = absurd (let clash : None ≡ Some c.args.moved.now.from.target = sym c.in_default.is ∙ is in cc)

pub returns-then-there-moved-clause-same : goal.returns-then-there-moved-clause-same
returns-then-there-moved-clause-same g c is = (tt, record { memory = refl; free = record { sup = refl; pools = refl }; rows = same_rows c.args.rows.now.items })

pub returns-then-moved-clause-same : goal.returns-then-moved-clause-same
returns-then-moved-clause-same g c is = absurd (let one : Some c.in-Some.there ≡ Some c.args.moved.now.from.target = sym c.in-Some.is ∙ is in c.if-there-moved.false (same_Some _ _ one))

pub returns-clause-same : goal.returns-clause-same
returns-clause-same g c is = absurd (let one : Some c.in-Some.there ≡ Some c.args.moved.now.from.target = sym c.in-Some.is ∙ is in c.if-there-moved.false (same_Some _ _ one))

pub returns-in_default-clause-wrote : goal.returns-in_default-clause-wrote
returns-in_default-clause-wrote g c from to held h k at to_at here other seen =
    let inode = row_in_use c.args.rows.now.items c.args.moved.now.from.target c.requires.target in
    let from_is = numbered c.args.rows.now.items c.args.moved.now.from.directory from at in
    let to_is = numbered c.args.rows.now.items c.args.moved.now.directory to to_at in
    free_places (λ (p : Places). StoresIn c.args.tables.now.layout held p (g.P.Pmem.region c.args.memory.now) (g.P.Pmem.region c.move_at.new.memory)) c.args.tables.now.layout c.args.cpu from.inode to.inode c.args.moved.now.from.target c.args.had (keeps_others_at c.args.rows.now.items c.args.had) c.in_default.is
    (λ same. subst (λ (n : ℕ). StoresIn c.args.tables.now.layout held (one_log c.args.tables.now.layout n) (g.P.Pmem.region c.args.memory.now) (g.P.Pmem.region c.move_at.new.memory)) (sym same) (c.move_at.ensures.within_wrote to held k to_at other (sym from_is ∙ same ∙ to_is)))
    (λ differ. c.move_at.ensures.wrote from to inode.0 held h k at to_at inode.1 here other (places_apart c.args.rows.now.items c.args.moved.now.from.directory c.args.moved.now.directory c.requires.from c.requires.directory (λ same. differ (from_is ∙ same ∙ sym to_is))))

pub returns-then-there-moved-clause-wrote : goal.returns-then-there-moved-clause-wrote
returns-then-there-moved-clause-wrote g c from to held h k at to_at here other seen = λ at whole away. refl

pub returns-then-moved-clause-wrote : goal.returns-then-moved-clause-wrote
returns-then-moved-clause-wrote g c from to held h k at to_at here other seen =
    let file = row_in_use c.args.rows.now.items c.in-Some.there (c.requires.there c.in-Some.there c.in-Some.is) in
    let number = numbered c.args.rows.now.items c.in-Some.there file.0 file.1 in
    let f = seen c.in-Some.there file.0 c.in-Some.is file.1 in
    let from_is = numbered c.args.rows.now.items c.args.moved.now.from.directory from at in
    let to_is = numbered c.args.rows.now.items c.args.moved.now.directory to to_at in
    over_places (λ (p : Places). StoresIn c.args.tables.now.layout held p (g.P.Pmem.region c.args.memory.now) (g.P.Pmem.region c.replace_over.new.memory)) c.args.tables.now.layout c.args.cpu from.inode to.inode c.args.moved.now.from.target c.args.had (keeps_others_at c.args.rows.now.items c.args.had) c.in-Some.there c.in-Some.is (λ same. c.if-there-moved.false (sym same)) (keeps_others file.0)
    (ap (λ (o : Option Row). option_map_or keeps_others o false) (row_there c.args.rows.now.items c.args.had c.in-Some.there file.0 c.in-Some.is file.1)) (λ same. c.if-moved.true (sym from_is ∙ same ∙ to_is))
    (λ on. subst (λ (n : ℕ). StoresIn c.args.tables.now.layout held (three_logs c.args.tables.now.layout c.args.cpu from.inode to.inode n) (g.P.Pmem.region c.args.memory.now) (g.P.Pmem.region c.replace_over.new.memory)) number (c.replace_over.ensures.wrote from to file.0 held h k f.0 at to_at file.1 here other f.1 on))
    (λ off. subst (λ (n : ℕ). StoresIn c.args.tables.now.layout held (two_less c.args.tables.now.layout c.args.cpu from.inode to.inode n) (g.P.Pmem.region c.args.memory.now) (g.P.Pmem.region c.replace_over.new.memory)) number (c.replace_over.ensures.last_wrote from to file.0 held h k at to_at file.1 here other off))

pub returns-clause-wrote : goal.returns-clause-wrote
returns-clause-wrote g c from to held h k at to_at here other seen =
    let file = row_in_use c.args.rows.now.items c.in-Some.there (c.requires.there c.in-Some.there c.in-Some.is) in
    let number = numbered c.args.rows.now.items c.in-Some.there file.0 file.1 in
    let f = seen c.in-Some.there file.0 c.in-Some.is file.1 in
    let from_is = numbered c.args.rows.now.items c.args.moved.now.from.directory from at in
    let to_is = numbered c.args.rows.now.items c.args.moved.now.directory to to_at in
    let here_at = sym (ap (row_of c.args.rows.now.items) c.if-moved.false) ∙ at in
    here_places (λ (p : Places). StoresIn c.args.tables.now.layout held p (g.P.Pmem.region c.args.memory.now) (g.P.Pmem.region c.replace_within.new.memory)) c.args.tables.now.layout c.args.cpu from.inode to.inode c.args.moved.now.from.target c.args.had (keeps_others_at c.args.rows.now.items c.args.had) c.in-Some.there c.in-Some.is (λ same. c.if-there-moved.false (sym same)) (keeps_others file.0)
    (ap (λ (o : Option Row). option_map_or keeps_others o false) (row_there c.args.rows.now.items c.args.had c.in-Some.there file.0 c.in-Some.is file.1)) (from_is ∙ c.if-moved.false ∙ sym to_is)
    (λ on. subst (λ (n : ℕ). StoresIn c.args.tables.now.layout held (two_logs c.args.tables.now.layout c.args.cpu from.inode n) (g.P.Pmem.region c.args.memory.now) (g.P.Pmem.region c.replace_within.new.memory)) number (c.replace_within.ensures.wrote from file.0 held h f.0 here_at file.1 here f.1 on))
    (λ off. subst (λ (n : ℕ). StoresIn c.args.tables.now.layout held (one_less c.args.tables.now.layout c.args.cpu from.inode n) (g.P.Pmem.region c.args.memory.now) (g.P.Pmem.region c.replace_within.new.memory)) number (c.replace_within.ensures.last_wrote from file.0 held h here_at file.1 here off))

pub returns-in_default-clause-free_in_order : goal.returns-in_default-clause-free_in_order
returns-in_default-clause-free_in_order g c from to held h k at to_at here other none differ =
    let inode = row_in_use c.args.rows.now.items c.args.moved.now.from.target c.requires.target in
    let number = numbered c.args.rows.now.items c.args.moved.now.from.target inode.0 inode.1 in
    subst (λ (n : ℕ). TailIsFirst (g.P.Pmem.region c.args.memory.now) (g.P.Pmem.region c.move_at.new.memory) c.args.tables.now.layout c.args.free.now.pools c.args.cpu from.inode from.tail (name_entries Remove n c.args.moved.now.from.name.now c.args.time) (tail_address c.args.tables.now.layout to.inode)) number
    (c.move_at.ensures.in_order from to inode.0 held h k at to_at inode.1 here other (places_apart c.args.rows.now.items c.args.moved.now.from.directory c.args.moved.now.directory c.requires.from c.requires.directory differ))

pub returns-then-there-moved-clause-free_in_order : goal.returns-then-there-moved-clause-free_in_order
returns-then-there-moved-clause-free_in_order g c from to held h k at to_at here other none differ = inl refl

pub returns-then-moved-clause-free_in_order : goal.returns-then-moved-clause-free_in_order
returns-then-moved-clause-free_in_order g c from to held h k at to_at here other none differ = absurd (let clash : None ≡ Some c.in-Some.there = sym none ∙ c.in-Some.is in cc)

pub returns-clause-free_in_order : goal.returns-clause-free_in_order
returns-clause-free_in_order g c from to held h k at to_at here other none differ = absurd (differ c.if-moved.false)

pub returns-in_default-clause-within_in_order : goal.returns-in_default-clause-within_in_order
returns-in_default-clause-within_in_order g c row file i held h f at file_at here other is apart same = absurd (let clash : None ≡ Some i = sym c.in_default.is ∙ is in cc)

pub returns-then-there-moved-clause-within_in_order : goal.returns-then-there-moved-clause-within_in_order
returns-then-there-moved-clause-within_in_order g c row file i held h f at file_at here other is apart same = inl refl

pub returns-then-moved-clause-within_in_order : goal.returns-then-moved-clause-within_in_order
returns-then-moved-clause-within_in_order g c row file i held h f at file_at here other is apart same = absurd (c.if-moved.true same)

pub returns-clause-within_in_order : goal.returns-clause-within_in_order
returns-clause-within_in_order g c row file i held h f at file_at here other is apart same =
    let one : c.in-Some.there ≡ i = same_Some _ _ (sym c.in-Some.is ∙ is) in
    let there_at = ap (row_of c.args.rows.now.items) one ∙ file_at in
    let number = numbered c.args.rows.now.items i file file_at in
    subst (λ (n : ℕ). TailIsFirst (g.P.Pmem.region c.args.memory.now) (g.P.Pmem.region c.replace_within.new.memory) c.args.tables.now.layout c.args.free.now.pools c.args.cpu row.inode row.tail (take_entries c.args.moved.now.from.target n c.args.moved.now.from.name.now c.args.moved.now.name.now c.args.time) (last_word c.args.tables.now.layout n (keeps_others file))) number
    (last_by (λ (at : ℕ). TailIsFirst (g.P.Pmem.region c.args.memory.now) (g.P.Pmem.region c.replace_within.new.memory) c.args.tables.now.layout c.args.free.now.pools c.args.cpu row.inode row.tail (take_entries c.args.moved.now.from.target file.inode c.args.moved.now.from.name.now c.args.moved.now.name.now c.args.time) at) c.args.tables.now.layout file.inode (keeps_others file)
    (λ on. c.replace_within.ensures.in_order row file held h f at there_at here other on)
    (λ off. c.replace_within.ensures.last_in_order row file held h at there_at here off))

pub returns-in_default-clause-in_order : goal.returns-in_default-clause-in_order
returns-in_default-clause-in_order g c from to file i held h k f at to_at file_at here other last is apart differ = absurd (let clash : None ≡ Some i = sym c.in_default.is ∙ is in cc)

pub returns-then-there-moved-clause-in_order : goal.returns-then-there-moved-clause-in_order
returns-then-there-moved-clause-in_order g c from to file i held h k f at to_at file_at here other last is apart differ = (inl refl, inl refl)

pub returns-then-moved-clause-in_order : goal.returns-then-moved-clause-in_order
returns-then-moved-clause-in_order g c from to file i held h k f at to_at file_at here other last is apart differ =
    let one : c.in-Some.there ≡ i = same_Some _ _ (sym c.in-Some.is ∙ is) in
    let there_at = ap (row_of c.args.rows.now.items) one ∙ file_at in
    let number = numbered c.args.rows.now.items i file file_at in
    subst (λ (n : ℕ). HandsInOrder (g.P.Pmem.region c.args.memory.now) (g.P.Pmem.region c.replace_over.new.memory) c.args.tables.now.layout c.args.free.now c.args.cpu from to c.args.moved.now.from.target n c.args.moved.now.from.name.now c.args.moved.now.name.now c.args.time (last_word c.args.tables.now.layout n (keeps_others file))) number
    (last_by (λ (at : ℕ). HandsInOrder (g.P.Pmem.region c.args.memory.now) (g.P.Pmem.region c.replace_over.new.memory) c.args.tables.now.layout c.args.free.now c.args.cpu from to c.args.moved.now.from.target file.inode c.args.moved.now.from.name.now c.args.moved.now.name.now c.args.time at) c.args.tables.now.layout file.inode (keeps_others file)
    (λ on. c.replace_over.ensures.in_order from to file held h k f at to_at there_at here other last on)
    (λ off. c.replace_over.ensures.last_in_order from to file held h k at to_at there_at here other off))

pub returns-clause-in_order : goal.returns-clause-in_order
returns-clause-in_order g c from to file i held h k f at to_at file_at here other last is apart differ = absurd (differ c.if-moved.false)
