use Rattle.std.proofs.Common.{◌∙◌, ◌+◌, ◌-◌, ◌%◌, ◌≤◌, ℕ, List, sym, subst}
use Rattle.nv_names.specs.Names.{IsName}
use Rattle.std.proofs.lemmas.Result.{IfErr-weaker, on_ok_weaker}
use Rattle.nv_region.specs.Stops.{LeavesOnly}
use Rattle.nv_alloc.specs.Taking.{all_blocks}
use Rattle.nv_logpage.specs.Append.{needed}
use Rattle.nv_scan.specs.declared.piece.Row.{Row}
use Rattle.nv_rows.proofs.Places.{at_place}
use Rattle.nv_commit.specs.Stopped.{LeavesEither}
use Rattle.nv_tree.specs.declared.refusal.Refusal.{Refusal}
use Rattle.nv_steps.specs.Across.{LessenedAcross, LessensAcross}
use Rattle.nv_steps.specs.InOrder.{tail_address}
use Rattle.nv_steps.specs.NameEntries.{links_entries}
use Rattle.nv_steps.specs.Steps.{RefusesStep, ShowsRow}
use Rattle.nv_steps.specs.Stores.{StoresIn, three_logs}
use Rattle.nv_calls.specs.ReplaceCalls.{HandsInOrder, hand_blocks}
use Rattle.nv_calls.proofs.ReplaceAt.{by_words}
use Rattle.nv_calls.proofs.ThreeRows.{back_three, first_given, last_given, left_three, of_three, second_given, third_stays, third_still}
use Rattle.nv_calls.proofs.TwoRows.{row_stays, used_still}
use Rattle.nv_calls.proofs.replacing_across.lessen_over.Goals as goal

pub lend-to-requires : goal.lend-to-requires
lend-to-requires g c = used_still c.args.rows.now.items c.lend-from.new.self.items c.args.moved.now.from.directory c.args.moved.now.directory c.requires.apart.0 c.requires.from c.lend-from.ensures.lent c.requires.directory

pub lend-file-requires : goal.lend-file-requires
lend-file-requires g c = third_still c.args.rows.now.items c.lend-from.new.self.items c.lend-to.new.self.items c.args.moved.now.from.directory c.args.moved.now.directory c.args.there c.requires.apart.0 c.requires.apart.1 c.requires.apart.2 c.requires.from c.requires.directory c.requires.there c.lend-from.ensures.lent c.lend-to.ensures.lent

pub lessen_across-done-requires : goal.lessen_across-done-requires
lessen_across-done-requires g c =
    record {
      apart = ((
        λ same. c.requires.apart.0 (sym c.lend-from.ensures.number ∙ same ∙ c.lend-to.ensures.number),
        λ same. c.requires.apart.1 (sym c.lend-from.ensures.number ∙ same ∙ c.lend-file.ensures.number),
        λ same. c.requires.apart.2 (sym c.lend-to.ensures.number ∙ same ∙ c.lend-file.ensures.number),
      ));
      stands = (c.requires.stands c.lend-from.result c.lend-from.ensures.row);
      other_stands = (c.requires.to_stands c.lend-to.result (row_stays c.args.rows.now.items c.lend-from.new.self.items c.args.moved.now.from.directory c.args.moved.now.directory c.requires.apart.0 c.requires.from c.lend-from.ensures.lent c.lend-to.result c.lend-to.ensures.row));
      last_stands = (c.requires.file_stands c.lend-file.result (third_stays c.args.rows.now.items c.lend-from.new.self.items c.lend-to.new.self.items c.args.moved.now.from.directory c.args.moved.now.directory c.args.there c.requires.apart.0 c.requires.apart.1 c.requires.apart.2 c.requires.from c.requires.directory c.requires.there c.lend-from.ensures.lent c.lend-to.ensures.lent c.lend-file.result c.lend-file.ensures.row));
      given = ((c.requires.more c.lend-file.result (third_stays c.args.rows.now.items c.lend-from.new.self.items c.lend-to.new.self.items c.args.moved.now.from.directory c.args.moved.now.directory c.args.there c.requires.apart.0 c.requires.apart.1 c.requires.apart.2 c.requires.from c.requires.directory c.requires.there c.lend-from.ensures.lent c.lend-to.ensures.lent c.lend-file.result c.lend-file.ensures.row)), (subst IsName (sym c.other_name-other.ensures.name) c.requires.name), (subst IsName (sym c.other_name-other.ensures.other) c.requires.other));
    }

pub give_back-requires : goal.give_back-requires
give_back-requires g c = last_given c.args.rows.now.items c.lend-from.new.self.items c.lend-to.new.self.items c.args.moved.now.from.directory c.args.moved.now.directory c.args.there c.requires.apart.0 c.requires.apart.1 c.requires.apart.2 c.requires.from c.requires.directory c.requires.there c.lend-from.ensures.lent c.lend-to.ensures.lent c.lend-file.new.self.items c.lessen_across-done.new.file c.lend-file.ensures.lent (c.lessen_across-done.ensures.inodes.2 ∙ c.lend-file.ensures.number)

pub give_back-requires-2 : goal.give_back-requires-2
give_back-requires-2 g c = second_given c.args.rows.now.items c.lend-from.new.self.items c.lend-to.new.self.items c.args.moved.now.from.directory c.args.moved.now.directory c.args.there c.requires.apart.0 c.requires.apart.1 c.requires.apart.2 c.requires.from c.requires.directory c.requires.there c.lend-from.ensures.lent c.lend-to.ensures.lent c.lend-file.new.self.items c.give_back.new.self.items c.lessen_across-done.new.to c.lessen_across-done.new.file c.lend-file.ensures.lent (c.lessen_across-done.ensures.inodes.1 ∙ c.lend-to.ensures.number) (c.lessen_across-done.ensures.inodes.2 ∙ c.lend-file.ensures.number) c.give_back.ensures.rows

pub give_back-requires-3 : goal.give_back-requires-3
give_back-requires-3 g c = first_given c.args.rows.now.items c.lend-from.new.self.items c.lend-to.new.self.items c.args.moved.now.from.directory c.args.moved.now.directory c.args.there c.requires.apart.0 c.requires.apart.1 c.requires.apart.2 c.requires.from c.requires.directory c.requires.there c.lend-from.ensures.lent c.lend-to.ensures.lent c.lend-file.new.self.items c.give_back.new.self.items c.lessen_across-done.new.to c.lessen_across-done.new.file c.lend-file.ensures.lent (c.lessen_across-done.ensures.inodes.1 ∙ c.lend-to.ensures.number) (c.lessen_across-done.ensures.inodes.2 ∙ c.lend-file.ensures.number) c.give_back.ensures.rows c.give_back-2.new.self.items c.lessen_across-done.new.from (c.lessen_across-done.ensures.inodes.0 ∙ c.lend-from.ensures.number) c.give_back-2.ensures.rows

pub returns-clause-lessened : goal.returns-clause-lessened
returns-clause-lessened g c =
    let to_at = row_stays c.args.rows.now.items c.lend-from.new.self.items c.args.moved.now.from.directory c.args.moved.now.directory c.requires.apart.0 c.requires.from c.lend-from.ensures.lent c.lend-to.result c.lend-to.ensures.row in
    let file_at = third_stays c.args.rows.now.items c.lend-from.new.self.items c.lend-to.new.self.items c.args.moved.now.from.directory c.args.moved.now.directory c.args.there c.requires.apart.0 c.requires.apart.1 c.requires.apart.2 c.requires.from c.requires.directory c.requires.there c.lend-from.ensures.lent c.lend-to.ensures.lent c.lend-file.result c.lend-file.ensures.row in
    let put = back_three c.args.rows.now.items c.lend-from.new.self.items c.lend-to.new.self.items c.args.moved.now.from.directory c.args.moved.now.directory c.args.there c.requires.apart.0 c.requires.apart.1 c.requires.apart.2 c.requires.from c.requires.directory c.requires.there c.lend-from.ensures.lent c.lend-to.ensures.lent c.lend-file.new.self.items c.give_back.new.self.items c.lessen_across-done.new.to c.lessen_across-done.new.file c.lend-file.ensures.lent (c.lessen_across-done.ensures.inodes.1 ∙ c.lend-to.ensures.number) (c.lessen_across-done.ensures.inodes.2 ∙ c.lend-file.ensures.number) c.give_back.ensures.rows c.give_back-2.new.self.items c.lessen_across-done.new.from (c.lessen_across-done.ensures.inodes.0 ∙ c.lend-from.ensures.number) c.give_back-2.ensures.rows c.give_back-3.ensures.rows in
    on_ok_weaker c.lessen_across-done.result
    (λ (step : LessensAcross (g.P.Pmem.region c.args.memory.now) (g.P.Pmem.region c.lessen_across-done.new.memory) c.args.tables.now.layout c.args.free.now c.lessen_across-done.new.free c.args.cpu c.lend-from.result c.lessen_across-done.new.from c.lend-to.result c.lessen_across-done.new.to c.lend-file.result c.lessen_across-done.new.file c.other_name-other.result.inode c.other_name-other.result.name.now c.other_name-other.result.other.now c.other_name-other.result.time). record {
      from = c.lend-from.result;
      to = c.lend-to.result;
      file = c.lend-file.result;
      from_now = c.lessen_across-done.new.from;
      to_now = c.lessen_across-done.new.to;
      file_now = c.lessen_across-done.new.file;
      at = at_place c.args.rows.now.items c.args.moved.now.from.directory ∙ c.lend-from.ensures.row;
      to_at = at_place c.args.rows.now.items c.args.moved.now.directory ∙ to_at;
      file_at = at_place c.args.rows.now.items c.args.there ∙ file_at;
      step = by_words (λ (i k : ℕ) (n o : List ℕ) (t : ℕ). LessensAcross (g.P.Pmem.region c.args.memory.now) (g.P.Pmem.region c.lessen_across-done.new.memory) c.args.tables.now.layout c.args.free.now c.lessen_across-done.new.free c.args.cpu c.lend-from.result c.lessen_across-done.new.from c.lend-to.result c.lessen_across-done.new.to c.lend-file.result c.lessen_across-done.new.file i n o t) c.other_name-other.ensures.inode (λ x. 0) c.other_name-other.ensures.name c.other_name-other.ensures.other c.other_name-other.ensures.time step;
      put = put;
    }) c.lessen_across-done.ensures.lessened

pub returns-clause-enough : goal.returns-clause-enough
returns-clause-enough g c from to file at to_at file_at =
    on_ok_weaker c.lessen_across-done.result
    (λ enough. of_three c.args.rows.now.items c.lend-from.new.self.items c.lend-to.new.self.items c.args.moved.now.from.directory c.args.moved.now.directory c.args.there c.requires.apart.0 c.requires.apart.1 c.requires.apart.2 c.requires.from c.requires.directory c.requires.there c.lend-from.ensures.lent c.lend-to.ensures.lent (λ (r d b : Row). hand_blocks r d c.args.moved.now.from.target b.inode c.args.moved.now.from.name.now c.args.moved.now.name.now c.args.time + needed (b.tail % 4096) (links_entries (b.numbers.links - 1) c.args.time) ≤ all_blocks c.args.free.now.pools) c.lend-from.result c.lend-to.result c.lend-file.result from to file c.lend-from.ensures.row c.lend-to.ensures.row c.lend-file.ensures.row
    (by_words (λ (i k : ℕ) (n o : List ℕ) (t : ℕ). hand_blocks c.lend-from.result c.lend-to.result i c.lend-file.result.inode n o t + needed (c.lend-file.result.tail % 4096) (links_entries (c.lend-file.result.numbers.links - 1) t) ≤ all_blocks c.args.free.now.pools) c.other_name-other.ensures.inode (λ x. 0) c.other_name-other.ensures.name c.other_name-other.ensures.other c.other_name-other.ensures.time enough) at to_at file_at) c.lessen_across-done.ensures.needs.enough

pub returns-clause-refused : goal.returns-clause-refused
returns-clause-refused g c from to file at to_at file_at =
    IfErr-weaker c.lessen_across-done.result _ _
    (λ (e : Refusal) refused. of_three c.args.rows.now.items c.lend-from.new.self.items c.lend-to.new.self.items c.args.moved.now.from.directory c.args.moved.now.directory c.args.there c.requires.apart.0 c.requires.apart.1 c.requires.apart.2 c.requires.from c.requires.directory c.requires.there c.lend-from.ensures.lent c.lend-to.ensures.lent (λ (r d b : Row). RefusesStep e (hand_blocks r d c.args.moved.now.from.target b.inode c.args.moved.now.from.name.now c.args.moved.now.name.now c.args.time + needed (b.tail % 4096) (links_entries (b.numbers.links - 1) c.args.time)) c.args.free.now) c.lend-from.result c.lend-to.result c.lend-file.result from to file c.lend-from.ensures.row c.lend-to.ensures.row c.lend-file.ensures.row
    (by_words (λ (i k : ℕ) (n o : List ℕ) (t : ℕ). RefusesStep e (hand_blocks c.lend-from.result c.lend-to.result i c.lend-file.result.inode n o t + needed (c.lend-file.result.tail % 4096) (links_entries (c.lend-file.result.numbers.links - 1) t)) c.args.free.now) c.other_name-other.ensures.inode (λ x. 0) c.other_name-other.ensures.name c.other_name-other.ensures.other c.other_name-other.ensures.time refused) at to_at file_at) c.lessen_across-done.ensures.needs.refused

pub returns-clause-kept : goal.returns-clause-kept
returns-clause-kept g c =
    record {
      step = c.lessen_across-done.ensures.kept;
      unchanged = let to_at = row_stays c.args.rows.now.items c.lend-from.new.self.items c.args.moved.now.from.directory c.args.moved.now.directory c.requires.apart.0 c.requires.from c.lend-from.ensures.lent c.lend-to.result c.lend-to.ensures.row in
          let file_at = third_stays c.args.rows.now.items c.lend-from.new.self.items c.lend-to.new.self.items c.args.moved.now.from.directory c.args.moved.now.directory c.args.there c.requires.apart.0 c.requires.apart.1 c.requires.apart.2 c.requires.from c.requires.directory c.requires.there c.lend-from.ensures.lent c.lend-to.ensures.lent c.lend-file.result c.lend-file.ensures.row in
          let put = back_three c.args.rows.now.items c.lend-from.new.self.items c.lend-to.new.self.items c.args.moved.now.from.directory c.args.moved.now.directory c.args.there c.requires.apart.0 c.requires.apart.1 c.requires.apart.2 c.requires.from c.requires.directory c.requires.there c.lend-from.ensures.lent c.lend-to.ensures.lent c.lend-file.new.self.items c.give_back.new.self.items c.lessen_across-done.new.to c.lessen_across-done.new.file c.lend-file.ensures.lent (c.lessen_across-done.ensures.inodes.1 ∙ c.lend-to.ensures.number) (c.lessen_across-done.ensures.inodes.2 ∙ c.lend-file.ensures.number) c.give_back.ensures.rows c.give_back-2.new.self.items c.lessen_across-done.new.from (c.lessen_across-done.ensures.inodes.0 ∙ c.lend-from.ensures.number) c.give_back-2.ensures.rows c.give_back-3.ensures.rows in
          IfErr-weaker c.lessen_across-done.result _ _ (λ (e : Refusal) told off. (let left = told off in left_three c.args.rows.now.items c.lend-from.new.self.items c.lend-to.new.self.items c.args.moved.now.from.directory c.args.moved.now.directory c.args.there c.requires.apart.0 c.requires.apart.1 c.requires.apart.2 c.requires.from c.requires.directory c.requires.there c.lend-from.ensures.lent c.lend-to.ensures.lent c.args.memory.now c.lessen_across-done.new.memory c.args.free.now c.lessen_across-done.new.free c.lend-from.result c.lend-to.result c.lend-file.result c.lessen_across-done.new.from c.lessen_across-done.new.to c.lessen_across-done.new.file c.give_back-3.new.self.items c.lend-from.ensures.row to_at file_at put left.0 left.1 left.2)) c.lessen_across-done.ensures.unchanged;
      tables = (c.give_back-3.ensures.sup ∙ c.give_back-2.ensures.sup ∙ c.give_back.ensures.sup ∙ c.lend-file.ensures.sup ∙ c.lend-to.ensures.sup ∙ c.lend-from.ensures.sup, c.give_back-3.ensures.sizes ∙ c.give_back-2.ensures.sizes ∙ c.give_back.ensures.sizes ∙ c.lend-file.ensures.sizes ∙ c.lend-to.ensures.sizes ∙ c.lend-from.ensures.sizes);
    }

pub returns-clause-any_stop : goal.returns-clause-any_stop
returns-clause-any_stop g c from to file held h k f at to_at file_at here other last settled =
    of_three c.args.rows.now.items c.lend-from.new.self.items c.lend-to.new.self.items c.args.moved.now.from.directory c.args.moved.now.directory c.args.there c.requires.apart.0 c.requires.apart.1 c.requires.apart.2 c.requires.from c.requires.directory c.requires.there c.lend-from.ensures.lent c.lend-to.ensures.lent (λ (r d b : Row). ShowsRow (g.P.Pmem.region c.args.memory.now) c.args.tables.now.layout held h r c.args.free.now → ShowsRow (g.P.Pmem.region c.args.memory.now) c.args.tables.now.layout held k d c.args.free.now → ShowsRow (g.P.Pmem.region c.args.memory.now) c.args.tables.now.layout held f b c.args.free.now → LeavesOnly (g.P.Pmem.region c.lessen_across-done.new.memory) (g.P.Pmem.may_hold c.lessen_across-done.new.memory) (LeavesEither (g.P.Pmem.region c.args.memory.now) c.args.tables.now.layout held (LessenedAcross (g.P.Pmem.region c.args.memory.now) c.args.tables.now.layout c.args.free.now c.args.cpu r d b c.args.moved.now.from.target c.args.moved.now.from.name.now c.args.moved.now.name.now c.args.time))) c.lend-from.result c.lend-to.result c.lend-file.result from to file c.lend-from.ensures.row c.lend-to.ensures.row c.lend-file.ensures.row
    (λ seen seen_to seen_file. by_words (λ (i m : ℕ) (n o : List ℕ) (t : ℕ). LeavesOnly (g.P.Pmem.region c.lessen_across-done.new.memory) (g.P.Pmem.may_hold c.lessen_across-done.new.memory) (LeavesEither (g.P.Pmem.region c.args.memory.now) c.args.tables.now.layout held (LessenedAcross (g.P.Pmem.region c.args.memory.now) c.args.tables.now.layout c.args.free.now c.args.cpu c.lend-from.result c.lend-to.result c.lend-file.result i n o t))) c.other_name-other.ensures.inode (λ x. 0) c.other_name-other.ensures.name c.other_name-other.ensures.other c.other_name-other.ensures.time (c.lessen_across-done.ensures.any_stop held h k f seen seen_to seen_file settled)) at to_at file_at here other last

pub returns-clause-in_order : goal.returns-clause-in_order
returns-clause-in_order g c from to file held h k f at to_at file_at here other last =
    of_three c.args.rows.now.items c.lend-from.new.self.items c.lend-to.new.self.items c.args.moved.now.from.directory c.args.moved.now.directory c.args.there c.requires.apart.0 c.requires.apart.1 c.requires.apart.2 c.requires.from c.requires.directory c.requires.there c.lend-from.ensures.lent c.lend-to.ensures.lent (λ (r d b : Row). ShowsRow (g.P.Pmem.region c.args.memory.now) c.args.tables.now.layout held h r c.args.free.now → ShowsRow (g.P.Pmem.region c.args.memory.now) c.args.tables.now.layout held k d c.args.free.now → ShowsRow (g.P.Pmem.region c.args.memory.now) c.args.tables.now.layout held f b c.args.free.now → HandsInOrder (g.P.Pmem.region c.args.memory.now) (g.P.Pmem.region c.lessen_across-done.new.memory) c.args.tables.now.layout c.args.free.now c.args.cpu r d c.args.moved.now.from.target b.inode c.args.moved.now.from.name.now c.args.moved.now.name.now c.args.time (tail_address c.args.tables.now.layout b.inode)) c.lend-from.result c.lend-to.result c.lend-file.result from to file c.lend-from.ensures.row c.lend-to.ensures.row c.lend-file.ensures.row
    (λ seen seen_to seen_file. by_words (λ (i m : ℕ) (n o : List ℕ) (t : ℕ). HandsInOrder (g.P.Pmem.region c.args.memory.now) (g.P.Pmem.region c.lessen_across-done.new.memory) c.args.tables.now.layout c.args.free.now c.args.cpu c.lend-from.result c.lend-to.result i c.lend-file.result.inode n o t (tail_address c.args.tables.now.layout c.lend-file.result.inode)) c.other_name-other.ensures.inode (λ x. 0) c.other_name-other.ensures.name c.other_name-other.ensures.other c.other_name-other.ensures.time (c.lessen_across-done.ensures.in_order held h k f seen seen_to seen_file)) at to_at file_at here other last

pub returns-clause-wrote : goal.returns-clause-wrote
returns-clause-wrote g c from to file held h k f at to_at file_at here other last =
    of_three c.args.rows.now.items c.lend-from.new.self.items c.lend-to.new.self.items c.args.moved.now.from.directory c.args.moved.now.directory c.args.there c.requires.apart.0 c.requires.apart.1 c.requires.apart.2 c.requires.from c.requires.directory c.requires.there c.lend-from.ensures.lent c.lend-to.ensures.lent (λ (r d b : Row). ShowsRow (g.P.Pmem.region c.args.memory.now) c.args.tables.now.layout held h r c.args.free.now → ShowsRow (g.P.Pmem.region c.args.memory.now) c.args.tables.now.layout held k d c.args.free.now → ShowsRow (g.P.Pmem.region c.args.memory.now) c.args.tables.now.layout held f b c.args.free.now → StoresIn c.args.tables.now.layout held (three_logs c.args.tables.now.layout c.args.cpu r.inode d.inode b.inode) (g.P.Pmem.region c.args.memory.now) (g.P.Pmem.region c.lessen_across-done.new.memory)) c.lend-from.result c.lend-to.result c.lend-file.result from to file c.lend-from.ensures.row c.lend-to.ensures.row c.lend-file.ensures.row
    (λ seen seen_to seen_file. c.lessen_across-done.ensures.wrote held h k f seen seen_to seen_file) at to_at file_at here other last
