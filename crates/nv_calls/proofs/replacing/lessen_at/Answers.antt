use Rattle.std.proofs.Common.{◌∙◌, ◌+◌, ◌-◌, ◌%◌, ◌≤◌, ◌∷◌, [], ℕ, List, sym, subst}
use Rattle.nv_names.specs.Names.{IsName}
use Rattle.std.proofs.lemmas.Result.{IfErr-weaker, on_ok_weaker}
use Rattle.nv_region.specs.Stops.{LeavesOnly}
use Rattle.nv_alloc.specs.Taking.{all_blocks}
use Rattle.nv_logpage.specs.Append.{needed}
use Rattle.nv_scan.specs.declared.piece.Row.{Row}
use Rattle.nv_rows.specs.Rows.{place_in}
use Rattle.nv_rows.proofs.Places.{back_two}
use Rattle.nv_commit.specs.Stopped.{LeavesEither}
use Rattle.nv_tree.specs.declared.refusal.Refusal.{Refusal}
use Rattle.nv_steps.specs.InOrder.{TailIsFirst, tail_address}
use Rattle.nv_steps.specs.Lessens.{Lessened, LessensAt}
use Rattle.nv_steps.specs.NameEntries.{links_entries}
use Rattle.nv_steps.specs.Steps.{RefusesStep, ShowsRow}
use Rattle.nv_steps.specs.Stores.{StoresIn, two_logs}
use Rattle.nv_steps.specs.Takes.{take_entries}
use Rattle.nv_calls.proofs.ReplaceAt.{by_words}
use Rattle.nv_calls.proofs.TwoRows.{first_used, last_used, left_two, lifted, of_lent, row_stays, used_still}
use Rattle.nv_calls.proofs.replacing.lessen_at.Goals as goal

pub lend-file-requires : goal.lend-file-requires
lend-file-requires g c =
    used_still c.args.rows.now.items c.lend-directory.new.self.items c.args.moved.now.directory c.args.there c.requires.can.apart c.requires.can.directory c.lend-directory.ensures.lent c.requires.can.target

pub lessen_within-done-requires : goal.lessen_within-done-requires
lessen_within-done-requires g c =
    record {
      apart = (λ same. c.requires.can.apart (sym c.lend-directory.ensures.number ∙ same ∙ c.lend-file.ensures.number));
      stands = (c.requires.can.stands c.lend-directory.result c.lend-directory.ensures.row);
      other_stands = (let at_there = row_stays c.args.rows.now.items c.lend-directory.new.self.items c.args.moved.now.directory c.args.there c.requires.can.apart c.requires.can.directory c.lend-directory.ensures.lent c.lend-file.result c.lend-file.ensures.row in
          c.requires.can.file_stands c.lend-file.result at_there);
      given = (
        (let at_there = row_stays c.args.rows.now.items c.lend-directory.new.self.items c.args.moved.now.directory c.args.there c.requires.can.apart c.requires.can.directory c.lend-directory.ensures.lent c.lend-file.result c.lend-file.ensures.row in
            c.requires.can.more c.lend-file.result at_there),
        (subst IsName (sym c.other_name-other.ensures.name) c.requires.can.name),
        (subst IsName (sym c.other_name-other.ensures.other) c.requires.other),
      );
    }

pub give_back-requires : goal.give_back-requires
give_back-requires g c =
    let used = used_still c.args.rows.now.items c.lend-directory.new.self.items c.args.moved.now.directory c.args.there c.requires.can.apart c.requires.can.directory c.lend-directory.ensures.lent c.requires.can.target in
    last_used c.lend-directory.new.self.items c.lend-file.new.self.items c.args.there c.lessen_within-done.new.file used c.lend-file.ensures.lent (c.lessen_within-done.ensures.inodes.1 ∙ c.lend-file.ensures.number)

pub give_back-requires-2 : goal.give_back-requires-2
give_back-requires-2 g c =
    first_used c.args.rows.now.items c.lend-directory.new.self.items c.lend-file.new.self.items c.give_back.new.self.items c.args.moved.now.directory c.args.there c.lessen_within-done.new.directory c.lessen_within-done.new.file c.requires.can.apart c.requires.can.directory c.requires.can.target c.lend-directory.ensures.lent c.lend-file.ensures.lent
    (c.lessen_within-done.ensures.inodes.1 ∙ c.lend-file.ensures.number) c.give_back.ensures.rows (c.lessen_within-done.ensures.inodes.0 ∙ c.lend-directory.ensures.number)

pub returns-clause-lessened : goal.returns-clause-lessened
returns-clause-lessened g c =
    let at_there = row_stays c.args.rows.now.items c.lend-directory.new.self.items c.args.moved.now.directory c.args.there c.requires.can.apart c.requires.can.directory c.lend-directory.ensures.lent c.lend-file.result c.lend-file.ensures.row in
    let put = back_two c.args.rows.now.items c.lend-directory.new.self.items c.lend-file.new.self.items c.give_back.new.self.items c.give_back-2.new.self.items c.args.moved.now.directory c.args.there c.lessen_within-done.new.directory c.lessen_within-done.new.file c.requires.can.apart c.requires.can.directory c.requires.can.target
    c.lend-directory.ensures.lent c.lend-file.ensures.lent (c.lessen_within-done.ensures.inodes.1 ∙ c.lend-file.ensures.number) c.give_back.ensures.rows (c.lessen_within-done.ensures.inodes.0 ∙ c.lend-directory.ensures.number) c.give_back-2.ensures.rows in
    on_ok_weaker c.lessen_within-done.result
    (λ (step : LessensAt (g.P.Pmem.region c.args.memory.now) (g.P.Pmem.region c.lessen_within-done.new.memory) c.args.tables.now.layout c.args.free.now c.lessen_within-done.new.free c.args.cpu (c.lend-directory.result ∷ c.lend-file.result ∷ []) (c.lessen_within-done.new.directory ∷ c.lessen_within-done.new.file ∷ []) 0 1 c.other_name-other.result.inode c.other_name-other.result.name.now c.other_name-other.result.other.now c.other_name-other.result.time).
    by_words (λ (i k : ℕ) (n o : List ℕ) (t : ℕ). LessensAt (g.P.Pmem.region c.args.memory.now) (g.P.Pmem.region c.lessen_within-done.new.memory) c.args.tables.now.layout c.args.free.now c.lessen_within-done.new.free c.args.cpu c.args.rows.now.items c.give_back-2.new.self.items (place_in c.args.rows.now.items c.args.moved.now.directory) (place_in c.args.rows.now.items c.args.there) i n o t) c.other_name-other.ensures.inode (λ x. 0) c.other_name-other.ensures.name c.other_name-other.ensures.other c.other_name-other.ensures.time
    (record { directory = step.directory; file = step.file; step = lifted c.args.rows.now.items c.give_back-2.new.self.items c.args.moved.now.directory c.args.there c.lend-directory.result c.lend-file.result c.lessen_within-done.new.directory c.lessen_within-done.new.file c.requires.can.apart c.lend-directory.ensures.row at_there put step.step })) c.lessen_within-done.ensures.lessened

pub returns-clause-enough : goal.returns-clause-enough
returns-clause-enough g c row file at other_at =
    on_ok_weaker c.lessen_within-done.result
    (λ enough. of_lent c.args.rows.now.items c.lend-directory.new.self.items c.args.moved.now.directory c.args.there c.requires.can.apart c.requires.can.directory c.lend-directory.ensures.lent (λ (r d : Row). needed (r.tail % 4096) (take_entries c.args.moved.now.from.target d.inode c.args.moved.now.from.name.now c.args.moved.now.name.now c.args.time) + needed (d.tail % 4096) (links_entries (d.numbers.links - 1) c.args.time) ≤ all_blocks c.args.free.now.pools) c.lend-directory.result c.lend-file.result row file c.lend-directory.ensures.row c.lend-file.ensures.row
    (by_words (λ (i k : ℕ) (n o : List ℕ) (t : ℕ). needed (c.lend-directory.result.tail % 4096) (take_entries i c.lend-file.result.inode n o t) + needed (c.lend-file.result.tail % 4096) (links_entries (c.lend-file.result.numbers.links - 1) t) ≤ all_blocks c.args.free.now.pools) c.other_name-other.ensures.inode (λ x. 0) c.other_name-other.ensures.name c.other_name-other.ensures.other c.other_name-other.ensures.time enough) at other_at) c.lessen_within-done.ensures.needs.enough

pub returns-clause-refused : goal.returns-clause-refused
returns-clause-refused g c row file at other_at =
    IfErr-weaker c.lessen_within-done.result _ _
    (λ (e : Refusal) refused. of_lent c.args.rows.now.items c.lend-directory.new.self.items c.args.moved.now.directory c.args.there c.requires.can.apart c.requires.can.directory c.lend-directory.ensures.lent (λ (r d : Row). RefusesStep e (needed (r.tail % 4096) (take_entries c.args.moved.now.from.target d.inode c.args.moved.now.from.name.now c.args.moved.now.name.now c.args.time) + needed (d.tail % 4096) (links_entries (d.numbers.links - 1) c.args.time)) c.args.free.now) c.lend-directory.result c.lend-file.result row file c.lend-directory.ensures.row c.lend-file.ensures.row
    (by_words (λ (i k : ℕ) (n o : List ℕ) (t : ℕ). RefusesStep e (needed (c.lend-directory.result.tail % 4096) (take_entries i c.lend-file.result.inode n o t) + needed (c.lend-file.result.tail % 4096) (links_entries (c.lend-file.result.numbers.links - 1) t)) c.args.free.now) c.other_name-other.ensures.inode (λ x. 0) c.other_name-other.ensures.name c.other_name-other.ensures.other c.other_name-other.ensures.time refused) at other_at) c.lessen_within-done.ensures.needs.refused

pub returns-clause-kept : goal.returns-clause-kept
returns-clause-kept g c =
    record {
      step = c.lessen_within-done.ensures.kept;
      unchanged = let at_there = row_stays c.args.rows.now.items c.lend-directory.new.self.items c.args.moved.now.directory c.args.there c.requires.can.apart c.requires.can.directory c.lend-directory.ensures.lent c.lend-file.result c.lend-file.ensures.row in
          let put = back_two c.args.rows.now.items c.lend-directory.new.self.items c.lend-file.new.self.items c.give_back.new.self.items c.give_back-2.new.self.items c.args.moved.now.directory c.args.there c.lessen_within-done.new.directory c.lessen_within-done.new.file c.requires.can.apart c.requires.can.directory c.requires.can.target
          c.lend-directory.ensures.lent c.lend-file.ensures.lent (c.lessen_within-done.ensures.inodes.1 ∙ c.lend-file.ensures.number) c.give_back.ensures.rows (c.lessen_within-done.ensures.inodes.0 ∙ c.lend-directory.ensures.number) c.give_back-2.ensures.rows in
          IfErr-weaker c.lessen_within-done.result _ _ (λ (e : Refusal) told off. (let left = told off in left_two c.args.rows.now.items c.give_back-2.new.self.items c.args.moved.now.directory c.args.there c.lend-directory.result c.lend-file.result c.lessen_within-done.new.directory c.lessen_within-done.new.file c.requires.can.apart c.lend-directory.ensures.row at_there put c.args.memory.now c.lessen_within-done.new.memory c.args.free.now c.lessen_within-done.new.free left.0 left.1)) c.lessen_within-done.ensures.unchanged;
      tables = (c.give_back-2.ensures.sup ∙ c.give_back.ensures.sup ∙ c.lend-file.ensures.sup ∙ c.lend-directory.ensures.sup, c.give_back-2.ensures.sizes ∙ c.give_back.ensures.sizes ∙ c.lend-file.ensures.sizes ∙ c.lend-directory.ensures.sizes);
    }

pub returns-clause-any_stop : goal.returns-clause-any_stop
returns-clause-any_stop g c row file held h f at other_at here other settled =
    of_lent c.args.rows.now.items c.lend-directory.new.self.items c.args.moved.now.directory c.args.there c.requires.can.apart c.requires.can.directory c.lend-directory.ensures.lent (λ (r d : Row). ShowsRow (g.P.Pmem.region c.args.memory.now) c.args.tables.now.layout held h r c.args.free.now → ShowsRow (g.P.Pmem.region c.args.memory.now) c.args.tables.now.layout held f d c.args.free.now → LeavesOnly (g.P.Pmem.region c.lessen_within-done.new.memory) (g.P.Pmem.may_hold c.lessen_within-done.new.memory) (LeavesEither (g.P.Pmem.region c.args.memory.now) c.args.tables.now.layout held (Lessened (g.P.Pmem.region c.args.memory.now) c.args.tables.now.layout c.args.free.now c.args.cpu r d c.args.moved.now.from.target c.args.moved.now.from.name.now c.args.moved.now.name.now c.args.time))) c.lend-directory.result c.lend-file.result row file c.lend-directory.ensures.row c.lend-file.ensures.row
    (λ seen seen_other. by_words (λ (i k : ℕ) (n o : List ℕ) (t : ℕ). LeavesOnly (g.P.Pmem.region c.lessen_within-done.new.memory) (g.P.Pmem.may_hold c.lessen_within-done.new.memory) (LeavesEither (g.P.Pmem.region c.args.memory.now) c.args.tables.now.layout held (Lessened (g.P.Pmem.region c.args.memory.now) c.args.tables.now.layout c.args.free.now c.args.cpu c.lend-directory.result c.lend-file.result i n o t))) c.other_name-other.ensures.inode (λ x. 0) c.other_name-other.ensures.name c.other_name-other.ensures.other c.other_name-other.ensures.time (c.lessen_within-done.ensures.any_stop held h f seen seen_other settled)) at other_at here other

pub returns-clause-in_order : goal.returns-clause-in_order
returns-clause-in_order g c row file held h f at other_at here other =
    of_lent c.args.rows.now.items c.lend-directory.new.self.items c.args.moved.now.directory c.args.there c.requires.can.apart c.requires.can.directory c.lend-directory.ensures.lent (λ (r d : Row). ShowsRow (g.P.Pmem.region c.args.memory.now) c.args.tables.now.layout held h r c.args.free.now → ShowsRow (g.P.Pmem.region c.args.memory.now) c.args.tables.now.layout held f d c.args.free.now → TailIsFirst (g.P.Pmem.region c.args.memory.now) (g.P.Pmem.region c.lessen_within-done.new.memory) c.args.tables.now.layout c.args.free.now.pools c.args.cpu r.inode r.tail (take_entries c.args.moved.now.from.target d.inode c.args.moved.now.from.name.now c.args.moved.now.name.now c.args.time) (tail_address c.args.tables.now.layout d.inode)) c.lend-directory.result c.lend-file.result row file c.lend-directory.ensures.row c.lend-file.ensures.row
    (λ seen seen_other. by_words (λ (i k : ℕ) (n o : List ℕ) (t : ℕ). TailIsFirst (g.P.Pmem.region c.args.memory.now) (g.P.Pmem.region c.lessen_within-done.new.memory) c.args.tables.now.layout c.args.free.now.pools c.args.cpu c.lend-directory.result.inode c.lend-directory.result.tail (take_entries i c.lend-file.result.inode n o t) (tail_address c.args.tables.now.layout c.lend-file.result.inode)) c.other_name-other.ensures.inode (λ x. 0) c.other_name-other.ensures.name c.other_name-other.ensures.other c.other_name-other.ensures.time (c.lessen_within-done.ensures.in_order held h f seen seen_other)) at other_at here other

pub returns-clause-wrote : goal.returns-clause-wrote
returns-clause-wrote g c row file held h f at other_at here other =
    of_lent c.args.rows.now.items c.lend-directory.new.self.items c.args.moved.now.directory c.args.there c.requires.can.apart c.requires.can.directory c.lend-directory.ensures.lent (λ (r d : Row). ShowsRow (g.P.Pmem.region c.args.memory.now) c.args.tables.now.layout held h r c.args.free.now → ShowsRow (g.P.Pmem.region c.args.memory.now) c.args.tables.now.layout held f d c.args.free.now → StoresIn c.args.tables.now.layout held (two_logs c.args.tables.now.layout c.args.cpu r.inode d.inode) (g.P.Pmem.region c.args.memory.now) (g.P.Pmem.region c.lessen_within-done.new.memory)) c.lend-directory.result c.lend-file.result row file c.lend-directory.ensures.row c.lend-file.ensures.row
    (λ seen seen_other. c.lessen_within-done.ensures.wrote held h f seen seen_other) at other_at here other
