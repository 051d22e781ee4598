use Rattle.std.proofs.Common.{◌≡◌, ◌∙◌, ◌≤◌, ℕ, ap, subst, sym, None, List}
use Rattle.nv_entry.specs.declared.entry.Entry.{Entry}
use Rattle.nv_entry.specs.declared.entry.Operation.TheVariants.{Remove}
use Rattle.nv_steps.specs.NameEntries.{name_entries}
use Rattle.nv_steps.specs.InOrder.{TailIsFirst, tail_address}
use Rattle.std.proofs.lemmas.Result.{IfErr-weaker, on_ok_weaker}
use Rattle.std.proofs.lemmas.Option.{same_Some}
use Rattle.nv_alloc.specs.Taking.{all_blocks}
use Rattle.nv_rows.proofs.Places.{at_place, numbered, back_two, row_in_use}
use Rattle.nv_tree.specs.declared.refusal.Refusal.{Refusal}
use Rattle.nv_region.specs.Stops.{LeavesOnly}
use Rattle.nv_names.specs.Names.{IsName, name_at}
use Rattle.nv_scan.specs.declared.piece.Row.{Row}
use Rattle.nv_commit.specs.Stopped.{LeavesEither}
use Rattle.nv_steps.specs.Stopped.{MovedOver}
use Rattle.nv_steps.specs.Steps.{RefusesStep, ShowsRow}
use Rattle.nv_calls.proofs.StoppedMoves.{over_as}
use Rattle.nv_calls.proofs.MoveAt.{both_count, moves_across}
use Rattle.nv_calls.proofs.TwoRows.{first_used, last_used, left_two, lifted, of_lent, row_stays, used_still}
use Rattle.nv_calls.proofs.renaming.move_across.Goals as goal
use Rattle.nv_steps.specs.Stores.{StoresIn, two_logs}

pub lend-to-requires : goal.lend-to-requires
lend-to-requires g c = used_still c.args.rows.now.items c.lend-from.new.self.items c.args.moved.now.from.directory c.args.moved.now.directory c.requires.apart c.requires.from c.lend-from.ensures.lent c.requires.directory

pub move_both-done-requires : goal.move_both-done-requires
move_both-done-requires g c =
    record {
      apart = (λ same. c.requires.apart (sym c.lend-from.ensures.number ∙ same ∙ c.lend-to.ensures.number));
      stands = (c.requires.stands c.lend-from.result c.lend-from.ensures.row);
      other_stands = (let there = row_stays c.args.rows.now.items c.lend-from.new.self.items c.args.moved.now.from.directory c.args.moved.now.directory c.requires.apart c.requires.from c.lend-from.ensures.lent c.lend-to.result c.lend-to.ensures.row in
          c.requires.to_stands c.lend-to.result there);
      given = ((subst IsName (sym c.other_name-other.ensures.name) c.requires.name), (subst IsName (sym c.other_name-other.ensures.other) c.requires.other));
    }

pub give_back-requires : goal.give_back-requires
give_back-requires g c =
    let used = used_still c.args.rows.now.items c.lend-from.new.self.items c.args.moved.now.from.directory c.args.moved.now.directory c.requires.apart c.requires.from c.lend-from.ensures.lent c.requires.directory in
    last_used c.lend-from.new.self.items c.lend-to.new.self.items c.args.moved.now.directory c.move_both-done.new.to used c.lend-to.ensures.lent (c.move_both-done.ensures.inodes.1 ∙ c.lend-to.ensures.number)

pub give_back-requires-2 : goal.give_back-requires-2
give_back-requires-2 g c =
    first_used c.args.rows.now.items c.lend-from.new.self.items c.lend-to.new.self.items c.give_back.new.self.items c.args.moved.now.from.directory c.args.moved.now.directory c.move_both-done.new.from c.move_both-done.new.to c.requires.apart c.requires.from c.requires.directory c.lend-from.ensures.lent c.lend-to.ensures.lent
    (c.move_both-done.ensures.inodes.1 ∙ c.lend-to.ensures.number) c.give_back.ensures.rows (c.move_both-done.ensures.inodes.0 ∙ c.lend-from.ensures.number)

pub returns-clause-moved : goal.returns-clause-moved
returns-clause-moved g c =
    let rows = c.args.rows.now.items in
    let there = row_stays rows c.lend-from.new.self.items c.args.moved.now.from.directory c.args.moved.now.directory c.requires.apart c.requires.from c.lend-from.ensures.lent c.lend-to.result c.lend-to.ensures.row in
    let put = back_two rows c.lend-from.new.self.items c.lend-to.new.self.items c.give_back.new.self.items c.give_back-2.new.self.items c.args.moved.now.from.directory c.args.moved.now.directory c.move_both-done.new.from c.move_both-done.new.to c.requires.apart c.requires.from c.requires.directory
    c.lend-from.ensures.lent c.lend-to.ensures.lent (c.move_both-done.ensures.inodes.1 ∙ c.lend-to.ensures.number) c.give_back.ensures.rows (c.move_both-done.ensures.inodes.0 ∙ c.lend-from.ensures.number) c.give_back-2.ensures.rows in
    let target = row_in_use rows c.args.moved.now.from.target c.requires.target in
    let number = c.other_name-other.ensures.inode ∙ sym (numbered rows c.args.moved.now.from.target target.0 target.1) in
    on_ok_weaker c.move_both-done.result (λ step. moves_across target.0 (at_place rows c.args.moved.now.from.target ∙ target.1) number c.other_name-other.ensures.name c.other_name-other.ensures.other c.other_name-other.ensures.time
    (lifted rows c.give_back-2.new.self.items c.args.moved.now.from.directory c.args.moved.now.directory c.lend-from.result c.lend-to.result c.move_both-done.new.from c.move_both-done.new.to c.requires.apart c.lend-from.ensures.row there put step)) c.move_both-done.ensures.moved

pub returns-clause-enough : goal.returns-clause-enough
returns-clause-enough g c from to inode at other_at inode_at =
    let rows = c.args.rows.now.items in
    let there = row_stays rows c.lend-from.new.self.items c.args.moved.now.from.directory c.args.moved.now.directory c.requires.apart c.requires.from c.lend-from.ensures.lent c.lend-to.result c.lend-to.ensures.row in
    let number = c.other_name-other.ensures.inode ∙ sym (numbered rows c.args.moved.now.from.target inode inode_at) in
    let count = both_count (same_Some _ _ (sym c.lend-from.ensures.row ∙ at)) (same_Some _ _ (sym there ∙ other_at)) number c.other_name-other.ensures.name c.other_name-other.ensures.other c.other_name-other.ensures.time in
    on_ok_weaker c.move_both-done.result (subst (λ (n : ℕ). n ≤ all_blocks c.args.free.now.pools) count) c.move_both-done.ensures.needs.enough

pub returns-clause-refused : goal.returns-clause-refused
returns-clause-refused g c from to inode at other_at inode_at =
    let rows = c.args.rows.now.items in
    let there = row_stays rows c.lend-from.new.self.items c.args.moved.now.from.directory c.args.moved.now.directory c.requires.apart c.requires.from c.lend-from.ensures.lent c.lend-to.result c.lend-to.ensures.row in
    let number = c.other_name-other.ensures.inode ∙ sym (numbered rows c.args.moved.now.from.target inode inode_at) in
    let count = both_count (same_Some _ _ (sym c.lend-from.ensures.row ∙ at)) (same_Some _ _ (sym there ∙ other_at)) number c.other_name-other.ensures.name c.other_name-other.ensures.other c.other_name-other.ensures.time in
    IfErr-weaker c.move_both-done.result _ _ (λ (e : Refusal). subst (λ (n : ℕ). RefusesStep e n c.args.free.now) count) c.move_both-done.ensures.needs.refused

pub returns-clause-kept : goal.returns-clause-kept
returns-clause-kept g c =
    record {
      step = c.move_both-done.ensures.kept;
      unchanged = let rows = c.args.rows.now.items in
          let there = row_stays rows c.lend-from.new.self.items c.args.moved.now.from.directory c.args.moved.now.directory c.requires.apart c.requires.from c.lend-from.ensures.lent c.lend-to.result c.lend-to.ensures.row in
          let put = back_two rows c.lend-from.new.self.items c.lend-to.new.self.items c.give_back.new.self.items c.give_back-2.new.self.items c.args.moved.now.from.directory c.args.moved.now.directory c.move_both-done.new.from c.move_both-done.new.to c.requires.apart c.requires.from c.requires.directory
          c.lend-from.ensures.lent c.lend-to.ensures.lent (c.move_both-done.ensures.inodes.1 ∙ c.lend-to.ensures.number) c.give_back.ensures.rows (c.move_both-done.ensures.inodes.0 ∙ c.lend-from.ensures.number) c.give_back-2.ensures.rows in
          IfErr-weaker c.move_both-done.result _ _ (λ (e : Refusal) told off. (let left = told off in left_two rows c.give_back-2.new.self.items c.args.moved.now.from.directory c.args.moved.now.directory c.lend-from.result c.lend-to.result c.move_both-done.new.from c.move_both-done.new.to c.requires.apart c.lend-from.ensures.row there put c.args.memory.now c.move_both-done.new.memory c.args.free.now c.move_both-done.new.free left.0 left.1)) c.move_both-done.ensures.unchanged;
      tables = (c.give_back-2.ensures.sup ∙ c.give_back.ensures.sup ∙ c.lend-to.ensures.sup ∙ c.lend-from.ensures.sup, c.give_back-2.ensures.sizes ∙ c.give_back.ensures.sizes ∙ c.lend-to.ensures.sizes ∙ c.lend-from.ensures.sizes);
    }

pub returns-clause-any_stop : goal.returns-clause-any_stop
returns-clause-any_stop g c from to inode held h k at other_at inode_at here other absent settled =
    let rows = c.args.rows.now.items in
    let there = row_stays rows c.lend-from.new.self.items c.args.moved.now.from.directory c.args.moved.now.directory c.requires.apart c.requires.from c.lend-from.ensures.lent c.lend-to.result c.lend-to.ensures.row in
    let same : c.lend-from.result ≡ from = same_Some _ _ (sym c.lend-from.ensures.row ∙ at) in
    let other_same : c.lend-to.result ≡ to = same_Some _ _ (sym there ∙ other_at) in
    let number = c.other_name-other.ensures.inode ∙ sym (numbered rows c.args.moved.now.from.target inode inode_at) in
    subst (λ (r : Row). ShowsRow (g.P.Pmem.region c.args.memory.now) c.args.tables.now.layout held h r c.args.free.now → LeavesOnly (g.P.Pmem.region c.move_both-done.new.memory) (g.P.Pmem.may_hold c.move_both-done.new.memory) (LeavesEither (g.P.Pmem.region c.args.memory.now) c.args.tables.now.layout held (MovedOver (g.P.Pmem.region c.args.memory.now) c.args.tables.now.layout c.args.free.now c.args.cpu r to inode.inode c.args.moved.now.from.name.now c.args.moved.now.name.now c.args.time))) same
    (λ seen. subst (λ (d : Row). ShowsRow (g.P.Pmem.region c.args.memory.now) c.args.tables.now.layout held k d c.args.free.now → name_at d.names c.args.moved.now.name.now ≡ None → LeavesOnly (g.P.Pmem.region c.move_both-done.new.memory) (g.P.Pmem.may_hold c.move_both-done.new.memory) (LeavesEither (g.P.Pmem.region c.args.memory.now) c.args.tables.now.layout held (MovedOver (g.P.Pmem.region c.args.memory.now) c.args.tables.now.layout c.args.free.now c.args.cpu c.lend-from.result d inode.inode c.args.moved.now.from.name.now c.args.moved.now.name.now c.args.time))) other_same
    (λ seen_other none. over_as c.lend-from.result c.lend-to.result (g.P.Pmem.region c.move_both-done.new.memory) (g.P.Pmem.may_hold c.move_both-done.new.memory) number c.other_name-other.ensures.name c.other_name-other.ensures.other c.other_name-other.ensures.time
    (c.move_both-done.ensures.any_stop held h k seen seen_other (ap (name_at c.lend-to.result.names) c.other_name-other.ensures.other ∙ none) settled)) other absent) here

pub returns-clause-in_order : goal.returns-clause-in_order
returns-clause-in_order g c from to inode held h k at other_at inode_at here other =
    let number = c.other_name-other.ensures.inode ∙ sym (numbered c.args.rows.now.items c.args.moved.now.from.target inode inode_at) in
    let entries : name_entries Remove c.other_name-other.result.inode c.other_name-other.result.name.now c.other_name-other.result.time ≡ name_entries Remove inode.inode c.args.moved.now.from.name.now c.args.time = λ t. name_entries Remove (number t) (c.other_name-other.ensures.name t) (c.other_name-other.ensures.time t) in
    of_lent c.args.rows.now.items c.lend-from.new.self.items c.args.moved.now.from.directory c.args.moved.now.directory c.requires.apart c.requires.from c.lend-from.ensures.lent (λ (r d : Row). ShowsRow (g.P.Pmem.region c.args.memory.now) c.args.tables.now.layout held h r c.args.free.now → ShowsRow (g.P.Pmem.region c.args.memory.now) c.args.tables.now.layout held k d c.args.free.now → TailIsFirst (g.P.Pmem.region c.args.memory.now) (g.P.Pmem.region c.move_both-done.new.memory) c.args.tables.now.layout c.args.free.now.pools c.args.cpu r.inode r.tail (name_entries Remove inode.inode c.args.moved.now.from.name.now c.args.time) (tail_address c.args.tables.now.layout d.inode))
    c.lend-from.result c.lend-to.result from to c.lend-from.ensures.row c.lend-to.ensures.row
    (λ seen seen_other. subst (λ (es : List Entry). TailIsFirst (g.P.Pmem.region c.args.memory.now) (g.P.Pmem.region c.move_both-done.new.memory) c.args.tables.now.layout c.args.free.now.pools c.args.cpu c.lend-from.result.inode c.lend-from.result.tail es (tail_address c.args.tables.now.layout c.lend-to.result.inode)) entries (c.move_both-done.ensures.in_order held h k seen seen_other)) at other_at here other

pub returns-clause-wrote : goal.returns-clause-wrote
returns-clause-wrote g c from to inode held h k at other_at inode_at here other =
    of_lent c.args.rows.now.items c.lend-from.new.self.items c.args.moved.now.from.directory c.args.moved.now.directory c.requires.apart c.requires.from c.lend-from.ensures.lent (λ (r d : Row). ShowsRow (g.P.Pmem.region c.args.memory.now) c.args.tables.now.layout held h r c.args.free.now → ShowsRow (g.P.Pmem.region c.args.memory.now) c.args.tables.now.layout held k d c.args.free.now → StoresIn c.args.tables.now.layout held (two_logs c.args.tables.now.layout c.args.cpu r.inode d.inode) (g.P.Pmem.region c.args.memory.now) (g.P.Pmem.region c.move_both-done.new.memory))
    c.lend-from.result c.lend-to.result from to c.lend-from.ensures.row c.lend-to.ensures.row (λ seen seen_other. c.move_both-done.ensures.wrote held h k seen seen_other) at other_at here other
