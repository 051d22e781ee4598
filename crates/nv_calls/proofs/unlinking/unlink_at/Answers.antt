use Rattle.std.proofs.Common.{◌≡◌, ◌∙◌, ◌+◌, ◌-◌, ◌%◌, ◌≤◌, ◌∷◌, [], ℕ, ap, subst, sym}
use Rattle.nv_steps.specs.InOrder.{TailIsFirst, tail_address}
use Rattle.std.proofs.lemmas.Result.{IfErr-weaker, on_ok_weaker}
use Rattle.std.proofs.lemmas.Option.{same_Some}
use Rattle.nv_alloc.specs.Taking.{all_blocks}
use Rattle.nv_entry.specs.declared.entry.Operation.TheVariants.{Remove}
use Rattle.nv_logpage.specs.Append.{needed}
use Rattle.nv_scan.specs.declared.piece.Row.{Row}
use Rattle.nv_rows.proofs.Places.{back_two}
use Rattle.nv_tree.specs.declared.refusal.Refusal.{Refusal}
use Rattle.nv_steps.specs.NameEntries.{links_entries, name_entries}
use Rattle.nv_steps.specs.Unlinks.{UnlinksAt}
use Rattle.nv_region.specs.Stops.{LeavesOnly}
use Rattle.nv_commit.specs.Stopped.{LeavesEither}
use Rattle.nv_steps.specs.Stopped.{Unlinked}
use Rattle.nv_steps.specs.Steps.{RefusesStep, ShowsRow}
use Rattle.nv_calls.proofs.TwoRows.{first_used, last_used, left_two, lifted, of_lent, row_stays, used_still}
use Rattle.nv_calls.proofs.unlinking.unlink_at.Goals as goal
use Rattle.nv_steps.specs.Stores.{StoresIn, two_logs}

pub lend-file-requires : goal.lend-file-requires
lend-file-requires g c = used_still c.args.rows.now.items c.lend-directory.new.self.items c.args.named.now.directory c.args.named.now.target c.requires.apart c.requires.directory c.lend-directory.ensures.lent c.requires.target

pub give_back-requires : goal.give_back-requires
give_back-requires g c =
    let used = used_still c.args.rows.now.items c.lend-directory.new.self.items c.args.named.now.directory c.args.named.now.target c.requires.apart c.requires.directory c.lend-directory.ensures.lent c.requires.target in
    last_used c.lend-directory.new.self.items c.lend-file.new.self.items c.args.named.now.target c.unlink_both-done.new.file used c.lend-file.ensures.lent (c.unlink_both-done.ensures.inodes.1 ∙ c.lend-file.ensures.number)

pub give_back-requires-2 : goal.give_back-requires-2
give_back-requires-2 g c =
    first_used c.args.rows.now.items c.lend-directory.new.self.items c.lend-file.new.self.items c.give_back.new.self.items c.args.named.now.directory c.args.named.now.target c.unlink_both-done.new.directory c.unlink_both-done.new.file c.requires.apart c.requires.directory c.requires.target c.lend-directory.ensures.lent c.lend-file.ensures.lent
    (c.unlink_both-done.ensures.inodes.1 ∙ c.lend-file.ensures.number) c.give_back.ensures.rows (c.unlink_both-done.ensures.inodes.0 ∙ c.lend-directory.ensures.number)

pub returns-clause-unlinked : goal.returns-clause-unlinked
returns-clause-unlinked g c =
    let there = row_stays c.args.rows.now.items c.lend-directory.new.self.items c.args.named.now.directory c.args.named.now.target c.requires.apart c.requires.directory c.lend-directory.ensures.lent c.lend-file.result c.lend-file.ensures.row in
    let put = back_two c.args.rows.now.items c.lend-directory.new.self.items c.lend-file.new.self.items c.give_back.new.self.items c.give_back-2.new.self.items c.args.named.now.directory c.args.named.now.target c.unlink_both-done.new.directory c.unlink_both-done.new.file c.requires.apart c.requires.directory c.requires.target
    c.lend-directory.ensures.lent c.lend-file.ensures.lent (c.unlink_both-done.ensures.inodes.1 ∙ c.lend-file.ensures.number) c.give_back.ensures.rows (c.unlink_both-done.ensures.inodes.0 ∙ c.lend-directory.ensures.number) c.give_back-2.ensures.rows in
    on_ok_weaker c.unlink_both-done.result (λ (step : UnlinksAt (g.P.Pmem.region c.args.memory.now) (g.P.Pmem.region c.unlink_both-done.new.memory) c.args.tables.now.layout c.args.free.now c.unlink_both-done.new.free c.args.cpu (c.lend-directory.result ∷ c.lend-file.result ∷ []) (c.unlink_both-done.new.directory ∷ c.unlink_both-done.new.file ∷ []) 0 1 c.args.named.now.name.now c.args.time). record { directory = step.directory; file = step.file; step = lifted c.args.rows.now.items c.give_back-2.new.self.items c.args.named.now.directory c.args.named.now.target c.lend-directory.result c.lend-file.result c.unlink_both-done.new.directory c.unlink_both-done.new.file c.requires.apart c.lend-directory.ensures.row there put step.step }) c.unlink_both-done.ensures.unlinked

pub returns-clause-enough : goal.returns-clause-enough
returns-clause-enough g c row file at other_at =
    let there = row_stays c.args.rows.now.items c.lend-directory.new.self.items c.args.named.now.directory c.args.named.now.target c.requires.apart c.requires.directory c.lend-directory.ensures.lent c.lend-file.result c.lend-file.ensures.row in
    let same : c.lend-directory.result ≡ row = same_Some _ _ (sym c.lend-directory.ensures.row ∙ at) in
    let other_same : c.lend-file.result ≡ file = same_Some _ _ (sym there ∙ other_at) in
    on_ok_weaker c.unlink_both-done.result (λ enough. subst (λ (n : ℕ). n ≤ all_blocks c.args.free.now.pools) (ap (λ (r : Row). needed (r.tail % 4096) (name_entries Remove c.lend-file.result.inode c.args.named.now.name.now c.args.time) + needed (c.lend-file.result.tail % 4096) (links_entries (c.lend-file.result.numbers.links - 1) c.args.time)) same ∙ ap (λ (r : Row). needed (row.tail % 4096) (name_entries Remove r.inode c.args.named.now.name.now c.args.time) + needed (r.tail % 4096) (links_entries (r.numbers.links - 1) c.args.time)) other_same) enough) c.unlink_both-done.ensures.needs.enough

pub returns-clause-refused : goal.returns-clause-refused
returns-clause-refused g c row file at other_at =
    let there = row_stays c.args.rows.now.items c.lend-directory.new.self.items c.args.named.now.directory c.args.named.now.target c.requires.apart c.requires.directory c.lend-directory.ensures.lent c.lend-file.result c.lend-file.ensures.row in
    let same : c.lend-directory.result ≡ row = same_Some _ _ (sym c.lend-directory.ensures.row ∙ at) in
    let other_same : c.lend-file.result ≡ file = same_Some _ _ (sym there ∙ other_at) in
    IfErr-weaker c.unlink_both-done.result _ _ (λ (e : Refusal) refused. subst (λ (n : ℕ). RefusesStep e n c.args.free.now) (ap (λ (r : Row). needed (r.tail % 4096) (name_entries Remove c.lend-file.result.inode c.args.named.now.name.now c.args.time) + needed (c.lend-file.result.tail % 4096) (links_entries (c.lend-file.result.numbers.links - 1) c.args.time)) same ∙ ap (λ (r : Row). needed (row.tail % 4096) (name_entries Remove r.inode c.args.named.now.name.now c.args.time) + needed (r.tail % 4096) (links_entries (r.numbers.links - 1) c.args.time)) other_same) refused) c.unlink_both-done.ensures.needs.refused

pub returns-clause-kept : goal.returns-clause-kept
returns-clause-kept g c =
    record {
      step = c.unlink_both-done.ensures.kept;
      unchanged = let there = row_stays c.args.rows.now.items c.lend-directory.new.self.items c.args.named.now.directory c.args.named.now.target c.requires.apart c.requires.directory c.lend-directory.ensures.lent c.lend-file.result c.lend-file.ensures.row in
          let put = back_two c.args.rows.now.items c.lend-directory.new.self.items c.lend-file.new.self.items c.give_back.new.self.items c.give_back-2.new.self.items c.args.named.now.directory c.args.named.now.target c.unlink_both-done.new.directory c.unlink_both-done.new.file c.requires.apart c.requires.directory c.requires.target
          c.lend-directory.ensures.lent c.lend-file.ensures.lent (c.unlink_both-done.ensures.inodes.1 ∙ c.lend-file.ensures.number) c.give_back.ensures.rows (c.unlink_both-done.ensures.inodes.0 ∙ c.lend-directory.ensures.number) c.give_back-2.ensures.rows in
          IfErr-weaker c.unlink_both-done.result _ _ (λ (e : Refusal) told off. (let left = told off in left_two c.args.rows.now.items c.give_back-2.new.self.items c.args.named.now.directory c.args.named.now.target c.lend-directory.result c.lend-file.result c.unlink_both-done.new.directory c.unlink_both-done.new.file c.requires.apart c.lend-directory.ensures.row there put c.args.memory.now c.unlink_both-done.new.memory c.args.free.now c.unlink_both-done.new.free left.0 left.1)) c.unlink_both-done.ensures.unchanged;
      tables = (c.give_back-2.ensures.sup ∙ c.give_back.ensures.sup ∙ c.lend-file.ensures.sup ∙ c.lend-directory.ensures.sup, c.give_back-2.ensures.sizes ∙ c.give_back.ensures.sizes ∙ c.lend-file.ensures.sizes ∙ c.lend-directory.ensures.sizes);
    }

pub returns-clause-any_stop : goal.returns-clause-any_stop
returns-clause-any_stop g c row file held h f at other_at here other settled =
    let there = row_stays c.args.rows.now.items c.lend-directory.new.self.items c.args.named.now.directory c.args.named.now.target c.requires.apart c.requires.directory c.lend-directory.ensures.lent c.lend-file.result c.lend-file.ensures.row in
    let same : c.lend-directory.result ≡ row = same_Some _ _ (sym c.lend-directory.ensures.row ∙ at) in
    let other_same : c.lend-file.result ≡ file = same_Some _ _ (sym there ∙ other_at) in
    subst (λ (r : Row). ShowsRow (g.P.Pmem.region c.args.memory.now) c.args.tables.now.layout held h r c.args.free.now → LeavesOnly (g.P.Pmem.region c.unlink_both-done.new.memory) (g.P.Pmem.may_hold c.unlink_both-done.new.memory) (LeavesEither (g.P.Pmem.region c.args.memory.now) c.args.tables.now.layout held (Unlinked (g.P.Pmem.region c.args.memory.now) c.args.tables.now.layout c.args.free.now c.args.cpu r file c.args.named.now.name.now c.args.time))) same
    (λ seen. subst (λ (d : Row). ShowsRow (g.P.Pmem.region c.args.memory.now) c.args.tables.now.layout held f d c.args.free.now → LeavesOnly (g.P.Pmem.region c.unlink_both-done.new.memory) (g.P.Pmem.may_hold c.unlink_both-done.new.memory) (LeavesEither (g.P.Pmem.region c.args.memory.now) c.args.tables.now.layout held (Unlinked (g.P.Pmem.region c.args.memory.now) c.args.tables.now.layout c.args.free.now c.args.cpu c.lend-directory.result d c.args.named.now.name.now c.args.time))) other_same
    (λ seen_other. c.unlink_both-done.ensures.any_stop held h f seen seen_other settled) other) here

pub returns-clause-in_order : goal.returns-clause-in_order
returns-clause-in_order g c row file held h f at other_at here other =
    of_lent c.args.rows.now.items c.lend-directory.new.self.items c.args.named.now.directory c.args.named.now.target c.requires.apart c.requires.directory c.lend-directory.ensures.lent (λ (r d : Row). ShowsRow (g.P.Pmem.region c.args.memory.now) c.args.tables.now.layout held h r c.args.free.now → ShowsRow (g.P.Pmem.region c.args.memory.now) c.args.tables.now.layout held f d c.args.free.now → TailIsFirst (g.P.Pmem.region c.args.memory.now) (g.P.Pmem.region c.unlink_both-done.new.memory) c.args.tables.now.layout c.args.free.now.pools c.args.cpu r.inode r.tail (name_entries Remove d.inode c.args.named.now.name.now c.args.time) (tail_address c.args.tables.now.layout d.inode))
    c.lend-directory.result c.lend-file.result row file c.lend-directory.ensures.row c.lend-file.ensures.row (λ seen seen_other. c.unlink_both-done.ensures.in_order held h f seen seen_other) at other_at here other

pub returns-clause-wrote : goal.returns-clause-wrote
returns-clause-wrote g c row file held h f at other_at here other =
    of_lent c.args.rows.now.items c.lend-directory.new.self.items c.args.named.now.directory c.args.named.now.target c.requires.apart c.requires.directory c.lend-directory.ensures.lent (λ (r d : Row). ShowsRow (g.P.Pmem.region c.args.memory.now) c.args.tables.now.layout held h r c.args.free.now → ShowsRow (g.P.Pmem.region c.args.memory.now) c.args.tables.now.layout held f d c.args.free.now → StoresIn c.args.tables.now.layout held (two_logs c.args.tables.now.layout c.args.cpu r.inode d.inode) (g.P.Pmem.region c.args.memory.now) (g.P.Pmem.region c.unlink_both-done.new.memory))
    c.lend-directory.result c.lend-file.result row file c.lend-directory.ensures.row c.lend-file.ensures.row (λ seen seen_other. c.unlink_both-done.ensures.wrote held h f seen seen_other) at other_at here other

pub unlink_both-done-requires : goal.unlink_both-done-requires
unlink_both-done-requires g c =
    record {
      apart = (λ same. c.requires.apart (sym c.lend-directory.ensures.number ∙ same ∙ c.lend-file.ensures.number));
      stands = (c.requires.stands c.lend-directory.result c.lend-directory.ensures.row);
      other_stands = (let there = row_stays c.args.rows.now.items c.lend-directory.new.self.items c.args.named.now.directory c.args.named.now.target c.requires.apart c.requires.directory c.lend-directory.ensures.lent c.lend-file.result c.lend-file.ensures.row in
          c.requires.file_stands c.lend-file.result there);
      given = (
        (let there = row_stays c.args.rows.now.items c.lend-directory.new.self.items c.args.named.now.directory c.args.named.now.target c.requires.apart c.requires.directory c.lend-directory.ensures.lent c.lend-file.result c.lend-file.ensures.row in
            c.requires.more c.lend-file.result there),
        c.requires.name,
      );
    }
