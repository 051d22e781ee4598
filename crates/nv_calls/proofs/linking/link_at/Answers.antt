use Rattle.std.proofs.Common.{◌≡◌, ◌∙◌, ◌+◌, ◌%◌, ◌≤◌, ◌∷◌, [], ℕ, ap, subst, sym, None}
use Rattle.nv_steps.specs.InOrder.{TailIsFirst, tail_address}
use Rattle.std.proofs.lemmas.Result.{IfErr-weaker, on_ok_weaker}
use Rattle.std.proofs.lemmas.Option.{same_Some}
use Rattle.nv_alloc.specs.Taking.{all_blocks}
use Rattle.nv_entry.specs.declared.entry.Operation.TheVariants.{Add}
use Rattle.nv_logpage.specs.Append.{needed}
use Rattle.nv_scan.specs.declared.piece.Row.{Row}
use Rattle.nv_rows.proofs.Places.{back_two}
use Rattle.nv_tree.specs.declared.refusal.Refusal.{Refusal}
use Rattle.nv_steps.specs.NameEntries.{links_entries, name_entries}
use Rattle.nv_steps.specs.MoreNames.{LinksAt}
use Rattle.nv_region.specs.Stops.{LeavesOnly}
use Rattle.nv_names.specs.Names.{name_at}
use Rattle.nv_commit.specs.Stopped.{LeavesEither}
use Rattle.nv_steps.specs.Stopped.{Linked}
use Rattle.nv_steps.specs.Steps.{RefusesStep, ShowsRow}
use Rattle.nv_calls.proofs.TwoRows.{first_used, last_used, left_two, lifted, of_lent, row_stays, used_still}
use Rattle.nv_calls.proofs.linking.link_at.Goals as goal
use Rattle.nv_steps.specs.Stores.{StoresIn, two_logs}

pub lend-directory-requires : goal.lend-directory-requires
lend-directory-requires g c = used_still c.args.rows.now.items c.lend-file.new.self.items c.args.named.now.target c.args.named.now.directory c.requires.apart c.requires.target c.lend-file.ensures.lent c.requires.directory

pub give_back-requires : goal.give_back-requires
give_back-requires g c =
    let used = used_still c.args.rows.now.items c.lend-file.new.self.items c.args.named.now.target c.args.named.now.directory c.requires.apart c.requires.target c.lend-file.ensures.lent c.requires.directory in
    last_used c.lend-file.new.self.items c.lend-directory.new.self.items c.args.named.now.directory c.link_both-done.new.directory used c.lend-directory.ensures.lent (c.link_both-done.ensures.inodes.1 ∙ c.lend-directory.ensures.number)

pub give_back-requires-2 : goal.give_back-requires-2
give_back-requires-2 g c =
    first_used c.args.rows.now.items c.lend-file.new.self.items c.lend-directory.new.self.items c.give_back.new.self.items c.args.named.now.target c.args.named.now.directory c.link_both-done.new.file c.link_both-done.new.directory c.requires.apart c.requires.target c.requires.directory c.lend-file.ensures.lent c.lend-directory.ensures.lent
    (c.link_both-done.ensures.inodes.1 ∙ c.lend-directory.ensures.number) c.give_back.ensures.rows (c.link_both-done.ensures.inodes.0 ∙ c.lend-file.ensures.number)

pub returns-clause-linked : goal.returns-clause-linked
returns-clause-linked g c =
    let there = row_stays c.args.rows.now.items c.lend-file.new.self.items c.args.named.now.target c.args.named.now.directory c.requires.apart c.requires.target c.lend-file.ensures.lent c.lend-directory.result c.lend-directory.ensures.row in
    let put = back_two c.args.rows.now.items c.lend-file.new.self.items c.lend-directory.new.self.items c.give_back.new.self.items c.give_back-2.new.self.items c.args.named.now.target c.args.named.now.directory c.link_both-done.new.file c.link_both-done.new.directory c.requires.apart c.requires.target c.requires.directory
    c.lend-file.ensures.lent c.lend-directory.ensures.lent (c.link_both-done.ensures.inodes.1 ∙ c.lend-directory.ensures.number) c.give_back.ensures.rows (c.link_both-done.ensures.inodes.0 ∙ c.lend-file.ensures.number) c.give_back-2.ensures.rows in
    on_ok_weaker c.link_both-done.result (λ (step : LinksAt (g.P.Pmem.region c.args.memory.now) (g.P.Pmem.region c.link_both-done.new.memory) c.args.tables.now.layout c.args.free.now c.link_both-done.new.free c.args.cpu (c.lend-file.result ∷ c.lend-directory.result ∷ []) (c.link_both-done.new.file ∷ c.link_both-done.new.directory ∷ []) 0 1 c.args.named.now.name.now c.args.time). record { file = step.file; directory = step.directory; step = lifted c.args.rows.now.items c.give_back-2.new.self.items c.args.named.now.target c.args.named.now.directory c.lend-file.result c.lend-directory.result c.link_both-done.new.file c.link_both-done.new.directory c.requires.apart c.lend-file.ensures.row there put step.step }) c.link_both-done.ensures.linked

pub returns-clause-enough : goal.returns-clause-enough
returns-clause-enough g c row directory at other_at =
    let there = row_stays c.args.rows.now.items c.lend-file.new.self.items c.args.named.now.target c.args.named.now.directory c.requires.apart c.requires.target c.lend-file.ensures.lent c.lend-directory.result c.lend-directory.ensures.row in
    let same : c.lend-file.result ≡ row = same_Some _ _ (sym c.lend-file.ensures.row ∙ at) in
    let other_same : c.lend-directory.result ≡ directory = same_Some _ _ (sym there ∙ other_at) in
    on_ok_weaker c.link_both-done.result (λ enough. subst (λ (n : ℕ). n ≤ all_blocks c.args.free.now.pools) (ap (λ (r : Row). needed (r.tail % 4096) (links_entries (r.numbers.links + 1) c.args.time) + needed (c.lend-directory.result.tail % 4096) (name_entries Add r.inode c.args.named.now.name.now c.args.time)) same ∙ ap (λ (r : Row). needed (row.tail % 4096) (links_entries (row.numbers.links + 1) c.args.time) + needed (r.tail % 4096) (name_entries Add row.inode c.args.named.now.name.now c.args.time)) other_same) enough) c.link_both-done.ensures.needs.enough

pub returns-clause-refused : goal.returns-clause-refused
returns-clause-refused g c row directory at other_at =
    let there = row_stays c.args.rows.now.items c.lend-file.new.self.items c.args.named.now.target c.args.named.now.directory c.requires.apart c.requires.target c.lend-file.ensures.lent c.lend-directory.result c.lend-directory.ensures.row in
    let same : c.lend-file.result ≡ row = same_Some _ _ (sym c.lend-file.ensures.row ∙ at) in
    let other_same : c.lend-directory.result ≡ directory = same_Some _ _ (sym there ∙ other_at) in
    IfErr-weaker c.link_both-done.result _ _ (λ (e : Refusal) refused. subst (λ (n : ℕ). RefusesStep e n c.args.free.now) (ap (λ (r : Row). needed (r.tail % 4096) (links_entries (r.numbers.links + 1) c.args.time) + needed (c.lend-directory.result.tail % 4096) (name_entries Add r.inode c.args.named.now.name.now c.args.time)) same ∙ ap (λ (r : Row). needed (row.tail % 4096) (links_entries (row.numbers.links + 1) c.args.time) + needed (r.tail % 4096) (name_entries Add row.inode c.args.named.now.name.now c.args.time)) other_same) refused) c.link_both-done.ensures.needs.refused

pub returns-clause-kept : goal.returns-clause-kept
returns-clause-kept g c =
    record {
      step = c.link_both-done.ensures.kept;
      unchanged = let there = row_stays c.args.rows.now.items c.lend-file.new.self.items c.args.named.now.target c.args.named.now.directory c.requires.apart c.requires.target c.lend-file.ensures.lent c.lend-directory.result c.lend-directory.ensures.row in
          let put = back_two c.args.rows.now.items c.lend-file.new.self.items c.lend-directory.new.self.items c.give_back.new.self.items c.give_back-2.new.self.items c.args.named.now.target c.args.named.now.directory c.link_both-done.new.file c.link_both-done.new.directory c.requires.apart c.requires.target c.requires.directory
          c.lend-file.ensures.lent c.lend-directory.ensures.lent (c.link_both-done.ensures.inodes.1 ∙ c.lend-directory.ensures.number) c.give_back.ensures.rows (c.link_both-done.ensures.inodes.0 ∙ c.lend-file.ensures.number) c.give_back-2.ensures.rows in
          IfErr-weaker c.link_both-done.result _ _ (λ (e : Refusal) told off. (let left = told off in left_two c.args.rows.now.items c.give_back-2.new.self.items c.args.named.now.target c.args.named.now.directory c.lend-file.result c.lend-directory.result c.link_both-done.new.file c.link_both-done.new.directory c.requires.apart c.lend-file.ensures.row there put c.args.memory.now c.link_both-done.new.memory c.args.free.now c.link_both-done.new.free left.0 left.1)) c.link_both-done.ensures.unchanged;
      tables = (c.give_back-2.ensures.sup ∙ c.give_back.ensures.sup ∙ c.lend-directory.ensures.sup ∙ c.lend-file.ensures.sup, c.give_back-2.ensures.sizes ∙ c.give_back.ensures.sizes ∙ c.lend-directory.ensures.sizes ∙ c.lend-file.ensures.sizes);
    }

pub returns-clause-any_stop : goal.returns-clause-any_stop
returns-clause-any_stop g c file directory held f h at other_at here other absent settled =
    let there = row_stays c.args.rows.now.items c.lend-file.new.self.items c.args.named.now.target c.args.named.now.directory c.requires.apart c.requires.target c.lend-file.ensures.lent c.lend-directory.result c.lend-directory.ensures.row in
    let same : c.lend-file.result ≡ file = same_Some _ _ (sym c.lend-file.ensures.row ∙ at) in
    let other_same : c.lend-directory.result ≡ directory = same_Some _ _ (sym there ∙ other_at) in
    subst (λ (r : Row). ShowsRow (g.P.Pmem.region c.args.memory.now) c.args.tables.now.layout held f r c.args.free.now → LeavesOnly (g.P.Pmem.region c.link_both-done.new.memory) (g.P.Pmem.may_hold c.link_both-done.new.memory) (LeavesEither (g.P.Pmem.region c.args.memory.now) c.args.tables.now.layout held (Linked (g.P.Pmem.region c.args.memory.now) c.args.tables.now.layout c.args.free.now c.args.cpu r directory c.args.named.now.name.now c.args.time))) same
    (λ seen. subst (λ (d : Row). ShowsRow (g.P.Pmem.region c.args.memory.now) c.args.tables.now.layout held h d c.args.free.now → name_at d.names c.args.named.now.name.now ≡ None → LeavesOnly (g.P.Pmem.region c.link_both-done.new.memory) (g.P.Pmem.may_hold c.link_both-done.new.memory) (LeavesEither (g.P.Pmem.region c.args.memory.now) c.args.tables.now.layout held (Linked (g.P.Pmem.region c.args.memory.now) c.args.tables.now.layout c.args.free.now c.args.cpu c.lend-file.result d c.args.named.now.name.now c.args.time))) other_same
    (λ seen_other none. c.link_both-done.ensures.any_stop held f h seen seen_other none settled) other absent) here

pub returns-clause-in_order : goal.returns-clause-in_order
returns-clause-in_order g c file directory held f h at other_at here other =
    of_lent c.args.rows.now.items c.lend-file.new.self.items c.args.named.now.target c.args.named.now.directory c.requires.apart c.requires.target c.lend-file.ensures.lent (λ (r d : Row). ShowsRow (g.P.Pmem.region c.args.memory.now) c.args.tables.now.layout held f r c.args.free.now → ShowsRow (g.P.Pmem.region c.args.memory.now) c.args.tables.now.layout held h d c.args.free.now → TailIsFirst (g.P.Pmem.region c.args.memory.now) (g.P.Pmem.region c.link_both-done.new.memory) c.args.tables.now.layout c.args.free.now.pools c.args.cpu r.inode r.tail (links_entries (r.numbers.links + 1) c.args.time) (tail_address c.args.tables.now.layout d.inode))
    c.lend-file.result c.lend-directory.result file directory c.lend-file.ensures.row c.lend-directory.ensures.row (λ seen seen_other. c.link_both-done.ensures.in_order held f h seen seen_other) at other_at here other

pub returns-clause-wrote : goal.returns-clause-wrote
returns-clause-wrote g c file directory held f h at other_at here other =
    of_lent c.args.rows.now.items c.lend-file.new.self.items c.args.named.now.target c.args.named.now.directory c.requires.apart c.requires.target c.lend-file.ensures.lent (λ (r d : Row). ShowsRow (g.P.Pmem.region c.args.memory.now) c.args.tables.now.layout held f r c.args.free.now → ShowsRow (g.P.Pmem.region c.args.memory.now) c.args.tables.now.layout held h d c.args.free.now → StoresIn c.args.tables.now.layout held (two_logs c.args.tables.now.layout c.args.cpu r.inode d.inode) (g.P.Pmem.region c.args.memory.now) (g.P.Pmem.region c.link_both-done.new.memory))
    c.lend-file.result c.lend-directory.result file directory c.lend-file.ensures.row c.lend-directory.ensures.row (λ seen seen_other. c.link_both-done.ensures.wrote held f h seen seen_other) at other_at here other

pub link_both-done-requires : goal.link_both-done-requires
link_both-done-requires g c =
    record {
      apart = (λ same. c.requires.apart (sym c.lend-file.ensures.number ∙ same ∙ c.lend-directory.ensures.number));
      stands = (c.requires.stands c.lend-file.result c.lend-file.ensures.row);
      other_stands = (let there = row_stays c.args.rows.now.items c.lend-file.new.self.items c.args.named.now.target c.args.named.now.directory c.requires.apart c.requires.target c.lend-file.ensures.lent c.lend-directory.result c.lend-directory.ensures.row in
          c.requires.directory_stands c.lend-directory.result there);
      given = ((c.requires.few c.lend-file.result c.lend-file.ensures.row), c.requires.name);
    }
