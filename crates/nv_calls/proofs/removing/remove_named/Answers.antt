use Rattle.std.proofs.Common.{◌≡◌, ◌≢◌, ◌∙◌, ◌+◌, ◌%◌, ◌≤◌, ℕ, length, subst, sym}
use Rattle.nv_steps.specs.InOrder.{TailIsFirst}
use Rattle.std.specs.Int.{div_ceil}
use Rattle.std.proofs.lemmas.Result.{err_from_is_err_and}
use Rattle.std.proofs.lemmas.Option.{same_Some}
use Rattle.nv_alloc.specs.Taking.{all_blocks}
use Rattle.nv_entry.specs.declared.entry.Operation.TheVariants.{Remove}
use Rattle.nv_logpage.specs.Append.{needed}
use Rattle.nv_rows.proofs.Places.{at_place, in_use, numbered}
use Rattle.nv_scan.specs.declared.piece.Row.{Row}
use Rattle.nv_tree.specs.declared.refusal.Refusal.{Refusal}
use Rattle.nv_tree.specs.declared.refusal.Refusal.TheVariants.{Stopped}
use Rattle.nv_steps.specs.LessNames.{CutsName}
use Rattle.nv_steps.specs.NameEntries.{name_entries}
use Rattle.nv_steps.specs.NewNames.{CanName}
use Rattle.nv_calls.specs.AtPlaces.{LeavesRows}
use Rattle.nv_region.specs.Stops.{LeavesOnly}
use Rattle.nv_commit.specs.Stopped.{LeavesEither}
use Rattle.nv_steps.specs.Stopped.{Cut}
use Rattle.nv_steps.specs.Steps.{RefusesStep, ShowsRow}
use Rattle.nv_tree.proofs.Replies.{refused_by}
use Rattle.nv_calls.proofs.OneOut.{left_one, other_out, other_row, other_used}
use Rattle.nv_calls.proofs.OwnedRow.{owns_taken}
use Rattle.nv_calls.proofs.TwoRows.{last_used}
use Rattle.nv_steps.proofs.Kept.{kept_refused}
use Rattle.nv_calls.proofs.removing.remove_named.Goals as goal
use Rattle.nv_steps.specs.Stores.{StoresIn, one_less}
use Rattle.nv_steps.specs.Slots.{slot_in}

pub give_back-requires : goal.give_back-requires
give_back-requires g c =
    last_used c.args.rows.now.items c.lend-directory.new.self.items c.args.named.now.directory c.cut_name-cut.new.directory (in_use c.args.rows.now.items c.args.named.now.directory c.lend-directory.result c.lend-directory.ensures.row) c.lend-directory.ensures.lent (c.cut_name-cut.ensures.inode ∙ c.lend-directory.ensures.number)

pub cut_name-cut-requires : goal.cut_name-cut-requires
cut_name-cut-requires g c =
    record {
      stands = (c.requires.stands c.lend-directory.result c.lend-directory.ensures.row);
      can = (let number = numbered c.args.rows.now.items c.args.named.now.target c.row.result.now c.row.ensures in
          subst (λ (i : ℕ). CanName (g.P.Pmem.region c.args.memory.now) c.args.tables.now.layout c.args.cpu i c.lend-directory.result) number (c.requires.can c.lend-directory.result c.row.result.now c.lend-directory.ensures.row c.row.ensures).0);
      given = (
        (let number = numbered c.args.rows.now.items c.args.named.now.target c.row.result.now c.row.ensures in
            λ same. (c.requires.can c.lend-directory.result c.row.result.now c.lend-directory.ensures.row c.row.ensures).1 (same ∙ sym number)),
        c.requires.name,
      );
    }

pub returns-in_err-cut-clause-refused : goal.returns-in_err-cut-clause-refused
returns-in_err-cut-clause-refused g c row gone at gone_at =
    let row_is = same_Some _ _ (sym c.lend-directory.ensures.row ∙ at) in
    let number = sym (numbered c.args.rows.now.items c.args.named.now.target gone gone_at) in
    let count : needed (c.lend-directory.result.tail % 4096) (name_entries Remove c.args.named.now.target c.args.named.now.name.now c.args.time) ≡ needed (row.tail % 4096) (name_entries Remove gone.inode c.args.named.now.name.now c.args.time) = λ k. needed ((row_is k).tail % 4096) (name_entries Remove (number k) c.args.named.now.name.now c.args.time) in
    let w = err_from_is_err_and c.from_residual.result c.from_residual.ensures.1 in
    refused_by c.from_residual.result c.in_err-cut.field-0.0 w.0
    (λ (e : Refusal). RefusesStep e (needed (row.tail % 4096) (name_entries Remove gone.inode c.args.named.now.name.now c.args.time)) c.args.free.now) w.1 w.2
    (subst (λ (n : ℕ). RefusesStep c.in_err-cut.field-0.0 n c.args.free.now) count c.in_err-cut.ensures.needs.refused)

pub returns-in_err-cut-clause-kept : goal.returns-in_err-cut-clause-kept
returns-in_err-cut-clause-kept g c =
    let w = err_from_is_err_and c.from_residual.result c.from_residual.ensures.1 in
    record {
      step = kept_refused c.from_residual.result c.in_err-cut.field-0.0 w.0 w.1 w.2 c.in_err-cut.ensures.kept;
      unchanged = refused_by c.from_residual.result c.in_err-cut.field-0.0 w.0
          (λ (e : Refusal). (e ≡ Stopped → ⊥) → LeavesRows c.args.memory.now c.cut_name-cut.new.memory c.args.free.now c.cut_name-cut.new.free c.args.rows.now.items c.give_back.new.self.items) w.1 w.2
          (λ off. left_one c.args.rows.now.items c.lend-directory.new.self.items c.give_back.new.self.items c.args.named.now.directory c.lend-directory.result c.cut_name-cut.new.directory c.lend-directory.ensures.row c.lend-directory.ensures.lent (c.cut_name-cut.ensures.inode ∙ c.lend-directory.ensures.number) c.give_back.ensures.rows
          c.args.memory.now c.cut_name-cut.new.memory c.args.free.now c.cut_name-cut.new.free (c.in_err-cut.ensures.unchanged off));
      tables = (c.give_back.ensures.sup ∙ c.lend-directory.ensures.sup, c.give_back.ensures.sizes ∙ c.lend-directory.ensures.sizes);
    }

pub take-requires : goal.take-requires
take-requires g c =
    let rows = c.args.rows.now.items in
    let apart : c.args.named.now.directory ≢ c.args.named.now.target = (λ same. (c.requires.can c.lend-directory.result c.row.result.now c.lend-directory.ensures.row c.row.ensures).1 (c.lend-directory.ensures.number ∙ same ∙ sym (numbered rows c.args.named.now.target c.row.result.now c.row.ensures))) in
    other_used rows c.lend-directory.new.self.items c.give_back.new.self.items c.args.named.now.directory c.lend-directory.result c.cut_name-cut.new.directory c.lend-directory.ensures.row c.lend-directory.ensures.lent (c.cut_name-cut.ensures.inode ∙ c.lend-directory.ensures.number) c.give_back.ensures.rows c.args.named.now.target apart c.requires.target

pub give_row-requires-clause-own : goal.give_row-requires-clause-own
give_row-requires-clause-own g c =
    let rows = c.args.rows.now.items in
    let apart : c.args.named.now.directory ≢ c.args.named.now.target = (λ same. (c.requires.can c.lend-directory.result c.row.result.now c.lend-directory.ensures.row c.row.ensures).1 (c.lend-directory.ensures.number ∙ same ∙ sym (numbered rows c.args.named.now.target c.row.result.now c.row.ensures))) in
    let there = sym (other_row rows c.lend-directory.new.self.items c.give_back.new.self.items c.args.named.now.directory c.lend-directory.result c.cut_name-cut.new.directory c.lend-directory.ensures.row c.lend-directory.ensures.lent (c.cut_name-cut.ensures.inode ∙ c.lend-directory.ensures.number) c.give_back.ensures.rows c.args.named.now.target apart) ∙ c.take.ensures.row in
    let cuts = c.in_ok-cut.ensures.cut in
    owns_taken cuts.taken (c.requires.owns c.take.result there)

pub give_row-requires-clause-room : goal.give_row-requires-clause-room
give_row-requires-clause-room g c =
    let rows = c.args.rows.now.items in
    let apart : c.args.named.now.directory ≢ c.args.named.now.target = (λ same. (c.requires.can c.lend-directory.result c.row.result.now c.lend-directory.ensures.row c.row.ensures).1 (c.lend-directory.ensures.number ∙ same ∙ sym (numbered rows c.args.named.now.target c.row.result.now c.row.ensures))) in
    let there = sym (other_row rows c.lend-directory.new.self.items c.give_back.new.self.items c.args.named.now.directory c.lend-directory.result c.cut_name-cut.new.directory c.lend-directory.ensures.row c.lend-directory.ensures.lent (c.cut_name-cut.ensures.inode ∙ c.lend-directory.ensures.number) c.give_back.ensures.rows c.args.named.now.target apart) ∙ c.take.ensures.row in
    let same : c.row.result.now ≡ c.take.result = same_Some _ _ (sym c.row.ensures ∙ there) in
    subst (λ (r : Row). length r.pages.items + div_ceil r.numbers.size 4096 ≤ c.cut_name-cut.new.free.room) same (subst (λ (n : ℕ). n ≤ c.cut_name-cut.new.free.room) c.most_blocks.ensures c.in_ok-cut.ensures.needs.room)

pub returns-clause-removed : goal.returns-clause-removed
returns-clause-removed g c =
    let rows = c.args.rows.now.items in
    let apart : c.args.named.now.directory ≢ c.args.named.now.target = (λ same. (c.requires.can c.lend-directory.result c.row.result.now c.lend-directory.ensures.row c.row.ensures).1 (c.lend-directory.ensures.number ∙ same ∙ sym (numbered rows c.args.named.now.target c.row.result.now c.row.ensures))) in
    let there = sym (other_row rows c.lend-directory.new.self.items c.give_back.new.self.items c.args.named.now.directory c.lend-directory.result c.cut_name-cut.new.directory c.lend-directory.ensures.row c.lend-directory.ensures.lent (c.cut_name-cut.ensures.inode ∙ c.lend-directory.ensures.number) c.give_back.ensures.rows c.args.named.now.target apart) ∙ c.take.ensures.row in
    record {
      row = c.lend-directory.result;
      gone = c.take.result;
      now = c.cut_name-cut.new.directory;
      mid = c.cut_name-cut.new.free;
      at = at_place rows c.args.named.now.directory ∙ c.lend-directory.ensures.row;
      gone_at = at_place rows c.args.named.now.target ∙ there;
      step = subst (λ (i : ℕ). CutsName (g.P.Pmem.region c.args.memory.now) (g.P.Pmem.region c.cut_name-cut.new.memory) c.args.tables.now.layout c.args.free.now c.cut_name-cut.new.free c.args.cpu c.lend-directory.result c.cut_name-cut.new.directory i c.args.time c.args.named.now.name.now) (sym c.take.ensures.number) c.in_ok-cut.ensures.cut;
      given = c.give_row.ensures.given;
      put = other_out rows c.lend-directory.new.self.items c.give_back.new.self.items c.args.named.now.directory c.lend-directory.result c.cut_name-cut.new.directory c.lend-directory.ensures.row c.lend-directory.ensures.lent (c.cut_name-cut.ensures.inode ∙ c.lend-directory.ensures.number) c.give_back.ensures.rows c.args.named.now.target apart c.take.ensures.rows;
    }

pub returns-clause-enough : goal.returns-clause-enough
returns-clause-enough g c row gone at gone_at =
    let row_is = same_Some _ _ (sym c.lend-directory.ensures.row ∙ at) in
    let number = sym (numbered c.args.rows.now.items c.args.named.now.target gone gone_at) in
    let count : needed (c.lend-directory.result.tail % 4096) (name_entries Remove c.args.named.now.target c.args.named.now.name.now c.args.time) ≡ needed (row.tail % 4096) (name_entries Remove gone.inode c.args.named.now.name.now c.args.time) = λ k. needed ((row_is k).tail % 4096) (name_entries Remove (number k) c.args.named.now.name.now c.args.time) in
    subst (λ (n : ℕ). n ≤ all_blocks c.args.free.now.pools) count c.in_ok-cut.ensures.needs.enough

pub returns-in_err-cut-clause-any_stop : goal.returns-in_err-cut-clause-any_stop
returns-in_err-cut-clause-any_stop g c row gone held h at gone_at shows settled =
    let same : c.lend-directory.result ≡ row = same_Some _ _ (sym c.lend-directory.ensures.row ∙ at) in
    let number = sym (numbered c.args.rows.now.items c.args.named.now.target gone gone_at) in
    subst (λ (i : ℕ). LeavesOnly (g.P.Pmem.region c.cut_name-cut.new.memory) (g.P.Pmem.may_hold c.cut_name-cut.new.memory) (LeavesEither (g.P.Pmem.region c.args.memory.now) c.args.tables.now.layout held (Cut (g.P.Pmem.region c.args.memory.now) c.args.tables.now.layout c.args.free.now c.args.cpu row i c.args.time c.args.named.now.name.now))) number
    (subst (λ (r : Row). ShowsRow (g.P.Pmem.region c.args.memory.now) c.args.tables.now.layout held h r c.args.free.now → LeavesOnly (g.P.Pmem.region c.cut_name-cut.new.memory) (g.P.Pmem.may_hold c.cut_name-cut.new.memory) (LeavesEither (g.P.Pmem.region c.args.memory.now) c.args.tables.now.layout held (Cut (g.P.Pmem.region c.args.memory.now) c.args.tables.now.layout c.args.free.now c.args.cpu r c.args.named.now.target c.args.time c.args.named.now.name.now))) same
    (λ seen. c.cut_name-cut.ensures.any_stop held h seen settled) shows)

pub returns-clause-any_stop : goal.returns-clause-any_stop
returns-clause-any_stop g c row gone held h at gone_at shows settled =
    let same : c.lend-directory.result ≡ row = same_Some _ _ (sym c.lend-directory.ensures.row ∙ at) in
    let number = sym (numbered c.args.rows.now.items c.args.named.now.target gone gone_at) in
    subst (λ (i : ℕ). LeavesOnly (g.P.Pmem.region c.cut_name-cut.new.memory) (g.P.Pmem.may_hold c.cut_name-cut.new.memory) (LeavesEither (g.P.Pmem.region c.args.memory.now) c.args.tables.now.layout held (Cut (g.P.Pmem.region c.args.memory.now) c.args.tables.now.layout c.args.free.now c.args.cpu row i c.args.time c.args.named.now.name.now))) number
    (subst (λ (r : Row). ShowsRow (g.P.Pmem.region c.args.memory.now) c.args.tables.now.layout held h r c.args.free.now → LeavesOnly (g.P.Pmem.region c.cut_name-cut.new.memory) (g.P.Pmem.may_hold c.cut_name-cut.new.memory) (LeavesEither (g.P.Pmem.region c.args.memory.now) c.args.tables.now.layout held (Cut (g.P.Pmem.region c.args.memory.now) c.args.tables.now.layout c.args.free.now c.args.cpu r c.args.named.now.target c.args.time c.args.named.now.name.now))) same
    (λ seen. c.cut_name-cut.ensures.any_stop held h seen settled) shows)

pub returns-in_err-cut-clause-in_order : goal.returns-in_err-cut-clause-in_order
returns-in_err-cut-clause-in_order g c row gone held h at gone_at shows =
    let same : c.lend-directory.result ≡ row = same_Some _ _ (sym c.lend-directory.ensures.row ∙ at) in
    let number = sym (numbered c.args.rows.now.items c.args.named.now.target gone gone_at) in
    subst (λ (i : ℕ). TailIsFirst (g.P.Pmem.region c.args.memory.now) (g.P.Pmem.region c.cut_name-cut.new.memory) c.args.tables.now.layout c.args.free.now.pools c.args.cpu row.inode row.tail (name_entries Remove i c.args.named.now.name.now c.args.time) (slot_in c.args.tables.now.layout i)) number
    (subst (λ (r : Row). ShowsRow (g.P.Pmem.region c.args.memory.now) c.args.tables.now.layout held h r c.args.free.now → TailIsFirst (g.P.Pmem.region c.args.memory.now) (g.P.Pmem.region c.cut_name-cut.new.memory) c.args.tables.now.layout c.args.free.now.pools c.args.cpu r.inode r.tail (name_entries Remove c.args.named.now.target c.args.named.now.name.now c.args.time) (slot_in c.args.tables.now.layout c.args.named.now.target)) same
    (λ seen. c.cut_name-cut.ensures.in_order held h seen) shows)

pub returns-clause-in_order : goal.returns-clause-in_order
returns-clause-in_order g c row gone held h at gone_at shows =
    let same : c.lend-directory.result ≡ row = same_Some _ _ (sym c.lend-directory.ensures.row ∙ at) in
    let number = sym (numbered c.args.rows.now.items c.args.named.now.target gone gone_at) in
    subst (λ (i : ℕ). TailIsFirst (g.P.Pmem.region c.args.memory.now) (g.P.Pmem.region c.cut_name-cut.new.memory) c.args.tables.now.layout c.args.free.now.pools c.args.cpu row.inode row.tail (name_entries Remove i c.args.named.now.name.now c.args.time) (slot_in c.args.tables.now.layout i)) number
    (subst (λ (r : Row). ShowsRow (g.P.Pmem.region c.args.memory.now) c.args.tables.now.layout held h r c.args.free.now → TailIsFirst (g.P.Pmem.region c.args.memory.now) (g.P.Pmem.region c.cut_name-cut.new.memory) c.args.tables.now.layout c.args.free.now.pools c.args.cpu r.inode r.tail (name_entries Remove c.args.named.now.target c.args.named.now.name.now c.args.time) (slot_in c.args.tables.now.layout c.args.named.now.target)) same
    (λ seen. c.cut_name-cut.ensures.in_order held h seen) shows)

pub returns-in_err-cut-clause-wrote : goal.returns-in_err-cut-clause-wrote
returns-in_err-cut-clause-wrote g c row gone held h at gone_at shows =
    let same : c.lend-directory.result ≡ row = same_Some _ _ (sym c.lend-directory.ensures.row ∙ at) in
    let number = sym (numbered c.args.rows.now.items c.args.named.now.target gone gone_at) in
    subst (λ (i : ℕ). StoresIn c.args.tables.now.layout held (one_less c.args.tables.now.layout c.args.cpu row.inode i) (g.P.Pmem.region c.args.memory.now) (g.P.Pmem.region c.cut_name-cut.new.memory)) number
    (subst (λ (r : Row). ShowsRow (g.P.Pmem.region c.args.memory.now) c.args.tables.now.layout held h r c.args.free.now → StoresIn c.args.tables.now.layout held (one_less c.args.tables.now.layout c.args.cpu r.inode c.args.named.now.target) (g.P.Pmem.region c.args.memory.now) (g.P.Pmem.region c.cut_name-cut.new.memory)) same
    (λ seen. c.cut_name-cut.ensures.wrote held h seen) shows)

pub returns-clause-wrote : goal.returns-clause-wrote
returns-clause-wrote g c row gone held h at gone_at shows =
    let same : c.lend-directory.result ≡ row = same_Some _ _ (sym c.lend-directory.ensures.row ∙ at) in
    let number = sym (numbered c.args.rows.now.items c.args.named.now.target gone gone_at) in
    subst (λ (i : ℕ). StoresIn c.args.tables.now.layout held (one_less c.args.tables.now.layout c.args.cpu row.inode i) (g.P.Pmem.region c.args.memory.now) (g.P.Pmem.region c.cut_name-cut.new.memory)) number
    (subst (λ (r : Row). ShowsRow (g.P.Pmem.region c.args.memory.now) c.args.tables.now.layout held h r c.args.free.now → StoresIn c.args.tables.now.layout held (one_less c.args.tables.now.layout c.args.cpu r.inode c.args.named.now.target) (g.P.Pmem.region c.args.memory.now) (g.P.Pmem.region c.cut_name-cut.new.memory)) same
    (λ seen. c.cut_name-cut.ensures.wrote held h seen) shows)
