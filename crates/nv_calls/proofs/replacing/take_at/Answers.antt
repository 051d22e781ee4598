use Rattle.std.proofs.Common.{◌≡◌, ◌≢◌, ◌∙◌, ◌+◌, ◌%◌, ◌≤◌, ℕ, List, length, subst, sym}
use Rattle.nv_names.specs.Names.{IsName}
use Rattle.std.specs.Int.{div_ceil}
use Rattle.std.proofs.lemmas.Option.{same_Some}
use Rattle.std.proofs.lemmas.Result.{err_from_is_err_and}
use Rattle.nv_region.specs.Stops.{LeavesOnly}
use Rattle.nv_alloc.specs.Taking.{all_blocks}
use Rattle.nv_logpage.specs.Append.{needed}
use Rattle.nv_scan.specs.declared.piece.Row.{Row}
use Rattle.nv_rows.proofs.Places.{at_place, in_use, numbered}
use Rattle.nv_commit.specs.Stopped.{LeavesEither}
use Rattle.nv_tree.specs.declared.refusal.Refusal.{Refusal}
use Rattle.nv_tree.specs.declared.refusal.Refusal.TheVariants.{Stopped}
use Rattle.nv_tree.proofs.Replies.{refused_by}
use Rattle.nv_steps.specs.InOrder.{TailIsFirst}
use Rattle.nv_steps.specs.NewNames.{CanName}
use Rattle.nv_steps.specs.Steps.{RefusesStep, ShowsRow}
use Rattle.nv_steps.specs.Stores.{StoresIn, one_less}
use Rattle.nv_steps.specs.Takes.{TakesWithin, TookWithin, take_entries}
use Rattle.nv_calls.specs.AtPlaces.{LeavesRows}
use Rattle.nv_calls.proofs.OneOut.{left_one, other_out, other_row, other_used}
use Rattle.nv_calls.proofs.OwnedRow.{owns_taken}
use Rattle.nv_calls.proofs.ReplaceAt.{by_words}
use Rattle.nv_calls.proofs.TwoRows.{last_used}
use Rattle.nv_steps.proofs.Kept.{kept_refused}
use Rattle.nv_calls.proofs.replacing.take_at.Goals as goal
use Rattle.nv_steps.specs.Slots.{slot_in}

pub give_back-requires : goal.give_back-requires
give_back-requires g c =
    last_used c.args.rows.now.items c.lend-directory.new.self.items c.args.moved.now.directory c.take_within-taken.new.directory (in_use c.args.rows.now.items c.args.moved.now.directory c.lend-directory.result c.lend-directory.ensures.row) c.lend-directory.ensures.lent (c.take_within-taken.ensures.inode ∙ c.lend-directory.ensures.number)

pub take_within-taken-requires : goal.take_within-taken-requires
take_within-taken-requires g c =
    record {
      stands = (c.requires.can.stands c.lend-directory.result c.lend-directory.ensures.row);
      can = (let number = numbered c.args.rows.now.items c.args.there c.row.result.now c.row.ensures in
          subst (λ (i : ℕ). CanName (g.P.Pmem.region c.args.memory.now) c.args.tables.now.layout c.args.cpu i c.lend-directory.result) number (c.requires.can.can c.lend-directory.result c.row.result.now c.lend-directory.ensures.row c.row.ensures).0);
      given = (
        (let number = numbered c.args.rows.now.items c.args.there c.row.result.now c.row.ensures in
            λ same. (c.requires.can.can c.lend-directory.result c.row.result.now c.lend-directory.ensures.row c.row.ensures).1 (same ∙ sym number)),
        (subst IsName (sym c.other_name-other.ensures.name) c.requires.can.name),
        (subst IsName (sym c.other_name-other.ensures.other) c.requires.other),
      );
    }

pub returns-in_err-taken-clause-refused : goal.returns-in_err-taken-clause-refused
returns-in_err-taken-clause-refused g c row gone at gone_at =
    let same : c.lend-directory.result ≡ row = same_Some _ _ (sym c.lend-directory.ensures.row ∙ at) in
    let number = sym (numbered c.args.rows.now.items c.args.there gone gone_at) in
    let w = err_from_is_err_and c.from_residual.result c.from_residual.ensures.1 in
    refused_by c.from_residual.result c.in_err-taken.field-0.0 w.0 (λ (e : Refusal). RefusesStep e (needed (row.tail % 4096) (take_entries c.args.moved.now.from.target gone.inode c.args.moved.now.from.name.now c.args.moved.now.name.now c.args.time)) c.args.free.now) w.1 w.2
    (subst (λ (r : Row). RefusesStep c.in_err-taken.field-0.0 (needed (r.tail % 4096) (take_entries c.args.moved.now.from.target gone.inode c.args.moved.now.from.name.now c.args.moved.now.name.now c.args.time)) c.args.free.now) same
    (by_words (λ (i k : ℕ) (n o : List ℕ) (t : ℕ). RefusesStep c.in_err-taken.field-0.0 (needed (c.lend-directory.result.tail % 4096) (take_entries i k n o t)) c.args.free.now) c.other_name-other.ensures.inode number c.other_name-other.ensures.name c.other_name-other.ensures.other c.other_name-other.ensures.time c.in_err-taken.ensures.needs.refused))

pub returns-in_err-taken-clause-kept : goal.returns-in_err-taken-clause-kept
returns-in_err-taken-clause-kept g c =
    let w = err_from_is_err_and c.from_residual.result c.from_residual.ensures.1 in
    record {
      step = kept_refused c.from_residual.result c.in_err-taken.field-0.0 w.0 w.1 w.2 c.in_err-taken.ensures.kept;
      unchanged = refused_by c.from_residual.result c.in_err-taken.field-0.0 w.0 (λ (e : Refusal). (e ≡ Stopped → ⊥) → LeavesRows c.args.memory.now c.take_within-taken.new.memory c.args.free.now c.take_within-taken.new.free c.args.rows.now.items c.give_back.new.self.items) w.1 w.2
          (λ off. left_one c.args.rows.now.items c.lend-directory.new.self.items c.give_back.new.self.items c.args.moved.now.directory c.lend-directory.result c.take_within-taken.new.directory c.lend-directory.ensures.row c.lend-directory.ensures.lent (c.take_within-taken.ensures.inode ∙ c.lend-directory.ensures.number) c.give_back.ensures.rows c.args.memory.now c.take_within-taken.new.memory c.args.free.now c.take_within-taken.new.free (c.in_err-taken.ensures.unchanged off));
      tables = (c.give_back.ensures.sup ∙ c.lend-directory.ensures.sup, c.give_back.ensures.sizes ∙ c.lend-directory.ensures.sizes);
    }

pub take-requires : goal.take-requires
take-requires g c =
    let apart : c.args.moved.now.directory ≢ c.args.there = (λ same. (c.requires.can.can c.lend-directory.result c.row.result.now c.lend-directory.ensures.row c.row.ensures).1 (c.lend-directory.ensures.number ∙ same ∙ sym (numbered c.args.rows.now.items c.args.there c.row.result.now c.row.ensures))) in
    other_used c.args.rows.now.items c.lend-directory.new.self.items c.give_back.new.self.items c.args.moved.now.directory c.lend-directory.result c.take_within-taken.new.directory c.lend-directory.ensures.row c.lend-directory.ensures.lent (c.take_within-taken.ensures.inode ∙ c.lend-directory.ensures.number) c.give_back.ensures.rows c.args.there apart c.requires.can.target

pub give_row-requires-clause-own : goal.give_row-requires-clause-own
give_row-requires-clause-own g c =
    let apart : c.args.moved.now.directory ≢ c.args.there = (λ same. (c.requires.can.can c.lend-directory.result c.row.result.now c.lend-directory.ensures.row c.row.ensures).1 (c.lend-directory.ensures.number ∙ same ∙ sym (numbered c.args.rows.now.items c.args.there c.row.result.now c.row.ensures))) in
    let at_there = sym (other_row c.args.rows.now.items c.lend-directory.new.self.items c.give_back.new.self.items c.args.moved.now.directory c.lend-directory.result c.take_within-taken.new.directory c.lend-directory.ensures.row c.lend-directory.ensures.lent (c.take_within-taken.ensures.inode ∙ c.lend-directory.ensures.number) c.give_back.ensures.rows c.args.there apart) ∙ c.take.ensures.row in
    let taken = c.in_ok-taken.ensures.taken in
    owns_taken taken.taken (c.requires.can.owns c.take.result at_there)

pub give_row-requires-clause-room : goal.give_row-requires-clause-room
give_row-requires-clause-room g c =
    let apart : c.args.moved.now.directory ≢ c.args.there = (λ same. (c.requires.can.can c.lend-directory.result c.row.result.now c.lend-directory.ensures.row c.row.ensures).1 (c.lend-directory.ensures.number ∙ same ∙ sym (numbered c.args.rows.now.items c.args.there c.row.result.now c.row.ensures))) in
    let at_there = sym (other_row c.args.rows.now.items c.lend-directory.new.self.items c.give_back.new.self.items c.args.moved.now.directory c.lend-directory.result c.take_within-taken.new.directory c.lend-directory.ensures.row c.lend-directory.ensures.lent (c.take_within-taken.ensures.inode ∙ c.lend-directory.ensures.number) c.give_back.ensures.rows c.args.there apart) ∙ c.take.ensures.row in
    let same : c.row.result.now ≡ c.take.result = same_Some _ _ (sym c.row.ensures ∙ at_there) in
    subst (λ (r : Row). length r.pages.items + div_ceil r.numbers.size 4096 ≤ c.take_within-taken.new.free.room) same (subst (λ (n : ℕ). n ≤ c.take_within-taken.new.free.room) c.most_blocks.ensures c.in_ok-taken.ensures.needs.room)

pub returns-clause-taken : goal.returns-clause-taken
returns-clause-taken g c =
    let apart : c.args.moved.now.directory ≢ c.args.there = (λ same. (c.requires.can.can c.lend-directory.result c.row.result.now c.lend-directory.ensures.row c.row.ensures).1 (c.lend-directory.ensures.number ∙ same ∙ sym (numbered c.args.rows.now.items c.args.there c.row.result.now c.row.ensures))) in
    let at_there = sym (other_row c.args.rows.now.items c.lend-directory.new.self.items c.give_back.new.self.items c.args.moved.now.directory c.lend-directory.result c.take_within-taken.new.directory c.lend-directory.ensures.row c.lend-directory.ensures.lent (c.take_within-taken.ensures.inode ∙ c.lend-directory.ensures.number) c.give_back.ensures.rows c.args.there apart) ∙ c.take.ensures.row in
    record {
      row = c.lend-directory.result;
      gone = c.take.result;
      now = c.take_within-taken.new.directory;
      mid = c.take_within-taken.new.free;
      at = at_place c.args.rows.now.items c.args.moved.now.directory ∙ c.lend-directory.ensures.row;
      gone_at = at_place c.args.rows.now.items c.args.there ∙ at_there;
      step = by_words (λ (i k : ℕ) (n o : List ℕ) (t : ℕ). TakesWithin (g.P.Pmem.region c.args.memory.now) (g.P.Pmem.region c.take_within-taken.new.memory) c.args.tables.now.layout c.args.free.now c.take_within-taken.new.free c.args.cpu c.lend-directory.result c.take_within-taken.new.directory i k n o t) c.other_name-other.ensures.inode (sym c.take.ensures.number) c.other_name-other.ensures.name c.other_name-other.ensures.other c.other_name-other.ensures.time c.in_ok-taken.ensures.taken;
      given = c.give_row.ensures.given;
      put = other_out c.args.rows.now.items c.lend-directory.new.self.items c.give_back.new.self.items c.args.moved.now.directory c.lend-directory.result c.take_within-taken.new.directory c.lend-directory.ensures.row c.lend-directory.ensures.lent (c.take_within-taken.ensures.inode ∙ c.lend-directory.ensures.number) c.give_back.ensures.rows c.args.there apart c.take.ensures.rows;
    }

pub returns-clause-enough : goal.returns-clause-enough
returns-clause-enough g c row gone at gone_at =
    let same : c.lend-directory.result ≡ row = same_Some _ _ (sym c.lend-directory.ensures.row ∙ at) in
    let number = sym (numbered c.args.rows.now.items c.args.there gone gone_at) in
    subst (λ (r : Row). needed (r.tail % 4096) (take_entries c.args.moved.now.from.target gone.inode c.args.moved.now.from.name.now c.args.moved.now.name.now c.args.time) ≤ all_blocks c.args.free.now.pools) same
    (by_words (λ (i k : ℕ) (n o : List ℕ) (t : ℕ). needed (c.lend-directory.result.tail % 4096) (take_entries i k n o t) ≤ all_blocks c.args.free.now.pools) c.other_name-other.ensures.inode number c.other_name-other.ensures.name c.other_name-other.ensures.other c.other_name-other.ensures.time c.in_ok-taken.ensures.needs.enough)

pub returns-in_err-taken-clause-any_stop : goal.returns-in_err-taken-clause-any_stop
returns-in_err-taken-clause-any_stop g c row gone held h at gone_at shows settled =
    let same : c.lend-directory.result ≡ row = same_Some _ _ (sym c.lend-directory.ensures.row ∙ at) in
    let number = sym (numbered c.args.rows.now.items c.args.there gone gone_at) in
    subst (λ (r : Row). ShowsRow (g.P.Pmem.region c.args.memory.now) c.args.tables.now.layout held h r c.args.free.now → LeavesOnly (g.P.Pmem.region c.take_within-taken.new.memory) (g.P.Pmem.may_hold c.take_within-taken.new.memory) (LeavesEither (g.P.Pmem.region c.args.memory.now) c.args.tables.now.layout held (TookWithin (g.P.Pmem.region c.args.memory.now) c.args.tables.now.layout c.args.free.now c.args.cpu r c.args.moved.now.from.target gone.inode c.args.moved.now.from.name.now c.args.moved.now.name.now c.args.time))) same
    (λ seen. by_words (λ (i k : ℕ) (n o : List ℕ) (t : ℕ). LeavesOnly (g.P.Pmem.region c.take_within-taken.new.memory) (g.P.Pmem.may_hold c.take_within-taken.new.memory) (LeavesEither (g.P.Pmem.region c.args.memory.now) c.args.tables.now.layout held (TookWithin (g.P.Pmem.region c.args.memory.now) c.args.tables.now.layout c.args.free.now c.args.cpu c.lend-directory.result i k n o t))) c.other_name-other.ensures.inode number c.other_name-other.ensures.name c.other_name-other.ensures.other c.other_name-other.ensures.time (c.take_within-taken.ensures.any_stop held h seen settled)) shows

pub returns-in_err-taken-clause-in_order : goal.returns-in_err-taken-clause-in_order
returns-in_err-taken-clause-in_order g c row gone held h at gone_at shows =
    let same : c.lend-directory.result ≡ row = same_Some _ _ (sym c.lend-directory.ensures.row ∙ at) in
    let number = sym (numbered c.args.rows.now.items c.args.there gone gone_at) in
    subst (λ (r : Row). ShowsRow (g.P.Pmem.region c.args.memory.now) c.args.tables.now.layout held h r c.args.free.now → TailIsFirst (g.P.Pmem.region c.args.memory.now) (g.P.Pmem.region c.take_within-taken.new.memory) c.args.tables.now.layout c.args.free.now.pools c.args.cpu r.inode r.tail (take_entries c.args.moved.now.from.target gone.inode c.args.moved.now.from.name.now c.args.moved.now.name.now c.args.time) (slot_in c.args.tables.now.layout gone.inode)) same
    (λ seen. by_words (λ (i k : ℕ) (n o : List ℕ) (t : ℕ). TailIsFirst (g.P.Pmem.region c.args.memory.now) (g.P.Pmem.region c.take_within-taken.new.memory) c.args.tables.now.layout c.args.free.now.pools c.args.cpu c.lend-directory.result.inode c.lend-directory.result.tail (take_entries i k n o t) (slot_in c.args.tables.now.layout k)) c.other_name-other.ensures.inode number c.other_name-other.ensures.name c.other_name-other.ensures.other c.other_name-other.ensures.time (c.take_within-taken.ensures.in_order held h seen)) shows

pub returns-in_err-taken-clause-wrote : goal.returns-in_err-taken-clause-wrote
returns-in_err-taken-clause-wrote g c row gone held h at gone_at shows =
    let same : c.lend-directory.result ≡ row = same_Some _ _ (sym c.lend-directory.ensures.row ∙ at) in
    let number = sym (numbered c.args.rows.now.items c.args.there gone gone_at) in
    subst (λ (i : ℕ). StoresIn c.args.tables.now.layout held (one_less c.args.tables.now.layout c.args.cpu row.inode i) (g.P.Pmem.region c.args.memory.now) (g.P.Pmem.region c.take_within-taken.new.memory)) number
    (subst (λ (r : Row). ShowsRow (g.P.Pmem.region c.args.memory.now) c.args.tables.now.layout held h r c.args.free.now → StoresIn c.args.tables.now.layout held (one_less c.args.tables.now.layout c.args.cpu r.inode c.args.there) (g.P.Pmem.region c.args.memory.now) (g.P.Pmem.region c.take_within-taken.new.memory)) same
    (λ seen. c.take_within-taken.ensures.wrote held h seen) shows)

pub returns-clause-any_stop : goal.returns-clause-any_stop
returns-clause-any_stop g c row gone held h at gone_at shows settled =
    let same : c.lend-directory.result ≡ row = same_Some _ _ (sym c.lend-directory.ensures.row ∙ at) in
    let number = sym (numbered c.args.rows.now.items c.args.there gone gone_at) in
    subst (λ (r : Row). ShowsRow (g.P.Pmem.region c.args.memory.now) c.args.tables.now.layout held h r c.args.free.now → LeavesOnly (g.P.Pmem.region c.take_within-taken.new.memory) (g.P.Pmem.may_hold c.take_within-taken.new.memory) (LeavesEither (g.P.Pmem.region c.args.memory.now) c.args.tables.now.layout held (TookWithin (g.P.Pmem.region c.args.memory.now) c.args.tables.now.layout c.args.free.now c.args.cpu r c.args.moved.now.from.target gone.inode c.args.moved.now.from.name.now c.args.moved.now.name.now c.args.time))) same
    (λ seen. by_words (λ (i k : ℕ) (n o : List ℕ) (t : ℕ). LeavesOnly (g.P.Pmem.region c.take_within-taken.new.memory) (g.P.Pmem.may_hold c.take_within-taken.new.memory) (LeavesEither (g.P.Pmem.region c.args.memory.now) c.args.tables.now.layout held (TookWithin (g.P.Pmem.region c.args.memory.now) c.args.tables.now.layout c.args.free.now c.args.cpu c.lend-directory.result i k n o t))) c.other_name-other.ensures.inode number c.other_name-other.ensures.name c.other_name-other.ensures.other c.other_name-other.ensures.time (c.take_within-taken.ensures.any_stop held h seen settled)) shows

pub returns-clause-in_order : goal.returns-clause-in_order
returns-clause-in_order g c row gone held h at gone_at shows =
    let same : c.lend-directory.result ≡ row = same_Some _ _ (sym c.lend-directory.ensures.row ∙ at) in
    let number = sym (numbered c.args.rows.now.items c.args.there gone gone_at) in
    subst (λ (r : Row). ShowsRow (g.P.Pmem.region c.args.memory.now) c.args.tables.now.layout held h r c.args.free.now → TailIsFirst (g.P.Pmem.region c.args.memory.now) (g.P.Pmem.region c.take_within-taken.new.memory) c.args.tables.now.layout c.args.free.now.pools c.args.cpu r.inode r.tail (take_entries c.args.moved.now.from.target gone.inode c.args.moved.now.from.name.now c.args.moved.now.name.now c.args.time) (slot_in c.args.tables.now.layout gone.inode)) same
    (λ seen. by_words (λ (i k : ℕ) (n o : List ℕ) (t : ℕ). TailIsFirst (g.P.Pmem.region c.args.memory.now) (g.P.Pmem.region c.take_within-taken.new.memory) c.args.tables.now.layout c.args.free.now.pools c.args.cpu c.lend-directory.result.inode c.lend-directory.result.tail (take_entries i k n o t) (slot_in c.args.tables.now.layout k)) c.other_name-other.ensures.inode number c.other_name-other.ensures.name c.other_name-other.ensures.other c.other_name-other.ensures.time (c.take_within-taken.ensures.in_order held h seen)) shows

pub returns-clause-wrote : goal.returns-clause-wrote
returns-clause-wrote g c row gone held h at gone_at shows =
    let same : c.lend-directory.result ≡ row = same_Some _ _ (sym c.lend-directory.ensures.row ∙ at) in
    let number = sym (numbered c.args.rows.now.items c.args.there gone gone_at) in
    subst (λ (i : ℕ). StoresIn c.args.tables.now.layout held (one_less c.args.tables.now.layout c.args.cpu row.inode i) (g.P.Pmem.region c.args.memory.now) (g.P.Pmem.region c.take_within-taken.new.memory)) number
    (subst (λ (r : Row). ShowsRow (g.P.Pmem.region c.args.memory.now) c.args.tables.now.layout held h r c.args.free.now → StoresIn c.args.tables.now.layout held (one_less c.args.tables.now.layout c.args.cpu r.inode c.args.there) (g.P.Pmem.region c.args.memory.now) (g.P.Pmem.region c.take_within-taken.new.memory)) same
    (λ seen. c.take_within-taken.ensures.wrote held h seen) shows)
