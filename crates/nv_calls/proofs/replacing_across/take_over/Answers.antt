use Rattle.std.proofs.Common.{◌≡◌, ◌∙◌, ◌+◌, ◌≤◌, ℕ, List, length, subst, sym}
use Rattle.nv_names.specs.Names.{IsName}
use Rattle.std.specs.Int.{div_ceil}
use Rattle.std.proofs.lemmas.Option.{same_Some}
use Rattle.std.proofs.lemmas.Result.{err_from_is_err_and}
use Rattle.nv_region.specs.Stops.{LeavesOnly}
use Rattle.nv_alloc.specs.Taking.{all_blocks}
use Rattle.nv_scan.specs.declared.piece.Row.{Row}
use Rattle.nv_rows.proofs.Places.{at_place, back_two, numbered}
use Rattle.nv_commit.specs.Stopped.{LeavesEither}
use Rattle.nv_tree.specs.declared.refusal.Refusal.{Refusal}
use Rattle.nv_tree.specs.declared.refusal.Refusal.TheVariants.{Stopped}
use Rattle.nv_tree.proofs.Replies.{refused_by}
use Rattle.nv_steps.specs.Across.{TakesAcross, TookAcross}
use Rattle.nv_steps.specs.Steps.{RefusesStep, ShowsRow}
use Rattle.nv_steps.specs.Stores.{StoresIn, two_less}
use Rattle.nv_calls.specs.AtPlaces.{LeavesRows}
use Rattle.nv_calls.specs.ReplaceCalls.{HandsInOrder, hand_blocks}
use Rattle.nv_calls.proofs.OwnedRow.{owns_taken}
use Rattle.nv_calls.proofs.ReplaceAt.{by_words}
use Rattle.nv_calls.proofs.TwoOut.{third_out, third_row, third_used}
use Rattle.nv_calls.proofs.TwoRows.{first_used, last_used, left_two, of_lent, row_stays, used_still}
use Rattle.nv_steps.proofs.Kept.{kept_refused}
use Rattle.nv_calls.proofs.replacing_across.take_over.Goals as goal
use Rattle.nv_steps.specs.Slots.{slot_in}

pub lend-to-requires : goal.lend-to-requires
lend-to-requires g c = used_still c.args.rows.now.items c.lend-from.new.self.items c.args.moved.now.from.directory c.args.moved.now.directory c.requires.apart.0 c.requires.from c.lend-from.ensures.lent c.requires.directory

pub take_across-taken-requires : goal.take_across-taken-requires
take_across-taken-requires g c =
    record {
      logs = record {
        apart = (λ same. c.requires.apart.0 (sym c.lend-from.ensures.number ∙ same ∙ c.lend-to.ensures.number));
        stands = (c.requires.stands c.lend-from.result c.lend-from.ensures.row);
        other_stands = (c.requires.to_stands c.lend-to.result (row_stays c.args.rows.now.items c.lend-from.new.self.items c.args.moved.now.from.directory c.args.moved.now.directory c.requires.apart.0 c.requires.from c.lend-from.ensures.lent c.lend-to.result c.lend-to.ensures.row));
        given = ((subst IsName (sym c.other_name-other.ensures.name) c.requires.name), (subst IsName (sym c.other_name-other.ensures.other) c.requires.other));
      };
      number = c.requires.number;
      differ = (λ same. c.requires.apart.1 (sym c.lend-from.ensures.number ∙ same));
      other_differs = (λ same. c.requires.apart.2 (sym c.lend-to.ensures.number ∙ same));
    }

pub give_back-requires : goal.give_back-requires
give_back-requires g c =
    let used = used_still c.args.rows.now.items c.lend-from.new.self.items c.args.moved.now.from.directory c.args.moved.now.directory c.requires.apart.0 c.requires.from c.lend-from.ensures.lent c.requires.directory in
    last_used c.lend-from.new.self.items c.lend-to.new.self.items c.args.moved.now.directory c.take_across-taken.new.to used c.lend-to.ensures.lent (c.take_across-taken.ensures.inodes.1 ∙ c.lend-to.ensures.number)

pub give_back-requires-2 : goal.give_back-requires-2
give_back-requires-2 g c =
    first_used c.args.rows.now.items c.lend-from.new.self.items c.lend-to.new.self.items c.give_back.new.self.items c.args.moved.now.from.directory c.args.moved.now.directory c.take_across-taken.new.from c.take_across-taken.new.to c.requires.apart.0 c.requires.from c.requires.directory c.lend-from.ensures.lent c.lend-to.ensures.lent
    (c.take_across-taken.ensures.inodes.1 ∙ c.lend-to.ensures.number) c.give_back.ensures.rows (c.take_across-taken.ensures.inodes.0 ∙ c.lend-from.ensures.number)

pub take-requires : goal.take-requires
take-requires g c =
    let to_at = row_stays c.args.rows.now.items c.lend-from.new.self.items c.args.moved.now.from.directory c.args.moved.now.directory c.requires.apart.0 c.requires.from c.lend-from.ensures.lent c.lend-to.result c.lend-to.ensures.row in
    let put = back_two c.args.rows.now.items c.lend-from.new.self.items c.lend-to.new.self.items c.give_back.new.self.items c.give_back-2.new.self.items c.args.moved.now.from.directory c.args.moved.now.directory c.take_across-taken.new.from c.take_across-taken.new.to c.requires.apart.0 c.requires.from c.requires.directory
    c.lend-from.ensures.lent c.lend-to.ensures.lent (c.take_across-taken.ensures.inodes.1 ∙ c.lend-to.ensures.number) c.give_back.ensures.rows (c.take_across-taken.ensures.inodes.0 ∙ c.lend-from.ensures.number) c.give_back-2.ensures.rows in
    third_used c.args.rows.now.items c.give_back-2.new.self.items c.args.moved.now.from.directory c.args.moved.now.directory c.lend-from.result c.lend-to.result c.take_across-taken.new.from c.take_across-taken.new.to c.requires.apart.0 c.lend-from.ensures.row to_at (c.take_across-taken.ensures.inodes.0 ∙ c.lend-from.ensures.number) (c.take_across-taken.ensures.inodes.1 ∙ c.lend-to.ensures.number) put c.args.there c.requires.apart.1 c.requires.apart.2 c.requires.there

pub give_row-requires-clause-own : goal.give_row-requires-clause-own
give_row-requires-clause-own g c =
    let to_at = row_stays c.args.rows.now.items c.lend-from.new.self.items c.args.moved.now.from.directory c.args.moved.now.directory c.requires.apart.0 c.requires.from c.lend-from.ensures.lent c.lend-to.result c.lend-to.ensures.row in
    let put = back_two c.args.rows.now.items c.lend-from.new.self.items c.lend-to.new.self.items c.give_back.new.self.items c.give_back-2.new.self.items c.args.moved.now.from.directory c.args.moved.now.directory c.take_across-taken.new.from c.take_across-taken.new.to c.requires.apart.0 c.requires.from c.requires.directory
    c.lend-from.ensures.lent c.lend-to.ensures.lent (c.take_across-taken.ensures.inodes.1 ∙ c.lend-to.ensures.number) c.give_back.ensures.rows (c.take_across-taken.ensures.inodes.0 ∙ c.lend-from.ensures.number) c.give_back-2.ensures.rows in
    let at_there = sym (third_row c.args.rows.now.items c.give_back-2.new.self.items c.args.moved.now.from.directory c.args.moved.now.directory c.lend-from.result c.lend-to.result c.take_across-taken.new.from c.take_across-taken.new.to c.requires.apart.0 c.lend-from.ensures.row to_at (c.take_across-taken.ensures.inodes.0 ∙ c.lend-from.ensures.number) (c.take_across-taken.ensures.inodes.1 ∙ c.lend-to.ensures.number) put c.args.there c.requires.apart.1 c.requires.apart.2) ∙ c.take.ensures.row in
    let taken = c.in_ok-taken.ensures.taken in
    owns_taken taken.taken (c.requires.owns c.take.result at_there)

pub give_row-requires-clause-room : goal.give_row-requires-clause-room
give_row-requires-clause-room g c =
    let to_at = row_stays c.args.rows.now.items c.lend-from.new.self.items c.args.moved.now.from.directory c.args.moved.now.directory c.requires.apart.0 c.requires.from c.lend-from.ensures.lent c.lend-to.result c.lend-to.ensures.row in
    let put = back_two c.args.rows.now.items c.lend-from.new.self.items c.lend-to.new.self.items c.give_back.new.self.items c.give_back-2.new.self.items c.args.moved.now.from.directory c.args.moved.now.directory c.take_across-taken.new.from c.take_across-taken.new.to c.requires.apart.0 c.requires.from c.requires.directory
    c.lend-from.ensures.lent c.lend-to.ensures.lent (c.take_across-taken.ensures.inodes.1 ∙ c.lend-to.ensures.number) c.give_back.ensures.rows (c.take_across-taken.ensures.inodes.0 ∙ c.lend-from.ensures.number) c.give_back-2.ensures.rows in
    let at_there = sym (third_row c.args.rows.now.items c.give_back-2.new.self.items c.args.moved.now.from.directory c.args.moved.now.directory c.lend-from.result c.lend-to.result c.take_across-taken.new.from c.take_across-taken.new.to c.requires.apart.0 c.lend-from.ensures.row to_at (c.take_across-taken.ensures.inodes.0 ∙ c.lend-from.ensures.number) (c.take_across-taken.ensures.inodes.1 ∙ c.lend-to.ensures.number) put c.args.there c.requires.apart.1 c.requires.apart.2) ∙ c.take.ensures.row in
    let same : c.row.result.now ≡ c.take.result = same_Some _ _ (sym c.row.ensures ∙ at_there) in
    subst (λ (r : Row). length r.pages.items + div_ceil r.numbers.size 4096 ≤ c.take_across-taken.new.free.room) same (subst (λ (n : ℕ). n ≤ c.take_across-taken.new.free.room) c.most_blocks.ensures c.in_ok-taken.ensures.needs.room)

pub returns-clause-taken : goal.returns-clause-taken
returns-clause-taken g c =
    let to_at = row_stays c.args.rows.now.items c.lend-from.new.self.items c.args.moved.now.from.directory c.args.moved.now.directory c.requires.apart.0 c.requires.from c.lend-from.ensures.lent c.lend-to.result c.lend-to.ensures.row in
    let put = back_two c.args.rows.now.items c.lend-from.new.self.items c.lend-to.new.self.items c.give_back.new.self.items c.give_back-2.new.self.items c.args.moved.now.from.directory c.args.moved.now.directory c.take_across-taken.new.from c.take_across-taken.new.to c.requires.apart.0 c.requires.from c.requires.directory
    c.lend-from.ensures.lent c.lend-to.ensures.lent (c.take_across-taken.ensures.inodes.1 ∙ c.lend-to.ensures.number) c.give_back.ensures.rows (c.take_across-taken.ensures.inodes.0 ∙ c.lend-from.ensures.number) c.give_back-2.ensures.rows in
    let at_there = sym (third_row c.args.rows.now.items c.give_back-2.new.self.items c.args.moved.now.from.directory c.args.moved.now.directory c.lend-from.result c.lend-to.result c.take_across-taken.new.from c.take_across-taken.new.to c.requires.apart.0 c.lend-from.ensures.row to_at (c.take_across-taken.ensures.inodes.0 ∙ c.lend-from.ensures.number) (c.take_across-taken.ensures.inodes.1 ∙ c.lend-to.ensures.number) put c.args.there c.requires.apart.1 c.requires.apart.2) ∙ c.take.ensures.row in
    record {
      from = c.lend-from.result;
      to = c.lend-to.result;
      gone = c.take.result;
      from_now = c.take_across-taken.new.from;
      to_now = c.take_across-taken.new.to;
      mid = c.take_across-taken.new.free;
      at = at_place c.args.rows.now.items c.args.moved.now.from.directory ∙ c.lend-from.ensures.row;
      to_at = at_place c.args.rows.now.items c.args.moved.now.directory ∙ to_at;
      gone_at = at_place c.args.rows.now.items c.args.there ∙ at_there;
      step = by_words (λ (i k : ℕ) (n o : List ℕ) (t : ℕ). TakesAcross (g.P.Pmem.region c.args.memory.now) (g.P.Pmem.region c.take_across-taken.new.memory) c.args.tables.now.layout c.args.free.now c.take_across-taken.new.free c.args.cpu c.lend-from.result c.take_across-taken.new.from c.lend-to.result c.take_across-taken.new.to i k n o t) c.other_name-other.ensures.inode (sym c.take.ensures.number) c.other_name-other.ensures.name c.other_name-other.ensures.other c.other_name-other.ensures.time c.in_ok-taken.ensures.taken;
      given = c.give_row.ensures.given;
      put = third_out c.args.rows.now.items c.give_back-2.new.self.items c.args.moved.now.from.directory c.args.moved.now.directory c.lend-from.result c.lend-to.result c.take_across-taken.new.from c.take_across-taken.new.to c.requires.apart.0 c.lend-from.ensures.row to_at (c.take_across-taken.ensures.inodes.0 ∙ c.lend-from.ensures.number) (c.take_across-taken.ensures.inodes.1 ∙ c.lend-to.ensures.number) put c.args.there c.requires.apart.1 c.requires.apart.2 c.take.ensures.rows;
    }

pub returns-in_err-taken-clause-kept : goal.returns-in_err-taken-clause-kept
returns-in_err-taken-clause-kept g c =
    let w = err_from_is_err_and c.from_residual.result c.from_residual.ensures.1 in
    record {
      step = kept_refused c.from_residual.result c.in_err-taken.field-0.0 w.0 w.1 w.2 c.in_err-taken.ensures.kept;
      unchanged = let to_at = row_stays c.args.rows.now.items c.lend-from.new.self.items c.args.moved.now.from.directory c.args.moved.now.directory c.requires.apart.0 c.requires.from c.lend-from.ensures.lent c.lend-to.result c.lend-to.ensures.row in
          let put = back_two c.args.rows.now.items c.lend-from.new.self.items c.lend-to.new.self.items c.give_back.new.self.items c.give_back-2.new.self.items c.args.moved.now.from.directory c.args.moved.now.directory c.take_across-taken.new.from c.take_across-taken.new.to c.requires.apart.0 c.requires.from c.requires.directory
          c.lend-from.ensures.lent c.lend-to.ensures.lent (c.take_across-taken.ensures.inodes.1 ∙ c.lend-to.ensures.number) c.give_back.ensures.rows (c.take_across-taken.ensures.inodes.0 ∙ c.lend-from.ensures.number) c.give_back-2.ensures.rows in
          refused_by c.from_residual.result c.in_err-taken.field-0.0 w.0 (λ (e : Refusal). (e ≡ Stopped → ⊥) → LeavesRows c.args.memory.now c.take_across-taken.new.memory c.args.free.now c.take_across-taken.new.free c.args.rows.now.items c.give_back-2.new.self.items) w.1 w.2
          (λ off. (let left = c.in_err-taken.ensures.unchanged off in left_two c.args.rows.now.items c.give_back-2.new.self.items c.args.moved.now.from.directory c.args.moved.now.directory c.lend-from.result c.lend-to.result c.take_across-taken.new.from c.take_across-taken.new.to c.requires.apart.0 c.lend-from.ensures.row to_at put c.args.memory.now c.take_across-taken.new.memory c.args.free.now c.take_across-taken.new.free left.0 left.1));
      tables = (c.give_back-2.ensures.sup ∙ c.give_back.ensures.sup ∙ c.lend-to.ensures.sup ∙ c.lend-from.ensures.sup, c.give_back-2.ensures.sizes ∙ c.give_back.ensures.sizes ∙ c.lend-to.ensures.sizes ∙ c.lend-from.ensures.sizes);
    }

pub returns-in_err-taken-clause-refused : goal.returns-in_err-taken-clause-refused
returns-in_err-taken-clause-refused g c from to gone at to_at gone_at =
    let number = sym (numbered c.args.rows.now.items c.args.there gone gone_at) in
    let w = err_from_is_err_and c.from_residual.result c.from_residual.ensures.1 in
    refused_by c.from_residual.result c.in_err-taken.field-0.0 w.0 (λ (e : Refusal). RefusesStep e (hand_blocks from to c.args.moved.now.from.target gone.inode c.args.moved.now.from.name.now c.args.moved.now.name.now c.args.time) c.args.free.now) w.1 w.2
    (of_lent c.args.rows.now.items c.lend-from.new.self.items c.args.moved.now.from.directory c.args.moved.now.directory c.requires.apart.0 c.requires.from c.lend-from.ensures.lent (λ (r d : Row). RefusesStep c.in_err-taken.field-0.0 (hand_blocks r d c.args.moved.now.from.target gone.inode c.args.moved.now.from.name.now c.args.moved.now.name.now c.args.time) c.args.free.now) c.lend-from.result c.lend-to.result from to c.lend-from.ensures.row c.lend-to.ensures.row
    (by_words (λ (i k : ℕ) (n o : List ℕ) (t : ℕ). RefusesStep c.in_err-taken.field-0.0 (hand_blocks c.lend-from.result c.lend-to.result i k n o t) c.args.free.now) c.other_name-other.ensures.inode number c.other_name-other.ensures.name c.other_name-other.ensures.other c.other_name-other.ensures.time c.in_err-taken.ensures.needs.refused) at to_at)

pub returns-clause-enough : goal.returns-clause-enough
returns-clause-enough g c from to gone at to_at gone_at =
    let number = sym (numbered c.args.rows.now.items c.args.there gone gone_at) in
    of_lent c.args.rows.now.items c.lend-from.new.self.items c.args.moved.now.from.directory c.args.moved.now.directory c.requires.apart.0 c.requires.from c.lend-from.ensures.lent (λ (r d : Row). hand_blocks r d c.args.moved.now.from.target gone.inode c.args.moved.now.from.name.now c.args.moved.now.name.now c.args.time ≤ all_blocks c.args.free.now.pools) c.lend-from.result c.lend-to.result from to c.lend-from.ensures.row c.lend-to.ensures.row
    (by_words (λ (i k : ℕ) (n o : List ℕ) (t : ℕ). hand_blocks c.lend-from.result c.lend-to.result i k n o t ≤ all_blocks c.args.free.now.pools) c.other_name-other.ensures.inode number c.other_name-other.ensures.name c.other_name-other.ensures.other c.other_name-other.ensures.time c.in_ok-taken.ensures.needs.enough) at to_at

pub returns-in_err-taken-clause-any_stop : goal.returns-in_err-taken-clause-any_stop
returns-in_err-taken-clause-any_stop g c from to gone held h k at to_at gone_at here other settled =
    let number = sym (numbered c.args.rows.now.items c.args.there gone gone_at) in
    of_lent c.args.rows.now.items c.lend-from.new.self.items c.args.moved.now.from.directory c.args.moved.now.directory c.requires.apart.0 c.requires.from c.lend-from.ensures.lent (λ (r d : Row). ShowsRow (g.P.Pmem.region c.args.memory.now) c.args.tables.now.layout held h r c.args.free.now → ShowsRow (g.P.Pmem.region c.args.memory.now) c.args.tables.now.layout held k d c.args.free.now → LeavesOnly (g.P.Pmem.region c.take_across-taken.new.memory) (g.P.Pmem.may_hold c.take_across-taken.new.memory) (LeavesEither (g.P.Pmem.region c.args.memory.now) c.args.tables.now.layout held (TookAcross (g.P.Pmem.region c.args.memory.now) c.args.tables.now.layout c.args.free.now c.args.cpu r d c.args.moved.now.from.target gone.inode c.args.moved.now.from.name.now c.args.moved.now.name.now c.args.time))) c.lend-from.result c.lend-to.result from to c.lend-from.ensures.row c.lend-to.ensures.row
    (λ seen seen_to. by_words (λ (i m : ℕ) (n o : List ℕ) (t : ℕ). LeavesOnly (g.P.Pmem.region c.take_across-taken.new.memory) (g.P.Pmem.may_hold c.take_across-taken.new.memory) (LeavesEither (g.P.Pmem.region c.args.memory.now) c.args.tables.now.layout held (TookAcross (g.P.Pmem.region c.args.memory.now) c.args.tables.now.layout c.args.free.now c.args.cpu c.lend-from.result c.lend-to.result i m n o t))) c.other_name-other.ensures.inode number c.other_name-other.ensures.name c.other_name-other.ensures.other c.other_name-other.ensures.time (c.take_across-taken.ensures.any_stop held h k seen seen_to settled)) at to_at here other

pub returns-in_err-taken-clause-in_order : goal.returns-in_err-taken-clause-in_order
returns-in_err-taken-clause-in_order g c from to gone held h k at to_at gone_at here other =
    let number = sym (numbered c.args.rows.now.items c.args.there gone gone_at) in
    of_lent c.args.rows.now.items c.lend-from.new.self.items c.args.moved.now.from.directory c.args.moved.now.directory c.requires.apart.0 c.requires.from c.lend-from.ensures.lent (λ (r d : Row). ShowsRow (g.P.Pmem.region c.args.memory.now) c.args.tables.now.layout held h r c.args.free.now → ShowsRow (g.P.Pmem.region c.args.memory.now) c.args.tables.now.layout held k d c.args.free.now → HandsInOrder (g.P.Pmem.region c.args.memory.now) (g.P.Pmem.region c.take_across-taken.new.memory) c.args.tables.now.layout c.args.free.now c.args.cpu r d c.args.moved.now.from.target gone.inode c.args.moved.now.from.name.now c.args.moved.now.name.now c.args.time (slot_in c.args.tables.now.layout gone.inode)) c.lend-from.result c.lend-to.result from to c.lend-from.ensures.row c.lend-to.ensures.row
    (λ seen seen_to. by_words (λ (i m : ℕ) (n o : List ℕ) (t : ℕ). HandsInOrder (g.P.Pmem.region c.args.memory.now) (g.P.Pmem.region c.take_across-taken.new.memory) c.args.tables.now.layout c.args.free.now c.args.cpu c.lend-from.result c.lend-to.result i m n o t (slot_in c.args.tables.now.layout m)) c.other_name-other.ensures.inode number c.other_name-other.ensures.name c.other_name-other.ensures.other c.other_name-other.ensures.time (c.take_across-taken.ensures.in_order held h k seen seen_to)) at to_at here other

pub returns-in_err-taken-clause-wrote : goal.returns-in_err-taken-clause-wrote
returns-in_err-taken-clause-wrote g c from to gone held h k at to_at gone_at here other =
    let number = sym (numbered c.args.rows.now.items c.args.there gone gone_at) in
    of_lent c.args.rows.now.items c.lend-from.new.self.items c.args.moved.now.from.directory c.args.moved.now.directory c.requires.apart.0 c.requires.from c.lend-from.ensures.lent (λ (r d : Row). ShowsRow (g.P.Pmem.region c.args.memory.now) c.args.tables.now.layout held h r c.args.free.now → ShowsRow (g.P.Pmem.region c.args.memory.now) c.args.tables.now.layout held k d c.args.free.now → StoresIn c.args.tables.now.layout held (two_less c.args.tables.now.layout c.args.cpu r.inode d.inode gone.inode) (g.P.Pmem.region c.args.memory.now) (g.P.Pmem.region c.take_across-taken.new.memory)) c.lend-from.result c.lend-to.result from to c.lend-from.ensures.row c.lend-to.ensures.row
    (λ seen seen_to. subst (λ (m : ℕ). StoresIn c.args.tables.now.layout held (two_less c.args.tables.now.layout c.args.cpu c.lend-from.result.inode c.lend-to.result.inode m) (g.P.Pmem.region c.args.memory.now) (g.P.Pmem.region c.take_across-taken.new.memory)) number (c.take_across-taken.ensures.wrote held h k seen seen_to)) at to_at here other

pub returns-clause-any_stop : goal.returns-clause-any_stop
returns-clause-any_stop g c from to gone held h k at to_at gone_at here other settled =
    let number = sym (numbered c.args.rows.now.items c.args.there gone gone_at) in
    of_lent c.args.rows.now.items c.lend-from.new.self.items c.args.moved.now.from.directory c.args.moved.now.directory c.requires.apart.0 c.requires.from c.lend-from.ensures.lent (λ (r d : Row). ShowsRow (g.P.Pmem.region c.args.memory.now) c.args.tables.now.layout held h r c.args.free.now → ShowsRow (g.P.Pmem.region c.args.memory.now) c.args.tables.now.layout held k d c.args.free.now → LeavesOnly (g.P.Pmem.region c.take_across-taken.new.memory) (g.P.Pmem.may_hold c.take_across-taken.new.memory) (LeavesEither (g.P.Pmem.region c.args.memory.now) c.args.tables.now.layout held (TookAcross (g.P.Pmem.region c.args.memory.now) c.args.tables.now.layout c.args.free.now c.args.cpu r d c.args.moved.now.from.target gone.inode c.args.moved.now.from.name.now c.args.moved.now.name.now c.args.time))) c.lend-from.result c.lend-to.result from to c.lend-from.ensures.row c.lend-to.ensures.row
    (λ seen seen_to. by_words (λ (i m : ℕ) (n o : List ℕ) (t : ℕ). LeavesOnly (g.P.Pmem.region c.take_across-taken.new.memory) (g.P.Pmem.may_hold c.take_across-taken.new.memory) (LeavesEither (g.P.Pmem.region c.args.memory.now) c.args.tables.now.layout held (TookAcross (g.P.Pmem.region c.args.memory.now) c.args.tables.now.layout c.args.free.now c.args.cpu c.lend-from.result c.lend-to.result i m n o t))) c.other_name-other.ensures.inode number c.other_name-other.ensures.name c.other_name-other.ensures.other c.other_name-other.ensures.time (c.take_across-taken.ensures.any_stop held h k seen seen_to settled)) at to_at here other

pub returns-clause-in_order : goal.returns-clause-in_order
returns-clause-in_order g c from to gone held h k at to_at gone_at here other =
    let number = sym (numbered c.args.rows.now.items c.args.there gone gone_at) in
    of_lent c.args.rows.now.items c.lend-from.new.self.items c.args.moved.now.from.directory c.args.moved.now.directory c.requires.apart.0 c.requires.from c.lend-from.ensures.lent (λ (r d : Row). ShowsRow (g.P.Pmem.region c.args.memory.now) c.args.tables.now.layout held h r c.args.free.now → ShowsRow (g.P.Pmem.region c.args.memory.now) c.args.tables.now.layout held k d c.args.free.now → HandsInOrder (g.P.Pmem.region c.args.memory.now) (g.P.Pmem.region c.take_across-taken.new.memory) c.args.tables.now.layout c.args.free.now c.args.cpu r d c.args.moved.now.from.target gone.inode c.args.moved.now.from.name.now c.args.moved.now.name.now c.args.time (slot_in c.args.tables.now.layout gone.inode)) c.lend-from.result c.lend-to.result from to c.lend-from.ensures.row c.lend-to.ensures.row
    (λ seen seen_to. by_words (λ (i m : ℕ) (n o : List ℕ) (t : ℕ). HandsInOrder (g.P.Pmem.region c.args.memory.now) (g.P.Pmem.region c.take_across-taken.new.memory) c.args.tables.now.layout c.args.free.now c.args.cpu c.lend-from.result c.lend-to.result i m n o t (slot_in c.args.tables.now.layout m)) c.other_name-other.ensures.inode number c.other_name-other.ensures.name c.other_name-other.ensures.other c.other_name-other.ensures.time (c.take_across-taken.ensures.in_order held h k seen seen_to)) at to_at here other

pub returns-clause-wrote : goal.returns-clause-wrote
returns-clause-wrote g c from to gone held h k at to_at gone_at here other =
    let number = sym (numbered c.args.rows.now.items c.args.there gone gone_at) in
    of_lent c.args.rows.now.items c.lend-from.new.self.items c.args.moved.now.from.directory c.args.moved.now.directory c.requires.apart.0 c.requires.from c.lend-from.ensures.lent (λ (r d : Row). ShowsRow (g.P.Pmem.region c.args.memory.now) c.args.tables.now.layout held h r c.args.free.now → ShowsRow (g.P.Pmem.region c.args.memory.now) c.args.tables.now.layout held k d c.args.free.now → StoresIn c.args.tables.now.layout held (two_less c.args.tables.now.layout c.args.cpu r.inode d.inode gone.inode) (g.P.Pmem.region c.args.memory.now) (g.P.Pmem.region c.take_across-taken.new.memory)) c.lend-from.result c.lend-to.result from to c.lend-from.ensures.row c.lend-to.ensures.row
    (λ seen seen_to. subst (λ (m : ℕ). StoresIn c.args.tables.now.layout held (two_less c.args.tables.now.layout c.args.cpu c.lend-from.result.inode c.lend-to.result.inode m) (g.P.Pmem.region c.args.memory.now) (g.P.Pmem.region c.take_across-taken.new.memory)) number (c.take_across-taken.ensures.wrote held h k seen seen_to)) at to_at here other
