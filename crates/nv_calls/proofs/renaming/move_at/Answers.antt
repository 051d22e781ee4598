use Rattle.std.proofs.Common.{◌≡◌, ◌∙◌, ◌≤◌, ℕ, ap, inl, inr, subst, sym, None}
use Rattle.std.proofs.lemmas.Result.{IfErr-weaker, on_ok_weaker}
use Rattle.std.proofs.lemmas.Option.{same_Some}
use Rattle.nv_alloc.specs.Taking.{all_blocks}
use Rattle.nv_rows.specs.Rows.{place_in, row_of}
use Rattle.nv_rows.proofs.Places.{at_place, back_one, in_use, numbered, places_apart, row_in_use}
use Rattle.nv_tree.specs.declared.refusal.Refusal.{Refusal}
use Rattle.nv_names.specs.Names.{IsName, name_at}
use Rattle.nv_scan.specs.declared.piece.Row.{Row}
use Rattle.nv_steps.specs.Stopped.{MovedHere, MovedOver}
use Rattle.nv_steps.specs.Steps.{RefusesStep, ShowsRow}
use Rattle.nv_calls.specs.Stopped.{Renamed}
use Rattle.nv_calls.proofs.Stopped.{left_made}
use Rattle.nv_calls.proofs.StoppedMoves.{here_as}
use Rattle.nv_calls.proofs.MoveAt.{across_count, here_count, moves_here, within_count}
use Rattle.nv_calls.proofs.OneOut.{left_one}
use Rattle.nv_calls.proofs.TwoRows.{last_used}
use Rattle.nv_steps.specs.Stores.{StoresIn, one_log}
use Rattle.nv_calls.proofs.renaming.move_at.Goals as goal

pub give_back-requires : goal.give_back-requires
give_back-requires g c =
    last_used c.args.rows.now.items c.lend-directory.new.self.items c.args.moved.now.directory c.move_within-done.new.directory (in_use c.args.rows.now.items c.args.moved.now.directory c.lend-directory.result c.lend-directory.ensures.row) c.lend-directory.ensures.lent (c.move_within-done.ensures.inode ∙ c.lend-directory.ensures.number)

pub move_across-requires : goal.move_across-requires
move_across-requires g c =
    record {
      move = record { from = c.requires.from; directory = c.requires.directory; stands = c.requires.stands; to_stands = c.requires.other_stands; name = c.requires.name; other = c.requires.other };
      target = c.requires.target;
      apart = c.if-moved.true;
    }

pub returns-then-moved-clause-moved : goal.returns-then-moved-clause-moved
returns-then-moved-clause-moved g c =
    on_ok_weaker c.move_across.result (λ step. inr (places_apart c.args.rows.now.items c.args.moved.now.from.directory c.args.moved.now.directory c.requires.from c.requires.directory c.if-moved.true, step)) c.move_across.ensures.moved

pub returns-then-moved-clause-enough : goal.returns-then-moved-clause-enough
returns-then-moved-clause-enough g c from to inode at other_at inode_at =
    let apart = places_apart c.args.rows.now.items c.args.moved.now.from.directory c.args.moved.now.directory c.requires.from c.requires.directory c.if-moved.true in
    on_ok_weaker c.move_across.result (subst (λ (n : ℕ). n ≤ all_blocks c.args.free.now.pools) (sym (across_count (place_in c.args.rows.now.items c.args.moved.now.from.directory) (place_in c.args.rows.now.items c.args.moved.now.directory) from to inode.inode c.args.moved.now.from.name.now c.args.moved.now.name.now c.args.time apart))) (c.move_across.ensures.enough from to inode at other_at inode_at)

pub returns-then-moved-clause-refused : goal.returns-then-moved-clause-refused
returns-then-moved-clause-refused g c from to inode at other_at inode_at =
    let apart = places_apart c.args.rows.now.items c.args.moved.now.from.directory c.args.moved.now.directory c.requires.from c.requires.directory c.if-moved.true in
    IfErr-weaker c.move_across.result _ _ (λ (e : Refusal). subst (λ (n : ℕ). RefusesStep e n c.args.free.now) (sym (across_count (place_in c.args.rows.now.items c.args.moved.now.from.directory) (place_in c.args.rows.now.items c.args.moved.now.directory) from to inode.inode c.args.moved.now.from.name.now c.args.moved.now.name.now c.args.time apart))) (c.move_across.ensures.refused from to inode at other_at inode_at)

pub returns-clause-moved : goal.returns-clause-moved
returns-clause-moved g c =
    let rows = c.args.rows.now.items in
    let put = back_one rows c.lend-directory.new.self.items c.give_back.new.self.items c.args.moved.now.directory c.move_within-done.new.directory c.lend-directory.ensures.lent (c.move_within-done.ensures.inode ∙ c.lend-directory.ensures.number) c.give_back.ensures.rows in
    let target = row_in_use rows c.args.moved.now.from.target c.requires.target in
    let number = c.other_name-other.ensures.inode ∙ sym (numbered rows c.args.moved.now.from.target target.0 target.1) in
    rw put (on_ok_weaker c.move_within-done.result (moves_here rows c.lend-directory.result c.move_within-done.new.directory target.0 (ap (place_in rows) c.if-moved.false) (at_place rows c.args.moved.now.directory ∙ c.lend-directory.ensures.row) (at_place rows c.args.moved.now.from.target ∙ target.1)
    number c.other_name-other.ensures.name c.other_name-other.ensures.other c.other_name-other.ensures.time) c.move_within-done.ensures.moved)

pub returns-clause-enough : goal.returns-clause-enough
returns-clause-enough g c from to inode at other_at inode_at =
    let rows = c.args.rows.now.items in
    let one = same_Some _ _ (sym c.lend-directory.ensures.row ∙ sym (ap (row_of rows) c.if-moved.false) ∙ at) in
    let number = c.other_name-other.ensures.inode ∙ sym (numbered rows c.args.moved.now.from.target inode inode_at) in
    let count = here_count one number c.other_name-other.ensures.name c.other_name-other.ensures.other c.other_name-other.ensures.time ∙ sym (within_count (place_in rows c.args.moved.now.from.directory) (place_in rows c.args.moved.now.directory) from to inode.inode c.args.moved.now.from.name.now c.args.moved.now.name.now c.args.time (ap (place_in rows) c.if-moved.false)) in
    on_ok_weaker c.move_within-done.result (subst (λ (n : ℕ). n ≤ all_blocks c.args.free.now.pools) count) c.move_within-done.ensures.needs.enough

pub returns-clause-refused : goal.returns-clause-refused
returns-clause-refused g c from to inode at other_at inode_at =
    let rows = c.args.rows.now.items in
    let one = same_Some _ _ (sym c.lend-directory.ensures.row ∙ sym (ap (row_of rows) c.if-moved.false) ∙ at) in
    let number = c.other_name-other.ensures.inode ∙ sym (numbered rows c.args.moved.now.from.target inode inode_at) in
    let count = here_count one number c.other_name-other.ensures.name c.other_name-other.ensures.other c.other_name-other.ensures.time ∙ sym (within_count (place_in rows c.args.moved.now.from.directory) (place_in rows c.args.moved.now.directory) from to inode.inode c.args.moved.now.from.name.now c.args.moved.now.name.now c.args.time (ap (place_in rows) c.if-moved.false)) in
    IfErr-weaker c.move_within-done.result _ _ (λ (e : Refusal). subst (λ (n : ℕ). RefusesStep e n c.args.free.now) count) c.move_within-done.ensures.needs.refused

pub returns-clause-kept : goal.returns-clause-kept
returns-clause-kept g c =
    record {
      step = c.move_within-done.ensures.kept;
      unchanged = IfErr-weaker c.move_within-done.result _ _ (λ (e : Refusal) told off. left_one c.args.rows.now.items c.lend-directory.new.self.items c.give_back.new.self.items c.args.moved.now.directory c.lend-directory.result c.move_within-done.new.directory c.lend-directory.ensures.row c.lend-directory.ensures.lent (c.move_within-done.ensures.inode ∙ c.lend-directory.ensures.number) c.give_back.ensures.rows
          c.args.memory.now c.move_within-done.new.memory c.args.free.now c.move_within-done.new.free (told off)) c.move_within-done.ensures.unchanged;
      tables = (c.give_back.ensures.sup ∙ c.lend-directory.ensures.sup, c.give_back.ensures.sizes ∙ c.lend-directory.ensures.sizes);
    }

pub returns-then-moved-clause-any_stop : goal.returns-then-moved-clause-any_stop
returns-then-moved-clause-any_stop g c from to inode held h k at other_at inode_at here other absent settled left may =
    let apart = places_apart c.args.rows.now.items c.args.moved.now.from.directory c.args.moved.now.directory c.requires.from c.requires.directory c.if-moved.true in
    left_made (MovedOver (g.P.Pmem.region c.args.memory.now) c.args.tables.now.layout c.args.free.now c.args.cpu from to inode.inode c.args.moved.now.from.name.now c.args.moved.now.name.now c.args.time) (Renamed (g.P.Pmem.region c.args.memory.now) c.args.tables.now.layout c.args.free.now c.args.cpu (place_in c.args.rows.now.items c.args.moved.now.from.directory) (place_in c.args.rows.now.items c.args.moved.now.directory) from to inode.inode c.args.moved.now.from.name.now c.args.moved.now.name.now c.args.time) (λ S w. inr (apart, w)) left (c.move_across.ensures.any_stop from to inode held h k at other_at inode_at here other absent settled left may)

pub returns-clause-any_stop : goal.returns-clause-any_stop
returns-clause-any_stop g c from to inode held h k at other_at inode_at here other absent settled left may =
    let rows = c.args.rows.now.items in
    let one = same_Some _ _ (sym c.lend-directory.ensures.row ∙ sym (ap (row_of rows) c.if-moved.false) ∙ at) in
    let two : c.lend-directory.result ≡ to = same_Some _ _ (sym c.lend-directory.ensures.row ∙ other_at) in
    let number = c.other_name-other.ensures.inode ∙ sym (numbered rows c.args.moved.now.from.target inode inode_at) in
    let shown = subst (λ (r : Row). ShowsRow (g.P.Pmem.region c.args.memory.now) c.args.tables.now.layout held k r c.args.free.now) (sym two) other in
    let none : name_at c.lend-directory.result.names c.args.moved.now.name.now ≡ None = subst (λ (r : Row). name_at r.names c.args.moved.now.name.now ≡ None) (sym two) absent in
    let step = here_as (g.P.Pmem.region c.move_within-done.new.memory) (g.P.Pmem.may_hold c.move_within-done.new.memory) one number c.other_name-other.ensures.name c.other_name-other.ensures.other c.other_name-other.ensures.time
    (c.move_within-done.ensures.any_stop held k shown (ap (name_at c.lend-directory.result.names) c.other_name-other.ensures.other ∙ none) settled) in
    left_made (MovedHere (g.P.Pmem.region c.args.memory.now) c.args.tables.now.layout c.args.free.now c.args.cpu from inode.inode c.args.moved.now.from.name.now c.args.moved.now.name.now c.args.time) (Renamed (g.P.Pmem.region c.args.memory.now) c.args.tables.now.layout c.args.free.now c.args.cpu (place_in c.args.rows.now.items c.args.moved.now.from.directory) (place_in c.args.rows.now.items c.args.moved.now.directory) from to inode.inode c.args.moved.now.from.name.now c.args.moved.now.name.now c.args.time) (λ S w. inl (ap (place_in rows) c.if-moved.false, w)) left (step left may)

pub returns-then-moved-clause-in_order : goal.returns-then-moved-clause-in_order
returns-then-moved-clause-in_order g c from to inode held h k at other_at inode_at here other apart = c.move_across.ensures.in_order from to inode held h k at other_at inode_at here other

pub returns-clause-in_order : goal.returns-clause-in_order
returns-clause-in_order g c from to inode held h k at other_at inode_at here other apart = absurd (apart (ap (place_in c.args.rows.now.items) c.if-moved.false))

pub returns-then-moved-clause-wrote : goal.returns-then-moved-clause-wrote
returns-then-moved-clause-wrote g c from to inode held h k at other_at inode_at here other apart = c.move_across.ensures.wrote from to inode held h k at other_at inode_at here other

pub returns-clause-wrote : goal.returns-clause-wrote
returns-clause-wrote g c from to inode held h k at other_at inode_at here other apart = absurd (apart (ap (place_in c.args.rows.now.items) c.if-moved.false))

pub returns-then-moved-clause-within_wrote : goal.returns-then-moved-clause-within_wrote
returns-then-moved-clause-within_wrote g c to held k other_at other same = absurd (c.if-moved.true same)

pub returns-clause-within_wrote : goal.returns-clause-within_wrote
returns-clause-within_wrote g c to held k other_at other same =
    let two : c.lend-directory.result ≡ to = same_Some _ _ (sym c.lend-directory.ensures.row ∙ other_at) in
    subst (λ (r : Row). ShowsRow (g.P.Pmem.region c.args.memory.now) c.args.tables.now.layout held k r c.args.free.now → StoresIn c.args.tables.now.layout held (one_log c.args.tables.now.layout r.inode) (g.P.Pmem.region c.args.memory.now) (g.P.Pmem.region c.move_within-done.new.memory)) two
    (λ shows. c.move_within-done.ensures.wrote held k shows) other

pub move_within-done-requires : goal.move_within-done-requires
move_within-done-requires g c =
    record {
      cpu_below = c.requires.cpu;
      stands = ((c.requires.other_stands c.lend-directory.result c.lend-directory.ensures.row).0);
      given = ((subst IsName (sym c.other_name-other.ensures.name) c.requires.name), (subst IsName (sym c.other_name-other.ensures.other) c.requires.other));
    }
