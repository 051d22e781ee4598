use Rattle.std.proofs.Common.{◌∙◌, ◌%◌, ◌<◌, ◌≤◌, ℕ, List, length, ap, sym, subst, arith}
use Rattle.std.specs.List.{Contains}
use Rattle.nv_super.specs.declared.owners.Run.{Run}
use Rattle.nv_super.specs.declared.superblock.Super.{Super}
use Rattle.nv_alloc.specs.FreeLists.{JoinAll}
use Rattle.nv_alloc.specs.Taking.{Takes, all_blocks, blocks_in}
use Rattle.nv_logpage.specs.Append.{needed}
use Rattle.nv_steps.specs.Writes.{CanGive, data_entries}
use Rattle.nv_steps.proofs.NeededBlocks.{all_given_back, can_give_back, enough_blocks, run_starts, runs_few, runs_some, some_runs, too_much_log}
use Rattle.nv_steps.proofs.preparing_data.prepare_data.Goals as goal

pub prepare_entries-requires : goal.prepare_entries-requires
prepare_entries-requires c =
    let below = subst (λ (s : Super). c.args.cpu < s.cpus) (sym c.in-Ok.ensures.lists.sup) c.requires.cpu_below in
    let count = ap blocks_in c.deref.ensures.value ∙ c.in_ok-runs.ensures.leave.blocks ∙ c.blocks-3.ensures in
    record {
      cpu_below = subst (λ (s : Super). c.args.cpu < s.cpus) (sym c.in_ok-runs.ensures.ok.sup) below;
      pages = c.requires.pages;
      ending = c.requires.ending;
      given = record {
        some = some_runs c.deref.result.now (omega (arith, count, c.requires.given));
        blocks = λ r there.
            let among = subst (λ (xs : List Run). Contains xs r) c.deref.ensures.value there in
            let some = runs_some c.in_ok-runs.ensures.ok c.in_ok-runs.ensures.leave c.take.ensures.sound_before below r among in
            let start = run_starts c.in_ok-runs.ensures.ok c.in_ok-runs.ensures.leave c.take.ensures.sound_before below r among in
            let few = c.take.ensures.sound_before.layout.areas.blocks_to in
            (some, omega (arith, start, few));
        count = count;
      };
    }

pub give_all-requires-clause-can : goal.give_all-requires-clause-can
give_all-requires-clause-can c =
    let below = subst (λ (s : Super). c.args.cpu < s.cpus) (sym c.in-Ok.ensures.lists.sup) c.requires.cpu_below in
    subst (CanGive c.prepare_entries.new.free) (sym c.deref-in-Err.ensures.value) (can_give_back c.in_ok-runs.ensures.ok c.in_ok-runs.ensures.leave c.take.ensures.sound_before below c.in-Err.ensures.unchanged)

pub give_all-requires-clause-room : goal.give_all-requires-clause-room
give_all-requires-clause-room c =
    let below = subst (λ (s : Super). c.args.cpu < s.cpus) (sym c.in-Ok.ensures.lists.sup) c.requires.cpu_below in
    let few = runs_few c.in_ok-runs.runs.items (runs_some c.in_ok-runs.ensures.ok c.in_ok-runs.ensures.leave c.take.ensures.sound_before below) in
    let count = ap (λ (xs : List Run). length xs) c.deref-in-Err.ensures.value in
    let kept = c.in_ok-runs.ensures.ok.room in
    let total = c.in_ok-runs.ensures.leave.blocks in
    omega (arith, few, count, kept, total, c.blocks-3.ensures, c.in-Ok.ensures.room, c.prepare_entries.ensures.room)

pub returns-in-Ok-prepare_entries-clause-enough : goal.returns-in-Ok-prepare_entries-clause-enough
returns-in-Ok-prepare_entries-clause-enough c =
    let plan = c.args.plan.now in
    let pools = c.in-Ok.ensures.lists.pools in
    let below = subst (λ (s : Super). c.args.cpu < s.cpus) (sym c.in-Ok.ensures.lists.sup) c.requires.cpu_below in
    let inside = subst (λ (ps : List (List Run)). c.args.cpu < length ps) pools (let count = c.take.ensures.sound_before.count in omega (arith, count, below)) in
    let takes = subst (λ (n : ℕ). Takes c.args.free.now.pools c.args.cpu n c.in_ok-runs.runs.items c.take.new.self.pools) c.blocks-3.ensures (subst (λ (ps : List (List Run)). Takes ps c.args.cpu c.blocks-3.result c.in_ok-runs.runs.items c.take.new.self.pools) pools c.in_ok-runs.ensures.ok.takes) in
    enough_blocks c.args.free.now.pools c.args.cpu c.args.row.now.tail plan c.in_ok-runs.runs.items c.take.new.self.pools inside takes
    (subst (λ (xs : List Run). needed (c.args.row.now.tail % 4096) (data_entries plan xs) ≤ all_blocks c.take.new.self.pools) c.deref.ensures.value c.in-Ok-prepare_entries.ensures.enough)

pub returns-in-Err-clause-refused : goal.returns-in-Err-clause-refused
returns-in-Err-clause-refused c no_space =
    let plan = c.args.plan.now in
    let pools = c.in-Ok.ensures.lists.pools in
    let below = subst (λ (s : Super). c.args.cpu < s.cpus) (sym c.in-Ok.ensures.lists.sup) c.requires.cpu_below in
    let inside = subst (λ (ps : List (List Run)). c.args.cpu < length ps) pools (let count = c.take.ensures.sound_before.count in omega (arith, count, below)) in
    let takes = subst (λ (n : ℕ). Takes c.args.free.now.pools c.args.cpu n c.in_ok-runs.runs.items c.take.new.self.pools) c.blocks-3.ensures (subst (λ (ps : List (List Run)). Takes ps c.args.cpu c.blocks-3.result c.in_ok-runs.runs.items c.take.new.self.pools) pools c.in_ok-runs.ensures.ok.takes) in
    too_much_log c.args.free.now.pools c.args.cpu c.args.row.now.tail plan c.in_ok-runs.runs.items c.take.new.self.pools inside takes
    (subst (λ (xs : List Run). all_blocks c.take.new.self.pools < needed (c.args.row.now.tail % 4096) (data_entries plan xs)) c.deref.ensures.value (c.in-Err.ensures.refused no_space))

pub returns-in-Err-clause-unchanged : goal.returns-in-Err-clause-unchanged
returns-in-Err-clause-unchanged c =
    let below = subst (λ (s : Super). c.args.cpu < s.cpus) (sym c.in-Ok.ensures.lists.sup) c.requires.cpu_below in
    let back = all_given_back c.in_ok-runs.ensures.ok c.in_ok-runs.ensures.leave c.take.ensures.sound_before below c.in-Err.ensures.unchanged c.give_all.new.free (subst (λ (xs : List Run). JoinAll c.prepare_entries.new.free xs c.give_all.new.free) c.deref-in-Err.ensures.value c.give_all.ensures.given) in
    record { sup = back.sup ∙ c.in-Ok.ensures.lists.sup; pools = back.pools ∙ c.in-Ok.ensures.lists.pools }
