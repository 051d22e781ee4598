use Rattle.std.proofs.lemmas.Grind.{common_steps}
use Rattle.std.proofs.Common.{arith, refl}
use Rattle.nv_region.proofs.Fuses.{keeps_within}
use Rattle.nv_mounted.proofs.BytesKept.{mixed_size}
use Rattle.nv_steps.proofs.GrownTable.{fresh, in_data, owed_aligned, owed_apart, owed_behind, told_grows, told_left, told_stores}
use Rattle.nv_steps.proofs.tables.link_table.Goals as goal

pub last_link-link-requires : goal.last_link-link-requires
last_link-link-requires g c = let can = c.requires.can.2 in can.cpu_below

pub link_block-requires-clause-aligned : goal.link_block-requires-clause-aligned
link_block-requires-clause-aligned g c = owed_aligned c.are_laid.ensures c.requires.can.2 c.requires.can.3 c.last_link-link.result c.last_link-link.ensures.value

pub link_block-requires-clause-within : goal.link_block-requires-clause-within
link_block-requires-clause-within g c = (owed_behind c.are_laid.ensures c.requires.can.2 c.requires.can.3 c.last_link-link.result c.last_link-link.ensures.value _ (omega arith)).0

pub link_block-requires-clause-block : goal.link_block-requires-clause-block
link_block-requires-clause-block g c = (owed_behind c.are_laid.ensures c.requires.can.2 c.requires.can.3 c.last_link-link.result c.last_link-link.ensures.value _ (omega arith)).1

pub link_block-requires-clause-apart : goal.link_block-requires-clause-apart
link_block-requires-clause-apart g c = owed_apart c.are_laid.ensures c.requires.can.2 c.requires.can.3 c.last_link-link.result c.last_link-link.ensures.value

pub push_block-requires-clause-version : goal.push_block-requires-clause-version
push_block-requires-clause-version g c = let can = c.requires.can.2 in can.version

pub push_block-requires-clause-cpu : goal.push_block-requires-clause-cpu
push_block-requires-clause-cpu g c = let can = c.requires.can.2 in can.cpu_below

pub push_block-requires-clause-from : goal.push_block-requires-clause-from
push_block-requires-clause-from g c = (in_data c.are_laid.ensures c.requires.can.2 c.requires.can.3).0

pub push_block-requires-clause-to : goal.push_block-requires-clause-to
push_block-requires-clause-to g c = (in_data c.are_laid.ensures c.requires.can.2 c.requires.can.3).1

pub push_block-requires-clause-fresh : goal.push_block-requires-clause-fresh
push_block-requires-clause-fresh g c = fresh c.are_laid.ensures c.requires.can.2 c.requires.can.3

pub push_block-requires-clause-room : goal.push_block-requires-clause-room
push_block-requires-clause-room g c = c.requires.room

pub returns-in_default-clause-grown : goal.returns-in_default-clause-grown
returns-in_default-clause-grown g c free after can taken = tt

pub returns-in_default-clause-layout : goal.returns-in_default-clause-layout
returns-in_default-clause-layout g c = tt

pub returns-in_default-clause-tables : goal.returns-in_default-clause-tables
returns-in_default-clause-tables g c = refl

pub returns-in_default-clause-faults : goal.returns-in_default-clause-faults
returns-in_default-clause-faults g c = refl

pub returns-in_default-clause-stopped : goal.returns-in_default-clause-stopped
returns-in_default-clause-stopped g c = refl

pub returns-in_default-clause-kept : goal.returns-in_default-clause-kept
returns-in_default-clause-kept g c free after lists =
    record {
      keeps = record {
        stopped = grind (arith, common_steps);
        lists = lists;
        length = mixed_size c.link_block.ensures.kept.wrote.mixed;
        keeps_fuse = keeps_within (owed_behind c.are_laid.ensures c.requires.can.2 c.requires.can.3 c.last_link-link.result c.last_link-link.ensures.value) c.link_block.ensures.kept.keeps_fuse;
      };
      settled = tt;
    }

pub returns-in_default-clause-wrote : goal.returns-in_default-clause-wrote
returns-in_default-clause-wrote g c free after can taken held shows = told_stores c.are_laid.ensures can taken c.last_link-link.result c.last_link-link.ensures.value shows (g.P.Pmem.region c.link_block.new.memory) c.link_block.ensures.kept.wrote.mixed

pub returns-in_default-clause-any_stop : goal.returns-in_default-clause-any_stop
returns-in_default-clause-any_stop g c free after can taken held shows settled =
    told_left c.are_laid.ensures can taken c.last_link-link.result c.last_link-link.ensures.value shows (g.P.Pmem.region c.link_block.new.memory) _ _ c.link_block.ensures.kept.wrote settled (c.link_block.ensures.any_stop settled)

pub returns-clause-grown : goal.returns-clause-grown
returns-clause-grown g c free after can taken =
    told_grows c.are_laid.ensures can taken c.last_link-link.result c.last_link-link.ensures.value (g.P.Pmem.region c.link_block.new.memory) c.link_block.ensures.kept.wrote.mixed c.in-Ok.ensures.linked _ c.push_block.ensures.layout _ refl

pub returns-clause-layout : goal.returns-clause-layout
returns-clause-layout g c = c.push_block.ensures.layout

pub returns-clause-tables : goal.returns-clause-tables
returns-clause-tables g c = tt

pub returns-clause-faults : goal.returns-clause-faults
returns-clause-faults g c = c.push_block.ensures.faults

pub returns-clause-stopped : goal.returns-clause-stopped
returns-clause-stopped g c = tt

pub returns-clause-kept : goal.returns-clause-kept
returns-clause-kept g c free after lists =
    record {
      keeps = record {
        stopped = tt;
        lists = lists;
        length = mixed_size c.link_block.ensures.kept.wrote.mixed;
        keeps_fuse = keeps_within (owed_behind c.are_laid.ensures c.requires.can.2 c.requires.can.3 c.last_link-link.result c.last_link-link.ensures.value) c.link_block.ensures.kept.keeps_fuse;
      };
      settled = c.in-Ok.ensures.kept.settled;
    }

pub returns-clause-wrote : goal.returns-clause-wrote
returns-clause-wrote g c free after can taken held shows = told_stores c.are_laid.ensures can taken c.last_link-link.result c.last_link-link.ensures.value shows (g.P.Pmem.region c.link_block.new.memory) c.link_block.ensures.kept.wrote.mixed

pub returns-clause-any_stop : goal.returns-clause-any_stop
returns-clause-any_stop g c free after can taken held shows settled =
    told_left c.are_laid.ensures can taken c.last_link-link.result c.last_link-link.ensures.value shows (g.P.Pmem.region c.link_block.new.memory) _ _ c.link_block.ensures.kept.wrote settled (c.link_block.ensures.any_stop settled)
