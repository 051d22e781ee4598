use Rattle.std.proofs.Common.{drop}
use Rattle.nv_alloc.specs.Taking.{Disjoint}
use Rattle.nv_radix.specs.Pages.{Pages}
use Rattle.nv_steps.specs.Written.{AreSettled, MapsEntries, entry_pages}
use Rattle.nv_steps.proofs.settling_data.map_pages.Given as goal

-- What is mapped now and what the other entries map is what all of them map.
abbrev pub invariant-loop-entry : goal.invariant-loop-entry
invariant-loop-entry l = ((final : Pages) → MapsEntries l.index (drop l.entry-index l.entries) final → MapsEntries l.initial.index l.entries final) × AreSettled l.index (drop l.entry-index l.entries) × Disjoint (entry_pages (drop l.entry-index l.entries))
