use Rattle.std.proofs.Common.{◌≡◌, ◌∷◌, ◌/◌, ◌<◌, false}
use Rattle.nv_region.specs.Fuses.{KeepsFuse}
use Rattle.nv_logpage.specs.Append.{EndBy}
use Rattle.nv_logpage.proofs.Writing.{Writing}
use Rattle.nv_logpage.proofs.appending.write_entries.Given as goal

abbrev pub invariant-loop-entry : goal.invariant-loop-entry
invariant-loop-entry g l = record {
  writing : Writing (g.P.Pmem.region l.fn.memory) (g.P.Pmem.region l.memory) (g.P.Pmem.may_hold l.fn.memory) (g.P.Pmem.may_hold l.memory) l.tail l.entries l.fresh l.entry-index l.used l.place;
  nothing : l.entry-index ≡ 0 → l.memory ≡ l.fn.memory;
  quiet : 0 < l.entry-index → (g.P.Pmem.fuse l.memory).has_burnt ≡ false;
  keeps_fuse : KeepsFuse (λ limit. EndBy (l.tail / 4096 ∷ l.fresh) limit) (g.P.Pmem.fuse l.fn.memory) (g.P.Pmem.fuse l.memory);
}
