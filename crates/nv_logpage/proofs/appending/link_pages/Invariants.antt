use Rattle.std.proofs.Common.{◌≡◌, ◌∷◌, get_or, false}
use Rattle.nv_region.specs.Fuses.{KeepsFuse}
use Rattle.nv_region.specs.Stored.{StoresOnly}
use Rattle.nv_region.specs.Region.{size}
use Rattle.nv_logpage.specs.Append.{EndBy, Linked}
use Rattle.nv_logpage.specs.Writing.{LinkWords}
use Rattle.nv_logpage.proofs.appending.link_pages.Given as goal

abbrev pub invariant-loop-k : goal.invariant-loop-k
invariant-loop-k g l = record {
  page : l.page ≡ get_or (l.first ∷ l.fresh) l.k 0;
  linked : Linked (g.P.Pmem.region l.memory) (l.first ∷ l.fresh) l.k;
  wrote : StoresOnly (LinkWords (l.first ∷ l.fresh) l.count) (g.P.Pmem.region l.fn.memory) (g.P.Pmem.region l.memory) (g.P.Pmem.may_hold l.fn.memory) (g.P.Pmem.may_hold l.memory);
  len : size (g.P.Pmem.region l.memory) ≡ size (g.P.Pmem.region l.fn.memory);
  nothing : l.k ≡ 0 → l.memory ≡ l.fn.memory;
  quiet : (g.P.Pmem.fuse l.fn.memory).has_burnt ≡ false → (g.P.Pmem.fuse l.memory).has_burnt ≡ false;
  keeps_fuse : KeepsFuse (λ limit. EndBy (l.first ∷ l.fresh) limit) (g.P.Pmem.fuse l.fn.memory) (g.P.Pmem.fuse l.memory);
}
