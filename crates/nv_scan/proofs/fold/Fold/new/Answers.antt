use Rattle.std.proofs.Common.{refl}
use Rattle.nv_scan.proofs.EntryFaults.{found-none}
use Rattle.nv_scan.proofs.fold.Fold.new.Goals as goal

pub returns : goal.returns
returns c = λ s kind i. record {
  numbers = record { size = rw c.new.ensures refl; mode = rw c.new.ensures refl; owner = rw c.new.ensures refl; group = rw c.new.ensures refl; links = rw c.new.ensures refl; time = rw c.new.ensures refl };
  extents = c.new-2.ensures;
  names = c.new-3.ensures.empty;
  found = rw c.new-4.ensures.items (found-none s kind i);
  once = λ apart. rw c.new-4.ensures.items tt;
}
