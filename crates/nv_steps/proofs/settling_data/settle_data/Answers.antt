use Rattle.std.proofs.Common.{ℕ, List, ◌++◌, ◌∙◌, ap, length, sym, subst}
use Rattle.smallvec.specs.SmallVec.{HasRoomFor}
use Rattle.nv_alloc.specs.Taking.{Disjoint}
use Rattle.nv_entry.specs.declared.entry.Entry.{Entry}
use Rattle.nv_radix.specs.Pages.{Pages}
use Rattle.nv_scan.specs.declared.numbers.Numbers.{Numbers}
use Rattle.nv_steps.specs.Written.{AreSettled, MapsEntries, entry_pages}
use Rattle.nv_steps.proofs.settling_data.settle_data.Goals as goal

pub map_pages-requires-clause-ready : goal.map_pages-requires-clause-ready
map_pages-requires-clause-ready c =
    subst (λ (m : Pages). AreSettled m c.deref-2.result.now) (sym c.settle_log.ensures.index) (subst (λ (xs : List Entry). AreSettled c.args.row.now.index xs) (sym c.deref-2.ensures.value) c.requires.ready)

pub settle_log-requires : goal.settle_log-requires
settle_log-requires c = subst (λ (bs : List ℕ). HasRoomFor c.args.row.now.pages (length bs)) (sym c.deref.ensures.value) c.requires.room

pub map_pages-requires-clause-once : goal.map_pages-requires-clause-once
map_pages-requires-clause-once c = subst (λ (xs : List Entry). Disjoint (entry_pages xs)) (sym c.deref-2.ensures.value) c.requires.once

pub returns : goal.returns
returns c =
    let grown = c.settle_log.ensures in
    record {
      inode = grown.inode;
      kind = grown.kind;
      numbers = ap (λ (n : Numbers). record n { size = c.args.plan.now.size; time = c.args.plan.now.time }) grown.numbers;
      head = grown.head;
      tail = grown.tail;
      pages = grown.pages ∙ ap (λ (bs : List ℕ). c.args.row.now.pages.items ++ bs) c.deref.ensures.value;
      index = subst (λ (m : Pages). MapsEntries m c.args.log.now.entries.items c.map_pages.new.index) grown.index (subst (λ (xs : List Entry). MapsEntries c.settle_log.new.row.index xs c.map_pages.new.index) c.deref-2.ensures.value c.map_pages.ensures);
      names = grown.names;
    }
