use Rattle.nv_deadpages.proofs.changes.stamps_of.Goals as goal

pub returns : goal.returns
returns g c = record {
  map = c.stamp_pages.new.stamps;
  pages = c.stamp_pages.new.reader.pages;
  fault = c.in_ok-_fault._fault;
  of = c.in_ok-_fault.ensures;
  same = c.in_ok-fill_index.ensures.index;
}
