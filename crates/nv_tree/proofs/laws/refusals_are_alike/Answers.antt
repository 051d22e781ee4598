use Rattle.nv_tree.proofs.Tested.{create_alike, write_alike, set_size_alike, set_attr_alike, link_alike, unlink_alike, rmdir_alike, rename_alike}
use Rattle.nv_tree.proofs.laws.refusals_are_alike.Goals as goal

pub returns : goal.returns
returns c = record {
  create = create_alike;
  write = write_alike;
  set_size = set_size_alike;
  set_attr = set_attr_alike;
  link = link_alike;
  unlink = unlink_alike;
  rmdir = rmdir_alike;
  rename = rename_alike;
}
