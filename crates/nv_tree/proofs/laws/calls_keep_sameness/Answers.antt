use Rattle.nv_tree.proofs.Kept.{created_kept, written_kept, resized_kept, attributed_kept, linked_kept, unlinked_kept, removed_kept, renamed_kept}
use Rattle.nv_tree.proofs.laws.calls_keep_sameness.Goals as goal

pub returns : goal.returns
returns c = record {
  created = created_kept;
  written = written_kept;
  resized = resized_kept;
  attributed = attributed_kept;
  linked = linked_kept;
  unlinked = unlinked_kept;
  removed = removed_kept;
  renamed = renamed_kept;
}
