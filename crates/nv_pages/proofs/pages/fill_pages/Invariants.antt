use Rattle.std.proofs.Common.{◌≡◌, ◌-◌, ◌≤◌, ◌*◌, ◌%◌, ℕ, List, Some, length, map, take}
use Rattle.std.specs.List.{range_with_len}
use Rattle.nv_region.specs.Region.{region_of}
use Rattle.nv_bytes.specs.Bytes.{file_byte}
use Rattle.nv_pages.proofs.pages.fill_pages.Given as goal

abbrev pub decreases-loop-done : goal.decreases-loop-done
decreases-loop-done g l = length l.buffer - l.done

abbrev pub invariant-loop-done : goal.invariant-loop-done
invariant-loop-done g l = record {
  within : l.done ≤ length l.buffer;
  page : l.done % 4096 ≡ 0;
  as_long : length l.buffer ≡ length l.fn.buffer;
  filled : (image : List ℕ) → g.B.Blocks.bytes l.source ≡ Some image → take l.done l.buffer ≡ map (file_byte (region_of image) l.index) (range_with_len (4096 * l.first) l.done);
}
