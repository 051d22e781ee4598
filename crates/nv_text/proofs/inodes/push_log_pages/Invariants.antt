use Rattle.std.proofs.Common.{◌≡◌, ◌++◌, take, flat_map, string_bytes, codes, decimal}
use Rattle.nv_text.proofs.inodes.push_log_pages.Given as goal

abbrev pub invariant-loop-page : goal.invariant-loop-page
invariant-loop-page l = string_bytes l.out ≡ string_bytes l.fn.out ++ flat_map (λ page. codes " " ++ decimal page) (take l.page-index l.pages)
