use Rattle.std.proofs.Common.{◌≡◌, ◌∙◌, ◌*◌, ◌/◌, ℕ, ap, arith, drop, length, map, take}
use Rattle.std.specs.List.{range_with_len}
use Rattle.std.proofs.lemmas.List.{take_at}
use Rattle.std.proofs.lemmas.List.FromFn.{take-map-range_with_len}
use Rattle.nv_region.specs.Region.{region_of}
use Rattle.nv_bytes.specs.Bytes.{file_byte}
use Rattle.nv_pages.proofs.pages.bytes_of_pages.Goals as goal

pub returns-clause-read : goal.returns-clause-read
returns-clause-read g c image known =
    let f = file_byte (region_of image) c.args.index.now in
    let count = c.args.count in
    let pages = c.fill_pages.new.buffer in
    let bytes = c.in_ok-bytes.bytes in
    let place : 4096 * (c.args.at / 4096) ≡ c.args.at = omega (arith, c.requires.page) in
    let as_long : length pages ≡ bytes.len = c.fill_pages.auto.buffer ∙ c.deref_mut.ensures.len in
    c.truncate.ensures.items ∙ ap (take count) (take_at pages (drop (length pages) bytes.items) bytes.len as_long ∙ c.in_ok-fill_pages.ensures.filled image known)
    ∙ take-map-range_with_len f (4096 * (c.args.at / 4096)) _ count (omega (arith, c.div_ceil-pages.ensures, c.in_ok-bytes.ensures.len, c.deref_mut.ensures.len))
    ∙ ap (λ (a : ℕ). map f (range_with_len a count)) place
