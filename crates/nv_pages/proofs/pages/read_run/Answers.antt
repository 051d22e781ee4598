use Rattle.std.proofs.Common.{◌≡◌, ◌∙◌, ◌*◌, ◌++◌, ℕ, List, ap, arith, drop, length, length-take, map, take}
use Rattle.std.specs.List.{range_with_len}
use Rattle.nv_region.specs.Region.{region_of}
use Rattle.nv_bytes.specs.Bytes.{file_byte}
use Rattle.nv_pages.proofs.Paged.{run_given, run_inside, small_front}
use Rattle.nv_pages.proofs.pages.read_run.Goals as goal

pub returns-in_err-read-clause-known : goal.returns-in_err-read-clause-known
returns-in_err-read-clause-known g c image known inside =
    let run = c.run_length-count.result in
    let count : ℕ = 4096 * run in
    let long : length (take count c.args.buffer.now) ≡ count = simp length-take (omega (arith, c.run_length-count.ensures.few, c.requires.whole)) in
    let within = run_inside image c.args.index.now c.args.page c.args.block run inside c.run_length-count.ensures.some c.run_length-count.ensures.run in
    absurd (let never = c.in_err-read.ensures.known image known (omega (arith, long, within)) in cc)

pub returns-clause-filled : goal.returns-clause-filled
returns-clause-filled g c image known =
    let run = c.run_length-count.result in
    let count : ℕ = 4096 * run in
    let given = c.read.new.into in
    let f = file_byte (region_of image) c.args.index.now in
    let room : length (take count c.args.buffer.now) ≡ count = simp length-take (omega (arith, c.run_length-count.ensures.few, c.requires.whole)) in
    let long : length given ≡ count = c.read.auto.into ∙ room in
    let small = small_front given (drop count c.args.buffer.now) (λ i. omega (arith, (c.type_inv.buffer i).fits)) in
    ap (λ (l : List ℕ). l ++ drop count c.args.buffer.now)
    (run_given image given c.args.block (c.in_ok-read.ensures.read image known) (omega (arith, long)) small c.args.index.now c.args.page (λ k low. c.run_length-count.ensures.run k (omega (arith, low, long)))
    ∙ ap (λ (n : ℕ). map f (range_with_len (4096 * c.args.page) n)) long)
