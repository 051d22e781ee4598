use Rattle.std.proofs.Common.{◌≡◌, ◌∙◌, ◌++◌, ℕ, List, None, ap, arith, drop, length, length-take, replicate, sym, take}
use Rattle.nv_region.specs.Region.{region_of}
use Rattle.nv_radix.specs.Pages.{block_at}
use Rattle.nv_pages.proofs.Paged.{hole}
use Rattle.nv_pages.proofs.pages.fill_run.Goals as goal

pub slice_bounds-fill-end-in-None : goal.slice_bounds-fill-end-in-None
slice_bounds-fill-end-in-None g c = let long : length (take 4096 c.args.buffer.now) ≡ 4096 = simp length-take (omega (arith, c.requires.some, c.requires.whole)) in sym long

pub returns-in-None-clause-filled : goal.returns-in-None-clause-filled
returns-in-None-clause-filled g c image known =
    let long : length (take 4096 c.args.buffer.now) ≡ 4096 = simp length-take (omega (arith, c.requires.some, c.requires.whole)) in
    let none : block_at c.args.index.now c.args.page ≡ None = sym c.get.ensures ∙ c.in-None.is in
    ap (λ (l : List ℕ). l ++ drop 4096 c.args.buffer.now)
    (c.fill.ensures.after (λ y h. h) ∙ ap (λ (n : ℕ). replicate n 0) long ∙ sym (hole (region_of image) c.args.index.now c.args.page none))
