use Rattle.std.proofs.Common.{◌≡◌, ◌+◌, ◌-◌, length, get_or, ap, sym, ◌∙◌, arith}
use Rattle.std.proofs.lemmas.Bool.{false≢true}
use Rattle.std.proofs.lemmas.List.{get_or_default}
use Rattle.nv_radix.specs.declared.extent.Extent.{Extent}
use Rattle.nv_radix.proofs.ExtentLemmas.{AreExtents-set_last, AreExtents-push}
use Rattle.nv_radix.proofs.extents.add_run.Goals as goal
use Rattle.nv_radix.proofs.extents.add_run.Goals.{then-len-gt0+else-is_followed_by, else-len-gt0}

pub returns-then-is_followed_by : goal.returns-then-is_followed_by
returns-then-is_followed_by c =
    let follows = c.is_followed_by.ensures.0 c.if-is_followed_by.true in
    let size : length c.args.extents.now.items ≡ c.len-len.result - 1 + 1 = omega (arith, c.args.extents.now.ok.0, c.len-len.ensures) in
    let same : c.index_mut.result.now ≡ c.index.result.now = c.index_mut.ensures.value ∙ get_or_default c.args.extents.now.items (c.len-len.result - 1) c.index_mut.result.now c.index.result.now (omega (arith, size)) ∙ sym c.index.ensures in
    λ m n h a. AreExtents-set_last m n c.args.run h c.args.extents.now.items (c.len-len.result - 1) c.index.result.now _ a size c.index.ensures follows.0 follows.1
    (ap (λ (e : Extent). e.page) same) (ap (λ (e : Extent). e.block) same) (ap (λ (e : Extent). e.count + c.args.run.count) same)

pub returns : goal.returns
returns c =
    let extents = c.args.extents.now.items in
    let size : length extents ≡ c.len-len.result = omega (arith, c.args.extents.now.ok.0, c.len-len.ensures) in
    λ m n h a. rw c.in_ok-push.ensures.items (AreExtents-push m n c.args.run h extents c.requires.some a (elim c.if-len-gt0.branch [
      | then-len-gt0+else-is_followed_by w ↦ λ d l page block.
          let same : get_or extents (length extents - 1) d ≡ w.index.result.now = ap (λ k. get_or extents (k - 1) d) size ∙ get_or_default extents (c.len-len.result - 1) d w.index.result.now (omega (arith, size, l)) ∙ sym w.index.ensures in
          let pages = rw same at page in
          let blocks = rw same at block in
          false≢true (sym w.if-is_followed_by.false ∙ w.is_followed_by.ensures.1 (pages, blocks))
      | else-len-gt0 w ↦ λ d l page block. absurd (omega (arith, l, size, w.if-len-gt0.false))
    ]))
