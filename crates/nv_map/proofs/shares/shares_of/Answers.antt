use Rattle.std.proofs.Common.{◌≡◌, ℕ, ◌+◌, ◌*◌, ◌++◌, List, [], ◌∷◌, min, length, map, drop, sym, ap, ◌∙◌, arith, length-drop}
use Rattle.std.specs.List.{range_with_len}
use Rattle.std.specs.Slice.Iter.{chunks_rest}
use Rattle.nv_map.specs.declared.shares.Share.{Share}
use Rattle.nv_map.specs.Shares.{share_at, share_of}
use Rattle.nv_map.proofs.Shared.{one_share_more, blocks_behind, next_start, all_counted}
use Rattle.nv_map.proofs.shares.shares_of.Goals as goal

pub share_of-requires-clause-small : goal.share_of-requires-clause-small
share_of-requires-clause-small c =
    let (next, finite, size, k, rest, below, first, shares) = c.loop-chunk.invariant in
    omega (arith, below, first, c.requires.small, c.requires.few)

pub loop-chunk-preserved : goal.loop-chunk-preserved
loop-chunk-preserved c =
    let each = c.args.each in
    let uses = c.args.uses.now in
    let chunk = c.in-Some.chunk.now in
    let steps = c.in-Some.ensures.steps in
    let (next, finite, size, k, rest, below, first, shares) = c.loop-chunk.invariant in
    let left = chunks_rest c.next.new.self in
    let parts : drop (each * k) uses ≡ chunk ++ left = sym rest ∙ steps.1.0 in
    let long : length chunk ≡ min each (length (drop (each * k) uses)) = rw (sym rest, sym size) steps.1.1 in
    let more = length-drop (each * k) uses in
    let start = next_start each k in
    let before = c.loop-chunk.shares.items in (
      omega (arith, steps.0, size, c.requires.some),
      tt,
      steps.0 ∙ size,
      k + 1,
      sym (blocks_behind each uses chunk left k parts long),
      omega (arith, more, ap length rest, steps.1.2, start),
      ap (λ (n : ℕ). n + each) first ∙ sym start,
      c.in_ok-push.ensures.items ∙ ap (λ (s : Share). before ++ s ∷ []) c.share_of.ensures
          ∙ ap (λ (n : ℕ). before ++ share_of n chunk ∷ []) first
          ∙ ap (λ (made : List Share). made ++ share_of (each * k) chunk ∷ []) shares
          ∙ sym (one_share_more each uses chunk left k parts long),
    )

pub returns : goal.returns
returns c =
    let (next, finite, size, k, rest, below, first, shares) = c.loop-chunk.invariant in
    let none : length (drop (c.args.each * k) c.args.uses.now) ≡ 0 = rw rest at c.in-None.ensures.steps.1.0 in
    shares ∙ ap (λ (n : ℕ). map (share_at c.args.each c.args.uses.now) (range_with_len 0 n)) (all_counted c.args.each k c.args.uses.now c.requires.some below none)
